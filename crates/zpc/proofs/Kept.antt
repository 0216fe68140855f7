-- What is kept behind what was written.
use Rattle.std.proofs.Common.{◌≡◌, ◌∙◌, ℕ, List, Option, None, Some}
use Rattle.std.specs.Io.KnownBytes.{Appends, Keeps}

pub appends_kept : (old written flushed : Option (List ℕ)) (bytes : List ℕ) → Appends old written bytes → Keeps written flushed → Appends old flushed bytes
appends_kept None written flushed bytes appends keeps = tt
appends_kept (Some old) None flushed bytes appends keeps = absurd appends
appends_kept (Some old) (Some written) None bytes appends keeps = keeps
appends_kept (Some old) (Some written) (Some flushed) bytes appends keeps = keeps ∙ appends
