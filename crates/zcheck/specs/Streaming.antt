-- A story that is checked with a certificate that comes in pieces (own).
use Rattle.std.specs.Prelude.{◌≡◌, ℕ, List, Ok}
use Rattle.zstory.specs.LoadedStory.{LoadedStory}
use Rattle.zdomain.specs.Domain.{SetOperations}
use Rattle.zcert.specs.Certificate.{Certificate}
use Rattle.zcert.specs.Format.{Format}
use Rattle.zcert.specs.Reading.{reading}
use Rattle.zcert.specs.Streaming.{Stream, IsUnread}
use Rattle.zcheck.specs.declared.refusal.Refusal.{Refusal}
use Rattle.zcheck.specs.declared.refusal.StreamRefusal.{StreamRefusal}
use Rattle.zcheck.specs.declared.refusal.StreamRefusal.TheVariants.{Cert, Check}
use Rattle.zcheck.specs.Passes.{IsRefused}

-- a story, and what is kept of the bytes of its certificate that came
pub record Checking (V : Type 0) : Type 0 where
  pub story : LoadedStory
  pub stream : Stream V

module _ {V : Type 0} (o : SetOperations V) (format : Format V) where
  -- the bytes spell a certificate that the checker refuses so
  pub record SpellsRefused (story : LoadedStory) (bytes : List ℕ) (refusal : Refusal) : Type 0 where
    pub certificate : Certificate V
    pub read : reading format bytes ≡ Ok certificate
    pub refused : IsRefused o story certificate refusal

  -- why a story isn't accepted with the certificate that bytes spell: they aren't read as one, or the checker refuses it
  abbrev pub IsRefusedWith : LoadedStory → List ℕ → StreamRefusal → Type 0
  IsRefusedWith story bytes (Cert error) = IsUnread format bytes error
  IsRefusedWith story bytes (Check refusal) = SpellsRefused story bytes refusal
