-- What is said of a story that is checked with a certificate in pieces, said once more by cases, and of no bytes computed.
use Rattle.std.proofs.Common.{◌≡◌, List, [], Ok, Err, ℕ, refl, sym, ◌∙◌, subst}
use Rattle.zstory.specs.LoadedStory.{LoadedStory}
use Rattle.zdomain.specs.Domain.{SetOperations}
use Rattle.zdomain.specs.Interval.{interval_operations}
use Rattle.zcert.specs.Certificate.{Certificate}
use Rattle.zcert.specs.Fields.{LeadsToPart}
use Rattle.zcert.specs.Format.{Format, interval_format}
use Rattle.zcert.specs.Reading.{reading, heading_at, magic_at}
use Rattle.zcert.specs.declared.error.CertError.TheVariants as errors
use Rattle.zcheck.specs.declared.refusal.Refusal.{Refusal}
use Rattle.zcheck.specs.declared.refusal.Refusal.TheVariants as refusals
use Rattle.zcheck.specs.declared.refusal.StreamRefusal.TheVariants.{Cert, Check}
use Rattle.zcheck.specs.Passes.{IsRefused, Passes}
use Rattle.zcheck.specs.Streaming.{IsRefusedWith}

module _ {V : Type 0} (o : SetOperations V) (format : Format V) (story : LoadedStory) (bytes : List ℕ) where
  -- of bytes that spell a certificate, it is just what the checker refuses that one for
  as_checked : (c : Certificate V) → reading format bytes ≡ Ok c → (refusal : Refusal) → (IsRefusedWith o format story bytes (Check refusal) → IsRefused o story c refusal) × (IsRefused o story c refusal → IsRefusedWith o format story bytes (Check refusal))
  as_checked c read refusal = (
    λ found. subst (λ (x : Certificate V). IsRefused o story x refusal) (let same = sym found.read ∙ read in cc) found.refused,
    λ refused. record { certificate = c; read = read; refused = refused },
  )

  -- they aren't cut off, nor does anything follow them; and memory to check it is wanting only where it passes
  none_read : (c : Certificate V) → reading format bytes ≡ Ok c → (IsRefusedWith o format story bytes (Cert errors.Truncated) → ⊥) × (IsRefusedWith o format story bytes (Cert errors.Trailing) → ⊥) × (IsRefusedWith o format story bytes (Check refusals.OutOfMemory) → Passes o story c)
  none_read c read = (λ cut. cc, λ more. cc, λ wanting. (as_checked c read refusals.OutOfMemory).0 wanting)

  -- bytes that are cut off are refused as that alone, and not by the checker
  as_cut : reading format bytes ≡ Err errors.Truncated → IsRefusedWith o format story bytes (Cert errors.Truncated) × (IsRefusedWith o format story bytes (Cert errors.Trailing) → ⊥) × ((refusal : Refusal) → IsRefusedWith o format story bytes (Check refusal) → ⊥)
  as_cut read = (read, λ more. cc, λ refusal found. let spelled = found.read in cc)

  -- memory to read them is wanting only for a part that they have
  as_wanting : (IsRefusedWith o format story bytes (Cert errors.OutOfMemory) → LeadsToPart format bytes) × (LeadsToPart format bytes → IsRefusedWith o format story bytes (Cert errors.OutOfMemory))
  as_wanting = (λ wanting. wanting, λ part. part)

-- with no byte it is cut off
nothing : (story : LoadedStory) → IsRefusedWith interval_operations interval_format story [] (Cert errors.Truncated)
unfolding reading heading_at magic_at
nothing story = refl
