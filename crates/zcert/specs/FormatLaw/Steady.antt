-- Steps of reading that give the same whatever follows, unless they are cut off.
use Rattle.std.proofs.Common.{◌≡◌, ◌≢◌, ℕ, Bool, true, false, List, ◌++◌, Result, Ok, Err, refl, ap, ◌∙◌}
use Rattle.zcert.specs.declared.error.CertError.{CertError}
use Rattle.zcert.specs.declared.error.CertError.TheVariants.{Truncated}
use Rattle.zcert.specs.Steps.{◌>>=◌, need, sized_at}
use Rattle.zcert.specs.FormatLaw.Widths.{same_whatever, sized_width}

-- what a step read, with more bytes behind it
abbrev pub with_more : {A : Type 0} → List ℕ → Result (A × List ℕ) CertError → Result (A × List ℕ) CertError
with_more more r = r >>= λ x. Ok (x.0, x.1 ++ more)

abbrev pub IsSteady : {A : Type 0} → (List ℕ → Result (A × List ℕ) CertError) → Type 0
IsSteady read = (bytes more : List ℕ) → read bytes ≢ Err Truncated → read (bytes ++ more) ≡ with_more more (read bytes)

module _ {A B : Type 0} (next : A → List ℕ → Result (B × List ℕ) CertError) (steady : (x : A) → IsSteady (next x)) (more : List ℕ) where
  abbrev on : Result (A × List ℕ) CertError → Result (B × List ℕ) CertError
  on r = r >>= λ x. next x.0 x.1

  then_by : (longer r : Result (A × List ℕ) CertError) → (r ≢ Err Truncated → longer ≡ with_more more r) → on r ≢ Err Truncated → on longer ≡ with_more more (on r)
  then_by longer (Ok x) first whole = ap on (first (λ e. absurd cc)) ∙ steady x.0 x.1 more whole
  then_by longer (Err d) first whole = ap on (first (λ e. whole (let same : d ≡ Truncated = cc in ap (λ (x : CertError). Err x) same)))

-- a step, and then one that goes by what it read
pub steady_then : {A B : Type 0} (read : List ℕ → Result (A × List ℕ) CertError) (next : A → List ℕ → Result (B × List ℕ) CertError) → IsSteady read → ((x : A) → IsSteady (next x)) → IsSteady (λ bytes. read bytes >>= λ x. next x.0 x.1)
steady_then read next first steady bytes more whole = then_by next steady more (read (bytes ++ more)) (read bytes) (first bytes more) whole

-- a condition, and then a step
pub steady_need : {A : Type 0} (b : Bool) (d : CertError) (next : List ℕ → Result (A × List ℕ) CertError) → IsSteady next → IsSteady (λ bytes. need b d >>= λ _. next bytes)
steady_need true d next steady = steady
steady_need false d next steady = λ bytes more whole. refl

-- what needs no bytes
pub steady_of : {A : Type 0} (o : Result A CertError) → IsSteady (λ bytes. o >>= λ x. Ok (x, bytes))
steady_of (Ok x) = λ bytes more whole. refl
steady_of (Err d) = λ bytes more whole. refl

pub steady_sized : (n : ℕ) → IsSteady (sized_at n)
steady_sized n = same_whatever n (sized_at n) (sized_width n)
