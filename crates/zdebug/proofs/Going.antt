-- Steps of reading, one behind another.
use Rattle.std.proofs.Common.{◌≡◌, Result, Ok, ap, sym, subst}
use Rattle.zdebug.specs.declared.error.DebugError.{DebugError}
use Rattle.zdebug.specs.declared.error.DebugError.TheVariants as errors
use Rattle.zdebug.specs.Steps.{◌>>=◌, Refuses, Answers, Leads}

-- what is refused is refused with all that follows
pub refused_on : {A B : Type 0} (e : DebugError) (due : Result A DebugError) (f : A → Result B DebugError) → Refuses e due → Refuses e (due >>= f)
refused_on errors.TooLong due f h = ap (λ r. r >>= f) h
refused_on errors.NotDebug due f h = ap (λ r. r >>= f) h
refused_on errors.Version due f h = ap (λ r. r >>= f) h
refused_on errors.Tag due f h = ap (λ r. r >>= f) h
refused_on errors.Misplaced due f h = ap (λ r. r >>= f) h
refused_on errors.Unclosed due f h = ap (λ r. r >>= f) h
refused_on errors.NotNumber due f h = ap (λ r. r >>= f) h
refused_on errors.Entity due f h = ap (λ r. r >>= f) h
refused_on errors.Incomplete due f h = ap (λ r. r >>= f) h
refused_on errors.OutOfMemory due f h = tt

-- the same of another answer that is due
pub refused_same : {A : Type 0} (e : DebugError) (due other : Result A DebugError) → due ≡ other → Refuses e other → Refuses e due
refused_same {A} e due other h r = subst (λ (x : Result A DebugError). Refuses e x) (sym h) r

pub led_same : {A U : Type 0} (new : A) (result : Result U DebugError) (due other : Result A DebugError) → due ≡ other → Leads new result other → Leads new result due
led_same {A} new result due other h r = subst (λ (x : Result A DebugError). Leads new result x) (sym h) r

pub answered_same : {X A : Type 0} (view : X → A) (result : Result X DebugError) (due other : Result A DebugError) → due ≡ other → Answers view result other → Answers view result due
answered_same {X} {A} view result due other h r = subst (λ (x : Result A DebugError). Answers view result x) (sym h) r

-- what follows a step that went well
pub then_answered : {A B X : Type 0} (view : X → B) (result : Result X DebugError) (due : Result A DebugError) (x : A) (f : A → Result B DebugError) → due ≡ Ok x → Answers view result (f x) → Answers view result (due >>= f)
then_answered {A} view result due x f h r = subst (λ (d : Result A DebugError). Answers view result (d >>= f)) (sym h) r
