-- No more is noted than steps are made.
use Rattle.std.proofs.Common.{◌≤◌, ℕ, zero, suc, List, [], ◌∷◌, length, Option, Some, None, Result, Ok, Err, arith}
use Rattle.std.specs.Prelude.{ℤ}
use Rattle.std.proofs.lemmas.List.{length-append}
use Rattle.zfault.specs.declared.pause.Pause.TheVariants as pauses
use Rattle.zstate.specs.declared.halt.Halt.{Halt}
use Rattle.zstate.specs.declared.halt.Halt.TheVariants as halts
use Rattle.zstate.specs.declared.halt.Stop.TheVariants as stops
use Rattle.zstate.specs.State.{Setting, State}
use Rattle.zstate.specs.Step.{Done, step}
use Rattle.zstate.specs.Run.{Input, handed, stop_of}
use Rattle.zlenient.specs.declared.front.Front.{Front}
use Rattle.zlenient.specs.Front.{front_after, seen}
use Rattle.zlenient.specs.Step.{lenient_step}
use Rattle.zlenient.specs.Run.{Played, behind, lenient_run, lenient_until, leniently, noted, or_stands, stands}

-- of a step one is noted, or none
one_noted : (r : Result Done Halt) (place : ℤ) → length (noted r place) ≤ 1
one_noted (Ok d) place = omega arith
one_noted (Err (halts.Fault f)) place = omega arith
one_noted (Err (halts.Need need)) place = omega arith
one_noted (Err halts.Quit) place = omega arith
one_noted (Err halts.FrameLimit) place = omega arith

until_few : (m : Setting) (halted : Halt → ℕ → Front → State → Played) → ((h : Halt) (k : ℕ) (f : Front) (t : State) → length (halted h k f t).notes ≤ k) → (n : ℕ) (f : Front) (s : State) → length (lenient_until m halted n f s).notes ≤ n
unfolding lenient_until
until_few m halted few zero f s = by (lenient_step m s)
  where
    by : (r : Result Done Halt) → length (leniently r (λ d. stands (stops.Paused pauses.Budget) s) (λ h. halted h zero f s)).notes ≤ zero
    by (Ok d) = omega arith
    by (Err h) = few h zero f s
until_few m halted few (suc n) f s = by (λ d. until_few m halted few n (front_after m s f) d.state) (lenient_step m s)
  where
    by : ((d : Done) → length (lenient_until m halted n (front_after m s f) d.state).notes ≤ n) → (r : Result Done Halt) → length (leniently r (λ d. behind (noted (step m s) s.place) (seen f d.items) (lenient_until m halted n (front_after m s f) d.state)) (λ h. halted h (suc n) f s)).notes ≤ suc n
    by rest (Ok d) =
        let one = one_noted (step m s) s.place in
        let fewer = rest d in
        let both = length-append (noted (step m s) s.place) (lenient_until m halted n (front_after m s f) d.state).notes in
        omega (arith, one, fewer, both)
    by rest (Err h) = few h (suc n) f s

pub notes_few : (m : Setting) (inputs : List Input) (n : ℕ) (f : Front) (s : State) → length (lenient_run m inputs n f s).notes ≤ n
unfolding lenient_run
notes_few m [] n f s = until_few m (λ h k g t. stands (stop_of h t) t) (λ h k g t. omega arith) n f s
notes_few m (input ∷ inputs) n f s = until_few m (λ h k g t. or_stands (handed m h input t) (λ u. lenient_run m inputs k g u) (stands (stop_of h t) t)) (λ h k g t. on g (λ i u. notes_few m inputs i g u) h k t (handed m h input t)) n f s
  where
    on : (g : Front) → ((i : ℕ) (u : State) → length (lenient_run m inputs i g u).notes ≤ i) → (h : Halt) (k : ℕ) (t : State) (r : Option State) → length (or_stands r (λ u. lenient_run m inputs k g u) (stands (stop_of h t) t)).notes ≤ k
    on g rest h k t None = omega arith
    on g rest h k t (Some u) = rest k u
