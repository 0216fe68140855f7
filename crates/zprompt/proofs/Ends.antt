-- Ends that are no fault.
use Rattle.std.proofs.Common.{◌≢◌, ℤ, IfOk, Result, Ok, Err, refl}
use Rattle.zfault.specs.declared.fault.Fault.{Fault}
use Rattle.zplayer.specs.declared.end.End.{End}
use Rattle.zplayer.specs.declared.end.End.TheVariants as ends
use Rattle.zplayer.specs.declared.end.PlayError.{PlayError}
use Rattle.zprompt.specs.Ends.{EndsWell}

-- a play that doesn't end with a fault ends well
pub ends_well : (result : Result End PlayError) → IfOk result (λ end. (fault : Fault) (place : ℤ) → end ≢ ends.Fault fault place) → IfOk result EndsWell
ends_well (Ok ends.Quit) fine = tt
ends_well (Ok ends.NoInput) fine = tt
ends_well (Ok ends.Budget) fine = tt
ends_well (Ok ends.FrameLimit) fine = tt
ends_well (Ok (ends.Fault fault place)) fine = fine fault place refl
ends_well (Err error) fine = tt

-- and the other way round
pub no_fault : (result : Result End PlayError) → IfOk result EndsWell → IfOk result (λ end. (fault : Fault) (place : ℤ) → end ≢ ends.Fault fault place)
no_fault (Ok ends.Quit) well = λ fault place e. cc
no_fault (Ok ends.NoInput) well = λ fault place e. cc
no_fault (Ok ends.Budget) well = λ fault place e. cc
no_fault (Ok ends.FrameLimit) well = λ fault place e. cc
no_fault (Ok (ends.Fault f p)) well = absurd well
no_fault (Err error) well = tt
