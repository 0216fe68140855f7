-- All that each operation asks for, and that it asks for nothing else. The values are the numbers of its operands, from 10 on.
use Rattle.std.proofs.Common.{◌≡◌, ℕ, ◌+◌, true, List, [], ◌∷◌, replicate, map, Some, refl}
use Rattle.zword.specs.declared.addressing.Addressing.TheVariants.{Byte, Packed}
use Rattle.zword.specs.declared.binary.BinaryOp.TheVariants.{Add, Sub, Mul, Div, Mod, Or, And}
use Rattle.zword.specs.declared.question.Question.TheVariants.{Equal, Less}
use Rattle.zword.specs.declared.unary.UnaryOp.TheVariants.{Not, Keep}
use Rattle.zarray.specs.declared.width.Width.TheVariants as widths
use Rattle.zobj.specs.declared.answers.PropertyQuestion.TheVariants.{Value, Address, Next}
use Rattle.zobj.specs.declared.tree.Link.TheVariants.{Parent, Sibling, Child}
use Rattle.zcode.specs.declared.operation.Operation.{Operation}
use Rattle.zcode.specs.declared.operation.Operation.TheVariants.{Unary, Binary, Compare, Verify, PrintChar, PrintNumber, Print, NewLine, Nop, Quit, Return, PrintReturn, Call, Inside, TestAttribute, Follow, SetAttribute, ClearAttribute, Insert, Remove, Property, PropertyLength, SetProperty, PrintObject, PrintAt, ShowStatus, LoadArray, StoreArray, Random, ReadLine, Save, Restore, Restart}
use Rattle.zdomain.specs.declared.interval.Interval.{Interval}
use Rattle.zdomain.specs.Interval.{point, interval_operations}
use Rattle.zflow.specs.declared.parts.Access.TheVariants.{Reading, Writing}
use Rattle.zflow.specs.declared.parts.Asked.TheVariants.{Answered, Filled}
use Rattle.zflow.specs.declared.parts.Demands.{Demands}
use Rattle.zflow.specs.Transfer.{demands_of, nothing}

arg : ℕ → Interval
arg k = point (10 + k)

asked_by : List Operation → List (Demands Interval)
asked_by operations = map (λ k. demands_of interval_operations k arg) operations

nothing_asked : asked_by (Unary Not ∷ Unary Keep ∷ Compare Equal ∷ Compare Less ∷ Verify ∷ PrintChar ∷ PrintNumber ∷ NewLine ∷ Nop ∷ Quit ∷ Return ∷ Call ∷ Random ∷ Save ∷ Restore ∷ Restart ∷ []) ≡ replicate 16 nothing
unfolding asked_by demands_of
nothing_asked = refl

divisors_asked : (asked_by (Binary Add ∷ Binary Sub ∷ Binary Mul ∷ Binary Or ∷ Binary And ∷ []) ≡ replicate 5 nothing) × (asked_by (Binary Div ∷ Binary Mod ∷ []) ≡ replicate 2 (record nothing { divisor = Some (arg 1) }))
unfolding asked_by demands_of
divisors_asked = (refl, refl)

texts_asked : (asked_by (Print ∷ PrintReturn ∷ []) ≡ replicate 2 (record nothing { has_text = true })) × (asked_by (PrintAt Byte ∷ PrintAt Packed ∷ []) ≡ record nothing { texts = Some (record { addressing = Byte; places = arg 0 }) } ∷ record nothing { texts = Some (record { addressing = Packed; places = arg 0 }) } ∷ [])
unfolding asked_by demands_of
texts_asked = (refl, refl)

objects_asked :
    (asked_by (Inside ∷ Follow Parent ∷ Follow Sibling ∷ Follow Child ∷ Remove ∷ []) ≡ replicate 5 (record nothing { object = Some (arg 0) }))
    × (asked_by (TestAttribute ∷ SetAttribute ∷ ClearAttribute ∷ []) ≡ replicate 3 (record nothing { object = Some (arg 0); attribute = Some (arg 1) }))
    × (asked_by (Insert ∷ []) ≡ record nothing { object = Some (arg 0); under = Some (arg 1) } ∷ [])
    × (asked_by (PrintObject ∷ []) ≡ record nothing { object = Some (arg 0); named = Some (arg 0) } ∷ [])
unfolding asked_by demands_of
objects_asked = (refl, refl, refl, refl)

properties_asked :
    (asked_by (Property Value ∷ []) ≡ record nothing { object = Some (arg 0); property = Some (record { asked = Answered Value; objects = arg 0; numbers = arg 1 }) } ∷ [])
    × (asked_by (Property Address ∷ []) ≡ record nothing { object = Some (arg 0); property = Some (record { asked = Answered Address; objects = arg 0; numbers = arg 1 }) } ∷ [])
    × (asked_by (Property Next ∷ []) ≡ record nothing { object = Some (arg 0); property = Some (record { asked = Answered Next; objects = arg 0; numbers = arg 1 }) } ∷ [])
    × (asked_by (SetProperty ∷ []) ≡ record nothing { object = Some (arg 0); property = Some (record { asked = Filled; objects = arg 0; numbers = arg 1 }) } ∷ [])
    × (asked_by (PropertyLength ∷ []) ≡ record nothing { address = Some (arg 0) } ∷ [])
unfolding asked_by demands_of
properties_asked = (refl, refl, refl, refl, refl)

elements_asked :
    (asked_by (LoadArray widths.Word ∷ []) ≡ record nothing { elements = Some (record { access = Reading; width = widths.Word; arrays = arg 0; indices = arg 1 }) } ∷ [])
    × (asked_by (StoreArray widths.Byte ∷ []) ≡ record nothing { elements = Some (record { access = Writing; width = widths.Byte; arrays = arg 0; indices = arg 1 }) } ∷ [])
unfolding asked_by demands_of
elements_asked = (refl, refl)

lines_asked : (asked_by (ReadLine ∷ []) ≡ record nothing { buffers = Some (record { texts = arg 0; parses = arg 1 }); shows_status = true } ∷ []) × (asked_by (ShowStatus ∷ []) ≡ record nothing { shows_status = true } ∷ [])
unfolding asked_by demands_of
lines_asked = (refl, refl)
