-- What is done in lenient play in the place of a fault: what interpreters customarily do there (own).
use Rattle.std.specs.Prelude.{ℕ, ◌==◌, Bool, true, false, if◌then◌else◌, List, Option, Some, None}
use Rattle.zfault.specs.declared.fault.Fault.{Fault}
use Rattle.zfault.specs.declared.fault.Fault.TheVariants.{IllegalOpcode, AbsentObject, AbsentAttribute, AbsentProperty, PropertyTooLong, ZeroDivisor, WriteOutside, ReadOutside, TextOutside}
use Rattle.zstory.specs.Bytes.{word_at}
use Rattle.zstory.specs.LoadedStory.{LoadedStory}
use Rattle.zobj.specs.declared.answers.PropertyQuestion.{PropertyQuestion}
use Rattle.zobj.specs.declared.answers.PropertyQuestion.TheVariants.{Value}
use Rattle.zobj.specs.Answers.{address_of}
use Rattle.zobj.specs.Properties.{property_of}
use Rattle.zcode.specs.declared.operation.Operation.{Operation}
use Rattle.zcode.specs.declared.operation.Operation.TheVariants.{Binary, Inside, TestAttribute, Follow, SetAttribute, ClearAttribute, Insert, Remove, Property, PropertyLength, SetProperty, PrintObject, PrintAt, LoadArray, StoreArray, Nop}
use Rattle.zstate.specs.State.{State}
use Rattle.zstate.specs.Step.{Effect, arg, following, giving, is_object, proceeds, testing}

-- the faults for which something is customary; the others stay faults: no listed instruction or routine, an absent variable, an empty stack,
-- a buffer with no room, a return from the main routine
abbrev pub is_excusable : Fault → Bool
is_excusable IllegalOpcode = true
is_excusable AbsentObject = true
is_excusable AbsentAttribute = true
is_excusable AbsentProperty = true
is_excusable PropertyTooLong = true
is_excusable ZeroDivisor = true
is_excusable WriteOutside = true
is_excusable ReadOutside = true
is_excusable TextOutside = true
is_excusable f = false

-- an object's property that is too long gives its first word, and what isn't there gives 0 (Z 15 get_prop, get_prop_addr, get_next_prop)
abbrev pub property_instead : LoadedStory → PropertyQuestion → List ℕ → ℕ → ℕ → Fault → ℕ
property_instead story Value memory object number PropertyTooLong = if is_object story object then word_at memory (address_of (property_of memory object number)) else 0
property_instead story question memory object number f = 0

-- What an operation does in the place of its fault, by the values of what it reads, in the state after their reading; nothing, where it
-- stays a fault (Z 15).
unfoldable pub customary : LoadedStory → Operation → List ℕ → State → Fault → Option Effect
-- a division by 0 gives 0 (div, mod)
customary story (Binary op) values s f = Some (giving 0)
-- no object has no parent (jin), no attribute (test_attr), no relative (get_sibling, get_child, get_parent)
customary story Inside values s f = Some (testing (arg values 1 == 0))
customary story TestAttribute values s f = Some (testing false)
customary story (Follow link) values s f = Some (following 0)
-- and is not changed (set_attr, clear_attr, insert_obj, remove_obj)
customary story SetAttribute values s f = Some proceeds
customary story ClearAttribute values s f = Some proceeds
customary story Insert values s f = Some proceeds
customary story Remove values s f = Some proceeds
-- it has no property; one that isn't there, or is too long, is given nothing (get_prop, get_prop_addr, get_next_prop, put_prop)
customary story (Property question) values s f = Some (giving (property_instead story question s.memory (arg values 0) (arg values 1) f))
customary story SetProperty values s f = Some proceeds
-- what lies behind memory is 0, and nothing is written where nothing may be (get_prop_len, loadw, loadb, storew, storeb)
customary story PropertyLength values s f = Some (giving 0)
customary story (LoadArray width) values s f = Some (giving 0)
customary story (StoreArray width) values s f = Some proceeds
-- a text that can't be decoded prints nothing, nor does the name of no object (print_addr, print_paddr, print_obj)
customary story (PrintAt addressing) values s f = Some proceeds
customary story PrintObject values s f = Some proceeds
-- what is passed over does nothing (split_window, set_window, output_stream, input_stream, sound_effect)
customary story Nop values s f = Some proceeds
-- all else stays a fault
customary story operation values s f = None
