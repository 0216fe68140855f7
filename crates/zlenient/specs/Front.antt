-- What of a story's text is seen in lenient play: a stream of text has no upper window, and the screen's stream may be closed (own).
use Rattle.std.specs.Prelude.{ℕ, ◌==◌, ◌&&◌, Bool, true, false, if◌then◌else◌, List, [], drop, Result, Ok, Err, ℤ, pos, negsuc}
use Rattle.zfault.specs.declared.item.Item.{Item}
use Rattle.zcode.specs.declared.error.DecodeError.{DecodeError}
use Rattle.zcode.specs.declared.error.DecodeError.TheVariants.{NotInProfile}
use Rattle.zcode.specs.declared.opcode.Excluded.{Excluded}
use Rattle.zcode.specs.declared.opcode.Excluded.TheVariants.{OutputStream, SetWindow}
use Rattle.zcode.specs.Instruction.{Instruction}
use Rattle.zcode.specs.Operation.{inputs}
use Rattle.zcode.specs.Reading.{instruction_at}
use Rattle.zstory.specs.LoadedStory.{LoadedStory}
use Rattle.zstate.specs.declared.halt.Halt.{Halt}
use Rattle.zstate.specs.State.{Setting, State, read_operands}
use Rattle.zstate.specs.Step.{Done, arg, step}
use Rattle.zlenient.specs.declared.front.Front.{Front}
use Rattle.zlenient.specs.Step.{passed_at}

-- as a story opens
abbrev pub opened : Front
opened = record { shown = true; window = 0 }

-- what is given out is seen where the screen's stream is open and the lower window is selected
abbrev pub is_seen : Front → Bool
is_seen f = f.shown && (f.window == 0)

abbrev pub seen : Front → List Item → List Item
seen f items = if is_seen f then items else []

-- stream 1 is opened, or is closed by -1 (Z 15 output_stream)
abbrev pub streamed : ℕ → Front → Front
streamed x f = if x == 1 then record f { shown = true } else (if x == 65535 then record f { shown = false } else f)

-- what an opcode that is passed over does to it, by the values of its operands (Z 15 set_window)
abbrev pub turned_by : Excluded → List ℕ → Front → Front
turned_by SetWindow values f = record f { window = arg values 0 }
turned_by OutputStream values f = streamed (arg values 0) f
turned_by opcode values f = f

-- ---- by the opcode at a place, if it is one that is passed over, and its operands can be read

abbrev pub by_values : Excluded → Result (List ℕ × State) Halt → Front → Front
by_values opcode (Ok v) f = turned_by opcode v.0 f
by_values opcode (Err h) f = f

abbrev pub by_operands : LoadedStory → State → Excluded → Result Instruction DecodeError → Front → Front
by_operands story s opcode (Ok i) f = by_values opcode (read_operands story (inputs i) s) f
by_operands story s opcode (Err e) f = f

abbrev pub by_bytes : LoadedStory → State → List ℕ → Result Instruction DecodeError → Front → Front
by_bytes story s bytes (Err (NotInProfile opcode)) f = by_operands story s opcode (passed_at bytes) f
by_bytes story s bytes read f = f

abbrev pub front_at : LoadedStory → State → ℤ → Front → Front
front_at story s (pos p) f = by_bytes story s (drop p s.memory) (instruction_at (drop p s.memory)) f
front_at story s (negsuc n) f = f

-- after a lenient step, which is a step or is done in the place of a fault
abbrev pub after_step : LoadedStory → State → Result Done Halt → Front → Front
after_step story s (Ok d) f = f
after_step story s (Err h) f = front_at story s s.place f

abbrev pub front_after : Setting → State → Front → Front
front_after m s f = after_step m.story s (step m s) f
