-- A return is a step of the machine's definition.
use Rattle.std.proofs.Common.{◌≡◌, ◌⊎◌, inl, inr, ℕ, zero, suc, ◌+◌, ◌-◌, ◌<◌, ◌≤◌, true, false, List, [], ◌∷◌, length, take, Ok, Err, refl, sym, ap, subst, ◌∙◌, arith, pos}
use Rattle.std.specs.Prelude.{ℤ, ◌+ℤ◌}
use Rattle.zfault.specs.declared.fault.Fault.TheVariants.{AbsentLocal, ReturnFromMain}
use Rattle.zcode.specs.Instruction.{Instruction}
use Rattle.zcode.specs.Operation.{operation_of, inputs}
use Rattle.zstate.specs.declared.halt.Halt.TheVariants as halts
use Rattle.zstate.specs.State.{Frame, State, at_place, exists, has_room, put, read_operands}
use Rattle.zstate.specs.Step.{act, admits, came, changed, effect_of, fetch, left, pauses, place_of, returning, settle, step}
use Rattle.zengine.specs.declared.board.Board.{Board}
use Rattle.zengine.specs.declared.row.Row.{Row}
use Rattle.zengine.specs.declared.row.Slot.{Slot}
use Rattle.zengine.specs.declared.row.Slot.TheVariants.{Local, High, Global, Constant}
use Rattle.zengine.specs.declared.row.Spot.{Spot}
use Rattle.zengine.specs.Body.{Body, base_below, callers_at, frame_at, height_between, result_of, return_index, spot_at, standing}
use Rattle.zengine.specs.Frames.{AreFrames, IsCalled, landing, row_at}
use Rattle.zengine.specs.Slots.{is_place, value_of, with_slot}
use Rattle.zengine.specs.declared.doing.Nowhere.{Nowhere}
use Rattle.zengine.specs.declared.doing.Nowhere.TheVariants as nowheres
use Rattle.zengine.specs.Rows.{IsReturn, halt_of, is_absent, nowhere_at, result_slot}
use Rattle.zengine.specs.Play.{Game, IsLow, Made, state_in}
use Rattle.zengine.specs.View.{body_of}
use Rattle.zengine.proofs.Words.{callers_front, frame_front, frames_kept}
use Rattle.zengine.proofs.Reading.{IsRefused, result_exists, result_put, result_refused}
use Rattle.zengine.proofs.Families as families

-- ---- what is asked of a return

from_main : (limit : ℕ) (i : Instruction) (x : ℕ) (t : State) → t.callers ≡ [] → settle limit i (returning x) t ≡ Err (halts.Fault ReturnFromMain)
unfolding admits pauses
from_main limit i x t e = rw e refl

no_variable : (limit : ℕ) (i : Instruction) (x : ℕ) (t : State) (f : Frame) (fs : List Frame) → t.callers ≡ f ∷ fs → exists t.frame.result f ≡ false → settle limit i (returning x) t ≡ Err (halts.Fault AbsentLocal)
unfolding admits pauses
no_variable limit i x t f fs e absent = rw e (rw absent refl)

no_room : (limit : ℕ) (i : Instruction) (x : ℕ) (t : State) (f : Frame) (fs : List Frame) → t.callers ≡ f ∷ fs → exists t.frame.result f ≡ true → has_room t.frame.result f ≡ false → settle limit i (returning x) t ≡ Err halts.FrameLimit
unfolding admits pauses
no_room limit i x t f fs e there full = rw e (rw (there, full) refl)

refused : (nowhere : Nowhere) (limit : ℕ) (i : Instruction) (x : ℕ) (t : State) (f : Frame) (fs : List Frame) → t.callers ≡ f ∷ fs → IsRefused nowhere t.frame.result f → settle limit i (returning x) t ≡ Err (halt_of nowhere)
refused nowheres.Absent limit i x t f fs e absent = no_variable limit i x t f fs e absent
refused nowheres.Full limit i x t f fs e full = no_room limit i x t f fs e full.0 full.1

taken : (limit : ℕ) (i : Instruction) (x : ℕ) (t : State) (f : Frame) (fs : List Frame) → t.callers ≡ f ∷ fs → exists t.frame.result f ≡ true → has_room t.frame.result f ≡ true → settle limit i (returning x) t ≡ Ok tt
unfolding admits pauses
taken limit i x t f fs e there room = rw e (rw (there, room) refl)

-- where a place is that of a slot, it is the slot's
pub landing_place : (slot : Slot) (height : ℕ) → is_place slot ≡ true → landing slot height ≡ Ok (slot, height)
landing_place (Local k) height e = refl
landing_place (High k) height e = refl
landing_place (Global p) height e = refl
landing_place (Constant x) height e = absurd cc

pub landing_none : (slot : Slot) (height : ℕ) → is_place slot ≡ false → landing slot height ≡ Err (halt_of (nowhere_at slot))
landing_none (Local k) height e = absurd cc
landing_none (High k) height e = absurd cc
landing_none (Global p) height e = absurd cc
landing_none (Constant x) height e = refl

-- 0 stands for a local that isn't there, and nothing else does
pub landing_absent : (slot : Slot) (height : ℕ) → is_absent slot ≡ true → landing slot height ≡ Err (halts.Fault AbsentLocal)
landing_absent (Local k) height e = absurd cc
landing_absent (High k) height e = absurd cc
landing_absent (Global p) height e = absurd cc
landing_absent (Constant zero) height e = refl
landing_absent (Constant (suc x)) height e = absurd cc

pub place_here : (slot : Slot) → is_place slot ≡ true → is_absent slot ≡ false
place_here (Local k) e = refl
place_here (High k) e = refl
place_here (Global p) e = refl
place_here (Constant x) e = absurd cc

pub landing_here : (slot : Slot) (height : ℕ) → is_absent slot ≡ false → (landing slot height ≡ Ok (slot, height)) ⊎ (landing slot height ≡ Err halts.FrameLimit)
landing_here (Local k) height e = inl refl
landing_here (High k) height e = inl refl
landing_here (Global p) height e = inl refl
landing_here (Constant zero) height e = absurd cc
landing_here (Constant (suc x)) height e = inr refl

pub place_back : (z : ℤ) (p : ℕ) → z ≡ pos p → pos (place_of z) ≡ z
place_back z p e = rw e refl

module _ (g : Game) (rows : List Row) (old new : Board) (row : Row) (framed : AreFrames g.setting.story g.spots rows old.above old.base old.words.items) (low : IsLow (spot_at g.spots old.at)) (all_low : (k : ℕ) → IsLow (spot_at g.spots k)) (head : 5 ≤ old.base) (room : old.base + 65551 ≤ length old.words.items) where
  abbrev spot : Spot
  spot = spot_at g.spots old.at

  abbrev body : Body
  body = body_of old

  module _ (a : Slot) (r : IsReturn g.setting g.spots g.callees rows (body_of old).memory (fetch g.setting.scope spot.place body.memory) spot row a) where
    abbrev x : ℕ
    x = value_of a body

    abbrev i : Instruction
    i = r.instruction

    abbrev t : State
    t = standing g.spots (record { place = spot.place; count = spot.count; height = r.left }) body

    does : effect_of g.setting (operation_of i.opcode) (x ∷ []) t ≡ Ok (returning x)
    unfolding effect_of
    does = rw r.operation_is refl

    read : read_operands g.setting.story (inputs i) (state_in g old) ≡ Ok (x ∷ [], t)
    read = families.read_all g rows old new row framed all_low head room (inputs r.instruction) (a ∷ []) r.left r.reads

    -- nothing returns from the first frame
    pub main_stuck : old.above ≡ zero → step g.setting (state_in g old) ≡ Err (halts.Fault ReturnFromMain)
    unfolding callers_at
    main_stuck none = families.unsettled g.setting (state_in g old) t i (x ∷ []) r.is read (returning x) (halts.Fault ReturnFromMain) does (from_main g.setting.limit i x t (rw none refl))

    module _ (n : ℕ) (above : old.above ≡ suc n) where
      abbrev index : ℕ
      index = return_index old.base old.words.items

      abbrev below : ℕ
      below = base_below old.base old.words.items

      abbrev result : ℕ
      result = result_of old.base old.words.items

      abbrev back : Spot
      back = spot_at g.spots index

      abbrev height : ℕ
      height = height_between old.base below back.count

      framed_all : IsCalled g.setting.story g.spots rows old.base below index result × AreFrames g.setting.story g.spots rows n below old.words.items
      unfolding AreFrames
      framed_all = subst (λ (k : ℕ). AreFrames g.setting.story g.spots rows k old.base old.words.items) above framed

      pub called : IsCalled g.setting.story g.spots rows old.base below index result
      called = framed_all.0

      -- the board with the newest frame left
      abbrev after : Body
      after = record body { base = below; above = n }

      abbrev caller : Frame
      caller = frame_at g.spots below back.count height old.words.items

      callers_are : t.callers ≡ caller ∷ callers_at g.spots n below old.words.items
      unfolding callers_at
      callers_are =
          let apart = called.apart in
          rw above (ap (λ (f : Frame). f ∷ callers_at g.spots n below (take (old.base - 5) old.words.items)) (frame_front g.spots below (old.base - 5) old.words.items called.head back.count height (omega (arith, apart))) ∙ ap (λ (fs : List Frame). caller ∷ fs) (callers_front g.spots below (old.base - 5) old.words.items called.head n (omega (arith, apart))))

      result_is : t.frame.result ≡ result
      unfolding frame_at
      result_is = refl

      few : back.count + height ≤ 65550
      few = let b = all_low index in let c = b.0 in let h = called.low in omega (arith, c, h)

      room_below : below + 65551 ≤ length old.words.items
      room_below = let apart = called.apart in omega (arith, apart, room)

      pub none_stuck : is_place (row_at rows index).came ≡ false → step g.setting (state_in g old) ≡ Err (halt_of (nowhere_at (row_at rows index).came))
      none_stuck none =
          let why : Nowhere = nowhere_at (row_at rows index).came in
          let there : IsRefused why result caller = result_refused g.setting.story g.spots (pos 0) back.count after called.head room_below why result height few (called.lands ∙ landing_none (row_at rows index).came back.height none) in
          families.unsettled g.setting (state_in g old) t i (x ∷ []) r.is read (returning x) (halt_of why) does (refused why g.setting.limit i x t caller (callers_at g.spots n below old.words.items) callers_are (rw result_is there))

      -- where the word goes
      abbrev came_to : Slot
      came_to = (row_at rows index).came

      lands_there : is_place came_to ≡ true → result_slot g.setting.story back.count result height ≡ Ok (came_to, back.height)
      lands_there place = called.lands ∙ landing_place came_to back.height place

      framed_after : (slot : Slot) → AreFrames g.setting.story g.spots rows (with_slot slot x after).above (with_slot slot x after).base (with_slot slot x after).words
      framed_after (Local k) = let h = called.head in frames_kept g.setting.story g.spots rows old.words.items (below + k) x n below (omega (arith, h)) (omega arith) framed_all.1
      framed_after (High k) = let h = called.head in frames_kept g.setting.story g.spots rows old.words.items (below + (65536 + k)) x n below (omega (arith, h)) (omega arith) framed_all.1
      framed_after (Global p) = framed_all.1
      framed_after (Constant y) = framed_all.1

      -- the caller goes on
      abbrev resumed : State
      resumed = standing g.spots (record { place = pos (place_of back.place); count = back.count; height = height }) after

      left_is : left g.setting.story x t.callers (at_place (spot.place +ℤ pos i.size) t) ≡ put g.setting.story result x resumed
      unfolding frame_at
      left_is = rw callers_are refl

      acted_is : act g.setting.story i (returning x) t ≡ put g.setting.story result x resumed
      unfolding act changed
      acted_is = left_is

      came_is : new.at ≡ index → body_of new ≡ with_slot came_to x after → is_place came_to ≡ true → came g.setting.story i (returning x) t (state_in g old) ≡ state_in g new
      came_is at is place =
          families.came_plain g.setting.story i (returning x) t (state_in g old) refl refl
          ∙ acted_is
          ∙ result_put g.setting.story g.spots (pos (place_of back.place)) back.count after called.head room_below result height x came_to back.height few (lands_there place)
          ∙ ap (λ (z : ℤ). standing g.spots (record { place = z; count = back.count; height = back.height }) (with_slot came_to x after)) (place_back back.place called.place called.place_is)
          ∙ ap (λ (b : Body). standing g.spots back b) (sym is)
          ∙ ap (λ (k : ℕ). standing g.spots (spot_at g.spots k) (body_of new)) (sym at)

      pub return_made : is_place (row_at rows index).came ≡ true → new.at ≡ index → body_of new ≡ with_slot (row_at rows index).came x after → Made g rows old new
      return_made place at is = record {
        is = families.made g.setting (state_in g old) t i (x ∷ []) r.is read (returning x) does settled ∙ ap (λ (s : State). Ok (record { state = s; items = [] })) (came_is at is place);
        within = subst (λ (k : ℕ). k < length g.spots) (sym at) called.there;
        size = ap (λ (b : Body). length b.memory) is ∙ families.with_size came_to x after;
        words = ap (λ (b : Body). length b.words) is ∙ families.slot_words came_to x after;
        frames = subst (λ (b : Body). AreFrames g.setting.story g.spots rows b.above b.base b.words) (sym is) (framed_after came_to);
      }
        where
          settled : settle g.setting.limit i (returning x) t ≡ Ok tt
          settled = taken g.setting.limit i x t caller (callers_at g.spots n below old.words.items) callers_are (rw result_is (result_exists g.setting.story g.spots (pos 0) back.count after called.head room_below result height (came_to, back.height) (omega (arith, few)) (lands_there place))) (rw result_is (families.room_for g.setting.story result g.spots below back.count height old.words.items (came_to, back.height) (lands_there place) (all_low index).1))
