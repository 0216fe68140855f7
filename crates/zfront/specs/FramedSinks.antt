-- What a contract sees of a `Frames` and of an `Unframed`.
use Rattle.std.specs.Prelude.{ℕ, Bool, List, Option, None, Some}
use Rattle.std.specs.Io.KnownBytes.{Appends, Keeps}
use Rattle.std.specs.Borrow.{GName}
use Rattle.zfront.specs.declared.frames.Frames.{Frames}
use Rattle.zfront.specs.declared.unframed.Unframed.{Unframed}
use Rattle.zfront.specs.declared.unframed.Unframed.TheVariants.{Plain, Framed}
use Rattle.zfront.specs.Frames.{Frame, LeavesAll, LeavesFrames}

-- the sink below
abbrev pub frames_below : {W : Type 0} → Frames W → W
frames_below frames = frames.below.now

-- which reference to it that is
abbrev pub frames_name : {W : Type 0} → Frames W → GName
frames_name frames = frames.below.ghost_name

-- where the text stands in a frame
abbrev pub frame_of : {W : Type 0} → Frames W → Frame
frame_of frames = frames.framing

-- whether bytes were taken that no flush has handed on
abbrev pub frames_wait : {W : Type 0} → Frames W → Bool
frames_wait frames = frames.waits

-- the sink below an `Unframed`
abbrev pub below_of : {W : Type 0} → Unframed W → W
below_of (Plain below) = below.now
below_of (Framed frames) = frames_below frames

-- which reference to it that is
abbrev pub below_name : {W : Type 0} → Unframed W → GName
below_name (Plain below) = below.ghost_name
below_name (Framed frames) = frames_name frames

-- where the text stands in a frame, if frames are taken out
abbrev pub frame_here : {W : Type 0} → Unframed W → Option Frame
frame_here (Plain below) = None
frame_here (Framed frames) = Some (frame_of frames)

-- the known bytes of a sink that takes none out are those of the sink below
abbrev pub known_bytes : Option Frame → Option (List ℕ) → Option (List ℕ)
known_bytes None below = below
known_bytes (Some frame) below = None

-- whether bytes wait, below or here
abbrev pub waits_of : {W : Type 0} → (W → Bool) → Unframed W → Bool
waits_of waits (Plain below) = waits below.now
waits_of waits (Framed frames) = frames_wait frames

-- a piece was taken, and the sink below grew by it, or by what of it is outside frames
abbrev pub LeavesHere : Option (List ℕ) → Option (List ℕ) → Option Frame → Option Frame → List ℕ → Type 0
LeavesHere old new None None piece = Appends old new piece
LeavesHere old new (Some before) (Some after) piece = LeavesFrames old new before after piece
LeavesHere _ _ _ _ _ = ⊥

-- no piece was taken, and nothing changed
abbrev pub LeavesAllHere : Option (List ℕ) → Option (List ℕ) → Option Frame → Option Frame → Type 0
LeavesAllHere old new None None = Keeps old new
LeavesAllHere old new (Some before) (Some after) = LeavesAll old new before after
LeavesAllHere _ _ _ _ = ⊥
