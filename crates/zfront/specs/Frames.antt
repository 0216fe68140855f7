-- Frames in a text: byte 2, a name, byte 31, what stands right, byte 3 (own).
use Rattle.std.specs.Prelude.{◌≡◌, ℕ, ◌==◌, Bool, true, false, if◌then◌else◌, List, [], ◌∷◌, ◌++◌, take, Option}
use Rattle.std.specs.Io.KnownBytes.{Appends, Keeps}
use Rattle.zfront.specs.declared.place.Place.{Place}
use Rattle.zfront.specs.declared.place.Place.TheVariants.{Outside, Name, Right}

-- where a text stands, and what the frame says so far, or what the last one said
pub record Frame : Type 0 where
  pub place : Place
  pub name : List ℕ
  pub right : List ℕ

-- no frame so far
abbrev pub no_frame : Frame
no_frame = record { place = Outside; name = []; right = [] }

-- each side of a frame is cut
abbrev pub cut : List ℕ → List ℕ
cut bytes = take 255 bytes

abbrev pub is_outside : Place → Bool
is_outside Outside = true
is_outside Name = false
is_outside Right = false

-- where it stands behind a byte, and what is said then
abbrev pub place_behind : Place → ℕ → Place
place_behind Outside byte = if byte == 2 then Name else Outside
place_behind Name byte = if byte == 3 then Outside else if byte == 31 then Right else Name
place_behind Right byte = if byte == 3 then Outside else Right

abbrev pub name_behind : Place → List ℕ → ℕ → List ℕ
name_behind Outside name byte = if byte == 2 then [] else name
name_behind Name name byte = if byte == 3 then name else if byte == 31 then name else cut (name ++ byte ∷ [])
name_behind Right name byte = name

abbrev pub right_behind : Place → List ℕ → ℕ → List ℕ
right_behind Outside right byte = if byte == 2 then [] else right
right_behind Name right byte = right
right_behind Right right byte = if byte == 3 then right else cut (right ++ byte ∷ [])

abbrev pub behind_byte : Frame → ℕ → Frame
behind_byte frame byte = record { place = place_behind frame.place byte; name = name_behind frame.place frame.name byte; right = right_behind frame.place frame.right byte }

abbrev pub frame_behind : Frame → List ℕ → Frame
frame_behind frame [] = frame
frame_behind frame (byte ∷ rest) = frame_behind (behind_byte frame byte) rest

-- what of a text is outside frames
abbrev pub byte_outside : Place → ℕ → List ℕ
byte_outside Outside byte = if byte == 2 then [] else byte ∷ []
byte_outside Name byte = []
byte_outside Right byte = []

abbrev pub outside : Frame → List ℕ → List ℕ
outside frame [] = []
outside frame (byte ∷ rest) = byte_outside frame.place byte ++ outside (behind_byte frame byte) rest

-- a text that is in a frame, or begins with one
abbrev pub BeginsFrame : Frame → List ℕ → Type 0
BeginsFrame frame [] = Unit {0}
BeginsFrame frame (byte ∷ rest) = byte_outside frame.place byte ≡ []

-- A piece was taken, and the sink below grew by what of it is outside frames.
pub record LeavesFrames (old new : Option (List ℕ)) (before after : Frame) (piece : List ℕ) : Type 0 where
  pub grown : Appends old new (outside before piece)
  pub frame : after ≡ frame_behind before piece

-- No piece was taken, and nothing changed.
pub record LeavesAll (old new : Option (List ℕ)) (before after : Frame) : Type 0 where
  pub kept : Keeps old new
  pub frame : after ≡ before
