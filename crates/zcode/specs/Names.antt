-- The standard's names of the opcodes (Z 14).
use Rattle.std.specs.Prelude.{ℕ, List, codes}
use Rattle.zcode.specs.declared.opcode.Opcode.{Opcode}
use Rattle.zcode.specs.Profile.{profile_of}
use Rattle.zcode.specs.declared.opcode.Excluded.{Excluded}
use Rattle.zcode.specs.declared.opcode.Excluded.TheVariants.{SplitWindow, SetWindow, OutputStream, InputStream, SoundEffect}

abbrev pub name_of : Opcode → List ℕ
name_of opcode = (profile_of opcode).name

abbrev pub excluded_name : Excluded → List ℕ
excluded_name SplitWindow = codes "split_window"
excluded_name SetWindow = codes "set_window"
excluded_name OutputStream = codes "output_stream"
excluded_name InputStream = codes "input_stream"
excluded_name SoundEffect = codes "sound_effect"
