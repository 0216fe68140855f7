-- A board that is put into another state.
use Rattle.std.specs.Prelude.{◌<◌, List, length}
use Rattle.zengine.specs.declared.board.Board.{Board}
use Rattle.zengine.specs.declared.row.Row.{Row}
use Rattle.zengine.specs.Frames.{AreFrames}
use Rattle.zengine.specs.Play.{Game}

-- it stands at one of the rows, and its frames return to others
pub record IsLaid (g : Game) (rows : List Row) (b : Board) : Type 0 where
  pub within : b.at < length rows
  pub frames : AreFrames g.setting.story g.spots rows b.above b.base b.words.items
