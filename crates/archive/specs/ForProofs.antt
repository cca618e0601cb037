-- Not part of any public statement: for proofs and code only. Items and components by where they begin, a file's rows,
-- and where the parts of a frame end.
use Rattle.ir.specs.declared.Expression.{Expression}
use Rattle.std.specs.Prelude.{ℕ, ◌+◌, List, Option}
use Rattle.ir.specs.declared.ItemNumber.{ItemNumber}
use Rattle.ir.specs.declared.RowNumber.{RowNumber}
use Rattle.ir.specs.declared.ComponentNumber.{ComponentNumber}
use Rattle.ir.specs.declared.Item.{Item}
use Rattle.frames.specs.Bytes.{frame_at}
use Rattle.frames.specs.Forms.{item_of, component_of}
use Rattle.archive.specs.declared.Starts.{Starts}
use Rattle.archive.specs.declared.Held.{Held}
use Rattle.archive.specs.declared.Held.TheVariants as He
use Rattle.archive.specs.Starts.{starts_of}
use Rattle.archive.specs.Access.{row_in}

-- item n of those whose frames begin at `first`
abbrev pub item_in : List ℕ → ℕ → ItemNumber → Item
item_in fr first n = item_of (frame_at fr (first + n.0))

-- component i of those from `first` on: the row that it names
abbrev pub component_in : List ℕ → Starts → ComponentNumber → ℕ → RowNumber
component_in fr s first i = component_of (frame_at fr (s.components + first.0 + i))

-- row n of a file, whose families begin where its frames say
abbrev pub row_at : List ℕ → RowNumber → Option Expression
row_at fr n = row_in fr (starts_of fr) n

-- the frame after the last part that a frame holds
abbrev pub held_to : Held → ℕ
held_to (He.Parts from to owner) = to
held_to He.Nothing = 0
