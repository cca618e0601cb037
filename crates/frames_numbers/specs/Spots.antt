-- Not part of any public statement: for proofs and code only. The numbers of a frame as the code holds them, and as
-- law_moved/specs/Frames.antt has them.
use Rattle.std.specs.Prelude.{List, [], ◌∷◌}
use Rattle.law_moved.specs.Frames as Moved
use Rattle.law_moved.specs.Frames.{two, four}
use Rattle.frames_numbers.specs.declared.Counted.{Counted}
use Rattle.frames_numbers.specs.declared.Counted.TheVariants as Co
use Rattle.frames_numbers.specs.declared.Spot.{Spot}
use Rattle.frames_numbers.specs.declared.Spot.TheVariants as Sp
use Rattle.frames_numbers.specs.declared.Numbers.{Numbers}
use Rattle.frames_numbers.specs.declared.Numbers.TheVariants as Nu

abbrev pub counted_of : Counted → Moved.Counted
counted_of Co.Types = Moved.types
counted_of Co.Members = Moved.members
counted_of Co.Constants = Moved.constants
counted_of Co.Overrides = Moved.overrides
counted_of Co.Globals = Moved.globals
counted_of Co.Arguments = Moved.arguments
counted_of Co.Locals = Moved.locals
counted_of Co.Functions = Moved.functions
counted_of Co.Rows = Moved.rows
counted_of Co.Components = Moved.components
counted_of Co.Counts = Moved.counts

abbrev pub spot_of : Spot → Moved.Spot
spot_of (Sp.B2 c) = two (counted_of c) 2
spot_of (Sp.B4 c) = two (counted_of c) 4
spot_of (Sp.B8 c) = four (counted_of c) 8
spot_of (Sp.B12 c) = four (counted_of c) 12

abbrev pub spots_of : Numbers → List Moved.Spot
spots_of Nu.Nothing = []
spots_of (Nu.One a) = spot_of a ∷ []
spots_of (Nu.Two a b) = spot_of a ∷ spot_of b ∷ []
spots_of (Nu.Three a b c) = spot_of a ∷ spot_of b ∷ spot_of c ∷ []
