-- Where each family of a file begins, and each kind of items (document 01, "The file": numbers count from 0 within a
-- family; items: within a kind). In a file that is in order the frames of a family stand together, so a family's frames
-- are those from its start to the next.
use Rattle.std.specs.Prelude.{ℕ, ◌-◌, List, ltb, Option, Some, None}
use Rattle.scan.specs.Lowest.{lowest}
use Rattle.frames.specs.Bytes.{frame_count}
use Rattle.archive.specs.declared.Starts.{Starts}
use Rattle.archive.specs.Order.{rank_at, member_rank, constant_rank, override_rank, global_rank, argument_rank}
use Rattle.archive.specs.Order.{local_rank, function_rank, intersection_rank, vertex_return_rank, row_rank}
use Rattle.archive.specs.Order.{component_rank}

abbrev pub place_or : ℕ → Option ℕ → ℕ
place_or n (Some k) = k
place_or n None = n

-- the lowest frame of this rank or a higher one; past the last frame where there is none
unfoldable pub start : List ℕ → ℕ → ℕ
start fr rank = place_or (frame_count fr) (lowest (λ (k : ℕ). ltb (rank_at fr k) rank) (frame_count fr))

-- types begin the file
unfoldable pub starts_of : List ℕ → Starts
starts_of fr =
    record {
      members = start fr member_rank;
      constants = start fr constant_rank;
      overrides = start fr override_rank;
      globals = start fr global_rank;
      arguments = start fr argument_rank;
      locals = start fr local_rank;
      functions = start fr function_rank;
      intersections = start fr intersection_rank;
      vertex_returns = start fr vertex_return_rank;
      rows = start fr row_rank;
      components = start fr component_rank;
      end = frame_count fr;
    }

-- how many frames there are of each family, and of the items that rows name
abbrev pub type_count : Starts → ℕ
type_count s = s.members

abbrev pub member_count : Starts → ℕ
member_count s = s.constants - s.members

abbrev pub constant_count : Starts → ℕ
constant_count s = s.overrides - s.constants

abbrev pub override_count : Starts → ℕ
override_count s = s.globals - s.overrides

abbrev pub global_count : Starts → ℕ
global_count s = s.arguments - s.globals

abbrev pub local_count : Starts → ℕ
local_count s = s.functions - s.locals

abbrev pub function_count : Starts → ℕ
function_count s = s.intersections - s.functions

abbrev pub row_count : Starts → ℕ
row_count s = s.components - s.rows

abbrev pub component_count : Starts → ℕ
component_count s = s.end - s.components
