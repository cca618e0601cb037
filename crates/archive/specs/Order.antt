-- Number 4 (document 01, "The file" and "Numbers handed back"): families stand in rising order, and item kinds too; an
-- unknown family or item kind, a frame below the one before it, and a second item of kind 7 or 8 are faults.
use Rattle.std.specs.Prelude.{ℕ, ◌+◌, ◌*◌, ◌-◌, Bool, cond, not, ◌&&◌, ◌||◌, List, leb, ltb, eqb}
use Rattle.frames.specs.declared.Frame.{Frame}
use Rattle.frames.specs.Bytes.{frame_at}

-- where a frame stands in the order: by its family, and an item by its kind too
abbrev pub rank_of : Frame → ℕ
rank_of f = cond (eqb f.b0 3) (768 + f.b1) (256 * f.b0)

-- THE RANKS at which a family begins, 256 times its number, and each kind of items: 768 and the kind

abbrev pub member_rank : ℕ
member_rank = 512

abbrev pub constant_rank : ℕ
constant_rank = 769

abbrev pub override_rank : ℕ
override_rank = 770

abbrev pub global_rank : ℕ
global_rank = 771

abbrev pub argument_rank : ℕ
argument_rank = 772

abbrev pub local_rank : ℕ
local_rank = 773

abbrev pub function_rank : ℕ
function_rank = 774

abbrev pub intersection_rank : ℕ
intersection_rank = 775

abbrev pub vertex_return_rank : ℕ
vertex_return_rank = 776

abbrev pub row_rank : ℕ
row_rank = 1024

abbrev pub component_rank : ℕ
component_rank = 1280

-- families 1 to 5, and item kinds 1 to 8
abbrev pub is_known : Frame → Bool
is_known f = (leb 1 f.b0 && ltb f.b0 6) && (not (eqb f.b0 3) || (leb 1 f.b1 && ltb f.b1 9))

-- items of kind 7 and 8 stand at most once
abbrev pub is_once : ℕ → Bool
is_once rank = eqb rank intersection_rank || eqb rank vertex_return_rank

-- a frame of this rank may stand after one of rank q
abbrev pub follows : ℕ → ℕ → Bool
follows q rank = ltb q rank || (eqb q rank && not (is_once rank))

abbrev pub rank_at : List ℕ → ℕ → ℕ
rank_at fr k = rank_of (frame_at fr k)

-- frame k is in order
unfoldable pub order_ok : List ℕ → ℕ → Bool
order_ok fr k = is_known (frame_at fr k) && (eqb k 0 || follows (rank_at fr (k - 1)) (rank_at fr k))
