-- Number 6, parts and their owners (document 01, "The file"): a member names only types before each struct that has it,
-- and a component only rows before each compose that has it. The part that names wrongly is the faulty frame. Ranges
-- may overlap.
use Rattle.std.specs.Prelude.{ℕ, ◌+◌, ◌-◌, min, Bool, true, not, ◌&&◌, ◌||◌, cond, List, leb, ltb, eqb}
use Rattle.ir.specs.declared.TypeNumber.{TypeNumber}
use Rattle.ir.specs.declared.RowNumber.{RowNumber}
use Rattle.ir.specs.declared.TypeKind.TheVariants as Tk
use Rattle.ir.specs.declared.RowKind.TheVariants as Rk
use Rattle.ir.specs.Numbers.{type_kind_number, row_kind_number}
use Rattle.scan.specs.Lowest.{all_below}
use Rattle.frames.specs.declared.Frame.{Frame}
use Rattle.frames.specs.Bytes.{frame_at, frame_count}
use Rattle.frames.specs.Fields.{read_all}
use Rattle.frames.specs.Layout.{type_layout, row_layout}
use Rattle.frames.specs.Forms.{member_of, component_of}
use Rattle.archive.specs.declared.Starts.{Starts}
use Rattle.archive.specs.declared.Owner.{Owner}
use Rattle.archive.specs.declared.Owner.TheVariants as Ow
use Rattle.archive.specs.declared.Held.{Held}
use Rattle.archive.specs.declared.Held.TheVariants as He
use Rattle.archive.specs.Starts.{starts_of}
use Rattle.archive.specs.Names.{is_earlier}

abbrev pub is_struct : Frame → Bool
is_struct f = eqb f.b0 1 && eqb f.b1 (type_kind_number Tk.Struct)

abbrev pub is_compose : Frame → Bool
is_compose f = eqb f.b0 4 && eqb f.b1 (row_kind_number Rk.Compose)

-- the frames from `from` on, j of them, but none from frame `last` on: parts that the owner holds
abbrev pub parts_from : ℕ → ℕ → ℕ → Owner → Held
parts_from from j last owner = He.Parts from (min (from + j) last) owner

-- the parts of struct n: its members, from the first that it names on, as many as it counts
abbrev pub members_of : Starts → TypeNumber → Frame → Held
members_of s n f = let v = read_all (type_layout Tk.Struct) f in
    parts_from (s.members + v.0) v.1.0 s.constants (Ow.Struct n)

-- the parts of compose n: its components
abbrev pub components_of : Starts → RowNumber → Frame → Held
components_of s n f = let v = read_all (row_layout Rk.Compose) f in
    parts_from (s.components + v.1.1.0) v.1.0 s.end (Ow.Compose n)

-- the parts that frame k holds; every frame but a struct and a compose holds none. Types begin the file, so type k is
-- frame k
abbrev pub held_by : Starts → ℕ → Frame → Held
held_by s k f = cond (is_struct f) (members_of s (record { 0 = k }) f)
    (cond (is_compose f) (components_of s (record { 0 = k - s.rows }) f) He.Nothing)

-- a part is earlier than its owner: the type of a member than the struct, and the row of a component than the compose
abbrev pub is_early : Owner → Frame → Bool
is_early (Ow.Struct n) f = ltb (member_of f).ty.0 n.0
is_early (Ow.Compose n) f = is_earlier n (component_of f)

-- frame k is no part of these, or earlier than their owner
abbrev pub early_in : List ℕ → Held → ℕ → Bool
early_in fr (He.Parts from to owner) k = not (leb from k && ltb k to) || is_early owner (frame_at fr k)
early_in fr He.Nothing k = true

-- frame k is no part of frame o, or earlier than it
abbrev pub early_for : List ℕ → ℕ → ℕ → Bool
early_for fr o k = early_in fr (held_by (starts_of fr) o (frame_at fr o)) k

-- frame k is earlier than each frame that holds it
unfoldable pub early_ok : List ℕ → ℕ → Bool
early_ok fr k = all_below (λ (o : ℕ). early_for fr o k) (frame_count fr)
