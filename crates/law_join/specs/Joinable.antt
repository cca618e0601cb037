-- JOINABLE, each of the two files; else number 49 (document 02, request 14): no unknown kind and no Math row, no
-- special type item, no row answered 19 or 20. What that means of the answers, and a test that looks at each frame
-- once. In an accepted file types and rows alone have unknown kinds: an item's is number 4, a member's and a
-- component's number 5 (proofs/Known.antt). The two are one: proofs/Joinable.antt.
use Rattle.std.specs.Prelude.{ℕ, ◌-◌, ◌≡◌, Bool, true, false, List, [], ◌∷◌, ltb, get_or, None}
use Rattle.std.proofs.Math.Option.{none}
use Rattle.scan.specs.Lowest.{all_below}
use Rattle.ir.specs.declared.TypeNumber.{TypeNumber}
use Rattle.ir.specs.declared.RowNumber.{RowNumber}
use Rattle.ir.specs.declared.TypeKind.{TypeKind}
use Rattle.ir.specs.declared.TypeKind.TheVariants as Tk
use Rattle.ir.specs.declared.ItemKind.{ItemKind}
use Rattle.ir.specs.declared.ItemKind.TheVariants as Ik
use Rattle.ir.specs.declared.RowKind.{RowKind}
use Rattle.ir.specs.declared.RowKind.TheVariants as Rk
use Rattle.ir.specs.Numbers.{type_kind_of, item_kind_of, row_kind_of}
use Rattle.answers.specs.declared.Refusal.TheVariants as R
use Rattle.frames.specs.declared.Frame.{Frame}
use Rattle.frames.specs.Bytes.{byte, word, frame_at, frame_count}
use Rattle.archive.specs.declared.Starts.{Starts}
use Rattle.archive.specs.Starts.{starts_of}
use Rattle.archive.specs.Names.{is_type, is_row}
use Rattle.archive.specs.Access.{type_at}
use Rattle.rule.specs.Answers.{refused, told}
use Rattle.rule.specs.Things.{kind, see}
use Rattle.rule_rows.specs.declared.Pass.{Pass}
use Rattle.rule_answers.specs.Outputs.{row_answer}

-- THE MEANING, over what the file holds and what its rows answer, in either pass: a file has a 19 or a 20 in one
-- pass exactly if it has one in the other, though not always on the same rows (proofs/Passes.antt)
pub record Joinable (fr : List ℕ) : Type 0 where
  -- no type of unknown kind, used or not
  pub types : (n : TypeNumber) → is_type (starts_of fr) n ≡ true → type_at fr n ≡ None → ⊥
  -- no row that shows nothing: one of unknown kind, or Math
  pub rows : (n : RowNumber) → is_row (starts_of fr) n ≡ true → see fr (kind n) ≡ none → ⊥
  -- no item of kind 7 or 8: they stand between these two
  pub specials : (starts_of fr).intersections ≡ (starts_of fr).rows
  -- no row answered 19
  pub arguments : (pass : Pass) (n : RowNumber) (i : ℕ) → is_row (starts_of fr) n ≡ true → row_answer pass (see fr) n.0
      ≡ told (refused (R.FunctionArgumentNotFound i)) → ⊥
  -- no row answered 20
  pub special-types : (pass : Pass) (n : RowNumber) → is_row (starts_of fr) n ≡ true → row_answer pass (see fr) n.0
      ≡ told (refused R.MissingSpecialType) → ⊥

-- THE TEST, by a frame's family and kind. It needs no answer: 19 and 20 come from a row whose own argument or special
-- type is missing (proofs/Lacking.antt), and where no special type item stands every row that needs one is such a row.

-- of a type its kind is known
abbrev pub type_joins : TypeKind → Bool
type_joins Tk.Unknown = false
type_joins Tk.Scalar = true
type_joins Tk.Vector = true
type_joins Tk.Matrix = true
type_joins Tk.CooperativeMatrix = true
type_joins Tk.Atomic = true
type_joins Tk.Pointer = true
type_joins Tk.ValuePointer = true
type_joins Tk.Array = true
type_joins Tk.Struct = true
type_joins Tk.Image = true
type_joins Tk.Sampler = true
type_joins Tk.AccelerationStructure = true
type_joins Tk.RayQuery = true
type_joins Tk.BindingArray = true

-- an item is no special type
abbrev pub item_joins : ItemKind → Bool
item_joins Ik.Unknown = false
item_joins Ik.Constant = true
item_joins Ik.Override = true
item_joins Ik.GlobalVariable = true
item_joins Ik.FunctionArgument = true
item_joins Ik.LocalVariable = true
item_joins Ik.Function = true
item_joins Ik.RayIntersection = false
item_joins Ik.RayVertexReturn = false

-- of a row its kind is known and not Math, its argument is there, and it needs no special type
abbrev pub row_joins : Starts → RowKind → Frame → Bool
row_joins s Rk.Unknown f = false
row_joins s Rk.Literal f = true
row_joins s Rk.Constant f = true
row_joins s Rk.Override f = true
row_joins s Rk.ZeroValue f = true
row_joins s Rk.Compose f = true
row_joins s Rk.Access f = true
row_joins s Rk.AccessIndex f = true
row_joins s Rk.Splat f = true
row_joins s Rk.Swizzle f = true
row_joins s Rk.FunctionArgument f = ltb (word f 12) (s.locals - s.arguments)
row_joins s Rk.GlobalVariable f = true
row_joins s Rk.LocalVariable f = true
row_joins s Rk.Load f = true
row_joins s Rk.ImageSample f = true
row_joins s Rk.ImageLoad f = true
row_joins s Rk.ImageQuery f = true
row_joins s Rk.Unary f = true
row_joins s Rk.Binary f = true
row_joins s Rk.Select f = true
row_joins s Rk.Derivative f = true
row_joins s Rk.Relational f = true
row_joins s Rk.Math f = false
row_joins s Rk.As f = true
row_joins s Rk.CallResult f = true
row_joins s Rk.AtomicResult f = true
row_joins s Rk.WorkGroupUniformLoadResult f = true
row_joins s Rk.ArrayLength f = true
row_joins s Rk.RayQueryVertexPositions f = false
row_joins s Rk.RayQueryProceedResult f = true
row_joins s Rk.RayQueryGetIntersection f = false
row_joins s Rk.SubgroupBallotResult f = true
row_joins s Rk.SubgroupOperationResult f = true
row_joins s Rk.CooperativeLoad f = true
row_joins s Rk.CooperativeMultiplyAdd f = true

-- by the family; members and components have no kind
abbrev pub joins_by : ℕ → Starts → Frame → Bool
joins_by family s f =
    get_or
    (true ∷ type_joins (type_kind_of (byte f 1)) ∷ true ∷ item_joins (item_kind_of (byte f 1)) ∷ row_joins s
    (row_kind_of (byte f 1)) f
    ∷ true ∷ [])
    family true

abbrev pub frame_joins : Starts → Frame → Bool
frame_joins s f = joins_by (byte f 0) s f

-- every frame passes
unfoldable pub joinable : List ℕ → Bool
joinable fr = all_below (λ (k : ℕ). frame_joins (starts_of fr) (frame_at fr k)) (frame_count fr)
