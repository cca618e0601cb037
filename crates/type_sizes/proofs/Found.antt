-- What is found of a type by what it needs is its measure, and a table keeps it. The members of a struct, one more at
-- each turn, stand for the exact ones, so the struct is the exact one.
use Rattle.std.specs.Prelude.{Option}
use Rattle.ir.specs.declared.TypeInner.{TypeInner}
use Prim.Native.Nat.{ℕ, ◌<◌, ◌+◌}
use native.Mathlib.Numerals.{add-one}
use mathlib.Core.Path.{◌≡◌, sym, ap, ◌∙◌}
use mathlib.Core.Bool.{Bool, true, false}
use mathlib.Core.List.{List}
use borrow.Author.Tests.{ne_eqb}
use Rattle.ir.specs.declared.TypeNumber.{TypeNumber}
use Rattle.ir.specs.declared.MemberNumber.{MemberNumber}
use Rattle.ir.specs.declared.StructMember.{StructMember}
use Rattle.frames.specs.declared.Frame.{Frame}
use Rattle.frames.specs.Bytes.{frame_at, put_frame}
use Rattle.archive.specs.declared.Starts.{Starts}
use Rattle.archive.specs.Access.{type_in, member_in}
use Rattle.rule_sizes.specs.declared.Alignment.TheVariants.{Two}
use Rattle.rule_sizes.specs.declared.Measure.{Measure}
use Rattle.rule_sizes.specs.Sizes.{array_of, parts_of, measure_frame}
use Rattle.rule_sizes.specs.Sizes.{measure_of}
use Rattle.rule_sizes.proofs.Laws.{known-put}
use Rattle.rule_ranges.specs.Pending.{look_holds}
use Rattle.rule_ranges.specs.Counts.{fresh_parts, form_by, measure_by}
use Rattle.rule_ranges.specs.Ranges.{counts_of}
use Rattle.rule_ranges.specs.Ranges.{measure_marked}
use Rattle.rule_ranges.specs.ForProofs.{earlier, KnownMarked, parts_by}
use Rattle.size_steps.specs.declared.SoFar.{SoFar}
use Rattle.size_steps.specs.declared.SoFar.TheVariants as C
use Rattle.size_steps.specs.SoFar.{member_more, struct_by}
use Rattle.size_steps.specs.Exact.{Like, laid}
use Rattle.size_steps.proofs.Exact.{member-like, struct-like}
use Rattle.size_needs.specs.declared.Needs.{Needs}
use Rattle.size_needs.specs.declared.Needs.TheVariants.{Element, Members}
use Rattle.size_needs.specs.Needs.{needs_of, by_needs}
use Rattle.size_needs.proofs.Measured.{by-needs}

-- after i members
pub record Turn (fr : List ℕ) (s : Starts) (marks : List Bool) (counts : List ℕ) (n : TypeNumber)
    (first : MemberNumber) (afresh : Bool) (table : List ℕ) (so_far : SoFar) (i : ℕ) : Type 0 where
  pub like : Like afresh (parts_by afresh fr s (earlier fr s marks counts n) first i) so_far
  pub known : KnownMarked fr s marks counts table

module _ (fr : List ℕ) (s : Starts) (past : TypeNumber → Measure) where
  -- no member yet
  pub none_yet : (first : MemberNumber) (afresh : Bool)
      → Like afresh (parts_by afresh fr s past first 0) (C.Laid Two 0 true)
  unfolding parts_of fresh_parts
  none_yet first true = laid
  none_yet first false = laid

  -- one member more
  pub one_more : (first : MemberNumber) (afresh : Bool) (i : ℕ) (p : SoFar) (m : StructMember) (e : Measure) (r : SoFar)
      → Like afresh (parts_by afresh fr s past first i) p → m.offset < 4294967296 → m ≡ member_in fr s first i
      → e ≡ past m.ty → r ≡ member_more afresh p m.offset e
      → Like afresh (parts_by afresh fr s past first (i + 1)) r
  unfolding parts_of fresh_parts
  one_more first true i p m e r h l k g j = rw (add-one i, j, ← k, ← g) (member-like true m.offset e h l)
  one_more first false i p m e r h l k g j = rw (add-one i, j, ← k, ← g) (member-like false m.offset e h l)

  -- an array by its element
  pub array-by : (n b : TypeNumber) (count stride : ℕ) (e m : Measure) → m ≡ array_of n e count stride → e ≡ past b
      → m ≡ by_needs fr s past n (Element b count stride)
  array-by n b count stride e m h k = rw (h, k)

  -- a struct by its members
  pub struct-by : (n : TypeNumber) (first : MemberNumber) (count span : ℕ) (afresh : Bool) (p : SoFar) (m : Measure)
      → m ≡ struct_by afresh n p count span → Like afresh (parts_by afresh fr s past first count) p → span < 4294967296
      → m ≡ by_needs fr s past n (Members first count span afresh)
  struct-by n first count span true p m e h l = e ∙ struct-like true n count span h l
  struct-by n first count span false p m e h l = e ∙ struct-like false n count span h l

module _ (fr : List ℕ) (s : Starts) (marks : List Bool) (counts : List ℕ) where
  -- what the table has
  pub held : (t : List ℕ) (n : TypeNumber) (f : Frame) → KnownMarked fr s marks counts t → f ≡ frame_at t n.0
      → (f.b0 ≡ 0 → ⊥) → measure_of f ≡ measure_marked fr s marks counts n
  held t n f k e h = rw e (k n.0 (ne_eqb _ 0 (λ z. h (ap (λ (x : Frame). x.b0) e ∙ z))))

  -- what is found by needs d
  found : (n : TypeNumber) (m : Measure) (x : Option TypeInner) (d : Needs)
      → m ≡ by_needs fr s (earlier fr s marks counts n) n d → d ≡ needs_of (look_holds marks) (counts_of counts) n x
      → x ≡ type_in fr s n → m ≡ measure_marked fr s marks counts n
  unfolding measure_by
  found n m x d h k e =
      h ∙ ap (by_needs fr s (earlier fr s marks counts n) n) k
      ∙ sym (by-needs fr s (look_holds marks) (counts_of counts) (earlier fr s marks counts n) n x)
      ∙ ap (form_by fr s (look_holds marks) (counts_of counts) (earlier fr s marks counts n) n) e

  -- and kept: r is handed back, and table t is u then
  pub found-kept : (t u : List ℕ) (n : TypeNumber) (m r : Measure) (x : Option TypeInner) (d : Needs)
      → KnownMarked fr s marks counts t → m ≡ by_needs fr s (earlier fr s marks counts n) n d
      → d ≡ needs_of (look_holds marks) (counts_of counts) n x → x ≡ type_in fr s n
      → (r ≡ m) × (u ≡ put_frame t n.0 (measure_frame m))
      → (r ≡ measure_marked fr s marks counts n) × KnownMarked fr s marks counts u
  found-kept t u n m r x d w h k e g =
      let q = found n m x d h k e in
      (g.0 ∙ q, rw g.1 (known-put (measure_marked fr s marks counts) t n m w q))
