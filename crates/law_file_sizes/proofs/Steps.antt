-- One entry of the least or of the greatest table raised by one, in what `size_range` gives of a text. From the same
-- laws of the text's frames: an accepted text has at most 1,024 overrides, so the entry is in the table.
use Rattle.rule_ranges.specs.declared.RangeError.TheVariants as Ge
use Rattle.std.specs.Prelude.{Some, Ok, Err}
use Prim.Native.Nat.{ℕ, suc, ◌+◌, ◌≤◌, ◌<◌}
use native.Mathlib.Omega.{arith}
use mathlib.Core.Path.{◌≡◌, refl, ap, ◌∙◌}
use mathlib.Core.Bool.{Bool, false, cond, ◌||◌}
use mathlib.Core.List.{List}
use lib.Dec.{ltb}
use lib.ListN.{length, length-set}
use lib.Seq.{get_or-set_same, get_or-set_other}
use borrow.Author.Tests.{ltb-false}
use Rattle.ir.specs.declared.TypeNumber.{TypeNumber}
use Rattle.ir.specs.declared.ItemNumber.{ItemNumber}
use Rattle.ir.specs.declared.MemberNumber.{MemberNumber}
use Rattle.ir.specs.declared.ArraySize.TheVariants as As
use Rattle.ir.specs.declared.TypeInner.TheVariants as Ti
use Rattle.text.specs.declared.AnswerRoom.TheVariants.{NotLent}
use Rattle.text.specs.Lines.{line_count}
use Rattle.text.proofs.Laws.{count_small}
use Rattle.archive.specs.Starts.{starts_of, override_count}
use Rattle.archive.specs.Access.{type_at}
use Rattle.archive.proofs.Ranks.{begins}
use Rattle.law_rows.proofs.Good.{Good}
use Rattle.rule_sizes.specs.declared.Alignment.{Alignment}
use Rattle.rule_sizes.specs.Wgsl.{round_up}
use Rattle.rule_sizes.specs.Meaning.{struct_member}
use Rattle.law_sizes.proofs.Folded.{never}
use Rattle.rule_ranges.specs.declared.Range.TheVariants.{Spans}
use Rattle.rule_ranges.specs.TypeRange.{TypeRange}
use Rattle.rule_ranges.specs.Ranges.{counts_of, type_range_in}
use Rattle.rule_ranges.specs.Meaning.{Over, Raised, Beside, sum, spans_or_huge, GreatestSteps, LeastSteps}
use Rattle.law_ranges.proofs.Free.{over-there}
use Rattle.law_ranges.proofs.Raised as R
use Rattle.law_file.proofs.Laws.{Accepts, accepted-when, count-decoded}
use Rattle.rule_file_sizes.specs.Ranges.{size_range}
use Rattle.law_file_sizes.specs.Means.{Read}
use Rattle.law_file_sizes.specs.Steps.{text_frames, raised_at}
use Rattle.law_file_sizes.proofs.Means.{good-text, said-when}

or-false : (a b : Bool) → (a || b) ≡ false → (a ≡ false) × (b ≡ false)
or-false Bool.true b e = never (cc)
or-false false b e = (refl, e)

-- an entry raised is the count raised
entry-raised : (fr table : List ℕ) (o : ItemNumber) → o.0 < length table
    → Raised fr o (counts_of table) (counts_of (raised_at o table))
entry-raised fr table o l = record {
  one = get_or-set_same table o.0 (suc (counts_of table o)) 0 l;
  others = λ p i q. get_or-set_other table o.0 p.0 (suc (counts_of table o)) 0
      (λ e. q (ap (λ (x : ℕ). record { 0 = x }) e));
}

overrides-few : (limit : ℕ) (t : List ℕ) (f : ℕ) → Accepts limit t f NotLent (line_count t)
    → override_count (starts_of (text_frames t)) ≤ 1024
unfolding starts_of
overrides-few limit t f a =
    omega (arith, (begins (text_frames t) 771).within, count-decoded t (line_count t), count_small a.readable)

module _ (limit : ℕ) (t : List ℕ) (f : ℕ) (least greatest : List ℕ) (n : TypeNumber) (a : Alignment) (y z : ℕ)
    (e : size_range limit t f least greatest n ≡ Ok (Spans a y z)) where
  abbrev fr : List ℕ
  fr = text_frames t

  abbrev at : List ℕ → List ℕ → TypeRange
  at low high = type_range_in fr (starts_of fr) (counts_of low) (counts_of high) n

  read : Read limit t f least greatest
      (λ x. type_range_in x (starts_of x) (counts_of least) (counts_of greatest) n ≡ Ok (Spans a y z))
  read = (said-when limit t f least greatest n (Ok (Spans a y z)) (λ o q. never (cc))).0 e

  lines : read.frames ≡ line_count t
  lines = read.accepted.readable.count

  accepted : Accepts limit t f NotLent (line_count t)
  accepted = rw lines at read.accepted

  good : Good fr
  good = good-text limit t f (line_count t) accepted

  is : at least greatest ≡ Ok (Spans a y z)
  is = rw lines at read.holds

  long : (1024 ≤ length least) × (1024 ≤ length greatest)
  long =
      let h = or-false (ltb (length least) 1024) (ltb (length greatest) 1024) read.tables in
      (ltb-false (length least) 1024 h.0, ltb-false (length greatest) 1024 h.1)

  -- with other tables of the same lengths
  again : (low high : List ℕ) → length low ≡ length least → length high ≡ length greatest
      → size_range limit t f low high n ≡ at low high
  unfolding size_range
  again low high p q = rw (p, q, read.tables, (accepted-when limit t f NotLent (line_count t)).1 accepted)

  module _ (o : ItemNumber) (l : o.0 < override_count (starts_of fr)) where
    few : override_count (starts_of fr) ≤ 1024
    few = overrides-few limit t f accepted

    high-raised : Raised fr o (counts_of greatest) (counts_of (raised_at o greatest))
    high-raised = entry-raised fr greatest o (omega (arith, l, few, long.1))

    low-raised : Raised fr o (counts_of least) (counts_of (raised_at o least))
    low-raised = entry-raised fr least o (omega (arith, l, few, long.0))

  -- AN ARRAY over override o: its greatest size moves by exactly the stride, or it is 44 itself; its least size moves
  -- by exactly the stride, or the least count is above the greatest now, 45
  module _ (o : ItemNumber) (b : TypeNumber) (stride : ℕ)
      (g : type_at (text_frames t) n ≡ Some (Ti.Array b (As.Pending o) stride)) where
    inside : o.0 < override_count (starts_of fr)
    inside = over-there fr good o n (Over.pending o n b stride g)

    pub greatest-array-steps : size_range limit t f least (raised_at o greatest) n
        ≡ Ok (spans_or_huge n a y (z + stride))
    greatest-array-steps =
        again least (raised_at o greatest) refl (length-set greatest o.0 _)
        ∙ R.greatest-array fr good o (counts_of least) (counts_of greatest) n a y z is _ (high-raised o inside) b stride
        g

    pub least-array-steps : size_range limit t f (raised_at o least) greatest n
        ≡ cond (ltb (counts_of least o) (counts_of greatest o)) (Ok (Spans a (y + stride) z)) (Err (Ge.Span o.0))
    least-array-steps =
        again (raised_at o least) greatest (length-set least o.0 _) refl
        ∙ R.least-array fr good o (counts_of least) (counts_of greatest) n a y z is _ (low-raised o inside) b stride g

  -- A STRUCT with arrays over override o directly among its members, and no other member over it: its greatest size
  -- moves by no more than the sum of their strides, each rounded up to the struct's alignment, or there is 44; and so
  -- its least, or there is 45
  module _ (o : ItemNumber) (l : o.0 < override_count (starts_of (text_frames t))) (first : MemberNumber)
      (count span : ℕ)
      (g : type_at (text_frames t) n ≡ Some (Ti.Struct first count span)) (strides : ℕ → ℕ)
      (each : (i : ℕ) → i < count
      → Beside (text_frames t) o (struct_member (text_frames t) first i).ty (strides i)) where
    pub greatest-struct-steps : GreatestSteps a y z (sum (λ i. round_up a (strides i)) count)
        (size_range limit t f least (raised_at o greatest) n)
    greatest-struct-steps =
        rw (again least (raised_at o greatest) refl (length-set greatest o.0 _))
        (R.greatest-struct fr good o (counts_of least) (counts_of greatest) n a y z is _ (high-raised o l) first count
        span g strides each)

    pub least-struct-steps : LeastSteps o a y z (sum (λ i. round_up a (strides i)) count)
        (size_range limit t f (raised_at o least) greatest n)
    least-struct-steps =
        rw (again (raised_at o least) greatest (length-set least o.0 _) refl)
        (R.least-struct fr good o (counts_of least) (counts_of greatest) n a y z is _ (low-raised o l) l first count
        span
        g strides each)
