-- 19 AND 20 IN THE TWO PASSES. A row answered so in one pass need not be in the other: the second pass reads the right
-- of every Binary row, the first of Multiply alone, and 41 hides a refusal that comes after it (`first_alone`,
-- `second-alone` below). But each comes from a row that lacks its own argument or special type, the row itself or an
-- earlier one, and such a row is answered so in both. So a file has a 19 of some index, or a 20, in one pass exactly
-- if it has it in the other, and 49 may go by either.
use Rattle.std.specs.Prelude.{Ok}
use Prim.Native.Nat.{ℕ, ◌<◌, ◌≤◌}
use native.Mathlib.Omega.{arith}
use mathlib.Core.Path.{◌≡◌, refl, ap, ◌∙◌, subst}
use mathlib.Core.List.{List, ◌++◌}
use mathlib.Core.Option.{some}
use Rattle.scan.specs.Lowest.{lowest, all_below}
use Rattle.scan.specs.Lists.{build, sum_below}
use Rattle.answers.specs.declared.Refusal.{Refusal}
use Rattle.answers.specs.declared.Refusal.TheVariants as R
use Rattle.frames.specs.Bytes.{frame_at}
use Rattle.frames.specs.Forms.{type_of, item_of, row_of, member_of, component_of, fields_fit}
use Rattle.frames.specs.Written.{marked, indexed, binary}
use Rattle.archive.specs.Order.{order_ok}
use Rattle.archive.specs.Starts.{start, starts_of, row_count}
use Rattle.archive.specs.Names.{names_ok}
use Rattle.archive.specs.Parts.{early_ok}
use Rattle.archive.specs.Checks.{index_ok, check_frames}
use Rattle.archive.specs.Access.{type_in, row_in}
use Rattle.rule.specs.Answers.{refused, told}
use Rattle.rule.specs.Things.{Shown, kind, listed, see}
use Rattle.rule_rows.specs.declared.Pass.{Pass}
use Rattle.rule_rows.specs.declared.Pass.TheVariants as Pa
use Rattle.rule_answers.specs.Outputs.{row_answer}
use Rattle.law_rows.proofs.Good.{Good}
use Rattle.law_join.proofs.Lacking.{Lacks, ResultFrom, answer-from, argument-own, return-own, intersection-own}

-- row n is answered with this refusal
abbrev pub Refuses : Pass → List ℕ → ℕ → Refusal → Type 0
Refuses pass fr n e = row_answer pass (see fr) n ≡ told (refused e)

-- some row is
pub record Somewhere (pass : Pass) (fr : List ℕ) (e : Refusal) : Type 0 where
  pub place : ℕ
  pub there : place < row_count (starts_of fr)
  pub is : Refuses pass fr place e

-- row n itself, or an earlier row, is answered so in both passes
pub record BothBy (fr : List ℕ) (n : ℕ) (e : Refusal) : Type 0 where
  pub place : ℕ
  pub early : place ≤ n
  pub is : (pass : Pass) → Refuses pass fr place e

module _ (fr : List ℕ) (good : Good fr) where
  abbrev Argument : ℕ → ℕ → Type 0
  Argument n i = BothBy fr n (R.FunctionArgumentNotFound i)

  abbrev Special : ℕ → Type 0
  Special n = BothBy fr n R.MissingSpecialType

  says : (n k : ℕ) (x : Shown) → k ≤ n → see fr (kind (record { 0 = k })) ≡ some x
      → Lacks (Argument n) (Special n) x
  says n k x l q =
      record {
        no-argument = λ i e. record {
          place = k;
          early = l;
          is = λ pass. argument-own pass (see fr) k i (q ∙ ap some e);
        };
        no_return = λ e. record { place = k; early = l; is = λ pass. return-own pass (see fr) k (q ∙ ap some e) };
        no-intersection = λ e. record {
          place = k;
          early = l;
          is = λ pass. intersection-own pass (see fr) k (q ∙ ap some e);
        };
      }

  module _ (pass : Pass) (n : ℕ) (there : n < row_count (starts_of fr)) where
    came : ResultFrom (Argument n) (Special n) (row_answer pass (see fr) n)
    came = answer-from (Argument n) (Special n) pass fr good n there (says n)

    -- a row answered 19 has it from one that is in both passes
    pub argument-both : (i : ℕ) → Refuses pass fr n (R.FunctionArgumentNotFound i)
        → BothBy fr n (R.FunctionArgumentNotFound i)
    argument-both i e = subst (ResultFrom (Argument n) (Special n)) e came

    -- and so a row answered 20
    pub special-both : Refuses pass fr n R.MissingSpecialType → BothBy fr n R.MissingSpecialType
    special-both e = subst (ResultFrom (Argument n) (Special n)) e came

  from-both : (pass : Pass) (e : Refusal) (n : ℕ) → n < row_count (starts_of fr) → BothBy fr n e → Somewhere pass fr e
  from-both pass e n l b = let w = b.early in record { place = b.place; there = omega arith; is = b.is pass }

  -- SOMEWHERE IN ONE PASS, SOMEWHERE IN THE OTHER
  pub argument-somewhere : (one other : Pass) (i : ℕ) → Somewhere one fr (R.FunctionArgumentNotFound i)
      → Somewhere other fr (R.FunctionArgumentNotFound i)
  argument-somewhere one other i h = from-both other _ h.place h.there
      (argument-both one h.place h.there i h.is)

  pub special-somewhere : (one other : Pass) → Somewhere one fr R.MissingSpecialType
      → Somewhere other fr R.MissingSpecialType
  special-somewhere one other h = from-both other _ h.place h.there
      (special-both one h.place h.there h.is)

-- ROW BY ROW IT IS NOT SO. A file of six rows: 0 an argument that is not there, 1 an F32, 2 an I32, 3 adds 1 and 0,
-- 4 adds 1 and 2, 5 multiplies 4 by 0
abbrev pub parted : List ℕ
parted = indexed 10 0 0 ++ marked 1 0 1 ++ marked 1 0 6 ++ binary 0 1 0 ++ binary 0 1 2 ++ binary 2 4 0

-- it is accepted
pub parted-accepted : check_frames parted ≡ Ok 6
unfolding lowest all_below build sum_below frame_at type_of item_of row_of member_of component_of fields_fit order_ok
    start starts_of names_ok early_ok index_ok check_frames
parted-accepted = refl

-- row 3 is 19 in the second pass, and has a type in the first
pub second-alone : Refuses Pa.Second parted 3 (R.FunctionArgumentNotFound 0)
unfolding listed type_in row_in frame_at type_of member_of item_of row_of component_of start starts_of lowest
    all_below build sum_below
second-alone = refl

pub second-not-first : Refuses Pa.First parted 3 (R.FunctionArgumentNotFound 0) → ⊥
unfolding listed type_in row_in frame_at type_of member_of item_of row_of component_of start starts_of lowest
    all_below build sum_below
second-not-first e = let z : ◌≡◌ {A = ℕ} 0 1 = cc in omega arith

-- row 5 is 19 in the first pass, and 41 in the second
pub first_alone : Refuses Pa.First parted 5 (R.FunctionArgumentNotFound 0)
unfolding listed type_in row_in frame_at type_of member_of item_of row_of component_of start starts_of lowest
    all_below build sum_below
first_alone = refl

pub first-not-second : Refuses Pa.Second parted 5 R.Mismatch
unfolding listed type_in row_in frame_at type_of member_of item_of row_of component_of start starts_of lowest
    all_below build sum_below
first-not-second = refl
