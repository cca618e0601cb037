-- EVERY ROW ANSWERS AS IT DID ALONE, in both passes, with numbers shifted, and so do verdicts and comparisons within
-- one kernel (document 02, request 14). By the law of moved numbers, for each of the two files.
use Prim.Native.Nat.{ℕ, ◌+◌, ◌-◌, ◌<◌}
use native.Mathlib.Omega.{arith}
use mathlib.Core.Path.{◌≡◌, refl, sym, ap, ◌∙◌}
use mathlib.Core.List.{List, map}
use mathlib.Core.Option.{Option, none, some}
use Rattle.ir.specs.declared.RowNumber.{RowNumber}
use Rattle.archive.specs.Starts.{starts_of, type_count, member_count, override_count, row_count}
use Rattle.rule.specs.Answers.{TypeAnswer, Result, Judgement, Compared}
use Rattle.rule.specs.Things.{see}
use Rattle.rule_types.specs.Comparison.{Sound, handed, given}
use Rattle.rule_rows.specs.declared.Pass.{Pass}
use Rattle.rule_compose.specs.Rows.{verdict_of}
use Rattle.rule_answers.specs.Outputs.{row_answer}
use Rattle.law_rows.proofs.Good.{Good}
use Rattle.law_moved.specs.Moves.{Moves, row_to, answer_to, typed_to, result_to, judged_to}
use Rattle.law_moved.proofs.Compared.{Undone}
use Rattle.law_moved.proofs.Unmoved.{answer-stays, result-stays, outcome-stays}
use Rattle.law_moved.proofs.Judged.{same-carried, all-carried, verdict-carried}
use Rattle.law_join.specs.Join.{join_moves, first_moves, join_file}
use Rattle.law_join.specs.Joinable.{Joinable}
use Rattle.law_join.proofs.First.{stay_all, first-carried}
use Rattle.law_join.proofs.Second.{second-carried}

module _ (fr gr : List ℕ) (good : Good fr) (also : Good gr) (jf : Joinable fr) (jg : Joinable gr) where
  abbrev J : List ℕ
  J = join_file fr gr

  abbrev m : Moves
  m = join_moves (starts_of fr)

  -- THE FIRST: nothing changes

  unmoved : Undone first_moves first_moves
  unmoved = record { types = λ n. refl; members = λ n. refl; overrides = λ n. refl }

  same_rows : (l : List RowNumber) → first_moves.parts l ≡ map (row_to first_moves) l
  same_rows l = refl

  pub first_rows : (pass : Pass) (n : ℕ) → n < row_count (starts_of fr) → row_answer pass (see (join_file fr gr)) n
      ≡ row_answer pass (see fr) n
  first_rows pass n l =
      all-carried first_moves first_moves unmoved fr J good (first-carried fr gr good also jf jg) pass
      (λ a b c. c) same_rows n l
      ∙ result-stays first_moves (stay_all fr gr good also) (row_answer pass (see fr) n)

  judged-stays : (pass : Pass) (o : Option (Result Judgement)) → judged_to first_moves o ≡ o
  judged-stays pass (some x) = ap some (outcome-stays first_moves (stay_all fr gr good also) x)
  judged-stays pass none = refl

  pub first-verdicts : (pass : Pass) (n : ℕ) → n < row_count (starts_of fr) → verdict_of pass (see (join_file fr gr)) n
      ≡ verdict_of pass (see fr) n
  first-verdicts pass n l =
      verdict-carried first_moves first_moves unmoved fr J good (first-carried fr gr good also jf jg) pass
      (λ a b c. c) same_rows n l ∙ judged-stays pass (verdict_of pass (see fr) n)

  pub first-compared : (a b : TypeAnswer) → Sound (starts_of fr) a → Sound (starts_of fr) b
      → given (join_file fr gr) (starts_of (join_file fr gr)) (handed a b) ≡ given fr (starts_of fr) (handed a b)
  first-compared a b x y =
      let sa = answer-stays first_moves (stay_all fr gr good also) a in
      let sb = answer-stays first_moves (stay_all fr gr good also) b in
      ap (λ (z : TypeAnswer). given J (starts_of J) (handed z b)) (sym sa)
      ∙ ap (λ (z : TypeAnswer). given J (starts_of J) (handed (answer_to first_moves a) z)) (sym sb)
      ∙ same-carried first_moves first_moves unmoved fr J good (first-carried fr gr good also jf jg) a b x y
      ∙ outcome-stays first_moves (stay_all fr gr good also) (given fr (starts_of fr) (handed a b))

  -- THE SECOND: its numbers are moved past the first's

  abbrev back : Moves
  back =
      record {
        types = λ (n : ℕ). n - type_count (starts_of fr);
        members = λ (n : ℕ). n - member_count (starts_of fr);
        constants = λ (n : ℕ). n;
        overrides = λ (n : ℕ). n - override_count (starts_of fr);
        globals = λ (n : ℕ). n;
        arguments = λ (n : ℕ). n;
        locals = λ (n : ℕ). n;
        functions = λ (n : ℕ). n;
        rows = λ (n : ℕ). n;
        components = λ (n : ℕ). n;
        counts = λ (n : ℕ). n;
        parts = λ (l : List RowNumber). l;
      }

  undone : Undone (join_moves (starts_of fr)) back
  undone = record { types = λ n. omega arith; members = λ n. omega arith; overrides = λ n. omega arith }

  moved-rows : (l : List RowNumber) → m.parts l ≡ map (row_to m) l
  moved-rows l = refl

  rises : (k n : ℕ) → k < n → m.rows k < m.rows n
  rises k n l = omega arith

  pub second-rows : (pass : Pass) (n : ℕ) → n < row_count (starts_of gr)
      → row_answer pass (see (join_file fr gr)) (n + row_count (starts_of fr))
      ≡ result_to (join_moves (starts_of fr)) (typed_to (join_moves (starts_of fr))) (row_answer pass (see gr) n)
  second-rows pass n l = all-carried m back undone gr J also
      (second-carried fr gr good also jf jg) pass rises moved-rows n l

  pub second-verdicts : (pass : Pass) (n : ℕ) → n < row_count (starts_of gr)
      → verdict_of pass (see (join_file fr gr)) (n + row_count (starts_of fr))
      ≡ judged_to (join_moves (starts_of fr)) (verdict_of pass (see gr) n)
  second-verdicts pass n l = verdict-carried m back undone gr J also
      (second-carried fr gr good also jf jg) pass rises moved-rows n l

  pub second-compared : (a b : TypeAnswer) → Sound (starts_of gr) a → Sound (starts_of gr) b
      → given (join_file fr gr) (starts_of (join_file fr gr))
      (handed (answer_to (join_moves (starts_of fr)) a) (answer_to (join_moves (starts_of fr)) b))
      ≡ result_to (join_moves (starts_of fr)) (λ (c : Compared). c) (given gr (starts_of gr) (handed a b))
  second-compared a b x y = same-carried m back undone gr J also (second-carried fr gr good also jf jg) a b x y
