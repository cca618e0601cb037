-- Access and AccessIndex in a file: where the first gives a type, the second gives the same, or number 10. For every
-- base by `parts-agree` (rule_rows); and for two rows of an accepted text, since the base is an earlier row of both,
-- and has one answer. For each pass.
use Rattle.std.specs.Prelude.{Ok, None}
use Prim.Native.Nat.{ℕ, ◌+◌, ◌<◌}
use mathlib.Core.Path.{◌≡◌, refl, sym, ap, ◌∙◌}
use mathlib.Core.Bool.{Bool, true, false, cond}
use mathlib.Core.List.{List}
use mathlib.Core.Option.{Option, none, some}
use Rattle.ir.specs.declared.RowNumber.{RowNumber}
use Rattle.answers.specs.declared.Refusal.{Refusal}
use Rattle.answers.specs.declared.Refusal.TheVariants.{OutOfBoundsIndex}
use Rattle.text.specs.declared.AnswerRoom.TheVariants.{Lent}
use Rattle.text.specs.Lines.{decoded}
use Rattle.frames.specs.declared.Frame.{Frame}
use Rattle.frames.specs.Bytes.{frame_at}
use Rattle.frames.specs.Forms.{row_of}
use Rattle.archive.specs.Starts.{starts_of}
use Rattle.archive.specs.Names.{is_row}
use Rattle.archive.specs.Access.{row_in}
use Rattle.rule.specs.Answers.{TypeAnswer, Typed, given, refused, Place, Result, told, newer}
use Rattle.rule.specs.Things.{Shown, kind, see_row, see}
use Rattle.rule.specs.Things as Row
use Rattle.rule.specs.Rule.{Answers, run}
use Rattle.rule.specs.InOrder.{absent, among, answers}
use Rattle.rule.proofs.InOrder.{in-order-at}
use Rattle.rule_types.proofs.Seen.{never}
use Rattle.rule_rows.specs.declared.Pass.{Pass}
use Rattle.rule_rows.specs.Typed.{resolve, typing}
use Rattle.rule_rows.specs.Parts.{Agrees, same, out_of_bounds}
use Rattle.rule_rows.proofs.Parts.{parts-agree}
use Rattle.law_rows.proofs.Good.{Good}
use Rattle.law_rows.specs.Reads.{reads}
use Rattle.law_rows.proofs.NoDefault.{Earlier, operands-earlier}
use Rattle.rule_answers.specs.Outputs.{row_answer}
use Rattle.rule_file.specs.File.{over_file, read_file}
use Rattle.rule_file.specs.Typing.{RowGiven, answer, no_row, not_accepted, row_given, row_type}
use Rattle.law_file.proofs.Laws.{accepted-when}
use Rattle.law_equality.specs.Parts.{always, over_base, RowAgrees, agrees}

-- WHAT THAT SAYS: if both give a type it is the same; a refusal is number 10, with the base's row and the index; and 22
-- is not given
pub both-given : {base : RowNumber} {i : ℕ} {x : TypeAnswer} {r : Result Typed} → Agrees base i x r → (y : TypeAnswer)
    → r ≡ told (given y) → x ≡ y
both-given same y e = cc
both-given out_of_bounds y e = never (cc)

pub refused-bound : {base : RowNumber} {i : ℕ} {x : TypeAnswer} {r : Result Typed} → Agrees base i x r → (w : Refusal)
    → r ≡ told (refused w) → w ≡ OutOfBoundsIndex base i
refused-bound same w e = never (cc)
refused-bound out_of_bounds w e = cc

pub not-newer : {base : RowNumber} {i : ℕ} {x : TypeAnswer} {r : Result Typed} → Agrees base i x r → (p : Place)
    → r ≡ newer p → ⊥
not-newer same p e = never (cc)
not-newer out_of_bounds p e = never (cc)

-- FOR EVERY BASE: whatever frame is its answer
pub base_agrees : (fr : List ℕ) (a : Frame) (pass : Pass) (here there base : RowNumber) (i : ℕ) (x : TypeAnswer)
    → over_base fr a (resolve pass here (Row.access base)) ≡ told (given x)
    → Agrees base i x (over_base fr a (resolve pass there (Row.access_index base i)))
base_agrees fr a pass here there base i x e = parts-agree base i (see fr) (always a) (always a) here there x refl e

-- TWO ROWS OF AN ACCEPTED TEXT
module _ (pass : Pass) (limit : ℕ) (t : List ℕ) (f a n : ℕ) (e : read_file limit t f (Lent a) ≡ Ok n) where
  abbrev fr : List ℕ
  fr = decoded t n

  good : Good fr
  good =
      let q = (accepted-when limit t f (Lent a) n).0 e in
      record { order = q.order; fields = q.fields; index = q.index }

  abbrev before : RowNumber → Answers
  before m = among (answers (see fr) (typing pass) (λ k. newer) m.0)

  -- a row that shows something is there
  shown-there : (m : RowNumber) (x : Shown) → see fr (kind m) ≡ some x → is_row (starts_of fr) m ≡ true
  unfolding row_in
  shown-there m x q = go (is_row (starts_of fr) m) q
    where
      go : (b : Bool)
          → see_row fr (starts_of fr) (cond b (row_of (frame_at fr ((starts_of fr).rows + m.0))) None) ≡ some x
          → b ≡ true
      go true w = refl
      go false w = never (cc)

  -- what `row_type` gives for it
  row_is : (m : RowNumber) (x : Shown) → see fr (kind m) ≡ some x
      → row_type pass limit t f a m ≡ answer (run (see fr) (before m) newer (resolve pass m x))
  unfolding row_type
  row_is m x q =
      ap (over_file not_accepted (row_given pass m) t) e
      ∙ ap (λ (b : Bool). cond b (answer (row_answer pass (see fr) m.0)) no_row) (shown-there m x q)
      ∙ rw (q, run)

  -- an earlier row has one answer for all rows after it
  one_answer : (m base : RowNumber) → base.0 < m.0 → before m base ≡ row_answer pass (see fr) base.0
  one_answer m base h = in-order-at _ (told absent) m.0 base.0 h

  pub rows_agree : (m k base : RowNumber) (i : ℕ) → see (decoded t n) (kind m) ≡ some (Row.access base)
      → see (decoded t n) (kind k) ≡ some (Row.access_index base i) → (x : TypeAnswer)
      → row_type pass limit t f a m ≡ answer (told (given x)) → RowAgrees base i x (row_type pass limit t f a k)
  rows_agree m k base i q w x g =
      rw (row_is k (Row.access_index base i) w) (agrees _ (parts-agree base i (see fr) (before m) (before k) m k x one
      (given-of (sym (row_is m (Row.access base) q) ∙ g))))
    where
      early : (j : RowNumber) (y : Shown) → see fr (kind j) ≡ some y → Earlier j (reads pass y).operands
      early j y z = operands-earlier pass fr j good (shown-there j y z) y z

      one : before m base ≡ before k base
      one =
          one_answer m base (early m (Row.access base) q).0
          ∙ sym (one_answer k base (early k (Row.access_index base i) w).0)

      given-of : {u v : Result Typed} → answer u ≡ answer v → u ≡ v
      given-of z = cc
