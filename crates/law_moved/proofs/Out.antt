-- FRAMES HANDED BACK: the frame of a moved answer is the frame of the answer, moved, and so of a verdict whose row is
-- moved. Kind by kind: the number that is read from the frame is the one that was written, and every other byte stays.
-- Of answers and verdicts that rules of ours give.
use Prim.Native.Nat.{ℕ, ◌<◌}
use mathlib.Core.Path.{◌≡◌, refl}
use mathlib.Core.List.{List}
use mathlib.Core.Option.{some}
use Rattle.ir.specs.declared.TypeNumber.{TypeNumber}
use Rattle.ir.specs.declared.RowNumber.{RowNumber}
use Rattle.ir.specs.declared.ArraySize.{ArraySize}
use Rattle.ir.specs.declared.ArraySize.TheVariants as As
use Rattle.ir.specs.declared.TypeInner.{TypeInner}
use Rattle.ir.specs.declared.TypeInner.TheVariants as Ti
use Rattle.answers.specs.declared.Refusal.{Refusal}
use Rattle.answers.specs.declared.Refusal.TheVariants as R
use Rattle.frames.specs.Out.{type_frame}
use Rattle.frames.proofs.ReadBack.{half_back, word_back}
use Rattle.archive.specs.Starts.{starts_of, row_count}
use Rattle.rule.specs.Answers.{number, value, malformed, Typed, given, refused, chosen_refusal, row, component}
use Rattle.rule.specs.Answers.{composed}
use Rattle.rule.specs.Answers.{nowhere, chosen, Result, told, newer, Judgement, typed_frame, row_frame, verdict_frame}
use Rattle.rule.specs.Things.{see}
use Rattle.rule_rows.specs.declared.Pass.{Pass}
use Rattle.rule_compose.specs.Rows.{verdict_of}
use Rattle.rule_answers.specs.Outputs.{row_answer}
use Rattle.law_rows.proofs.Good.{Good}
use Rattle.law_rows.proofs.Ranged.{InRange}
use Rattle.law_rows.proofs.Range.{ours-in-range}
use Rattle.law_verdicts.specs.Numbers.{OurVerdict, it_passes, no_composed, other_count, other_part, broken_part}
use Rattle.law_verdicts.specs.Numbers.{newer_composed, newer_part}
use Rattle.law_verdicts.proofs.Numbers.{verdict-numbers}
use Rattle.law_moved.specs.Moves.{Moves, row_to, inner_to, refusal_to, typed_to, result_to}
use Rattle.law_moved.specs.Out.{moved_out}
use Rattle.law_moved.proofs.Alike.{Plain}

-- an answer that rules of ours give: a plain one, or newer at a row
abbrev pub OurAnswer : Result Typed → Type 0
OurAnswer (told t) = Plain t
OurAnswer (newer (row r)) = Unit {0}
OurAnswer (newer (component i)) = ⊥
OurAnswer (newer composed) = ⊥
OurAnswer (newer nowhere) = ⊥
OurAnswer (newer (chosen f)) = ⊥

in-range-ours : (pass : Pass) (fr : List ℕ) (n : ℕ) (x : Result Typed) → InRange pass fr n x → OurAnswer x
in-range-ours pass fr n (told (given (number t))) h = tt
in-range-ours pass fr n (told (given (value t))) h = tt
in-range-ours pass fr n (told (given (malformed f))) h = absurd h
in-range-ours pass fr n (told (refused e)) h = tt
in-range-ours pass fr n (told (chosen_refusal f)) h = absurd h
in-range-ours pass fr n (newer (row r)) h = tt
in-range-ours pass fr n (newer (component i)) h = absurd h
in-range-ours pass fr n (newer composed) h = absurd h
in-range-ours pass fr n (newer nowhere) h = absurd h
in-range-ours pass fr n (newer (chosen f)) h = absurd h

-- every row of an accepted file has such an answer
pub our-answer : (pass : Pass) (fr : List ℕ) → Good fr → (n : ℕ) → n < row_count (starts_of fr)
    → OurAnswer (row_answer pass (see fr) n)
our-answer pass fr good n l =
    in-range-ours pass fr n (row_answer pass (see fr) n) (ours-in-range pass fr good n l)

module _ (m : Moves) where
  -- ANSWERS

  array-out : (b : TypeNumber) (z : ArraySize) (t : ℕ) → type_frame 9 (inner_to m (Ti.Array b z t))
      ≡ moved_out m (type_frame 9 (Ti.Array b z t))
  unfolding moved_out
  array-out b (As.Constant n) t = rw (half_back b.0)
  array-out b (As.Pending o) t = rw (half_back b.0, word_back o.0)
  array-out b As.Dynamic t = rw (half_back b.0)

  binding-out : (b : TypeNumber) (z : ArraySize) → type_frame 9 (inner_to m (Ti.BindingArray b z))
      ≡ moved_out m (type_frame 9 (Ti.BindingArray b z))
  unfolding moved_out
  binding-out b (As.Constant n) = rw (half_back b.0)
  binding-out b (As.Pending o) = rw (half_back b.0, word_back o.0)
  binding-out b As.Dynamic = rw (half_back b.0)

  value_out : (t : TypeInner) → type_frame 9 (inner_to m t) ≡ moved_out m (type_frame 9 t)
  unfolding moved_out
  value_out (Ti.Scalar k) = refl
  value_out (Ti.Vector z k) = refl
  value_out (Ti.Matrix c r k) = refl
  value_out (Ti.CooperativeMatrix c r k o) = refl
  value_out (Ti.Atomic k) = refl
  value_out (Ti.Pointer b p) = rw (half_back b.0)
  value_out (Ti.ValuePointer z k p) = refl
  value_out (Ti.Array b z t) = array-out b z t
  value_out (Ti.Struct f n t) = rw (half_back f.0)
  value_out (Ti.Image d a c) = refl
  value_out (Ti.Sampler q) = refl
  value_out (Ti.AccelerationStructure q) = refl
  value_out (Ti.RayQuery q) = refl
  value_out (Ti.BindingArray b z) = binding-out b z

  refusal-out : (e : Refusal) → typed_frame (refused (refusal_to m e)) ≡ moved_out m (typed_frame (refused e))
  unfolding moved_out
  refusal-out (R.OutOfBoundsIndex r i) = rw (half_back r.0)
  refusal-out (R.InvalidAccess r q) = rw (half_back r.0)
  refusal-out (R.InvalidSubAccess t q) = rw (half_back t.0)
  refusal-out (R.InvalidScalar r) = rw (half_back r.0)
  refusal-out (R.InvalidVector r) = rw (half_back r.0)
  refusal-out (R.InvalidPointer r) = rw (half_back r.0)
  refusal-out (R.InvalidImage r) = rw (half_back r.0)
  refusal-out R.FunctionReturnsVoid = refl
  refusal-out R.IncompatibleOperands = refl
  refusal-out (R.FunctionArgumentNotFound i) = rw (word_back i)
  refusal-out R.MissingSpecialType = refl
  refusal-out R.Mismatch = refl

  -- THE FRAME OF A MOVED ANSWER is the answer's, moved
  pub answer-out : (x : Result Typed) → OurAnswer x → row_frame (result_to m (typed_to m) x) ≡ moved_out m (row_frame x)
  unfolding moved_out
  answer-out (told (given (number n))) h = rw (half_back n.0)
  answer-out (told (given (value t))) h = value_out t
  answer-out (told (given (malformed f))) h = absurd h
  answer-out (told (refused e)) h = refusal-out e
  answer-out (told (chosen_refusal f)) h = absurd h
  answer-out (newer (row r)) h = rw (half_back r.0)
  answer-out (newer (component i)) h = absurd h
  answer-out (newer composed) h = absurd h
  answer-out (newer nowhere) h = absurd h
  answer-out (newer (chosen f)) h = absurd h

  -- of a row of an accepted file
  pub row_out : (pass : Pass) (fr : List ℕ) → Good fr → (n : ℕ) → n < row_count (starts_of fr)
      → row_frame (result_to m (typed_to m) (row_answer pass (see fr) n))
      ≡ moved_out m (row_frame (row_answer pass (see fr) n))
  row_out pass fr good n l = answer-out (row_answer pass (see fr) n) (our-answer pass fr good n l)

  -- VERDICTS: their row moves, and nothing else of them does

  pub judged-out : (r : RowNumber) (parts : ℕ) (x : Result Judgement) → OurVerdict parts x
      → verdict_frame (row_to m r) x ≡ moved_out m (verdict_frame r x)
  unfolding moved_out
  judged-out r parts x it_passes = rw (half_back r.0)
  judged-out r parts x no_composed = rw (half_back r.0)
  judged-out r parts x (other_count e g h) = rw (half_back r.0)
  judged-out r parts x (other_part i h) = rw (half_back r.0)
  judged-out r parts x (broken_part i h) = rw (half_back r.0)
  judged-out r parts x newer_composed = rw (half_back r.0)
  judged-out r parts x (newer_part i h) = rw (half_back r.0)

  -- of a row of a file that has one
  pub verdict-out : (pass : Pass) (fr : List ℕ) (n : ℕ) (x : Result Judgement) → verdict_of pass (see fr) n ≡ some x
      → verdict_frame (row_to m (record { 0 = n })) x ≡ moved_out m (verdict_frame (record { 0 = n }) x)
  verdict-out pass fr n x h = let v = verdict-numbers pass fr n x h in
      judged-out (record { 0 = n }) _ x v.is
