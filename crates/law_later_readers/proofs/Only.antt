-- The claim leaves nothing open: two readers that meet it give the same bytes for every row, compose and comparison of
-- every accepted text, since the reading says which bytes these are. So exactly the readers that agree with ours meet
-- it, and every other is shut out.
use Prim.Native.Nat.{ℕ}
use mathlib.Core.Path.{◌≡◌, refl, sym, ◌∙◌}
use mathlib.Core.List.{List}
use mathlib.Core.Logic.{◌↔◌}
use mathlib.Core.Option.{Option, none, some}
use Rattle.text.specs.Lines.{decoded}
use Rattle.frames.specs.Bytes.{zero_frame}
use Rattle.rule.specs.Answers.{Place, alike, told}
use Rattle.rule_rows.specs.declared.Pass.{Pass}
use Rattle.law_later_readers.specs.Reader.{Reader, Choice, Kept, Keeps, IsAccepted, Claim, Agree}
use Rattle.law_later_readers.specs.Ours.{frames_for, answers_for, by_buffer}
use Rattle.law_later_readers.proofs.Ours.{just_enough, type-rows-keeps}

-- any choice will do
pub choice : Choice
choice = record { rows = λ m. zero_frame; verdicts = λ m. zero_frame; same = λ a b. told alike }

one : {family : ℕ} {newer_at : Place → List ℕ} (met : Option Place) {b c theirs : List ℕ}
    → Kept family newer_at met b theirs
    → Kept family newer_at met c theirs → b ≡ c
one none j k = j.equal refl ∙ sym (k.equal refl)
one (some p) j k = j.place p refl ∙ sym (k.place p refl)

agree : (pass : Pass) (r s : Reader) (t fr : List ℕ) → Keeps pass r t fr choice → Keeps pass s t fr choice
    → Agree r s t fr
agree pass r s t fr j k = record {
  rows = λ m h. one _ (j.rows m h) (k.rows m h);
  verdicts = λ m h rule e. one _ (j.verdicts m h rule e) (k.verdicts m h rule e);
  same = λ a b. one _ (j.same a b) (k.same a b);
}

-- what a reader keeps, every reader that agrees with it keeps
keeps-too : (pass : Pass) (r s : Reader) (t fr : List ℕ) (c : Choice) → Agree r s t fr → Keeps pass s t fr c
    → Keeps pass r t fr c
keeps-too pass r s t fr c g k = record {
  rows = λ m h. rw (g.rows m h) (k.rows m h);
  verdicts = λ m h rule e. rw (g.verdicts m h rule e) (k.verdicts m h rule e);
  same = λ a b. rw (g.same a b) (k.same a b);
}

-- ours, with buffers of just the size
abbrev ours : Pass → ℕ → Reader
ours pass limit = by_buffer pass limit frames_for answers_for

pub only-ours : (pass : Pass) (limit : ℕ) (r : Reader)
    → Claim pass limit r ↔ ((t : List ℕ) (n : ℕ) → IsAccepted limit t n → Agree r (ours pass limit) t (decoded t n))
only-ours pass limit r = (
  λ claim t n a. agree pass r (ours pass limit) t (decoded t n) (claim t n a choice)
      (type-rows-keeps pass limit frames_for answers_for just_enough t n a choice),
  λ g t n a c. keeps-too pass r (ours pass limit) t (decoded t n) c (g t n a)
      (type-rows-keeps pass limit frames_for answers_for just_enough t n a c),
)
