-- `same_type`: what it asks of the frames is asked of the text.
use Rattle.std.specs.Prelude.{Ok}
use Rattle.std.proofs.Common.{rules, ℕ, List, ◌≡◌, ◌*◌, length, take, ap}
use Rattle.text.specs.declared.AnswerRoom.TheVariants.{NotLent}
use Rattle.frames.specs.declared.Frame.{Frame}
use Rattle.archive.specs.declared.Starts.{Starts}
use Rattle.archive.specs.Starts.{starts_of}
use Rattle.answers.specs.Outcome.{Outcome}
use Rattle.answers.specs.Asked.{Sameness, sameness_error}
use Rattle.answers.specs.Numbers.{sameness_said}
use Rattle.rule_types.specs.Comparison.{same_in, same_type, sameness_of}
use Rattle.rule_file.specs.File.{read_file, frames_after}
use Rattle.rule_file.specs.Types.{same_types}
use Rattle.law_file.proofs.Over.{given}
use Rattle.file_read.proofs.same_type.Goals as goal

-- n frames were read as r, and the part lent on is x: what comparing gives there is what it gives of the text
asked : (limit : ℕ) (t fr last x : List ℕ) (s : Starts) (n : ℕ) (left right : Frame) (r : Outcome) (a : Sameness)
    → r ≡ read_file limit t (length fr) NotLent → last ≡ frames_after limit t fr NotLent
    → x ≡ take (16 * n) last → s ≡ starts_of x → a ≡ sameness_of (same_in x s left right) → r ≡ Ok n
    → a ≡ same_types limit t (length fr) left right
unfolding same_types same_type
asked limit t fr last x s n left right r a e el ex es ea en =
    given limit t fr last NotLent r (e, (tt {0}, el)) en ex sameness_error
    (λ (y : List ℕ). sameness_of (same_type y left right)) (rw es at ea)

pub returns-clause-outcome : goal.returns-clause-outcome
returns-clause-outcome c =
    let e = c.read_file.ensures in
    asked _ _ _ _ _ _ _ _ _ _ _ e.outcome e.frames c.first_frames-fr.ensures c.find_starts.ensures
    c.same_type.ensures (search rules)

pub returns-clause-said : goal.returns-clause-said
returns-clause-said c = ap sameness_said (returns-clause-outcome c)
