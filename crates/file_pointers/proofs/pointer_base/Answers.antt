-- `pointer_base`: what it asks of the frames is asked of the text.
use Rattle.std.proofs.lemmas.Result.{err_from_is_err_and}
use Rattle.answers.specs.Asked.{base_error}
use Rattle.std.proofs.Common.{ℕ, List, ap}
use Rattle.answers.specs.Numbers.{base_said}
use Rattle.archive.specs.Starts.{starts_of}
use Rattle.rule_types.specs.Canonical.{pointer_base_in}
use Rattle.rule_file.specs.Forms.{pointer_base_type}
use Rattle.law_file.proofs.Over.{refused, given}
use Rattle.file_pointers.proofs.pointer_base.Goals as goal

pub returns-in_err-k : goal.returns-in_err-k
unfolding pointer_base_type
returns-in_err-k c =
    let e = c.read_file.ensures in
    let p = err_from_is_err_and c.from_residual.result c.from_residual.ensures.1 in
    let o = refused _ _ _ _ _ _ (e.outcome, (e.said, e.frames)) c.in_err-k.was base_error
    (λ (x : List ℕ). pointer_base_in x (starts_of x) c.args.n) in
    rw (p.1, p.2) (record { outcome = o; said = ap base_said o; frames = e.frames })

pub returns-clause-outcome : goal.returns-clause-outcome
unfolding pointer_base_type
returns-clause-outcome c =
    let e = c.read_file.ensures in
    given _ _ _ _ _ _ (e.outcome, (e.said, e.frames)) c.in_ok-k.was c.first_frames-fr.ensures
    base_error (λ (x : List ℕ). pointer_base_in x (starts_of x) c.args.n)
    (rw c.find_starts.ensures at c.pointer_base.ensures)

pub returns-clause-said : goal.returns-clause-said
returns-clause-said c = ap base_said (returns-clause-outcome c)
