-- `canonical_form`: what it asks of the frames is asked of the text.
use Rattle.std.proofs.lemmas.Result.{err_from_is_err_and}
use Rattle.answers.specs.Asked.{canonical_error}
use Rattle.std.proofs.Common.{ℕ, List, ap}
use Rattle.answers.specs.Numbers.{canonical_said}
use Rattle.archive.specs.Starts.{starts_of}
use Rattle.rule_types.specs.Canonical.{canonical_type_in}
use Rattle.rule_file.specs.Forms.{canonical_type}
use Rattle.law_file.proofs.Over.{refused, given}
use Rattle.file_pointers.proofs.canonical_form.Goals as goal

pub returns-in_err-k : goal.returns-in_err-k
unfolding canonical_type
returns-in_err-k c =
    let e = c.read_file.ensures in
    let p = err_from_is_err_and c.from_residual.result c.from_residual.ensures.1 in
    let o = refused _ _ _ _ _ _ (e.outcome, (e.said, e.frames)) c.in_err-k.was canonical_error
    (λ (x : List ℕ). canonical_type_in x (starts_of x) c.args.n) in
    rw (p.1, p.2) (record { outcome = o; said = ap canonical_said o; frames = e.frames })

pub returns-clause-outcome : goal.returns-clause-outcome
unfolding canonical_type
returns-clause-outcome c =
    let e = c.read_file.ensures in
    given _ _ _ _ _ _ (e.outcome, (e.said, e.frames)) c.in_ok-k.was c.first_frames-fr.ensures
    canonical_error (λ (x : List ℕ). canonical_type_in x (starts_of x) c.args.n)
    (rw c.find_starts.ensures at c.canonical_type.ensures)

pub returns-clause-said : goal.returns-clause-said
returns-clause-said c = ap canonical_said (returns-clause-outcome c)
