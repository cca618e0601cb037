-- `type_size`: what it asks of the frames is asked of the text.
use Rattle.std.proofs.lemmas.Result.{err_from_is_err_and}
use Rattle.rule_sizes.specs.TypeSize.{size_error}
use Rattle.std.proofs.Common.{ℕ, List, ap, ◌∙◌}
use Rattle.archive.specs.Starts.{starts_of}
use Rattle.rule_sizes.specs.Sizes.{size_said, type_size_in}
use Rattle.rule_file_sizes.specs.Sizes.{type_size}
use Rattle.law_file.proofs.Over.{refused, given}
use Rattle.law_file_sizes.proofs.Said.{size-said}
use Rattle.file_sizes.proofs.type_size.Goals as goal

pub returns-in_err-count : goal.returns-in_err-count
unfolding type_size
returns-in_err-count c =
    let e = c.read_file.ensures in
    let p = err_from_is_err_and c.from_residual.result c.from_residual.ensures.1 in
    let o = refused _ _ _ _ _ _ (e.outcome, (e.said, e.frames)) c.in_err-count.was size_error
    (λ (x : List ℕ). type_size_in x (starts_of x) c.args.n) in
    rw (p.1, p.2) (record {
      outcome = o;
      said = ap size_said o
          ∙ size-said c.args.limit c.args.text.now _ c.args.n;
      frames = e.frames;
    })

pub returns-clause-outcome : goal.returns-clause-outcome
unfolding type_size
returns-clause-outcome c =
    let e = c.read_file.ensures in
    given _ _ _ _ _ _ (e.outcome, (e.said, e.frames)) c.in_ok-count.was c.first_frames-fr.ensures
    size_error (λ (x : List ℕ). type_size_in x (starts_of x) c.args.n)
    (rw c.find_starts.ensures at c.type_size.ensures)

pub returns-clause-said : goal.returns-clause-said
returns-clause-said c = ap size_said (returns-clause-outcome c) ∙ size-said _ _ _ _
