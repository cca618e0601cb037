-- `judge_one`: the verdict over the answers of the rows before the compose.
use Rattle.std.proofs.Common.{◌≡◌, ◌≤◌, ◌<◌, refl, sym, ap, ◌∙◌, false, length, arith}
use borrow.Author.Tests.{ltb-true, eqb-true, eqb-false}
use lib.ListN.{replicate}
use lib.Seq.{length-take-le}
use Rattle.answers.specs.Limit.{max_frames}
use Rattle.archive.specs.declared.Starts.{Starts}
use Rattle.archive.specs.Names.{is_row}
use Rattle.archive.specs.Starts.{starts_of, row_count}
use Rattle.law_file.proofs.One.{places-long, one-verdict, no-verdict}
use Rattle.law_file.proofs.Row.{few-rows}
use Rattle.file_answers.proofs.Rows.{all-filled}
use Rattle.file_rows.proofs.judge_one.Goals as goal

pub slice_bounds-places-end : goal.slice_bounds-places-end
slice_bounds-places-end c =
    let a = c.args in
    let s = c.find_starts-s in
    let r = c.answer_rows in
    let t = all-filled a.pass a.frames.now a.answers.now (replicate max_frames 0) r.result r.new.answers
    r.new.places s.result c.requires.1 (few-rows a.frames.now c.requires.1.few) s.ensures
    (r.ensures.count, (r.ensures.answers, r.ensures.places)) in
    omega (
      arith,
      places-long a.pass a.frames.now r.new.places _ (row_count s.result) t.1.1,
      ltb-true a.row.0 (row_count s.result) (sym c.is_row.ensures ∙ c.if-is_row.true),
    )

pub slice_bounds-judge_row-end : goal.slice_bounds-judge_row-end
slice_bounds-judge_row-end c =
    let a = c.args in
    let s = c.find_starts-s in
    let r = c.answer_rows in
    let t = all-filled a.pass a.frames.now a.answers.now (replicate max_frames 0) r.result r.new.answers
    r.new.places s.result c.requires.1 (few-rows a.frames.now c.requires.1.few) s.ensures
    (r.ensures.count, (r.ensures.answers, r.ensures.places)) in
    sym
    (length-take-le _ _
    (omega (
      arith,
      places-long a.pass a.frames.now r.new.places _ (row_count s.result) t.1.1,
      ltb-true a.row.0 (row_count s.result) (sym c.is_row.ensures ∙ c.if-is_row.true),
    )))

pub returns-then-is_compose : goal.returns-then-is_compose
returns-then-is_compose c =
    let a = c.args in
    let s = c.find_starts-s in
    let r = c.answer_rows in
    let t = all-filled a.pass a.frames.now a.answers.now (replicate max_frames 0) r.result r.new.answers
    r.new.places s.result c.requires.1 (few-rows a.frames.now c.requires.1.few) s.ensures
    (r.ensures.count, (r.ensures.answers, r.ensures.places)) in
    let q = one-verdict a.pass a.frames.now a.answers.now r.new.answers r.new.places _ s.result c.requires
    s.ensures t.1.0 t.1.1 a.row (sym c.is_row.ensures ∙ c.if-is_row.true) c.frame_at-f.result
    c.frame_at-f.ensures (eqb-true _ _ (sym c.is_compose.ensures ∙ c.if-is_compose.true)) c.judge_row.result
    c.judge_row.ensures in
    record { outcome = q.0; answers = q.1 }

pub returns-else-is_compose : goal.returns-else-is_compose
returns-else-is_compose c =
    let a = c.args in
    let s = c.find_starts-s in
    let q = no-verdict a.pass a.frames.now s.result a.row c.frame_at-f.result s.ensures
    (sym c.is_row.ensures ∙ c.if-is_row.true) c.frame_at-f.ensures
    (eqb-false _ _ (sym c.is_compose.ensures ∙ c.if-is_compose.false)) in
    record { outcome = rw (← q); answers = rw (← q) }

pub returns-else-is_row : goal.returns-else-is_row
returns-else-is_row c =
    let e : is_row (starts_of c.args.frames.now) c.args.row ≡ false =
    ap (λ (z : Starts). is_row z c.args.row) (sym c.find_starts-s.ensures) ∙ sym c.is_row.ensures
    ∙ c.if-is_row.false in
    record { outcome = rw e; answers = rw e }
