-- `answer_one`: the row's answer, read at its place.
use Rattle.std.proofs.Common.{◌≡◌, ◌≤◌, refl, sym, ap, ◌∙◌, false, length, arith}
use lib.ListN.{replicate}
use lib.Seq.{length-take-le}
use Rattle.answers.specs.Limit.{max_frames}
use Rattle.archive.specs.declared.Starts.{Starts}
use Rattle.archive.specs.Names.{is_row}
use Rattle.archive.specs.Starts.{starts_of, row_count}
use Rattle.law_file.proofs.One.{places-long, one_answer}
use Rattle.law_file.proofs.Row.{few-rows}
use Rattle.file_answers.proofs.Rows.{all-filled}
use Rattle.file_rows.proofs.answer_one.Goals as goal

pub slice_bounds-places-end : goal.slice_bounds-places-end
slice_bounds-places-end c =
    let a = c.args in
    let s = c.find_starts-s in
    let r = c.answer_rows in
    let t = all-filled a.pass a.frames.now a.answers.now (replicate max_frames 0) r.result r.new.answers
    r.new.places s.result c.requires.1 (few-rows a.frames.now c.requires.1.few) s.ensures
    (r.ensures.count, (r.ensures.answers, r.ensures.places)) in
    omega (
      arith,
      places-long a.pass a.frames.now r.new.places _ (row_count s.result) t.1.1,
      c.row_count-n.ensures,
    )

pub slice_bounds-past-end : goal.slice_bounds-past-end
slice_bounds-past-end c =
    let a = c.args in
    let s = c.find_starts-s in
    let r = c.answer_rows in
    let t = all-filled a.pass a.frames.now a.answers.now (replicate max_frames 0) r.result r.new.answers
    r.new.places s.result c.requires.1 (few-rows a.frames.now c.requires.1.few) s.ensures
    (r.ensures.count, (r.ensures.answers, r.ensures.places)) in
    sym
    (length-take-le _ _
    (omega (
      arith,
      places-long a.pass a.frames.now r.new.places _ (row_count s.result) t.1.1,
      c.row_count-n.ensures,
    )))

pub returns-then-is_row : goal.returns-then-is_row
returns-then-is_row c =
    let a = c.args in
    let s = c.find_starts-s in
    let r = c.answer_rows in
    let t = all-filled a.pass a.frames.now a.answers.now (replicate max_frames 0) r.result r.new.answers
    r.new.places s.result c.requires.1 (few-rows a.frames.now c.requires.1.few) s.ensures
    (r.ensures.count, (r.ensures.answers, r.ensures.places)) in
    let q = one_answer a.pass a.frames.now a.answers.now r.new.answers r.new.places _ s.result c.requires
    s.ensures t.1.0 t.1.1 a.row (sym c.is_row.ensures ∙ c.if-is_row.true) c.row_count-n.result c.past.result
    c.row_count-n.ensures c.past.ensures in
    record { outcome = q.0; answers = q.1 }

pub returns-else-is_row : goal.returns-else-is_row
returns-else-is_row c =
    let e : is_row (starts_of c.args.frames.now) c.args.row ≡ false =
    ap (λ (z : Starts). is_row z c.args.row) (sym c.find_starts-s.ensures) ∙ sym c.is_row.ensures
    ∙ c.if-is_row.false in
    record { outcome = rw e; answers = rw e }
