-- `mark_part`: the row's answer is read at its place, and what it follows by the answers there.
use Rattle.std.proofs.Common.{sym, ◌∙◌, arith}
use lib.Seq.{length-take-le}
use Rattle.archive.specs.Starts.{row_count}
use Rattle.rule_rows.specs.declared.Pass.TheVariants as Pa
use Rattle.law_file.proofs.One.{places-long}
use Rattle.file_cut.proofs.Part.{answers₀, ready-new, all-answered, read-there}
use Rattle.file_cut.proofs.mark_part.Goals as goal

pub slice_bounds-places-end : goal.slice_bounds-places-end
slice_bounds-places-end c =
    let fr = c.args.frames.now in
    let s = c.find_starts-s in
    let r = c.answer_rows in
    let t = all-answered fr r.result r.new.answers r.new.places s.result c.requires s.ensures
    (r.ensures.count, (r.ensures.answers, r.ensures.places)) in
    omega (
      arith,
      places-long Pa.First fr r.new.places _ (row_count s.result) t.1,
      c.row_count-n.ensures,
    )

pub slice_bounds-read_part-end-then-is_row : goal.slice_bounds-read_part-end-then-is_row
slice_bounds-read_part-end-then-is_row c =
    let fr = c.args.frames.now in
    let s = c.find_starts-s in
    let r = c.answer_rows in
    let t = all-answered fr r.result r.new.answers r.new.places s.result c.requires s.ensures
    (r.ensures.count, (r.ensures.answers, r.ensures.places)) in
    sym
    (length-take-le _ _
    (omega (
      arith,
      places-long Pa.First fr r.new.places _ (row_count s.result) t.1,
      c.row_count-n.ensures,
    )))

pub returns-then-is_row : goal.returns-then-is_row
returns-then-is_row c =
    let a = c.args in
    let fr = a.frames.now in
    let s = c.find_starts-s in
    let r = c.answer_rows in
    let t = all-answered fr r.result r.new.answers r.new.places s.result c.requires s.ensures
    (r.ensures.count, (r.ensures.answers, r.ensures.places)) in
    c.read_part.ensures
    ∙ read-there fr answers₀ r.new.answers r.new.places _ s.result (ready-new fr c.requires) s.ensures t.0 t.1
    c.row_count-n.result c.row_count-n.ensures a.row (sym c.is_row.ensures ∙ c.if-is_row.true)
