-- `gelmusko_smallest_part`: where the out-slice and the table of marks have room, the number handed on gives what the
-- number handed in asks for.
use Rattle.std.proofs.Common.{[], ap, length, ◌∙◌}
use Rattle.answers.specs.Numbers.{Refused, error_values}
use Rattle.frames.specs.Out.{refused_frame}
use Rattle.gelmusko.proofs.Marked.{short-said, short-frames, short-table, room-said, room-frames, room-table}
use Rattle.gelmusko.proofs.Room.{not-put, handed-rows}
use Rattle.gelmusko.proofs.cuts.gelmusko_smallest_part.Goals as goal

pub returns-then-out-lt16-clause-out : goal.returns-then-out-lt16-clause-out
returns-then-out-lt16-clause-out c = not-put _ _ c.if-out-lt16.true

pub returns-then-marks-lt1024-clause-outcome : goal.returns-then-marks-lt1024-clause-outcome
returns-then-marks-lt1024-clause-outcome c =
    let a = c.args in
    let n = length a.frames.now in
    let small = c.if-marks-lt1024.true in
    (handed-rows (λ (r : Refused). r.number) refused_frame _ c.put_outcome.ensures
    (ap error_values c.short_read.ensures
    ∙ short-said a.limit a.text.now a.frames.now a.marks.now small n a.row)
    (short-frames a.limit a.text.now a.frames.now a.marks.now small)
    (short-table a.limit a.text.now a.frames.now a.marks.now small n a.row)
    c.if-out-lt16.false _ [] []).0

pub returns-then-marks-lt1024-clause-frames : goal.returns-then-marks-lt1024-clause-frames
returns-then-marks-lt1024-clause-frames c =
    let a = c.args in
    let n = length a.frames.now in
    let small = c.if-marks-lt1024.true in
    (handed-rows (λ (r : Refused). r.number) refused_frame _ c.put_outcome.ensures
    (ap error_values c.short_read.ensures
    ∙ short-said a.limit a.text.now a.frames.now a.marks.now small n a.row)
    (short-frames a.limit a.text.now a.frames.now a.marks.now small)
    (short-table a.limit a.text.now a.frames.now a.marks.now small n a.row)
    c.if-out-lt16.false 0 _ []).1.0

pub returns-then-marks-lt1024-clause-marks : goal.returns-then-marks-lt1024-clause-marks
returns-then-marks-lt1024-clause-marks c =
    let a = c.args in
    let n = length a.frames.now in
    let small = c.if-marks-lt1024.true in
    (handed-rows (λ (r : Refused). r.number) refused_frame _ c.put_outcome.ensures
    (ap error_values c.short_read.ensures
    ∙ short-said a.limit a.text.now a.frames.now a.marks.now small n a.row)
    (short-frames a.limit a.text.now a.frames.now a.marks.now small)
    (short-table a.limit a.text.now a.frames.now a.marks.now small n a.row)
    c.if-out-lt16.false 0 [] _).1.1.0

pub returns-then-marks-lt1024-clause-out : goal.returns-then-marks-lt1024-clause-out
returns-then-marks-lt1024-clause-out c =
    let a = c.args in
    let n = length a.frames.now in
    let small = c.if-marks-lt1024.true in
    (handed-rows (λ (r : Refused). r.number) refused_frame _ c.put_outcome.ensures
    (ap error_values c.short_read.ensures
    ∙ short-said a.limit a.text.now a.frames.now a.marks.now small n a.row)
    (short-frames a.limit a.text.now a.frames.now a.marks.now small)
    (short-table a.limit a.text.now a.frames.now a.marks.now small n a.row)
    c.if-out-lt16.false 0 [] []).1.1.1

pub returns-clause-outcome : goal.returns-clause-outcome
returns-clause-outcome c =
    let a = c.args in
    let e = c.smallest_part-part.ensures in
    let k = c.clamped in
    let n = length a.frames.now in
    let room = c.if-marks-lt1024.false in
    (handed-rows (λ (r : Refused). r.number) refused_frame _ (c.put_part.ensures.outcome, c.put_part.ensures.out)
    (room-said a.limit a.text.now a.frames.now a.marks.now room n a.row k.result k.ensures e.outcome)
    (e.frames ∙ room-frames a.limit a.text.now a.frames.now a.marks.now room n a.row k.result k.ensures)
    (c.put_marks.ensures
    ∙ room-table a.limit a.text.now a.frames.now a.marks.now room n a.row k.result k.ensures e.marks)
    c.if-out-lt16.false _ [] []).0

pub returns-clause-frames : goal.returns-clause-frames
returns-clause-frames c =
    let a = c.args in
    let e = c.smallest_part-part.ensures in
    let k = c.clamped in
    let n = length a.frames.now in
    let room = c.if-marks-lt1024.false in
    (handed-rows (λ (r : Refused). r.number) refused_frame _ (c.put_part.ensures.outcome, c.put_part.ensures.out)
    (room-said a.limit a.text.now a.frames.now a.marks.now room n a.row k.result k.ensures e.outcome)
    (e.frames ∙ room-frames a.limit a.text.now a.frames.now a.marks.now room n a.row k.result k.ensures)
    (c.put_marks.ensures
    ∙ room-table a.limit a.text.now a.frames.now a.marks.now room n a.row k.result k.ensures e.marks)
    c.if-out-lt16.false 0 _ []).1.0

pub returns-clause-marks : goal.returns-clause-marks
returns-clause-marks c =
    let a = c.args in
    let e = c.smallest_part-part.ensures in
    let k = c.clamped in
    let n = length a.frames.now in
    let room = c.if-marks-lt1024.false in
    (handed-rows (λ (r : Refused). r.number) refused_frame _ (c.put_part.ensures.outcome, c.put_part.ensures.out)
    (room-said a.limit a.text.now a.frames.now a.marks.now room n a.row k.result k.ensures e.outcome)
    (e.frames ∙ room-frames a.limit a.text.now a.frames.now a.marks.now room n a.row k.result k.ensures)
    (c.put_marks.ensures
    ∙ room-table a.limit a.text.now a.frames.now a.marks.now room n a.row k.result k.ensures e.marks)
    c.if-out-lt16.false 0 [] _).1.1.0

pub returns-clause-out : goal.returns-clause-out
returns-clause-out c =
    let a = c.args in
    let e = c.smallest_part-part.ensures in
    let k = c.clamped in
    let n = length a.frames.now in
    let room = c.if-marks-lt1024.false in
    (handed-rows (λ (r : Refused). r.number) refused_frame _ (c.put_part.ensures.outcome, c.put_part.ensures.out)
    (room-said a.limit a.text.now a.frames.now a.marks.now room n a.row k.result k.ensures e.outcome)
    (e.frames ∙ room-frames a.limit a.text.now a.frames.now a.marks.now room n a.row k.result k.ensures)
    (c.put_marks.ensures
    ∙ room-table a.limit a.text.now a.frames.now a.marks.now room n a.row k.result k.ensures e.marks)
    c.if-out-lt16.false 0 [] []).1.1.1
