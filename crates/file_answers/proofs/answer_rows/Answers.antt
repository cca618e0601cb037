-- `answer_rows`: three tests find whether there is room.
use mathlib.Core.Path.{ap}
use native.Mathlib.Omega.{arith}
use lib.ListN.{length}
use Rattle.archive.specs.Starts.{row_count}
use Rattle.file_answers.proofs.Rows.{room-counted, lacks-counted, room-there, too_many, no_table, no-answers}
use Rattle.file_answers.proofs.Rows.{not-filled, filled}
use Rattle.file_answers.proofs.answer_rows.Goals as goal

pub returns-then-frame_count-gt-MAX_FRAMES : goal.returns-then-frame_count-gt-MAX_FRAMES
returns-then-frame_count-gt-MAX_FRAMES c =
    let a = c.args in
    let f = not-filled a.pass a.frames.now a.answers.now a.places.now
    (too_many a.pass a.frames.now (length a.answers.now) (length a.places.now)
    (omega (arith, c.if-frame_count-gt-MAX_FRAMES.true, c.frame_count.ensures))) in
    record { count = f.0; answers = f.1.0; places = f.1.1 }

pub returns-then-places-row_count : goal.returns-then-places-row_count
returns-then-places-row_count c =
    let a = c.args in
    let f = not-filled a.pass a.frames.now a.answers.now a.places.now
    (no_table a.pass a.frames.now (length a.answers.now) (length a.places.now)
    (omega (arith, c.if-places-row_count.true, c.row_count.ensures, ap row_count c.find_starts-s.ensures))) in
    record { count = f.0; answers = f.1.0; places = f.1.1 }

pub returns-then-answers-all_hand_back : goal.returns-then-answers-all_hand_back
returns-then-answers-all_hand_back c =
    let a = c.args in
    let f = not-filled a.pass a.frames.now a.answers.now a.places.now
    (no-answers a.pass a.frames.now (length a.answers.now) (length a.places.now)
    (lacks-counted a.pass a.frames.now (length a.answers.now) c.all_hand_back.result c.find_starts-s.result
    c.find_starts-s.ensures c.all_hand_back.ensures (omega (arith, c.if-answers-all_hand_back.true)))) in
    record { count = f.0; answers = f.1.0; places = f.1.1 }

pub fill-requires-clause-room : goal.fill-requires-clause-room
fill-requires-clause-room c =
    let a = c.args in
    room-counted a.pass a.frames.now (length a.answers.now) c.all_hand_back.result c.find_starts-s.result
    c.find_starts-s.ensures c.all_hand_back.ensures
    (omega (arith, c.if-frame_count-gt-MAX_FRAMES.false, c.frame_count.ensures))
    (omega (arith, c.if-answers-all_hand_back.false))

pub returns : goal.returns
returns c =
    let a = c.args in
    let s = c.find_starts-s in
    let r = c.fill in
    let room =
    room-counted a.pass a.frames.now (length a.answers.now) c.all_hand_back.result s.result s.ensures
    c.all_hand_back.ensures (omega (arith, c.if-frame_count-gt-MAX_FRAMES.false, c.frame_count.ensures))
    (omega (arith, c.if-answers-all_hand_back.false)) in
    let f = filled a.pass a.frames.now a.answers.now a.places.now r.new.answers r.new.places s.result r.result
    (room-there a.pass a.frames.now (length a.answers.now) (length a.places.now) room
    (omega (arith, c.if-places-row_count.false, c.row_count.ensures, ap row_count s.ensures)))
    s.ensures r.ensures.count r.ensures.answers r.ensures.table in
    record { count = f.0; answers = f.1.0; places = f.1.1 }
