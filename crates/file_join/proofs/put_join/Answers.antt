-- `put_join`: the lines of the frames that were put.
use Prim.Native.Nat.{◌+◌, ◌*◌, ◌≤◌}
use native.Mathlib.Omega.{arith}
use Rattle.frames.specs.Bytes.{frame_count}
use Rattle.file_join.proofs.Lines.{both, joined-all, joined-none, lines_after}
use Rattle.file_join.proofs.put_join.Goals as goal

pub returns-in-Some : goal.returns-in-Some
returns-in-Some c =
    let g = c.args in
    let w = c.put_frames.ensures in
    let en = both c.frame_count.ensures c.frame_count-2.ensures in
    let room : 16 * (frame_count g.frames.now + frame_count g.more.now) ≤ 16384 = omega (arith, c.requires.0) in
    let ex = c.first_frames.ensures in
    let p = c.put_lines.ensures in
    record {
      outcome = joined-all g.frames.now g.more.now _ room w en ex _ p.outcome c.in-Some.is;
      joined = lines_after g.frames.now g.more.now _ room w en ex _ p.out;
    }

pub returns-in-None : goal.returns-in-None
returns-in-None c =
    let g = c.args in
    let w = c.put_frames.ensures in
    let en = both c.frame_count.ensures c.frame_count-2.ensures in
    let room : 16 * (frame_count g.frames.now + frame_count g.more.now) ≤ 16384 = omega (arith, c.requires.0) in
    let ex = c.first_frames.ensures in
    let p = c.put_lines.ensures in
    record {
      outcome = joined-none g.frames.now g.more.now _ room w en ex _ p.outcome c.in-None.is;
      joined = lines_after g.frames.now g.more.now _ room w en ex _ p.out;
    }
