-- `moved_frame`: one number after the other.
use Rattle.law_join.specs.Join.{join_moves}
use Rattle.frames_join.proofs.Laws.{found_none, found-one, found-two, found-three}
use Rattle.frames_join.proofs.moved.moved_frame.Goals as goal

pub returns-in-Nothing : goal.returns-in-Nothing
returns-in-Nothing c = found_none (join_moves c.args.s) c.args.f c.frame_numbers.ensures c.in-Nothing.is

pub returns-in-One : goal.returns-in-One
returns-in-One c =
    found-one (join_moves c.args.s) c.args.f c.frame_numbers.ensures c.in-One.is c.moved_spot.ensures

pub returns-in-Two : goal.returns-in-Two
returns-in-Two c =
    found-two (join_moves c.args.s) c.args.f c.frame_numbers.ensures c.in-Two.is c.moved_spot-in-Two.ensures
    c.moved_spot-in-Two-2.ensures

pub returns-in-Three : goal.returns-in-Three
returns-in-Three c =
    found-three (join_moves c.args.s) c.args.f c.frame_numbers.ensures c.in-Three.is c.moved_spot-in-Three.ensures
    c.moved_spot-in-Three-2.ensures c.moved_spot-in-Three-3.ensures
