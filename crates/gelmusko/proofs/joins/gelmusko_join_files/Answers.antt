-- `gelmusko_join_files`: as `join_files`, where the out-slice has room.
use Rattle.gelmusko.proofs.Room.{not-put}
use Rattle.gelmusko.proofs.joins.gelmusko_join_files.Goals as goal

pub returns-then-out-lt16-clause-out : goal.returns-then-out-lt16-clause-out
returns-then-out-lt16-clause-out c = not-put _ _ c.if-out-lt16.true
