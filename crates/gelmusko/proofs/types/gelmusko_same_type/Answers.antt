-- `gelmusko_same_type`: an out-slice without room stays.
use Rattle.gelmusko.proofs.Room.{not-put}
use Rattle.gelmusko.proofs.types.gelmusko_same_type.Goals as goal

pub returns-then-out-lt16-clause-out : goal.returns-then-out-lt16-clause-out
returns-then-out-lt16-clause-out c = not-put _ _ c.if-out-lt16.true
