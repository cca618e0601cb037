-- `gelmusko_read_file`: an out-slice without room stays.
use Rattle.std.proofs.Common.{arith}
use Rattle.gelmusko.proofs.Room.{not-put}
use Rattle.gelmusko.proofs.gelmusko_read_file.Goals as goal

pub returns-then-small-clause-out : goal.returns-then-small-clause-out
returns-then-small-clause-out c = not-put _ _ (omega (arith, c.if-small.true))
