-- `first_late_of`: a frame that holds no parts has none that is late.
use Rattle.archive.proofs.Owners.{none-held}
use Rattle.check_file.proofs.first_late_of.Goals as goal

pub returns-in-Nothing : goal.returns-in-Nothing
returns-in-Nothing c = rw c.in-Nothing.is (none-held c.args.frames.now _)
