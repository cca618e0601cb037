-- The sixteen stores are the frame in its place.
use Rattle.frames.proofs.Buffer.{stores}
use Rattle.frames.proofs.put_from.Goals as goal

pub returns : goal.returns
returns c = stores _ _ c.args.f c.requires
