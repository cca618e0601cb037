-- The two characters are digits, since the line is whole.
use Rattle.std.proofs.Common.{◌+◌, ◌*◌, arith}
use Rattle.text.proofs.Line.{line-digit}
use Rattle.text_decode.proofs.frame_byte.Goals as goal

pub value-requires : goal.value-requires
value-requires c = line-digit c.args.text.now c.args.k c.requires.0 (2 * c.args.j) (omega arith)

pub value-requires-2 : goal.value-requires-2
value-requires-2 c = line-digit c.args.text.now c.args.k c.requires.0 (2 * c.args.j + 1) (omega arith)
