-- The invariant: the bytes of the lines passed are written, and the others are as they were.
use Rattle.std.proofs.Common.{◌≡◌, ◌*◌, ◌++◌, drop}
use Rattle.scan.specs.Lists.{build}
use Rattle.text.specs.Lines.{byte_of}
use Rattle.text_decode.proofs.decode.Given as goal

abbrev pub invariant-loop-k : goal.invariant-loop-k
invariant-loop-k l = l.frames ≡ build (byte_of l.text) (16 * l.k) ++ drop (16 * l.k) l.initial.frames
