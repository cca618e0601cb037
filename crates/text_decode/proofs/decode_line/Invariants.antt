-- The invariant: the bytes of the places passed are written, and the others are as they were.
use Rattle.std.proofs.Common.{◌≡◌, ◌++◌, drop}
use Rattle.scan.specs.Lists.{build}
use Rattle.text.specs.Lines.{frame_byte}
use Rattle.text_decode.proofs.decode_line.Given as goal

abbrev pub invariant-loop-j : goal.invariant-loop-j
invariant-loop-j l = l.line ≡ build (frame_byte l.text l.k) l.j ++ drop l.j l.initial.line
