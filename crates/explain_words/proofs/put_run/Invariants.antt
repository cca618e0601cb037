-- The invariant: the pieces passed are written, each of at most 48 bytes; the other bytes are as they were.
use Rattle.std.proofs.Common.{◌≡◌, ◌≤◌, ◌+◌, ◌*◌, length, take}
use Rattle.rule_explain.specs.Lines.{spelled}
use Rattle.explain_words.specs.ForProofs.{written}
use Rattle.explain_words.proofs.put_run.Given as goal

abbrev pub invariant-loop-p : goal.invariant-loop-p
invariant-loop-p l =
    (l.next ≡ l.at + length (spelled (take l.p-index l.pieces)))
    × (l.next ≤ l.at + 48 * l.p-index)
    × (l.out ≡ written l.initial.out l.at (spelled (take l.p-index l.pieces)))
    × (length l.out ≡ length l.initial.out)
