-- The invariants: the lines passed, and the digits of the bytes passed in this line, are written, and the other
-- characters are as they were.
use Rattle.std.proofs.Common.{◌≡◌, ◌+◌, ◌*◌, ℕ, List, ◌++◌, drop}
use Rattle.scan.specs.Lists.{build}
use Rattle.text.specs.Lines.{char_of}
use Rattle.text_encode.proofs.encode.Given as goal

-- the first n characters are written; the others are as they were
abbrev pub Written : List ℕ → List ℕ → List ℕ → ℕ → Type 0
Written frames text₀ text n = text ≡ build (char_of frames) n ++ drop n text₀

abbrev pub invariant-digits : goal.invariant-digits
invariant-digits l = Written l.frames l.initial.text l.text (33 * l.k + 2 * l.j)

abbrev pub invariant-lines : goal.invariant-lines
invariant-lines l = Written l.frames l.initial.text l.text (33 * l.k)
