-- What `type_range` rests on: an accepted file has at most 1,024 types and overrides. From the laws of reading a file.
use Rattle.std.specs.Prelude.{Ok}
use Prim.Native.Nat.{ℕ, ◌*◌, ◌≤◌}
use native.Mathlib.Omega.{arith}
use mathlib.Core.Path.{◌≡◌}
use mathlib.Core.Bool.{Bool, true, false, cond}
use mathlib.Core.List.{List}
use lib.ListN.{length, take}
use Rattle.answers.specs.Outcome.{Outcome}
use Rattle.text.specs.declared.AnswerRoom.{AnswerRoom}
use Rattle.text.specs.Lines.{decoded}
use Rattle.text.proofs.Laws.{count_small}
use Rattle.frames.specs.Bytes.{frame_count}
use Rattle.archive.specs.declared.Starts.{Starts}
use Rattle.archive.specs.Starts.{starts_of, type_count, override_count}
use Rattle.archive.proofs.Ranks.{begins}
use Rattle.rule_file.specs.File.{read_file, frames_after}
use Rattle.law_file.proofs.Laws.{count-decoded, accepted-when}
use Rattle.law_file.proofs.Over.{read, part-is}

-- the starts of 1,024 frames
starts-few : (fr : List ℕ) → frame_count fr ≤ 1024
    → (type_count (starts_of fr) ≤ 1024) × (override_count (starts_of fr) ≤ 1024)
unfolding starts_of
starts-few fr h = (omega (arith, (begins fr 512).within), omega (arith, (begins fr 771).within))

-- after reading gave r and left the frame buffer as `last`, n frames accepted
pub few-starts : (limit : ℕ) (t fr last : List ℕ) (room : AnswerRoom) (n : ℕ) (r : Outcome)
    → r ≡ read_file limit t (length fr) room → last ≡ frames_after limit t fr room → r ≡ Ok n
    → (s : Starts) → s ≡ starts_of (take (16 * n) last) → (type_count s ≤ 1024) × (override_count s ≤ 1024)
few-starts limit t fr last room n r er el en s es =
    rw (es, part-is limit t fr last room n r er el en)
    (starts-few (decoded t n)
    (rw (count-decoded t n)
    (count_small ((accepted-when limit t (length fr) room n).0 (read limit t fr last room n r er el en)).readable)))

-- by whether a table is too small
pub is-short : {A : Type 0} (b : Bool) (x y : A) → b ≡ true → x ≡ cond b x y
is-short b x y e = rw e

pub not_short : {A : Type 0} (b : Bool) (x y : A) → b ≡ false → y ≡ cond b x y
not_short b x y e = rw e
