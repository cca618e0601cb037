-- The tests of two accepted files, in their order: 49, then 1, then the lines. Of each what is given, with a buffer of
-- o bytes for the lines, and that buffer after it.
use Prim.Native.Nat.{ℕ, ◌+◌, ◌≤◌, ◌<◌}
use mathlib.Core.Path.{◌≡◌, sym, ◌∙◌}
use mathlib.Core.Bool.{Bool, true, false, ◌&&◌}
use mathlib.Core.List.{List}
use borrow.Author.Tests.{lt-ltb, le-ltb}
use Rattle.scan.proofs.Laws.{and_second}
use Rattle.text.specs.Reading.{most_frames}
use Rattle.frames.specs.Bytes.{frame_count}
use Rattle.rule_file.specs.Printed.{printed, printed_after}
use Rattle.law_join.specs.declared.JoinedFile.{JoinedFile}
use Rattle.law_join.specs.declared.JoinedFile.TheVariants as Jf
use Rattle.law_join.specs.Joinable.{joinable}
use Rattle.law_join.specs.File.{join_text, by_tests, as_frames, join_in}

module _ (limit : ℕ) (fr gr : List ℕ) (o : ℕ) (out : List ℕ) {a b : Bool} (ea : a ≡ joinable fr)
    (eb : b ≡ joinable gr) where
  abbrev Given : JoinedFile → List ℕ → Type 0
  Given r v = (r ≡ join_in limit o fr gr) × (v ≡ by_tests limit fr gr out out (printed_after (join_text fr gr) out))

  pub not-joinable : (a && b) ≡ false → Given Jf.NotJoinable out
  not-joinable h = (rw (← ea, ← eb, h), rw (← ea, ← eb, h))

  module _ (h : (a && b) ≡ true) where
    pub second-joins : joinable gr ≡ true
    second-joins = sym eb ∙ and_second a b h

    module _ {m k n : ℕ} (em : m ≡ most_frames limit) (ek : k ≡ frame_count fr) (en : n ≡ frame_count gr) where
      pub too_long : m < k + n → Given (Jf.Long m) out
      too_long l = (
        rw (← ea, ← eb, h, ← em, ← ek, ← en, lt-ltb m (k + n) l),
        rw (← ea, ← eb, h, ← em, ← ek, ← en, lt-ltb m (k + n) l),
      )

      pub within : k + n ≤ m → {r : JoinedFile} {v : List ℕ}
          → (r ≡ as_frames (frame_count fr + frame_count gr) (printed (join_text fr gr) o))
          × (v ≡ printed_after (join_text fr gr) out)
          → Given r v
      within l e = (
        rw (← ea, ← eb, h, ← em, ← ek, ← en, le-ltb m (k + n) l) (rw (← ek, ← en) at e.0),
        rw (← ea, ← eb, h, ← em, ← ek, ← en, le-ltb m (k + n) l) e.1,
      )
