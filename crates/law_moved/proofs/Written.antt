-- A file made frame by frame, as text: its bytes are bytes where each frame's are, a moved frame's where its numbers
-- fit their bytes, and its lines are then read back and accepted.
use Rattle.std.specs.Prelude.{Ok}
use Prim.Native.Nat.{ℕ, suc, ◌+◌, ◌-◌, ◌*◌, ◌/◌, ◌%◌, ◌≤◌, ◌<◌}
use native.Mathlib.Decide.{dec_lt}
use native.Mathlib.Omega.{arith}
use mathlib.Core.Path.{◌≡◌, sym, ap, ◌∙◌, subst}
use mathlib.Core.Bool.{cond}
use mathlib.Core.List.{List, [], ◌∷◌, ◌++◌}
use lib.Dec.{eqb}
use lib.ListN.{length, get_or, get_or-append}
use lib.Seq.{get_or-append-add}
use Rattle.scan.proofs.Laws.{by-test}
use Rattle.frames.specs.declared.Frame.{Frame}
use Rattle.frames.specs.Bytes.{byte, half, word, bytes_of, zero_frame}
use Rattle.frames.proofs.FieldBack.{Below, below_each}
use Rattle.text.specs.declared.AnswerRoom.TheVariants.{NotLent}
use Rattle.text.specs.Lines.{text_of}
use Rattle.text.specs.Reading.{most_frames}
use Rattle.text.proofs.Laws.{Bytes, accepted-when, most-small}
use Rattle.text.proofs.RoundTrip.{decoded-text, read-written}
use Rattle.archive.specs.Checks.{check_frames}
use Rattle.rule_answers.specs.Outputs.{frames_bytes}
use Rattle.law_answers.proofs.Bytes.{bytes-length}
use Rattle.rule_file.specs.File.{read_file}
use Rattle.law_file.proofs.Laws.{then-checked}
use Rattle.law_rows.proofs.Good.{Good, good-when}
use Rattle.law_moved.specs.Moves.{Moves}
use Rattle.law_moved.specs.Frames.{Counted, Spot, two, four, move_of, with_half, with_word, moved_at, moved_in}
use Rattle.law_moved.proofs.Files.{file-count}

-- A MOVED FRAME

module _ (m : Moves) where
  -- a moved number fits its bytes
  abbrev pub Fits : Frame → Spot → Type 0
  Fits f (two c i) = move_of m c (half f i) < 65536
  Fits f (four c i) = move_of m c (word f i) < 4294967296

  abbrev pub AllFit : List Spot → Frame → Type 0
  AllFit [] f = Unit {0}
  AllFit (x ∷ l) f = Fits f x × AllFit l (moved_at m x f)

  half-below : (f : Frame) → Below f → (i n : ℕ) → n < 65536 → Below (with_half f i n)
  half-below f b i n l =
      below_each (with_half f i n) (
        at 0,
        (
          at 1,
          (
            at 2,
            (
              at 3,
              (
                at 4,
                (
                  at 5,
                  (
                    at 6,
                    (
                      at 7,
                      (at 8, (at 9, (at 10, (at 11, (at 12, (at 13, (at 14, (at 15, tt)))))))),
                    ),
                  ),
                ),
              ),
            ),
          ),
        ),
      )
    where
      at : (k : ℕ) → cond (eqb k i) (n % 256) (cond (eqb k (i + 1)) (n / 256) (byte f k)) < 256
      at k = by-test (λ (x : ℕ). x < 256) (eqb k i) (λ q. omega arith)
          (λ q. by-test (λ (x : ℕ). x < 256) (eqb k (i + 1)) (λ r. omega arith) (λ r. b k))

  word_below : (f : Frame) → Below f → (i n : ℕ) → n < 4294967296 → Below (with_word f i n)
  word_below f b i n l =
      below_each (with_word f i n) (
        at 0,
        (
          at 1,
          (
            at 2,
            (
              at 3,
              (
                at 4,
                (
                  at 5,
                  (
                    at 6,
                    (
                      at 7,
                      (at 8, (at 9, (at 10, (at 11, (at 12, (at 13, (at 14, (at 15, tt)))))))),
                    ),
                  ),
                ),
              ),
            ),
          ),
        ),
      )
    where
      at : (k : ℕ) → cond (eqb k i) (n % 256)
          (cond (eqb k (i + 1)) (n / 256 % 256)
          (cond (eqb k (i + 2)) (n / 256 / 256 % 256) (cond (eqb k (i + 3)) (n / 256 / 256 / 256) (byte f k)))) <
          256
      at k =
          by-test (λ (x : ℕ). x < 256) (eqb k i) (λ q. omega arith)
          (λ q. by-test (λ (x : ℕ). x < 256) (eqb k (i + 1)) (λ r. omega arith)
          (λ r. by-test (λ (x : ℕ). x < 256) (eqb k (i + 2)) (λ u. omega arith)
          (λ u. by-test (λ (x : ℕ). x < 256) (eqb k (i + 3)) (λ v. omega arith) (λ v. b k))))

  at-below : (f : Frame) → Below f → (x : Spot) → Fits f x → Below (moved_at m x f)
  at-below f b (two c i) h = half-below f b i (move_of m c (half f i)) h
  at-below f b (four c i) h = word_below f b i (move_of m c (word f i)) h

  pub in-below : (l : List Spot) (f : Frame) → Below f → AllFit l f → Below (moved_in m l f)
  in-below [] f b h = b
  in-below (x ∷ l) f b h = in-below l (moved_at m x f) (at-below f b x h.0) h.1

  -- moves that raise no number fit always
  module _ (low : (c : Counted) (n : ℕ) → move_of m c n ≤ n) where
    low_fits : (f : Frame) → Below f → (x : Spot) → Fits f x
    low_fits f b (two c i) = let a = low c (half f i) in let p = b i in let q = b (i + 1) in omega arith
    low_fits f b (four c i) = let a = low c (word f i) in let p = b i in let q = b (i + 1) in let r = b (i + 2) in
        let u = b (i + 3) in omega arith

    pub low_below : (l : List Spot) (f : Frame) → Below f → Below (moved_in m l f)
    low_below [] f b = b
    low_below (x ∷ l) f b = low_below l (moved_at m x f) (at-below f b x (low_fits f b x))

-- THE FILE

pub frames-bytes : (l : List Frame) → ((i : ℕ) → i < length l → Below (get_or l i zero_frame)) → Bytes (frames_bytes l)
unfolding frames_bytes
frames-bytes [] h i = let z : 0 < 256 = omega arith in z
frames-bytes (f ∷ l) h i = go (dec_lt i 16) (frames-bytes l (λ j w. h (suc j) (omega arith)))
  where
    go : Dec (i < 16) → Bytes (frames_bytes l) → get_or (bytes_of f ++ frames_bytes l) i 0 < 256
    go (yes w) ih = rw (get_or-append (bytes_of f) (frames_bytes l) 0 i w) (h 0 (omega arith) i)
    go (no w) ih =
        let e : i ≡ 16 + (i - 16) = omega arith in
        subst (λ (x : ℕ). x < 256)
        (sym (ap (λ (k : ℕ). get_or (bytes_of f ++ frames_bytes l) k 0) e
        ∙ get_or-append-add (bytes_of f) (frames_bytes l) (i - 16) 0)) (ih (i - 16))

-- the lines of such a file are read back as it, and it is accepted
module _ (l : List Frame) (good : Good (frames_bytes l)) (bytes : Bytes (frames_bytes l)) (limit f : ℕ)
    (few : length l ≤ most_frames limit) (room : 16 * length l ≤ f) where
  pub written-accepted : read_file limit (text_of (frames_bytes l) (length l)) f NotLent ≡ Ok (length l)
  written-accepted =
      let n = length l in
      let r = (accepted-when limit (text_of (frames_bytes l) n) f NotLent n).0
      (read-written (frames_bytes l) n bytes limit f few room) in
      let c = file-count l in
      let s = most-small limit in
      then-checked limit (text_of (frames_bytes l) n) f NotLent n r
      ∙ ap check_frames (decoded-text (frames_bytes l) n bytes (bytes-length l))
      ∙ (good-when (frames_bytes l) (omega arith)).1 good ∙ ap Ok c
