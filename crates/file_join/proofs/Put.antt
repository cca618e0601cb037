-- Frames written one after the other: one more, part by part, and all of them at the front of a buffer.
use Prim.Native.Nat.{ℕ, suc, ◌+◌, ◌*◌, ◌-◌, ◌≤◌, ◌<◌}
use native.Mathlib.Nat.{le_antisymm}
use native.Mathlib.Omega.{arith}
use mathlib.Core.Path.{◌≡◌, refl, sym, ap, ◌∙◌}
use mathlib.Core.List.{List, [], ◌∷◌, ◌++◌, append_assoc, append-nil}
use lib.ListN.{length, take, drop, length-append, length-drop}
use lib.Seq.{take_at, drop-drop}
use Rattle.frames.specs.declared.Frame.{Frame}
use Rattle.frames.specs.Bytes.{put_frame}
use Rattle.frames.proofs.Put.{put-length}
use Rattle.rule.specs.Things.{listed}
use Rattle.rule.proofs.Named.{listed-length}
use Rattle.rule_answers.specs.Outputs.{frames_bytes}
use Rattle.law_answers.proofs.Bytes.{bytes-length, put-after}
use Rattle.law_join.specs.Join.{regrouped}
use Rattle.law_join.proofs.Regrouped.{regrouped-length}
use Rattle.file_join.specs.ForProofs.{put_all}

pub all-length : (b : List ℕ) (k : ℕ) (l : List Frame) → length (put_all b k l) ≡ length b
unfolding put_all
all-length b k [] = refl
all-length b k (f ∷ l) = all-length (put_frame b k f) (k + 1) l ∙ put-length b k f

-- one list, then another
all_append : (b : List ℕ) (k : ℕ) (l m : List Frame) → put_all b k (l ++ m) ≡ put_all (put_all b k l) (k + length l) m
unfolding put_all
all_append b k [] m = let e : k ≡ k + 0 = omega arith in ap (λ (j : ℕ). put_all b j m) e
all_append b k (f ∷ l) m =
    let e : k + 1 + length l ≡ k + suc (length l) = omega arith in
    all_append (put_frame b k f) (k + 1) l m ∙ ap (λ (j : ℕ). put_all (put_all (put_frame b k f) (k + 1) l) j m) e

-- FRAME BY FRAME: the frames from `from` up to k are put, past so many others; the buffer was b, and is x
pub record PutTo (h : ℕ → Frame) (from to past : ℕ) (b x : List ℕ) (k : ℕ) : Type 0 where
  pub reached : from ≤ k
  pub few : k ≤ to
  pub put : x ≡ put_all b (from + past) (listed (λ (i : ℕ). h (from + i)) (k - from))

pub put-none : (h : ℕ → Frame) (from to past : ℕ) (b : List ℕ) → from ≤ to → PutTo h from to past b b from
unfolding put_all listed
put-none h from to past b l =
    let e : from - from ≡ 0 = omega arith in record { reached = omega arith; few = l; put = rw e }

pub put_one : {h : ℕ → Frame} {from to past : ℕ} {b x : List ℕ} {k : ℕ} → PutTo h from to past b x k → k < to
    → {f : Frame} → f ≡ h k → {c : List ℕ} → c ≡ put_frame x (k + past) f → PutTo h from to past b c (k + 1)
unfolding put_all listed
put_one {h} {from} {to} {past} {b} {x} {k} w l {f} ef ec =
    let u = w.reached in
    let n = k - from in
    let g : ℕ → Frame = λ i. h (from + i) in
    let e1 : k + 1 - from ≡ suc n = omega arith in
    let e2 : k ≡ from + n = omega arith in
    let e3 : k + past ≡ from + past + length (listed g n) = omega (arith, listed-length g n) in
    let step : put_all b (from + past) (listed g n ++ (g n ∷ [])) ≡ put_frame (put_all b (from + past) (listed g n))
    (from + past + length (listed g n)) (g n) = all_append b (from + past) (listed g n) (g n ∷ []) in
    record {
      reached = omega arith;
      few = omega arith;
      put = ec ∙ ap (λ (y : List ℕ). put_frame y (k + past) f) w.put
          ∙ ap (put_frame (put_all b (from + past) (listed g n)) (k + past)) (ef ∙ ap h e2)
          ∙ ap (λ (j : ℕ). put_frame (put_all b (from + past) (listed g n)) j (g n)) e3
          ∙ sym step ∙ ap (λ (j : ℕ). put_all b (from + past) (listed g j)) (sym e1);
    }

pub put-all : {h : ℕ → Frame} {from to past : ℕ} {b x : List ℕ} {k : ℕ} → PutTo h from to past b x k → to ≤ k
    → x ≡ put_all b (from + past) (listed (λ (i : ℕ). h (from + i)) (to - from))
put-all w l = rw (← le_antisymm w.few l) w.put

-- the buffer is as long as it was
pub put-long : {h : ℕ → Frame} {from to past : ℕ} {b x : List ℕ} {k : ℕ} → PutTo h from to past b x k
    → length x ≡ length b
put-long {b = b} w = ap length w.put ∙ all-length b _ _

-- PART BY PART
module _ (a b : ℕ → Frame) (p q : ℕ → ℕ) (p0 : p 0 ≡ 0) (q0 : q 0 ≡ 0) (rise-p : (i : ℕ) → p i ≤ p (suc i))
    (rise-q : (i : ℕ) → q i ≤ q (suc i)) where
  pub no_part : (x : List ℕ) → x ≡ put_all x 0 (regrouped a b p q 0)
  unfolding put_all regrouped
  no_part x = refl

  pub one-part : (i : ℕ) (x : List ℕ) {y z v : List ℕ} → y ≡ put_all x 0 (regrouped a b p q i)
      → z ≡ put_all y (p i + q i) (listed (λ (k : ℕ). a (p i + k)) (p (suc i) - p i))
      → v ≡ put_all z (q i + p (suc i)) (listed (λ (k : ℕ). b (q i + k)) (q (suc i) - q i))
      → v ≡ put_all x 0 (regrouped a b p q (suc i))
  unfolding regrouped
  one-part i x {y} {z} {v} ey ez ev =
      let one = listed (λ (k : ℕ). a (p i + k)) (p (suc i) - p i) in
      let two = listed (λ (k : ℕ). b (q i + k)) (q (suc i) - q i) in
      let r = regrouped a b p q i in
      let n : length r ≡ p i + q i = regrouped-length a b p q p0 q0 rise-p rise-q i in
      let m : length one ≡ p (suc i) - p i = listed-length (λ (k : ℕ). a (p i + k)) (p (suc i) - p i) in
      let u = rise-p i in
      let from : p i + q i ≡ 0 + length r = omega arith in
      let at : q i + p (suc i) ≡ p i + q i + length one = omega arith in
      let both : v ≡ put_all y (p i + q i) (one ++ two) =
      ev ∙ ap (λ (j : ℕ). put_all z j two) at ∙ ap (λ (w : List ℕ). put_all w (p i + q i + length one) two) ez
      ∙ sym (all_append y (p i + q i) one two) in
      both ∙ ap (λ (w : List ℕ). put_all w (p i + q i) (one ++ two)) ey
      ∙ ap (λ (j : ℕ). put_all (put_all x 0 r) j (one ++ two)) from
      ∙ sym (all_append x 0 r (one ++ two))

-- ALL OF THEM, at the front of a buffer
after : (l m : List Frame) (rest : List ℕ) → 16 * length m ≤ length rest
    → put_all (frames_bytes l ++ rest) (length l) m ≡ frames_bytes (l ++ m) ++ drop (16 * length m) rest
unfolding put_all
after l [] rest h = ap (λ (x : List Frame). frames_bytes x ++ rest) (sym (append-nil l))
after l (f ∷ m) rest h =
    let n : length l + 1 ≡ length (l ++ (f ∷ [])) = sym (length-append l (f ∷ [])) in
    let d : 16 + 16 * length m ≡ 16 * suc (length m) = omega arith in
    ap (λ (x : List ℕ). put_all x (length l + 1) m) (put-after l f rest (omega arith))
    ∙ ap (λ (k : ℕ). put_all (frames_bytes (l ++ (f ∷ [])) ++ drop 16 rest) k m) n
    ∙ after (l ++ (f ∷ [])) m (drop 16 rest) (omega (arith, length-drop 16 rest))
    ∙ ap (λ (x : List Frame). frames_bytes x ++ drop (16 * length m) (drop 16 rest)) (append_assoc l (f ∷ []) m)
    ∙ ap (λ (x : List ℕ). frames_bytes (l ++ (f ∷ m)) ++ x) (drop-drop (16 * length m) 16 rest)
    ∙ ap (λ (k : ℕ). frames_bytes (l ++ (f ∷ m)) ++ drop k rest) d

pub all-front : (b : List ℕ) (l : List Frame) → 16 * length l ≤ length b
    → take (16 * length l) (put_all b 0 l) ≡ frames_bytes l
unfolding frames_bytes
all-front b l h =
    ap (take (16 * length l)) (after [] l b h)
    ∙ take_at (frames_bytes l) (drop (16 * length l) b) (16 * length l) (bytes-length l)
