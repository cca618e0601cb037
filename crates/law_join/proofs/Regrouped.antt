-- Two files regrouped: where each frame stands, and what holds of every frame if it holds of each part's. For any
-- bounds that rise.
use Prim.Native.Nat.{ℕ, zero, suc, ◌+◌, ◌-◌, ◌≤◌, ◌<◌}
use native.Mathlib.Decide.{dec_lt}
use native.Mathlib.Nat.{eq-or-lt_of_le, le_of_suc-le-suc}
use native.Mathlib.Omega.{arith}
use mathlib.Core.Path.{◌≡◌, refl, sym, ap, ◌∙◌, subst}
use mathlib.Core.Logic.{⊎_elim}
use mathlib.Core.List.{List, [], ◌++◌}
use lib.ListN.{length, get_or, length-append, get_or-append}
use lib.Seq.{get_or-append-add}
use Rattle.frames.specs.declared.Frame.{Frame}
use Rattle.frames.specs.Bytes.{zero_frame}
use Rattle.rule.specs.Things.{listed}
use Rattle.rule.proofs.Named.{listed-length, listed_at}
use Rattle.law_join.specs.Join.{part, regrouped}

pub rises-far : (p : ℕ → ℕ) → ((i : ℕ) → p i ≤ p (suc i)) → (i j : ℕ) → i ≤ j → p i ≤ p j
rises-far p rise i zero l = let z : i ≡ 0 = omega arith in rw z (omega arith)
rises-far p rise i (suc j) l =
    ⊎_elim (λ e. rw e (omega arith)) (λ w. let a = rises-far p rise i j (le_of_suc-le-suc w) in let b = rise j in
    omega arith) (eq-or-lt_of_le l)

module _ (a b : ℕ → Frame) (p q : ℕ → ℕ) (p0 : p 0 ≡ 0) (q0 : q 0 ≡ 0) (rise-p : (i : ℕ) → p i ≤ p (suc i))
    (rise-q : (i : ℕ) → q i ≤ q (suc i)) where
  abbrev one : ℕ → List Frame
  one i = listed (λ (k : ℕ). a (p i + k)) (p (suc i) - p i)

  abbrev two : ℕ → List Frame
  two i = listed (λ (k : ℕ). b (q i + k)) (q (suc i) - q i)

  one-length : (i : ℕ) → length (listed (λ (k : ℕ). a (p i + k)) (p (suc i) - p i)) ≡ p (suc i) - p i
  one-length i = listed-length (λ (k : ℕ). a (p i + k)) (p (suc i) - p i)

  two-length : (i : ℕ) → length (listed (λ (k : ℕ). b (q i + k)) (q (suc i) - q i)) ≡ q (suc i) - q i
  two-length i = listed-length (λ (k : ℕ). b (q i + k)) (q (suc i) - q i)

  part_length : (i : ℕ) → length (part a b p q i) ≡ (p (suc i) - p i) + (q (suc i) - q i)
  part_length i = length-append (one i) (two i) ∙ (let x = one-length i in let y = two-length i in omega arith)

  more : (i : ℕ) → regrouped a b p q (suc i) ≡ regrouped a b p q i ++ part a b p q i
  unfolding regrouped
  more i = refl

  none_yet : regrouped a b p q 0 ≡ []
  unfolding regrouped
  none_yet = refl

  pub regrouped-length : (n : ℕ) → length (regrouped a b p q n) ≡ p n + q n
  regrouped-length zero = ap length none_yet ∙ (omega arith)
  regrouped-length (suc n) =
      ap length (more n) ∙ length-append (regrouped a b p q n) (part a b p q n)
      ∙ (let x = part_length n in let y = regrouped-length n in let u = rise-p n in let v = rise-q n in omega arith)

  -- a frame of a part, in the last part and before it
  last_one : (n x : ℕ) → x < p (suc n) - p n
      → get_or (regrouped a b p q (suc n)) (p n + q n + x) zero_frame ≡ a (p n + x)
  last_one n x l =
      let y = regrouped-length n in
      let z = one-length n in
      ap (λ (l : List Frame). get_or l (p n + q n + x) zero_frame) (more n)
      ∙ ap (λ (k : ℕ). get_or (regrouped a b p q n ++ part a b p q n) (k + x) zero_frame) (sym y)
      ∙ get_or-append-add (regrouped a b p q n) (part a b p q n) x zero_frame
      ∙ get_or-append (one n) (two n) zero_frame x (omega arith)
      ∙ listed_at (λ (k : ℕ). a (p n + k)) zero_frame (p (suc n) - p n) x l

  last-two : (n x : ℕ) → x < q (suc n) - q n → get_or (regrouped a b p q (suc n)) (p (suc n) + q n + x) zero_frame
      ≡ b (q n + x)
  last-two n x l =
      let y = regrouped-length n in
      let z = one-length n in
      let u = rise-p n in
      let e : p (suc n) + q n + x ≡ length (regrouped a b p q n) + ((p (suc n) - p n) + x) = omega arith in
      let f : (p (suc n) - p n) + x ≡ length (one n) + x = omega arith in
      ap (λ (l : List Frame). get_or l (p (suc n) + q n + x) zero_frame) (more n)
      ∙ ap (λ (k : ℕ). get_or (regrouped a b p q n ++ part a b p q n) k zero_frame) e
      ∙ get_or-append-add (regrouped a b p q n) (part a b p q n) ((p (suc n) - p n) + x) zero_frame
      ∙ ap (λ (k : ℕ). get_or (part a b p q n) k zero_frame) f
      ∙ get_or-append-add (one n) (two n) x zero_frame
      ∙ listed_at (λ (k : ℕ). b (q n + k)) zero_frame (q (suc n) - q n) x l

  -- a frame among the first n parts stays where it is
  stays : (n k : ℕ) → k < p n + q n → get_or (regrouped a b p q (suc n)) k zero_frame
      ≡ get_or (regrouped a b p q n) k zero_frame
  stays n k l =
      let y = regrouped-length n in
      ap (λ (l : List Frame). get_or l k zero_frame) (more n)
      ∙ get_or-append (regrouped a b p q n) (part a b p q n) zero_frame k (omega arith)

  -- WHERE THEY STAND

  pub first-at : (n i x : ℕ) → i < n → x < p (suc i) - p i → get_or (regrouped a b p q n) (p i + q i + x) zero_frame
      ≡ a (p i + x)
  first-at zero i x l w = absurd (omega arith)
  first-at (suc n) i x l w =
      ⊎_elim (λ e. rw e (last_one n x (subst (λ (j : ℕ). x < p (suc j) - p j) e w)))
      (λ v. let u = rise-p i in let t = rise-q i in let c = rises-far p rise-p (suc i) n v in
      let d = rises-far q rise-q (suc i) n v in
      stays n (p i + q i + x) (omega arith) ∙ first-at n i x v w) (eq-or-lt_of_le (le_of_suc-le-suc l))

  pub second_at : (n i x : ℕ) → i < n → x < q (suc i) - q i
      → get_or (regrouped a b p q n) (p (suc i) + q i + x) zero_frame
      ≡ b (q i + x)
  second_at zero i x l w = absurd (omega arith)
  second_at (suc n) i x l w =
      ⊎_elim (λ e. rw e (last-two n x (subst (λ (j : ℕ). x < q (suc j) - q j) e w)))
      (λ v. let u = rise-p i in let t = rise-q i in let c = rises-far p rise-p (suc i) n v in
      let d = rises-far q rise-q (suc i) n v in
      stays n (p (suc i) + q i + x) (omega arith) ∙ second_at n i x v w) (eq-or-lt_of_le (le_of_suc-le-suc l))

  -- WHAT HOLDS of each frame of each part at its place holds of all
  pub all-parts : (P : ℕ → Frame → Type 0) (n : ℕ)
      → ((i x : ℕ) → i < n → x < p (suc i) - p i → P (p i + q i + x) (a (p i + x)))
      → ((i x : ℕ) → i < n → x < q (suc i) - q i → P (p (suc i) + q i + x) (b (q i + x)))
      → (k : ℕ) → k < p n + q n → P k (get_or (regrouped a b p q n) k zero_frame)
  all-parts P zero f g k h = absurd (omega arith)
  all-parts P (suc n) f g k h =
      go (dec_lt k (p n + q n)) (dec_lt k (p (suc n) + q n))
      (all-parts P n (λ i x l. f i x (omega arith)) (λ i x l. g i x (omega arith)) k)
    where
      go : Dec (k < p n + q n) → Dec (k < p (suc n) + q n)
          → (k < p n + q n → P k (get_or (regrouped a b p q n) k zero_frame))
          → P k (get_or (regrouped a b p q (suc n)) k zero_frame)
      go (yes l) w ih = subst (λ (z : Frame). P k z) (sym (stays n k l)) (ih l)
      go (no l) (yes w) ih =
          let x = k - (p n + q n) in
          let lx : x < p (suc n) - p n = omega arith in
          let e : p n + q n + x ≡ k = omega arith in
          subst (λ (j : ℕ). P j (get_or (regrouped a b p q (suc n)) j zero_frame)) e
          (subst (λ (z : Frame). P (p n + q n + x) z) (sym (last_one n x lx)) (f n x (omega arith) lx))
      go (no l) (no w) ih =
          let x = k - (p (suc n) + q n) in
          let u = rise-q n in
          let lx : x < q (suc n) - q n = omega arith in
          let e : p (suc n) + q n + x ≡ k = omega arith in
          subst (λ (j : ℕ). P j (get_or (regrouped a b p q (suc n)) j zero_frame)) e
          (subst (λ (z : Frame). P (p (suc n) + q n + x) z) (sym (last-two n x lx)) (g n x (omega arith) lx))
