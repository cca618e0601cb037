-- Bytes written into a buffer, one run after the other; the digits of a number, from its last; pieces, from the first.
-- By the laws of lists.
use Prim.Native.Nat.{ℕ, zero, suc, ◌+◌, ◌*◌, ◌-◌, ◌/◌, ◌%◌, ◌≤◌, ◌<◌}
use native.Mathlib.Numerals.{add-one}
use native.Mathlib.Omega.{arith}
use mathlib.Core.Path.{◌≡◌, refl, sym, ap, ◌∙◌}
use mathlib.Core.List.{List, [], ◌∷◌, ◌++◌, append_assoc, append-nil}
use lib.ListN.{length, take, drop, get_or, set, length-append, length-drop}
use lib.Seq.{take_at, drop_at, drop-drop, drop-append-add, set_split, length-take-le, append_snoc, take-suc}
use borrow.Author.Tests.{lt-ltb, le-ltb, le-leb}
use Rattle.rule_explain.specs.Lines.{digits, piece_bytes, spelled}
use Rattle.explain_words.specs.ForProofs.{written, put_in, put_pieces, place_after}

-- what stands before the end of a run
head-long : (o b : List ℕ) (at : ℕ) → at ≤ length o → length (take at o ++ b) ≡ at + length b
head-long o b at h = length-append (take at o) b ∙ ap (λ (k : ℕ). k + length b) (length-take-le at o h)

-- a run leaves the buffer's length
pub written-long : (o b : List ℕ) (at : ℕ) → at + length b ≤ length o → length (written o at b) ≡ length o
written-long o b at h =
    length-append (take at o ++ b) (drop (at + length b) o)
    ∙ ap (λ (k : ℕ). k + length (drop (at + length b) o)) (head-long o b at (omega arith))
    ∙ omega (arith, length-drop (at + length b) o)

-- nothing written
pub written_none : (o : List ℕ) (at : ℕ) → o ≡ written o at []
written_none o at = let z : at + 0 ≡ at = omega arith in rw (z, append-nil) (sym (whole at o))
  where
    whole : (n : ℕ) (l : List ℕ) → take n l ++ drop n l ≡ l
    whole zero l = refl
    whole (suc n) [] = refl
    whole (suc n) (x ∷ l) = ap (λ (r : List ℕ). x ∷ r) (whole n l)

-- a run, and one more where it ends, are one run
pub join : (o x y : List ℕ) (at : ℕ) → at + length x ≤ length o → written (written o at x) (at + length x) y
    ≡ written o at (x ++ y)
join o x y at h =
    let p = take at o ++ x in
    let r = drop (at + length x) o in
    let e : length p ≡ at + length x = head-long o x at (omega arith) in
    let front : take (at + length x) (p ++ r) ≡ p = take_at p r (at + length x) e in
    let more : at + length x + length y ≡ at + length (x ++ y) = omega (arith, length-append x y) in
    let back : drop (at + length x + length y) (p ++ r) ≡ drop (at + length (x ++ y)) o =
    ap (λ (k : ℕ). drop (k + length y) (p ++ r)) (sym e) ∙ drop-append-add p r (length y)
    ∙ drop-drop (length y) (at + length x) o
    ∙ ap (λ (k : ℕ). drop k o) more in
    ap (λ (l : List ℕ). l ++ y ++ drop (at + length x + length y) (p ++ r)) front
    ∙ ap (λ (l : List ℕ). p ++ y ++ l) back
    ∙ ap (λ (l : List ℕ). l ++ drop (at + length (x ++ y)) o) (append_assoc (take at o) x y)

-- DIGITS, from the last

front : (buf : List ℕ) (k v : ℕ) → k < length buf → drop k (set buf k v) ≡ v ∷ drop (suc k) buf
front buf k v h = rw (set_split buf k v h)
    (drop_at (take k buf) (v ∷ drop (suc k) buf) k (length-take-le k buf (omega arith)))

-- the first digit is written
pub ends : (i r : ℕ) (buf d : List ℕ) → 0 < i → i ≤ length buf → r < 10 → d ≡ digits i r ++ drop i buf
    → drop (i - 1) (set buf (i - 1) (48 + r % 10)) ≡ d
unfolding digits
ends zero r buf d p h l e = absurd (omega arith)
ends (suc k) r buf d p h l e =
    let z : suc k - 1 ≡ k = omega arith in rw z (front buf k (48 + r % 10) (omega arith) ∙ sym (e ∙ rw (lt-ltb r 10 l)))

-- another digit is written
pub goes : (i r : ℕ) (buf d : List ℕ) → 0 < i → i ≤ length buf → 10 ≤ r → d ≡ digits i r ++ drop i buf
    → d ≡ digits (i - 1) (r / 10) ++ drop (i - 1) (set buf (i - 1) (48 + r % 10))
unfolding digits
goes zero r buf d p h l e = absurd (omega arith)
goes (suc k) r buf d p h l e =
    let z : suc k - 1 ≡ k = omega arith in
    e ∙ rw (le-ltb r 10 l, z) (append_snoc (digits k (r / 10)) (48 + r % 10) (drop (suc k) buf)
    ∙ ap (λ (x : List ℕ). digits k (r / 10) ++ x) (sym (front buf k (48 + r % 10) (omega arith))))

-- all ten are written
pub full : (i r : ℕ) (buf d : List ℕ) → i ≡ 0 → d ≡ digits i r ++ drop i buf → buf ≡ d
unfolding digits
full i r buf d z e = sym (rw z at e)

-- before any
pub none_yet : (n : ℕ) (buf : List ℕ) → length buf ≡ 10 → digits 10 n ≡ digits 10 n ++ drop 10 buf
none_yet n buf h = sym (ap (λ (l : List ℕ). digits 10 n ++ l) (past 10 buf (omega arith)) ∙ append-nil (digits 10 n))
  where
    past : (k : ℕ) (l : List ℕ) → length l ≤ k → drop k l ≡ []
    past zero [] h = refl
    past zero (x ∷ l) h = absurd (omega arith)
    past (suc k) [] h = refl
    past (suc k) (x ∷ l) h = past k l (omega arith)

-- PIECES, from the first

pub spelled-more : (xs ys : List ℕ) → spelled (xs ++ ys) ≡ spelled xs ++ spelled ys
unfolding spelled
spelled-more [] ys = refl
spelled-more (x ∷ xs) ys =
    ap (λ (l : List ℕ). piece_bytes x ++ l) (spelled-more xs ys)
    ∙ sym (append_assoc (piece_bytes x) (spelled xs) (spelled ys))

pub spelled-one : (ps : List ℕ) (i : ℕ) → i < length ps → spelled (take (i + 1) ps) ≡ spelled (take i ps)
    ++ piece_bytes (get_or ps i 0)
unfolding spelled
spelled-one ps i h =
    rw (add-one, take-suc ps i 0 h)
    (spelled-more (take i ps) (get_or ps i 0 ∷ [])
    ∙ ap (λ (l : List ℕ). spelled (take i ps) ++ l) (append-nil (piece_bytes (get_or ps i 0))))

pub spelled_none : (ps : List ℕ) → [] ≡ spelled (take 0 ps)
unfolding spelled
spelled_none ps = refl

-- WHERE THERE IS ROOM

pub put-fits : (o b : List ℕ) (at : ℕ) → at + length b ≤ length o → put_in o at b ≡ written o at b
unfolding put_in
put-fits o b at h = rw (le-leb _ _ h)

pub pieces-fit : (o ps last : List ℕ) (at r : ℕ) → at + 48 * length ps ≤ length o → r ≡ place_after o at ps → last
    ≡ put_pieces o at ps
    → (r ≡ at + length (spelled ps)) × (last ≡ written o at (spelled ps))
unfolding put_pieces place_after
pieces-fit o ps last at r h er el = (er ∙ rw (le-leb _ _ h), el ∙ rw (le-leb _ _ h))
