-- A field whose bytes are within its values writes, from what it reads, the bytes that it was read from. A frame whose
-- bytes are within the values of a layout is the one that the layout writes from what it reads: each byte is written by
-- a field that takes it, or is zero.
use Prim.Native.Nat.{ℕ, zero, suc, ◌+◌, ◌*◌, ◌-◌, ◌≤◌, ◌<◌}
use native.Mathlib.Nat.{zero-add}
use native.Mathlib.Omega.{arith}
use mathlib.Core.Path.{◌≡◌, refl, sym, ap, subst, ◌∙◌}
use mathlib.Core.Bool.{Bool, true, false, cond, ◌&&◌, ◌||◌}
use mathlib.Core.List.{List, [], ◌∷◌, ◌++◌, map}
use mathlib.Core.Logic.{◌⊎◌, inl, inr}
use lib.Dec.{leb, ltb, eqb}
use lib.ListN.{length, get_or}
use borrow.Author.Tests.{ltb-true, leb-true, eqb-true, ne_eqb}
use Rattle.ir.proofs.Tables.{at_place}
use Rattle.ir.proofs.Numbered.{vector_size-number, cooperative_role-number, scalar_kind-number, width-number}
use Rattle.ir.proofs.Numbered.{image_dimension-number, storage_format-number, literal-number, binary_operator-number}
use Rattle.ir.proofs.Numbered.{relational_function-number, image_query-number}
use Rattle.ir.specs.declared.AddressSpace.TheVariants as Sp
use Rattle.ir.specs.Numbers.{vector_size_of, vector_size_number, cooperative_size_of, cooperative_size_number}
use Rattle.ir.specs.Numbers.{scalar_kind_of}
use Rattle.ir.specs.Numbers.{scalar_kind_number, width_of, width_number, flag_of, flag_number, access_of, access_number}
use Rattle.ir.specs.Numbers.{spaces}
use Rattle.ir.specs.Numbers.{space_of, space_number, space_access}
use Rattle.frames.specs.declared.Frame.{Frame}
use Rattle.frames.specs.Bytes.{bytes_of, byte, half, word, framed}
use Rattle.frames.specs.Fields.{Field, vector_size, option_size, cooperative_size, role, scalar_kind, dimension, flag}
use Rattle.frames.specs.Fields.{literal, operator, number, wide, scalar, space, array_size, class, result, query}
use Rattle.frames.specs.Fields.{relational, convert}
use Rattle.frames.specs.Fields.{among, takes, read, fits, write, is_size, is_space, is_array_size, is_class, is_option}
use Rattle.frames.specs.Fields.{is_convert, option_size_of, option_size_number, array_size_of, form_number, form_count}
use Rattle.frames.specs.Fields.{class_of, class_bytes, result_of, result_bytes, convert_of, convert_bytes, half_byte}
use Rattle.frames.specs.Fields.{word_byte}
use Rattle.frames.specs.Fields.{fields, ValsOf, read_each, read_all, taken, places, all_of, fits_all, write_each, laid}

-- every byte of a frame is below 256
abbrev pub Below : Frame → Type 0
Below f = (i : ℕ) → byte f i < 256

-- each byte of a list is below 256
abbrev pub Each : List ℕ → Type 0
Each [] = Unit {0}
Each (b ∷ l) = (b < 256) × Each l

each_at : (l : List ℕ) → Each l → (i : ℕ) → get_or l i 0 < 256
each_at [] e i = let z : 0 < 256 = omega arith in z
each_at (b ∷ l) e zero = e.0
each_at (b ∷ l) e (suc i) = each_at l e.1 i

-- the sixteen bytes are below 256, and so is every byte
pub below_each : (f : Frame) → Each (bytes_of f) → Below f
below_each f e i = each_at (bytes_of f) e i

-- TESTS

never : false ≡ true → ⊥
never z = let q : ◌≡◌ {A = ℕ} 0 1 = cc in omega arith

-- both parts of a test hold
pub both : (a b : Bool) → (a && b) ≡ true → (a ≡ true) × (b ≡ true)
both true b h = (refl, h)
both false b h = absurd (never h)

-- one part of a test holds
pub either : (a b : Bool) → (a || b) ≡ true → (a ≡ true) ⊎ (b ≡ true)
either true b h = inl refl
either false b h = inr h

within : (i n k : ℕ) → among i n k ≡ true → (i ≤ k) × (k < i + n)
within i n k h = let q = both (leb i k) (ltb k (i + n)) h in (leb-true i k q.0, ltb-true k (i + n) q.1)

-- BYTES OF A NUMBER

half_at : (f : Frame) → Below f → (i j : ℕ) → j < 2 → half_byte (half f i) j ≡ byte f (i + j)
half_at f w i j h = go (byte f i) (byte f (i + 1)) (w i) (w (i + 1)) j h ∙ at i j h
  where
    go : (a b : ℕ) → a < 256 → b < 256 → (j : ℕ) → j < 2 → half_byte (a + b * 256) j ≡ get_or (a ∷ b ∷ []) j 0
    go a b p q zero h = omega arith
    go a b p q (suc zero) h = omega arith
    go a b p q (suc (suc j)) h = absurd (omega arith)

    at : (i j : ℕ) → j < 2 → get_or (byte f i ∷ byte f (i + 1) ∷ []) j 0 ≡ byte f (i + j)
    at i zero h = let e : i ≡ i + 0 = omega arith in ap (byte f) e
    at i (suc zero) h = refl
    at i (suc (suc j)) h = absurd (omega arith)

word_at : (f : Frame) → Below f → (i j : ℕ) → j < 4 → word_byte (word f i) j ≡ byte f (i + j)
word_at f w i j h =
    go (byte f i) (byte f (i + 1)) (byte f (i + 2)) (byte f (i + 3)) (w i) (w (i + 1)) (w (i + 2)) (w (i + 3)) j h
    ∙ at i j h
  where
    go : (a b c d : ℕ) → a < 256 → b < 256 → c < 256 → d < 256 → (j : ℕ) → j < 4
        → word_byte (a + b * 256 + c * 65536 + d * 16777216) j ≡ get_or (a ∷ b ∷ c ∷ d ∷ []) j 0
    go a b c d p q r s zero h = omega arith
    go a b c d p q r s (suc zero) h = omega arith
    go a b c d p q r s (suc (suc zero)) h = omega arith
    go a b c d p q r s (suc (suc (suc zero))) h = omega arith
    go a b c d p q r s (suc (suc (suc (suc j)))) h = absurd (omega arith)

    at : (i j : ℕ) → j < 4 → get_or (byte f i ∷ byte f (i + 1) ∷ byte f (i + 2) ∷ byte f (i + 3) ∷ []) j 0
        ≡ byte f (i + j)
    at i zero h = let e : i ≡ i + 0 = omega arith in ap (byte f) e
    at i (suc zero) h = refl
    at i (suc (suc zero)) h = refl
    at i (suc (suc (suc zero))) h = refl
    at i (suc (suc (suc (suc j)))) h = absurd (omega arith)

-- what stands at each of the n places from i on, counted from there
offset : (f : Frame) (i n : ℕ) (g : ℕ → ℕ) → ((j : ℕ) → j < n → g j ≡ byte f (i + j)) → (k : ℕ) → among i n k ≡ true
    → g (k - i) ≡ byte f k
offset f i n g e k t =
    let h = within i n k t in
    let p : i ≤ k = h.0 in
    let q : k < i + n = h.1 in
    let z : i + (k - i) ≡ k = omega arith in
    e (k - i) (omega arith) ∙ ap (byte f) z

-- the same with one place m apart from these
apart : (f : Frame) (m i n a : ℕ) (g : ℕ → ℕ) → (m < i) ⊎ (i + n ≤ m) → a ≡ byte f m
    → ((j : ℕ) → j < n → g j ≡ byte f (i + j)) → (k : ℕ)
    → (eqb k m || among i n k) ≡ true → cond (eqb k m) a (g (k - i)) ≡ byte f k
apart f m i n a g o p e k t = go o (either (eqb k m) (among i n k) t)
  where
    differs : (m < i) ⊎ (i + n ≤ m) → (i ≤ k) → (k < i + n) → k ≡ m → ⊥
    differs (inl l) p q z = omega arith
    differs (inr l) p q z = omega arith

    go : (m < i) ⊎ (i + n ≤ m) → (eqb k m ≡ true) ⊎ (among i n k ≡ true) → cond (eqb k m) a (g (k - i)) ≡ byte f k
    go o (inl h) = rw h (p ∙ ap (byte f) (sym (eqb-true k m h)))
    go o (inr h) = let q = within i n k h in rw (ne_eqb k m (differs o q.0 q.1)) (offset f i n g e k h)

two : (a g : ℕ → ℕ) → a 0 ≡ g 0 → a 1 ≡ g 1 → (j : ℕ) → j < 2 → a j ≡ g j
two a g p q zero h = p
two a g p q (suc zero) h = q
two a g p q (suc (suc j)) h = absurd (omega arith)

three : (a g : ℕ → ℕ) → a 0 ≡ g 0 → a 1 ≡ g 1 → a 2 ≡ g 2 → (j : ℕ) → j < 3 → a j ≡ g j
three a g p q r zero h = p
three a g p q r (suc zero) h = q
three a g p q r (suc (suc zero)) h = r
three a g p q r (suc (suc (suc j))) h = absurd (omega arith)

four : (a g : ℕ → ℕ) → a 0 ≡ g 0 → a 1 ≡ g 1 → a 2 ≡ g 2 → a 3 ≡ g 3 → (j : ℕ) → j < 4 → a j ≡ g j
four a g p q r s zero h = p
four a g p q r s (suc zero) h = q
four a g p q r s (suc (suc zero)) h = r
four a g p q r s (suc (suc (suc zero))) h = s
four a g p q r s (suc (suc (suc (suc j)))) h = absurd (omega arith)

-- NUMBERS OF CASES

size_number : (b : ℕ) → is_size b ≡ true → vector_size_number (vector_size_of b) ≡ b
size_number b h = let q = both (leb 2 b) (ltb b 5) h in vector_size-number b (leb-true 2 b q.0) (ltb-true b 5 q.1)

option_size-number : (b : ℕ) → (eqb b 0 || is_size b) ≡ true → option_size_number (option_size_of b) ≡ b
option_size-number b h = go (either (eqb b 0) (is_size b) h)
  where
    go : (eqb b 0 ≡ true) ⊎ (is_size b ≡ true) → option_size_number (option_size_of b) ≡ b
    go (inl e) = rw (eqb-true b 0 e)
    go (inr e) =
        let q = both (leb 2 b) (ltb b 5) e in
        let l = leb-true 2 b q.0 in
        rw (ne_eqb b 0 (λ z. omega arith)) (size_number b e)

cooperative-number : (b : ℕ) → (eqb b 8 || eqb b 16) ≡ true → cooperative_size_number (cooperative_size_of b) ≡ b
cooperative-number b h = go (either (eqb b 8) (eqb b 16) h)
  where
    go : (eqb b 8 ≡ true) ⊎ (eqb b 16 ≡ true) → cooperative_size_number (cooperative_size_of b) ≡ b
    go (inl e) = rw (eqb-true b 8 e)
    go (inr e) = rw (eqb-true b 16 e)

flag-number : (b : ℕ) → ltb b 2 ≡ true → flag_number (flag_of b) ≡ b
flag-number zero h = refl
flag-number (suc zero) h = refl
flag-number (suc (suc b)) h = let l = ltb-true (suc (suc b)) 2 h in absurd (omega arith)

access-number : (a : ℕ) → a < 8 → access_number (access_of a) ≡ a
access-number zero h = refl
access-number (suc zero) h = refl
access-number (suc (suc zero)) h = refl
access-number (suc (suc (suc zero))) h = refl
access-number (suc (suc (suc (suc zero)))) h = refl
access-number (suc (suc (suc (suc (suc zero))))) h = refl
access-number (suc (suc (suc (suc (suc (suc zero)))))) h = refl
access-number (suc (suc (suc (suc (suc (suc (suc zero))))))) h = refl
access-number (suc (suc (suc (suc (suc (suc (suc (suc a)))))))) h = absurd (omega arith)

space-number : (s a : ℕ) → is_space s a ≡ true → space_number (space_of s a) ≡ s
space-number s a h = let q = both (ltb s 10) _ h in
    at_place space_number Sp.Function (spaces a) 0 refl s (ltb-true s 10 q.0) ∙ zero-add s

space-access : (s a : ℕ) → is_space s a ≡ true → space_access (space_of s a) ≡ a
space-access zero a h = sym (eqb-true a 0 h)
space-access (suc zero) a h = sym (eqb-true a 0 h)
space-access (suc (suc zero)) a h = sym (eqb-true a 0 h)
space-access (suc (suc (suc zero))) a h = sym (eqb-true a 0 h)
space-access (suc (suc (suc (suc zero)))) a h = access-number a (ltb-true a 8 h)
space-access (suc (suc (suc (suc (suc zero))))) a h = sym (eqb-true a 0 h)
space-access (suc (suc (suc (suc (suc (suc zero)))))) a h = sym (eqb-true a 0 h)
space-access (suc (suc (suc (suc (suc (suc (suc zero))))))) a h = sym (eqb-true a 0 h)
space-access (suc (suc (suc (suc (suc (suc (suc (suc zero)))))))) a h = sym (eqb-true a 0 h)
space-access (suc (suc (suc (suc (suc (suc (suc (suc (suc zero))))))))) a h = sym (eqb-true a 0 h)
space-access (suc (suc (suc (suc (suc (suc (suc (suc (suc (suc s)))))))))) a h =
    let l =
    ltb-true (suc (suc (suc (suc (suc (suc (suc (suc (suc (suc s)))))))))) 10
    (both (ltb (suc (suc (suc (suc (suc (suc (suc (suc (suc (suc s)))))))))) 10) _ h).0 in
    absurd (omega arith)

past-form : (m n : ℕ) → 3 ≤ m → is_array_size m n ≡ true → ⊥
past-form m n l h = never
    (rw (ne_eqb m 0 (λ z. omega arith), ne_eqb m 1 (λ z. omega arith), ne_eqb m 2 (λ z. omega arith)) at h)

form-number : (m n : ℕ) → is_array_size m n ≡ true → form_number (array_size_of m n) ≡ m
form-number zero n h = refl
form-number (suc zero) n h = refl
form-number (suc (suc zero)) n h = refl
form-number (suc (suc (suc m))) n h = absurd (past-form (suc (suc (suc m))) n (omega arith) h)

form-count : (m n : ℕ) → is_array_size m n ≡ true → form_count (array_size_of m n) ≡ n
form-count zero n h = refl
form-count (suc zero) n h = refl
form-count (suc (suc zero)) n h = sym (eqb-true n 0 h)
form-count (suc (suc (suc m))) n h = absurd (past-form (suc (suc (suc m))) n (omega arith) h)

class-number : (c b5 b6 b7 : ℕ) → is_class c b5 b6 b7 ≡ true → (j : ℕ) → j < 4
    → get_or (class_bytes (class_of c b5 b6 b7)) j 0 ≡ get_or (c ∷ b5 ∷ b6 ∷ b7 ∷ []) j 0
class-number zero b5 b6 b7 h =
    let q = both (ltb b5 6) _ h in
    let r = both (ltb b6 2) (eqb b7 0) q.1 in
    four _ _ refl (scalar_kind-number b5 (ltb-true b5 6 q.0)) (flag-number b6 r.0) (sym (eqb-true b7 0 r.1))
class-number (suc zero) b5 b6 b7 h =
    let q = both (eqb b5 0) _ h in
    let r = both (ltb b6 2) (eqb b7 0) q.1 in
    four _ _ refl (sym (eqb-true b5 0 q.0)) (flag-number b6 r.0) (sym (eqb-true b7 0 r.1))
class-number (suc (suc zero)) b5 b6 b7 h =
    let q = both (eqb b5 0) _ h in
    let r = both (eqb b6 0) (eqb b7 0) q.1 in
    four _ _ refl (sym (eqb-true b5 0 q.0)) (sym (eqb-true b6 0 r.0)) (sym (eqb-true b7 0 r.1))
class-number (suc (suc (suc zero))) b5 b6 b7 h =
    let q = both (ltb b5 41) _ h in
    let r = both (eqb b6 0) (ltb b7 8) q.1 in
    four _ _ refl (storage_format-number b5 (ltb-true b5 41 q.0)) (sym (eqb-true b6 0 r.0))
    (access-number b7 (ltb-true b7 8 r.1))
class-number (suc (suc (suc (suc c)))) b5 b6 b7 h = absurd (never h)

result-number : (a b m : ℕ) → a < 256 → b < 256 → is_option m (a + b * 256) ≡ true → (j : ℕ) → j < 3
    → get_or (result_bytes (result_of m (record { 0 = a + b * 256 }))) j 0 ≡ get_or (a ∷ b ∷ m ∷ []) j 0
result-number a b zero p q h = let z = eqb-true (a + b * 256) 0 h in three _ _ (omega arith) (omega arith) refl
result-number a b (suc zero) p q h = three _ _ (omega arith) (omega arith) refl
result-number a b (suc (suc m)) p q h = let l = ltb-true (suc (suc m)) 2 (both (ltb (suc (suc m)) 2) _ h).0 in
    absurd (omega arith)

convert_number : (m n : ℕ) → is_convert m n ≡ true → (j : ℕ) → j < 2 → get_or (convert_bytes (convert_of m n)) j 0
    ≡ get_or (m ∷ n ∷ []) j 0
convert_number zero n h = two _ _ refl (sym (eqb-true n 0 h))
convert_number (suc zero) n h = two _ _ refl (width-number n h)
convert_number (suc (suc m)) n h = let l = ltb-true (suc (suc m)) 2 (both (ltb (suc (suc m)) 2) _ h).0 in
    absurd (omega arith)

-- THE LAW OF A FIELD

-- a field whose bytes are within its values writes, from what it reads, each byte that it takes
pub write_read : (x : Field) (f : Frame) → Below f → fits x f ≡ true → (k : ℕ) → takes x k ≡ true → write x (read x f) k
    ≡ byte f k
write_read (vector_size i) f w h k t = size_number (byte f i) h ∙ ap (byte f) (sym (eqb-true k i t))
write_read (option_size i) f w h k t = option_size-number (byte f i) h ∙ ap (byte f) (sym (eqb-true k i t))
write_read (cooperative_size i) f w h k t = cooperative-number (byte f i) h ∙ ap (byte f) (sym (eqb-true k i t))
write_read (role i) f w h k t = cooperative_role-number (byte f i) (ltb-true _ 3 h) ∙ ap (byte f) (sym (eqb-true k i t))
write_read (scalar_kind i) f w h k t =
    scalar_kind-number (byte f i) (ltb-true _ 6 h) ∙ ap (byte f) (sym (eqb-true k i t))
write_read (dimension i) f w h k t =
    let q = both (leb 1 (byte f i)) (ltb (byte f i) 5) h in
    image_dimension-number (byte f i) (leb-true 1 _ q.0) (ltb-true _ 5 q.1) ∙ ap (byte f) (sym (eqb-true k i t))
write_read (flag i) f w h k t = flag-number (byte f i) h ∙ ap (byte f) (sym (eqb-true k i t))
write_read (literal i) f w h k t = literal-number (byte f i) (ltb-true _ 12 h) ∙ ap (byte f) (sym (eqb-true k i t))
write_read (operator i) f w h k t = binary_operator-number (byte f i) (ltb-true _ 18 h)
    ∙ ap (byte f) (sym (eqb-true k i t))
write_read (number i) f w h k t = offset f i 2 (half_byte (half f i)) (half_at f w i) k t
write_read (wide i) f w h k t = offset f i 4 (word_byte (word f i)) (word_at f w i) k t
write_read scalar f w h k t =
    let q = both (ltb f.b4 6) _ h in
    offset f 4 2 _
    (two (λ (j : ℕ). get_or (scalar_kind_number (scalar_kind_of f.b4) ∷ width_number (width_of f.b5) ∷ []) j 0)
    (λ (j : ℕ). byte f (4 + j))
    (scalar_kind-number f.b4 (ltb-true _ 6 q.0)) (width-number f.b5 q.1))
    k t
write_read space f w h k t =
    offset f 6 2 _
    (two (λ (j : ℕ). get_or (space_number (read space f) ∷ space_access (read space f) ∷ []) j 0)
    (λ (j : ℕ). byte f (6 + j))
    (space-number f.b6 f.b7 h) (space-access f.b6 f.b7 h))
    k t
write_read array_size f w h k t =
    apart f 4 8 4 _ (word_byte (form_count (read array_size f))) (inl (omega arith)) (form-number f.b4 (word f 8) h)
    (λ j l. ap (λ (n : ℕ). word_byte n j) (form-count f.b4 (word f 8) h) ∙ word_at f w 8 j l)
    k t
write_read class f w h k t =
    offset f 4 4 _
    (λ j l.
    class-number f.b4 f.b5 f.b6 f.b7 h j l
    ∙ four (λ (i : ℕ). get_or (f.b4 ∷ f.b5 ∷ f.b6 ∷ f.b7 ∷ []) i 0)
    (λ (i : ℕ). byte f (4 + i)) refl refl refl refl j l)
    k t
write_read result f w h k t =
    offset f 2 3 _
    (λ j l.
    result-number f.b2 f.b3 f.b4 (w 2) (w 3) h j l
    ∙ three (λ (i : ℕ). get_or (f.b2 ∷ f.b3 ∷ f.b4 ∷ []) i 0) (λ (i : ℕ). byte f (2 + i)) refl refl refl j l)
    k t
write_read query f w h k t =
    let q = both (ltb (byte f 6) 4) _ h in
    apart f 6 2 2 _ (half_byte (half f 2)) (inr (omega arith)) (image_query-number _ (ltb-true _ 4 q.0))
    (half_at f w 2) k t
write_read relational f w h k t =
    let q = both (ltb (byte f 6) 4) _ h in
    apart f 6 2 2 _ (half_byte (half f 2)) (inr (omega arith)) (relational_function-number _ (ltb-true _ 4 q.0))
    (half_at f w 2) k t
write_read convert f w h k t =
    offset f 7 2 _
    (λ j l. convert_number f.b7 f.b8 h j l
    ∙ two (λ (i : ℕ). get_or (f.b7 ∷ f.b8 ∷ []) i 0) (λ (i : ℕ). byte f (7 + i)) refl refl j l)
    k t

-- A WHOLE FRAME

-- frames are the same that have the same sixteen bytes
pub same_bytes : (a b : ℕ → ℕ) → ((i : ℕ) → i < 16 → a i ≡ b i) → framed a ≡ framed b
same_bytes a b e =
    rw (
      e 0 (omega arith),
      e 1 (omega arith),
      e 2 (omega arith),
      e 3 (omega arith),
      e 4 (omega arith),
      e 5 (omega arith),
      e 6 (omega arith),
      e 7 (omega arith),
      e 8 (omega arith),
      e 9 (omega arith),
      e 10 (omega arith),
      e 11 (omega arith),
      e 12 (omega arith),
      e 13 (omega arith),
      e 14 (omega arith),
      e 15 (omega arith),
    )

all-before : (a b : List Bool) → all_of (a ++ b) ≡ true → (all_of a ≡ true) × (all_of b ≡ true)
all-before [] b h = (refl, h)
all-before (true ∷ a) b h = all-before a b h
all-before (false ∷ a) b h = absurd (never h)

all-at : (p : ℕ → Bool) (l : List ℕ) → all_of (map p l) ≡ true → (i : ℕ) → i < length l → p (get_or l i 0) ≡ true
all-at p [] h i l = let g : i < 0 = l in absurd (omega arith)
all-at p (x ∷ xs) h zero l = (both (p x) _ h).0
all-at p (x ∷ xs) h (suc i) l = let g : suc i < suc (length xs) = l in all-at p xs (both (p x) _ h).1 i (omega arith)

by-test : (b : Bool) (x y r : ℕ) → (b ≡ true → x ≡ r) → (b ≡ false → y ≡ r) → cond b x y ≡ r
by-test true x y r p q = p refl
by-test false x y r p q = q refl

-- a byte that a field of the list takes is written again
taken_back : (f : Frame) → Below f → (l : List Field) → all_of (map (λ (x : Field). fits x f) l) ≡ true → (k : ℕ)
    → taken l k ≡ true
    → write_each l (read_each l f) k ≡ byte f k
taken_back f w [] h k t = absurd (never t)
taken_back f w (x ∷ l) h k t =
    let q = both (fits x f) _ h in
    by-test (takes x k) _ _ _ (λ e. write_read x f w q.0 k e) (λ e. taken_back f w l q.1 k (rw e at t))

-- where no field takes the byte a zero is written
untaken : (l : List Field) (v : ValsOf l) (k : ℕ) → taken l k ≡ false → write_each l v k ≡ 0
untaken [] v k t = refl
untaken (x ∷ l) v k t =
    by-test (takes x k) _ _ _ (λ e. absurd (never (sym (rw e at t)))) (λ e. untaken l v.1 k (rw e at t))

-- each place after the family and the kind
each_back : (f : Frame) → Below f → (l : List Field) → fits_all (fields l) f ≡ true → (k : ℕ)
    → (taken l k || eqb (byte f k) 0) ≡ true
    → write_each l (read_each l f) k ≡ byte f k
each_back f w l h k t = go (taken l k) refl
  where
    q : (all_of (map (λ (x : Field). fits x f) l) ≡ true)
        × (all_of (map (λ (k : ℕ). taken l k || eqb (byte f k) 0) places) ≡ true)
    q = all-before (map (λ (x : Field). fits x f) l) _ h

    go : (b : Bool) → taken l k ≡ b → write_each l (read_each l f) k ≡ byte f k
    go true e = taken_back f w l q.0 k e
    go false e = untaken l (read_each l f) k e ∙ sym (eqb-true (byte f k) 0 (rw e at t))

-- a frame whose bytes are within the values of its layout is what the layout writes from what it reads
pub laid-back : (l : List Field) (f : Frame) → Below f → fits_all (fields l) f ≡ true
    → laid (byte f 0) (byte f 1) (fields l) (read_all (fields l) f) ≡ f
laid-back l f w h = same_bytes _ (byte f) each
  where
    q : (all_of (map (λ (x : Field). fits x f) l) ≡ true)
        × (all_of (map (λ (k : ℕ). taken l k || eqb (byte f k) 0) places) ≡ true)
    q = all-before (map (λ (x : Field). fits x f) l) _ h

    each : (i : ℕ) → i < 16 → get_or (byte f 0 ∷ byte f 1 ∷ []) i (write_each l (read_each l f) i) ≡ byte f i
    each zero b = refl
    each (suc zero) b = refl
    each (suc (suc i)) b =
        let n : i < 14 = omega arith in
        let e : get_or places i 0 ≡ suc (suc i) = at_place (λ (k : ℕ). k) 0 places 2 refl i n ∙ omega arith in
        each_back f w l h (suc (suc i))
        (subst (λ (k : ℕ). (taken l k || eqb (byte f k) 0) ≡ true) e
        (all-at (λ (k : ℕ). taken l k || eqb (byte f k) 0) places q.1 i n))
