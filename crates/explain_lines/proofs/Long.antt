-- How long a line for people is at most: 142 bytes, which are 16 for the row, 106 for what is said, a pointer's type at
-- most, and 20 for the type's number. From the lengths of the words, computed over the table, and at most ten digits a
-- number.
use Prim.Native.Nat.{ℕ, ◌+◌, ◌*◌, ◌-◌, ◌≤◌}
use native.Mathlib.Omega.{arith}
use mathlib.Core.Path.{◌≡◌, refl, ap}
use mathlib.Core.Bool.{Bool, true, false, cond}
use mathlib.Core.List.{List, [], ◌∷◌, ◌++◌}
use lib.Dec.{ltb, leb, eqb}
use lib.ListN.{length, length-append}
use borrow.Author.Tests.{ltb-true, leb-true}
use Rattle.ir.specs.declared.TypeNumber.{TypeNumber}
use Rattle.ir.specs.declared.RowNumber.{RowNumber}
use Rattle.ir.specs.declared.Scalar.{Scalar}
use Rattle.ir.specs.Numbers.{is_width}
use Rattle.ir.specs.Scalars.{I16, I32, I64, U16, U32, U64, F16, F32, F64, BOOL, ABSTRACT-INT, ABSTRACT-FLOAT}
use Rattle.frames.specs.declared.Frame.{Frame}
use Rattle.frames.specs.Bytes.{half, word, frame_at}
use Rattle.rule_explain.specs.Words as W
use Rattle.rule_explain.specs.Words.{word_bytes}
use Rattle.rule_explain.specs.Lines.{num, piece_bytes, spelled}
use Rattle.explain_words.proofs.Long.{number-long, none-long, piece-long, longest, no_longer}
use Rattle.rule_explain.specs.declared.ScalarWords.{ScalarWords}
use Rattle.rule_explain.specs.declared.Short.{Short}
use Rattle.rule_explain.specs.Types.{picked, is_scalar, named, bytes_of, scalar_words, around, by_number, vector}
use Rattle.rule_explain.specs.Types.{is_brief, brief, within, inside, pointer, array_words, cooperative_words}
use Rattle.rule_explain.specs.Types.{class_name}
use Rattle.rule_explain.specs.Types.{arrayed_name, image, unknown_kind, whole}
use Rattle.rule_explain.specs.Answers.{manner, reason, refusal, judged_words, said, shown, ending, line_of, fault_words}
use Rattle.rule_explain.specs.Answers.{fault_line}
use Rattle.rule_explain.specs.Sizes.{size_words, size_line_of, span_words, span_of}
use Rattle.explain_lines.proofs.Runs.{three-spelled}

-- a piece has at most m bytes; pieces have
abbrev Piece : ℕ → ℕ → Type 0
Piece p m = length (piece_bytes p) ≤ m

abbrev Pieces : List ℕ → ℕ → Type 0
Pieces l m = length (spelled l) ≤ m

-- what holds of both cases holds
by_cond : {A : Type 0} (P : A → Type 0) (b : Bool) (x y : A) → P x → P y → P (cond b x y)
by_cond P true x y h k = h
by_cond P false x y h k = k

-- a piece, and others after it
more : (p : ℕ) (l : List ℕ) (m a b : ℕ) → Piece p a → Pieces l b → leb (a + b) m ≡ true → Pieces (p ∷ l) m
more p l m a b h k e = simp piece-long (omega (arith, leb-true (a + b) m e))

-- a word of the table
word-long : (w m : ℕ) → leb (length (piece_bytes w)) m ≡ true → Piece w m
word-long w m e = leb-true (length (piece_bytes w)) m e

-- one of several
picked-long : (base lowest n code m : ℕ) → leb (longest (λ i. base + i) n) m ≡ true → leb (length (piece_bytes 0)) m
    ≡ true
    → Piece (picked base lowest n code) m
unfolding picked
picked-long base lowest n code m e z =
    by_cond (λ p. Piece p m) (ltb code lowest) W.none (cond (ltb (code - lowest) n) (base + (code - lowest)) W.none)
    (word-long 0 m z) (go (ltb (code - lowest) n) refl)
  where
    go : (b : Bool) → ltb (code - lowest) n ≡ b → Piece (cond b (base + (code - lowest)) W.none) m
    go true q =
        omega (
          arith,
          no_longer (λ i. base + i) n (code - lowest) (ltb-true (code - lowest) n q),
          leb-true (longest (λ i. base + i) n) m e,
        )
    go false q = word-long 0 m z

-- SCALARS

-- a name, or the others
name-long : (s : Scalar) (name other kind width : ℕ) → Piece name 15 → Piece other 15
    → Piece (cond (is_scalar s kind width) name other) 15
name-long s name other kind width h k = by_cond (λ p. Piece p 15) (is_scalar s kind width) name other h k

named-long : (kind width : ℕ) → Piece (named kind width) 15
unfolding named piece_bytes word_bytes W.word_table
named-long kind width =
    name-long I16 W.i16 _ kind width (omega arith)
    (name-long I32 W.i32 _ kind width (omega arith)
    (name-long I64 W.i64 _ kind width (omega arith)
    (name-long U16 W.u16 _ kind width (omega arith)
    (name-long U32 W.u32 _ kind width (omega arith)
    (name-long U64 W.u64 _ kind width (omega arith)
    (name-long F16 W.f16 _ kind width (omega arith)
    (name-long F32 W.f32 _ kind width (omega arith)
    (name-long F64 W.f64 _ kind width (omega arith)
    (name-long BOOL W.bool _ kind width (omega arith)
    (name-long ABSTRACT-INT W.abstract_int _ kind width (omega arith)
    (name-long ABSTRACT-FLOAT W.abstract_float W.none kind width (omega arith) (omega arith))))))))))))

abbrev ScalarLong : ScalarWords → Type 0
ScalarLong s = length (piece_bytes s.name) + length (piece_bytes s.width) + length (piece_bytes s.bytes) ≤ 33

bytes-long : (width : ℕ) → Piece (bytes_of width) 10
unfolding piece_bytes word_bytes W.word_table
bytes-long width = by_cond (λ p. Piece p 10) (is_width width) (num width) W.none (number-long width)
    (word-long W.none 10 refl)

scalar-long : (kind width : ℕ) → ScalarLong (scalar_words kind width)
unfolding scalar_words piece_bytes word_bytes W.word_table longest
scalar-long kind width =
    by_cond ScalarLong (eqb (named kind width) W.none) _ _
    (omega (arith, picked-long W.plain 0 6 kind 16 refl refl, bytes-long width))
    (omega (arith, named-long kind width))

-- A TYPE THAT ANOTHER NAMES

abbrev ShortLong : ℕ → Short → Type 0
ShortLong m s = Pieces (inside s []) m

around-long : (lead first x second less kind width close m : ℕ)
    → length (piece_bytes lead) + length (piece_bytes first) + length (piece_bytes x) + length (piece_bytes second)
    + length (piece_bytes less) + length (piece_bytes close) + 33 ≤ m
    → ShortLong m (around lead first x second less kind width close)
unfolding around
around-long lead first x second less kind width close m h = simp (piece-long, none-long)
    (omega (arith, scalar-long kind width))

vector-long : (size kind width : ℕ) → ShortLong 48 (vector size kind width)
unfolding vector piece_bytes word_bytes W.word_table
vector-long size kind width =
    by_cond (ShortLong 48) (eqb size 0) _ _
    (around-long W.none W.none W.none W.none W.none kind width W.none 48 (omega arith))
    (around-long W.vec (num size) W.none W.none W.less kind width W.more 48 (omega (arith, number-long size)))

brief-long : (f : Frame) → ShortLong 59 (brief f)
unfolding brief piece_bytes word_bytes W.word_table
brief-long f =
    by_cond (ShortLong 59) (eqb f.b1 1) _ _ (omega (arith, vector-long 0 f.b4 f.b5))
    (by_cond (ShortLong 59) (eqb f.b1 2) _ _ (omega (arith, vector-long f.b2 f.b4 f.b5))
    (by_cond (ShortLong 59) (eqb f.b1 3) _ _
    (around-long _ _ _ _ _ _ _ _ 59 (omega (arith, number-long f.b2, number-long f.b3)))
    (around-long W.atomic W.none W.none W.none W.none f.b4 f.b5 W.more 59 (omega arith))))

number-type-long : (n : TypeNumber) → ShortLong 59 (by_number n)
unfolding piece_bytes word_bytes W.word_table
number-type-long n = simp (piece-long, none-long) (omega (arith, number-long n.0))

within-long : (fr : List ℕ) (n : TypeNumber) → ShortLong 59 (within fr n)
unfolding within
within-long fr n = by_cond (ShortLong 59) (is_brief (frame_at fr n.0).b1) _ _ (brief-long (frame_at fr n.0))
    (number-type-long n)

-- A TYPE

abbrev TypeLong : List ℕ → Type 0
TypeLong l = Pieces l 106

pointer-long : (lead : ℕ) (s : Short) (space access : ℕ) → Piece lead 10 → ShortLong 59 s
    → TypeLong (pointer lead s space access)
unfolding pointer piece_bytes word_bytes W.word_table longest
pointer-long lead s space access h k =
    simp piece-long
    (omega (
      arith,
      simp (piece-long, none-long) at k,
      picked-long W.space 0 10 space 20 refl refl,
      by_cond (λ l. Pieces l 15) (eqb space 4) (W.comma ∷ picked W.access 0 8 access ∷ W.more ∷ []) (W.more ∷ [])
          (simp (piece-long, none-long) (omega (arith, picked-long W.access 0 8 access 12 refl refl)))
          (simp (piece-long, none-long) (omega arith)),
    ))

array_long : (lead : ℕ) (s : Short) (form count : ℕ) → Piece lead 14 → ShortLong 59 s
    → TypeLong (array_words lead s form count)
unfolding array_words piece_bytes word_bytes W.word_table
array_long lead s form count h k =
    simp piece-long
    (omega (
      arith,
      simp (piece-long, none-long) at k,
      by_cond (λ l. Pieces l 22) (eqb form 0) (W.comma ∷ num count ∷ W.more ∷ [])
          (cond (eqb form 1) (W.override ∷ num count ∷ W.more ∷ []) (W.more ∷ []))
          (simp (piece-long, none-long) (omega (arith, number-long count)))
          (by_cond (λ l. Pieces l 22) (eqb form 1) (W.override ∷ num count ∷ W.more ∷ []) (W.more ∷ [])
          (simp (piece-long, none-long) (omega (arith, number-long count)))
          (simp (piece-long, none-long) (omega arith))),
    ))

cooperative-long : (f : Frame) → TypeLong (cooperative_words f)
unfolding cooperative_words piece_bytes word_bytes W.word_table longest
cooperative-long f =
    let k =
    around-long W.cooperative (num f.b2) W.x (num f.b3) W.less f.b4 f.b5 W.none 63
    (omega (arith, number-long f.b2, number-long f.b3)) in
    simp (piece-long, none-long)
    (omega (arith, simp (piece-long, none-long) at k, picked-long W.role 0 3 f.b6 3 refl refl))

class-long : (class multi : ℕ) → Piece (class_name class multi) 19
unfolding class_name piece_bytes word_bytes W.word_table
class-long class multi =
    by_cond (λ p. Piece p 19) (eqb class 0) _ _
    (by_cond (λ p. Piece p 19) (eqb multi 1) _ _ (omega arith) (omega arith))
    (by_cond (λ p. Piece p 19) (eqb class 1) _ _
    (by_cond (λ p. Piece p 19) (eqb multi 1) _ _ (omega arith) (omega arith)) (omega arith))

arrayed-long : (flag : ℕ) → Piece (arrayed_name flag) 6
unfolding arrayed_name piece_bytes word_bytes W.word_table
arrayed-long flag = by_cond (λ p. Piece p 6) (eqb flag 1) _ _ (omega arith) (omega arith)

image-long : (f : Frame) → TypeLong (image f)
unfolding image piece_bytes word_bytes W.word_table longest
image-long f =
    by_cond TypeLong (eqb f.b4 2) _ _ (simp (piece-long, none-long) (omega arith))
    (simp piece-long
    (omega (
      arith,
      class-long f.b4 f.b6,
      picked-long W.dimension 1 4 f.b2 4 refl refl,
      arrayed-long f.b3,
      by_cond (λ l. Pieces l 29) (eqb f.b4 0) (W.less ∷ picked W.sampled 0 6 f.b5 ∷ W.more ∷ [])
          (cond (eqb f.b4 1) []
          (W.less ∷ picked W.format 0 41 f.b5 ∷ W.comma ∷ picked W.access 0 8 f.b7 ∷ W.more ∷ []))
          (simp (piece-long, none-long) (omega (arith, picked-long W.sampled 0 6 f.b5 15 refl refl)))
          (by_cond (λ l. Pieces l 29) (eqb f.b4 1) []
          (W.less ∷ picked W.format 0 41 f.b5 ∷ W.comma ∷ picked W.access 0 8 f.b7 ∷ W.more ∷ [])
          (simp none-long (omega arith))
          (simp (piece-long, none-long)
          (omega (
            arith,
            picked-long W.format 0 41 f.b5 13 refl refl,
            picked-long W.access 0 8 f.b7 12 refl refl,
          )))),
    )))

unknown-long : (k : ℕ) → TypeLong (unknown_kind k)
unfolding piece_bytes word_bytes W.word_table
unknown-long k = simp (piece-long, none-long) (omega (arith, number-long k))

whole_long : (fr : List ℕ) (f : Frame) → TypeLong (whole fr f)
unfolding whole piece_bytes word_bytes W.word_table longest
whole_long fr f =
    by_cond TypeLong (eqb f.b1 6) _ _ (pointer-long W.pointer (within fr (record {
      0 =
          half f 2;
    })) f.b6 f.b7 (omega arith) (within-long fr (record { 0 = half f 2 })))
    (by_cond TypeLong (eqb f.b1 7) _ _
    (pointer-long W.value (vector f.b2 f.b4 f.b5) f.b6 f.b7 (omega arith)
    (omega (arith, vector-long f.b2 f.b4 f.b5)))
    (by_cond TypeLong (eqb f.b1 8) _ _
    (array_long W.array (within fr (record { 0 = half f 2 })) f.b4 (word f 8) (omega arith)
    (within-long fr (record { 0 = half f 2 })))
    (by_cond TypeLong (eqb f.b1 14) _ _
    (array_long W.bindings (within fr (record { 0 = half f 2 })) f.b4 (word f 8) (omega arith)
    (within-long fr (record { 0 = half f 2 })))
    (by_cond TypeLong (eqb f.b1 4) _ _ (cooperative-long f)
    (by_cond TypeLong (eqb f.b1 9) _ _ (simp (piece-long, none-long) (omega arith))
    (by_cond TypeLong (eqb f.b1 10) _ _ (image-long f)
    (by_cond TypeLong (eqb f.b1 11) _ _
    (simp (piece-long, none-long) (omega (arith, picked-long W.sampler 0 2 f.b2 18 refl refl)))
    (by_cond TypeLong (eqb f.b1 12) _ _
    (simp (piece-long, none-long) (omega (arith, picked-long W.structure 0 2 f.b2 37 refl refl)))
    (by_cond TypeLong (eqb f.b1 13) _ _
    (simp (piece-long, none-long) (omega (arith, picked-long W.query 0 2 f.b2 24 refl refl)))
    (by_cond TypeLong (is_brief f.b1) _ _ (omega (arith, brief-long f)) (unknown-long f.b1)))))))))))

-- ANSWERS, VERDICTS AND FAULTS

manner-long : (flag : ℕ) → Piece (manner flag) 21
unfolding manner piece_bytes word_bytes W.word_table
manner-long flag = by_cond (λ p. Piece p 21) (eqb flag 1) _ _ (omega arith) (omega arith)

reason-long : (n : ℕ) → Piece (reason n) 47
unfolding reason piece_bytes word_bytes W.word_table longest
reason-long n = by_cond (λ p. Piece p 47) (eqb n 41) _ _ (omega arith) (picked-long W.reason 10 11 n 47 refl refl)

refusal-long : (f : Frame) → TypeLong (refusal f)
unfolding refusal piece_bytes word_bytes W.word_table longest
refusal-long f =
    by_cond TypeLong (eqb f.b1 22) _ _ (simp (piece-long, none-long) (omega (arith, number-long (half f 2))))
    (more _ _ _ 8 88 (omega arith) (more _ _ _ 10 78 (number-long f.b1) (more _ _ _ 47 31 (reason-long f.b1)
    (by_cond (λ l. Pieces l 31) (eqb f.b1 10) _ _
    (simp (piece-long, none-long) (omega (arith, number-long (half f 2), number-long (word f 4))))
    (by_cond (λ l. Pieces l 31) (ltb f.b1 13) _ _
    (simp (piece-long, none-long) (omega (arith, number-long (half f 2), manner-long f.b8)))
    (by_cond (λ l. Pieces l 31) (ltb f.b1 17) _ _
    (simp (piece-long, none-long) (omega (arith, number-long (half f 2))))
    (by_cond (λ l. Pieces l 31) (eqb f.b1 19) _ _
    (simp (piece-long, none-long) (omega (arith, number-long (word f 4))))
    (simp none-long (omega arith)))))) refl) refl) refl)

judged-long : (f : Frame) → TypeLong (judged_words f)
unfolding judged_words piece_bytes word_bytes W.word_table longest
judged-long f =
    more _ _ _ 9 69 (omega arith)
    (by_cond (λ l. Pieces l 69) (eqb f.b1 0) _ _ (simp (piece-long, none-long) (omega arith))
    (by_cond (λ l. Pieces l 69) (eqb f.b1 22) _ _
    (by_cond (λ l. Pieces l 69) (eqb (word f 4) 0xffff_ffff) _ _ (simp (piece-long, none-long) (omega arith))
    (simp (piece-long, none-long) (omega (arith, number-long (word f 4)))))
    (more _ _ _ 10 59 (number-long f.b1) (more _ _ _ 31 28 (picked-long W.judged 30 4 f.b1 31 refl refl)
    (by_cond (λ l. Pieces l 28) (eqb f.b1 31) _ _
    (simp (piece-long, none-long) (omega (arith, number-long (word f 4), number-long (word f 8))))
    (by_cond (λ l. Pieces l 28) (ltb 31 f.b1) _ _
    (simp (piece-long, none-long) (omega (arith, number-long (word f 4)))) (simp none-long (omega arith)))) refl)
    refl))) refl

said-long : (fr : List ℕ) (f : Frame) → TypeLong (said fr f)
unfolding said
said-long fr f =
    by_cond TypeLong (eqb f.b0 8) _ _ (whole_long fr (frame_at fr (half f 2)))
    (by_cond TypeLong (eqb f.b0 9) _ _ (whole_long fr f)
    (by_cond TypeLong (eqb f.b0 11) _ _ (judged-long f) (refusal-long f)))

ending-long : (f : Frame) → Pieces (ending f) 20
unfolding ending piece_bytes word_bytes W.word_table
ending-long f =
    by_cond (λ l. Pieces l 20) (eqb f.b0 8) _ _
    (simp (piece-long, none-long) (omega (arith, number-long (half f 2))))
    (simp (piece-long, none-long) (omega arith))

-- THE LINE of an answer or verdict: any frame's, whatever the file
pub line-long : (fr : List ℕ) (row : RowNumber) (f : Frame) → length (line_of fr row f) ≤ 142
unfolding line_of piece_bytes word_bytes W.word_table
line-long fr row f =
    let head = W.row ∷ num (shown row f).0 ∷ W.gap ∷ [] in
    let h : Pieces head 16 = simp (piece-long, none-long) (omega (arith, number-long (shown row f).0)) in
    omega (
      arith,
      ap length (three-spelled head (said fr f) (ending f)),
      length-append (spelled head ++ spelled (said fr f)) (spelled (ending f)),
      length-append (spelled head) (spelled (said fr f)),
      said-long fr f,
      ending-long f,
    )

-- THE LINE of a file that is not accepted
pub fault-long : (f : Frame) → length (fault_line f) ≤ 142
unfolding fault_words piece_bytes word_bytes W.word_table longest
fault-long f =
    let short : Pieces (W.number ∷ num f.b1 ∷ picked W.fault 1 6 f.b1 ∷ W.feed ∷ []) 142 =
    simp (piece-long, none-long) (omega (arith, number-long f.b1, picked-long W.fault 1 6 f.b1 48 refl refl)) in
    by_cond (λ l. Pieces l 142) (eqb f.b1 1) _ _
    (simp (piece-long, none-long)
    (omega (
      arith,
      number-long f.b1,
      number-long (half f 2),
      number-long (33 * half f 2),
      picked-long W.fault 1 6 f.b1 48 refl refl,
    )))
    (by_cond (λ l. Pieces l 142) (eqb f.b1 3) _ _ short
    (simp (piece-long, none-long)
    (omega (arith, number-long (half f 2 + 1), number-long f.b1, picked-long W.fault 1 6 f.b1 48 refl refl))))

-- THE LINE of a type's size: 17 bytes for the type's number, 106 for its spelling, 50 for what its frame says
size-words-long : (f : Frame) → Pieces (size_words f) 50
unfolding size_words piece_bytes word_bytes W.word_table longest
size-words-long f =
    more _ _ _ 2 48 (omega arith)
    (by_cond (λ l. Pieces l 48) (eqb f.b0 12) _ _
    (simp (piece-long, none-long) (omega (arith, number-long f.b4, number-long (word f 8))))
    (by_cond (λ l. Pieces l 48) (eqb f.b0 13) _ _
    (simp (piece-long, none-long) (omega (arith, number-long f.b4, number-long (word f 8), number-long (word f 12))))
    (simp (piece-long, none-long)
    (omega (arith, number-long f.b1, picked-long W.unmeasured 42 3 f.b1 18 refl refl, number-long (half f 2))))))
    refl

-- THE LINE of number 45
pub span-long : (o : ℕ) → length (span_of o) ≤ 142
unfolding span_words piece_bytes word_bytes W.word_table longest
span-long o = simp (piece-long, none-long) (omega (arith, number-long 45, number-long o))

pub size-line-long : (fr : List ℕ) (n : TypeNumber) (f : Frame) → length (size_line_of fr n f) ≤ 176
unfolding size_line_of piece_bytes word_bytes W.word_table
size-line-long fr n f =
    let head = W.type ∷ num n.0 ∷ W.gap ∷ [] in
    let h : Pieces head 17 = simp (piece-long, none-long) (omega (arith, number-long n.0)) in
    let b = whole fr (frame_at fr n.0) in
    omega (
      arith,
      ap length (three-spelled head b (size_words f)),
      length-append (spelled head ++ spelled b) (spelled (size_words f)),
      length-append (spelled head) (spelled b),
      whole_long fr (frame_at fr n.0),
      size-words-long f,
    )
