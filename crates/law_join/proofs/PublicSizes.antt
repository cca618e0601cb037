-- THE BYTES THAT A TYPE FILLS, over texts (document 02, requests 5 and 14): where `type_size` measures a type of one of
-- the two texts alone, it measures the type alike over the join's lines: of the first as it was; of the second, which
-- is the type past the first's types, the same alignment and size, or the same number 42 to 44 with its place moved.
use Rattle.rule_sizes.specs.TypeSize.{size_error}
use Rattle.std.specs.Prelude.{Ok}
use Prim.Native.Nat.{ℕ, ◌+◌, ◌*◌, ◌≤◌}
use native.Mathlib.Omega.{arith}
use mathlib.Core.Path.{◌≡◌, refl, ap, ◌∙◌}
use mathlib.Core.Bool.{Bool, true, false}
use mathlib.Core.List.{List}
use lib.Dec.{leb}
use borrow.Author.Tests.{leb-true, leb-false, le-leb, lt-leb, ltb-true, lt-ltb}
use Rattle.ir.specs.declared.TypeNumber.{TypeNumber}
use Rattle.text.specs.declared.AnswerRoom.TheVariants.{NotLent}
use Rattle.archive.specs.Starts.{starts_of, type_count}
use Rattle.archive.specs.Names.{is_type}
use Rattle.rule_sizes.specs.declared.Measure.{Measure}
use Rattle.rule_sizes.specs.declared.Measure.TheVariants.{Fills, Faulty}
use Rattle.rule_sizes.specs.Sizes.{measure_in, type_size_in}
use Rattle.rule_file_sizes.specs.Sizes.{type_size}
use Rattle.law_rows.proofs.Good.{Good}
use Rattle.law_moved.specs.Moves.{type_to}
use Rattle.law_moved.specs.Texts.{text_frames}
use Rattle.law_moved.proofs.Texts.{by-text}
use Rattle.law_join.specs.declared.JoinedFile.TheVariants as Jf
use Rattle.law_join.specs.Join.{join_moves, first_moves, join_file}
use Rattle.law_join.specs.Joinable.{Joinable}
use Rattle.law_join.specs.File.{join_text, join_files}
use Rattle.law_join.proofs.First.{first-carried}
use Rattle.law_join.proofs.Second.{second-carried}
use Rattle.law_join.proofs.Accepted.{join-good}
use Rattle.law_join.proofs.Public.{is-joined, first_read, second-read, asked-join}
use Rattle.law_join.proofs.Sizes.{measure_to, measure-carried}

never : {X : Type 0} → ◌≡◌ {A = ℕ} 0 1 → X
never z = absurd (omega arith)

-- numbers raised by as much keep their order
raised : (c p q : ℕ) → leb (p + c) (q + c) ≡ leb p q
raised c p q = go (leb p q) refl
  where
    go : (b : Bool) → leb p q ≡ b → leb (p + c) (q + c) ≡ b
    go true e = let l = leb-true p q e in le-leb (p + c) (q + c) (omega arith)
    go false e = let l = leb-false p q e in lt-leb (p + c) (q + c) (omega arith)

-- the first's places stay
measure-stays : (x : Measure) → measure_to first_moves x ≡ x
measure-stays (Fills a z) = refl
measure-stays (Faulty k p) = refl

-- A TEXT ALONE, with any frame buffer
record Measured (t : List ℕ) (n : TypeNumber) (x : Measure) : Type 0 where
  here : is_type (starts_of (text_frames t)) n ≡ true
  is : measure_in (text_frames t) (starts_of (text_frames t)) n ≡ x

alone : (limit : ℕ) (t : List ℕ) (f : ℕ) (n : TypeNumber) (x : Measure) → type_size limit t f n ≡ Ok x
    → Measured t n x
unfolding type_size type_size_in
alone limit t f n x =
    by-text limit t f NotLent size_error (λ (fr : List ℕ). type_size_in fr (starts_of fr) n)
    (λ s. s ≡ Ok x → Measured t n x) (λ o r e. never (cc))
    (λ d. go (is_type (starts_of (text_frames t)) n) refl)
  where
    go : (b : Bool) → is_type (starts_of (text_frames t)) n ≡ b
        → type_size_in (text_frames t) (starts_of (text_frames t)) n ≡ Ok x → Measured t n x
    go true q e = record { here = q; is = cc (rw q at e) }
    go false q e = never (cc (rw q at e))

-- WHERE A JOIN IS MADE, with a frame buffer of 16 bytes a frame
module _ (limit : ℕ) (t u : List ℕ) (f g o k : ℕ) (joins : join_files limit t u f g o ≡ Jf.Frames k) (b : ℕ)
    (frames : 16 * k ≤ b) (whole : ℕ) (n : TypeNumber) (x : Measure) where
  abbrev fr : List ℕ
  fr = text_frames t

  abbrev gr : List ℕ
  gr = text_frames u

  abbrev J : List ℕ
  J = join_file fr gr

  good : Good fr
  good = (first_read limit t u f g o k joins).good

  also : Good gr
  also = (second-read limit t u f g o k joins).good

  jf : Joinable fr
  jf = (is-joined limit t u f g o k joins).able.first

  jg : Joinable gr
  jg = (is-joined limit t u f g o k joins).able.second

  -- of a type that the join has
  join-size : (p : TypeNumber) → is_type (starts_of J) p ≡ true
      → type_size limit (join_text fr gr) b p ≡ Ok (measure_in J (starts_of J) p)
  unfolding type_size type_size_in
  join-size p here =
      asked-join limit t u f g o k joins size_error (λ (x : List ℕ). type_size_in x (starts_of x) p) b frames
      ∙ rw here

  -- a type of the first
  pub first-size : type_size limit t whole n ≡ Ok x
      → type_size limit (join_text (text_frames t) (text_frames u)) b n ≡ Ok x
  first-size e =
      let a = alone limit t whole n x e in
      join-size n (lt-ltb _ _ ((first-carried fr gr good also jf jg).type-in n.0 (ltb-true _ _ a.here)))
      ∙ ap Ok (measure-carried first_moves (λ p q. refl) (λ n. Unit {0}) fr J good
      (join-good fr gr good also jf jg) (first-carried fr gr good also jf jg) n a.here
      ∙ measure-stays (measure_in fr (starts_of fr) n) ∙ a.is)

  -- a type of the second, and its place, moved
  pub second-size : type_size limit u whole n ≡ Ok x
      → type_size limit (join_text (text_frames t) (text_frames u)) b
      (type_to (join_moves (starts_of (text_frames t))) n)
      ≡ Ok (measure_to (join_moves (starts_of (text_frames t))) x)
  second-size e =
      let a = alone limit u whole n x e in
      let m = join_moves (starts_of fr) in
      join-size (type_to m n)
      (lt-ltb _ _ ((second-carried fr gr good also jf jg).type-in n.0 (ltb-true _ _ a.here)))
      ∙ ap Ok (measure-carried m (raised (type_count (starts_of fr))) (λ n. Unit {0}) gr J also
      (join-good fr gr good also jf jg) (second-carried fr gr good also jf jg) n a.here
      ∙ ap (measure_to m) a.is)
