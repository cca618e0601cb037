-- TWO FRAMES HANDED IN compare in the join as they did in their file (document 02, request 14: "sameness within one
-- kernel"), where the comparison meets them with neither 5 nor 6: those of the first as they are, those of the second
-- with their numbers moved. For a type's number and a value, moved, stand for the answer moved.
use Rattle.std.specs.Prelude.{Option as CodeOption, Some, None}
use Prim.Native.Nat.{ℕ}
use native.Mathlib.Omega.{arith}
use mathlib.Core.Path.{◌≡◌, refl, sym, ap, ◌∙◌}
use mathlib.Core.Bool.{Bool, true, false, cond, ◌&&◌, ◌||◌}
use mathlib.Core.List.{List, [], ◌∷◌}
use mathlib.Core.Option.{Option, none, some}
use lib.Dec.{eqb}
use borrow.Author.Tests.{eqb-true}
use Rattle.scan.proofs.Laws.{and_first, and_second}
use Rattle.ir.specs.declared.TypeInner.{TypeInner}
use Rattle.ir.specs.Numbers.{type_kind_of}
use Rattle.frames.specs.declared.Frame.{Frame}
use Rattle.frames.specs.Bytes.{byte, half}
use Rattle.frames.specs.Fields.{fits_all}
use Rattle.frames.specs.Layout.{type_layout, number_layout}
use Rattle.frames.specs.Forms.{type_of}
use Rattle.frames.proofs.ReadBack.{half_back}
use Rattle.archive.specs.declared.Starts.{Starts}
use Rattle.archive.specs.Starts.{starts_of}
use Rattle.rule.specs.declared.Fault.{Fault}
use Rattle.rule.specs.declared.Fault.TheVariants as Fa
use Rattle.rule.specs.Answers.{TypeAnswer, number, malformed, valued, is_number, is_value, type_answer_of, nowhere}
use Rattle.rule.specs.Answers.{newer}
use Rattle.rule.specs.Answers.{Compared}
use Rattle.rule.specs.Things.{Thing, Seen, Sight, form, fault_of, see}
use Rattle.rule.specs.Rule.{Rule, done, come, Answers, run}
use Rattle.rule.specs.InOrder.{among}
use Rattle.rule_types.specs.Canonical.{canonical, equal_types, identical}
use Rattle.rule_types.specs.Comparison.{in_form, by_struct, by_identical, compare, answered, tested, right_tested}
use Rattle.rule_types.specs.Comparison.{Sound}
use Rattle.rule_types.specs.Comparison.{handed, given, same_in, same_type}
use Rattle.law_rows.proofs.Good.{Good}
use Rattle.law_moved.specs.Moves.{Moves, type_form_to, answer_to, result_to}
use Rattle.law_moved.specs.Frames.{moved_type, moved_in, two, types}
use Rattle.law_moved.specs.Out.{out_numbers_by, moved_out}
use Rattle.law_moved.proofs.Frames.{type-moved}
use Rattle.law_join.specs.Join.{join_moves, join_file}
use Rattle.law_join.specs.Joinable.{Joinable}
use Rattle.law_join.proofs.Selected.{any-pointer}
use Rattle.law_join.proofs.Answers.{first-compared, second-compared}

never : {X : Type 0} → ◌≡◌ {A = ℕ} 0 1 → X
never z = absurd (omega arith)

module _ (m : Moves) (f : Frame) where
  -- a type's number, moved
  number-out : is_number f ≡ true → type_answer_of (moved_out m f) ≡ answer_to m (type_answer_of f)
  unfolding moved_out
  number-out h =
      let a : byte f 0 ≡ 8 = eqb-true _ _ (and_first (eqb (byte f 0) 8) _ h) in
      let e : moved_out m f ≡ moved_in m (two types 2 ∷ []) f =
      ap (λ (b : ℕ). moved_in m (out_numbers_by b f) f) a in
      ap type_answer_of e ∙ rw (h, half_back (m.types (half f 2)))

  -- a value, moved
  value-form : (g : Frame) (t : CodeOption TypeInner) → (t ≡ None → ⊥)
      → valued g (type_form_to m t) ≡ answer_to m (valued f t)
  value-form g (Some t) h = refl
  value-form g None h = absurd (h refl)

  value_out : is_number f ≡ false → is_value f ≡ true → (type_of f ≡ None → ⊥)
      → type_answer_of (moved_out m f) ≡ answer_to m (type_answer_of f)
  unfolding moved_out moved_type
  value_out n h known =
      let a : byte f 0 ≡ 9 = eqb-true _ _ (and_first (eqb (byte f 0) 9) _ h) in
      let e : moved_out m f ≡ moved_type m f = ap (λ (b : ℕ). moved_in m (out_numbers_by b f) f) a in
      let moved = type-moved m f in
      let g = moved_type m f in
      let b : byte (moved_type m f) 0 ≡ 9 = moved.family ∙ a in
      let no : is_number (moved_type m f) ≡ false =
      ap (λ (x : ℕ). eqb x 8 && (eqb (byte (moved_type m f) 1) 0 && fits_all number_layout (moved_type m f))) b in
      let yes-fits : fits_all (type_layout (type_kind_of (byte (moved_type m f) 1))) (moved_type m f) ≡ true =
      moved.fit (and_second (eqb (byte f 0) 9) _ h) in
      let is : is_value (moved_type m f) ≡ true =
      ap (λ (x : ℕ). eqb x 9 && fits_all (type_layout (type_kind_of (byte (moved_type m f) 1))) (moved_type m f)) b
      ∙ yes-fits in
      ap type_answer_of e
      ∙ ap (λ (c : Bool). cond c (number (record { 0 = half (moved_type m f) 2 }))
      (cond (is_value (moved_type m f)) (valued (moved_type m f) (type_of (moved_type m f)))
      (malformed (moved_type m f)))) no
      ∙ ap (λ (c : Bool). cond c (valued (moved_type m f) (type_of (moved_type m f))) (malformed (moved_type m f))) is
      ∙ ap (valued (moved_type m f)) moved.is ∙ value-form (moved_type m f) (type_of f) known
      ∙ ap (λ (c : Bool). answer_to m (cond c (valued f (type_of f)) (malformed f))) (sym h)
      ∙ ap (λ (c : Bool). answer_to m (cond c (number (record { 0 = half f 2 }))
      (cond (is_value f) (valued f (type_of f)) (malformed f)))) (sym n)

  -- A FRAME that a comparison meets with neither 5 nor 6 stands, moved, for its answer moved
  pub answer-moved : (s : Starts) → Sound s (type_answer_of f)
      → type_answer_of (moved_out m f) ≡ answer_to m (type_answer_of f)
  answer-moved s sound = go (is_number f) (is_value f) refl refl sound
    where
      go : (n v : Bool) → is_number f ≡ n → is_value f ≡ v
          → Sound s (cond n (number (record { 0 = half f 2 })) (cond v (valued f (type_of f)) (malformed f)))
          → type_answer_of (moved_out m f) ≡ answer_to m (type_answer_of f)
      go true v a b h = number-out a
      go false true a b h = value_out a b
          (λ e. let z : Fa.Field ≡ Fa.Sound = ap (λ (t : CodeOption TypeInner). fault_of s (valued f t)) (sym e)
          ∙ h in never (cc))
      go false false a b h = never (cc)

-- A COMPARISON'S 22 NAMES NO PLACE, so nothing of its outcome is moved: each of its steps is at no place, and it reads
-- no row

data Nowhere : Rule Compared → Type 0 where
  ends : {c : Compared} → Nowhere (done c)
  comes : {c : Thing} {k : Seen c → Rule Compared} → ((x : Seen c) → Nowhere (k x)) → Nowhere (come nowhere c k)

answered-nowhere : (b : Bool) → Nowhere (answered b)
answered-nowhere true = ends
answered-nowhere false = ends

form-nowhere : (rest : TypeInner → Rule Compared) → ((t : TypeInner) → Nowhere (rest t)) → (t : TypeInner)
    → Nowhere (in_form nowhere rest t)
form-nowhere rest h t = any-pointer Nowhere t (λ b p. comes (λ x. h (canonical t p x.inner))) (h t)

struct-nowhere : (a b : TypeAnswer) (is : Bool) → Nowhere (by_struct nowhere a b answered is)
struct-nowhere a b true = ends
struct-nowhere a b false = comes {c = form a} (λ x. form-nowhere _ right x.inner)
  where
    right : (u : TypeInner)
        → Nowhere (come nowhere (form b) (λ y. in_form nowhere (λ v. answered (equal_types u v)) y.inner))
    right u = comes {c = form b} (λ y. form-nowhere _ (λ v. answered-nowhere (equal_types u v)) y.inner)

identical-nowhere : (a b : TypeAnswer) (is : Bool) → Nowhere (by_identical nowhere a b answered is)
identical-nowhere a b true = ends
identical-nowhere a b false = comes (λ x. comes (λ y. struct-nowhere a b (x || y)))

tested-nowhere : (rest : Rule Compared) → Nowhere rest → (f : Fault) → Nowhere (tested rest f)
tested-nowhere rest h Fa.Sound = h
tested-nowhere rest h Fa.Field = ends
tested-nowhere rest h Fa.Index = ends

handed-nowhere : (a b : TypeAnswer) → Nowhere (handed a b)
handed-nowhere a b = comes (tested-nowhere (right_tested a b)
    (comes (tested-nowhere (compare nowhere a b answered) (identical-nowhere a b (identical a b)))))

nowhere-stays : (m : Moves) (sight : Sight) (us : Answers) {r : Rule Compared} → Nowhere r
    → result_to m (λ (c : Compared). c) (run sight us newer r) ≡ run sight us newer r
nowhere-stays m sight us ends = refl
nowhere-stays m sight us (comes {c} {k} next) = go (sight c) refl (λ x. nowhere-stays m sight us (next x))
  where
    go : (o : Option (Seen c)) → sight c ≡ o
        → ((x : Seen c) → result_to m (λ (c : Compared). c) (run sight us newer (k x)) ≡ run sight us newer (k x))
        → result_to m (λ (c : Compared). c) (run sight us newer (come nowhere c k))
        ≡ run sight us newer (come nowhere c k)
    go none q ih = rw (q, run)
    go (some x) q ih = rw (q, run) (ih x)

module _ (fr gr : List ℕ) (good : Good fr) (also : Good gr) (jf : Joinable fr) (jg : Joinable gr) (l r : Frame) where
  -- THE FIRST's, as they are
  pub first-same : Sound (starts_of fr) (type_answer_of l) → Sound (starts_of fr) (type_answer_of r)
      → same_type (join_file fr gr) l r ≡ same_type fr l r
  unfolding same_type same_in
  first-same a b = first-compared fr gr good also jf jg (type_answer_of l) (type_answer_of r) a b

  -- THE SECOND's, moved
  pub second-same : Sound (starts_of gr) (type_answer_of l) → Sound (starts_of gr) (type_answer_of r)
      → same_type (join_file fr gr) (moved_out (join_moves (starts_of fr)) l) (moved_out (join_moves (starts_of fr)) r)
      ≡ same_type gr l r
  unfolding same_type same_in
  second-same a b =
      let m = join_moves (starts_of fr) in
      let J = join_file fr gr in
      ap (λ (x : TypeAnswer). given J (starts_of J) (handed x (type_answer_of (moved_out m r))))
      (answer-moved m l (starts_of gr) a)
      ∙ ap (λ (x : TypeAnswer). given J (starts_of J) (handed (answer_to m (type_answer_of l)) x))
      (answer-moved m r (starts_of gr) b)
      ∙ second-compared fr gr good also jf jg (type_answer_of l) (type_answer_of r) a b
      ∙ nowhere-stays m (see gr) (among []) (handed-nowhere (type_answer_of l) (type_answer_of r))
