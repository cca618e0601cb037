-- A JOIN MAY BE JOINED AGAIN (document 02, request 14): it holds no unknown kind, no Math row and no special type item,
-- and none of its rows is answered 19 or 20. For a type or a row of the join is one of the two files', and reads and
-- answers as it did there.
use Rattle.std.specs.Prelude.{Option as CodeOption, Some, None}
use Rattle.ir.specs.declared.TypeInner.{TypeInner}
use Prim.Native.Nat.{ℕ, ◌+◌, ◌-◌, ◌<◌}
use native.Mathlib.Decide.{dec_lt}
use native.Mathlib.Omega.{arith}
use mathlib.Core.Path.{◌≡◌, refl, sym, ap, ◌∙◌, subst}
use mathlib.Core.Bool.{true}
use mathlib.Core.List.{List}
use mathlib.Core.Option.{Option, none, some}
use borrow.Author.Tests.{ltb-true, lt-ltb}
use Rattle.ir.specs.declared.TypeNumber.{TypeNumber}
use Rattle.ir.specs.declared.RowNumber.{RowNumber}
use Rattle.answers.specs.declared.Refusal.{Refusal}
use Rattle.answers.specs.declared.Refusal.TheVariants as R
use Rattle.archive.specs.Starts.{starts_of, type_count, row_count}
use Rattle.archive.specs.Names.{is_type, is_row}
use Rattle.archive.specs.Access.{type_at}
use Rattle.rule.specs.Answers.{Typed, given, refused, chosen_refusal, Result, told, newer}
use Rattle.rule.specs.Things.{Thing, Seen, kind, see}
use Rattle.rule_answers.specs.Outputs.{row_answer}
use Rattle.law_rows.proofs.Good.{Good}
use Rattle.law_moved.specs.Moves.{Moves, type_to, row_to, refusal_to, typed_to, result_to, shows_to, type_form_to}
use Rattle.law_moved.proofs.Files.{starts-ordered}
use Rattle.law_moved.proofs.CarriedTypes.{type-carried}
use Rattle.law_moved.proofs.Carried.{row_shows}
use Rattle.law_join.specs.Join.{join_moves, first_moves, join_file}
use Rattle.law_join.specs.Joinable.{Joinable}
use Rattle.law_join.proofs.Frames.{join-starts}
use Rattle.law_join.proofs.First.{first-carried}
use Rattle.law_join.proofs.Second.{second-carried}
use Rattle.law_join.proofs.Answers.{first_rows, second-rows}

never : {X : Type 0} → ◌≡◌ {A = ℕ} 0 1 → X
never z = absurd (omega arith)

-- WHAT IS MOVED is of an unknown kind, shows nothing, or is 19 or 20, only where it was
module _ (m : Moves) where
  form-back : (x : CodeOption TypeInner) → type_form_to m x ≡ None → x ≡ None
  form-back (Some t) e = never (cc)
  form-back None e = refl

  shows-back : (c : Thing) (x : Option (Seen c)) → shows_to m c x ≡ none → x ≡ none
  shows-back c none e = refl
  shows-back c (some x) e = never (cc)

  argument-back : (x : Refusal) (j : ℕ) → ((i : ℕ) → x ≡ R.FunctionArgumentNotFound i → ⊥)
      → refusal_to m x ≡ R.FunctionArgumentNotFound j → ⊥
  argument-back (R.OutOfBoundsIndex r i) j h e = never (cc)
  argument-back (R.InvalidAccess r q) j h e = never (cc)
  argument-back (R.InvalidSubAccess t q) j h e = never (cc)
  argument-back (R.InvalidScalar r) j h e = never (cc)
  argument-back (R.InvalidVector r) j h e = never (cc)
  argument-back (R.InvalidPointer r) j h e = never (cc)
  argument-back (R.InvalidImage r) j h e = never (cc)
  argument-back R.FunctionReturnsVoid j h e = never (cc)
  argument-back R.IncompatibleOperands j h e = never (cc)
  argument-back (R.FunctionArgumentNotFound i) j h e = h i refl
  argument-back R.MissingSpecialType j h e = never (cc)
  argument-back R.Mismatch j h e = never (cc)

  special-back : (x : Refusal) → (x ≡ R.MissingSpecialType → ⊥) → refusal_to m x ≡ R.MissingSpecialType → ⊥
  special-back (R.OutOfBoundsIndex r i) h e = never (cc)
  special-back (R.InvalidAccess r q) h e = never (cc)
  special-back (R.InvalidSubAccess t q) h e = never (cc)
  special-back (R.InvalidScalar r) h e = never (cc)
  special-back (R.InvalidVector r) h e = never (cc)
  special-back (R.InvalidPointer r) h e = never (cc)
  special-back (R.InvalidImage r) h e = never (cc)
  special-back R.FunctionReturnsVoid h e = never (cc)
  special-back R.IncompatibleOperands h e = never (cc)
  special-back (R.FunctionArgumentNotFound i) h e = never (cc)
  special-back R.MissingSpecialType h e = h refl
  special-back R.Mismatch h e = never (cc)

  -- a refusal that an answer is, moved
  refused-back : (x : Result Typed) (r : Refusal)
      → ((e : Refusal) → x ≡ told (refused e) → refusal_to m e ≡ r → ⊥)
      → result_to m (typed_to m) x ≡ told (refused r) → ⊥
  refused-back (told (given a)) r h e = never (cc)
  refused-back (told (refused x)) r h e = h x refl (cc)
  refused-back (told (chosen_refusal f)) r h e = never (cc)
  refused-back (newer p) r h e = never (cc)

module _ (fr gr : List ℕ) (good : Good fr) (also : Good gr) (jf : Joinable fr) (jg : Joinable gr) where
  abbrev J : List ℕ
  J = join_file fr gr

  abbrev m : Moves
  m = join_moves (starts_of fr)

  -- how many types and rows it has
  type-sum : type_count (starts_of J) ≡ type_count (starts_of fr) + type_count (starts_of gr)
  type-sum = rw (join-starts fr gr good also)

  row-sum : row_count (starts_of J) ≡ row_count (starts_of fr) + row_count (starts_of gr)
  row-sum = let c = (starts-ordered fr).components in let d = (starts-ordered gr).components in
      rw (join-starts fr gr good also) (omega arith)

  -- a number of so many and so many more is one of these or of those
  split : (P : ℕ → Type 0) (a b c : ℕ) → c ≡ a + b → ((n : ℕ) → n < a → P n) → ((n : ℕ) → n < b → P (n + a)) → (n : ℕ)
      → n < c → P n
  split P a b c e f g n l = go (dec_lt n a)
    where
      go : Dec (n < a) → P n
      go (yes w) = f n w
      go (no w) = let q : (n - a) + a ≡ n = omega arith in subst P q (g (n - a) (omega arith))

  -- A TYPE OF THE JOIN, and a row, is one of the first or of the second
  by-type : (P : TypeNumber → Type 0) → ((n : TypeNumber) → is_type (starts_of fr) n ≡ true → P n)
      → ((n : TypeNumber) → is_type (starts_of gr) n ≡ true → P (type_to m n)) → (n : TypeNumber)
      → is_type (starts_of J) n ≡ true → P n
  by-type P f g n here =
      split (λ (k : ℕ). P (record { 0 = k })) (type_count (starts_of fr)) (type_count (starts_of gr))
      (type_count (starts_of J)) type-sum
      (λ k l. f (record { 0 = k }) (lt-ltb k (type_count (starts_of fr)) l))
      (λ k l. g (record { 0 = k }) (lt-ltb k (type_count (starts_of gr)) l)) n.0
      (ltb-true n.0 (type_count (starts_of J)) here)

  by_row : (P : RowNumber → Type 0) → ((n : RowNumber) → is_row (starts_of fr) n ≡ true → P n)
      → ((n : RowNumber) → is_row (starts_of gr) n ≡ true → P (row_to m n)) → (n : RowNumber)
      → is_row (starts_of J) n ≡ true → P n
  by_row P f g n here =
      split (λ (k : ℕ). P (record { 0 = k })) (row_count (starts_of fr)) (row_count (starts_of gr))
      (row_count (starts_of J)) row-sum
      (λ k l. f (record { 0 = k }) (lt-ltb k (row_count (starts_of fr)) l))
      (λ k l. g (record { 0 = k }) (lt-ltb k (row_count (starts_of gr)) l)) n.0
      (ltb-true n.0 (row_count (starts_of J)) here)

  -- A JOIN MAY BE JOINED
  pub join-joinable : Joinable (join_file fr gr)
  join-joinable =
      record {
        types = by-type (λ n. type_at J n ≡ None → ⊥)
            (λ n here e. jf.types n here (form-back first_moves (type_at fr n)
            (sym (type-carried first_moves (λ n. Unit {0}) fr J good (first-carried fr gr good also jf jg) n here)
            ∙ e)))
            (λ n here e. jg.types n here (form-back m (type_at gr n)
            (sym (type-carried m (λ n. Unit {0}) gr J also (second-carried fr gr good also jf jg) n here) ∙ e)));
        rows = by_row (λ n. see J (kind n) ≡ none → ⊥)
            (λ n here e. jf.rows n here (shows-back first_moves (kind n) (see fr (kind n))
            (sym (row_shows first_moves (λ n. Unit {0}) fr J good (first-carried fr gr good also jf jg) n tt here)
            ∙ e)))
            (λ n here e. jg.rows n here (shows-back m (kind n) (see gr (kind n))
            (sym (row_shows m (λ n. Unit {0}) gr J also (second-carried fr gr good also jf jg) n tt here) ∙ e)));
        specials = let a = jf.specials in let b = jg.specials in rw (join-starts fr gr good also) (omega arith);
        arguments = λ pass n i here. by_row
            (λ n. row_answer pass (see J) n.0 ≡ told (refused (R.FunctionArgumentNotFound i)) → ⊥)
            (λ n here e. jf.arguments pass n i here
            (sym (first_rows fr gr good also jf jg pass n.0 (ltb-true _ _ here)) ∙ e))
            (λ n here e. refused-back m (row_answer pass (see gr) n.0) (R.FunctionArgumentNotFound i)
            (λ x q. argument-back m x i
            (λ j d. jg.arguments pass n j here (q ∙ ap (λ (z : Refusal). told (refused z)) d)))
            (sym (second-rows fr gr good also jf jg pass n.0 (ltb-true _ _ here)) ∙ e)) n here;
        special-types = λ pass n here. by_row
            (λ n. row_answer pass (see J) n.0 ≡ told (refused R.MissingSpecialType) → ⊥)
            (λ n here e. jf.special-types pass n here
            (sym (first_rows fr gr good also jf jg pass n.0 (ltb-true _ _ here)) ∙ e))
            (λ n here e. refused-back m (row_answer pass (see gr) n.0) R.MissingSpecialType
            (λ x q. special-back m x
            (λ d. jg.special-types pass n here (q ∙ ap (λ (z : Refusal). told (refused z)) d)))
            (sym (second-rows fr gr good also jf jg pass n.0 (ltb-true _ _ here)) ∙ e)) n here;
      }
