-- What a verdict's rule gives, component by component, for the code: each step of the rule is what one component
-- decides, and then what is left. By the cases of its row's answer.
use Rattle.answers.specs.declared.ComposeError.{ComposeError}
use Rattle.answers.specs.declared.Unresolved.TheVariants as Un
use Rattle.std.specs.Prelude.{Option as CodeOption, Some, None, Ok, Err}
use Prim.Native.Nat.{ℕ, suc, ◌+◌, ◌≤◌, ◌<◌}
use native.Mathlib.Omega.{arith}
use mathlib.Core.Path.{◌≡◌, refl, sym, ap, ◌∙◌}
use mathlib.Core.Bool.{Bool, true, false, cond}
use mathlib.Core.List.{List, [], ◌∷◌}
use mathlib.Core.Option.{Option, none, some}
use lib.Dec.{eqb}
use borrow.Author.Tests.{eq-eqb, ne_eqb}
use Rattle.ir.specs.declared.TypeNumber.{TypeNumber}
use lib.ListN.{length, drop, drop_of_length-le}
use lib.Seq.{drop-cons}
use Rattle.ir.specs.declared.RowNumber.{RowNumber}
use Rattle.ir.specs.declared.MemberNumber.{MemberNumber}
use Rattle.ir.specs.declared.ComponentNumber.{ComponentNumber}
use Rattle.ir.specs.declared.VectorSize.{VectorSize}
use Rattle.ir.specs.Numbers.{vector_size_number}
use Rattle.ir.specs.declared.Scalar.{Scalar}
use Rattle.ir.specs.declared.TypeInner.{TypeInner}
use Rattle.ir.specs.declared.TypeInner.TheVariants as Ti
use Rattle.ir.specs.declared.TypeResolution.{TypeResolution}
use Rattle.answers.specs.Answer.{Answer}
use Rattle.archive.specs.declared.Starts.{Starts}
use Rattle.archive.specs.Access.{type_in, member_in}
use Rattle.archive.specs.ForProofs.{component_in}
use Rattle.rule.proofs.Named.{listed-length, listed_at}
use Rattle.rule.specs.Answers.{TypeAnswer, number, resolved, Judgement, passes, count, component}
use Rattle.rule.specs.Answers.{composed, Result, told, newer}
use Rattle.rule.specs.Things.{form, form_in, see_in, member_types}
use Rattle.rule.specs.Rule.{Rule, come, run}
use Rattle.rule_types.specs.Canonical.{equal_types}
use Rattle.rule_types.specs.ForProofs.{likeness}
use Rattle.rule_types.proofs.Laws.{on_bool, compare-run}
use Rattle.rule_rows.specs.ForProofs.{members_in}
use Rattle.rule_rows.specs.OverBuffer.{answer_in, past_in}
use Rattle.verdict_compose.specs.declared.Part.{Part}
use Rattle.verdict_compose.specs.declared.Part.TheVariants as Pa
use Rattle.rule_compose.specs.Verdict.{come_to, or_part, each_part, counted, adds, add_part, vector_parts, member_is}
use Rattle.rule_compose.specs.Verdict.{struct_parts, by_form, verdict}
use Rattle.verdict_compose.specs.Decided.{Decided}
use Rattle.rule_compose.specs.Judged.{to_judged}
use Rattle.rule_rows.specs.OverBuffer.{judged_by}
use Rattle.rule_compose.specs.ForProofs.{parts_in}
use Rattle.verdict_compose.specs.Decided.{asked_of, member_type, adds_if, count_decides, answer_decides}
use Rattle.verdict_compose.specs.Decided.{form_decides, like_decides, part_decides, part_by, added_by}

-- the verdict that one component decides, or what is left gives
abbrev pub or_decided : Decided → (ℕ → Result Judgement) → Result Judgement
or_decided (Ok m) rest = rest m
or_decided (Err e) rest = to_judged (Err e)

module _ (fr : List ℕ) (s : Starts) (an pl : List ℕ) where
  abbrev judged : Rule Judgement → Result Judgement
  judged rule = run (see_in fr s) (past_in an pl) newer rule

  -- COMPONENT i, which is row n: where its type decides, its row's answer does

  module _ (i : ℕ) (n : RowNumber) (inner : TypeAnswer → Rule Judgement) (by : TypeResolution → Decided)
      (rest : ℕ → Result Judgement) (h : (t : TypeResolution) → judged (inner (resolved t)) ≡ or_decided (by t) rest)
    where
      come-by : (a : Answer) → answer_in an pl n ≡ a
          → judged (come_to i n inner) ≡ or_decided (answer_decides i by a) rest
      come-by (Ok t) e = rw (e, judged, run) (h t)
      come-by (Err (Un.Refused x)) e = rw (e, judged, run)
      come-by (Err (Un.Newer r)) e = rw (e, judged, run)

      come-to : judged (come_to i n inner) ≡ or_decided (answer_decides i by (answer_in an pl n)) rest
      come-to = come-by (answer_in an pl n) refl

  -- and where its form decides, its type does
  module _ (i : ℕ) (a : TypeAnswer) (inner : TypeInner → Rule Judgement) (by : TypeInner → Decided)
      (rest : ℕ → Result Judgement) (h : (t : TypeInner) → judged (inner t) ≡ or_decided (by t) rest) where
    look-by : (f : CodeOption TypeInner) → form_in fr s a ≡ f
        → judged (come (component i) (form a) (λ y. inner y.inner)) ≡ or_decided (form_decides i by f) rest
    look-by (Some t) e = rw (e, judged, run) (h t)
    look-by None e = rw (e, judged, run)

    look-into : judged (come (component i) (form a) (λ y. inner y.inner))
        ≡ or_decided (form_decides i by (form_in fr s a)) rest
    look-into = look-by (form_in fr s a) refl

  or-part : (i : ℕ) (rest : Rule Judgement) (b : Bool) → judged (or_part i rest b)
      ≡ or_decided (adds_if i b 1) (λ m. judged rest)
  or-part i rest true = refl
  or-part i rest false = refl

  or-like : (i : ℕ) (rest : Rule Judgement) (o : Option Bool)
      → on_bool o (λ b. judged (or_part i rest b)) (newer (component i))
      ≡ or_decided (like_decides i o) (λ m. judged rest)
  or-like i rest (some b) = or-part i rest b
  or-like i rest none = refl

  asked : (p : Part) (i : ℕ) (rest : Rule Judgement) (a : TypeAnswer)
      → judged (asked_of fr s p i a (or_part i rest)) ≡ or_decided (part_decides fr s p i a) (λ m. judged rest)
  asked (Pa.Column rows k) i rest a =
      look-into i a (λ t. or_part i rest (equal_types t (Ti.Vector rows k)))
      (λ t. adds_if i (equal_types t (Ti.Vector rows k)) 1) (λ m. judged rest)
      (λ t. or-part i rest (equal_types t (Ti.Vector rows k)))
  asked (Pa.Element base) i rest a =
      compare-run fr s (past_in an pl) newer (component i) (number base) a (or_part i rest)
      ∙ or-like i rest (likeness fr s (number base) a)
  asked (Pa.Member first n) i rest a =
      compare-run fr s (past_in an pl) newer (component i) (number (member_type fr s first n i)) a (or_part i rest)
      ∙ or-like i rest (likeness fr s (number (member_type fr s first n i)) a)

  -- a part of a matrix, an array or a struct
  pub part_step : (p : Part) (i total : ℕ) (n : RowNumber) (parts : List RowNumber)
      → judged_by fr s an pl (each_part (asked_of fr s p) i (n ∷ parts))
      ≡ or_decided (part_by fr s p i (answer_in an pl n))
      (λ m. judged_by fr s an pl (each_part (asked_of fr s p) (suc i) parts))
  unfolding judged_by each_part
  part_step p i total n parts =
      let rest = each_part (asked_of fr s p) (suc i) parts in
      come-to i n (λ a. asked_of fr s p i a (or_part i rest)) (λ t. part_decides fr s p i (resolved t))
      (λ m. judged rest)
      (λ t. asked p i rest (resolved t))

  or-added : (i : ℕ) (rest : ℕ → Rule Judgement) (o : Option ℕ) → judged (add_part i rest o)
      ≡ or_decided (count_decides i o) (λ m. judged (rest m))
  or-added i rest (some m) = refl
  or-added i rest none = refl

  -- a component of a vector
  pub vector-step : (z : VectorSize) (k : Scalar) (i total : ℕ) (n : RowNumber) (parts : List RowNumber)
      → judged_by fr s an pl (vector_parts z k i total (n ∷ parts))
      ≡ or_decided (added_by fr s k i (answer_in an pl n))
      (λ m. judged_by fr s an pl (vector_parts z k (suc i) (total + m) parts))
  unfolding judged_by vector_parts
  vector-step z k i total n parts =
      let rest : ℕ → Rule Judgement = λ m. vector_parts z k (suc i) (total + m) parts in
      come-to i n (λ a. come (component i) (form a) (λ y. add_part i rest (adds k y.inner)))
      (λ t. form_decides i (λ u. count_decides i (adds k u)) (form_in fr s (resolved t))) (λ m. judged (rest m))
      (λ t. look-into i (resolved t) (λ u. add_part i rest (adds k u)) (λ u. count_decides i (adds k u))
      (λ m. judged (rest m)) (λ u. or-added i rest (adds k u)))

  -- what a component decides by its answer, where the code has its row
  pub read : (by : Answer → Decided) {row m : RowNumber} {r o : Decided} → row ≡ m → r ≡ by (answer_in an pl row)
      → r ≡ o
      → by (answer_in an pl m) ≡ o
  read by e h t = ap (λ (x : RowNumber). by (answer_in an pl x)) (sym e) ∙ sym h ∙ t

  -- OVER THE LIST OF COMPONENTS, for the loops

  module _ (first : ComponentNumber) (n : ℕ) where
    abbrev parts : List RowNumber
    parts = parts_in fr s first n

    here : (i : ℕ) → i < n → drop i parts ≡ component_in fr s first i ∷ drop (suc i) parts
    here i h =
        drop-cons parts i (record { 0 = 0 }) (rw (listed-length (component_in fr s first) n) h)
        ∙ ap (λ (r : RowNumber). r ∷ drop (suc i) parts) (listed_at (component_in fr s first) (record { 0 = 0 }) n i h)

    over : (i : ℕ) → n ≤ i → drop i parts ≡ []
    over i h = drop_of_length-le parts {i = i} (rw (listed-length (component_in fr s first) n) h)

    -- a rule goes from component i with this total, by what each component decides
    module _ (rule : ℕ → ℕ → List RowNumber → Rule Judgement) (by : ℕ → Answer → Decided)
        (step : (i total : ℕ) (m : RowNumber) (l : List RowNumber)
        → judged_by fr s an pl (rule i total (m ∷ l))
        ≡ or_decided (by i (answer_in an pl m)) (λ k. judged_by fr s an pl (rule (suc i) (total + k) l)))
        (i total : ℕ) (h : i < n) where
      one : judged_by fr s an pl (rule i total (drop i parts))
          ≡ or_decided (by i (answer_in an pl (component_in fr s first i)))
          (λ k. judged_by fr s an pl (rule (suc i) (total + k) (drop (suc i) parts)))
      one =
          ap (λ (l : List RowNumber). judged_by fr s an pl (rule i total l)) (here i h)
          ∙ step i total (component_in fr s first i) (drop (suc i) parts)

      pub adds_on : (m : ℕ) → by i (answer_in an pl (component_in fr s first i)) ≡ Ok m
          → judged_by fr s an pl (rule i total (drop i parts))
          ≡ judged_by fr s an pl (rule (i + 1) (total + m) (drop (i + 1) parts))
      adds_on m e =
          let q : suc i ≡ i + 1 = omega arith in
          one
          ∙ ap (λ (d : Decided). or_decided d
          (λ k. judged_by fr s an pl (rule (suc i) (total + k) (drop (suc i) parts)))) e
          ∙ ap (λ (j : ℕ). judged_by fr s an pl (rule j (total + m) (drop j parts))) q

      pub ends : (v : ComposeError) → by i (answer_in an pl (component_in fr s first i)) ≡ Err v
          → judged_by fr s an pl (rule i total (drop i parts)) ≡ to_judged (Err v)
      ends v e = one
          ∙ ap (λ (d : Decided). or_decided d
          (λ k. judged_by fr s an pl (rule (suc i) (total + k) (drop (suc i) parts)))) e

    pub each-end : (p : Part) (i : ℕ) → n ≤ i → judged_by fr s an pl (each_part (asked_of fr s p) i (drop i parts))
        ≡ told passes
    unfolding judged_by each_part
    each-end p i h = ap (λ (l : List RowNumber). judged (each_part (asked_of fr s p) i l)) (over i h)

    pub added-end : (z : VectorSize) (k : Scalar) (i total : ℕ) → n ≤ i
        → judged_by fr s an pl (vector_parts z k i total (drop i parts))
        ≡ told (cond (eqb (vector_size_number z) total) passes (count (vector_size_number z) total))
    unfolding judged_by vector_parts
    added-end z k i total h = ap (λ (l : List RowNumber). judged (vector_parts z k i total l)) (over i h)

    pub count-is : length parts ≡ n
    count-is = listed-length (component_in fr s first) n

    -- the count

    pub counted-yes : (expected : ℕ) (rest : Rule Judgement) → expected ≡ n
        → judged_by fr s an pl (counted expected parts rest) ≡ judged_by fr s an pl rest
    counted-yes expected rest e = rw (count-is, eq-eqb expected n e)

    pub counted-no : (expected : ℕ) (rest : Rule Judgement) → (expected ≡ n → ⊥)
        → judged_by fr s an pl (counted expected parts rest) ≡ told (count expected n)
    unfolding judged_by
    counted-no expected rest e = rw (count-is, ne_eqb expected n e)

    -- a struct's members are counted
    pub struct-counted : (m : MemberNumber) (j : ℕ)
        → judged_by fr s an pl (counted j parts (each_part (asked_of fr s (Pa.Member m j)) 0 parts))
        ≡ judged_by fr s an pl (struct_parts (members_in fr s m j) parts)
    struct-counted m j =
        ap (λ (k : ℕ). judged_by fr s an pl (counted k parts (each_part (member_is (members_in fr s m j)) 0 parts)))
        (sym (listed-length (λ (i : ℕ). (member_in fr s m i).ty) j))

  -- the composed type is looked into
  pub composed-known : (t : TypeNumber) (parts : List RowNumber) (i : TypeInner) → type_in fr s t ≡ Some i
      → judged_by fr s an pl (verdict t parts) ≡ judged_by fr s an pl (by_form parts (member_types fr s i) i)
  unfolding judged_by
  composed-known t parts i e = rw (e, run)

  pub composed-unknown : (t : TypeNumber) (parts : List RowNumber) → type_in fr s t ≡ None
      → judged_by fr s an pl (verdict t parts) ≡ newer composed
  unfolding judged_by
  composed-unknown t parts e = rw (e, run)
