-- `typed-in-both`: what the second pass types the first types too, of rows whose operands' readings come to no Binary
-- row where the passes part. By induction on the rows: Binary rows by `binary-in-both`, all others by `rule-alike`.
use Rattle.std.specs.Prelude.{Ok}
use Prim.Native.Nat.{ℕ, zero, suc, ◌+◌, ◌<◌}
use native.Mathlib.Decide.{ℕ_discrete}
use native.Mathlib.Omega.{arith}
use mathlib.Core.Path.{◌≡◌, refl, sym, ap, subst, ◌∙◌}
use mathlib.Core.Bool.{Bool, true, false, cond}
use mathlib.Core.List.{List, [], ◌∷◌, ◌++◌}
use mathlib.Core.Option.{Option, none, some}
use Rattle.scan.specs.Lowest.{lowest, all_below}
use Rattle.scan.specs.Lists.{build, sum_below}
use Rattle.ir.specs.declared.RowNumber.{RowNumber}
use Rattle.ir.specs.declared.RowKind.{RowKind}
use Rattle.ir.specs.declared.RowKind.TheVariants as Rk
use Rattle.ir.specs.declared.BinaryOperator.{BinaryOperator}
use Rattle.ir.specs.declared.TypeInner.TheVariants as Ti
use Rattle.ir.specs.Numbers.{row_kind_of}
use Rattle.ir.specs.Scalars.{F32}
use Rattle.answers.specs.declared.Refusal.TheVariants.{InvalidAccess}
use Rattle.text.specs.declared.AnswerRoom.TheVariants.{Lent}
use Rattle.text.specs.Lines.{decoded}
use Rattle.frames.specs.declared.Frame.{Frame}
use Rattle.frames.specs.Bytes.{byte, frame_at}
use Rattle.frames.specs.Forms.{type_of, item_of, row_of, row_as, member_of, component_of, fields_fit}
use Rattle.archive.specs.declared.Starts.{Starts}
use Rattle.archive.specs.Order.{order_ok}
use Rattle.archive.specs.Starts.{start, starts_of, row_count}
use Rattle.archive.specs.Names.{is_row, names_ok}
use Rattle.archive.specs.Parts.{early_ok}
use Rattle.archive.specs.Checks.{index_ok, check_frames}
use Rattle.archive.specs.Access.{type_in, row_in}
use Rattle.rule.specs.Answers.{TypeAnswer, value, Typed, given, refused, row, Result, told, newer}
use Rattle.rule.specs.Things.{Shown, kind, see_row, see}
use Rattle.rule.specs.Things as Row
use Rattle.rule.specs.Rule.{Answers, Step, step, Reading, Readings, run}
use Rattle.rule.specs.InOrder.{absent, among, among_readings, answers, readings}
use Rattle.rule.proofs.InOrder.{in-order-at}
use Rattle.rule_types.proofs.Seen.{never}
use Rattle.rule_rows.specs.declared.Pass.{Pass}
use Rattle.rule_rows.specs.declared.Pass.TheVariants as Pa
use Rattle.rule_rows.specs.Typed.{typing}
use Rattle.rule_answers.specs.Outputs.{row_answer}
use Rattle.rule_file.specs.File.{over_file, read_file}
use Rattle.rule_file.specs.Typing.{answer, no_row, not_accepted, row_given, row_type}
use Rattle.law_rows.specs.Reads.{reads, operand_steps, line_steps, row_reading}
use Rattle.law_rows.proofs.Good.{Good}
use Rattle.law_rows.proofs.Range.{row-there}
use Rattle.law_rows.proofs.Reading.{reads-are}
use Rattle.law_rows.proofs.NoDefault.{Earlier, operands-earlier}
use Rattle.law_file.proofs.Laws.{accepted-when}
use Rattle.law_passes.specs.Passes.{IsBinary, operator_at, left_at, right_at}
use Rattle.law_passes.specs.InBoth.{IsType, RowIsType, ShowsAs, Alike, AlikeAt}
use Rattle.law_passes.specs.InBoth.{ComesToNoParted, second_reading, NoneParted}
use Rattle.law_passes.specs.ForProofs.{index_of_sum}
use Rattle.law_passes.proofs.Alike.{binary-number}
use Rattle.law_passes.proofs.Judged.{binary-shown, earlier}
use Rattle.law_passes.proofs.BinaryInBoth.{binary-in-both}
use Rattle.law_passes.proofs.OtherRules.{FirstAlike, rule-alike}

-- WHAT SHOWS A BINARY ROW is one by its bytes
module _ (fr : List ℕ) (s : Starts) (op : BinaryOperator) (l r : RowNumber) where
  kind-binary : (k : RowKind) (f : Frame) → see_row fr s (row_as k f) ≡ some (Row.binary op l r) → k ≡ Rk.Binary
  kind-binary Rk.Unknown f e = never (cc)
  kind-binary Rk.Literal f e = never (cc)
  kind-binary Rk.Constant f e = never (cc)
  kind-binary Rk.Override f e = never (cc)
  kind-binary Rk.ZeroValue f e = never (cc)
  kind-binary Rk.Compose f e = never (cc)
  kind-binary Rk.Access f e = never (cc)
  kind-binary Rk.AccessIndex f e = never (cc)
  kind-binary Rk.Splat f e = never (cc)
  kind-binary Rk.Swizzle f e = never (cc)
  kind-binary Rk.FunctionArgument f e = never (cc)
  kind-binary Rk.GlobalVariable f e = never (cc)
  kind-binary Rk.LocalVariable f e = never (cc)
  kind-binary Rk.Load f e = never (cc)
  kind-binary Rk.ImageSample f e = never (cc)
  kind-binary Rk.ImageLoad f e = never (cc)
  kind-binary Rk.ImageQuery f e = never (cc)
  kind-binary Rk.Unary f e = never (cc)
  kind-binary Rk.Binary f e = refl
  kind-binary Rk.Select f e = never (cc)
  kind-binary Rk.Derivative f e = never (cc)
  kind-binary Rk.Relational f e = never (cc)
  kind-binary Rk.Math f e = never (cc)
  kind-binary Rk.As f e = never (cc)
  kind-binary Rk.CallResult f e = never (cc)
  kind-binary Rk.AtomicResult f e = never (cc)
  kind-binary Rk.WorkGroupUniformLoadResult f e = never (cc)
  kind-binary Rk.ArrayLength f e = never (cc)
  kind-binary Rk.RayQueryVertexPositions f e = never (cc)
  kind-binary Rk.RayQueryProceedResult f e = never (cc)
  kind-binary Rk.RayQueryGetIntersection f e = never (cc)
  kind-binary Rk.SubgroupBallotResult f e = never (cc)
  kind-binary Rk.SubgroupOperationResult f e = never (cc)
  kind-binary Rk.CooperativeLoad f e = never (cc)
  kind-binary Rk.CooperativeMultiplyAdd f e = never (cc)

shown-binary : (fr : List ℕ) (n : RowNumber) (op : BinaryOperator) (l r : RowNumber)
    → see fr (kind n) ≡ some (Row.binary op l r)
    → IsBinary fr n.0
unfolding row_in row_of
shown-binary fr n op l r e = go (is_row (starts_of fr) n) refl
  where
    go : (b : Bool) → is_row (starts_of fr) n ≡ b → IsBinary fr n.0
    go true q = binary-number fr _ (kind-binary fr (starts_of fr) op l r
        (row_kind_of (byte (frame_at fr ((starts_of fr).rows + n.0)) 1)) _ (rw q at e))
    go false q = let z : none ≡ some (Row.binary op l r) = rw q at e in never (cc)

none_left : (fr : List ℕ) (xs ys : List Step) → ComesToNoParted fr (xs ++ ys) → ComesToNoParted fr xs
none_left fr [] ys h = tt
none_left fr (x ∷ xs) ys h = (h.0, none_left fr xs ys h.1)

module _ (fr : List ℕ) (good : Good fr) where
  abbrev Steady : ℕ → Type 0
  Steady m = m < row_count (starts_of fr) → ComesToNoParted fr (second_reading fr m) → AlikeAt fr m

  -- ROW n, where every earlier row is steady
  module _ (n : ℕ) (there : n < row_count (starts_of fr)) (before : (m : ℕ) → m < n → Steady m) where
    abbrev own : RowNumber
    own = record { 0 = n }

    abbrev one : Answers
    one = among (answers (see fr) (typing Pa.First) (λ k. newer) n)

    abbrev two : Answers
    two = among (answers (see fr) (typing Pa.Second) (λ k. newer) n)

    abbrev read : Readings
    read = among_readings (readings (see fr) (typing Pa.Second) n)

    earlier-alike : (m : RowNumber) → m.0 < n → AlikeAt fr m.0 → Alike fr (one m) (two m)
    earlier-alike m l h y e =
        let s = h y (sym (in-order-at _ (told absent) n m.0 l) ∙ e) in
        record { type = s.type; typed = in-order-at _ (told absent) n m.0 l ∙ s.typed; shows = s.shows }

    operand-alike : (m : RowNumber) → m.0 < n → ComesToNoParted fr (second_reading fr m.0) → Alike fr (one m) (two m)
    operand-alike m l h = earlier-alike m l (before m.0 l (omega arith) h)

    first_read : (ops : List RowNumber) (rest : List TypeAnswer → List Step) → Earlier own ops
        → ComesToNoParted fr (operand_steps read ops rest) → FirstAlike fr one two own ops
    first_read [] rest l h = tt
    first_read (m ∷ ms) rest l h =
        operand-alike m l.0
        (subst (ComesToNoParted fr)
        (ap (λ (x : Reading Typed). x.steps)
        (in-order-at _ (record { steps = []; end = some absent }) n m.0 l.0))
        (none_left fr (read m).steps _ h))

    first-named : (ops : List RowNumber) → Earlier own ops → NoneParted fr ops → FirstAlike fr one two own ops
    first-named [] l h = tt
    first-named (m ∷ ms) l h = operand-alike m l.0 h.0

    -- a row that is no Binary row
    by-rule : (x : Shown) → see fr (kind own) ≡ some x → (IsBinary fr n → ⊥)
        → FirstAlike fr one two own (reads Pa.Second x).operands → AlikeAt fr n
    by-rule x q not h y e =
        rw (q, run) (rule-alike fr one two own x
        (λ op l r w. not (shown-binary fr own op l r (q ∙ ap some w))) h y (rw (q, run) at e))

    by-reading : ComesToNoParted fr (second_reading fr n) → AlikeAt fr n
    by-reading h = go (see fr (kind own)) refl (ℕ_discrete _ 18)
      where
        go : (o : Option Shown) → see fr (kind own) ≡ o → Dec (IsBinary fr n) → AlikeAt fr n
        go o q (yes is) =
            let g : ComesToNoParted fr (row_reading Pa.Second (see fr) read own) =
            rw (reads-are (see fr) read Pa.Second own) at h
            in
            g.0 is
        go none q (no not) = λ y e. let z : newer (row own) ≡ told (given y) = rw (q, run) at e in never (cc)
        go (some x) q (no not) =
            let g : ComesToNoParted fr (step (row own) (kind own) ∷ line_steps (see fr) read own (reads Pa.Second x)) =
            rw (reads-are (see fr) read Pa.Second own, q) at h
            in
            let l = operands-earlier Pa.Second fr own good (row-there fr n there) x q in
            by-rule x q not (first_read (reads Pa.Second x).operands _ l g.1)

  steady-below : (n m : ℕ) → m < n → Steady m
  steady-below zero m l = absurd (omega arith)
  steady-below (suc n) m l = λ there. by-reading m there (λ k w. steady-below n k (omega arith))

  -- A ROW WHOSE READING comes to no Binary row where the passes part: they are alike at it
  pub alike_at : (n : ℕ) → n < row_count (starts_of fr) → ComesToNoParted fr (second_reading fr n) → AlikeAt fr n
  alike_at n there h = steady-below (suc n) n (omega arith) there h

  -- and where its operands' readings come to none it is typed in both, if in the second, a Binary row too
  pub typed-in-both : (n : ℕ) → n < row_count (starts_of fr) → (x : Shown) → see fr (kind (record { 0 = n })) ≡ some x
      → NoneParted fr (reads Pa.Second x).operands → (y : TypeAnswer)
      → row_answer Pa.Second (see fr) n ≡ told (given y)
      → IsType (row_answer Pa.First (see fr) n)
  typed-in-both n there x q h y e = go (ℕ_discrete _ 18)
    where
      go : Dec (IsBinary fr n) → IsType (row_answer Pa.First (see fr) n)
      go (yes is) =
          let b = Row.binary (operator_at fr n) (record { 0 = left_at fr n }) (record { 0 = right_at fr n }) in
          let w : some x ≡ some b = sym q ∙ binary-shown fr good n there is in
          let w : x ≡ b = cc in
          let g : NoneParted fr (reads Pa.Second b).operands =
          subst (λ (s : Shown). NoneParted fr (reads Pa.Second s).operands) w h
          in
          let k = earlier fr good n there is in
          binary-in-both fr good n there is (alike_at (left_at fr n) (omega (arith, k.0)) g.0)
          (alike_at (right_at fr n) (omega (arith, k.1)) g.1.0) y e
      go (no not) =
          let s = by-rule n there (λ m l. alike_at m) x q not
          (first-named n there (λ m l. alike_at m) (reads Pa.Second x).operands
          (operands-earlier Pa.Second fr (record { 0 = n }) good (row-there fr n there) x q) h) y e
          in
          record { type = s.type; typed = s.typed }

-- BY WHAT `row_type` GIVES of an accepted text
module _ (limit : ℕ) (t : List ℕ) (f a k : ℕ) (e : read_file limit t f (Lent a) ≡ Ok k) where
  abbrev fr : List ℕ
  fr = decoded t k

  row_is : (pass : Pass) (m : ℕ) → m < row_count (starts_of fr)
      → row_type pass limit t f a (record { 0 = m }) ≡ answer (row_answer pass (see fr) m)
  unfolding row_type
  row_is pass m l =
      ap (over_file not_accepted (row_given pass (record { 0 = m })) t) e
      ∙ ap (λ (b : Bool). cond b (answer (row_answer pass (see fr) m)) no_row) (row-there fr m l)

  pub row-in-both : (n : ℕ) → n < row_count (starts_of (decoded t k)) → (x : Shown)
      → see (decoded t k) (kind (record { 0 = n })) ≡ some x
      → NoneParted (decoded t k) (reads Pa.Second x).operands
      → RowIsType (row_type Pa.Second limit t f a (record { 0 = n }))
      → RowIsType (row_type Pa.First limit t f a (record { 0 = n }))
  row-in-both n there x q h r =
      let good : Good fr = let w = (accepted-when limit t f (Lent a) k).0 e in
      record { order = w.order; fields = w.fields; index = w.index }
      in
      let s = typed-in-both fr good n there x q h r.type (given-of (sym (row_is Pa.Second n there) ∙ r.typed)) in
      record { type = s.type; typed = row_is Pa.First n there ∙ ap answer s.typed }
    where
      given-of : {u v : Result Typed} → answer u ≡ answer v → u ≡ v
      given-of z = cc

-- NOT OF EVERY ROW: an accepted file whose row 3, component 1 of f32 plus vec2<f32>, is f32 in the second pass, and in
-- the first number 11, since the sum is f32 there. Computed.
pub parted : (check_frames index_of_sum ≡ Ok 6)
    × ((row_answer Pa.Second (see index_of_sum) 3 ≡ told (given (value (Ti.Scalar F32))))
    × (row_answer Pa.First (see index_of_sum) 3 ≡ told (refused (InvalidAccess (record { 0 = 2 }) true))))
unfolding lowest all_below build sum_below frame_at type_of item_of row_of member_of component_of fields_fit order_ok
    start starts_of names_ok early_ok index_ok check_frames row_in type_in
parted = (refl, (refl, refl))
