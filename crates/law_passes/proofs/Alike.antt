-- The passes answer alike where the reading comes to no Binary row, and so do all rows of a file without one: the
-- readings are the same, step by step of a rule and row by row of a file, since the rules differ in Binary rows
-- alone; and a reading tells the outcome.
use Rattle.std.specs.Prelude.{Ok}
use Prim.Native.Nat.{ℕ, zero, suc, ◌+◌, ◌≤◌, ◌<◌}
use native.Mathlib.Decide.{dec_lt}
use native.Mathlib.Omega.{arith}
use mathlib.Core.Path.{◌≡◌, refl, sym, ap, ◌∙◌}
use mathlib.Core.Bool.{Bool, true, false}
use mathlib.Core.List.{List, [], ◌∷◌, ◌++◌}
use mathlib.Core.Option.{Option, none, some}
use mathlib.Core.Logic.{inr}
use lib.ListN.{length, drop}
use borrow.Author.Tests.{ltb-true}
use Rattle.ir.specs.declared.RowNumber.{RowNumber}
use Rattle.ir.specs.declared.RowKind.{RowKind}
use Rattle.ir.specs.declared.RowKind.TheVariants as Rk
use Rattle.ir.specs.Numbers.{row_kind_of, row_kind_number}
use Rattle.ir.proofs.Numbered.{row_kind-number, unknown-row}
use Rattle.text.specs.declared.AnswerRoom.TheVariants.{Lent}
use Rattle.text.specs.Lines.{decoded}
use Rattle.frames.specs.declared.Frame.{Frame}
use Rattle.frames.specs.Bytes.{byte, frame_at}
use Rattle.frames.specs.Forms.{row_of, row_as}
use Rattle.archive.specs.declared.Starts.{Starts}
use Rattle.archive.specs.Starts.{starts_of, row_count}
use Rattle.archive.specs.Names.{is_row}
use Rattle.archive.specs.Access.{row_in}
use Rattle.rule.specs.Answers.{Typed, Judgement, Place, Result, told, row, row_frame}
use Rattle.rule.specs.Things.{Shown, Thing, Seen, kind, form, texels, struct_number, fault, Sight, see_row, see}
use Rattle.rule.specs.Rule.{Rule, done, come, past, Step, step, Reading, Readings, follow, placed, after, stop}
use Rattle.rule.specs.InOrder.{absent, among_readings, readings, ours, reading}
use Rattle.rule.specs.ForProofs.{outcome_of}
use Rattle.rule.proofs.Later.{determined}
use Rattle.rule_rows.specs.declared.Pass.{Pass}
use Rattle.rule_rows.specs.declared.Pass.TheVariants as Pa
use Rattle.rule_rows.specs.Typed.{resolve, typed, typing}
use Rattle.rule_compose.specs.Rows.{verdict_rule, judged, verdict_of}
use Rattle.rule_answers.specs.Outputs.{row_answer, row_frames, outputs, frames_bytes, verdict_frames}
use Rattle.rule_file.specs.File.{read_file}
use Rattle.rule_file.specs.Typing.{answers_after}
use Rattle.law_file.proofs.Ready.{ready_of}
use Rattle.law_file.proofs.Row.{good_of}
use Rattle.law_rows.proofs.Good.{Good}
use Rattle.law_rows.proofs.Ranged.{Each, StepInRange}
use Rattle.law_rows.proofs.NoDefault.{reading-in-range}
use Rattle.law_verdicts.proofs.NoDefault.{VerdictStep, verdict-no-default}
use Rattle.law_passes.specs.Passes.{IsBinary, NotToBinary, ComesToNoBinary, HasNoBinary}

module _ (fr : List ℕ) where
  abbrev None : List Step → Type 0
  None = ComesToNoBinary fr

  -- READINGS without Binary rows, in parts
  none_left : (xs ys : List Step) → None (xs ++ ys) → None xs
  none_left [] ys h = tt
  none_left (x ∷ xs) ys h = (h.0, none_left xs ys h.1)

  none_right : (xs ys : List Step) → None (xs ++ ys) → None ys
  none_right [] ys h = h
  none_right (x ∷ xs) ys h = none_right xs ys h.1

  -- whatever place a step has
  not-moved : (p q : Place) (c : Thing) → NotToBinary fr (step p c) → NotToBinary fr (step q c)
  not-moved p q (kind r) h = h
  not-moved p q (form a) h = tt
  not-moved p q (texels c) h = tt
  not-moved p q (struct_number a) h = tt
  not-moved p q (fault a) h = tt

  none-placed : (at : Place → Place) (xs : List Step) → None (placed at xs) → None xs
  none-placed at [] h = tt
  none-placed at (step p c ∷ xs) h = (not-moved (at p) p c h.0, none-placed at xs h.1)

  -- ONE RULE, over earlier readings that are the same where they come to none
  module _ (one two : Readings) (same : (n : RowNumber) → None (one n).steps → one n ≡ two n) where
    follow-same : {A : Type 0} (rule : Rule A) → None (follow (see fr) one rule).steps → follow (see fr) one rule
        ≡ follow (see fr) two rule
    follow-same (done a) h = refl
    follow-same {A = A} (come p c k) h = go (see fr c) refl h (λ s. follow-same (k s))
      where
        go : (o : Option (Seen c)) → see fr c ≡ o → None (follow (see fr) one (come p c k)).steps
            → ((s : Seen c) → None (follow (see fr) one (k s)).steps → follow (see fr) one (k s)
            ≡ follow (see fr) two (k s))
            → follow (see fr) one (come p c k) ≡ follow (see fr) two (come p c k)
        go none q h ih = rw (q, follow)
        go (some s) q h ih =
            let g : None (step p c ∷ (follow (see fr) one (k s)).steps) = rw (q, follow) at h in
            rw (q, follow) (ap (after (step p c ∷ [])) (ih s g.1))
    follow-same {A = A} (past n at k) h = go (one n).end refl h (λ t. follow-same (k t))
      where
        go : (e : Option Typed) → (one n).end ≡ e → None (follow (see fr) one (past n at k)).steps
            → ((t : Typed) → None (follow (see fr) one (k t)).steps → follow (see fr) one (k t)
            ≡ follow (see fr) two (k t))
            → follow (see fr) one (past n at k) ≡ follow (see fr) two (past n at k)
        go none q h ih =
            let g : None (placed at (one n).steps) = rw (q, follow) at h in
            let e : one n ≡ two n = same n (none-placed at (one n).steps g) in
            let v : (two n).end ≡ none = sym (ap (λ (r : Reading Typed). r.end) e) ∙ q in
            rw (q, v, follow) (ap (λ (r : Reading Typed). stop (placed at r.steps)) e)
        go (some t) q h ih =
            let g : None (placed at (one n).steps ++ (follow (see fr) one (k t)).steps) = rw (q, follow) at h in
            let e : one n ≡ two n = same n (none-placed at (one n).steps (none_left (placed at (one n).steps) _ g)) in
            let v : (two n).end ≡ some t = sym (ap (λ (r : Reading Typed). r.end) e) ∙ q in
            rw (q, v, follow)
            (ap (λ (r : Reading Typed). after (placed at r.steps) (follow (see fr) one (k t))) e
            ∙ ap (after (placed at (two n).steps)) (ih t (none_right (placed at (one n).steps) _ g)))

  -- WHAT A ROW SHOWS: but for Binary rows, the passes have the same rule
  abbrev AlikeShown : RowNumber → Option Shown → Type 0
  AlikeShown here (some x) = resolve Pa.First here x ≡ resolve Pa.Second here x
  AlikeShown here none = Unit {0}

  module _ (s : Starts) (here : RowNumber) where
    kind-alike : (k : RowKind) (f : Frame) → (k ≡ Rk.Binary → ⊥) → AlikeShown here (see_row fr s (row_as k f))
    kind-alike Rk.Unknown f h = tt
    kind-alike Rk.Literal f h = refl
    kind-alike Rk.Constant f h = refl
    kind-alike Rk.Override f h = refl
    kind-alike Rk.ZeroValue f h = refl
    kind-alike Rk.Compose f h = refl
    kind-alike Rk.Access f h = refl
    kind-alike Rk.AccessIndex f h = refl
    kind-alike Rk.Splat f h = refl
    kind-alike Rk.Swizzle f h = refl
    kind-alike Rk.FunctionArgument f h = refl
    kind-alike Rk.GlobalVariable f h = refl
    kind-alike Rk.LocalVariable f h = refl
    kind-alike Rk.Load f h = refl
    kind-alike Rk.ImageSample f h = refl
    kind-alike Rk.ImageLoad f h = refl
    kind-alike Rk.ImageQuery f h = refl
    kind-alike Rk.Unary f h = refl
    kind-alike Rk.Binary f h = absurd (h refl)
    kind-alike Rk.Select f h = refl
    kind-alike Rk.Derivative f h = refl
    kind-alike Rk.Relational f h = refl
    kind-alike Rk.Math f h = tt
    kind-alike Rk.As f h = refl
    kind-alike Rk.CallResult f h = refl
    kind-alike Rk.AtomicResult f h = refl
    kind-alike Rk.WorkGroupUniformLoadResult f h = refl
    kind-alike Rk.ArrayLength f h = refl
    kind-alike Rk.RayQueryVertexPositions f h = refl
    kind-alike Rk.RayQueryProceedResult f h = refl
    kind-alike Rk.RayQueryGetIntersection f h = refl
    kind-alike Rk.SubgroupBallotResult f h = refl
    kind-alike Rk.SubgroupOperationResult f h = refl
    kind-alike Rk.CooperativeLoad f h = refl
    kind-alike Rk.CooperativeMultiplyAdd f h = refl

  pub binary-number : (b : ℕ) → row_kind_of b ≡ Rk.Binary → b ≡ 18
  binary-number b m = go (dec_lt b 35)
    where
      go : Dec (b < 35) → b ≡ 18
      go (yes l) = sym (row_kind-number b l) ∙ ap row_kind_number m
      go (no l) = absurd (let u : row_kind_of b ≡ Rk.Unknown = (unknown-row b).1 (inr (omega arith)) in
          let z : ◌≡◌ {A = ℕ} 0 1 = cc in omega arith)

  row-alike : (r : RowNumber) → (IsBinary fr r.0 → ⊥) → AlikeShown r (see fr (kind r))
  unfolding row_in row_of
  row-alike r h = go (is_row (starts_of fr) r) refl
    where
      go : (b : Bool) → is_row (starts_of fr) r ≡ b → AlikeShown r (see fr (kind r))
      go true q = rw q (kind-alike (starts_of fr) r (row_kind_of (byte (frame_at fr ((starts_of fr).rows + r.0)) 1)) _
          (λ e. h (binary-number _ e)))
      go false q = rw q tt

  -- ROW BY ROW

  -- the rule of row n itself
  typing-same : (one two : Readings) → ((n : RowNumber) → None (one n).steps → one n ≡ two n) → (n : ℕ)
      → None (follow (see fr) one (typing Pa.First n)).steps → follow (see fr) one (typing Pa.First n)
      ≡ follow (see fr) two (typing Pa.Second n)
  typing-same one two same n h = go (record { 0 = n }) (see fr (kind (record { 0 = n }))) refl h
    where
      go : (r : RowNumber) (o : Option Shown) → see fr (kind r) ≡ o
          → None (follow (see fr) one (typed Pa.First r)).steps
          → follow (see fr) one (typed Pa.First r) ≡ follow (see fr) two (typed Pa.Second r)
      go r none q h = rw (q, follow)
      go r (some x) q h =
          let g : None (step (row r) (kind r) ∷ (follow (see fr) one (resolve Pa.First r x)).steps) =
          rw (q, follow) at h
          in
          let e : resolve Pa.First r x ≡ resolve Pa.Second r x = rw q at (row-alike r g.0) in
          rw (q, follow)
          (ap (after (step (row r) (kind r) ∷ []))
          (follow-same one two same (resolve Pa.First r x) g.1 ∙ ap (follow (see fr) two) e))

  data Rows : List (Reading Typed) → List (Reading Typed) → Type 0 where
    none_yet : Rows [] []
    one_more : {r s : Reading Typed} {rs ss : List (Reading Typed)} → (None r.steps → r ≡ s) → Rows rs ss
        → Rows (r ∷ rs) (s ∷ ss)

  next_row : {rs ss : List (Reading Typed)} (r s : Reading Typed) → Rows rs ss → (None r.steps → r ≡ s)
      → Rows (rs ++ (r ∷ [])) (ss ++ (s ∷ []))
  next_row r s none_yet h = one_more h none_yet
  next_row r s (one_more g all) h = one_more g (next_row r s all h)

  at_row : {rs ss : List (Reading Typed)} → Rows rs ss → (n : ℕ) → let m : RowNumber = record { 0 = n } in
      None (among_readings rs m).steps → among_readings rs m ≡ among_readings ss m
  at_row none_yet n h = refl
  at_row (one_more g all) zero h = g h
  at_row (one_more g all) (suc n) h = at_row all n h

  rows : (n : ℕ) → Rows (readings (see fr) (typing Pa.First) n) (readings (see fr) (typing Pa.Second) n)
  rows zero = none_yet
  rows (suc n) = next_row _ _ (rows n) (typing-same _ _ (λ m. at_row (rows n) m.0) n)

  -- THE LAW, for every rule over the first n rows, comparisons and verdicts among them
  pub passes-alike : {A : Type 0} (n : ℕ) (rule : Rule A)
      → ComesToNoBinary fr (reading (see fr) (typing Pa.First) n rule)
      → ours (see fr) (typing Pa.First) n rule ≡ ours (see fr) (typing Pa.Second) n rule
  passes-alike n rule h =
      determined (see fr) (typing Pa.First) (λ m. told absent) n rule
      ∙ ap (outcome_of (see fr)) (follow-same _ _ (λ m. at_row (rows n) m.0) rule h)
      ∙ sym (determined (see fr) (typing Pa.Second) (λ m. told absent) n rule)

  -- and of row n's own answer
  pub rows_alike : (n : ℕ) → ComesToNoBinary fr (reading (see fr) (typing Pa.First) n (typing Pa.First n))
      → row_answer Pa.First (see fr) n ≡ row_answer Pa.Second (see fr) n
  rows_alike n h =
      determined (see fr) (typing Pa.First) (λ m. told absent) n (typing Pa.First n)
      ∙ ap (outcome_of (see fr)) (typing-same _ _ (λ m. at_row (rows n) m.0) n h)
      ∙ sym (determined (see fr) (typing Pa.Second) (λ m. told absent) n (typing Pa.Second n))

  -- and of its verdict, where it has one
  pub verdicts-alike : (n : ℕ) (rule : Rule Judgement) → verdict_rule (see fr) n ≡ some rule
      → ComesToNoBinary fr (reading (see fr) (typing Pa.First) n rule) → verdict_of Pa.First (see fr) n
      ≡ verdict_of Pa.Second (see fr) n
  verdicts-alike n rule e h = rw e (ap some (passes-alike n rule h))

-- A FILE WITHOUT BINARY ROWS: every step of a reading comes to a row of the file, and so to no Binary row
module _ (fr : List ℕ) (good : Good fr) (without : HasNoBinary fr) where
  row-steps : (n : ℕ) (xs : List Step) → Each (StepInRange fr n) xs → ComesToNoBinary fr xs
  row-steps n [] h = tt
  row-steps n (step p (kind r) ∷ xs) h = (without r.0 (ltb-true _ _ h.0.1), row-steps n xs h.1)
  row-steps n (step p (form a) ∷ xs) h = (tt, row-steps n xs h.1)
  row-steps n (step p (texels c) ∷ xs) h = (tt, row-steps n xs h.1)
  row-steps n (step p (struct_number a) ∷ xs) h = (tt, row-steps n xs h.1)
  row-steps n (step p (fault a) ∷ xs) h = (tt, row-steps n xs h.1)

  verdict-steps : (m : ℕ) (xs : List Step) → Each (VerdictStep fr m) xs → ComesToNoBinary fr xs
  verdict-steps m [] h = tt
  verdict-steps m (step p (kind r) ∷ xs) h = (without r.0 (ltb-true _ _ h.0.1), verdict-steps m xs h.1)
  verdict-steps m (step p (form a) ∷ xs) h = (tt, verdict-steps m xs h.1)
  verdict-steps m (step p (texels c) ∷ xs) h = (tt, verdict-steps m xs h.1)
  verdict-steps m (step p (struct_number a) ∷ xs) h = (tt, verdict-steps m xs h.1)
  verdict-steps m (step p (fault a) ∷ xs) h = (tt, verdict-steps m xs h.1)

  pub row-frames-alike : (n : ℕ) → n < row_count (starts_of fr) → row_frames Pa.First (see fr) n
      ≡ row_frames Pa.Second (see fr) n
  row-frames-alike n w =
      ap (λ (a : Result Typed). row_frame a ∷ verdict_frames n (verdict_of Pa.First (see fr) n))
      (rows_alike fr n (row-steps n (reading (see fr) (typing Pa.First) n (typing Pa.First n))
      (reading-in-range Pa.First fr good n w)))
      ∙ ap (λ (v : Option (Result Judgement)). row_frame (row_answer Pa.Second (see fr) n) ∷ verdict_frames n v)
      (go (verdict_rule (see fr) n) refl)
    where
      go : (o : Option (Rule Judgement)) → verdict_rule (see fr) n ≡ o → verdict_of Pa.First (see fr) n
          ≡ verdict_of Pa.Second (see fr) n
      go none q = rw q
      go (some rule) q =
          let k = verdict-no-default Pa.First fr good n w rule q in
          verdicts-alike fr n rule q
          (verdict-steps (length k.row.parts) (reading (see fr) (typing Pa.First) n rule) k.steps)

  pub outputs-alike : (n : ℕ) → n ≤ row_count (starts_of fr)
      → outputs Pa.First (see fr) n ≡ outputs Pa.Second (see fr) n
  unfolding outputs
  outputs-alike zero w = refl
  outputs-alike (suc n) w =
      ap (λ (l : List Frame). l ++ row_frames Pa.First (see fr) n) (outputs-alike n (omega arith))
      ∙ ap (λ (l : List Frame). outputs Pa.Second (see fr) n ++ l) (row-frames-alike n (omega arith))

-- OVER TEXTS: the answer buffer that `type_rows` leaves is the same in both passes
pub file-alike : (limit : ℕ) (t : List ℕ) (f : ℕ) (an : List ℕ) (n : ℕ) → read_file limit t f (Lent (length an))
    ≡ Ok n
    → HasNoBinary (decoded t n) → answers_after Pa.First limit t f an ≡ answers_after Pa.Second limit t f an
unfolding answers_after
file-alike limit t f an n e without =
    let fr = decoded t n in
    let good = good_of Pa.First fr (length an) (ready_of Pa.First limit t f (length an) n e) in
    rw e (ap (λ (l : List Frame). frames_bytes l ++ drop (length (frames_bytes l)) an)
    (outputs-alike fr good without (row_count (starts_of fr)) (omega arith)))
