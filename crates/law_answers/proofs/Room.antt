-- The answer buffer that check 3 asks for has room for what is handed back: each row of an accepted file is a line of
-- family 4, and a compose one of kind 5.
use Rattle.std.specs.Prelude.{Option as CodeOption, Some, None}
use Prim.Native.Nat.{ℕ, zero, suc, ◌+◌, ◌*◌, ◌-◌, ◌/◌, ◌≤◌, ◌<◌}
use native.Mathlib.Decide.{dec_lt}
use native.Mathlib.Omega.{arith}
use mathlib.Core.Path.{◌≡◌, refl, sym, ap, ◌∙◌}
use mathlib.Core.Bool.{Bool, true, false, cond}
use mathlib.Core.List.{List, [], ◌∷◌, ◌++◌}
use mathlib.Core.Logic.{inr}
use mathlib.Core.Option.{Option, none, some}
use lib.Dec.{eqb}
use lib.ListN.{length, get_or, length-append}
use borrow.Author.Tests.{eq-eqb, lt-ltb}
use Rattle.ir.specs.declared.TypeNumber.{TypeNumber}
use Rattle.ir.specs.declared.RowNumber.{RowNumber}
use Rattle.ir.specs.declared.ComponentNumber.{ComponentNumber}
use Rattle.ir.specs.declared.RowKind.{RowKind}
use Rattle.ir.specs.declared.RowKind.TheVariants as Rk
use Rattle.ir.specs.declared.Expression.{Expression}
use Rattle.ir.specs.declared.Expression.TheVariants as Ex
use Rattle.ir.specs.Numbers.{row_kind_of, row_kind_number}
use Rattle.ir.proofs.Numbered.{row_kind-number, unknown-row}
use Rattle.scan.specs.Lists.{sum_below}
use Rattle.frames.specs.declared.Frame.{Frame}
use Rattle.frames.specs.Bytes.{byte, frame_at, frame_count}
use Rattle.frames.specs.Forms.{row_as, row_of}
use Rattle.archive.specs.declared.Starts.{Starts}
use Rattle.archive.specs.Starts.{starts_of, row_count}
use Rattle.archive.specs.Names.{is_row}
use Rattle.archive.specs.Access.{row_in}
use Rattle.rule.specs.Answers.{Judgement, Result}
use Rattle.rule.specs.Things.{shown, see, see_row}
use Rattle.rule.specs.Rule.{Rule}
use Rattle.rule_rows.specs.declared.Pass.{Pass}
use Rattle.law_rows.proofs.Good.{Good}
use Rattle.law_rows.proofs.Named.{row-frame}
use Rattle.law_rows.proofs.Range.{row-there}
use Rattle.rule_compose.specs.Rows.{of_shown, verdict_rule, judged, verdict_of}
use Rattle.rule_answers.specs.Outputs.{verdict_frames, row_frames, outputs}

never : {X : Type 0} → ◌≡◌ {A = ℕ} 0 1 → X
never z = absurd (omega arith)

-- a row that has a verdict is a compose
pub record IsCompose (e : Expression) : Type 0 where
  pub ty : TypeNumber
  pub count : ℕ
  pub first : ComponentNumber
  pub is : e ≡ Ex.Compose ty count first

pub shown-compose : (fr : List ℕ) (s : Starts) (e : Expression) (r : Rule Judgement) → of_shown (shown fr s e) ≡ some r
    → IsCompose e
shown-compose fr s (Ex.Literal x0) r h = never (cc)
shown-compose fr s (Ex.Constant x0) r h = never (cc)
shown-compose fr s (Ex.Override x0) r h = never (cc)
shown-compose fr s (Ex.ZeroValue x0) r h = never (cc)
shown-compose fr s (Ex.Compose x0 x1 x2) r h = record { ty = x0; count = x1; first = x2; is = refl }
shown-compose fr s (Ex.Access x0) r h = never (cc)
shown-compose fr s (Ex.AccessIndex x0 x1) r h = never (cc)
shown-compose fr s (Ex.Splat x0 x1) r h = never (cc)
shown-compose fr s (Ex.Swizzle x0 x1) r h = never (cc)
shown-compose fr s (Ex.FunctionArgument x0) r h = never (cc)
shown-compose fr s (Ex.GlobalVariable x0) r h = never (cc)
shown-compose fr s (Ex.LocalVariable x0) r h = never (cc)
shown-compose fr s (Ex.Load x0) r h = never (cc)
shown-compose fr s (Ex.ImageSample x0 x1) r h = never (cc)
shown-compose fr s (Ex.ImageLoad x0) r h = never (cc)
shown-compose fr s (Ex.ImageQuery x0 x1) r h = never (cc)
shown-compose fr s (Ex.Unary x0) r h = never (cc)
shown-compose fr s (Ex.Binary x0 x1 x2) r h = never (cc)
shown-compose fr s (Ex.Select x0) r h = never (cc)
shown-compose fr s (Ex.Derivative x0) r h = never (cc)
shown-compose fr s (Ex.Relational x0 x1) r h = never (cc)
shown-compose fr s Ex.Math r h = never (cc)
shown-compose fr s (Ex.As x0 x1 x2) r h = never (cc)
shown-compose fr s (Ex.CallResult x0) r h = never (cc)
shown-compose fr s (Ex.AtomicResult x0) r h = never (cc)
shown-compose fr s (Ex.WorkGroupUniformLoadResult x0) r h = never (cc)
shown-compose fr s Ex.ArrayLength r h = never (cc)
shown-compose fr s Ex.RayQueryVertexPositions r h = never (cc)
shown-compose fr s Ex.RayQueryProceedResult r h = never (cc)
shown-compose fr s Ex.RayQueryGetIntersection r h = never (cc)
shown-compose fr s Ex.SubgroupBallotResult r h = never (cc)
shown-compose fr s (Ex.SubgroupOperationResult x0) r h = never (cc)
shown-compose fr s (Ex.CooperativeLoad x0 x1 x2 x3) r h = never (cc)
shown-compose fr s (Ex.CooperativeMultiplyAdd x0) r h = never (cc)

only-compose : (k : RowKind) (f : Frame) (t : TypeNumber) (n : ℕ) (c : ComponentNumber) → row_as k f
    ≡ Some (Ex.Compose t n c)
    → k ≡ Rk.Compose
only-compose Rk.Unknown f t n c e = never (cc)
only-compose Rk.Literal f t n c e = never (cc)
only-compose Rk.Constant f t n c e = never (cc)
only-compose Rk.Override f t n c e = never (cc)
only-compose Rk.ZeroValue f t n c e = never (cc)
only-compose Rk.Compose f t n c e = refl
only-compose Rk.Access f t n c e = never (cc)
only-compose Rk.AccessIndex f t n c e = never (cc)
only-compose Rk.Splat f t n c e = never (cc)
only-compose Rk.Swizzle f t n c e = never (cc)
only-compose Rk.FunctionArgument f t n c e = never (cc)
only-compose Rk.GlobalVariable f t n c e = never (cc)
only-compose Rk.LocalVariable f t n c e = never (cc)
only-compose Rk.Load f t n c e = never (cc)
only-compose Rk.ImageSample f t n c e = never (cc)
only-compose Rk.ImageLoad f t n c e = never (cc)
only-compose Rk.ImageQuery f t n c e = never (cc)
only-compose Rk.Unary f t n c e = never (cc)
only-compose Rk.Binary f t n c e = never (cc)
only-compose Rk.Select f t n c e = never (cc)
only-compose Rk.Derivative f t n c e = never (cc)
only-compose Rk.Relational f t n c e = never (cc)
only-compose Rk.Math f t n c e = never (cc)
only-compose Rk.As f t n c e = never (cc)
only-compose Rk.CallResult f t n c e = never (cc)
only-compose Rk.AtomicResult f t n c e = never (cc)
only-compose Rk.WorkGroupUniformLoadResult f t n c e = never (cc)
only-compose Rk.ArrayLength f t n c e = never (cc)
only-compose Rk.RayQueryVertexPositions f t n c e = never (cc)
only-compose Rk.RayQueryProceedResult f t n c e = never (cc)
only-compose Rk.RayQueryGetIntersection f t n c e = never (cc)
only-compose Rk.SubgroupBallotResult f t n c e = never (cc)
only-compose Rk.SubgroupOperationResult f t n c e = never (cc)
only-compose Rk.CooperativeLoad f t n c e = never (cc)
only-compose Rk.CooperativeMultiplyAdd f t n c e = never (cc)

compose-byte : (f : Frame) (t : TypeNumber) (n : ℕ) (c : ComponentNumber) → row_of f ≡ Some (Ex.Compose t n c)
    → byte f 1 ≡ 5
unfolding row_of
compose-byte f t n c e = go (only-compose (row_kind_of (byte f 1)) f t n c e) (dec_lt (byte f 1) 35)
  where
    go : row_kind_of (byte f 1) ≡ Rk.Compose → Dec (byte f 1 < 35) → byte f 1 ≡ 5
    go m (yes l) = sym (row_kind-number (byte f 1) l) ∙ ap row_kind_number m
    go m (no l) = never (let u : row_kind_of (byte f 1) ≡ Rk.Unknown = (unknown-row (byte f 1)).1 (inr (omega arith)) in
        cc)

module _ (fr : List ℕ) where
  pub row-compose : (f : CodeOption Expression) (r : Rule Judgement) (k : Frame) → f ≡ row_of k
      → of_shown (see_row fr (starts_of fr) f)
      ≡ some r
      → byte k 1 ≡ 5
  row-compose None r k q h = never (cc)
  row-compose (Some e) r k q h =
      let c = shown-compose fr (starts_of fr) e r h in
      compose-byte k c.ty c.count c.first (sym q ∙ ap Some c.is)

  pub row_is : (n : RowNumber) → is_row (starts_of fr) n ≡ true → row_in fr (starts_of fr) n
      ≡ row_of (frame_at fr ((starts_of fr).rows + n.0))
  unfolding row_in
  row_is n h = rw h

  -- how many frames row m hands back, by the bytes of its frame
  abbrev pub asked : ℕ → ℕ
  asked k = cond (eqb (byte (frame_at fr k) 0) 4) (cond (eqb (byte (frame_at fr k) 1) 5) 2 1) 0

  at_most_two : (b : Bool) → 1 ≤ cond b 2 1
  at_most_two true = omega arith
  at_most_two false = omega arith

  frames-asked : (pass : Pass) → Good fr → (m : ℕ) → m < row_count (starts_of fr)
      → length (row_frames pass (see fr) m) ≤ asked ((starts_of fr).rows + m)
  frames-asked pass good m h =
      let n : RowNumber = record { 0 = m } in
      let here = row-there fr m h in
      let e : eqb (byte (frame_at fr ((starts_of fr).rows + m)) 0) 4
      ≡ true = eq-eqb _ _ (row-frame fr good n here).family-is in
      go (verdict_rule (see fr) m) refl e
    where
      go : (v : Option (Rule Judgement)) → verdict_rule (see fr) m ≡ v
          → eqb (byte (frame_at fr ((starts_of fr).rows + m)) 0) 4 ≡ true
          → length (row_frames pass (see fr) m) ≤ asked ((starts_of fr).rows + m)
      go none q e = rw (q, e) (at_most_two (eqb (byte (frame_at fr ((starts_of fr).rows + m)) 1) 5))
      go (some r) q e =
          let n : RowNumber = record { 0 = m } in
          let here = row-there fr m h in
          let f : byte (frame_at fr ((starts_of fr).rows + m)) 1 ≡ 5 =
          row-compose (row_in fr (starts_of fr) n) r (frame_at fr ((starts_of fr).rows + m)) (row_is n here) q in
          rw (q, e, eq-eqb _ _ f) (omega arith)

  -- what the first m rows hand back is within what the frames up to them ask for
  pub outputs-asked : (pass : Pass) → Good fr → (m : ℕ) → m ≤ row_count (starts_of fr)
      → length (outputs pass (see fr) m) ≤ sum_below asked ((starts_of fr).rows + m)
  unfolding outputs sum_below
  outputs-asked pass good zero h = omega arith
  outputs-asked pass good (suc m) h =
      let e : (starts_of fr).rows + suc m ≡ suc ((starts_of fr).rows + m) = omega arith in
      rw e
      (omega (
        arith,
        length-append (outputs pass (see fr) m) (row_frames pass (see fr) m),
        outputs-asked pass good m (omega arith),
        frames-asked pass good m (omega arith),
      ))
