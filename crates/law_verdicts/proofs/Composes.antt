-- A row of a file that has a verdict is a compose: the rule of its verdict is that of the type and the components that
-- it shows. By the cases of a row (law_answers/proofs/Room.antt).
use Rattle.std.specs.Prelude.{Option as CodeOption, Some, None}
use Rattle.ir.specs.declared.Expression.{Expression}
use Prim.Native.Nat.{ℕ, ◌+◌}
use mathlib.Core.Path.{◌≡◌, refl, ap, ◌∙◌}
use mathlib.Core.List.{List}
use mathlib.Core.Option.{Option, none, some}
use Rattle.ir.specs.declared.TypeNumber.{TypeNumber}
use Rattle.ir.specs.declared.RowNumber.{RowNumber}
use Rattle.frames.specs.Bytes.{frame_at}
use Rattle.frames.specs.Forms.{component_of}
use Rattle.archive.specs.Starts.{starts_of}
use Rattle.archive.specs.Access.{row_in}
use Rattle.rule.specs.Answers.{Judgement, Result}
use Rattle.rule.specs.Things.{compose, kind, listed, shown, see, see_row}
use Rattle.rule.specs.Rule.{Rule}
use Rattle.rule.specs.InOrder.{ours}
use Rattle.rule_types.proofs.Seen.{never}
use Rattle.rule_rows.specs.declared.Pass.{Pass}
use Rattle.rule_rows.specs.Typed.{typing}
use Rattle.rule_compose.specs.Verdict.{verdict}
use Rattle.rule_compose.specs.Rows.{of_shown, verdict_rule, judged, verdict_of}
use Rattle.law_answers.proofs.Room.{shown-compose}

-- row n of a file shows a compose of a type from these rows
pub record Composes (fr : List ℕ) (n : ℕ) : Type 0 where
  pub ty : TypeNumber
  pub parts : List RowNumber
  pub shows : see fr (kind (record { 0 = n })) ≡ some (compose ty parts)

-- what row n shows says what the rule is
pub rule-is : (fr : List ℕ) (n : ℕ) (rule : Rule Judgement) → verdict_rule (see fr) n ≡ some rule → (c : Composes fr n)
    → rule ≡ verdict c.ty c.parts
rule-is fr n rule h c = let q : of_shown (see fr (kind (record { 0 = n })))
    ≡ some (verdict c.ty c.parts) = ap of_shown c.shows in cc

-- a row that has a verdict's rule is a compose
pub composes : (fr : List ℕ) (n : ℕ) (rule : Rule Judgement) → verdict_rule (see fr) n ≡ some rule → Composes fr n
composes fr n rule h = go (row_in fr (starts_of fr) (record { 0 = n })) refl h
  where
    go : (f : CodeOption Expression) → row_in fr (starts_of fr) (record { 0 = n }) ≡ f
        → of_shown (see_row fr (starts_of fr) f) ≡ some rule
        → Composes fr n
    go None q e = never (cc)
    go (Some x) q e =
        let c = shown-compose fr (starts_of fr) x rule e in
        record {
          ty = c.ty;
          parts = listed (λ (i : ℕ). component_of (frame_at fr ((starts_of fr).components + c.first.0 + i))) c.count;
          shows = ap (see_row fr (starts_of fr)) q ∙ ap (shown fr (starts_of fr)) c.is;
        }

-- a row that has a verdict has its rule, and the verdict is ours by it
pub record HasRule (pass : Pass) (fr : List ℕ) (n : ℕ) (v : Result Judgement) : Type 0 where
  pub rule : Rule Judgement
  pub has : verdict_rule (see fr) n ≡ some rule
  pub ours-is : ours (see fr) (typing pass) n rule ≡ v

pub has-rule : (pass : Pass) (fr : List ℕ) (n : ℕ) (v : Result Judgement) → verdict_of pass (see fr) n ≡ some v
    → HasRule pass fr n v
has-rule pass fr n v h = go (verdict_rule (see fr) n) refl h
  where
    go : (o : Option (Rule Judgement)) → verdict_rule (see fr) n ≡ o → judged pass (see fr) n o ≡ some v
        → HasRule pass fr n v
    go none q e = never (cc)
    go (some rule) q e = record { rule = rule; has = q; ours-is = cc }
