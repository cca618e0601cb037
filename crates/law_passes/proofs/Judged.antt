-- `binary-judged`: in an accepted file a Binary row of two typed and known operands has in the second pass what
-- WGSL's tables give. By running the rule over what it reads and sees, and `wgsl-is`.
use Prim.Native.Nat.{ℕ, ◌<◌}
use native.Mathlib.Omega.{arith}
use mathlib.Core.Path.{◌≡◌, refl, sym, ap, ◌∙◌}
use mathlib.Core.List.{List}
use mathlib.Core.Option.{Option, none, some}
use mathlib.Core.Logic.{◌↔◌}
use Rattle.ir.specs.declared.RowNumber.{RowNumber}
use Rattle.ir.specs.declared.TypeInner.{TypeInner}
use Rattle.answers.specs.declared.Refusal.TheVariants.{Mismatch}
use Rattle.frames.specs.Bytes.{frame_at}
use Rattle.frames.specs.Forms.{row_of}
use Rattle.archive.specs.Starts.{starts_of, row_count}
use Rattle.archive.specs.Access.{row_in}
use Rattle.rule.specs.Answers.{value, Typed, given, refused, Result, told, newer}
use Rattle.rule.specs.Things.{Shown, kind, see}
use Rattle.rule.specs.Things as Row
use Rattle.rule.specs.Rule.{run}
use Rattle.rule.specs.InOrder.{absent, among, answers}
use Rattle.rule.proofs.InOrder.{in-order-at}
use Rattle.rule_types.proofs.Seen.{never}
use Rattle.rule_rows.specs.declared.Pass.TheVariants as Pa
use Rattle.rule_rows.specs.WgslTables.{Wgsl}
use Rattle.rule_rows.specs.Wgsl.{wgsl_result}
use Rattle.rule_rows.specs.Operators.{or_mismatch}
use Rattle.rule_rows.specs.Typed.{typing}
use Rattle.rule_rows.proofs.Wgsl.{wgsl-is}
use Rattle.rule_answers.specs.Outputs.{row_answer}
use Rattle.law_rows.proofs.Good.{Good}
use Rattle.law_rows.proofs.There.{ShownInRange}
use Rattle.law_rows.proofs.Seen.{row_seen}
use Rattle.law_rows.proofs.Range.{row-there}
use Rattle.law_passes.specs.Passes.{IsBinary, operator_at, left_at, right_at, Known, Judged}

-- which results give which answers
of-value : (o : Option TypeInner) (t : TypeInner) → told (or_mismatch o) ≡ told (given (value t)) → o ≡ some t
of-value none t e = never (cc)
of-value (some u) t e = cc

of-mismatch : (o : Option TypeInner) → told (or_mismatch o) ≡ told (refused Mismatch) → o ≡ none
of-mismatch none e = refl
of-mismatch (some u) e = never (cc)

module _ (fr : List ℕ) (good : Good fr) (n : ℕ) (here : n < row_count (starts_of fr)) (is : IsBinary fr n) where
  -- the row by its bytes
  pub binary-shown : see fr (kind (record { 0 = n }))
      ≡ some (Row.binary (operator_at fr n) (record { 0 = left_at fr n }) (record { 0 = right_at fr n }))
  unfolding row_in row_of
  binary-shown = rw (row-there fr n here, is)

  pub earlier : ShownInRange (starts_of fr) (record { 0 = n })
      (Row.binary (operator_at fr n) (record { 0 = left_at fr n }) (record { 0 = right_at fr n }))
  earlier = rw binary-shown at (row_seen fr good (record { 0 = n }) (row-there fr n here))

  -- an earlier row's answer
  pub among-rows : (m : ℕ) → m < n → among (answers (see fr) (typing Pa.Second) (λ k. newer) n) (record { 0 = m })
      ≡ row_answer Pa.Second (see fr) m
  among-rows m l = in-order-at _ (told absent) n m l

  module _ (left : Known fr (left_at fr n)) (right : Known fr (right_at fr n)) where
    abbrev result : Option TypeInner
    result = wgsl_result (operator_at fr n) left.shows.inner right.shows.inner

    answer-is : row_answer Pa.Second (see fr) n ≡ told (or_mismatch result)
    answer-is =
        rw (
          binary-shown,
          among-rows (left_at fr n) earlier.0,
          left.typed,
          among-rows (right_at fr n) earlier.1,
          right.typed,
          left.known,
          right.known,
          run,
        )

    pub binary-judged : Judged fr n left right
    binary-judged = record {
      gives = λ t. (
        λ e. (wgsl-is _ _ _ t).0 (of-value result t (sym answer-is ∙ e)),
        λ line. answer-is ∙ ap (λ (o : Option TypeInner). told (or_mismatch o)) ((wgsl-is _ _ _ t).1 line),
      );
      mismatch = (
        λ e t line. never (let o : result ≡ none = of-mismatch result (sym answer-is ∙ e) in
            cc ((wgsl-is _ _ _ t).1 line)),
        λ none-gives. answer-is ∙ go result refl none-gives,
      );
    }
      where
        go : (o : Option TypeInner) → result ≡ o
            → ((t : TypeInner) → Wgsl (operator_at fr n) left.shows.inner right.shows.inner t → ⊥)
            → told (or_mismatch result) ≡ told (refused Mismatch)
        go none q h = rw q
        go (some t) q h = absurd (h t ((wgsl-is _ _ _ t).0 q))
