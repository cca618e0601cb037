-- A turn writes one digit; the last is the number's first.
use Rattle.std.proofs.Common.{sym, ap, ◌∙◌, ◌-◌, ◌/◌, ℕ, ◌++◌, drop, arith, length-set}
use lib.ListN.{set}
use Rattle.rule_explain.specs.Lines.{digits}
use Rattle.explain_words.proofs.Writing.{ends, goes, full}
use Rattle.explain_words.proofs.numeral.Goals as goal

pub returns-then-rest-lt10 : goal.returns-then-rest-lt10
returns-then-rest-lt10 c =
    let l = c.loop-i in (
      ap (λ (v : ℕ). drop (l.i - 1) (set l.buf (l.i - 1) v)) c.digit.ensures
          ∙ ends l.i l.rest l.buf _ (omega arith) (omega arith) (omega arith) l.invariant.0,
      omega arith,
      simp length-set l.invariant.1,
    )

pub loop-i-preserved : goal.loop-i-preserved
loop-i-preserved c =
    let l = c.loop-i in (
      goes l.i l.rest l.buf _ (omega arith) (omega arith) (omega arith) l.invariant.0
          ∙ ap (λ (v : ℕ). digits (l.i - 1) (l.rest / 10) ++ drop (l.i - 1) (set l.buf (l.i - 1) v))
          (sym c.digit.ensures),
      simp length-set l.invariant.1,
    )

pub returns : goal.returns
returns c =
    let l = c.loop-i in
    (full l.i l.rest l.buf _ (omega arith) l.invariant.0, omega arith, l.invariant.1)
