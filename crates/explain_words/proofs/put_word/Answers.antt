-- By where each word begins in the run of all.
use Rattle.std.proofs.Common.{◌≡◌, ap, ◌∙◌, ◌-◌, ◌<◌, ℕ, [], take, drop, arith}
use Rattle.rule_explain.specs.Words.{word_table, word_bytes}
use Rattle.explain_words.specs.ForProofs.{written}
use Rattle.explain_words.proofs.Places.{run, start, next, next-is, word-is, short, within, no_word}
use Rattle.explain_words.proofs.Writing.{written_none}
use Rattle.explain_words.proofs.put_word.Goals as goal

pub copy_part-requires : goal.copy_part-requires
copy_part-requires c =
    let w = c.args.w in
    let a : c.wide-a.result ≡ start w = c.wide-a.ensures in
    let e : c.wide-e.result ≡ next w = c.wide-e.ensures in
    let h : w < 163 = c.if-w-lt163.true in
    (omega (arith, next-is w h), omega (arith, within w h), omega (arith, next-is w h, short w h))

pub overflow_sub-result : goal.overflow_sub-result
overflow_sub-result c =
    let w = c.args.w in
    let a : c.wide-a.result ≡ start w = c.wide-a.ensures in
    let e : c.wide-e.result ≡ next w = c.wide-e.ensures in
    let h : w < 163 = c.if-w-lt163.true in
    omega (arith, next-is w h)

pub returns-then-w-lt163 : goal.returns-then-w-lt163
unfolding word_table
returns-then-w-lt163 c =
    let w = c.args.w in
    let a : c.wide-a.result ≡ start w = c.wide-a.ensures in
    let e : c.wide-e.result ≡ next w = c.wide-e.ensures in
    let h : w < 163 = c.if-w-lt163.true in
    let g = c.args in (
      omega (arith, next-is w h),
      omega (arith, next-is w h, short w h),
      c.copy_part.ensures
          ∙ ap (written g.out.now g.at)
          (ap (λ (k : ℕ). take (c.wide-e.result - k) (drop k (run word_table))) a
          ∙ ap (λ (k : ℕ). take (k - start w) (drop (start w) (run word_table))) e ∙ word-is w h),
    )

pub returns-else-w-lt163 : goal.returns-else-w-lt163
returns-else-w-lt163 c =
    let g = c.args in
    let e : word_bytes g.w ≡ [] = no_word g.w c.if-w-lt163.false in
    rw e (omega arith, omega arith, written_none g.out.now g.at)
