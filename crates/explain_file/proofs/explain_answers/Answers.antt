-- A turn writes one line more, where those before it end.
use Rattle.std.proofs.Common.{◌≡◌, ◌≤◌, ◌+◌, refl, ap, ◌∙◌, length, take, arith}
use Rattle.frames.specs.Bytes.{frame_at}
use Rattle.explain_words.proofs.Writing.{put-fits}
use Rattle.rule_explain.specs.Answers.{line_of}
use Rattle.explain_lines.proofs.Long.{line-long}
use Rattle.rule_explain.specs.Explained.{row_at, line_at}
use Rattle.explain_file.proofs.Fitting.{joined-long, before, turn, made, made-long, made_at, at_place, row_on}
use Rattle.explain_file.proofs.Fitting.{row_small}
use Rattle.explain_file.proofs.explain_answers.Goals as goal

pub loop-k-init : goal.loop-k-init
unfolding row_at
loop-k-init c = record {
  counted = refl;
  small = omega arith;
  written = before (line_at c.args.frames.now c.args.answers.now) c.args.out.now;
}

pub loop-k-preserved : goal.loop-k-preserved
loop-k-preserved c =
    let s = c.requires in
    let g = c.args in
    let fr = g.frames.now in
    let an = g.answers.now in
    let l = c.loop-k in
    let h = c.loop-k-test.true in
    let f = c.frame_at-f in
    let p = c.put_line-m in
    let q = c.copy in
    let r = c.next_row-row in
    let wide : length l.line ≡ 1296 = omega (arith, c.requires.0) in
    let w = made_at l.line p.new.line (line_of fr l.row f.result) p.result wide p.ensures.0 p.ensures.2 in
    let m =
    made-long l.line p.new.line (line_of fr l.row f.result) p.result w.1 w.0 p.ensures.1 wide in
    let y = take p.result p.new.line in
    let e = at_place fr an l.k l.row f.result l.invariant.counted f.ensures in
    let x : y ≡ line_at fr an l.k =
    made l.line p.new.line (line_of fr l.row f.result) p.result w.1 w.0 ∙ e in
    let room : l.at + p.result ≤ length l.out =
    omega (
      arith,
      w.0,
      line-long fr l.row f.result,
      l.invariant.written.0,
      joined-long (line_at fr an) 142 l.k (λ k. line-long fr (row_at an k) (frame_at an k)),
      h,
      c.frame_count-k-end.ensures,
      s.1,
      s.2,
    ) in
    let fits : l.at + length y ≤ length l.out = omega (arith, room, m.1) in
    let o = q.ensures ∙ put-fits l.out y l.at fits in
    record {
      counted = row_on an l.k l.row r.result f.result l.invariant.counted f.ensures r.ensures;
      small = row_small l.k l.row r.result f.result r.ensures l.invariant.small;
      written = turn (line_at fr an) l.k g.out.now l.out q.new.out y l.at p.result l.invariant.written x
          (w.0 ∙ ap length e) (omega (arith, room)) o;
    }
