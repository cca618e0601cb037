-- A turn writes one line more, where those before it end.
use Rattle.std.proofs.Common.{◌≡◌, ◌≤◌, ◌+◌, ap, ◌∙◌, length, take, arith}
use Rattle.frames.specs.declared.Frame.{Frame}
use Rattle.frames.specs.Bytes.{frame_at}
use Rattle.explain_words.proofs.Writing.{put-fits}
use Rattle.rule_explain.specs.Sizes.{size_line_of}
use Rattle.explain_lines.proofs.Long.{size-line-long}
use Rattle.rule_explain.specs.Sized.{size_line_at}
use Rattle.explain_file.proofs.Fitting.{joined-long, before, turn, made, made-long, made_at}
use Rattle.explain_file.proofs.size_lines.Goals as goal

pub loop-k-init : goal.loop-k-init
loop-k-init c = before (size_line_at c.args.frames.now c.args.sizes.now) c.args.out.now

pub loop-k-preserved : goal.loop-k-preserved
loop-k-preserved c =
    let s = c.requires in
    let g = c.args in
    let fr = g.frames.now in
    let z = g.sizes.now in
    let l = c.loop-k in
    let h = c.loop-k-test.true in
    let f = c.frame_at-f in
    let p = c.put_size-m in
    let q = c.copy in
    let v = size_line_of fr (record { 0 = l.k }) f.result in
    let wide : length l.line ≡ 1296 = omega (arith, c.requires.0) in
    let w = made_at l.line p.new.line v p.result wide p.ensures.0 p.ensures.2 in
    let m = made-long l.line p.new.line v p.result w.1 w.0 p.ensures.1 wide in
    let y = take p.result p.new.line in
    let e : v ≡ size_line_at fr z l.k = ap (λ (x : Frame). size_line_of fr (record { 0 = l.k }) x) f.ensures in
    let x : y ≡ size_line_at fr z l.k = made l.line p.new.line v p.result w.1 w.0 ∙ e in
    let room : l.at + p.result ≤ length l.out =
    omega (
      arith,
      w.0,
      size-line-long fr (record { 0 = l.k }) f.result,
      l.invariant.0,
      joined-long (size_line_at fr z) 176 l.k (λ k. size-line-long fr (record { 0 = k }) (frame_at z k)),
      h,
      c.frame_count-k-end.ensures,
      s.1,
      s.2,
    ) in
    let fits : l.at + length y ≤ length l.out = omega (arith, room, m.1) in
    let o = q.ensures ∙ put-fits l.out y l.at fits in
    turn (size_line_at fr z) l.k g.out.now l.out q.new.out y l.at p.result l.invariant x
    (w.0 ∙ ap length e) (omega (arith, room)) o
