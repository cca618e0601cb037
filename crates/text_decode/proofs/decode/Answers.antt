-- A turn puts one frame more after those before it.
use Rattle.std.proofs.Common.{◌≡◌, ◌+◌, ◌*◌, ap, ◌∙◌, arith}
use Rattle.scan.proofs.Laws.{none-all}
use Rattle.scan.proofs.Fill.{build-zero}
use Rattle.frames.specs.Bytes.{put_frame}
use Rattle.text.specs.Lines.{line_ok, frame_byte}
use Rattle.text.proofs.Line.{line-in}
use Rattle.text_decode.proofs.Put.{line_frame, line-put}
use Rattle.text_decode.proofs.decode.Goals as goal

pub loop-k-init : goal.loop-k-init
loop-k-init c = build-zero _ _

pub decode_line-requires : goal.decode_line-requires
decode_line-requires c =
    let whole = none-all (line_ok c.args.text.now) _ _ c.requires.0 c.loop-k-test.true in (
      whole,
      line-in _ _ whole,
      omega arith,
    )

pub loop-k-preserved : goal.loop-k-preserved
loop-k-preserved c =
    let i = c.loop-k in
    let t = c.args.text.now in
    let a : 16 * (i.k + 1) ≡ 16 * i.k + 16 = omega arith in
    let f = c.frame_at.ensures ∙ line_frame (frame_byte t i.k) _ c.decode_line.ensures in
    rw a (c.put_frame.ensures ∙ ap (put_frame i.frames i.k) f
    ∙ line-put t c.args.frames.now i.frames i.k i.invariant (omega arith))
