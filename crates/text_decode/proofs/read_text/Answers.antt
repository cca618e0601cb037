-- A line's number fits, since a text within the limit has at most 1,024 lines; the frames fit where the room does.
use Rattle.std.proofs.Common.{sym, ◌∙◌, arith}
use Rattle.scan.proofs.Laws.{found_at}
use Rattle.text.specs.Lines.{line_ok, line_count}
use Rattle.text.proofs.Laws.{frames-fit}
use Rattle.text_decode.proofs.read_text.Goals as goal

pub overflow_cast-result-in-Some : goal.overflow_cast-result-in-Some
overflow_cast-result-in-Some c =
    let t = c.args.text.now in
    omega (
      arith,
      c.most-m.ensures.1,
      (found_at (line_ok t) (line_count t) _ (sym c.first_torn-torn.ensures ∙ c.in-Some.is)).inside,
    )

pub decode-requires : goal.decode-requires
decode-requires c = (
  rw c.line_count-n.ensures (sym c.first_torn-torn.ensures ∙ c.in-None.is),
  omega (
    arith,
    c.line_count-n.ensures,
    frames-fit c.args.text.now _ c.args.room (sym c.too_short.ensures ∙ c.if-too_short.false),
  ),
)
