-- `member_type`: the member of the index, or none is left.
use mathlib.Core.Path.{sym, ap, ◌∙◌}
use Rattle.ir.specs.declared.StructMember.{StructMember}
use Rattle.verdict_compose.proofs.OneComponent.{member-within, member-past}
use Rattle.verdict_compose.proofs.counted.member_type.Goals as goal

pub returns-then-i-count : goal.returns-then-i-count
returns-then-i-count c =
    let g = c.args in
    ap (λ (m : StructMember). m.ty) c.member_at-m.ensures
    ∙ sym (member-within g.frames.now g.s g.first g.count g.i c.if-i-count.true)

pub returns-else-i-count : goal.returns-else-i-count
returns-else-i-count c =
    let g = c.args in
    sym (member-past g.frames.now g.s g.first g.count g.i c.if-i-count.false)
