-- `member_pointer`: below the count the pointer to the member of that place, and past them none.
use Prim.Native.Nat.{ℕ}
use mathlib.Core.Path.{sym, ap, ◌∙◌}
use mathlib.Core.Option.{Option}
use Rattle.ir.specs.declared.TypeNumber.{TypeNumber}
use Rattle.archive.specs.Access.{member_in}
use Rattle.rule.specs.Answers.{told}
use Rattle.rule_rows.specs.Access.{member_pointer}
use Rattle.rule_rows.proofs.Members.{listed-within, listed-past}
use Rattle.row_access.proofs.access_index.member_pointer.Goals as goal

pub returns-then-index-count : goal.returns-then-index-count
returns-then-index-count c =
    let g = c.args in
    rw (c.pointer_type.ensures, c.member_at-m.ensures)
    (sym
    (ap (λ (o : Option TypeNumber). told (member_pointer g.base g.index g.space o))
    (listed-within (λ (i : ℕ). (member_in g.frames.now g.s g.first i).ty) g.count g.index
    c.if-index-count.true)))

pub returns-else-index-count : goal.returns-else-index-count
returns-else-index-count c =
    let g = c.args in
    c.out_of_bounds.ensures
    ∙ sym
    (ap (λ (o : Option TypeNumber). told (member_pointer g.base g.index g.space o))
    (listed-past (λ (i : ℕ). (member_in g.frames.now g.s g.first i).ty) g.count g.index
    c.if-index-count.false))
