-- In the last arm the number is past the table.
use Rattle.std.proofs.Common.{◌≤◌, length, arith, sym}
use Rattle.ir.specs.declared.RowKind.TheVariants.{Unknown}
use Rattle.ir.specs.Numbers.{row_kinds}
use Rattle.std.proofs.Math.ListN.{get_or-eq_default}
use Rattle.ir.proofs.numbers.RowKindFromU8.from.Goals as goal

pub returns-in_default : goal.returns-in_default
returns-in_default c =
    let h : length row_kinds ≤ c.args.n = omega arith in sym (get_or-eq_default row_kinds Unknown {n = c.args.n} h)
