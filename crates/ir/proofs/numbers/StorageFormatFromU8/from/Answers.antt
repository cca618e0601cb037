-- In the last arm the number is past the table.
use Rattle.std.proofs.Common.{◌≤◌, length, arith, sym}
use Rattle.ir.specs.declared.StorageFormat.TheVariants.{R8Unorm}
use Rattle.ir.specs.Numbers.{storage_formats}
use Rattle.std.proofs.Math.ListN.{get_or-eq_default}
use Rattle.ir.proofs.numbers.StorageFormatFromU8.from.Goals as goal

pub returns-in_default : goal.returns-in_default
returns-in_default c =
    let h : length storage_formats ≤ c.args.n = omega arith in
    sym (get_or-eq_default storage_formats R8Unorm {n = c.args.n} h)
