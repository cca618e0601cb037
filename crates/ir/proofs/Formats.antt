-- All 41 formats together: the scalar of each is the one that its name stands for. By computing.
use mathlib.Core.Path.{◌≡◌, refl}
use mathlib.Core.List.{List, map}
use mathlib.Core.Option.{Option, some}
use Prim.Native.String.{String}
use Rattle.ir.specs.declared.Scalar.{Scalar}
use Rattle.ir.specs.declared.StorageFormat.{StorageFormat}
use Rattle.ir.specs.Numbers.{storage_formats}
use Rattle.ir.specs.Formats.{storage_scalar, format_names, scalar_named}

pub formats-named : map scalar_named format_names ≡ map (λ (f : StorageFormat). some (storage_scalar f)) storage_formats
formats-named = refl
