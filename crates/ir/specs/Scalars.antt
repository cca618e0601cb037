-- The scalar's own constants (document 01, "Constants such as U32, BOOL and F32 belong to the scalar itself";
-- type_methods.rs), and when two scalars are equal.
use Rattle.std.specs.Prelude.{Bool, ◌&&◌, eqb}
use Rattle.ir.specs.declared.Scalar.{Scalar}
use Rattle.ir.specs.declared.ScalarKind.TheVariants as Sk
use Rattle.ir.specs.declared.Width.TheVariants as Wd
use Rattle.ir.specs.Numbers.{scalar_kind_number, width_number}

abbrev pub I16 : Scalar
I16 = record { kind = Sk.Sint; width = Wd.Two }

abbrev pub U16 : Scalar
U16 = record { kind = Sk.Uint; width = Wd.Two }

abbrev pub I32 : Scalar
I32 = record { kind = Sk.Sint; width = Wd.Four }

abbrev pub U32 : Scalar
U32 = record { kind = Sk.Uint; width = Wd.Four }

abbrev pub F16 : Scalar
F16 = record { kind = Sk.Float; width = Wd.Two }

abbrev pub F32 : Scalar
F32 = record { kind = Sk.Float; width = Wd.Four }

abbrev pub F64 : Scalar
F64 = record { kind = Sk.Float; width = Wd.Eight }

abbrev pub I64 : Scalar
I64 = record { kind = Sk.Sint; width = Wd.Eight }

abbrev pub U64 : Scalar
U64 = record { kind = Sk.Uint; width = Wd.Eight }

abbrev pub BOOL : Scalar
BOOL = record { kind = Sk.Bool; width = Wd.One }

abbrev pub ABSTRACT-INT : Scalar
ABSTRACT-INT = record { kind = Sk.AbstractInt; width = Wd.Eight }

abbrev pub ABSTRACT-FLOAT : Scalar
ABSTRACT-FLOAT = record { kind = Sk.AbstractFloat; width = Wd.Eight }

-- the same kind and the same width
abbrev pub equal_scalars : Scalar → Scalar → Bool
equal_scalars k j = eqb (scalar_kind_number k.kind) (scalar_kind_number j.kind)
    && eqb (width_number k.width) (width_number j.width)
