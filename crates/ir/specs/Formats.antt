-- The scalar of a storage format's texels (document 02, request 1): the source's Scalar::from(StorageFormat),
-- proc/mod.rs, lines 34 to 86, and beside it document 02's words, by the format's name. That the two agree is
-- `formats-named` (proofs/Formats.antt).
use Prim.Native.Char.{code}
use Prim.Native.String.{String}
use Prim.Native.String as S
use Rattle.std.specs.Prelude.{Bool, true, false, cond, ◌&&◌, ◌||◌, List, [], ◌∷◌, eqb}
use Rattle.std.proofs.Math.Option.{Option, none, some}
use Rattle.ir.specs.declared.Scalar.{Scalar}
use Rattle.ir.specs.declared.ScalarKind.{ScalarKind}
use Rattle.ir.specs.declared.ScalarKind.TheVariants as Sk
use Rattle.ir.specs.declared.Width.{Width}
use Rattle.ir.specs.declared.Width.TheVariants as Wd
use Rattle.ir.specs.declared.StorageFormat.{StorageFormat}
use Rattle.ir.specs.declared.StorageFormat.TheVariants as Sf
use Rattle.ir.specs.Scalars.{I32, U32, F32, U64}

-- the scalar of each format, in the declared order (ir/mod.rs, StorageFormat)
abbrev pub storage_scalar : StorageFormat → Scalar
storage_scalar Sf.R8Unorm = F32
storage_scalar Sf.R8Snorm = F32
storage_scalar Sf.R8Uint = U32
storage_scalar Sf.R8Sint = I32
storage_scalar Sf.R16Uint = U32
storage_scalar Sf.R16Sint = I32
storage_scalar Sf.R16Float = F32
storage_scalar Sf.Rg8Unorm = F32
storage_scalar Sf.Rg8Snorm = F32
storage_scalar Sf.Rg8Uint = U32
storage_scalar Sf.Rg8Sint = I32
storage_scalar Sf.R32Uint = U32
storage_scalar Sf.R32Sint = I32
storage_scalar Sf.R32Float = F32
storage_scalar Sf.Rg16Uint = U32
storage_scalar Sf.Rg16Sint = I32
storage_scalar Sf.Rg16Float = F32
storage_scalar Sf.Rgba8Unorm = F32
storage_scalar Sf.Rgba8Snorm = F32
storage_scalar Sf.Rgba8Uint = U32
storage_scalar Sf.Rgba8Sint = I32
storage_scalar Sf.Bgra8Unorm = F32
storage_scalar Sf.Rgb10a2Uint = U32
storage_scalar Sf.Rgb10a2Unorm = F32
storage_scalar Sf.Rg11b10Ufloat = F32
storage_scalar Sf.R64Uint = U64
storage_scalar Sf.Rg32Uint = U32
storage_scalar Sf.Rg32Sint = I32
storage_scalar Sf.Rg32Float = F32
storage_scalar Sf.Rgba16Uint = U32
storage_scalar Sf.Rgba16Sint = I32
storage_scalar Sf.Rgba16Float = F32
storage_scalar Sf.Rgba32Uint = U32
storage_scalar Sf.Rgba32Sint = I32
storage_scalar Sf.Rgba32Float = F32
storage_scalar Sf.R16Unorm = F32
storage_scalar Sf.R16Snorm = F32
storage_scalar Sf.Rg16Unorm = F32
storage_scalar Sf.Rg16Snorm = F32
storage_scalar Sf.Rgba16Unorm = F32
storage_scalar Sf.Rgba16Snorm = F32

-- BY THE NAME: "the kind that the format's name ends in, with Unorm, Snorm and Ufloat read as Float, width 4, and 8 for
-- R64Uint"

-- the names of the formats, in the declared order
abbrev pub format_names : List String
format_names =
    "R8Unorm" ∷ "R8Snorm" ∷ "R8Uint" ∷ "R8Sint" ∷ "R16Uint" ∷ "R16Sint"
    ∷ "R16Float" ∷ "Rg8Unorm" ∷ "Rg8Snorm" ∷ "Rg8Uint" ∷ "Rg8Sint" ∷ "R32Uint"
    ∷ "R32Sint" ∷ "R32Float" ∷ "Rg16Uint" ∷ "Rg16Sint" ∷ "Rg16Float" ∷ "Rgba8Unorm"
    ∷ "Rgba8Snorm" ∷ "Rgba8Uint" ∷ "Rgba8Sint" ∷ "Bgra8Unorm" ∷ "Rgb10a2Uint" ∷ "Rgb10a2Unorm"
    ∷ "Rg11b10Ufloat" ∷ "R64Uint" ∷ "Rg32Uint" ∷ "Rg32Sint" ∷ "Rg32Float" ∷ "Rgba16Uint"
    ∷ "Rgba16Sint" ∷ "Rgba16Float" ∷ "Rgba32Uint" ∷ "Rgba32Sint" ∷ "Rgba32Float" ∷ "R16Unorm"
    ∷ "R16Snorm" ∷ "Rg16Unorm" ∷ "Rg16Snorm" ∷ "Rgba16Unorm" ∷ "Rgba16Snorm" ∷ []

-- two words are the same, letter by letter
abbrev pub same_word : String → String → Bool
same_word S.[] S.[] = true
same_word S.[] (S.◌∷◌ d t) = false
same_word (S.◌∷◌ c s) S.[] = false
same_word (S.◌∷◌ c s) (S.◌∷◌ d t) = eqb (code c) (code d) && same_word s t

-- a word ends in this one
abbrev pub ends_in : String → String → Bool
ends_in e S.[] = same_word e S.[]
ends_in e (S.◌∷◌ c s) = same_word e (S.◌∷◌ c s) || ends_in e s

-- the kind that a name ends in, with Unorm, Snorm and Ufloat read as Float; none for a name that ends in none of these
abbrev pub kind_named : String → Option ScalarKind
kind_named n =
    cond (ends_in "Uint" n) (some Sk.Uint)
    (cond (ends_in "Sint" n) (some Sk.Sint)
    (cond (ends_in "Float" n || (ends_in "Unorm" n || (ends_in "Snorm" n || ends_in "Ufloat" n))) (some Sk.Float) none))

-- width 4, and 8 for R64Uint alone
abbrev pub width_named : String → Width
width_named n = cond (same_word n "R64Uint") Wd.Eight Wd.Four

-- the scalar of that kind, by the name's width; none where the name has no kind
abbrev pub of_kind : String → Option ScalarKind → Option Scalar
of_kind n (some k) = some (record { kind = k; width = width_named n })
of_kind n none = none

-- the scalar that a name stands for
abbrev pub scalar_named : String → Option Scalar
scalar_named n = of_kind n (kind_named n)
