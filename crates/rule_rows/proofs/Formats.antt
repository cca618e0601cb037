-- All 41 storage formats together (document 02, request 1): the scalar that a format's name stands for is the table's,
-- and a load, or a sample without gather, of an image of that format gives four of it. From `formats-named` (ir), read
-- at the format's number, and `storage-typed`.
use Prim.Native.Nat.{ℕ}
use Prim.Native.String.{String}
use mathlib.Core.Path.{◌≡◌, refl, sym, ap, ◌∙◌}
use mathlib.Core.Bool.{Bool, true}
use mathlib.Core.List.{List}
use mathlib.Core.Option.{Option, some}
use lib.ListN.{get_or, get_or-map}
use Rattle.ir.specs.declared.RowNumber.{RowNumber}
use Rattle.ir.specs.declared.VectorSize.TheVariants as Vs
use Rattle.ir.specs.declared.Scalar.{Scalar}
use Rattle.ir.specs.declared.ImageDimension.{ImageDimension}
use Rattle.ir.specs.declared.ImageClass.TheVariants as Ic
use Rattle.ir.specs.declared.StorageFormat.{StorageFormat}
use Rattle.ir.specs.declared.StorageFormat.TheVariants.{R8Unorm}
use Rattle.ir.specs.declared.StorageAccess.{StorageAccess}
use Rattle.ir.specs.declared.TypeInner.TheVariants as Ti
use Rattle.ir.specs.Numbers.{storage_formats, storage_format_number}
use Rattle.ir.specs.Scalars.{F32}
use Rattle.ir.specs.Formats.{storage_scalar, format_names, scalar_named}
use Rattle.ir.proofs.Numbered.{storage_format-back}
use Rattle.ir.proofs.Formats.{formats-named}
use Rattle.rule.specs.Answers.{TypeAnswer, value, Typed, given, Place, Result, told}
use Rattle.rule.specs.Things.{Form, kind, form, see}
use Rattle.rule.specs.Things as Row
use Rattle.rule.specs.Rule.{Answers, run}
use Rattle.rule_rows.specs.declared.Pass.{Pass}
use Rattle.rule_rows.specs.Typed.{typed}
use Rattle.rule_rows.proofs.Storage.{OfStorage, storage-typed}

-- the name of a format: the one at its number
abbrev pub format_name : StorageFormat → String
format_name f = get_or format_names (storage_format_number f) "R8Unorm"

-- a format, and the scalar that its name stands for: the table has it, and every row that loads an image of the format,
-- or samples it without gather, has the vector of four of it by value
pub record TypedByName (f : StorageFormat) : Type 0 where
  pub scalar : Scalar
  pub named : scalar_named (format_name f) ≡ some scalar
  pub table : storage_scalar f ≡ scalar
  pub gives : (fr : List ℕ) (pass : Pass) (earlier : Answers) (new : Place → Result Typed) (here image : RowNumber)
      → OfStorage fr pass earlier new here image f
      → run (see fr) earlier new (typed pass here) ≡ told (given (value (Ti.Vector Vs.Quad scalar)))

format-named : (f : StorageFormat) → scalar_named (format_name f) ≡ some (storage_scalar f)
format-named f =
    let k = storage_format_number f in
    sym (get_or-map scalar_named format_names k "R8Unorm")
    ∙ ap (λ (l : List (Option Scalar)). get_or l k (some F32)) formats-named
    ∙ get_or-map (λ (g : StorageFormat). some (storage_scalar g)) storage_formats k R8Unorm
    ∙ ap (λ (g : StorageFormat). some (storage_scalar g)) (storage_format-back f)

pub every-format : (f : StorageFormat) → TypedByName f
every-format f = record {
  scalar = storage_scalar f;
  named = format-named f;
  table = refl;
  gives = λ fr pass earlier new here image o. storage-typed fr pass earlier new here image f o;
}

-- GATHER is excepted: four of F32 whatever the format, as by document 01's first rules
module _ (fr : List ℕ) (pass : Pass) (earlier : Answers) (new : Place → Result Typed) (here image : RowNumber)
    (f : StorageFormat) where
  pub storage-gathered : see fr (kind here) ≡ some (Row.image_sample image true) → (type : TypeAnswer)
      → earlier image ≡ told (given type)
      → (looked : Form) → see fr (form type) ≡ some looked → (dim : ImageDimension) (arrayed : Bool)
      (access : StorageAccess)
      → looked.inner ≡ Ti.Image dim arrayed (Ic.Storage f access)
      → run (see fr) earlier new (typed pass here) ≡ told (given (value (Ti.Vector Vs.Quad F32)))
  storage-gathered own type answer looked into dim arrayed access is = rw (own, answer, into, is, run)
