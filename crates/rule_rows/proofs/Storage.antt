-- A storage image that is sampled without gather, or loaded (document 02, request 1): four components of its format's
-- scalar, by value. By document 01's first rules the same row is newer, and the place is the row itself; their answers,
-- carried over, are ours. For every file, each pass, all earlier answers and whatever is given where a newer thing is
-- come to. By running the rule over what it reads and sees.
use Prim.Native.Nat.{ℕ}
use mathlib.Core.Path.{◌≡◌, refl}
use mathlib.Core.Bool.{Bool, false}
use mathlib.Core.List.{List}
use mathlib.Core.Option.{some}
use Rattle.ir.specs.declared.RowNumber.{RowNumber}
use Rattle.ir.specs.declared.VectorSize.TheVariants as Vs
use Rattle.ir.specs.declared.ImageDimension.{ImageDimension}
use Rattle.ir.specs.declared.ImageClass.TheVariants as Ic
use Rattle.ir.specs.declared.StorageFormat.{StorageFormat}
use Rattle.ir.specs.declared.StorageAccess.{StorageAccess}
use Rattle.ir.specs.declared.TypeInner.TheVariants as Ti
use Rattle.ir.specs.Formats.{storage_scalar}
use Rattle.rule.specs.Answers.{TypeAnswer, value, Typed, given, Place, row, Result, told, newer}
use Rattle.rule.specs.Things.{Shown, Form, kind, form, see, first_see}
use Rattle.rule.specs.Things as Row
use Rattle.rule.specs.Rule.{Answers, run}
use Rattle.rule.specs.InOrder.{answers, ours}
use Rattle.rule.proofs.Shows.{sees_more}
use Rattle.rule.proofs.Carried.{carried_rows, carried-fresh}
use Rattle.rule_rows.specs.declared.Pass.{Pass}
use Rattle.rule_rows.specs.Typed.{typed, typing}

-- a row that shows a sample of the row `image` without gather, or a load of it
pub data Samples (image : RowNumber) : Shown → Type 0 where
  samples : Samples image (Row.image_sample image false)
  loads : Samples image (Row.image_load image)

module _ (fr : List ℕ) (pass : Pass) (earlier : Answers) (new : Place → Result Typed) (here image : RowNumber)
    (f : StorageFormat) where
  -- in these frames, over these earlier answers, row `here` samples without gather, or loads, a storage image of format
  -- f
  pub record OfStorage : Type 0 where
    pub shown : Shown
    pub reads : Samples image shown
    pub own : see fr (kind here) ≡ some shown
    pub type : TypeAnswer
    pub answer : earlier image ≡ told (given type)
    pub looked : Form
    pub into : see fr (form type) ≡ some looked
    pub dim : ImageDimension
    pub arrayed : Bool
    pub access : StorageAccess
    pub is : looked.inner ≡ Ti.Image dim arrayed (Ic.Storage f access)

  pub storage-typed : OfStorage → run (see fr) earlier new (typed pass here)
      ≡ told (given (value (Ti.Vector Vs.Quad (storage_scalar f))))
  storage-typed o = go o.shown o.reads o.own
    where
      go : (x : Shown) → Samples image x → see fr (kind here) ≡ some x
          → run (see fr) earlier new (typed pass here) ≡ told (given (value (Ti.Vector Vs.Quad (storage_scalar f))))
      go _ samples q = rw (q, o.answer, o.into, o.is, run)
      go _ loads q = rw (q, o.answer, o.into, o.is, run)

  pub first-storage-newer : OfStorage → run (first_see fr) earlier new (typed pass here) ≡ new (row here)
  first-storage-newer o = go o.shown o.reads o.own
    where
      go : (x : Shown) → Samples image x → see fr (kind here) ≡ some x
          → run (first_see fr) earlier new (typed pass here)
          ≡ new (row here)
      go _ samples q = rw (q, o.answer, o.into, o.is, run)
      go _ loads q = rw (q, o.answer, o.into, o.is, run)

-- the answers of the first rules, those that are not newer kept and the others worked out in row order, are ours
pub first-carried : (fr : List ℕ) (pass : Pass) (n : ℕ)
    → carried_rows (first_see fr) (see fr) (sees_more fr) (typing pass)
    (λ m. ours (first_see fr) (typing pass) m (typing pass m)) n
    ≡ answers (see fr) (typing pass) (λ m. newer) n
first-carried fr pass n = carried-fresh (first_see fr) (see fr) (sees_more fr) (typing pass) n
