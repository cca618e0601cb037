-- A sample frame of each kind of type and of row, written by hand from document 01, "The file", with what it stands
-- for: its bytes are within their values, and it reads as that.
use Rattle.std.specs.Prelude.{Some, None}
use Prim.Native.Nat.{ℕ}
use mathlib.Core.Path.{◌≡◌, refl}
use mathlib.Core.Bool.{true, false}
use mathlib.Core.List.{List, [], ◌∷◌, map}
use Rattle.ir.proofs.Tables.{up_from}
use Rattle.ir.specs.declared.Scalar.{Scalar}
use Rattle.ir.specs.declared.ScalarKind.TheVariants as Sk
use Rattle.ir.specs.declared.VectorSize.TheVariants as Vs
use Rattle.ir.specs.declared.CooperativeSize.TheVariants as Cs
use Rattle.ir.specs.declared.CooperativeRole.TheVariants as Cr
use Rattle.ir.specs.declared.AddressSpace.TheVariants as Sp
use Rattle.ir.specs.declared.ArraySize.TheVariants as As
use Rattle.ir.specs.declared.ImageDimension.TheVariants as Di
use Rattle.ir.specs.declared.ImageClass.TheVariants as Ic
use Rattle.ir.specs.declared.StorageFormat.TheVariants as Sf
use Rattle.ir.specs.declared.Literal.TheVariants as Li
use Rattle.ir.specs.declared.BinaryOperator.TheVariants as Bo
use Rattle.ir.specs.declared.RelationalFunction.TheVariants as Rl
use Rattle.ir.specs.declared.ImageQuery.TheVariants as Iq
use Rattle.ir.specs.declared.Width.TheVariants as Wd
use Rattle.ir.specs.declared.TypeInner.{TypeInner}
use Rattle.ir.specs.declared.TypeInner.TheVariants as Ti
use Rattle.ir.specs.declared.Expression.{Expression}
use Rattle.ir.specs.declared.Expression.TheVariants as Ex
use Rattle.ir.specs.Numbers.{type_kind_number, row_kind_number}
use Rattle.frames.specs.Bytes.{frame_from}
use Rattle.frames.specs.Fields.{all_of}
use Rattle.frames.specs.Forms.{type_of, row_of, fields_fit}
use Rattle.frames.specs.Out.{kind_of}
use Rattle.frames.specs.ForProofs.{row_kind}

abbrev f32 : Scalar
f32 = record { kind = Sk.Float; width = Wd.Four }

-- a frame of each kind of type, and the type
abbrev pub type_samples : List (List ℕ × TypeInner)
type_samples =
    (1 ∷ 1 ∷ 0 ∷ 0 ∷ 2 ∷ 4 ∷ 0 ∷ 0 ∷ 0 ∷ 0 ∷ 0 ∷ 0 ∷ 0 ∷ 0 ∷ 0 ∷ 0 ∷ [], Ti.Scalar f32)
    ∷ (
      1 ∷ 2 ∷ 3 ∷ 0 ∷ 1 ∷ 4 ∷ 0 ∷ 0 ∷ 0 ∷ 0 ∷ 0 ∷ 0 ∷ 0 ∷ 0 ∷ 0 ∷ 0 ∷ [],
      Ti.Vector Vs.Tri (record { kind = Sk.Uint; width = Wd.Four }),
    )
    ∷ (1 ∷ 3 ∷ 2 ∷ 4 ∷ 2 ∷ 4 ∷ 0 ∷ 0 ∷ 0 ∷ 0 ∷ 0 ∷ 0 ∷ 0 ∷ 0 ∷ 0 ∷ 0 ∷ [], Ti.Matrix Vs.Bi Vs.Quad f32)
    ∷ (
      1 ∷ 4 ∷ 8 ∷ 16 ∷ 2 ∷ 4 ∷ 1 ∷ 0 ∷ 0 ∷ 0 ∷ 0 ∷ 0 ∷ 0 ∷ 0 ∷ 0 ∷ 0 ∷ [],
      Ti.CooperativeMatrix Cs.Eight Cs.Sixteen f32 Cr.B,
    )
    ∷ (
      1 ∷ 5 ∷ 0 ∷ 0 ∷ 0 ∷ 8 ∷ 0 ∷ 0 ∷ 0 ∷ 0 ∷ 0 ∷ 0 ∷ 0 ∷ 0 ∷ 0 ∷ 0 ∷ [],
      Ti.Atomic (record { kind = Sk.Sint; width = Wd.Eight }),
    )
    ∷ (
      1 ∷ 6 ∷ 2 ∷ 1 ∷ 0 ∷ 0 ∷ 4 ∷ 3 ∷ 0 ∷ 0 ∷ 0 ∷ 0 ∷ 0 ∷ 0 ∷ 0 ∷ 0 ∷ [],
      Ti.Pointer (record {
        0 =
            258;
      }) (Sp.Storage (record { load = true; store = true; atomic = false })),
    )
    ∷ (
      1 ∷ 7 ∷ 0 ∷ 0 ∷ 3 ∷ 1 ∷ 9 ∷ 0 ∷ 0 ∷ 0 ∷ 0 ∷ 0 ∷ 0 ∷ 0 ∷ 0 ∷ 0 ∷ [],
      Ti.ValuePointer None (record {
        kind =
            Sk.Bool;
        width = Wd.One;
      }) Sp.IncomingRayPayload,
    )
    ∷ (
      1 ∷ 8 ∷ 5 ∷ 0 ∷ 0 ∷ 0 ∷ 0 ∷ 0 ∷ 3 ∷ 0 ∷ 0 ∷ 1 ∷ 16 ∷ 0 ∷ 0 ∷ 0 ∷ [],
      Ti.Array (record { 0 = 5 }) (As.Constant 16777219) 16,
    )
    ∷ (1 ∷ 9 ∷ 7 ∷ 0 ∷ 2 ∷ 1 ∷ 0 ∷ 0 ∷ 0 ∷ 0 ∷ 0 ∷ 0 ∷ 0 ∷ 1 ∷ 0 ∷ 0 ∷ [], Ti.Struct (record { 0 = 7 }) 258 256)
    ∷ (
      1 ∷ 10 ∷ 2 ∷ 1 ∷ 3 ∷ 40 ∷ 0 ∷ 5 ∷ 0 ∷ 0 ∷ 0 ∷ 0 ∷ 0 ∷ 0 ∷ 0 ∷ 0 ∷ [],
      Ti.Image Di.D2 true (Ic.Storage Sf.Rgba16Snorm (record {
        load =
            true;
        store = false;
        atomic = true;
      })),
    )
    ∷ (1 ∷ 11 ∷ 1 ∷ 0 ∷ 0 ∷ 0 ∷ 0 ∷ 0 ∷ 0 ∷ 0 ∷ 0 ∷ 0 ∷ 0 ∷ 0 ∷ 0 ∷ 0 ∷ [], Ti.Sampler true)
    ∷ (1 ∷ 12 ∷ 0 ∷ 0 ∷ 0 ∷ 0 ∷ 0 ∷ 0 ∷ 0 ∷ 0 ∷ 0 ∷ 0 ∷ 0 ∷ 0 ∷ 0 ∷ 0 ∷ [], Ti.AccelerationStructure false)
    ∷ (1 ∷ 13 ∷ 1 ∷ 0 ∷ 0 ∷ 0 ∷ 0 ∷ 0 ∷ 0 ∷ 0 ∷ 0 ∷ 0 ∷ 0 ∷ 0 ∷ 0 ∷ 0 ∷ [], Ti.RayQuery true)
    ∷ (
      1 ∷ 14 ∷ 6 ∷ 0 ∷ 1 ∷ 0 ∷ 0 ∷ 0 ∷ 9 ∷ 0 ∷ 0 ∷ 0 ∷ 0 ∷ 0 ∷ 0 ∷ 0 ∷ [],
      Ti.BindingArray (record {
        0 =
            6;
      }) (As.Pending (record { 0 = 9 })),
    )
    ∷ []

-- a frame of each kind of row, and the row
abbrev pub row_samples : List (List ℕ × Expression)
row_samples =
    (4 ∷ 1 ∷ 0 ∷ 0 ∷ 0 ∷ 0 ∷ 11 ∷ 0 ∷ 0 ∷ 0 ∷ 0 ∷ 0 ∷ 0 ∷ 0 ∷ 0 ∷ 0 ∷ [], Ex.Literal Li.AbstractFloat)
    ∷ (4 ∷ 2 ∷ 3 ∷ 0 ∷ 0 ∷ 0 ∷ 0 ∷ 0 ∷ 0 ∷ 0 ∷ 0 ∷ 0 ∷ 0 ∷ 0 ∷ 0 ∷ 0 ∷ [], Ex.Constant (record { 0 = 3 }))
    ∷ (4 ∷ 3 ∷ 3 ∷ 0 ∷ 0 ∷ 0 ∷ 0 ∷ 0 ∷ 0 ∷ 0 ∷ 0 ∷ 0 ∷ 0 ∷ 0 ∷ 0 ∷ 0 ∷ [], Ex.Override (record { 0 = 3 }))
    ∷ (4 ∷ 4 ∷ 3 ∷ 1 ∷ 0 ∷ 0 ∷ 0 ∷ 0 ∷ 0 ∷ 0 ∷ 0 ∷ 0 ∷ 0 ∷ 0 ∷ 0 ∷ 0 ∷ [], Ex.ZeroValue (record { 0 = 259 }))
    ∷ (
      4 ∷ 5 ∷ 3 ∷ 0 ∷ 4 ∷ 0 ∷ 0 ∷ 0 ∷ 0 ∷ 0 ∷ 0 ∷ 0 ∷ 5 ∷ 0 ∷ 0 ∷ 0 ∷ [],
      Ex.Compose (record { 0 = 3 }) 4 (record { 0 = 5 }),
    )
    ∷ (4 ∷ 6 ∷ 3 ∷ 0 ∷ 0 ∷ 0 ∷ 0 ∷ 0 ∷ 0 ∷ 0 ∷ 0 ∷ 0 ∷ 0 ∷ 0 ∷ 0 ∷ 0 ∷ [], Ex.Access (record { 0 = 3 }))
    ∷ (4 ∷ 7 ∷ 3 ∷ 0 ∷ 0 ∷ 0 ∷ 0 ∷ 0 ∷ 0 ∷ 0 ∷ 0 ∷ 0 ∷ 1 ∷ 1 ∷ 0 ∷ 0 ∷ [], Ex.AccessIndex (record { 0 = 3 }) 257)
    ∷ (4 ∷ 8 ∷ 3 ∷ 0 ∷ 0 ∷ 0 ∷ 2 ∷ 0 ∷ 0 ∷ 0 ∷ 0 ∷ 0 ∷ 0 ∷ 0 ∷ 0 ∷ 0 ∷ [], Ex.Splat Vs.Bi (record { 0 = 3 }))
    ∷ (4 ∷ 9 ∷ 3 ∷ 0 ∷ 0 ∷ 0 ∷ 4 ∷ 0 ∷ 0 ∷ 0 ∷ 0 ∷ 0 ∷ 0 ∷ 0 ∷ 0 ∷ 0 ∷ [], Ex.Swizzle Vs.Quad (record { 0 = 3 }))
    ∷ (4 ∷ 10 ∷ 0 ∷ 0 ∷ 0 ∷ 0 ∷ 0 ∷ 0 ∷ 0 ∷ 0 ∷ 0 ∷ 0 ∷ 255 ∷ 255 ∷ 255 ∷ 255 ∷ [], Ex.FunctionArgument 0xffff_ffff)
    ∷ (4 ∷ 11 ∷ 3 ∷ 0 ∷ 0 ∷ 0 ∷ 0 ∷ 0 ∷ 0 ∷ 0 ∷ 0 ∷ 0 ∷ 0 ∷ 0 ∷ 0 ∷ 0 ∷ [], Ex.GlobalVariable (record { 0 = 3 }))
    ∷ (4 ∷ 12 ∷ 3 ∷ 0 ∷ 0 ∷ 0 ∷ 0 ∷ 0 ∷ 0 ∷ 0 ∷ 0 ∷ 0 ∷ 0 ∷ 0 ∷ 0 ∷ 0 ∷ [], Ex.LocalVariable (record { 0 = 3 }))
    ∷ (4 ∷ 13 ∷ 3 ∷ 0 ∷ 0 ∷ 0 ∷ 0 ∷ 0 ∷ 0 ∷ 0 ∷ 0 ∷ 0 ∷ 0 ∷ 0 ∷ 0 ∷ 0 ∷ [], Ex.Load (record { 0 = 3 }))
    ∷ (4 ∷ 14 ∷ 3 ∷ 0 ∷ 0 ∷ 0 ∷ 1 ∷ 0 ∷ 0 ∷ 0 ∷ 0 ∷ 0 ∷ 0 ∷ 0 ∷ 0 ∷ 0 ∷ [], Ex.ImageSample (record { 0 = 3 }) true)
    ∷ (4 ∷ 15 ∷ 3 ∷ 0 ∷ 0 ∷ 0 ∷ 0 ∷ 0 ∷ 0 ∷ 0 ∷ 0 ∷ 0 ∷ 0 ∷ 0 ∷ 0 ∷ 0 ∷ [], Ex.ImageLoad (record { 0 = 3 }))
    ∷ (
      4 ∷ 16 ∷ 0 ∷ 0 ∷ 0 ∷ 0 ∷ 3 ∷ 0 ∷ 0 ∷ 0 ∷ 0 ∷ 0 ∷ 0 ∷ 0 ∷ 0 ∷ 0 ∷ [],
      Ex.ImageQuery (record { 0 = 0 }) Iq.NumSamples,
    )
    ∷ (4 ∷ 17 ∷ 3 ∷ 0 ∷ 0 ∷ 0 ∷ 0 ∷ 0 ∷ 0 ∷ 0 ∷ 0 ∷ 0 ∷ 0 ∷ 0 ∷ 0 ∷ 0 ∷ [], Ex.Unary (record { 0 = 3 }))
    ∷ (
      4 ∷ 18 ∷ 3 ∷ 0 ∷ 4 ∷ 0 ∷ 17 ∷ 0 ∷ 0 ∷ 0 ∷ 0 ∷ 0 ∷ 0 ∷ 0 ∷ 0 ∷ 0 ∷ [],
      Ex.Binary Bo.ShiftRight (record { 0 = 3 }) (record { 0 = 4 }),
    )
    ∷ (4 ∷ 19 ∷ 3 ∷ 0 ∷ 0 ∷ 0 ∷ 0 ∷ 0 ∷ 0 ∷ 0 ∷ 0 ∷ 0 ∷ 0 ∷ 0 ∷ 0 ∷ 0 ∷ [], Ex.Select (record { 0 = 3 }))
    ∷ (4 ∷ 20 ∷ 3 ∷ 0 ∷ 0 ∷ 0 ∷ 0 ∷ 0 ∷ 0 ∷ 0 ∷ 0 ∷ 0 ∷ 0 ∷ 0 ∷ 0 ∷ 0 ∷ [], Ex.Derivative (record { 0 = 3 }))
    ∷ (4 ∷ 21 ∷ 3 ∷ 0 ∷ 0 ∷ 0 ∷ 2 ∷ 0 ∷ 0 ∷ 0 ∷ 0 ∷ 0 ∷ 0 ∷ 0 ∷ 0 ∷ 0 ∷ [], Ex.Relational Rl.IsNan (record { 0 = 3 }))
    ∷ (4 ∷ 22 ∷ 9 ∷ 9 ∷ 9 ∷ 9 ∷ 9 ∷ 9 ∷ 9 ∷ 9 ∷ 9 ∷ 9 ∷ 9 ∷ 9 ∷ 9 ∷ 9 ∷ [], Ex.Math)
    ∷ (
      4 ∷ 23 ∷ 3 ∷ 0 ∷ 0 ∷ 0 ∷ 2 ∷ 1 ∷ 8 ∷ 0 ∷ 0 ∷ 0 ∷ 0 ∷ 0 ∷ 0 ∷ 0 ∷ [],
      Ex.As (record { 0 = 3 }) Sk.Float (Some Wd.Eight),
    )
    ∷ (4 ∷ 24 ∷ 3 ∷ 0 ∷ 0 ∷ 0 ∷ 0 ∷ 0 ∷ 0 ∷ 0 ∷ 0 ∷ 0 ∷ 0 ∷ 0 ∷ 0 ∷ 0 ∷ [], Ex.CallResult (record { 0 = 3 }))
    ∷ (4 ∷ 25 ∷ 3 ∷ 0 ∷ 0 ∷ 0 ∷ 0 ∷ 0 ∷ 0 ∷ 0 ∷ 0 ∷ 0 ∷ 0 ∷ 0 ∷ 0 ∷ 0 ∷ [], Ex.AtomicResult (record { 0 = 3 }))
    ∷ (
      4 ∷ 26 ∷ 3 ∷ 0 ∷ 0 ∷ 0 ∷ 0 ∷ 0 ∷ 0 ∷ 0 ∷ 0 ∷ 0 ∷ 0 ∷ 0 ∷ 0 ∷ 0 ∷ [],
      Ex.WorkGroupUniformLoadResult (record { 0 = 3 }),
    )
    ∷ (4 ∷ 27 ∷ 0 ∷ 0 ∷ 0 ∷ 0 ∷ 0 ∷ 0 ∷ 0 ∷ 0 ∷ 0 ∷ 0 ∷ 0 ∷ 0 ∷ 0 ∷ 0 ∷ [], Ex.ArrayLength)
    ∷ (4 ∷ 28 ∷ 0 ∷ 0 ∷ 0 ∷ 0 ∷ 0 ∷ 0 ∷ 0 ∷ 0 ∷ 0 ∷ 0 ∷ 0 ∷ 0 ∷ 0 ∷ 0 ∷ [], Ex.RayQueryVertexPositions)
    ∷ (4 ∷ 29 ∷ 0 ∷ 0 ∷ 0 ∷ 0 ∷ 0 ∷ 0 ∷ 0 ∷ 0 ∷ 0 ∷ 0 ∷ 0 ∷ 0 ∷ 0 ∷ 0 ∷ [], Ex.RayQueryProceedResult)
    ∷ (4 ∷ 30 ∷ 0 ∷ 0 ∷ 0 ∷ 0 ∷ 0 ∷ 0 ∷ 0 ∷ 0 ∷ 0 ∷ 0 ∷ 0 ∷ 0 ∷ 0 ∷ 0 ∷ [], Ex.RayQueryGetIntersection)
    ∷ (4 ∷ 31 ∷ 0 ∷ 0 ∷ 0 ∷ 0 ∷ 0 ∷ 0 ∷ 0 ∷ 0 ∷ 0 ∷ 0 ∷ 0 ∷ 0 ∷ 0 ∷ 0 ∷ [], Ex.SubgroupBallotResult)
    ∷ (
      4 ∷ 32 ∷ 3 ∷ 0 ∷ 0 ∷ 0 ∷ 0 ∷ 0 ∷ 0 ∷ 0 ∷ 0 ∷ 0 ∷ 0 ∷ 0 ∷ 0 ∷ 0 ∷ [],
      Ex.SubgroupOperationResult (record { 0 = 3 }),
    )
    ∷ (
      4 ∷ 33 ∷ 3 ∷ 0 ∷ 0 ∷ 0 ∷ 8 ∷ 16 ∷ 2 ∷ 0 ∷ 0 ∷ 0 ∷ 0 ∷ 0 ∷ 0 ∷ 0 ∷ [],
      Ex.CooperativeLoad Cs.Eight Cs.Sixteen Cr.C (record { 0 = 3 }),
    )
    ∷ (
      4 ∷ 34 ∷ 3 ∷ 0 ∷ 0 ∷ 0 ∷ 0 ∷ 0 ∷ 0 ∷ 0 ∷ 0 ∷ 0 ∷ 0 ∷ 0 ∷ 0 ∷ 0 ∷ [],
      Ex.CooperativeMultiplyAdd (record { 0 = 3 }),
    )
    ∷ []

-- the samples of types are of kinds 1 to 14
pub type-kinds : map (λ (x : List ℕ × TypeInner). type_kind_number (kind_of x.1)) type_samples ≡ up_from 1 14
type-kinds = refl

-- their bytes are within their values
pub types-fit : all_of (map (λ (x : List ℕ × TypeInner). fields_fit (frame_from x.0 0)) type_samples) ≡ true
unfolding fields_fit
types-fit = refl

-- and each reads as its type
pub types-read : map (λ (x : List ℕ × TypeInner). type_of (frame_from x.0 0)) type_samples
    ≡ map (λ (x : List ℕ × TypeInner). Some x.1) type_samples
unfolding type_of
types-read = refl

-- the samples of rows are of kinds 1 to 34
pub row-kinds : map (λ (x : List ℕ × Expression). row_kind_number (row_kind x.1)) row_samples ≡ up_from 1 34
row-kinds = refl

-- their bytes are within their values
pub rows_fit : all_of (map (λ (x : List ℕ × Expression). fields_fit (frame_from x.0 0)) row_samples) ≡ true
unfolding fields_fit
rows_fit = refl

-- and each reads as its row
pub rows-read : map (λ (x : List ℕ × Expression). row_of (frame_from x.0 0)) row_samples
    ≡ map (λ (x : List ℕ × Expression). Some x.1) row_samples
unfolding row_of
rows-read = refl
