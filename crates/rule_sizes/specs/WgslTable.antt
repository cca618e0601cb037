-- WGSL's printed table, "Alignment and size for host-shareable types", line by line in its order: form, AlignOf,
-- SizeOf. Its lines for structs and arrays are rules over their parts; they stand in Sizes.antt.
use Rattle.std.specs.Prelude.{ℕ, List, [], ◌∷◌}
use Rattle.ir.specs.declared.VectorSize.TheVariants.{Bi, Tri, Quad}
use Rattle.ir.specs.declared.TypeInner.{TypeInner}
use Rattle.ir.specs.declared.TypeInner.TheVariants as Ti
use Rattle.ir.specs.Scalars.{I32, U32, F16, F32}

pub record SizeLine : Type 0 where
  pub form : TypeInner
  pub align : ℕ
  pub size : ℕ

abbrev pub size_line : TypeInner → ℕ → ℕ → SizeLine
size_line t a z = record { form = t; align = a; size = z }

abbrev pub size_lines : List SizeLine
size_lines =
    -- i32, u32, or f32; f16; atomic<T>
    size_line (Ti.Scalar I32) 4 4 ∷ size_line (Ti.Scalar U32) 4 4 ∷ size_line (Ti.Scalar F32) 4 4
    ∷ size_line (Ti.Scalar F16) 2 2
    ∷ size_line (Ti.Atomic I32) 4 4 ∷ size_line (Ti.Atomic U32) 4 4
    -- vec2<T>, vec3<T>, vec4<T>
    ∷ size_line (Ti.Vector Bi I32) 8 8 ∷ size_line (Ti.Vector Bi U32) 8 8 ∷ size_line (Ti.Vector Bi F32) 8 8
    ∷ size_line (Ti.Vector Bi F16) 4 4
    ∷ size_line (Ti.Vector Tri I32) 16 12 ∷ size_line (Ti.Vector Tri U32) 16 12 ∷ size_line (Ti.Vector Tri F32) 16 12
    ∷ size_line (Ti.Vector Tri F16) 8 6
    ∷ size_line (Ti.Vector Quad I32) 16 16 ∷ size_line (Ti.Vector Quad U32) 16 16 ∷ size_line (Ti.Vector Quad F32) 16 16
    ∷ size_line (Ti.Vector Quad F16) 8 8
    -- mat_cx_r<f32>, mat_cx_r<f16>
    ∷ size_line (Ti.Matrix Bi Bi F32) 8 16 ∷ size_line (Ti.Matrix Bi Bi F16) 4 8
    ∷ size_line (Ti.Matrix Tri Bi F32) 8 24 ∷ size_line (Ti.Matrix Tri Bi F16) 4 12
    ∷ size_line (Ti.Matrix Quad Bi F32) 8 32 ∷ size_line (Ti.Matrix Quad Bi F16) 4 16
    ∷ size_line (Ti.Matrix Bi Tri F32) 16 32 ∷ size_line (Ti.Matrix Bi Tri F16) 8 16
    ∷ size_line (Ti.Matrix Tri Tri F32) 16 48 ∷ size_line (Ti.Matrix Tri Tri F16) 8 24
    ∷ size_line (Ti.Matrix Quad Tri F32) 16 64 ∷ size_line (Ti.Matrix Quad Tri F16) 8 32
    ∷ size_line (Ti.Matrix Bi Quad F32) 16 32 ∷ size_line (Ti.Matrix Bi Quad F16) 8 16
    ∷ size_line (Ti.Matrix Tri Quad F32) 16 48 ∷ size_line (Ti.Matrix Tri Quad F16) 8 24
    ∷ size_line (Ti.Matrix Quad Quad F32) 16 64 ∷ size_line (Ti.Matrix Quad Quad F16) 8 32
    ∷ []
