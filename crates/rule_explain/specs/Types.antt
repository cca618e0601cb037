-- A type in WGSL's spelling where it has one (docs/EXPLAIN.md, "Types"), as pieces (rule_explain/specs/Lines.antt),
-- from the bytes of its frame (document 01, "The file", family 1). A type that another names is spelled if it is a
-- scalar, vector, matrix or atomic, else by its number. A code that no accepted file has is the empty word.
use Rattle.std.specs.Prelude.{ℕ, ◌+◌, ◌-◌, Bool, cond, ◌&&◌, ◌||◌, List, [], ◌∷◌, ltb, eqb}
use Rattle.ir.specs.declared.TypeNumber.{TypeNumber}
use Rattle.ir.specs.declared.Scalar.{Scalar}
use Rattle.ir.specs.Numbers.{scalar_kind_number, is_width, width_number}
use Rattle.ir.specs.Scalars.{I16, I32, I64, U16, U32, U64, F16, F32, F64, BOOL, ABSTRACT-INT, ABSTRACT-FLOAT}
use Rattle.frames.specs.declared.Frame.{Frame}
use Rattle.frames.specs.Bytes.{half, word, frame_at}
use Rattle.rule_explain.specs.Words as W
use Rattle.rule_explain.specs.Lines.{num}
use Rattle.rule_explain.specs.declared.ScalarWords.{ScalarWords}
use Rattle.rule_explain.specs.declared.Short.{Short}

-- a word out of several: the one for the lowest code is `base`
unfoldable pub picked : ℕ → ℕ → ℕ → ℕ → ℕ
picked base lowest count code = cond (ltb code lowest) W.none
    (cond (ltb (code - lowest) count) (base + (code - lowest)) W.none)

-- SCALARS

-- WGSL's names of scalars, and naga's of the abstract ones
abbrev pub names : List (Scalar × ℕ)
names =
    (I16, W.i16) ∷ (I32, W.i32) ∷ (I64, W.i64) ∷ (U16, W.u16) ∷ (U32, W.u32) ∷ (U64, W.u64) ∷ (F16, W.f16) ∷
    (F32, W.f32) ∷ (F64, W.f64) ∷ (BOOL, W.bool)
    ∷ (ABSTRACT-INT, W.abstract_int) ∷ (ABSTRACT-FLOAT, W.abstract_float) ∷ []

-- these bytes are the kind and the width of a scalar
abbrev pub is_scalar : Scalar → ℕ → ℕ → Bool
is_scalar s kind width = eqb kind (scalar_kind_number s.kind) && eqb width (width_number s.width)

-- the name of the first scalar that these bytes are, or none
abbrev pub name_in : List (Scalar × ℕ) → ℕ → ℕ → ℕ
name_in [] kind width = W.none
name_in (n ∷ l) kind width = cond (is_scalar n.0 kind width) n.1 (name_in l kind width)

-- a scalar's name, or none
unfoldable pub named : ℕ → ℕ → ℕ
named kind width = name_in names kind width

-- how many bytes, of a width; no accepted file has another
abbrev pub bytes_of : ℕ → ℕ
bytes_of width = cond (is_width width) (num width) W.none

-- a scalar by its name; one that has none by its kind and width, as `bool(4 bytes)`
unfoldable pub scalar_words : ℕ → ℕ → ScalarWords
scalar_words kind width =
    cond (eqb (named kind width) W.none)
    (record { name = picked W.plain 0 6 kind; width = bytes_of width; bytes = W.bytes })
    (record { name = named kind width; width = W.none; bytes = W.none })

-- A TYPE THAT ANOTHER NAMES

-- a scalar with words and sizes before it and a word after it
unfoldable pub around : ℕ → ℕ → ℕ → ℕ → ℕ → ℕ → ℕ → ℕ → Short
around lead first x second less kind width close =
    record {
      lead = lead;
      first = first;
      x = x;
      second = second;
      less = less;
      name = (scalar_words kind width).name;
      width = (scalar_words kind width).width;
      bytes = (scalar_words kind width).bytes;
      close = close;
    }

-- `type 5`
abbrev pub by_number : TypeNumber → Short
by_number n =
    record {
      lead = W.type;
      first = num n.0;
      x = W.none;
      second = W.none;
      less = W.none;
      name = W.none;
      width = W.none;
      bytes = W.none;
      close = W.none;
    }

-- `vec3<f32>`, and a scalar where the size is 0
unfoldable pub vector : ℕ → ℕ → ℕ → Short
vector size kind width =
    cond (eqb size 0) (around W.none W.none W.none W.none W.none kind width W.none)
    (around W.vec (num size) W.none W.none W.less kind width W.more)

-- whether a type of this kind is spelled where another names it: a scalar, vector, matrix or atomic
abbrev pub is_brief : ℕ → Bool
is_brief kind = eqb kind 1 || (eqb kind 2 || (eqb kind 3 || eqb kind 5))

-- such a type, which frame f stands for
unfoldable pub brief : Frame → Short
brief f =
    cond (eqb f.b1 1) (vector 0 f.b4 f.b5)
    (cond (eqb f.b1 2) (vector f.b2 f.b4 f.b5)
    (cond (eqb f.b1 3) (around W.mat (num f.b2) W.x (num f.b3) W.less f.b4 f.b5 W.more)
    (around W.atomic W.none W.none W.none W.none f.b4 f.b5 W.more)))

-- type n of a file, whose frames these are, spelled or by its number: types stand first, so that it is frame n
unfoldable pub within : List ℕ → TypeNumber → Short
within fr n = let f = frame_at fr n.0 in cond (is_brief f.b1) (brief f) (by_number n)

-- its pieces, and more after them
abbrev pub inside : Short → List ℕ → List ℕ
inside s rest = s.lead ∷ s.first ∷ s.x ∷ s.second ∷ s.less ∷ s.name ∷ s.width ∷ s.bytes ∷ s.close ∷ rest

-- A TYPE

-- `ptr<function, vec3<f32>>`, `ptr<storage, type 3, read_write>`
unfoldable pub pointer : ℕ → Short → ℕ → ℕ → List ℕ
pointer lead s space access =
    lead ∷ picked W.space 0 10 space ∷ W.comma ∷ inside s
    (cond (eqb space 4) (W.comma ∷ picked W.access 0 8 access ∷ W.more ∷ []) (W.more ∷ []))

-- `array<f32, 5>`, `array<f32, override 2>`, `array<f32>`
unfoldable pub array_words : ℕ → Short → ℕ → ℕ → List ℕ
array_words lead s form count =
    lead ∷ inside s (cond (eqb form 0) (W.comma ∷ num count ∷ W.more ∷ [])
    (cond (eqb form 1) (W.override ∷ num count ∷ W.more ∷ []) (W.more ∷ [])))

-- `coop_mat8x8<f32, A>`
unfoldable pub cooperative_words : Frame → List ℕ
cooperative_words f =
    inside (around W.cooperative (num f.b2) W.x (num f.b3) W.less f.b4 f.b5 W.none)
    (picked W.role 0 3 f.b6 ∷ W.more ∷ [])

-- an image's class in its name: sampled, depth, storage
unfoldable pub class_name : ℕ → ℕ → ℕ
class_name class multi =
    cond (eqb class 0) (cond (eqb multi 1) W.multisampled W.none)
    (cond (eqb class 1) (cond (eqb multi 1) W.deep_multi W.depth) W.storage)

-- whether it is arrayed, in its name
unfoldable pub arrayed_name : ℕ → ℕ
arrayed_name flag = cond (eqb flag 1) W.arrayed W.none

-- `texture_2d<f32>`, `texture_depth_cube_array`, `texture_storage_2d<rgba8unorm, write>`, `texture_external`
unfoldable pub image : Frame → List ℕ
image f =
    cond (eqb f.b4 2) (W.external ∷ [])
    (W.texture ∷ class_name f.b4 f.b6 ∷ picked W.dimension 1 4 f.b2 ∷ arrayed_name f.b3
    ∷ cond (eqb f.b4 0) (W.less ∷ picked W.sampled 0 6 f.b5 ∷ W.more ∷ [])
    (cond (eqb f.b4 1) []
    (W.less ∷ picked W.format 0 41 f.b5 ∷ W.comma ∷ picked W.access 0 8 f.b7 ∷ W.more ∷ [])))

-- `unknown kind 200`
abbrev pub unknown_kind : ℕ → List ℕ
unknown_kind k = W.unknown ∷ num k ∷ []

-- the type that frame f stands for, in a file whose frames these are
unfoldable pub whole : List ℕ → Frame → List ℕ
whole fr f =
    cond (eqb f.b1 6) (pointer W.pointer (within fr (record { 0 = half f 2 })) f.b6 f.b7)
    (cond (eqb f.b1 7) (pointer W.value (vector f.b2 f.b4 f.b5) f.b6 f.b7)
    (cond (eqb f.b1 8) (array_words W.array (within fr (record { 0 = half f 2 })) f.b4 (word f 8))
    (cond (eqb f.b1 14) (array_words W.bindings (within fr (record { 0 = half f 2 })) f.b4 (word f 8))
    (cond (eqb f.b1 4) (cooperative_words f)
    (cond (eqb f.b1 9) (W.struct ∷ [])
    (cond (eqb f.b1 10) (image f)
    (cond (eqb f.b1 11) (picked W.sampler 0 2 f.b2 ∷ [])
    (cond (eqb f.b1 12) (picked W.structure 0 2 f.b2 ∷ [])
    (cond (eqb f.b1 13) (picked W.query 0 2 f.b2 ∷ [])
    (cond (is_brief f.b1) (inside (brief f) []) (unknown_kind f.b1)))))))))))
