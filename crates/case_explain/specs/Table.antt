-- Small texts and their lines for people, each the whole text and all of its lines, written by hand (docs/EXPLAIN.md).
use Rattle.std.specs.Prelude.{ℕ, ◌-◌, List, [], ◌∷◌, ◌++◌, length, replicate}
use Prim.Native.String.{String}
use Rattle.answers.specs.Limit.{max_frames}
use Rattle.rule_rows.specs.declared.Pass.{Pass}
use Rattle.rule_rows.specs.declared.Pass.TheVariants.{First, Second}
use Rattle.case_file.specs.Table.{paper, composes, no_count}

-- the length of an output buffer: so many bytes more than the lines have, or so many fewer; or so many more, and number
-- 3 all the same, since a table of counts is too short
pub data Room : Type 0 where
  over below unused : ℕ → Room

-- a text, a limit of frames and a pass, all of its lines, and an output buffer's length
pub record ExplainedCase : Type 0 where
  pub text : List String
  pub limit : ℕ
  pub pass : Pass
  pub lines : List String
  pub room : Room

-- by the first pass, with just the room for them
abbrev whole : List String → List String → ExplainedCase
whole t l = record { text = t; limit = max_frames; pass = First; lines = l; room = over 0 }

-- values of: a bool of four bytes, which has no name; a storage image; a pointer to a struct in storage; a struct
abbrev values : List String
values =
    "01010000030400000000000000000000" ∷
    "010a0200031100020000000000000000" ∷
    "01090000000000000000000000000000" ∷
    "01060200000004030000000000000000" ∷
    "04040000000000000000000000000000" ∷
    "04040100000000000000000000000000" ∷
    "04040200000000000000000000000000" ∷
    "04040300000000000000000000000000" ∷ []

-- THE CASES
abbrev pub explained_cases : List ExplainedCase
explained_cases =
    whole paper
    ("row 0  ptr<function, vec3<f32>>" ∷
    "row 1  value_ptr<function, f32>" ∷
    "row 2  f32" ∷
    "row 3  ptr<function, type 2>" ∷
    "row 4  refused 22 newer: met at row 4" ∷
    "row 5  refused 10 bound: operand row 0, index 3" ∷ [])
    ∷ whole composes
    ("row 0  f32  (type 0)" ∷
    "row 1  vec3<f32>  (type 1)" ∷
    "row 2  vec4<f32>  (type 2)" ∷
    "row 2  verdict: passes" ∷
    "row 3  vec4<f32>  (type 2)" ∷
    "row 3  verdict: 31 count: expected 4, given 6" ∷ [])
    ∷ whole values
    ("row 0  bool(4 bytes)  (type 0)" ∷
    "row 1  texture_storage_2d<rgba8unorm, write>  (type 1)" ∷
    "row 2  struct  (type 2)" ∷
    "row 3  ptr<storage, type 2, read_write>  (type 3)" ∷ [])
    ∷ whole no_count ("line 2: number 5, field: a byte is outside its values" ∷ [])
    -- a scalar of three bytes
    ∷ whole ("01010000020300000000000000000000" ∷ []) ("line 1: number 5, field: a byte is outside its values" ∷ [])
    ∷ whole ("0101" ∷ []) ("line 1: number 2, torn: not 32 digits and a line feed" ∷ [])
    ∷ whole [] []
    -- a text of eight lines, within seven frames; a limit of 0 counts as 1,024
    ∷ record {
      text = values;
      limit = 7;
      pass = First;
      lines = "number 1, long: over 7 frames (231 bytes)" ∷ [];
      room
          = over 0;
    }
    ∷ record {
      text = "0101" ∷ [];
      limit = 0;
      pass = First;
      lines
          = "line 1: number 2, torn: not 32 digits and a line feed" ∷ [];
      room = over 0;
    }
    -- a value, by the second pass
    ∷ record {
      text = "01010000020400000000000000000000" ∷ "04040000000000000000000000000000" ∷ [];
      limit = max_frames;
      pass = Second;
      lines = "row 0  f32  (type 0)" ∷ [];
      room = over 0;
    }
    -- an i32 plus an f32, by the second pass
    ∷ record {
      text =
          "01010000020400000000000000000000" ∷
          "01010000000400000000000000000000" ∷
          "04040000000000000000000000000000" ∷
          "04040100000000000000000000000000" ∷
          "04120100000000000000000000000000" ∷ [];
      limit = max_frames;
      pass = Second;
      lines =
          "row 0  f32  (type 0)" ∷
          "row 1  i32  (type 1)" ∷
          "row 2  refused 41 mismatch: not in WGSL with these operand types" ∷ [];
      room = over 0;
    }
    -- bytes past the lines stay; one byte too few, and none at all, is number 3 and changes nothing
    ∷ record {
      text = no_count;
      limit = max_frames;
      pass = First;
      lines
          = "line 2: number 5, field: a byte is outside its values" ∷ [];
      room = over 3;
    }
    ∷ record {
      text = no_count;
      limit = max_frames;
      pass = First;
      lines
          = "line 2: number 5, field: a byte is outside its values" ∷ [];
      room = below 1;
    }
    ∷ record {
      text = "0101" ∷ [];
      limit = max_frames;
      pass = First;
      lines
          = "line 1: number 2, torn: not 32 digits and a line feed" ∷ [];
      room = below 54;
    }
    ∷ []

-- A TEXT and the lines of its types' sizes, within a limit of frames, and an output buffer's length
pub record SizeCase : Type 0 where
  pub text : List String
  pub limit : ℕ
  pub lines : List String
  pub room : Room

abbrev sized : List String → List String → SizeCase
sized t l = record { text = t; limit = max_frames; lines = l; room = over 0 }

-- f32; vec3<f32>; arrays of it: four with a stride of 16, four with 12, and 2 to the 28 with 16; a struct of it and the
-- first array; a sampler; a struct of the vec3 and the sampler
abbrev measured : List String
measured =
    "01010000020400000000000000000000" ∷
    "01020300020400000000000000000000" ∷
    "01080100000000000400000010000000" ∷
    "0108010000000000040000000c000000" ∷
    "01080100000000000000001010000000" ∷
    "01090000020000000000000050000000" ∷
    "010b0000000000000000000000000000" ∷
    "01090200020000000000000020000000" ∷
    "02000100000000000000000000000000" ∷
    "02000200000000000000000010000000" ∷
    "02000100000000000000000000000000" ∷
    "02000600000000000000000010000000" ∷ []

abbrev pub sizes : List SizeCase
sizes =
    sized measured
    ("type 0  f32  align 4, size 4" ∷
    "type 1  vec3<f32>  align 16, size 12" ∷
    "type 2  array<vec3<f32>, 4>  align 16, size 64" ∷
    "type 3  array<vec3<f32>, 4>  refused 43 misplaced: type 3" ∷
    "type 4  array<vec3<f32>, 268435456>  refused 44 huge: type 4" ∷
    "type 5  struct  align 16, size 80" ∷
    "type 6  sampler  refused 42 unmeasured: type 6" ∷
    "type 7  struct  refused 42 unmeasured: type 6" ∷ [])
    ∷ sized no_count ("line 2: number 5, field: a byte is outside its values" ∷ [])
    ∷ sized [] []
    ∷ record { text = measured; limit = 7; lines = "number 1, long: over 7 frames (231 bytes)" ∷ []; room = over 0 }
    -- bytes past the lines stay; one byte too few is number 3 and changes nothing
    ∷ record {
      text = "01010000020400000000000000000000" ∷ [];
      limit = max_frames;
      lines = "type 0  f32  align 4, size 4"
          ∷ [];
      room = over 3;
    }
    ∷ record {
      text = "01010000020400000000000000000000" ∷ [];
      limit = max_frames;
      lines = "type 0  f32  align 4, size 4"
          ∷ [];
      room = below 1;
    }
    ∷ []

-- A TEXT, least and greatest counts, and the lines of its types' ranges
pub record RangeCase : Type 0 where
  pub text : List String
  pub least : List ℕ
  pub greatest : List ℕ
  pub lines : List String
  pub room : Room

-- f32; vec3<f32>; an array of f32 over override 0; a struct of the two and f32; two elements of that array; a bool
abbrev counted : List String
counted =
    "01010000020400000000000000000000" ∷
    "01020300020400000000000000000000" ∷
    "01080000010000000000000004000000" ∷
    "01090000030000000000000000000000" ∷
    "01080200000000000200000010000000" ∷
    "01010000030100000000000000000000" ∷
    "02000100000000000000000000000000" ∷
    "02000200000000000000000000000000" ∷
    "02000000000000000000000000000000" ∷
    "03020000000000000000000000000000" ∷
    "03020000000000000000000000000000" ∷ []

-- a table of 1,024 counts: these, and zeros
abbrev padded : List ℕ → List ℕ
padded l = l ++ replicate (1024 - length l) 0

-- one line
abbrev faulty : List String → List ℕ → List ℕ → String → RangeCase
faulty t y z l = record { text = t; least = padded y; greatest = padded z; lines = l ∷ []; room = over 0 }

abbrev pub ranges : List RangeCase
ranges =
    record {
      text = counted;
      least = padded (1 ∷ 2 ∷ []);
      greatest = padded (5 ∷ 2 ∷ []);
      lines =
          "type 0  f32  align 4, size 4 to 4" ∷
          "type 1  vec3<f32>  align 16, size 12 to 12" ∷
          "type 2  array<f32, override 0>  align 4, size 4 to 20" ∷
          "type 3  struct  align 16, size 32 to 48" ∷
          "type 4  array<type 2, 2>  refused 42 unmeasured: type 4" ∷
          "type 5  bool  refused 42 unmeasured: type 5" ∷ [];
      room = over 2;
    }
    -- 44 goes by the greatest
    ∷ record {
      text =
          "01010000020400000000000000000000" ∷
          "01080000010000000000000004000000" ∷
          "03020000000000000000000000000000" ∷ [];
      least = padded (1 ∷ []);
      greatest = padded (1073741824 ∷ []);
      lines = "type 0  f32  align 4, size 4 to 4" ∷ "type 1  array<f32, override 0>  refused 44 huge: type 1" ∷ [];
      room = over 0;
    }
    -- number 45 comes before any size
    ∷ faulty counted (1 ∷ 3 ∷ []) (5 ∷ 2 ∷ []) "number 45, span: override 1"
    ∷ faulty counted (1 ∷ []) (5 ∷ []) "number 45, span: override 1"
    -- a table of 1,023 counts is too short, and nothing is written
    ∷ record {
      text = counted;
      least = padded (1 ∷ 2 ∷ []);
      greatest = 5 ∷ 2 ∷ replicate 1021 0;
      lines = "number 45, span: override 1" ∷ [];
      room = unused 4;
    }
    -- the file's own number comes first
    ∷ faulty no_count [] [] "line 2: number 5, field: a byte is outside its values"
    ∷ []
