-- Document 01, "Cases", P: worked cases, each the whole text and the whole output, written by hand from the document.
-- Those after the first ten are more.
use Rattle.answers.specs.declared.TypeError.TheVariants as Te
use Rattle.std.specs.Prelude.{ℕ, ◌+◌, ◌*◌, ◌-◌, cond, List, [], ◌∷◌, ◌++◌, ltb, replicate, Some, None, Ok, Err, true}
use Rattle.std.specs.Prelude.{false}
use Prim.Native.String.{String}
use Rattle.answers.specs.Outcome.{Outcome}
use Rattle.answers.specs.declared.FileError.{FileError}
use Rattle.answers.specs.declared.FileError.TheVariants.{Long, Torn, Short, Order, Field, Index}
use Rattle.answers.specs.Asked.{Sameness}
use Rattle.answers.specs.Asked.{CanonicalType}
use Rattle.answers.specs.Asked.{PointerBase}
use Rattle.ir.specs.declared.AddressSpace.TheVariants as Sp
use Rattle.ir.specs.Scalars.{F32}
use Rattle.ir.specs.declared.TypeInner.TheVariants as Ti
use Rattle.ir.specs.declared.TypeResolution.TheVariants as Tr
use Rattle.ir.specs.declared.VectorSize.TheVariants as Vs
use Rattle.frames.specs.declared.Frame.{Frame}
use Rattle.frames.specs.Bytes.{frame_at}
use Rattle.rule.specs.Answers.{number, given, told, count}
use Rattle.rule_explain.specs.Words.{characters}
use Rattle.explain_words.specs.ForProofs.{lines}
use Rattle.rule_file.specs.Typing.{RowGiven, VerdictGiven, no_compose}

abbrev digit : ℕ → ℕ
digit c = cond (ltb c 97) (c - 48) (c - 87)

-- two digits a byte
abbrev paired : List ℕ → List ℕ
paired [] = []
paired (c ∷ []) = []
paired (c ∷ d ∷ s) = (16 * digit c + digit d) ∷ paired s

-- the frames that such lines stand for
abbrev frames : List String → List ℕ
frames [] = []
frames (s ∷ ss) = paired (characters s) ++ frames ss

-- the frame that one such line stands for
abbrev frame : String → Frame
frame s = frame_at (frames (s ∷ [])) 0

-- what is asked of a text: what the typing program prints; to read it; to type its rows, one row's type, and one
-- compose's verdict, over a lent answer buffer; whether two frames are the same type; the canonical form of a type, or
-- its base
pub data FileQuestion : Type 0 where
  print read : FileQuestion
  types : List ℕ → FileQuestion
  row verdict : ℕ → List ℕ → FileQuestion
  same : Frame → Frame → FileQuestion
  canonical base : ℕ → FileQuestion

-- with the answer buffer after it, where one is lent; of the rows typed also how many frames are handed back, which
-- `type_file` says
pub data Answered : Type 0 where
  printed : List ℕ → Answered
  outcome : Outcome → Answered
  types_are : Outcome → ℕ → List ℕ → Answered
  row_is : RowGiven → List ℕ → Answered
  verdict_is : VerdictGiven → List ℕ → Answered
  sameness : Sameness → Answered
  canonical_is : CanonicalType → Answered
  base_is : PointerBase → Answered

-- a case: the text, the frame buffer lent and what is asked; the answer and the frame buffer after
pub record FileCase : Type 0 where
  pub text : List ℕ
  pub lent : List ℕ
  pub asked : FileQuestion
  pub answer : Answered
  pub after : List ℕ

-- what the typing program prints of a text; it lends buffers of its own
abbrev prints : List ℕ → List String → FileCase
prints t out = record { text = t; lent = []; asked = print; answer = printed (lines out); after = [] }

-- the file whose rows the document types
abbrev pub paper : List String
paper =
    "01010000020400000000000000000000" ∷
    "01020300020400000000000000000000" ∷
    "01c80000000000000000000000000000" ∷
    "03050100000000000000000000000000" ∷
    "03050200000000000000000000000000" ∷
    "040c0000000000000000000000000000" ∷
    "04070000000000000000000002000000" ∷
    "040d0100000000000000000000000000" ∷
    "040c0100000000000000000000000000" ∷
    "040d0300000000000000000000000000" ∷
    "04070000000000000000000003000000" ∷ []

-- a matrix of 3 columns and 2 rows, and AccessIndex 2 and 3 of a value of it
abbrev matrix : List String
matrix =
    "01030302020400000000000000000000" ∷
    "04040000000000000000000000000000" ∷
    "04070000000000000000000002000000" ∷
    "04070000000000000000000003000000" ∷ []

-- f32, a vec3 of it, and a value of the one times a value of the other
abbrev product : List String
product =
    "01010000020400000000000000000000" ∷
    "01020300020400000000000000000000" ∷
    "04040000000000000000000000000000" ∷
    "04040100000000000000000000000000" ∷
    "04120000010002000000000000000000" ∷ []

-- f32, vec3 and vec4; a vec4 composed from a vec3 and a scalar, and one from two vec3
abbrev pub composes : List String
composes =
    "01010000020400000000000000000000" ∷
    "01020300020400000000000000000000" ∷
    "01020400020400000000000000000000" ∷
    "04040000000000000000000000000000" ∷
    "04040100000000000000000000000000" ∷
    "04050200020000000000000000000000" ∷
    "04050200020000000000000002000000" ∷
    "05000100000000000000000000000000" ∷
    "05000000000000000000000000000000" ∷
    "05000100000000000000000000000000" ∷
    "05000100000000000000000000000000" ∷ []

-- what is handed back of it
abbrev composed : List String
composed =
    "08000000000000000000000000000000" ∷
    "08000100000000000000000000000000" ∷
    "08000200000000000000000000000000" ∷
    "0b000200000000000000000000000000" ∷
    "08000200000000000000000000000000" ∷
    "0b1f0300040000000600000000000000" ∷ []

-- a question about that file's rows, with an answer buffer of one byte more than it asks for
abbrev of_composes : FileQuestion → Answered → FileCase
of_composes a answer =
    record {
      text = lines composes;
      lent = replicate 177 7;
      asked = a;
      answer = answer;
      after = frames composes
          ++ 7 ∷ [];
    }

-- a constant array with count 0, after the scalar that it names
abbrev pub no_count : List String
no_count =
    "01010000020400000000000000000000" ∷
    "01080000000000000000000010000000" ∷ []

-- a scalar type, a pointer to it in Function, and two alike structs of one member
abbrev forms : List String
forms =
    "01010000020400000000000000000000" ∷
    "01060000000000000000000000000000" ∷
    "01090000010000000000000000000000" ∷
    "01090000010000000000000000000000" ∷
    "02000000000000000000000000000000" ∷ []

-- two frames compared over that file
abbrev compared : String → String → Sameness → FileCase
compared l r answer =
    record {
      text = lines forms;
      lent = replicate 81 7;
      asked = same (frame l)
          (frame r);
      answer = sameness answer;
      after = frames forms ++ 7 ∷ [];
    }

-- types 0 to 9: f32, vec3 of it, a pointer to type 0 in Function, one to type 1 in Private, kind 200, a pointer to it,
-- the value pointers to f32 in Function and to a vec3 of it in Uniform, an atomic of u32, a pointer to it in WorkGroup
abbrev pointers : List String
pointers =
    "01010000020400000000000000000000" ∷
    "01020300020400000000000000000000" ∷
    "01060000000000000000000000000000" ∷
    "01060100000001000000000000000000" ∷
    "01c80000000000000000000000000000" ∷
    "01060400000000000000000000000000" ∷
    "01070000020400000000000000000000" ∷
    "01070300020403000000000000000000" ∷
    "01050000010400000000000000000000" ∷
    "01060800000002000000000000000000" ∷ []

-- a question about that file's types
abbrev of_pointers : FileQuestion → Answered → FileCase
of_pointers a answer =
    record {
      text = lines pointers;
      lent = replicate 161 7;
      asked = a;
      answer = answer;
      after = frames pointers
          ++ 7 ∷ [];
    }

-- the fourteen kinds of type, two members, the eight kinds of item, the thirty-four kinds of row, three components
abbrev file : List String
file =
    "01010000020400000000000000000000" ∷
    "01020300020400000000000000000000" ∷
    "01030403020400000000000000000000" ∷
    "01040810020402000000000000000000" ∷
    "01050000010400000000000000000000" ∷
    "01060100000004030000000000000000" ∷
    "01070000000409000000000000000000" ∷
    "01080000000000000500000004000000" ∷
    "01090000020000000000000008000000" ∷
    "010a0201000201000000000000000000" ∷
    "010b0100000000000000000000000000" ∷
    "010c0000000000000000000000000000" ∷
    "010d0100000000000000000000000000" ∷
    "010e0900010000000000000000000000" ∷
    "02000000000000000000000000000000" ∷
    "02000100000000000000000004000000" ∷
    "03010000000000000000000000000000" ∷
    "03020000000000000000000000000000" ∷
    "03030900000005000000000000000000" ∷
    "03040100000000000000000000000000" ∷
    "03050100000000000000000000000000" ∷
    "03060000010000000000000000000000" ∷
    "03070800000000000000000000000000" ∷
    "03080700000000000000000000000000" ∷
    "04010000000001000000000000000000" ∷
    "04020000000000000000000000000000" ∷
    "04030000000000000000000000000000" ∷
    "04040100000000000000000000000000" ∷
    "04050100030000000000000000000000" ∷
    "04060400000000000000000000000000" ∷
    "04070400000000000000000002000000" ∷
    "04080000000002000000000000000000" ∷
    "04090400000002000000000000000000" ∷
    "040a0000000000000000000000000000" ∷
    "040b0000000000000000000000000000" ∷
    "040c0000000000000000000000000000" ∷
    "040d0b00000000000000000000000000" ∷
    "040e0a00000001000000000000000000" ∷
    "040f0a00000000000000000000000000" ∷
    "04100a00000000000000000000000000" ∷
    "04110000000000000000000000000000" ∷
    "04120000030002000000000000000000" ∷
    "04130000000000000000000000000000" ∷
    "04140000000000000000000000000000" ∷
    "04150000000000000000000000000000" ∷
    "0416ffffffffffffffffffffffffffff" ∷
    "04170000000000010400000000000000" ∷
    "04180000000000000000000000000000" ∷
    "04190000000000000000000000000000" ∷
    "041a0000000000000000000000000000" ∷
    "041b0000000000000000000000000000" ∷
    "041c0000000000000000000000000000" ∷
    "041d0000000000000000000000000000" ∷
    "041e0000000000000000000000000000" ∷
    "041f0000000000000000000000000000" ∷
    "04200000000000000000000000000000" ∷
    "04210b00000008100100000000000000" ∷
    "04222000000000000000000000000000" ∷
    "05000000000000000000000000000000" ∷
    "05000000000000000000000000000000" ∷
    "05000100000000000000000000000000" ∷ []

-- FILES THAT ARE NOT ACCEPTED

-- f32, a vec2 of it, row 0 a value of f32, row 1 a vec2 composed from row 0 twice: 6 frames, and 3 answers. A fault may
-- stand in the vec2, in row 0 or in the last component.
abbrev pair : String → String → String → List String
pair vec2 row0 last =
    "01010000020400000000000000000000" ∷
    vec2 ∷
    row0 ∷
    "04050100020000000000000000000000" ∷
    "05000000000000000000000000000000" ∷
    last ∷ []

abbrev sound : List String
sound = pair "01020200020400000000000000000000" "04040000000000000000000000000000" "05000000000000000000000000000000"

-- number 2 at line 2: a digit in upper case
abbrev torn : List String
torn = pair "01020200020400000000000000000000" "0404000000000000000000000000000A" "05000000000000000000000000000000"

-- number 4 at frame 5: a row after a component
abbrev disordered : List String
disordered = pair "01020200020400000000000000000000" "04040000000000000000000000000000"
    "04040000000000000000000000000000"

-- number 5 at frame 1: a vector of 5
abbrev unfit : List String
unfit = pair "01020500020400000000000000000000" "04040000000000000000000000000000" "05000000000000000000000000000000"

-- number 6 at frame 5: a component that names its own compose
abbrev misplaced : List String
misplaced = pair "01020200020400000000000000000000" "04040000000000000000000000000000"
    "05000100000000000000000000000000"

-- what `type_rows` (with `type_file`), `row_type` and `compose_verdict` do with a file that is not accepted ("Numbers
-- handed back"): each gives the file's number and place; no frame is handed back; the answer buffer `an` stays as it
-- was; the frame buffer is `after`. Row 1 is a compose, and row 9 none of the file's: that it is out of range is found
-- out after the file is accepted, so it gets the file's number too.
abbrev refused : List ℕ → List ℕ → List ℕ → FileError → List ℕ → List FileCase
refused t lent an e after =
    record { text = t; lent = lent; asked = types an; answer = types_are (Err e) 0 an; after = after }
    ∷ record { text = t; lent = lent; asked = row 1 an; answer = row_is (RowGiven.not_accepted e) an; after = after }
    ∷ record { text = t; lent = lent; asked = row 9 an; answer = row_is (RowGiven.not_accepted e) an; after = after }
    ∷ record {
      text = t;
      lent = lent;
      asked = verdict 1 an;
      answer = verdict_is
          (VerdictGiven.not_accepted e) an;
      after = after;
    }
    ∷ record {
      text = t;
      lent = lent;
      asked = verdict 9 an;
      answer = verdict_is
          (VerdictGiven.not_accepted e) an;
      after = after;
    }
    ∷ []

-- 1 to 3 change no buffer; 4 to 6 write the frame buffer, whose byte past the frames stays
abbrev refusals : List FileCase
refusals =
    -- 33,793 bytes, none of them in a whole line: 1 comes before 2
    refused (replicate 33793 10) (replicate 97 7) (replicate 49 9) (Long 1024) (replicate 97 7)
    ++ refused (lines torn) (replicate 97 7) (replicate 49 9) (Torn 2) (replicate 97 7)
    -- with both buffers too small: 2 comes before 3
    ++ refused (lines torn) (replicate 95 7) (replicate 47 9) (Torn 2) (replicate 95 7)
    -- a frame buffer, then an answer buffer, one byte too small; the same with a fault of order: 3 comes before 4
    ++ refused (lines sound) (replicate 95 7) (replicate 49 9) Short (replicate 95 7)
    ++ refused (lines sound) (replicate 97 7) (replicate 47 9) Short (replicate 97 7)
    ++ refused (lines disordered) (replicate 97 7) (replicate 63 9) Short (replicate 97 7)
    -- from here on the frames are written
    ++ refused (lines disordered) (replicate 97 7) (replicate 65 9) (Order 5) (frames disordered ++ 7 ∷ [])
    ++ refused (lines unfit) (replicate 97 7) (replicate 49 9) (Field 1) (frames unfit ++ 7 ∷ [])
    ++ refused (lines misplaced) (replicate 97 7) (replicate 49 9) (Index 5) (frames misplaced ++ 7 ∷ [])
    -- the line that each prints: number and place
    ++ prints (lines torn) ("0a020200000000000000000000000000" ∷ [])
    ∷ prints (lines disordered) ("0a040500000000000000000000000000" ∷ [])
    ∷ prints (lines unfit) ("0a050100000000000000000000000000" ∷ [])
    ∷ prints (lines misplaced) ("0a060500000000000000000000000000" ∷ [])
    -- the same file without a fault is typed
    ∷ record {
      text = lines sound;
      lent = replicate 97 7;
      asked = types (replicate 49 9);
      answer =
          types_are (Ok 6) 3
          (frames ("08000000000000000000000000000000" ∷ "08000100000000000000000000000000"
          ∷ "0b000100000000000000000000000000" ∷ []) ++ 9 ∷ []);
      after = frames sound ++ 7 ∷ [];
    }
    ∷ []

abbrev pub file_cases : List FileCase
file_cases =
    -- the document's file, and its six lines
    prints (lines paper)
    ("09060100000000000000000000000000" ∷
    "09070000020400000000000000000000" ∷
    "09010000020400000000000000000000" ∷
    "09060200000000000000000000000000" ∷
    "0a160400000000000000000000000000" ∷
    "0a0a0000030000000000000000000000" ∷ [])
    -- empty file, no lines
    ∷ prints [] []
    -- Matrix 3 by 2 at index 2 vector of 2, at 3 number 10
    ∷ prints (lines matrix)
    ("08000000000000000000000000000000" ∷
    "09020200020400000000000000000000" ∷
    "0a0a0000030000000000000000000000" ∷ [])
    -- scalar times vector gives the vector
    ∷ prints (lines product)
    ("08000000000000000000000000000000" ∷
    "08000100000000000000000000000000" ∷
    "08000100000000000000000000000000" ∷ [])
    -- vec4 from vec3 and scalar passes, from two vec3 count 4 given 6
    ∷ prints (lines composes) composed
    -- the constant array count 0 number 5
    ∷ prints (lines no_count) ("0a050100000000000000000000000000" ∷ [])
    -- 1,025 lines number 1
    ∷ prints (lines (replicate 1025 "01010000020400000000000000000000")) ("0a010004000000000000000000000000" ∷ [])
    -- pointer to a scalar type equals the value pointer, in either order
    ∷ compared "08000100000000000000000000000000" "09070000020400000000000000000000" (Ok true)
    ∷ compared "09070000020400000000000000000000" "08000100000000000000000000000000" (Ok true)
    -- two alike structs differ
    ∷ compared "08000200000000000000000000000000" "08000300000000000000000000000000" (Ok false)
    -- MORE: the buffers of the empty file, of the array and of the 1,025 lines
    ∷ record { text = []; lent = 7 ∷ []; asked = read; answer = outcome (Ok 0); after = 7 ∷ [] }
    ∷ record {
      text = lines no_count;
      lent = replicate 33 7;
      asked = read;
      answer = outcome
          (Err (Field 1));
      after = frames no_count ++ 7 ∷ [];
    }
    ∷ record {
      text = lines
          (replicate 1025 "01010000020400000000000000000000");
      lent = 7 ∷ [];
      asked = read;
      answer = outcome
          (Err (Long 1024));
      after = 7 ∷ [];
    }
    -- rows over buffers that are lent: all, one, and one compose; a row that the file does not have, and one that is no
    -- compose, leave the answer buffer
    ∷ of_composes (types (replicate 97 9)) (types_are (Ok 11) 6 (frames composed ++ 9 ∷ []))
    ∷ of_composes (row 3 (replicate 97 9))
    (row_is (RowGiven.answer (told (given (number (record { 0 = 2 }))))) (frames composed ++ 9 ∷ []))
    ∷ of_composes (row 4 (replicate 97 9)) (row_is RowGiven.no_row (replicate 97 9))
    ∷ of_composes (verdict 3 (replicate 97 9))
    (verdict_is (VerdictGiven.verdict (told (count 4 6))) (frames composed ++ 9 ∷ []))
    ∷ of_composes (verdict 1 (replicate 97 9)) (verdict_is no_compose (replicate 97 9))
    ∷ of_composes (verdict 4 (replicate 97 9)) (verdict_is VerdictGiven.no_row (replicate 97 9))
    -- the value pointer of a pointer to a scalar or vector, in its space; every other type is its own, by its number
    ∷ of_pointers (canonical 2) (canonical_is (Ok (Tr.Value (Ti.ValuePointer None F32 Sp.Function))))
    ∷ of_pointers (canonical 3) (canonical_is (Ok (Tr.Value (Ti.ValuePointer (Some Vs.Tri) F32 Sp.Private))))
    ∷ of_pointers (canonical 9) (canonical_is (Ok (Tr.Handle (record { 0 = 9 }))))
    ∷ of_pointers (canonical 6) (canonical_is (Ok (Tr.Handle (record { 0 = 6 }))))
    -- 22 where the type, or a pointer's base, is of unknown kind; 6 for a number out of range; the file's own number
    -- first
    ∷ of_pointers (canonical 4) (canonical_is (Err Te.Newer))
    ∷ of_pointers (canonical 5) (canonical_is (Err Te.Newer))
    ∷ of_pointers (canonical 10) (canonical_is (Err Te.Index))
    ∷ record {
      text = lines no_count;
      lent = replicate 33 7;
      asked = canonical 10;
      answer = canonical_is
          (Err (Te.NotAccepted (Field 1)));
      after = frames no_count ++ 7 ∷ [];
    }
    -- the base: a number, also where its kind is unknown; of a value pointer a scalar or a vector by value; no pointer
    ∷ of_pointers (base 2) (base_is (Ok (Some (Tr.Handle (record { 0 = 0 })))))
    ∷ of_pointers (base 5) (base_is (Ok (Some (Tr.Handle (record { 0 = 4 })))))
    ∷ of_pointers (base 6) (base_is (Ok (Some (Tr.Value (Ti.Scalar F32)))))
    ∷ of_pointers (base 7) (base_is (Ok (Some (Tr.Value (Ti.Vector Vs.Tri F32)))))
    ∷ of_pointers (base 0) (base_is (Ok None))
    ∷ of_pointers (base 4) (base_is (Err Te.Newer))
    ∷ of_pointers (base 10) (base_is (Err Te.Index))
    ∷ record {
      text = lines no_count;
      lent = replicate 33 7;
      asked = base 10;
      answer = base_is
          (Err (Te.NotAccepted (Field 1)));
      after = frames no_count ++ 7 ∷ [];
    }
    -- the paper's file is read to its last row
    ∷ record {
      text = lines paper;
      lent = replicate 176 7;
      asked = read;
      answer = outcome
          (Ok 11);
      after = frames paper;
    }
    -- a frame of each kind
    ∷ record {
      text = lines file;
      lent = replicate 976 7;
      asked = read;
      answer = outcome
          (Ok 61);
      after = frames file;
    }
    -- files that are not accepted
    ∷ refusals
