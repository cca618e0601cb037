-- What the line of a type's size or range of sizes says, as pieces (docs/EXPLAIN.md; document 02, requests 5 and 6):
-- of the frame of alignment and size, of that of a range, or of a number 42 to 44; and the line of number 45.
use Rattle.std.specs.Prelude.{ℕ, cond, List, [], ◌∷◌, ◌++◌, eqb}
use Rattle.ir.specs.declared.TypeNumber.{TypeNumber}
use Rattle.frames.specs.declared.Frame.{Frame}
use Rattle.frames.specs.Bytes.{half, word, frame_at}
use Rattle.rule_explain.specs.Words as W
use Rattle.rule_explain.specs.Lines.{num, spelled}
use Rattle.rule_explain.specs.Types.{picked, whole}

-- `  align 16, size 12`, `  align 4, size 4 to 20`, and `  refused 43 misplaced: type 8`, which is the lowest faulty
-- type
unfoldable pub size_words : Frame → List ℕ
size_words f =
    W.gap
    ∷ cond (eqb f.b0 12) (W.align ∷ num f.b4 ∷ W.size ∷ num (word f 8) ∷ W.feed ∷ [])
    (cond (eqb f.b0 13) (W.align ∷ num f.b4 ∷ W.size ∷ num (word f 8) ∷ W.to ∷ num (word f 12) ∷ W.feed ∷ [])
    (W.refused ∷ num f.b1 ∷ picked W.unmeasured 42 3 f.b1 ∷ num (half f 2) ∷ W.feed ∷ []))

-- THE LINE of number 45: `number 45, span: override 2`
unfoldable pub span_words : ℕ → List ℕ
span_words o = W.number ∷ num 45 ∷ W.span ∷ num o ∷ W.feed ∷ []

abbrev pub span_of : ℕ → List ℕ
span_of o = spelled (span_words o)

-- THE LINE of type n, whose size frame f says, in a file whose frames these are: `type 3  vec3<f32>  align 16, size 12`
unfoldable pub size_line_of : List ℕ → TypeNumber → Frame → List ℕ
size_line_of fr n f = spelled ((W.type ∷ num n.0 ∷ W.gap ∷ []) ++ whole fr (frame_at fr n.0) ++ size_words f)
