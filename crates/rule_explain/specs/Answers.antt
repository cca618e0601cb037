-- What each line for people says, as pieces (docs/EXPLAIN.md): of an answer or verdict (document 01, the end of "The
-- file": families 8 to 11), and of the fault of a file that is not accepted ("Numbers handed back", 1 to 6).
use Rattle.std.specs.Prelude.{ℕ, ◌+◌, ◌*◌, cond, List, [], ◌∷◌, ◌++◌, ltb, eqb}
use Rattle.ir.specs.declared.RowNumber.{RowNumber}
use Rattle.frames.specs.declared.Frame.{Frame}
use Rattle.frames.specs.Bytes.{half, word, frame_at}
use Rattle.rule_explain.specs.Words as W
use Rattle.rule_explain.specs.Lines.{num, spelled}
use Rattle.rule_explain.specs.Types.{picked, whole}

-- how a part was asked for: `indexed`, byte 8
unfoldable pub manner : ℕ → ℕ
manner flag = cond (eqb flag 1) W.constant W.computed

-- why a row is refused, by the number: 10 to 20, and 41, which the second pass gives (document 02, request 3)
unfoldable pub reason : ℕ → ℕ
reason n = cond (eqb n 41) W.mismatch (picked W.reason 10 11 n)

-- a row's refusal: `refused 22 newer: met at row 4`, `refused 10 bound: operand row 0, index 3`
unfoldable pub refusal : Frame → List ℕ
refusal f =
    cond (eqb f.b1 22) (W.newer ∷ num (half f 2) ∷ [])
    (W.refused ∷ num f.b1 ∷ reason f.b1
    ∷ cond (eqb f.b1 10) (num (half f 2) ∷ W.index ∷ num (word f 4) ∷ [])
    (cond (ltb f.b1 13) (num (half f 2) ∷ manner f.b8 ∷ [])
    (cond (ltb f.b1 17) (num (half f 2) ∷ []) (cond (eqb f.b1 19) (num (word f 4) ∷ []) []))))

-- a compose's verdict: `verdict: passes`, `verdict: 31 count: expected 4, given 6`
unfoldable pub judged_words : Frame → List ℕ
judged_words f =
    W.verdict
    ∷ cond (eqb f.b1 0) (W.passes ∷ [])
    (cond (eqb f.b1 22) (cond (eqb (word f 4) 0xffff_ffff) (W.newer_whole ∷ []) (W.newer_part ∷ num (word f 4) ∷ []))
    (num f.b1 ∷ picked W.judged 30 4 f.b1
    ∷ cond (eqb f.b1 31) (num (word f 4) ∷ W.given ∷ num (word f 8) ∷ [])
    (cond (ltb 31 f.b1) (num (word f 4) ∷ []) [])))

-- what an answer or verdict says; a type number says the type
unfoldable pub said : List ℕ → Frame → List ℕ
said fr f =
    cond (eqb f.b0 8) (whole fr (frame_at fr (half f 2)))
    (cond (eqb f.b0 9) (whole fr f) (cond (eqb f.b0 11) (judged_words f) (refusal f)))

-- the row of a line: a verdict names it
unfoldable pub shown : RowNumber → Frame → RowNumber
shown row f = cond (eqb f.b0 11) (record { 0 = half f 2 }) row

-- what ends a line: a type number says so
unfoldable pub ending : Frame → List ℕ
ending f = cond (eqb f.b0 8) (W.numbered ∷ num (half f 2) ∷ W.ends ∷ []) (W.feed ∷ [])

-- THE LINE of an answer or verdict, f, where row `row` is the next to be answered, in a file whose frames these are
unfoldable pub line_of : List ℕ → RowNumber → Frame → List ℕ
line_of fr row f = spelled ((W.row ∷ num (shown row f).0 ∷ W.gap ∷ []) ++ said fr f ++ ending f)

-- THE LINE of a file that is not accepted, by the frame of its number and place: `line 2: number 5, field: a byte is
-- outside its values`. Lines count from 1 here.
-- Numbers 1 and 3 name no line; number 1 names the limit, `number 1, long: over 256 frames (8448 bytes)`.
unfoldable pub fault_words : Frame → List ℕ
fault_words f =
    cond (eqb f.b1 1) (W.number ∷ num f.b1 ∷ picked W.fault 1 6 f.b1 ∷ num (half f 2) ∷ W.frames_of ∷ num
    (33 * half f 2) ∷ W.bytes ∷ W.feed ∷ [])
    (cond (eqb f.b1 3) (W.number ∷ num f.b1 ∷ picked W.fault 1 6 f.b1 ∷ W.feed ∷ [])
    (W.line ∷ num (half f 2 + 1) ∷ W.colon ∷ W.number ∷ num f.b1 ∷ picked W.fault 1 6 f.b1 ∷ W.feed ∷ []))

-- its bytes
abbrev pub fault_line : Frame → List ℕ
fault_line f = spelled (fault_words f)
