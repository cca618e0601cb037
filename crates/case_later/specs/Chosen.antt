-- A second worked example, written by hand from document 01 ("A row's type", its last paragraphs): a later reader that
-- chooses answers which no rule of ours makes. Each is passed on as it stands by a rule that looks into nothing. A type
-- among them that is looked into counts as one of unknown kind: there the row's own choice stands, and in a verdict's
-- comparison the whole verdict is the chosen one. A refusal and a 22 among them are passed on before any look, and
-- count as such in a verdict.
use Rattle.std.specs.Prelude.{ℕ, cond, List, [], ◌∷◌, ◌++◌, eqb}
use Rattle.text.specs.Lines.{text_of}
use Rattle.rule.specs.Answers.{component, told, alike}
use Rattle.frames.specs.Written.{full, short, plain_row, marked, indexed, binary, compose, part, numbered, scalar}
use Rattle.frames.specs.Written.{vector}
use Rattle.frames.specs.Written.{refusal}
use Rattle.law_later_readers.specs.Reader.{Choice}
use Rattle.case_later.specs.Tables.{frame, LaterQuestion, row, verdict, Two, LaterLine, known, newer, at_row}
use Rattle.case_later.specs.Tables.{verdict_of_row, two}
use Rattle.case_later.specs.Tables.{Example}

abbrev types : List ℕ
types =
    -- 0 to 3: f32, a vector of two of it, kind 200, an array of two f32
    short 1 1 0 0 2 4 0 0 ++ short 1 2 2 0 2 4 0 0 ++ short 1 200 0 0 0 0 0 0 ++ full 1 8 0 0 0 0 0 0 2 4
    -- 4 and 5: a struct of member 0, and one of member 1
    ++ full 1 9 0 0 1 0 0 0 0 4 ++ full 1 9 1 0 1 0 0 0 0 4

-- two members, of type 0 and of type 4
abbrev members : List ℕ
members = short 2 0 0 0 0 0 0 0 ++ short 2 0 4 0 0 0 0 0

abbrev rows : List ℕ
rows =
    -- 0 and 1: a zero of type 0, and one of type 2
    plain_row 4 0 ++ plain_row 4 2
    -- 2: a row of kind 99. 3: the negation of it. 4: component 0 of it
    ++ plain_row 99 0 ++ plain_row 17 2 ++ indexed 7 2 0
    -- 5: a Math row. 6: the negation of it. 7: component 0 of row 6. 8: rows 5 and 2 multiplied
    ++ plain_row 22 0 ++ plain_row 17 5 ++ indexed 7 6 0 ++ binary 2 5 2
    -- 9: a Math row. 10: rows 9 and 0 added. 11: a vector of two from row 9 (Splat)
    ++ plain_row 22 0 ++ binary 0 9 0 ++ marked 8 9 2
    -- 12: a Math row. 13: a Select that accepts it. 14: its load
    ++ plain_row 22 0 ++ plain_row 19 12 ++ plain_row 13 12
    -- 15: a Math row. 16: the negation of it. 17: component 0 of row 16
    ++ plain_row 22 0 ++ plain_row 17 15 ++ indexed 7 16 0
    -- 18: a Math row. 19: a derivative of it. 20: component 0 of it
    ++ plain_row 22 0 ++ plain_row 20 18 ++ indexed 7 18 0
    -- 21: type 3 from rows 0 and 1. 22: type 3 from rows 6 and 2. 23: type 1 from row 13. 24: type 1 from rows 0 and
    -- 16. 25: type 5 from row 19. 26: type 1 from row 3
    ++ compose 3 2 0 ++ compose 3 2 2 ++ compose 1 1 4 ++ compose 1 2 5 ++ compose 5 1 7 ++ compose 1 1 8

abbrev components : List ℕ
components = part 0 ++ part 1 ++ part 6 ++ part 2 ++ part 13 ++ part 0 ++ part 16 ++ part 19 ++ part 3

-- THE LATER READER'S CHOICE

-- a refusal with a number of its own
abbrev chosen_refusal : List ℕ
chosen_refusal = refusal 99 3

-- a bad byte: the value of a vector of size 7
abbrev bad_byte : List ℕ
bad_byte = short 9 2 7 0 2 4 0 0

-- a stray byte: the number of type 0 with byte 4 set
abbrev stray_byte : List ℕ
stray_byte = short 8 0 0 0 1 0 0 0

-- a number out of range: there are 6 types
abbrev out_of_range : List ℕ
out_of_range = numbered 200

-- number 22 with a place of its own, and with byte 4 set
abbrev chosen22 : List ℕ
chosen22 = short 10 22 9 0 1 0 0 0

-- a struct as a value: laid as type 4
abbrev struct_value : List ℕ
struct_value = full 9 9 0 0 1 0 0 0 0 4

record ForRow : Type 0 where
  pub number : ℕ
  pub answer : List ℕ

abbrev for_row : ℕ → List ℕ → ForRow
for_row m b = record { number = m; answer = b }

-- for the rows of newer kinds, and for the rows that look into a type among these; the others are not asked for, as
-- their rules come to nothing newer
abbrev chosen_rows : List ForRow
chosen_rows =
    for_row 2 chosen_refusal
    ∷ for_row 5 bad_byte
    ∷ for_row 7 (scalar 0 8)
    ∷ for_row 9 stray_byte
    ∷ for_row 11 (vector 2 1 4)
    ∷ for_row 12 out_of_range
    ∷ for_row 14 (numbered 1)
    ∷ for_row 15 chosen22
    ∷ for_row 18 struct_value
    ∷ for_row 20 (refusal 99 5)
    ∷ []

abbrev answer_for : List ForRow → ℕ → List ℕ
answer_for [] m = []
answer_for (x ∷ l) m = cond (eqb x.number m) x.answer (answer_for l m)

-- every verdict is one with a number of its own, on row 7
abbrev chosen_verdict : List ℕ
chosen_verdict = verdict_of_row 7 99 0

abbrev choice : Choice
choice = record {
  rows = λ m. frame
      (answer_for chosen_rows m);
  verdicts = λ m. frame chosen_verdict;
  same = λ a b. told alike;
}

-- THE TABLES

abbrev answers : List (LaterLine LaterQuestion)
answers =
    known (row 0) (numbered 0)
    ∷ known (row 1) (numbered 2)
    -- a chosen refusal is passed on, also by a rule that would look into a type
    ∷ newer (row 2) (refusal 22 2) chosen_refusal (at_row 2)
    ∷ newer (row 3) (refusal 22 2) chosen_refusal (at_row 2)
    ∷ newer (row 4) (refusal 22 2) chosen_refusal (at_row 2)
    -- a value with a bad byte: passed on; what was passed on is looked into, and the choice for that row stands
    ∷ newer (row 5) (refusal 22 5) bad_byte (at_row 5)
    ∷ newer (row 6) (refusal 22 5) bad_byte (at_row 5)
    ∷ newer (row 7) (refusal 22 5) (scalar 0 8) (at_row 5)
    -- Multiply reads both operands before it looks into the left one's type: the right one is refused
    ∷ newer (row 8) (refusal 22 5) chosen_refusal (at_row 5)
    -- a number with a stray byte: passed on, looked into
    ∷ newer (row 9) (refusal 22 9) stray_byte (at_row 9)
    ∷ newer (row 10) (refusal 22 9) stray_byte (at_row 9)
    ∷ newer (row 11) (refusal 22 9) (vector 2 1 4) (at_row 9)
    -- a number out of range: passed on, looked into
    ∷ newer (row 12) (refusal 22 12) out_of_range (at_row 12)
    ∷ newer (row 13) (refusal 22 12) out_of_range (at_row 12)
    ∷ newer (row 14) (refusal 22 12) (numbered 1) (at_row 12)
    -- a chosen 22 is passed on with all its bytes, before any look
    ∷ newer (row 15) (refusal 22 15) chosen22 (at_row 15)
    ∷ newer (row 16) (refusal 22 15) chosen22 (at_row 15)
    ∷ newer (row 17) (refusal 22 15) chosen22 (at_row 15)
    -- a struct as a value: passed on; looked into, it is of unknown kind, as a comparison gives it 5, and its member is
    -- not found
    ∷ newer (row 18) (refusal 22 18) struct_value (at_row 18)
    ∷ newer (row 19) (refusal 22 18) struct_value (at_row 18)
    ∷ newer (row 20) (refusal 22 18) (refusal 99 5) (at_row 18)
    -- component 0 is identical to type 0; the comparison of component 1 looks into type 2, of unknown kind
    ∷ known (row 21) (numbered 3)
    ∷ newer (verdict 21) (verdict_of_row 21 22 1) chosen_verdict (component 1)
    -- the comparison of component 0 looks into the value with a bad byte; component 1, which is refused, is not come to
    ∷ known (row 22) (numbered 3)
    ∷ newer (verdict 22) (verdict_of_row 22 22 0) chosen_verdict (component 0)
    -- a part of a vector is looked into: a number out of range
    ∷ known (row 23) (numbered 1)
    ∷ newer (verdict 23) (verdict_of_row 23 22 0) chosen_verdict (component 0)
    -- a chosen 22 as a component is 22 at that component
    ∷ known (row 24) (numbered 1)
    ∷ newer (verdict 24) (verdict_of_row 24 22 1) (verdict_of_row 24 22 1) (component 1)
    -- the member's type, 4, is the number of a struct: another type, without a look into the struct as a value
    ∷ known (row 25) (numbered 5)
    ∷ newer (verdict 25) (verdict_of_row 25 22 0) (verdict_of_row 25 32 0) (component 0)
    -- a chosen refusal as a component is 33
    ∷ known (row 26) (numbered 1)
    ∷ newer (verdict 26) (verdict_of_row 26 22 0) (verdict_of_row 26 33 0) (component 0)
    ∷ []

abbrev comparisons : List (LaterLine Two)
comparisons =
    -- two frames handed in get their 5 or 6 before any look, whatever the choice is
    known (two bad_byte (numbered 2)) (refusal 5 0)
    ∷ known (two (numbered 2) stray_byte) (refusal 5 0)
    ∷ known (two (numbered 2) out_of_range) (refusal 6 0)
    ∷ known (two struct_value struct_value) (refusal 5 0)
    ∷ []

abbrev pub example : Example
example =
    record {
      text = text_of (types ++ members ++ rows ++ components) 44;
      frames = 44;
      choice = choice;
      answers = answers;
      comparisons = comparisons;
    }
