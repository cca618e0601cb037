-- A worked example of the claim, written by hand from document 01 ("A row's type", "Same type or not", "A compose's
-- verdict"): a text with a type and a row of unknown kind and a Math row, a later reader's choice, and what we give,
-- what the later reader gives and what the reading meets, for every row, compose and some comparisons.
use Rattle.std.specs.Prelude.{ℕ, List, [], ◌∷◌, ◌++◌, get_or}
use Rattle.text.specs.Lines.{text_of}
use Rattle.rule.specs.Answers.{component, composed, nowhere, told, alike}
use Rattle.frames.specs.Written.{full, short, plain_row, indexed, binary, compose, part, numbered, scalar, refusal}
use Rattle.frames.specs.Written.{bound}
use Rattle.law_later_readers.specs.Reader.{Choice}
use Rattle.case_later.specs.Tables.{frame, LaterQuestion, row, verdict, Two, LaterLine, known, newer, at_row}
use Rattle.case_later.specs.Tables.{verdict_of_row, two}
use Rattle.case_later.specs.Tables.{Example}

-- types 0 to 4: f32, a vector of two of it, kind 200, a pointer to it in Function, an array of two of it
abbrev types : List ℕ
types = short 1 1 0 0 2 4 0 0 ++ short 1 2 2 0 2 4 0 0 ++ short 1 200 0 0 0 0 0 0 ++ short 1 6 2 0 0 0 0 0
    ++ full 1 8 2 0 0 0 0 0 2 4

-- two locals, of type 1 and of type 2
abbrev locals : List ℕ
locals = short 3 5 1 0 0 0 0 0 ++ short 3 5 2 0 0 0 0 0

abbrev rows : List ℕ
rows =
    -- 0: a zero of type 0. 1 and 2: the first local, and its load. 3 and 4: the second local, and its load
    plain_row 4 0 ++ plain_row 12 0 ++ plain_row 13 1 ++ plain_row 12 1 ++ plain_row 13 3
    -- 5: a Math row. 6: a row of kind 99. 7: the negation of row 5. 8: rows 0 and 5 added. 9: rows 0 and 5 multiplied
    ++ plain_row 22 7 ++ plain_row 99 7 ++ plain_row 17 5 ++ binary 0 0 5 ++ binary 2 0 5
    -- 10: a zero of type 2. 11: component 0 of it. 12: the negation of row 6
    ++ plain_row 4 2 ++ indexed 7 10 0 ++ plain_row 17 6
    -- 13: type 1 from rows 0 and 5. 14: type 4 from row 10 twice. 15: type 2 from row 0. 16: component 5 of row 2. 17:
    -- type 1 from rows 16 and 5. 18: from rows 0 and 6
    ++ compose 1 2 0 ++ compose 4 2 2 ++ compose 2 1 4 ++ indexed 7 2 5 ++ compose 1 2 5 ++ compose 1 2 7

abbrev components : List ℕ
components =
    part 0 ++ part 5 ++ part 10 ++ part 10 ++ part 0 ++ part 16 ++ part 5 ++ part 0
    ++ part 6

-- THE LATER READER'S CHOICE

-- row 4 is a u32, row 5 type 0, row 6 a refusal with a number of its own, row 11 type 1; the others are not asked for,
-- as their rules come to nothing newer
abbrev chosen_row : ℕ → List ℕ
chosen_row m = get_or ([] ∷ [] ∷ [] ∷ [] ∷ scalar 1 4 ∷ numbered 0 ∷ refusal 99 3 ∷ [] ∷ [] ∷ [] ∷ [] ∷ numbered 1 ∷ [])
    m
    []

-- every verdict is number 30 on row 15; every two frames are the same type
abbrev choice : Choice
choice = record {
  rows = λ m. frame (chosen_row m);
  verdicts = λ m. frame
      (short 11 30 15 0 0 0 0 0);
  same = λ a b. told alike;
}

-- THE TABLES

abbrev answers : List (LaterLine LaterQuestion)
answers =
    known (row 0) (numbered 0)
    ∷ known (row 1) (short 9 6 1 0 0 0 0 0)
    ∷ known (row 2) (numbered 1)
    -- a pointer to an unknown kind is passed on unlooked-at; its load looks into it
    ∷ known (row 3) (short 9 6 2 0 0 0 0 0)
    ∷ newer (row 4) (refusal 22 4) (scalar 1 4) (at_row 4)
    -- the rows' own kinds
    ∷ newer (row 5) (refusal 22 5) (numbered 0) (at_row 5)
    ∷ newer (row 6) (refusal 22 6) (refusal 99 3) (at_row 6)
    -- an operand's 22 is passed on with its place; Add reads its left operand only, Multiply both
    ∷ newer (row 7) (refusal 22 5) (numbered 0) (at_row 5)
    ∷ known (row 8) (numbered 0)
    ∷ newer (row 9) (refusal 22 5) (numbered 0) (at_row 5)
    ∷ known (row 10) (numbered 2)
    ∷ newer (row 11) (refusal 22 11) (numbered 1) (at_row 11)
    -- a chosen refusal is passed on as it stands
    ∷ newer (row 12) (refusal 22 6) (refusal 99 3) (at_row 6)
    -- a compose has its type whatever its components; component 1 is newer to us, and fits for the later reader
    ∷ known (row 13) (numbered 1)
    ∷ newer (verdict 13) (verdict_of_row 13 22 1) (verdict_of_row 13 0 0) (component 1)
    -- identical answers are the same type before any look
    ∷ known (row 14) (numbered 4)
    ∷ known (verdict 14) (verdict_of_row 14 0 0)
    -- the composed type itself is of unknown kind
    ∷ known (row 15) (numbered 2)
    ∷ newer (verdict 15) (11 ∷ 22 ∷ 15 ∷ 0 ∷ 255 ∷ 255 ∷ 255 ∷ 255 ∷ 0 ∷ 0 ∷ 0 ∷ 0 ∷ 0 ∷ 0 ∷ 0 ∷ 0 ∷ [])
    (verdict_of_row 15 30 0) composed
    ∷ known (row 16) (bound 2 5)
    -- component 0 is refused: component 1, which is newer, is not come to
    ∷ known (row 17) (numbered 1)
    ∷ known (verdict 17) (verdict_of_row 17 33 0)
    -- component 1 is newer to us, and refused by the later reader's choice for row 6
    ∷ known (row 18) (numbered 1)
    ∷ newer (verdict 18) (verdict_of_row 18 22 1) (verdict_of_row 18 33 1) (component 1)
    ∷ []

abbrev comparisons : List (LaterLine Two)
comparisons =
    -- a number and its value; two types
    known (two (numbered 0) (scalar 2 4)) (1 ∷ [])
    ∷ known (two (numbered 0) (numbered 1)) (0 ∷ [])
    -- identical numbers, before any look; an unknown kind looked into, and a pointer's base; a number out of range,
    -- before any look
    ∷ known (two (numbered 2) (numbered 2)) (1 ∷ [])
    ∷ newer (two (numbered 0) (numbered 2)) (refusal 22 0) (1 ∷ []) nowhere
    ∷ newer (two (numbered 0) (numbered 3)) (refusal 22 0) (1 ∷ []) nowhere
    ∷ known (two (numbered 5) (numbered 2)) (refusal 6 0)
    ∷ []

abbrev pub example : Example
example =
    record {
      text = text_of (types ++ locals ++ rows ++ components) 35;
      frames = 35;
      choice = choice;
      answers = answers;
      comparisons = comparisons;
    }
