-- How a worked example of the claim is written: a text, a later reader's choice, and for every row, compose and some
-- comparisons what is asked, what we give, what the later reader gives and what the reading meets.
use Rattle.std.specs.Prelude.{ℕ, List}
use Rattle.std.proofs.Math.Option.{Option, none, some}
use Rattle.frames.specs.declared.Frame.{Frame}
use Rattle.frames.specs.Bytes.{frame_at}
use Rattle.frames.specs.Written.{short}
use Rattle.rule.specs.Answers.{Place}
use Rattle.rule.specs.Answers as Answers
use Rattle.law_later_readers.specs.Reader.{Choice}

abbrev pub frame : List ℕ → Frame
frame b = frame_at b 0

-- what is asked of the file: the answer of a row, or the verdict on a compose
pub data LaterQuestion : Type 0 where
  row verdict : ℕ → LaterQuestion

-- and of two frames: whether they are the same type
pub record Two : Type 0 where
  pub left : Frame
  pub right : Frame

-- what is asked, our bytes, the later reader's, and the place of the newer thing that the reading meets
pub record LaterLine (A : Type 0) : Type 0 where
  pub asked : A
  pub ours : List ℕ
  pub theirs : List ℕ
  pub meets : Option Place

-- the reading meets none: both give the same
abbrev pub known : {A : Type 0} → A → List ℕ → LaterLine A
known q b = record { asked = q; ours = b; theirs = b; meets = none }

-- it meets one: ours, theirs, and its place
abbrev pub newer : {A : Type 0} → A → List ℕ → List ℕ → Place → LaterLine A
newer q b c p = record { asked = q; ours = b; theirs = c; meets = some p }

abbrev pub at_row : ℕ → Place
at_row m = Answers.row (record { 0 = m })

-- a verdict on row m, with its number and its component
abbrev pub verdict_of_row : ℕ → ℕ → ℕ → List ℕ
verdict_of_row m number i = short 11 number m 0 i 0 0 0

abbrev pub two : List ℕ → List ℕ → Two
two a b = record { left = frame a; right = frame b }

-- a worked example: the text with its number of frames, the choice, every row, and after a compose its verdict, as they
-- stand in the answer buffer, and comparisons
pub record Example : Type 0 where
  pub text : List ℕ
  pub frames : ℕ
  pub choice : Choice
  pub answers : List (LaterLine LaterQuestion)
  pub comparisons : List (LaterLine Two)
