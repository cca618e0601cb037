-- What the exported functions return, and the frame that each writes at the front of its out-slice (document 01,
-- "Numbers handed back" and "Out" at the end of "The file"). A document's number has one byte in a frame; what is said
-- in words has numbers above 255 (docs/DECISIONS.md).
use Rattle.std.specs.Prelude.{ℕ, cond, List, ltb, eqb, length}
use Rattle.answers.specs.Outcome.{Outcome}
use Rattle.answers.specs.Numbers.{no_refusal, outcome_values, error_values, Said, SaidOf, SaidOne, alike, different}
use Rattle.answers.specs.Numbers.{numbered, type}
use Rattle.answers.specs.Numbers.{no_pointer, refused, asked, instead}
use Rattle.text.specs.Room.{short_read}
use Rattle.frames.specs.declared.Frame.{Frame}
use Rattle.frames.specs.Bytes.{frame_at, zero_frame}
use Rattle.frames.specs.Out.{resolution_frame, refused_frame}
use Rattle.rule_rows.specs.declared.Pass.{Pass}
use Rattle.rule_rows.specs.declared.Pass.TheVariants.{First, Second}

-- the number of reading or typing a file: 0 for one that is accepted
abbrev pub outcome_number : Outcome → ℕ
outcome_number o = (outcome_values o).number

-- AN OUT-SLICE OF FEWER THAN 16 BYTES is a lent buffer too small: number 3, unless the text has number 1 or 2, since
-- checks run in order

-- what is returned then
unfoldable pub no_room : ℕ → List ℕ → ℕ
no_room limit t = (error_values (short_read limit t)).number

-- what holds of an out-slice that is too small, else what holds of one that has room
abbrev pub by_room : {A : Type 0} → List ℕ → A → A → A
by_room out short enough = cond (ltb (length out) 16) short enough

-- NUMBERS AND FRAMES, from what is said in document 01's numbers (answers/specs/Numbers.antt): a number 1 to 6, or 22,
-- is returned and stands in the frame, with its place; 0 is returned where what was asked for was given.

-- a row's answer or a compose's verdict, whatever it is; or the number instead, which stands in the frame too
-- (`one_frame`, frames/specs/Out.antt)
abbrev pub one_number : {A : Type 0} → SaidOne A → ℕ
one_number (asked a) = no_refusal.number
one_number (instead r) = r.number

-- a comparison: 0 for yes, 256 for no; the frame of both is that of number 0
abbrev pub said_number : Said → ℕ
said_number alike = no_refusal.number
said_number different = 256
said_number (numbered r) = r.number

abbrev pub said_frame : Said → Frame
said_frame alike = refused_frame no_refusal
said_frame different = refused_frame no_refusal
said_frame (numbered r) = refused_frame r

-- a canonical form or a base: the type's frame; 257 with the frame of number 0 where type n is no pointer
abbrev pub type_said_number : SaidOf → ℕ
type_said_number (type t) = no_refusal.number
type_said_number no_pointer = 257
type_said_number (refused r) = r.number

abbrev pub type_said_frame : SaidOf → Frame
type_said_frame (type t) = resolution_frame t
type_said_frame no_pointer = refused_frame no_refusal
type_said_frame (refused r) = refused_frame r

-- THE PASS HANDED IN as a number: 0 is the first and 1 the second, and any other counts as the first
unfoldable pub pass_of : ℕ → Pass
pass_of n = cond (eqb n 1) Second First

-- A FRAME HANDED IN as bytes. One of another length than 16 is taken for the frame of zeros, which is of no family and
-- so gets 5: `wrong-left`, `wrong-right` (gelmusko/proofs/Lengths.antt)
unfoldable pub handed_frame : List ℕ → Frame
handed_frame s = cond (eqb (length s) 16) (frame_at s 0) zero_frame
