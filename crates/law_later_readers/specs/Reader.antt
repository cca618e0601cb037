-- Demand 3, the claim on later readers: one claim over the whole file, as a predicate on any reader of texts (document
-- 01, "A row's type", its last paragraphs). The words reading and meets are defined in rule/specs/Rule.antt; the rules
-- that are read stand in rule_rows, rule_types and rule_compose.
--
-- The claim is made for every pass and every limit. A pass says which rules type Binary rows, the first or the second
-- (`Pass`, rule_rows/src/lib.rt): a reader and the later readers that it is held against type by the same pass. A limit
-- is the most frames that a file may have, 1 to 1,024, any other number counting as 1,024 (`most_frames`,
-- text/specs/Reading.antt): it says which texts are accepted, and nothing else here.
use Rattle.std.specs.Prelude.{ℕ, ◌*◌, ◌<◌, ◌≡◌, List, [], ◌∷◌, ◌↔◌, get_or, Ok}
use Rattle.std.proofs.Math.Option.{Option, none, some}
use Rattle.answers.specs.Numbers.{Said, alike, different, numbered, sameness_said}
use Rattle.text.specs.declared.AnswerRoom.TheVariants.{Lent}
use Rattle.text.specs.Lines.{line_count, decoded}
use Rattle.text.specs.Reading.{answer_bytes}
use Rattle.frames.specs.declared.Frame.{Frame}
use Rattle.frames.specs.Bytes.{bytes_of}
use Rattle.frames.specs.Out.{refused_frame}
use Rattle.archive.specs.Starts.{starts_of, row_count}
use Rattle.rule.specs.Answers.{Typed, Judgement, Compared, Place, Result, newer, row_frame, verdict_frame}
use Rattle.rule.specs.Answers.{type_answer_of}
use Rattle.rule.specs.Answers.{row_answer_of, chosen_judgement}
use Rattle.rule.specs.Things.{see}
use Rattle.rule.specs.Rule.{Rule, met}
use Rattle.rule.specs.InOrder.{later, reading}
use Rattle.rule_types.specs.Comparison.{handed, sameness_of}
use Rattle.rule_rows.specs.declared.Pass.{Pass}
use Rattle.rule_rows.specs.Typed.{typing}
use Rattle.rule_compose.specs.Rows.{verdict_rule}
use Rattle.rule_file.specs.File.{read_file}

-- a reader: for every text and row number the bytes of the row's answer and of the compose's verdict, and for every
-- text and two frames those of the comparison
pub record Reader : Type 0 where
  pub row : List ℕ → ℕ → List ℕ
  pub verdict : List ℕ → ℕ → List ℕ
  pub same : List ℕ → Frame → Frame → List ℕ

-- OUTCOMES AS BYTES

-- a row's answer and the verdict on row m: sixteen bytes (the end of "The file")
abbrev pub row_bytes : Result Typed → List ℕ
row_bytes a = bytes_of (row_frame a)

abbrev pub verdict_bytes : ℕ → Result Judgement → List ℕ
verdict_bytes m v = bytes_of (verdict_frame (record { 0 = m }) v)

-- a comparison: yes is 1, no is 0, and a number with its place is the frame of a refusal; its 22 names no place, so
-- b2-3 are zero
abbrev pub said_bytes : Said → List ℕ
said_bytes alike = 1 ∷ []
said_bytes different = 0 ∷ []
said_bytes (numbered r) = bytes_of (refused_frame r)

abbrev pub compared_bytes : Result Compared → List ℕ
compared_bytes c = said_bytes (sameness_said (sameness_of c))

-- bytes that say newer: number 22 in a frame of a family, 10 for a refusal and 11 for a verdict
pub record SaysNewer (family : ℕ) (bytes : List ℕ) : Type 0 where
  pub family-is : get_or bytes 0 0 ≡ family
  pub number_is : get_or bytes 1 0 ≡ 22

-- A LATER READER of an accepted file, given by a free choice: for each row and each compose any frame, for each two
-- frames what a comparison may give (yes, no or 22; the claim holds for 5 and 6 too)
pub record Choice : Type 0 where
  pub rows : ℕ → Frame
  pub verdicts : ℕ → Frame
  pub same : Frame → Frame → Result Compared

-- what it gives by a rule, over its own answers of the first m rows, in a file whose frames these are: what the rule
-- says, and its choice c for this outcome where the rule itself comes to a newer thing
abbrev pub theirs : {A : Type 0} → Pass → List ℕ → Choice → ℕ → Result A → Rule A → Result A
theirs pass fr choice m c rule = later (see fr) (typing pass) (λ k. row_answer_of (choice.rows k)) m c rule

-- WHAT THE CLAIM SAYS

-- the place of the newer thing that the reading of an outcome meets, none if it meets none. Row answers in a reading
-- are the written rules', not a buffer's.
abbrev pub meets : {A : Type 0} → Pass → List ℕ → ℕ → Rule A → Option Place
meets pass fr m rule = met (see fr) (reading (see fr) (typing pass) m rule)

-- of one outcome: the place that its reading meets, the reader's bytes and the later reader's; with the family of
-- number 22 and its bytes for each place
pub record Kept (family : ℕ) (newer_at : Place → List ℕ) (met : Option Place) (mine theirs : List ℕ) : Type 0 where
  -- where the reading meets none, the two are equal in every byte
  pub equal : met ≡ none → mine ≡ theirs
  -- the reader says 22 exactly where the reading meets one
  pub exactly : SaysNewer family mine ↔ (met ≡ none → ⊥)
  -- and names the place where it was met: a row; in a verdict the component, or hex ffffffff for the composed type; in
  -- a comparison none
  pub place : (p : Place) → met ≡ some p → mine ≡ newer_at p

-- of one text, whose frames these are, and one choice: every row, every compose (a row whose verdict has a rule: those
-- of kind 5, `one_each`, law_verdicts) and every two frames handed in
pub record Keeps (pass : Pass) (r : Reader) (t fr : List ℕ) (choice : Choice) : Type 0 where
  pub rows : (m : ℕ) → m < row_count (starts_of fr)
      → Kept 10 (λ p. row_bytes (newer p)) (meets pass fr m (typing pass m)) (r.row t m)
      (row_bytes (theirs pass fr choice m (row_answer_of (choice.rows m)) (typing pass m)))
  pub verdicts : (m : ℕ) → m < row_count (starts_of fr) → (rule : Rule Judgement) → verdict_rule (see fr) m ≡ some rule
      → Kept 11 (λ p. verdict_bytes m (newer p)) (meets pass fr m rule) (r.verdict t m)
      (verdict_bytes m (theirs pass fr choice m (chosen_judgement (choice.verdicts m)) rule))
  pub same : (a b : Frame) → let rule = handed (type_answer_of a) (type_answer_of b) in
      Kept 10 (λ p. compared_bytes (newer p)) (meets pass fr 0 rule) (r.same t a b)
      (compared_bytes (theirs pass fr choice 0 (choice.same a b) rule))

-- a text is accepted within a limit, with n frames, where the lent buffers are as large as it asks for
abbrev pub IsAccepted : (limit : ℕ) → List ℕ → ℕ → Type 0
IsAccepted limit t n = read_file limit t (16 * line_count t) (Lent (answer_bytes t)) ≡ Ok n

-- THE CLAIM of a reader, by the rules of a pass and within a limit: for every accepted text and every choice
abbrev pub Claim : (pass : Pass) (limit : ℕ) → Reader → Type 0
Claim pass limit r = (t : List ℕ) (n : ℕ) → IsAccepted limit t n → (choice : Choice)
    → Keeps pass r t (decoded t n) choice

-- two readers give the same bytes for a text whose frames these are
pub record Agree (r s : Reader) (t fr : List ℕ) : Type 0 where
  pub rows : (m : ℕ) → m < row_count (starts_of fr) → r.row t m ≡ s.row t m
  pub verdicts : (m : ℕ) → m < row_count (starts_of fr) → (rule : Rule Judgement) → verdict_rule (see fr) m ≡ some rule
      → r.verdict t m ≡ s.verdict t m
  pub same : (a b : Frame) → r.same t a b ≡ s.same t a b
