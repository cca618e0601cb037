-- The file cut to its marked rows (document 02, request 12): all types, members and items as they are, then the marked
-- rows, renumbered in order. A row that is named without being marked becomes row 0, and a compose loses its
-- components.
use Rattle.std.specs.Prelude.{ℕ, zero, suc, ◌+◌, Bool, cond, List, [], ◌∷◌, ◌++◌}
use Rattle.ir.specs.declared.RowNumber.{RowNumber}
use Rattle.frames.specs.declared.Frame.{Frame}
use Rattle.frames.specs.Bytes.{frame_at}
use Rattle.archive.specs.Starts.{starts_of, row_count}
use Rattle.rule.specs.Things.{listed}
use Rattle.rule_answers.specs.Outputs.{frames_bytes}
use Rattle.law_moved.specs.Moves.{Moves}
use Rattle.law_moved.specs.Frames.{moved_row}
use Rattle.law_cut.specs.Marks.{is_marked}

-- how many marked rows stand before row k: its number in the cut
unfoldable pub rank : List Bool → ℕ → ℕ
rank marks zero = 0
rank marks (suc k) = rank marks k + cond (is_marked marks k) 1 0

-- what becomes of a row's number
abbrev pub cut_row : List Bool → ℕ → ℕ
cut_row marks k = cond (is_marked marks k) (rank marks k) 0

abbrev pub cut_moves : List Bool → Moves
cut_moves marks =
    record {
      types = λ (n : ℕ). n;
      members = λ (n : ℕ). n;
      constants = λ (n : ℕ). n;
      overrides = λ (n : ℕ). n;
      globals = λ (n : ℕ). n;
      arguments = λ (n : ℕ). n;
      locals = λ (n : ℕ). n;
      functions = λ (n : ℕ). n;
      rows = cut_row marks;
      components = λ (n : ℕ). 0;
      counts = λ (n : ℕ). 0;
      parts = λ (l : List RowNumber). [];
    }

-- the marked ones of the first n rows, whose frames f gives
unfoldable pub cut_rows : List Bool → (ℕ → Frame) → ℕ → List Frame
cut_rows marks f zero = []
cut_rows marks f (suc k) = cut_rows marks f k ++ cond (is_marked marks k) (moved_row (cut_moves marks) (f k) ∷ []) []

-- the frames of the cut
abbrev pub cut_frames : List Bool → List ℕ → List Frame
cut_frames marks fr =
    listed (frame_at fr) (starts_of fr).rows
    ++ cut_rows marks (λ (k : ℕ). frame_at fr ((starts_of fr).rows + k)) (row_count (starts_of fr))

abbrev pub cut_file : List Bool → List ℕ → List ℕ
cut_file marks fr = frames_bytes (cut_frames marks fr)
