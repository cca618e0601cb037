-- Two files in one (document 02, request 14): families and item kinds in order, in each the first file's frames as they
-- are, then the second's with its numbers moved past the first's. No type is shared.
use Rattle.std.specs.Prelude.{ℕ, zero, suc, ◌+◌, ◌-◌, List, [], ◌∷◌, ◌++◌, map, get_or}
use Rattle.ir.specs.declared.RowNumber.{RowNumber}
use Rattle.frames.specs.declared.Frame.{Frame}
use Rattle.frames.specs.Bytes.{frame_at}
use Rattle.archive.specs.declared.Starts.{Starts}
use Rattle.archive.specs.Starts.{starts_of, type_count, member_count, constant_count, override_count, global_count}
use Rattle.archive.specs.Starts.{local_count, function_count, row_count, component_count}
use Rattle.rule.specs.Things.{listed}
use Rattle.rule_answers.specs.Outputs.{frames_bytes}
use Rattle.law_moved.specs.Moves.{Moves}
use Rattle.law_moved.specs.Frames.{moved_frame}

-- THE PARTS of a file, in order: types, members, items of each kind, rows, components. Part i is the frames from bound
-- i on, up to bound i + 1.
abbrev pub bounds : Starts → List ℕ
bounds s =
    0 ∷ s.members ∷ s.constants ∷ s.overrides ∷ s.globals ∷ s.arguments ∷ s.locals ∷ s.functions
    ∷ s.intersections ∷ s.vertex_returns ∷ s.rows
    ∷ s.components ∷ s.end ∷ []

abbrev pub bound : Starts → ℕ → ℕ
bound s i = get_or (bounds s) i s.end

abbrev pub part_count : ℕ
part_count = 12

-- part i of two files: the first's frames, then the second's; p and q are the bounds of their parts
abbrev pub part : (ℕ → Frame) → (ℕ → Frame) → (ℕ → ℕ) → (ℕ → ℕ) → ℕ → List Frame
part a b p q i = listed (λ (k : ℕ). a (p i + k)) (p (suc i) - p i) ++ listed (λ (k : ℕ). b (q i + k)) (q (suc i) - q i)

-- the first n parts
unfoldable pub regrouped : (ℕ → Frame) → (ℕ → Frame) → (ℕ → ℕ) → (ℕ → ℕ) → ℕ → List Frame
regrouped a b p q zero = []
regrouped a b p q (suc i) = regrouped a b p q i ++ part a b p q i

-- what becomes of the second's numbers: each is moved past those of the first, argument indices too
abbrev pub join_moves : Starts → Moves
join_moves s =
    record {
      types = λ (n : ℕ). n + type_count s;
      members = λ (n : ℕ). n + member_count s;
      constants = λ (n : ℕ). n + constant_count s;
      overrides = λ (n : ℕ). n + override_count s;
      globals = λ (n : ℕ). n + global_count s;
      arguments = λ (n : ℕ). n + (s.locals - s.arguments);
      locals = λ (n : ℕ). n + local_count s;
      functions = λ (n : ℕ). n + function_count s;
      rows = λ (n : ℕ). n + row_count s;
      components = λ (n : ℕ). n + component_count s;
      counts = λ (n : ℕ). n;
      parts = map (λ (r : RowNumber). record { 0 = r.0 + row_count s });
    }

-- the first's numbers stay
abbrev pub first_moves : Moves
first_moves =
    record {
      types = λ (n : ℕ). n;
      members = λ (n : ℕ). n;
      constants = λ (n : ℕ). n;
      overrides = λ (n : ℕ). n;
      globals = λ (n : ℕ). n;
      arguments = λ (n : ℕ). n;
      locals = λ (n : ℕ). n;
      functions = λ (n : ℕ). n;
      rows = λ (n : ℕ). n;
      components = λ (n : ℕ). n;
      counts = λ (n : ℕ). n;
      parts = map (λ (r : RowNumber). record { 0 = r.0 });
    }

-- the frames of the join
abbrev pub join_frames : List ℕ → List ℕ → List Frame
join_frames fr gr =
    regrouped (frame_at fr) (λ (k : ℕ). moved_frame (join_moves (starts_of fr)) (frame_at gr k)) (bound (starts_of fr))
    (bound (starts_of gr)) part_count

abbrev pub join_file : List ℕ → List ℕ → List ℕ
join_file fr gr = frames_bytes (join_frames fr gr)
