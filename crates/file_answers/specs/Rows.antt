-- When all rows of a file are answered, from its frames alone: where there is room for what is handed back.
use Rattle.std.specs.Prelude.{ℕ, Bool, ◌&&◌, List, leb, length}
use Rattle.answers.specs.Limit.{max_frames}
use Rattle.frames.specs.Bytes.{frame_count}
use Rattle.archive.specs.Starts.{starts_of, row_count}
use Rattle.rule_rows.specs.declared.Pass.{Pass}
use Rattle.rule_answers.specs.Outputs.{output_bytes}

-- no more frames than a file may have, an answer buffer of a bytes for what is handed back, and a table of p places for
-- the rows
unfoldable pub has_room : Pass → List ℕ → ℕ → ℕ → Bool
has_room pass fr a p =
    leb (frame_count fr) max_frames && (leb (row_count (starts_of fr)) p && leb (length (output_bytes pass fr)) a)
