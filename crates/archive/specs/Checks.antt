-- Checks 4 to 6 over the frames of a file, each over the whole file, lowest frame named (document 01, "Numbers handed
-- back").
use Rattle.std.specs.Prelude.{ℕ, Bool, cond, ◌&&◌, List, ltb, Option, Some, None, Ok, Err}
use Rattle.scan.specs.Lowest.{lowest}
use Rattle.answers.specs.Outcome.{Outcome}
use Rattle.answers.specs.declared.FileError.{FileError}
use Rattle.answers.specs.declared.FileError.TheVariants.{Long, Order, Field, Index}
use Rattle.answers.specs.Limit.{max_frames}
use Rattle.frames.specs.Bytes.{frame_at, frame_count}
use Rattle.frames.specs.Forms.{fields_fit}
use Rattle.archive.specs.Order.{order_ok}
use Rattle.archive.specs.Names.{names_ok}
use Rattle.archive.specs.Parts.{early_ok}

-- number 5: a byte of frame k outside its values, or a member's or component's kind not 0
abbrev pub field_ok : List ℕ → ℕ → Bool
field_ok fr k = fields_fit (frame_at fr k)

-- number 6: frame k names a number out of range or not earlier
unfoldable pub index_ok : List ℕ → ℕ → Bool
index_ok fr k = names_ok fr k && early_ok fr k

-- a refusal at the place found, else what follows
abbrev pub unless : (ℕ → FileError) → Option ℕ → Outcome → Outcome
unless error (Some k) rest = Err (error k)
unless error None rest = rest

-- the checks in their order; over `max_frames` is number 1, as no limit is handed in
unfoldable pub check_frames : List ℕ → Outcome
check_frames fr =
    let n = frame_count fr in
    cond (ltb max_frames n) (Err (Long max_frames))
    (unless Order (lowest (order_ok fr) n) (unless Field (lowest (field_ok fr) n)
    (unless Index (lowest (index_ok fr) n) (Ok n))))
