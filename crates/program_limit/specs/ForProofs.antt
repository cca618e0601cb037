-- Not part of any public statement: for proofs and code only.
use Rattle.std.specs.Prelude.{ℕ, ◌+◌, ◌*◌, cond, leb}
use Rattle.answers.specs.Limit.{max_frames}

-- the number with one digit more, up to the first that is over `max_frames`
abbrev pub next_to : ℕ → ℕ → ℕ
next_to n digit = cond (leb n max_frames) (10 * n + digit) n
