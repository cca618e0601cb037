-- A small file, written by hand: a scalar, a vector of two, a value of the scalar as row 0, and as row 1 the vector
-- composed of that row twice. What is handed back of it: two answers, and the verdict after the compose's own.
use Rattle.std.specs.Prelude.{ℕ, List, ◌++◌}
use Rattle.frames.specs.Written.{short, plain_row, compose, part, numbered}

abbrev pub composed_file : List ℕ
composed_file = short 1 1 0 0 2 4 0 0 ++ short 1 2 2 0 2 4 0 0 ++ plain_row 4 0 ++ compose 1 2 0 ++ part 0 ++ part 0

abbrev pub handed_back : List ℕ
handed_back = numbered 0 ++ numbered 1 ++ short 11 0 1 0 0 0 0 0
