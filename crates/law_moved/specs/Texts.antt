-- The frames of a text, where it is accepted (document 01, "The file"): one for each of its lines.
use Rattle.std.specs.Prelude.{ℕ, List}
use Rattle.text.specs.Lines.{line_count, decoded}

abbrev pub text_frames : List ℕ → List ℕ
text_frames t = decoded t (line_count t)
