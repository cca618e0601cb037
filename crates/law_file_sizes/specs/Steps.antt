-- One entry of a table of counts raised by one (document 02, request 6), over a text.
use Rattle.std.specs.Prelude.{ℕ, suc, List, set}
use Rattle.ir.specs.declared.ItemNumber.{ItemNumber}
use Rattle.text.specs.Lines.{line_count, decoded}
use Rattle.rule_ranges.specs.Ranges.{counts_of}

-- the frames of a text, one for each line
abbrev pub text_frames : List ℕ → List ℕ
text_frames t = decoded t (line_count t)

-- a table of counts with the entry of override o raised by one
abbrev pub raised_at : ItemNumber → List ℕ → List ℕ
raised_at o table = set table o.0 (suc (counts_of table o))
