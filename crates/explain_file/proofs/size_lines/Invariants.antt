-- The invariant: the lines of the types passed stand at the front of the output.
use Rattle.rule_explain.specs.Sized.{size_line_at}
use Rattle.explain_file.proofs.Fitting.{After}
use Rattle.explain_file.proofs.size_lines.Given as goal

abbrev pub invariant-loop-k : goal.invariant-loop-k
invariant-loop-k l = After (size_line_at l.frames l.sizes) l.k l.initial.out l.at l.out
