-- `fill`: the rows passed are handed back, each at its place, and the other bytes are as they were.
use mathlib.Core.Path.{◌≡◌}
use mathlib.Core.List.{List, ◌++◌}
use Prim.Native.Nat.{ℕ}
use lib.ListN.{drop}
use Rattle.rule_rows.specs.declared.Pass.{Pass}
use Rattle.rule_answers.specs.ForProofs.{places_of}
use Rattle.rule_file.specs.ForProofs.{Written}
use Rattle.file_answers.proofs.fill.Given as goal

-- the first m rows are answered; the other bytes of both buffers are as they were
pub record Inv (pass : Pass) (fr answers₀ places₀ answers places : List ℕ) (m at : ℕ) : Type 0 where
  pub written : Written pass fr answers₀ answers m at
  pub table : places ≡ places_of pass fr m ++ drop m places₀

abbrev pub invariant-loop-m : goal.invariant-loop-m
invariant-loop-m l = Inv l.pass l.frames l.fn.answers l.fn.places l.answers l.places l.m l.at
