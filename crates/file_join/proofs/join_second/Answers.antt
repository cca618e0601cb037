-- `join_second`: what is asked of the second's frames is asked of its text.
use Rattle.answers.specs.declared.FileError.{FileError}
use mathlib.Core.List.{List}
use Prim.Native.Nat.{ℕ}
use lib.ListN.{length}
use Rattle.answers.specs.Outcome.{Outcome}
use Rattle.rule_file.specs.Printed.{printed_after}
use Rattle.law_file.proofs.Over.{given}
use Rattle.law_join.specs.declared.JoinedFile.TheVariants.{Second}
use Rattle.law_join.specs.File.{join_text, by_tests, join_in}
use Rattle.file_join.proofs.Read.{checked-part}
use Rattle.file_join.proofs.join_second.Goals as goal

pub join_accepted-requires : goal.join_accepted-requires
join_accepted-requires c =
    let w = c.read_file.ensures in (
      c.requires,
      checked-part _ _ _ _ _ _ (w.outcome, (w.said, w.frames)) c.in-Ok.is
          c.first_frames.ensures,
    )

pub returns-in-Ok : goal.returns-in-Ok
returns-in-Ok c =
    let g = c.args in
    let w = c.read_file.ensures in
    let en = c.in-Ok.is in
    let ex = c.first_frames.ensures in
    let a = c.join_accepted in
    record {
      outcome = given _ _ _ _ _ _ (w.outcome, (w.said, w.frames)) en ex (λ (e : FileError). Second e)
          (join_in g.limit (length g.joined.now) g.frames.now) a.ensures.outcome;
      more = w.frames;
      joined = given _ _ _ _ _ _ (w.outcome, (w.said, w.frames)) en ex (λ (e : FileError). g.joined.now)
          (λ (x : List ℕ). by_tests g.limit g.frames.now x g.joined.now g.joined.now
          (printed_after (join_text g.frames.now x) g.joined.now))
          a.ensures.joined;
    }
