-- `join_files`: what is asked of the first's frames is asked of its text.
use Rattle.answers.specs.declared.FileError.{FileError}
use mathlib.Core.List.{List}
use mathlib.Core.Path.{◌≡◌, ap}
use Prim.Native.Nat.{ℕ}
use lib.ListN.{length}
use Rattle.answers.specs.Outcome.{Outcome}
use Rattle.text.specs.declared.AnswerRoom.TheVariants.{NotLent}
use Rattle.rule_file.specs.File.{over_file, read_file, frames_after}
use Rattle.rule_file.specs.Printed.{printed_after}
use Rattle.law_file.proofs.Over.{refused, given}
use Rattle.law_join.specs.declared.JoinedFile.TheVariants.{First, Second}
use Rattle.law_join.specs.File.{join_text, by_tests, join_in, join_files, second_after, joined_after, joined_said}
use Rattle.file_join.proofs.Read.{checked-part}
use Rattle.file_join.proofs.join_files.Goals as goal

pub join_second-requires : goal.join_second-requires
join_second-requires c =
    let w = c.read_file.ensures in
    checked-part _ _ _ _ _ _ (w.outcome, (w.said, w.frames)) c.in-Ok.is c.first_frames.ensures

pub returns-in-Err : goal.returns-in-Err
unfolding join_files second_after joined_after
returns-in-Err c =
    let g = c.args in
    let w = c.read_file.ensures in
    let en = c.in-Err.is in
    let o : First c.in-Err.e
    ≡ join_files g.limit g.first.now g.second.now (length g.frames.now) (length g.more.now) (length g.joined.now) =
    refused _ _ _ _ _ _ (w.outcome, (w.said, w.frames)) en (λ (e : FileError). First e)
    (λ (x : List ℕ). over_file (λ (e : FileError). Second e) (join_in g.limit (length g.joined.now) x) g.second.now
    (read_file g.limit g.second.now (length g.more.now) NotLent)) in
    record {
      outcome = o;
      said = ap joined_said o;
      frames = w.frames;
      more = refused _ _ _ _ _ _ (w.outcome, (w.said, w.frames)) en (λ (e : FileError). g.more.now)
          (λ (x : List ℕ). frames_after g.limit g.second.now g.more.now NotLent);
      joined = refused _ _ _ _ _ _ (w.outcome, (w.said, w.frames)) en (λ (e : FileError). g.joined.now)
          (λ (x : List ℕ). over_file (λ (e : FileError). g.joined.now)
          (λ (y : List ℕ). by_tests g.limit x y g.joined.now g.joined.now
          (printed_after (join_text x y) g.joined.now))
          g.second.now (read_file g.limit g.second.now (length g.more.now) NotLent));
    }

pub returns-in-Ok : goal.returns-in-Ok
unfolding join_files second_after joined_after
returns-in-Ok c =
    let g = c.args in
    let w = c.read_file.ensures in
    let en = c.in-Ok.is in
    let ex = c.first_frames.ensures in
    let a = c.join_second in
    let o : a.result
    ≡ join_files g.limit g.first.now g.second.now (length g.frames.now) (length g.more.now) (length g.joined.now) =
    given _ _ _ _ _ _ (w.outcome, (w.said, w.frames)) en ex (λ (e : FileError). First e)
    (λ (x : List ℕ). over_file (λ (e : FileError). Second e) (join_in g.limit (length g.joined.now) x) g.second.now
    (read_file g.limit g.second.now (length g.more.now) NotLent)) a.ensures.outcome in
    record {
      outcome = o;
      said = ap joined_said o;
      frames = w.frames;
      more = given _ _ _ _ _ _ (w.outcome, (w.said, w.frames)) en ex (λ (e : FileError). g.more.now)
          (λ (x : List ℕ). frames_after g.limit g.second.now g.more.now NotLent) a.ensures.more;
      joined = given _ _ _ _ _ _ (w.outcome, (w.said, w.frames)) en ex (λ (e : FileError). g.joined.now)
          (λ (x : List ℕ). over_file (λ (e : FileError). g.joined.now)
          (λ (y : List ℕ). by_tests g.limit x y g.joined.now g.joined.now
          (printed_after (join_text x y) g.joined.now))
          g.second.now (read_file g.limit g.second.now (length g.more.now) NotLent))
          a.ensures.joined;
    }
