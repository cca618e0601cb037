-- `first_late_in`: the first part that is late is the lowest.
use Rattle.std.proofs.Common.{rules, ◌≡◌, ℕ, true, false}
use borrow.Author.Tests.{tests}
use Rattle.std.proofs.lemmas.Iterator.{first_from_Range}
use Rattle.frames.specs.Bytes.{frame_at}
use Rattle.archive.specs.Parts.{is_early}
use Rattle.archive.proofs.Owners.{first_in}
use Rattle.check_file.proofs.first_late_in.Goals as goal

pub returns : goal.returns
returns c =
    let a = c.args in
    let early = λ (k : ℕ). is_early a.owner (frame_at a.frames.now k) in
    first_in a.frames.now a.from a.to a.owner _ c.find.result c.requires
    (first_from_Range _ _ _ _ (λ k. early k ≡ false) (λ k. early k ≡ true) c.find.ensures.ran
    (λ x q k. search (rules, tests)) (λ x q k. search (rules, tests)))
