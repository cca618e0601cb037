-- `answer_all`: a table of 1,024 places is enough.
use Rattle.std.proofs.Common.{refl, arith}
use lib.ListN.{replicate}
use Rattle.answers.specs.Limit.{max_frames}
use Rattle.archive.specs.Starts.{starts_of, row_count}
use Rattle.rule.specs.Things.{see}
use Rattle.rule_answers.specs.Outputs.{outputs}
use Rattle.law_answers.proofs.Bytes.{bytes-length}
use Rattle.law_file.proofs.Row.{few-rows}
use Rattle.file_answers.proofs.Rows.{all-filled}
use Rattle.file_rows.proofs.answer_all.Goals as goal

pub returns : goal.returns
returns c =
    let a = c.args in
    let r = c.answer_rows in
    let t = all-filled a.pass a.frames.now a.answers.now (replicate max_frames 0) r.result r.new.answers
    r.new.places (starts_of a.frames.now) c.requires.1 (few-rows a.frames.now c.requires.1.few) refl
    (r.ensures.count, (r.ensures.answers, r.ensures.places)) in
    record {
      count = omega (arith, t.0, bytes-length (outputs a.pass (see a.frames.now) (row_count (starts_of a.frames.now))));
      answers = t.1.0;
    }
