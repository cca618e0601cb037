-- `type_lines`: the lines of the frame of a number, or of all that is handed back.
use Rattle.std.proofs.Common.{ap, ◌∙◌}
use Rattle.frames.specs.Bytes.{put_frame}
use Rattle.rule_file.specs.Typed.{outcome_in, outputs_in}
use Rattle.law_file.proofs.Printed.{refused-lines, accepted-lines}
use Rattle.file_lines.proofs.type_lines.Goals as goal

pub returns-in-Err : goal.returns-in-Err
returns-in-Err c =
    let h = c.type_file in
    let e = refused-lines h.ensures c.requires.0 c.requires.1 _ (ap outcome_in c.in-Err.is)
    (c.put_frame.ensures ∙ ap (put_frame h.new.answers 0) c.outcome_frame.ensures) in
    record {
      outcome = rw e (rw c.first_frames.ensures at c.put_lines.ensures.outcome);
      out = rw e (rw c.first_frames.ensures at c.put_lines.ensures.out);
    }

pub returns-in-Ok : goal.returns-in-Ok
returns-in-Ok c =
    let h = c.type_file in
    let a = accepted-lines h.ensures c.requires.0 c.requires.1 (ap outcome_in c.in-Ok.is) in
    let e = rw (ap outputs_in c.in-Ok.is) at a in
    record {
      outcome = rw e (rw c.first_frames-in-Ok.ensures at c.put_lines-in-Ok.ensures.outcome);
      out = rw e (rw c.first_frames-in-Ok.ensures at c.put_lines-in-Ok.ensures.out);
    }
