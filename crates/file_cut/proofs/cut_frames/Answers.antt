-- `cut_frames`: a row that is marked joins the frames before it, and all rows passed, they are those of the cut.
use Rattle.std.proofs.Common.{◌+◌, ◌*◌, ◌≤◌, sym, ap, ◌∙◌, length, arith}
use Rattle.frames.specs.Bytes.{frame_at}
use Rattle.archive.specs.declared.Starts.{Starts}
use Rattle.archive.specs.Starts.{starts_of, row_count}
use Rattle.rule.proofs.Named.{listed-length}
use Rattle.law_cut.specs.Marks.{is_marked}
use Rattle.file_cut.proofs.Laws.{no-row, row_more, one-most, rows-within}
use Rattle.file_cut.proofs.cut_frames.Goals as goal

pub put_front-requires : goal.put_front-requires
put_front-requires c =
    omega (
      arith,
      ap (λ (s : Starts). s.rows) c.find_starts-s.ensures,
      rows-within c.args.frames.now,
      c.requires.1,
    )

pub loop-k-init : goal.loop-k-init
loop-k-init c =
    let fr = c.args.frames.now in
    let p = c.put_front.ensures in
    let e = ap (λ (s : Starts). s.rows) c.find_starts-s.ensures in
    record {
      most = omega arith;
      put = rw e (no-row c.args.marks fr (record {
        count = sym (listed-length (frame_at fr) (starts_of fr).rows);
        front = rw e at p.1;
      }));
    }

pub put_row-at-requires : goal.put_row-at-requires
put_row-at-requires c =
    let a = c.args in
    let e = c.find_starts-s.ensures in
    let first = ap (λ (s : Starts). s.rows) e in
    let count = c.row_count-n.ensures ∙ ap row_count e in
    let within = rows-within a.frames.now in
    let few = c.requires.0 in
    let most = c.loop-k.invariant.most in (
      omega (arith, count, within, few),
      (omega (arith, first, within, few), omega (arith, first, count, within, few, most)),
    )

pub loop-k-preserved : goal.loop-k-preserved
loop-k-preserved c =
    let a = c.args in
    let e = c.find_starts-s.ensures in
    let l = c.loop-k in
    let r = c.put_row-at.ensures in
    let f = ap (λ (s : Starts). s.rows) e in
    let room : 16 * l.at + 16 ≤ length l.cut =
    omega (
      arith,
      f,
      c.row_count-n.ensures,
      ap row_count e,
      rows-within a.frames.now,
      c.requires.1,
      l.invariant.most,
    ) in
    record {
      most = omega (arith, one-most (is_marked a.marks l.k) l.at r.count, l.invariant.most);
      put = row_more a.marks a.frames.now l.k l.invariant.put room r.count (rw f at r.cut);
    }

pub returns-clause-few : goal.returns-clause-few
returns-clause-few c =
    let l = c.loop-k in
    let e = c.find_starts-s.ensures in
    omega (
      arith,
      ap (λ (s : Starts). s.rows) e,
      c.row_count-n.ensures ∙ ap row_count e,
      rows-within c.args.frames.now,
      c.requires.0,
      l.invariant.most,
    )
