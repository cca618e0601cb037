-- `rank`: one turn counts one mark at most.
use Rattle.std.proofs.Common.{rules, arith, ◌≡◌, cond, Bool, false, take}
use Rattle.std.proofs.Math.ListN.{get_or}
use Rattle.std.proofs.lemmas.List.{get_or-take}
use Rattle.row_cut.proofs.Laws.{rank-none, rank-more, one-most}
use Rattle.row_cut.proofs.rank.Goals as goal

pub loop-marked-init : goal.loop-marked-init
loop-marked-init c = (omega arith, rank-none _)

pub loop-marked-preserved : goal.loop-marked-preserved
loop-marked-preserved c =
    let a = c.args in
    let l = c.loop-marked in
    let b : Bool = get_or (take a.k a.marks.now) l.marked-index false in
    let v : c.from-n.result ≡ cond b 1 0 = search rules in (
      omega (arith, l.invariant.0, one-most b v),
      rank-more _ l.marked-index l.invariant.1 (get_or-take a.k a.marks.now l.marked-index false (search rules)) v,
    )
