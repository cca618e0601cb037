-- `fill`: a row's answer and verdict join those of the rows before it, and its place joins the table.
use mathlib.Core.Path.{◌≡◌, refl, ap, ◌∙◌}
use mathlib.Core.List.{List, ◌++◌}
use Prim.Native.Nat.{ℕ, ◌+◌, ◌*◌, ◌≤◌}
use native.Mathlib.Omega.{arith}
use native.Mathlib.Nat.{le_antisymm}
use lib.ListN.{length}
use Rattle.scan.specs.Lists.{build}
use Rattle.scan.proofs.Fill.{build-turn}
use Rattle.archive.specs.Starts.{starts_of, row_count}
use Rattle.rule.specs.Things.{see}
use Rattle.rule_answers.specs.Outputs.{outputs, frames_bytes}
use Rattle.law_answers.proofs.Bytes.{bytes-length}
use Rattle.law_file.proofs.Row.{grows, two-a-row, few-rows, rest-stays}
use Rattle.file_answers.proofs.fill.Goals as goal

pub loop-m-init : goal.loop-m-init
unfolding outputs frames_bytes build
loop-m-init c = record {
  written = record { next = refl; bytes = refl; held = λ k l. absurd (omega arith) };
  table = refl;
}

pub overflow_cast-m : goal.overflow_cast-m
overflow_cast-m c =
    omega (
      arith,
      c.loop-m-test.true,
      c.row_count-n.ensures,
      ap row_count c.requires.starts,
      few-rows c.args.frames.now c.requires.room.few,
    )

pub overflow_cast-places : goal.overflow_cast-places
overflow_cast-places c =
    let a = c.args in
    let l = c.loop-m in
    omega (
      arith,
      l.invariant.written.next,
      two-a-row a.pass (see a.frames.now) l.m,
      c.loop-m-test.true,
      c.row_count-n.ensures,
      ap row_count c.requires.starts,
      few-rows a.frames.now c.requires.room.few,
    )

pub loop-m-preserved : goal.loop-m-preserved
loop-m-preserved c =
    let a = c.args in
    let p = c.requires in
    let l = c.loop-m in
    let r = c.answer_row-next in
    let pass = a.pass in
    let f = a.frames.now in
    let b = a.answers.now in
    let n : length (frames_bytes (outputs pass (see f) l.m)) ≡ 16 * l.at =
    omega (arith, bytes-length (outputs pass (see f) l.m), l.invariant.written.next) in
    let grown : 16 * l.at ≤ 16 * r.result =
    omega (arith, l.invariant.written.next, r.ensures.next, grows pass (see f) l.m (l.m + 1) (omega arith)) in
    let e = r.ensures.bytes ∙ ap (λ (x : List ℕ). frames_bytes (outputs pass (see f) (l.m + 1)) ++ x)
    (rest-stays (frames_bytes (outputs pass (see f) l.m)) l.answers b (16 * l.at) (16 * r.result)
    l.invariant.written.bytes n grown)
    in
    record {
      written = record { next = r.ensures.next; bytes = e; held = r.ensures.held };
      table =
          build-turn _ _ l.places _ _ l.invariant.table
          (omega (arith, p.table, c.row_count-n.ensures, c.loop-m-test.true))
          l.invariant.written.next;
    }

pub returns-clause-answers : goal.returns-clause-answers
returns-clause-answers c =
    let pass = c.args.pass in
    let f = c.args.frames.now in
    let i = c.loop-m in
    let n : i.m ≡ row_count c.args.s = le_antisymm i.auto.m-end c.loop-m-test.false ∙ c.row_count-n.ensures in
    let q : i.m ≡ row_count (starts_of f) = n ∙ ap row_count c.requires.starts in
    let k : 16 * i.at ≡ length (frames_bytes (outputs pass (see f) i.m)) =
    omega (arith, bytes-length (outputs pass (see f) i.m), i.invariant.written.next) in
    rw (← q, ← k) i.invariant.written.bytes
