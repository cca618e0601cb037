-- THE SECOND FILE IS CARRIED INTO THE JOIN with its numbers moved: each of its frames stands there moved, after the
-- first's of its part, and a moved frame reads as what it read as, moved.
use Prim.Native.Nat.{ℕ, suc, ◌+◌, ◌-◌, ◌≤◌, ◌<◌}
use native.Mathlib.Omega.{arith}
use mathlib.Core.Path.{◌≡◌, refl, sym, ap, ◌∙◌}
use mathlib.Core.Bool.{true, false}
use mathlib.Core.List.{List}
use mathlib.Core.Option.{some}
use lib.Dec.{ltb}
use borrow.Author.Tests.{ltb-true, ltb-false, lt-ltb, le-ltb}
use Rattle.ir.specs.declared.RowNumber.{RowNumber}
use Rattle.frames.specs.Bytes.{frame_at}
use Rattle.frames.specs.Forms.{type_of, member_of, item_of, row_of, component_of}
use Rattle.archive.specs.declared.Starts.{Starts}
use Rattle.archive.specs.Starts.{starts_of, member_count, constant_count, override_count, global_count, local_count}
use Rattle.archive.specs.Starts.{function_count, row_count, component_count}
use Rattle.rule.specs.Things.{maybe_item}
use Rattle.law_rows.proofs.Good.{Good}
use Rattle.law_moved.specs.Moves.{Moves, row_to, maybe_to, type_form_to, member_to, item_to, row_form_to}
use Rattle.law_moved.specs.Frames.{moved_frame}
use Rattle.law_moved.proofs.Frames.{type-moved, member-moved, item-moved, row_moved, component-moved, frame-type}
use Rattle.law_moved.proofs.Frames.{frame-member, frame-item, frame_row, frame-component}
use Rattle.law_moved.proofs.Files.{Ordered, starts-ordered}
use Rattle.law_moved.proofs.Carries.{Carries, has-type, listed-map}
use Rattle.law_join.specs.Join.{bound, join_moves, join_file}
use Rattle.law_join.specs.Joinable.{Joinable}
use Rattle.law_join.proofs.Frames.{at_second, join-starts}
use Rattle.law_join.proofs.Families.{cases, type-family, member-family, item-family, row-family}
use Rattle.law_join.proofs.Families.{component-family, argument-typed}
use Rattle.law_join.proofs.Found.{no_item}

module _ (fr gr : List ℕ) (good : Good fr) (also : Good gr) where
  abbrev s : Starts
  s = starts_of fr

  abbrev t : Starts
  t = starts_of gr

  abbrev J : List ℕ
  J = join_file fr gr

  abbrev m : Moves
  m = join_moves s

  -- frame x of part i, at a place that is found equal to it
  second_is : (i x k j : ℕ) → i < 12 → x < bound t (suc i) - bound t i → k ≡ bound s (suc i) + bound t i + x → j
      ≡ bound t i + x → frame_at J k ≡ moved_frame m (frame_at gr j)
  second_is i x k j l w a b = ap (frame_at J) a ∙ at_second fr gr i x l w
      ∙ ap (λ (y : ℕ). moved_frame m (frame_at gr y)) (sym b)

  second_type : (n k : ℕ) → n < t.members → k ≡ n + s.members → type_of (frame_at J k)
      ≡ type_form_to m (type_of (frame_at gr n))
  second_type n k l e =
      ap type_of (second_is 0 n k n (omega arith) (omega arith) (omega arith) (omega arith)
      ∙ frame-type m (frame_at gr n) (type-family gr also n l)) ∙ (type-moved m (frame_at gr n)).is

  second-member : (n k : ℕ) → n < member_count t → k ≡ s.constants + t.members + n → member_of (frame_at J k)
      ≡ member_to m (member_of (frame_at gr (t.members + n)))
  second-member n k l e =
      ap member_of (second_is 1 n k (t.members + n) (omega arith) l e refl
      ∙ frame-member m (frame_at gr (t.members + n))
      (member-family gr also (t.members + n) (omega arith) (omega arith)))
      ∙ (member-moved m (frame_at gr (t.members + n))).is

  -- an item of part i
  second-item : (i x k j : ℕ) → i < 12 → x < bound t (suc i) - bound t i → k ≡ bound s (suc i) + bound t i + x → j
      ≡ bound t i + x → t.constants ≤ j → j < t.rows
      → item_of (frame_at J k) ≡ item_to m (item_of (frame_at gr j))
  second-item i x k j l w a b c d = ap item_of
      (second_is i x k j l w a b ∙ frame-item m (frame_at gr j) (item-family gr also j c d))
      ∙ (item-moved m (frame_at gr j)).is

  second-row : (n k : ℕ) → n < row_count t → k ≡ s.components + t.rows + n → row_of (frame_at J k)
      ≡ row_form_to m (row_of (frame_at gr (t.rows + n)))
  second-row n k l e =
      ap row_of (second_is 10 n k (t.rows + n) (omega arith) l e refl
      ∙ frame_row m (frame_at gr (t.rows + n)) (row-family gr also (t.rows + n) (omega arith) (omega arith)))
      ∙ (row_moved m (frame_at gr (t.rows + n))).is

  pub second-component : (n k : ℕ) → n < component_count (starts_of gr) → k
      ≡ (starts_of fr).end + (starts_of gr).components + n
      → component_of (frame_at (join_file fr gr) k)
      ≡ row_to (join_moves (starts_of fr)) (component_of (frame_at gr ((starts_of gr).components + n)))
  second-component n k l e =
      ap component_of (second_is 11 n k (t.components + n) (omega arith) l e refl
      ∙ frame-component m (frame_at gr (t.components + n))
      (component-family gr also (t.components + n) (omega arith) (omega arith)))
      ∙ (component-moved m (frame_at gr (t.components + n))).is

  -- an argument that is found, or not: both as in the file
  second-argument : (i : ℕ)
      → maybe_item J (s.arguments + t.arguments) (s.locals + t.locals)
      (record { 0 = i + (s.locals - s.arguments) })
      ≡ maybe_to m (maybe_item gr t.arguments t.locals (record { 0 = i }))
  second-argument i = cases (ltb i (t.locals - t.arguments)) found missing
    where
      o : Ordered s
      o = starts-ordered fr

      p : Ordered t
      p = starts-ordered gr

      found : ltb i (t.locals - t.arguments) ≡ true
          → maybe_item J (s.arguments + t.arguments) (s.locals + t.locals)
          (record { 0 = i + (s.locals - s.arguments) })
          ≡ maybe_to m (maybe_item gr t.arguments t.locals (record { 0 = i }))
      found h =
          let l = ltb-true i (t.locals - t.arguments) h in
          let a = o.locals in let b = p.locals in
          let c1 = p.overrides in let c2 = p.globals in let c3 = p.arguments in let c4 = p.functions in
          let c5 = p.intersections in let c6 = p.vertex-returns in let c7 = p.rows in
          let g : ltb (i + (s.locals - s.arguments)) (s.locals + t.locals - (s.arguments + t.arguments))
          ≡ true = lt-ltb (i + (s.locals - s.arguments)) (s.locals + t.locals - (s.arguments + t.arguments))
          (omega arith) in
          rw (h, g) (ap some (has-type m (frame_at gr (t.arguments + i))
          (frame_at J (s.arguments + t.arguments + (i + (s.locals - s.arguments))))
          (argument-typed gr also (t.arguments + i) (omega arith) (omega arith))
          (second-item 5 i (s.arguments + t.arguments + (i + (s.locals - s.arguments))) (t.arguments + i)
          (omega arith) l (omega arith) refl (omega arith) (omega arith))))

      missing : ltb i (t.locals - t.arguments) ≡ false
          → maybe_item J (s.arguments + t.arguments) (s.locals + t.locals)
          (record { 0 = i + (s.locals - s.arguments) })
          ≡ maybe_to m (maybe_item gr t.arguments t.locals (record { 0 = i }))
      missing h =
          let l = ltb-false i (t.locals - t.arguments) h in
          let a = o.locals in let b = p.locals in
          let g : ltb (i + (s.locals - s.arguments)) (s.locals + t.locals - (s.arguments + t.arguments))
          ≡ false = le-ltb (i + (s.locals - s.arguments)) (s.locals + t.locals - (s.arguments + t.arguments))
          (omega arith) in
          rw (h, g) refl

  pub second-carried : Joinable fr → Joinable gr
      → Carries (join_moves (starts_of fr)) (λ n. Unit {0}) gr (join_file fr gr)
  second-carried jf jg =
      let o = starts-ordered fr in
      let p = starts-ordered gr in
      let a1 = o.constants in let a2 = o.overrides in let a3 = o.globals in let a4 = o.arguments in
      let a5 = o.locals in let a6 = o.functions in let a7 = o.intersections in
      let a8 = o.vertex-returns in let a9 = o.rows in let a10 = o.components in let a11 = o.end in
      let b1 = p.constants in let b2 = p.overrides in let b3 = p.globals in let b4 = p.arguments in
      let b5 = p.locals in let b6 = p.functions in let b7 = p.intersections in
      let b8 = p.vertex-returns in let b9 = p.rows in let b10 = p.components in let b11 = p.end in
      let c1 = jf.specials in let c2 = jg.specials in
      record {
        type-in = λ n l. rw (join-starts fr gr good also) (omega arith);
        types = λ n l. second_type n (n + s.members) l refl;
        members = λ n l. rw (join-starts fr gr good also)
            (second-member n (s.members + t.members + (n + member_count s)) l (omega arith));
        member-run = λ n i. omega arith;
        constants = λ n l. rw (join-starts fr gr good also)
            (second-item 2 n (s.constants + t.constants + (n + constant_count s)) (t.constants + n) (omega arith) l
            (omega arith) refl (omega arith) (omega arith));
        override-in = λ n l. rw (join-starts fr gr good also) (omega arith);
        overrides = λ n l. rw (join-starts fr gr good also)
            (second-item 3 n (s.overrides + t.overrides + (n + override_count s)) (t.overrides + n) (omega arith) l
            (omega arith) refl (omega arith) (omega arith));
        globals = λ n l. rw (join-starts fr gr good also)
            (second-item 4 n (s.globals + t.globals + (n + global_count s)) (t.globals + n) (omega arith) l
            (omega arith) refl (omega arith) (omega arith));
        locals = λ n l. rw (join-starts fr gr good also)
            (second-item 6 n (s.locals + t.locals + (n + local_count s)) (t.locals + n) (omega arith) l
            (omega arith) refl (omega arith) (omega arith));
        functions = λ n l. rw (join-starts fr gr good also)
            (second-item 7 n (s.functions + t.functions + (n + function_count s)) (t.functions + n) (omega arith) l
            (omega arith) refl (omega arith) (omega arith));
        row-in = λ n w l. rw (join-starts fr gr good also) (omega arith);
        rows = λ n w l. rw (join-starts fr gr good also)
            (second-row n (s.rows + t.rows + (n + row_count s)) l (omega arith));
        arguments = λ n i w q. rw (join-starts fr gr good also) (second-argument i);
        intersection = rw (join-starts fr gr good also)
            (no_item J (s.intersections + t.intersections) (s.vertex_returns + t.vertex_returns) (omega arith)
            ∙ sym (ap (maybe_to m) (no_item gr t.intersections t.vertex_returns (omega arith))));
        vertex-return = rw (join-starts fr gr good also)
            (no_item J (s.vertex_returns + t.vertex_returns) (s.rows + t.rows) (omega arith)
            ∙ sym (ap (maybe_to m) (no_item gr t.vertex_returns t.rows (omega arith))));
        parts = λ n j l. rw (join-starts fr gr good also)
            (listed-map (λ (r : RowNumber). record { 0 = r.0 + row_count s }) _ _ j (λ i w.
            let e : t.components + n + i ≡ t.components + (n + i) = omega arith in
            second-component (n + i) (s.components + t.components + (n + component_count s) + i) (omega arith)
            (omega arith) ∙ ap (λ (k : ℕ). row_to m (component_of (frame_at gr k))) (sym e)));
      }
