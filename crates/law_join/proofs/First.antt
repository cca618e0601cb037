-- THE FIRST FILE IS CARRIED INTO THE JOIN with its numbers as they are: each of its frames stands there unchanged, as
-- the first of its part. Its rows find their arguments where they did, since none was answered 19.
use Prim.Native.Nat.{ℕ, suc, ◌+◌, ◌-◌, ◌<◌}
use native.Mathlib.Omega.{arith}
use mathlib.Core.Path.{◌≡◌, refl, sym, ap, ◌∙◌}
use mathlib.Core.Bool.{true}
use mathlib.Core.List.{List}
use mathlib.Core.Option.{some}
use lib.Dec.{ltb}
use borrow.Author.Tests.{lt-ltb}
use Rattle.ir.specs.declared.RowNumber.{RowNumber}
use Rattle.ir.specs.declared.Item.{Item}
use Rattle.frames.specs.Bytes.{frame_at}
use Rattle.frames.specs.Forms.{type_of, member_of, item_of, row_of, component_of}
use Rattle.archive.specs.declared.Starts.{Starts}
use Rattle.archive.specs.Starts.{starts_of}
use Rattle.rule.specs.Things.{item_type, maybe_item}
use Rattle.law_rows.proofs.Good.{Good}
use Rattle.law_moved.specs.Moves.{Moves, maybe_to, item_to}
use Rattle.law_moved.proofs.Files.{starts-ordered}
use Rattle.law_moved.proofs.Unmoved.{Stay, StayAll, form-stays, member-stays, item-stays, row-form-stays}
use Rattle.law_moved.proofs.Carries.{Carries, listed-map}
use Rattle.law_join.specs.Join.{bound, join_moves, first_moves, join_file}
use Rattle.law_join.specs.Joinable.{Joinable}
use Rattle.law_join.proofs.Frames.{at_first, join-starts}
use Rattle.law_join.proofs.Found.{no_item, argued, known-there}

module _ (fr gr : List ℕ) (good : Good fr) (also : Good gr) where
  abbrev s : Starts
  s = starts_of fr

  abbrev t : Starts
  t = starts_of gr

  abbrev J : List ℕ
  J = join_file fr gr

  abbrev m : Moves
  m = join_moves s

  -- frame x of part i, at a place that is found equal to it
  first-is : (i x k j : ℕ) → i < 12 → x < bound s (suc i) - bound s i → k ≡ bound s i + bound t i + x → j
      ≡ bound s i + x → frame_at J k ≡ frame_at fr j
  first-is i x k j l w a b = ap (frame_at J) a ∙ at_first fr gr i x l w ∙ ap (frame_at fr) (sym b)

  stay : Stay first_moves
  stay = record { types = λ n. refl; members = λ n. refl; overrides = λ n. refl }

  pub stay_all : StayAll first_moves
  stay_all =
      record {
        named = stay;
        constants = λ n. refl;
        globals = λ n. refl;
        arguments = λ n. refl;
        locals = λ n. refl;
        functions = λ n. refl;
        rows = λ n. refl;
        components = λ n. refl;
        counts = λ n. refl;
      }

  first-item : (i x k j : ℕ) → i < 12 → x < bound s (suc i) - bound s i → k ≡ bound s i + bound t i + x → j
      ≡ bound s i + x → item_of (frame_at J k) ≡ item_to first_moves (item_of (frame_at fr j))
  first-item i x k j l w a b = ap item_of (first-is i x k j l w a b)
      ∙ sym (item-stays first_moves stay (item_of (frame_at fr j)))

  -- an argument that is found
  first_found : (i : ℕ) → i < s.locals - s.arguments
      → maybe_item J (s.arguments + t.arguments) (s.locals + t.locals) (record { 0 = i })
      ≡ maybe_to first_moves (maybe_item fr s.arguments s.locals (record { 0 = i }))
  first_found i l =
      let o = (starts-ordered gr).locals in
      let a : ltb i (s.locals - s.arguments) ≡ true = lt-ltb i (s.locals - s.arguments) l in
      let b : ltb i (s.locals + t.locals - (s.arguments + t.arguments))
      ≡ true = lt-ltb i (s.locals + t.locals - (s.arguments + t.arguments)) (omega arith) in
      rw (a, b) (ap (λ (x : Item). some (item_type x))
      (ap item_of (first-is 5 i (s.arguments + t.arguments + i) (s.arguments + i) (omega arith) l refl refl)))

  pub first-carried : Joinable fr → Joinable gr → Carries first_moves (λ n. Unit {0}) fr (join_file fr gr)
  first-carried jf jg =
      let o = starts-ordered fr in
      let p = starts-ordered gr in
      let a1 = o.constants in let a2 = o.overrides in let a3 = o.globals in let a4 = o.arguments in
      let a5 = o.locals in let a6 = o.functions in let a7 = o.intersections in
      let a8 = o.vertex-returns in let a9 = o.rows in let a10 = o.components in let a11 = o.end in
      let b1 = p.constants in let b2 = p.overrides in let b3 = p.globals in let b4 = p.arguments in
      let b5 = p.locals in let b6 = p.functions in let b7 = p.intersections in
      let b8 = p.vertex-returns in let b9 = p.rows in let b10 = p.components in let b11 = p.end in
      let c1 = jf.specials in let c2 = jg.specials in
      record {
        type-in = λ n l. rw (join-starts fr gr good also) (omega arith);
        types = λ n l. ap type_of (first-is 0 n n n (omega arith) (omega arith) (omega arith) (omega arith))
            ∙ sym (form-stays first_moves stay (type_of (frame_at fr n)));
        members = λ n l. rw (join-starts fr gr good also)
            (ap member_of (first-is 1 n (s.members + t.members + n) (s.members + n) (omega arith) l refl refl)
            ∙ sym (member-stays first_moves stay (member_of (frame_at fr (s.members + n)))));
        member-run = λ n i. refl;
        constants = λ n l. rw (join-starts fr gr good also)
            (first-item 2 n (s.constants + t.constants + n) (s.constants + n) (omega arith) l refl refl);
        override-in = λ n l. rw (join-starts fr gr good also) (omega arith);
        overrides = λ n l. rw (join-starts fr gr good also)
            (first-item 3 n (s.overrides + t.overrides + n) (s.overrides + n) (omega arith) l refl refl);
        globals = λ n l. rw (join-starts fr gr good also)
            (first-item 4 n (s.globals + t.globals + n) (s.globals + n) (omega arith) l refl refl);
        locals = λ n l. rw (join-starts fr gr good also)
            (first-item 6 n (s.locals + t.locals + n) (s.locals + n) (omega arith) l refl refl);
        functions = λ n l. rw (join-starts fr gr good also)
            (first-item 7 n (s.functions + t.functions + n) (s.functions + n) (omega arith) l refl refl);
        row-in = λ n w l. rw (join-starts fr gr good also) (omega arith);
        rows = λ n w l. rw (join-starts fr gr good also)
            (ap row_of (first-is 10 n (s.rows + t.rows + n) (s.rows + n) (omega arith) l refl refl)
            ∙ sym (row-form-stays first_moves stay_all (row_of (frame_at fr (s.rows + n)))));
        arguments = λ n i w q. rw (join-starts fr gr good also)
            (first_found i (argued fr jf n i (known-there fr n i q) q));
        intersection = rw (join-starts fr gr good also)
            (no_item J (s.intersections + t.intersections) (s.vertex_returns + t.vertex_returns) (omega arith)
            ∙ sym (ap (maybe_to first_moves) (no_item fr s.intersections s.vertex_returns (omega arith))));
        vertex-return = rw (join-starts fr gr good also)
            (no_item J (s.vertex_returns + t.vertex_returns) (s.rows + t.rows) (omega arith)
            ∙ sym (ap (maybe_to first_moves) (no_item fr s.vertex_returns s.rows (omega arith))));
        parts = λ n j l. rw (join-starts fr gr good also)
            (listed-map (λ (r : RowNumber). record { 0 = r.0 }) _ _ j (λ i w.
            ap component_of (first-is 11 (n + i) (s.components + t.components + n + i) (s.components + n + i)
            (omega arith) (omega arith) (omega arith) (omega arith))));
      }
