-- THE CUT SHOWS THE REFUSAL: the row at its new number is answered in the cut as in the file, with rows renumbered; a
-- refusal so, and newer so. By the law of moved numbers: the reading of a marked row comes to marked rows only.
use Prim.Native.Nat.{ℕ, ◌+◌, ◌-◌, ◌≤◌, ◌<◌}
use native.Mathlib.Omega.{arith}
use mathlib.Core.Path.{◌≡◌, refl, sym, ap, ◌∙◌, subst}
use mathlib.Core.Bool.{Bool, true, false}
use mathlib.Core.List.{List, [], ◌∷◌}
use mathlib.Core.Option.{some}
use lib.Dec.{ltb}
use borrow.Author.Tests.{ltb-true}
use Rattle.ir.specs.declared.RowNumber.{RowNumber}
use Rattle.ir.specs.declared.Item.{Item}
use Rattle.frames.specs.Bytes.{frame_at}
use Rattle.frames.specs.Forms.{type_of, item_of, row_of, member_of}
use Rattle.archive.specs.declared.Starts.{Starts}
use Rattle.archive.specs.Starts.{starts_of, row_count}
use Rattle.rule.specs.Answers.{refused, Place, told, newer}
use Rattle.rule.specs.Things.{listed, item_type, maybe_item, Thing, kind, see}
use Rattle.rule.specs.Rule.{Step, step, placed, follow}
use Rattle.rule.specs.InOrder.{absent, among, among_readings, answers, readings, reading}
use Rattle.rule.proofs.InOrder.{in-order-at}
use Rattle.rule_rows.specs.declared.Pass.{Pass}
use Rattle.rule_rows.specs.Typed.{typing}
use Rattle.rule_answers.specs.Outputs.{row_answer}
use Rattle.law_rows.proofs.Good.{Good}
use Rattle.law_rows.proofs.Ranged.{Each}
use Rattle.law_rows.proofs.Rules.{rule-keeps}
use Rattle.law_rows.proofs.Range.{range, row-there}
use Rattle.answers.specs.declared.Refusal.{Refusal}
use Rattle.law_moved.specs.Moves.{Moves, refusal_to, typed_to, place_to, result_to, maybe_to, item_to}
use Rattle.law_moved.proofs.Frames.{row_moved}
use Rattle.law_moved.proofs.Files.{starts-ordered}
use Rattle.law_moved.proofs.Unmoved.{Stay, form-stays, member-stays, item-stays, maybe_stays}
use Rattle.law_moved.proofs.Carries.{Carries}
use Rattle.law_moved.proofs.Ranged.{along-both, along-weaken, along-within, along-reading, answer-later, earlier-told}
use Rattle.law_moved.proofs.Rows.{KeptAlong, rows-carried}
use Rattle.law_cut.specs.Marks.{Stands, here, later, max_marks, marks_of, is_marked}
use Rattle.law_cut.specs.Cut.{rank, cut_row, cut_moves, cut_file}
use Rattle.law_cut.proofs.Follows.{named-marked, stands-marked}
use Rattle.law_cut.proofs.Reading.{own-stands}
use Rattle.law_cut.proofs.Frames.{rank_rises, gr-count, front_at, row_is, cut-starts}

-- CARRIED

pub stays : (marks : List Bool) → Stay (cut_moves marks)
stays marks = record { types = λ n. refl; members = λ n. refl; overrides = λ n. refl }

module _ (marks : List Bool) (fr : List ℕ) (good : Good fr) where
  abbrev m : Moves
  m = cut_moves marks

  abbrev kept : ℕ → Type 0
  kept k = is_marked marks k ≡ true

  abbrev s : Starts
  s = starts_of fr

  abbrev gr : List ℕ
  gr = cut_file marks fr

  -- what stands before the rows stays
  item-front : (k : ℕ) → k < s.rows → item_of (frame_at gr k) ≡ item_of (frame_at fr k)
  item-front k l = ap item_of (front_at marks fr good k l)

  item-same : (k : ℕ) → k < s.rows → item_of (frame_at gr k) ≡ item_to m (item_of (frame_at fr k))
  item-same k l = item-front k l ∙ sym (item-stays m (stays marks) (item_of (frame_at fr k)))

  maybe-same : (first last i : ℕ) → last ≤ s.rows → maybe_item gr first last (record { 0 = i })
      ≡ maybe_to m (maybe_item fr first last (record { 0 = i }))
  maybe-same first last i l = go (ltb i (last - first)) refl
      ∙ sym (maybe_stays m (stays marks) (maybe_item fr first last (record { 0 = i })))
    where
      go : (b : Bool) → ltb i (last - first) ≡ b → maybe_item gr first last (record { 0 = i })
          ≡ maybe_item fr first last (record { 0 = i })
      go true q = rw q (ap (λ (x : Item). some (item_type x))
          (item-front (first + i) (let w = ltb-true i (last - first) q in omega arith)))
      go false q = rw q

  pub row-rank : (n : ℕ) → is_marked marks n ≡ true → cut_row marks n ≡ rank marks n
  row-rank n h = rw h

  -- the counts of the families before the rows, and of the rows
  pub rows-count : row_count (starts_of (cut_file marks fr)) ≡ rank marks (row_count (starts_of fr))
  rows-count = ap row_count (cut-starts marks fr good) ∙ (let a = gr-count marks fr good in omega arith)

  pub rows-begin : (starts_of (cut_file marks fr)).rows ≡ (starts_of fr).rows
  rows-begin = ap (λ (x : Starts). x.rows) (cut-starts marks fr good)

  pub carried : Carries (cut_moves marks) (λ k. is_marked marks k ≡ true) fr (cut_file marks fr)
  unfolding listed
  carried =
      let o = starts-ordered fr in
      let a = o.constants in
      let b = o.overrides in
      let c = o.globals in
      let d = o.arguments in
      let e = o.locals in
      let f = o.functions in
      let g = o.intersections in
      let h = o.vertex-returns in
      let i = o.rows in
      record {
        type-in = λ n l. rw (cut-starts marks fr good) l;
        types = λ n l. ap type_of (front_at marks fr good n (omega arith))
            ∙ sym (form-stays m (stays marks) (type_of (frame_at fr n)));
        members = λ n l. rw (cut-starts marks fr good)
            (ap member_of (front_at marks fr good (s.members + n) (omega arith))
            ∙ sym (member-stays m (stays marks) (member_of (frame_at fr (s.members + n)))));
        member-run = λ n j. refl;
        constants = λ n l. rw (cut-starts marks fr good) (item-same (s.constants + n) (omega arith));
        override-in = λ n l. rw (cut-starts marks fr good) l;
        overrides = λ n l. rw (cut-starts marks fr good) (item-same (s.overrides + n) (omega arith));
        globals = λ n l. rw (cut-starts marks fr good) (item-same (s.globals + n) (omega arith));
        locals = λ n l. rw (cut-starts marks fr good) (item-same (s.locals + n) (omega arith));
        functions = λ n l. rw (cut-starts marks fr good) (item-same (s.functions + n) (omega arith));
        row-in = λ n w l. rw (rows-count, row-rank n w) (rank_rises marks n (row_count s) l w);
        rows = λ n w l. rw (rows-begin, row-rank n w)
            (ap row_of (row_is marks fr good n l w) ∙ (row_moved m (frame_at fr (s.rows + n))).is);
        arguments = λ n j w q. rw (cut-starts marks fr good) (maybe-same s.arguments s.locals j (omega arith));
        intersection = rw (cut-starts marks fr good)
            (maybe-same s.intersections s.vertex_returns 0 (omega arith));
        vertex-return = rw (cut-starts marks fr good) (maybe-same s.vertex_returns s.rows 0 (omega arith));
        parts = λ n j l. refl;
      }

  pub rises : (k n : ℕ) → is_marked marks k ≡ true → is_marked marks n ≡ true → k < n
      → cut_row marks k < cut_row marks n
  rises k n a b l = rw (row-rank k a, row-rank n b) (rank_rises marks k n l a)

-- THE READING OF A MARKED ROW comes to marked rows only

module _ (kept : ℕ → Type 0) where
  abbrev Keeps : Step → Type 0
  Keeps (step p c) = (r : RowNumber) → c ≡ kind r → kept r.0

  each_from : (l : List Step) → ((r : RowNumber) → Stands r l → kept r.0) → Each Keeps l
  each_from [] h = tt
  each_from (step p c ∷ l) h =
      (λ r q. h r (subst (λ (x : Thing). Stands r (step p x ∷ l)) (sym q) here), each_from l (λ r y. h r (later y)))

  each_to : (at : Place → Place) (l : List Step) (r : RowNumber) → Each Keeps (placed at l) → Stands r l → kept r.0
  each_to at [] r h x = elim x [ ]
  each_to at (step p (kind n) ∷ l) r h here = h.0 r refl
  each_to at (step p c ∷ l) r h (later y) = each_to at l r h.1 y

module _ (pass : Pass) (fr : List ℕ) (good : Good fr) where
  module _ (n : ℕ) (there : n < row_count (starts_of fr)) (few : row_count (starts_of fr) ≤ max_marks) where
    abbrev marks : List Bool
    marks = marks_of pass fr n

    pub kept-along : (k : ℕ) → is_marked (marks_of pass fr n) k ≡ true → k < row_count (starts_of fr)
        → KeptAlong pass fr good (λ j. is_marked (marks_of pass fr n) j ≡ true) k
    kept-along k h l =
        along-weaken (λ c x. x.1.1)
        (λ r x. each_to (λ j. is_marked marks j ≡ true) x.1.0
        (follow (see fr) (among_readings (readings (see fr) (typing pass) r.0)) (typing pass r.0)).steps r
        (subst (λ (y : _). Each (Keeps (λ j. is_marked marks j ≡ true)) (placed x.1.0 y.steps))
        (in-order-at (λ earlier m. follow (see fr) (among_readings earlier) (typing pass m))
        (record { steps = []; end = some absent }) k r.0 x.0) x.1.1)
        (own-stands pass fr good r.0))
        (along-both
        (along-within pass fr k (among (answers (see fr) (typing pass) (λ m. newer) k))
        (λ r q. answer-later pass fr r.0 k (omega arith) (among (answers (see fr) (typing pass) (λ m. newer) k) r)
        (range pass fr good k (omega arith) r.0 q))
        (rule-keeps pass fr good k (row-there fr k l)))
        (along-reading (see fr) (among (answers (see fr) (typing pass) (λ m. newer) k))
        (among_readings (readings (see fr) (typing pass) k)) (Keeps (λ j. is_marked marks j ≡ true))
        (earlier-told pass fr k) (typing pass k)
        (each_from (λ j. is_marked marks j ≡ true) (reading (see fr) (typing pass) k (typing pass k))
        (λ r y. stands-marked pass fr good n there few k r h y))))

    -- EVERY MARKED ROW is answered in the cut as in the file, with rows renumbered
    pub cut-answers : (k : ℕ) → is_marked (marks_of pass fr n) k ≡ true → k < row_count (starts_of fr)
        → row_answer pass (see (cut_file (marks_of pass fr n) fr)) (cut_row (marks_of pass fr n) k)
        ≡ result_to (cut_moves (marks_of pass fr n)) (typed_to (cut_moves (marks_of pass fr n)))
        (row_answer pass (see fr) k)
    cut-answers k h l =
        rows-carried pass fr good (cut_moves marks) (λ j. is_marked marks j ≡ true) (cut_file marks fr)
        (carried marks fr good) (rises marks fr good) kept-along k h l

    -- THE REFUSAL: the named row, at its new number, has the same refusal with rows renumbered; newer too
    pub same-refusal : (e : Refusal) → row_answer pass (see fr) n ≡ told (refused e)
        → row_answer pass (see (cut_file (marks_of pass fr n) fr)) (rank (marks_of pass fr n) n)
        ≡ told (refused (refusal_to (cut_moves (marks_of pass fr n)) e))
    same-refusal e q =
        let h = named-marked pass fr good n there few in
        ap (row_answer pass (see (cut_file marks fr))) (sym (row-rank marks fr good n h)) ∙ cut-answers n h there
        ∙ ap (result_to (cut_moves marks) (typed_to (cut_moves marks))) q

    pub same-newer : (p : Place) → row_answer pass (see fr) n ≡ newer p
        → row_answer pass (see (cut_file (marks_of pass fr n) fr)) (rank (marks_of pass fr n) n)
        ≡ newer (place_to (cut_moves (marks_of pass fr n)) p)
    same-newer p q =
        let h = named-marked pass fr good n there few in
        ap (row_answer pass (see (cut_file marks fr))) (sym (row-rank marks fr good n h)) ∙ cut-answers n h there
        ∙ ap (result_to (cut_moves marks) (typed_to (cut_moves marks))) q
