-- THE NUMBERS OF THE SECOND FILE FIT where they are moved: each frame names what is there, and the test of 49 found the
-- argument of each row that names one (law_join/proofs/Fits.antt).
use Prim.Native.Nat.{ℕ, zero, suc, ◌-◌, ◌≤◌, ◌<◌}
use native.Mathlib.Omega.{arith}
use mathlib.Core.Path.{◌≡◌, refl, sym, ap, ◌∙◌, subst}
use mathlib.Core.Bool.{true}
use mathlib.Core.List.{List}
use borrow.Author.Tests.{ltb-true}
use Rattle.scan.proofs.Laws.{and_first, all-each}
use Rattle.ir.specs.declared.RowKind.{RowKind}
use Rattle.ir.specs.declared.RowKind.TheVariants as Rk
use Rattle.ir.specs.Numbers.{type_kind_of, item_kind_of, row_kind_of}
use Rattle.answers.specs.Limit.{max_frames}
use Rattle.frames.specs.declared.Frame.{Frame}
use Rattle.frames.specs.Bytes.{byte, half, word, frame_at, frame_count}
use Rattle.frames.specs.Forms.{type_of, item_of, row_of, member_of, component_of}
use Rattle.frames.proofs.Put.{below_at}
use Rattle.text.proofs.Laws.{Bytes}
use Rattle.archive.specs.declared.Starts.{Starts}
use Rattle.archive.specs.Starts.{starts_of}
use Rattle.archive.specs.Names.{is_type, is_row, names_by, names_of, names_ok}
use Rattle.archive.specs.Checks.{index_ok}
use Rattle.archive.specs.Parts.{early_ok}
use Rattle.law_rows.proofs.Good.{Good, good-when}
use Rattle.law_moved.specs.Frames.{member_numbers, component_numbers, numbers_by, numbers_of, moved_frame}
use Rattle.law_moved.proofs.Files.{starts-ordered}
use Rattle.law_moved.proofs.Written.{AllFit}
use Rattle.law_join.specs.Join.{join_moves}
use Rattle.law_join.specs.Joinable.{joins_by, row_joins, frame_joins, joinable}
use Rattle.law_join.proofs.Fits.{Few, type-fit, own-row-fit, type-fits, item-fits, row_fits}
use Rattle.file_join.specs.ForProofs.{Checked, Fitting}

few-of : (x : List ℕ) → frame_count x ≤ max_frames → Few (starts_of x)
unfolding starts_of
few-of x l = record { ordered = starts-ordered x; few = l }

module _ (fr gr : List ℕ) (few : frame_count fr ≤ max_frames) (fewer : frame_count gr ≤ max_frames) (bytes : Bytes gr)
    (good : Good gr) (joins : joinable gr ≡ true) where
  abbrev s : Starts
  s = starts_of fr

  abbrev t : Starts
  t = starts_of gr

  named : (k : ℕ) → k < frame_count gr → names_of t k (frame_at gr k) ≡ true
  unfolding index_ok names_ok
  named k l = and_first (names_of t k (frame_at gr k)) (early_ok gr k) (good.index k l)

  tested : (k : ℕ) → k < frame_count gr → frame_joins t (frame_at gr k) ≡ true
  unfolding joinable
  tested k l = all-each (λ (i : ℕ). frame_joins t (frame_at gr i)) (frame_count gr) k joins l

  -- a row's argument was found
  argued : (k : ℕ) → k < frame_count gr → byte (frame_at gr k) 0 ≡ 4 → row_kind_of (byte (frame_at gr k) 1)
      ≡ Rk.FunctionArgument
      → word (frame_at gr k) 12 < t.locals - t.arguments
  argued k l e q =
      let f = frame_at gr k in
      ltb-true (word f 12) (t.locals - t.arguments)
      (sym (ap (λ (x : RowKind). row_joins t x f) q) ∙ sym (ap (λ (b : ℕ). joins_by b t f) e) ∙ tested k l)

  member-fit : (f : Frame) → is_type t (member_of f).ty ≡ true → AllFit (join_moves s) member_numbers f
  unfolding member_of
  member-fit f h = (type-fit s t (few-of fr few) (few-of gr fewer) (half f 2) h, tt)

  component-fit : (f : Frame) → is_row t (component_of f) ≡ true → AllFit (join_moves s) component_numbers f
  unfolding component_of
  component-fit f h = (own-row-fit s t (few-of fr few) (few-of gr fewer) (half f 2) h, tt)

  -- by the family
  frame-fits : (k : ℕ) → k < frame_count gr → (b : ℕ) → byte (frame_at gr k) 0 ≡ b
      → names_by b t k (frame_at gr k) ≡ true
      → AllFit (join_moves s) (numbers_by b (frame_at gr k)) (frame_at gr k)
  unfolding type_of item_of row_of
  frame-fits k l zero e h = tt
  frame-fits k l (suc zero) e h =
      type-fits s t (few-of fr few) (few-of gr fewer) (type_kind_of (byte (frame_at gr k) 1))
      (frame_at gr k) k (omega arith) h
  frame-fits k l (suc (suc zero)) e h = member-fit (frame_at gr k) h
  frame-fits k l (suc (suc (suc zero))) e h = item-fits s t (few-of fr few) (few-of gr fewer)
      (item_kind_of (byte (frame_at gr k) 1)) (frame_at gr k) h
  frame-fits k l (suc (suc (suc (suc zero)))) e h =
      row_fits s t (few-of fr few) (few-of gr fewer) (row_kind_of (byte (frame_at gr k) 1)) (frame_at gr k)
      (below_at gr bytes k) (k - t.rows) (omega arith) h (argued k l e)
  frame-fits k l (suc (suc (suc (suc (suc zero))))) e h = component-fit (frame_at gr k) h
  frame-fits k l (suc (suc (suc (suc (suc (suc b)))))) e h = tt

  second_fits : (k : ℕ) → k < frame_count gr
      → AllFit (join_moves s) (numbers_by (byte (frame_at gr k) 0) (frame_at gr k)) (frame_at gr k)
  second_fits k l = frame-fits k l (byte (frame_at gr k) 0) refl (named k l)

pub fitting : (fr gr : List ℕ) → Checked fr → Checked gr → Bytes gr → joinable gr ≡ true → Fitting (starts_of fr) gr
fitting fr gr a b bytes joins =
    record {
      at = second_fits fr gr a.few b.few bytes ((good-when gr b.few).0 b.accepted) joins;
    }

-- frame k of the second, as the code moves it
pub moved_at : (s : Starts) (gr : List ℕ) → Fitting s gr → (k : ℕ) → k < frame_count gr → {f : Frame}
    → f ≡ frame_at gr k
    → {r : Frame} → (AllFit (join_moves s) (numbers_of f) f → r ≡ moved_frame (join_moves s) f)
    → r ≡ moved_frame (join_moves s) (frame_at gr k)
moved_at s gr fits k l e m =
    m (subst (λ (f : Frame). AllFit (join_moves s) (numbers_of f) f) (sym e) (fits.at k l))
    ∙ ap (moved_frame (join_moves s)) e
