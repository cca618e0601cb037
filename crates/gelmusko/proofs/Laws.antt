-- What the exported functions rest on: an out-slice that is too small changes nothing, and a number handed in that has
-- more than 16 bits is out of range, since a file has at most 1,024 frames. From the laws of reading a file.
use Rattle.rule_ranges.specs.TypeRange.{range_error}
use Rattle.rule_sizes.specs.TypeSize.{size_error}
use Rattle.answers.specs.Numbers.{error_values}
use Rattle.answers.specs.Asked.{base_error, canonical_error}
use Rattle.rule_ranges.specs.declared.RangeError.TheVariants as Ge
use Rattle.answers.specs.declared.QueryError.TheVariants as Qe
use Rattle.answers.specs.declared.TypeError.TheVariants as Te
use Rattle.answers.specs.declared.FileError.{FileError}
use Rattle.std.specs.Prelude.{Ok, Err}
use Prim.Native.Nat.{ℕ, ◌≤◌, min}
use native.Mathlib.Decide.{dec_le}
use native.Mathlib.Omega.{arith}
use mathlib.Core.Path.{◌≡◌, refl, sym, ap, ◌∙◌}
use mathlib.Core.Bool.{Bool, false, cond}
use mathlib.Core.List.{List}
use lib.ListN.{length}
use borrow.Author.Tests.{le-ltb}
use Rattle.answers.specs.Outcome.{Outcome}
use Rattle.answers.specs.Limit.{max_frames}
use Rattle.text.specs.declared.AnswerRoom.{AnswerRoom}
use Rattle.text.specs.declared.AnswerRoom.TheVariants.{NotLent, Lent}
use Rattle.text.specs.Lines.{decoded}
use Rattle.text.specs.Reading.{read_text}
use Rattle.text.proofs.Laws.{count_small}
use Rattle.frames.specs.Bytes.{frame_count}
use Rattle.archive.specs.Starts.{starts_of, row_count, type_count}
use Rattle.archive.specs.Names.{is_row, is_type}
use Rattle.archive.specs.Access.{type_in}
use Rattle.archive.proofs.Owners.{starts-small}
use Rattle.rule.specs.Things.{see}
use Rattle.rule_rows.specs.declared.Pass.{Pass}
use Rattle.rule_compose.specs.Rows.{verdict_of}
use Rattle.rule_types.specs.Canonical.{base_of_form, pointer_base_in, canonical_of_form, canonical_type_in}
use Rattle.rule_sizes.specs.Sizes.{measure_in, type_size_in}
use Rattle.rule_ranges.specs.Ranges.{counts_of, range_in, faulty_span, unless_span, type_range_in}
use Rattle.rule_answers.specs.Outputs.{row_answer}
use Rattle.rule_file.specs.File.{over_file, read_file}
use Rattle.rule_file.specs.Typing.{answers_written, RowGiven, row_given, row_type, answers_after_row, VerdictGiven}
use Rattle.rule_file.specs.Typing.{or_no_compose, verdict_given, compose_verdict, verdict_said, if_judged}
use Rattle.rule_file.specs.Typing.{answers_after_verdict}
use Rattle.law_file.proofs.Laws.{count-decoded, accepted-when}
use Rattle.rule_file.specs.Forms.{canonical_type, pointer_base_type}
use Rattle.rule_file_sizes.specs.Sizes.{type_size}
use Rattle.rule_file_sizes.specs.Ranges.{by_tables, size_range}
use Rattle.text.specs.Room.{or_short, short_read}
use Rattle.text.proofs.Room.{short-any}
use Rattle.rule_file.specs.Exported.{no_room}

-- numbers 1 and 2 do not depend on what is lent
pub any-room : (limit : ℕ) (t : List ℕ) (f : ℕ) (room : AnswerRoom) → no_room limit t
    ≡ (error_values (or_short (read_text limit t f room))).number
unfolding no_room
any-room limit t f room = ap (λ (e : FileError). (error_values e).number) (short-any limit t f room)

-- A NUMBER HANDED IN

-- what is the same of every number from 65,535 on is the same of a number and of the one that is handed on for it
pub clamped-is : {A : Type 0} (g : ℕ → A) (z : A) → ((m : ℕ) → 65535 ≤ m → g m ≡ z) → (n k : ℕ) → k ≡ min n 65535 → g k
    ≡ g n
clamped-is g z h n k e = go (dec_le 65535 n)
  where
    go : Dec (65535 ≤ n) → g k ≡ g n
    go (yes l) = h k (omega arith) ∙ sym (h n l)
    go (no l) = let q : k ≡ n = omega arith in ap g q

-- two things asked of an accepted file are the same where they are of its frames
pub over-same : {A : Type 0} (f : FileError → A) (g h : List ℕ → A) (t : List ℕ) (o : Outcome)
    → ((n : ℕ) → o ≡ Ok n → g (decoded t n) ≡ h (decoded t n))
    → over_file f g t o ≡ over_file f h t o
over-same f g h t (Ok n) e = e n refl
over-same f g h t (Err x) e = refl

pub few : (limit : ℕ) (t : List ℕ) (f : ℕ) (room : AnswerRoom) (n : ℕ) → read_file limit t f room ≡ Ok n
    → frame_count (decoded t n) ≤ max_frames
few limit t f room n e = rw (count-decoded t n) (count_small ((accepted-when limit t f room n).0 e).readable)

pub no-row : (fr : List ℕ) (m : ℕ) → frame_count fr ≤ max_frames → 65535 ≤ m
    → is_row (starts_of fr) (record { 0 = m }) ≡
    false
no-row fr m h l = le-ltb m (row_count (starts_of fr)) (omega (arith, (starts-small fr max_frames h).1))

no-type : (fr : List ℕ) (m : ℕ) → frame_count fr ≤ max_frames → 65535 ≤ m → is_type (starts_of fr) (record { 0 = m })
    ≡ false
no-type fr m h l = le-ltb m (type_count (starts_of fr)) (omega (arith, (starts-small fr max_frames h).0))

-- a row or a type of a number from 65,535 on is one that the file does not have
module _ (pass : Pass) (limit : ℕ) (t : List ℕ) (f a : ℕ) where
  pub row-stray : (m : ℕ) → 65535 ≤ m
      → row_type pass limit t f a (record { 0 = m })
      ≡ over_file RowGiven.not_accepted (λ (x : List ℕ). RowGiven.no_row) t (read_file limit t f (Lent a))
  unfolding row_type
  row-stray m l =
      over-same RowGiven.not_accepted (row_given pass (record { 0 = m })) (λ (x : List ℕ). RowGiven.no_row) t
      (read_file limit t f (Lent a))
      (λ n e.
      ap (λ (b : Bool). cond b (RowGiven.answer (row_answer pass (see (decoded t n)) m)) RowGiven.no_row)
      (no-row (decoded t n) m (few limit t f (Lent a) n e) l))

  pub row-clamped : (n k : ℕ) → k ≡ min n 65535 → row_type pass limit t f a (record { 0 = k })
      ≡ row_type pass limit t f a (record { 0 = n })
  row-clamped = clamped-is (λ (m : ℕ). row_type pass limit t f a (record { 0 = m })) _ row-stray

  given-stray : (m n : ℕ) → 65535 ≤ m → read_file limit t f (Lent a) ≡ Ok n
      → verdict_given pass (record { 0 = m }) (decoded t n) ≡ VerdictGiven.no_row
  given-stray m n l e =
      ap (λ (b : Bool). cond b (or_no_compose (verdict_of pass (see (decoded t n)) m)) VerdictGiven.no_row)
      (no-row (decoded t n) m (few limit t f (Lent a) n e) l)

  pub verdict-stray : (m : ℕ) → 65535 ≤ m
      → compose_verdict pass limit t f a (record { 0 = m })
      ≡ over_file VerdictGiven.not_accepted (λ (x : List ℕ). VerdictGiven.no_row) t (read_file limit t f (Lent a))
  unfolding compose_verdict
  verdict-stray m l =
      over-same VerdictGiven.not_accepted (verdict_given pass (record {
        0 =
            m;
      })) (λ (x : List ℕ). VerdictGiven.no_row) t (read_file limit t f (Lent a)) (λ n e. given-stray m n l e)

  pub verdict-clamped : (n k : ℕ) → k ≡ min n 65535
      → compose_verdict pass limit t f a (record { 0 = k }) ≡ compose_verdict pass limit t f a (record { 0 = n })
  verdict-clamped = clamped-is (λ (m : ℕ). compose_verdict pass limit t f a (record { 0 = m })) _ verdict-stray

  -- no verdict is given of such a row, so that its number stands in no frame
  said-stray : (m : ℕ) → 65535 ≤ m
      → verdict_said (record { 0 = m }) (compose_verdict pass limit t f a (record { 0 = m }))
      ≡ verdict_said (record { 0 = 0 })
      (over_file VerdictGiven.not_accepted (λ (x : List ℕ). VerdictGiven.no_row) t (read_file limit t f (Lent a)))
  said-stray m l = ap (verdict_said (record { 0 = m })) (verdict-stray m l) ∙ go (read_file limit t f (Lent a))
    where
      go : (o : Outcome)
          → verdict_said (record { 0 = m })
          (over_file VerdictGiven.not_accepted (λ (x : List ℕ). VerdictGiven.no_row) t o)
          ≡ verdict_said (record { 0 = 0 })
          (over_file VerdictGiven.not_accepted (λ (x : List ℕ). VerdictGiven.no_row) t o)
      go (Ok n) = refl
      go (Err x) = refl

  pub said-clamped : (n k : ℕ) → k ≡ min n 65535
      → verdict_said (record {
        0 =
            k;
      }) (compose_verdict pass limit t f a (record { 0 = k })) ≡ verdict_said (record {
        0 = n;
      }) (compose_verdict pass limit t f a (record { 0 = n }))
  said-clamped =
      clamped-is (λ (m : ℕ). verdict_said (record { 0 = m }) (compose_verdict pass limit t f a (record { 0 = m }))) _
      said-stray

module _ (pass : Pass) (limit : ℕ) (t : List ℕ) (f : ℕ) (an : List ℕ) where
  answers-stray : (m : ℕ) → 65535 ≤ m
      → answers_after_row pass limit t f an (record { 0 = m })
      ≡ over_file (λ (e : FileError). an) (λ (x : List ℕ). an) t (read_file limit t f (Lent (length an)))
  unfolding answers_after_row
  answers-stray m l =
      over-same (λ (e : FileError). an)
      (λ (x : List ℕ). cond (is_row (starts_of x) (record { 0 = m })) (answers_written pass an x) an)
      (λ (x : List ℕ). an) t (read_file limit t f (Lent (length an)))
      (λ n e.
      ap (λ (b : Bool). cond b (answers_written pass an (decoded t n)) an)
      (no-row (decoded t n) m (few limit t f (Lent (length an)) n e) l))

  pub answers-clamped : (n k : ℕ) → k ≡ min n 65535
      → answers_after_row pass limit t f an (record { 0 = k }) ≡ answers_after_row pass limit t f an (record { 0 = n })
  answers-clamped = clamped-is (λ (m : ℕ). answers_after_row pass limit t f an (record { 0 = m })) _ answers-stray

  judged-stray : (m : ℕ) → 65535 ≤ m
      → answers_after_verdict pass limit t f an (record { 0 = m })
      ≡ over_file (λ (e : FileError). an) (λ (x : List ℕ). an) t (read_file limit t f (Lent (length an)))
  unfolding answers_after_verdict
  judged-stray m l =
      over-same (λ (e : FileError). an)
      (λ (x : List ℕ). if_judged (answers_written pass an x) an (verdict_given pass (record { 0 = m }) x))
      (λ (x : List ℕ). an) t (read_file limit t f (Lent (length an)))
      (λ n e. ap (if_judged (answers_written pass an (decoded t n)) an)
      (given-stray pass limit t f (length an) m n l e))

  pub judged-clamped : (n k : ℕ) → k ≡ min n 65535
      → answers_after_verdict pass limit t f an (record { 0 = k })
      ≡ answers_after_verdict pass limit t f an (record { 0 = n })
  judged-clamped = clamped-is (λ (m : ℕ). answers_after_verdict pass limit t f an (record { 0 = m })) _ judged-stray

module _ (limit : ℕ) (t : List ℕ) (f : ℕ) where
  pub canonical-stray : (m : ℕ) → 65535 ≤ m
      → canonical_type limit t f (record { 0 = m })
      ≡ over_file canonical_error (λ (x : List ℕ). (Err Te.Index)) t (read_file limit t f NotLent)
  unfolding canonical_type canonical_type_in
  canonical-stray m l =
      over-same canonical_error (λ (x : List ℕ). canonical_type_in x (starts_of x) (record { 0 = m }))
      (λ (x : List ℕ). (Err Te.Index)) t (read_file limit t f NotLent)
      (λ n e.
      let x = decoded t n in
      ap (λ (b : Bool). cond b
      (canonical_of_form x (starts_of x) (record { 0 = m }) (type_in x (starts_of x) (record { 0 = m })))
      (Err Te.Index))
      (no-type x m (few limit t f NotLent n e) l))

  pub canonical-clamped : (n k : ℕ) → k ≡ min n 65535
      → canonical_type limit t f (record { 0 = k }) ≡ canonical_type limit t f (record { 0 = n })
  canonical-clamped = clamped-is (λ (m : ℕ). canonical_type limit t f (record { 0 = m })) _ canonical-stray

  pub base-stray : (m : ℕ) → 65535 ≤ m
      → pointer_base_type limit t f (record { 0 = m })
      ≡ over_file base_error (λ (x : List ℕ). (Err Te.Index)) t (read_file limit t f NotLent)
  unfolding pointer_base_type pointer_base_in
  base-stray m l =
      over-same base_error (λ (x : List ℕ). pointer_base_in x (starts_of x) (record { 0 = m }))
      (λ (x : List ℕ). (Err Te.Index)) t (read_file limit t f NotLent)
      (λ n e.
      let x = decoded t n in
      ap (λ (b : Bool). cond b (base_of_form (type_in x (starts_of x) (record { 0 = m }))) (Err Te.Index))
      (no-type x m (few limit t f NotLent n e) l))

  pub base-clamped : (n k : ℕ) → k ≡ min n 65535
      → pointer_base_type limit t f (record { 0 = k }) ≡ pointer_base_type limit t f (record { 0 = n })
  base-clamped = clamped-is (λ (m : ℕ). pointer_base_type limit t f (record { 0 = m })) _ base-stray

  pub size-stray : (m : ℕ) → 65535 ≤ m
      → type_size limit t f (record { 0 = m })
      ≡ over_file size_error (λ (x : List ℕ). (Err Qe.Index)) t (read_file limit t f NotLent)
  unfolding type_size type_size_in
  size-stray m l =
      over-same size_error (λ (x : List ℕ). type_size_in x (starts_of x) (record { 0 = m }))
      (λ (x : List ℕ). (Err Qe.Index)) t (read_file limit t f NotLent)
      (λ n e.
      let x = decoded t n in
      ap (λ (b : Bool). cond b (Ok (measure_in x (starts_of x) (record { 0 = m }))) (Err Qe.Index))
      (no-type x m (few limit t f NotLent n e) l))

  pub size-clamped : (n k : ℕ) → k ≡ min n 65535 → type_size limit t f (record { 0 = k })
      ≡ type_size limit t f (record { 0 = n })
  size-clamped = clamped-is (λ (m : ℕ). type_size limit t f (record { 0 = m })) _ size-stray

module _ (limit : ℕ) (t : List ℕ) (f : ℕ) (least greatest : List ℕ) where
  pub range-stray : (m : ℕ) → 65535 ≤ m
      → size_range limit t f least greatest (record { 0 = m })
      ≡ by_tables least greatest (Err (Ge.NotAccepted (short_read limit t)))
      (over_file range_error (λ (x : List ℕ). (Err Ge.Index)) t (read_file limit t f NotLent))
  unfolding size_range type_range_in
  range-stray m l =
      ap (by_tables least greatest (Err (Ge.NotAccepted (short_read limit t))))
      (over-same range_error
      (λ (x : List ℕ). type_range_in x (starts_of x) (counts_of least) (counts_of greatest) (record { 0 = m }))
      (λ (x : List ℕ). (Err Ge.Index)) t (read_file limit t f NotLent)
      (λ n e.
      let x = decoded t n in
      ap (λ (b : Bool). cond b
      (unless_span (faulty_span (starts_of x) (counts_of least) (counts_of greatest))
      (range_in x (starts_of x) (counts_of least) (counts_of greatest) (record { 0 = m }))) (Err Ge.Index))
      (no-type x m (few limit t f NotLent n e) l)))

  pub range-clamped : (n k : ℕ) → k ≡ min n 65535
      → size_range limit t f least greatest (record { 0 = k }) ≡ size_range limit t f least greatest (record { 0 = n })
  range-clamped = clamped-is (λ (m : ℕ). size_range limit t f least greatest (record { 0 = m })) _ range-stray
