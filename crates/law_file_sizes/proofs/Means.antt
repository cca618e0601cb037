-- What `type_size` and `size_range` give of a text, both ways, in the words of requests 5 and 6. From the laws of
-- reading, of sizes and of ranges.
use Rattle.answers.specs.declared.FileError.{FileError}
use Rattle.rule_sizes.specs.TypeSize.{size_error}
use Rattle.rule_ranges.specs.declared.RangeError.TheVariants as Ge
use Rattle.answers.specs.declared.QueryError.TheVariants as Qe
use Rattle.std.specs.Prelude.{Ok, Err}
use Prim.Native.Nat.{ℕ}
use mathlib.Core.Path.{◌≡◌, refl}
use mathlib.Core.Bool.{Bool, true, false, cond}
use mathlib.Core.List.{List}
use mathlib.Core.Logic.{◌↔◌}
use Rattle.scan.proofs.Laws.{LowestAt}
use Rattle.ir.specs.declared.TypeNumber.{TypeNumber}
use Rattle.answers.specs.Outcome.{Outcome}
use Rattle.text.specs.declared.AnswerRoom.TheVariants.{NotLent}
use Rattle.text.specs.Lines.{decoded}
use Rattle.text.specs.Room.{short_read}
use Rattle.archive.specs.Starts.{starts_of, override_count}
use Rattle.archive.specs.Names.{is_type}
use Rattle.law_rows.proofs.Good.{Good}
use Rattle.rule_sizes.specs.declared.Alignment.{Alignment}
use Rattle.rule_sizes.specs.declared.SizeFault.{SizeFault}
use Rattle.rule_sizes.specs.declared.Measure.{Measure}
use Rattle.rule_sizes.specs.declared.Measure.TheVariants as Me
use Rattle.rule_sizes.specs.Sizes.{measure_in, type_size_in}
use Rattle.rule_sizes.specs.Meaning.{Has, LowestFault}
use Rattle.law_sizes.proofs.Folded.{never}
use Rattle.law_sizes.proofs.Laws.{fills-when, fault-when}
use Rattle.rule_ranges.specs.declared.Range.TheVariants as Ra
use Rattle.rule_ranges.specs.TypeRange.{TypeRange, range_error}
use Rattle.rule_ranges.specs.Counts.{Counts}
use Rattle.rule_ranges.specs.Ranges.{counts_of, type_range_in, span_ok}
use Rattle.rule_ranges.specs.Meaning.{AtMost, AllSpan}
use Rattle.law_ranges.proofs.Ranges.{asked-when, span-when, range-when, refused-when}
use Rattle.law_ranges.proofs.Laws.{has-at-when, fault-at-when}
use Rattle.rule_file.specs.File.{over_file, read_file}
use Rattle.law_file.proofs.Laws.{Accepts, accepted-when}
use Rattle.rule_file_sizes.specs.Sizes.{type_size}
use Rattle.rule_file_sizes.specs.Ranges.{tables_short, size_range}
use Rattle.law_file_sizes.specs.Means.{Of, Read, Ranges, Refuses}

pub good-text : (limit : ℕ) (t : List ℕ) (f k : ℕ) → Accepts limit t f NotLent k → Good (decoded t k)
good-text limit t f k a = record { order = a.order; fields = a.fields; index = a.index }

-- REQUEST 5
module _ (limit : ℕ) (t : List ℕ) (f : ℕ) (n : TypeNumber) where
  -- what holds of an accepted file's frames
  of-frames : {P Q : List ℕ → Type 0} → ((fr : List ℕ) → Good fr → P fr → Q fr) → Of limit t f n P → Of limit t f n Q
  of-frames h o = record {
    frames = o.frames;
    accepted = o.accepted;
    there = o.there;
    holds = h _ (good-text limit t f _ o.accepted) o.holds;
  }

  -- what is measured is the measure in the text's frames
  measured-when : (m : Measure)
      → (type_size limit t f n ≡ Ok m) ↔ Of limit t f n (λ fr. measure_in fr (starts_of fr) n ≡ m)
  unfolding type_size type_size_in
  measured-when m = (
    λ e. go (read_file limit t f NotLent) refl e,
    λ h. rw ((accepted-when limit t f NotLent h.frames).1 h.accepted, h.there, h.holds),
  )
    where
      Wanted : Type 0
      Wanted = Of limit t f n (λ fr. measure_in fr (starts_of fr) n ≡ m)

      there-or-not : (k : ℕ) → read_file limit t f NotLent ≡ Ok k → (b : Bool)
          → is_type (starts_of (decoded t k)) n ≡ b
          → cond b (Ok (measure_in (decoded t k) (starts_of (decoded t k)) n)) (Err Qe.Index) ≡ Ok m
          → Wanted
      there-or-not k e true i h =
          record { frames = k; accepted = (accepted-when limit t f NotLent k).0 e; there = i; holds = cc }
      there-or-not k e false i h = never (cc)

      go : (o : Outcome) → read_file limit t f NotLent ≡ o
          → over_file size_error (λ (fr : List ℕ). type_size_in fr (starts_of fr) n) t o ≡ Ok m → Wanted
      go (Ok k) e h = there-or-not k e (is_type (starts_of (decoded t k)) n) refl h
      go (Err x) e h = never (cc)

  -- alignment and size exactly where the type has them
  pub size-means : (a : Alignment) (z : ℕ)
      → (type_size limit t f n ≡ Ok (Me.Fills a z)) ↔ Of limit t f n (λ fr. Has fr n a z)
  size-means a z = (
    λ e. of-frames (λ fr g. (fills-when fr g n a z).0) ((measured-when (Me.Fills a z)).0 e),
    λ o. (measured-when (Me.Fills a z)).1 (of-frames (λ fr g. (fills-when fr g n a z).1) o),
  )

  -- a number at a type exactly where that is the lowest faulty one
  pub fault-means : (k : SizeFault) (m : TypeNumber)
      → (type_size limit t f n ≡ Ok (Me.Faulty k m)) ↔ Of limit t f n (λ fr. LowestFault fr n m k)
  fault-means k m = (
    λ e. of-frames (λ fr g. (fault-when fr g n m k).0) ((measured-when (Me.Faulty k m)).0 e),
    λ o. (measured-when (Me.Faulty k m)).1 (of-frames (λ fr g. (fault-when fr g n m k).1) o),
  )

-- REQUEST 6, of the frames of an accepted file
module _ (fr : List ℕ) (good : Good fr) (least greatest : Counts) (n : TypeNumber) where
  most : AllSpan fr least greatest → AtMost fr least greatest
  most h o l = (h o l).1

  ranges-when : (a : Alignment) (y z : ℕ)
      → (type_range_in fr (starts_of fr) least greatest n ≡ Ok (Ra.Spans a y z))
      ↔ Ranges least greatest n a y z fr
  ranges-when a y z = (
    λ e.
        let q = (asked-when fr least greatest n (Ra.Spans a y z)).0 e in
        let w = (range-when fr least greatest good (most q.spans) n a y z).0 q.is in
        record {
          there = q.there;
          spans = q.spans;
          low = (has-at-when fr good least n a y).0 w.0;
          high = (has-at-when fr good greatest n a z).0 w.1;
        },
    λ h.
        (asked-when fr least greatest n (Ra.Spans a y z)).1 (record {
          there = h.there;
          spans = h.spans;
          is = (range-when fr least greatest good (most h.spans) n a y z).1
              ((has-at-when fr good least n a y).1 h.low, (has-at-when fr good greatest n a z).1 h.high);
        }),
  )

  refuses-when : (k : SizeFault) (m : TypeNumber)
      → (type_range_in fr (starts_of fr) least greatest n ≡ Ok (Ra.Faulty k m)) ↔ Refuses least greatest n k m fr
  refuses-when k m = (
    λ e.
        let q = (asked-when fr least greatest n (Ra.Faulty k m)).0 e in
        let w = (refused-when fr least greatest good (most q.spans) n k m).0 q.is in
        record { there = q.there; spans = q.spans; lowest = (fault-at-when fr good greatest n m k).0 w },
    λ h.
        (asked-when fr least greatest n (Ra.Faulty k m)).1 (record {
          there = h.there;
          spans = h.spans;
          is = (refused-when fr least greatest good (most h.spans) n k m).1
              ((fault-at-when fr good greatest n m k).1 h.lowest);
        }),
  )

-- and of a text and two tables
module _ (limit : ℕ) (t : List ℕ) (f : ℕ) (least greatest : List ℕ) (n : TypeNumber) where
  read-frames : {P Q : List ℕ → Type 0} → ((fr : List ℕ) → Good fr → P fr → Q fr) → Read limit t f least greatest P
      → Read limit t f least greatest Q
  read-frames h o = record {
    tables = o.tables;
    frames = o.frames;
    accepted = o.accepted;
    holds = h _ (good-text limit t f _ o.accepted) o.holds;
  }

  abbrev in-frames : List ℕ → TypeRange
  in-frames fr = type_range_in fr (starts_of fr) (counts_of least) (counts_of greatest) n

  -- what is said is what is said in the text's frames, but for the file's own numbers
  pub said-when : (r : TypeRange) → ((e : FileError) → (Err (Ge.NotAccepted e) ≡ r) → ⊥)
      → (size_range limit t f least greatest n ≡ r) ↔ Read limit t f least greatest (λ fr. in-frames fr ≡ r)
  unfolding size_range
  said-when r given = (
    λ e. long (tables_short least greatest) refl e,
    λ h. rw (h.tables, (accepted-when limit t f NotLent h.frames).1 h.accepted) h.holds,
  )
    where
      Wanted : Type 0
      Wanted = Read limit t f least greatest (λ fr. in-frames fr ≡ r)

      go : tables_short least greatest ≡ false → (o : Outcome) → read_file limit t f NotLent ≡ o
          → over_file range_error in-frames t o ≡ r → Wanted
      go q (Ok k) e h =
          record { tables = q; frames = k; accepted = (accepted-when limit t f NotLent k).0 e; holds = h }
      go q (Err x) e h = absurd (given x h)

      long : (b : Bool) → tables_short least greatest ≡ b
          → cond b (Err (Ge.NotAccepted (short_read limit t)))
          (over_file range_error in-frames t (read_file limit t f NotLent)) ≡ r → Wanted
      long true q h = absurd (given (short_read limit t) h)
      long false q h = go q (read_file limit t f NotLent) refl h

  -- a range exactly where the type has these sizes at the least and at the greatest counts
  pub range-means : (a : Alignment) (y z : ℕ) → (size_range limit t f least greatest n ≡ Ok (Ra.Spans a y z))
      ↔ Read limit t f least greatest (Ranges (counts_of least) (counts_of greatest) n a y z)
  range-means a y z =
      let s = said-when (Ok (Ra.Spans a y z)) (λ o q. never (cc)) in (
        λ e. read-frames (λ fr g. (ranges-when fr g (counts_of least) (counts_of greatest) n a y z).0) (s.0 e),
        λ o. s.1 (read-frames (λ fr g. (ranges-when fr g (counts_of least) (counts_of greatest) n a y z).1) o),
      )

  -- a number at a type exactly where that is the lowest faulty one at the greatest counts
  pub refusal-means : (k : SizeFault) (m : TypeNumber)
      → (size_range limit t f least greatest n ≡ Ok (Ra.Faulty k m))
      ↔ Read limit t f least greatest (Refuses (counts_of least) (counts_of greatest) n k m)
  refusal-means k m =
      let s = said-when (Ok (Ra.Faulty k m)) (λ o q. never (cc)) in (
        λ e. read-frames (λ fr g. (refuses-when fr g (counts_of least) (counts_of greatest) n k m).0) (s.0 e),
        λ o. s.1 (read-frames (λ fr g. (refuses-when fr g (counts_of least) (counts_of greatest) n k m).1) o),
      )

  -- 45 at an override exactly where that is the lowest one without a good span
  pub span-means : (o : ℕ) → (size_range limit t f least greatest n ≡ Err (Ge.Span o))
      ↔ Read limit t f least greatest (λ fr. (is_type (starts_of fr) n ≡ true)
      × LowestAt (λ (k : ℕ). span_ok (counts_of least) (counts_of greatest) (record { 0 = k }))
      (override_count (starts_of fr)) o)
  span-means o =
      let s = said-when (Err (Ge.Span o)) (λ o q. never (cc)) in (
        λ e. read-frames (λ fr g. (span-when fr (counts_of least) (counts_of greatest) n o).0) (s.0 e),
        λ q. s.1 (read-frames (λ fr g. (span-when fr (counts_of least) (counts_of greatest) n o).1) q),
      )
