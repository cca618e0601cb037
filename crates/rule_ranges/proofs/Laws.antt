-- Types taken in order: what is said of an earlier type is its own. And request 5's measure is the case without
-- counts: no type goes by them.
use Prim.Native.Nat.{ℕ, ◌≤◌, ◌<◌}
use native.Mathlib.Decide.{dec_lt}
use native.Mathlib.Omega.{arith}
use mathlib.Core.Path.{◌≡◌, refl, ap, ◌∙◌}
use mathlib.Core.Bool.{Bool, false}
use mathlib.Core.List.{List}
use lib.ListN.{get_or-eq_default}
use borrow.Author.Tests.{le-ltb}
use Rattle.ir.specs.declared.TypeNumber.{TypeNumber}
use Rattle.ir.specs.declared.ItemNumber.{ItemNumber}
use Rattle.archive.specs.declared.Starts.{Starts}
use Rattle.archive.specs.Starts.{type_count}
use Rattle.archive.specs.Access.{type_in}
use Rattle.rule.specs.InOrder.{in_order}
use Rattle.rule.proofs.InOrder.{in-order-length, in-order-at}
use Rattle.rule_sizes.specs.declared.SizeFault.TheVariants.{Unmeasured}
use Rattle.rule_sizes.specs.declared.Measure.TheVariants.{Faulty}
use Rattle.rule_sizes.specs.Sizes.{look, measures, measure_in}
use Rattle.rule_ranges.specs.Pending.{next_holds, look_holds, holding, holds_pending}
use Rattle.rule_ranges.specs.Counts.{Counts, next_by, measures_by, measure_by}

pub holds-earlier : (fr : List ℕ) (s : Starts) (n b : TypeNumber) → b.0 < n.0
    → look_holds (holding fr s n.0) b ≡ holds_pending fr s b
unfolding holding holds_pending
holds-earlier fr s n b h = in-order-at (next_holds fr s) false n.0 b.0 h

pub by-earlier : (fr : List ℕ) (s : Starts) (holds : TypeNumber → Bool) (c : Counts) (n b : TypeNumber) → b.0 < n.0
    → look (measures_by fr s holds c n.0) b ≡ measure_by fr s holds c b
unfolding measures_by measure_by
by-earlier fr s holds c n b h = in-order-at (next_by fr s holds c) (Faulty Unmeasured b) n.0 b.0 h

-- no other type is looked at
pub by-late : (fr : List ℕ) (s : Starts) (holds : TypeNumber → Bool) (c : Counts) (n b : TypeNumber) → n.0 ≤ b.0
    → look (measures_by fr s holds c n.0) b ≡ Faulty Unmeasured b
unfolding measures_by
by-late fr s holds c n b h =
    get_or-eq_default (in_order (next_by fr s holds c) n.0) (Faulty Unmeasured b) {n = b.0}
    (rw (in-order-length (next_by fr s holds c) n.0) h)

pub no-counts : (fr : List ℕ) (s : Starts) (c : Counts) (n : TypeNumber)
    → measure_by fr s (λ b. false) c n ≡ measure_in fr s n
unfolding measure_by measures_by measure_in measures
no-counts fr s c n = refl

past_all : (fr : List ℕ) (s : Starts) (b : TypeNumber) → type_count s ≤ b.0
    → look_holds (holding fr s (type_count s)) b ≡ holds_pending fr s b
unfolding holding holds_pending type_in
past_all fr s b l =
    get_or-eq_default (in_order (next_holds fr s) (type_count s)) false {n = b.0}
    (rw (in-order-length (next_holds fr s) (type_count s)) l)
    ∙ rw (le-ltb b.0 (type_count s) l)

-- MARKS of all types of a file, as a list: they say of every number what `holds_pending` says
pub marks-all : (fr : List ℕ) (s : Starts) (b : TypeNumber)
    → look_holds (holding fr s (type_count s)) b ≡ holds_pending fr s b
marks-all fr s b = go (dec_lt b.0 (type_count s))
  where
    go : Dec (b.0 < type_count s) → look_holds (holding fr s (type_count s)) b ≡ holds_pending fr s b
    go (yes l) = holds-earlier fr s (record { 0 = type_count s }) b l
    go (no l) = past_all fr s b (omega arith)

-- marks and counts that say the same measure the same
pub by_alike : (fr : List ℕ) (s : Starts) (h g : TypeNumber → Bool) (c d : Counts) (n : TypeNumber)
    → ((b : TypeNumber) → h b ≡ g b) → ((o : ItemNumber) → c o ≡ d o) → measure_by fr s h c n ≡ measure_by fr s g d n
by_alike fr s h g c d n e k =
    ap (λ (x : TypeNumber → Bool). measure_by fr s x c n) (λ j b. e b j)
    ∙ ap (λ (x : Counts). measure_by fr s g x n) (λ j o. k o j)
