-- A struct as the code has it gives what the exact definition gives. Members that end at 2 to the 32 or later never
-- have a size: afresh an end only grows; by the file's offsets no later member stands at or past such an end, and no
-- span holds it.
use Prim.Native.Nat.{ℕ, ◌+◌, ◌≤◌, ◌<◌}
use native.Mathlib.Decide.{dec_lt}
use native.Mathlib.Omega.{arith}
use mathlib.Core.Path.{◌≡◌, refl}
use mathlib.Core.Bool.{Bool, true, false, cond, ◌&&◌}
use lib.Dec.{leb}
use borrow.Author.Tests.{lt-ltb, le-ltb, lt-leb}
use Rattle.ir.specs.declared.TypeNumber.{TypeNumber}
use Rattle.rule_sizes.specs.declared.Alignment.{Alignment}
use Rattle.rule_sizes.specs.declared.SizeFault.{SizeFault}
use Rattle.rule_sizes.specs.declared.Measure.{Measure}
use Rattle.rule_sizes.specs.declared.Measure.TheVariants.{Fills, Faulty}
use Rattle.rule_sizes.specs.Wgsl.{is_multiple, round_up}
use Rattle.rule_sizes.specs.Sizes.{Parts, Laid, Broken, joined, spanned, struct_of}
use Rattle.rule_ranges.specs.Counts.{fresh_offset, fresh_struct}
use Rattle.size_steps.specs.declared.SoFar.{SoFar}
use Rattle.size_steps.specs.declared.SoFar.TheVariants as C
use Rattle.size_steps.specs.Exact.{far, overlaps, Like, laid, past, broken}
use Rattle.size_steps.specs.SoFar.{up_to, member_more, span_end, fresh_end, struct_by}
use Rattle.size_steps.proofs.Small.{round-least}

up-to : (afresh : Bool) (a : Alignment) (e : ℕ) (ok : Bool) → Like afresh (Laid a e ok) (up_to a e ok)
up-to afresh a e ok = go (dec_lt e 4294967296)
  where
    go : Dec (e < 4294967296) → Like afresh (Laid a e ok) (up_to a e ok)
    go (yes l) = rw (lt-ltb e 4294967296 l) laid
    go (no l) = let k : 4294967296 ≤ e = omega arith in rw (le-ltb e 4294967296 k) (past (far k))

the-lower : {afresh : Bool} (b : Bool) (k j : SizeFault) (p q : TypeNumber)
    → Like afresh (cond b (Broken k p) (Broken j q)) (cond b (C.Broken k p) (C.Broken j q))
the-lower true k j p q = broken
the-lower false k j p q = broken

and-false : (x : Bool) → (x && false) ≡ false
and-false true = refl
and-false false = refl

-- one member more, at the offset of the exact definition
pub member-like : (afresh : Bool) {p : Parts} {c : SoFar} (offset : ℕ) (m : Measure) → Like afresh p c
    → offset < 4294967296
    → Like afresh (joined p (cond afresh (fresh_offset p m) offset) m) (member_more afresh c offset m)
unfolding joined member_more
member-like afresh offset (Faulty j q) (broken {k} {p}) h = the-lower (leb p.0 q.0) k j p q
member-like afresh offset (Fills a z) broken h = broken
member-like afresh offset (Faulty j q) laid h = broken
member-like true offset (Fills a z) laid h = up-to true _ _ _
member-like false offset (Fills a z) laid h = up-to false _ _ _
member-like afresh offset (Faulty j q) (past l) h = broken
member-like true offset (Fills a z) (past {e = e} (far l)) h =
    let k : 4294967296 ≤ round_up a e + z = omega (arith, round-least a e) in past (far k)
member-like false offset (Fills a z) (past {e = e} {ok = ok} (far l)) h =
    rw (lt-leb e offset (omega arith), and-false (is_multiple a offset), and-false ok) (past overlaps)
member-like false offset (Fills a z) (past overlaps) h = past overlaps

-- the struct of such members
pub struct-like : (afresh : Bool) (n : TypeNumber) {p : Parts} {c : SoFar} (count span : ℕ) → Like afresh p c
    → span < 4294967296 → struct_by afresh n c count span ≡ cond afresh (fresh_struct n p) (struct_of n p count span)
unfolding struct_by fresh_end span_end fresh_struct struct_of spanned
struct-like true n count span broken h = refl
struct-like false n count span broken h = refl
struct-like true n count span laid h = refl
struct-like false n count span laid h = refl
struct-like true n count span (past {a = a} {e = e} (far l)) h =
    rw (le-ltb (round_up a e) 4294967296 (omega (arith, round-least a e)))
struct-like false n count span (past {e = e} {ok = ok} (far l)) h = rw (lt-leb e span (omega arith), and-false ok)
struct-like false n count span (past overlaps) h = refl
