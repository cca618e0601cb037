-- FAMILIES of an accepted file, by where they begin: the frames between two starts are of one family, since ranks rise.
use Prim.Native.Nat.{ℕ, ◌*◌, ◌≤◌, ◌<◌}
use native.Mathlib.Omega.{arith}
use mathlib.Core.Path.{◌≡◌, refl}
use mathlib.Core.Bool.{Bool, true, false}
use mathlib.Core.List.{List}
use lib.Dec.{eqb}
use borrow.Author.Tests.{eqb-true}
use Rattle.frames.specs.declared.Frame.{Frame}
use Rattle.frames.specs.Bytes.{byte, frame_at}
use Rattle.frames.specs.Forms.{item_of}
use Rattle.archive.specs.Order.{rank_of}
use Rattle.archive.specs.Starts.{starts_of}
use Rattle.archive.proofs.Ranks.{begins}
use Rattle.archive.proofs.Files.{from_start}
use Rattle.law_rows.proofs.Good.{Good, type-at, member-at, item-at, row-at, component-at}
use Rattle.law_moved.proofs.Carries.{HasType}

pub cases : (b : Bool) {P : Type 0} → (b ≡ true → P) → (b ≡ false → P) → P
cases true f g = f refl
cases false f g = g refl

module _ (fr : List ℕ) (good : Good fr) where
  pub type-family : (n : ℕ) → n < (starts_of fr).members → byte (frame_at fr n) 0 ≡ 1
  unfolding starts_of
  type-family n l = (type-at fr good n l).family-is

  pub member-family : (n : ℕ) → (starts_of fr).members ≤ n → n < (starts_of fr).constants → byte (frame_at fr n) 0 ≡ 2
  unfolding starts_of
  member-family n a l = (member-at fr good n a l).family-is

  item-rank : (f : Frame) → 769 ≤ rank_of f → rank_of f < 1024 → byte f 0 ≡ 3
  item-rank f a b =
      cases (eqb (byte f 0) 3) (λ e. eqb-true (byte f 0) 3 e)
      (λ e. let c : 769 ≤ 256 * byte f 0 = rw e at a in let d : 256 * byte f 0 < 1024 = rw e at b in
      absurd (omega arith))

  pub item-family : (n : ℕ) → (starts_of fr).constants ≤ n → n < (starts_of fr).rows → byte (frame_at fr n) 0 ≡ 3
  unfolding starts_of
  item-family n a l =
      item-rank (frame_at fr n) ((from_start fr good.order 769 n (let w = (begins fr 1024).within in omega arith)).0 a)
      ((begins fr 1024).lower n l)

  pub row-family : (n : ℕ) → (starts_of fr).rows ≤ n → n < (starts_of fr).components → byte (frame_at fr n) 0 ≡ 4
  unfolding starts_of
  row-family n a l = (row-at fr good n a l).family-is

  pub component-family : (n : ℕ) → (starts_of fr).components ≤ n → n < (starts_of fr).end → byte (frame_at fr n) 0 ≡ 5
  unfolding starts_of
  component-family n a l = (component-at fr good n a l).family-is

  argument-kind : (n : ℕ) → (starts_of fr).arguments ≤ n → n < (starts_of fr).locals → byte (frame_at fr n) 1 ≡ 4
  unfolding starts_of
  argument-kind n a l = (item-at fr good 4 n (omega arith) (omega arith) a l).kind-is

  argument-has : (f : Frame) → byte f 1 ≡ 4 → HasType (item_of f)
  unfolding item_of
  argument-has f e = rw e tt

  pub argument-typed : (n : ℕ) → (starts_of fr).arguments ≤ n → n < (starts_of fr).locals
      → HasType (item_of (frame_at fr n))
  argument-typed n a l = argument-has (frame_at fr n) (argument-kind n a l)
