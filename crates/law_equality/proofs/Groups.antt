-- Two answers of a list are in one group exactly where they are the same, so neither the order of the list nor its
-- other members matter. By going along the list, for any comparison whose yes holds either way and carries through a
-- third; that of an accepted text does.
use Rattle.answers.specs.declared.CompareError.TheVariants as Ce
use Rattle.std.specs.Prelude.{Ok, Err}
use Prim.Native.Nat.{ℕ}
use mathlib.Core.Path.{◌≡◌, refl, sym, ap, ◌∙◌}
use mathlib.Core.Bool.{Bool, true, false, cond}
use mathlib.Core.List.Memᴰ
use mathlib.Core.List.{List, [], ◌∷◌, Memᴰ}
use mathlib.Core.List.Permᴰ
use mathlib.Core.List.{Permᴰ}
use mathlib.Core.Logic.{◌⊎◌, inl, inr, ◌↔◌}
use mathlib.Core.Option.{Option, none, some}
use Rattle.answers.specs.Asked.{Sameness}
use Rattle.text.specs.declared.AnswerRoom.TheVariants.{NotLent}
use Rattle.text.specs.Lines.{decoded}
use Rattle.frames.specs.declared.Frame.{Frame}
use Rattle.rule_types.proofs.Seen.{never}
use Rattle.rule_file.specs.File.{read_file}
use Rattle.rule_file.specs.Types.{same_types}
use Rattle.law_equality.specs.Equality.{Same, SoundIn}
use Rattle.law_equality.specs.Groups.{is_same, group, OneGroup, members}
use Rattle.law_equality.proofs.Equality.{same-sound, sound-equivalence}

-- a member stays one in another order
moved : {A : Type 0} {a : A} {l m : List A} → Permᴰ l m → Memᴰ a l → Memᴰ a m
moved Permᴰ.nil h = h
moved {a = a} (Permᴰ.cons {a = x} {b = y} {l₁ = l} {l₂ = m} q p) h = go (Memᴰ.cases_cons h) (λ g. moved p g)
  where
    go : (a ≡ x) ⊎ Memᴰ a l → (Memᴰ a l → Memᴰ a m) → Memᴰ a (y ∷ m)
    go (inl e) ih = Memᴰ.head (e ∙ q)
    go (inr g) ih = Memᴰ.tail (ih g)
moved {a = a} (Permᴰ.swap {a = x} {b = y} {a' = z} {b' = w} {l = l} q p) h = go (Memᴰ.cases_cons h)
  where
    next : (a ≡ y) ⊎ Memᴰ a l → Memᴰ a (z ∷ w ∷ l)
    next (inl e) = Memᴰ.head (e ∙ p)
    next (inr g) = Memᴰ.tail (Memᴰ.tail g)

    go : (a ≡ x) ⊎ Memᴰ a (y ∷ l) → Memᴰ a (z ∷ w ∷ l)
    go (inl e) = Memᴰ.tail (Memᴰ.head (e ∙ q))
    go (inr g) = next (Memᴰ.cases_cons g)
moved (Permᴰ.trans p q) h = moved q (moved p h)

-- only yes counts
is-yes : (o : Sameness) → is_same o ≡ true → o ≡ Ok true
is-yes (Ok true) e = refl
is-yes (Ok false) e = never (cc)
is-yes (Err Ce.Newer) e = never (cc)
is-yes (Err Ce.Field) e = never (cc)
is-yes (Err Ce.Index) e = never (cc)
is-yes (Err (Ce.NotAccepted o)) e = never (cc)

-- A COMPARISON WHOSE YES HOLDS EITHER WAY, and carries through a third
module _ (compare : Frame → Frame → Sameness) (order : (a b : Frame) → compare a b ≡ Ok true → compare b a ≡ Ok true)
    (third : (a b c : Frame) → compare a b ≡ Ok true → compare b c ≡ Ok true → compare a c ≡ Ok true) where
  -- the first that is the same as a is the same as a
  group-same : (l : List Frame) (a x : Frame) → group compare l a ≡ some x → compare x a ≡ Ok true
  group-same [] a x e = never (cc)
  group-same (y ∷ l) a x e = go (is_same (compare y a)) refl e (group-same l a x)
    where
      go : (b : Bool) → is_same (compare y a) ≡ b → cond b (some y) (group compare l a) ≡ some x
          → (group compare l a ≡ some x → compare x a ≡ Ok true) → compare x a ≡ Ok true
      go true q w ih = let h : y ≡ x = cc in rw h at (is-yes (compare y a) q)
      go false q w ih = ih w

  -- a member that is the same as itself is in a group
  grouped : (l : List Frame) (a : Frame) → Memᴰ a l → compare a a ≡ Ok true
      → (x : Frame) × (group compare l a ≡ some x)
  grouped [] a h e = elim h [ ]
  grouped (y ∷ l) a h e = go (is_same (compare y a)) refl (Memᴰ.cases_cons h) (λ g. grouped l a g e)
    where
      go : (b : Bool) → is_same (compare y a) ≡ b → (a ≡ y) ⊎ Memᴰ a l
          → (Memᴰ a l → (x : Frame) × (group compare l a ≡ some x))
          → (x : Frame) × (cond b (some y) (group compare l a) ≡ some x)
      go true q w ih = (y, refl)
      go false q (inl w) ih = never (let h : compare y a ≡ (Ok true) = ap (λ (z : Frame). compare z a) (sym w)
          ∙ e in cc)
      go false q (inr g) ih = ih g

  -- each of a list is the same as a exactly where it is the same as b
  alike-tests : (a b : Frame) → compare a b ≡ Ok true → (x : Frame) → is_same (compare x a) ≡ is_same (compare x b)
  alike-tests a b e x = go (is_same (compare x a)) (is_same (compare x b)) refl refl
    where
      go : (p q : Bool) → is_same (compare x a) ≡ p → is_same (compare x b) ≡ q → p ≡ q
      go true q g h = sym (ap is_same (third x a b (is-yes (compare x a) g) e)) ∙ h
      go false true g h = sym g ∙ ap is_same (third x b a (is-yes (compare x b) h) (order a b e))
      go false false g h = refl

  group-alike : (a b : Frame) → compare a b ≡ Ok true → (l : List Frame) → group compare l a ≡ group compare l b
  group-alike a b e [] = refl
  group-alike a b e (x ∷ l) =
      ap (λ (p : Bool). cond p (some x) (group compare l a)) (alike-tests a b e x)
      ∙ ap (cond (is_same (compare x b)) (some x)) (group-alike a b e l)

  -- TWO ARE IN ONE GROUP exactly where they are the same
  pub group-when : (l : List Frame) (a b : Frame) → Memᴰ a l → OneGroup compare l a b ↔ (compare a b ≡ Ok true)
  group-when l a b h = (
    λ o.
        let x = o.first in
        third a x b (order x a (group-same l a x o.left)) (group-same l b x o.right),
    λ e.
        let g = grouped l a h (third a b a e (order a b e)) in
        record { first = g.0; left = g.1; right = sym (group-alike a b e l) ∙ g.1 },
  )

  -- and their groups have the same members
  pub members_alike : (a b : Frame) → compare a b ≡ Ok true → (l : List Frame)
      → members compare l a ≡ members compare l b
  members_alike a b e [] = refl
  members_alike a b e (x ∷ l) =
      ap (λ (p : Bool). cond p (x ∷ members compare l a) (members compare l a)) (alike-tests a b e x)
      ∙ ap (λ (m : List Frame). cond (is_same (compare x b)) (x ∷ m) m) (members_alike a b e l)

  -- in another order too
  pub reordered : (l m : List Frame) → Permᴰ l m → (a b : Frame) → Memᴰ a l
      → OneGroup compare l a b ↔ OneGroup compare m a b
  reordered l m p a b h = (
    λ o. (group-when m a b (moved p h)).1 ((group-when l a b h).0 o),
    λ o. (group-when l a b h).1 ((group-when m a b (moved p h)).0 o),
  )

-- THE MEMBERS OF A GROUP in another order of the list are the same in another order, for any comparison
module _ (compare : Frame → Frame → Sameness) (a : Frame) where
  kept : (p : Bool) (x : Frame) {l m : List Frame} → Permᴰ l m → Permᴰ (cond p (x ∷ l) l) (cond p (x ∷ m) m)
  kept true x h = Permᴰ.cons refl h
  kept false x h = h

  swapped : (p q : Bool) (x y : Frame) (l : List Frame)
      → Permᴰ (cond p (x ∷ cond q (y ∷ l) l) (cond q (y ∷ l) l)) (cond q (y ∷ cond p (x ∷ l) l) (cond p (x ∷ l) l))
  swapped true true x y l = Permᴰ.swap refl refl
  swapped true false x y l = Permᴰ.refl (x ∷ l)
  swapped false true x y l = Permᴰ.refl (y ∷ l)
  swapped false false x y l = Permᴰ.refl l

  pub members-reordered : {l m : List Frame} → Permᴰ l m → Permᴰ (members compare l a) (members compare m a)
  members-reordered Permᴰ.nil = Permᴰ.nil
  members-reordered (Permᴰ.cons {a = x} q p) = rw (← q) (kept (is_same (compare x a)) x (members-reordered p))
  members-reordered (Permᴰ.swap {a = x} {b = y} {l = l} q p) =
      rw (← q, ← p) (swapped (is_same (compare x a)) (is_same (compare y a)) x y (members compare l a))
  members-reordered (Permᴰ.trans p q) = Permᴰ.trans (members-reordered p) (members-reordered q)

-- OF AN ACCEPTED TEXT
module _ (limit : ℕ) (t : List ℕ) (f n : ℕ) (e : read_file limit t f NotLent ≡ Ok n) where
  text-order : (a b : Frame) → Same limit t f a b → Same limit t f b a
  text-order a b h =
      let s = same-sound limit t f n e a b h in
      (sound-equivalence limit t f n e).order a b s.0 s.1 h

  text-third : (a b c : Frame) → Same limit t f a b → Same limit t f b c → Same limit t f a c
  text-third a b c h g =
      let s = same-sound limit t f n e a b h in
      let r = same-sound limit t f n e b c g in
      (sound-equivalence limit t f n e).third a b c s.0 s.1 r.1 h g

  -- two answers of a list are in one group exactly where they are the same
  pub one-group-when : (l : List Frame) (a b : Frame) → Memᴰ a l
      → OneGroup (same_types limit t f) l a b ↔ Same limit t f a b
  one-group-when = group-when (same_types limit t f) text-order text-third

  -- an answer of a list is in a group exactly where a comparison meets it with neither 5 nor 6
  pub in-a-group : (l : List Frame) (a : Frame) → Memᴰ a l
      → OneGroup (same_types limit t f) l a a ↔ SoundIn (decoded t n) a
  in-a-group l a h = (
    λ o. (same-sound limit t f n e a a ((one-group-when l a a h).0 o)).0,
    λ p. (one-group-when l a a h).1 ((sound-equivalence limit t f n e).self a p),
  )

  -- THE ORDER DOES NOT MATTER: in any other order of the list two of it are in one group exactly where they were
  pub order-free : (l m : List Frame) → Permᴰ l m → (a b : Frame) → Memᴰ a l
      → OneGroup (same_types limit t f) l a b ↔ OneGroup (same_types limit t f) m a b
  order-free = reordered (same_types limit t f) text-order text-third

  -- each group has the same members, in the other order
  pub members-free : (l m : List Frame) → Permᴰ l m → (a : Frame)
      → Permᴰ (members (same_types limit t f) l a) (members (same_types limit t f) m a)
  members-free l m p a = members-reordered (same_types limit t f) a p

  -- and answers in one group have one list of members
  pub members-one : (l : List Frame) (a b : Frame) → Same limit t f a b
      → members (same_types limit t f) l a ≡ members (same_types limit t f) l b
  members-one l a b h = members_alike (same_types limit t f) text-order text-third a b h l
