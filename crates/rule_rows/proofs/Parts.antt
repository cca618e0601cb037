-- Access and AccessIndex (document 02, request 13): where Access gives a type, AccessIndex of the same base gives that
-- type, or number 10. For every sight and all earlier answers, so for every base. By the cases of the type looked into.
use Rattle.std.specs.Prelude.{Some, None}
use Prim.Native.Nat.{ℕ}
use mathlib.Core.Path.{◌≡◌, refl}
use mathlib.Core.Bool.{Bool, true, false, cond}
use mathlib.Core.List.{List}
use mathlib.Core.Option.{Option, none, some}
use lib.Dec.{ltb}
use Rattle.ir.specs.declared.TypeNumber.{TypeNumber}
use Rattle.ir.specs.declared.RowNumber.{RowNumber}
use Rattle.ir.specs.declared.AddressSpace.{AddressSpace}
use Rattle.ir.specs.declared.TypeInner.{TypeInner}
use Rattle.ir.specs.declared.TypeInner.TheVariants as Ti
use Rattle.answers.specs.declared.Refusal.TheVariants.{OutOfBoundsIndex}
use Rattle.rule.specs.Answers.{TypeAnswer, number, Typed, given, refused, chosen_refusal, Result, told, newer}
use Rattle.rule.specs.Things.{Sight, Form, form}
use Rattle.rule.specs.Rule.{Rule, done, Answers, run}
use Rattle.rule_types.specs.Canonical.{if_pointer}
use Rattle.rule_types.proofs.Seen.{never}
use Rattle.rule_rows.specs.Steps.{look}
use Rattle.rule_rows.specs.Access.{access_into, access_through, access, bounded, index_into, index_through}
use Rattle.rule_rows.specs.Access.{access_index}
use Rattle.rule_rows.specs.Parts.{Agrees, same, out_of_bounds}

-- what holds of two outcomes that go by whether a type is a pointer
by-pointer : {X Y : Type 0} (Q : X → Y → Type 0) (u : TypeInner) (f : TypeNumber → AddressSpace → X)
    (g : TypeNumber → AddressSpace → Y) (x : X) (y : Y) → ((b : TypeNumber) (p : AddressSpace) → Q (f b p) (g b p))
    → Q x y → Q (if_pointer u f x) (if_pointer u g y)
by-pointer Q (Ti.Pointer b p) f g x y h r = h b p
by-pointer Q (Ti.Scalar k) f g x y h r = r
by-pointer Q (Ti.Vector z k) f g x y h r = r
by-pointer Q (Ti.Matrix c w k) f g x y h r = r
by-pointer Q (Ti.CooperativeMatrix c w k o) f g x y h r = r
by-pointer Q (Ti.Atomic k) f g x y h r = r
by-pointer Q (Ti.ValuePointer z k p) f g x y h r = r
by-pointer Q (Ti.Array b z t) f g x y h r = r
by-pointer Q (Ti.Struct m n t) f g x y h r = r
by-pointer Q (Ti.Image d a c) f g x y h r = r
by-pointer Q (Ti.Sampler q) f g x y h r = r
by-pointer Q (Ti.AccelerationStructure q) f g x y h r = r
by-pointer Q (Ti.RayQuery q) f g x y h r = r
by-pointer Q (Ti.BindingArray b z) f g x y h r = r

module _ (base : RowNumber) (i : ℕ) where
  -- a type that is given, and one that is given below a bound
  is_same : (t u : TypeAnswer) → given u ≡ given t → Agrees base i t (told (given u))
  is_same t u e = let q : u ≡ t = cc in rw q same

  within : (n : ℕ) (t u : TypeAnswer) → given u ≡ given t → Agrees base i t (told (bounded base i n u))
  within n t u e = go (ltb i n)
    where
      go : (b : Bool) → Agrees base i t (told (cond b (given u) (refused (OutOfBoundsIndex base i))))
      go true = is_same t u e
      go false = out_of_bounds

  -- a part of a value, or of what a value pointer points at
  into : (members : List TypeNumber) (u : TypeInner) (t : TypeAnswer) → access_into base u ≡ given t
      → Agrees base i t (told (index_into base i members u))
  into members (Ti.Scalar k) t e = never (cc)
  into members (Ti.Vector z k) t e = within _ t _ e
  into members (Ti.Matrix c r k) t e = within _ t _ e
  into members (Ti.CooperativeMatrix c r k o) t e = never (cc)
  into members (Ti.Atomic k) t e = never (cc)
  into members (Ti.Pointer b p) t e = never (cc)
  into members (Ti.ValuePointer None k p) t e = never (cc)
  into members (Ti.ValuePointer (Some z) k p) t e = within _ t _ e
  into members (Ti.Array b z n) t e = is_same t _ e
  into members (Ti.Struct m n k) t e = never (cc)
  into members (Ti.Image d a c) t e = never (cc)
  into members (Ti.Sampler q) t e = never (cc)
  into members (Ti.AccelerationStructure q) t e = never (cc)
  into members (Ti.RayQuery q) t e = never (cc)
  into members (Ti.BindingArray b z) t e = is_same t _ e

  -- the pointer to a part of a pointer's base
  through : (ty : TypeNumber) (p : AddressSpace) (members : List TypeNumber) (u : TypeInner) (t : TypeAnswer)
      → access_through ty p u ≡ given t → Agrees base i t (told (index_through base i ty p members u))
  through ty p members (Ti.Scalar k) t e = never (cc)
  through ty p members (Ti.Vector z k) t e = within _ t _ e
  through ty p members (Ti.Matrix c r k) t e = within _ t _ e
  through ty p members (Ti.CooperativeMatrix c r k o) t e = never (cc)
  through ty p members (Ti.Atomic k) t e = never (cc)
  through ty p members (Ti.Pointer b q) t e = never (cc)
  through ty p members (Ti.ValuePointer z k q) t e = never (cc)
  through ty p members (Ti.Array b z n) t e = is_same t _ e
  through ty p members (Ti.Struct m n k) t e = never (cc)
  through ty p members (Ti.Image d a c) t e = never (cc)
  through ty p members (Ti.Sampler q) t e = never (cc)
  through ty p members (Ti.AccelerationStructure q) t e = never (cc)
  through ty p members (Ti.RayQuery q) t e = never (cc)
  through ty p members (Ti.BindingArray b z) t e = is_same t _ e

  -- over answers that are one at the base
  module _ (sight : Sight) (one two : Answers) (here there : RowNumber) (t : TypeAnswer) where
    -- what is shown of two rules: where the first gives t, the second agrees
    abbrev Both : Rule Typed → Rule Typed → Type 0
    Both a b = run sight one newer a ≡ told (given t) → Agrees base i t (run sight two newer b)

    ended : (a b : Typed) → (a ≡ given t → Agrees base i t (told b)) → Both (done a) (done b)
    ended a b h e = h (cc)

    pointed : (b : TypeNumber) (f g : Form → Typed) → ((y : Form) → f y ≡ given t → Agrees base i t (told (g y)))
        → Both (look here (number b) (λ y. done (f y))) (look there (number b) (λ y. done (g y)))
    pointed b f g h e = go (sight (form (number b))) refl
      where
        go : (o : Option Form) → sight (form (number b)) ≡ o
            → Agrees base i t (run sight two newer (look there (number b) (λ y. done (g y))))
        go none q = never (let z = rw (q, run) at e in cc)
        go (some y) q = rw (q, run) (h y (let z = rw (q, run) at e in cc))

    pub parts-agree : one base ≡ two base → run sight one newer (access here base) ≡ told (given t)
        → Agrees base i t (run sight two newer (access_index there base i))
    parts-agree w e = go (two base) refl
      where
        seen : (a : TypeAnswer) → two base ≡ told (given a) → (o : Option Form) → sight (form a) ≡ o
            → Agrees base i t (run sight two newer (access_index there base i))
        seen a qa none q = never (let z = rw (w, qa, q, run) at e in cc)
        seen a qa (some x) q =
            rw (qa, q, run) (by-pointer Both x.inner _ _ _ _
            (λ b p. pointed b _ _ (λ y. through b p y.members y.inner t))
            (ended _ _ (into x.members x.inner t))
            (rw (w, qa, q, run) at e))

        go : (o : Result Typed) → two base ≡ o → Agrees base i t (run sight two newer (access_index there base i))
        go (told (given a)) q = seen a q (sight (form a)) refl
        go (told (refused f)) q = never (let z = rw (w, q, run) at e in cc)
        go (told (chosen_refusal f)) q = never (let z = rw (w, q, run) at e in cc)
        go (newer p) q = never (let z = rw (w, q, run) at e in cc)
