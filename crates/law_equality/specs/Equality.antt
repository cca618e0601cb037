-- Type equality as a law (document 02, request 13), said of the comparison over a text that the contract of `same_type`
-- cites (`same_types`, rule_file/specs/Types.antt): of a text t, read within a limit, with a frame buffer of f bytes.
use Rattle.answers.specs.declared.CompareError.TheVariants as Ce
use Rattle.std.specs.Prelude.{ℕ, ◌≡◌, true, List, ◌⊎◌, None, Ok, Err, false}
use Rattle.ir.specs.declared.TypeNumber.{TypeNumber}
use Rattle.answers.specs.Asked.{Sameness}
use Rattle.frames.specs.declared.Frame.{Frame}
use Rattle.archive.specs.Starts.{starts_of}
use Rattle.archive.specs.Names.{is_type}
use Rattle.archive.specs.Access.{type_at}
use Rattle.rule.specs.Answers.{type_answer_of}
use Rattle.rule_types.specs.Comparison.{Sound}
use Rattle.rule_file.specs.Types.{same_types}

module _ (limit : ℕ) (t : List ℕ) (f : ℕ) where
  -- two answers are the same type: the comparison gives yes. Where it gives 22 it is not known whether they are, and
  -- they are not taken for the same
  abbrev pub Same : Frame → Frame → Type 0
  Same a b = same_types limit t f a b ≡ Ok true

  -- they are not: it gives no
  abbrev pub Different : Frame → Frame → Type 0
  Different a b = same_types limit t f a b ≡ Ok false

  -- every type that the comparison looks into is known: it does not give 22 (`known-when`)
  abbrev pub Known : Frame → Frame → Type 0
  Known a b = same_types limit t f a b ≡ Err Ce.Newer → ⊥

-- what a comparison gives is neither 5 nor 6
pub record Taken (o : Sameness) : Type 0 where
  pub five : o ≡ Err Ce.Field → ⊥
  pub six : o ≡ Err Ce.Index → ⊥

-- an answer that a comparison meets with neither 5 nor 6, in a file whose frames these are (`taken-when`)
abbrev pub SoundIn : List ℕ → Frame → Type 0
SoundIn fr a = Sound (starts_of fr) (type_answer_of a)

-- R is an equivalence among those that are In: each equals itself, either order agrees, and it carries through a third
pub record Equivalence {A : Type 0} (In : A → Type 0) (R : A → A → Type 0) : Type 0 where
  pub self : (a : A) → In a → R a a
  pub order : (a b : A) → In a → In b → R a b → R b a
  pub third : (a b c : A) → In a → In b → In c → R a b → R b c → R a c

-- answers, those that are In, as the request has them: each is met with neither 5 nor 6, and in the comparison of every
-- two every type looked into is known
pub record AllKnown (limit : ℕ) (t : List ℕ) (f : ℕ) (fr : List ℕ) (In : Frame → Type 0) : Type 0 where
  pub sound : (a : Frame) → In a → SoundIn fr a
  pub known : (a b : Frame) → In a → In b → Known limit t f a b

-- sameness among answers that are In: it is an equivalence, and every two are the same or not
pub record Lawful (limit : ℕ) (t : List ℕ) (f : ℕ) (In : Frame → Type 0) : Type 0 where
  pub equivalence : Equivalence In (Same limit t f)
  pub decided : (a b : Frame) → In a → In b → Same limit t f a b ⊎ Different limit t f a b

-- every type of a file is of a known kind
abbrev pub TypesKnown : List ℕ → Type 0
TypesKnown fr = (n : TypeNumber) → is_type (starts_of fr) n ≡ true → type_at fr n ≡ None → ⊥
