-- Rows of every other kind, in both passes: of an operand at which the passes are alike they give what is alike, since
-- their rules are the same, read at most one operand, and see of its type only what it shows.
use Prim.Native.Nat.{ℕ}
use mathlib.Core.Path.{◌≡◌, refl, ap, ◌∙◌}
use mathlib.Core.Bool.{true, false}
use mathlib.Core.List.{List, [], ◌∷◌}
use mathlib.Core.Option.{Option, none, some}
use Rattle.ir.specs.declared.TypeNumber.{TypeNumber}
use Rattle.ir.specs.declared.RowNumber.{RowNumber}
use Rattle.ir.specs.declared.AddressSpace.{AddressSpace}
use Rattle.ir.specs.declared.BinaryOperator.{BinaryOperator}
use Rattle.ir.specs.declared.ImageQuery.TheVariants as Iq
use Rattle.ir.specs.declared.RelationalFunction.TheVariants as Rf
use Rattle.ir.specs.declared.TypeInner.{TypeInner}
use Rattle.ir.specs.declared.TypeInner.TheVariants as Ti
use Rattle.rule.specs.Answers.{TypeAnswer, number, Typed, given, refused, chosen_refusal, Result, told, newer}
use Rattle.rule.specs.Things.{Shown, Form, form, see}
use Rattle.rule.specs.Things as Row
use Rattle.rule.specs.Rule.{Rule, done, Answers, run}
use Rattle.rule_types.specs.Canonical.{if_pointer}
use Rattle.rule_types.proofs.Seen.{never}
use Rattle.rule_rows.specs.declared.Pass.TheVariants as Pa
use Rattle.rule_rows.specs.Steps.{operand, look, same_as}
use Rattle.rule_rows.specs.Images.{sampled_from}
use Rattle.rule_rows.specs.Typed.{resolve}
use Rattle.law_rows.specs.Reads.{reads}
use Rattle.law_passes.specs.InBoth.{ShowsAs, Alike}

same : {fr : List ℕ} (r : Result Typed) → Alike fr r r
same r y e = record { type = y; typed = e; shows = refl }

-- THE STEPS OF RULES over two tables of earlier answers
module _ (fr : List ℕ) (one two : Answers) (here : RowNumber) where
  abbrev first : Rule Typed → Result Typed
  first rule = run (see fr) one newer rule

  abbrev second : Rule Typed → Result Typed
  second rule = run (see fr) two newer rule

  operand-alike : (m : RowNumber) (k : TypeAnswer → Rule Typed) → Alike fr (one m) (two m)
      → ((a b : TypeAnswer) → see fr (form a) ≡ see fr (form b) → Alike fr (first (k a)) (second (k b)))
      → Alike fr (first (operand m k)) (second (operand m k))
  operand-alike m k h next y e = go (two m) refl
    where
      go : (o : Result Typed) → two m ≡ o → ShowsAs fr y (first (operand m k))
      go (told (given b)) q = let s = h b q in rw (s.typed, run) (next s.type b s.shows y (rw (q, run) at e))
      go (told (refused w)) q = let z : told (refused w) ≡ told (given y) = rw (q, run) at e in never (cc)
      go (told (chosen_refusal f)) q = let z : told (chosen_refusal f) ≡ told (given y) = rw (q, run) at e in never (cc)
      go (newer p) q = let z : newer p ≡ told (given y) = rw (q, run) at e in never (cc)

  same-as : (m : RowNumber) → Alike fr (one m) (two m) → Alike fr (first (same_as m)) (second (same_as m))
  same-as m h = operand-alike m (λ a. done (given a)) h
      (λ a b s y e. record {
        type = a;
        typed = refl;
        shows = let q : b ≡ y = cc in s ∙ ap (λ (c : TypeAnswer). see fr (form c)) q;
      })

  -- what is done with a form reads nothing more
  by_form : (m : RowNumber) (k : Form → Rule Typed) → ((x : Form) → first (k x) ≡ second (k x))
      → Alike fr (one m) (two m)
      → Alike fr (first (operand m (λ a. look here a k))) (second (operand m (λ a. look here a k)))
  by_form m k alike h = operand-alike m (λ a. look here a k) h (λ a b s y e. go a b s y e (see fr (form b)) refl)
    where
      go : (a b : TypeAnswer) → see fr (form a) ≡ see fr (form b) → (y : TypeAnswer)
          → second (look here b k) ≡ told (given y)
          → (o : Option Form) → see fr (form b) ≡ o → ShowsAs fr y (first (look here a k))
      go a b s y e none q = let z : newer _ ≡ told (given y) = rw (q, run) at e in never (cc)
      go a b s y e (some x) q = rw (s ∙ q, run) (same (first (k x)) y (alike x ∙ (rw (q, run) at e)))

  based-same : (through : TypeNumber → AddressSpace → Form → Typed) (x : Typed) (t : TypeInner)
      → first (if_pointer t (λ b s. look here (number b) (λ c. done (through b s c))) (done x))
      ≡ second (if_pointer t (λ b s. look here (number b) (λ c. done (through b s c))) (done x))
  based-same through x (Ti.Scalar k) = refl
  based-same through x (Ti.Vector z k) = refl
  based-same through x (Ti.Matrix c r k) = refl
  based-same through x (Ti.CooperativeMatrix c r k o) = refl
  based-same through x (Ti.Atomic k) = refl
  based-same through x (Ti.Pointer b p) = refl
  based-same through x (Ti.ValuePointer z k p) = refl
  based-same through x (Ti.Array b z t) = refl
  based-same through x (Ti.Struct m n t) = refl
  based-same through x (Ti.Image d a c) = refl
  based-same through x (Ti.Sampler q) = refl
  based-same through x (Ti.AccelerationStructure q) = refl
  based-same through x (Ti.RayQuery q) = refl
  based-same through x (Ti.BindingArray b z) = refl

  sampled-same : (image : RowNumber) (t : TypeInner) → first (sampled_from here image t)
      ≡ second (sampled_from here image t)
  sampled-same image (Ti.Scalar k) = refl
  sampled-same image (Ti.Vector z k) = refl
  sampled-same image (Ti.Matrix c r k) = refl
  sampled-same image (Ti.CooperativeMatrix c r k o) = refl
  sampled-same image (Ti.Atomic k) = refl
  sampled-same image (Ti.Pointer b p) = refl
  sampled-same image (Ti.ValuePointer z k p) = refl
  sampled-same image (Ti.Array b z t) = refl
  sampled-same image (Ti.Struct m n t) = refl
  sampled-same image (Ti.Image d a c) = refl
  sampled-same image (Ti.Sampler q) = refl
  sampled-same image (Ti.AccelerationStructure q) = refl
  sampled-same image (Ti.RayQuery q) = refl
  sampled-same image (Ti.BindingArray b z) = refl

  -- the first operand, where there is one
  abbrev pub FirstAlike : List RowNumber → Type 0
  FirstAlike [] = Unit {0}
  FirstAlike (m ∷ ms) = Alike fr (one m) (two m)

  -- EVERY OTHER RULE
  pub rule-alike : (x : Shown) → ((op : BinaryOperator) (l r : RowNumber) → x ≡ Row.binary op l r → ⊥)
      → FirstAlike (reads Pa.Second x).operands
      → Alike fr (first (resolve Pa.First here x)) (second (resolve Pa.Second here x))
  rule-alike (Row.access m) not h = by_form m _ (λ x. based-same _ _ x.inner) h
  rule-alike (Row.access_index m i) not h = by_form m _ (λ x. based-same _ _ x.inner) h
  rule-alike (Row.splat z m) not h = by_form m _ (λ x. refl) h
  rule-alike (Row.swizzle z m) not h = by_form m _ (λ x. refl) h
  rule-alike (Row.literal l) not h = same _
  rule-alike (Row.constant t) not h = same _
  rule-alike (Row.override t) not h = same _
  rule-alike (Row.zero_value t) not h = same _
  rule-alike (Row.compose t parts) not h = same _
  rule-alike (Row.function_argument i t) not h = same _
  rule-alike (Row.global_variable t s) not h = same _
  rule-alike (Row.local_variable t) not h = same _
  rule-alike (Row.load m) not h = by_form m _ (λ x. based-same _ _ x.inner) h
  rule-alike (Row.image_sample m true) not h = by_form m _ (λ x. refl) h
  rule-alike (Row.image_sample m false) not h = by_form m _ (λ x. sampled-same m x.inner) h
  rule-alike (Row.image_load m) not h = by_form m _ (λ x. sampled-same m x.inner) h
  rule-alike (Row.image_query m Iq.Size) not h = by_form m _ (λ x. refl) h
  rule-alike (Row.image_query m Iq.NumLevels) not h = same _
  rule-alike (Row.image_query m Iq.NumLayers) not h = same _
  rule-alike (Row.image_query m Iq.NumSamples) not h = same _
  rule-alike (Row.unary m) not h = same-as m h
  rule-alike (Row.binary op l r) not h = absurd (not op l r refl)
  rule-alike (Row.atomic_result t) not h = same _
  rule-alike (Row.subgroup_operation_result t) not h = same _
  rule-alike (Row.work_group_uniform_load_result t) not h = same _
  rule-alike (Row.select m) not h = same-as m h
  rule-alike (Row.derivative m) not h = same-as m h
  rule-alike (Row.relational Rf.All m) not h = same _
  rule-alike (Row.relational Rf.Any m) not h = same _
  rule-alike (Row.relational Rf.IsNan m) not h = by_form m _ (λ x. refl) h
  rule-alike (Row.relational Rf.IsInf m) not h = by_form m _ (λ x. refl) h
  rule-alike (Row.cast m k w) not h = by_form m _ (λ x. refl) h
  rule-alike (Row.call_result r) not h = same _
  rule-alike Row.array_length not h = same _
  rule-alike Row.ray_query_proceed_result not h = same _
  rule-alike (Row.ray_query_get_intersection t) not h = same _
  rule-alike (Row.ray_query_vertex_positions t) not h = same _
  rule-alike Row.subgroup_ballot_result not h = same _
  rule-alike (Row.cooperative_load c r o m) not h = by_form m _ (λ x. based-same _ _ x.inner) h
  rule-alike (Row.cooperative_multiply_add m) not h = same-as m h
