-- The reading of every row is the table's, whatever a file shows and whatever the earlier readings are: each step of a
-- rule is a step of its line. By the steps that rules are made of, then by the rows.
use Prim.Native.Nat.{ℕ}
use mathlib.Core.Path.{◌≡◌, refl, sym, ap, ◌∙◌}
use mathlib.Core.Bool.{Bool, true, false}
use mathlib.Core.List.{List, [], ◌∷◌, ◌++◌, append-nil}
use mathlib.Core.Option.{Option, none, some}
use Rattle.ir.specs.declared.TypeNumber.{TypeNumber}
use Rattle.ir.specs.declared.RowNumber.{RowNumber}
use Rattle.ir.specs.declared.AddressSpace.{AddressSpace}
use Rattle.ir.specs.declared.ImageQuery.{ImageQuery}
use Rattle.ir.specs.declared.ImageQuery.TheVariants as Iq
use Rattle.ir.specs.declared.BinaryOperator.{BinaryOperator}
use Rattle.ir.specs.declared.BinaryOperator.TheVariants as Bo
use Rattle.ir.specs.declared.RelationalFunction.{RelationalFunction}
use Rattle.ir.specs.declared.RelationalFunction.TheVariants as Rf
use Rattle.ir.specs.declared.TypeInner.{TypeInner}
use Rattle.ir.specs.declared.TypeInner.TheVariants as Ti
use Rattle.rule.specs.Answers.{TypeAnswer, number, value, Typed, given, refused, chosen_refusal, Place, row}
use Rattle.rule.specs.Things.{Shown, Form, Thing, Seen, Sight, kind, form, texels, see}
use Rattle.rule.specs.Things as Row
use Rattle.rule.specs.Rule.{Rule, done, come, Step, step, Readings, follow, placed}
use Rattle.rule.specs.InOrder.{reading, readings, among_readings}
use Rattle.rule_types.specs.Canonical.{if_pointer}
use Rattle.rule_rows.specs.declared.Pass.{Pass}
use Rattle.rule_rows.specs.declared.Pass.TheVariants as Pa
use Rattle.rule_rows.specs.Selectors.{if_image}
use Rattle.rule_rows.specs.Steps.{operand, look, same_as, by_type, by_both, through_base, by_base}
use Rattle.rule_rows.specs.Images.{sampled, sampled_from, sampled_of, image_sample, image_query}
use Rattle.rule_rows.specs.Operators.{product, binary, wgsl_of, binary_by, relational}
use Rattle.rule_rows.specs.Typed.{resolve, typed, typing}
use Rattle.law_rows.specs.Reads.{reads, sample_reads, query_reads, binary_reads, binary_reads_by, relational_reads}
use Rattle.law_rows.specs.Reads.{unless_refused, unless_newer, base_thing, class_thing, step_to, line_steps}
use Rattle.law_rows.specs.Reads.{shown_steps}
use Rattle.law_rows.specs.Reads.{row_reading}

-- an operand's steps keep their places
kept : (xs : List Step) → placed (λ p. p) xs ≡ xs
kept [] = refl
kept (step p c ∷ xs) = ap (λ (l : List Step). step p c ∷ l) (kept xs)

module _ (sight : Sight) (earlier : Readings) where
  abbrev steps : Rule Typed → List Step
  steps r = (follow sight earlier r).steps

  -- an operand is read
  operand-steps : (n : RowNumber) (k : TypeAnswer → Rule Typed) (rest : TypeAnswer → List Step)
      → ((a : TypeAnswer) → steps (k a) ≡ rest a)
      → steps (operand n k) ≡ (earlier n).steps ++ unless_refused (earlier n).end rest
  operand-steps n k rest h = go (earlier n).end refl
    where
      go : (e : Option Typed) → (earlier n).end ≡ e → steps (operand n k) ≡ (earlier n).steps ++ unless_refused e rest
      go none q = rw (q, steps, follow) (kept (earlier n).steps ∙ sym (append-nil (earlier n).steps))
      go (some (given a)) q =
          rw (q, steps, follow)
          (ap (λ (l : List Step). l ++ steps (k a)) (kept (earlier n).steps)
          ∙ ap (λ (l : List Step). (earlier n).steps ++ l) (h a))
      go (some (refused e)) q = rw (q, steps, follow) (ap (λ (l : List Step). l ++ []) (kept (earlier n).steps))
      go (some (chosen_refusal f)) q = rw (q, steps, follow) (ap (λ (l : List Step). l ++ []) (kept (earlier n).steps))

  -- a thing is come to
  come-steps : (p : Place) (c : Thing) (k : Seen c → Rule Typed) (rest : List Step)
      → ((s : Seen c) → sight c ≡ some s → steps (k s) ≡ rest)
      → steps (come p c k) ≡ step p c ∷ unless_newer (sight c) rest
  come-steps p c k rest h = go (sight c) refl
    where
      go : (o : Option (Seen c)) → sight c ≡ o → steps (come p c k) ≡ step p c ∷ unless_newer o rest
      go none q = rw (q, steps, follow)
      go (some s) q = rw (q, steps, follow) (ap (λ (l : List Step). step p c ∷ l) (h s q))

  -- A TYPE'S PARTS: a pointer's base, an image's class

  base-steps : (here : RowNumber) (th : TypeNumber → AddressSpace → Form → Typed) (e : Typed) (t : TypeInner)
      → steps (if_pointer t (λ b s. look here (number b) (λ c. done (th b s c))) (done e))
      ≡ step_to sight (row here) (if_pointer t (λ b s. some (form (number b))) none) []
  base-steps here th e (Ti.Pointer b s) = come-steps (row here) (form (number b)) (λ c. done (th b s c)) []
      (λ c q. refl)
  base-steps here th e (Ti.Scalar x0) = refl
  base-steps here th e (Ti.Vector x0 x1) = refl
  base-steps here th e (Ti.Matrix x0 x1 x2) = refl
  base-steps here th e (Ti.CooperativeMatrix x0 x1 x2 x3) = refl
  base-steps here th e (Ti.Atomic x0) = refl
  base-steps here th e (Ti.ValuePointer x0 x1 x2) = refl
  base-steps here th e (Ti.Array x0 x1 x2) = refl
  base-steps here th e (Ti.Struct x0 x1 x2) = refl
  base-steps here th e (Ti.Image x0 x1 x2) = refl
  base-steps here th e (Ti.Sampler x0) = refl
  base-steps here th e (Ti.AccelerationStructure x0) = refl
  base-steps here th e (Ti.RayQuery x0) = refl
  base-steps here th e (Ti.BindingArray x0 x1) = refl

  class-steps : (here image : RowNumber) (t : TypeInner)
      → steps (sampled_from here image t) ≡ step_to sight (row here) (if_image t (λ d c. some (texels c)) none) []
  class-steps here image (Ti.Image d a c) = come-steps (row here) (texels c)
      (λ s. done (given (value (sampled_of s)))) [] (λ s q. refl)
  class-steps here image (Ti.Scalar x0) = refl
  class-steps here image (Ti.Vector x0 x1) = refl
  class-steps here image (Ti.Matrix x0 x1 x2) = refl
  class-steps here image (Ti.CooperativeMatrix x0 x1 x2 x3) = refl
  class-steps here image (Ti.Atomic x0) = refl
  class-steps here image (Ti.Pointer x0 x1) = refl
  class-steps here image (Ti.ValuePointer x0 x1 x2) = refl
  class-steps here image (Ti.Array x0 x1 x2) = refl
  class-steps here image (Ti.Struct x0 x1 x2) = refl
  class-steps here image (Ti.Sampler x0) = refl
  class-steps here image (Ti.AccelerationStructure x0) = refl
  class-steps here image (Ti.RayQuery x0) = refl
  class-steps here image (Ti.BindingArray x0 x1) = refl

  -- ROWS that read, by the shapes of their lines

  answer-steps : (n : RowNumber) → steps (same_as n) ≡ (earlier n).steps ++ unless_refused (earlier n).end (λ a. [])
  answer-steps n = operand-steps n (λ a. done (given a)) (λ a. []) (λ a. refl)

  into-steps : (here n : RowNumber) (f : TypeInner → Typed)
      → steps (by_type here n f) ≡ (earlier n).steps
      ++ unless_refused (earlier n).end (λ a. step (row here) (form a) ∷ unless_newer (sight (form a)) [])
  into-steps here n f = operand-steps n _ _
      (λ a. come-steps (row here) (form a) (λ x. done (f x.inner)) [] (λ x q. refl))

  into-base-steps : (here n : RowNumber) (th : TypeNumber → AddressSpace → Form → Typed) (f : Form → Typed)
      → steps (by_base here n th f)
      ≡ (earlier n).steps ++ unless_refused (earlier n).end
      (λ a. step (row here) (form a) ∷ unless_newer (sight (form a))
      (step_to sight (row here) (base_thing (sight (form a))) []))
  into-base-steps here n th f =
      operand-steps n _ _
      (λ a. come-steps (row here) (form a) (through_base here th f)
      (step_to sight (row here) (base_thing (sight (form a))) [])
      (λ x q. base-steps here th (f x) x.inner
      ∙ ap (λ (o : Option Form). step_to sight (row here) (base_thing o) []) (sym q)))

  into-class-steps : (here n : RowNumber)
      → steps (sampled here n)
      ≡ (earlier n).steps ++ unless_refused (earlier n).end
      (λ a. step (row here) (form a) ∷ unless_newer (sight (form a))
      (step_to sight (row here) (class_thing (sight (form a))) []))
  into-class-steps here n =
      operand-steps n _ _
      (λ a. come-steps (row here) (form a) (λ x. sampled_from here n x.inner)
      (step_to sight (row here) (class_thing (sight (form a))) [])
      (λ x q. class-steps here n x.inner
      ∙ ap (λ (o : Option Form). step_to sight (row here) (class_thing o) []) (sym q)))

  into-both-steps : (here l r : RowNumber) (f : TypeAnswer → TypeAnswer → TypeInner → TypeInner → Typed)
      → steps (by_both here l r f)
      ≡ (earlier l).steps ++ unless_refused (earlier l).end
      (λ a. (earlier r).steps ++ unless_refused (earlier r).end (λ b.
      step (row here) (form a) ∷ unless_newer (sight (form a))
      (step (row here) (form b) ∷ unless_newer (sight (form b)) [])))
  into-both-steps here l r f =
      operand-steps l _ _ (λ a. operand-steps r _ _ (λ b.
      come-steps (row here) (form a) (λ x. look here b (λ y. done (f a b x.inner y.inner))) _
      (λ x q. come-steps (row here) (form b) (λ y. done (f a b x.inner y.inner)) [] (λ y w. refl))))

  -- BY THE ROWS

  sample-steps : (here n : RowNumber) (g : Bool) → steps (image_sample here n g)
      ≡ line_steps sight earlier here (sample_reads n g)
  sample-steps here n true = into-steps here n _
  sample-steps here n false = into-class-steps here n

  query-steps : (here n : RowNumber) (q : ImageQuery) → steps (image_query here n q)
      ≡ line_steps sight earlier here (query_reads n q)
  query-steps here n Iq.Size = into-steps here n _
  query-steps here n Iq.NumLevels = refl
  query-steps here n Iq.NumLayers = refl
  query-steps here n Iq.NumSamples = refl

  binary-steps : (here : RowNumber) (op : BinaryOperator) (l r : RowNumber)
      → steps (binary here op l r) ≡ line_steps sight earlier here (binary_reads op l r)
  binary-steps here Bo.Add l r = answer-steps l
  binary-steps here Bo.Subtract l r = answer-steps l
  binary-steps here Bo.Multiply l r = into-both-steps here l r product
  binary-steps here Bo.Divide l r = answer-steps l
  binary-steps here Bo.Modulo l r = answer-steps l
  binary-steps here Bo.Equal l r = into-steps here l _
  binary-steps here Bo.NotEqual l r = into-steps here l _
  binary-steps here Bo.Less l r = into-steps here l _
  binary-steps here Bo.LessEqual l r = into-steps here l _
  binary-steps here Bo.Greater l r = into-steps here l _
  binary-steps here Bo.GreaterEqual l r = into-steps here l _
  binary-steps here Bo.And l r = answer-steps l
  binary-steps here Bo.ExclusiveOr l r = answer-steps l
  binary-steps here Bo.InclusiveOr l r = answer-steps l
  binary-steps here Bo.LogicalAnd l r = into-steps here l _
  binary-steps here Bo.LogicalOr l r = into-steps here l _
  binary-steps here Bo.ShiftLeft l r = answer-steps l
  binary-steps here Bo.ShiftRight l r = answer-steps l

  binary-by-steps : (pass : Pass) (here : RowNumber) (op : BinaryOperator) (l r : RowNumber)
      → steps (binary_by pass here op l r) ≡ line_steps sight earlier here (binary_reads_by pass op l r)
  binary-by-steps Pa.First here op l r = binary-steps here op l r
  binary-by-steps Pa.Second here op l r = into-both-steps here l r (wgsl_of op)

  relational-steps : (here : RowNumber) (f : RelationalFunction) (n : RowNumber)
      → steps (relational here f n) ≡ line_steps sight earlier here (relational_reads f n)
  relational-steps here Rf.All n = refl
  relational-steps here Rf.Any n = refl
  relational-steps here Rf.IsNan n = into-steps here n _
  relational-steps here Rf.IsInf n = into-steps here n _

  resolve-steps : (pass : Pass) (here : RowNumber) (s : Shown) → steps (resolve pass here s)
      ≡ line_steps sight earlier here (reads pass s)
  resolve-steps pass here (Row.literal l) = refl
  resolve-steps pass here (Row.constant t) = refl
  resolve-steps pass here (Row.override t) = refl
  resolve-steps pass here (Row.zero_value t) = refl
  resolve-steps pass here (Row.compose t parts) = refl
  resolve-steps pass here (Row.access n) = into-base-steps here n _ _
  resolve-steps pass here (Row.access_index n i) = into-base-steps here n _ _
  resolve-steps pass here (Row.splat z n) = into-steps here n _
  resolve-steps pass here (Row.swizzle z n) = into-steps here n _
  resolve-steps pass here (Row.function_argument i t) = refl
  resolve-steps pass here (Row.global_variable t s) = refl
  resolve-steps pass here (Row.local_variable t) = refl
  resolve-steps pass here (Row.load n) = into-base-steps here n _ _
  resolve-steps pass here (Row.image_sample n g) = sample-steps here n g
  resolve-steps pass here (Row.image_load n) = into-class-steps here n
  resolve-steps pass here (Row.image_query n q) = query-steps here n q
  resolve-steps pass here (Row.unary n) = answer-steps n
  resolve-steps pass here (Row.binary op l r) = binary-by-steps pass here op l r
  resolve-steps pass here (Row.select n) = answer-steps n
  resolve-steps pass here (Row.derivative n) = answer-steps n
  resolve-steps pass here (Row.relational f n) = relational-steps here f n
  resolve-steps pass here (Row.cast n k w) = into-steps here n _
  resolve-steps pass here (Row.call_result t) = refl
  resolve-steps pass here (Row.atomic_result t) = refl
  resolve-steps pass here (Row.work_group_uniform_load_result t) = refl
  resolve-steps pass here Row.array_length = refl
  resolve-steps pass here (Row.ray_query_vertex_positions t) = refl
  resolve-steps pass here Row.ray_query_proceed_result = refl
  resolve-steps pass here (Row.ray_query_get_intersection t) = refl
  resolve-steps pass here Row.subgroup_ballot_result = refl
  resolve-steps pass here (Row.subgroup_operation_result t) = refl
  resolve-steps pass here (Row.cooperative_load c r o n) = into-base-steps here n _ _
  resolve-steps pass here (Row.cooperative_multiply_add n) = answer-steps n

  -- THE READING of every row is the table's
  pub reads-are : (pass : Pass) (r : RowNumber) → (follow sight earlier (typed pass r)).steps
      ≡ row_reading pass sight earlier r
  reads-are pass r = go (sight (kind r)) refl
    where
      go : (o : Option Shown) → sight (kind r) ≡ o → steps (typed pass r)
          ≡ step (row r) (kind r) ∷ shown_steps pass sight earlier r o
      go none q = rw (q, steps, follow)
      go (some s) q = rw (q, steps, follow) (ap (λ (l : List Step). step (row r) (kind r) ∷ l) (resolve-steps pass r s))

-- and so over the rows of a file
pub file-reads : (pass : Pass) (fr : List ℕ) (n : ℕ)
    → reading (see fr) (typing pass) n (typing pass n)
    ≡ row_reading pass (see fr) (among_readings (readings (see fr) (typing pass) n)) (record { 0 = n })
file-reads pass fr n = reads-are (see fr) (among_readings (readings (see fr) (typing pass) n)) pass (record { 0 = n })
