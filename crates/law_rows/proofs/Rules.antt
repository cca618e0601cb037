-- Every rule keeps within a file that is accepted: of operands whose types are in range it makes types in range, comes
-- to things that are there, and reads earlier rows only. By the steps that rules are made of, then rule by rule.
use Prim.Native.Nat.{ℕ, ◌<◌}
use native.Mathlib.Omega.{arith}
use mathlib.Core.Path.{◌≡◌, refl}
use mathlib.Core.Bool.{Bool, true, false}
use mathlib.Core.List.{List}
use borrow.Author.Tests.{ltb-true}
use Rattle.ir.specs.declared.TypeNumber.{TypeNumber}
use Rattle.ir.specs.declared.RowNumber.{RowNumber}
use Rattle.ir.specs.declared.VectorSize.TheVariants as Vs
use Rattle.ir.specs.declared.AddressSpace.{AddressSpace}
use Rattle.ir.specs.declared.AddressSpace.TheVariants as Sp
use Rattle.ir.specs.declared.ImageQuery.{ImageQuery}
use Rattle.ir.specs.declared.ImageQuery.TheVariants as Iq
use Rattle.ir.specs.declared.BinaryOperator.{BinaryOperator}
use Rattle.ir.specs.declared.BinaryOperator.TheVariants as Bo
use Rattle.ir.specs.declared.RelationalFunction.{RelationalFunction}
use Rattle.ir.specs.declared.RelationalFunction.TheVariants as Rf
use Rattle.ir.specs.declared.TypeInner.{TypeInner}
use Rattle.ir.specs.Scalars.{U32, BOOL}
use Rattle.archive.specs.Starts.{starts_of}
use Rattle.archive.specs.Names.{is_type, is_row, query_names, relational_names}
use Rattle.rule.specs.Answers.{TypeAnswer, number, Typed, given, refused, chosen_refusal, row}
use Rattle.rule.specs.Things as Row
use Rattle.rule.specs.Things.{Shown, Form, kind, form, texels}
use Rattle.rule.specs.Rule.{Rule}
use Rattle.rule_rows.specs.declared.Pass.{Pass}
use Rattle.rule_rows.specs.declared.Pass.TheVariants as Pa
use Rattle.rule_rows.specs.Steps.{pass_on, operand, look, same_as, by_type, by_both, by_base}
use Rattle.rule_rows.specs.Variables.{literal_scalar}
use Rattle.rule_rows.specs.Images.{sampled, image_sample, image_query}
use Rattle.rule_rows.specs.Operators.{product, binary, wgsl_of, binary_by, relational}
use Rattle.ir.specs.TypeMethods.{scalar_in, pointer_base}
use Rattle.rule_rows.specs.Results.{base_scalar}
use Rattle.rule_rows.specs.Typed.{resolve, typing}
use Rattle.law_rows.proofs.Good.{Good}
use Rattle.law_rows.proofs.Ranged.{TypeInRange, TypedInRange, FormInRange, Within, ends, comes, reads}
use Rattle.law_rows.proofs.Ranged.{refusal-number}
use Rattle.law_rows.proofs.Selected.{by-image, by-pointer}
use Rattle.law_rows.proofs.There.{ShownInRange}
use Rattle.law_rows.proofs.Made.{pointer_in, scalar-in, vector-in, access-into, access-through, index-into}
use Rattle.law_rows.proofs.Made.{index-through, splat-of, swizzle-of, argument-in, variable-in, load-through}
use Rattle.law_rows.proofs.Made.{load-into, gathered-of, sampled-of, image-size-of, product-in, wgsl-in}
use Rattle.law_rows.proofs.Made.{bools-of, logical-of, cast-of, result-of, special-in, cooperative-of}
use Rattle.law_rows.proofs.Seen.{row_seen, form-seen}

module _ (pass : Pass) (fr : List ℕ) (good : Good fr) (here : RowNumber) where
  abbrev Keeps : Rule Typed → Type 0
  Keeps = Within pass fr here.0

  -- STEPS

  operand-keeps : (n : RowNumber) (k : TypeAnswer → Rule Typed) → n.0 < here.0
      → ((a : TypeAnswer) → TypeInRange (starts_of fr) a → Keeps (k a)) → Keeps (operand n k)
  operand-keeps n k l h = reads l go
    where
      go : (t : Typed) → TypedInRange pass (starts_of fr) t → Keeps (pass_on k t)
      go (given a) i = h a i
      go (refused e) i = ends i
      go (chosen_refusal f) i = absurd i

  look-keeps : (a : TypeAnswer) (k : Form → Rule Typed) → TypeInRange (starts_of fr) a
      → ((x : Form) → FormInRange (starts_of fr) x → Keeps (k x)) → Keeps (look here a k)
  look-keeps a k i h = comes (row here) (form a) (omega arith) i (λ x q. h x (rw q at (form-seen fr good a i)))

  same-keeps : (n : RowNumber) → n.0 < here.0 → Keeps (same_as n)
  same-keeps n l = operand-keeps n _ l (λ a i. ends i)

  type-keeps : (n : RowNumber) (f : TypeInner → Typed) → n.0 < here.0
      → ((t : TypeInner) → TypedInRange pass (starts_of fr) (f t))
      → Keeps (by_type here n f)
  type-keeps n f l h = operand-keeps n _ l (λ a i. look-keeps a _ i (λ x j. ends (h x.inner)))

  base-keeps : (n : RowNumber) (through : TypeNumber → AddressSpace → Form → Typed) (into : Form → Typed)
      → n.0 < here.0
      → ((b : TypeNumber) (p : AddressSpace) (x : Form) → is_type (starts_of fr) b ≡ true → FormInRange (starts_of fr) x
      → TypedInRange pass (starts_of fr) (through b p x))
      → ((x : Form) → FormInRange (starts_of fr) x → TypedInRange pass (starts_of fr) (into x))
      → Keeps (by_base here n through into)
  base-keeps n through into l g h =
      operand-keeps n _ l (λ a i. look-keeps a _ i (λ x j.
      by-pointer (starts_of fr) Keeps x.inner j.base
      (λ b p w. look-keeps (number b) _ w (λ y v. ends (g b p y w v))) (ends (h x j))))

  -- RULES

  sampled-keeps : (n : RowNumber) → n.0 < here.0 → Keeps (sampled here n)
  sampled-keeps n l =
      operand-keeps n _ l (λ a i. look-keeps a _ i (λ x j.
      by-image Keeps x.inner
      (λ d c. comes (row here) (texels c) (omega arith) tt (λ y q. ends (sampled-of pass (starts_of fr) y)))
      (ends (refusal-number pass _ refl))))

  sample-keeps : (n : RowNumber) (g : Bool) → n.0 < here.0 → Keeps (image_sample here n g)
  sample-keeps n true l = type-keeps n _ l (gathered-of pass (starts_of fr) n)
  sample-keeps n false l = sampled-keeps n l

  query-keeps : (n : RowNumber) (q : ImageQuery) → query_names here n q ≡ true → Keeps (image_query here n q)
  query-keeps n Iq.Size h = type-keeps n _ (ltb-true _ _ h) (image-size-of pass (starts_of fr) n)
  query-keeps n Iq.NumLevels h = ends (scalar-in pass (starts_of fr) U32)
  query-keeps n Iq.NumLayers h = ends (scalar-in pass (starts_of fr) U32)
  query-keeps n Iq.NumSamples h = ends (scalar-in pass (starts_of fr) U32)

  both-keeps : (l r : RowNumber) (f : TypeAnswer → TypeAnswer → TypeInner → TypeInner → Typed) → l.0 < here.0
      → r.0 < here.0
      → ((a b : TypeAnswer) (x y : TypeInner) → TypeInRange (starts_of fr) a → TypeInRange (starts_of fr) b
      → TypedInRange pass (starts_of fr) (f a b x y))
      → Keeps (by_both here l r f)
  both-keeps l r f g h made =
      operand-keeps l _ g (λ a i. operand-keeps r _ h
      (λ b j. look-keeps a _ i (λ x v. look-keeps b _ j (λ y w. ends (made a b x.inner y.inner i j)))))

  binary-keeps : (op : BinaryOperator) (l r : RowNumber) → l.0 < here.0 → r.0 < here.0 → Keeps (binary here op l r)
  binary-keeps Bo.Add l r g h = same-keeps l g
  binary-keeps Bo.Subtract l r g h = same-keeps l g
  binary-keeps Bo.Multiply l r g h = both-keeps l r product g h (product-in pass (starts_of fr))
  binary-keeps Bo.Divide l r g h = same-keeps l g
  binary-keeps Bo.Modulo l r g h = same-keeps l g
  binary-keeps Bo.Equal l r g h = type-keeps l _ g (bools-of pass (starts_of fr))
  binary-keeps Bo.NotEqual l r g h = type-keeps l _ g (bools-of pass (starts_of fr))
  binary-keeps Bo.Less l r g h = type-keeps l _ g (bools-of pass (starts_of fr))
  binary-keeps Bo.LessEqual l r g h = type-keeps l _ g (bools-of pass (starts_of fr))
  binary-keeps Bo.Greater l r g h = type-keeps l _ g (bools-of pass (starts_of fr))
  binary-keeps Bo.GreaterEqual l r g h = type-keeps l _ g (bools-of pass (starts_of fr))
  binary-keeps Bo.And l r g h = same-keeps l g
  binary-keeps Bo.ExclusiveOr l r g h = same-keeps l g
  binary-keeps Bo.InclusiveOr l r g h = same-keeps l g
  binary-keeps Bo.LogicalAnd l r g h = type-keeps l _ g (logical-of pass (starts_of fr))
  binary-keeps Bo.LogicalOr l r g h = type-keeps l _ g (logical-of pass (starts_of fr))
  binary-keeps Bo.ShiftLeft l r g h = same-keeps l g
  binary-keeps Bo.ShiftRight l r g h = same-keeps l g

  relational-keeps : (f : RelationalFunction) (n : RowNumber) → relational_names here f n ≡ true
      → Keeps (relational here f n)
  relational-keeps Rf.All n h = ends (scalar-in pass (starts_of fr) BOOL)
  relational-keeps Rf.Any n h = ends (scalar-in pass (starts_of fr) BOOL)
  relational-keeps Rf.IsNan n h = type-keeps n _ (ltb-true _ _ h) (bools-of pass (starts_of fr))
  relational-keeps Rf.IsInf n h = type-keeps n _ (ltb-true _ _ h) (bools-of pass (starts_of fr))
  -- the rule of what a row shows

-- a Binary row, by the pass: number 41 is in range in the second alone
binary-by-keeps : (pass : Pass) (fr : List ℕ) (good : Good fr) (here : RowNumber) (op : BinaryOperator)
    (l r : RowNumber) → l.0 < here.0
    → r.0 < here.0 → Within pass fr here.0 (binary_by pass here op l r)
binary-by-keeps Pa.First fr good here op l r g h = binary-keeps Pa.First fr good here op l r g h
binary-by-keeps Pa.Second fr good here op l r g h =
    both-keeps Pa.Second fr good here l r (wgsl_of op) g h (λ a b x y i j. wgsl-in (starts_of fr) op x y)

module _ (pass : Pass) (fr : List ℕ) (good : Good fr) (here : RowNumber) where
  resolve-keeps : (x : Shown) → ShownInRange (starts_of fr) here x → Within pass fr here.0 (resolve pass here x)
  resolve-keeps (Row.literal l) h = ends (scalar-in pass (starts_of fr) (literal_scalar l))
  resolve-keeps (Row.constant t) h = ends h
  resolve-keeps (Row.override t) h = ends h
  resolve-keeps (Row.zero_value t) h = ends h
  resolve-keeps (Row.compose t parts) h = ends h.0
  resolve-keeps (Row.access n) h =
      base-keeps pass fr good here n _ _ h (λ b p x w j. access-through pass (starts_of fr) b p x.inner j.base)
      (λ x j. access-into pass (starts_of fr) n x.inner j.base)
  resolve-keeps (Row.access_index n i) h =
      base-keeps pass fr good here n _ _ h
      (λ b p x w j. index-through pass (starts_of fr) n i b p x.members x.inner j.base j.members)
      (λ x j. index-into pass (starts_of fr) n i x.members x.inner j.base j.members)
  resolve-keeps (Row.splat z n) h = type-keeps pass fr good here n _ h (splat-of pass (starts_of fr) z n)
  resolve-keeps (Row.swizzle z n) h = type-keeps pass fr good here n _ h (swizzle-of pass (starts_of fr) z n)
  resolve-keeps (Row.function_argument i t) h = ends (argument-in pass (starts_of fr) i t h)
  resolve-keeps (Row.global_variable t p) h = ends (variable-in pass (starts_of fr) t p h)
  resolve-keeps (Row.local_variable t) h = ends (pointer_in pass (starts_of fr) t Sp.Function h)
  resolve-keeps (Row.load n) h =
      base-keeps pass fr good here n _ _ h (λ b p x w j. load-through pass (starts_of fr) b x.inner w)
      (λ x j. load-into pass (starts_of fr) n x.inner j.base)
  resolve-keeps (Row.image_sample n g) h = sample-keeps pass fr good here n g h
  resolve-keeps (Row.image_load n) h = sampled-keeps pass fr good here n h
  resolve-keeps (Row.image_query n q) h = query-keeps pass fr good here n q h
  resolve-keeps (Row.unary n) h = same-keeps pass fr good here n h
  resolve-keeps (Row.binary op l r) h = binary-by-keeps pass fr good here op l r h.0 h.1
  resolve-keeps (Row.select n) h = same-keeps pass fr good here n h
  resolve-keeps (Row.derivative n) h = same-keeps pass fr good here n h
  resolve-keeps (Row.relational f n) h = relational-keeps pass fr good here f n h
  resolve-keeps (Row.cast n k w) h = type-keeps pass fr good here n _ h (cast-of pass (starts_of fr) k w)
  resolve-keeps (Row.call_result r) h = ends (result-of pass (starts_of fr) r h)
  resolve-keeps (Row.atomic_result t) h = ends h
  resolve-keeps (Row.work_group_uniform_load_result t) h = ends h
  resolve-keeps Row.array_length h = ends (scalar-in pass (starts_of fr) U32)
  resolve-keeps (Row.ray_query_vertex_positions t) h = ends (special-in pass (starts_of fr) t h)
  resolve-keeps Row.ray_query_proceed_result h = ends (scalar-in pass (starts_of fr) BOOL)
  resolve-keeps (Row.ray_query_get_intersection t) h = ends (special-in pass (starts_of fr) t h)
  resolve-keeps Row.subgroup_ballot_result h = ends (vector-in pass (starts_of fr) Vs.Quad U32)
  resolve-keeps (Row.subgroup_operation_result t) h = ends h
  resolve-keeps (Row.cooperative_load c r o n) h =
      base-keeps pass fr good here n _ _ h
      (λ b p x w j. cooperative-of pass (starts_of fr) c r o n (scalar_in x.inner))
      (λ x j. cooperative-of pass (starts_of fr) c r o n (base_scalar (pointer_base x.inner)))
  resolve-keeps (Row.cooperative_multiply_add n) h = same-keeps pass fr good here n h

-- the rule of every row of an accepted file keeps within it
pub rule-keeps : (pass : Pass) (fr : List ℕ) → Good fr → (m : ℕ) → is_row (starts_of fr) (record { 0 = m }) ≡ true
    → Within pass fr m (typing pass m)
rule-keeps pass fr good m here =
    comes (row (record {
      0 =
          m;
    })) (kind (record { 0 = m })) (omega arith) here
    (λ x q. resolve-keeps pass fr good (record { 0 = m }) x (rw q at (row_seen fr
    good (record { 0 = m }) here)))
