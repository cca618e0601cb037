-- A file within two limits (document 02, request 7): pointer forms are given alike at either. From `over-alike`.
use Rattle.answers.specs.Asked.{base_error, canonical_error}
use Prim.Native.Nat.{ℕ, ◌*◌, ◌≤◌}
use mathlib.Core.Path.{◌≡◌}
use mathlib.Core.List.{List}
use lib.ListN.{length}
use Rattle.ir.specs.declared.TypeNumber.{TypeNumber}
use Rattle.text.specs.declared.AnswerRoom.TheVariants.{NotLent}
use Rattle.text.specs.Reading.{most_frames}
use Rattle.archive.specs.Starts.{starts_of}
use Rattle.rule_types.specs.Canonical.{pointer_base_in, canonical_type_in}
use Rattle.law_file.proofs.Alike.{over-alike}
use Rattle.rule_file.specs.Forms.{canonical_type, pointer_base_type}

module _ (limit other : ℕ) (t : List ℕ) (a : length t ≤ 33 * most_frames limit) (b : length t ≤ 33 * most_frames other)
    (f : ℕ) (n : TypeNumber) where
  pub canonical-alike : canonical_type limit t f n ≡ canonical_type other t f n
  unfolding canonical_type
  canonical-alike = over-alike limit other t a b canonical_error
      (λ (fr : List ℕ). canonical_type_in fr (starts_of fr) n) f NotLent

  pub base-alike : pointer_base_type limit t f n ≡ pointer_base_type other t f n
  unfolding pointer_base_type
  base-alike = over-alike limit other t a b base_error
      (λ (fr : List ℕ). pointer_base_in fr (starts_of fr) n) f NotLent
