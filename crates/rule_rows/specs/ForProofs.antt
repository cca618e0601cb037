-- Not part of any public statement: for proofs and code only. What the code goes by where a rule reads a member's type
-- or comes to an image's class.
use Rattle.std.specs.Prelude.{ℕ, List}
use Rattle.ir.specs.declared.TypeNumber.{TypeNumber}
use Rattle.ir.specs.declared.RowNumber.{RowNumber}
use Rattle.ir.specs.declared.MemberNumber.{MemberNumber}
use Rattle.ir.specs.declared.TypeInner.{TypeInner}
use Rattle.answers.specs.declared.Refusal.TheVariants.{InvalidImage}
use Rattle.archive.specs.declared.Starts.{Starts}
use Rattle.archive.specs.Access.{member_in}
use Rattle.rule.specs.Answers.{value, Typed, given, refused}
use Rattle.rule.specs.Things.{listed}
use Rattle.rule_rows.specs.Selectors.{if_image}
use Rattle.rule_rows.specs.Images.{sampled_of}

-- the types of a struct's n members from `first` on
abbrev pub members_in : List ℕ → Starts → MemberNumber → ℕ → List TypeNumber
members_in fr s first n = listed (λ (i : ℕ). (member_in fr s first i).ty) n

-- a sample without gather, or a load, by the form of what is sampled or loaded
abbrev pub sampled_in : RowNumber → TypeInner → Typed
sampled_in image t = if_image t (λ d c. given (value (sampled_of c))) (refused (InvalidImage image))
