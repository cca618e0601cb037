-- Answers of a reader that sees less, carried over to one that sees more (document 02, request 8): those that are not
-- newer are kept, the newer ones are worked out over what was carried before them, and the result is what the wider
-- reader gives afresh. By the claim (Later.antt) and
-- `carried` (Wider.antt), row by row.
use Prim.Native.Nat.{ℕ, zero, suc}
use native.Mathlib.Omega.{arith}
use mathlib.Core.Path.{◌≡◌, refl, sym, ◌∙◌, ap}
use mathlib.Core.List.{List, [], ◌∷◌, ◌++◌}
use mathlib.Core.Option.{Option, none, some}
use Rattle.rule.specs.Answers.{Typed, Place, Result, told, newer}
use Rattle.rule.specs.Things.{Thing, Seen, Sight}
use Rattle.rule.specs.Rule.{Rule, run, met}
use Rattle.rule.specs.InOrder.{in_order, among, answers, ours, reading}
use Rattle.rule.proofs.Later.{claim}
use Rattle.rule.proofs.Wider.{carried}

-- kept unless newer
abbrev pub kept_or : {A : Type 0} → Result A → Result A → Result A
kept_or (told a) fresh = told a
kept_or (newer p) fresh = fresh

module _ (less more : Sight) (wider : (c : Thing) (s : Seen c) → less c ≡ some s → more c ≡ some s)
    (rules : ℕ → Rule Typed) where
  -- the first n rows' answers, from old ones
  abbrev pub carried_rows : (ℕ → Result Typed) → ℕ → List (Result Typed)
  carried_rows old = in_order (λ earlier m. kept_or (old m) (run more (among earlier) newer (rules m)))

  -- an outcome that is not newer is the wider reader's
  told_same : {A : Type 0} (n : ℕ) (rule : Rule A) (a : A) → ours less rules n rule ≡ told a → ours more rules n rule
      ≡ told a
  told_same n rule a e = go (met less (reading less rules n rule)) refl
    where
      go : (o : Option Place) → met less (reading less rules n rule) ≡ o → ours more rules n rule ≡ told a
      go none q = sym (carried less more wider rules n rule q) ∙ e
      go (some p) q =
          let h : ours less rules n rule ≡ newer p =
          ((claim less rules (λ m. newer p) n (newer p) rule).exactly p).1 q in
          absurd (let z : ◌≡◌ {A = ℕ} 0 1 = cc in omega arith)

  kept_fresh : {A : Type 0} (n : ℕ) (rule : Rule A) (o : Result A) → ours less rules n rule ≡ o
      → kept_or o (ours more rules n rule) ≡ ours more rules n rule
  kept_fresh n rule (told a) e = sym (told_same n rule a e)
  kept_fresh n rule (newer p) e = refl

  -- of rows
  pub carried-fresh : (n : ℕ) → carried_rows (λ m. ours less rules m (rules m)) n ≡ answers more rules (λ m. newer) n
  carried-fresh zero = refl
  carried-fresh (suc n) =
      rw (carried-fresh n) (ap (λ (a : Result Typed). answers more rules (λ m. newer) n ++ (a ∷ []))
      (kept_fresh n (rules n) (ours less rules n (rules n)) refl))

  -- and of a verdict, or any rule, over them
  pub carried-rule : {A : Type 0} (n : ℕ) (rule : Rule A)
      → kept_or (ours less rules n rule)
      (run more (among (carried_rows (λ m. ours less rules m (rules m)) n)) newer rule)
      ≡ ours more rules n rule
  carried-rule n rule = rw (carried-fresh n) (kept_fresh n rule (ours less rules n rule) refl)
