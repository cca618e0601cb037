-- The lowest index that fails a test. Document 01, "Numbers handed back": each check runs over the whole file, lowest
-- frame named.
use Rattle.std.specs.Prelude.{ℕ, zero, suc, Bool, cond, ◌&&◌, true, Option, Some, None}

-- what was found first, else the second
abbrev pub or_else : Option ℕ → Option ℕ → Option ℕ
or_else (Some k) f = Some k
or_else None f = f

-- the lowest k below n with `ok k` false
unfoldable pub lowest : (ℕ → Bool) → ℕ → Option ℕ
lowest ok zero = None
lowest ok (suc n) = or_else (lowest ok n) (cond (ok n) None (Some n))

-- whether the test holds of every k below n
unfoldable pub all_below : (ℕ → Bool) → ℕ → Bool
all_below ok zero = true
all_below ok (suc n) = all_below ok n && ok n
