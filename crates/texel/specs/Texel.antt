-- The texel of a density (document 02, request 1): "a density d in hundredths of a per cent, 0 to 10,000, into the
-- R16Unorm texel d times 65,535 divided by 10,000 (40 range: d over 10,000.)", rounded to the nearest whole number;
-- halves by request 11: "rounds ties to the even texel". So 65,535, the greatest texel, is a density of 100 per cent.
use Rattle.std.specs.Prelude.{ℕ, ◌+◌, ◌*◌, ◌/◌, ◌%◌, cond, ltb, leb, Option, Some, None}
use Rattle.answers.specs.Numbers.{at, SaidOne, asked, instead}

-- a half: which of q and q + 1 is given where both are equally near, the even one (document 02, request 11)
unfoldable pub tied : ℕ → ℕ
tied q = q + q % 2

-- a 10,000th of n as a whole number, by quotient and remainder: the quotient where twice the remainder is below 10,000,
-- the number after it where it is above, and where it is equal `tied` says which
unfoldable pub rounded : ℕ → ℕ
rounded n = cond (ltb (n % 10000 * 2) 10000) (n / 10000)
    (cond (ltb 10000 (n % 10000 * 2)) (n / 10000 + 1) (tied (n / 10000)))

-- the texel of a density
unfoldable pub texel_of : ℕ → Option ℕ
texel_of d = cond (leb d 10000) (Some (rounded (d * 65535))) None

-- the texel, or number 40; its place is 0 (docs/DECISIONS.md)
abbrev pub texel_said : Option ℕ → SaidOne ℕ
texel_said (Some t) = asked t
texel_said None = instead (at 40 0)
