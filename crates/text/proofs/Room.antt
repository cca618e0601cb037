-- Numbers 1 and 2 do not depend on what is lent, so what is said of a text where some other buffer is too small does
-- not either. By the order of the checks.
use Rattle.std.specs.Prelude.{ℕ, Option, Some, None, Ok, Err}
use Prim.Native.Nat.{ℕ, ◌*◌}
use mathlib.Core.Path.{◌≡◌, refl}
use mathlib.Core.Bool.{Bool, true, false, cond}
use mathlib.Core.List.{List}
use lib.Dec.{ltb}
use lib.ListN.{length}
use Rattle.scan.specs.Lowest.{lowest}
use Rattle.answers.specs.declared.FileError.TheVariants.{Long, Short}
use Rattle.text.specs.declared.AnswerRoom.{AnswerRoom}
use Rattle.text.specs.declared.AnswerRoom.TheVariants.{NotLent}
use Rattle.text.specs.Lines.{line_ok, line_count}
use Rattle.text.specs.Reading.{most_frames, after_torn, too_short, read_text}
use Rattle.text.specs.Room.{or_short, short_read}

-- numbers 1 and 2 do not depend on what is lent
pub short-any : (limit : ℕ) (t : List ℕ) (f : ℕ) (room : AnswerRoom) → short_read limit t
    ≡ or_short (read_text limit t f room)
unfolding short_read read_text
short-any limit t f room =
    by-long (ltb (33 * most_frames limit) (length t)) (lowest (line_ok t) (line_count t)) (too_short t 0 NotLent)
    (too_short t f room)
  where
    short : (a b : Bool) (n : ℕ) → or_short (cond a (Err Short) (Ok n)) ≡ or_short (cond b (Err Short) (Ok n))
    short true true n = refl
    short true false n = refl
    short false true n = refl
    short false false n = refl

    by-torn : (k : Option ℕ) (a b : Bool)
        → or_short (after_torn k (cond a (Err Short) (Ok (line_count t))))
        ≡ or_short (after_torn k (cond b (Err Short) (Ok (line_count t))))
    by-torn (Some k) a b = refl
    by-torn None a b = short a b (line_count t)

    by-long : (l : Bool) (k : Option ℕ) (a b : Bool)
        → or_short (cond l (Err (Long (most_frames limit))) (after_torn k (cond a (Err Short) (Ok (line_count t)))))
        ≡ or_short (cond l (Err (Long (most_frames limit))) (after_torn k (cond b (Err Short) (Ok (line_count t)))))
    by-long true k a b = refl
    by-long false k a b = by-torn k a b
