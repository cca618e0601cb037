-- Document 01, "The file": lines of hexadecimal, one frame a line, 32 lower-case digits and a line feed. A frame is 16
-- bytes.
use Rattle.std.specs.Prelude.{ℕ, ◌+◌, ◌*◌, ◌/◌, ◌%◌, Bool, cond, ◌&&◌, List, eqb, length, get_or}
use Rattle.scan.specs.Lowest.{all_below}
use Rattle.scan.specs.Lists.{build}
use Rattle.text.specs.Hex.{is_digit, digit_value, digit_of}

-- character j of line k; 0 past the end of the text, which is neither a digit nor a line feed
abbrev pub char_at : List ℕ → ℕ → ℕ → ℕ
char_at t k j = get_or t (33 * k + j) 0

-- whether line k is whole: 32 digits and a line feed
unfoldable pub line_ok : List ℕ → ℕ → Bool
line_ok t k = all_below (λ (j : ℕ). is_digit (char_at t k j)) 32 && eqb (char_at t k 32) 10

-- how many lines a text has, a last one that is cut short counted too
abbrev pub line_count : List ℕ → ℕ
line_count t = (length t + 32) / 33

-- byte j of the frame that line k stands for: two digits, the higher first
abbrev pub frame_byte : List ℕ → ℕ → ℕ → ℕ
frame_byte t k j = 16 * digit_value (char_at t k (2 * j)) + digit_value (char_at t k (2 * j + 1))

-- byte i of the frames that a text stands for
unfoldable pub byte_of : List ℕ → ℕ → ℕ
byte_of t i = frame_byte t (i / 16) (i % 16)

-- the first n frames that a text stands for
abbrev pub decoded : List ℕ → ℕ → List ℕ
decoded t n = build (byte_of t) (16 * n)

-- digit j of a byte: at an even place the higher, at an odd place the lower
abbrev pub digit_at : ℕ → ℕ → ℕ
digit_at b j = cond (eqb (j % 2) 0) (digit_of (b / 16)) (digit_of (b % 16))

-- character j of the line that frame k is written as
abbrev pub line_char : List ℕ → ℕ → ℕ → ℕ
line_char fr k j = cond (eqb j 32) 10 (digit_at (get_or fr (16 * k + j / 2) 0) j)

-- character i of the text that frames are written as
unfoldable pub char_of : List ℕ → ℕ → ℕ
char_of fr i = line_char fr (i / 33) (i % 33)

-- the text that the first n frames are written as
abbrev pub text_of : List ℕ → ℕ → List ℕ
text_of fr n = build (char_of fr) (33 * n)
