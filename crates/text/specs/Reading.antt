-- Document 01, "Numbers handed back", numbers 1 to 3: what reading a text gives, and the frame buffer after it.
use Rattle.std.specs.Prelude.{ℕ, ◌*◌, Bool, false, cond, ◌&&◌, ◌||◌, List, ◌++◌, leb, ltb, eqb, length, drop, Ok, Err}
use Rattle.std.specs.Prelude.{Option, Some, None}
use Rattle.scan.specs.Lowest.{lowest}
use Rattle.scan.specs.Lists.{sum_below}
use Rattle.answers.specs.Outcome.{Outcome}
use Rattle.answers.specs.declared.FileError.TheVariants.{Long, Torn, Short}
use Rattle.answers.specs.Limit.{max_frames}
use Rattle.text.specs.declared.AnswerRoom.{AnswerRoom}
use Rattle.text.specs.declared.AnswerRoom.TheVariants.{NotLent, Lent}
use Rattle.text.specs.Lines.{line_ok, line_count, frame_byte, decoded}

-- how many answer frames line k asks for: a row (byte 0 is 4) one, and a compose (and byte 1 is 5) two
unfoldable pub answer_frames : List ℕ → ℕ → ℕ
answer_frames t k = cond (eqb (frame_byte t k 0) 4) (cond (eqb (frame_byte t k 1) 5) 2 1) 0

-- how many bytes the answers to a text take
abbrev pub answer_bytes : List ℕ → ℕ
answer_bytes t = 16 * sum_below (answer_frames t) (line_count t)

-- whether an answer buffer is lent that has fewer bytes than these
abbrev pub room_below : AnswerRoom → ℕ → Bool
room_below NotLent bytes = false
room_below (Lent a) bytes = ltb a bytes

-- whether a lent buffer is too small; the frame buffer has f bytes
unfoldable pub too_short : List ℕ → ℕ → AnswerRoom → Bool
too_short t f room = ltb f (16 * line_count t) || room_below room (answer_bytes t)

-- number 2 where a line is torn, else what follows
abbrev pub after_torn : Option ℕ → Outcome → Outcome
after_torn (Some k) r = Err (Torn k)
after_torn None r = r

-- the limit that holds, of frames: 1 to 1,024, any other counting as 1,024 (document 02, request 7)
unfoldable pub most_frames : ℕ → ℕ
most_frames limit = cond (leb 1 limit && leb limit max_frames) limit max_frames

-- what reading a text gives: numbers 1 to 3 in their order, else its number of frames
unfoldable pub read_text : ℕ → List ℕ → ℕ → AnswerRoom → Outcome
read_text limit t f room =
    cond (ltb (33 * most_frames limit) (length t)) (Err (Long (most_frames limit)))
    (after_torn (lowest (line_ok t) (line_count t)) (cond (too_short t f room) (Err Short) (Ok (line_count t))))

-- the frame buffer after a reading: the frames at its front where the text was accepted, else as it was
abbrev pub frames_read : Outcome → List ℕ → List ℕ → List ℕ
frames_read (Ok n) t fr = decoded t n ++ drop (16 * n) fr
frames_read (Err e) t fr = fr
