-- The most frames that a file may have, whatever the limit (document 01, number 1: "over 1,024 frames (33,792 bytes)"),
-- and the bytes that a file of so many frames fills at most. The constants of the code say the same.
use Rattle.std.specs.Prelude.{ℕ, ◌*◌}

abbrev pub max_frames : ℕ
max_frames = 1024

-- its text, 33 bytes a line: 33,792
abbrev pub max_text_bytes : ℕ
max_text_bytes = 33 * max_frames

-- its frames, 16 bytes each: 16,384
abbrev pub max_frame_bytes : ℕ
max_frame_bytes = 16 * max_frames

-- what is handed back, two frames for each row at most, an answer and a verdict: 32,768
abbrev pub max_answer_bytes : ℕ
max_answer_bytes = 2 * max_frame_bytes

-- the lines of these: 67,584
abbrev pub max_line_bytes : ℕ
max_line_bytes = 2 * max_text_bytes
