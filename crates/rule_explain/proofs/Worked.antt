-- Every line of the worked frames is the one that stands beside it: both sides compute to the same.
use mathlib.Core.Path.{◌≡◌, refl}
use mathlib.Core.List.{List, [], map}
use Prim.Native.Nat.{ℕ}
use Prim.Native.String.{String}
use Rattle.ir.specs.declared.RowNumber.{RowNumber}
use Rattle.frames.specs.Bytes.{frame_at}
use Rattle.rule_explain.specs.Words.{characters, word_table, word_bytes}
use Rattle.rule_explain.specs.Lines.{digits, piece_bytes, spelled}
use Rattle.rule_explain.specs.Types.{picked, named, scalar_words, around, vector, brief, within, pointer}
use Rattle.rule_explain.specs.Types.{array_words}
use Rattle.rule_explain.specs.Types.{cooperative_words, class_name, arrayed_name, image, whole}
use Rattle.rule_explain.specs.Answers.{manner, reason, refusal, judged_words, said, shown, ending, line_of}
use Rattle.rule_explain.specs.Answers.{fault_words}
use Rattle.rule_explain.specs.Answers.{fault_line}
use Rattle.rule_explain.specs.Sizes.{size_words, size_line_of}
use Rattle.rule_explain.specs.Cases.{answer_cases, fault_cases, size_cases, vector_file}

abbrev wanted_lines : List (List ℕ × String) → List (List ℕ)
wanted_lines = map (λ (c : List ℕ × String). characters c.1)

pub answers-worked : map (λ (c : List ℕ × String). line_of [] (record { 0 = 5 }) (frame_at c.0 0)) answer_cases
    ≡ wanted_lines answer_cases
unfolding frame_at word_table word_bytes digits piece_bytes spelled picked named scalar_words around vector brief
    within pointer array_words cooperative_words class_name arrayed_name image whole manner reason refusal
    judged_words said shown ending line_of
answers-worked = refl

pub faults-worked : map (λ (c : List ℕ × String). fault_line (frame_at c.0 0)) fault_cases ≡ wanted_lines fault_cases
unfolding frame_at word_table word_bytes digits piece_bytes spelled picked fault_words
faults-worked = refl

pub sizes-worked : map (λ (c : List ℕ × String). size_line_of vector_file (record { 0 = 0 }) (frame_at c.0 0))
    size_cases
    ≡ wanted_lines size_cases
unfolding frame_at word_table word_bytes digits piece_bytes spelled picked named scalar_words around vector brief
    within whole size_words size_line_of
sizes-worked = refl
