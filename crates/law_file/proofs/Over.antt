-- What follows on the frames of an accepted file: the part of the frame buffer that is lent on is the text's frames.
-- From the laws of reading a file.
use Rattle.std.specs.Prelude.{ℕ, Ok, Err, Some, None}
use Rattle.std.specs.Result.{result_ok}
use Prim.Native.Nat.{ℕ, ◌*◌}
use native.Mathlib.Omega.{arith}
use mathlib.Core.Path.{◌≡◌, refl, sym, ap, ◌∙◌}
use mathlib.Core.List.{List}
use lib.ListN.{length, take}
use Rattle.answers.specs.Outcome.{Outcome}
use Rattle.answers.specs.declared.FileError.{FileError}
use Rattle.text.specs.declared.AnswerRoom.{AnswerRoom}
use Rattle.text.specs.Lines.{decoded}
use Rattle.text.specs.Reading.{read_text}
use Rattle.text.proofs.Laws as T
use Rattle.archive.specs.declared.Starts.{Starts}
use Rattle.archive.specs.Starts.{starts_of}
use Rattle.rule_file.specs.File.{over_file, read_file, frames_after}
use Rattle.law_file.proofs.Laws.{accepted-when}

never : {X : Type 0} → ◌≡◌ {A = ℕ} 0 1 → X
never z = absurd (omega arith)

-- an outcome that has a number of frames is accepted with it
pub accepted-of : (o : Outcome) (n : ℕ) → result_ok o ≡ Some n → o ≡ Ok n
accepted-of (Ok m) n e = let q : m ≡ n = cc in ap Ok q
accepted-of (Err x) n e = never (cc)

-- one that has none is handed on: what is given of it is what follows on the frames of a file
pub refused_over : {A : Type 0} (f : Outcome → A) (g : List ℕ → A) (t : List ℕ) (o : Outcome) → result_ok o ≡ None
    → f o ≡ over_file (λ (x : FileError). f (Err x)) g t o
refused_over f g t (Ok m) e = never (cc)
refused_over f g t (Err x) e = refl

-- what is said of an outcome follows from it, whatever says it
pub with-said : {A S B : Type 0} (said : A → S) {o q : A} → o ≡ q → B → (o ≡ q) × ((said o ≡ said q) × B)
with-said said e b = (e, (ap said e, b))

-- after reading gave r and left the frame buffer as `last`, n frames accepted
module _ (limit : ℕ) (t fr last : List ℕ) (room : AnswerRoom) (n : ℕ) (r : Outcome)
    (er : r ≡ read_file limit t (length fr) room) (el : last ≡ frames_after limit t fr room)
    (en : r ≡ Ok n) where
  pub read : read_file limit t (length fr) room ≡ Ok n
  read = sym er ∙ en

  text-read : read_text limit t (length fr) room ≡ Ok n
  text-read = (T.accepted-when limit t (length fr) room n).1
      ((accepted-when limit t (length fr) room n).0 read).readable

  pub part-is : take (16 * n) last ≡ decoded t n
  unfolding frames_after
  part-is = T.front t fr last n _ el text-read

  -- what is asked of the part lent on is asked of the text's frames
  pub over-part : {A : Type 0} (f : FileError → A) (g : List ℕ → A)
      → g (take (16 * n) last) ≡ over_file f g t (read_file limit t (length fr) room)
  over-part f g = ap g part-is ∙ ap (over_file f g t) (sym read)

  -- and of where its families begin
  pub given-over : {A : Type 0} (f : FileError → A) (g : List ℕ → Starts → A) (s : Starts) → s
      ≡ starts_of (take (16 * n) last)
      → g (take (16 * n) last) s
      ≡ over_file f (λ (x : List ℕ). g x (starts_of x)) t (read_file limit t (length fr) room)
  given-over f g s es = ap (g (take (16 * n) last)) es ∙ over-part f (λ (x : List ℕ). g x (starts_of x))

-- A FUNCTION THAT READS A FILE and lends its frames on: reading gave r and left the frame buffer as `last`
module _ (limit : ℕ) (t fr last : List ℕ) (room : AnswerRoom) (r : Outcome) {S : Type 0}
    (e : (r ≡ read_file limit t (length fr) room) × (S × (last ≡ frames_after limit t fr room))) where
  -- not accepted: why is handed on
  pub refused : {x : FileError} → r ≡ Err x → {A : Type 0} (f : FileError → A) (g : List ℕ → A)
      → f x ≡ over_file f g t (read_file limit t (length fr) room)
  refused h f g = ap (over_file f g t) (sym h ∙ e.0)

  -- n frames: what is given of the part lent on, x, is given of the text's frames
  pub given : {n : ℕ} {x : List ℕ} → r ≡ Ok n → x ≡ take (16 * n) last
      → {A : Type 0} {a : A} (f : FileError → A) (g : List ℕ → A)
      → a ≡ g x → a ≡ over_file f g t (read_file limit t (length fr) room)
  given {n} h ex f g ea = ea ∙ ap g ex ∙ over-part limit t fr last room n r e.0 e.1.1 h f g
