-- The frames that reading accepted, and that are lent on, pass checks 4 to 6.
use Rattle.std.specs.Prelude.{ℕ, Ok}
use Prim.Native.Nat.{ℕ, ◌*◌}
use mathlib.Core.Path.{◌≡◌, sym, ap, ◌∙◌}
use mathlib.Core.List.{List}
use lib.ListN.{length, take}
use Rattle.answers.specs.Outcome.{Outcome}
use Rattle.text.specs.declared.AnswerRoom.{AnswerRoom}
use Rattle.text.specs.Lines.{decoded}
use Rattle.text.proofs.Laws.{count_small}
use Rattle.rule_file.specs.File.{read_file, frames_after}
use Rattle.law_file.proofs.Over.{read, part-is}
use Rattle.law_file.proofs.Laws.{count-decoded, then-checked, accepted-when}
use Rattle.file_join.specs.ForProofs.{Checked}

checked-of : (limit : ℕ) (t : List ℕ) (f : ℕ) (room : AnswerRoom) (n : ℕ) → read_file limit t f room ≡ Ok n
    → Checked (decoded t n)
checked-of limit t f room n e =
    let r = ((accepted-when limit t f room n).0 e).readable in
    record {
      accepted = sym (then-checked limit t f room n r) ∙ e ∙ ap Ok (sym (count-decoded t n));
      few = rw (count-decoded t n) (count_small r);
    }

-- as `given`, law_file/proofs/Over.antt
pub checked-part : (limit : ℕ) (t fr last : List ℕ) (room : AnswerRoom) (r : Outcome) {S : Type 0}
    → (r ≡ read_file limit t (length fr) room) × (S × (last ≡ frames_after limit t fr room))
    → {n : ℕ} {x : List ℕ} → r ≡ Ok n → x ≡ take (16 * n) last → Checked x
checked-part limit t fr last room r e {n} en ex =
    rw (ex, part-is limit t fr last room n r e.0 e.1.1 en)
    (checked-of limit t (length fr) room n (read limit t fr last room n r e.0 e.1.1 en))
