-- Where each word begins in the run of all words, and that it is the table's word: computed over the whole table.
use Prim.Native.Nat.{ℕ, zero, suc, ◌+◌, ◌-◌, ◌≤◌, ◌<◌}
use Prim.Native.String.{String}
use native.Mathlib.Nat.{zero-add}
use native.Mathlib.Omega.{arith}
use mathlib.Core.Path.{◌≡◌, refl, sym, ap, ◌∙◌}
use mathlib.Core.Bool.{true}
use mathlib.Core.List.{List, [], ◌∷◌, ◌++◌}
use lib.Dec.{leb}
use lib.ListN.{length, take, drop, get_or}
use borrow.Author.Tests.{leb-true}
use Rattle.rule_explain.specs.Words.{characters, word_table, word_bytes}

-- f k, f (k + 1), .., n of them
listed : {A : Type 0} → (ℕ → A) → ℕ → ℕ → List A
listed f k zero = []
listed f k (suc n) = f k ∷ listed f (suc k) n

at_listed : {A : Type 0} (f : ℕ → A) (k n i : ℕ) (d : A) → i < n → get_or (listed f k n) i d ≡ f (k + i)
unfolding listed
at_listed f k zero i d h = absurd (omega arith)
at_listed f k (suc n) zero d h = ap f (omega arith)
at_listed f k (suc n) (suc i) d h = at_listed f (suc k) n i d (omega arith) ∙ ap f (omega arith)

-- two that give the same list give the same at each place of it
agree : {A : Type 0} (f g : ℕ → A) (n i : ℕ) → listed f 0 n ≡ listed g 0 n → i < n → f i ≡ g i
agree f g n i e h =
    ap f (sym (zero-add i)) ∙ sym (at_listed f 0 n i (f 0) h) ∙ ap (λ l. get_or l i (f 0)) e ∙ at_listed g 0 n i (f 0) h
    ∙ ap g (zero-add i)

-- all words, one after the other
abbrev pub run : List String → List ℕ
run [] = []
run (w ∷ ws) = characters w ++ run ws

-- where each begins, and where the last ends
abbrev pub starts : List ℕ
starts =
    0 ∷ 0 ∷ 4 ∷ 6 ∷ 7 ∷ 15 ∷ 17 ∷ 22 ∷ 35 ∷ 37 ∷ 38 ∷ 39 ∷ 40 ∷ 43 ∷ 46 ∷ 49 ∷ 53 ∷ 66 ∷ 81 ∷ 84 ∷ 87 ∷ 90 ∷ 93 ∷ 96
    ∷ 99 ∷ 104 ∷ 109 ∷ 115 ∷ 120 ∷
    134 ∷ 150 ∷ 157 ∷ 160 ∷ 163 ∷ 170 ∷ 178 ∷ 181 ∷ 184 ∷ 187 ∷ 191 ∷ 201 ∷ 209 ∷ 216 ∷ 225 ∷ 232 ∷ 239 ∷ 245 ∷ 254
    ∷ 266 ∷ 277 ∷ 297 ∷ 306 ∷ 310 ∷
    315 ∷ 325 ∷ 336 ∷ 347 ∷ 359 ∷ 365 ∷ 371 ∷ 385 ∷ 396 ∷ 402 ∷ 410 ∷ 426 ∷ 439 ∷ 445 ∷ 464 ∷ 472 ∷ 474 ∷ 476 ∷ 478
    ∷ 482 ∷ 488 ∷ 495 ∷ 502 ∷ 508 ∷
    514 ∷ 521 ∷ 528 ∷ 536 ∷ 544 ∷ 552 ∷ 559 ∷ 566 ∷ 573 ∷ 580 ∷ 588 ∷ 596 ∷ 604 ∷ 613 ∷ 623 ∷ 633 ∷ 642 ∷ 651 ∷ 661
    ∷ 672 ∷ 684 ∷ 697 ∷ 704 ∷ 712 ∷
    720 ∷ 729 ∷ 739 ∷ 749 ∷ 760 ∷ 770 ∷ 780 ∷ 791 ∷ 799 ∷ 807 ∷ 816 ∷ 825 ∷ 836 ∷ 847 ∷ 854 ∷ 872 ∷ 894 ∷ 931 ∷ 940
    ∷ 964 ∷ 972 ∷ 992 ∷ 1013 ∷ 1030 ∷
    1051 ∷ 1072 ∷ 1094 ∷ 1114 ∷ 1147 ∷ 1186 ∷ 1203 ∷ 1240 ∷ 1287 ∷ 1295 ∷ 1316 ∷ 1337 ∷ 1366 ∷ 1375 ∷ 1381 ∷ 1401 ∷ 1428
    ∷ 1459 ∷ 1476 ∷ 1493 ∷
    1517 ∷ 1525 ∷ 1530 ∷ 1532 ∷ 1539 ∷ 1552 ∷ 1589 ∷ 1624 ∷ 1656 ∷ 1693 ∷ 1741 ∷ 1750 ∷ 1756 ∷ 1763 ∷ 1781 ∷ 1798 ∷ 1810
    ∷ 1814 ∷ 1831 ∷ []

abbrev pub start : ℕ → ℕ
start i = get_or starts i 0

abbrev pub next : ℕ → ℕ
next i = get_or starts (i + 1) 0

pub next-is : (i : ℕ) → i < 163 → next i ≡ start i + length (word_bytes i)
unfolding listed word_bytes word_table
next-is i h = agree next (λ (k : ℕ). start k + length (word_bytes k)) 163 i refl h

pub word-is : (i : ℕ) → i < 163 → take (next i - start i) (drop (start i) (run word_table)) ≡ word_bytes i
unfolding listed word_bytes word_table
word-is i h = agree (λ (k : ℕ). take (next k - start k) (drop (start k) (run word_table))) word_bytes 163 i refl h

pub short : (i : ℕ) → i < 163 → length (word_bytes i) ≤ 48
unfolding listed word_bytes word_table
short i h = leb-true (length (word_bytes i)) 48
    (agree (λ (k : ℕ). leb (length (word_bytes k)) 48) (λ (k : ℕ). true) 163 i refl h)

pub within : (i : ℕ) → i < 163 → next i ≤ 1831
unfolding listed word_bytes word_table
within i h = leb-true (next i) 1831 (agree (λ (k : ℕ). leb (next k) 1831) (λ (k : ℕ). true) 163 i refl h)

past_end : (l : List String) (i : ℕ) → length l ≤ i → get_or l i "" ≡ ""
past_end [] i h = refl
past_end (x ∷ l) zero h = absurd (omega arith)
past_end (x ∷ l) (suc i) h = past_end l i (omega arith)

-- there is no word past the table
pub no_word : (w : ℕ) → 163 ≤ w → word_bytes w ≡ []
unfolding word_bytes word_table
no_word w h = ap characters (past_end word_table w h)
