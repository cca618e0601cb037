-- What every exported function returns and leaves, by whether the out-slice has room for a frame: nothing is changed
-- where it has not, since no frame is put there. By the test of its length.
use Prim.Native.Nat.{ℕ, ◌≤◌, ◌<◌}
use native.Mathlib.Omega.{arith}
use mathlib.Core.Path.{◌≡◌, sym, ap, ◌∙◌}
use mathlib.Core.Bool.{Bool, cond}
use mathlib.Core.List.{List}
use lib.ListN.{length}
use borrow.Author.Tests.{lt-ltb, le-ltb}
use Rattle.frames.specs.declared.Frame.{Frame}
use Rattle.frames.specs.Bytes.{frame_count, put_frame}
use Rattle.rule_file.specs.Exported.{by_room}

is-small : {A : Type 0} (out : List ℕ) (x y : A) → length out < 16 → x ≡ by_room out x y
is-small out x y h = sym (ap (λ (b : Bool). cond b x y) (lt-ltb (length out) 16 h))

has_room : {A : Type 0} (out : List ℕ) (x y : A) → 16 ≤ length out → y ≡ by_room out x y
has_room out x y h = sym (ap (λ (b : Bool). cond b x y) (le-ltb (length out) 16 h))

pub not-put : (out : List ℕ) (f : Frame) → length out < 16 → out ≡ put_frame out 0 f
unfolding put_frame
not-put out f h = rw (le-ltb 0 (frame_count out) (omega arith))

-- it has not: the number m is returned, and the frame buffer and the out-slice stay
pub too_small : {out fr : List ℕ} {r m : ℕ} → r ≡ m → length out < 16 → (n : ℕ) (after : List ℕ) (f : Frame)
    → (r ≡ by_room out m n) × ((fr ≡ by_room out fr after) × (out ≡ put_frame out 0 f))
too_small {out} {fr} {r} {m} e h n after f =
    (e ∙ is-small out m n h, (is-small out fr after h, not-put out f h))

-- and so does the answer buffer
pub too-small-rows : {out fr an : List ℕ} {r m : ℕ} → r ≡ m → length out < 16
    → (n : ℕ) (after given : List ℕ) (f : Frame)
    → (r ≡ by_room out m n)
    × ((fr ≡ by_room out fr after) × ((an ≡ by_room out an given) × (out ≡ put_frame out 0 f)))
too-small-rows {out} {fr} {an} {r} {m} e h n after given f =
    (e ∙ is-small out m n h, (is-small out fr after h, (is-small out an given h, not-put out f h)))

-- it has: what was said, a, is what is to be said, b; it is returned as a number and put as a frame
pub handed : {A : Type 0} (number : A → ℕ) (frame : A → Frame) (out : List ℕ) {last fr after : List ℕ} {r : ℕ} {a b : A}
    → (r ≡ number a) × (last ≡ put_frame out 0 (frame a)) → a ≡ b → fr ≡ after → 16 ≤ length out
    → (m : ℕ) (was : List ℕ)
    → (r ≡ by_room out m (number b)) × ((fr ≡ by_room out was after) × (last ≡ put_frame out 0 (frame b)))
handed number frame out {after = after} {b = b} p e ef h m was = (
  p.0 ∙ ap number e ∙ has_room out m (number b) h,
  (ef ∙ has_room out was after h, p.1 ∙ ap (λ x. put_frame out 0 (frame x)) e),
)

-- and the answer buffer is as it is to be
pub handed-rows : {A : Type 0} (number : A → ℕ) (frame : A → Frame) (out : List ℕ) {last fr after an given : List ℕ}
    {r : ℕ} {a b : A}
    → (r ≡ number a) × (last ≡ put_frame out 0 (frame a)) → a ≡ b → fr ≡ after → an ≡ given → 16 ≤ length out → (m : ℕ)
    (was had : List ℕ)
    → (r ≡ by_room out m (number b))
    × ((fr ≡ by_room out was after) × ((an ≡ by_room out had given) × (last ≡ put_frame out 0 (frame b))))
handed-rows number frame out {given = given} p e ef ea h m was had =
    let t = handed number frame out p e ef h m was in
    (t.0, (t.1.0, (ea ∙ has_room out had given h, t.1.1)))

-- the same with one buffer more
pub too-small-joined : {out fr an had : List ℕ} {r m : ℕ} → r ≡ m → length out < 16
    → (n : ℕ) (after given lines : List ℕ) (f : Frame)
    → (r ≡ by_room out m n)
    × ((fr ≡ by_room out fr after) × ((an ≡ by_room out an given) × ((had ≡ by_room out had lines)
    × (out ≡ put_frame out 0 f))))
too-small-joined {out} {had = had} e h n after given lines f =
    let t = too-small-rows e h n after given f in
    (t.0, (t.1.0, (t.1.1.0, (is-small out had lines h, t.1.1.1))))

pub handed-joined : {A : Type 0} (number : A → ℕ) (frame : A → Frame) (out : List ℕ)
    {last fr after an given more lines : List ℕ} {r : ℕ} {a b : A}
    → (r ≡ number a) × (last ≡ put_frame out 0 (frame a)) → a ≡ b → fr ≡ after → an ≡ given → more ≡ lines
    → 16 ≤ length out → (m : ℕ) (was had held : List ℕ)
    → (r ≡ by_room out m (number b))
    × ((fr ≡ by_room out was after) × ((an ≡ by_room out had given) × ((more ≡ by_room out held lines)
    × (last ≡ put_frame out 0 (frame b)))))
handed-joined number frame out {lines = lines} p e ef ea em h m was had held =
    let t = handed-rows number frame out p e ef ea h m was had in
    (t.0, (t.1.0, (t.1.1.0, (em ∙ has_room out held lines h, t.1.1.1))))
