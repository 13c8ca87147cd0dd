-- How long a record is: a byte at least, and no more than there are. Assumes nothing.
use Rattle.std.specs.Prelude.{Err, Ok, Result}
use mathlib.Core.Path.{◌≡◌, refl}
use mathlib.Core.Bool.{Bool, true, false, cond}
use mathlib.Core.List.{List}
use Prim.Native.Nat.{ℕ, ◌+◌, ◌≤◌, ◌<◌}
use native.Mathlib.Omega.{arith}
use lib.ListN.{length, get_or}
use lib.Dec.{leb, eqb}
use borrow.Author.Tests.{leb-true}
use Rattle.types.specs.Extent.{extent_of}
use Rattle.types.specs.declared.extent.NoExtent.{NoExtent}
use Rattle.types.proofs.Ends.{extent_ends}
use Rattle.frame.specs.declared.answer.Refusal.{Refusal}
use Rattle.frame.specs.declared.answer.Refusal.TheVariants.{RecordCut}
use Rattle.configure.specs.Request.{change_width}
use Rattle.readers.specs.declared.layout.Layout.{Layout}
use Rattle.readers.specs.declared.layout.Layout.TheVariants.{ReadStatus, Report, WriteFailure, ConfigureFailure, Setting, Discovered}
use Rattle.readers.specs.Layout.{up_to, by_extent, valued, failure_length, length_of}
use Rattle.readers.proofs.Spans.{read_is, unread_not, Advancing}

-- of a test between a length and a refusal
abbrev Moves : List ℕ → Result ℕ Refusal → Type 0
Moves l x = (n : ℕ) → x ≡ Ok n → (0 < n) × (n ≤ length l)

moves_if : (l : List ℕ) (m : ℕ) (x : Result ℕ Refusal) (b : Bool) → leb m (length l) ≡ b → (m ≤ length l → Moves l x) → Moves l (cond b x (Err RecordCut))
moves_if l m x true e h n g = h (leb-true m (length l) e) n g
moves_if l m x false e h n g = unread_not RecordCut n g

moves_cond : (l : List ℕ) (b : Bool) (x y : Result ℕ Refusal) → Moves l x → Moves l y → Moves l (cond b x y)
moves_cond l true x y h k = h
moves_cond l false x y h k = k

moves_bytes : (l : List ℕ) (m : ℕ) → 0 < m → m ≤ length l → Moves l (Ok m)
moves_bytes l m h k n e = omega (arith, read_is m n e)

up_to_moves : (m : ℕ) → 0 < m → Advancing (up_to m)
unfolding up_to
up_to_moves m h l = moves_if l m (Ok m) (leb m (length l)) refl (moves_bytes l m h)

failing_moves : (m : ℕ) → 0 < m → Advancing (failure_length m)
unfolding failure_length
failing_moves m h l = moves_cond l (eqb (get_or l 0 0) 0) _ (up_to m l) (λ n. unread_not _ n) (up_to_moves m h l)

by-extent : (l : List ℕ) (p : ℕ) (x : Result ℕ NoExtent) → ((q : ℕ) → x ≡ Ok q → (p + 1 ≤ q) × (q ≤ length l)) → Moves l (by_extent x)
by-extent l p (Ok q) h n e = omega (arith, h q refl, read_is q n e)
by-extent l p (Err why) h n e = unread_not RecordCut n e

valued_moves : (p : ℕ) → Advancing (valued p)
unfolding valued
valued_moves p l =
    moves_if l (p + 1) (by_extent (extent_of l (p + 1) (get_or l p 0))) (leb (p + 1) (length l)) refl
    (λ _. by-extent l p (extent_of l (p + 1) (get_or l p 0)) (λ q. extent_ends l (p + 1) (get_or l p 0) q))

-- EVERY LAYOUT'S RECORDS MOVE ON
pub advancing : (layout : Layout) → Advancing (length_of layout)
unfolding length_of
advancing ReadStatus l =
    moves_if l 3 _ (leb 3 (length l)) refl (λ h. moves_cond l (eqb (get_or l 2 0) 0) (valued 3 l) (Ok 3) (valued_moves 3 l) (moves_bytes l 3 (omega arith) h))
advancing Report l = valued_moves 2 l
advancing WriteFailure l = failing_moves 3 (omega arith) l
advancing ConfigureFailure l = failing_moves 4 (omega arith) l
advancing Setting l =
    let w : ℕ = 9 + change_width (get_or l 4 0) in
    moves_if l 4 _ (leb 4 (length l)) refl
    (λ h. moves_cond l (eqb (get_or l 0 0) 0) (up_to w l) (Ok 4) (up_to_moves w (omega arith) l) (moves_bytes l 4 (omega arith) h))
advancing Discovered l = up_to_moves 3 (omega arith) l
