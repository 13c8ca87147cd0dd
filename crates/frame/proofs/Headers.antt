-- Laws of the header: the two ways to read one, and that what lies behind does not matter. Assumes nothing.
use Rattle.std.specs.Prelude.{None, Some}
use mathlib.Core.Path.{◌≡◌, refl, sym, ap, ◌∙◌}
use mathlib.Core.Bool.{Bool, true, false, cond}
use mathlib.Core.List.{List, ◌++◌}
use Prim.Native.Nat.{ℕ, ◌+◌, ◌≤◌, ◌<◌}
use native.Mathlib.Omega.{arith}
use lib.ListN.{length, get_or, length-append, get_or-append}
use lib.Dec.{leb}
use borrow.Author.Tests.{leb-true, le-leb, lt-leb}
use Rattle.types.specs.Number.{unsigned_at}
use Rattle.types.proofs.Numbers.{two_bytes}
use Rattle.frame.specs.Header.{has_code, header_with, header_of, reply_head, header_told}
use Rattle.frame.specs.Claims.Headers.{HeaderTells}
use Rattle.frame.specs.declared.command_identifier.CommandIdentifier.{CommandIdentifier}
use Rattle.frame.specs.declared.header.ZclHeader.{ZclHeader}

-- the bytes that a manufacturer code takes
abbrev pub code_bytes : List ℕ → ℕ
code_bytes s = cond (has_code (get_or s 0 0)) 2 0

-- the header that a slice starts with, if it is long enough
abbrev pub header_at : List ℕ → ZclHeader
header_at s = header_with s (cond (has_code (get_or s 0 0)) (unsigned_at s 1 2) 0) (code_bytes s)

-- a slice that is long enough has its header
pub header_long : (s : List ℕ) → code_bytes s + 3 ≤ length s → header_of s ≡ Some (header_at s)
unfolding header_of
header_long s h = rw (le-leb (code_bytes s + 3) (length s) h)

-- a slice that is not has none
pub header_cut : (s : List ℕ) → length s < code_bytes s + 3 → header_of s ≡ None
unfolding header_of
header_cut s h = rw (lt-leb (code_bytes s + 3) (length s) h)

-- and so of what is told
pub header_tells : HeaderTells
header_tells s r e = (λ h. ap header_told (e ∙ header_long s h), λ h. ap header_told (e ∙ header_cut s h))

-- below three bytes there is no header
pub header_short : (s : List ℕ) → length s < 3 → header_of s ≡ None
header_short s h = header_cut s (omega arith)

-- three bytes are enough where there is no manufacturer code
pub header_plain : (s : List ℕ) → has_code (get_or s 0 0) ≡ false → 3 ≤ length s → header_of s ≡ Some (header_with s 0 0)
header_plain s e h = header_long s (rw e h) ∙ ap Some (rw e)

-- with a manufacturer code it takes five
pub header_coded : (s : List ℕ) → has_code (get_or s 0 0) ≡ true → 5 ≤ length s → header_of s ≡ Some (header_with s (unsigned_at s 1 2) 2)
header_coded s e h = header_long s (rw e h) ∙ ap Some (rw e)

-- and four are too few
pub header_coded_short : (s : List ℕ) → has_code (get_or s 0 0) ≡ true → length s < 5 → header_of s ≡ None
header_coded_short s e h = header_cut s (rw e h)

-- ---- what a header that was read says

-- the inversion by its test
read_is : (s : List ℕ) (h : ZclHeader) (b : Bool) → leb (code_bytes s + 3) (length s) ≡ b → cond b (Some (header_at s)) None ≡ Some h
    → (code_bytes s + 3 ≤ length s) × (h ≡ header_at s)
read_is s h true e p = (leb-true _ _ e, cc)
read_is s h false e p = let z : ◌≡◌ {A = ℕ} 0 1 = cc in absurd (omega arith)

-- a header that was read is the one at the start, and the slice is long enough for it
pub header_is : (s : List ℕ) (h : ZclHeader) → header_of s ≡ Some h → (code_bytes s + 3 ≤ length s) × (h ≡ header_at s)
unfolding header_of
header_is s h p = read_is s h (leb (code_bytes s + 3) (length s)) refl p

-- the body starts within the slice, behind 3 bytes or, with a manufacturer code, behind 5
pub header_body : (s : List ℕ) (h : ZclHeader) → header_of s ≡ Some h → (h.body ≤ length s) × (h.body ≡ cond (has_code (get_or s 0 0)) 5 3)
header_body s h p =
    let w = header_is s h p in
    let e : h.body ≡ code_bytes s + 3 = ap (λ (x : ZclHeader). x.body) w.1 in
    (omega (arith, w.0), e ∙ add_three (has_code (get_or s 0 0)))
  where
    add_three : (b : Bool) → cond b 2 0 + 3 ≡ cond b 5 3
    add_three true = refl
    add_three false = refl

-- bytes behind do not change the header at the start
at_start : (s t : List ℕ) → code_bytes s + 3 ≤ length s → header_at (s ++ t) ≡ header_at s
at_start s t h =
    let first : get_or (s ++ t) 0 0 ≡ get_or s 0 0 = get_or-append s t 0 0 (omega arith) in
    let second : get_or (s ++ t) 1 0 ≡ get_or s 1 0 = get_or-append s t 0 1 (omega arith) in
    let third : get_or (s ++ t) 2 0 ≡ get_or s 2 0 = get_or-append s t 0 2 (omega arith) in
    let code : unsigned_at (s ++ t) 1 2 ≡ unsigned_at s 1 2 = sym (two_bytes (s ++ t) 1) ∙ rw (second, third) (two_bytes s 1) in
    rw (first, code, get_or-append s t 0 (code_bytes s + 1) (omega arith), get_or-append s t 0 (code_bytes s + 2) (omega arith))

-- a header that was read stays the same where bytes are added behind
pub header_behind : (s t : List ℕ) (h : ZclHeader) → header_of s ≡ Some h → header_of (s ++ t) ≡ Some h
header_behind s t h p =
    let w = header_is s h p in
    let long : code_bytes s + 3 ≤ length s = w.0 in
    let n : length (s ++ t) ≡ length s + length t = length-append s t in
    let same : code_bytes (s ++ t) ≡ code_bytes s = ap (λ k. cond (has_code k) 2 0) (get_or-append s t 0 0 (omega arith)) in
    header_long (s ++ t) (omega arith) ∙ ap Some (at_start s t long ∙ sym w.1)

-- ---- a reply's first bytes

-- there are three of them
pub reply_head_length : (request : ZclHeader) (command : CommandIdentifier) → length (reply_head request command) ≡ 3
unfolding reply_head
reply_head_length request command = refl
