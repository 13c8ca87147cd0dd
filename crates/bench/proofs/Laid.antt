-- Digits laid into a buffer, one and two at a time. Assumes nothing.
use mathlib.Core.Path.{◌≡◌, refl, sym, ap, ◌∙◌}
use mathlib.Core.List.{List, [], ◌∷◌, ◌++◌, append_assoc}
use Prim.Native.Nat.{ℕ, suc, ◌+◌, ◌/◌, ◌%◌, ◌≤◌, ◌<◌}
use native.Mathlib.Omega.{arith}
use native.Mathlib.Numerals.{add-one}
use lib.ListN.{length, get_or, take, drop, set, drop_of_length-le}
use lib.Seq.{take-suc-set, lt-length-set, append_snoc, drop-cons}
use Rattle.io.specs.Digits.{hex_digit_ascii}
use borrow.Author.Tests.{lt-ltb, le-ltb}
use Rattle.bench.specs.Bench.{decimal, hex}

-- two stores behind what is there
pub two_laid : (d : List ℕ) (p x y : ℕ) → p + 1 < length d → take (p + 2) (set (set d p x) (p + 1) y) ≡ take p d ++ (x ∷ y ∷ [])
two_laid d p x y h =
    let e : p + 2 ≡ suc (p + 1) = omega arith in
    let f : p + 1 ≡ suc p = add-one p in
    ap (λ (n : ℕ). take n (set (set d p x) (p + 1) y)) e
    ∙ take-suc-set (set d p x) (p + 1) y (lt-length-set d p x h)
    ∙ ap (λ (n : ℕ). take n (set d p x) ++ (y ∷ [])) f
    ∙ ap (λ (l : List ℕ). l ++ (y ∷ [])) (take-suc-set d p x (omega arith))
    ∙ append_snoc (take p d) x (y ∷ [])

-- the digits of a byte and of those behind it
hex_cons : (bytes : List ℕ) (i : ℕ) → i < length bytes
    → hex (drop i bytes) ≡ hex_digit_ascii (get_or bytes i 0 / 16 % 16) ∷ hex_digit_ascii (get_or bytes i 0 % 16) ∷ hex (drop (i + 1) bytes)
unfolding hex
hex_cons bytes i k = ap hex (drop-cons bytes i 0 k) ∙ rw (add-one i) refl

-- a byte's two digits laid, and the digits of the bytes behind it to come
pub hex_step : (d bytes : List ℕ) (p i : ℕ) → p + 1 < length d → i < length bytes
    → take (p + 2) (set (set d p (hex_digit_ascii (get_or bytes i 0 / 16 % 16))) (p + 1) (hex_digit_ascii (get_or bytes i 0 % 16))) ++ hex (drop (i + 1) bytes)
    ≡ take p d ++ hex (drop i bytes)
hex_step d bytes p i h k =
    let x : ℕ = hex_digit_ascii (get_or bytes i 0 / 16 % 16) in
    let y : ℕ = hex_digit_ascii (get_or bytes i 0 % 16) in
    ap (λ (l : List ℕ). l ++ hex (drop (i + 1) bytes)) (two_laid d p x y h)
    ∙ append_assoc (take p d) (x ∷ y ∷ []) (hex (drop (i + 1) bytes))
    ∙ ap (λ (l : List ℕ). take p d ++ l) (sym (hex_cons bytes i k))

-- none is to come
pub hex_done : (bytes : List ℕ) (i : ℕ) → length bytes ≤ i → hex (drop i bytes) ≡ []
unfolding hex
hex_done bytes i h = rw (drop_of_length-le bytes h) refl

-- a number of one digit, and one of two
pub decimal_one : (d : List ℕ) (n : ℕ) → 0 < length d → n < 10 → take 1 (set d 0 (hex_digit_ascii (n % 16))) ≡ decimal n
decimal_one d n h k =
    let e : n % 16 ≡ n % 10 = omega arith in
    rw (lt-ltb n 10 k) (take-suc-set d 0 (hex_digit_ascii (n % 16)) h ∙ ap (λ (m : ℕ). hex_digit_ascii m ∷ []) e)

pub decimal_two : (d : List ℕ) (n : ℕ) → 1 < length d → 10 ≤ n
    → take 2 (set (set d 0 (hex_digit_ascii (n / 10 % 10 % 16))) 1 (hex_digit_ascii (n % 10 % 16))) ≡ decimal n
decimal_two d n h k =
    let e : n / 10 % 10 % 16 ≡ n / 10 % 10 = omega arith in
    let f : n % 10 % 16 ≡ n % 10 = omega arith in
    rw (le-ltb n 10 k) (two_laid d 0 (hex_digit_ascii (n / 10 % 10 % 16)) (hex_digit_ascii (n % 10 % 16)) h ∙ λ i. hex_digit_ascii (e i) ∷ hex_digit_ascii (f i) ∷ [])
