-- Numbers and rows of numbers as bytes, once over the widths. Assumes nothing.
use Prim.Native.Nat.{ℕ, zero, suc, ◌+◌, ◌-◌, ◌*◌, ◌/◌, ◌%◌, ◌^◌, ◌≤◌, ◌<◌}
use mathlib.Core.Path.{◌≡◌, refl, ap, sym, ◌∙◌}
use mathlib.Core.Bool.{Bool, true, false, ◌&&◌, false≢true}
use mathlib.Core.List.{List, [], ◌∷◌, ◌++◌, append_assoc}
use native.Mathlib.Omega.{arith}
use native.Mathlib.Nat.{pow-suc, mul_comm, mod-lt, mod-eq_of_lt, mul_assoc, suc-mul, zero-mul, div-one, div-div-eq-div-mul}
use lib.Pow.{pow_pos}
use lib.ListN.{length, get_or, take, drop, length-append, length-drop}
use lib.Seq.{sets, take_at, drop_at, take-add, take-take}
use lib.Dec.{eqb}
use borrow.Author.Tests.{eqb-true}
use Rattle.types.specs.Number.{AllBytes, all_zero, zeros, le, bytes_of, unsigned_at}
use Rattle.types.proofs.Numbers.{pow_byte, bytes_drop, unsigned_none, unsigned_step, one_byte, le_below, le_bytes, length_bytes}
use Rattle.frame.proofs.Buffer.{mid_sets}
use Rattle.std.specs.Int.{sum_through, byte_worth, bytes_low_first}
use Rattle.reporting.specs.Carried.{total, laid, numbers_in, rows_laid, rows_in}

-- ---- one number

-- BYTES TO A NUMBER AND BACK
pub bytes_le : (w : ℕ) (bs : List ℕ) → AllBytes bs → w ≤ length bs → bytes_of w (le (take w bs)) ≡ take w bs
unfolding bytes_of le
bytes_le zero bs h k = refl
bytes_le (suc w) [] h k = absurd (omega arith)
bytes_le (suc w) (b ∷ bs) h k =
    let l : b < 256 = h 0 in
    let m : (b + 256 * le (take w bs)) % 256 ≡ b = omega arith in
    let d : (b + 256 * le (take w bs)) / 256 ≡ le (take w bs) = omega arith in
    rw (m, d) (ap (λ (r : List ℕ). b ∷ r) (bytes_le w bs (λ i. h (suc i)) (omega arith)))

-- two parts of a number, the low one first
pub unsigned_join : (s : List ℕ) (at a b : ℕ) → unsigned_at s at a + 2 ^ (8 * a) * unsigned_at s (at + a) b ≡ unsigned_at s at (a + b)
unsigned_join s at zero b =
    let p : at + 0 ≡ at = omega arith in
    let w : 0 + b ≡ b = omega arith in
    rw (p, w, unsigned_none s at) (omega arith)
unsigned_join s at (suc a) b =
    let p : at + suc a ≡ suc at + a = omega arith in
    let w : suc a + b ≡ suc (a + b) = omega arith in
    let x : ℕ = unsigned_at s (suc at + a) b in
    let m : 2 ^ (8 * suc a) * x ≡ 256 * (2 ^ (8 * a) * x) = ap (λ (n : ℕ). n * x) (pow_byte a) ∙ mul_assoc 256 (2 ^ (8 * a)) x in
    rw (p, w) (omega (arith, m, unsigned_step s at a, unsigned_step s at (a + b), unsigned_join s (suc at) a b))

pow_bytes : (k : ℕ) → 256 ^ k ≡ 2 ^ (8 * k)
pow_bytes zero = refl
pow_bytes (suc k) = pow-suc 256 k ∙ mul_comm (256 ^ k) 256 ∙ ap (λ (p : ℕ). 256 * p) (pow_bytes k) ∙ sym (pow_byte k)

-- std's number of bytes is ours
number_le : (w : ℕ) (bs : List ℕ) → sum_through (λ i. byte_worth i (get_or bs i 0)) w ≡ unsigned_at bs 0 (suc w)
number_le zero bs = one_byte bs 0
number_le (suc w) bs =
    let z : 0 + suc w ≡ suc w = omega arith in
    let n : suc w + 1 ≡ suc (suc w) = omega arith in
    (λ i. number_le w bs i + (mul_comm (get_or bs (suc w) 0) (256 ^ suc w) ∙ (λ j. pow_bytes (suc w) j * one_byte bs (suc w) j)) i)
    ∙ ap (λ (k : ℕ). unsigned_at bs 0 (suc w) + 2 ^ (8 * suc w) * unsigned_at bs k 1) (sym z)
    ∙ unsigned_join bs 0 (suc w) 1
    ∙ ap (unsigned_at bs 0) n

-- the same of the bytes at a place
pub read_number : (w at : ℕ) (bs number : List ℕ) → number ≡ take (at + suc w - at) (drop at bs) → sum_through (λ i. byte_worth i (get_or number i 0)) w ≡ unsigned_at bs at (suc w)
unfolding unsigned_at
read_number w at bs number e =
    let k : at + suc w - at ≡ suc w = omega arith in
    number_le w number
    ∙ ap (λ (l : List ℕ). le (take (suc w) l)) (e ∙ ap (λ (m : ℕ). take m (drop at bs)) k)
    ∙ ap le (take-take (suc w) (suc w) (drop at bs) (omega arith))

-- and std's bytes of a number are ours
bytes_from : (i k n : ℕ) → bytes_low_first i k n ≡ bytes_of k (n / 256 ^ i)
unfolding bytes_of
bytes_from i zero n = refl
bytes_from zero (suc k) n = rw (div-one n) (ap (λ (l : List ℕ). n % 256 ∷ l) (bytes_from 1 k n))
bytes_from (suc i) (suc k) n =
    let e : n / 256 ^ suc (suc i) ≡ n / 256 ^ suc i / 256 = ap (λ (p : ℕ). n / p) (pow-suc 256 (suc i)) ∙ sym (div-div-eq-div-mul n (256 ^ suc i) 256) in
    ap (λ (l : List ℕ). n / 256 ^ suc i % 256 ∷ l) (bytes_from (suc (suc i)) k n ∙ ap (bytes_of k) e)

-- the same of a number's bytes that are written over those at a place
pub write_number : (w at n : ℕ) (bs bytes : List ℕ) → bytes ≡ bytes_low_first 0 w n → at + w ≤ length bs → take at bs ++ (bytes ++ drop (at + w - at) (drop at bs)) ≡ sets bs at (bytes_of w n)
write_number w at n bs bytes e h =
    let b : bytes ≡ bytes_of w n = e ∙ bytes_from 0 w n ∙ ap (bytes_of w) (div-one n) in
    let m : length bytes ≡ w = ap length b ∙ length_bytes w n in
    mid_sets bs bytes at (at + w - at) (omega (arith, m)) (omega (arith, m)) ∙ ap (sets bs at) b

-- ---- a row of numbers

-- each number cut to its width
unfoldable pub cut : List ℕ → List ℕ → List ℕ
cut [] ns = []
cut (w ∷ ws) ns = get_or ns 0 0 % 2 ^ (8 * w) ∷ cut ws (drop 1 ns)

-- there is one number for each width, and it fits
abbrev pub Within : List ℕ → List ℕ → Type 0
Within [] ns = ns ≡ []
Within (w ∷ ws) [] = ⊥
Within (w ∷ ws) (n ∷ ns) = (n < 2 ^ (8 * w)) × Within ws ns

pub length_laid : (ws ns : List ℕ) → length (laid ws ns) ≡ total ws
unfolding laid
length_laid [] ns = refl
length_laid (w ∷ ws) ns = length-append (bytes_of w (get_or ns 0 0)) (laid ws (drop 1 ns)) ∙ omega (arith, length_bytes w (get_or ns 0 0), length_laid ws (drop 1 ns))

-- NUMBERS TO BYTES AND BACK: what was laid out is read, each number cut to its width
pub numbers_laid : (ws ns rest : List ℕ) → numbers_in ws (laid ws ns ++ rest) ≡ cut ws ns
unfolding numbers_in laid cut
numbers_laid [] ns rest = refl
numbers_laid (w ∷ ws) ns rest =
    let n : ℕ = get_or ns 0 0 in
    let more : List ℕ = laid ws (drop 1 ns) in
    let l : length (bytes_of w n) ≡ w = length_bytes w n in
    ap (λ (b : List ℕ). le (take w b) ∷ numbers_in ws (drop w b)) (append_assoc (bytes_of w n) more rest)
    ∙ ap (λ (b : List ℕ). le b ∷ numbers_in ws (drop w (bytes_of w n ++ (more ++ rest)))) (take_at (bytes_of w n) (more ++ rest) w l)
    ∙ ap (λ (b : List ℕ). le (bytes_of w n) ∷ numbers_in ws b) (drop_at (bytes_of w n) (more ++ rest) w l)
    ∙ ap (λ (k : ℕ). k ∷ numbers_in ws (more ++ rest)) (le_bytes w n)
    ∙ ap (λ (r : List ℕ). n % 2 ^ (8 * w) ∷ r) (numbers_laid ws (drop 1 ns) rest)

-- numbers that fit are not cut
pub cut_within : (ws ns : List ℕ) → Within ws ns → cut ws ns ≡ ns
unfolding cut
cut_within [] ns h = sym h
cut_within (w ∷ ws) [] h = absurd h
cut_within (w ∷ ws) (n ∷ ns) h = ap (λ (k : ℕ). k ∷ cut ws ns) (mod-eq_of_lt h.0) ∙ ap (λ (r : List ℕ). n ∷ r) (cut_within ws ns h.1)

-- BYTES TO NUMBERS AND BACK
pub laid_numbers : (ws bs : List ℕ) → AllBytes bs → total ws ≤ length bs → laid ws (numbers_in ws bs) ≡ take (total ws) bs
unfolding laid numbers_in
laid_numbers [] bs h k = refl
laid_numbers (w ∷ ws) bs h k =
    ap (λ (r : List ℕ). r ++ laid ws (numbers_in ws (drop w bs))) (bytes_le w bs h (omega arith))
    ∙ ap (λ (r : List ℕ). take w bs ++ r) (laid_numbers ws (drop w bs) (bytes_drop bs w h) (omega (arith, length-drop w bs)))
    ∙ sym (take-add w (total ws) bs)

-- numbers that were read fit
pub within_numbers : (ws bs : List ℕ) → AllBytes bs → Within ws (numbers_in ws bs)
unfolding numbers_in
within_numbers [] bs h = refl
within_numbers (w ∷ ws) bs h = (le_below w bs h, within_numbers ws (drop w bs) (bytes_drop bs w h))

-- ---- rows

abbrev pub AllWithin : List ℕ → List (List ℕ) → Type 0
AllWithin ws [] = Unit
AllWithin ws (ns ∷ rows) = Within ws ns × AllWithin ws rows

pub length_rows : (ws : List ℕ) (rows : List (List ℕ)) → length (rows_laid ws rows) ≡ length rows * total ws
unfolding rows_laid
length_rows ws [] = sym (zero-mul (total ws))
length_rows ws (ns ∷ rows) =
    length-append (laid ws ns) (rows_laid ws rows) ∙ omega (arith, length_laid ws ns, length_rows ws rows, suc-mul (length rows) (total ws))

-- ROWS TO BYTES AND BACK
pub rows-laid : (ws : List ℕ) (rows : List (List ℕ)) (rest : List ℕ) → AllWithin ws rows → rows_in ws (length rows) (rows_laid ws rows ++ rest) ≡ rows
unfolding rows_laid rows_in
rows-laid ws [] rest h = refl
rows-laid ws (ns ∷ rows) rest h =
    let more : List ℕ = rows_laid ws rows ++ rest in
    ap (λ (b : List ℕ). numbers_in ws b ∷ rows_in ws (length rows) (drop (total ws) b)) (append_assoc (laid ws ns) (rows_laid ws rows) rest)
    ∙ ap (λ (r : List ℕ). r ∷ rows_in ws (length rows) (drop (total ws) (laid ws ns ++ more))) (numbers_laid ws ns more ∙ cut_within ws ns h.0)
    ∙ ap (λ (b : List ℕ). ns ∷ rows_in ws (length rows) b) (drop_at (laid ws ns) more (total ws) (length_laid ws ns))
    ∙ ap (λ (r : List (List ℕ)). ns ∷ r) (rows-laid ws rows rest h.1)

-- BYTES TO ROWS AND BACK
pub laid_rows : (ws : List ℕ) (n : ℕ) (bs : List ℕ) → AllBytes bs → n * total ws ≤ length bs → rows_laid ws (rows_in ws n bs) ≡ take (n * total ws) bs
unfolding rows_laid rows_in
laid_rows ws zero bs h k = ap (λ (m : ℕ). take m bs) (sym (zero-mul (total ws)))
laid_rows ws (suc n) bs h k =
    let e : suc n * total ws ≡ total ws + n * total ws = omega (arith, suc-mul n (total ws)) in
    ap (λ (r : List ℕ). r ++ rows_laid ws (rows_in ws n (drop (total ws) bs))) (laid_numbers ws bs h (omega arith))
    ∙ ap (λ (r : List ℕ). take (total ws) bs ++ r) (laid_rows ws n (drop (total ws) bs) (bytes_drop bs (total ws) h) (omega (arith, length-drop (total ws) bs)))
    ∙ sym (take-add (total ws) (n * total ws) bs)
    ∙ ap (λ (m : ℕ). take m bs) (sym e)

pub length_rows_in : (ws : List ℕ) (n : ℕ) (bs : List ℕ) → length (rows_in ws n bs) ≡ n
unfolding rows_in
length_rows_in ws zero bs = refl
length_rows_in ws (suc n) bs = ap suc (length_rows_in ws n (drop (total ws) bs))

-- ---- what is laid out is bytes

bytes_append : (a b : List ℕ) → AllBytes a → AllBytes b → AllBytes (a ++ b)
bytes_append [] b h k i = k i
bytes_append (x ∷ a) b h k zero = h 0
bytes_append (x ∷ a) b h k (suc i) = bytes_append a b (λ j. h (suc j)) k i

bytes_one : (w n : ℕ) → AllBytes (bytes_of w n)
unfolding bytes_of
bytes_one zero n i = omega arith
bytes_one (suc w) n zero = mod-lt n (pow_pos 8)
bytes_one (suc w) n (suc i) = bytes_one w (n / 256) i

bytes_laid : (ws ns : List ℕ) → AllBytes (laid ws ns)
unfolding laid
bytes_laid [] ns i = omega arith
bytes_laid (w ∷ ws) ns i = bytes_append (bytes_of w (get_or ns 0 0)) (laid ws (drop 1 ns)) (bytes_one w (get_or ns 0 0)) (bytes_laid ws (drop 1 ns)) i

bytes_zeros : (n : ℕ) → AllBytes (zeros n)
bytes_zeros zero i = omega arith
bytes_zeros (suc n) zero = omega arith
bytes_zeros (suc n) (suc i) = bytes_zeros n i

-- rows and zeros behind them
pub bytes_rows : (ws : List ℕ) (rows : List (List ℕ)) (n : ℕ) → AllBytes (rows_laid ws rows ++ zeros n)
unfolding rows_laid
bytes_rows ws [] n i = bytes_zeros n i
bytes_rows ws (ns ∷ rows) n i =
    rw (append_assoc (laid ws ns) (rows_laid ws rows) (zeros n)) (bytes_append (laid ws ns) (rows_laid ws rows ++ zeros n) (bytes_laid ws ns) (bytes_rows ws rows n) i)

-- ---- tests

-- a test of two parts that holds: both hold
pub both : (a b : Bool) → (a && b) ≡ true → (a ≡ true) × (b ≡ true)
both true b h = (refl, h)
both false b h = absurd (false≢true h)

pub zeros_zero : (n : ℕ) → all_zero (zeros n) ≡ true
unfolding all_zero
zeros_zero zero = refl
zeros_zero (suc n) = zeros_zero n

pub zero_zeros : (l : List ℕ) → all_zero l ≡ true → l ≡ zeros (length l)
unfolding all_zero
zero_zeros [] h = refl
zero_zeros (b ∷ l) h =
    let p = both (eqb b 0) (all_zero l) h in
    ap (λ (k : ℕ). k ∷ l) (eqb-true b 0 p.0) ∙ ap (λ (r : List ℕ). 0 ∷ r) (zero_zeros l p.1)
