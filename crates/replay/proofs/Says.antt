-- Laws of what ours says to an input (`specs/Ours.antt`): a law for each way out of a function. Assumes nothing.
use Rattle.std.specs.Prelude.{Err, None, Ok, Option, Result, Some}
use mathlib.Core.Path.{◌≡◌, refl, sym, ap, ◌∙◌}
use mathlib.Core.Bool.{Bool, true, false}
use mathlib.Core.Logic.{inl, inr}
use mathlib.Core.List.{List, [], ◌∷◌}
use Prim.Native.Nat.{ℕ, ◌+◌, ◌/◌, ◌%◌, ◌^◌, ◌≤◌, ◌<◌}
use native.Mathlib.Omega.{arith}
use native.Mathlib.Nat.{mod-eq_of_lt}
use lib.ListN.{length, get_or, take, drop}
use lib.Dec.{eqb}
use lib.IntN.{ℤ, pos, negsuc}
use borrow.Author.Tests.{eq-eqb, ne_eqb, lt-ltb, le-ltb}
use mir.Syntax.{w64}
use mir.Val.{SFits, of_z}
use Rattle.std.specs.Int.{from_bool}
use Rattle.types.specs.Number.{bytes_of, unsigned_at, residue}
use Rattle.types.specs.Ids.{size_of, is_analog, is_reportable}
use Rattle.types.specs.Extent.{extent_of}
use Rattle.types.specs.declared.extent.NoExtent.{NoExtent}
use Rattle.types.specs.declared.extent.NoExtent.TheVariants.{Cut, Without}
use Rattle.types.proofs.Numbers.{sets_all}
use Rattle.frame.specs.Status.{status_code}
use Rattle.frame.specs.Answer.{refusal_number}
use Rattle.frame.specs.Header.{frame_type_of, has_code, header_of}
use Rattle.frame.specs.Inside.Buffer.{putting, put}
use Rattle.frame.specs.declared.status.Status.{Status}
use Rattle.frame.specs.declared.answer.Refusal.{Refusal}
use Rattle.frame.specs.declared.header.ZclHeader.{ZclHeader}
use Rattle.frame.proofs.Codes.{refusal_nonzero}
use Rattle.frame.proofs.Buffer.{put_ways}
use Rattle.store.specs.Contents.{name_of}
use Rattle.store.specs.Value.{telling}
use Rattle.store.specs.Write.{Wrote, wrote, write_of}
use Rattle.replay.specs.Bytes.{same}
use Rattle.replay.specs.Names.{named, of_names}
use Rattle.replay.specs.Ours.{agreement, bit_of, size_byte, of_type, frame_type_byte, of_header, extent_says, of_extent, number_says, write_says, of_write}
use Rattle.replay.specs.Inside.{matched}
use Rattle.replay.proofs.Matches.{same_on, same_none, same_nil}

-- ---- a bit

pub bit_is : (b : Bool) → from_bool b ≡ bit_of b
bit_is true = refl
bit_is false = refl

-- ---- a type

pub type_other : (input held : List ℕ) → (length input ≡ 1 → ⊥) → None ≡ agreement (of_type input) held
unfolding of_type
type_other input held h = rw (ne_eqb (length input) 1 h)

pub type_says : (input held : List ℕ) (a b c : ℕ) → length input ≡ 1
    → a ≡ size_byte (size_of (get_or input 0 0)) → b ≡ bit_of (is_analog (get_or input 0 0)) → c ≡ bit_of (is_reportable (get_or input 0 0))
    → Some (same (a ∷ b ∷ c ∷ []) held) ≡ agreement (of_type input) held
unfolding of_type
type_says input held a b c h p q r = rw (eq-eqb (length input) 1 h) (λ i. Some (same (p i ∷ q i ∷ r i ∷ []) held))

-- ---- the types that have a name

pub names_other : (input held : List ℕ) → same (55 ∷ []) input ≡ false → None ≡ agreement (of_names input) held
unfolding of_names
names_other input held h = rw h

pub names_says : (input held : List ℕ) → same (55 ∷ []) input ≡ true → (codes : List ℕ) → codes ≡ named → (b : Bool) → b ≡ same codes held → Some b ≡ agreement (of_names input) held
unfolding of_names
names_says input held h codes e b p = rw h (ap Some (p ∙ ap (λ (l : List ℕ). same l held) e))

-- ---- a header

pub header_short : (input held : List ℕ) → header_of input ≡ None → Some (eqb (length held) 0) ≡ agreement (of_header input) held
unfolding of_header
header_short input held e = rw e (ap Some (sym (same_nil held)))

pub header-says : (input held : List ℕ) (h : ZclHeader) (a b c d g : ℕ) → header_of input ≡ Some h
    → a ≡ frame_type_byte (frame_type_of h.frame_control.0) → b ≡ bit_of (has_code h.frame_control.0)
    → c ≡ h.manufacturer_code.0 % 256 → d ≡ h.manufacturer_code.0 / 256 % 256 → g ≡ h.body % 256
    → Some (same (a ∷ b ∷ c ∷ d ∷ h.sequence_number ∷ h.command_identifier.0 ∷ g ∷ []) held) ≡ agreement (of_header input) held
unfolding of_header bytes_of
header-says input held h a b c d g e p q r s t =
    rw e (λ i. Some (same (p i ∷ q i ∷ r i ∷ s i ∷ h.sequence_number ∷ h.command_identifier.0 ∷ t i ∷ []) held))

-- ---- a value

pub extent_empty : (input held : List ℕ) → length input ≡ 0 → None ≡ agreement (of_extent input) held
unfolding of_extent
extent_empty input held h = rw (eq-eqb (length input) 0 h)

says_none : (why : NoExtent) → 0 ∷ [] ≡ extent_says (Err why)
says_none Cut = refl
says_none Without = refl

module _ (input held : List ℕ) (h : length input ≡ 0 → ⊥) where
  extent_is : (x : Result ℕ NoExtent) → x ≡ extent_of (drop 1 input) 0 (get_or input 0 0) → Some (same (extent_says x) held) ≡ agreement (of_extent input) held
  unfolding of_extent
  extent_is x e = rw (ne_eqb (length input) 0 h) (ap (λ (y : Result ℕ NoExtent). Some (same (extent_says y) held)) e)

  pub extent_none : (x : Result ℕ NoExtent) → x ≡ extent_of (drop 1 input) 0 (get_or input 0 0) → (why : NoExtent) → x ≡ Err why → Some (same (0 ∷ []) held) ≡ agreement (of_extent input) held
  extent_none x e why f = ap (λ (l : List ℕ). Some (same l held)) (says_none why ∙ ap extent_says (sym f)) ∙ extent_is x e

  pub extent_ends : (x : Result ℕ NoExtent) (end a b : ℕ) → x ≡ extent_of (drop 1 input) 0 (get_or input 0 0) → x ≡ Ok end → a ≡ end % 256 → b ≡ end / 256 % 256
      → Some (same (1 ∷ a ∷ b ∷ []) held) ≡ agreement (of_extent input) held
  unfolding bytes_of
  extent_ends x end a b e f p q = (λ i. Some (same (1 ∷ p i ∷ q i ∷ []) held)) ∙ ap (λ (y : Result ℕ NoExtent). Some (same (extent_says y) held)) (sym f) ∙ extent_is x e

-- ---- a number

-- its 64 bits
pub bits_are : (z : ℤ) → SFits w64 z → of_z w64 z ≡ residue (2 ^ 64) z
unfolding residue
bits_are (pos n) f = sym (mod-eq_of_lt (omega (arith, f.sfits)))
bits_are (negsuc n) f = let m : n % 2 ^ 64 ≡ n = mod-eq_of_lt (omega (arith, f.sfits)) in rw m refl

module _ (held : List ℕ) where
  pub number_refused : (why : Refusal) (n : ℕ) → n ≡ refusal_number why → Some (same (n ∷ []) held) ≡ agreement (Some (number_says (telling (Err why)))) held
  unfolding number_says
  number_refused why n e = rw (ne_eqb (refusal_number why) 0 (λ z. omega (arith, refusal_nonzero why, z))) (ap (λ (k : ℕ). Some (same (k ∷ []) held)) e)

  pub number_is : (z : ℤ) (b : List ℕ) (o : ℕ) → b ≡ bytes_of 8 (residue (2 ^ 64) z) → matched held 0 (0 ∷ []) ≡ Some o
      → Some (same b (drop o held)) ≡ agreement (Some (number_says (telling (Ok z)))) held
  unfolding number_says
  number_is z b o e h = ap Some (sym (same_on held 0 (0 ∷ []) b o h) ∙ ap (λ (l : List ℕ). same (0 ∷ l) held) e)

  pub number_off : (z : ℤ) → matched held 0 (0 ∷ []) ≡ None → Some false ≡ agreement (Some (number_says (telling (Ok z)))) held
  unfolding number_says
  number_off z h = ap Some (sym (same_none held 0 (0 ∷ []) (bytes_of 8 (residue (2 ^ 64) z)) h))

-- ---- a write

-- bytes put into a buffer of their length
pub filled : (d bytes : List ℕ) (r : Option ℕ) (after : List ℕ) → length d ≡ length bytes → putting r after ≡ put d 0 bytes → after ≡ bytes
filled d bytes r after l p = elim (put_ways d 0 bytes r after p) [ inl w ↦ w.1.1 ∙ sets_all bytes d l | inr w ↦ absurd (omega (arith, w.0)) ]

module _ (held : List ℕ) (w : Wrote) (status : Status) (after : List ℕ) (n : ℕ) (is : wrote status after ≡ w) (e : n ≡ status_code status) where
  write_is : Some (same (n ∷ after) held) ≡ agreement (Some (write_says w)) held
  unfolding write_says
  write_is = ap (λ (k : ℕ). Some (same (k ∷ after) held)) e ∙ ap (λ (x : Wrote). Some (same (status_code x.status ∷ x.store) held)) is

  pub write_on : (o : ℕ) → matched held 0 (n ∷ []) ≡ Some o → Some (same after (drop o held)) ≡ agreement (Some (write_says w)) held
  write_on o h = ap Some (sym (same_on held 0 (n ∷ []) after o h)) ∙ write_is

  pub write_off : matched held 0 (n ∷ []) ≡ None → Some false ≡ agreement (Some (write_says w)) held
  write_off h = ap Some (sym (same_none held 0 (n ∷ []) after h)) ∙ write_is

pub write_short : (input held : List ℕ) (n : ℕ) → n ≡ unsigned_at input 3 2 → length input < 5 + n → None ≡ agreement (of_write input) held
unfolding of_write
write_short input held n e h = let k : length input < 5 + unsigned_at input 3 2 = omega arith in rw (lt-ltb (length input) (5 + unsigned_at input 3 2) k)

pub write-says : (input held : List ℕ) (n name : ℕ) (s v : List ℕ) → n ≡ unsigned_at input 3 2 → 5 + n ≤ length input
    → s ≡ drop (5 + n) input → name ≡ name_of 0 (unsigned_at input 0 2) → v ≡ take n (drop 5 input)
    → agreement (Some (write_says (write_of 8 s name (get_or input 2 0) v))) held ≡ agreement (of_write input) held
unfolding of_write
write-says input held n name s v e h es en ev =
    let k : 5 + unsigned_at input 3 2 ≤ length input = omega arith in
    let fs : s ≡ drop (5 + unsigned_at input 3 2) input = es ∙ ap (λ (i : ℕ). drop (5 + i) input) e in
    let fv : v ≡ take (unsigned_at input 3 2) (drop 5 input) = ev ∙ ap (λ (i : ℕ). take i (drop 5 input)) e in
    rw (le-ltb (length input) (5 + unsigned_at input 3 2) k)
    (λ i. agreement (Some (write_says (write_of 8 (fs i) (en i) (get_or input 2 0) (fv i)))) held)
