-- The laws of records as bytes (`specs/Encoded.antt`), for any record. Assumes nothing.
use Rattle.std.specs.Prelude.{None, Option, Some}
use mathlib.Core.Path.{◌≡◌, refl, sym, ap, ◌∙◌, subst}
use mathlib.Core.Bool.{true, false}
use mathlib.Core.List.{List, [], ◌∷◌, ◌++◌, append_assoc, append-nil}
use Prim.Native.Nat.{ℕ, ◌+◌, ◌≤◌, ◌<◌}
use native.Mathlib.Omega.{arith}
use lib.ListN.{length, length-append}
use borrow.Author.Tests.{le-leb, lt-leb, leb-true}
use Rattle.frame.specs.Inside.Buffer.{putting, put, Shows, Ways}
use Rattle.frame.specs.Encoded.{encode_all, fits}
use Rattle.frame.proofs.Buffer.{shows_put, shows_full}

module _ {R : Type 0} (encode : R → List ℕ) where
  -- the bytes of records and then of others
  pub encode_all_append : (a b : List R) → encode_all encode (a ++ b) ≡ encode_all encode a ++ encode_all encode b
  unfolding encode_all
  encode_all_append [] b = refl
  encode_all_append (r ∷ a) b =
      ap (λ (l : List ℕ). encode r ++ l) (encode_all_append a b) ∙ sym (append_assoc (encode r) (encode_all encode a) (encode_all encode b))

  pub encode_all_snoc : (rs : List R) (r : R) → encode_all encode (rs ++ (r ∷ [])) ≡ encode_all encode rs ++ encode r
  unfolding encode_all
  encode_all_snoc rs r = encode_all_append rs (r ∷ []) ∙ ap (λ (l : List ℕ). encode_all encode rs ++ l) (append-nil (encode r))

  pub fits_within : (room head : ℕ) (rs : List R) → fits encode room head rs ≡ true → head + length (encode_all encode rs) ≤ room
  unfolding fits
  fits_within room head rs e = leb-true (head + length (encode_all encode rs)) room e

  module _ (room : ℕ) (head : List ℕ) (rs : List R) (r : R) where
    joined_as : head ++ encode_all encode rs ++ encode r ≡ head ++ encode_all encode (rs ++ (r ∷ []))
    joined_as = append_assoc head (encode_all encode rs) (encode r) ∙ ap (λ (l : List ℕ). head ++ l) (sym (encode_all_snoc rs r))

    size : length (head ++ encode_all encode rs ++ encode r) ≡ length head + length (encode_all encode (rs ++ (r ∷ [])))
    size = ap length joined_as ∙ length-append head (encode_all encode (rs ++ (r ∷ [])))

    fits_one : length (head ++ encode_all encode rs ++ encode r) ≤ room → fits encode room (length head) (rs ++ (r ∷ [])) ≡ true
    unfolding fits
    fits_one h = le-leb (length head + length (encode_all encode (rs ++ (r ∷ [])))) room (omega (arith, size))

    past_one : room < length (head ++ encode_all encode rs ++ encode r) → fits encode room (length head) (rs ++ (r ∷ [])) ≡ false
    unfolding fits
    past_one h = lt-leb (length head + length (encode_all encode (rs ++ (r ∷ [])))) room (omega (arith, size))

  -- a record put behind those that the buffer shows
  pub put_record : (head : List ℕ) (rs : List R) (r : R) (d : List ℕ) (out : ℕ) (p : Option ℕ) (after : List ℕ)
      → Shows d out (head ++ encode_all encode rs) → putting p after ≡ put d out (encode r) → Ways encode head (rs ++ (r ∷ [])) (length d) d p after
  put_record head rs r d out (Some o) after s p =
      let w = shows_put d out (head ++ encode_all encode rs) (encode r) (Some o) o after s p refl in
      record { shows = subst (Shows after o) (joined_as (length d) head rs r) w.shows; same = w.same; fit = fits_one (length d) head rs r w.fits }
  put_record head rs r d out None after s p =
      let w = shows_full d out (head ++ encode_all encode rs) (encode r) None after s p refl in
      record { unfit = past_one (length d) head rs r w.0; same = w.1 }
