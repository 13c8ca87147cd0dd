-- The bytes of a configuration's record: nine, and the change cut to its width. Assumes nothing.
use mathlib.Core.Path.{◌≡◌, refl, sym, ap, ◌∙◌}
use mathlib.Core.List.{List, [], ◌∷◌, ◌++◌}
use Prim.Native.Nat.{ℕ, zero, suc, ◌+◌, ◌/◌, ◌%◌, ◌≤◌}
use native.Mathlib.Omega.{arith}
use lib.ListN.{get_or, take}
use lib.Seq.{take-append-add}
use Rattle.types.specs.Number.{bytes_of}
use Rattle.types.proofs.Numbers.{bytes_cut}
use Rattle.reporting.specs.declared.entry.ReportingConfig.{ReportingConfig}
use Rattle.configure.specs.Request.{change_width}
use Rattle.configure.specs.Configuration.{setting, encode, sent_as}
use Rattle.configure.proofs.Widths.{width_least}

-- the first bytes of a number are the number cut to fewer
pub take_bytes : (w k n : ℕ) → w ≤ k → take w (bytes_of k n) ≡ bytes_of w n
unfolding bytes_of
take_bytes zero k n h = refl
take_bytes (suc w) zero n h = absurd (omega arith)
take_bytes (suc w) (suc k) n h = ap (λ (l : List ℕ). n % 256 ∷ l) (take_bytes w k (n / 256) (omega arith))

-- status, direction, id, type, minimum, maximum
abbrev pub nine : ℕ → ℕ → ℕ → ReportingConfig → List ℕ
nine direction id t g =
    0x00
    ∷ direction
    ∷ id % 256
    ∷ id / 256 % 256
    ∷ t
    ∷ g.min_interval % 256
    ∷ g.min_interval / 256 % 256
    ∷ g.max_interval % 256
    ∷ g.max_interval / 256 % 256
    ∷ []

-- the bytes of a change, one by one
abbrev pub eight : List ℕ → List ℕ
eight b = get_or b 0 0 ∷ get_or b 1 0 ∷ get_or b 2 0 ∷ get_or b 3 0 ∷ get_or b 4 0 ∷ get_or b 5 0 ∷ get_or b 6 0 ∷ get_or b 7 0 ∷ []

eight-bytes : (n : ℕ) → eight (bytes_of 8 n) ≡ bytes_of 8 n
unfolding bytes_of
eight-bytes n = refl

module _ (direction id t : ℕ) (g : ReportingConfig) where
  -- a change that is cut twice is the change cut once
  encode_setting : nine direction id t g ++ bytes_of (change_width t) g.reportable_change ≡ encode (setting direction id t (sent_as t g))
  unfolding encode bytes_of
  encode_setting = ap (λ (b : List ℕ). nine direction id t g ++ b) (sym (bytes_cut (change_width t) g.reportable_change))

  -- that many bytes of the nine and the eight are the record
  pub setting_bytes : (change : List ℕ) (end : ℕ) → change ≡ bytes_of 8 g.reportable_change → end ≡ 9 + change_width t
      → take end (nine direction id t g ++ eight change) ≡ encode (setting direction id t (sent_as t g))
  setting_bytes change end e n =
      ap (λ (k : ℕ). take k (nine direction id t g ++ eight change)) n
      ∙ take-append-add (nine direction id t g) (eight change) (change_width t)
      ∙ ap (λ (b : List ℕ). nine direction id t g ++ take (change_width t) (eight b)) e
      ∙ ap (λ (b : List ℕ). nine direction id t g ++ take (change_width t) b) (eight-bytes g.reportable_change)
      ∙ ap (λ (b : List ℕ). nine direction id t g ++ b) (take_bytes (change_width t) 8 g.reportable_change (width_least t))
      ∙ encode_setting
