-- A record of a read configuration reply: status, direction, id, and on success type, minimum, maximum and change. Assumes nothing.
use Rattle.std.specs.Prelude.{Err, Ok}
use mathlib.Core.Path.{◌≡◌, refl, sym, ap, ◌∙◌, subst}
use mathlib.Core.Bool.{Bool, true, false, cond}
use mathlib.Core.List.{List, [], ◌∷◌, ◌++◌, append-nil}
use Prim.Native.Nat.{ℕ, suc, ◌+◌, ◌≤◌}
use native.Mathlib.Omega.{arith}
use lib.ListN.{length, get_or, take, length-append}
use lib.Seq.{take-append-add, length-take-le, take-length}
use lib.Dec.{leb, eqb}
use borrow.Author.Tests.{le-leb, leb-true, ne_eqb, eqb-true, eqb-false}
use Rattle.types.specs.Number.{bytes_of, unsigned_at, AllBytes}
use Rattle.types.proofs.Numbers.{length_bytes, le_below}
use Rattle.reporting.proofs.Carriage.{bytes_le}
use Rattle.reporting.specs.declared.entry.ReportingConfig.{ReportingConfig}
use Rattle.configure.specs.Request.{change_width}
use Rattle.configure.specs.Configuration.{SettingRecord, setting, failure, encode}
use Rattle.frame.specs.declared.answer.Refusal.TheVariants.{RecordCut}
use Rattle.readers.specs.declared.layout.Layout.TheVariants.{Setting}
use Rattle.readers.specs.Layout.{up_to, length_of}
use Rattle.readers.specs.Replies.{setting_record}
use Rattle.readers.specs.Claims.Sendable.{Failed, SettingSendable}
use Rattle.readers.proofs.Lengths.{advancing}
use Rattle.readers.proofs.Spans.{read_is, unread_not}
use Rattle.readers.proofs.Codec.{Codec, Wrote}
use Rattle.readers.proofs.Fields.{number_back, two_back, two_below, two_there, bytes_take, behind, by_firsts, up_to_bytes, up_to_is}

abbrev config : ℕ → ℕ → ℕ → Bool → ReportingConfig
config min max change mark = record { min_interval = min; max_interval = max; reportable_change = change; unsigned = mark }

setting_forth : (r : SettingRecord) (rest : List ℕ) → SettingSendable r → length_of Setting (encode r ++ rest) ≡ Ok (length (encode r))
unfolding length_of encode bytes_of
setting_forth (setting direction id t g) rest h =
    let w : ℕ = change_width t in
    let x : List ℕ = bytes_of w g.reportable_change in
    let n : length x ≡ w = length_bytes w g.reportable_change in
    let m : length (x ++ rest) ≡ length x + length rest = length-append x rest in
    rw (le-leb 4 (length (encode (setting direction id t g) ++ rest)) (omega arith))
    (up_to_bytes (9 + w) (encode (setting direction id t g) ++ rest) (omega arith) ∙ ap Ok (omega arith))
setting_forth (failure status direction id) rest h =
    rw (le-leb 4 (length (encode (failure status direction id) ++ rest)) (omega arith), ne_eqb status 0 h.0)

setting_back : (r : SettingRecord) → SettingSendable r → setting_record (encode r) ≡ r
unfolding setting_record encode bytes_of unsigned_at
setting_back (setting direction id t g) h =
    let w : ℕ = change_width t in
    let x : List ℕ = bytes_of w g.reportable_change in
    let i₁ = two_back id (t ∷ bytes_of 2 g.min_interval ++ bytes_of 2 g.max_interval ++ x) h.0 in
    let i₂ = two_back g.min_interval (bytes_of 2 g.max_interval ++ x) h.1 in
    let i₃ = two_back g.max_interval x h.2 in
    let i₄ : unsigned_at x 0 w ≡ g.reportable_change =
    ap (λ (l : List ℕ). unsigned_at l 0 w) (sym (append-nil x)) ∙ number_back w g.reportable_change [] h.3 in
    λ i. setting direction (i₁ i) t (config (i₂ i) (i₃ i) (i₄ i) (sym h.4 i))
setting_back (failure status direction id) h = rw (ne_eqb status 0 h.0) (ap (λ (n : ℕ). failure status direction n) (two_back id [] h.1))

abbrev Is : List ℕ → Type 0
Is = Wrote setting_record encode SettingSendable

-- a failure is read from four bytes
abbrev FailureThere : List ℕ → Type 0
FailureThere l = AllBytes l → Failed (get_or l 0 0) → Is (take 4 l)

failure_there : (a b c d : ℕ) (rest : List ℕ) → FailureThere (a ∷ b ∷ c ∷ d ∷ rest)
unfolding setting_record encode unsigned_at
failure_there a b c d rest h f =
    rw (ne_eqb a 0 f)
    ((f, two_below c d [] (h 2) (h 3)), ap (λ (l : List ℕ). a ∷ b ∷ l) (two_there c d [] (h 2) (h 3)))

-- a configuration from nine, and as many as its change has
abbrev SettingThere : List ℕ → Type 0
SettingThere l = AllBytes l → get_or l 0 0 ≡ 0 → 9 + change_width (get_or l 4 0) ≤ length l → Is (take (9 + change_width (get_or l 4 0)) l)

module _ (b i j t m n p q : ℕ) (rest : List ℕ) (bytes : AllBytes (b ∷ i ∷ j ∷ t ∷ m ∷ n ∷ p ∷ q ∷ rest)) (room : change_width t ≤ length rest) where
  abbrev x : List ℕ
  x = take (change_width t) rest

  more : AllBytes x
  more = bytes_take (change_width t) rest (λ k. bytes (suc (suc (suc (suc (suc (suc (suc (suc k)))))))))

  -- the change
  change_there : bytes_of (change_width t) (unsigned_at x 0 (change_width t)) ≡ x
  unfolding unsigned_at
  change_there =
      let long : length x ≡ change_width t = length-take-le (change_width t) rest room in
      bytes_le (change_width t) x more (omega arith) ∙ ap (λ (k : ℕ). take k x) (sym long) ∙ take-length x

  setting_is : Is (0x00 ∷ b ∷ i ∷ j ∷ t ∷ m ∷ n ∷ p ∷ q ∷ x)
  unfolding setting_record encode unsigned_at
  setting_is =
      let id = two_there i j (t ∷ m ∷ n ∷ p ∷ q ∷ x) (bytes 1) (bytes 2) in
      let min = two_there m n (p ∷ q ∷ x) (bytes 4) (bytes 5) in
      let max = two_there p q x (bytes 6) (bytes 7) in (
        (
          two_below i j (t ∷ m ∷ n ∷ p ∷ q ∷ x) (bytes 1) (bytes 2),
          two_below m n (p ∷ q ∷ x) (bytes 4) (bytes 5),
          two_below p q x (bytes 6) (bytes 7),
          le_below (change_width t) x more,
          refl,
        ),
        (λ k. (0x00 ∷ b ∷ id k) ++ (t ∷ min k) ++ max k ++ change_there k),
      )

setting_there_of : (a b i j t m n p q : ℕ) (rest : List ℕ) → SettingThere (a ∷ b ∷ i ∷ j ∷ t ∷ m ∷ n ∷ p ∷ q ∷ rest)
setting_there_of a b i j t m n p q rest h z l =
    let head : List ℕ = a ∷ b ∷ i ∷ j ∷ t ∷ m ∷ n ∷ p ∷ q ∷ [] in
    let w : ℕ = change_width t in
    let o : take (9 + w) (head ++ rest) ≡ 0x00 ∷ b ∷ i ∷ j ∷ t ∷ m ∷ n ∷ p ∷ q ∷ take w rest =
    take-append-add head rest w ∙ ap (λ (k : ℕ). k ∷ b ∷ i ∷ j ∷ t ∷ m ∷ n ∷ p ∷ q ∷ take w rest) z in
    subst Is (sym o) (setting_is b i j t m n p q rest (λ k. h (suc k)) (omega arith))

setting_there : (l : List ℕ) (m : ℕ) → AllBytes l → length_of Setting l ≡ Ok m → Is (take m l)
unfolding length_of
setting_there l m h e = go (leb 4 (length l)) refl (eqb (get_or l 0 0) 0) refl e
  where
    go : (b : Bool) → leb 4 (length l) ≡ b → (c : Bool) → eqb (get_or l 0 0) 0 ≡ c
        → cond b (cond c (up_to (9 + change_width (get_or l 4 0)) l) (Ok 4)) (Err RecordCut) ≡ Ok m → Is (take m l)
    go true b true c e =
        let u = up_to_is (9 + change_width (get_or l 4 0)) l m e in
        subst (λ (k : ℕ). Is (take k l)) (sym u.0)
        (subst SettingThere (by_firsts 9 l (omega arith)) (setting_there_of _ _ _ _ _ _ _ _ _ (behind 9 l)) h (eqb-true (get_or l 0 0) 0 c) u.1)
    go true b false c e =
        subst (λ (k : ℕ). Is (take k l)) (read_is 4 m e)
        (subst FailureThere (by_firsts 4 l (leb-true 4 (length l) b)) (failure_there _ _ _ _ (behind 4 l)) h (eqb-false (get_or l 0 0) 0 c))
    go false b c d e = unread_not RecordCut m e

pub setting_codec : Codec (length_of Setting) setting_record encode SettingSendable
setting_codec = record { moves = advancing Setting; forth = setting_forth; back = setting_back; there = setting_there }
