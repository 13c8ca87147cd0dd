-- A record of a read reply: id, and 00, type and value, or another status. Assumes nothing.
use Rattle.std.specs.Prelude.{Err, Ok}
use mathlib.Core.Path.{◌≡◌, refl, sym, ap, ◌∙◌, subst}
use mathlib.Core.Bool.{Bool, true, false, cond}
use mathlib.Core.List.{List, [], ◌∷◌, ◌++◌}
use Prim.Native.Nat.{ℕ, ◌<◌}
use native.Mathlib.Omega.{arith}
use lib.ListN.{length, get_or, take}
use lib.Seq.{take-append-add}
use lib.Dec.{leb, eqb}
use borrow.Author.Tests.{le-leb, leb-true, ne_eqb, eqb-true, eqb-false}
use Rattle.types.specs.Number.{bytes_of, AllBytes}
use Rattle.read.specs.Read.{ReadRecord, value, failure, encode}
use Rattle.frame.specs.declared.answer.Refusal.TheVariants.{RecordCut}
use Rattle.readers.specs.declared.layout.Layout.TheVariants.{ReadStatus}
use Rattle.readers.specs.Layout.{valued, length_of}
use Rattle.readers.specs.Replies.{read_record}
use Rattle.readers.specs.Claims.Sendable.{Whole, Failed, ReadSendable}
use Rattle.readers.proofs.Lengths.{advancing}
use Rattle.readers.proofs.Spans.{read_is, unread_not}
use Rattle.readers.proofs.Codec.{Codec, Wrote}
use Rattle.readers.proofs.Fields.{two_back, two_below, two_there, behind, by_firsts}
use Rattle.readers.proofs.Valued.{valued_forth, valued_there, valued_long}

read_forth : (r : ReadRecord) (rest : List ℕ) → ReadSendable r → length_of ReadStatus (encode r ++ rest) ≡ Ok (length (encode r))
unfolding length_of encode bytes_of
read_forth (value id t v) rest h =
    rw (le-leb 3 (length (encode (value id t v) ++ rest)) (omega arith))
    (valued_forth (bytes_of 2 id ++ 0x00 ∷ t ∷ []) 3 refl v rest h.1 ∙ ap Ok (omega arith))
read_forth (failure id status) rest h = rw (le-leb 3 (length (encode (failure id status) ++ rest)) (omega arith), ne_eqb status 0 h.1)

read_back : (r : ReadRecord) → ReadSendable r → read_record (encode r) ≡ r
unfolding read_record encode bytes_of
read_back (value id t v) h = ap (λ (n : ℕ). value n t v) (two_back id (0x00 ∷ t ∷ v) h.0)
read_back (failure id status) h = rw (ne_eqb status 0 h.1) (ap (λ (n : ℕ). failure n status) (two_back id (status ∷ []) h.0))

abbrev Is : List ℕ → Type 0
Is = Wrote read_record encode ReadSendable

-- a failure is read from three bytes
failure_there : (a b c : ℕ) → a < 256 → b < 256 → Failed c → Is (a ∷ b ∷ c ∷ [])
unfolding read_record encode
failure_there a b c h k f =
    rw (ne_eqb c 0 f)
    ((two_below a b (c ∷ []) h k, f), ap (λ (l : List ℕ). l ++ c ∷ []) (two_there a b (c ∷ []) h k))

-- a value behind 00 and its type
value_there : (a b t : ℕ) (v : List ℕ) → a < 256 → b < 256 → Whole t v → Is (a ∷ b ∷ 0x00 ∷ t ∷ v)
unfolding read_record encode
value_there a b t v h k w =
    let more : List ℕ = 0x00 ∷ t ∷ v in
    ((two_below a b more h k, w), ap (λ (l : List ℕ). l ++ more) (two_there a b more h k))

abbrev ValueThere : ℕ → List ℕ → Type 0
ValueThere m l = AllBytes l → get_or l 2 0 ≡ 0 → valued 3 l ≡ Ok m → Is (take m l)

value_there_of : (a b c t : ℕ) (rest : List ℕ) (m : ℕ) → ValueThere m (a ∷ b ∷ c ∷ t ∷ rest)
value_there_of a b c t rest m h z e =
    let head : List ℕ = a ∷ b ∷ c ∷ t ∷ [] in
    let w = valued_there head 3 refl rest m e in
    let s : take m (head ++ rest) ≡ head ++ take w.0 rest = ap (λ (k : ℕ). take k (head ++ rest)) w.1 ∙ take-append-add head rest w.0 in
    let o : head ++ take w.0 rest ≡ a ∷ b ∷ 0x00 ∷ t ∷ take w.0 rest = ap (λ (k : ℕ). a ∷ b ∷ k ∷ t ∷ take w.0 rest) z in
    subst Is (sym (s ∙ o)) (value_there a b t (take w.0 rest) (h 0) (h 1) w.2)

abbrev FailureThere : List ℕ → Type 0
FailureThere l = AllBytes l → Failed (get_or l 2 0) → Is (take 3 l)

failure_there_of : (a b c : ℕ) (rest : List ℕ) → FailureThere (a ∷ b ∷ c ∷ rest)
failure_there_of a b c rest h f = failure_there a b c (h 0) (h 1) f

read_there : (l : List ℕ) (m : ℕ) → AllBytes l → length_of ReadStatus l ≡ Ok m → Is (take m l)
unfolding length_of
read_there l m h e = go (leb 3 (length l)) refl (eqb (get_or l 2 0) 0) refl e
  where
    go : (b : Bool) → leb 3 (length l) ≡ b → (c : Bool) → eqb (get_or l 2 0) 0 ≡ c
        → cond b (cond c (valued 3 l) (Ok 3)) (Err RecordCut) ≡ Ok m → Is (take m l)
    go true b true c e =
        subst (ValueThere m) (by_firsts 4 l (valued_long 3 l m e)) (value_there_of _ _ _ _ (behind 4 l) m) h (eqb-true (get_or l 2 0) 0 c) e
    go true b false c e =
        subst (λ (k : ℕ). Is (take k l)) (read_is 3 m e)
        (subst FailureThere (by_firsts 3 l (leb-true 3 (length l) b)) (failure_there_of _ _ _ (behind 3 l)) h (eqb-false (get_or l 2 0) 0 c))
    go false b c d e = unread_not RecordCut m e

pub read_codec : Codec (length_of ReadStatus) read_record encode ReadSendable
read_codec = record { moves = advancing ReadStatus; forth = read_forth; back = read_back; there = read_there }
