-- The failures that write and configure replies list, and the attributes that a discover reply lists: records of a fixed length. Assumes
-- nothing.
use Rattle.std.specs.Prelude.{Ok}
use mathlib.Core.Path.{◌≡◌, sym, ap, subst}
use mathlib.Core.List.{List, [], ◌∷◌, ◌++◌}
use Prim.Native.Nat.{ℕ, ◌^◌, ◌<◌}
use native.Mathlib.Omega.{arith}
use lib.ListN.{length, get_or, take}
use Rattle.types.specs.Number.{bytes_of, unsigned_at, AllBytes}
use Rattle.write.specs.Reply as Write
use Rattle.configure.specs.Configure as Configure
use Rattle.discover.specs.Discover as Discover
use Rattle.readers.specs.declared.layout.Layout.TheVariants.{WriteFailure, ConfigureFailure, Discovered}
use Rattle.readers.specs.Layout.{length_of}
use Rattle.readers.specs.Replies.{write_failure, configure_failure, discovered_record}
use Rattle.readers.specs.Claims.Sendable.{Failed, WriteSendable, ConfigureSendable}
use Rattle.readers.proofs.Lengths.{advancing}
use Rattle.readers.proofs.Codec.{Codec, Wrote}
use Rattle.readers.proofs.Fields.{two_back, two_below, two_there, behind, by_firsts, up_to_bytes, up_to_is, failing_bytes, failing_is}

-- ---- a write reply's failure: status, id

write_forth : (r : Write.Failure) (rest : List ℕ) → WriteSendable r → length_of WriteFailure (Write.encode r ++ rest) ≡ Ok (length (Write.encode r))
unfolding length_of Write.encode bytes_of
write_forth r rest h = failing_bytes 3 (Write.encode r ++ rest) h.0 (omega arith)

write_back : (r : Write.Failure) → WriteSendable r → write_failure (Write.encode r) ≡ r
unfolding write_failure Write.encode bytes_of unsigned_at
write_back r h = let n = two_back r.id [] h.1 in λ i. Write.failure r.status (n i)

abbrev WriteThere : ℕ → List ℕ → Type 0
WriteThere m l = Failed (get_or l 0 0) → AllBytes l → Wrote write_failure Write.encode WriteSendable (take m l)

write_there_of : (a b c : ℕ) (rest : List ℕ) → WriteThere 3 (a ∷ b ∷ c ∷ rest)
unfolding write_failure Write.encode unsigned_at
write_there_of a b c rest k h = ((k, two_below b c [] (h 1) (h 2)), ap (λ (l : List ℕ). a ∷ l) (two_there b c [] (h 1) (h 2)))

write_there : (l : List ℕ) (m : ℕ) → AllBytes l → length_of WriteFailure l ≡ Ok m
    → Wrote write_failure Write.encode WriteSendable (take m l)
unfolding length_of
write_there l m h e =
    let w = failing_is 3 l m e in
    subst (λ (n : ℕ). WriteThere n l) (sym w.1) (subst (WriteThere 3) (by_firsts 3 l w.2) (write_there_of _ _ _ (behind 3 l))) w.0 h

pub write_codec : Codec (length_of WriteFailure) write_failure Write.encode WriteSendable
write_codec = record { moves = advancing WriteFailure; forth = write_forth; back = write_back; there = write_there }

-- ---- a configure reply's failure: status, direction, id

configure_forth : (r : Configure.Failure) (rest : List ℕ) → ConfigureSendable r
    → length_of ConfigureFailure (Configure.encode r ++ rest) ≡ Ok (length (Configure.encode r))
unfolding length_of bytes_of
configure_forth r rest h = failing_bytes 4 (Configure.encode r ++ rest) h.0 (omega arith)

configure_back : (r : Configure.Failure) → ConfigureSendable r → configure_failure (Configure.encode r) ≡ r
unfolding configure_failure bytes_of unsigned_at
configure_back r h = let n = two_back r.id [] h.1 in λ i. Configure.failure r.status r.direction (n i)

abbrev ConfigureThere : ℕ → List ℕ → Type 0
ConfigureThere m l =
    Failed (get_or l 0 0) → AllBytes l → Wrote configure_failure Configure.encode ConfigureSendable (take m l)

configure_there_of : (a b c d : ℕ) (rest : List ℕ) → ConfigureThere 4 (a ∷ b ∷ c ∷ d ∷ rest)
unfolding configure_failure unsigned_at
configure_there_of a b c d rest k h = ((k, two_below c d [] (h 2) (h 3)), ap (λ (l : List ℕ). a ∷ b ∷ l) (two_there c d [] (h 2) (h 3)))

configure_there : (l : List ℕ) (m : ℕ) → AllBytes l → length_of ConfigureFailure l ≡ Ok m
    → Wrote configure_failure Configure.encode ConfigureSendable (take m l)
unfolding length_of
configure_there l m h e =
    let w = failing_is 4 l m e in
    subst (λ (n : ℕ). ConfigureThere n l) (sym w.1) (subst (ConfigureThere 4) (by_firsts 4 l w.2) (configure_there_of _ _ _ _ (behind 4 l))) w.0 h

pub configure_codec : Codec (length_of ConfigureFailure) configure_failure Configure.encode ConfigureSendable
configure_codec = record { moves = advancing ConfigureFailure; forth = configure_forth; back = configure_back; there = configure_there }

-- ---- a discover reply's attribute: id, type

abbrev pub Fits : Discover.Discovered → Type 0
Fits r = r.id < 2 ^ 16

discovered_forth : (r : Discover.Discovered) (rest : List ℕ) → Fits r → length_of Discovered (Discover.encode r ++ rest) ≡ Ok (length (Discover.encode r))
unfolding length_of Discover.encode bytes_of
discovered_forth r rest h = up_to_bytes 3 (Discover.encode r ++ rest) (omega arith)

discovered_back : (r : Discover.Discovered) → Fits r → discovered_record (Discover.encode r) ≡ r
unfolding discovered_record Discover.encode bytes_of
discovered_back r h = let n = two_back r.id (r.type ∷ []) h in λ i. record { id = n i; type = r.type }

abbrev DiscoveredThere : ℕ → List ℕ → Type 0
DiscoveredThere m l = AllBytes l → Wrote discovered_record Discover.encode Fits (take m l)

discovered_there_of : (a b c : ℕ) (rest : List ℕ) → DiscoveredThere 3 (a ∷ b ∷ c ∷ rest)
unfolding discovered_record Discover.encode
discovered_there_of a b c rest h = (two_below a b (c ∷ []) (h 0) (h 1), ap (λ (l : List ℕ). l ++ c ∷ []) (two_there a b (c ∷ []) (h 0) (h 1)))

discovered_there : (l : List ℕ) (m : ℕ) → AllBytes l → length_of Discovered l ≡ Ok m
    → Wrote discovered_record Discover.encode Fits (take m l)
unfolding length_of
discovered_there l m h e =
    let w = up_to_is 3 l m e in
    subst (λ (n : ℕ). DiscoveredThere n l) (sym w.0) (subst (DiscoveredThere 3) (by_firsts 3 l w.1) (discovered_there_of _ _ _ (behind 3 l))) h

pub discovered_codec : Codec (length_of Discovered) discovered_record Discover.encode Fits
discovered_codec = record { moves = advancing Discovered; forth = discovered_forth; back = discovered_back; there = discovered_there }
