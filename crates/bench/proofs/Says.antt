-- What is said of an answer, and of a store that is none, cut or whole (`specs/Bench.antt`). Assumes nothing.
use Rattle.std.specs.Prelude.{Option, Result, Ok, Err}
use mathlib.Core.Path.{◌≡◌, refl, ap, ◌∙◌}
use mathlib.Core.Bool.{Bool, true, false}
use mathlib.Core.List.{List, [], ◌∷◌}
use Prim.Native.Nat.{ℕ, ◌+◌, ◌≤◌, ◌<◌}
use native.Mathlib.Omega.{arith}
use lib.ListN.{length, take, drop, length-drop}
use lib.Seq.{take_all}
use borrow.Author.Tests.{ne_eqb, le-leb, lt-leb}
use Rattle.frame.specs.declared.answer.Refusal.{Refusal}
use Rattle.frame.specs.Answer.{refusal_number, no_state, seen}
use Rattle.frame.specs.Inside.Buffer.{Putting, putting, put}
use Rattle.frame.proofs.Codes.{refusal_nonzero}
use Rattle.frame.proofs.Buffer.{put_fits, part_at}
use Rattle.store.specs.Contents.{cluster_of}
use Rattle.store.specs.Layout.{is_store}
use Rattle.store.proofs.Layouts.{store_is}
use Rattle.reporting.specs.declared.table.ReportingTable.{ReportingTable}
use Rattle.reporting.specs.Table.{capacity, table_of, holding}
use Rattle.reporting.specs.Lent.{quieted_t}
use Rattle.server.specs.Serve.{State, serve}
use Rattle.bench.specs.Bench.{decimal, hex, said, served_of, length_of, bench_of}

-- ---- an answer

pub said_refusal : (why : Refusal) (d : List ℕ) → said (seen (Err why) d no_state) ≡ decimal (refusal_number why)
unfolding said
said_refusal why d = rw (ne_eqb (refusal_number why) 0 (λ z. omega (arith, refusal_nonzero why, z))) refl

pub said_reply : (n : ℕ) (d : List ℕ) → said (seen (Ok n) d no_state) ≡ 48 ∷ 32 ∷ hex (take n d)
unfolding said
said_reply n d = refl

-- ---- a request served

-- a store has at most 4096 bytes
no_store : (s : List ℕ) → 4096 < length s → is_store 8 s ≡ false
no_store s h = go (is_store 8 s) refl
  where
    go : (b : Bool) → is_store 8 s ≡ b → b ≡ false
    go true e = let k : length s ≤ 4096 = omega (arith, (store_is 8 s e).small) in absurd (omega arith)
    go false e = refl

pub said_too_long : (s request : List ℕ) → 4096 < length s → decimal 7 ≡ said (served_of s request)
unfolding said serve
said_too_long s request h = rw (no_store s h) refl

-- a copy of the store stands at the start of the buffer
pub copied : (d s after : List ℕ) (r : Option ℕ) → length s ≤ length d → putting r after ≡ put d 0 s → take (length s) after ≡ s
copied d s after r h e = ap (λ (p : Putting). take (length s) p.buffer) (e ∙ put_fits d 0 s (omega arith)) ∙ part_at d 0 s (omega arith)

-- a call on the copy, with a new table
pub said_served : (s copy request after : List ℕ) (t : ReportingTable) (cluster : ℕ) (a : Result ℕ Refusal) (left : State)
    → take (length s) copy ≡ s → table_of t ≡ holding [] → cluster ≡ cluster_of s
    → seen a after left ≡ serve 8 capacity (take (length s) copy) (quieted_t (table_of t)) cluster true request 64
    → said (seen a after no_state) ≡ said (served_of s request)
unfolding said
said_served s copy request after t cluster a left c n k e =
    ap said e ∙ (λ i. said (serve 8 capacity (c i) (quieted_t (n i)) (k i) true request 64))

-- ---- the input

pub bench_cut : (input : List ℕ) (n : ℕ) → n ≡ length_of input → length input < 2 + n → decimal 7 ≡ bench_of input
unfolding bench_of
bench_cut input n e h = let k : length input < 2 + length_of input = omega (arith, e) in rw (lt-leb (2 + length_of input) (length input) k) refl

-- the request is what is left behind the store
pub bench_whole : (input store request : List ℕ) (n : ℕ) → n ≡ length_of input → 2 + n ≤ length input
    → store ≡ take n (drop 2 input) → request ≡ take (length input) (drop (2 + n) input) → said (served_of store request) ≡ bench_of input
unfolding bench_of
bench_whole input store request n e h p q =
    let k : 2 + length_of input ≤ length input = omega (arith, e) in
    let r : length (drop (2 + n) input) ≤ length input = simp length-drop (omega arith) in
    (λ i. said (served_of (p i) ((q ∙ take_all (length input) (drop (2 + n) input) r) i)))
    ∙ ap (λ (m : ℕ). said (served_of (take m (drop 2 input)) (drop (2 + m) input))) e
    ∙ rw (le-leb (2 + length_of input) (length input) k) refl
