-- Definitions. DOCUMENT 01'S BENCH PROGRAM ("Bench frames", last paragraph): what is written for what is read.
use Rattle.std.specs.Prelude.{ℕ, ◌+◌, true, cond, List, [], ◌∷◌, ◌++◌, length, take, drop, eqb, leb, ltb}
use Rattle.io.specs.Digits.{last_digits}
use Rattle.types.specs.Number.{unsigned_at}
use Rattle.frame.specs.Answer.{Outcome, refusal_number}
use Rattle.frame.specs.declared.answer.Refusal.TheVariants.{NotAStore}
use Rattle.store.specs.Contents.{cluster_of}
use Rattle.reporting.specs.Table.{holding, capacity}
use Rattle.server.specs.Serve.{State, serve}

-- ---- the text

-- a number of the table "What a call says back", in decimal: they have one digit or two
abbrev pub decimal : ℕ → List ℕ
decimal n = last_digits 10 (cond (ltb n 10) 1 2) n

-- bytes in hex, two lower-case digits each, the high one first
unfoldable pub hex : List ℕ → List ℕ
hex [] = []
hex (b ∷ bs) = last_digits 16 2 b ++ hex bs

abbrev pub space : ℕ
space = 32

-- "number, space, reply hex"; "a refusal is its number alone"
unfoldable pub said : {S : Type 0} → Outcome S → List ℕ
said o = cond (eqb o.number 0) (decimal 0 ++ (space ∷ hex (take o.size o.reply))) (decimal o.number)

-- ---- the answer

-- "unicast, the store's cluster, empty table, room 64"
abbrev pub served_of : List ℕ → List ℕ → Outcome State
served_of store request = serve 8 capacity store (holding []) (cluster_of store) true request 64

-- "a two-byte store length"; of fewer bytes than two it is what they say, and the store is cut short
abbrev pub length_of : List ℕ → ℕ
length_of input = unsigned_at input 0 2

-- THE BYTES WRITTEN FOR THE BYTES READ: a length, the store, a request. "A store cut short is 7"
unfoldable pub bench_of : List ℕ → List ℕ
bench_of input =
    let n : ℕ = length_of input in
    cond (leb (2 + n) (length input))
    (said (served_of (take n (drop 2 input)) (drop (2 + n) input)))
    (decimal (refusal_number NotAStore))
