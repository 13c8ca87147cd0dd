-- Definitions. What ours says to a request that may need the table (kinds q and y).
use Rattle.std.specs.Prelude.{ℕ, ◌+◌, ◌*◌, true, cond, ◌&&◌, List, length, get_or, take, drop, leb, None, Option, Some}
use Rattle.types.specs.Number.{unsigned_at}
use Rattle.frame.specs.Reply.{padded}
use Rattle.frame.specs.Answer.{Outcome, within}
use Rattle.store.specs.Contents.{cluster_of}
use Rattle.reporting.specs.Table.{holding, capacity}
use Rattle.reporting.specs.Carried.{table_in, is_table, slot_bytes, table_length}
use Rattle.server.specs.Serve.{State, serve}
use Rattle.replay.specs.Commands.{answer_says}
use Rattle.replay.specs.Methods.{table_says}

-- a table whose bytes are given as far as they are used: the count, and the slots below it
abbrev pub whole_table : List ℕ → List ℕ
whole_table used = padded table_length used

-- what a request leaves, of the table alone
abbrev pub table_left : Outcome State → Outcome (List ℕ)
table_left o = within (λ s. table_says s.table) o

-- a unicast request for the store's own cluster: 01, the number, the reply's length, the reply, and 00 where the table is as it was,
-- else 01 and the table
unfoldable pub request_says : List ℕ → List ℕ → List ℕ → ℕ → List ℕ
request_says used s frame room = answer_says used (table_left (serve 8 capacity s (holding (table_in (whole_table used))) (cluster_of s) true frame room))

-- ---- q, y: the room (1), the table as far as it is used, the store's length (2), the store, and a frame

unfoldable pub of_request : List ℕ → Option (List ℕ)
of_request input =
    let n : ℕ = 1 + slot_bytes * get_or input 1 0 in
    let k : ℕ = unsigned_at input (1 + n) 2 in
    let used : List ℕ = take n (drop 1 input) in
    cond (leb (3 + n + k) (length input) && is_table capacity (whole_table used))
    (Some (request_says used (take k (drop (3 + n) input)) (drop (3 + n + k) input) (get_or input 0 0)))
    None
