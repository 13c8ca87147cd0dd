-- Claims. Chains over store T (Bench.antt), as one list: two replies do occur, a Default Response ends a chain, and a cluster command of the same number is none.
use Rattle.std.specs.Prelude.{◌≡◌, true, List, [], ◌∷◌, ℕ, Some}
use Rattle.frame.specs.declared.answer.Refusal.TheVariants.{NothingToSend}
use Rattle.frame.specs.Answer.{refused}
use Rattle.reporting.specs.Table.{capacity, holding}
use Rattle.server.specs.Serve.{state}
use Rattle.report.specs.Report.{report_of}
use Rattle.server.specs.Claims.Bench.{T, cluster, bench_answer}
use Rattle.server.specs.Claims.Chain.{Box, serving, responding, sent, chain}

-- a server of T, and a responder that is asked for cluster 0006, both unicast and with room 64
abbrev pub box : Box
box = serving 8 capacity (T 0x07) (holding []) cluster true 64

abbrev pub responder : Box
responder = responding (cluster ∷ []) 0x0006 true 64

-- bench frame 1, and its reply
abbrev pub asking : List ℕ
asking = 0x00 ∷ 0x2a ∷ 0x00 ∷ 0x00 ∷ 0x00 ∷ 0x09 ∷ 0x00 ∷ []

abbrev pub values : List ℕ
values = 0x18 ∷ 0x2a ∷ 0x01 ∷ 0x00 ∷ 0x00 ∷ 0x00 ∷ 0x23 ∷ 0x00 ∷ 0x00 ∷ 0x00 ∷ 0x80 ∷ 0x09 ∷ 0x00 ∷ 0x86 ∷ []

-- a report of attribute 5
abbrev pub reporting : List ℕ
reporting = 0x18 ∷ 0x07 ∷ 0x0a ∷ 0x05 ∷ 0x00 ∷ 0x29 ∷ 0x38 ∷ 0xff ∷ []

pub record ChainsAre : Type 0 where
  -- the reply to a read, a Default Response to that, and no more
  pub two : chain (box ∷ box ∷ box ∷ []) asking ≡ values ∷ (0x18 ∷ 0x2a ∷ 0x0b ∷ 0x01 ∷ 0x81 ∷ []) ∷ []
  -- where a responder comes second, or third
  pub second : chain (box ∷ responder ∷ box ∷ []) asking ≡ values ∷ (0x18 ∷ 0x2a ∷ 0x0b ∷ 0x01 ∷ 0xc3 ∷ []) ∷ []
  pub third : chain (box ∷ box ∷ responder ∷ []) asking ≡ values ∷ (0x18 ∷ 0x2a ∷ 0x0b ∷ 0x01 ∷ 0x81 ∷ []) ∷ []
  -- a Default Response gets 6, in a buffer too small for an answer, too
  pub nothing : bench_answer (0x00 ∷ 0x00 ∷ 0x0b ∷ []) 64 ≡ refused 64 NothingToSend (state (T 0x07) (holding []))
  pub narrow : bench_answer (0x00 ∷ 0x00 ∷ 0x0b ∷ []) 4 ≡ refused 4 NothingToSend (state (T 0x07) (holding []))
  -- a cluster command of its number is answered, and that answer is not
  pub clusters : chain (box ∷ box ∷ []) (0x01 ∷ 0x00 ∷ 0x0b ∷ []) ≡ (0x18 ∷ 0x00 ∷ 0x0b ∷ 0x0b ∷ 0x81 ∷ []) ∷ []
  -- a report frame gets a Default Response, and that nothing
  pub reported : sent (report_of 8 (T 0x07) 0x07 (5 ∷ []) 64) ≡ Some reporting
  pub one : chain (box ∷ box ∷ []) reporting ≡ (0x18 ∷ 0x07 ∷ 0x0b ∷ 0x0a ∷ 0x81 ∷ []) ∷ []
