-- The bytes of an outcome that is a reply, for the two shapes of commands: a shortened list, and a list of failures. Assumes nothing.
use mathlib.Core.Path.{◌≡◌}
use mathlib.Core.Bool.{Bool, true, false, cond}
use mathlib.Core.List.{List, [], ◌++◌}
use Prim.Native.Nat.{ℕ}
use native.Mathlib.Omega.{arith}
use lib.ListN.{length, take}
use lib.Dec.{leb}
use Rattle.frame.specs.declared.header.ZclHeader.{ZclHeader}
use Rattle.frame.specs.declared.command_identifier.CommandIdentifier.{CommandIdentifier}
use Rattle.frame.specs.declared.answer.Refusal.{Refusal}
use Rattle.frame.specs.declared.answer.Refusal.TheVariants.{RecordCut, ReplyTooLong}
use Rattle.frame.specs.Header.{reply_head}
use Rattle.frame.specs.Answer.{Outcome, no_state, replied, refused}
use Rattle.frame.specs.Walk.{Records, Way, through, broken, stopped, reached}
use Rattle.frame.specs.Encoded.{encode_all, fits}
use Rattle.frame.specs.Shortened.{Making, shortened_from, shortened_reply, shortened}
use Rattle.frame.specs.Failures.{Doing, Sofar, pass, encode_failures, answered, concluded, performed, headed}
use Rattle.frame.proofs.Buffer.{take_padded}
use Rattle.frame.proofs.Codes.{refusal_nonzero}
use Rattle.readers.specs.Claims.Served.{kept}

-- the bytes of a reply: as many of the buffer as its size says
abbrev pub out_of : {S : Type 0} → Outcome S → List ℕ
out_of o = take o.size o.reply

-- where the number is 0, these are the bytes
abbrev pub Sends : {S : Type 0} → Outcome S → List ℕ → Type 0
Sends o out = o.number ≡ 0 → out_of o ≡ out

pub sends_replied : {S : Type 0} (room : ℕ) (out : List ℕ) (s : S) → Sends (replied room out s) out
sends_replied room out s z = take_padded room out

-- a refusal's number is not 0
pub sends_refused : {S : Type 0} (room : ℕ) (why : Refusal) (s : S) (out : List ℕ) → Sends (refused room why s) out
sends_refused room why s out z = absurd (omega (arith, refusal_nonzero why))

pub sends_either : {S : Type 0} (b : Bool) (x y : Outcome S) (out : List ℕ) → Sends x out → Sends y out → Sends (cond b x y) out
sends_either true x y out h k = h
sends_either false x y out h k = k

-- behind a test, else a refusal
pub sends_tested : {S : Type 0} (room : ℕ) (b : Bool) (x : Outcome S) (why : Refusal) (s : S) (out : List ℕ)
    → Sends x out → Sends (cond b x (refused room why s)) out
sends_tested room b x why s out k = sends_either b x (refused room why s) out k (sends_refused room why s out)

-- ---- a shortened list: the records kept

reply_sends : {R : Type 0} (encode : R → List ℕ) (room : ℕ) (head : List ℕ) (way : Way (List R))
    → Sends (shortened_reply encode room head way) (head ++ encode_all encode (kept way))
unfolding shortened_reply
reply_sends encode room head (through rs) = sends_replied room (head ++ encode_all encode rs) no_state
reply_sends encode room head (broken rs) = sends_refused room RecordCut no_state (head ++ encode_all encode rs)
reply_sends encode room head (stopped rs more) = sends_replied room (head ++ encode_all encode rs) no_state

pub shortened_sends : {Q R : Type 0} (encode : R → List ℕ) (making : Making Q R) (head : List ℕ) (requests : Records Q) (room : ℕ)
    → Sends (shortened encode making head requests room) (head ++ encode_all encode (kept (shortened_from encode making room (length head) [] requests)))
unfolding shortened
shortened_sends encode making head requests room =
    sends_tested room (leb (length head) room) _ ReplyTooLong no_state _
    (reply_sends encode room head (shortened_from encode making room (length head) [] requests))

-- ---- a list of failures: all that were listed

pub concluded_sends : {S F : Type 0} (bytes : F → List ℕ) (room : ℕ) (head : List ℕ) (way : Way (Sofar S F))
    → Sends (concluded bytes room head way) (head ++ encode_failures bytes (reached way).failures)
unfolding concluded answered
concluded_sends bytes room head (through x) =
    let out : List ℕ = head ++ encode_failures bytes x.failures in
    sends_tested room (leb (length out) room) _ ReplyTooLong x.state out (sends_replied room out x.state)
concluded_sends bytes room head (broken x) = sends_refused room RecordCut x.state _
concluded_sends bytes room head (stopped x y) = sends_refused room ReplyTooLong y.state _

pub performed_sends : {S R F : Type 0} (doing : Doing S R F) (rs : Records R) (s : S) (room : ℕ) (head : List ℕ)
    → Sends (performed doing rs s room head)
    (head ++ encode_failures doing.bytes (reached (pass doing (fits doing.bytes room (length head)) rs s)).failures)
unfolding performed
performed_sends doing rs s room head = concluded_sends doing.bytes room head (pass doing (fits doing.bytes room (length head)) rs s)

pub headed_sends : {S : Type 0} (request : ZclHeader) (command : CommandIdentifier) (s : S) (room : ℕ) (rest : List ℕ → Outcome S) (out : List ℕ)
    → Sends (rest (reply_head request command)) out → Sends (headed request command s room rest) out
unfolding headed
headed_sends request command s room rest out k = sends_tested room (leb (length (reply_head request command)) room) _ ReplyTooLong s out k
