-- Which trouble counts in a served Write Attributes Undivided (specs/Claims/Troubles.antt). Assumes nothing.
use mathlib.Core.Path.{◌≡◌, refl, sym, ap, ◌∙◌}
use mathlib.Core.Bool.{Bool, true, false}
use mathlib.Core.List.{List, [], ◌∷◌, ◌++◌, append-nil}
use Prim.Native.Nat.{ℕ, ◌≤◌}
use native.Mathlib.Omega.{arith}
use lib.ListN.{length, drop, length-append}
use borrow.Author.Tests.{le-leb}
use Rattle.types.specs.Number.{zeros}
use Rattle.types.proofs.Numbers.{length_bytes}
use Rattle.frame.specs.declared.header.ZclHeader.{ZclHeader}
use Rattle.frame.specs.declared.command_identifier.CommandIdentifier.TheVariants.{WriteAttributesUndivided, WriteAttributesResponse}
use Rattle.frame.specs.declared.answer.Refusal.TheVariants.{RecordCut, ReplyTooLong}
use Rattle.frame.specs.Header.{reply_head}
use Rattle.frame.specs.Answer.{Outcome, refused}
use Rattle.frame.specs.Walk.{done, cut, Records, joined}
use Rattle.frame.specs.Encoded.{encode_all, fits}
use Rattle.frame.specs.Claims.Troubles.{Is5, NoneFails}
use Rattle.frame.proofs.Codes.{refusal_nonzero}
use Rattle.frame.proofs.Headers.{reply_head_length}
use Rattle.frame.proofs.Failing.{fits_closed, failing_append}
use Rattle.reporting.specs.Table.{Table}
use Rattle.write.specs.Request.{WriteRecord, records}
use Rattle.write.specs.Reply.{Failure, encode}
use Rattle.write.specs.Write.{written_all, write_undivided}
use Rattle.write.specs.Claims.Undivided.{failing}
use Rattle.write.proofs.Append.{records_append}
use Rattle.write.proofs.UndividedWays.{Decided, tight, full, broke, listed, wrote, narrow, undivided_ways}
use Rattle.server.specs.Serve.{State, state, storing, commanded, serve}
use Rattle.server.specs.Claims.Asks.{Asks}
use Rattle.server.specs.Claims.Troubles.{Unread, UndividedCutUntouched, UndividedCutIsFour, UndividedFiveStays, UndividedFiveAtHeader, UndividedCutIsFourAtHeader}
use Rattle.server.proofs.Heard.{Heard, refuses, hears, heard, asks_behind, alone, more_of}

pub never : {A : Type 0} → done ≡ cut → A
never e = let z : ◌≡◌ {A = ℕ} 0 1 = cc in absurd (omega arith)

pub some_none : {A : Type 0} (f : Failure) (l : List Failure) → [] ≡ f ∷ l → A
some_none f l e = let z : ◌≡◌ {A = ℕ} 0 1 = cc in absurd (omega arith)

number : {S : Type 0} {o p : Outcome S} → o ≡ p → o.number ≡ p.number
number {S} e = ap (λ (o : Outcome S). o.number) e

pub left : {S : Type 0} {o p : Outcome S} → o ≡ p → o.state ≡ p.state
left {S} e = ap (λ (o : Outcome S). o.state) e

-- a list with a failure in it takes more than one byte
long : (f : Failure) (l : List Failure) → 3 ≤ length (encode_all encode (f ∷ l))
unfolding encode_all encode
long f l = omega (arith, length-append (encode f) (encode_all encode l), length_bytes 2 f.id)

-- no failure fits every room that the header fits
pub none : {room : ℕ} → 3 ≤ room → fits encode room 3 [] ≡ true
unfolding fits encode_all
none {room} h = le-leb 3 room h

-- ---- the command: records that can all be read, and others behind them

module _ (form : ℕ) (s : List ℕ) (h : ZclHeader) (a : List ℕ) (readable : (records a).ending ≡ done) where
  abbrev head : List ℕ
  head = reply_head h WriteAttributesResponse

  abbrev answer : List ℕ → ℕ → Outcome (List ℕ)
  answer body room = write_undivided form s h body room

  abbrev fs : List ℕ → List Failure
  fs body = failing form h s (records body).list

  abbrev Decides : List ℕ → ℕ → Type 0
  Decides body room = Decided room head s (written_all form h body s) (records body).ending (fs body) (answer body room)

  decides : (body : List ℕ) (room : ℕ) → Decides body room
  decides body room = undivided_ways form s h body room

  module _ (b : List ℕ) where
    both : records (a ++ b) ≡ joined (records a) (records b)
    both = records_append a b readable

    fails_both : fs (a ++ b) ≡ fs a ++ fs b
    fails_both = ap (λ (rs : Records WriteRecord). failing form h s rs.list) both ∙ failing_append _ _ (records a).list (records b).list

  -- more failures fit no better
  full_behind : (room : ℕ) (b : List ℕ) → fits encode room 3 (fs a) ≡ false → fits encode room 3 (fs (a ++ b)) ≡ true → {A : Type 0} → A
  full_behind room b f g =
      let k : true ≡ false = sym (fits_closed encode room 3 (fs a) (fs b) (ap (fits encode room 3) (sym (fails_both b)) ∙ g)) ∙ f in
      let z : ◌≡◌ {A = ℕ} 0 1 = cc in
      absurd (omega arith)

  -- ---- 5, with a byte behind the header

  five_alone : (room : ℕ) → 4 ≤ room → Is5 (answer a room) → (answer a room ≡ refused room ReplyTooLong s) × (fits encode room 3 (fs a) ≡ false)
  five_alone room l n = go (decides a room)
    where
      go : Decides a room → (answer a room ≡ refused room ReplyTooLong s) × (fits encode room 3 (fs a) ≡ false)
      go (tight k o) = absurd (omega arith)
      go (full k f o) = (o, f)
      go (broke k f e o) = never (sym readable ∙ e)
      go (listed k f e x r z o) = absurd (omega (arith, n, number o))
      go (wrote k e z o) = absurd (omega (arith, n, number o))
      go (narrow k e z o) = absurd (omega arith)

  five_behind : (room : ℕ) → 4 ≤ room → (b : List ℕ) → fits encode room 3 (fs a) ≡ false → answer (a ++ b) room ≡ refused room ReplyTooLong s
  five_behind room l b f = go (decides (a ++ b) room)
    where
      go : Decides (a ++ b) room → answer (a ++ b) room ≡ refused room ReplyTooLong s
      go (tight k o) = o
      go (full k g o) = o
      go (broke k g e o) = full_behind room b f g
      go (listed k g e x r z o) = full_behind room b f g
      go (wrote k e z o) = full_behind room b f (ap (fits encode room 3) z ∙ none (omega arith))
      go (narrow k e z o) = absurd (omega arith)

  -- ---- a record behind them that cannot be read

  module _ (b : List ℕ) (unread : Unread records b) where
    ends_cut : (records (a ++ b)).ending ≡ cut
    ends_cut = ap (λ (rs : Records WriteRecord). rs.ending) (both b ∙ ap (joined (records a)) unread)

    fails_same : fs (a ++ b) ≡ fs a
    fails_same = ap (λ (rs : Records WriteRecord). failing form h s rs.list) (both b ∙ ap (joined (records a)) unread) ∙ ap (failing form h s) (append-nil (records a).list)

    untouched : (room : ℕ) → (answer (a ++ b) room).state ≡ s
    untouched room = go (decides (a ++ b) room)
      where
        go : Decides (a ++ b) room → (answer (a ++ b) room).state ≡ s
        go (tight k o) = left o
        go (full k f o) = left o
        go (broke k f e o) = left o
        go (listed k f e x r z o) = never (sym e ∙ ends_cut)
        go (wrote k e z o) = never (sym e ∙ ends_cut)
        go (narrow k e z o) = never (sym e ∙ ends_cut)

    -- their failures fit: 4
    four : (room : ℕ) → 3 ≤ room → fits encode room 3 (fs a) ≡ true → answer (a ++ b) room ≡ refused room RecordCut s
    four room l f = go (decides (a ++ b) room)
      where
        go : Decides (a ++ b) room → answer (a ++ b) room ≡ refused room RecordCut s
        go (tight k o) = absurd (omega arith)
        go (full k g o) =
            let y : true ≡ false = sym f ∙ ap (fits encode room 3) (sym fails_same) ∙ g in
            let z : ◌≡◌ {A = ℕ} 0 1 = cc in
            absurd (omega arith)
        go (broke k g e o) = o
        go (listed k g e x r z o) = never (sym e ∙ ends_cut)
        go (wrote k e z o) = never (sym e ∙ ends_cut)
        go (narrow k e z o) = never (sym e ∙ ends_cut)

    four_of_reply : (room : ℕ) → (answer a room).number ≡ 0 → answer (a ++ b) room ≡ refused room RecordCut s
    four_of_reply room n = go (decides a room)
      where
        go : Decides a room → answer (a ++ b) room ≡ refused room RecordCut s
        go (tight k o) = absurd (omega (arith, n, number o))
        go (full k f o) = absurd (omega (arith, n, number o))
        go (broke k f e o) = absurd (omega (arith, n, number o))
        go (listed k f e x r z o) = four room k f
        go (wrote k e z o) = four room (omega arith) (ap (fits encode room 3) z ∙ none (omega arith))
        go (narrow k e z o) = absurd (omega (arith, n, number o))

  -- ---- room for the header alone, and no failure

  clean : (more : ℕ) → NoneFails (answer a more) → (fs a ≡ []) × ((answer a more).state ≡ written_all form h a s)
  clean more n = go (decides a more)
    where
      go : Decides a more → (fs a ≡ []) × ((answer a more).state ≡ written_all form h a s)
      go (tight k o) = absurd (omega (arith, n.0, number o))
      go (full k f o) = absurd (omega (arith, n.0, number o))
      go (broke k f e o) = absurd (omega (arith, n.0, number o))
      go (listed k f e x r z o) =
          absurd (omega (arith, n.1, ap (λ (p : Outcome (List ℕ)). p.size) o, length-append head (encode_all encode (x ∷ r)), reply_head_length h WriteAttributesResponse, long x r))
      go (wrote k e z o) = (z, left o)
      go (narrow k e z o) = absurd (omega (arith, n.0, number o))

  header_five : (more : ℕ) → NoneFails (answer a more) → answer a 3 ≡ refused 3 ReplyTooLong (answer a more).state
  header_five more n = go (clean more n) (decides a 3)
    where
      go : (fs a ≡ []) × ((answer a more).state ≡ written_all form h a s) → Decides a 3 → answer a 3 ≡ refused 3 ReplyTooLong (answer a more).state
      go c (tight k o) = absurd (omega arith)
      go c (full k f o) =
          let y : true ≡ false = sym (ap (fits encode 3 3) c.0 ∙ none (omega arith)) ∙ f in
          let z : ◌≡◌ {A = ℕ} 0 1 = cc in
          absurd (omega arith)
      go c (broke k f e o) = never (sym readable ∙ e)
      go c (listed k f e x r z o) = some_none x r (sym c.0 ∙ z)
      go c (wrote k e z o) = absurd (omega arith)
      go c (narrow k e z o) = o ∙ ap (refused 3 ReplyTooLong) (sym c.1)

  header_four : (more : ℕ) → NoneFails (answer a more) → (b : List ℕ) → Unread records b → answer (a ++ b) 3 ≡ refused 3 RecordCut s
  header_four more n b u = four b u 3 (omega arith) (ap (fits encode 3 3) (clean more n).0 ∙ none (omega arith))

-- ---- served

module _ (form limit : ℕ) (s : List ℕ) (t : Table) (cluster : ℕ) (unicast : Bool) (frame : List ℕ) (h : ZclHeader) (asks : Asks WriteAttributesUndivided frame h)
    (readable : (records (drop h.body frame)).ending ≡ done) where
  abbrev answers : List ℕ → ℕ → Outcome State
  answers f room = serve form limit s t cluster unicast f room

  abbrev own : List ℕ
  own = drop h.body frame

  is_undivided : (body : List ℕ) (room : ℕ) → commanded form limit s t unicast h body room WriteAttributesUndivided ≡ storing t (write_undivided form s h body room)
  unfolding commanded
  is_undivided body room = refl

  abbrev Reached : Type 0
  Reached = (frame : List ℕ) (room : ℕ) → Asks WriteAttributesUndivided frame h → serve form limit s t cluster unicast frame room ≡ commanded form limit s t unicast h (drop h.body frame) room WriteAttributesUndivided

  module _ (f : Reached) (room : ℕ) where
    undivided_alone : answers frame room ≡ storing t (write_undivided form s h own room)
    undivided_alone = alone form limit s t cluster unicast frame h WriteAttributesUndivided asks (λ u. state u t) (write_undivided form s h) is_undivided f room

    undivided_more : (b : List ℕ) → answers (frame ++ b) room ≡ storing t (write_undivided form s h (own ++ b) room)
    undivided_more b = more_of form limit s t cluster unicast frame h WriteAttributesUndivided asks (λ u. state u t) (write_undivided form s h) is_undivided f b room

  abbrev HearsUndivided : Type 0
  HearsUndivided = Heard form limit s t cluster unicast h WriteAttributesUndivided

  behind : (b : List ℕ) → Asks WriteAttributesUndivided (frame ++ b) h
  behind b = asks_behind WriteAttributesUndivided frame b h asks

  served_untouched : HearsUndivided → (b : List ℕ) (room : ℕ) → Unread records b → (answers (frame ++ b) room).state ≡ state s t
  served_untouched (refuses why e f) b room u = left (f (frame ++ b) room (behind b))
  served_untouched (hears k f) b room u = left (undivided_more f room b) ∙ ap (λ (l : List ℕ). state l t) (untouched form s h own readable b u room)

  served_cut : HearsUndivided → (b : List ℕ) (room : ℕ) → Unread records b → (answers frame room).number ≡ 0 → answers (frame ++ b) room ≡ refused room RecordCut (state s t)
  served_cut (refuses why e f) b room u z = absurd (omega (arith, refusal_nonzero why, number (f frame room asks), z))
  served_cut (hears k f) b room u z =
      undivided_more f room b ∙ ap (storing t) (four_of_reply form s h own readable b u room (number (sym (undivided_alone f room)) ∙ z))

  served_five : HearsUndivided → (b : List ℕ) (room : ℕ) → 4 ≤ room → Is5 (answers frame room)
      → (answers frame room ≡ refused room ReplyTooLong (state s t)) × (answers (frame ++ b) room ≡ refused room ReplyTooLong (state s t))
  served_five (refuses why e f) b room l n =
      -- a refusal by that number is that refusal
      let five : ◌≡◌ {A = ℕ} _ 5 = number (sym (f frame room asks)) ∙ n in
      let is : ◌≡◌ {A = Outcome State} (refused room why (state s t)) (refused room ReplyTooLong (state s t)) = λ i. record { number = five i; size = 0; reply = zeros room; state = state s t } in
      (f frame room asks ∙ is, f (frame ++ b) room (behind b) ∙ is)
  served_five (hears k f) b room l n =
      let x = five_alone form s h own readable room l (number (sym (undivided_alone f room)) ∙ n) in
      (undivided_alone f room ∙ ap (storing t) x.0, undivided_more f room b ∙ ap (storing t) (five_behind form s h own readable room l b x.1))

  abbrev Clean : ℕ → Type 0
  Clean more = NoneFails (answers frame more)

  own_clean : (f : Reached) (more : ℕ) → Clean more → NoneFails (write_undivided form s h own more)
  own_clean f more n = (number (sym (undivided_alone f more)) ∙ n.0, ap (λ (o : Outcome State). o.size) (sym (undivided_alone f more)) ∙ n.1)

  served_header : HearsUndivided → (more : ℕ) → Clean more → answers frame 3 ≡ refused 3 ReplyTooLong (answers frame more).state
  served_header (refuses why e f) more n = absurd (omega (arith, refusal_nonzero why, number (f frame more asks), n.0))
  served_header (hears k f) more n =
      undivided_alone f 3
      ∙ ap (storing t) (header_five form s h own readable more (own_clean f more n))
      ∙ ap (refused 3 ReplyTooLong) (left (sym (undivided_alone f more)))

  served_header_cut : HearsUndivided → (b : List ℕ) (more : ℕ) → Unread records b → Clean more → answers (frame ++ b) 3 ≡ refused 3 RecordCut (state s t)
  served_header_cut (refuses why e f) b more u n = absurd (omega (arith, refusal_nonzero why, number (f frame more asks), n.0))
  served_header_cut (hears k f) b more u n = undivided_more f 3 b ∙ ap (storing t) (header_four form s h own readable more (own_clean f more n) b u)

  hearing : HearsUndivided
  hearing = heard form limit s cluster unicast h WriteAttributesUndivided t

pub undivided_cut_untouched : UndividedCutUntouched
undivided_cut_untouched form limit s t cluster unicast frame h asks readable b room u =
    served_untouched form limit s t cluster unicast frame h asks readable (hearing form limit s t cluster unicast frame h asks readable) b room u

pub undivided_cut_is_four : UndividedCutIsFour
undivided_cut_is_four form limit s t cluster unicast frame h asks readable b room u z =
    served_cut form limit s t cluster unicast frame h asks readable (hearing form limit s t cluster unicast frame h asks readable) b room u z

pub undivided_five_stays : UndividedFiveStays
undivided_five_stays form limit s t cluster unicast frame h asks readable b room l n =
    served_five form limit s t cluster unicast frame h asks readable (hearing form limit s t cluster unicast frame h asks readable) b room l n

pub undivided_five_at_header : UndividedFiveAtHeader
undivided_five_at_header form limit s t cluster unicast frame h asks readable more n =
    served_header form limit s t cluster unicast frame h asks readable (hearing form limit s t cluster unicast frame h asks readable) more n

pub undivided_cut_is_four_at_header : UndividedCutIsFourAtHeader
undivided_cut_is_four_at_header form limit s t cluster unicast frame h asks readable b more u n =
    served_header_cut form limit s t cluster unicast frame h asks readable (hearing form limit s t cluster unicast frame h asks readable) b more u n
