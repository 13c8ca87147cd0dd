-- Which trouble counts in a served request that is answered with its failures, 02 and 06 (specs/Claims/Troubles.antt). Assumes nothing.
use mathlib.Core.Path.{◌≡◌, refl, sym, ap, ◌∙◌}
use mathlib.Core.Bool.{Bool}
use mathlib.Core.List.{List, ◌++◌}
use Prim.Native.Nat.{ℕ, ◌≤◌}
use native.Mathlib.Omega.{arith}
use lib.ListN.{length, drop}
use Rattle.types.proofs.Numbers.{length_bytes}
use Rattle.frame.specs.declared.header.ZclHeader.{ZclHeader}
use Rattle.frame.specs.declared.command_identifier.CommandIdentifier.{CommandIdentifier}
use Rattle.frame.specs.declared.command_identifier.CommandIdentifier.TheVariants.{WriteAttributes, WriteAttributesResponse, ConfigureReporting, ConfigureReportingResponse}
use Rattle.frame.specs.declared.answer.Refusal.TheVariants.{RecordCut, ReplyTooLong}
use Rattle.frame.specs.Answer.{Outcome, within, refused}
use Rattle.frame.specs.Walk.{done, cut, Records, ended, joined}
use Rattle.frame.specs.Failures.{Doing}
use Rattle.frame.specs.Claims.Troubles.{executed, Is5, Not5, single, NoneFails, LongFailures}
use Rattle.frame.proofs.Codes.{refusal_nonzero}
use Rattle.frame.proofs.Troubles.{cut_is_four, five_stays, five_done, five_at_header, cut_is_four_at_header}
use Rattle.reporting.specs.declared.entry.Entry.{Entry}
use Rattle.reporting.specs.Table.{Table, holding, bad}
use Rattle.write.specs.Request.{records}
use Rattle.write.specs.Reply as Write
use Rattle.write.specs.Write.{writing, write_attributes}
use Rattle.write.proofs.Append.{records_append}
use Rattle.configure.specs.Request.{configures}
use Rattle.configure.specs.Configure as Configure
use Rattle.configure.specs.Configure.{configuring, configure_entries, configure_of}
use Rattle.configure.proofs.Append.{configures_append}
use Rattle.server.specs.Serve.{State, state, commanded, serve}
use Rattle.server.specs.Claims.Asks.{Asks}
use Rattle.server.specs.Claims.Troubles.{Unread, ServedCutIsFour, ServedFiveStays, ServedFiveDone, ServedFiveAtHeader, ServedCutIsFourAtHeader, WriteCutIsFour, WriteFiveStays, WriteFiveDone, WriteFiveAtHeader, WriteCutIsFourAtHeader, ConfigureCutIsFour, ConfigureFiveStays, ConfigureFiveDone, ConfigureFiveAtHeader, ConfigureCutIsFourAtHeader}
use Rattle.server.proofs.Heard.{Holding, Heard, refuses, hears, heard, asks_behind, alone, more_of}

-- ---- a command that lists its failures

-- what it answers to a body: it does something with each record of a state, which lies within store and table
pub record Lists (S : Type 0) {R : Type 0} (F : Type 0) (reading : List ℕ → Records R) (h : ZclHeader) (answer : List ℕ → ℕ → Outcome State) : Type 0 where
  pub doing : Doing S R F
  pub long : LongFailures doing
  pub reply : CommandIdentifier
  pub before : S
  pub puts : S → State
  pub is : (body : List ℕ) (room : ℕ) → answer body room ≡ within puts (executed doing h reply before (reading body) room)

-- so it is with every table that is one, and its reading goes on behind a body that can be read
pub record Listing (S : Type 0) {R : Type 0} (F : Type 0) (c : CommandIdentifier) (reading : List ℕ → Records R) : Type 0 where
  pub append : (a b : List ℕ) → (reading a).ending ≡ done → reading (a ++ b) ≡ joined (reading a) (reading b)
  pub lists : (form limit : ℕ) (s : List ℕ) (t : Table) (unicast : Bool) (h : ZclHeader) → Holding t → Lists S F reading h (λ body room. commanded form limit s t unicast h body room c)

-- ---- served

module _ {S R F : Type 0} {c : CommandIdentifier} {reading : List ℕ → Records R} (listing : Listing S F c reading) (form limit : ℕ) (s : List ℕ) (t : Table) (cluster : ℕ) (unicast : Bool)
    (frame : List ℕ) (h : ZclHeader) (asks : Asks c frame h) (readable : (reading (drop h.body frame)).ending ≡ done) where
  abbrev at : List ℕ → ℕ → Outcome State
  at f room = serve form limit s t cluster unicast f room

  abbrev own : Records R
  own = reading (drop h.body frame)

  -- a frame that reaches the command
  module _ (k : Holding t) (f : (frame : List ℕ) (room : ℕ) → Asks c frame h → at frame room ≡ commanded form limit s t unicast h (drop h.body frame) room c) where
    abbrev w : Lists S F reading h (λ body room. commanded form limit s t unicast h body room c)
    w = listing.lists form limit s t unicast h k

    abbrev over : Records R → ℕ → Outcome S
    over rs room = executed w.doing h w.reply w.before rs room

    by_itself : (room : ℕ) → at frame room ≡ within w.puts (over own room)
    by_itself = alone form limit s t cluster unicast frame h c asks w.puts (λ body. over (reading body)) w.is f

    with_more : (b : List ℕ) (rs : Records R) → reading b ≡ rs → (room : ℕ) → at (frame ++ b) room ≡ within w.puts (over (joined own rs) room)
    with_more b rs e room =
        more_of form limit s t cluster unicast frame h c asks w.puts (λ body. over (reading body)) w.is f b room
        ∙ ap (λ (x : Records R). within w.puts (over x room)) (listing.append (drop h.body frame) b readable ∙ ap (joined own) e)

    number-of : (room : ℕ) → (at frame room).number ≡ (over own room).number
    number-of room = ap (λ (o : Outcome State). o.number) (by_itself room)

    none_of : (room : ℕ) → NoneFails (at frame room) → NoneFails (over own room)
    none_of room none = (sym (number-of room) ∙ none.0, ap (λ (o : Outcome State). o.size) (sym (by_itself room)) ∙ none.1)

  abbrev Hears : Type 0
  Hears = Heard form limit s t cluster unicast h c

  served_cut : (b : List ℕ) (room : ℕ) → Unread reading b → (at frame room).number ≡ 0 → Hears → at (frame ++ b) room ≡ refused room RecordCut (at frame room).state
  served_cut b room u z (refuses why e f) = absurd (omega (arith, refusal_nonzero why, ap (λ (o : Outcome State). o.number) (f frame room asks), z))
  served_cut b room u z (hears k f) =
      with_more k f b (ended cut) u room
      ∙ ap (within (w k f).puts) (cut_is_four (w k f).doing h (w k f).reply (w k f).before own room readable (λ n. omega (arith, n, z, number-of k f room)))
      ∙ ap (λ (o : Outcome State). refused room RecordCut o.state) (sym (by_itself k f room))

  served_stays : (b : List ℕ) (room : ℕ) → 4 ≤ room → Is5 (at frame room) → Hears → at (frame ++ b) room ≡ at frame room
  served_stays b room l n (refuses why e f) = f (frame ++ b) room (asks_behind c frame b h asks) ∙ sym (f frame room asks)
  served_stays b room l n (hears k f) =
      with_more k f b (reading b) refl room
      ∙ ap (within (w k f).puts) (five_stays (w k f).doing h (w k f).reply (w k f).before own (reading b) room readable l (sym (number-of k f room) ∙ n))
      ∙ sym (by_itself k f room)

  served_done : (b : List ℕ) (r : R) (room more : ℕ) → reading b ≡ single r → Not5 (at frame room) → Not5 (at (frame ++ b) more) → Hears
      → (at (frame ++ b) room).state ≡ (at (frame ++ b) more).state
  served_done b r room more u n m (refuses why e f) =
      let a : Asks c (frame ++ b) h = asks_behind c frame b h asks in
      ap (λ (o : Outcome State). o.state) (f (frame ++ b) room a) ∙ ap (λ (o : Outcome State). o.state) (sym (f (frame ++ b) more a))
  served_done b r room more u n m (hears k f) =
      ap (λ (o : Outcome State). o.state) (with_more k f b (single r) u room)
      ∙ ap (w k f).puts
      (five_done (w k f).doing h (w k f).reply (w k f).before own r room more readable (λ q. n (number-of k f room ∙ q))
      (λ q. m (ap (λ (o : Outcome State). o.number) (with_more k f b (single r) u more) ∙ q)))
      ∙ ap (λ (o : Outcome State). o.state) (sym (with_more k f b (single r) u more))

  served_header : (more : ℕ) → NoneFails (at frame more) → Hears → at frame 3 ≡ refused 3 ReplyTooLong (at frame more).state
  served_header more none (refuses why e f) = absurd (omega (arith, refusal_nonzero why, ap (λ (o : Outcome State). o.number) (f frame more asks), none.0))
  served_header more none (hears k f) =
      by_itself k f 3
      ∙ ap (within (w k f).puts) (five_at_header (w k f).doing (w k f).long h (w k f).reply (w k f).before own more readable (none_of k f more none))
      ∙ ap (λ (o : Outcome State). refused 3 ReplyTooLong o.state) (sym (by_itself k f more))

  served_header_cut : (b : List ℕ) (more : ℕ) → Unread reading b → NoneFails (at frame more) → Hears → at (frame ++ b) 3 ≡ refused 3 RecordCut (at frame more).state
  served_header_cut b more u none (refuses why e f) = absurd (omega (arith, refusal_nonzero why, ap (λ (o : Outcome State). o.number) (f frame more asks), none.0))
  served_header_cut b more u none (hears k f) =
      with_more k f b (ended cut) u 3
      ∙ ap (within (w k f).puts) (cut_is_four_at_header (w k f).doing (w k f).long h (w k f).reply (w k f).before own more readable (none_of k f more none))
      ∙ ap (λ (o : Outcome State). refused 3 RecordCut o.state) (sym (by_itself k f more))

module _ {S R F : Type 0} {c : CommandIdentifier} {reading : List ℕ → Records R} (listing : Listing S F c reading) where
  served_cut_is_four : ServedCutIsFour c reading
  served_cut_is_four form limit s t cluster unicast frame h asks readable b room u z =
      served_cut listing form limit s t cluster unicast frame h asks readable b room u z (heard form limit s cluster unicast h c t)

  served_five_stays : ServedFiveStays c reading
  served_five_stays form limit s t cluster unicast frame h asks readable b room l n =
      served_stays listing form limit s t cluster unicast frame h asks readable b room l n (heard form limit s cluster unicast h c t)

  served_five_done : ServedFiveDone c reading
  served_five_done form limit s t cluster unicast frame h asks readable b r room more u n m =
      served_done listing form limit s t cluster unicast frame h asks readable b r room more u n m (heard form limit s cluster unicast h c t)

  served_five_at_header : ServedFiveAtHeader c reading
  served_five_at_header form limit s t cluster unicast frame h asks readable more none =
      served_header listing form limit s t cluster unicast frame h asks readable more none (heard form limit s cluster unicast h c t)

  served_cut_is_four_at_header : ServedCutIsFourAtHeader c reading
  served_cut_is_four_at_header form limit s t cluster unicast frame h asks readable b more u none =
      served_header_cut listing form limit s t cluster unicast frame h asks readable b more u none (heard form limit s cluster unicast h c t)

-- ---- Write Attributes: its state is the store

write_long : (f : Write.Failure) → 2 ≤ length (Write.encode f)
unfolding Write.encode
write_long f = omega (arith, length_bytes 2 f.id)

write_lists : (form limit : ℕ) (s : List ℕ) (t : Table) (unicast : Bool) (h : ZclHeader) → Holding t
    → Lists (List ℕ) Write.Failure records h (λ body room. commanded form limit s t unicast h body room WriteAttributes)
unfolding commanded write_attributes
write_lists form limit s t unicast h k =
    record { doing = writing form h; long = write_long; reply = WriteAttributesResponse; before = s; puts = λ u. state u t; is = λ body room. refl }

write_listing : Listing (List ℕ) Write.Failure WriteAttributes records
write_listing = record { append = records_append; lists = write_lists }

pub write_cut_is_four : WriteCutIsFour
write_cut_is_four = served_cut_is_four write_listing

pub write_five_stays : WriteFiveStays
write_five_stays = served_five_stays write_listing

pub write_five_done : WriteFiveDone
write_five_done = served_five_done write_listing

pub write_five_at_header : WriteFiveAtHeader
write_five_at_header = served_five_at_header write_listing

pub write_cut_is_four_at_header : WriteCutIsFourAtHeader
write_cut_is_four_at_header = served_cut_is_four_at_header write_listing

-- ---- Configure Reporting: its state is the entries of the table

configure_long : (f : Configure.Failure) → 2 ≤ length (Configure.encode f)
configure_long f = omega arith

configure_lists : (form limit : ℕ) (s : List ℕ) (t : Table) (unicast : Bool) (h : ZclHeader) → Holding t
    → Lists (List Entry) Configure.Failure configures h (λ body room. commanded form limit s t unicast h body room ConfigureReporting)
unfolding commanded configure_of configure_entries
configure_lists form limit s (holding l) unicast h k =
    record { doing = configuring form limit s h; long = configure_long; reply = ConfigureReportingResponse; before = l; puts = λ m. state s (holding m); is = λ body room. refl }
configure_lists form limit s (bad u) unicast h k = absurd k

configure_listing : Listing (List Entry) Configure.Failure ConfigureReporting configures
configure_listing = record { append = configures_append; lists = configure_lists }

pub configure_cut_is_four : ConfigureCutIsFour
configure_cut_is_four = served_cut_is_four configure_listing

pub configure_five_stays : ConfigureFiveStays
configure_five_stays = served_five_stays configure_listing

pub configure_five_done : ConfigureFiveDone
configure_five_done = served_five_done configure_listing

pub configure_five_at_header : ConfigureFiveAtHeader
configure_five_at_header = served_five_at_header configure_listing

pub configure_cut_is_four_at_header : ConfigureCutIsFourAtHeader
configure_cut_is_four_at_header = served_cut_is_four_at_header configure_listing
