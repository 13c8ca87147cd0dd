-- The shape of every command's outcome: a reply behind its head that fits the room, or one of the refusals 4, 5 and 6. Assumes nothing.
use mathlib.Core.Path.{◌≡◌, refl, ap, ◌∙◌}
use mathlib.Core.Bool.{Bool, true, false, cond, not, ◌&&◌}
use mathlib.Core.List.{List, [], ◌∷◌, ◌++◌}
use Prim.Native.Nat.{ℕ, ◌+◌, ◌-◌, ◌≤◌}
use native.Mathlib.Omega.{arith}
use lib.ListN.{length, length-append}
use lib.Dec.{leb}
use borrow.Author.Tests.{leb-true}
use Rattle.frame.specs.declared.header.ZclHeader.{ZclHeader}
use Rattle.frame.specs.declared.status.Status.{Status}
use Rattle.frame.specs.declared.status.Status.TheVariants.{UnsupCommand}
use Rattle.frame.specs.declared.command_identifier.CommandIdentifier.{CommandIdentifier}
use Rattle.frame.specs.declared.command_identifier.CommandIdentifier.TheVariants.{ReadAttributes, ReadAttributesResponse, WriteAttributes, WriteAttributesUndivided, WriteAttributesResponse, WriteAttributesNoResponse, ConfigureReporting, ConfigureReportingResponse, ReadReportingConfiguration, ReadReportingConfigurationResponse, ReportAttributes, DefaultResponse, DiscoverAttributes, DiscoverAttributesResponse, Other}
use Rattle.frame.specs.declared.answer.Refusal.{Refusal}
use Rattle.frame.specs.declared.answer.Refusal.TheVariants.{RecordCut, ReplyTooLong, NothingToSend}
use Rattle.frame.specs.Answer.{Outcome, within, no_state, replied, refused}
use Rattle.frame.specs.Header.{reply_head}
use Rattle.frame.specs.Status.{status_code}
use Rattle.frame.specs.Walk.{Records, Way, through, broken, stopped}
use Rattle.frame.specs.Encoded.{fits}
use Rattle.frame.specs.Shortened.{Making, shortened_from, shortened_reply, shortened}
use Rattle.frame.specs.Failures.{Doing, Sofar, pass, encode_failures, answered, concluded, performed, headed}
use Rattle.frame.proofs.Shortened.{shortened_within}
use Rattle.store.specs.declared.lookup.Attribute.{Attribute}
use Rattle.reporting.specs.declared.entry.Entry.{Entry}
use Rattle.reporting.specs.Table.{holding}
use Rattle.read.specs.Read.{read_of}
use Rattle.write.specs.Reply.{encode}
use Rattle.write.specs.Write.{write_attributes, write_undivided, write_silently}
use Rattle.discover.specs.Discover.{listed, complete_byte, discover_reply, discover_of}
use Rattle.discover.specs.Inside.{records_of}
use Rattle.discover.proofs.Choice.{listed_within}
use Rattle.configure.specs.Configure.{configure_entries, configure_of}
use Rattle.configure.specs.Configuration.{configuration_of}
use Rattle.server.specs.DefaultResponse.{silences, default_reply, default_response}
use Rattle.server.specs.Serve.{state, unsupported, commanded}
use Rattle.server.specs.Claims.Starts.{reply_to}
use Rattle.server.proofs.Cases.{Own}

-- what may have changed is left open: it is told of apart (Refusals, Stays)
pub data Shape {S : Type 0} (head : List ℕ) (room : ℕ) (o : Outcome S) : Type 0 where
  replies : (rest : List ℕ) → length (head ++ rest) ≤ room → o ≡ replied room (head ++ rest) o.state → Shape head room o
  refuses : (why : Refusal) → Own why → o ≡ refused room why o.state → Shape head room o

module _ {S : Type 0} (head : List ℕ) (room : ℕ) where
  shape_refused : (why : Refusal) (s : S) → Own why → Shape head room (refused room why s)
  shape_refused why s h = refuses why h refl

  shape_replied : (rest : List ℕ) (s : S) → length (head ++ rest) ≤ room → Shape head room (replied room (head ++ rest) s)
  shape_replied rest s h = replies rest h refl

  shape_either : (b : Bool) (x y : Outcome S) → Shape head room x → Shape head room y → Shape head room (cond b x y)
  shape_either true x y h k = h
  shape_either false x y h k = k

  -- what is sent only where it fits
  shape_sent : (rest : List ℕ) (s : S) (b : Bool) → leb (length (head ++ rest)) room ≡ b → Shape head room (cond b (replied room (head ++ rest) s) (refused room ReplyTooLong s))
  shape_sent rest s true e = shape_replied rest s (leb-true (length (head ++ rest)) room e)
  shape_sent rest s false e = shape_refused ReplyTooLong s refl

-- what is changed has no part in it
shape_within : {S T : Type 0} (head : List ℕ) (room : ℕ) (f : S → T) (o : Outcome S) → Shape head room o → Shape head room (within f o)
shape_within head room f o (replies rest h e) = replies rest h (ap (within f) e)
shape_within head room f o (refuses why h e) = refuses why h (ap (within f) e)

-- ---- the Default Response

pub default_shape : (h : ZclHeader) (unicast : Bool) (status : Status) (room : ℕ) → Shape (reply_head h DefaultResponse) room (default_response h unicast status room)
unfolding default_response default_reply
default_shape h unicast status room =
    let head : List ℕ = reply_head h DefaultResponse in
    shape_either head room (unicast && not (silences h.frame_control.0 status)) _ _
    (shape_sent head room (h.command_identifier.0 ∷ status_code status ∷ []) no_state (leb (length (default_reply h status)) room) refl) (shape_refused head room NothingToSend no_state refl)

-- ---- a list that stops where it is full, over any records

reply_shape : {R : Type 0} (bytes : R → List ℕ) (room : ℕ) (head : List ℕ) (y : Way (List R)) → (shortened_reply bytes room head y).size ≤ room → Shape head room (shortened_reply bytes room head y)
unfolding shortened_reply
reply_shape bytes room head (through rs) h = shape_replied head room _ no_state h
reply_shape bytes room head (broken rs) h = shape_refused head room RecordCut no_state refl
reply_shape bytes room head (stopped rs more) h = shape_replied head room _ no_state h

module _ {Q R : Type 0} (bytes : R → List ℕ) (making : Making Q R) (head : List ℕ) (requests : Records Q) (room : ℕ) where
  shortened_shape : Shape head room (shortened bytes making head requests room)
  unfolding shortened
  shortened_shape = go (leb (length head) room) (shortened_within bytes making head requests room)
    where
      reply : Outcome (Unit {0})
      reply = shortened_reply bytes room head (shortened_from bytes making room (length head) [] requests)

      go : (b : Bool) → (cond b reply (refused room ReplyTooLong no_state)).size ≤ room → Shape head room (cond b reply (refused room ReplyTooLong no_state))
      go true h = reply_shape bytes room head (shortened_from bytes making room (length head) [] requests) h
      go false h = shape_refused head room ReplyTooLong no_state refl

-- ---- a list of failures, over any state, record and failure

module _ {S : Type 0} (room : ℕ) where
  concluded_shape : {F : Type 0} (bytes : F → List ℕ) (head : List ℕ) (way : Way (Sofar S F)) → Shape head room (concluded bytes room head way)
  unfolding concluded answered
  concluded_shape bytes head (through x) =
      let rest : List ℕ = encode_failures bytes x.failures in shape_sent head room rest x.state (leb (length (head ++ rest)) room) refl
  concluded_shape bytes head (broken x) = shape_refused head room RecordCut x.state refl
  concluded_shape bytes head (stopped x y) = shape_refused head room ReplyTooLong y.state refl

  performed_shape : {R F : Type 0} (doing : Doing S R F) (rs : Records R) (s : S) (head : List ℕ) → Shape head room (performed doing rs s room head)
  unfolding performed
  performed_shape doing rs s head = concluded_shape doing.bytes head (pass doing (fits doing.bytes room (length head)) rs s)

  headed_shape : (h : ZclHeader) (command : CommandIdentifier) (s : S) (rest : List ℕ → Outcome S) → ((head : List ℕ) → Shape head room (rest head)) → Shape (reply_head h command) room (headed h command s room rest)
  unfolding headed
  headed_shape h command s rest k =
      shape_either (reply_head h command) room (leb (length (reply_head h command)) room) _ _ (k (reply_head h command)) (shape_refused (reply_head h command) room ReplyTooLong s refl)

-- ---- each command

module _ (form : ℕ) (s : List ℕ) (h : ZclHeader) (body : List ℕ) (room : ℕ) where
  read_shape : Shape (reply_head h ReadAttributesResponse) room (read_of form s h body room)
  unfolding read_of
  read_shape = shortened_shape _ _ _ _ room

  write_shape : Shape (reply_head h WriteAttributesResponse) room (write_attributes form s h body room)
  unfolding write_attributes
  write_shape = headed_shape room h _ s _ (performed_shape room _ _ s)

  undivided_shape : Shape (reply_head h WriteAttributesResponse) room (write_undivided form s h body room)
  unfolding write_undivided
  undivided_shape = headed_shape room h _ s _ (λ head. concluded_shape room encode head _)

  silent_shape : Shape (reply_head h DefaultResponse) room (write_silently form s h body room)
  unfolding write_silently
  silent_shape = shape_refused (reply_head h DefaultResponse) room NothingToSend _ refl

  discover_by : (head : List ℕ) (all : List Attribute) (maximum : ℕ) → Shape head room (discover_reply room head all maximum)
  unfolding discover_reply
  discover_by head all maximum = go (leb (length head + 1) room) refl
    where
      some : List Attribute
      some = listed 3 (room - (length head + 1)) maximum all

      rest : List ℕ
      rest = complete_byte all some ∷ records_of some

      go : (b : Bool) → leb (length head + 1) room ≡ b → Shape head room (cond b (replied room (head ++ rest) no_state) (refused room ReplyTooLong no_state))
      go true e =
          let n : length (head ++ rest) ≡ length head + (1 + length (records_of some)) = length-append head (complete_byte all some ∷ records_of some) ∙ omega arith in
          let w : length (records_of some) ≤ room - (length head + 1) = listed_within (room - (length head + 1)) maximum all in
          shape_replied head room rest no_state (omega (arith, leb-true (length head + 1) room e))
      go false e = shape_refused head room ReplyTooLong no_state refl

  discover_shape : Shape (reply_head h DiscoverAttributesResponse) room (discover_of form s h body room)
  unfolding discover_of
  discover_shape = shape_either (reply_head h DiscoverAttributesResponse) room (leb 3 (length body)) _ _ (discover_by _ _ _) (shape_refused (reply_head h DiscoverAttributesResponse) room RecordCut no_state refl)

  -- of a table that is one
  configure_shape : (limit : ℕ) (l : List Entry) → Shape (reply_head h ConfigureReportingResponse) room (configure_of form limit s (holding l) h body room)
  unfolding configure_of configure_entries
  configure_shape limit l = shape_within (reply_head h ConfigureReportingResponse) room holding _ (headed_shape room h _ l _ (performed_shape room _ _ l))

  configuration_shape : (l : List Entry) → Shape (reply_head h ReadReportingConfigurationResponse) room (configuration_of form s (holding l) h body room)
  unfolding configuration_of
  configuration_shape l = shortened_shape _ _ _ _ room

-- ---- any command

module _ (form limit : ℕ) (s : List ℕ) (l : List Entry) (unicast : Bool) (h : ZclHeader) (body : List ℕ) (room : ℕ) where
  pub unsupported_shape : Shape (reply_head h DefaultResponse) room (unsupported s (holding l) unicast h room)
  unsupported_shape = shape_within (reply_head h DefaultResponse) room (λ u. state s (holding l)) _ (default_shape h unicast UnsupCommand room)

  pub commanded_shape : (c : CommandIdentifier) → Shape (reply_head h (reply_to c)) room (commanded form limit s (holding l) unicast h body room c)
  unfolding commanded
  commanded_shape ReadAttributes = shape_within _ room (λ u. state s (holding l)) _ (read_shape form s h body room)
  commanded_shape WriteAttributes = shape_within _ room (λ x. state x (holding l)) _ (write_shape form s h body room)
  commanded_shape WriteAttributesUndivided = shape_within _ room (λ x. state x (holding l)) _ (undivided_shape form s h body room)
  commanded_shape WriteAttributesNoResponse = shape_within _ room (λ x. state x (holding l)) _ (silent_shape form s h body room)
  commanded_shape ConfigureReporting = shape_within _ room (state s) _ (configure_shape form s h body room limit l)
  commanded_shape ReadReportingConfiguration = shape_within _ room (λ u. state s (holding l)) _ (configuration_shape form s h body room l)
  commanded_shape DiscoverAttributes = shape_within _ room (λ u. state s (holding l)) _ (discover_shape form s h body room)
  commanded_shape ReadAttributesResponse = unsupported_shape
  commanded_shape WriteAttributesResponse = unsupported_shape
  commanded_shape ConfigureReportingResponse = unsupported_shape
  commanded_shape ReadReportingConfigurationResponse = unsupported_shape
  commanded_shape ReportAttributes = unsupported_shape
  commanded_shape DefaultResponse = shape_refused _ room NothingToSend _ refl
  commanded_shape DiscoverAttributesResponse = unsupported_shape
  commanded_shape (Other b) = unsupported_shape
