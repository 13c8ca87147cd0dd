-- Claims. ALL OR NOTHING (document 02, request 10), stated once, for scenes: what a served undivided write (03) says and leaves, by the records of its body.
--
-- Given a well-formed store of the cluster, a well-formed table, and room for a reply header and one byte. `records body` are the records that can be read, in
-- their order, and whether the body ended there (`done`) or with one that cannot be read (`cut`); `failing` are the failures of those that do not pass the check
-- of request 2 over the store as it came, in the records' order (write, specs/Claims/Undivided.antt). `replied room out ..` is the reply `out`, then zeros to the
-- end of the buffer; `refused room ..` is a number, length 0, and zeros (frame, specs/Answer.antt).
use Rattle.std.specs.Prelude.{◌≡◌, ℕ, ◌≤◌, Bool, true, cond, List, [], ◌∷◌, ◌++◌, length, drop}
use Rattle.types.specs.declared.ids.ClusterId.{ClusterId}
use Rattle.frame.specs.declared.header.ZclHeader.{ZclHeader}
use Rattle.frame.specs.declared.command_identifier.CommandIdentifier.TheVariants.{WriteAttributesUndivided, WriteAttributesResponse}
use Rattle.frame.specs.declared.answer.Refusal.TheVariants.{RecordCut, ReplyTooLong}
use Rattle.frame.specs.Header.{reply_head}
use Rattle.frame.specs.Answer.{Outcome, within, seen, replied, refused}
use Rattle.frame.specs.Walk.{done, cut}
use Rattle.frame.specs.Encoded.{encode_all, fits}
use Rattle.frame.specs.Failures.{answered}
use Rattle.store.specs.Contents.{cluster_of}
use Rattle.store.specs.Layout.{is_store}
use Rattle.reporting.specs.declared.entry.Entry.{Entry}
use Rattle.reporting.specs.declared.table.ReportingTable.{ReportingTable}
use Rattle.reporting.specs.Table.{capacity, table_of, holding}
use Rattle.reporting.specs.Lent.{quieted_t}
use Rattle.write.specs.Request.{records}
use Rattle.write.specs.Reply.{Failure, encode}
use Rattle.write.specs.Claims.Undivided.{failing}
use Rattle.write.specs.Claims.Last.{Left}
use Rattle.server.specs.declared.serve.Served.{Served}
use Rattle.server.specs.Serve.{State, state, serve}
use Rattle.server.specs.Claims.Asks.{Asks}

-- ---- the records of a body

abbrev pub Readable : List ℕ → Type 0
Readable body = (records body).ending ≡ done

abbrev pub Unreadable : List ℕ → Type 0
Unreadable body = (records body).ending ≡ cut

-- the failures over a store
abbrev pub failures_over : ℕ → List ℕ → ZclHeader → List ℕ → List Failure
failures_over form s h body = failing form h s (records body).list

-- ---- the promise, of number, length, reply buffer and store

pub record AllOrNothing (form : ℕ) (s : List ℕ) (h : ZclHeader) (body : List ℕ) (room : ℕ) (o : Outcome (List ℕ)) : Type 0 where
  -- "if some record of an undivided write cannot be read or fails the check of request 2, the store stays as it was"
  pub unread_leaves : Unreadable body → o.state ≡ s
  pub failed_leaves : (failures_over form s h body ≡ [] → ⊥) → o.state ≡ s
  -- "otherwise each named attribute holds the value of the last record naming it, all others unchanged" (write, specs/Claims/Last.antt), "and the reply is one 00"
  pub holds : Readable body → failures_over form s h body ≡ [] → Left form h (records body).list s o.state
  pub one_00 : Readable body → failures_over form s h body ≡ [] → o ≡ replied room (reply_head h WriteAttributesResponse ++ (0x00 ∷ [])) o.state
  -- "If all can be read and some fail, the reply lists those alone in order, or is refusal 5 where that does not fit"
  pub lists : Readable body → (failures_over form s h body ≡ [] → ⊥)
      → o ≡ answered room (reply_head h WriteAttributesResponse ++ encode_all encode (failures_over form s h body)) s
  -- where one cannot be read, it is 4, or 5 where the failures before it do not fit
  pub unread : Unreadable body → o ≡ refused room (cond (fits encode room 3 (failures_over form s h body)) RecordCut ReplyTooLong) s

-- ---- of every served undivided write; "The reporting table is unchanged"

abbrev pub store_of : Outcome State → Outcome (List ℕ)
store_of o = within (λ x. x.store) o

abbrev pub AllOrNothingServed : Type 0
AllOrNothingServed =
    (form limit : ℕ) (s : List ℕ) (l : List Entry) (cluster : ℕ) (unicast : Bool) (frame : List ℕ) (room : ℕ) (h : ZclHeader)
    → 8 ≤ form
    → is_store form s ≡ true
    → cluster ≡ cluster_of s
    → Asks WriteAttributesUndivided frame h
    → 4 ≤ room
    → AllOrNothing form s h (drop h.body frame) room (store_of (serve form limit s (holding l) cluster unicast frame room))
    × ((serve form limit s (holding l) cluster unicast frame room).state.table ≡ holding l)

-- the same of what `handle_request` answered, by its contract: s, r and x are the store, the answer and the reply buffer afterwards
abbrev pub AllOrNothingHandled : Type 0
AllOrNothingHandled =
    (store : List ℕ) (table : ReportingTable) (l : List Entry) (cluster : ClusterId) (unicast : Bool) (request reply : List ℕ) (h : ZclHeader) (r : Served) (x s : List ℕ)
    → is_store 8 store ≡ true
    → quieted_t (table_of table) ≡ holding l
    → cluster.0 ≡ cluster_of store
    → Asks WriteAttributesUndivided request h
    → 4 ≤ length reply
    → seen r.answer x (state s (table_of r.table)) ≡ serve 8 capacity store (quieted_t (table_of table)) cluster.0 unicast request (length reply)
    → AllOrNothing 8 store h (drop h.body request) (length reply) (seen r.answer x s) × (table_of r.table ≡ holding l)
