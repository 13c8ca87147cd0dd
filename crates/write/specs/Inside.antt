-- Inside. What inner functions say; nothing that a caller must believe.
use Rattle.std.specs.Prelude.{◌≡◌, ℕ, ◌+◌, ◌-◌, Bool, false, List, take, drop, eqb, Err, Ok, Result, None, Some, Option}
use denote.Ref.{Bor, MutBor}
use Rattle.types.specs.declared.ids.TypeId.{TypeId}
use Rattle.frame.specs.declared.header.ZclHeader.{ZclHeader}
use Rattle.frame.specs.declared.failures.Unfinished.{Unfinished}
use Rattle.frame.specs.declared.status.Status.{Status}
use Rattle.frame.specs.Status.{status_code}
use Rattle.frame.specs.Walk.{Item, item, unread}
use Rattle.frame.specs.Failures.{Doing}
use Rattle.frame.specs.Inside.Passes.{TookOne, TookNone}
use Rattle.store.specs.declared.lookup.Name.{Name}
use Rattle.store.specs.Contents.{name_of}
use Rattle.store.specs.Write.{Wrote, wrote, write_of}
use Rattle.write.specs.declared.record.Record.{Record}
use Rattle.write.specs.declared.pass.Step.{Step}
use Rattle.write.specs.Request.{WriteRecord, record_at}
use Rattle.write.specs.Reply.{Failure, failure}

-- the record that was read at a place, and its end
abbrev pub record_of : List ℕ → ℕ → Record → WriteRecord
record_of body at x = record { id = x.id.0; type = x.type_id.0; value = take (x.end - (at + 3)) (drop (at + 3) body) }

abbrev pub item_of : List ℕ → ℕ → Option Record → Item WriteRecord
item_of body at (Some x) = item (record_of body at x) x.end
item_of body at None = unread

-- what may be done with a value, by the store, the name, the type and the value
abbrev pub OnValue : Type 0
OnValue = List ℕ → ℕ → ℕ → List ℕ → Wrote

-- it is only checked
abbrev pub check_only : ℕ → OnValue
check_only form s name t v = wrote (write_of form s name t v).status s

-- a task does this, at every call that may be made of it
pub record Does (post : MutBor (List ℕ) → Name → TypeId → Bor (List ℕ) → Status → MutBor (List ℕ) → Type 0) (does : OnValue) : Type 0 where
  pub of_call : (s : MutBor (List ℕ)) (name : Name) (t : TypeId) (v : Bor (List ℕ)) (status : Status) (after : MutBor (List ℕ)) → post s name t v status after
      → wrote status after.now ≡ does s.now name.0 t.0 v.now

-- what is done with a record, by what is done with its value
abbrev pub by_name : OnValue → ZclHeader → List ℕ → WriteRecord → Wrote
by_name does request s r = does s (name_of request.manufacturer_code.0 r.id) r.type r.value

-- the record at a place was read and done, or none could be read
abbrev pub Took : Doing (List ℕ) WriteRecord Failure → List ℕ → List ℕ → ℕ → Option Step → List ℕ → Type 0
Took doing s body at (Some x) t = TookOne doing (record_at body) s at x.end x.status (failure (status_code x.status) x.id.0) t
Took doing s body at None t = TookNone (record_at body) s at t

-- a pass took every record and listed none
abbrev pub is_clean : Result ℕ Unfinished → ℕ → Bool
is_clean (Ok out) start = eqb out start
is_clean (Err why) start = false
