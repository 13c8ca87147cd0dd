-- Claims. What happens to a reporting table, told as a list of events; the table that events leave; and which lists of events tell the truth. `limit`
-- is how many entries the table may have.
use Rattle.std.specs.Prelude.{◌≡◌, Bool, true, cond, ◌&&◌, List, [], ◌∷◌, ◌++◌, map, ℕ, length, leb, eqb, ℤ}
use Rattle.frame.specs.declared.status.Status.{Status}
use Rattle.frame.specs.Status.{status_code}
use Rattle.reporting.specs.declared.entry.Key.{Key}
use Rattle.reporting.specs.declared.entry.ReportingConfig.{ReportingConfig}
use Rattle.reporting.specs.declared.entry.Entry.{Entry}
use Rattle.reporting.specs.Entries.{distinct, unreported, accepts_l, configure_l, clear_l, mark_l}
use Rattle.reporting.specs.Due.{due_l}
use Rattle.reporting.specs.declared.entry.Wish.{Wish}
use Rattle.reporting.specs.declared.entry.Wish.TheVariants.{ToClear, ToRefuse, ToSet}
use Rattle.reporting.specs.Wish.{wish, record_status, record_entries}

-- ---- events

pub data Event : Type 0 where
  -- a configuration of the key was accepted
  configured : Key → ReportingConfig → Event
  -- the key was cleared
  cleared : Key → Event
  -- the key was asked, at a time and with a value, and this was the answer: true is yes
  asked : Key → ℕ → ℤ → Bool → Event
  -- a report of the key was marked, with a time and a value
  marked : Key → ℕ → ℤ → Event

-- the key that an event is of
abbrev pub key_of : Event → Key
key_of (configured k g) = k
key_of (cleared k) = k
key_of (asked k now v a) = k
key_of (marked k now v) = k

-- the entries after an event; an ask changes nothing
abbrev pub after : ℕ → Event → List Entry → List Entry
after limit (configured k g) l = configure_l limit k g l
after limit (cleared k) l = clear_l k l
after limit (asked k now v a) l = l
after limit (marked k now v) l = mark_l k now v l

-- the entries after events, the first of them first
abbrev pub run : ℕ → List Event → List Entry → List Entry
run limit [] l = l
run limit (e ∷ es) l = run limit es (after limit e l)

-- what an event says of the entries that it meets: that they accept the configuration; that the answer is this one
abbrev pub Tells : ℕ → Event → List Entry → Type 0
Tells limit (configured k g) l = accepts_l limit k l ≡ true
Tells limit (cleared k) l = Unit
Tells limit (asked k now v a) l = a ≡ due_l k now v l
Tells limit (marked k now v) l = Unit

-- the events are honest from these entries on: what each says is true of the entries that the events before it leave
abbrev pub Honest : ℕ → List Event → List Entry → Type 0
Honest limit [] l = Unit
Honest limit (e ∷ es) l = Tells limit e l × Honest limit es (after limit e l)

-- from l the events are honest, and lead to m
pub record Leads (limit : ℕ) (es : List Event) (l m : List Entry) : Type 0 where
  pub honest : Honest limit es l
  pub table : run limit es l ≡ m

-- ---- calls

-- what may be done with a table: a configuration record that passed the checks before the intervals, or a direct call. `restore`: these entries are read in
-- from a saved form (crate `saved`), in the place of all that stood; a read that is refused has none.
pub data Call : Type 0 where
  config_record : Key → ReportingConfig → Call
  configure : Key → ReportingConfig → Call
  clear : Key → Call
  ask : Key → ℕ → ℤ → Call
  mark : Key → ℕ → ℤ → Call
  configuration : Key → Call
  len : Call
  restore : List Entry → Call

-- the entries that stand after a read, none of them reported; a table has neither a key twice nor more than its limit
abbrev pub read_in : ℕ → List Entry → List Entry
read_in limit come = cond (distinct come && leb (length come) limit) (map unreported come) []

-- the entries after a call
abbrev pub call : ℕ → Call → List Entry → List Entry
call limit (config_record k g) l = record_entries limit k g l
call limit (configure k g) l = configure_l limit k g l
call limit (clear k) l = clear_l k l
call limit (ask k now v) l = l
call limit (mark k now v) l = mark_l k now v l
call limit (configuration k) l = l
call limit len l = l
call limit (restore come) l = read_in limit come

-- what a configuration record is that succeeds: the one event that it asks for
abbrev pub events_w : Wish → Key → ReportingConfig → List Event
events_w ToClear k g = cleared k ∷ []
events_w ToRefuse k g = []
events_w ToSet k g = configured k g ∷ []

-- with a status other than 00 a record is no event
abbrev pub if_success : Status → List Event → List Event
if_success status es = cond (eqb (status_code status) 0) es []

-- "a read .. counts as clearing what stood before", the last entry first
abbrev pub clearings : List Entry → List Event
clearings [] = []
clearings (e ∷ es) = clearings es ++ (cleared e.key ∷ [])

-- "its entries counting as configured", in their order
abbrev pub settings : List Entry → List Event
settings [] = []
settings (e ∷ es) = configured e.key e.config ∷ settings es

-- the events that a call is, from the entries that it meets; a configuration that is refused is none
abbrev pub events : ℕ → Call → List Entry → List Event
events limit (config_record k g) l = if_success (record_status limit k g l) (events_w (wish g) k g)
events limit (configure k g) l = cond (accepts_l limit k l) (configured k g ∷ []) []
events limit (clear k) l = cleared k ∷ []
events limit (ask k now v) l = asked k now v (due_l k now v l) ∷ []
events limit (mark k now v) l = marked k now v ∷ []
events limit (configuration k) l = []
events limit len l = []
events limit (restore come) l = clearings l ++ settings (read_in limit come)

-- the entries after calls, and all their events
abbrev pub calls : ℕ → List Call → List Entry → List Entry
calls limit [] l = l
calls limit (c ∷ cs) l = calls limit cs (call limit c l)

abbrev pub history : ℕ → List Call → List Entry → List Event
history limit [] l = []
history limit (c ∷ cs) l = events limit c l ++ history limit cs (call limit c l)

-- A call is its events: they are honest, and the entries after the call are what they leave. Whatever else comes to change a
-- table owes the same law.
abbrev pub CallsAreEvents : Type 0
CallsAreEvents = (limit : ℕ) (c : Call) (l : List Entry) → Leads limit (events limit c l) l (call limit c l)

-- And so the events of calls, one after the other.
abbrev pub HistoriesAreEvents : Type 0
HistoriesAreEvents = (limit : ℕ) (cs : List Call) (l : List Entry) → Leads limit (history limit cs l) l (calls limit cs l)
