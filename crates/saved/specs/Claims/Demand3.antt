-- Claims. DEMAND 3 FROM A TABLE JUST READ IN (document 02, request 5): "Demand 3 then also starts from a table just read in, its entries counting as configured; a read between,
-- refused or not, counts as clearing what stood before." What is supposed and promised of the events is said in crate `reporting` (specs/Demand3.antt); a read between is a call
-- `restore` there (specs/Claims/Events.antt).
use Rattle.std.specs.Prelude.{◌≡◌, true, cond, List, [], ℕ, ◌≤◌, Some}
use Rattle.reporting.specs.declared.entry.Key.{Key}
use Rattle.reporting.specs.declared.entry.ReportingConfig.{ReportingConfig}
use Rattle.reporting.specs.declared.entry.Entry.{Entry}
use Rattle.reporting.specs.Entries.{lookup_l, fresh}
use Rattle.reporting.specs.Claims.Events.{Event, Honest, Call, restore, call, history}
use Rattle.reporting.specs.Demand3.{Supposed, Promised, asks_of}
use Rattle.saved.specs.Saved.{saved_in, is_saved, form_in}

-- what a read takes from bytes: the entries of a saved form, and none of other bytes
abbrev pub taken : ℕ → List ℕ → List Entry
taken limit bs = cond (is_saved (form_in bs) limit bs) (saved_in (form_in bs) bs) []

-- A read is a call: what was taken stands afterwards, whatever stood before.
abbrev pub ReadIsCall : Type 0
ReadIsCall = (limit : ℕ) (bs : List ℕ) (l : List Entry) → call limit (restore (taken limit bs)) l ≡ taken limit bs

-- Key k has the configuration g in a saved form, with a maximum that is not 0. That m ≤ M and M ≤ 65534 is no supposition: a saved form has no other.
pub record Stands (limit : ℕ) (form : List ℕ) (k : Key) (g : ReportingConfig) : Type 0 where
  pub saved : is_saved (form_in form) limit form ≡ true
  pub entry : lookup_l k (saved_in (form_in form) form) ≡ Some (fresh k g)
  pub maximum : 1 ≤ g.max_interval

-- Of events: those that tell the truth from the table just read in.
abbrev pub Demand3Restored : Type 0
Demand3Restored =
    (limit : ℕ) (form : List ℕ) (k : Key) (g : ReportingConfig) (G : ℕ) (later : List Event)
    → Stands limit form k g
    → Honest limit later (saved_in (form_in form) form)
    → Supposed k G later
    → Promised g G (asks_of k later)

-- Of calls.
abbrev pub Demand3OfCallsRestored : Type 0
Demand3OfCallsRestored =
    (limit : ℕ) (form : List ℕ) (k : Key) (g : ReportingConfig) (G : ℕ) (after : List Call)
    → Stands limit form k g
    → Supposed k G (history limit after (saved_in (form_in form) form))
    → Promised g G (asks_of k (history limit after (saved_in (form_in form) form)))
