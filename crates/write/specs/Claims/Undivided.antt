-- Claims. The one check of document 02, request 2, and the two passes of an undivided write (03).
use Rattle.std.specs.Prelude.{◌≡◌, ℕ, ◌≤◌, true, List, []}
use Rattle.frame.specs.declared.header.ZclHeader.{ZclHeader}
use Rattle.frame.specs.declared.status.Status.{Status}
use Rattle.frame.specs.Status.{status_code}
use Rattle.frame.specs.Walk.{reached}
use Rattle.frame.specs.Failures.{Doing, pass, always}
use Rattle.frame.specs.Claims.Failing.{failing_by}
use Rattle.store.specs.Layout.{is_store}
use Rattle.write.specs.Request.{WriteRecord, records}
use Rattle.write.specs.Reply.{Failure, failure}
use Rattle.write.specs.Write.{written, writing, checking}

-- what the check says of a record over a store
abbrev pub status_over : ℕ → ZclHeader → List ℕ → WriteRecord → Status
status_over form request s r = (written form request s r).status

-- THE FAILURES of records, each by its check over one store, in their order
abbrev pub failing : ℕ → ZclHeader → List ℕ → List WriteRecord → List Failure
failing form request s rs = failing_by (status_over form request s) (λ why r. failure (status_code why) r.id) rs

-- the failures of a pass over a body that nothing stops
abbrev pub failures_of : Doing (List ℕ) WriteRecord Failure → List ℕ → List ℕ → List Failure
failures_of doing body s = (reached (pass doing always (records body) s)).failures

-- a pass that only checks has these, over any bytes
abbrev pub ChecksFail : Type 0
ChecksFail = (form : ℕ) (request : ZclHeader) (s body : List ℕ) → failures_of (checking form request) body s ≡ failing form request s (records body).list

-- and so has a pass that writes, over a store: no write changes what the check says of a later record
abbrev pub WritesFail : Type 0
WritesFail =
    (form : ℕ) (request : ZclHeader) (s body : List ℕ)
    → 8 ≤ form
    → is_store form s ≡ true
    → failures_of (writing form request) body s ≡ failing form request s (records body).list

-- NO FAILURE ARISES IN THE WRITE STEPS of an undivided write whose first pass has none
abbrev pub NoneArises : Type 0
NoneArises =
    (form : ℕ) (request : ZclHeader) (s body : List ℕ)
    → 8 ≤ form
    → is_store form s ≡ true
    → failures_of (checking form request) body s ≡ []
    → failures_of (writing form request) body s ≡ []
