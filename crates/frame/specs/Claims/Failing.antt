-- Claims. What claims say of a list of failures without a walk: each record by its status. Over the record, its status and its failure.
use Rattle.std.specs.Prelude.{cond, List, [], ◌∷◌, eqb}
use Rattle.frame.specs.declared.status.Status.{Status}
use Rattle.frame.specs.Status.{status_code}

-- the failures of those records whose status is not 00, in the records' order
unfoldable pub failing_by : {R F : Type 0} → (R → Status) → (Status → R → F) → List R → List F
failing_by status fails [] = []
failing_by status fails (r ∷ rs) = cond (eqb (status_code (status r)) 0) (failing_by status fails rs) (fails (status r) r ∷ failing_by status fails rs)
