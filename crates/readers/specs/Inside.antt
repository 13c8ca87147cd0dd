-- Inside. What inner functions say; nothing that a caller must believe.
use Rattle.frame.specs.declared.answer.Refusal.{Refusal}
use Rattle.std.specs.Prelude.{slice_get, ℕ, List, length, Result}
use Rattle.readers.specs.declared.pass.Span.{Span}
use Rattle.readers.specs.declared.pass.Swept.{Swept}
use Rattle.readers.specs.Reading.{mapped}

-- ---- one pass over the records

-- how many they are, and where record k lies, if there are more than k
abbrev pub swept : ℕ → Result (List Span) Refusal → Result Swept Refusal
swept k x = mapped (λ l. record { count = length l; kth = slice_get l k }) x
