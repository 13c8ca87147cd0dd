-- Claims. Requests, direct calls and report turns under two limits (document 02, request 7; of calls alone: reporting, specs/Claims/Limits.antt): the same replies, stores, answers and tables.
use Rattle.std.specs.Prelude.{◌≡◌, List, [], ◌∷◌, ℕ, ◌≤◌, length, drop}
use Rattle.frame.specs.declared.header.ZclHeader.{ZclHeader}
use Rattle.frame.specs.declared.command_identifier.CommandIdentifier.TheVariants.{ConfigureReporting}
use Rattle.frame.specs.Answer.{Outcome}
use Rattle.store.specs.declared.lookup.Attribute.{Attribute}
use Rattle.reporting.specs.declared.entry.Entry.{Entry}
use Rattle.reporting.specs.Table.{capacity, holding}
use Rattle.reporting.specs.Claims.Limits.{Said, says}
use Rattle.report.specs.Claims.Turns.{frame_of, given_back}
use Rattle.configure.specs.Claims.Limits.{FrameWithin}
use Rattle.server.specs.Serve.{State, serve}
use Rattle.server.specs.Claims.Asks.{Asks}
use Rattle.server.specs.Claims.History.{Request, Use, request, direct, turn, used, uses}

-- ---- a request

abbrev pub served : ℕ → Request → List Entry → Outcome State
served limit r l = serve 8 limit r.store (holding l) r.cluster r.unicast r.frame r.room

-- under the larger limit no record of a Configure Reporting frame meets or leaves more entries than the smaller one has room for; no other request changes the table
abbrev pub RequestWithin : ℕ → ℕ → Request → List Entry → Type 0
RequestWithin small large r l = (h : ZclHeader) → Asks ConfigureReporting r.frame h → FrameWithin 8 small large r.store l h (drop h.body r.frame) r.room

abbrev pub ServeLimitsAgree : Type 0
ServeLimitsAgree = (small large : ℕ) (r : Request) (l : List Entry) → small ≤ large → RequestWithin small large r l → served small r l ≡ served large r l

-- ---- uses

-- what a use gives back: all that a request leaves, what a direct call says, or what is in a turn's frame and the id that it gives back
pub data Given : Type 0 where
  outcome : Outcome State → Given
  said : Said → Given
  sent : List Attribute → ℕ → Given

abbrev pub given : ℕ → Use → List Entry → Given
given limit (request r) l = outcome (served limit r l)
given limit (direct c) l = said (says limit c l)
given limit (turn u) l = sent (frame_of 8 u l) (given_back 8 u l)

abbrev pub all_given : ℕ → List Use → List Entry → List Given
all_given limit [] l = []
all_given limit (u ∷ us) l = given limit u l ∷ all_given limit us (used limit u l)

abbrev pub UseWithin : ℕ → ℕ → Use → List Entry → Type 0
UseWithin small large (request r) l = RequestWithin small large r l
UseWithin small large (direct c) l = Unit
UseWithin small large (turn u) l = Unit

-- under the larger limit there are never more entries than the smaller one has room for
abbrev pub UsesWithin : ℕ → ℕ → List Use → List Entry → Type 0
UsesWithin small large [] l = length l ≤ small
UsesWithin small large (u ∷ us) l = (length l ≤ small) × (UseWithin small large u l × UsesWithin small large us (used large u l))

abbrev pub UsesLimitsAgree : Type 0
UsesLimitsAgree =
    (small large : ℕ) (us : List Use) (l : List Entry)
    → small ≤ large
    → UsesWithin small large us l
    → (all_given small us l ≡ all_given large us l) × (uses small us l ≡ uses large us l)

-- from an empty table whose entries never pass sixteen at once, requests and direct calls give what they gave under document 01's limit
abbrev pub UsesSixteenAsBefore : Type 0
UsesSixteenAsBefore = (us : List Use) → UsesWithin 16 capacity us [] → (all_given 16 us [] ≡ all_given capacity us []) × (uses 16 us [] ≡ uses capacity us [])
