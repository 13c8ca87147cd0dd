-- Claims. WHAT A REPLY TELLS OF A CONFIGURATION. Demand 3 speaks of the event `configured` (specs/Claims/Demand3.antt); who sends a Configure Reporting
-- frame sees its reply. Here it is claimed that a record which the reply does not fail is that event.
use Rattle.std.specs.Prelude.{◌≡◌, ◌⊎◌, List, [], ◌∷◌, ◌++◌, ℕ, ◌≤◌, take, drop}
use Rattle.types.specs.Number.{bytes_of}
use Rattle.frame.specs.declared.header.ZclHeader.{ZclHeader}
use Rattle.frame.specs.declared.command_identifier.CommandIdentifier.TheVariants.{ConfigureReporting, ConfigureReportingResponse}
use Rattle.frame.specs.Header.{reply_head}
use Rattle.frame.specs.Answer.{Outcome}
use Rattle.reporting.specs.declared.entry.ReportingConfig.{ReportingConfig}
use Rattle.reporting.specs.declared.entry.Entry.{Entry}
use Rattle.reporting.specs.Table.{holding}
use Rattle.reporting.specs.Claims.Events.{Event, configured}
use Rattle.configure.specs.Request.{key_for, ConfigureRecord, reported, configures}
use Rattle.configure.specs.Claims.History.{done_events}
use Rattle.server.specs.Serve.{State, serve}
use Rattle.server.specs.Claims.Asks.{Asks}
use Rattle.server.specs.Claims.History.{Request, request_events}

-- ---- the frame

-- the records of a Configure Reporting frame, as they are read
abbrev pub records_of : List ℕ → ZclHeader → List ConfigureRecord
records_of frame h = (configures (drop h.body frame)).list

-- ---- the reply

abbrev pub answer_to : ℕ → Request → List Entry → Outcome State
answer_to limit r l = serve 8 limit r.store (holding l) r.cluster r.unicast r.frame r.room

-- number 0, and a Configure Reporting Response with these bytes behind its header
pub record Says (limit : ℕ) (r : Request) (l : List Entry) (h : ZclHeader) (body : List ℕ) : Type 0 where
  pub number : (answer_to limit r l).number ≡ 0
  pub reply : take (answer_to limit r l).size (answer_to limit r l).reply ≡ reply_head h ConfigureReportingResponse ++ body

-- among such bytes is a failure for what is reported (direction 0) of this id: status (1), direction (1), id (2); one 00 alone is no failure
abbrev pub Fails : ℕ → List ℕ → Type 0
Fails id [] = ⊥
Fails id (a ∷ []) = ⊥
Fails id (a ∷ b ∷ []) = ⊥
Fails id (a ∷ b ∷ c ∷ []) = ⊥
Fails id (status ∷ direction ∷ low ∷ high ∷ more) = ((direction ≡ 0) × (low ∷ high ∷ [] ≡ bytes_of 2 id)) ⊎ Fails id more

-- ---- the events

-- x is one of these, with those before it and those behind it
pub record Among {A : Type 0} (x : A) (all : List A) : Type 0 where
  pub earlier : List A
  pub rest : List A
  pub order : all ≡ earlier ++ (x ∷ rest)

-- what records are that all succeed: each that sets a configuration is `configured`, each that clears one `cleared` (configure, specs/Claims/History.antt)
abbrev pub succeeding : List ℕ → ZclHeader → List ConfigureRecord → List Event
succeeding s h [] = []
succeeding s h (r ∷ rs) = done_events s h r ++ succeeding s h rs

-- ---- two claims

-- Where the reply is one 00, the frame's events are its records, all of them, in their order.
abbrev pub SuccessIsEvents : Type 0
SuccessIsEvents =
    (limit : ℕ) (r : Request) (l : List Entry) (h : ZclHeader)
    → Asks ConfigureReporting r.frame h
    → Says limit r l h (0x00 ∷ [])
    → request_events limit r l ≡ succeeding r.store h (records_of r.frame h)

-- A record with a maximum from 1 to 65534 whose id the reply does not fail is the event `configured` of its key and configuration: as demand 3 supposes
-- it, with the frame's events before it and behind it.
abbrev pub AcceptedIsConfigured : Type 0
AcceptedIsConfigured =
    (limit : ℕ) (r : Request) (l : List Entry) (h : ZclHeader) (body : List ℕ) (id t : ℕ) (g : ReportingConfig)
    → Asks ConfigureReporting r.frame h
    → Says limit r l h body
    → Among (reported id t g) (records_of r.frame h)
    → (Fails id body → ⊥)
    → 1 ≤ g.max_interval
    → g.max_interval ≤ 65534
    → Among (configured (key_for r.store h id) g) (request_events limit r l)
