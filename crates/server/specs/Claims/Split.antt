-- Claims. SPLITTING A LIST (document 02, request 4): what a tool may rely on that cuts its list wherever its buffer ends, over served frames. Where the laws do not hold is shown in SplitExample.antt.
use Rattle.std.specs.Prelude.{◌≡◌, ◌⊎◌, ℕ, ◌≤◌, Bool, List, ◌++◌, drop}
use Rattle.frame.specs.declared.header.ZclHeader.{ZclHeader}
use Rattle.frame.specs.declared.command_identifier.CommandIdentifier.{CommandIdentifier}
use Rattle.frame.specs.declared.command_identifier.CommandIdentifier.TheVariants.{WriteAttributes, WriteAttributesUndivided, WriteAttributesNoResponse, ConfigureReporting}
use Rattle.frame.specs.Answer.{Outcome}
use Rattle.frame.specs.Walk.{done, Records, All}
use Rattle.write.specs.Request.{WriteRecord, records}
use Rattle.write.specs.Claims.Last.{naming}
use Rattle.configure.specs.Request.{configures}
use Rattle.server.specs.Serve.{State, serve}
use Rattle.server.specs.Claims.Asks.{Asks}

-- ---- calls

-- a frame with its header, its way of sending, and the room for its reply
pub record Call : Type 0 where
  pub frame : List ℕ
  pub header : ZclHeader
  pub unicast : Bool
  pub room : ℕ

abbrev pub body_of : Call → List ℕ
body_of c = drop c.header.body c.frame

abbrev pub IsCall : CommandIdentifier → Call → Type 0
IsCall asked c = Asks asked c.frame c.header

-- Write Attributes (02), or without response (05)
abbrev pub Writes : Call → Type 0
Writes c = IsCall WriteAttributes c ⊎ IsCall WriteAttributesNoResponse c

-- what is answered over store and table, and what that leaves
abbrev pub answer_to : ℕ → ℕ → ℕ → State → Call → Outcome State
answer_to form limit cluster x c = serve form limit x.store x.table cluster c.unicast c.frame c.room

abbrev pub after : ℕ → ℕ → ℕ → State → Call → State
after form limit cluster x c = (answer_to form limit cluster x c).state

-- "where no call gets refusal 5"
abbrev pub Fits : Outcome State → Type 0
Fits o = o.number ≡ 5 → ⊥

-- a list A, a list B, and the joined list: of their headers only the manufacturer code must be one
pub record Joined (a b whole : Call) : Type 0 where
  pub body : body_of whole ≡ body_of a ++ body_of b
  pub first_code : a.header.manufacturer_code ≡ whole.header.manufacturer_code
  pub second_code : b.header.manufacturer_code ≡ whole.header.manufacturer_code

-- "any A whose records can all be read", by this reading of a body
abbrev pub Readable : {R : Type 0} → (List ℕ → Records R) → Call → Type 0
Readable reading a = (reading (body_of a)).ending ≡ done

-- ---- A then B, or the joined list

-- "leaves the store that the joined list leaves": store and table after B are those after the joined list. For every form, limit, cluster, store and table
abbrev pub JoinsWhere : (ℕ → ℕ → ℕ → State → Call → Call → Call → Type 0) → Type 0
JoinsWhere Supposed =
    (form limit cluster : ℕ) (x : State) (a b whole : Call)
    → 8 ≤ form
    → Joined a b whole
    → Supposed form limit cluster x a b whole
    → after form limit cluster (after form limit cluster x a) b ≡ after form limit cluster x whole

-- as document 02 supposes it: no call gets 5, whatever the rooms
abbrev pub NoneRefused : ℕ → ℕ → ℕ → State → Call → Call → Call → Type 0
NoneRefused form limit cluster x a b whole =
    Fits (answer_to form limit cluster x a) × (Fits (answer_to form limit cluster (after form limit cluster x a) b) × Fits (answer_to form limit cluster x whole))

-- or with less: the joined call alone does not get 5, and the two have no less room than it
abbrev pub WholeFits : ℕ → ℕ → ℕ → State → Call → Call → Call → Type 0
WholeFits form limit cluster x a b whole = ((whole.room ≤ a.room) × (whole.room ≤ b.room)) × Fits (answer_to form limit cluster x whole)

-- "for commands 02 and 05", each of the three calls by either; a joined call by 05 never gets 5, and tells nothing of the rooms of 02
abbrev pub WritesJoin : Type 0
WritesJoin =
    JoinsWhere
    (λ form limit cluster x a b whole.
    (Writes a × (Writes b × Writes whole)) × (Readable records a × NoneRefused form limit cluster x a b whole))

abbrev pub WritesJoinRoomy : Type 0
WritesJoinRoomy =
    JoinsWhere
    (λ form limit cluster x a b whole.
    (Writes a × (Writes b × IsCall WriteAttributes whole)) × (Readable records a × WholeFits form limit cluster x a b whole))

-- "The same for configure lists and the table"
abbrev pub ConfiguresAll : Call → Call → Call → Type 0
ConfiguresAll a b whole = IsCall ConfigureReporting a × (IsCall ConfigureReporting b × IsCall ConfigureReporting whole)

abbrev pub ConfiguresJoin : Type 0
ConfiguresJoin =
    JoinsWhere (λ form limit cluster x a b whole. ConfiguresAll a b whole × (Readable configures a × NoneRefused form limit cluster x a b whole))

abbrev pub ConfiguresJoinRoomy : Type 0
ConfiguresJoinRoomy =
    JoinsWhere (λ form limit cluster x a b whole. ConfiguresAll a b whole × (Readable configures a × WholeFits form limit cluster x a b whole))

-- ---- either order

-- Undivided (03) too
abbrev pub WritesAny : Call → Type 0
WritesAny c = IsCall WriteAttributesUndivided c ⊎ Writes c

-- "naming no attribute in common": of a list that is cut, the records before the cut
abbrev pub NoneInCommon : Call → Call → Type 0
NoneInCommon a b =
    All (λ (r : WriteRecord). All (λ (q : WriteRecord). naming a.header r ≡ naming b.header q → ⊥) (records (body_of b)).list) (records (body_of a)).list

-- "give one store in either order", as two calls each way: cut lists and lists that get 5 included, in any rooms
abbrev pub EitherOrder : Type 0
EitherOrder =
    (form limit cluster : ℕ) (x : State) (a b : Call)
    → 8 ≤ form
    → WritesAny a
    → WritesAny b
    → NoneInCommon a b
    → after form limit cluster (after form limit cluster x a) b ≡ after form limit cluster (after form limit cluster x b) a
