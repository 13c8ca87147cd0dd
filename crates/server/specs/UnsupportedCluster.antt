-- Definitions. What is said of a cluster that is not served (document 01, "The responder .."; ZCL 2.5.12.2).
use Rattle.std.specs.Prelude.{ℕ, Bool, true, false, cond, List, [], ◌∷◌, eqb, None, Option, Some}
use Rattle.frame.specs.declared.header.ZclHeader.{ZclHeader}
use Rattle.frame.specs.declared.command_identifier.CommandIdentifier.TheVariants.{DefaultResponse}
use Rattle.frame.specs.declared.status.Status.TheVariants.{UnsupportedCluster}
use Rattle.frame.specs.declared.answer.Refusal.TheVariants.{HeaderShort, NothingToSend}
use Rattle.frame.specs.Header.{is_command, header_of}
use Rattle.frame.specs.Answer.{Outcome, no_state, refused}
use Rattle.server.specs.DefaultResponse.{default_response}

-- the cluster is one of these
unfoldable pub is_served : ℕ → List ℕ → Bool
is_served cluster [] = false
is_served cluster (c ∷ cs) = cond (eqb c cluster) true (is_served cluster cs)

-- a global Default Response
abbrev pub is_default_response : ZclHeader → Bool
is_default_response h = is_command DefaultResponse h

-- 2 for a short header, then 6 for a global Default Response or no unicast, then 5; reserved types are answered
unfoldable pub respond : Bool → ℕ → Option ZclHeader → Outcome (Unit {0})
respond unicast room (Some h) =
    cond (is_default_response h) (refused room NothingToSend no_state) (default_response h unicast UnsupportedCluster room)
respond unicast room None = refused room HeaderShort no_state

-- THE RESPONDER: 6 for a served cluster
unfoldable pub unsupported_cluster : List ℕ → ℕ → Bool → List ℕ → ℕ → Outcome (Unit {0})
unsupported_cluster served cluster unicast frame room =
    cond (is_served cluster served) (refused room NothingToSend no_state) (respond unicast room (header_of frame))
