-- A cluster among those that are served, and the ways of the responder. Assumes nothing.
use Rattle.std.specs.Prelude.{None, Some}
use mathlib.Core.Path.{◌≡◌, refl, sym, ap, ◌∙◌}
use mathlib.Core.Bool.{Bool, true, false, cond, ◌&&◌, ◌||◌}
use mathlib.Core.List.{List, [], ◌∷◌}
use Prim.Native.Nat.{ℕ}
use lib.Dec.{eqb}
use Rattle.std.specs.List.{list_any}
use Rattle.std.proofs.lemmas.List.Recursion.{same_from_clauses}
use types.Run.{OneOf, miss}
use denote.Enum.Declared.{tag_of}
use Rattle.frame.specs.contracts.header.FrameType as frame-type
use Rattle.frame.specs.Answer.{no_state, refused}
use Rattle.frame.specs.Header.{is_global, header_of}
use Rattle.frame.specs.declared.header.ZclHeader.{ZclHeader}
use Rattle.frame.specs.declared.header.FrameType.{FrameType}
use Rattle.frame.specs.declared.header.FrameType.TheVariants.{GlobalCommand, ClusterCommand, Reserved}
use Rattle.frame.specs.declared.status.Status.TheVariants.{UnsupportedCluster}
use Rattle.frame.specs.declared.answer.Refusal.TheVariants.{HeaderShort, NothingToSend}
use Rattle.server.specs.DefaultResponse.{default_response}
use Rattle.server.specs.UnsupportedCluster.{is_served, is_default_response, respond, unsupported_cluster}

-- ---- the list: the definition is std's test

by_test : (here rest : Bool) → cond here true rest ≡ (here || rest)
by_test true rest = refl
by_test false rest = refl

pub served_any : (wanted : ℕ) (l : List ℕ) → list_any (λ c. eqb c wanted) l ≡ is_served wanted l
unfolding is_served
served_any wanted = same_from_clauses _ (is_served wanted) (λ c rest. eqb c wanted || rest) refl (λ _ _. refl) (λ c rest. by_test (eqb c wanted) (is_served wanted rest))

-- ---- the responder

-- the other types are not global
pub not_global : (t : FrameType) → OneOf (1 ∷ 2 ∷ []) (tag_of frame-type.the_type t) → (b : Bool) → false ≡ (is_global t && b)
not_global GlobalCommand o b = absurd (miss (1 ∷ 2 ∷ []) 0 tt o)
not_global ClusterCommand o b = refl
not_global Reserved o b = refl

module _ (served : List ℕ) (cluster : ℕ) (unicast : Bool) (frame : List ℕ) (room : ℕ) where
  pub respond_served : is_served cluster served ≡ true → refused room NothingToSend no_state ≡ unsupported_cluster served cluster unicast frame room
  unfolding unsupported_cluster
  respond_served e = rw e

  module _ (other : is_served cluster served ≡ false) where
    responds : respond unicast room (header_of frame) ≡ unsupported_cluster served cluster unicast frame room
    unfolding unsupported_cluster
    responds = rw other

    pub respond_short : header_of frame ≡ None → refused room HeaderShort no_state ≡ unsupported_cluster served cluster unicast frame room
    unfolding respond
    respond_short e = sym (ap (respond unicast room) e) ∙ responds

    module _ (h : ZclHeader) (e : header_of frame ≡ Some h) where
      pub respond_never : is_default_response h ≡ true → refused room NothingToSend no_state ≡ unsupported_cluster served cluster unicast frame room
      unfolding respond
      respond_never q = sym (ap (respond unicast room) e ∙ rw q refl) ∙ responds

      pub respond_sent : is_default_response h ≡ false → default_response h unicast UnsupportedCluster room ≡ unsupported_cluster served cluster unicast frame room
      unfolding respond
      respond_sent q = sym (ap (respond unicast room) e ∙ rw q refl) ∙ responds
