-- A store stays a store under every request: of the same length, with the same contents. Assumes nothing.
use mathlib.Core.Path.{◌≡◌, refl}
use mathlib.Core.Bool.{Bool, true}
use mathlib.Core.List.{List}
use Prim.Native.Nat.{ℕ, ◌≤◌}
use Rattle.frame.specs.declared.header.ZclHeader.{ZclHeader}
use Rattle.frame.specs.declared.command_identifier.CommandIdentifier.{CommandIdentifier}
use Rattle.store.specs.Layout.{is_store}
use Rattle.store.specs.Claims.Stays.{StoreLike}
use Rattle.reporting.specs.Table.{Table, holding}
use Rattle.write.proofs.Kept.{write_keeps}
use Rattle.server.specs.Serve.{commanded}
use Rattle.server.specs.Claims.Left.{StoreStays}
use Rattle.server.proofs.Cases.{commanded_case, serve_case}

module _ (form limit : ℕ) (s : List ℕ) (wide : 8 ≤ form) (is : is_store form s ≡ true) (unicast : Bool) (room : ℕ) where
  -- a command that is none of the three leaves the store itself
  itself : StoreLike form s s
  itself = record { still = is; same_length = refl; same_contents = refl }

  commanded_stays : (t : Table) (h : ZclHeader) (body : List ℕ) (c : CommandIdentifier) → StoreLike form s (commanded form limit s t unicast h body room c).state.store
  commanded_stays t h body =
      commanded_case form limit s t unicast body room (λ f. StoreLike form s (f h).state.store)
      (record {
        read = itself;
        write = (write_keeps form s h body room wide is).by_write;
        undivided = (write_keeps form s h body room wide is).by_undivided;
        silently = (write_keeps form s h body room wide is).by_silent;
        configure = itself;
        configuration = itself;
        discover = itself;
        response = itself;
        other = itself;
      })

-- A STORE STAYS A STORE
pub store_stays : StoreStays
store_stays form limit s t cluster unicast frame room wide is =
    serve_case form limit s unicast room (λ t o. StoreLike form s o.state.store) (λ t why e. itself form limit s wide is unicast room)
    (λ l h body c. commanded_stays form limit s wide is unicast room (holding l) h body c) cluster frame t
