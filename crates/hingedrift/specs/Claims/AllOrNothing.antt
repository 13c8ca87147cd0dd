-- Claims. All or nothing (document 02, request 10) in what hd_handle_request left: the promise of crate `server` (specs/Claims/AllOrNothing.antt) of its number,
-- of `reply_used`, the reply buffer and the store; and the table's bytes are as they came.
use Rattle.std.specs.Prelude.{◌≡◌, ℕ, ◌≤◌, true, List, drop}
use Rattle.types.specs.Number.{AllBytes}
use Rattle.frame.specs.declared.header.ZclHeader.{ZclHeader}
use Rattle.frame.specs.declared.command_identifier.CommandIdentifier.TheVariants.{WriteAttributesUndivided}
use Rattle.store.specs.Contents.{cluster_of}
use Rattle.store.specs.Layout.{is_store}
use Rattle.reporting.specs.Table.{capacity}
use Rattle.reporting.specs.Carried.{is_table}
use Rattle.server.specs.Lent.{lent}
use Rattle.server.specs.Claims.Asks.{Asks}
use Rattle.server.specs.Claims.AllOrNothing.{AllOrNothing}
use Rattle.hingedrift.specs.Serving.{handed, handle_left}

abbrev pub HdAllOrNothing : Type 0
HdAllOrNothing =
    (s bs : List ℕ) (cluster unicast : ℕ) (frame : List ℕ) (room : ℕ) (h : ZclHeader)
    → AllBytes bs
    → is_store 8 s ≡ true
    → is_table capacity bs ≡ true
    → cluster ≡ cluster_of s
    → Asks WriteAttributesUndivided frame h
    → 4 ≤ room
    → (n used : ℕ) (reply store table : List ℕ)
    → handed n used reply (lent store table) ≡ handle_left s bs cluster unicast frame room
    → AllOrNothing 8 s h (drop h.body frame) room (handed n used reply store) × (table ≡ bs)
