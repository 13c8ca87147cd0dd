-- All or nothing in what hd_handle_request left (specs/Claims/AllOrNothing.antt). Assumes nothing.
use mathlib.Core.Path.{◌≡◌, sym, ap, ◌∙◌, subst}
use mathlib.Core.Bool.{true}
use mathlib.Core.List.{List}
use Prim.Native.Nat.{ℕ}
use native.Mathlib.Omega.{arith}
use lib.ListN.{drop}
use Rattle.frame.specs.Answer.{Outcome, within}
use Rattle.reporting.specs.Table.{capacity, holding}
use Rattle.reporting.specs.Carried.{is_table, table_in}
use Rattle.reporting.specs.Lent.{bytes_after}
use Rattle.reporting.proofs.CarriageTable.{bytes_back}
use Rattle.server.specs.Serve.{State, serve}
use Rattle.server.specs.Lent.{Lent, carried, serve_lent}
use Rattle.server.specs.Claims.AllOrNothing.{AllOrNothing}
use Rattle.server.proofs.AllOrNothing.{all_or_nothing_served}
use Rattle.hingedrift.specs.Serving.{is_unicast, handle_left}
use Rattle.hingedrift.specs.Claims.AllOrNothing.{HdAllOrNothing}

module _ (s bs : List ℕ) (cluster unicast : ℕ) (frame : List ℕ) (room : ℕ) (table : is_table capacity bs ≡ true) where
  abbrev o : Outcome State
  o = serve 8 capacity s (holding (table_in bs)) cluster (is_unicast unicast) frame room

  served_there : handle_left s bs cluster unicast frame room ≡ within (carried bs) o
  unfolding serve_lent
  served_there = rw table

pub hd_all_or_nothing : HdAllOrNothing
hd_all_or_nothing s bs cluster unicast frame room h bytes is table own asks byte n used reply store after e =
    let w = all_or_nothing_served 8 capacity s (table_in bs) cluster (is_unicast unicast) frame room h (omega arith) is own asks byte in
    let k = e ∙ served_there s bs cluster unicast frame room table in
    let stays : bytes_after bs (o s bs cluster unicast frame room table).state.table ≡ bs = ap (bytes_after bs) w.1 ∙ bytes_back capacity bs bytes table in (
      subst (AllOrNothing 8 s h (drop h.body frame) room) (sym (ap (within (λ (x : Lent). x.store)) k)) w.0,
      ap (λ (x : Outcome Lent). x.state.table) k ∙ stays,
    )
