-- The slots that `all` looks at are the rows, one after the other. Assumes nothing.
use Rattle.std.proofs.Common.{◌≡◌, ℕ, List, [], ◌∷◌, map, ◌&&◌, Bool, refl, sym, ap, ◌∙◌, arith, rules, tests}
use Rattle.std.specs.List.{list_all, range_with_len}
use Rattle.std.proofs.lemmas.Iterator.{YieldsList-from_range}
use Rattle.std.proofs.lemmas.Iterator.Search.{all_from_yields_List}
use Rattle.reporting.specs.Carried.{is_slot, are_slots}
use Rattle.reporting.proofs.CarriageLoops.{slot_in, slots_placed}
use Rattle.reporting.proofs.carried.slots_in_form.Goals as goal

all_slots : (slot : ℕ → List ℕ) (l : List ℕ) → list_all (λ i. is_slot (slot i)) l ≡ are_slots (map slot l)
unfolding are_slots
all_slots slot [] = refl
all_slots slot (i ∷ l) = ap (λ (b : Bool). is_slot (slot i) && b) (all_slots slot l)

pub returns : goal.returns
returns c =
    let bs = c.args.bytes.now in
    let n = c.args.count in
    all_from_yields_List (λ i. is_slot (slot_in bs i)) _ _ c.all.result c.all.ensures.ran (YieldsList-from_range 0 n n refl (omega arith)) (λ i b q r. search (rules, tests))
    ∙ all_slots (slot_in bs) (range_with_len 0 n)
    ∙ ap are_slots (sym (slots_placed bs n 0))
