-- `attributes::read_turn` meets its contract: nothing found, a value that fits, or one that does not. Assumes nothing.
use mathlib.Core.Path.{◌≡◌, sym, ap, ◌∙◌}
use mathlib.Core.List.{List}
use Prim.Native.Nat.{ℕ}
use Rattle.frame.specs.Inside.Buffer.{putting, put}
use Rattle.frame.proofs.Shortened.{turned_put, turned_tried, turned_else}
use Rattle.store.specs.Contents.{name_of, find_of}
use Rattle.store.specs.Value.{value_of}
use Rattle.read.specs.Read.{value, encode}
use Rattle.read.proofs.Turns.{made_nothing, made_value}
use Rattle.read.proofs.attributes.read_turn.Goals as goal

pub returns-in_default : goal.returns-in_default
returns-in_default c =
    let found : find_of 8 c.args.store.now (name_of c.args.request.manufacturer_code.0 c.args.id.0) ≡ c.find.result = ap (find_of 8 c.args.store.now) (sym c.name_of-name.ensures) ∙ sym c.find.ensures in
    turned_put _ _ _ _ _ _ (made_nothing _ _ _ (found ∙ c.in_default.is)) _ _ c.put_failure.ensures

pub returns-in_default-put_value : goal.returns-in_default-put_value
returns-in_default-put_value c =
    let valued : putting c.put_value.result c.put_value.new.reply ≡ put c.args.reply.now c.args.out (encode (value c.args.id.0 c.in-Some.a.type_id.0 (value_of c.args.store.now c.in-Some.a))) =
    c.put_value.ensures
    ∙ ap (λ (v : List ℕ). put c.args.reply.now c.args.out (encode (value c.args.id.0 c.in-Some.a.type_id.0 v))) c.value_of.ensures in
    let found : find_of 8 c.args.store.now (name_of c.args.request.manufacturer_code.0 c.args.id.0) ≡ c.find.result = ap (find_of 8 c.args.store.now) (sym c.name_of-name.ensures) ∙ sym c.find.ensures in
    turned_else _ _ _ _ _ _ _ (made_value _ _ _ _ (found ∙ c.in-Some.is)) _ _ valued c.in_default-put_value.is
    _ _ c.put_failure-in_default-put_value.ensures

pub returns : goal.returns
returns c =
    let valued : putting c.put_value.result c.put_value.new.reply ≡ put c.args.reply.now c.args.out (encode (value c.args.id.0 c.in-Some.a.type_id.0 (value_of c.args.store.now c.in-Some.a))) =
    c.put_value.ensures
    ∙ ap (λ (v : List ℕ). put c.args.reply.now c.args.out (encode (value c.args.id.0 c.in-Some.a.type_id.0 v))) c.value_of.ensures in
    let found : find_of 8 c.args.store.now (name_of c.args.request.manufacturer_code.0 c.args.id.0) ≡ c.find.result = ap (find_of 8 c.args.store.now) (sym c.name_of-name.ensures) ∙ sym c.find.ensures in
    turned_tried _ _ _ _ _ _ _ (made_value _ _ _ _ (found ∙ c.in-Some.is)) _ _ valued _ c.in-Some-put_value.is
