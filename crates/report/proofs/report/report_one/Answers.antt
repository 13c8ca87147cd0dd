-- Nothing found, nothing that may be reported, or a record that fits or does not. Assumes nothing.
use mathlib.Core.Path.{◌≡◌, sym, ap, ◌∙◌}
use mathlib.Core.List.{List}
use Prim.Native.Nat.{ℕ}
use Rattle.frame.specs.Inside.Buffer.{putting, put}
use Rattle.store.specs.Contents.{name_of, find_of}
use Rattle.report.specs.Report.{encode, report_record, record_of}
use Rattle.report.proofs.Ids.{turn_nothing, turn_unreportable, turn_more, turn_full}
use Rattle.report.proofs.report.report_one.Goals as goal

pub returns-in_default : goal.returns-in_default
returns-in_default c =
    let found : find_of 8 c.args.store.now (name_of 0 c.args.id.0) ≡ c.find.result = ap (find_of 8 c.args.store.now) (sym c.name_of-name.ensures) ∙ sym c.find.ensures in
    turn_nothing _ _ _ _ (found ∙ c.in_default.is) c.refuse.result _ c.refuse.ensures

pub returns-then-not-is_reportable : goal.returns-then-not-is_reportable
returns-then-not-is_reportable c =
    let found : find_of 8 c.args.store.now (name_of 0 c.args.id.0) ≡ c.find.result = ap (find_of 8 c.args.store.now) (sym c.name_of-name.ensures) ∙ sym c.find.ensures in
    turn_unreportable _ _ _ _ _ (found ∙ c.in-Some.is) (sym c.is_reportable.ensures ∙ c.if-not-is_reportable.true) c.refuse-then-not-is_reportable.result _ c.refuse-then-not-is_reportable.ensures

pub returns-in_default-put_record : goal.returns-in_default-put_record
returns-in_default-put_record c =
    let recorded : putting c.put_record.result c.put_record.new.frame ≡ put c.args.frame.now c.args.out (encode (record_of c.args.store.now c.args.id.0 c.in-Some.a)) =
    c.put_record.ensures
    ∙ ap (λ (v : List ℕ). put c.args.frame.now c.args.out (encode (report_record c.args.id.0 c.in-Some.a.type_id.0 v))) c.value_of.ensures in
    let found : find_of 8 c.args.store.now (name_of 0 c.args.id.0) ≡ c.find.result = ap (find_of 8 c.args.store.now) (sym c.name_of-name.ensures) ∙ sym c.find.ensures in
    turn_full _ _ _ _ _ (found ∙ c.in-Some.is) (sym c.is_reportable.ensures ∙ c.if-not-is_reportable.false) _ _ recorded c.in_default-put_record.is c.refuse-in_default-put_record.result _ c.refuse-in_default-put_record.ensures c.put_record.auto.frame

pub returns : goal.returns
returns c =
    let recorded : putting c.put_record.result c.put_record.new.frame ≡ put c.args.frame.now c.args.out (encode (record_of c.args.store.now c.args.id.0 c.in-Some.a)) =
    c.put_record.ensures
    ∙ ap (λ (v : List ℕ). put c.args.frame.now c.args.out (encode (report_record c.args.id.0 c.in-Some.a.type_id.0 v))) c.value_of.ensures in
    let found : find_of 8 c.args.store.now (name_of 0 c.args.id.0) ≡ c.find.result = ap (find_of 8 c.args.store.now) (sym c.name_of-name.ensures) ∙ sym c.find.ensures in
    turn_more _ _ _ _ _ (found ∙ c.in-Some.is) (sym c.is_reportable.ensures ∙ c.if-not-is_reportable.false) _ _ recorded _ c.in-Some-put_record.is
