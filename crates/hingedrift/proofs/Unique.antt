-- No second outcome fits a contract: at the same entry values one call leaves one number and, through what was lent, one value each. An entry
-- value that a contract does not mention is left out. Assumes nothing.
use Prim.Native.Nat.{ℕ}
use mathlib.Core.Path.{◌≡◌, sym, ap, ◌∙◌}
use mathlib.Core.List.{List}
use lib.ListN.{length}
use Rattle.frame.specs.Answer.{Outcome, no_state}
use Rattle.store.specs.Value.{Telling}
use Rattle.hingedrift.specs.Tables.{key_as, config_of, Left, left, no_result, Configuration, configuration_as, new_left, configure_left, clear_left, mark_left, ask_left, configuration_left}
use Rattle.report.specs.Turn.{After, after_turn}
use Rattle.server.specs.Lent.{Lent, lent}
use Rattle.hingedrift.specs.Serving.{handed, unsupported_left, report_left, turn_left, handle_left}
use Rattle.readers.specs.Told.{Told, told, ValueFields, SettingFields}
use Rattle.hingedrift.specs.Saving.{save_left, restore_left}
use Rattle.hingedrift.specs.Claims.Unique.{HdNumberOnce, HdHandleRequestOnce, HdUnsupportedClusterOnce, HdReportOnce, HdReportTurnOnce, HdTableNewOnce, HdConfigureOnce}
use Rattle.hingedrift.specs.Claims.Unique.{HdClearOnce, HdConfigurationOnce, HdAskOnce, HdMarkOnce}
use Rattle.hingedrift.specs.Claims.Unique.{HdSaveOnce, HdRestoreOnce}
use Rattle.hingedrift.specs.Claims.Unique.{HdReadCheckOnce, HdReadRecordOnce, HdWriteCheckOnce, HdWriteRecordOnce, HdConfigureCheckOnce, HdConfigureRecordOnce}
use Rattle.hingedrift.specs.Claims.Unique.{HdConfigurationCheckOnce, HdConfigurationRecordOnce, HdDiscoverCheckOnce, HdDiscoverRecordOnce}
use Rattle.hingedrift.specs.Claims.Unique.{HdDefaultResponseOnce, HdReportCheckOnce, HdReportRecordOnce}

-- ---- what is seen of a call tells all that it left

pub one_outcome : {R : Type 0} (o : Left R) (m n : ℕ) (bs cs : List ℕ) (x y : R) → left m bs x ≡ o → left n cs y ≡ o → (m ≡ n) × ((bs ≡ cs) × (x ≡ y))
one_outcome {R} o m n bs cs x y p q =
    let e = p ∙ sym q in
    (ap (λ (z : Left R). z.number) e, (ap (λ (z : Left R). z.table) e, ap (λ (z : Left R). z.result) e))

pub one_handed : {S : Type 0} (o : Outcome S) (r q m n : ℕ) (x y : List ℕ) (s t : S) → handed r m x s ≡ o → handed q n y t ≡ o → (r ≡ q) × ((m ≡ n) × ((x ≡ y) × (s ≡ t)))
one_handed {S} o r q m n x y s t e f =
    let p = e ∙ sym f in
    (ap (λ (z : Outcome S). z.number) p, (ap (λ (z : Outcome S). z.size) p, (ap (λ (z : Outcome S). z.reply) p, ap (λ (z : Outcome S). z.state) p)))

-- a call that leaves a table and no result
pub one_table : (o : Left (Unit {0})) (r q : ℕ) (bs cs : List ℕ) → left r bs no_result ≡ o → left q cs no_result ≡ o → (r ≡ q) × (bs ≡ cs)
one_table o r q bs cs e f = let w = one_outcome o r q bs cs no_result no_result e f in (w.0, w.1.0)

-- a call that changes no more than a reply
pub one_reply : (o : Outcome (Unit {0})) (r q m n : ℕ) (x y : List ℕ) → handed r m x no_state ≡ o → handed q n y no_state ≡ o → (r ≡ q) × ((m ≡ n) × (x ≡ y))
one_reply o r q m n x y e f = let w = one_handed o r q m n x y no_state no_state e f in (w.0, (w.1.0, w.1.1.0))

-- a call of a reader
pub one_told : {R : Type 0} {o : Told R} {m n : ℕ} {x y : R} → told m x ≡ o → told n y ≡ o → (m ≡ n) × (x ≡ y)
one_told {R} p q = let e = p ∙ sym q in (ap (λ (z : Told R). z.number) e, ap (λ (z : Told R). z.result) e)

one_value : {v w : ValueFields} → v ≡ w
    → (v.type ≡ w.type) × ((v.start ≡ w.start) × ((v.len ≡ w.len) × ((v.numbered ≡ w.numbered) × (v.number ≡ w.number))))
one_value e = ((λ i. (e i).type), ((λ i. (e i).start), ((λ i. (e i).len), ((λ i. (e i).numbered), (λ i. (e i).number)))))

one_setting : {v w : SettingFields} → v ≡ w → (v.type ≡ w.type) × ((v.minimum ≡ w.minimum) × ((v.maximum ≡ w.maximum) × (v.change ≡ w.change)))
one_setting e = ((λ i. (e i).type), ((λ i. (e i).minimum), ((λ i. (e i).maximum), (λ i. (e i).change))))

-- src/serving.rt

pub hd_report_turn_once : HdReportTurnOnce
hd_report_turn_once store table sequence now last frame r q m n x y bs cs u v e f =
    let w = one_handed (turn_left store table sequence now last (length frame)) r q m n x y (after_turn bs u) (after_turn cs v) e f in
    (w.0, (w.1.0, (w.1.1.0, (ap (λ (z : After). z.table) w.1.1.1, ap (λ (z : After). z.last) w.1.1.1))))

pub hd_number_once : HdNumberOnce
hd_number_once store attribute r q x y e f = let p = e ∙ sym f in (ap (λ (z : Telling). z.answer) p, ap (λ (z : Telling). z.value) p)

pub hd_handle_request_once : HdHandleRequestOnce
hd_handle_request_once store table cluster unicast request reply r q m n x y s u bs cs e f =
    let w = one_handed (handle_left store table cluster unicast request (length reply)) r q m n x y (lent s bs) (lent u cs) e f in
    (w.0, (w.1.0, (w.1.1.0, (ap (λ (z : Lent). z.store) w.1.1.1, ap (λ (z : Lent). z.table) w.1.1.1))))

pub hd_unsupported_cluster_once : HdUnsupportedClusterOnce
hd_unsupported_cluster_once served cluster unicast request reply r q m n x y e f = one_reply (unsupported_left served cluster unicast request (length reply)) r q m n x y e f

pub hd_report_once : HdReportOnce
hd_report_once store sequence ids frame r q m n x y e f = one_reply (report_left store sequence ids (length frame)) r q m n x y e f

-- src/table.rt

pub hd_table_new_once : HdTableNewOnce
hd_table_new_once table r q bs cs e f = one_table (new_left table) r q bs cs e f

pub hd_configure_once : HdConfigureOnce
hd_configure_once table cluster attribute minimum maximum change mark r q bs cs x y e f =
    one_outcome (configure_left table (key_as cluster attribute) (config_of minimum maximum change mark) mark) r q bs cs x y e f

pub hd_clear_once : HdClearOnce
hd_clear_once table cluster attribute r q bs cs e f = one_table (clear_left table (key_as cluster attribute)) r q bs cs e f

pub hd_configuration_once : HdConfigurationOnce
hd_configuration_once table cluster attribute r q a b k l m n x y u v e f =
    let w = one_outcome (configuration_left table (key_as cluster attribute)) r q table table (configuration_as a k m x u) (configuration_as b l n y v) e f in
    let c = w.1.1 in (
      w.0,
      (
        ap (λ (z : Configuration). z.found) c,
        (ap (λ (z : Configuration). z.minimum) c, (ap (λ (z : Configuration). z.maximum) c, (ap (λ (z : Configuration). z.change) c, ap (λ (z : Configuration). z.mark) c))),
      ),
    )

pub hd_ask_once : HdAskOnce
hd_ask_once table cluster attribute now value r q x y e f = let w = one_outcome (ask_left table (key_as cluster attribute) now value) r q table table x y e f in (w.0, w.1.1)

pub hd_mark_once : HdMarkOnce
hd_mark_once table cluster attribute now value r q bs cs e f = one_table (mark_left table (key_as cluster attribute) now value) r q bs cs e f

-- src/saving.rt

pub hd_save_once : HdSaveOnce
hd_save_once table saved r q m n x y e f = one_reply (save_left table (length saved)) r q m n x y e f

pub hd_restore_once : HdRestoreOnce
hd_restore_once table saved r q bs cs e f = one_table (restore_left table saved) r q bs cs e f

-- src/reading.rt

pub hd_read_check_once : HdReadCheckOnce
hd_read_check_once frame r r' n n' e f = one_told e f

pub hd_read_record_once : HdReadRecordOnce
hd_read_record_once frame k r r' found found' id id' status status' t t' start start' len len' numbered numbered' number number' e f =
    let w = one_told e f in
    let c = w.1 in
    (w.0, ((λ i. (c i).found), ((λ i. (c i).id), ((λ i. (c i).status), one_value (λ i. (c i).value)))))

pub hd_write_check_once : HdWriteCheckOnce
hd_write_check_once frame r r' n n' e f = one_told e f

pub hd_write_record_once : HdWriteRecordOnce
hd_write_record_once frame k r r' found found' status status' id id' e f =
    let w = one_told e f in
    let c = w.1 in
    (w.0, ((λ i. (c i).found), ((λ i. (c i).status), (λ i. (c i).id))))

pub hd_configure_check_once : HdConfigureCheckOnce
hd_configure_check_once frame r r' n n' e f = one_told e f

pub hd_configure_record_once : HdConfigureRecordOnce
hd_configure_record_once frame k r r' found found' status status' direction direction' id id' e f =
    let w = one_told e f in
    let c = w.1 in
    (w.0, ((λ i. (c i).found), ((λ i. (c i).status), ((λ i. (c i).direction), (λ i. (c i).id)))))

pub hd_configuration_check_once : HdConfigurationCheckOnce
hd_configuration_check_once frame r r' n n' e f = one_told e f

pub hd_configuration_record_once : HdConfigurationRecordOnce
hd_configuration_record_once frame k r r' found found' status status' direction direction' id id' t t' minimum minimum' maximum maximum' change change' e f =
    let w = one_told e f in
    let c = w.1 in
    (w.0, ((λ i. (c i).head.found), ((λ i. (c i).head.status), ((λ i. (c i).head.direction), ((λ i. (c i).head.id), one_setting c)))))

pub hd_discover_check_once : HdDiscoverCheckOnce
hd_discover_check_once frame r r' complete complete' records records' e f =
    let w = one_told e f in
    let c = w.1 in
    (w.0, ((λ i. (c i).complete), (λ i. (c i).count)))

pub hd_discover_record_once : HdDiscoverRecordOnce
hd_discover_record_once frame k r r' found found' id id' t t' e f =
    let w = one_told e f in
    let c = w.1 in
    (w.0, ((λ i. (c i).found), ((λ i. (c i).id), (λ i. (c i).type))))

pub hd_default_response_once : HdDefaultResponseOnce
hd_default_response_once frame r r' command command' status status' e f =
    let w = one_told e f in
    let c = w.1 in
    (w.0, ((λ i. (c i).command), (λ i. (c i).status)))

pub hd_report_check_once : HdReportCheckOnce
hd_report_check_once frame r r' n n' e f = one_told e f

pub hd_report_record_once : HdReportRecordOnce
hd_report_record_once frame k r r' found found' id id' t t' start start' len len' numbered numbered' number number' e f =
    let w = one_told e f in
    let c = w.1 in
    (w.0, ((λ i. (c i).found), ((λ i. (c i).id), one_value (λ i. (c i).value))))
