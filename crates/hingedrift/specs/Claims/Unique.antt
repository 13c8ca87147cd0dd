-- Claims. No second outcome fits a contract: at the same entry values one call leaves one number and, through what was lent, one value each. An entry
-- value that a contract does not mention is left out.
use Rattle.std.specs.Prelude.{ℕ, ◌≡◌, List, length, ℤ}
use Rattle.frame.specs.Answer.{no_state}
use Rattle.hingedrift.specs.Tables.{key_as, config_of, left, no_result, configuration_as, new_left, configure_left, clear_left, mark_left, ask_left, configuration_left}
use Rattle.report.specs.Turn.{after_turn}
use Rattle.server.specs.Lent.{lent}
use Rattle.hingedrift.specs.Serving.{handed, number_handed, number_left, unsupported_left, report_left, turn_left, handle_left}
use Rattle.hingedrift.specs.Saving.{save_left, restore_left}
use Rattle.readers.specs.Told.{told, value_as, read_as, report_as, write_as, configure_as, setting_as, sized_as, discover_as, response_as}
use Rattle.hingedrift.specs.Reading.{read_checked, write_checked, configure_checked, configuration_checked, report_checked, discover_checked}
use Rattle.hingedrift.specs.Reading.{read_recorded, report_recorded, write_recorded, configure_recorded, configuration_recorded, discover_recorded, response_told}

-- src/serving.rt
abbrev pub HdNumberOnce : Type 0
HdNumberOnce =
    (store : List ℕ) (attribute r q : ℕ) (x y : ℤ)
    → number_handed r x ≡ number_left store attribute
    → number_handed q y ≡ number_left store attribute
    → (r ≡ q) × (x ≡ y)

abbrev pub HdHandleRequestOnce : Type 0
HdHandleRequestOnce =
    (store table : List ℕ) (cluster unicast : ℕ) (request reply : List ℕ) (r q m n : ℕ) (x y s u bs cs : List ℕ)
    → handed r m x (lent s bs) ≡ handle_left store table cluster unicast request (length reply)
    → handed q n y (lent u cs) ≡ handle_left store table cluster unicast request (length reply)
    → (r ≡ q) × ((m ≡ n) × ((x ≡ y) × ((s ≡ u) × (bs ≡ cs))))

abbrev pub HdUnsupportedClusterOnce : Type 0
HdUnsupportedClusterOnce =
    (served : List ℕ) (cluster unicast : ℕ) (request reply : List ℕ) (r q m n : ℕ) (x y : List ℕ)
    → handed r m x no_state ≡ unsupported_left served cluster unicast request (length reply)
    → handed q n y no_state ≡ unsupported_left served cluster unicast request (length reply)
    → (r ≡ q) × ((m ≡ n) × (x ≡ y))

abbrev pub HdReportOnce : Type 0
HdReportOnce =
    (store : List ℕ) (sequence : ℕ) (ids frame : List ℕ) (r q m n : ℕ) (x y : List ℕ)
    → handed r m x no_state ≡ report_left store sequence ids (length frame)
    → handed q n y no_state ≡ report_left store sequence ids (length frame)
    → (r ≡ q) × ((m ≡ n) × (x ≡ y))

abbrev pub HdReportTurnOnce : Type 0
HdReportTurnOnce =
    (store table : List ℕ) (sequence now last : ℕ) (frame : List ℕ) (r q m n : ℕ) (x y bs cs : List ℕ) (u v : ℕ)
    → handed r m x (after_turn bs u) ≡ turn_left store table sequence now last (length frame)
    → handed q n y (after_turn cs v) ≡ turn_left store table sequence now last (length frame)
    → (r ≡ q) × ((m ≡ n) × ((x ≡ y) × ((bs ≡ cs) × (u ≡ v))))

-- src/table.rt
abbrev pub HdTableNewOnce : Type 0
HdTableNewOnce = (table : List ℕ) (r q : ℕ) (bs cs : List ℕ) → left r bs no_result ≡ new_left table → left q cs no_result ≡ new_left table → (r ≡ q) × (bs ≡ cs)

abbrev pub HdConfigureOnce : Type 0
HdConfigureOnce =
    (table : List ℕ) (cluster attribute minimum maximum change mark r q : ℕ) (bs cs : List ℕ) (x y : ℕ)
    → left r bs x ≡ configure_left table (key_as cluster attribute) (config_of minimum maximum change mark) mark
    → left q cs y ≡ configure_left table (key_as cluster attribute) (config_of minimum maximum change mark) mark
    → (r ≡ q) × ((bs ≡ cs) × (x ≡ y))

abbrev pub HdClearOnce : Type 0
HdClearOnce =
    (table : List ℕ) (cluster attribute r q : ℕ) (bs cs : List ℕ)
    → left r bs no_result ≡ clear_left table (key_as cluster attribute)
    → left q cs no_result ≡ clear_left table (key_as cluster attribute)
    → (r ≡ q) × (bs ≡ cs)

abbrev pub HdConfigurationOnce : Type 0
HdConfigurationOnce =
    (table : List ℕ) (cluster attribute r q a b k l m n x y u v : ℕ)
    → left r table (configuration_as a k m x u) ≡ configuration_left table (key_as cluster attribute)
    → left q table (configuration_as b l n y v) ≡ configuration_left table (key_as cluster attribute)
    → (r ≡ q) × ((a ≡ b) × ((k ≡ l) × ((m ≡ n) × ((x ≡ y) × (u ≡ v)))))

abbrev pub HdAskOnce : Type 0
HdAskOnce =
    (table : List ℕ) (cluster attribute now : ℕ) (value : ℤ) (r q x y : ℕ)
    → left r table x ≡ ask_left table (key_as cluster attribute) now value
    → left q table y ≡ ask_left table (key_as cluster attribute) now value
    → (r ≡ q) × (x ≡ y)

abbrev pub HdMarkOnce : Type 0
HdMarkOnce =
    (table : List ℕ) (cluster attribute now : ℕ) (value : ℤ) (r q : ℕ) (bs cs : List ℕ)
    → left r bs no_result ≡ mark_left table (key_as cluster attribute) now value
    → left q cs no_result ≡ mark_left table (key_as cluster attribute) now value
    → (r ≡ q) × (bs ≡ cs)

-- src/saving.rt
abbrev pub HdSaveOnce : Type 0
HdSaveOnce =
    (table saved : List ℕ) (r q m n : ℕ) (x y : List ℕ)
    → handed r m x no_state ≡ save_left table (length saved)
    → handed q n y no_state ≡ save_left table (length saved)
    → (r ≡ q) × ((m ≡ n) × (x ≡ y))

abbrev pub HdRestoreOnce : Type 0
HdRestoreOnce =
    (table saved : List ℕ) (r q : ℕ) (bs cs : List ℕ)
    → left r bs no_result ≡ restore_left table saved
    → left q cs no_result ≡ restore_left table saved
    → (r ≡ q) × (bs ≡ cs)

-- src/reading.rt
abbrev pub HdReadCheckOnce : Type 0
HdReadCheckOnce =
    (frame : List ℕ) (r r' records records' : ℕ)
    → told r records ≡ read_checked frame
    → told r' records' ≡ read_checked frame
    → (r ≡ r') × (records ≡ records')

abbrev pub HdReadRecordOnce : Type 0
HdReadRecordOnce =
    (frame : List ℕ) (k r r' found found' id id' status status' t t' start start' len len' numbered numbered' : ℕ) (number number' : ℤ)
    → told r (read_as found id status (value_as t start len numbered number)) ≡ read_recorded frame k
    → told r' (read_as found' id' status' (value_as t' start' len' numbered' number')) ≡ read_recorded frame k
    → (r ≡ r') × ((found ≡ found') × ((id ≡ id') × ((status ≡ status') ×
    ((t ≡ t') × ((start ≡ start') × ((len ≡ len') × ((numbered ≡ numbered') × (number ≡ number'))))))))

abbrev pub HdWriteCheckOnce : Type 0
HdWriteCheckOnce =
    (frame : List ℕ) (r r' failures failures' : ℕ)
    → told r failures ≡ write_checked frame
    → told r' failures' ≡ write_checked frame
    → (r ≡ r') × (failures ≡ failures')

abbrev pub HdWriteRecordOnce : Type 0
HdWriteRecordOnce =
    (frame : List ℕ) (k r r' found found' status status' id id' : ℕ)
    → told r (write_as found status id) ≡ write_recorded frame k
    → told r' (write_as found' status' id') ≡ write_recorded frame k
    → (r ≡ r') × ((found ≡ found') × ((status ≡ status') × (id ≡ id')))

abbrev pub HdConfigureCheckOnce : Type 0
HdConfigureCheckOnce =
    (frame : List ℕ) (r r' failures failures' : ℕ)
    → told r failures ≡ configure_checked frame
    → told r' failures' ≡ configure_checked frame
    → (r ≡ r') × (failures ≡ failures')

abbrev pub HdConfigureRecordOnce : Type 0
HdConfigureRecordOnce =
    (frame : List ℕ) (k r r' found found' status status' direction direction' id id' : ℕ)
    → told r (configure_as found status direction id) ≡ configure_recorded frame k
    → told r' (configure_as found' status' direction' id') ≡ configure_recorded frame k
    → (r ≡ r') × ((found ≡ found') × ((status ≡ status') × ((direction ≡ direction') × (id ≡ id'))))

abbrev pub HdConfigurationCheckOnce : Type 0
HdConfigurationCheckOnce =
    (frame : List ℕ) (r r' records records' : ℕ)
    → told r records ≡ configuration_checked frame
    → told r' records' ≡ configuration_checked frame
    → (r ≡ r') × (records ≡ records')

abbrev pub HdConfigurationRecordOnce : Type 0
HdConfigurationRecordOnce =
    (frame : List ℕ) (k r r' found found' status status' direction direction' id id' t t' minimum minimum' maximum maximum' change change' : ℕ)
    → told r (setting_as (configure_as found status direction id) t minimum maximum change) ≡ configuration_recorded frame k
    → told r' (setting_as (configure_as found' status' direction' id') t' minimum' maximum' change') ≡ configuration_recorded frame k
    → (r ≡ r') × ((found ≡ found') × ((status ≡ status') × ((direction ≡ direction') × ((id ≡ id') ×
    ((t ≡ t') × ((minimum ≡ minimum') × ((maximum ≡ maximum') × (change ≡ change'))))))))

abbrev pub HdDiscoverCheckOnce : Type 0
HdDiscoverCheckOnce =
    (frame : List ℕ) (r r' complete complete' records records' : ℕ)
    → told r (sized_as complete records) ≡ discover_checked frame
    → told r' (sized_as complete' records') ≡ discover_checked frame
    → (r ≡ r') × ((complete ≡ complete') × (records ≡ records'))

abbrev pub HdDiscoverRecordOnce : Type 0
HdDiscoverRecordOnce =
    (frame : List ℕ) (k r r' found found' id id' t t' : ℕ)
    → told r (discover_as found id t) ≡ discover_recorded frame k
    → told r' (discover_as found' id' t') ≡ discover_recorded frame k
    → (r ≡ r') × ((found ≡ found') × ((id ≡ id') × (t ≡ t')))

abbrev pub HdDefaultResponseOnce : Type 0
HdDefaultResponseOnce =
    (frame : List ℕ) (r r' command command' status status' : ℕ)
    → told r (response_as command status) ≡ response_told frame
    → told r' (response_as command' status') ≡ response_told frame
    → (r ≡ r') × ((command ≡ command') × (status ≡ status'))

abbrev pub HdReportCheckOnce : Type 0
HdReportCheckOnce =
    (frame : List ℕ) (r r' records records' : ℕ)
    → told r records ≡ report_checked frame
    → told r' records' ≡ report_checked frame
    → (r ≡ r') × (records ≡ records')

abbrev pub HdReportRecordOnce : Type 0
HdReportRecordOnce =
    (frame : List ℕ) (k r r' found found' id id' t t' start start' len len' numbered numbered' : ℕ) (number number' : ℤ)
    → told r (report_as found id (value_as t start len numbered number)) ≡ report_recorded frame k
    → told r' (report_as found' id' (value_as t' start' len' numbered' number')) ≡ report_recorded frame k
    → (r ≡ r') × ((found ≡ found') × ((id ≡ id') × ((t ≡ t') × ((start ≡ start') × ((len ≡ len') × ((numbered ≡ numbered') × (number ≡ number')))))))
