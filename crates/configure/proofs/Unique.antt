-- No second answer fits a contract. Assumes nothing.
use mathlib.Core.Path.{sym, ◌∙◌}
use lib.ListN.{length}
use Rattle.frame.proofs.Outcome.{only_one, only_answer}
use Rattle.reporting.specs.Table.{capacity, holding}
use Rattle.reporting.specs.Carried.{table_in}
use Rattle.reporting.proofs.Unique.{one_carried}
use Rattle.configure.specs.Configuration.{configuration_of}
use Rattle.configure.specs.Configure.{configure_of}
use Rattle.configure.specs.Claims.Unique.{ChangeWidthOnce, ReadReportingConfigurationOnce, ConfigureReportingOnce}

-- src/change.rt

pub change_width_once : ChangeWidthOnce
change_width_once type_id r q e f = e ∙ sym f

-- src/configuration.rt

pub read_reporting_configuration_once : ReadReportingConfigurationOnce
read_reporting_configuration_once store table request body reply r q x y e f = only_answer (configuration_of 8 store (holding (table_in table)) request body (length reply)) r q x y e f

-- src/configure.rt

pub configure_reporting_once : ConfigureReportingOnce
configure_reporting_once store table request body reply r q x y t u a b g h e f =
    let w = only_one (configure_of 8 capacity store (holding (table_in table)) request body (length reply)) r q x y (holding (table_in t)) (holding (table_in u)) e f in
    (w.0, (w.1.0, one_carried t u a b g h w.1.1))
