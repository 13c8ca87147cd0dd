-- `reporting::entry::ReportingConfig::moved_by` meets its contract. Assumes nothing.
use mir.Facts.{to_z-of_z}
use Rattle.reporting.proofs.Due.{moved_code}
use Rattle.reporting.proofs.entry.ReportingConfig.moved_by.Goals as goal

pub returns : goal.returns
returns c = moved_code _ _ _ _ _ _ (to_z-of_z c.ranges.from) (to_z-of_z c.ranges.to) c.distance_by.ensures
