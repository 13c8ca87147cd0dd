-- Reading what was served gives the records that were made: each claim from what was written being read back. Assumes nothing.
use Rattle.readers.specs.Claims.Served.{ReadServed, WriteServed, UndividedServed, ConfigureServed, ConfigurationServed, DiscoverServed, ClusterServed, OtherServed, UnsupportedClusterServed, ReportSent}
use Rattle.readers.proofs.ReadsBack.{read_replies, write_replies, configure_replies, configuration_replies, report_frames, discover_replies, default_responses_back}
use Rattle.readers.proofs.ReadsServed as Reads
use Rattle.readers.proofs.WritesServed as Writes
use Rattle.readers.proofs.ConfiguresServed as Configures
use Rattle.readers.proofs.SettingsServed as Settings
use Rattle.readers.proofs.DiscoversServed as Discovers
use Rattle.readers.proofs.ResponsesServed as Responses
use Rattle.readers.proofs.ReportsSent as Reports

pub read_served : ReadServed
read_served = Reads.read_served read_replies

pub write_served : WriteServed
write_served = Writes.write_served write_replies

pub undivided_served : UndividedServed
undivided_served = Writes.undivided_served write_replies

pub configure_served : ConfigureServed
configure_served = Configures.configure_served configure_replies

pub configuration_served : ConfigurationServed
configuration_served = Settings.configuration_served configuration_replies

pub discover_served : DiscoverServed
discover_served = Discovers.discover_served discover_replies

pub cluster_served : ClusterServed
cluster_served = Responses.cluster_served default_responses_back

pub other_served : OtherServed
other_served = Responses.other_served default_responses_back

pub unsupported_cluster_served : UnsupportedClusterServed
unsupported_cluster_served = Responses.unsupported_cluster_served default_responses_back

pub report_sent : ReportSent
report_sent = Reports.report_sent report_frames
