-- Definitions. The records of the two requests: Configure Reporting (ZCL 2.5.7) and Read Reporting Configuration (2.5.9).
use Rattle.std.specs.Prelude.{ℕ, ◌+◌, cond, List, length, get_or, eqb, unwrap_or}
use Rattle.types.specs.Number.{unsigned_at}
use Rattle.types.specs.Ids.{size_of, is_analog}
use Rattle.types.specs.Value.{change_at}
use Rattle.frame.specs.Walk.{Item, Records, records_from}
use Rattle.frame.specs.Sized.{up_to}
use Rattle.frame.specs.declared.header.ZclHeader.{ZclHeader}
use Rattle.store.specs.Contents.{cluster_of}
use Rattle.reporting.specs.declared.entry.Key.{Key}
use Rattle.reporting.specs.declared.entry.ReportingConfig.{ReportingConfig}
use Rattle.reporting.specs.Due.{compares_unsigned}

-- ---- the change field

-- an analog type has a change of its width; any other, an unknown type too, has no change field
unfoldable pub change_width : ℕ → ℕ
change_width t = cond (is_analog t) (unwrap_or (size_of t) 0) 0

-- ---- 06: direction (1), id (2)

pub data ConfigureRecord : Type 0 where
  -- direction not 0: direction and id; the two bytes of timeout are passed over
  received : ℕ → ℕ → ConfigureRecord
  -- direction 0: id, type (1), and minimum (2), maximum (2), change
  reported : ℕ → ℕ → ReportingConfig → ConfigureRecord

-- minimum, maximum and change behind a type t at p; the mark is the type's: "signed (0, the Int types) or unsigned (1, all others)"
abbrev pub config_at : List ℕ → ℕ → ℕ → ReportingConfig
config_at body p t =
    record {
      min_interval = unsigned_at body p 2;
      max_interval = unsigned_at body (p + 2) 2;
      reportable_change = cond (is_analog t) (change_at body (p + 4) t) 0;
      unsigned = compares_unsigned t;
    }

unfoldable pub configure_at : List ℕ → ℕ → Item ConfigureRecord
configure_at body p =
    let id : ℕ = unsigned_at body (p + 1) 2 in
    let t : ℕ = get_or body (p + 3) 0 in
    cond (eqb (get_or body p 0) 0)
    (up_to body (p + (8 + change_width t)) (reported id t (config_at body (p + 4) t)))
    (up_to body (p + 5) (received (get_or body p 0) id))

abbrev pub configures : List ℕ → Records ConfigureRecord
configures body = records_from (configure_at body) (length body) 0

-- ---- 08: direction (1), id (2)

pub record Asked : Type 0 where
  pub direction : ℕ
  pub id : ℕ

abbrev pub asked : ℕ → ℕ → Asked
asked direction id = record { direction = direction; id = id }

unfoldable pub asked_at : List ℕ → ℕ → Item Asked
asked_at body p = up_to body (p + 3) (asked (get_or body p 0) (unsigned_at body (p + 1) 2))

abbrev pub asked_from : List ℕ → ℕ → Records Asked
asked_from body p = records_from (asked_at body) (length body) p

-- ---- the entry that a record speaks of: the store's cluster, and the id

abbrev pub key_for : List ℕ → ZclHeader → ℕ → Key
key_for s request id = record { cluster = record { 0 = cluster_of s }; attribute = record { 0 = id } }
