-- Definitions. What a configuration record asks for by its intervals, the status that it gets, and the entries afterwards (document 01, "Configure").
-- `limit` is how many entries the table may have.
use Rattle.std.specs.Prelude.{Bool, not, cond, ◌&&◌, ◌||◌, List, ℕ, ltb, eqb}
use Rattle.frame.specs.declared.status.Status.{Status}
use Rattle.frame.specs.declared.status.Status.TheVariants.{Success, InvalidValue, InsufficientSpace}
use Rattle.reporting.specs.declared.entry.Key.{Key}
use Rattle.reporting.specs.declared.entry.ReportingConfig.{ReportingConfig}
use Rattle.reporting.specs.declared.entry.Wish.{Wish}
use Rattle.reporting.specs.declared.entry.Wish.TheVariants.{ToClear, ToRefuse, ToSet}
use Rattle.reporting.specs.declared.entry.Entry.{Entry}
use Rattle.reporting.specs.Entries.{accepts_l, configure_l, clear_l}

-- "maximum ffff, or maximum 0 with minimum ffff, clears and succeeds; maximum nonzero and below minimum 87"
abbrev pub wish : ReportingConfig → Wish
wish g =
    cond (eqb g.max_interval 0xffff || (eqb g.max_interval 0 && eqb g.min_interval 0xffff)) ToClear
    (cond (not (eqb g.max_interval 0) && ltb g.max_interval g.min_interval) ToRefuse ToSet)

-- the status: 87 of a record to be refused; "no room 89"
abbrev pub status_w : Wish → Bool → Status
status_w ToClear accepted = Success
status_w ToRefuse accepted = InvalidValue
status_w ToSet accepted = cond accepted Success InsufficientSpace

-- the entries afterwards: where there is no room, `configure_l` leaves them
abbrev pub record_w : Wish → ℕ → Key → ReportingConfig → List Entry → List Entry
record_w ToClear limit k g l = clear_l k l
record_w ToRefuse limit k g l = l
record_w ToSet limit k g l = configure_l limit k g l

-- both of a record with this key and this configuration
abbrev pub record_status : ℕ → Key → ReportingConfig → List Entry → Status
record_status limit k g l = status_w (wish g) (accepts_l limit k l)

abbrev pub record_entries : ℕ → Key → ReportingConfig → List Entry → List Entry
record_entries limit k g l = record_w (wish g) limit k g l
