-- Inside. A report turn as the code does it: two passes over the store's attributes in their order, first those above the last id, then the others; each is
-- looked up in the table as it is marked by then. Nothing that a caller must believe.
use Rattle.std.specs.Prelude.{◌≡◌, ℕ, Bool, true, false, not, cond, List, [], ◌∷◌, ◌++◌, length, leb}
use Rattle.frame.specs.declared.answer.Refusal.TheVariants.{ReplyTooLong, NothingToSend}
use Rattle.frame.specs.Answer.{Outcome, replied, refused}
use Rattle.frame.specs.Encoded.{encode_all}
use Rattle.store.specs.declared.lookup.Attribute.{Attribute}
use Rattle.store.specs.Contents.{cluster_of, attributes_of}
use Rattle.store.specs.Layout.{is_store}
use Rattle.reporting.specs.declared.entry.Entry.{Entry}
use Rattle.reporting.specs.Entries.{mark_l}
use Rattle.reporting.specs.Table.{capacity}
use Rattle.reporting.specs.Carried.{table_in, is_table, table_bytes}
use Rattle.report.specs.Report.{report_head}
use Rattle.report.specs.Round.{above, last_of}
use Rattle.report.specs.Turn.{Turn, After, after_turn, id_of, key_of, value_in, is_due, record_in, one_frame, turn_of}

-- how far it has come
pub record Sweep : Type 0 where
  pub entries : List Entry
  pub written : List Attribute
  pub full : Bool  -- one did not fit

abbrev pub sweep_at : List Entry → List Attribute → Bool → Sweep
sweep_at l w full = record { entries = l; written = w; full = full }

-- an attribute whose turn it is
abbrev pub sweep_one : Turn → Attribute → Sweep → Sweep
sweep_one u a c =
    cond (is_due u.store u.now c.entries a)
    (cond (one_frame u (c.written ++ (a ∷ [])))
    (sweep_at (mark_l (key_of (cluster_of u.store) (id_of a)) u.now (value_in u.store a) c.entries) (c.written ++ (a ∷ [])) false)
    (sweep_at c.entries c.written true))
    c

-- one pass, over those that are `mine`
abbrev pub sweep : (Attribute → Bool) → Turn → List Attribute → Sweep → Sweep
sweep mine u [] c = c
sweep mine u (a ∷ more) c = cond c.full c (sweep mine u more (cond (mine a) (sweep_one u a c) c))

-- both
abbrev pub swept : ℕ → Turn → List Entry → Sweep
swept form u l =
    sweep (λ a. not (above u.last (id_of a))) u (attributes_of form u.store)
    (sweep (λ a. above u.last (id_of a)) u (attributes_of form u.store) (sweep_at l [] false))

-- 6 if there was nothing to write, 5 if it did not fit
abbrev pub ended : Turn → List Entry → Bool → List Attribute → Outcome After
ended u l full [] = refused u.room (cond full ReplyTooLong NothingToSend) (after_turn (table_bytes capacity l) u.last)
ended u l full (a ∷ more) =
    replied u.room (report_head u.sequence ++ encode_all (record_in u.store) (a ∷ more)) (after_turn (table_bytes capacity l) (last_of id_of u.last (a ∷ more)))

abbrev pub LoopsAreTurns : Type 0
LoopsAreTurns =
    (form : ℕ) (u : Turn) (bs : List ℕ)
    → is_store form u.store ≡ true
    → is_table capacity bs ≡ true
    → bs ≡ table_bytes capacity (table_in bs)
    → leb (length (report_head u.sequence)) u.room ≡ true
    → turn_of form u bs ≡ ended u (swept form u (table_in bs)).entries (swept form u (table_in bs)).full (swept form u (table_in bs)).written
