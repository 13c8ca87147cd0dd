-- A record with a value, from its fields as they are read and the value's place in the frame. Assumes nothing.
use Rattle.std.specs.Prelude.{None, Some}
use mathlib.Core.Path.{◌≡◌, sym, ap, ◌∙◌}
use mathlib.Core.List.{List}
use Prim.Native.Nat.{ℕ, ◌+◌, ◌-◌}
use lib.ListN.{take, drop, get_or}
use lib.Seq.{drop-drop}
use borrow.Author.Tests.{eq-eqb, ne_eqb}
use Rattle.types.specs.Number.{unsigned_at}
use Rattle.frame.proofs.Buffer.{drop_take}
use Rattle.read.specs.Read.{value, failure}
use Rattle.report.specs.Report.{report_record}
use Rattle.readers.specs.declared.value.ValueIn.{ValueIn}
use Rattle.readers.specs.declared.pass.Span.{Span}
use Rattle.readers.specs.Reading.{cut_out}
use Rattle.readers.specs.Replies.{read_record, reported_record}
use Rattle.readers.specs.Values.{value_in, held, read_held, report_held}

module _ (f : List ℕ) (x : Span) where
  -- what is behind the first n bytes of a record lies n bytes later in the frame
  pub behind : (n : ℕ) → take (x.size - n) (drop (x.at + n) f) ≡ drop n (cut_out f x)
  behind n = sym (drop_take n x.size (drop x.at f) ∙ ap (take (x.size - n)) (drop-drop n x.at f))

  pub report_held_lem : {id : ℕ} {v : ValueIn} → id ≡ unsigned_at (cut_out f x) 0 2 → v ≡ value_in f x 2
      → held (report_record id v.type_id.0 (take v.len (drop v.start f))) (Some v) ≡ report_held f x
  unfolding reported_record value_in
  report_held_lem u e =
      (λ i. held (report_record (u i) (e i).type_id.0 (take (e i).len (drop (e i).start f))) (Some (e i)))
      ∙ ap (λ (b : List ℕ). held (report_record (unsigned_at (cut_out f x) 0 2) (get_or (cut_out f x) 2 0) b) (Some (value_in f x 2))) (behind 3)

  module _ {id status : ℕ} (u : id ≡ unsigned_at (cut_out f x) 0 2) (s : status ≡ get_or (cut_out f x) 2 0) where
    pub read_failed : (status ≡ 0 → ⊥) → held (failure id status) None ≡ read_held f x
    unfolding read_record
    read_failed h = (λ i. held (failure (u i) (s i)) None) ∙ sym (simp (ne_eqb (get_or (cut_out f x) 2 0) 0 (λ e. h (s ∙ e))))

    pub read_held_lem : status ≡ 0 → {v : ValueIn} → v ≡ value_in f x 3
        → held (value id v.type_id.0 (take v.len (drop v.start f))) (Some v) ≡ read_held f x
    unfolding read_record value_in
    read_held_lem h e =
        (λ i. held (value (u i) (e i).type_id.0 (take (e i).len (drop (e i).start f))) (Some (e i)))
        ∙ ap (λ (b : List ℕ). held (value (unsigned_at (cut_out f x) 0 2) (get_or (cut_out f x) 3 0) b) (Some (value_in f x 3))) (behind 4)
        ∙ sym (simp (eq-eqb (get_or (cut_out f x) 2 0) 0 (sym s ∙ h)))
