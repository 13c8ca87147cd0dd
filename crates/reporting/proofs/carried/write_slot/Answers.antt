-- The nine writes at their places are the slot laid out. Assumes nothing.
use native.Mathlib.Omega.{arith}
use native.Mathlib.Nat.{mod-eq_of_lt}
use mathlib.Core.Path.{ap, sym, ◌∙◌}
use Prim.Native.Nat.{ℕ, ◌+◌, ◌^◌}
use mathlib.Core.List.{List, [], ◌∷◌}
use lib.ListN.{set, length-set}
use lib.Seq.{sets}
use Rattle.types.specs.Number.{bytes_of}
use Rattle.types.proofs.Machine.{came_back}
use Rattle.reporting.specs.Due.{bits_of}
use Rattle.reporting.specs.Carried.{widths, laid, if_marked, numbers_of}
use Rattle.reporting.proofs.CarriageEntry.{told_below, quieted_clean}
use Rattle.reporting.proofs.CarriageCode.{slot_puts}
use Rattle.reporting.proofs.carried.write_slot.Goals as goal

pub overflow_cast-bytes : goal.overflow_cast-bytes
overflow_cast-bytes c = record { fits = omega (arith, c.told_if.ensures, told_below c.args.e.config.unsigned 1 256 (omega arith)) }

pub overflow_cast-bytes-2 : goal.overflow_cast-bytes-2
overflow_cast-bytes-2 c = record { fits = omega (arith, c.told_if-2.ensures, told_below c.args.e.marked 1 256 (omega arith)) }

pub overflow_add-bytes-2 : goal.overflow_add-bytes-2
overflow_add-bytes-2 c = omega (arith, c.requires)

pub bounds-bytes-at-2 : goal.bounds-bytes-at-2
bounds-bytes-at-2 c = omega (arith, c.requires, length-set c.put_u64_in.new.bytes (c.args.at + 16) c.told_if.result, c.put_u64_in.auto.bytes ∙ c.put_u16_in-4.auto.bytes ∙ c.put_u16_in-3.auto.bytes ∙ c.put_u16_in-2.auto.bytes ∙ c.put_u16_in.auto.bytes)

pub overflow_add-at-5 : goal.overflow_add-at-5
overflow_add-at-5 c = omega (arith, c.requires)

pub overflow_cast-told_if : goal.overflow_cast-told_if
overflow_cast-told_if c = omega (arith, c.told_if-3.ensures, told_below c.args.e.marked c.args.e.last_time (2 ^ 32) (omega (arith, c.struct_known-1.given)))

pub put_u32_in-requires : goal.put_u32_in-requires
put_u32_in-requires c = omega (arith, c.requires, length-set (set c.put_u64_in.new.bytes (c.args.at + 16) c.told_if.result) (c.args.at + 17) c.told_if-2.result, length-set c.put_u64_in.new.bytes (c.args.at + 16) c.told_if.result, c.put_u64_in.auto.bytes ∙ c.put_u16_in-4.auto.bytes ∙ c.put_u16_in-3.auto.bytes ∙ c.put_u16_in-2.auto.bytes ∙ c.put_u16_in.auto.bytes)

pub overflow_add-at-6 : goal.overflow_add-at-6
overflow_add-at-6 c = omega (arith, c.requires)

pub put_u64_in-requires-2 : goal.put_u64_in-requires-2
put_u64_in-requires-2 c = omega (arith, c.requires, c.put_u32_in.auto.bytes, length-set (set c.put_u64_in.new.bytes (c.args.at + 16) c.told_if.result) (c.args.at + 17) c.told_if-2.result, length-set c.put_u64_in.new.bytes (c.args.at + 16) c.told_if.result, c.put_u64_in.auto.bytes ∙ c.put_u16_in-4.auto.bytes ∙ c.put_u16_in-3.auto.bytes ∙ c.put_u16_in-2.auto.bytes ∙ c.put_u16_in.auto.bytes)

pub shape_of-bytes : goal.shape_of-bytes
shape_of-bytes c = c.put_u64_in-2.auto.bytes ∙ c.put_u32_in.auto.bytes ∙ length-set (set c.put_u64_in.new.bytes (c.args.at + 16) c.told_if.result) (c.args.at + 17) c.told_if-2.result ∙ length-set c.put_u64_in.new.bytes (c.args.at + 16) c.told_if.result ∙ c.put_u64_in.auto.bytes ∙ c.put_u16_in-4.auto.bytes ∙ c.put_u16_in-3.auto.bytes ∙ c.put_u16_in-2.auto.bytes ∙ c.put_u16_in.auto.bytes

pub returns : goal.returns
unfolding numbers_of bytes_of
returns c =
    let k = c.args.e.key in
    let g = c.args.e.config in
    let u = c.told_if in
    let f = c.told_if-2 in
    let t = c.told_if-3 in
    let v = c.told_if-4 in
    let b = c.bits_u64.ensures ∙ ap bits_of (came_back c.args.e.last_value c.struct_told-1.given.1.1.1.1.0.1) in
    let w₁ = c.put_u16_in in
    let w₂ = c.put_u16_in-2 in
    let w₃ = c.put_u16_in-3 in
    let w₄ = c.put_u16_in-4 in
    let w₅ = c.put_u64_in in
    let w₈ = c.put_u32_in in
    let w₉ = c.put_u64_in-2 in
    let noted = set w₅.new.bytes (c.args.at + 16) in
    let flagged = set (noted u.result) (c.args.at + 17) in record {
      bytes_after = slot_puts c.args.at k.cluster.0 k.attribute.0 g.min_interval g.max_interval g.reportable_change u.result f.result t.result v.result
          c.args.bytes.now w₁.new.bytes w₂.new.bytes w₃.new.bytes w₄.new.bytes w₅.new.bytes (noted u.result) (flagged f.result) w₈.new.bytes w₉.new.bytes
          w₁.ensures w₂.ensures w₃.ensures w₄.ensures w₅.ensures (ap noted (sym (mod-eq_of_lt (omega (arith, c.told_if.ensures, told_below c.args.e.config.unsigned 1 256 (omega arith)))))) (ap flagged (sym (mod-eq_of_lt (omega (arith, c.told_if-2.ensures, told_below c.args.e.marked 1 256 (omega arith)))))) w₈.ensures w₉.ensures
          ∙ ap (λ (ns : List ℕ). sets c.args.bytes.now c.args.at (laid widths ns))
          (λ i. k.cluster.0 ∷ k.attribute.0 ∷ g.min_interval ∷ g.max_interval ∷ g.reportable_change ∷ u.ensures i ∷ f.ensures i ∷ t.ensures i ∷ (v.ensures ∙ ap (if_marked c.args.e.marked) b) i ∷ []);
      clean = quieted_clean c.args.e (omega arith) (omega arith) (omega arith) (omega arith) (omega arith) (omega arith) c.struct_told-1.given.1.1.1.1.0.1;
    }
