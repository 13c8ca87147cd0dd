-- `header::read_header` meets its contract: each return is one law of the header. Assumes nothing.
use Rattle.std.specs.Prelude.{Some}
use mathlib.Core.Path.{◌≡◌, sym, ap, ◌∙◌}
use mathlib.Core.Bool.{true, false}
use Prim.Native.Nat.{ℕ}
use native.Mathlib.Omega.{arith}
use lib.ListN.{get_or}
use Rattle.frame.specs.Header.{has_code, header_with}
use Rattle.frame.proofs.Headers.{header_short, header_plain, header_coded, header_coded_short}
use Rattle.frame.proofs.header.read_header.Goals as goal

pub returns-then-frame-lt3 : goal.returns-then-frame-lt3
returns-then-frame-lt3 c = sym (header_short c.args.frame.now c.if-frame-lt3.true)

pub returns-then-not-is_manufacturer_specific : goal.returns-then-not-is_manufacturer_specific
returns-then-not-is_manufacturer_specific c =
    let s = c.args.frame.now in
    let e : has_code (get_or s 0 0) ≡ false = sym c.is_manufacturer_specific.ensures ∙ c.if-not-is_manufacturer_specific.true in
    sym (header_plain s e (omega arith))

pub returns-then-frame-lt5 : goal.returns-then-frame-lt5
returns-then-frame-lt5 c =
    let announced : has_code (get_or c.args.frame.now 0 0) ≡ true = sym c.is_manufacturer_specific.ensures ∙ c.if-not-is_manufacturer_specific.false in
    let s = c.args.frame.now in
    sym (header_coded_short s announced c.if-frame-lt5.true)

pub returns : goal.returns
returns c =
    let announced : has_code (get_or c.args.frame.now 0 0) ≡ true = sym c.is_manufacturer_specific.ensures ∙ c.if-not-is_manufacturer_specific.false in
    let s = c.args.frame.now in
    ap (λ (k : ℕ). Some (header_with s k 2)) c.u16_at.ensures ∙ sym (header_coded s announced (omega arith))
