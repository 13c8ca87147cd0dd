-- `configuration::read_reporting_configuration` meets its contract: no room for the header, or the walk behind it. Assumes nothing.
use Rattle.std.proofs.Common.{rules}
use Rattle.std.specs.Prelude.{Err}
use mathlib.Core.Path.{◌≡◌}
use Rattle.frame.specs.declared.answer.Refusal.TheVariants.{ReplyTooLong}
use Rattle.frame.proofs.Shortened.{shortened_headless, shortened_walked}
use Rattle.configure.specs.Configuration.{configuration_of}
use Rattle.configure.proofs.configuration.read_reporting_configuration.Goals as goal

pub returns-in_err-from : goal.returns-in_err-from
unfolding configuration_of
returns-in_err-from c =
    let why : c.in_err-from.field-0.0 ≡ ReplyTooLong = cc (rw c.in_err-from.ensures.ok_part at c.in_err-from.ensures.value) in
    let kept : c.from_residual.result ≡ Err ReplyTooLong = search rules in
    rw kept (shortened_headless _ _ _ _ _ c.clear.ensures _ _ c.write_response_header.ensures _ c.in_err-from.ensures.ok_part)

pub returns : goal.returns
unfolding configuration_of
returns c =
    shortened_walked _ _ _ _ _ c.clear.ensures _ _ c.write_response_header.ensures _ _ _ c.in_ok-from.ensures.ok_part c.configuration_records.result _ c.configuration_records.ensures
