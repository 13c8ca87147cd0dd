-- Claims. The mark that a request sets (document 02, request 6), and which requests it concerns.
use Rattle.std.specs.Prelude.{◌≡◌, true, List, ℕ, ◌≤◌, ◌<◌}
use Rattle.reporting.specs.Claims.Unsigned.{keeps_bits}
use Rattle.configure.specs.Request.{config_at}

-- By a request only a Uint64 can be asked for a change of 2 or more and decide otherwise than before: the other types of 8 bytes that are no Int get a
-- change of 0.
abbrev pub LargeChangesOfUint64 : Type 0
LargeChangesOfUint64 = (body : List ℕ) (p t : ℕ) → t < 256 → keeps_bits t ≡ true → 2 ≤ (config_at body p t).reportable_change → t ≡ 0x27
