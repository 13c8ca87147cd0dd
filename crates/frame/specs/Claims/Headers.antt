-- Claims. What the answers about a header tell (document 01, "What a call says back", 2).
use Rattle.std.specs.Prelude.{◌≡◌, ℕ, ◌+◌, ◌≤◌, ◌<◌, Bool, cond, List, length, get_or, None, Option, Some}
use Rattle.types.specs.Number.{unsigned_at}
use Rattle.frame.specs.declared.header.ZclHeader.{ZclHeader}
use Rattle.frame.specs.Header.{has_code, header_with, header_of, header_told}

-- a frame with all the bytes of its header tells 0 and the header; a shorter one 2
abbrev pub HeaderTells : Type 0
HeaderTells =
    (frame : List ℕ) (r : Option ZclHeader) → r ≡ header_of frame
    → let coded : Bool = has_code (get_or frame 0 0) in
    let n : ℕ = cond coded 2 0 in
    (n + 3 ≤ length frame → header_told r ≡ record { number = 0; header = Some (header_with frame (cond coded (unsigned_at frame 1 2) 0) n) })
    × (length frame < n + 3 → header_told r ≡ record { number = 2; header = None })
