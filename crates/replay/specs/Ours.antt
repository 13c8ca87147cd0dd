-- Definitions. What ours says to an input, as bytes; or that the input is none of its kind.
use Rattle.std.specs.Prelude.{ℕ, ◌+◌, ◌%◌, ◌^◌, Bool, cond, List, [], ◌∷◌, ◌++◌, length, get_or, take, drop, ltb, eqb, Err, None, Ok, Option, Result, Some}
use Rattle.types.specs.Number.{bytes_of, unsigned_at, residue}
use Rattle.types.specs.Ids.{size_of, is_analog, is_reportable}
use Rattle.types.specs.Extent.{extent_of}
use Rattle.types.specs.declared.extent.NoExtent.{NoExtent}
use Rattle.types.specs.declared.extent.NoExtent.TheVariants.{Cut, Without}
use Rattle.frame.specs.Status.{status_code}
use Rattle.frame.specs.Header.{frame_type_of, has_code, header_of}
use Rattle.frame.specs.declared.header.FrameType.{FrameType}
use Rattle.frame.specs.declared.header.FrameType.TheVariants.{GlobalCommand, ClusterCommand, Reserved}
use Rattle.frame.specs.declared.header.ZclHeader.{ZclHeader}
use Rattle.store.specs.Contents.{name_of}
use Rattle.store.specs.Layout.{is_store}
use Rattle.store.specs.Value.{Telling, telling, number_of}
use Rattle.store.specs.Write.{Wrote, write_of}
use Rattle.replay.specs.Bytes.{same}

-- whether what was recorded is what ours says; nothing where the input is none of its kind
abbrev pub agreement : Option (List ℕ) → List ℕ → Option Bool
agreement None held = None
agreement (Some says) held = Some (same says held)

abbrev pub bit_of : Bool → ℕ
bit_of b = cond b 1 0

-- ---- t: a type code

abbrev pub size_byte : Option ℕ → ℕ
size_byte (Some w) = w % 256
size_byte None = 0xff

-- the size, ff where it varies; whether it is analog; whether it can be reported
unfoldable pub of_type : List ℕ → Option (List ℕ)
of_type input =
    let t : ℕ = get_or input 0 0 in
    cond (eqb (length input) 1) (Some (size_byte (size_of t) ∷ bit_of (is_analog t) ∷ bit_of (is_reportable t) ∷ [])) None

-- ---- h: a frame

abbrev pub frame_type_byte : FrameType → ℕ
frame_type_byte GlobalCommand = 0
frame_type_byte ClusterCommand = 1
frame_type_byte Reserved = 2

-- nothing of a short one; else frame type, whether it has a manufacturer code, the code, sequence, command, where the body starts
abbrev pub header_says : Option ZclHeader → List ℕ
header_says None = []
header_says (Some h) =
    frame_type_byte (frame_type_of h.frame_control.0)
    ∷ bit_of (has_code h.frame_control.0)
    ∷ bytes_of 2 h.manufacturer_code.0
    ++ h.sequence_number
    ∷ h.command_identifier.0
    ∷ h.body % 256
    ∷ []

unfoldable pub of_header : List ℕ → Option (List ℕ)
of_header input = Some (header_says (header_of input))

-- ---- e, d: a type code, and bytes

-- 00 where no value ends in them; else 01 and where it ends
abbrev pub extent_says : Result ℕ NoExtent → List ℕ
extent_says (Ok e) = 1 ∷ bytes_of 2 e
extent_says (Err Cut) = 0 ∷ []
extent_says (Err Without) = 0 ∷ []

unfoldable pub of_extent : List ℕ → Option (List ℕ)
of_extent input = cond (eqb (length input) 0) None (Some (extent_says (extent_of (drop 1 input) 0 (get_or input 0 0))))

-- ---- s: bytes, which may be a store

unfoldable pub of_store : List ℕ → Option (List ℕ)
of_store input = Some (bit_of (is_store 8 input) ∷ [])

-- ---- v: an id (2), and a store

-- 00 and the number in eight bytes, or the number of the refusal
unfoldable pub number_says : Telling → List ℕ
number_says t = cond (eqb t.answer 0) (0 ∷ bytes_of 8 (residue (2 ^ 64) t.value)) (t.answer ∷ [])

unfoldable pub of_number : List ℕ → Option (List ℕ)
of_number input = cond (ltb (length input) 2) None (Some (number_says (telling (number_of 8 (drop 2 input) (name_of 0 (unsigned_at input 0 2))))))

-- ---- w: an id (2), a type, the length of a value (2), the value, and a store

-- the status, and the store afterwards
unfoldable pub write_says : Wrote → List ℕ
write_says w = status_code w.status ∷ w.store

unfoldable pub of_write : List ℕ → Option (List ℕ)
of_write input =
    let n : ℕ = unsigned_at input 3 2 in
    cond (ltb (length input) (5 + n))
    None
    (Some (write_says (write_of 8 (drop (5 + n) input) (name_of 0 (unsigned_at input 0 2)) (get_or input 2 0) (take n (drop 5 input)))))
