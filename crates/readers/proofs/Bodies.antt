-- Which frames a body starts in. Assumes nothing.
use mathlib.Core.Path.{◌≡◌, refl}
use denote.Enum.Bare.{sameb}
use Rattle.frame.specs.contracts.header.FrameType as frame-type
use Rattle.frame.specs.Header.{is_global}
use Rattle.frame.specs.declared.header.FrameType.{FrameType}
use Rattle.frame.specs.declared.header.FrameType.TheVariants.{GlobalCommand, ClusterCommand, Reserved}

-- the derived equality tells a global command from the other types
pub same_global : (t : FrameType) → sameb frame-type.the_type t GlobalCommand ≡ is_global t
same_global GlobalCommand = refl
same_global ClusterCommand = refl
same_global Reserved = refl
