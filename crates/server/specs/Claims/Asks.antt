-- Claims. What a frame asks for, and by which header: said once, for all that is claimed of the frames of one command.
use Rattle.std.specs.Prelude.{◌≡◌, List, ℕ, Some}
use Rattle.frame.specs.declared.header.ZclHeader.{ZclHeader}
use Rattle.frame.specs.declared.header.FrameType.TheVariants.{GlobalCommand, ClusterCommand}
use Rattle.frame.specs.declared.command_identifier.CommandIdentifier.{CommandIdentifier}
use Rattle.frame.specs.Header.{frame_type_of, header_of}
use Rattle.frame.specs.CommandIdentifier.{command_of}

-- a frame of this global command, with this header
pub record Asks (asked : CommandIdentifier) (frame : List ℕ) (h : ZclHeader) : Type 0 where
  pub header : header_of frame ≡ Some h
  pub global : frame_type_of h.frame_control.0 ≡ GlobalCommand
  pub command : command_of h.command_identifier.0 ≡ asked

-- a frame of a cluster command, whichever it is
pub record AsksCluster (frame : List ℕ) (h : ZclHeader) : Type 0 where
  pub header : header_of frame ≡ Some h
  pub cluster : frame_type_of h.frame_control.0 ≡ ClusterCommand
