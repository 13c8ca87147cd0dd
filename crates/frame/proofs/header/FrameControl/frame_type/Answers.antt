-- `header::FrameControl::frame_type` meets its contract: the two low bits, an arm for a value. Assumes nothing.
use borrow.Author.Tests.{ne_eqb}
use Rattle.frame.specs.Header.{frame_type_of}
use Rattle.frame.proofs.header.FrameControl.frame_type.Goals as goal

pub returns-in-0 : goal.returns-in-0
unfolding frame_type_of
returns-in-0 c = simp c.in-0.is

pub returns-in-1 : goal.returns-in-1
unfolding frame_type_of
returns-in-1 c = simp c.in-1.is

pub returns-in_default : goal.returns-in_default
unfolding frame_type_of
returns-in_default c = simp (ne_eqb _ 0 c.in_default.in_default-own.rest.0.1, ne_eqb _ 1 c.in_default.in_default-own.rest.1)
