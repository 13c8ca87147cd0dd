-- No second answer fits a contract: at the same entry values there is one answer, one reply buffer and one store. Assumes nothing.
use lib.ListN.{length}
use Rattle.frame.proofs.Outcome.{only_one}
use Rattle.write.specs.Write.{write_attributes, write_undivided, write_silently}
use Rattle.write.specs.Claims.Unique.{WriteAttributesOnce, WriteAttributesUndividedOnce, WriteAttributesNoResponseOnce}

-- src/attributes.rt

pub write_attributes_once : WriteAttributesOnce
write_attributes_once store request body reply r q x y s u e f = only_one (write_attributes 8 store request body (length reply)) r q x y s u e f

pub write_attributes_undivided_once : WriteAttributesUndividedOnce
write_attributes_undivided_once store request body reply r q x y s u e f = only_one (write_undivided 8 store request body (length reply)) r q x y s u e f

pub write_attributes_no_response_once : WriteAttributesNoResponseOnce
write_attributes_no_response_once store request body reply r q x y s u e f = only_one (write_silently 8 store request body (length reply)) r q x y s u e f
