-- No second answer fits a contract: at the same entry values there is one answer and one reply buffer. Assumes nothing.
use lib.ListN.{length}
use Rattle.frame.proofs.Outcome.{only_answer}
use Rattle.read.specs.Read.{read_of}
use Rattle.read.specs.Claims.Unique.{ReadAttributesOnce}

-- src/attributes.rt

pub read_attributes_once : ReadAttributesOnce
read_attributes_once store request body reply r q x y e f = only_answer (read_of 8 store request body (length reply)) r q x y e f
