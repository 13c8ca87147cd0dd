-- No second answer fits a contract: at the same entry values there is one answer and one reply buffer. Assumes nothing.
use lib.ListN.{length}
use Rattle.frame.proofs.Outcome.{only_answer}
use Rattle.discover.specs.Discover.{discover_of}
use Rattle.discover.specs.Claims.Unique.{DiscoverAttributesOnce}

-- src/attributes.rt

pub discover_attributes_once : DiscoverAttributesOnce
discover_attributes_once store request body reply r q x y e f = only_answer (discover_of 8 store request body (length reply)) r q x y e f
