-- Of a request's header only the manufacturer code counts for what is done with its records. Assumes nothing.
use mathlib.Core.Path.{◌≡◌, ap}
use Prim.Native.Nat.{ℕ}
use Rattle.frame.specs.declared.header.ManufacturerCode.{ManufacturerCode}
use Rattle.frame.specs.declared.header.ZclHeader.{ZclHeader}
use Rattle.store.specs.Contents.{name_of}
use Rattle.store.specs.Write.{write_of}
use Rattle.write.specs.Write.{written, listing, writing}

pub same_writing : (form : ℕ) (p q : ZclHeader) → p.manufacturer_code ≡ q.manufacturer_code → writing form p ≡ writing form q
unfolding written
same_writing form p q e = ap (λ (c : ManufacturerCode). listing (λ s r. write_of form s (name_of c.0 r.id) r.type r.value)) e
