-- Of a request's header only the manufacturer code counts for what is done with its records. Assumes nothing.
use mathlib.Core.Path.{◌≡◌, refl, ap, fun_ext}
use mathlib.Core.List.{List}
use Prim.Native.Nat.{ℕ}
use Rattle.frame.specs.declared.header.ManufacturerCode.{ManufacturerCode}
use Rattle.frame.specs.declared.header.ZclHeader.{ZclHeader}
use Rattle.frame.specs.Failures.{Did}
use Rattle.store.specs.Contents.{name_of, find_of}
use Rattle.reporting.specs.declared.entry.Entry.{Entry}
use Rattle.configure.specs.Request.{key_for, ConfigureRecord, received, reported}
use Rattle.configure.specs.Configure.{failing, encode, checked, setting, tried, configuring}

module _ (form limit : ℕ) (s : List ℕ) (p q : ZclHeader) (code : p.manufacturer_code ≡ q.manufacturer_code) where
  tried_same : (l : List Entry) (r : ConfigureRecord) → tried form limit s p l r ≡ tried form limit s q l r
  unfolding tried
  tried_same l (received direction id) = refl
  tried_same l (reported id t g) = ap (λ (c : ManufacturerCode). checked (find_of form s (name_of c.0 id)) t l (setting limit (key_for s q id) g l)) code

  pub same_configuring : configuring form limit s p ≡ configuring form limit s q
  same_configuring = ap (λ (f : List Entry → ConfigureRecord → Did (List Entry)). record { does = f; fails = failing; bytes = encode }) (fun_ext (λ l. fun_ext (λ r. tried_same l r)))
