-- The number of an attribute's value, one law for each way out. Assumes nothing.
use Rattle.std.specs.Prelude.{Err, None, Ok, Some, Option, ok_or}
use Prim.Native.Nat.{ℕ}
use mathlib.Core.Path.{◌≡◌, refl}
use mathlib.Core.Bool.{true, false}
use mathlib.Core.List.{List}
use lib.IntN.{ℤ}
use Rattle.types.specs.Value.{number_at}
use Rattle.frame.specs.declared.answer.Refusal.TheVariants.{NotAStore, NoNumber}
use Rattle.store.specs.declared.lookup.Attribute.{Attribute}
use Rattle.store.specs.Contents.{find_of}
use Rattle.store.specs.Layout.{is_store}
use Rattle.store.specs.Value.{number_of}

module _ (form : ℕ) (s : List ℕ) (name : ℕ) where
  pub number_no_store : is_store form s ≡ false → number_of form s name ≡ Err NotAStore
  unfolding number_of
  number_no_store h = rw h refl

  module _ (h : is_store form s ≡ true) where
    pub number_absent : find_of form s name ≡ None → number_of form s name ≡ Err NoNumber
    unfolding number_of
    number_absent e = rw (h, e) refl

    module _ (a : Attribute) (e : find_of form s name ≡ Some a) where
      pub number_without : number_at s a.offset a.type_id.0 ≡ None → number_of form s name ≡ Err NoNumber
      unfolding number_of
      number_without n = rw (h, e, n) refl

      pub number_is : (z : ℤ) → number_at s a.offset a.type_id.0 ≡ Some z → number_of form s name ≡ Ok z
      unfolding number_of
      number_is z n = rw (h, e, n) refl

      -- both at once, as the code has it
      pub number_or : number_of form s name ≡ ok_or (number_at s a.offset a.type_id.0) NoNumber
      number_or = go _ refl
        where
          go : (o : Option ℤ) → number_at s a.offset a.type_id.0 ≡ o → number_of form s name ≡ ok_or o NoNumber
          go (Some z) n = number_is z n
          go None n = number_without n
