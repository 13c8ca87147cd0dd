-- What the three commands keep of a store, whatever the body holds. Assumes nothing.
use mathlib.Core.Path.{◌≡◌, refl, sym, ◌∙◌, subst}
use mathlib.Core.Bool.{Bool, true}
use mathlib.Core.List.{List, [], ◌∷◌}
use Prim.Native.Nat.{ℕ, ◌≤◌}
use lib.ListN.{length}
use Rattle.frame.specs.declared.header.ZclHeader.{ZclHeader}
use Rattle.frame.specs.declared.command_identifier.CommandIdentifier.TheVariants.{WriteAttributesResponse}
use Rattle.frame.specs.Walk.{Way, through, broken, stopped, reached}
use Rattle.frame.specs.Encoded.{fits}
use Rattle.frame.specs.Failures.{Sofar, pass, always}
use Rattle.frame.proofs.States.{headed_keeps, pass_keeps, concluded_keeps, performed_keeps}
use Rattle.store.specs.Contents.{name_of}
use Rattle.store.specs.Layout.{is_store}
use Rattle.store.specs.Claims.Stays.{StoreLike}
use Rattle.store.proofs.Writes.{write_length, write_store, write_contents}
use Rattle.write.specs.Request.{WriteRecord, records}
use Rattle.write.specs.Reply.{Failure, encode}
use Rattle.write.specs.Write.{written, checked, writing, checking, write_attributes, if_none, settled, written_all, write_undivided, write_silently}
use Rattle.write.proofs.Items.{Whole, records_whole}

-- ---- a first pass changes nothing

pub checking_same : (form : ℕ) (request : ZclHeader) (s : List ℕ) (r : WriteRecord) → (checked form request s r).store ≡ s
unfolding checked
checking_same form request s r = refl

pub check_pass_same : (form : ℕ) (request : ZclHeader) (fine : List Failure → Bool) (body s : List ℕ) → (reached (pass (checking form request) fine (records body) s)).state ≡ s
check_pass_same form request fine body s =
    pass_keeps (checking form request) (λ t. t ≡ s) Whole (λ t r h w. checking_same form request t r ∙ h) (records body) (records_whole body 0) fine s refl

-- ---- what every write of one whole value keeps

-- of the store that each of the three commands leaves
pub record Keeps (P : List ℕ → Type 0) (form : ℕ) (s : List ℕ) (request : ZclHeader) (body : List ℕ) (room : ℕ) : Type 0 where
  pub by_write : P (write_attributes form s request body room).state
  pub by_undivided : P (write_undivided form s request body room).state
  pub by_silent : P (write_silently form s request body room).state

module _ (P : List ℕ → Type 0) (form : ℕ) (request : ZclHeader) (keep : (t : List ℕ) (r : WriteRecord) → P t → Whole r → P (written form request t r).store) (body : List ℕ) (room : ℕ) where
  -- what follows a first pass, whichever it is
  all_keep : (s : List ℕ) → P s → P (written_all form request body s)
  unfolding written_all
  all_keep s h = pass_keeps (writing form request) P Whole keep (records body) (records_whole body 0) always s h

  settled_keeps : (way : Way (Sofar (List ℕ) Failure)) → P (reached way).state → P (reached (settled (written_all form request body) way)).state
  settled_keeps (through x) h = go x.failures
    where
      go : (fs : List Failure) → P (if_none fs (written_all form request body x.state) x.state)
      go [] = all_keep x.state h
      go (f ∷ fs) = h
  settled_keeps (broken x) h = h
  settled_keeps (stopped x y) h = h

  -- THE LAW: what every record keeps, all three commands keep
  pub commands_keep : (s : List ℕ) → P s → Keeps P form s request body room
  unfolding write_attributes write_undivided write_silently
  commands_keep s h = record {
    by_write = headed_keeps P request WriteAttributesResponse s room _ h
        (λ head. performed_keeps (writing form request) P Whole keep (records body) (records_whole body 0) s room head h);
    by_undivided = headed_keeps P request WriteAttributesResponse s room _ h
        (λ head.
        let way : Way (Sofar (List ℕ) Failure) = pass (checking form request) (fits encode room (length head)) (records body) s in
        concluded_keeps (writing form request) P Whole keep (records body) (records_whole body 0) room head (settled (written_all form request body) way)
        (settled_keeps way (subst P (sym (check_pass_same form request (fits encode room (length head)) body s)) h)));
    by_silent = all_keep s h;
  }

-- ---- the length of any bytes, and a store's layout and contents

module _ (form : ℕ) (s : List ℕ) (request : ZclHeader) where
  pub record_alike : 8 ≤ form → (t : List ℕ) (r : WriteRecord) → StoreLike form s t → Whole r → StoreLike form s (written form request t r).store
  unfolding written
  record_alike wide t r a w =
      let name : ℕ = name_of request.manufacturer_code.0 r.id in
      record {
        still = write_store form t name r.type r.value a.still w wide;
        same_length = write_length form t name r.type r.value ∙ a.same_length;
        same_contents = write_contents form t name r.type r.value a.still w wide ∙ a.same_contents;
      }

  module _ (body : List ℕ) (room : ℕ) where
    -- A STORE STAYS A STORE under each of the three commands, for every request
    pub write_keeps : 8 ≤ form → is_store form s ≡ true → Keeps (StoreLike form s) form s request body room
    write_keeps wide h = commands_keep (StoreLike form s) form request (record_alike wide) body room s (record { still = h; same_length = refl; same_contents = refl })
