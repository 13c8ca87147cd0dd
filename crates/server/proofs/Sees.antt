-- What a command sees of a request's header: the sequence number, and the command's number, which a Default Response names. Assumes nothing.
--
-- Where nothing is decided by what is left out, the two sides are the same as soon as the definitions are open that hand the header on.
-- Where a case stands in between (a walk's end, a record), it is split first.
use mathlib.Core.Path.{◌≡◌, refl, ap, ◌∙◌, fun_ext}
use mathlib.Core.Bool.{Bool, false, ◌&&◌, and-false}
use mathlib.Core.List.{List}
use Prim.Native.Nat.{ℕ, ◌/◌, ◌%◌}
use lib.Dec.{eqb}
use Rattle.frame.specs.declared.header.ZclHeader.{ZclHeader}
use Rattle.frame.specs.declared.header.FrameType.{FrameType}
use Rattle.frame.specs.declared.header.FrameType.TheVariants.{GlobalCommand, ClusterCommand, Reserved}
use Rattle.frame.specs.declared.status.Status.{Status}
use Rattle.frame.specs.declared.status.Status.TheVariants.{UnsupCommand}
use Rattle.frame.specs.declared.command_identifier.CommandIdentifier.{CommandIdentifier}
use Rattle.frame.specs.declared.command_identifier.CommandIdentifier.TheVariants.{ConfigureReportingResponse}
use Rattle.frame.specs.Header.{reply_head}
use Rattle.frame.specs.Answer.{within}
use Rattle.frame.specs.Status.{status_code}
use Rattle.frame.specs.CommandIdentifier.{command_of}
use Rattle.frame.specs.Failures.{Did, performed, headed}
use Rattle.reporting.specs.declared.entry.Entry.{Entry}
use Rattle.reporting.specs.Table.{Table, holding, bad}
use Rattle.read.specs.Read.{record_for, read_of}
use Rattle.write.specs.Write.{written, checked, written_all, write_attributes, write_undivided, write_silently}
use Rattle.discover.specs.Discover.{discover_of}
use Rattle.configure.specs.Request.{ConfigureRecord, received, reported, configures}
use Rattle.configure.specs.Configure.{failing, encode as failed, tried, configure_entries, configure_of}
use Rattle.configure.specs.Configuration.{record_for as setting_for, configuration_of}
use Rattle.server.specs.DefaultResponse.{silences, default_reply, default_response}
use Rattle.server.specs.Serve.{neither, storing, tabling, unsupported, commanded, typed}
use Rattle.server.proofs.Cases.{commanded_case}

-- a header of which nothing else is left
abbrev pub bare : ZclHeader → ZclHeader
bare h =
    record {
      frame_control = record { 0 = 0 };
      manufacturer_code = record { 0 = 0 };
      sequence_number = h.sequence_number;
      command_identifier = h.command_identifier;
      body = 0;
    }

module _ (form : ℕ) (s : List ℕ) (h : ZclHeader) (body : List ℕ) (room : ℕ) where
  undivided_sees : write_undivided form s h body room ≡ write_undivided form s (bare h) body room
  unfolding write_undivided written_all written checked headed reply_head
  undivided_sees = refl

  tried_sees : (limit : ℕ) (l : List Entry) (r : ConfigureRecord) → tried form limit s h l r ≡ tried form limit s (bare h) l r
  unfolding tried
  tried_sees limit l (received direction id) = refl
  tried_sees limit l (reported id t g) = refl

  configure_sees : (limit : ℕ) (t : Table) → configure_of form limit s t h body room ≡ configure_of form limit s t (bare h) body room
  unfolding configure_of configure_entries headed reply_head
  configure_sees limit (holding l) =
      ap (λ (does : List Entry → ConfigureRecord → Did (List Entry)). within holding (headed h ConfigureReportingResponse l room (performed (record { does = does; fails = failing; bytes = failed }) (configures body) l room)))
      (fun_ext (λ m. fun_ext (tried_sees limit m)))
  configure_sees limit (bad t) = refl

  configuration_sees : (t : Table) → configuration_of form s t h body room ≡ configuration_of form s t (bare h) body room
  unfolding configuration_of setting_for reply_head
  configuration_sees (holding l) = refl
  configuration_sees (bad t) = refl

-- bit 4 silences a SUCCESS only
module _ (status : Status) (fails : eqb (status_code status) 0 ≡ false) where
  never_silenced : (control : ℕ) → silences control status ≡ false
  never_silenced control = ap (λ (b : Bool). eqb (control / 16 % 2) 1 && b) fails ∙ and-false (eqb (control / 16 % 2) 1)

  pub default_sees : (h : ZclHeader) (unicast : Bool) (room : ℕ) → default_response h unicast status room ≡ default_response (bare h) unicast status room
  unfolding default_response default_reply reply_head
  default_sees h unicast room = rw (never_silenced h.frame_control.0) refl

module _ (form limit : ℕ) (s : List ℕ) (t : Table) (unicast : Bool) (h : ZclHeader) (body : List ℕ) (room : ℕ) where
  unsupported_sees : unsupported s t unicast h room ≡ unsupported s t unicast (bare h) room
  unsupported_sees = ap (neither s t) (default_sees UnsupCommand refl h unicast room)

  pub commanded_sees : (c : CommandIdentifier) → commanded form limit s t unicast h body room c ≡ commanded form limit s t unicast (bare h) body room c
  unfolding read_of record_for write_attributes write_silently written_all written headed discover_of reply_head
  commanded_sees =
      commanded_case form limit s t unicast body room (λ f. f h ≡ f (bare h))
      (record {
        read = refl;
        write = refl;
        undivided = ap (storing t) (undivided_sees form s h body room);
        silently = refl;
        configure = ap (tabling s) (configure_sees form s h body room limit t);
        configuration = ap (neither s t) (configuration_sees form s h body room t);
        discover = refl;
        response = refl;
        other = unsupported_sees;
      })

  -- beside the frame's type, which goes by bits 0 and 1
  pub typed_sees : (k : FrameType) → typed form limit s t unicast h body room k ≡ typed form limit s t unicast (bare h) body room k
  unfolding typed
  typed_sees GlobalCommand = commanded_sees (command_of h.command_identifier.0)
  typed_sees ClusterCommand = unsupported_sees
  typed_sees Reserved = refl
