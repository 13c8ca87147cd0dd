-- A list cut in two, of served frames (specs/Claims/Split.antt). Assumes nothing.
use mathlib.Core.Path.{◌≡◌, sym, ap, ◌∙◌, subst}
use mathlib.Core.Logic.{inl, inr}
use mathlib.Core.Bool.{true}
use mathlib.Core.List.{List, ◌++◌}
use Prim.Native.Nat.{ℕ, ◌≤◌}
use Rattle.frame.specs.declared.header.ZclHeader.{ZclHeader}
use Rattle.frame.specs.declared.command_identifier.CommandIdentifier.TheVariants.{WriteAttributes, WriteAttributesResponse, ConfigureReporting, ConfigureReportingResponse}
use Rattle.frame.specs.Answer.{Outcome, within}
use Rattle.frame.specs.Walk.{Records, joined}
use Rattle.frame.specs.Failures.{Doing}
use Rattle.frame.specs.Claims.Troubles.{executed, Not5}
use Rattle.frame.proofs.States.{folded, folded_append, performed_folded}
use Rattle.frame.proofs.Split.{first_leaves, second_leaves}
use Rattle.store.specs.Contents.{cluster_of}
use Rattle.store.specs.Layout.{is_store}
use Rattle.reporting.specs.declared.entry.Entry.{Entry}
use Rattle.reporting.specs.Table.{holding}
use Rattle.write.specs.Request.{WriteRecord, records}
use Rattle.write.specs.Reply as Write
use Rattle.write.specs.Write.{writing, write_attributes}
use Rattle.write.proofs.Append.{records_append}
use Rattle.write.proofs.Coded.{same_writing}
use Rattle.write.proofs.Items.{records_whole}
use Rattle.write.proofs.Order.{steps}
use Rattle.configure.specs.Request.{ConfigureRecord, configures}
use Rattle.configure.specs.Configure as Configure
use Rattle.configure.specs.Configure.{configuring, configure_entries, configure_of}
use Rattle.configure.proofs.Append.{configures_append}
use Rattle.configure.proofs.Coded.{same_configuring}
use Rattle.server.specs.Serve.{State, state}
use Rattle.server.specs.Claims.Split.{Call, body_of, IsCall, Writes, answer_to, after, Fits, Joined, Readable, NoneRefused, WholeFits, WritesJoin, WritesJoinRoomy, ConfiguresJoin, ConfiguresJoinRoomy}
use Rattle.server.proofs.Called.{by_write, by_configure, leaves, silent_leaves, write_leaves, after_like, after_own, stays_called, stays_write, joins_by}

-- ---- writes

module _ (form limit cluster : ℕ) (wide : 8 ≤ form) (s : List ℕ) (l : List Entry) (is : is_store form s ≡ true) (own : cluster ≡ cluster_of s) (a b whole : Call) (j : Joined a b whole) (readable : Readable records a) where
  abbrev start : State
  start = state s (holding l)

  abbrev one : List WriteRecord
  one = (records (body_of a)).list

  abbrev two : List WriteRecord
  two = (records (body_of b)).list

  abbrev between : List ℕ
  between = steps form a.header s one

  both : records (body_of whole) ≡ joined (records (body_of a)) (records (body_of b))
  both = ap records j.body ∙ records_append (body_of a) (body_of b) readable

  -- A's records and then B's are the joined list's
  steps_join : steps form b.header between two ≡ steps form whole.header s (one ++ two)
  steps_join =
      (λ i. folded (same_writing form b.header whole.header j.second_code i) (folded (same_writing form a.header whole.header j.first_code i) s one) two)
      ∙ sym (folded_append (writing form whole.header) one two s)

  joined_leaves : leaves form limit cluster wide s l is own whole ≡ state (steps form whole.header s (one ++ two)) (holding l)
  joined_leaves = ap (λ (rs : Records WriteRecord). state (steps form whole.header s rs.list) (holding l)) both

  there : is_store form between ≡ true
  there = (after_like form limit cluster wide s l is own a.header one (records_whole (body_of a) 0)).still

  ours : cluster ≡ cluster_of between
  ours = after_own form limit cluster wide s l is own a.header one (records_whole (body_of a) 0)

  abbrev second_leaves_of : Call → State
  second_leaves_of k = leaves form limit cluster wide between l there ours k

  -- where each of the three leaves what its records leave
  all_leave : after form limit cluster start a ≡ leaves form limit cluster wide s l is own a → after form limit cluster (state between (holding l)) b ≡ second_leaves_of b
      → after form limit cluster start whole ≡ leaves form limit cluster wide s l is own whole
      → after form limit cluster (after form limit cluster start a) b ≡ after form limit cluster start whole
  all_leave e f g = ap (λ (y : State). after form limit cluster y b) e ∙ f ∙ ap (λ (t : List ℕ). state t (holding l)) steps_join ∙ sym joined_leaves ∙ sym g

  -- by 02 in a room that is no smaller than that of a joined list which fits
  module _ (w : IsCall WriteAttributes whole) (n : Fits (answer_to form limit cluster start whole)) where
    whole_fits : Not5 (executed (writing form whole.header) whole.header WriteAttributesResponse s (joined (records (body_of a)) (records (body_of b))) whole.room)
    unfolding write_attributes
    whole_fits f =
        n (ap (λ (o : Outcome State). o.number) (by_write form limit cluster wide s l is own whole w)
        ∙ ap (λ (rs : Records WriteRecord). (executed (writing form whole.header) whole.header WriteAttributesResponse s rs whole.room).number) both ∙ f)

    first_roomy : Writes a → whole.room ≤ a.room → after form limit cluster start a ≡ leaves form limit cluster wide s l is own a
    unfolding write_attributes
    first_roomy (inl k) h =
        let e = same_writing form a.header whole.header j.first_code in
        ap (λ (o : Outcome State). o.state) (by_write form limit cluster wide s l is own a k)
        ∙ ap (λ (t : List ℕ). state t (holding l))
        (ap (λ (d : Doing (List ℕ) WriteRecord Write.Failure). (executed d a.header WriteAttributesResponse s (records (body_of a)) a.room).state) e
        ∙ first_leaves (writing form whole.header) WriteAttributesResponse whole.header s (records (body_of a)) (records (body_of b)) whole.room readable whole_fits a.header a.room h
        ∙ ap (λ (d : Doing (List ℕ) WriteRecord Write.Failure). folded d s one) (sym e))
    first_roomy (inr k) h = silent_leaves form limit cluster wide s l is own a k

    second_roomy : Writes b → whole.room ≤ b.room → after form limit cluster (state between (holding l)) b ≡ second_leaves_of b
    unfolding write_attributes
    second_roomy (inl k) h =
        let e = same_writing form b.header whole.header j.second_code in
        let same : between ≡ folded (writing form whole.header) s one = ap (λ (d : Doing (List ℕ) WriteRecord Write.Failure). folded d s one) (same_writing form a.header whole.header j.first_code) in
        ap (λ (o : Outcome State). o.state) (by_write form limit cluster wide between l there ours b k)
        ∙ ap (λ (t : List ℕ). state t (holding l))
        ((λ i. (executed (e i) b.header WriteAttributesResponse (same i) (records (body_of b)) b.room).state)
        ∙ second_leaves (writing form whole.header) WriteAttributesResponse whole.header s (records (body_of a)) (records (body_of b)) whole.room readable whole_fits b.header b.room h
        ∙ sym steps_join)
    second_roomy (inr k) h = silent_leaves form limit cluster wide between l there ours b k

  writes_open : Writes a → Writes b → Writes whole → NoneRefused form limit cluster start a b whole → after form limit cluster (after form limit cluster start a) b ≡ after form limit cluster start whole
  writes_open u v w n =
      let e = write_leaves form limit cluster wide s l is own a u n.0 in
      all_leave e
      (write_leaves form limit cluster wide between l there ours b v (subst (λ (y : State). Fits (answer_to form limit cluster y b)) e n.1.0))
      (write_leaves form limit cluster wide s l is own whole w n.1.1)

  writes_roomy : Writes a → Writes b → IsCall WriteAttributes whole → WholeFits form limit cluster start a b whole → after form limit cluster (after form limit cluster start a) b ≡ after form limit cluster start whole
  writes_roomy u v w n =
      all_leave (first_roomy w n.1 u n.0.0) (second_roomy w n.1 v n.0.1) (write_leaves form limit cluster wide s l is own whole (inl w) n.1)

-- ---- configure lists

module _ (form limit cluster : ℕ) (wide : 8 ≤ form) (s : List ℕ) (l : List Entry) (is : is_store form s ≡ true) (own : cluster ≡ cluster_of s) (a b whole : Call) (j : Joined a b whole)
    (readable : Readable configures a) (u : IsCall ConfigureReporting a) (v : IsCall ConfigureReporting b) (w : IsCall ConfigureReporting whole) where
  abbrev begun : State
  begun = state s (holding l)

  abbrev entries : List Entry → Call → List Entry
  entries m k = (configure_entries form limit s m k.header (body_of k) k.room).state

  entered : (m : List Entry) (k : Call) → IsCall ConfigureReporting k → answer_to form limit cluster (state s (holding m)) k ≡ within (λ (e : List Entry). state s (holding e)) (configure_entries form limit s m k.header (body_of k) k.room)
  unfolding configure_of
  entered m k c = by_configure form limit cluster wide s m is own k c

  left_by : (m : List Entry) (k : Call) → IsCall ConfigureReporting k → after form limit cluster (state s (holding m)) k ≡ state s (holding (entries m k))
  left_by m k c = ap (λ (o : Outcome State). o.state) (entered m k c)

  -- where the two lists leave what the joined one leaves of the entries
  entries_join : entries (entries l a) b ≡ entries l whole → after form limit cluster (after form limit cluster begun a) b ≡ after form limit cluster begun whole
  entries_join e =
      ap (λ (y : State). after form limit cluster y b) (left_by l a u) ∙ left_by (entries l a) b v ∙ ap (λ (m : List Entry). state s (holding m)) e ∙ sym (left_by l whole w)

  fits_entries : (m : List Entry) (k : Call) → IsCall ConfigureReporting k → Fits (answer_to form limit cluster (state s (holding m)) k) → Not5 (configure_entries form limit s m k.header (body_of k) k.room)
  fits_entries m k c n f = n (ap (λ (o : Outcome State). o.number) (entered m k c) ∙ f)

  abbrev own_records : Call → Records ConfigureRecord
  own_records k = configures (body_of k)

  both_lists : own_records whole ≡ joined (own_records a) (own_records b)
  both_lists = ap configures j.body ∙ configures_append (body_of a) (body_of b) readable

  abbrev doing : ZclHeader → Doing (List Entry) ConfigureRecord Configure.Failure
  doing h = configuring form limit s h

  abbrev ended : List Entry
  ended = folded (doing whole.header) l ((own_records a).list ++ (own_records b).list)

  -- a call that is not refused by 5 leaves what its records leave
  folds : (m : List Entry) (k : Call) → Not5 (configure_entries form limit s m k.header (body_of k) k.room) → entries m k ≡ folded (doing k.header) m (own_records k).list
  unfolding configure_entries
  folds m k n = performed_folded (doing k.header) (own_records k) k.header ConfigureReportingResponse m k.room n

  whole_ended : Not5 (configure_entries form limit s l whole.header (body_of whole) whole.room) → entries l whole ≡ ended
  whole_ended n = folds l whole n ∙ ap (λ (rs : Records ConfigureRecord). folded (doing whole.header) l rs.list) both_lists

  same_first : doing a.header ≡ doing whole.header
  same_first = same_configuring form limit s a.header whole.header j.first_code

  same_second : doing b.header ≡ doing whole.header
  same_second = same_configuring form limit s b.header whole.header j.second_code

  configures_open : NoneRefused form limit cluster begun a b whole → after form limit cluster (after form limit cluster begun a) b ≡ after form limit cluster begun whole
  configures_open n =
      let first = folds l a (fits_entries l a u n.0) in
      let second = folds (entries l a) b (fits_entries (entries l a) b v (subst (λ (y : State). Fits (answer_to form limit cluster y b)) (left_by l a u) n.1.0)) in
      entries_join
      (second
      ∙ (λ i. folded (same_second i) ((first ∙ ap (λ (d : Doing (List Entry) ConfigureRecord Configure.Failure). folded d l (own_records a).list) same_first) i) (own_records b).list)
      ∙ sym (folded_append (doing whole.header) (own_records a).list (own_records b).list l)
      ∙ sym (whole_ended (fits_entries l whole w n.1.1)))

  configures_roomy : WholeFits form limit cluster begun a b whole → after form limit cluster (after form limit cluster begun a) b ≡ after form limit cluster begun whole
  unfolding configure_entries
  configures_roomy n =
      let fit = fits_entries l whole w n.1 in
      let alike : Not5 (executed (doing whole.header) whole.header ConfigureReportingResponse l (joined (own_records a) (own_records b)) whole.room)
      = subst (λ (rs : Records ConfigureRecord). Not5 (executed (doing whole.header) whole.header ConfigureReportingResponse l rs whole.room)) both_lists fit in
      let first : entries l a ≡ folded (doing whole.header) l (own_records a).list
      = ap (λ (d : Doing (List Entry) ConfigureRecord Configure.Failure). (executed d a.header ConfigureReportingResponse l (own_records a) a.room).state) same_first
      ∙ first_leaves (doing whole.header) ConfigureReportingResponse whole.header l (own_records a) (own_records b) whole.room readable alike a.header a.room n.0.0 in
      entries_join
      ((λ i. (executed (same_second i) b.header ConfigureReportingResponse (first i) (own_records b) b.room).state)
      ∙ second_leaves (doing whole.header) ConfigureReportingResponse whole.header l (own_records a) (own_records b) whole.room readable alike b.header b.room n.0.1
      ∙ sym (whole_ended fit))

pub writes_join : WritesJoin
writes_join form limit cluster x a b whole wide j ((u, (v, w)), (r, n)) =
    joins_by form limit cluster x a b whole (stays_write form limit cluster x a u) (stays_write form limit cluster x b v) (stays_write form limit cluster x whole w)
    (λ y. NoneRefused form limit cluster y a b whole) (λ l is own. writes_open form limit cluster wide x.store l is own a b whole j r u v w) n

pub writes_join_roomy : WritesJoinRoomy
writes_join_roomy form limit cluster x a b whole wide j ((u, (v, w)), (r, n)) =
    joins_by form limit cluster x a b whole (stays_write form limit cluster x a u) (stays_write form limit cluster x b v) (stays_called form limit cluster x whole w)
    (λ y. WholeFits form limit cluster y a b whole) (λ l is own. writes_roomy form limit cluster wide x.store l is own a b whole j r u v w) n

pub configures_join : ConfiguresJoin
configures_join form limit cluster x a b whole wide j ((u, (v, w)), (r, n)) =
    joins_by form limit cluster x a b whole (stays_called form limit cluster x a u) (stays_called form limit cluster x b v) (stays_called form limit cluster x whole w)
    (λ y. NoneRefused form limit cluster y a b whole) (λ l is own. configures_open form limit cluster wide x.store l is own a b whole j r u v w) n

pub configures_join_roomy : ConfiguresJoinRoomy
configures_join_roomy form limit cluster x a b whole wide j ((u, (v, w)), (r, n)) =
    joins_by form limit cluster x a b whole (stays_called form limit cluster x a u) (stays_called form limit cluster x b v) (stays_called form limit cluster x whole w)
    (λ y. WholeFits form limit cluster y a b whole) (λ l is own. configures_roomy form limit cluster wide x.store l is own a b whole j r u v w) n
