-- What every call of the server's functions leaves to C: what crate `server` proves of the served request, of the responder and of a report, and over what
-- is no table the refusal. Assumes nothing.
use mathlib.Core.Path.{◌≡◌, refl, sym, ap, ◌∙◌, subst}
use mathlib.Core.Bool.{Bool, true, false, cond, true≢false}
use mathlib.Core.List.{List, []}
use Prim.Native.Nat.{ℕ, ◌^◌, ◌<◌}
use native.Mathlib.Omega.{arith}
use lib.ListN.{length}
use Rattle.types.specs.Number.{AllBytes}
use Rattle.frame.specs.declared.answer.Refusal.{Refusal}
use Rattle.frame.specs.declared.answer.Refusal.TheVariants.{NotAStore, NotATable}
use Rattle.frame.specs.Header.{frame_type_of}
use Rattle.frame.specs.Answer.{refusal_number, Outcome, within, refused}
use Rattle.frame.proofs.Codes.{refusal_nonzero}
use Rattle.store.specs.Layout.{is_store}
use Rattle.store.specs.Claims.Stays.{StoreLike}
use Rattle.reporting.specs.declared.entry.Entry.{Entry}
use Rattle.reporting.specs.Table.{capacity, holding}
use Rattle.reporting.specs.Carried.{is_table, table_in, table_bytes}
use Rattle.reporting.specs.Lent.{bytes_after}
use Rattle.reporting.proofs.CarriageTable.{table_is, bytes_back, length_table, the_conditions, table_count, table_clean}
use Rattle.reporting.proofs.Kept.{Kept}
use Rattle.server.specs.Serve.{State, serve}
use Rattle.report.specs.Turn.{After, turn_for}
use Rattle.report.specs.Claims.Turns.{frame_of, turned}
use Rattle.report.specs.Claims.History.{marking}
use Rattle.report.proofs.Moves.{turn_leaves}
use Rattle.report.proofs.Rows.{turn_leads}
use Rattle.server.specs.Lent.{Lent, lent, carried, serve_lent}
use Rattle.server.specs.Claims.Left.{Clears, ThenZeros, AsLong, Early}
use Rattle.server.specs.Claims.Starts.{Starts, answering}
use Rattle.server.specs.Claims.History.{Request, requested, request_events}
use Rattle.server.proofs.Says.{Says, declines, says_clears, says_zeros, says_long}
use Rattle.server.proofs.Refusals.{refusal_clears, reply_then_zeros, reply_length, untouched}
use Rattle.server.proofs.Elsewhere.{responder_clears, responder_then_zeros, responder_length, report_clears, report_then_zeros, report_length}
use Rattle.server.proofs.TurnsLeft.{turn_clears, turn_then_zeros, turn_length, turn_untouched, turns_start}
use Rattle.server.proofs.Starting.{replies_start, responses_start, reports_start}
use Rattle.server.proofs.Stays.{store_stays}
use Rattle.server.proofs.Fitting.{request_fits, marking_fits}
use Rattle.server.proofs.Histories.{request_is, request_holds}
use Rattle.hingedrift.specs.Serving.{is_unicast, turn_left, handle_left}
use Rattle.hingedrift.specs.Claims.Left.{HdHandleRequestClears, HdHandleRequestThenZeros, HdHandleRequestLength, HdHandleRequestStarts, HdUntouched, HdNoTableStays, HdStoreStays, HdTableStays, HdUnsupportedClusterClears, HdUnsupportedClusterThenZeros, HdUnsupportedClusterLength, HdUnsupportedClusterStarts, HdReportClears, HdReportThenZeros, HdReportLength, HdReportStarts, HdReportTurnClears, HdReportTurnThenZeros, HdReportTurnLength, HdReportTurnUntouched, HdReportTurnTableStays, HdReportTurnStarts, HdConfigureNoTable, HdConfigureNoMark}
use Rattle.hingedrift.proofs.Bridge.{configure_no_table, configure_no_mark}
use Rattle.hingedrift.proofs.Kept.{run_keeps}

-- ---- hd_handle_request

module _ (s bs : List ℕ) (cluster unicast : ℕ) (frame : List ℕ) (size : ℕ) where
  abbrev served : Outcome State
  served = serve 8 capacity s (holding (table_in bs)) cluster (is_unicast unicast) frame size

  abbrev unserved : Outcome Lent
  unserved = refused size (cond (is_store 8 s) NotATable NotAStore) (lent s bs)

  -- the bytes are a table, and it is served; or they are none
  handled : (P : Outcome Lent → Type 0) → (is_table capacity bs ≡ true → P (within (carried bs) served)) → (is_table capacity bs ≡ false → P unserved)
      → P (handle_left s bs cluster unicast frame size)
  unfolding serve_lent
  handled P one none = go (is_table capacity bs) refl
    where
      go : (b : Bool) → is_table capacity bs ≡ b → P (cond b (within (carried bs) served) unserved)
      go true e = one e
      go false e = none e

  unserved_says : Says [] size unserved
  unserved_says = declines (cond (is_store 8 s) NotATable NotAStore) refl

pub hd_handle_request_clears : HdHandleRequestClears
hd_handle_request_clears s bs cluster unicast frame size =
    handled s bs cluster unicast frame size (λ o. Clears size o) (λ e. refusal_clears 8 capacity s (holding (table_in bs)) cluster (is_unicast unicast) frame size)
    (λ e. says_clears [] size _ (unserved_says s bs cluster unicast frame size))

pub hd_handle_request_then_zeros : HdHandleRequestThenZeros
hd_handle_request_then_zeros s bs cluster unicast frame size =
    handled s bs cluster unicast frame size (λ o. ThenZeros size o) (λ e. reply_then_zeros 8 capacity s (holding (table_in bs)) cluster (is_unicast unicast) frame size)
    (λ e. says_zeros [] size _ (unserved_says s bs cluster unicast frame size))

pub hd_handle_request_length : HdHandleRequestLength
hd_handle_request_length s bs cluster unicast frame size =
    handled s bs cluster unicast frame size (λ o. AsLong size o) (λ e. reply_length 8 capacity s (holding (table_in bs)) cluster (is_unicast unicast) frame size)
    (λ e. says_long [] size _ (unserved_says s bs cluster unicast frame size))

pub hd_untouched : HdUntouched
hd_untouched s bs cluster unicast frame size =
    handled s bs cluster unicast frame size (λ o. (why : Refusal) → Early why → o.number ≡ refusal_number why → (o.state.store ≡ s) × (AllBytes bs → o.state.table ≡ bs))
    (λ e why early k.
    let same = untouched 8 capacity s (holding (table_in bs)) cluster (is_unicast unicast) frame size why early k in
    (ap (λ (x : State). x.store) same, λ b. ap (λ (x : State). bytes_after bs x.table) same ∙ bytes_back capacity bs b e))
    (λ e why early k. (refl, λ b. refl))

pub hd_no_table_stays : HdNoTableStays
hd_no_table_stays s bs cluster unicast frame size =
    handled s bs cluster unicast frame size (λ o. is_table capacity bs ≡ false → (o.number ≡ refusal_number (cond (is_store 8 s) NotATable NotAStore)) × (o.state ≡ lent s bs))
    (λ e none. absurd (true≢false (sym e ∙ none)))
    (λ e none. (refl, refl))

pub hd_store_stays : HdStoreStays
hd_store_stays s bs cluster unicast frame size =
    handled s bs cluster unicast frame size (λ o. is_store 8 s ≡ true → StoreLike 8 s o.state.store)
    (λ e is. store_stays 8 capacity s (holding (table_in bs)) cluster (is_unicast unicast) frame size (omega arith) is)
    (λ e is. record { still = is; same_length = refl; same_contents = refl })

-- the entries of bytes that are a table fit one
own_kept : (bs : List ℕ) → AllBytes bs → is_table capacity bs ≡ true → Kept capacity (table_in bs)
own_kept bs tb is = record { small = omega (arith, table_count bs, (the_conditions capacity bs is).count); clean = table_clean capacity bs tb is }

module _ (s bs : List ℕ) (cluster unicast : ℕ) (frame : List ℕ) (size : ℕ) (sb : AllBytes s) (tb : AllBytes bs) (fb : AllBytes frame) (is : is_table capacity bs ≡ true) where
  abbrev asked : Request
  asked = record { store = s; cluster = cluster; unicast = is_unicast unicast; frame = frame; room = size }

  abbrev after : List Entry
  after = requested capacity asked (table_in bs)

  pub fits_after : Kept capacity after
  fits_after =
      subst (Kept capacity) (request_is capacity asked (table_in bs)).table
      (run_keeps capacity (request_events capacity asked (table_in bs)) (table_in bs) (request_fits capacity asked (table_in bs) sb fb) (own_kept bs tb is))

  bytes_after_lem : bytes_after bs (served s bs cluster unicast frame size).state.table ≡ table_bytes capacity after
  bytes_after_lem = ap (bytes_after bs) (request_holds capacity asked (table_in bs))

pub hd_table_stays : HdTableStays
hd_table_stays s bs cluster unicast frame size sb tb fb is =
    handled s bs cluster unicast frame size (λ o. (is_table capacity o.state.table ≡ true) × (length o.state.table ≡ length bs))
    (λ e.
    let kept = fits_after s bs cluster unicast frame size sb tb fb is in
    let same = bytes_after_lem s bs cluster unicast frame size sb tb fb is in
    (ap (is_table capacity) same ∙ table_is capacity _ kept.small kept.clean, ap length same ∙ length_table capacity _ kept.small ∙ sym (the_conditions capacity bs is).size))
    (λ none. absurd (true≢false (sym is ∙ none)))

pub hd_handle_request_starts : HdHandleRequestStarts
hd_handle_request_starts s bs cluster unicast frame size h e =
    handled s bs cluster unicast frame size (λ o. Starts h.sequence_number (answering (frame_type_of h.frame_control.0) h.command_identifier.0) o)
    (λ is. replies_start 8 capacity s (holding (table_in bs)) cluster (is_unicast unicast) frame size h e)
    (λ none k. absurd (omega (arith, refusal_nonzero (cond (is_store 8 s) NotATable NotAStore), k)))

-- ---- hd_unsupported_cluster

pub hd_unsupported_cluster_clears : HdUnsupportedClusterClears
hd_unsupported_cluster_clears served cluster unicast frame size = responder_clears served cluster (is_unicast unicast) frame size

pub hd_unsupported_cluster_then_zeros : HdUnsupportedClusterThenZeros
hd_unsupported_cluster_then_zeros served cluster unicast frame size = responder_then_zeros served cluster (is_unicast unicast) frame size

pub hd_unsupported_cluster_length : HdUnsupportedClusterLength
hd_unsupported_cluster_length served cluster unicast frame size = responder_length served cluster (is_unicast unicast) frame size

pub hd_unsupported_cluster_starts : HdUnsupportedClusterStarts
hd_unsupported_cluster_starts served cluster unicast frame size h e = responses_start served cluster (is_unicast unicast) frame size h e

-- ---- hd_report

pub hd_report_clears : HdReportClears
hd_report_clears s sequence ids size = report_clears 8 s sequence ids size

pub hd_report_then_zeros : HdReportThenZeros
hd_report_then_zeros s sequence ids size = report_then_zeros 8 s sequence ids size

pub hd_report_length : HdReportLength
hd_report_length s sequence ids size = report_length 8 s sequence ids size

pub hd_report_starts : HdReportStarts
hd_report_starts s sequence ids size = reports_start 8 s sequence ids size

-- ---- hd_report_turn

pub hd_report_turn_clears : HdReportTurnClears
hd_report_turn_clears s bs sequence now last size = turn_clears 8 (turn_for s sequence last now size) bs

pub hd_report_turn_then_zeros : HdReportTurnThenZeros
hd_report_turn_then_zeros s bs sequence now last size = turn_then_zeros 8 (turn_for s sequence last now size) bs

pub hd_report_turn_length : HdReportTurnLength
hd_report_turn_length s bs sequence now last size = turn_length 8 (turn_for s sequence last now size) bs

pub hd_report_turn_untouched : HdReportTurnUntouched
hd_report_turn_untouched s bs sequence now last size = turn_untouched 8 (turn_for s sequence last now size) bs

module _ (s bs : List ℕ) (sequence now last size : ℕ) (sb : AllBytes s) (tb : AllBytes bs) (n : now < 2 ^ 32) (is : is_table capacity bs ≡ true) where
  abbrev left_by : List Entry
  left_by = turned 8 (turn_for s sequence last now size) (table_in bs)

  turned_kept : Kept capacity left_by
  turned_kept =
      subst (Kept capacity) (turn_leads 8 capacity (turn_for s sequence last now size) (table_in bs)).table
      (run_keeps capacity (marking s now (frame_of 8 (turn_for s sequence last now size) (table_in bs))) (table_in bs) (marking_fits s now (frame_of 8 (turn_for s sequence last now size) (table_in bs)) sb n) (own_kept bs tb is))

  turned_bytes : (turn_left s bs sequence now last size).state.table ≡ table_bytes capacity left_by
  turned_bytes = ap (λ (x : After). x.table) (turn_leaves 8 (turn_for s sequence last now size) bs tb is)

pub hd_report_turn_table_stays : HdReportTurnTableStays
hd_report_turn_table_stays s bs sequence now last size sb tb n is =
    let kept = turned_kept s bs sequence now last size sb tb n is in
    let same = turned_bytes s bs sequence now last size sb tb n is in
    (ap (is_table capacity) same ∙ table_is capacity _ kept.small kept.clean, ap length same ∙ length_table capacity _ kept.small ∙ sym (the_conditions capacity bs is).size)

pub hd_report_turn_starts : HdReportTurnStarts
hd_report_turn_starts s bs sequence now last size = turns_start 8 (turn_for s sequence last now size) bs

-- ---- hd_configure

pub hd_configure_no_table : HdConfigureNoTable
hd_configure_no_table bs k g mark h = sym (configure_no_table bs k g mark _ h refl)

pub hd_configure_no_mark : HdConfigureNoMark
hd_configure_no_mark bs k g mark h large = sym (configure_no_mark bs k g mark _ h large refl)
