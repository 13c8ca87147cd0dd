-- A pass over the records, whatever is done with each: one record, the loop, and the whole command (`specs/Inside/Passes.antt`). Assumes nothing.
use Rattle.std.specs.Prelude.{Err, None, Ok, Option, Result, Some}
use mathlib.Core.Path.{◌≡◌, refl, sym, ap, ◌∙◌, subst}
use mathlib.Core.Bool.{Bool, true, false}
use mathlib.Core.List.{List, [], ◌++◌, append-nil}
use Prim.Native.Nat.{ℕ, ◌≤◌, ◌<◌}
use native.Mathlib.Omega.{arith}
use lib.ListN.{length, length-replicate}
use borrow.Author.Tests.{le-leb, lt-leb}
use Rattle.types.specs.Number.{zeros}
use Rattle.frame.specs.declared.header.ZclHeader.{ZclHeader}
use Rattle.frame.specs.declared.command_identifier.CommandIdentifier.{CommandIdentifier}
use Rattle.frame.specs.declared.status.Status.{Status}
use Rattle.frame.specs.declared.answer.Refusal.{Refusal}
use Rattle.frame.specs.declared.answer.Refusal.TheVariants.{ReplyTooLong}
use Rattle.frame.specs.declared.failures.Unfinished.{Unfinished}
use Rattle.frame.specs.Header.{reply_head}
use Rattle.frame.specs.Inside.Buffer.{putting, put, Shows, Longer, Stays, Ways}
use Rattle.frame.specs.Answer.{Outcome, no_state, seen, refused}
use Rattle.frame.specs.Walk.{Item, Records, records_from, through, broken, stopped, walk_over}
use Rattle.frame.specs.Encoded.{encode_all, fits}
use Rattle.frame.specs.Failures.{Doing, Sofar, sofar, also, done_with, pass_from, pass, concluded, performed, headed}
use Rattle.frame.specs.Inside.Failures.{noting, concluded_at}
use Rattle.frame.specs.Inside.Passes.{TookOne, TookNone, Passed, Performs}
use Rattle.frame.proofs.Buffer.{shows_none, shows_put, shows_full}
use Rattle.frame.proofs.Outcome.{refused_with}
use Rattle.frame.proofs.Walks.{Ahead, walk_done, walk_cut, walk_more, walk_stop}
use Rattle.frame.proofs.Listings.{note_ways, concludes}

-- ---- one record

module _ {S R F : Type 0} {doing : Doing S R F} {next : ℕ → Item R} {s : S} {at end : ℕ} {status : Status} {f : F} {t : S}
    (ahead : Ahead next) (k : TookOne doing next s at end status f t) where
  -- what it leaves
  turned : (fs : List F) → done_with doing (sofar s fs) k.taken ≡ sofar t (also fs status f)
  unfolding done_with
  turned fs = rw (← k.does, ← k.named)

  -- the next one starts behind it
  pub took_ahead : at < end
  took_ahead = ahead at k.taken end k.is

  module _ (fine : List F → Bool) (fs : List F) (len : ℕ) (lt : at < len) where
    pub more : fine (also fs status f) ≡ true
        → pass_from doing fine (records_from next len at) (sofar s fs) ≡ pass_from doing fine (records_from next len end) (sofar t (also fs status f))
    unfolding pass_from
    more e =
        walk_more next len (done_with doing) (λ y. fine y.failures) (sofar s fs) at ahead k.taken end lt k.is (ap (λ (y : Sofar S F). fine y.failures) (turned fs) ∙ e)
        ∙ ap (λ (x : Sofar S F). walk_over (done_with doing) (λ y. fine y.failures) x (records_from next len end)) (turned fs)

    pub stop : fine (also fs status f) ≡ false → pass_from doing fine (records_from next len at) (sofar s fs) ≡ stopped (sofar s fs) (sofar t (also fs status f))
    unfolding pass_from
    stop e =
        walk_stop next len (done_with doing) (λ y. fine y.failures) (sofar s fs) at ahead k.taken end lt k.is (ap (λ (y : Sofar S F). fine y.failures) (turned fs) ∙ e)
        ∙ ap (stopped (sofar s fs)) (turned fs)

module _ {S R F : Type 0} (doing : Doing S R F) (fine : List F → Bool) (next : ℕ → Item R) (len : ℕ) (s : S) (fs : List F) (at : ℕ) where
  pub cut_here : at < len → (t : S) → TookNone next s at t → pass_from doing fine (records_from next len at) (sofar s fs) ≡ broken (sofar t fs)
  unfolding pass_from
  cut_here lt t k =
      walk_cut next len (done_with doing) (λ y. fine y.failures) (sofar s fs) at lt k.is ∙ ap (λ (x : S). broken (sofar x fs)) (sym k.same)

  pub done_here : len ≤ at → pass_from doing fine (records_from next len at) (sofar s fs) ≡ through (sofar s fs)
  unfolding pass_from
  done_here h = walk_done next len (done_with doing) (λ y. fine y.failures) (sofar s fs) at h

-- ---- the loop: where it stands behind a head, with the failures so far in the buffer, what is left is the whole

pub record Since {S R F : Type 0} (doing : Doing S R F) (next : ℕ → Item R) (len : ℕ) (s₀ : S) (room : ℕ) (head : List ℕ) (s : S) (d : List ℕ) (at out : ℕ) : Type 0 where
  pub failures : List F
  pub shows : Shows d out (head ++ encode_all doing.bytes failures)
  pub same : pass_from doing (fits doing.bytes room (length head)) (records_from next len at) (sofar s failures) ≡ pass doing (fits doing.bytes room (length head)) (records_from next len 0) s₀

pub record Going {S R F : Type 0} (doing : Doing S R F) (next : ℕ → Item R) (len start : ℕ) (s₀ : S) (d₀ : List ℕ) (s : S) (d : List ℕ) (at out : ℕ) : Type 0 where
  pub reply_length : length d ≡ length d₀
  pub since : (head : List ℕ) → Shows d₀ start head → Since doing next len s₀ (length d₀) head s d at out

pub going_first : {S R F : Type 0} (doing : Doing S R F) (next : ℕ → Item R) (len start : ℕ) (s : S) (d : List ℕ) → Going doing next len start s d s d 0 start
unfolding encode_all
going_first doing next len start s d = record {
  reply_length = refl;
  since = λ head h. record { failures = []; shows = subst (Shows d start) (sym (append-nil head)) h; same = refl };
}

module _ {S R F : Type 0} {doing : Doing S R F} {next : ℕ → Item R} {len start : ℕ} {s₀ : S} {d₀ : List ℕ} {s : S} {d : List ℕ} {at out : ℕ}
    (g : Going doing next len start s₀ d₀ s d at out) where
  pub going_done : len ≤ at → Passed doing (records_from next len 0) start s₀ d₀ (Ok out) s d
  going_done h head w =
      let x = g.since head w in
      record { failures = x.failures; is = sym x.same ∙ done_here doing (fits doing.bytes (length d₀) (length head)) next len s x.failures at h; shows = x.shows }

  module _ (lt : at < len) where
    pub going_cut : (t : S) (after : List ℕ) → TookNone next s at t → Passed doing (records_from next len 0) start s₀ d₀ (Err Unfinished.Cut) t after
    going_cut t after k head w =
        let x = g.since head w in
        record { failures = x.failures; is = sym x.same ∙ cut_here doing (fits doing.bytes (length d₀) (length head)) next len s x.failures at lt t k }

    module _ (ahead : Ahead next) (end : ℕ) (status : Status) (f : F) (t : S) (k : TookOne doing next s at end status f t)
        (r : Option ℕ) (after : List ℕ) (p : putting r after ≡ noting d out status (doing.bytes f)) where
      -- the failures with this record's, by the answer of the put
      ways : (head : List ℕ) (h : Shows d₀ start head) (q : Option ℕ) → r ≡ q → Ways doing.bytes head (also (g.since head h).failures status f) (length d₀) d q after
      ways head h q e =
          let x = g.since head h in
          subst (λ (y : Option ℕ). Ways doing.bytes head (also x.failures status f) (length d₀) d y after) e
          (subst (λ (n : ℕ). Ways doing.bytes head (also x.failures status f) n d r after) g.reply_length
          (note_ways doing.bytes head x.failures d out x.shows status f r after p))

      more_since : (o : ℕ) → r ≡ Some o → (head : List ℕ) → Shows d₀ start head → Since doing next len s₀ (length d₀) head t after end o
      more_since o e head h =
          let x = g.since head h in
          let w : Longer doing.bytes head (also x.failures status f) (length d₀) o after = ways head h (Some o) e in
          record {
            failures = also x.failures status f;
            shows = w.shows;
            same = sym (more ahead k (fits doing.bytes (length d₀) (length head)) x.failures len lt w.fit) ∙ x.same;
          }

      pub going_more : (o : ℕ) → r ≡ Some o → length after ≡ length d → Going doing next len start s₀ d₀ t after end o
      going_more o e l = record { reply_length = l ∙ g.reply_length; since = more_since o e }

      pub going_stop : r ≡ None → Passed doing (records_from next len 0) start s₀ d₀ (Err Unfinished.Full) t after
      going_stop e head h =
          let x = g.since head h in
          let w : Stays doing.bytes head (also x.failures status f) (length d₀) d after = ways head h None e in
          record {
            last = sofar s x.failures;
            failures = also x.failures status f;
            is = sym x.same ∙ stop ahead k (fits doing.bytes (length d₀) (length head)) x.failures len lt w.unfit;
          }

-- ---- a pass and its answer

pub performs : {S R F : Type 0} (doing : Doing S R F) → ((f : F) → 0 < length (doing.bytes f)) → (rs : Records R) (start : ℕ) (s : S) (d : List ℕ) (done : Result ℕ Unfinished) (t : S) (after : List ℕ)
    → Passed doing rs start s d done t after → length after ≡ length d → (r : Result ℕ Refusal) (last : List ℕ) → seen r last no_state ≡ concluded_at after start done
    → Performs doing rs start s d r t last
unfolding performed
performs doing some rs start s d done t after w l r last e head h =
    concludes doing.bytes some after start done r last e head (pass doing (fits doing.bytes (length d) (length head)) rs s) t h.place (w head h)
    ∙ ap (λ (n : ℕ). concluded doing.bytes n head (pass doing (fits doing.bytes (length d) (length head)) rs s)) l

-- ---- the header first

module _ {S : Type 0} (request : ZclHeader) (command : CommandIdentifier) (s : S) (room : ℕ) (r : Option ℕ) (after : List ℕ)
    (p : putting r after ≡ put (zeros room) 0 (reply_head request command)) where
  -- a header that fits: the buffer shows it, and the rest comes
  pub headed_in : (rest : List ℕ → Outcome S) (start : ℕ) → r ≡ Some start
      → (Shows after start (reply_head request command) × (length after ≡ room)) × (rest (reply_head request command) ≡ headed request command s room rest)
  unfolding headed
  headed_in rest start e =
      let head : List ℕ = reply_head request command in
      let w = shows_put (zeros room) 0 [] head r start after (shows_none room) p e in
      let n : length (zeros room) ≡ room = length-replicate room 0 in
      ((w.shows, w.same ∙ n), rw (le-leb (length head) room (omega (arith, w.fits))))

  -- one that does not is 5
  pub headed_past : (rest : List ℕ → Outcome S) → r ≡ None → (x : Result ℕ Refusal) (d : List ℕ) → seen x d no_state ≡ refused (length after) ReplyTooLong no_state
      → seen x d s ≡ headed request command s room rest
  unfolding headed
  headed_past rest e x d q =
      let head : List ℕ = reply_head request command in
      let w = shows_full (zeros room) 0 [] head r after (shows_none room) p e in
      let n : length (zeros room) ≡ room = length-replicate room 0 in
      refused_with x d (length after) ReplyTooLong s q
      ∙ ap (λ (k : ℕ). refused k ReplyTooLong s) (ap length w.1 ∙ n)
      ∙ rw (lt-leb (length head) room (omega (arith, w.0)))

  -- THE WHOLE COMMAND: the header, and every record done behind it
  pub headed_performs : {R F : Type 0} (doing : Doing S R F) (rs : Records R) (start : ℕ) → r ≡ Some start → (x : Result ℕ Refusal) (t : S) (d : List ℕ) → Performs doing rs start s after x t d
      → seen x d t ≡ headed request command s room (performed doing rs s room)
  headed_performs doing rs start e x t d w =
      let f = headed_in (performed doing rs s room) start e in
      w (reply_head request command) f.0.0 ∙ ap (λ (n : ℕ). performed doing rs s n (reply_head request command)) f.0.1 ∙ f.1
