-- A discover reply: its complete byte, and how many records are behind it. Assumes nothing.
use Rattle.std.specs.Prelude.{Err, Ok, Result}
use mathlib.Core.Path.{◌≡◌, refl, ap, ◌∙◌}
use mathlib.Core.List.{List}
use Prim.Native.Nat.{ℕ}
use lib.ListN.{get_or}
use Rattle.frame.specs.declared.answer.Refusal.{Refusal}
use Rattle.frame.specs.declared.command_identifier.CommandIdentifier.TheVariants.{DiscoverAttributesResponse}
use Rattle.discover.specs.Discover.{Discovered}
use Rattle.readers.specs.declared.pass.Swept.{Swept}
use Rattle.readers.specs.Reading.{mapped, and_then, counted, body_of, records_of}
use Rattle.readers.specs.Replies.{discovered_record, discovered_from, discovery, discovery_at, discover_reply_of}
use Rattle.readers.specs.Inside.{swept}
use Rattle.readers.specs.Answers.{sized}
use Rattle.readers.proofs.Records.{record_counts, record_uncounted}

sizes : (complete : ℕ) (y : Result (List Discovered) Refusal) → mapped (λ n. record { complete = complete; count = n }) (counted y) ≡ sized (mapped (discovery complete) y)
sizes complete (Ok l) = refl
sizes complete (Err why) = refl

-- where the body was found, a pass behind it tells the number of attributes, or that they cannot be read
module _ (f : List ℕ) (p k : ℕ) (b : Ok p ≡ body_of DiscoverAttributesResponse f) where
  sized_by : {n : Result ℕ Refusal} → n ≡ counted (records_of discovered_record f (discovered_from f p))
      → mapped (λ n. record { complete = get_or f p 0; count = n }) n ≡ sized (discover_reply_of f)
  unfolding discover_reply_of
  sized_by e =
      ap (mapped (λ n. record { complete = get_or f p 0; count = n })) e
      ∙ sizes (get_or f p 0) (records_of discovered_record f (discovered_from f p))
      ∙ ap (λ (y : Result ℕ Refusal). sized (and_then y (discovery_at f))) b

  pub sized_is : (s : Swept) (c : ℕ) → Ok s ≡ swept k (discovered_from f p) → c ≡ get_or f p 0 → Ok (record { complete = c; count = s.count }) ≡ sized (discover_reply_of f)
  sized_is s c e h = ap (λ (x : ℕ). Ok (record { complete = x; count = s.count })) h ∙ sized_by (record_counts discovered_record f k (discovered_from f p) e)

  pub no_size : (why : Refusal) → Err why ≡ swept k (discovered_from f p) → Err why ≡ sized (discover_reply_of f)
  no_size why e = sized_by (record_uncounted discovered_record f k (discovered_from f p) e)

pub unread : (f : List ℕ) (why : Refusal) → Err why ≡ body_of DiscoverAttributesResponse f → Err why ≡ discover_reply_of f
unfolding discover_reply_of
unread f why e = ap (λ (y : Result ℕ Refusal). and_then y (discovery_at f)) e
