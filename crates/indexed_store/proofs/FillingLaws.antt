-- The documents that an index has yet to take.
use Rattle.std.specs.Prelude.{◌<◌, ◌≤◌, ℕ, List, [], ◌∷◌, map}
use Rattle.std.proofs.Common.{arith}
use Rattle.std.specs.List.{All}
use Rattle.std.proofs.lemmas.List.Elements.{All-tail}
use Rattle.ft_base.specs.Docs.{Doc}
use Rattle.ft_meaning.specs.Meaning.{ValuesFit}
use Rattle.inverted_list.specs.Listing.{RisesAbove, last_id}
use Rattle.indexed_store.proofs.StepLaws.{row_of}

-- their ids rise from above the last one that was taken, and are those of earlier events
pub record AreLeft (last event : ℕ) (docs : List Doc) : Type 0 where
  pub rise : RisesAbove last (map row_of docs)
  pub earlier : last_id last (map row_of docs) < event
  pub fit : All (λ (doc : Doc). ValuesFit doc.hash) docs

-- once the first of them is taken
pub left-next : (last last' event : ℕ) (doc : Doc) (docs : List Doc) → last' ≤ doc.id → AreLeft last event (doc ∷ docs) → AreLeft last' event docs
left-next last last' event doc [] taken left = record { rise = tt; earlier = omega (arith, taken, left.earlier); fit = All-tail (λ (doc : Doc). ValuesFit doc.hash) doc [] left.fit }
left-next last last' event doc (d ∷ docs) taken left = record {
  rise = (omega (arith, taken, left.rise.1.0), left.rise.1.1);
  earlier = left.earlier;
  fit = All-tail (λ (doc : Doc). ValuesFit doc.hash) doc (d ∷ docs) left.fit;
}
