-- Which ids a search goes through, and when it may be asked for the next.
use Rattle.std.specs.Prelude.{◌≡◌, ◌<◌, ◌≤◌, ℕ, nat_eq, Bool, true, ◌&&◌, List, length, take, Option, None, Some, option_map}
use Rattle.std.specs.List.{All, AllByRecursion, filter_map, list_any}
use Rattle.std.specs.List.Sorted.{IsNonDecreasing}
use Rattle.ft_base.specs.Space.{doc_of}
use Rattle.ft_base.specs.Docs.{Doc}
use Rattle.ft_machine.specs.Counted.{is_among}
use Rattle.id_iters.specs.Held.{AreLists, Held}
use Rattle.id_iters.specs.Ready.{Ready}
use Rattle.id_iters.specs.Sets.{About, about, living}
use Rattle.doc_reads.specs.Ids.{AreKnown, docs_in}
use Rattle.search_exec.specs.declared.candidates.Candidates.{Candidates}
use Rattle.search_exec.specs.declared.candidates.NamedIds.{NamedIds}

-- whether an id is one of some
abbrev pub is_id_of : List ℕ → ℕ → Bool
is_id_of ids id = list_any (nat_eq id) ids

-- whether an id is among those that are named, where some are
abbrev pub is_named : Option (List ℕ) → ℕ → Bool
is_named None id = true
is_named (Some ids) id = is_id_of ids id

-- the ids that are named, where some are
abbrev pub ids_named : Option NamedIds → Option (List ℕ)
ids_named named = option_map (λ (named : NamedIds). named.ids.items) named

-- what never changes of candidates: what the iterator has, and the ids that are named
abbrev pub about_candidates : Held → Candidates → About × Option (List ℕ)
about_candidates held candidates = (about held candidates.iter, ids_named candidates.named)

-- the live ids that an iterator has, of those that are named
abbrev pub candidate : (ℕ → Bool) → About × Option (List ℕ) → ℕ → Bool
candidate live part id = living live part.0 id && is_named part.1 id

abbrev pub in_candidates : Held → Candidates → ℕ → Bool
in_candidates held candidates = candidate held.live (about_candidates held candidates)

-- the documents that count: those of the candidates
abbrev pub docs_counted : Held → Candidates → List Doc → List Doc
docs_counted held candidates docs = docs_in (in_candidates held candidates) docs

-- the ids of the documents with these keys, in the order of the keys
abbrev pub ids_with : List Doc → List (List ℕ) → List ℕ
ids_with docs keys = filter_map (λ (key : List ℕ). option_map (λ (doc : Doc). doc.id) (doc_of docs key)) keys

-- The id of a document is named exactly where its key is.
pub record AreNamed (ids : Option (List ℕ)) (keys : Option (List (List ℕ))) (docs : List Doc) : Type 0 where
  pub each : AllByRecursion (λ (doc : Doc). is_named ids doc.id ≡ is_among keys doc.key) docs

-- The ids that are named rise, and those that lie behind are below a number.
pub record IsBehind (named : NamedIds) (from : ℕ) : Type 0 where
  pub rise : IsNonDecreasing named.ids.items
  pub within : named.behind ≤ length named.ids.items
  pub below : All (λ id. id < from) (take named.behind named.ids.items)

abbrev pub AreBehind : Option NamedIds → ℕ → Type 0
AreBehind None from = Unit {0}
AreBehind (Some named) from = IsBehind named from

-- The next may be asked for from a number on.
pub record MayAsk (held : Held) (candidates : Candidates) (from : ℕ) : Type 0 where
  pub iter : Ready held candidates.iter from
  pub named : AreBehind candidates.named from

-- Candidates may be asked from the first id on, and each id that they have is that of a document.
pub record AreWalkable (held : Held) (candidates : Candidates) (docs : List Doc) : Type 0 where
  pub lists : AreLists held
  pub ready : MayAsk held candidates 1
  pub known : AreKnown (in_candidates held candidates) docs
