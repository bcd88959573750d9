-- The lists and the live documents of an index, as an iterator sees them.
use Rattle.std.specs.Prelude.{◌≡◌, ◌≢◌, ◌≤◌, ◌<◌, ◌^◌, ℕ, ℤ, Bool, true, false, List, [], Option, None, Some}
use Rattle.inverted_list.specs.Listing.{Listing}
use Rattle.phrase_match.specs.Phrase.{has, rises}
use Rattle.posting_block.specs.declared.hits.NumHit.{NumHit}
use Rattle.posting_block.specs.declared.hits.TagHit.{TagHit}
use Rattle.posting_block.specs.declared.hits.TextHit.{TextHit}
use Rattle.id_iters.specs.Entries.{codes_at}

-- the lists of words, of tags and of ranges by their names, and which ids are live
pub record Held : Type 0 where
  pub words : List ℕ → Option (Listing TextHit)
  pub tags : ℕ → List ℕ → Option (Listing TagHit)
  pub ranges : ℕ → ℤ → Option (Listing NumHit)
  pub live : ℕ → Bool

-- the entries of a list; where there is no list there are none
abbrev pub entries_of : {P : Type 0} → Option (Listing P) → List (ℕ × P)
entries_of None = []
entries_of (Some list) = list.entries

-- the codes of a word at an id
abbrev pub codes_of : Held → List ℕ → ℕ → List ℕ
codes_of held word id = codes_at (entries_of (held.words word)) id

-- What is true of the lists of an index. Live ids are at least 1 and below 2^62. At a live id the codes of a word rise,
-- and two different words share none.
pub record AreLists (held : Held) : Type 0 where
  pub above : (id : ℕ) → held.live id ≡ true → 1 ≤ id
  pub below : (id : ℕ) → held.live id ≡ true → id < 2 ^ 62
  pub rising : (word : List ℕ) (id : ℕ) → held.live id ≡ true → rises (codes_of held word id) ≡ true
  pub apart : (word other : List ℕ) (id : ℕ) → held.live id ≡ true → word ≢ other
      → (code : ℕ) → has (codes_of held word id) code ≡ true → has (codes_of held other id) code ≡ false
