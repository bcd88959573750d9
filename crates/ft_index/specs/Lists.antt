-- What a contract sees of the lists of one index.
use Rattle.std.specs.Prelude.{ℕ, ℤ, List, [], Bool, Option, Some, None, nat_eq, is_some, slice_get}
use Rattle.std.specs.Map.{keys_of, lookup}
pub use Rattle.doc_table.specs.Table.{Vector}
use Rattle.doc_table.specs.Table.{number_in}
use Rattle.id_iters.specs.Held.{Held}
use Rattle.id_iters.specs.Named.{Named}
use Rattle.inverted_list.specs.Listing.{Listing}
use Rattle.numeric_ranges.specs.Ranges.{Rows, list_at}
use Rattle.posting_block.specs.declared.hits.NumHit.{NumHit}
use Rattle.posting_block.specs.declared.hits.TextHit.{TextHit}
use Rattle.term_dict.specs.Tags.{FieldTags, list_in, tags_of}
use Rattle.term_dict.specs.Terms.{Lists, list_of}

pub record AllLists : Type 0 where
  -- the words, each with its list
  pub words : Lists TextHit
  -- the fields that were given tags, each with its tags and their lists
  pub tags : FieldTags
  -- by the number of a field its ranges, where it has them
  pub ranges : List (Option Rows)

-- something, where there is something in it
abbrev pub inner : {A : Type 0} → Option (Option A) → Option A
inner None = None
inner (Some found) = found

-- the ranges of the field of a number, where it has them
abbrev pub rows_of : List (Option Rows) → ℕ → Option Rows
rows_of ranges field = inner (slice_get ranges field)

-- the list of the range that begins at a low, where the field has it
abbrev pub list_from : Option Rows → ℤ → Option (Listing NumHit)
list_from None low = None
list_from (Some rows) low = list_at rows low

-- where the ranges begin, in their order; without ranges nowhere
abbrev pub lows_of : Option Rows → List ℤ
lows_of None = []
lows_of (Some rows) = keys_of rows

-- whether an id is among rows of ids and sorting vectors
abbrev pub has_id : List (ℕ × Vector) → ℕ → Bool
has_id live id = is_some (lookup (nat_eq id) live)

-- the lists by their names, and which ids are live, as an iterator sees them
abbrev pub held_of : AllLists → List (ℕ × Vector) → Held
held_of lists live = record {
  words = λ word. list_of lists.words word;
  tags = λ field tag. list_in lists.tags field tag;
  ranges = λ field low. list_from (rows_of lists.ranges field) low;
  live = has_id live;
}

-- the names of the lists, and the numbers that each live document is sorted by
abbrev pub named_of : AllLists → List (ℕ × Vector) → Named
named_of lists live = record {
  words = keys_of lists.words;
  tags = λ field. keys_of (tags_of lists.tags field);
  lows = λ field. lows_of (rows_of lists.ranges field);
  numbers = λ id place. number_in (lookup (nat_eq id) live) place;
}
