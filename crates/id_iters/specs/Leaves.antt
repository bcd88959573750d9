-- Which ids a leaf and a phrase have, by the names of their lists.
use Rattle.std.specs.Prelude.{ℕ, ℤ, Bool, true, ◌&&◌, List, map, Option, None}
use Rattle.std.specs.List.{list_all}
use Rattle.ft_base.specs.declared.query.Fields.{Fields}
use Rattle.inverted_list.specs.Listing.{Listing}
use Rattle.posting_block.specs.declared.hits.TextHit.{TextHit}
use Rattle.phrase_match.specs.Turns.{in_turn}
use Rattle.id_iters.specs.Entries.{has_entry, word_has, tag_has, range_has, phrase_has}
use Rattle.id_iters.specs.Held.{Held, entries_of}
use Rattle.id_iters.specs.declared.leaf.Leaf.{Leaf}
use Rattle.id_iters.specs.declared.list_name.ListName.{ListName}
use Rattle.id_iters.specs.declared.list_name.ListName.TheVariants as names
use Rattle.id_iters.specs.declared.phrase.PhraseIter.{PhraseIter}

-- Whether a list has an id: that of a word by the fields, that of a range by its least and its greatest number.
abbrev pub list_has : Held → ListName → Fields → ℤ → ℤ → ℕ → Bool
list_has held (names.Word text) fields low high id = word_has fields (entries_of (held.words text)) id
list_has held (names.Tag field text) fields low high id = tag_has (entries_of (held.tags field text)) id
list_has held (names.Range field least) fields low high id = range_has low high (entries_of (held.ranges field least)) id

-- whether a leaf has an id
abbrev pub leaf_has : Held → Leaf → ℕ → Bool
leaf_has held leaf id = list_has held leaf.list leaf.fields leaf.low leaf.high id

-- the list of a name, if the name is that of a word
abbrev pub word_list : Held → ListName → Option (Listing TextHit)
word_list held (names.Word text) = held.words text
word_list held (names.Tag field text) = None
word_list held (names.Range field least) = None

-- the entries of a word's list
abbrev pub word_entries : Held → ListName → List (ℕ × TextHit)
word_entries held name = entries_of (word_list held name)

-- the names of the lists of leaves
abbrev pub list_names : List Leaf → List ListName
list_names leaves = map (λ leaf. leaf.list) leaves

-- whether a document has a word, in any field
abbrev pub has_word : Held → ListName → ℕ → Bool
has_word held name id = has_entry (λ hit. true) (word_entries held name) id

-- Whether a document has the word of each leaf of a phrase, and these stand together, each as often and in the places that the
-- phrase's order has it.
abbrev pub phrase_ids : Held → PhraseIter → ℕ → Bool
phrase_ids held phrase id =
    list_all (λ name. has_word held name id) (list_names phrase.words)
    && phrase_has phrase.fields phrase.slop phrase.in_order (in_turn (map (word_entries held) (list_names phrase.words)) phrase.order) id
