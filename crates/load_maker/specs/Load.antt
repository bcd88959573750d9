-- The load of a seed: its commands, in order. All that is drawn comes from one generator, word by word.
use Rattle.std.specs.Prelude.{ℕ, zero, suc, ◌+◌, ◌/◌, ◌%◌, List, [], ◌∷◌, ◌++◌, codes, ◌==◌, if◌then◌else◌}
use Rattle.std.specs.Fmt.{decimal}
use Rattle.std.specs.List.{join_with_byte}
use Rattle.rand_pcg.specs.Lcg.{Lcg, started, increment_of}
use Rattle.rand_pcg.specs.Pcg.{pcg32, multiplier_64}
use Rattle.resp_wire.specs.Stream.{Command}

-- The generator of a seed: PCG XSH RR 64/32 (Pcg32), with the seed as its state and stream 1.
abbrev pub begun : ℕ → Lcg
begun seed = started 64 multiplier_64 seed (increment_of 64 1)

-- a draw below a number, and the generator after it
unfoldable pub draw : ℕ → Lcg → ℕ × Lcg
draw most g = ((pcg32 g).0 % most, (pcg32 g).1)

-- a word of a text: `w` and its number
abbrev pub word_of : ℕ → List ℕ
word_of number = 119 ∷ decimal number

-- so many words of a text, each with a drawn number below 64, and the generator after them
unfoldable pub text_words : ℕ → Lcg → List (List ℕ) × Lcg
text_words zero g = ([], g)
text_words (suc n) g =
    let first = draw 64 g in
    let others = text_words n first.1 in
    (word_of first.0 ∷ others.0, others.1)

-- the words with a space between each two
abbrev pub text_of : List (List ℕ) → List ℕ
text_of words = join_with_byte 32 words

-- What is drawn for a document, and the generator after it.
pub record Drawn : Type 0 where
  pub text : List ℕ
  pub tag : ℕ
  pub number : ℕ
  pub next : Lcg

-- eight words, then a tag below 8, then a number below 1000
unfoldable pub drawn : Lcg → Drawn
drawn g =
    let words = text_words 8 g in
    let tag = draw 8 words.1 in
    let number = draw 1000 tag.1 in
    record { text = text_of words.0; tag = tag.0; number = number.0; next = number.1 }

-- the key of a document
abbrev pub key_of : ℕ → List ℕ
key_of i = codes "doc:" ++ decimal i

-- `HSET doc:i body B tag tT n N`
abbrev pub setting : ℕ → List ℕ → ℕ → ℕ → Command
setting i text tag number =
    codes "HSET" ∷ key_of i ∷ codes "body" ∷ text ∷ codes "tag" ∷ (codes "t" ++ decimal tag) ∷ codes "n" ∷ decimal number ∷ []

-- behind each document whose number 10 divides, `DEL doc:j`, where j is the half of its number
abbrev pub deleting : ℕ → List Command
deleting i = if i % 10 == 0 then (codes "DEL" ∷ key_of (i / 2) ∷ []) ∷ [] else []

-- the commands of so many documents, the first of which has the number i
unfoldable pub documents : ℕ → ℕ → Lcg → List Command
documents zero i g = []
documents (suc more) i g =
    let doc = drawn g in
    setting i doc.text doc.tag doc.number ∷ (deleting i ++ documents more (i + 1) doc.next)

-- the index is created
abbrev pub creating : Command
creating =
    codes "FT.CREATE" ∷ codes "load" ∷ codes "SCHEMA" ∷ codes "body" ∷ codes "TEXT" ∷ codes "tag" ∷ codes "TAG" ∷ codes "n" ∷ codes "NUMERIC" ∷ []

-- a search for a word, of which only the number of documents is asked
abbrev pub searching : Command
searching = codes "FT.SEARCH" ∷ codes "load" ∷ codes "w1" ∷ codes "LIMIT" ∷ codes "0" ∷ codes "0" ∷ []

-- a search for a range of numbers, sorted
abbrev pub sorting : Command
sorting = codes "FT.SEARCH" ∷ codes "load" ∷ codes "@n:[0 499]" ∷ codes "SORTBY" ∷ codes "n" ∷ []

-- old entries are collected
abbrev pub collecting : Command
collecting = codes "FT.DEBUG" ∷ codes "GC_FORCEINVOKE" ∷ codes "load" ∷ []

-- the documents of each tag are counted
abbrev pub grouping : Command
grouping =
    codes "FT.AGGREGATE" ∷ codes "load" ∷ codes "*" ∷ codes "GROUPBY" ∷ codes "1" ∷ codes "@tag" ∷ codes "REDUCE" ∷ codes "COUNT" ∷ codes "0" ∷ codes "AS" ∷ codes "c" ∷ []

-- the number of keys
abbrev pub counting : Command
counting = codes "DBSIZE" ∷ []

abbrev pub last_commands : List Command
last_commands = searching ∷ sorting ∷ collecting ∷ grouping ∷ counting ∷ []

-- the load of a seed and a number of documents
unfoldable pub load : ℕ → ℕ → List Command
load seed docs = creating ∷ (documents docs 1 (begun seed) ++ last_commands)
