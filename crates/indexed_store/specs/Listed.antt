-- Which lists a command enters a document into, and which indexes keep their lists when a change is made.
use Rattle.std.specs.Prelude.{◌≡◌, ℕ, List, map, Bool, true, false, Option, Some, None, find, if◌then◌else◌}
use Rattle.std.specs.Option.{option_map}
use Rattle.std.specs.Str.{bytes_eq}
use Rattle.cmd_parse.specs.Asked.{Asked, Plain}
use Rattle.cmd_parse.specs.declared.command.Verb.TheVariants.{Debug}
use Rattle.ft_base.specs.Docs.{Doc}
use Rattle.ft_base.specs.Words.{second}
use Rattle.ft_index.specs.Index.{Index}
use Rattle.ft_index.specs.Lists.{AllLists}
use Rattle.ft_meaning.specs.Member.{member}
use Rattle.indexed_store.specs.Collecting.{IsCleanAt}
use Rattle.indexed_store.specs.Named.{is_named}
use Rattle.indexed_store.specs.declared.change.Change.{Change}
use Rattle.indexed_store.specs.declared.change.Change.TheVariants.{Write, Move, Create, Alter, Drop, DropMembers, Flush}

-- an index's name, and its lists
abbrev pub listed : Index → List ℕ × AllLists
listed index = (index.def.name, index.lists)

-- each index keeps its lists
abbrev pub KeepLists : List Index → List Index → Type 0
KeepLists olds news = map listed news ≡ map listed olds

-- the lists of the index of a name
abbrev pub lists_at : List ℕ → List Index → Option AllLists
lists_at name indexes = option_map (λ (index : Index). index.lists) (find (is_named name) indexes)

-- ---- while a change is prepared

-- an index's name, and its lists unless a document is entered into them: it is entered where it is a member
abbrev pub unentered : Doc → Index → List ℕ × Option AllLists
unentered doc index = (index.def.name, if member index.def doc then None else Some index.lists)

-- A document is entered into the lists of the indexes of which it is a member, and into no other.
abbrev pub EntersDoc : Doc → List Index → List Index → Type 0
EntersDoc doc olds news = map (unentered doc) news ≡ map (unentered doc) olds

abbrev pub EntersWaiting : Option Doc → List Index → List Index → Type 0
EntersWaiting None olds news = ⊥
EntersWaiting (Some doc) olds news = EntersDoc doc olds news

-- A change that writes a document enters the one that waits, and every other leaves the indexes as they are until it is made.
abbrev pub Enters : Change → Option Doc → List Index → List Index → Type 0
Enters (Write put) waits olds news = EntersWaiting waits olds news
Enters (Move put from) waits olds news = EntersWaiting waits olds news
Enters _ waits olds news = news ≡ olds

-- the lists of the indexes of other names are as they were
abbrev pub OthersKeep : List ℕ → List Index → List Index → Type 0
OthersKeep name olds news = (other : List ℕ) → bytes_eq other name ≡ false → lists_at other news ≡ lists_at other olds

-- FT.DEBUG leaves the index that it names without dead entries, and the lists of the others as they are.
abbrev pub Gathers : Asked → List Index → List Index → Type 0
Gathers (Plain Debug args) olds news = IsCleanAt (second args) news × OthersKeep (second args) olds news
Gathers _ olds news = ⊥

-- ---- when a change is made

-- whether a change makes the index of a name, alters or drops it
abbrev pub touches : Change → List ℕ → Bool
touches (Create index) name = bytes_eq name index.def.name
touches (Alter index) name = bytes_eq name index.def.name
touches (Drop dropped) name = bytes_eq name dropped.now
touches (DropMembers dropped) name = bytes_eq name dropped.now
touches Flush name = true
touches _ name = false

-- Each other index keeps its lists.
abbrev pub KeepsLists : Change → List Index → List Index → Type 0
KeepsLists change olds news = (name : List ℕ) → touches change name ≡ false → lists_at name news ≡ lists_at name olds
