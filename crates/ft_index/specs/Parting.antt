-- A part of the lists of an index: those behind a name, as many as there is room for, of which some are pictured.
use Rattle.std.specs.Prelude.{◌≡◌, ◌==◌, ◌-◌, ◌||◌, ◌++◌, ℕ, List, [], ◌∷◌, Bool, true, not, Option, None, Some, length, map, if◌then◌else◌}
use Rattle.std.specs.List.{AllByRecursion, filter}
use Rattle.std.specs.Ordering.{is_lt}
use Rattle.id_iters.specs.declared.list_name.ListName.{ListName}
use Rattle.ft_index.specs.declared.parting.Part.{Part}
use Rattle.ft_index.specs.declared.room.Room.{Room}
use Rattle.ft_index.specs.declared.snapshots.NamedPicture.{NamedPicture}
use Rattle.ft_index.specs.Lists.{AllLists}
use Rattle.ft_index.specs.Picturing.{NamedLists, all_named, shown}
use Rattle.ft_index.specs.Snapshots.{AnyListing, WordList, TagList, RangeList, NamesRise, PicturesName, name_cmp, names_of}

-- how many sealed blocks a list has
abbrev pub blocks_in : AnyListing → ℕ
blocks_in (WordList list) = length list.sealed
blocks_in (TagList list) = length list.sealed
blocks_in (RangeList list) = length list.sealed

-- no list has room
abbrev pub is_spent : Room → Bool
is_spent room = room.lists == 0 || room.blocks == 0

-- whether a list of so many sealed blocks is pictured: each of the first is, and each with a sealed block
abbrev pub picks : Room → ℕ → Bool
picks room blocks = not (room.first == 0) || not (blocks == 0)

-- the room behind a list of so many sealed blocks
abbrev pub left_by : Room → ℕ → Room
left_by room blocks = record { first = room.first - 1; lists = room.lists - 1; blocks = room.blocks - blocks }

-- the lists that are pictured, of those that there is room for
abbrev pub parted : Room → NamedLists → NamedLists
parted room [] = []
parted room (row ∷ rows) =
    if is_spent room then []
    else (if picks room (blocks_in row.1) then row ∷ parted (left_by room (blocks_in row.1)) rows else parted (left_by room (blocks_in row.1)) rows)

-- whether a name is behind another, where there is another
abbrev pub is_behind : Option ListName → ListName → Bool
is_behind None name = true
is_behind (Some hand) name = is_lt (name_cmp hand name)

-- the lists whose names are behind a name
abbrev pub behind : Option ListName → NamedLists → NamedLists
behind hand rows = filter (λ row. is_behind hand row.0) rows

-- what a part shows once lists are taken that follow
abbrev pub ahead : Part → NamedLists → NamedLists
ahead part rows = map shown part.pictures ++ parted part.room rows

-- lists that follow were taken into a part
abbrev pub Takes : NamedLists → Part → Part → Type 0
Takes rows old new = (rest : NamedLists) → ahead new rest ≡ ahead old (rows ++ rest)

-- the room of a whole part: 64 lists whatever they are, 2,048 lists, and 2,048 sealed blocks, or one list that has more
abbrev pub whole_room : Room
whole_room = record { first = 64; lists = 2048; blocks = 2048 }

-- Of the lists behind a name, or of all, those are pictured that a part takes. An empty part takes none.
pub data PicturesPart (lists : AllLists) : List NamedPicture → Type 0 where
  Empty : PicturesPart lists []
  Behind : (hand : Option ListName) (all : List NamedPicture) → map shown all ≡ parted whole_room (behind hand (all_named lists)) → PicturesPart lists all

-- The pictures are of the lists of their names, and the names rise.
pub record ArePictures (lists : AllLists) (all : List NamedPicture) : Type 0 where
  pub own : AllByRecursion (PicturesName lists) all
  pub rise : NamesRise (names_of all)
