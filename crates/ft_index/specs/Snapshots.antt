-- Pictures of the lists of an index, each under its list's name.
use Rattle.std.specs.Prelude.{◌≡◌, ℕ, List, map, Option, Some, IsSome}
use Rattle.std.specs.List.{AllByRecursion, Contains}
use Rattle.std.specs.List.Sorted.{IsStrictlySortedBy}
use Rattle.std.specs.Option.{option_map}
use Rattle.std.specs.Ordering.{int_cmp, nat_cmp, ordering_then}
use Rattle.std.specs.declared.cmp.Ordering.{Ordering}
use Rattle.std.specs.declared.cmp.Ordering.TheVariants.{Less, Greater}
use Rattle.doc_table.specs.Pages.{has_id}
use Rattle.id_iters.specs.declared.list_name.ListName.{ListName}
use Rattle.id_iters.specs.declared.list_name.ListName.TheVariants as names
use Rattle.inverted_list.specs.Blocks.{listing}
use Rattle.inverted_list.specs.Listing.{Listing}
use Rattle.inverted_list.specs.Names.{word_cmp}
use Rattle.posting_block.specs.declared.hits.NumHit.{NumHit}
use Rattle.posting_block.specs.declared.hits.TagHit.{TagHit}
use Rattle.posting_block.specs.declared.hits.TextHit.{TextHit}
use Rattle.term_dict.specs.Tags.{list_in}
use Rattle.term_dict.specs.Terms.{list_of}
use Rattle.ft_index.specs.declared.snapshots.AnyPicture.{AnyPicture}
use Rattle.ft_index.specs.declared.snapshots.AnyPicture.TheVariants as pictures
use Rattle.ft_index.specs.declared.snapshots.NamedPicture.{NamedPicture}
use Rattle.ft_index.specs.declared.snapshots.Snapshot.{Snapshot}
use Rattle.ft_index.specs.Index.{Index, is_live}
use Rattle.ft_index.specs.Lists.{AllLists, list_from, rows_of}

-- The one order of names: words by bytes, then tags by field and bytes, then ranges by field and low.
abbrev pub name_cmp : ListName → ListName → Ordering
name_cmp (names.Word text) (names.Word other) = word_cmp text other
name_cmp (names.Word text) (names.Tag field other) = Less
name_cmp (names.Word text) (names.Range field low) = Less
name_cmp (names.Tag field text) (names.Word other) = Greater
name_cmp (names.Tag field text) (names.Tag other tag) = ordering_then (nat_cmp field other) (word_cmp text tag)
name_cmp (names.Tag field text) (names.Range other low) = Less
name_cmp (names.Range field low) (names.Word other) = Greater
name_cmp (names.Range field low) (names.Tag other text) = Greater
name_cmp (names.Range field low) (names.Range other bound) = ordering_then (nat_cmp field other) (int_cmp low bound)

-- The names rise, so none is there twice.
abbrev pub NamesRise : List ListName → Type 0
NamesRise these = IsStrictlySortedBy name_cmp these

-- a list of an index, by its kind
pub data AnyListing : Type 0 where
  WordList : (list : Listing TextHit) → AnyListing
  TagList : (list : Listing TagHit) → AnyListing
  RangeList : (list : Listing NumHit) → AnyListing

-- the list of a name, where the index has it
abbrev pub list_at : AllLists → ListName → Option AnyListing
list_at lists (names.Word text) = option_map WordList (list_of lists.words text)
list_at lists (names.Tag field text) = option_map TagList (list_in lists.tags field text)
list_at lists (names.Range field low) = option_map RangeList (list_from (rows_of lists.ranges field) low)

-- the list that a picture shows
abbrev pub pictured : AnyPicture → AnyListing
pictured (pictures.Word picture) = WordList (listing picture)
pictured (pictures.Tag picture) = TagList (listing picture)
pictured (pictures.Range picture) = RangeList (listing picture)

-- A picture is of its name's kind, and shows the index's list of that name.
abbrev pub PicturesName : AllLists → NamedPicture → Type 0
PicturesName lists named = list_at lists named.name ≡ Some (pictured named.picture)

-- the names of pictures
abbrev pub names_of : List NamedPicture → List ListName
names_of all = map (λ (named : NamedPicture). named.name) all

-- Every list of the index has a picture.
abbrev pub PicturesAll : AllLists → Snapshot → Type 0
PicturesAll lists snapshot = (name : ListName) → IsSome (list_at lists name) → Contains (names_of snapshot.lists) name

-- A snapshot of an index at the number of an event: which ids are live, and pictures of lists, of which none has two.
pub record IsSnapshot (index : Index) (event : ℕ) (snapshot : Snapshot) : Type 0 where
  pub serial : snapshot.serial ≡ index.def.serial
  pub number : snapshot.number ≡ event
  pub live : (id : ℕ) → has_id snapshot.live id ≡ is_live index id
  pub pictures : AllByRecursion (PicturesName index.lists) snapshot.lists
  pub rise : NamesRise (names_of snapshot.lists)
