-- The entries of an engine's history, and when they are legal.
use Rattle.std.specs.Prelude.{◌&&◌, ℕ, Bool, false, List, nat_eq}
use Rattle.std.specs.List.{list_any}
use Rattle.std.specs.Ordering.{int_eq}
use Rattle.std.specs.Str.{bytes_eq}
use Rattle.doc_table.specs.Pages.{has_id}
use Rattle.ft_index.specs.declared.snapshots.AnyPicture.{AnyPicture}
use Rattle.ft_index.specs.declared.snapshots.AnyPicture.TheVariants as pictures
use Rattle.ft_index.specs.declared.snapshots.NamedPicture.{NamedPicture}
use Rattle.ft_index.specs.declared.snapshots.Snapshot.{Snapshot}
use Rattle.ft_machine.specs.Clean.{Marked}
use Rattle.ft_machine.specs.Clean as cleaning
use Rattle.ft_machine.specs.History.{Became, Done, Gone, LastEvent, Moved, Readings}
use Rattle.ft_machine.specs.History as machine
use Rattle.ft_machine.specs.Machine.{State}
use Rattle.gc_splice.specs.declared.splice.Spliced.{Spliced}
use Rattle.gc_splice.specs.declared.splice.Spliced.TheVariants as spliced
use Rattle.history_core.specs.Entries as history
use Rattle.id_iters.specs.declared.list_name.ListName.{ListName}
use Rattle.id_iters.specs.declared.list_name.ListName.TheVariants as names
use Rattle.inverted_list.specs.declared.marker.Marker.{Marker}

-- an entry of an engine's history
abbrev pub Entry : Type 0
Entry = history.Entry Snapshot ListName Spliced

-- whether two names are the same
abbrev pub is_same : ListName → ListName → Bool
is_same (names.Word text) (names.Word other) = bytes_eq text other
is_same (names.Tag field text) (names.Tag other tag) = nat_eq field other && bytes_eq text tag
is_same (names.Range field low) (names.Range other bound) = nat_eq field other && int_eq low bound
is_same name other = false

-- the marker of a pictured list
abbrev pub marker_of : AnyPicture → Marker
marker_of (pictures.Word picture) = picture.marker
marker_of (pictures.Tag picture) = picture.marker
marker_of (pictures.Range picture) = picture.marker

-- whether a marker is that of these numbers
abbrev pub is_marker : ℕ × ℕ → Marker → Bool
is_marker marker its = nat_eq marker.0 its.event && nat_eq marker.1 its.nth

-- a marker as its numbers
abbrev pub numbers_of : Marker → ℕ × ℕ
numbers_of marker = (marker.event, marker.nth)

-- what became of a repair, by the answer of its splice
abbrev pub became_of : Spliced → Became
became_of (spliced.Done removed tail_kept) = Done
became_of (spliced.Moved seen now) = Moved (numbers_of seen) (numbers_of now)
became_of spliced.Gone = Gone
became_of spliced.LastEvent = LastEvent

-- what is read of the snapshots, the names and the answers
abbrev pub readings : Readings Snapshot ListName Spliced
readings = record {
  serial = λ snapshot. snapshot.serial;
  live = λ snapshot id. has_id snapshot.live id;
  pictures = λ snapshot name marker. list_any (λ (named : NamedPicture). is_same name named.name && is_marker marker (marker_of named.picture)) snapshot.lists;
  became = became_of;
}

-- the entries are a legal history from this number on, and lead to this state
abbrev pub IsLegal : ℕ → List Entry → State → Type 0
IsLegal = machine.IsLegal readings

-- An entry may follow those before it.
abbrev pub MayFollow : ℕ → List Entry → State → Entry → State → Type 0
MayFollow = machine.MayFollow readings

-- An entry may follow those before it, and keeps what is known of clean indexes.
abbrev pub Follows : ℕ → List Entry → Marked → Entry → Marked → Type 0
Follows = cleaning.Follows readings

-- the entries are legal, and FT.INFO tells of clean indexes just the live records
abbrev pub IsHistory : ℕ → List Entry → Marked → Type 0
IsHistory = cleaning.IsHistory readings
