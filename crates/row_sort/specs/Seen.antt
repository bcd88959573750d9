-- What the code sees of a value.
use Rattle.row_sort.specs.Order.{Key, Number, Bytes, Nothing}
use Rattle.row_sort.specs.declared.seen.Seen.{Seen}
use Rattle.row_sort.specs.declared.seen.Seen.TheVariants as seen

-- the number, the bytes that are lent, or nothing
abbrev pub key_seen : Seen → Key
key_seen (seen.Num n) = Number n
key_seen (seen.Text text) = Bytes text.now
key_seen seen.Neither = Nothing
