-- A result that is read in parts (RediSearch, FT.AGGREGATE with WITHCURSOR). Without GROUPBY, SORTBY and LIMIT a cursor is a
-- stream: each read goes on with the documents that the query finds at that moment.
use Rattle.std.specs.Prelude.{ℕ, pos, zero, suc, List, [], ◌∷◌, length, take, filter, fold, nat_lt, Bool, Option, Some, None, if◌then◌else◌}
use Rattle.std.specs.List.{filter_map}
use Rattle.agg_pipeline.specs.RowMade.{row_made}
use Rattle.agg_pipeline.specs.Stream.{Stream}
use Rattle.cursor_book.specs.declared.cursor.Body.{Body}
use Rattle.cursor_book.specs.declared.cursor.Body.TheVariants as body
use Rattle.cursor_book.specs.declared.cursor.Taken.{Taken}
use Rattle.cursor_book.specs.declared.cursor.Taken.TheVariants as taken
use Rattle.ft_base.specs.declared.definition.IndexDef.{IndexDef}
use Rattle.ft_base.specs.Docs.{Doc}
use Rattle.ft_base.specs.declared.reply.Reply.{Reply}
use Rattle.ft_base.specs.declared.reply.Reply.TheVariants.{Array, Number}
use Rattle.ft_base.specs.declared.row.Row.{Row}
use Rattle.ft_meaning.specs.Holds.{found_of}
use Rattle.ft_machine.specs.Aggregating.{rows_reply}

-- What one read gives: rows, and what it takes of the cursor. It may end the cursor.
pub record Part : Type 0 where
  pub rows : List Row
  pub taken : Taken
  pub ends : Bool

-- fewer rows than were asked for end a cursor
abbrev pub part : ℕ → List Row → Taken → Part
part n rows taken = record { rows = rows; taken = taken; ends = nat_lt (length rows) n }

-- ---- a stream

-- how many rows are still to come, where a document gave one or none
abbrev pub still_to_come : Option Row → ℕ → ℕ
still_to_come None n = suc n
still_to_come (Some row) n = n

-- The documents that a read takes: one after another, until there are so many rows.
abbrev pub docs_taken : (Doc → Option Row) → ℕ → List Doc → List Doc
docs_taken row n [] = []
docs_taken row zero (doc ∷ docs) = []
docs_taken row (suc n) (doc ∷ docs) = doc ∷ docs_taken row (still_to_come (row doc) n) docs

-- the id of the last document; `id` where there is none
abbrev pub last_id : ℕ → List Doc → ℕ
last_id id docs = fold (λ before (doc : Doc). doc.id) id docs

-- the documents behind an id
abbrev pub behind : ℕ → List Doc → List Doc
behind id docs = filter (λ (doc : Doc). nat_lt id doc.id) docs

-- the row that a stream makes of a document, where no step drops it
abbrev pub stream_row : IndexDef → Stream → Doc → Option Row
stream_row def stream doc = row_made stream.0 stream.1 def doc

-- the rows that it makes of documents
abbrev pub stream_rows : IndexDef → Stream → List Doc → List Row
stream_rows def stream docs = filter_map (stream_row def stream) docs

-- the documents that a read of so many rows takes of those that are found
abbrev pub stream_taken : IndexDef → Stream → ℕ → ℕ → List Doc → List Doc
stream_taken def stream after n found = docs_taken (stream_row def stream) n (behind after found)

-- their rows, and how far it is read
abbrev pub stream_part : IndexDef → Stream → ℕ → ℕ → List Doc → Part
stream_part def stream after n docs =
    part n (stream_rows def stream docs) (taken.UpTo (last_id after docs))

-- ---- any cursor

-- A read of so many rows, in an index with this definition over these documents.
abbrev pub part_of : IndexDef → List Doc → ℕ → Body → Part
part_of def docs n (body.Rows rows) = part n (take n rows) (taken.Rows n)
part_of def docs n (body.Stream query stream after) =
    stream_part def stream after n (stream_taken def stream after n (found_of query def docs))

-- the cursor's id; 0 where it ended
abbrev pub id_left : ℕ → Part → ℕ
id_left id part = if part.ends then 0 else id

-- the rows, and the cursor's id
abbrev pub part_reply : ℕ → Part → Reply
part_reply id part = Array (rows_reply part.rows ∷ Number (pos (id_left id part)) ∷ [])
