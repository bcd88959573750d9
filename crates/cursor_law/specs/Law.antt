-- The law of stream cursors, over every legal history.
use Rattle.std.specs.Prelude.{◌≡◌, ◌<◌, ◌⊎◌, ⊤, ℕ, pos, List, [], ◌∷◌, ◌++◌, length, nat_lt, true, Option, Some, None, is_none, Contains, if◌then◌else◌}
use Rattle.std.specs.List.{AllByRecursion}
use Rattle.cursor_law.specs.Given.{Read, docs_of, first_read, given, given_at, read_at, rows_of}
use Rattle.cursor_law.specs.Opens.{Opens}
use Rattle.cursor_law.specs.Steps.{Step, steps}
use Rattle.cursor_law.specs.StreamCursor.{IsHit, StreamCursor, after_in, has_id, hits}
use Rattle.ft_base.specs.Reply.{spelling}
use Rattle.ft_base.specs.Docs.{Doc}
use Rattle.ft_base.specs.declared.reply.Reply.{Reply}
use Rattle.ft_base.specs.declared.reply.Reply.TheVariants.{Array, Number}
use Rattle.ft_base.specs.declared.row.Row.{Row}
use Rattle.ft_machine.specs.Aggregating.{rows_reply}
use Rattle.ft_machine.specs.History.{IsLegal, Readings}
use Rattle.ft_machine.specs.Machine.{State}
use Rattle.history_core.specs.Entries.{Entry}

-- Something holds of each stream cursor of each legal history that begins with a number above 0, of whatever types its snapshots,
-- names and answers are: of the step that opens it, and all steps behind that.
abbrev pub Always : (K N A : Type 0) → (StreamCursor → Step → List Step → Type 0) → Type 0
Always K N A Law = (readings : Readings K N A) (first : ℕ) (entries : List (Entry K N A)) (after : State) (legal : IsLegal readings first entries after)
    (earlier later : List Step) (opening : Step) (cursor : StreamCursor)
    → 0 < first → steps readings first entries after legal ≡ earlier ++ opening ∷ later → Opens cursor opening → Law cursor opening later

-- ---- no document comes twice

-- each id is below all later ones
abbrev pub IdsRise : List Doc → Type 0
IdsRise [] = ⊤
IdsRise (doc ∷ docs) = AllByRecursion (λ (other : Doc). doc.id < other.id) docs × IdsRise docs

abbrev pub Rises : StreamCursor → Step → List Step → Type 0
Rises cursor opening later = IdsRise (given cursor opening later)

-- ---- what is given matches

abbrev pub AreHits : StreamCursor → State → List Doc → Type 0
AreHits cursor state docs = AllByRecursion (Contains (hits cursor state)) docs

-- each document that a step gives matches in the state before the step
abbrev pub GivesHits : StreamCursor → Step → List Step → Type 0
GivesHits cursor opening later =
    AreHits cursor opening.old (docs_of cursor opening (first_read cursor))
    × AllByRecursion (λ (step : Step). AreHits cursor step.old (given_at cursor step)) later

-- ---- what matches throughout is given

-- a step reads the cursor, and leaves it gone
abbrev pub IsLastRead : StreamCursor → Step → Type 0
IsLastRead cursor step = (read : Read) × (read_at cursor step ≡ Some read) × (after_in cursor step.new ≡ None)

-- one of the steps is the last read, and a document of this id matches before each step up to that one
abbrev pub Stays : StreamCursor → ℕ → List Step → Type 0
Stays cursor id [] = ⊥
Stays cursor id (step ∷ steps) = IsHit cursor id step.old × (IsLastRead cursor step ⊎ Stays cursor id steps)

-- the same from the opening on, which may leave the cursor gone
abbrev pub StaysHit : StreamCursor → ℕ → Step → List Step → Type 0
StaysHit cursor id opening later = IsHit cursor id opening.old × ((after_in cursor opening.new ≡ None) ⊎ Stays cursor id later)

-- once the cursor is read to its end, each id that matched throughout is among the given ones
abbrev pub GivesAll : StreamCursor → Step → List Step → Type 0
GivesAll cursor opening later = (id : ℕ) → StaysHit cursor id opening later → has_id id (given cursor opening later) ≡ true

-- ---- the replies

-- rows, and behind them the cursor's id, which is 0 where fewer rows came than were asked for
abbrev pub rows_shown : ℕ → ℕ → List Row → Reply
rows_shown id count rows = Array (rows_reply rows ∷ Number (pos (if nat_lt (length rows) count then 0 else id)) ∷ [])

-- A step that takes a read is answered the rows of the documents that it gives, and the cursor ends where these are fewer
-- than were asked for.
pub record ShowsRead (cursor : StreamCursor) (step : Step) (read : Read) : Type 0 where
  pub reply : step.reply ≡ spelling (rows_shown cursor.id read.count (rows_of cursor step read))
  pub ends : is_none (after_in cursor step.new) ≡ nat_lt (length (rows_of cursor step read)) read.count

abbrev pub ShowsIf : StreamCursor → Step → Option Read → Type 0
ShowsIf cursor step None = ⊤
ShowsIf cursor step (Some read) = ShowsRead cursor step read

abbrev pub ShowsRows : StreamCursor → Step → List Step → Type 0
ShowsRows cursor opening later =
    ShowsRead cursor opening (first_read cursor) × AllByRecursion (λ (step : Step). ShowsIf cursor step (read_at cursor step)) later
