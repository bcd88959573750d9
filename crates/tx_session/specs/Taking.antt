-- What the code answers, read by the table.
use Rattle.std.specs.Prelude.{◌≡◌, ◌⊎◌, List, [], map}
use Rattle.ft_base.specs.Spans.{words_of}
use Rattle.ft_base.specs.declared.name_fit.NameFit.{NameFit}
use Rattle.ft_base.specs.declared.words.Frame.{Frame}
use Rattle.tx_session.specs.Table.{Command, Session, Row, Say, One, Block, Fate, broken, idle, line, line_of, other, row}
use Rattle.tx_session.specs.declared.kinds.Name.{Name}
use Rattle.tx_session.specs.declared.kinds.Phase.{Phase}
use Rattle.tx_session.specs.declared.kinds.Phase.TheVariants.{Idle, Open, Broken}
use Rattle.tx_session.specs.declared.kinds.TxText.TheVariants.{Queued}
use Rattle.tx_session.specs.declared.session.TxTake.{TxTake}
use Rattle.tx_session.specs.declared.session.TxTake.TheVariants as take

abbrev pub frame_words : Frame → Command
frame_words frame = words_of frame.bytes frame.spans

abbrev pub commands_of : List Frame → List Command
commands_of frames = map frame_words frames

-- an answer is what becomes of a command, where it is not out of memory
abbrev pub Tells : TxTake → Fate → Type 0
Tells take.One fate = fate ≡ One
Tells (take.Say text) fate = fate ≡ Say text
Tells (take.Block frames) fate = fate ≡ Block (commands_of frames)
Tells take.NoMemory fate = ⊥

-- commands wait in an open session alone
abbrev pub IsKept : Phase → List Command → Type 0
IsKept Open queue = Unit {0}
IsKept Idle queue = queue ≡ []
IsKept Broken queue = queue ≡ []

-- The line was taken. Out of memory, a command that was to wait breaks the session.
abbrev pub Follows : Row → Session → TxTake → Session → Type 0
Follows line old result new =
    (Tells result line.fate × (new ≡ line.after))
    ⊎ ((result ≡ take.NoMemory) × (line.fate ≡ Say Queued) × (old.phase ≡ Open) × (new ≡ broken))

-- the same for a command that is not QUIT
abbrev pub Others : Name → NameFit → Command → Session → TxTake → Session → Type 0
Others name judged words old result new = Follows (other old.phase name judged words old.queue) old result new

-- A command was taken.
abbrev pub Takes : Command → NameFit → Session → TxTake → Session → Type 0
Takes words judged old result new = Follows (line_of words judged old) old result new

-- a name that an idle session takes no notice of
abbrev pub IsPlain : Name → Type 0
IsPlain name = (words : Command) (judged : NameFit) → line name judged words idle ≡ row One idle
