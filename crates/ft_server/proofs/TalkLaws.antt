-- What the table of transactions says of commands, and how a session goes on by one command more.
use Rattle.std.proofs.Common.{◌≡◌, ◌<◌, ℕ, inl, inr, true, false, List, [], ◌∷◌, ◌++◌, length, refl, sym, ap, subst, ◌∙◌, arith, append_assoc, append-nil}
use Rattle.std.specs.Prelude.{◌||◌, codes}
use Rattle.std.specs.List.{All}
use Rattle.std.proofs.lemmas.Bool.{cases_Bool, or_parts}
use Rattle.std.proofs.lemmas.List.Elements.{All-nil, All-push}
use Rattle.ft_base.specs.Names.{is_name}
use Rattle.ft_base.specs.Words.{is_quit}
use Rattle.ft_base.specs.declared.name_fit.NameFit.{NameFit}
use Rattle.ft_base.specs.declared.name_fit.NameFit.TheVariants as fit
use Rattle.cmd_parse.specs.Fits.{is_of_session}
use Rattle.history_core.specs.Running.{AreLawful}
use Rattle.tx_session.specs.Names.{name_of}
use Rattle.tx_session.specs.Table.{Command, Fate, Row, Session, at_broken, at_idle, at_open, idle, line, line_of, other, row}
use Rattle.tx_session.specs.Table as fate
use Rattle.tx_session.specs.declared.kinds.Name.{Name}
use Rattle.tx_session.specs.declared.kinds.Name.TheVariants.{Quit, Multi, Exec, Discard, Other}
use Rattle.tx_session.specs.declared.kinds.Phase.{Phase}
use Rattle.tx_session.specs.declared.kinds.Phase.TheVariants.{Idle, Open, Broken}
use Rattle.ft_server.specs.Items.{Item, text_of, texts_of}
use Rattle.ft_server.specs.Talk.{Talks, Turns, name}

-- ---- one command more

pub talks_more : (old mid new : Session) (commands : List Command) (items : List Item) (words : Command) (item : Item)
    → Talks old commands items mid → Turns mid words item new → Talks old (commands ++ words ∷ []) (items ++ item ∷ []) new
talks_more old mid new [] [] words item is turns = (new, subst (λ (s : Session). Turns s words item new) is turns, refl)
talks_more old mid new [] (one ∷ items) words item is turns = absurd is
talks_more old mid new (first ∷ commands) [] words item is turns = absurd is
talks_more old mid new (first ∷ commands) (one ∷ items) words item talks turns =
    (talks.0, talks.1, talks_more talks.0 mid new commands items words item talks.2 turns)

-- what is written, with one item more
pub texts_of-push : (items : List Item) (item : Item) → texts_of (items ++ item ∷ []) ≡ texts_of items ++ text_of item
texts_of-push [] item = append-nil (text_of item)
texts_of-push (first ∷ items) item =
    ap (λ (t : List ℕ). text_of first ++ t) (texts_of-push items item) ∙ sym (append_assoc (text_of first) (texts_of items) (text_of item))

-- ---- the lines of the table

-- QUIT is executed by itself, wherever the session is.
named_quit : (words : Command) (judged : NameFit) (old : Session) → is_quit words ≡ true → line_of words judged old ≡ row fate.One idle
named_quit [] judged old quit = absurd (cc)
named_quit (word ∷ words) judged old quit = rw quit refl

-- So what becomes of any command that is not executed by itself is no QUIT's.
pub no_quit : (words : Command) (judged : NameFit) (old : Session) (becomes : Fate) → (line_of words judged old).fate ≡ becomes → (becomes ≡ fate.One → ⊥) → is_quit words ≡ false
no_quit words judged old becomes is differs = elim (cases_Bool (is_quit words)) [
  | inl y ↦ absurd (differs (sym is ∙ ap (λ (r : Row). r.fate) (named_quit words judged old y)))
  | inr n ↦ n
]

-- What a line leaves waiting is lawful where what waited and the command are.
idle_lawful : (called : Name) (judged : NameFit) → All AreLawful (at_idle called judged).after.queue
idle_lawful Quit judged = All-nil AreLawful
idle_lawful Other judged = All-nil AreLawful
idle_lawful Multi fit.Fits = All-nil AreLawful
idle_lawful Multi fit.Unknown = All-nil AreLawful
idle_lawful Multi fit.Arity = All-nil AreLawful
idle_lawful Exec fit.Fits = All-nil AreLawful
idle_lawful Exec fit.Unknown = All-nil AreLawful
idle_lawful Exec fit.Arity = All-nil AreLawful
idle_lawful Discard fit.Fits = All-nil AreLawful
idle_lawful Discard fit.Unknown = All-nil AreLawful
idle_lawful Discard fit.Arity = All-nil AreLawful

open_lawful : (judged : NameFit) (called : Name) (words : Command) (queue : List Command) → AreLawful words → All AreLawful queue
    → All AreLawful (at_open judged called words queue).after.queue
open_lawful fit.Unknown called words queue lawful all = All-nil AreLawful
open_lawful fit.Arity called words queue lawful all = All-nil AreLawful
open_lawful fit.Fits Multi words queue lawful all = all
open_lawful fit.Fits Discard words queue lawful all = All-nil AreLawful
open_lawful fit.Fits Exec words queue lawful all = All-nil AreLawful
open_lawful fit.Fits Quit words queue lawful all = All-push AreLawful queue words all lawful
open_lawful fit.Fits Other words queue lawful all = All-push AreLawful queue words all lawful

broken_lawful : (judged : NameFit) (called : Name) → All AreLawful (at_broken judged called).after.queue
broken_lawful fit.Unknown called = All-nil AreLawful
broken_lawful fit.Arity called = All-nil AreLawful
broken_lawful fit.Fits Multi = All-nil AreLawful
broken_lawful fit.Fits Discard = All-nil AreLawful
broken_lawful fit.Fits Exec = All-nil AreLawful
broken_lawful fit.Fits Quit = All-nil AreLawful
broken_lawful fit.Fits Other = All-nil AreLawful

other_lawful : (phase : Phase) (called : Name) (judged : NameFit) (words : Command) (queue : List Command) → AreLawful words → All AreLawful queue
    → All AreLawful (other phase called judged words queue).after.queue
other_lawful Idle called judged words queue lawful all = idle_lawful called judged
other_lawful Open called judged words queue lawful all = open_lawful judged called words queue lawful all
other_lawful Broken called judged words queue lawful all = broken_lawful judged called

line_lawful : (called : Name) (judged : NameFit) (words : Command) (old : Session) → AreLawful words → All AreLawful old.queue
    → All AreLawful (line called judged words old).after.queue
line_lawful Quit judged words old lawful all = All-nil AreLawful
line_lawful Multi judged words old lawful all = other_lawful old.phase Multi judged words old.queue lawful all
line_lawful Exec judged words old lawful all = other_lawful old.phase Exec judged words old.queue lawful all
line_lawful Discard judged words old lawful all = other_lawful old.phase Discard judged words old.queue lawful all
line_lawful Other judged words old lawful all = other_lawful old.phase Other judged words old.queue lawful all

-- A block is all that waited, one command at least.
abbrev IsAllOf : List Command → List Command → Type 0
IsAllOf commands queue = (commands ≡ queue) × (0 < length commands)

queued : (queue commands : List Command) → fate.block queue ≡ fate.Block commands → IsAllOf commands queue
queued [] commands is = absurd (cc)
queued (first ∷ queue) commands is = let same : commands ≡ first ∷ queue = cc in (same, rw same (omega arith))

idle_block : (called : Name) (judged : NameFit) (commands queue : List Command) → (at_idle called judged).fate ≡ fate.Block commands → IsAllOf commands queue
idle_block called judged commands queue is = grind arith

open_block : (judged : NameFit) (called : Name) (words : Command) (queue commands : List Command) → (at_open judged called words queue).fate ≡ fate.Block commands → IsAllOf commands queue
open_block fit.Unknown called words queue commands is = absurd (cc)
open_block fit.Arity called words queue commands is = absurd (cc)
open_block fit.Fits Multi words queue commands is = absurd (cc)
open_block fit.Fits Discard words queue commands is = absurd (cc)
open_block fit.Fits Exec words queue commands is = queued queue commands is
open_block fit.Fits Quit words queue commands is = absurd (cc)
open_block fit.Fits Other words queue commands is = absurd (cc)

broken_block : (judged : NameFit) (called : Name) (commands queue : List Command) → (at_broken judged called).fate ≡ fate.Block commands → IsAllOf commands queue
broken_block judged called commands queue is = grind arith

other_block : (phase : Phase) (called : Name) (judged : NameFit) (words : Command) (queue commands : List Command) → (other phase called judged words queue).fate ≡ fate.Block commands
    → IsAllOf commands queue
other_block Idle called judged words queue commands is = idle_block called judged commands queue is
other_block Open called judged words queue commands is = open_block judged called words queue commands is
other_block Broken called judged words queue commands is = broken_block judged called commands queue is

line_block : (called : Name) (judged : NameFit) (words : Command) (old : Session) (commands : List Command) → (line called judged words old).fate ≡ fate.Block commands → IsAllOf commands old.queue
line_block Quit judged words old commands is = absurd (cc)
line_block Multi judged words old commands is = other_block old.phase Multi judged words old.queue commands is
line_block Exec judged words old commands is = other_block old.phase Exec judged words old.queue commands is
line_block Discard judged words old commands is = other_block old.phase Discard judged words old.queue commands is
line_block Other judged words old commands is = other_block old.phase Other judged words old.queue commands is

-- ---- the same by the words of a command

pub lawful_behind : (words : Command) (judged : NameFit) (old : Session) → AreLawful words → All AreLawful old.queue → All AreLawful (line_of words judged old).after.queue
lawful_behind words judged old lawful all = line_lawful (name_of words) judged words old lawful all

pub block_waited : (words : Command) (judged : NameFit) (old : Session) (commands : List Command) → (line_of words judged old).fate ≡ fate.Block commands
    → (commands ≡ old.queue) × (0 < length commands)
block_waited words judged old commands is = line_block (name_of words) judged words old commands is

-- an idle session executes all else by itself
pub plain_line : (words : Command) (judged : NameFit) → is_of_session (name words) ≡ false → line_of words judged idle ≡ row fate.One idle
plain_line words judged plain = elim (cases_Bool (is_quit words)) [
  | inl y ↦ named_quit words judged idle y
  | inr n ↦ by_name words judged plain n
]
  where
    by_name : (words : Command) (judged : NameFit) → is_of_session (name words) ≡ false → is_quit words ≡ false → line_of words judged idle ≡ row fate.One idle
    by_name [] judged plain differs = refl
    by_name (word ∷ words) judged plain differs =
        let both = or_parts (is_name word (codes "MULTI") || is_name word (codes "EXEC")) (is_name word (codes "DISCARD")) plain in
        let first = or_parts (is_name word (codes "MULTI")) (is_name word (codes "EXEC")) both.0 in
        rw (differs, first.0, first.1, both.1) refl
