-- Commands without the three names of transactions: each becomes an item of its own, and the session stays idle.
use Rattle.std.proofs.Common.{◌≡◌, ℕ, inl, inr, false, List, [], ◌∷◌, ◌++◌, map, refl, ap, subst, ◌∙◌}
use Rattle.std.proofs.lemmas.Bool.{or_parts}
use Rattle.cmd_parse.specs.Fits.{is_of_session, name_fit}
use Rattle.history_core.specs.Commands.{Said, commands_of, words_of}
use Rattle.resp_wire.specs.Stream.{Command}
use Rattle.tx_session.specs.Table.{Fate, Row, Session, idle, row}
use Rattle.tx_session.specs.Table as fate
use Rattle.tx_session.specs.declared.kinds.Phase.TheVariants.{Idle, Open}
use Rattle.ft_server.specs.Items.{Block, Item, One, Told, moments_of, said_in, texts_of}
use Rattle.ft_server.specs.Plain.{AreEach, PlainStreams, names_transaction}
use Rattle.ft_server.specs.Talk.{Becomes, IsNotKept, Talks, Turns, line_at, name}
use Rattle.ft_server.proofs.CallerLaws.{woven_own}
use Rattle.ft_server.proofs.TalkLaws.{plain_line}

-- a command that the table executes by itself
abbrev IsOne : Command → Item → Type 0
IsOne words item = (said : Said) × (item ≡ One said) × (said.words ≡ words)

one_of : (words : Command) (item : Item) → Becomes words fate.One item → IsOne words item
one_of words (Told moment text) is = absurd is
one_of words (One said) is = (said, refl, is)
one_of words (Block moment commands replies) is = absurd is

kept : (line : Row) (item : Item) (new : Session) → IsNotKept idle line item new → ⊥
kept line (Told moment text) new is = let same : Idle ≡ Open = is.0 in absurd (cc)
kept line (One said) new is = is
kept line (Block moment commands replies) new is = is

plain_turn : (words : Command) (item : Item) (new : Session) → is_of_session (name words) ≡ false → Turns idle words item new → (new ≡ idle) × IsOne words item
plain_turn words item new plain (inl turn) =
    let line : line_at idle words ≡ row fate.One idle = plain_line words (name_fit 0 words) plain in (
      turn.1 ∙ ap (λ (r : Row). r.after) line,
      one_of words item (subst (λ (f : Fate). Becomes words f item) (ap (λ (r : Row). r.fate) line) turn.0),
    )
plain_turn words item new plain (inr turn) = absurd (kept (line_at idle words) item new turn)

-- the parts of what is said of all
each_more : (words : Command) (commands : List Command) (item : Item) (items : List Item) (one : Said) → item ≡ One one → one.words ≡ words → AreEach commands items → AreEach (words ∷ commands) (item ∷ items)
each_more words commands item items one is its rest = record {
  said = one ∷ rest.said;
  each = ap (λ (i : Item). i ∷ items) is ∙ ap (λ (l : List Item). One one ∷ l) rest.each;
  words = ap (λ (w : Command). w ∷ words_of rest.said) its ∙ ap (λ (l : List Command). words ∷ l) rest.words;
  moments = ap (λ (i : Item). moments_of (i ∷ items)) is ∙ ap (λ (l : List ℕ). one.moment ∷ l) rest.moments;
  texts = ap (λ (i : Item). texts_of (i ∷ items)) is ∙ ap (λ (t : List ℕ). one.reply ++ t) rest.texts;
  own_are = λ caller entries woven. woven_own caller (item ∷ items) entries woven ∙ ap (λ (l : List Said). commands_of caller l) executed;
}
  where
    executed_ones : (said : List Said) → said_in (map One said) ≡ said
    executed_ones [] = refl
    executed_ones (s ∷ said) = ap (λ (l : List Said). s ∷ l) (executed_ones said)

    executed : said_in (item ∷ items) ≡ one ∷ rest.said
    executed = ap (λ (i : Item). said_in (i ∷ items)) is ∙ ap (λ (l : List Said). one ∷ l) (ap said_in rest.each ∙ executed_ones rest.said)

none_yet : AreEach [] []
none_yet = record {
  said = [];
  each = refl;
  words = refl;
  moments = refl;
  texts = refl;
  own_are = λ caller entries woven. woven_own caller [] entries woven;
}

pub plain_streams : PlainStreams
plain_streams [] [] session plain is = (is, none_yet)
plain_streams [] (item ∷ items) session plain is = absurd is
plain_streams (words ∷ commands) [] session plain is = absurd is
plain_streams (words ∷ commands) (item ∷ items) session plain talks =
    let none = or_parts (is_of_session (name words)) (names_transaction commands) plain in
    let turn = plain_turn words item talks.0 none.0 talks.1 in
    let rest = plain_streams commands items session none.1 (subst (λ (s : Session). Talks s commands items session) turn.0 talks.2) in
    (rest.0, each_more words commands item items turn.1.0 turn.1.1 turn.1.2 rest.1)
