-- Playing a load: the counts of one reply more, the commands that are left, and what is promised when none is.
use Rattle.std.proofs.Common.{◌≡◌, ℕ, ◌+◌, ◌^◌, ◌<◌, ◌≤◌, Bool, true, false, cond, List, [], ◌∷◌, ◌++◌, length, Some, None, refl, sym, ap, subst, ◌∙◌, arith, append_assoc}
use Rattle.std.specs.Prelude.{codes}
use Rattle.std.specs.Fmt.{decimal}
use mir.Val.{bool_byte}
use Rattle.std.specs.List.{AllByRecursion}
use Rattle.std.proofs.lemmas.List.{append-nil, length-append, map_push}
use Rattle.std.proofs.lemmas.List.Sums.{sum_by_push, count_by-le-length}
use Rattle.std.proofs.lemmas.List.Elements.{All-push, All-nil}
use Rattle.history_core.specs.Commands.{Said, words_of}
use Rattle.history_core.specs.Commands as history
use Rattle.ft_engine.specs.Entries.{Entry}
use Rattle.turn_gate.specs.Known.{Known}
use Rattle.load_maker.specs.Load.{load}
use Rattle.load_maker.proofs.CommandLaws.{load_are}
use Rattle.resp_wire.specs.Request.{IsCommand, requests}
use Rattle.resp_wire.specs.Stream.{Command, FaultAt, Stream, ended, fault_from, stream_of, with_command}
use Rattle.resp_wire.specs.declared.fault.Stop.{Stop}
use Rattle.resp_wire.specs.declared.fault.Stop.TheVariants.{More}
use Rattle.resp_wire.proofs.ReadingLaws.{command_again}
use Rattle.ft_server.specs.Answer.{AddsItem}
use Rattle.ft_server.specs.Items.{Item, One, said_in}
use Rattle.ft_server.specs.Callers.{Called}
use Rattle.ft_server.specs.Load.{EndsLoad, Loaded, Wrote, counted, each_reply, is_error, last_of, number_of, summary}
use Rattle.ft_server.specs.Passes.{Adds, LegalFrom}
use Rattle.ft_server.specs.Playing.{Counts, EndsLines, Played, Playing, ones}
use Rattle.ft_server.specs.Session.{IsCut, Outside}
use Rattle.ft_server.specs.declared.exit.Exit.{Exit}
use Rattle.ft_server.specs.declared.exit.Exit.TheVariants as exit
use Rattle.ft_server.specs.declared.tally.Tally.{Tally}
use Rattle.ft_server.proofs.CallerLaws.{called_alone, called_more, called_none, woven_own}

last_push : (before reply : List ℕ) (replies : List (List ℕ)) → last_of before (replies ++ reply ∷ []) ≡ reply
last_push before reply [] = refl
last_push before reply (first ∷ replies) = last_push first reply replies

byte_is : (b : Bool) → bool_byte b ≡ cond b 1 0
byte_is true = refl
byte_is false = refl

-- one reply more
pub counts_more : (tally more : Tally) (reply : List ℕ) (replies : List (List ℕ)) → more.commands ≡ tally.commands + 1 → more.errors ≡ tally.errors + bool_byte (is_error reply)
    → more.documents ≡ number_of reply → more.reply_bytes ≡ tally.reply_bytes + length reply → length reply < 2 ^ 63 → Counts tally replies → Counts more (replies ++ reply ∷ [])
counts_more tally more reply replies commands errors documents reply_bytes short counts = record {
  commands = omega (arith, commands, counts.commands, length-append replies (reply ∷ []));
  errors =
      errors
      ∙ (ap (λ (n : ℕ). tally.errors + n) (byte_is (is_error reply))
      ∙ (ap (λ (n : ℕ). n + cond (is_error reply) 1 0) counts.errors ∙ sym (sum_by_push (λ (r : List ℕ). cond (is_error r) 1 0) replies reply)));
  documents = documents ∙ ap number_of (sym (last_push [] reply replies));
  reply_bytes = reply_bytes ∙ (ap (λ (n : ℕ). n + length reply) counts.reply_bytes ∙ sym (sum_by_push length replies reply));
  few = omega (arith, commands, reply_bytes, short, counts.few);
}

line_before : (name others : List ℕ) (n : ℕ) → counted name n ++ others ≡ name ++ (decimal n ++ 10 ∷ others)
line_before name others n = append_assoc name (decimal n ++ 10 ∷ []) others ∙ ap (λ (r : List ℕ). name ++ r) (append_assoc (decimal n) (10 ∷ []) others)

four_lines : (w x y z : List ℕ) (a b d e : ℕ)
    → counted w a ++ (counted x b ++ (counted y d ++ counted z e)) ≡ w ++ (decimal a ++ 10 ∷ (x ++ (decimal b ++ 10 ∷ (y ++ (decimal d ++ 10 ∷ (z ++ (decimal e ++ 10 ∷ [])))))))
four_lines w x y z a b d e =
    line_before w _ a
    ∙ ap (λ (r : List ℕ). w ++ (decimal a ++ 10 ∷ r))
    (line_before x _ b ∙ ap (λ (r : List ℕ). x ++ (decimal b ++ 10 ∷ r)) (line_before y _ d))

-- the text of the four lines as it is written
pub lines_are : (tally : Tally) (replies : List (List ℕ)) (text : List ℕ) → Counts tally replies
    → text ≡ codes "commands " ++ (decimal tally.commands ++ 10 ∷ (codes "errors " ++ (decimal tally.errors ++ 10 ∷ (codes "documents " ++ (decimal tally.documents ++ 10 ∷ (codes "reply bytes " ++ (decimal tally.reply_bytes ++ 10 ∷ [])))))))
    → text ≡ summary replies
lines_are tally replies text counts is =
    is
    ∙ (sym (four_lines (codes "commands ") (codes "errors ") (codes "documents ") (codes "reply bytes ") tally.commands tally.errors tally.documents tally.reply_bytes)
    ∙ rw (counts.commands, counts.errors, counts.documents, counts.reply_bytes) refl)

-- commands that are spelled one after another are what the stream has, and more may come
held : (commands : List Command) → AllByRecursion IsCommand commands → stream_of (requests commands) ≡ record { commands = commands; rest = []; stop = More }
unfolding stream_of
held [] are = refl
held (words ∷ commands) are =
    command_again words (requests commands) are.0.limits ∙ (ap (with_command words) (held commands are.1) ∙ first words are.0.named)
  where
    first : (command : Command) → 0 < length command
        → with_command command (record { commands = commands; rest = []; stop = More }) ≡ record { commands = command ∷ commands; rest = []; stop = More }
    first [] named = absurd (omega (arith, named))
    first (word ∷ others) named = refl

pub load_held : (seed docs : ℕ) → docs ≤ 100000 → stream_of (requests (load seed docs)) ≡ record { commands = load seed docs; rest = []; stop = More }
load_held seed docs few = held (load seed docs) (load_are seed docs few)

-- what a decoder holds that was fed a load
pub load_left : (seed docs : ℕ) (before piece left : List ℕ) → docs ≤ 100000 → before ≡ [] → piece ≡ requests (load seed docs) → left ≡ before ++ piece
    → stream_of left ≡ record { commands = load seed docs; rest = []; stop = More }
load_left seed docs before piece left few none made fed =
    ap (λ (bytes : List ℕ). stream_of bytes) (fed ∙ (ap (λ (bytes : List ℕ). bytes ++ piece) none ∙ made)) ∙ load_held seed docs few

-- a fault does not follow where more may come
pub no_fault : (fed : ℕ) (fault : FaultAt) (stop : Stop) → stop ≡ More → fault_from fed stop ≡ Some fault → ⊥
no_fault fed fault stop more is = let none : None ≡ Some fault = ap (fault_from fed) (sym more) ∙ is in absurd (cc)

commands_of : (words : Command) (stream : Stream) → 0 < length words → (with_command words stream).commands ≡ words ∷ stream.commands
commands_of [] stream some = absurd (omega (arith, some))
commands_of (word ∷ words) stream some = refl

stop_of : (words : Command) (stream : Stream) → (with_command words stream).stop ≡ stream.stop
stop_of [] stream = refl
stop_of (word ∷ words) stream = refl

-- no command was answered yet
pub playing_begins : (left : List ℕ) (pass : Known Entry) (tally : Tally) → (stream_of left).stop ≡ More → Counts tally [] → Playing (stream_of left).commands left pass pass tally
playing_begins left pass tally waits counts = record {
  said = [];
  caller = refl;
  alone = refl;
  called = called_none pass None;
  split = refl;
  waits = waits;
  moments = All-nil _;
  counts = counts;
}

length-words : (said : List Said) → length (words_of said) ≡ length said
length-words [] = refl
length-words (one ∷ said) = omega (arith, length-words said)

length-replies : (said : List Said) → length (each_reply said) ≡ length said
length-replies [] = refl
length-replies (one ∷ said) = omega (arith, length-replies said)

-- how many were answered
pub playing_few : (commands : List Command) (left : List ℕ) (pass later : Known Entry) (tally : Tally) → Playing commands left pass later tally → tally.commands + length (stream_of left).commands ≡ length commands
playing_few commands left pass later tally playing =
    let whole : length (words_of playing.said ++ (stream_of left).commands) ≡ length commands = ap length playing.split in
    omega (arith, playing.counts.commands, whole, length-append (words_of playing.said) (stream_of left).commands, length-words playing.said, length-replies playing.said)

pub playing_errors : (commands : List Command) (left : List ℕ) (pass later : Known Entry) (tally : Tally) → Playing commands left pass later tally → tally.errors ≤ tally.commands
playing_errors commands left pass later tally playing =
    omega (arith, playing.counts.errors, playing.counts.commands, count_by-le-length is_error (each_reply playing.said))

-- one command more
module _ (commands : List Command) (left left' : List ℕ) (pass later next : Known Entry) (tally more : Tally) (words : Command) (reply : List ℕ)
    (playing : Playing commands left pass later tally) (some : 0 < length words) (taken : stream_of left ≡ with_command words (stream_of left'))
    (same : (next.caller ≡ later.caller) × (next.alone ≡ later.alone)) (adds : Adds later next 0 words reply)
    (counts : (replies : List (List ℕ)) → Counts tally replies → Counts more (replies ++ reply ∷ [])) where
  abbrev one : Said
  one = record { moment = 0; words = words; reply = reply }

  item_adds : AddsItem later next (One one)
  item_adds = record { others = adds.others; none_own = adds.none_own; none = adds.none; seen = adds.seen }

  split_more : words_of (playing.said ++ one ∷ []) ++ (stream_of left').commands ≡ commands
  split_more =
      ap (λ (cs : List Command). cs ++ (stream_of left').commands) (map_push (λ (s : Said). s.words) playing.said one)
      ∙ (append_assoc (words_of playing.said) (words ∷ []) (stream_of left').commands
      ∙ (ap (λ (cs : List Command). words_of playing.said ++ cs) (sym (commands_of words (stream_of left') some) ∙ sym (ap (λ (s : Stream). s.commands) taken)) ∙ playing.split))

  pub playing_more : Playing commands left' pass next more
  playing_more = record {
    said = playing.said ++ one ∷ [];
    caller = same.0 ∙ playing.caller;
    alone = same.1 ∙ playing.alone;
    called = subst (λ (items : List Item). Called pass next items None None) (sym (map_push One playing.said one))
        (called_more pass later next (ones playing.said) (One one) None None None playing.called playing.caller playing.alone item_adds tt);
    split = split_more;
    waits = sym (stop_of words (stream_of left')) ∙ (sym (ap (λ (s : Stream). s.stop) taken) ∙ playing.waits);
    moments = All-push (λ (s : Said). s.moment ≡ 0) playing.said one playing.moments refl;
    counts = subst (Counts more) (sym (map_push (λ (s : Said). s.reply) playing.said one)) (counts (each_reply playing.said) playing.counts);
  }

-- no command is left
pub playing_ends : (commands : List Command) (left left' : List ℕ) (pass later : Known Entry) (tally : Tally) → Playing commands left pass later tally → stream_of left ≡ ended More left'
    → Played commands pass later tally
playing_ends commands left left' pass later tally playing none = record {
  said = playing.said;
  called = playing.called;
  words = sym (append-nil (words_of playing.said)) ∙ (ap (λ (cs : List Command). words_of playing.said ++ cs) (sym (ap (λ (s : Stream). s.commands) none)) ∙ playing.split);
  moments = playing.moments;
  counts = playing.counts;
}

executed_ones : (said : List Said) → said_in (ones said) ≡ said
executed_ones [] = refl
executed_ones (one ∷ said) = ap (λ (l : List Said). one ∷ l) (executed_ones said)

-- a caller that began alone, with nothing seen
pub loaded_alone : (commands : List Command) (pass later : Known Entry) (tally : Tally) → pass.seen ≡ [] → pass.alone ≡ true → pass.caller ≡ 0 → LegalFrom 1 later.seen
    → Played commands pass later tally → (said : List Said) × Loaded commands said × Counts tally (each_reply said)
loaded_alone commands pass later tally none alone first legal played =
    let all = called_alone pass later (ones played.said) None None none alone first legal played.called in (
      played.said,
      record {
        entries = all.entries;
        after = all.after;
        legal = all.legal;
        own_are = woven_own 0 (ones played.said) all.entries all.woven ∙ ap (λ (said : List Said). history.commands_of 0 said) (executed_ones played.said);
        alone = all.alone;
        words = played.words;
        moments = played.moments;
      },
      played.counts,
    )

-- the lines that were written, or not all of them, are those of the load
pub ends_load : (seed docs : ℕ) (how : Exit) (text : List ℕ) (before after : Outside) (said : List Said) → Loaded (load seed docs) said → text ≡ summary (each_reply said)
    → EndsLines text how before after → EndsLoad seed docs how before after
ends_load seed docs exit.Done text before after said loaded is wrote = (said, loaded, subst (λ (t : List ℕ). Wrote t before after) is wrote)
ends_load seed docs exit.WriteFault text before after said loaded is ends =
    (ends.0, (said, ends.1.0, loaded, subst (λ (t : List ℕ). IsCut ends.1.0 t) is ends.1.1, ends.1.2))
ends_load seed docs exit.CutShort text before after said loaded is ends = absurd ends
ends_load seed docs exit.Protocol text before after said loaded is ends = absurd ends
ends_load seed docs exit.Usage text before after said loaded is ends = absurd ends
ends_load seed docs exit.ReadFault text before after said loaded is ends = absurd ends
ends_load seed docs exit.ByteLimit text before after said loaded is ends = absurd ends
ends_load seed docs exit.NoMemory text before after said loaded is ends = absurd ends
ends_load seed docs exit.DoorFault text before after said loaded is ends = absurd ends
ends_load seed docs exit.NoThread text before after said loaded is ends = absurd ends

-- the same of an equal seed and number
pub ends_same : (a b m n : ℕ) (how : Exit) (before after : Outside) → (a ≡ m) × (b ≡ n) → EndsLoad a b how before after → EndsLoad m n how before after
ends_same a b m n how before after same ends =
    subst (λ (seed : ℕ). EndsLoad seed n how before after) same.0 (subst (λ (docs : ℕ). EndsLoad a docs how before after) same.1 ends)

-- a load does not end as words that are none
pub no_usage : (seed docs : ℕ) (how : Exit) (before after : Outside) → how ≡ exit.Usage → EndsLoad seed docs how before after → ⊥
no_usage seed docs how before after is ends = subst (λ (e : Exit). EndsLoad seed docs e before after) is ends
