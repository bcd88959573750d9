-- What the commands become that a session took: executed by themselves, told, or executed side by side.
use Rattle.std.proofs.Common.{◌≡◌, ℕ, inl, inr, false, List, [], ◌∷◌, ◌++◌, length, Option, Result, Ok, Err, refl, sym, subst, ◌∙◌, append-nil}
use Rattle.std.specs.Prelude.{OnOk, OnErr}
use Rattle.std.specs.List.{All, AllByRecursion}
use Rattle.std.specs.Io.KnownBytes.{Appends}
use Rattle.std.proofs.lemmas.List.{length-map}
use Rattle.std.proofs.lemmas.List.Elements.{All-from_recursion, All-nil, recursion_from_All}
use Rattle.ft_base.specs.Words.{is_quit}
use Rattle.ft_base.specs.declared.name_fit.NameFit.{NameFit}
use Rattle.ft_base.specs.declared.words.Frame.{Frame}
use Rattle.cmd_parse.specs.Fits.{name_fit}
use Rattle.fs_ports.specs.Causes.{HasCause, WritesFront}
use Rattle.fs_ports.specs.Moments.{Gives}
use Rattle.ft_engine.specs.Entries.{Entry}
use Rattle.history_core.specs.Running.{AreLawful}
use Rattle.turn_gate.specs.Known.{Known}
use Rattle.tx_session.specs.Table.{Command, Fate, Session}
use Rattle.tx_session.specs.Table as fate
use Rattle.tx_session.specs.Taking.{Takes, commands_of}
use Rattle.tx_session.specs.declared.kinds.TxText.{TxText}
use Rattle.tx_session.specs.declared.kinds.TxText.TheVariants.{Queued}
use Rattle.tx_session.specs.declared.session.TxTake.{TxTake}
use Rattle.tx_session.specs.declared.session.TxTake.TheVariants as take
use Rattle.ft_server.specs.Answer.{AddsItem, Answer, BlockAnswer, Writes, went_of}
use Rattle.ft_server.specs.Blocks.{AddsBlock, IsCommand, all_words, words_in}
use Rattle.ft_server.specs.Items.{Block, Item, One, Told, block_text, text_of}
use Rattle.ft_server.specs.Passes.{Adds}
use Rattle.ft_server.specs.Serving.{Sent}
use Rattle.ft_server.specs.Talk.{Becomes, Turns, line_at, name, out_of_memory, said_text}
use Rattle.ft_server.specs.declared.connection.End.{End}
use Rattle.ft_server.specs.declared.connection.End.TheVariants as end
use Rattle.ft_server.proofs.TalkLaws.{block_waited, lawful_behind, no_quit}

-- ---- what is written

pub writes_of : {T E : Type 0} (result : Result T E) (text : List ℕ) (written written' : Option (List ℕ)) (faults faults' : ℕ) → OnOk result (Appends written written' text)
    → OnErr result (WritesFront written written' text) → HasCause faults faults' result → Writes (went_of result) text written written' faults faults'
writes_of (Ok done) text written written' faults faults' sent cut cause = (refl, sent)
writes_of (Err fault) text written written' faults faults' sent cut cause = (cut, cause.failed)

-- a text for a command that is no QUIT
sent_of : (went : Result ℕ End) (words : Command) (text : List ℕ) (written written' : Option (List ℕ)) (faults faults' : ℕ) → is_quit words ≡ false
    → Writes went text written written' faults faults' → Sent went words text written written' faults faults'
sent_of (Ok count) words text written written' faults faults' other writes = (writes.0, other, writes.1)
sent_of (Err end.WriteFault) words text written written' faults faults' other writes = writes
sent_of (Err end.Quit) words text written written' faults faults' other writes = absurd writes
sent_of (Err end.Closed) words text written written' faults faults' other writes = absurd writes
sent_of (Err (end.CutShort left)) words text written written' faults faults' other writes = absurd writes
sent_of (Err (end.Protocol at kind)) words text written written' faults faults' other writes = absurd writes
sent_of (Err end.ReadFault) words text written written' faults faults' other writes = absurd writes
sent_of (Err end.ByteLimit) words text written written' faults faults' other writes = absurd writes
sent_of (Err end.NoMemory) words text written written' faults faults' other writes = absurd writes

-- nothing was executed
told_adds : (pass : Known Entry) (moment : ℕ) (text : List ℕ) → AddsItem pass pass (Told moment text)
told_adds pass moment text = record { others = []; none_own = tt; none = λ _. refl; seen = sym (append-nil (pass.seen ++ []) ∙ append-nil pass.seen) }

-- ---- the items of a command that a session took

module _ (words : Command) (old new : Session) where
  -- a session answered so
  abbrev Took : TxTake → Type 0
  Took result = Takes words (name_fit 0 words) old result new

  turns_by : (becomes : Fate) (item : Item) → (line_at old words).fate ≡ becomes → new ≡ (line_at old words).after → Becomes words becomes item → Turns old words item new
  turns_by becomes item at after so = inl (subst (λ (f : Fate). Becomes words f item) (sym at) so, after)

  -- it was executed by itself
  pub answered_one : (pass pass' : Known Entry) (given given' : Option (List ℕ)) (went : Result ℕ End) (written written' : Option (List ℕ)) (faults faults' moment : ℕ) (reply : List ℕ)
      → Took take.One → Adds pass pass' moment words reply → Gives given given' (moment ∷ []) → Sent went words reply written written' faults faults'
      → Answer words old new pass pass' given given' went written written' faults faults'
  answered_one pass pass' given given' went written written' faults faults' moment reply (inl took) adds asked sent = record {
    item = One (record { moment = moment; words = words; reply = reply });
    turns = turns_by fate.One (One (record { moment = moment; words = words; reply = reply })) took.0 took.1 refl;
    adds = record { others = adds.others; none_own = adds.none_own; none = adds.none; seen = adds.seen };
    asked = asked;
    sent = sent;
  }
  answered_one pass pass' given given' went written written' faults faults' moment reply (inr took) adds asked sent = let none : take.One ≡ take.NoMemory = took.0 in absurd (cc)

  -- something was said to it
  pub answered_said : (pass : Known Entry) (given given' : Option (List ℕ)) (went : Result ℕ End) (written written' : Option (List ℕ)) (faults faults' moment : ℕ) (text : TxText)
      → Took (take.Say text) → Gives given given' (moment ∷ []) → Writes went (said_text (name words) text) written written' faults faults'
      → Answer words old new pass pass given given' went written written' faults faults'
  answered_said pass given given' went written written' faults faults' moment text (inl took) asked writes = record {
    item = Told moment (said_text (name words) text);
    turns = turns_by (fate.Say text) (Told moment (said_text (name words) text)) took.0 took.1 refl;
    adds = told_adds pass moment (said_text (name words) text);
    asked = asked;
    sent = sent_of went words (said_text (name words) text) written written' faults faults' (no_quit words (name_fit 0 words) old (fate.Say text) took.0 (λ same. absurd (cc))) writes;
  }
  answered_said pass given given' went written written' faults faults' moment text (inr took) asked writes = let none : take.Say text ≡ take.NoMemory = took.0 in absurd (cc)

  -- there was no memory to keep it
  pub answered_unkept : (pass : Known Entry) (given given' : Option (List ℕ)) (went : Result ℕ End) (written written' : Option (List ℕ)) (faults faults' moment : ℕ)
      → Took take.NoMemory → Gives given given' (moment ∷ []) → Writes went out_of_memory written written' faults faults'
      → Answer words old new pass pass given given' went written written' faults faults'
  answered_unkept pass given given' went written written' faults faults' moment (inl took) asked writes = absurd took.0
  answered_unkept pass given given' went written written' faults faults' moment (inr took) asked writes = record {
    item = Told moment out_of_memory;
    turns = inr (took.2, took.1, refl, took.3);
    adds = told_adds pass moment out_of_memory;
    asked = asked;
    sent = sent_of went words out_of_memory written written' faults faults' (no_quit words (name_fit 0 words) old (fate.Say Queued) took.1 (λ same. absurd (cc))) writes;
  }

  -- what waited was executed, or there was no memory for the replies
  pub answered_block : (pass pass' : Known Entry) (given given' : Option (List ℕ)) (went : Result ℕ End) (written written' : Option (List ℕ)) (faults faults' moment : ℕ) (frames : List Frame)
      → Took (take.Block frames) → Gives given given' (moment ∷ []) → BlockAnswer (all_words frames) moment pass pass' went written written' faults faults'
      → Answer words old new pass pass' given given' went written written' faults faults'
  answered_block pass pass' given given' went written written' faults faults' moment frames (inl took) asked block = record {
    item = block.item;
    turns = turns_by (fate.Block (commands_of frames)) block.item took.0 took.1 (of_any block.item block.becomes);
    adds = block.adds;
    asked = subst (λ (m : ℕ). Gives given given' (m ∷ [])) (sym block.moment_is) asked;
    sent = sent_of went words (text_of block.item) written written' faults faults' (no_quit words (name_fit 0 words) old (fate.Block (commands_of frames)) took.0 (λ same. absurd (cc))) block.writes;
  }
    where
      of_any : (item : Item) → Becomes [] (fate.Block (all_words frames)) item → Becomes words (fate.Block (commands_of frames)) item
      of_any (Told at text) so = so
      of_any (One said) so = absurd so
      of_any (Block at commands replies) so = so
  answered_block pass pass' given given' went written written' faults faults' moment frames (inr took) asked block = let none : take.Block frames ≡ take.NoMemory = took.0 in absurd (cc)

  -- a block's commands are those that waited, so they may be executed
  pub block_lawful : (frames : List Frame) → Took (take.Block frames) → All AreLawful old.queue → All IsCommand frames
  block_lawful frames (inl took) all =
      let waited = block_waited words (name_fit 0 words) old (commands_of frames) took.0 in
      let lawful : All AreLawful (all_words frames) = subst (λ (cs : List Command). All AreLawful cs) (sym waited.0) all in
      All-from_recursion IsCommand frames (each frames (recursion_from_All AreLawful (all_words frames) lawful))
    where
      each : (some : List Frame) → AllByRecursion AreLawful (all_words some) → AllByRecursion IsCommand some
      each [] are = tt
      each (frame ∷ some) are = (are.0, each some are.1)
  block_lawful frames (inr took) all = let none : take.Block frames ≡ take.NoMemory = took.0 in absurd (cc)

-- What waits behind a command is lawful.
pub lawful_later : (words : Command) (judged : NameFit) (old new : Session) (result : TxTake) → Takes words judged old result new → AreLawful words → All AreLawful old.queue → All AreLawful new.queue
lawful_later words judged old new result (inl took) lawful all = subst (λ (s : Session). All AreLawful s.queue) (sym took.1) (lawful_behind words judged old lawful all)
lawful_later words judged old new result (inr took) lawful all = subst (λ (s : Session). All AreLawful s.queue) (sym took.3) (All-nil AreLawful)

-- ---- a block

pub block_told : (frames : List Frame) (moment : ℕ) (pass : Known Entry) (went : Result ℕ End) (written written' : Option (List ℕ)) (faults faults' : ℕ)
    → Writes went out_of_memory written written' faults faults' → BlockAnswer (all_words frames) moment pass pass went written written' faults faults'
block_told frames moment pass went written written' faults faults' writes = record {
  item = Told moment out_of_memory;
  becomes = refl;
  moment_is = refl;
  adds = told_adds pass moment out_of_memory;
  writes = writes;
}

pub block_done : (frames : List Frame) (replies : List (List ℕ)) (moment : ℕ) (pass pass' : Known Entry) (went : Result ℕ End) (written written' : Option (List ℕ)) (faults faults' : ℕ)
    → length replies ≡ length frames → AddsBlock pass pass' moment (all_words frames) replies → Writes went (block_text replies) written written' faults faults'
    → BlockAnswer (all_words frames) moment pass pass' went written written' faults faults'
block_done frames replies moment pass pass' went written written' faults faults' same adds writes = record {
  item = Block moment (all_words frames) replies;
  becomes = (refl, same ∙ sym (length-map frames (λ (frame : Frame). words_in frame)));
  moment_is = refl;
  adds = record { others = adds.others; none_own = adds.none_own; none = adds.none; seen = adds.seen };
  writes = writes;
}
