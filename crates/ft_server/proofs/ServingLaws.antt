-- Serving goes on: by a command, or by more bytes. What was read, answered and written so far.
use Rattle.std.proofs.Common.{◌≡◌, ℕ, ◌<◌, ◌≤◌, false, List, [], ◌∷◌, ◌++◌, length, refl, sym, ap, subst, ◌∙◌, arith, append_assoc}
use Rattle.std.proofs.lemmas.List.{append-nil, length-append}
use Rattle.std.specs.Io.KnownBytes.{Appends, Keeps}
use Rattle.std.proofs.KnownBytes.{Appends-trans, Appends-nil, Appends-kept, Consumes-nil, Consumes-trans, Consumes-kept}
use Rattle.fs_ports.specs.Moments.{Gives}
use Rattle.ft_base.specs.Words.{is_quit}
use Rattle.ft_engine.specs.Entries.{Entry}
use Rattle.turn_gate.specs.Known.{Known}
use Rattle.resp_wire.specs.Decoding.{Decoding, fed}
use Rattle.resp_wire.specs.declared.fault.Stop.TheVariants.{More}
use Rattle.resp_wire.specs.Stream.{Command, Stream, with_command, ended, goes_on, stream_of}
use Rattle.resp_wire.proofs.MoreLaws.{cut}
use Rattle.tx_session.specs.Table.{Session, idle}
use Rattle.ft_server.specs.Answer.{AddsItem}
use Rattle.ft_server.specs.Callers.{Called}
use Rattle.ft_server.specs.Items.{Item, moment_of, text_of, texts_of}
use Rattle.ft_server.specs.Reading.{Further}
use Rattle.ft_server.specs.Serving.{Going, behind}
use Rattle.ft_server.specs.Session.{Outside, quits}
use Rattle.ft_server.specs.Talk.{Talks, Turns}
use Rattle.ft_server.proofs.CallerLaws.{called_none, called_more}
use Rattle.ft_server.proofs.QuitLaws.{quits_behind}
use Rattle.ft_server.proofs.TalkLaws.{talks_more, texts_of-push}

-- nothing was read yet
pub begins : (held : Decoding) (session : Session) (pass : Known Entry) (now : Outside) → held.taken ≡ 0 → held.left ≡ [] → session ≡ idle → Going held session pass pass now now
begins held session pass now none empty fresh = record {
  input = [];
  commands = [];
  items = [];
  caller = refl;
  alone = refl;
  called = called_none pass now.given;
  read = Consumes-nil now.left;
  split = ap (λ (b : List ℕ). stream_of b) (sym empty);
  talks = fresh;
  no_quit = refl;
  fed_is = omega (arith, none, ap length empty);
  sent = Appends-nil now.written;
  reads = omega arith;
  writes = omega arith;
}

pub taken_first : (words : Command) (stream : Stream) → 0 < length words → with_command words stream ≡ behind (words ∷ []) stream
taken_first [] stream some = absurd (omega (arith, some))
taken_first (word ∷ words) stream some = refl

-- the decoder took a command, which became an item; what is written for it was written in part or whole
module _ (held later : Decoding) (session session' : Session) (pass seen seen' : Known Entry) (before now after : Outside) (words : Command) (item : Item)
    (going : Going held session pass seen before now) (turns : Turns session words item session') (adds : AddsItem seen seen' item)
    (asked : Gives now.given after.given (moment_of item ∷ [])) (same : (seen'.caller ≡ seen.caller) × (seen'.alone ≡ seen.alone)) (some : 0 < length words)
    (taken : stream_of held.left ≡ with_command words (stream_of later.left)) (kept : Keeps now.left after.left) where
  split_more : stream_of going.input ≡ behind (going.commands ++ words ∷ []) (stream_of later.left)
  split_more =
      going.split ∙ (ap (behind going.commands) (taken ∙ taken_first words (stream_of later.left) some)
      ∙ ap (λ (cs : List Command). with_commands cs) (sym (append_assoc going.commands (words ∷ []) (stream_of later.left).commands)))
    where
      with_commands : List Command → Stream
      with_commands cs = record { commands = cs; rest = (stream_of later.left).rest; stop = (stream_of later.left).stop }

  pub talked_more : Talks idle (going.commands ++ words ∷ []) (going.items ++ item ∷ []) session'
  talked_more = talks_more idle session session' going.commands going.items words item going.talks turns

  pub answered_more : Called pass seen' (going.items ++ item ∷ []) before.given after.given
  answered_more = called_more pass seen seen' going.items item before.given now.given after.given going.called going.caller going.alone adds asked

  pub sent_more : Appends now.written after.written (text_of item) → Appends before.written after.written (texts_of (going.items ++ item ∷ []))
  sent_more sent = subst (Appends before.written after.written) (sym (texts_of-push going.items item)) (Appends-trans before.written now.written after.written _ _ going.sent sent)

  -- it was written whole, and the command is not QUIT
  pub goes_by : is_quit words ≡ false → fed later ≡ fed held → Appends now.written after.written (text_of item) → before.read_faults ≤ after.read_faults → before.write_faults ≤ after.write_faults
      → Going later session' pass seen' before after
  goes_by no_quit fed_same sent reads writes = record {
    input = going.input;
    commands = going.commands ++ words ∷ [];
    items = going.items ++ item ∷ [];
    caller = same.0 ∙ going.caller;
    alone = same.1 ∙ going.alone;
    called = answered_more;
    read = Consumes-kept before.left now.left after.left going.input going.read kept;
    split = split_more;
    talks = talked_more;
    no_quit = quits_behind going.commands (words ∷ []) going.no_quit ∙ one_no_quit words no_quit;
    fed_is = omega (arith, fed_same, going.fed_is);
    sent = sent_more sent;
    reads = reads;
    writes = writes;
  }
    where
      one_no_quit : (command : Command) → is_quit command ≡ false → quits (command ∷ []) ≡ false
      one_no_quit command e = rw e refl

-- where no whole command is left, what is left is read alike by itself
pub same_stream : (a b : List ℕ) → stream_of a ≡ ended More b → stream_of b ≡ ended More b
same_stream a b e =
    ap (λ (x : List ℕ). stream_of x) (sym (append-nil b))
    ∙ (sym (ap (λ (s : Stream). goes_on s s.stop []) e)
    ∙ (sym (cut a []) ∙ (ap (λ (x : List ℕ). stream_of x) (append-nil a) ∙ e)))

-- the decoder took nothing but requests without words
pub waits : (held later : Decoding) (session : Session) (pass seen : Known Entry) (before now : Outside) → Going held session pass seen before now → stream_of held.left ≡ ended More later.left → fed later ≡ fed held
    → Going later session pass seen before now
waits held later session pass seen before now going more same = record {
  input = going.input;
  commands = going.commands;
  items = going.items;
  caller = going.caller;
  alone = going.alone;
  called = going.called;
  read = going.read;
  split = going.split ∙ ap (behind going.commands) (more ∙ sym (same_stream held.left later.left more));
  talks = going.talks;
  no_quit = going.no_quit;
  fed_is = omega (arith, same, going.fed_is);
  sent = going.sent;
  reads = going.reads;
  writes = going.writes;
}

-- what comes behind a stream that waits is read from what is left
grown : (ws : List Command) (input left piece longer : List ℕ) → stream_of input ≡ behind ws (ended More left) → longer ≡ left ++ piece → stream_of (input ++ piece) ≡ behind ws (stream_of longer)
grown ws input left piece longer e l =
    cut input piece
    ∙ (ap (λ (s : Stream). goes_on s s.stop piece) e
    ∙ (ap (λ (cs : List Command). behind cs (stream_of (left ++ piece))) (append-nil ws)
    ∙ ap (λ (b : List ℕ). behind ws (stream_of b)) (sym l)))

-- more was read
pub reads_on : (held later : Decoding) (session : Session) (pass seen : Known Entry) (before now after : Outside) → Going held session pass seen before now → stream_of held.left ≡ ended More held.left → Further held later now.left after.left
    → Keeps now.written after.written → now.given ≡ after.given → now.read_faults ≤ after.read_faults → now.write_faults ≤ after.write_faults → Going later session pass seen before after
reads_on held later session pass seen before now after going more further kept given reads writes = record {
  input = going.input ++ further.piece;
  commands = going.commands;
  items = going.items;
  caller = going.caller;
  alone = going.alone;
  called = subst (Called pass seen going.items before.given) given going.called;
  read = Consumes-trans before.left now.left after.left going.input further.piece going.read further.read;
  split = grown going.commands going.input held.left further.piece later.left (going.split ∙ ap (behind going.commands) more) further.longer;
  talks = going.talks;
  no_quit = going.no_quit;
  fed_is = omega (arith, going.fed_is, further.taken, ap length further.longer, length-append held.left further.piece, length-append going.input further.piece);
  sent = Appends-kept before.written now.written after.written _ going.sent kept;
  reads = omega (arith, going.reads, reads);
  writes = omega (arith, going.writes, writes);
}
