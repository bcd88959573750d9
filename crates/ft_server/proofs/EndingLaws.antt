-- How serving ends: each way to end, from what was served so far.
use Rattle.std.proofs.Common.{◌≡◌, ℕ, ◌<◌, ◌≤◌, ◌^◌, inl, inr, Bool, true, false, cond, List, [], ◌∷◌, ◌++◌, length, Option, Some, None, refl, sym, ap, subst, ◌∙◌, arith, append_assoc}
use Rattle.std.proofs.lemmas.List.{append-nil}
use Rattle.std.specs.Prelude.{◌||◌, Result, Ok, Err, IfErr}
use Rattle.std.specs.Io.KnownBytes.{Appends, Consumes, Keeps, IsAtEnd}
use Rattle.std.proofs.KnownBytes.{Appends-trans, Appends-nil, Consumes-nil, Consumes-kept, Keeps-refl}
use Rattle.ft_base.specs.Words.{is_quit}
use Rattle.fs_ports.specs.Causes.{Rose, WritesFront}
use Rattle.ft_engine.specs.Entries.{Entry}
use Rattle.turn_gate.specs.Known.{Known}
use Rattle.resp_wire.specs.Decoding.{Decoding, fed, StopsAt}
use Rattle.resp_wire.specs.Stream.{NextIsLong, Command, Stream, FaultAt, with_command, ended, stream_of, fault_from, fault_of, until_quit, due}
use Rattle.resp_wire.specs.declared.fault.Stop.TheVariants.{More}
use Rattle.tx_session.specs.Table.{Session, idle}
use Rattle.ft_server.specs.Answer.{Answer}
use Rattle.ft_server.specs.Callers.{Called}
use Rattle.ft_server.specs.Ends.{IsAll, EndsWith, IsFaulty, Ends}
use Rattle.ft_server.specs.FaultText.{fault_text}
use Rattle.ft_server.specs.Items.{Item, text_of, texts_of}
use Rattle.ft_server.specs.Reading.{Further, NoMore}
use Rattle.ft_server.specs.Serving.{Going, LeadsOn, Refused, Sent, behind}
use Rattle.ft_server.specs.Session.{AllAnswered, Outside, IsOpen, WantsMore, Served, quits}
use Rattle.ft_server.specs.Talk.{Talks}
use Rattle.ft_server.specs.declared.connection.End.{End}
use Rattle.ft_server.specs.declared.connection.End.TheVariants as end
use Rattle.ft_server.proofs.QuitLaws.{quits_behind, due_behind, long_is_due}
use Rattle.ft_server.proofs.ServingLaws.{taken_first, talked_more, answered_more, sent_more, goes_by, waits, reads_on, same_stream}

-- what was read up to the end is all that there was
all_read : (left left' : Option (List ℕ)) (input : List ℕ) → Consumes left left' input → IsAtEnd left' → IsAll left input
all_read None left' input read end = tt
all_read (Some all) None input read end = absurd read
all_read (Some all) (Some more) input read end = sym (read ∙ (ap (λ (l : List ℕ). input ++ l) end ∙ append-nil input))

-- the commands that are due, those taken and those of what is left
pub due_split : (held : Decoding) (session : Session) (pass seen : Known Entry) (before now : Outside) (going : Going held session pass seen before now) → due going.input ≡ going.commands ++ until_quit (stream_of held.left).commands
due_split held session pass seen before now going =
    ap (λ (s : Stream). until_quit s.commands) going.split ∙ due_behind going.commands (stream_of held.left).commands going.no_quit

-- and whether QUIT is among them
quits_split : (held : Decoding) (session : Session) (pass seen : Known Entry) (before now : Outside) (going : Going held session pass seen before now) → quits (stream_of going.input).commands ≡ quits (stream_of held.left).commands
quits_split held session pass seen before now going =
    ap (λ (s : Stream). quits s.commands) going.split ∙ quits_behind going.commands (stream_of held.left).commands going.no_quit

-- the fault is that of what is left
fault_split : (held : Decoding) (session : Session) (pass seen : Known Entry) (before now : Outside) (going : Going held session pass seen before now) → fault_of going.input ≡ fault_from (fed held) (stream_of held.left).stop
fault_split held session pass seen before now going =
    ap (λ (s : Stream). fault_from (length going.input) s.stop) going.split ∙ ap (λ n. fault_from n (stream_of held.left).stop) (sym going.fed_is)

-- the commands before these others were taken, and a text was written behind what they are answered
pub served : (held : Decoding) (session : Session) (pass seen : Known Entry) (before now after : Outside) (others : List Command) (text : List ℕ) (going : Going held session pass seen before now)
    → until_quit (stream_of held.left).commands ≡ others → Keeps now.left after.left → now.given ≡ after.given → Appends now.written after.written text → Served (Called pass seen) going.input others text before after
served held session pass seen before now after others text going is kept given sent = record {
  commands = going.commands;
  items = going.items;
  session = session;
  read = Consumes-kept before.left now.left after.left going.input going.read kept;
  due_are = due_split held session pass seen before now going ∙ ap (λ (cs : List Command). going.commands ++ cs) is;
  talks = going.talks;
  answered = subst (Called pass seen going.items before.given) given going.called;
  written = Appends-trans before.written now.written after.written _ _ going.sent sent;
}

-- the same where nothing happened since
pub served_now : (held : Decoding) (session : Session) (pass seen : Known Entry) (before now : Outside) (others : List Command) (going : Going held session pass seen before now)
    → until_quit (stream_of held.left).commands ≡ others → Served (Called pass seen) going.input others [] before now
served_now held session pass seen before now others going is = served held session pass seen before now now others [] going is (Keeps-refl now.left) refl (Appends-nil now.written)

-- bytes that wait for more leave the connection open
is_open : (held : Decoding) (session : Session) (pass seen : Known Entry) (before now : Outside) (left : List ℕ) (going : Going held session pass seen before now) → stream_of held.left ≡ ended More left → IsOpen going.input
is_open held session pass seen before now left going more = record {
  no_quit = quits_split held session pass seen before now going ∙ ap (λ (s : Stream). quits s.commands) more;
  no_fault = fault_split held session pass seen before now going ∙ ap (λ (s : Stream). fault_from (fed held) s.stop) more;
}

-- more may be read
pub all_answered : (held : Decoding) (session : Session) (pass seen : Known Entry) (before now : Outside) (total : ℕ) (left : List ℕ) → Going held session pass seen before now → stream_of held.left ≡ ended More left → total ≡ fed held → total < 2 ^ 40
    → AllAnswered (Called pass seen) before now
all_answered held session pass seen before now total left going more fed_is few = record {
  input = going.input;
  wants = record { is_open = is_open held session pass seen before now left going more; few = omega (arith, few, fed_is, going.fed_is) };
  served = served_now held session pass seen before now [] going (ap (λ (s : Stream). until_quit s.commands) more);
}

-- the connection ends where no more is read
pub ends_reading : (how : End) (held : Decoding) (session : Session) (pass seen : Known Entry) (before after : Outside) (total faults : ℕ) → Going held session pass seen before after → stream_of held.left ≡ ended More held.left
    → total ≡ fed held → before.read_faults ≤ faults → NoMore how total held.left after.left faults after.read_faults → Ends (Called pass seen) how before after
ends_reading how held session pass seen before after total faults going more fed_is low why =
    by_end how why
  where
    done : Served (Called pass seen) going.input [] [] before after
    done = served_now held session pass seen before after [] going (ap (λ (s : Stream). until_quit s.commands) more)

    open_now : IsOpen going.input
    open_now = is_open held session pass seen before after held.left going more

    wants : total < 2 ^ 40 → WantsMore going.input
    wants few = record { is_open = open_now; few = omega (arith, few, fed_is, going.fed_is) }

    rest_is : (n : ℕ) → length held.left ≡ n → EndsWith going.input n
    rest_is n e = ap (λ (s : Stream). length s.rest) (going.split ∙ ap (behind going.commands) more) ∙ e

    by_end : (e : End) → NoMore e total held.left after.left faults after.read_faults → Ends (Called pass seen) e before after
    by_end end.Closed n = (going.input, all_read before.left after.left going.input going.read n.2, wants n.0, rest_is 0 n.1, done)
    by_end (end.CutShort left) n = (going.input, all_read before.left after.left going.input going.read n.3, wants n.0, n.1, rest_is left n.2, done)
    by_end end.ReadFault n = (omega (arith, low, n.1), (going.input, wants n.0, done))
    by_end end.ByteLimit n = (going.input, omega (arith, n, fed_is, going.fed_is), open_now, done)
    by_end end.NoMemory n = (going.input, [], inr (inl (refl, wants n.0, omega (arith, n.1, rest_is (length held.left) refl))), done)
    by_end end.Quit n = absurd n
    by_end end.WriteFault n = absurd n
    by_end (end.Protocol at kind) n = absurd n

-- the next command is too long for the memory there is
pub ends_long : (held : Decoding) (session : Session) (pass seen : Known Entry) (before now : Outside) → Going held session pass seen before now → NextIsLong (stream_of held.left).commands → Ends (Called pass seen) end.NoMemory before now
ends_long held session pass seen before now going long =
    (going.input, until_quit (stream_of held.left).commands, inr (inr (long_is_due (stream_of held.left).commands long)), served_now held session pass seen before now _ going refl)

-- the stream has a fault
pub faulty_now : (held : Decoding) (session : Session) (pass seen : Known Entry) (before now : Outside) (fault : FaultAt) (going : Going held session pass seen before now) → StopsAt held fault → IsFaulty going.input fault
faulty_now held session pass seen before now fault going stops = record {
  no_quit = quits_split held session pass seen before now going ∙ ap (λ (cs : List Command). quits cs) stops.none;
  fault_is = fault_split held session pass seen before now going ∙ stops.faulty;
}

-- its text was written
pub ends_faulty : (held : Decoding) (session : Session) (pass seen : Known Entry) (before now after : Outside) (fault : FaultAt) → Going held session pass seen before now → StopsAt held fault → Keeps now.left after.left → now.given ≡ after.given
    → Appends now.written after.written (fault_text fault.kind) → Ends (Called pass seen) (end.Protocol fault.at fault.kind) before after
ends_faulty held session pass seen before now after fault going stops kept given sent =
    (going.input, faulty_now held session pass seen before now fault going stops, served held session pass seen before now after [] (fault_text fault.kind) going (ap (λ (cs : List Command). until_quit cs) stops.none) kept given sent)

-- its text was written in part
pub ends_text_cut : (held : Decoding) (session : Session) (pass seen : Known Entry) (before now after : Outside) (fault : FaultAt) → Going held session pass seen before now → StopsAt held fault → Keeps now.left after.left → now.given ≡ after.given
    → WritesFront now.written after.written (fault_text fault.kind) → Rose now.write_faults after.write_faults → Ends (Called pass seen) end.WriteFault before after
ends_text_cut held session pass seen before now after fault going stops kept given sent rose = (
  omega (arith, going.writes, rose),
  (
    going.input,
    inr (
      fault,
      sent.front,
      faulty_now held session pass seen before now fault going stops,
      record { back = sent.back; whole = sent.whole; proper = sent.proper },
      served held session pass seen before now after [] sent.front going (ap (λ (cs : List Command). until_quit cs) stops.none) kept given sent.bytes,
    ),
  ),
)

-- at the start
pub ends_at_once : (A : List Item → Option (List ℕ) → Option (List ℕ) → Type 0) (now : Outside) → A [] now.given now.given → Ends A end.NoMemory now now
unfolding stream_of
ends_at_once A now none = (
  [],
  [],
  inl refl,
  record { commands = []; items = []; session = idle; read = Consumes-nil now.left; due_are = refl; talks = refl; answered = none; written = Appends-nil now.written },
)

-- the decoder took a command, and it was answered
module _ (held later : Decoding) (session session' : Session) (pass seen seen' : Known Entry) (before now after : Outside) (words : Command) (went : Result ℕ End)
    (going : Going held session pass seen before now)
    (answer : Answer words session session' seen seen' now.given after.given went now.written after.written now.write_faults after.write_faults)
    (same : (seen'.caller ≡ seen.caller) × (seen'.alone ≡ seen.alone)) (some : 0 < length words)
    (taken : stream_of held.left ≡ with_command words (stream_of later.left)) (kept : Keeps now.left after.left) where
  -- what is due behind it
  abbrev pub others_of : List Command
  others_of = cond (is_quit words) [] (until_quit (stream_of later.left).commands)

  abbrev pub item_of : Item
  item_of = answer.item

  one_due : until_quit (words ∷ (stream_of later.left).commands) ≡ words ∷ others_of
  one_due = by_test (is_quit words)
    where
      by_test : (b : Bool) → cond b (words ∷ []) (words ∷ until_quit (stream_of later.left).commands) ≡ words ∷ cond b [] (until_quit (stream_of later.left).commands)
      by_test true = refl
      by_test false = refl

  taken_commands : (stream_of held.left).commands ≡ words ∷ (stream_of later.left).commands
  taken_commands = ap (λ (s : Stream). s.commands) (taken ∙ taken_first words (stream_of later.left) some)

  due_more : due going.input ≡ (going.commands ++ words ∷ []) ++ others_of
  due_more =
      due_split held session pass seen before now going
      ∙ (ap (λ (cs : List Command). going.commands ++ until_quit cs) taken_commands
      ∙ (ap (λ (cs : List Command). going.commands ++ cs) one_due
      ∙ sym (append_assoc going.commands (words ∷ []) others_of)))

  talked : Talks idle (going.commands ++ words ∷ []) (going.items ++ item_of ∷ []) session'
  talked = talked_more held later session session' pass seen seen' before now after words item_of going answer.turns answer.adds answer.asked same some taken kept

  called : Called pass seen' (going.items ++ item_of ∷ []) before.given after.given
  called = answered_more held later session session' pass seen seen' before now after words item_of going answer.turns answer.adds answer.asked same some taken kept

  -- what it is answered was written in part
  ends_reply_cut : WritesFront now.written after.written (text_of item_of) → Rose now.write_faults after.write_faults → Ends (Called pass seen') end.WriteFault before after
  ends_reply_cut sent rose = (
    omega (arith, going.writes, rose),
    (
      going.input,
      inl (record {
        commands = going.commands ++ words ∷ [];
        items = going.items;
        last = item_of;
        session = session';
        others = others_of;
        front = sent.front;
        read = Consumes-kept before.left now.left after.left going.input going.read kept;
        due_are = due_more;
        talks = talked;
        answered = called;
        cut = record { back = sent.back; whole = sent.whole; proper = sent.proper };
        written = Appends-trans before.written now.written after.written _ _ going.sent sent.bytes;
      }),
    ),
  )

  -- it is QUIT
  ends_at_quit : is_quit words ≡ true → Appends now.written after.written (text_of item_of) → Ends (Called pass seen') end.Quit before after
  ends_at_quit quit sent = (
    going.input,
    quits_split held session pass seen before now going ∙ (ap (λ (cs : List Command). quits cs) taken_commands ∙ ap (λ b. b || quits (stream_of later.left).commands) quit),
    record {
      commands = going.commands ++ words ∷ [];
      items = going.items ++ item_of ∷ [];
      session = session';
      read = Consumes-kept before.left now.left after.left going.input going.read kept;
      due_are = due_more ∙ ap (λ b. (going.commands ++ words ∷ []) ++ cond b [] (until_quit (stream_of later.left).commands)) quit;
      talks = talked;
      answered = called;
      written = subst (Appends before.written after.written) (sym (append-nil (texts_of (going.items ++ item_of ∷ []))))
          (sent_more held later session session' pass seen seen' before now after words item_of going answer.turns answer.adds answer.asked same some taken kept sent);
    },
  )

  -- the connection goes on behind it, or ends
  pub goes_answered : fed later ≡ fed held → now.read_faults ≤ after.read_faults → now.write_faults ≤ after.write_faults → LeadsOn went later session' pass seen' before after
  goes_answered fed_same reads writes = by_end went answer.sent
    where
      by_end : (how : Result ℕ End) → Sent how words (text_of item_of) now.written after.written now.write_faults after.write_faults → LeadsOn how later session' pass seen' before after
      by_end (Ok count) sent =
          goes_by held later session session' pass seen seen' before now after words item_of going answer.turns answer.adds answer.asked same some taken kept
          sent.1 fed_same sent.2 (omega (arith, going.reads, reads)) (omega (arith, going.writes, writes))
      by_end (Err end.Quit) sent = ends_at_quit sent.0 sent.1
      by_end (Err end.WriteFault) sent = ends_reply_cut sent.0 sent.1
      by_end (Err end.Closed) sent = absurd sent
      by_end (Err (end.CutShort left)) sent = absurd sent
      by_end (Err (end.Protocol at kind)) sent = absurd sent
      by_end (Err end.ReadFault) sent = absurd sent
      by_end (Err end.ByteLimit) sent = absurd sent
      by_end (Err end.NoMemory) sent = absurd sent

-- no command was whole, and more was read, or the connection ends
module _ (held waiting later : Decoding) (session : Session) (pass seen : Known Entry) (before now after : Outside) (total : ℕ)
    (going : Going held session pass seen before now) (more : stream_of held.left ≡ ended More waiting.left) (fed_same : fed waiting ≡ fed held) (counted : fed held ≡ total)
    (further : Further waiting later now.left after.left) (kept : Keeps now.written after.written) (given : now.given ≡ after.given)
    (reads : now.read_faults ≤ after.read_faults) (writes : now.write_faults ≤ after.write_faults) where
  alone : stream_of waiting.left ≡ ended More waiting.left
  alone = same_stream held.left waiting.left more

  on : Going later session pass seen before after
  on = reads_on waiting later session pass seen before now after (waits held waiting session pass seen before now going more fed_same) alone further kept given reads writes

  pub goes_read : (went : Result ℕ End) → IfErr went (λ _. later.left ≡ waiting.left) → IfErr went (λ how. NoMore how total later.left after.left now.read_faults after.read_faults) → LeadsOn went later session pass seen before after
  goes_read (Ok count) same why = on
  goes_read (Err how) same why =
      ends_reading how later session pass seen before after total now.read_faults on (rw same alone) (omega (arith, counted, fed_same, further.taken, ap length same)) going.reads why

-- the wire has a fault, with which the connection ends
pub goes_refused : (how : End) (held : Decoding) (session : Session) (pass seen : Known Entry) (before now after : Outside) (fault : FaultAt) → Going held session pass seen before now → StopsAt held fault → Keeps now.left after.left → now.given ≡ after.given
    → Refused how fault.at fault.kind now.written after.written now.write_faults after.write_faults → Ends (Called pass seen) how before after
goes_refused (end.Protocol at kind) held session pass seen before now after fault going stops kept given refused =
    rw (refused.0, refused.1) (ends_faulty held session pass seen before now after fault going stops kept given refused.2)
goes_refused end.WriteFault held session pass seen before now after fault going stops kept given refused =
    ends_text_cut held session pass seen before now after fault going stops kept given refused.0 refused.1
goes_refused end.Closed held session pass seen before now after fault going stops kept given refused = absurd refused
goes_refused end.Quit held session pass seen before now after fault going stops kept given refused = absurd refused
goes_refused (end.CutShort left) held session pass seen before now after fault going stops kept given refused = absurd refused
goes_refused end.ReadFault held session pass seen before now after fault going stops kept given refused = absurd refused
goes_refused end.ByteLimit held session pass seen before now after fault going stops kept given refused = absurd refused
goes_refused end.NoMemory held session pass seen before now after fault going stops kept given refused = absurd refused
