-- Steps by what was read, and those that change nothing.
use Rattle.std.specs.Prelude.{◌≡◌, ◌<◌, ℕ, List, [], Result, Ok, Err, IfOk, slice_index_or, refl}
use Rattle.std.proofs.Common.{sym, subst, inl, inr}
use Rattle.ft_base.specs.Memory.{out_of_memory}
use Rattle.ft_base.specs.Reply.{spelling}
use Rattle.ft_base.specs.declared.reply.Reply.{Reply}
use Rattle.ft_base.specs.declared.reply.Reply.TheVariants.{Fault}
use Rattle.cmd_parse.specs.Asked.{Asked}
use Rattle.cmd_parse.specs.Read.{read}
use Rattle.cmd_parse.specs.Reading.{IsReading}
use Rattle.cmd_parse.specs.Refusals.{refusal}
use Rattle.cmd_parse.specs.declared.command.CmdFault.{CmdFault}
use Rattle.cmd_parse.specs.declared.command.CmdFault.TheVariants.{Unknown, Arity, Syntax, Limit, OutOfScope, NotInteger, BadDb, Schema, NoMemory}
use Rattle.ft_machine.specs.Machine.{Outcome, State, answered, at_moment, wanting}
use Rattle.ft_machine.specs.Step.{Answers, At, Does, Gives, MayWant, Told, given, last_number, outcomes, read_gives, words_give}

-- what may be is given
pub made : (May : Outcome → Type 0) (outcome : Outcome) (written : List ℕ) (new : State) → May outcome → written ≡ spelling outcome.reply → new ≡ outcome.after → Gives May written new
made May outcome written new may said led = record { outcome = outcome; may = may; reply = said; after = led }

-- a reply that changes nothing
pub stays : (May : Outcome → Type 0) (state : State) (written : List ℕ) (reply : Reply) → May (answered reply state) → written ≡ spelling reply → Gives May written state
stays May state written reply may said = made May (answered reply state) written state may said refl

-- a command that is answered that memory ran out
pub wants : (asks : Asked) (number : ℕ) (state : State) (written : List ℕ) → MayWant asks → written ≡ spelling out_of_memory → Does asks number state written state
wants asks number state written may said = made (outcomes asks number state) (wanting state) written state (inr (may, refl)) said refl

-- a command that gives what it may
pub gives : (asks : Asked) (number : ℕ) (state : State) (outcome : Outcome) (written : List ℕ) (new : State) → given asks number state outcome → written ≡ spelling outcome.reply → new ≡ outcome.after
    → Does asks number state written new
gives asks number state outcome written new may said led = made (outcomes asks number state) outcome written new (inl may) said led

-- A reply that was made, or for which memory ran out, is one that is asked for.
pub told : {E : Type 0} (asks : Asked) (number : ℕ) (state : State) (written : List ℕ) (reply : Result Reply E) → MayWant asks
    → IfOk reply (λ r. given asks number state (answered r state)) → Told reply written → Does asks number state written state
told asks number state written (Ok r) may is (inl said) = gives asks number state (answered r state) written state is said refl
told asks number state written (Ok r) may is (inr want) = wants asks number state written may want
told asks number state written (Err e) may is want = wants asks number state written may want

-- outcomes that may be are outcomes of more
pub widened : (May Wider : Outcome → Type 0) (written : List ℕ) (new : State) → ((outcome : Outcome) → May outcome → Wider outcome) → Gives May written new → Gives Wider written new
widened May Wider written new wider step = made Wider step.outcome written new (wider step.outcome step.may) step.reply step.after

-- what was read is done
pub obeyed : (words : List (List ℕ)) (number moment : ℕ) (asks : Asked) (old new : State) (written : List ℕ) → read number words ≡ Ok asks → At number moment (outcomes asks number) old written new
    → Answers words number moment old written new
obeyed words number moment asks old new written is (inl step) =
    let state = at_moment moment old in
    inl (
      step.0,
      widened (outcomes asks number state) (words_give words number state) written new
          (λ outcome may. inl (subst (λ (r : Result Asked CmdFault). read_gives (slice_index_or words 0 []) r number state outcome) (sym is) may)) step.1,
    )
obeyed words number moment asks old new written is (inr last) = inr last

-- or refused
refused-by : (words : List (List ℕ)) (number : ℕ) (fault : CmdFault) (state : State) (written : List ℕ) → read number words ≡ Err fault → written ≡ spelling (Fault (refusal (slice_index_or words 0 []) fault))
    → Gives (words_give words number state) written state
refused-by words number fault state written is said =
    let reply : Reply = Fault (refusal (slice_index_or words 0 []) fault) in
    stays (words_give words number state) state written reply
    (inl (subst (λ (r : Result Asked CmdFault). read_gives (slice_index_or words 0 []) r number state (answered reply state)) (sym is) refl)) said

pub refused : (words : List (List ℕ)) (number : ℕ) (fault : CmdFault) (state : State) (written : List ℕ) → IsReading number words (Err fault) → written ≡ spelling (Fault (refusal (slice_index_or words 0 []) fault))
    → Gives (words_give words number state) written state
refused words number Unknown state written is said = refused-by words number Unknown state written is said
refused words number Arity state written is said = refused-by words number Arity state written is said
refused words number (Syntax at) state written is said = refused-by words number (Syntax at) state written is said
refused words number (Limit at) state written is said = refused-by words number (Limit at) state written is said
refused words number (OutOfScope at) state written is said = refused-by words number (OutOfScope at) state written is said
refused words number NotInteger state written is said = refused-by words number NotInteger state written is said
refused words number BadDb state written is said = refused-by words number BadDb state written is said
refused words number (Schema fault) state written is said = refused-by words number (Schema fault) state written is said
refused words number NoMemory state written is said = stays (words_give words number state) state written out_of_memory (inr (is, refl)) said

pub refused-at : (words : List (List ℕ)) (number moment : ℕ) (fault : CmdFault) (old new : State) (written : List ℕ) → number < last_number → IsReading number words (Err fault) → written ≡ spelling (Fault (refusal (slice_index_or words 0 []) fault))
    → new ≡ at_moment moment old → Answers words number moment old written new
refused-at words number moment fault old new written below is said same =
    inl (below, subst (λ (s : State). Gives (words_give words number (at_moment moment old)) written s) (sym same) (refused words number fault (at_moment moment old) written is said))
