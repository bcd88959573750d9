-- Steps of commands that change nothing.
use Rattle.std.proofs.Common.{◌≡◌, ◌≢◌, ◌⊎◌, ℕ, List, [], ◌∷◌, length, refl, sym, ap, ◌∙◌, subst, inl, inr, arith}
use Rattle.std.specs.Prelude.{codes, Result, Ok, Err, IfOk}
use Rattle.cmd_parse.specs.Read.{Plain}
use Rattle.cmd_parse.specs.declared.command.Verb.{Verb}
use Rattle.cmd_parse.specs.declared.command.Verb.TheVariants.{Ping}
use Rattle.ft_base.specs.Memory.{out_of_memory}
use Rattle.ft_base.specs.Reply.{spelling}
use Rattle.ft_base.specs.declared.reply.Reply.{Reply}
use Rattle.ft_base.specs.declared.reply.Reply.TheVariants.{Bulk, Line}
use Rattle.ft_base.specs.Words.{first}
use Rattle.ft_machine.specs.Machine.{State, answered}
use Rattle.ft_machine.specs.PlainCommands.{PlainMayWant, plain}
use Rattle.ft_machine.specs.Step.{Does, Told}
use Rattle.ft_machine.proofs.Stepping.{told, wants}
use Rattle.ft_engine.proofs.PlainLaws.{of_verb, stays-plain}

-- a message that is written back, or for which memory ran out
pub message-plain : (verb known : Verb) (args : List (List ℕ)) (number : ℕ) (state : State) (written : List ℕ) (message : List ℕ) → verb ≡ known → PlainMayWant known args → plain known args number state (answered (Bulk (first args)) state) → message ≡ first args
    → (written ≡ spelling (Bulk message)) ⊎ (written ≡ spelling out_of_memory) → Does (Plain verb args) number state written state
message-plain verb known args number state written message is may given same (inl said) =
    stays-plain verb known args number state written (Bulk (first args)) is given (said ∙ ap (λ (word : List ℕ). spelling (Bulk word)) same)
message-plain verb known args number state written message is may given same (inr want) =
    of_verb verb known args number state state written is (wants (Plain known args) number state written may want)

-- a reply that was made, or for which memory ran out
pub told-plain : {E : Type 0} (verb known : Verb) (args : List (List ℕ)) (number : ℕ) (state : State) (written : List ℕ) (made : Result Reply E) (reply wanted : Reply) → verb ≡ known → PlainMayWant known args → plain known args number state (answered wanted state)
    → reply ≡ wanted → IfOk made (λ r. r ≡ reply) → Told made written → Does (Plain verb args) number state written state
told-plain {E} verb known args number state written made reply wanted is may given same each said =
    of_verb verb known args number state state written is (told (Plain known args) number state written made may (by_case made each) said)
  where
    by_case : (made : Result Reply E) → IfOk made (λ r. r ≡ reply) → IfOk made (λ r. plain known args number state (answered r state))
    by_case (Ok r) e = subst (λ (r : Reply). plain known args number state (answered r state)) (sym (e ∙ same)) given
    by_case (Err e) none = tt

-- PING without a message
pub ping-alone : (args : List (List ℕ)) (number : ℕ) (state : State) → length args ≡ 0 → plain Ping args number state (answered (Line (codes "PONG")) state)
ping-alone [] number state none = refl
ping-alone (message ∷ args) number state none = absurd (omega (arith, none))

-- and with one
pub ping-message : (args : List (List ℕ)) (number : ℕ) (state : State) → length args ≢ 0 → plain Ping args number state (answered (Bulk (first args)) state)
ping-message [] number state some = absurd (some refl)
ping-message (message ∷ args) number state some = refl

pub ping-wants : (args : List (List ℕ)) → length args ≢ 0 → PlainMayWant Ping args
ping-wants [] some = absurd (some refl)
ping-wants (message ∷ args) some = tt
