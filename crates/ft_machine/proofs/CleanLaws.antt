-- A history in which clean indexes are told of is legal, and when an index is as it was.
use Rattle.std.specs.Prelude.{◌≡◌, ◌<◌, ◌⊎◌, ℕ, List, [], ◌∷◌, ◌++◌, length, map, Bool, true, false, Option, Some, None, Result, Ok, Err, IsTrue, refl, slice_index_or}
use Rattle.std.proofs.Common.{sym, ap, ◌∙◌, subst, inl, inr, arith}
use Rattle.std.proofs.lemmas.Slice.Eq.{bytes_eq-Decides, slice_eq-Decides}
use Rattle.std.specs.Str.{bytes_eq}
use Rattle.history_core.specs.Entries.{Entry}
use Rattle.history_core.specs.Histories.{Leads}
use Rattle.cmd_parse.specs.Asked.{Asked, Plain}
use Rattle.cmd_parse.specs.Read.{read}
use Rattle.cmd_parse.specs.declared.command.CmdFault.{CmdFault}
use Rattle.cmd_parse.specs.declared.command.Verb.TheVariants.{Info}
use Rattle.ft_base.specs.Memory.{out_of_memory}
use Rattle.ft_base.specs.Reply.{spelling}
use Rattle.ft_base.specs.Words.{first}
use Rattle.ft_machine.specs.Clean.{Follows, Marked, is_as_it_was, marks_of}
use Rattle.ft_machine.specs.Definitions.{Defined, index_of}
use Rattle.ft_machine.specs.History.{MayFollow, Readings}
use Rattle.ft_machine.specs.Info.{informed}
use Rattle.ft_machine.specs.Machine.{Outcome, State, at_moment, wanting}
use Rattle.ft_machine.specs.Step.{Answers, last_number, outcomes, read_gives, words_give}
use Rattle.ft_machine.proofs.DeterminedLaws.{array-is}

module _ {K N A : Type 0} (readings : Readings K N A) where
  pub history-legal : (first : ℕ) (before : List (Entry K N A)) (old : Marked) (entries : List (Entry K N A)) (new : Marked)
      → Leads (Follows readings first) before old entries new → Leads (MayFollow readings first) before old.state entries new.state
  history-legal first before old [] new leads = ap (λ (m : Marked). m.state) leads
  history-legal first before old (entry ∷ entries) new leads = (
    leads.0.state,
    leads.1.0,
    history-legal first (before ++ entry ∷ []) leads.0 entries new leads.2,
  )

-- an index that is as it was has the marks that it had
pub same-marks : (old new : State) (name : List ℕ) → is_as_it_was old new name ≡ true → marks_of old name ≡ marks_of new name
same-marks old new name is =
    (slice_eq-Decides bytes_eq-Decides (marks_of old name) (marks_of new name) (is_as_it_was old new name) refl).0 is

-- a refusal of FT.INFO of an index that is there tells that memory ran out
pub info-refused : (args : List (List ℕ)) (index : Defined) (words : List (List ℕ)) (number moment : ℕ) (old : State) (written : List ℕ) (new : State)
    → number < last_number → read number words ≡ Ok (Plain Info args) → index_of old.definitions (first args) ≡ Some index → slice_index_or written 0 0 ≡ 45
    → Answers words number moment old written new → written ≡ spelling out_of_memory
info-refused args index words number moment old written new below asks there minus (inr x) = absurd (omega (arith, x.0, below))
info-refused args index words number moment old written new below asks there minus (inl x) = by_words x.1.may
  where
    state : State
    state = at_moment moment old

    wanted : x.1.outcome ≡ wanting state → written ≡ spelling out_of_memory
    wanted want = x.1.reply ∙ ap (λ (o : Outcome). spelling o.reply) want

    by_part : outcomes (Plain Info args) number state x.1.outcome → written ≡ spelling out_of_memory
    by_part (inl y) =
        let tells : informed (Some index) state x.1.outcome = subst (λ (i : Option Defined). informed i state x.1.outcome) there y in
        let star : slice_index_or written 0 0 ≡ 42 = ap (λ (bytes : List ℕ). slice_index_or bytes 0 0) (x.1.reply ∙ ap spelling tells.0.same) ∙ array-is _ in
        absurd (omega (arith, minus, star))
    by_part (inr want) = wanted want.1

    by_words : words_give words number state x.1.outcome → written ≡ spelling out_of_memory
    by_words (inr want) = wanted want.1
    by_words (inl y) = by_part (subst (λ (r : Result Asked CmdFault). read_gives (slice_index_or words 0 []) r number state x.1.outcome) asks y)
