-- The steps of an engine are entries of a legal history.
use Rattle.std.proofs.Common.{◌≡◌, ℕ, ◌+◌, ◌<◌, ◌^◌, ◌≤◌, min, List, [], ◌∷◌, ◌++◌, refl, sym, ap, subst, ◌∙◌, arith}
use Rattle.history_core.proofs.GrowingLaws.{number_more}
use Rattle.history_core.specs.Entries.{Exec, Scan, Splice}
use Rattle.history_core.specs.Histories.{Leads, number}
use Rattle.ft_machine.specs.Clean.{Keeps, KeepsMarks, TellsClean, clean_after}
use Rattle.ft_machine.specs.Step.{Answers, last_number, next_number}
use Rattle.cmd_parse.specs.Read.{read}
use Rattle.ft_engine.specs.Cleaning.{AreClean, marked}
use Rattle.ft_engine.specs.Entries.{Entry, Follows, MayFollow, readings}
use Rattle.ft_engine.specs.Stands.{Stands}
use Rattle.ft_engine.specs.Steps.{IsStepOf}
use Rattle.ft_engine.proofs.PictureLaws.{comes, finds, scan-indexes, scan-next, scan-state}
use Rattle.ft_engine.proofs.ThinningLaws.{splice-clean}

-- the first number is not cut
uncut : (first top : ℕ) → first ≤ top → first ≡ min (first + 0) top
uncut first top most = omega (arith, most)

-- an engine's number as it is opened is that of a history without entries
pub opened-number : (first : ℕ) → first ≤ last_number → first ≡ number {E = Entry} first []
opened-number first most = uncut first (2 ^ 62) most

-- a step at the number of what came before may follow it
may_follow : (first : ℕ) (before : List Entry) (entry : Entry) (old new : Stands) → old.next ≡ number first before → IsStepOf before old entry new → MayFollow first before old.state entry new.state
may_follow first before (Exec caller moment words reply) old new at step =
    (step.0.0, step.0.1, subst (λ (n : ℕ). Answers words n moment old.state reply new.state) at step.1.answer)
may_follow first before (Scan caller index result) old new at step = (scan-state old index result new step, finds old index result new step)
may_follow first before (Splice caller scan name answer) old new at step =
    (step.splices_it.state, (step.snapshot, step.pictured, comes first before step.snapshot step.list step.picture name answer old new at step.there step.is_named step.splices_it))

-- and it leaves the number of what comes next
next_is : (first : ℕ) (before : List Entry) (entry : Entry) (old new : Stands) → old.next ≡ number first before → IsStepOf before old entry new → new.next ≡ number first (before ++ entry ∷ [])
next_is first before entry old new at step = counts entry step ∙ (ap next_number at ∙ number_more first before entry)
  where
    counts : (e : Entry) → IsStepOf before old e new → new.next ≡ next_number old.next
    counts (Exec caller moment words reply) s = s.1.next
    counts (Scan caller index result) s = scan-next old index result new s
    counts (Splice caller scan name answer) s = s.splices_it.next

-- steps behind what came before are legal
pub legal : (first : ℕ) (before entries : List Entry) (old new : Stands) → old.next ≡ number first before → Leads IsStepOf before old entries new
    → Leads (MayFollow first) before old.state entries new.state
legal first before [] old new at leads = ap (λ (e : Stands). e.state) leads
legal first before (entry ∷ entries) old new at leads = (
  leads.0.state,
  may_follow first before entry old leads.0 at leads.1,
  legal first (before ++ entry ∷ []) entries leads.0 new (next_is first before entry old leads.0 at leads.1) leads.2,
)

-- which indexes are clean behind a step
kept : (first : ℕ) (before : List Entry) (entry : Entry) (old new : Stands) (clean : List (List ℕ)) → old.next ≡ number first before → AreClean clean old.indexes → IsStepOf before old entry new
    → (behind : List (List ℕ)) × AreClean behind new.indexes × Keeps readings first before (marked old clean) entry (marked new behind)
kept first before (Exec caller moment words reply) old new clean at are step =
    let keeps : AreClean (clean_after (read old.next words) old.state reply new.state clean) new.indexes × (old.next < last_number → TellsClean (read old.next words) (marked old clean) reply) = step.1.clean clean are in
    let behind : List (List ℕ) = clean_after (read old.next words) old.state reply new.state clean in
    let marks : KeepsMarks old.next words (marked old clean) reply (marked new behind) = record { clean = refl; tells = keeps.1 } in
    (behind, keeps.0, subst (λ (n : ℕ). KeepsMarks n words (marked old clean) reply (marked new behind)) at marks)
kept first before (Scan caller index result) old new clean at are step = (clean, subst (AreClean clean) (sym (scan-indexes old index result new step)) are, refl)
kept first before (Splice caller scan name answer) old new clean at are step = (clean, splice-clean old step.picture answer new clean step.splices_it are, refl)

-- They are a history in which FT.INFO tells of clean indexes just their live records.
pub history : (first : ℕ) (before entries : List Entry) (old new : Stands) (clean : List (List ℕ)) → old.next ≡ number first before → AreClean clean old.indexes → Leads IsStepOf before old entries new
    → (after : List (List ℕ)) × Leads (Follows first) before (marked old clean) entries (marked new after) × AreClean after new.indexes
history first before [] old new clean at are leads = (clean, ap (λ (e : Stands). marked e clean) leads, subst (λ (e : Stands). AreClean clean e.indexes) leads are)
history first before (entry ∷ entries) old new clean at are leads =
    let mid : Stands = leads.0 in
    let (behind, are_still, keeps) = kept first before entry old mid clean at are leads.1 in
    let rest = history first (before ++ entry ∷ []) entries mid new behind (next_is first before entry old mid at leads.1) are_still leads.2 in (
      rest.0,
      (marked mid behind, (may_follow first before entry old mid at leads.1, keeps), rest.1),
      rest.2,
    )
