-- What an engine keeps of the scans and splices of its history stays so over each event.
use Rattle.std.proofs.Common.{List, [], ◌∷◌, ◌++◌, sym, subst, append_assoc}
use Rattle.history_core.proofs.GrowingLaws.{each_map, each_more}
use Rattle.history_core.specs.Entries.{Exec, NoIndex, NoMemory, Scan, Scanned, Splice, Taken}
use Rattle.history_core.specs.Histories.{Each}
use Rattle.ft_engine.specs.Entries.{Entry}
use Rattle.ft_engine.specs.Kept.{Holds, HoldsBehind, HoldsEnd, HoldsLast, HoldsTaken}
use Rattle.ft_engine.specs.Stands.{Stands}
use Rattle.ft_engine.specs.Stepping.{Moves}
use Rattle.ft_engine.proofs.PictureLaws.{good-moves}

taken-kept : (old new : Stands) → Moves old new → (result : Scanned _) → HoldsTaken result old → HoldsTaken result new
taken-kept old new moves (Taken snapshot) good = λ list. good-moves old new (record { snapshot = snapshot; place = list }) moves (good list)
taken-kept old new moves NoIndex good = tt
taken-kept old new moves NoMemory good = tt

holds-kept : (old new : Stands) → Moves old new → (before : List Entry) (entry : Entry) → Holds old before entry → Holds new before entry
holds-kept old new moves before (Exec caller moment words reply) holds = tt
holds-kept old new moves before (Scan caller index result) holds = taken-kept old new moves result holds
holds-kept old new moves before (Splice caller scan name answer) holds = tt

-- one entry more
pub holds-more : (old new : Stands) (entries : List Entry) (entry : Entry) → Moves old new → Each (Holds old) [] entries → Holds new entries entry → Each (Holds new) [] (entries ++ entry ∷ [])
holds-more old new entries entry moves each holds = each_more (Holds new) [] entries entry (each_map (Holds old) (Holds new) (holds-kept old new moves) [] entries each) holds

behind-more : (engine : Stands) (before : List Entry) (first : Entry) (entries : List Entry) (entry : Entry) → HoldsEnd engine (before ++ first ∷ entries) entry → HoldsBehind engine before first (entries ++ entry ∷ [])
behind-more engine before first [] entry holds = holds
behind-more engine before first (x ∷ entries) entry holds =
    behind-more engine (before ++ first ∷ []) x entries entry (subst (λ (l : List Entry). HoldsEnd engine l entry) (sym (append_assoc before (first ∷ []) (x ∷ entries))) holds)

pub last-more : (engine : Stands) (entries : List Entry) (entry : Entry) → HoldsEnd engine entries entry → HoldsLast engine (entries ++ entry ∷ [])
last-more engine [] entry holds = holds
last-more engine (x ∷ entries) entry holds = behind-more engine [] x entries entry holds
