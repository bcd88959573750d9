-- Where a caller's last scan stands in a history that goes on, and which entries are its own.
use Rattle.std.proofs.Common.{◌≡◌, ◌≢◌, ℕ, suc, ◌+◌, true, false, Bool, cond, List, [], ◌∷◌, ◌++◌, length, refl, ap, ◌∙◌, arith}
use Rattle.std.specs.Prelude.{nat_eq}
use Rattle.std.proofs.lemmas.Bool.Decides.{nat_tests}
use Rattle.std.proofs.lemmas.List.{append-nil}
use Rattle.gc_splice.specs.declared.splice.Spliced.{Spliced}
use Rattle.id_iters.specs.declared.list_name.ListName.{ListName}
use Rattle.history_core.specs.Commands.{caller_of, own}
use Rattle.history_core.specs.Entries.{Exec, Scan, Scanned, Splice}
use Rattle.history_core.proofs.CommandLaws.{own-append}
use Rattle.ft_index.specs.declared.snapshots.Snapshot.{Snapshot}
use Rattle.turn_gate.specs.Log.{NoneBy}
use Rattle.ft_engine.specs.Entries.{Entry}
use Rattle.ft_server.specs.Passes.{is_scan, last_scan, last_scan_from}

-- entries of others are no scans of this caller
not-its : (caller : ℕ) (entry : Entry) → caller_of entry ≢ caller → is_scan caller entry ≡ false
not-its caller (Exec other moment words reply) apart = refl
not-its caller (Scan other index result) apart = grind (arith, nat_tests, apart)
not-its caller (Splice other scan name answer) apart = refl

past-others : (caller best place : ℕ) (others : List Entry) → NoneBy caller_of caller others → last_scan_from caller best place others ≡ best
past-others caller best place [] none = refl
past-others caller best place (entry ∷ others) none =
    ap (λ (b : Bool). last_scan_from caller (cond b place best) (suc place) others) (not-its caller entry none.0) ∙ past-others caller best (suc place) others none.1

from-others : (caller best place : ℕ) (seen others : List Entry) → NoneBy caller_of caller others → last_scan_from caller best place (seen ++ others) ≡ last_scan_from caller best place seen
from-others caller best place [] others none = past-others caller best place others none
from-others caller best place (entry ∷ seen) others none = from-others caller (cond (is_scan caller entry) place best) (suc place) seen others none

from-splice : (caller best place its scan : ℕ) (name : ListName) (answer : Spliced) (seen : List Entry) → last_scan_from caller best place (seen ++ Splice its scan name answer ∷ []) ≡ last_scan_from caller best place seen
from-splice caller best place its scan name answer [] = refl
from-splice caller best place its scan name answer (entry ∷ seen) = from-splice caller (cond (is_scan caller entry) place best) (suc place) its scan name answer seen

-- the last scan stays where it is over entries of others and a splice
pub scan-splice : (caller its scan : ℕ) (name : ListName) (answer : Spliced) (seen others : List Entry) → NoneBy caller_of caller others → last_scan caller ((seen ++ others) ++ Splice its scan name answer ∷ []) ≡ last_scan caller seen
scan-splice caller its scan name answer seen others none = from-splice caller 0 0 its scan name answer (seen ++ others) ∙ from-others caller 0 0 seen others none

same-caller : (caller : ℕ) → nat_eq caller caller ≡ true
same-caller caller = grind (arith, nat_tests)

from-scan : (caller best place : ℕ) (index : List ℕ) (result : Scanned Snapshot) (seen : List Entry) → last_scan_from caller best place (seen ++ Scan caller index result ∷ []) ≡ place + length seen
from-scan caller best place index result [] = ap (λ (b : Bool). cond b place best) (same-caller caller) ∙ omega arith
from-scan caller best place index result (entry ∷ seen) = from-scan caller (cond (is_scan caller entry) place best) (suc place) index result seen ∙ omega arith

-- a new scan is the last
pub scan-new : (caller : ℕ) (index : List ℕ) (result : Scanned Snapshot) (seen : List Entry) → last_scan caller (seen ++ Scan caller index result ∷ []) ≡ length seen
scan-new caller index result seen = from-scan caller 0 0 index result seen ∙ omega arith

another : (caller other : ℕ) → other ≢ caller → nat_eq caller other ≡ false
another caller other apart = grind (arith, nat_tests, apart)

-- entries of others are none of this caller's own
pub own-none : (caller : ℕ) (others : List Entry) → NoneBy caller_of caller others → own caller others ≡ []
own-none caller [] none = refl
own-none caller (entry ∷ others) none = ap (λ (b : Bool). cond b (entry ∷ own caller others) (own caller others)) (another caller (caller_of entry) none.0) ∙ own-none caller others none.1

pub own-before : (caller : ℕ) (entries others : List Entry) → NoneBy caller_of caller others → own caller (entries ++ others) ≡ own caller entries
own-before caller entries others none =
    own-append caller entries others ∙ (ap (λ (l : List Entry). own caller entries ++ l) (own-none caller others none) ∙ append-nil (own caller entries))
