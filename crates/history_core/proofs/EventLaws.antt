-- One event of a run: the entry that it is, if it is one.
use Rattle.std.proofs.Common.{◌≡◌, ◌⊎◌, inl, inr, ℕ, zero, suc, List, [], ◌∷◌, ◌++◌, Option, Some, None, refl, sym, ap, subst, ◌∙◌, append-nil}
use Rattle.std.specs.List.{All, AllByRecursion}
use Rattle.std.proofs.lemmas.List.Elements.{recursion_from_All}
use Rattle.ft_base.specs.declared.words.Frame.{Frame}
use Rattle.ft_base.specs.Spans.{words_of}
use Rattle.history_core.specs.Entries.{Entry, Exec, Scan, Scanned, Splice}
use Rattle.history_core.specs.Events.{AllGood, Behind, Did, Happens, Scanning}
use Rattle.history_core.specs.Histories.{at}
use Rattle.history_core.specs.Pictures.{listed, listed_in, scan_place, taken}
use Rattle.history_core.specs.Running.{AreLawful, IsLawful, IsStep, Makes, ShowsSplice}
use Rattle.history_core.specs.declared.event.Event.{Event}
use Rattle.history_core.specs.declared.event.Event.TheVariants as event
use Rattle.history_core.specs.declared.event.Outcome.{Outcome}
use Rattle.history_core.specs.declared.event.Outcome.TheVariants as came
use Rattle.history_core.proofs.PictureLaws.{IsOf, is-pictured, listed-push, taken-append}

module _ {M K N A P : Type 0} (step : M → ℕ → List (List ℕ) → List ℕ → M → Type 0) (scans : M → List ℕ → Scanned K → M → Type 0) (splices : M → P → A → M → Type 0)
    (pictures : K → List P) (name : P → N) (Clean : P → Type 0) where
  -- nothing was entered
  still : (before : List (Entry K N A)) (event : Event) (outcome : Outcome A) (old new : M) (kept : List (Option (List P)))
      → kept ≡ taken pictures before → new ≡ old → Makes pictures name Clean before event outcome [] → Behind step scans splices pictures name Clean before event outcome old new kept
  still before event outcome old new kept holds same makes = record {
    made = [];
    makes = makes;
    leads = sym same;
    holds = holds ∙ ap (λ (l : List (Entry K N A)). taken pictures l) (sym (append-nil before));
  }

  -- an entry that is no scan
  by_one : (before : List (Entry K N A)) (event : Event) (outcome : Outcome A) (entry : Entry K N A) (old new : M) (kept later : List (Option (List P)))
      → kept ≡ taken pictures before → later ≡ kept ++ taken pictures (entry ∷ []) → IsStep step scans splices pictures name before old entry new
      → Makes pictures name Clean before event outcome (entry ∷ []) → Behind step scans splices pictures name Clean before event outcome old new later
  by_one before event outcome entry old new kept later holds grows is makes = record {
    made = entry ∷ [];
    makes = makes;
    leads = (new, is, refl);
    holds = grows ∙ (ap (λ (l : List (Option (List P))). l ++ taken pictures (entry ∷ [])) holds ∙ sym (taken-append pictures before (entry ∷ [])));
  }

  -- a command was executed
  pub executed : (caller now : ℕ) (frame : Frame) (reply : List ℕ) (old new : M) (kept : List (Option (List P)))
      → AreLawful (words_of frame.bytes frame.spans) → step old now (words_of frame.bytes frame.spans) reply new
      → Happens step scans splices pictures name Clean (event.Exec caller now frame) (came.Replied reply) old new kept kept
  executed caller now frame reply old new kept lawful is before holds =
      by_one before (event.Exec caller now frame) (came.Replied reply) (Exec caller now (words_of frame.bytes frame.spans) reply) old new kept kept holds (sym (append-nil kept)) (lawful, is) refl

  -- an index was scanned
  pub scanned : (caller : ℕ) (index : List ℕ) (outcome : Outcome A) (old new : M) (kept later : List (Option (List P)))
      → Scanning scans pictures index outcome old new kept later → Happens step scans splices pictures name Clean (event.Scan caller index) outcome old new kept later
  scanned caller index outcome old new kept later is before holds =
      by_one before (event.Scan caller index) outcome (Scan caller index is.0) old new kept later holds is.3 is.1 (is.0, is.2, refl)

  -- there was no picture
  pub unseen : (caller scan list : ℕ) (old : M) (kept : List (Option (List P))) → listed kept scan list ≡ None
      → Happens step scans splices pictures name Clean (event.Splice caller scan list) came.NoPicture old old kept kept
  unseen caller scan list old kept none before holds =
      still before (event.Splice caller scan list) came.NoPicture old old kept holds refl (shown (listed (taken pictures before) scan list) (ap (λ (l : List (Option (List P))). listed l scan list) (sym holds) ∙ none))
    where
      shown : (p : Option P) → p ≡ None → ShowsSplice {A = A} pictures name Clean caller (scan_place before scan) p came.NoPicture []
      shown None e = refl
      shown (Some picture) e = absurd (let apart : ⊥ = cc in apart)

  -- a picture was there
  pub seen : (caller scan list : ℕ) (picture : P) (outcome : Outcome A) (old new : M) (kept : List (Option (List P))) → listed kept scan list ≡ Some picture
      → Did splices Clean picture outcome old new → Happens step scans splices pictures name Clean (event.Splice caller scan list) outcome old new kept kept
  seen caller scan list picture outcome old new kept is did before holds =
      by_outcome outcome did
    where
      there : listed (taken pictures before) scan list ≡ Some picture
      there = ap (λ (l : List (Option (List P))). listed l scan list) (sym holds) ∙ is

      shown : (o : Outcome A) (made : List (Entry K N A)) → ShowsSplice pictures name Clean caller (scan_place before scan) (Some picture) o made
          → Makes pictures name Clean before (event.Splice caller scan list) o made
      shown o made shows = subst (λ (p : Option P). ShowsSplice pictures name Clean caller (scan_place before scan) p o made) (sym there) shows

      its : IsOf pictures before (scan_place before scan) list picture
      its = is-pictured pictures before scan list picture there

      by_outcome : (o : Outcome A) → Did splices Clean picture o old new → Behind step scans splices pictures name Clean before (event.Splice caller scan list) o old new kept
      by_outcome (came.Spliced answer) d =
          by_one before (event.Splice caller scan list) (came.Spliced answer) (Splice caller (scan_place before scan) (name picture) answer) old new kept kept holds (sym (append-nil kept))
          (record { snapshot = its.snapshot; list = list; picture = picture; pictured = its.pictured; there = its.there; is_named = refl; splices_it = d.1 })
          (shown (came.Spliced answer) (Splice caller (scan_place before scan) (name picture) answer ∷ []) (d.0, refl))
      by_outcome came.Clean d = still before (event.Splice caller scan list) came.Clean old new kept holds d.1 (shown came.Clean [] (d.0, refl))
      by_outcome came.NoMemory d = still before (event.Splice caller scan list) came.NoMemory old new kept holds d (shown came.NoMemory [] refl)
      by_outcome (came.Replied reply) d = absurd d
      by_outcome (came.Scanned lists) d = absurd d
      by_outcome came.NoIndex d = absurd d
      by_outcome came.NoPicture d = absurd d

-- ---- what is pictured stays good

all_at : {A : Type 0} (Q : A → Type 0) (l : List A) (place : ℕ) (x : A) → AllByRecursion Q l → at l place ≡ Some x → Q x
all_at Q [] place x all is = absurd (let no : ⊥ = cc in no)
all_at Q (y ∷ l) zero x all is = let same : y ≡ x = cc in subst Q same all.0
all_at Q (y ∷ l) (suc place) x all is = all_at Q l place x all.1 is

module _ {M P : Type 0} (good : P → M → Type 0) where
  -- what is kept of scans is good behind an event that keeps what is good
  pub good_kept : (scans : List (Option (List P))) (old new : M) → AllGood good scans old → ((picture : P) → good picture old → good picture new) → AllGood good scans new
  good_kept scans old new all keeps scan list picture is = keeps picture (all scan list picture is)

  -- one scan more took nothing, or what is good
  pub good_none : (scans : List (Option (List P))) (now : M) → AllGood good scans now → AllGood good (scans ++ None ∷ []) now
  good_none scans now all scan list picture is = by (listed-push scans None scan list picture is)
    where
      by : (listed scans scan list ≡ Some picture) ⊎ (listed_in (Some None) list ≡ Some picture) → good picture now
      by (inl old) = all scan list picture old
      by (inr its) = absurd (let none : ⊥ = cc in none)

  pub good_more : (scans : List (Option (List P))) (lists : List P) (now : M) → AllGood good scans now → All (λ (picture : P). good picture now) lists → AllGood good (scans ++ Some lists ∷ []) now
  good_more scans lists now all new scan list picture is = by (listed-push scans (Some lists) scan list picture is)
    where
      by : (listed scans scan list ≡ Some picture) ⊎ (listed_in (Some (Some lists)) list ≡ Some picture) → good picture now
      by (inl old) = all scan list picture old
      by (inr its) = all_at (λ (p : P). good p now) lists list picture (recursion_from_All _ _ new) its

-- ---- the same of an event as it is taken apart

module _ {M K N A P : Type 0} (step : M → ℕ → List (List ℕ) → List ℕ → M → Type 0) (scans : M → List ℕ → Scanned K → M → Type 0) (splices : M → P → A → M → Type 0)
    (pictures : K → List P) (name : P → N) (Clean : P → Type 0) where
  abbrev Its : Event → Outcome A → M → M → List (Option (List P)) → List (Option (List P)) → Type 0
  Its = Happens step scans splices pictures name Clean

  pub executed_by : (asked : Event) (caller now : ℕ) (frame : Frame) (reply : List ℕ) (old new : M) (kept : List (Option (List P)))
      → asked ≡ event.Exec caller now frame → IsLawful asked → step old now (words_of frame.bytes frame.spans) reply new → Its asked (came.Replied reply) old new kept kept
  executed_by asked caller now frame reply old new kept is lawful did =
      subst (λ (e : Event). Its e (came.Replied reply) old new kept kept) (sym is)
      (executed step scans splices pictures name Clean caller now frame reply old new kept (subst IsLawful is lawful) did)

  pub scanned_by : (asked : Event) (caller : ℕ) (index : List ℕ) (outcome : Outcome A) (old new : M) (kept later : List (Option (List P)))
      → asked ≡ event.Scan caller index → Scanning scans pictures index outcome old new kept later → Its asked outcome old new kept later
  scanned_by asked caller index outcome old new kept later is did =
      subst (λ (e : Event). Its e outcome old new kept later) (sym is) (scanned step scans splices pictures name Clean caller index outcome old new kept later did)

  pub seen_by : (asked : Event) (caller scan list : ℕ) (picture : P) (outcome : Outcome A) (old new : M) (kept slice : List (Option (List P)))
      → asked ≡ event.Splice caller scan list → slice ≡ kept → Some picture ≡ listed slice scan list → Did splices Clean picture outcome old new → Its asked outcome old new kept kept
  seen_by asked caller scan list picture outcome old new kept slice is same found did =
      subst (λ (e : Event). Its e outcome old new kept kept) (sym is)
      (seen step scans splices pictures name Clean caller scan list picture outcome old new kept (ap (λ (l : List (Option (List P))). listed l scan list) (sym same) ∙ sym found) did)
