-- What a splice leaves of the indexes that are clean: lists that lose entries of dead ids alone have none where they had none.
use Rattle.std.proofs.Common.{◌≡◌, ℕ, ℤ, ◌&&◌, Bool, true, false, cond, List, [], ◌∷◌, Option, Some, None, inl, inr, refl, sym, ap, subst, ◌∙◌}
use Rattle.std.specs.Prelude.{find, IfSome}
use Rattle.gc_splice.specs.Alive.{Dropped, Ended, Kept, Without, all_alive}
use Rattle.inverted_list.proofs.ReachLaws.{le_or_lt}
use Rattle.numeric_ranges.specs.Ranges.{Rows, list_at}
use Rattle.std.specs.Ordering.{int_eq}
use Rattle.ft_index.specs.Index.{Index, is_live}
use Rattle.ft_index.specs.Lists.{AllLists, list_from, rows_of}
use Rattle.ft_index.specs.Thinned.{ListsLive, ListsThin, RowsThin, RowsLive, SlotThins}
use Rattle.ft_index.specs.declared.repairs.AnyRepair.{AnyRepair}
use Rattle.ft_machine.specs.Step.{last_number}
use Rattle.gc_splice.specs.declared.splice.Spliced.{Spliced}
use Rattle.id_iters.specs.declared.list_name.ListName.{ListName}
use Rattle.indexed_store.specs.Collecting.{IsClean, IsCleanAt}
use Rattle.indexed_store.specs.Named.{has_serial, is_named, with_serial}
use Rattle.indexed_store.specs.Repairing.{IndexesThin, SplicesFound}
use Rattle.inverted_list.specs.declared.marker.Marker.{Marker}
use Rattle.ft_engine.specs.Cleaning.{AreClean}
use Rattle.ft_engine.specs.Pictures.{Shown, SplicesBy}
use Rattle.ft_engine.specs.Stands.{Stands}

module _ (live : ℕ → Bool) where
  alive-still : {P : Type 0} (xs ys : List (ℕ × P)) → Without live xs ys → all_alive live xs ≡ true → all_alive live ys ≡ true
  alive-still xs ys Ended each = refl
  alive-still xs ys (Kept e us vs w) each = by_test (live e.0) each (alive-still us vs w)
    where
      by_test : (here : Bool) → (here && all_alive live us) ≡ true → (all_alive live us ≡ true → all_alive live vs ≡ true) → (here && all_alive live vs) ≡ true
      by_test true each rest = rest each
      by_test false each rest = absurd (cc (each))
  alive-still xs ys (Dropped e us vs dead w) each = by_test (live e.0) each (alive-still us vs w)
    where
      by_test : (here : Bool) → (here && all_alive live us) ≡ true → (all_alive live us ≡ true → all_alive live vs ≡ true) → all_alive live vs ≡ true
      by_test true each rest = rest each
      by_test false each rest = absurd (cc (each))

  row-still : (low : ℤ) (olds news : Rows) → RowsThin live olds news → IfSome (list_at olds low) (λ l. all_alive live l.entries ≡ true) → IfSome (list_at news low) (λ l. all_alive live l.entries ≡ true)
  row-still low [] [] thin each = tt
  row-still low [] (new ∷ news) thin each = absurd thin
  row-still low (old ∷ olds) [] thin each = absurd thin
  row-still low (old ∷ olds) (new ∷ news) thin each = by_test (int_eq low old.0) (int_eq low new.0) (row-still low olds news thin.2) (ap (int_eq low) (sym thin.0)) each
    where
      by_test : (here there : Bool) → (IfSome (list_at olds low) (λ l. all_alive live l.entries ≡ true) → IfSome (list_at news low) (λ l. all_alive live l.entries ≡ true)) → here ≡ there → IfSome (cond here (Some old.1) (list_at olds low)) (λ l. all_alive live l.entries ≡ true)
          → IfSome (cond there (Some new.1) (list_at news low)) (λ l. all_alive live l.entries ≡ true)
      by_test true true rest same each = alive-still old.1.entries new.1.entries thin.1 each
      by_test true false rest same each = absurd (cc (same))
      by_test false true rest same each = absurd (cc (same))
      by_test false false rest same each = rest each

  slot-still : (old new : Option Rows) → SlotThins live old new → RowsLive live old → RowsLive live new
  slot-still None new thin each low = subst (λ (slot : Option Rows). IfSome (list_from slot low) (λ l. all_alive live l.entries ≡ true)) (sym thin) tt
  slot-still (Some old) None thin each low = absurd thin
  slot-still (Some old) (Some new) thin each low = row-still low old new thin (each low)

  pub lists-still : (old new : AllLists) → ListsThin live old new → ListsLive live old → ListsLive live new
  lists-still old new thin each = record {
    words = λ word. alive-still _ _ (thin.words word) (each.words word);
    tags = λ field tag. alive-still _ _ (thin.tags field tag) (each.tags field tag);
    ranges = λ field. slot-still (rows_of old.ranges field) (rows_of new.ranges field) (thin.ranges field) (each.ranges field);
  }

-- an index that keeps all but its lists, which only lose dead entries, is clean on
clean-still : (old new : Index) → new ≡ record old { lists = new.lists } → ListsThin (is_live old) old.lists new.lists → IsClean old → IsClean new
clean-still old new rest thin clean = subst (λ (i : Index). IsClean i) (sym rest) (lists-still (is_live old) old.lists new.lists thin clean)

named-still : (old new : Index) (name : List ℕ) → new ≡ record old { lists = new.lists } → is_named name new ≡ is_named name old
named-still old new name rest = ap (is_named name) rest

-- the index of a serial is put in another's place
replaced-clean : (name : List ℕ) (serial : ℕ) (olds : List Index) (old new : Index) → find (has_serial serial) olds ≡ Some old → new ≡ record old { lists = new.lists }
    → IndexesThin olds (with_serial olds serial new) → IsCleanAt name olds → IsCleanAt name (with_serial olds serial new)
replaced-clean name serial [] old new there rest thin clean = tt
replaced-clean name serial (x ∷ xs) old new there rest thin clean =
    by_serial (has_serial serial x) (λ is less was. replaced-clean name serial xs old new is rest less was) there thin
  where
    first : (here there : Bool) → here ≡ there → x ≡ old → ListsThin (is_live x) x.lists new.lists → IfSome (cond here (Some x) (find (is_named name) xs)) IsClean
        → IfSome (cond there (Some new) (find (is_named name) xs)) IsClean
    first true true same is thin clean = clean-still x new (rest ∙ ap (λ (i : Index). record i { lists = new.lists }) (sym is)) thin clean
    first true false same is thin clean = absurd (cc (same))
    first false true same is thin clean = absurd (cc (same))
    first false false same is thin clean = clean

    by_name : (here : Bool) → IfSome (cond here (Some x) (find (is_named name) xs)) IsClean → (IsCleanAt name xs → IsCleanAt name (with_serial xs serial new))
        → IfSome (cond here (Some x) (find (is_named name) (with_serial xs serial new))) IsClean
    by_name true clean rest = clean
    by_name false clean rest = rest clean

    by_serial : (here : Bool) → (find (has_serial serial) xs ≡ Some old → IndexesThin xs (with_serial xs serial new) → IsCleanAt name xs → IsCleanAt name (with_serial xs serial new))
        → cond here (Some x) (find (has_serial serial) xs) ≡ Some old → IndexesThin (x ∷ xs) (cond here (new ∷ xs) (x ∷ with_serial xs serial new))
        → IsCleanAt name (cond here (new ∷ xs) (x ∷ with_serial xs serial new))
    by_serial true later is thin = let same : x ≡ old = cc (is) in
        first (is_named name x) (is_named name new) (ap (is_named name) same ∙ sym (named-still old new name rest)) same thin.0 clean
    by_serial false later is thin = by_name (is_named name x) clean (later is thin.1)

spliced-clean : (serial : ℕ) (name : ListName) (repair : AnyRepair) (marker : Marker) (olds news : List Index) (outcome : Spliced) (called : List ℕ) (found : Option Index)
    → find (has_serial serial) olds ≡ found → SplicesFound found serial name repair marker olds news outcome → IndexesThin olds news → IsCleanAt called olds → IsCleanAt called news
spliced-clean serial name repair marker olds news outcome called None is s thin clean = subst (IsCleanAt called) (sym s.1) clean
spliced-clean serial name repair marker olds news outcome called (Some old) is s thin clean =
    subst (IsCleanAt called) (sym s.1) (replaced-clean called serial olds old s.0 is s.2.rest (subst (IndexesThin olds) s.1 thin) clean)

-- A splice leaves each clean index clean.
pub splice-clean : (old : Stands) (shown : Shown) (outcome : Spliced) (new : Stands) (clean : List (List ℕ)) → SplicesBy old shown outcome new → AreClean clean old.indexes → AreClean clean new.indexes
splice-clean old shown outcome new [] s are = tt
splice-clean old shown outcome new (name ∷ names) s are = (
  elim (le_or_lt last_number old.next) [
    | inl end ↦ subst (λ (xs : List Index). IsCleanAt name xs) (sym (s.splices.last end).1) are.0
    | inr before ↦ spliced-clean shown.snapshot.serial s.named.name s.repair _ old.indexes new.indexes outcome name (find (has_serial shown.snapshot.serial) old.indexes) refl (s.splices.splices before) s.thin are.0
  ],
  splice-clean old shown outcome new names s are.1,
)
