-- Lists that lose entries of ids that are not live stand for the documents that they stood for.
use Rattle.std.proofs.Common.{◌≡◌, ℕ, Bool, false, true, cond, ℤ, List, [], ◌∷◌, refl, ap, sym, subst, inl, inr, ◌∙◌, arith, Option, None, Some}
use Rattle.std.specs.Prelude.{IfSome, IsTrue, int_le, int_lt}
use Rattle.std.proofs.Math.Bool.{and_comm}
use Rattle.std.proofs.lemmas.Bool.{cases_Bool}
use Rattle.std.specs.List.{AllByRecursion, filter}
use Rattle.doc_table.specs.Table.{Vector}
use Rattle.ft_base.specs.declared.definition.IndexDef.{IndexDef}
use Rattle.ft_base.specs.Docs.{Doc}
use Rattle.gc_splice.specs.Alive.{Dropped, Ended, Kept, Without}
use Rattle.gc_splice.proofs.WithoutLaws.{alive_without, all_without, last_without, rises_without, without_same}
use Rattle.inverted_list.specs.Listing.{Listing, RisesAbove}
use Rattle.numeric_ranges.proofs.ReachLaws.{below_next, le_of_lt}
use Rattle.numeric_ranges.proofs.ValueLaws.{le_from_lt, le_from_not_lt, le_trans, lt_from_le}
use Rattle.numeric_ranges.specs.Ranges.{AreParted, EntriesLie, IsPartition, LowsRise, Rows, is_below, lies_in, low_of}
use Rattle.numeric_ranges.specs.Values.{Entries}
use Rattle.posting_block.specs.declared.hits.NumHit.{NumHit}
use Rattle.ft_index.proofs.PartedLaws.{lies-from, lows-from}
use Rattle.ft_index.specs.Has.{Has, NumbersHave}
use Rattle.ft_index.specs.Index.{Index, IsIndex}
use Rattle.ft_index.specs.Markers.{MarkersDiffer}
use Rattle.ft_index.specs.Lists.{AllLists, has_id, rows_of}
use Rattle.ft_index.specs.Thinned.{ListsThin, RowsThin, SlotThins}
use Rattle.ft_index.specs.UpTo.{AreUpTo, RisesUpTo, RowsUpTo}

module _ {P : Type 0} (live : ℕ → Bool) where
  -- what was taken out of what is left
  pub without-again : (xs ys zs : List (ℕ × P)) → Without live xs ys → Without live ys zs → Without live xs zs
  without-again xs ys zs Ended w = w
  without-again xs ys zs (Dropped e es fs dead v) w = Dropped e es zs dead (without-again es fs zs v w)
  without-again xs ys zs (Kept e es fs v) w = behind (λ gs u. without-again es fs gs v u) zs w
    where
      behind : ((gs : List (ℕ × P)) → Without live fs gs → Without live es gs) → (zs : List (ℕ × P)) → Without live (e ∷ fs) zs → Without live (e ∷ es) zs
      behind again zs (Kept e2 fs2 gs u) = Kept e es gs (again gs u)
      behind again zs (Dropped e2 fs2 gs dead u) = Dropped e es gs dead (again zs u)

  pub none-without : (ys : List (ℕ × P)) → Without live [] ys → ys ≡ []
  none-without ys Ended = refl

  pub up_to-without : (last : ℕ) (xs ys : List (ℕ × P)) → Without live xs ys → RisesUpTo last xs → RisesUpTo last ys
  up_to-without last xs ys w up_to = record {
    rise = rises_without live 0 xs ys w up_to.rise;
    end = omega (arith, last_without live 0 xs ys w up_to.rise, up_to.end);
  }

abbrev Entry : Type 0
Entry = ℕ × NumHit

-- Entries lose some that pass a test and are not live, and no others.
pub record PartThins (live : ℕ → Bool) (p : Entry → Bool) (es ks : Entries) : Type 0 where
  pub rest : Entries
  pub here : filter p rest ≡ ks
  pub less : Without live es rest
  pub others : (q : Entry → Bool) → ((e : Entry) → q e ≡ true → p e ≡ false) → filter q rest ≡ filter q es

module _ (live : ℕ → Bool) where
  part-kept : (p : Entry → Bool) (e : Entry) (es ks : Entries) → p e ≡ true → PartThins live p es ks → PartThins live p (e ∷ es) (e ∷ ks)
  part-kept p e es ks y r = record {
    rest = e ∷ r.rest;
    here = rw y (ap (λ xs. e ∷ xs) r.here);
    less = Kept e es r.rest r.less;
    others = λ q apart. ap (λ xs. cond (q e) (e ∷ xs) xs) (r.others q apart);
  }

  part-dropped : (p : Entry → Bool) (e : Entry) (es ks : Entries) → p e ≡ true → live e.0 ≡ false → PartThins live p es ks → PartThins live p (e ∷ es) ks
  part-dropped p e es ks y dead r = record {
    rest = r.rest;
    here = r.here;
    less = Dropped e es r.rest dead r.less;
    others = λ q apart. r.others q apart ∙ elim (cases_Bool (q e)) [ inl held ↦ absurd (cc (apart e held, y)) | inr n ↦ rw n refl ];
  }

  part-passed : (p : Entry → Bool) (e : Entry) (es ks : Entries) → p e ≡ false → PartThins live p es ks → PartThins live p (e ∷ es) ks
  part-passed p e es ks n r = record {
    rest = e ∷ r.rest;
    here = rw n r.here;
    less = Kept e es r.rest r.less;
    others = λ q apart. ap (λ xs. cond (q e) (e ∷ xs) xs) (r.others q apart);
  }

  part-thins : (p : Entry → Bool) (es ks : Entries) → Without live (filter p es) ks → PartThins live p es ks
  part-thins p [] ks w = record { rest = []; here = sym (none-without live ks w); less = Ended; others = λ q apart. refl }
  part-thins p (e ∷ es) ks w = elim (cases_Bool (p e)) [
    | inl y ↦ by_first (λ gs u. part-thins p es gs u) ks y (rw y at w)
    | inr n ↦ part-passed p e es ks n (part-thins p es ks (rw n at w))
  ]
    where
      by_first : ((gs : Entries) → Without live (filter p es) gs → PartThins live p es gs) → (ks : Entries) → p e ≡ true → Without live (e ∷ filter p es) ks → PartThins live p (e ∷ es) ks
      by_first rest ks y (Kept e2 es2 gs u) = part-kept p e es gs y (rest gs u)
      by_first rest ks y (Dropped e2 es2 gs dead u) = part-dropped p e es ks y dead (rest ks u)

  -- rows from a low on part all entries that agree on what lies there
  parted-same : (low : ℤ) (es others : Entries) (rows : Rows) → AllByRecursion (λ r. int_le low r.0 ≡ true) rows
      → ((q : ℤ → Bool) → ((v : ℤ) → q v ≡ true → int_le low v ≡ true) → filter (λ e. q e.1.value) others ≡ filter (λ e. q e.1.value) es)
      → AreParted es rows → AreParted others rows
  parted-same low es others [] from same parted = tt
  parted-same low es others (row ∷ rows) from same parted = (
    parted.0 ∙ sym (same (lies_in row.0 (low_of rows)) (λ v lies. le_trans low row.0 v from.0 (lies-from row.0 (low_of rows) v lies))),
    parted-same low es others rows from.1 same parted.1,
  )

  -- what is not below the next low does not lie in a row
  not-above : (low next v : ℤ) → int_le next v ≡ true → lies_in low (Some next) v ≡ false
  not-above low next v from = rw (lt_from_le next v from) (and_comm (int_le low v) false)

  not-below : (low : ℤ) (next : Option ℤ) (v : ℤ) → int_lt v low ≡ true → lies_in low next v ≡ false
  not-below low next v below = rw (le_from_lt v low below) refl

  lies-below : (low : ℤ) (next : Option ℤ) (v : ℤ) → lies_in low next v ≡ true → is_below next v ≡ true
  lies-below low next v lies = elim (cases_Bool (int_le low v)) [ inl y ↦ rw y at lies | inr n ↦ absurd (cc (rw n at lies)) ]

  le-same : (v : ℤ) → int_le v v ≡ true
  le-same v = elim (cases_Bool (int_lt v v)) [ inl y ↦ le_of_lt v v y | inr n ↦ le_from_not_lt v v n ]

  -- the rows behind the first go on parting once the first lost entries
  rows-behind : (row : ℤ × Listing NumHit) (rows : Rows) (es ks : Entries) → LowsRise (row ∷ rows) → AreParted es rows
      → (first : PartThins live (λ e. lies_in row.0 (low_of rows) e.1.value) es ks) → AreParted first.rest rows
  rows-behind row [] es ks rise parted first = tt
  rows-behind row (next ∷ rows) es ks rise parted first =
      parted-same next.0 es first.rest (next ∷ rows) (lows-from next.0 next rows (le-same next.0) rise.1)
      (λ q from. first.others (λ e. q e.1.value) (λ e yes. not-above row.0 next.0 e.1.value (from e.1.value yes))) parted

  thin-low : (old new : Rows) → RowsThin live old new → low_of new ≡ low_of old
  thin-low [] [] thin = refl
  thin-low [] (new ∷ news) thin = absurd thin
  thin-low (old ∷ olds) [] thin = absurd thin
  thin-low (old ∷ olds) (new ∷ news) thin = ap Some thin.0

  -- Rows part entries that lost some, and what lies below the first row stays.
  pub record RowsPart (bound : Option ℤ) (es : Entries) (rows : Rows) : Type 0 where
    pub rest : Entries
    pub parted : AreParted rest rows
    pub less : Without live es rest
    pub below : (q : ℤ → Bool) → ((v : ℤ) → q v ≡ true → is_below bound v ≡ true) → filter (λ e. q e.1.value) rest ≡ filter (λ e. q e.1.value) es

  pub rows-part : (es : Entries) (old new : Rows) → RowsThin live old new → LowsRise old → AreParted es old → RowsPart (low_of old) es new
  rows-part es [] [] thin rise parted = record { rest = es; parted = tt; less = without_same live es; below = λ q low. refl }
  rows-part es [] (new ∷ news) thin rise parted = absurd thin
  rows-part es (old ∷ olds) [] thin rise parted = absurd thin
  rows-part es (old ∷ olds) (new ∷ news) thin rise parted =
      let lies : ℤ → Bool = lies_in old.0 (low_of olds) in
      let first : PartThins live (λ e. lies e.1.value) es new.1.entries
      = part-thins (λ e. lies e.1.value) es new.1.entries (subst (λ xs. Without live xs new.1.entries) parted.0 thin.1) in
      let later : RowsPart (low_of olds) first.rest news = rows-part first.rest olds news thin.2 rise.1 (rows-behind old olds es new.1.entries rise parted.1 first) in
      record {
        rest = later.rest;
        parted = (
          sym (ap (λ (low : ℤ). filter (λ (e : Entry). lies_in low (low_of news) e.1.value) later.rest) thin.0
              ∙ (ap (λ (next : Option ℤ). filter (λ (e : Entry). lies_in old.0 next e.1.value) later.rest) (thin-low olds news thin.2)
              ∙ (later.below lies (λ v yes. lies-below old.0 (low_of olds) v yes) ∙ first.here))),
          later.parted,
        );
        less = without-again live es first.rest later.rest first.less later.less;
        below = λ q low.
            later.below q (λ v yes. below_next v old olds rise (low v yes))
            ∙ first.others (λ e. q e.1.value) (λ e yes. not-below old.0 (low_of olds) e.1.value (low e.1.value yes));
      }

  rows-up_to : (last : ℕ) (old new : Rows) → RowsThin live old new → RowsUpTo last old → RowsUpTo last new
  rows-up_to last [] [] thin up_to = tt
  rows-up_to last [] (new ∷ news) thin up_to = absurd thin
  rows-up_to last (old ∷ olds) [] thin up_to = absurd thin
  rows-up_to last (old ∷ olds) (new ∷ news) thin up_to =
      (up_to-without live last old.1.entries new.1.entries thin.1 up_to.0, rows-up_to last olds news thin.2 up_to.1)

  pub slot-up_to : (last : ℕ) (old new : Option Rows) → SlotThins live old new → IfSome old (RowsUpTo last) → IfSome new (RowsUpTo last)
  slot-up_to last None new thin up_to = subst (λ (slot : Option Rows). IfSome slot (RowsUpTo last)) (sym thin) tt
  slot-up_to last (Some old) None thin up_to = tt
  slot-up_to last (Some old) (Some new) thin up_to = rows-up_to last old new thin up_to

  pub rows-again : (a b c : Rows) → RowsThin live a b → RowsThin live b c → RowsThin live a c
  rows-again [] [] c first second = second
  rows-again [] (y ∷ b) c first second = absurd first
  rows-again (x ∷ a) [] c first second = absurd first
  rows-again (x ∷ a) (y ∷ b) [] first second = absurd second
  rows-again (x ∷ a) (y ∷ b) (z ∷ c) first second =
      (second.0 ∙ first.0, without-again live x.1.entries y.1.entries z.1.entries first.1 second.1, rows-again a b c first.2 second.2)

  pub rows-same : (rows : Rows) → RowsThin live rows rows
  rows-same [] = tt
  rows-same (row ∷ rows) = (refl, without_same live row.1.entries, rows-same rows)

  pub slot-same : (slot : Option Rows) → SlotThins live slot slot
  slot-same None = refl
  slot-same (Some rows) = rows-same rows

  pub slot-again : (a b c : Option Rows) → SlotThins live a b → SlotThins live b c → SlotThins live a c
  slot-again None b c first second = subst (λ (slot : Option Rows). SlotThins live slot c) first second
  slot-again (Some a) None c first second = absurd first
  slot-again (Some a) (Some b) None first second = absurd second
  slot-again (Some a) (Some b) (Some c) first second = rows-again a b c first second

  lows-thin : (old new : Rows) → RowsThin live old new → LowsRise old → LowsRise new
  lows-thin [] [] thin rise = tt
  lows-thin [] (new ∷ news) thin rise = absurd thin
  lows-thin (old ∷ olds) [] thin rise = absurd thin
  lows-thin (old ∷ olds) (new ∷ news) thin rise = (
    subst (λ (low : ℤ). IsTrue (is_below (low_of news) low)) (sym thin.0)
        (subst (λ (next : Option ℤ). IsTrue (is_below next old.0)) (sym (thin-low olds news thin.2)) rise.0),
    lows-thin olds news thin.2 rise.1,
  )

  ids-thin : (old new : Rows) → RowsThin live old new → AllByRecursion (λ row. RisesAbove 0 row.1.entries) old → AllByRecursion (λ row. RisesAbove 0 row.1.entries) new
  ids-thin [] [] thin rise = tt
  ids-thin [] (new ∷ news) thin rise = absurd thin
  ids-thin (old ∷ olds) [] thin rise = absurd thin
  ids-thin (old ∷ olds) (new ∷ news) thin rise = (rises_without live 0 old.1.entries new.1.entries thin.1 rise.0, ids-thin olds news thin.2 rise.1)

  lie-thin : (old new : Rows) → RowsThin live old new → EntriesLie old → EntriesLie new
  lie-thin [] [] thin lie = tt
  lie-thin [] (new ∷ news) thin lie = absurd thin
  lie-thin (old ∷ olds) [] thin lie = absurd thin
  lie-thin (old ∷ olds) (new ∷ news) thin lie = (
    subst (λ (low : ℤ). AllByRecursion (λ (e : Entry). IsTrue (lies_in low (low_of news) e.1.value)) new.1.entries) (sym thin.0)
        (subst (λ (next : Option ℤ). AllByRecursion (λ (e : Entry). IsTrue (lies_in old.0 next e.1.value)) new.1.entries) (sym (thin-low olds news thin.2))
        (all_without live (λ (e : Entry). IsTrue (lies_in old.0 (low_of olds) e.1.value)) old.1.entries new.1.entries thin.1 lie.0)),
    lie-thin olds news thin.2 lie.1,
  )

  rows-partition : (old new : Rows) → RowsThin live old new → IsPartition old → IsPartition new
  rows-partition old new thin partition = record {
    first = thin-low old new thin ∙ partition.first;
    lows = lows-thin old new thin partition.lows;
    ids = ids-thin old new thin partition.ids;
    lie = lie-thin old new thin partition.lie;
  }

-- no list goes on past an id that it did not go past
pub up_to-thin : (live : ℕ → Bool) (last : ℕ) (old new : AllLists) → ListsThin live old new → AreUpTo last old → AreUpTo last new
up_to-thin live last old new thin up_to = record {
  words = λ word. up_to-without live last _ _ (thin.words word) (up_to.words word);
  tags = λ field tag. up_to-without live last _ _ (thin.tags field tag) (up_to.tags field tag);
  ranges = λ field. slot-up_to live last (rows_of old.ranges field) (rows_of new.ranges field) (thin.ranges field) (up_to.ranges field);
}

numbers-thin : (def : IndexDef) (rows : List (ℕ × Vector)) (field : ℕ) (docs : List Doc) (old new : Option Rows) → SlotThins (has_id rows) old new
    → NumbersHave def rows field docs old → NumbersHave def rows field docs new
numbers-thin def rows field docs None new thin have = subst (λ (slot : Option Rows). NumbersHave def rows field docs slot) (sym thin) have
numbers-thin def rows field docs (Some old) None thin have = absurd thin
numbers-thin def rows field docs (Some old) (Some new) thin have =
    let part = rows-part (has_id rows) have.entries old new thin have.partition.lows have.parted in
    record {
      ranged = have.ranged;
      partition = rows-partition (has_id rows) old new thin have.partition;
      entries = part.rest;
      parted = part.parted;
      same = alive_without (has_id rows) have.entries part.rest part.less ∙ have.same;
    }

-- what lists stand for does not change where they lose what is not live
pub has-thin : (def : IndexDef) (rows : List (ℕ × Vector)) (old new : AllLists) (docs : List Doc) → ListsThin (has_id rows) old new → Has def rows old docs → Has def rows new docs
has-thin def rows old new docs thin have = record {
  live = have.live;
  words = λ word. alive_without (has_id rows) _ _ (thin.words word) ∙ have.words word;
  tags = λ field tag. alive_without (has_id rows) _ _ (thin.tags field tag) ∙ have.tags field tag;
  numbers = λ field. numbers-thin def rows field docs (rows_of old.ranges field) (rows_of new.ranges field) (thin.ranges field) (have.numbers field);
}

-- an index whose lists lost entries of ids that are not live
pub index-thinned : (index : Index) (lists : AllLists) → ListsThin (has_id index.table.live) index.lists lists → MarkersDiffer lists → IsIndex index → IsIndex (record index { lists = lists })
index-thinned index lists thin differ sound = record {
  kept = record {
    rise = sound.kept.rise;
    end = sound.kept.end;
    waits = sound.kept.waits;
    up_to = up_to-thin (has_id index.table.live) index.table.last index.lists lists thin sound.kept.up_to;
    differ = differ;
  };
  waits = sound.waits;
  counted = sound.counted;
}
