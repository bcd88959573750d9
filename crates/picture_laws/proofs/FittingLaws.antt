-- The repair of a good picture fits.
use Rattle.std.specs.Prelude.{◌≡◌, ◌<◌, ℕ, List, [], ◌∷◌, Bool, true, Option, None, Some, IfSome, refl}
use Rattle.std.specs.List.{AllByRecursion}
use Rattle.std.proofs.Common.{sym, ap, subst, ◌∙◌}
use Rattle.std.proofs.lemmas.List.Elements.{All-contains}
use Rattle.gc_splice.proofs.GrowingLaws.{fits_grows}
use Rattle.gc_splice.specs.Splice.{Fits, picture_of}
use Rattle.gc_splice.specs.declared.repair.Repair.{Repair}
use Rattle.id_iters.specs.declared.list_name.ListName.{ListName}
use Rattle.id_iters.specs.declared.list_name.ListName.TheVariants as names
use Rattle.inverted_list.specs.Blocks.{listing}
use Rattle.inverted_list.specs.Listing.{Listing}
use Rattle.inverted_list.specs.declared.marker.Marker.{Marker}
use Rattle.term_dict.specs.Tags.{list_in}
use Rattle.term_dict.specs.Terms.{list_of}
use Rattle.ft_index.specs.Index.{Index, is_live}
use Rattle.ft_index.specs.Lists.{list_from, rows_of}
use Rattle.ft_index.specs.Splicing.{FitsList, FitsName}
use Rattle.ft_index.specs.declared.repairs.AnyRepair.{AnyRepair}
use Rattle.ft_index.specs.declared.repairs.AnyRepair.TheVariants as repairs
use Rattle.picture_laws.specs.Laws.{FitsGood, RepairsList, RepairsName}
use Rattle.picture_laws.specs.Picturing.{ArePast, Follows, IsPast, ListsFollow, Pictured}

-- the pictured entries that are live now were live
were-live : {P : Type 0} (number : ℕ) (was live : ℕ → Bool) (es : List (ℕ × P)) → AllByRecursion (λ e. e.0 < number) es → ((id : ℕ) → id < number → live id ≡ true → was id ≡ true)
    → AllByRecursion (λ e. live e.0 ≡ true → was e.0 ≡ true) es
were-live number was live [] old each = tt
were-live number was live (e ∷ es) old each = (each e.0 old.0, were-live number was live es old.1 each)

fits-list : {P : Type 0} (k : Pictured) (index : Index) (then now : Option (Listing P)) (repair : Repair P) → IsPast k.number then → Follows k index then now → RepairsList k.live then repair
    → FitsList (is_live index) repair now
fits-list {P} k index then now repair past follows (p, at, is) = by_list now refl
  where
    by_list : (o : Option (Listing P)) → now ≡ o → FitsList (is_live index) repair o
    by_list None there = tt
    by_list (Some l) there = λ same.
        let marker : l.marker ≡ p.marker = sym same ∙ ap (λ (r : Repair P). r.seen) is in
        let both = follows (listing p) l at there marker in
        subst (λ (r : Repair P). Fits (is_live index) r (picture_of l)) (sym is)
        (fits_grows k.live (is_live index) p (listing p) l refl both.0 (were-live k.number k.live (is_live index) (listing p).entries (past (listing p) at).ids both.1))

fits-name : (k : Pictured) (index : Index) (name : ListName) (repair : AnyRepair) → ArePast k.number k.lists → ListsFollow k index → RepairsName k name repair
    → FitsName (is_live index) index.lists name repair
fits-name k index (names.Word text) (repairs.Word repair) past follow of =
    fits-list k index (list_of k.lists.words text) (list_of index.lists.words text) repair (past.words text) (follow.words text) of
fits-name k index (names.Tag field text) (repairs.Tag repair) past follow of =
    fits-list k index (list_in k.lists.tags field text) (list_in index.lists.tags field text) repair (past.tags field text) (follow.tags field text) of
fits-name k index (names.Range field low) (repairs.Range repair) past follow of =
    fits-list k index (list_from (rows_of k.lists.ranges field) low) (list_from (rows_of index.lists.ranges field) low) repair (past.ranges field low) (follow.ranges field low) of
fits-name k index (names.Word text) (repairs.Tag repair) past follow of = absurd of
fits-name k index (names.Word text) (repairs.Range repair) past follow of = absurd of
fits-name k index (names.Tag field text) (repairs.Word repair) past follow of = absurd of
fits-name k index (names.Tag field text) (repairs.Range repair) past follow of = absurd of
fits-name k index (names.Range field low) (repairs.Word repair) past follow of = absurd of
fits-name k index (names.Range field low) (repairs.Tag repair) past follow of = absurd of

pub fits-good : FitsGood
fits-good k next indexes index name repair good there serial of =
    fits-name k index name repair good.lists
    (All-contains (λ (x : Index). x.def.serial ≡ k.serial → ListsFollow k x) indexes index good.follow there serial) of
