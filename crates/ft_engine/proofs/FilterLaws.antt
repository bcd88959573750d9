-- What the code finds of FILTER and SORTBY is what their definitions say.
use Rattle.std.proofs.Common.{◌≡◌, ℕ, Bool, true, false, ◌&&◌, List, [], ◌∷◌, ◌++◌, filter, refl, sym, ap, ◌∙◌, inl, inr}
use Rattle.std.specs.Prelude.{None, Some, if◌then◌else◌}
use Rattle.std.specs.List.{flat_map, list_all, list_any}
use Rattle.std.specs.Str.{bytes_eq}
use Rattle.std.proofs.Math.Bool.{and_assoc, and-true}
use Rattle.std.proofs.lemmas.Bool.{cases_Bool}
use Rattle.std.proofs.lemmas.List.Elements.{filter_agree}
use Rattle.std.proofs.lemmas.List.Folds.{list_all-append}
use Rattle.cmd_parse.specs.Filters.{Filter}
use Rattle.cmd_parse.specs.Options.{Sort}
use Rattle.cmd_parse.specs.Searching.{Searching}
use Rattle.ft_base.specs.declared.definition.Field.{Field}
use Rattle.ft_base.specs.declared.definition.IndexDef.{IndexDef}
use Rattle.ft_base.specs.Docs.{Doc}
use Rattle.ft_base.specs.declared.query.Query.{Query}
use Rattle.ft_base.specs.declared.query.Query.TheVariants as tree
use Rattle.ft_machine.specs.Counted.{counted, first_unknown, is_among, least, passes, unknown_filter, unknown_sort}
use Rattle.ft_meaning.specs.Holds.{found_of, has_of, holds}
use Rattle.ft_meaning.proofs.HoldsLaws.{holds-And}
use Rattle.ft_meaning.specs.Member.{members}
use Rattle.doc_reads.specs.Ids.{docs_of}
use Rattle.doc_reads.specs.Shapes.{SortsBy}

-- one more part, of one more FILTER
pub ranges-more : {X Y : Type 0} (p : X → Bool) (q : Y → Bool) (first : Bool) (parts : List X) (part : X) (before : List Y) (next : Y)
    → list_all p parts ≡ (first && list_all q before) → p part ≡ q next
    → list_all p (parts ++ part ∷ []) ≡ (first && list_all q (before ++ next ∷ []))
ranges-more p q first parts part before next same one =
    list_all-append p parts (part ∷ [])
    ∙ (ap (λ (all : Bool). all && list_all p (part ∷ [])) same
    ∙ (ap (λ (last : Bool). (first && list_all q before) && (last && true)) one
    ∙ (and_assoc first (list_all q before) (list_all q (next ∷ []))
    ∙ ap (λ (all : Bool). first && all) (sym (list_all-append q before (next ∷ []))))))

-- All parts together ask what the query and each FILTER ask.
pub joined-holds : (def : IndexDef) (doc : Doc) (query : Query) (first parts all : List Query) (filters before : List Filter) → all ≡ parts → first ≡ query ∷ [] → before ≡ filters
    → list_all (λ (part : Query). holds part def doc) parts ≡ (list_all (λ (part : Query). holds part def doc) first && list_all (passes def doc) before)
    → holds (tree.And all) def doc ≡ (holds query def doc && list_all (passes def doc) filters)
joined-holds def doc query first parts all filters before same begun given together =
    holds-And (has_of def doc) all
    ∙ (ap (list_all (λ (part : Query). holds part def doc)) same
    ∙ (together
    ∙ (ap (λ (parts : List Query). list_all (λ (part : Query). holds part def doc) parts && list_all (passes def doc) before) begun
    ∙ (ap (λ (filters : List Filter). (holds query def doc && true) && list_all (passes def doc) filters) given
    ∙ ap (λ (held : Bool). held && list_all (passes def doc) filters) (and-true (holds query def doc))))))

-- those of the ones that pass a test that pass another
filter-both : {X : Type 0} (first second : X → Bool) (xs : List X) → filter second (filter first xs) ≡ filter (λ x. first x && second x) xs
filter-both first second [] = refl
filter-both first second (x ∷ xs) =
    elim (cases_Bool (first x)) [
      | inl passes ↦ rw (passes, filter-both first second xs) refl
      | inr fails ↦ rw (fails, filter-both first second xs) refl
    ]

-- the keys that are named and the FILTERs may be asked in either order
and_turned : (found among all : Bool) → ((found && all) && among) ≡ (found && (among && all))
and_turned true true true = refl
and_turned true true false = refl
and_turned true false true = refl
and_turned true false false = refl
and_turned false among all = refl

-- What the joined query finds of the keys that are named is what counts.
pub counted-is : (what : Searching) (query together : Query) (def : IndexDef) (docs : List Doc)
    → ((doc : Doc) → holds together def doc ≡ (holds query def doc && list_all (passes def doc) what.filters))
    → docs_of what.keys (found_of together def docs) ≡ counted what query def docs
counted-is what query together def docs same =
    let among : Doc → Bool = λ (doc : Doc). is_among what.keys doc.key in
    let all : Doc → Bool = λ (doc : Doc). list_all (passes def doc) what.filters in
    filter-both (holds together def) among (members def docs)
    ∙ (filter_agree (λ (doc : Doc). holds together def doc && among doc) (λ (doc : Doc). holds query def doc && (among doc && all doc))
    (λ (doc : Doc). ap (λ (found : Bool). found && among doc) (same doc) ∙ and_turned (holds query def doc) (among doc) (all doc)) (members def docs)
    ∙ sym (filter-both (holds query def) (λ (doc : Doc). among doc && all doc) (members def docs)))

-- where no number is the least there is none
none-least : (numbers others : List ℕ) → least (numbers ++ others) ≡ None → numbers ≡ []
none-least [] others none = refl
none-least (n ∷ numbers) others none = cc (none)

-- a name of SORTBY that is not unknown is a field's
known-sort : (fields : List Field) (sort : Sort) → unknown_sort fields (Some sort) ≡ [] → list_any (λ (field : Field). bytes_eq sort.field field.alias) fields ≡ true
known-sort fields sort none = by_test (list_any (λ (field : Field). bytes_eq sort.field field.alias) fields) none
  where
    by_test : (there : Bool) → (if there then [] else sort.at ∷ []) ≡ [] → there ≡ true
    by_test true none = refl
    by_test false none = cc (none)

-- Where no field is unknown, a search sorts by one of the index.
pub sorts-known : (fields : List Field) (what : Searching) → first_unknown fields what ≡ None → SortsBy fields what
sorts-known fields what none = record {
  known = λ (sort : Sort) (is : what.sort ≡ Some sort).
      known-sort fields sort (ap (unknown_sort fields) (sym is) ∙ none-least (unknown_sort fields what.sort) (flat_map (unknown_filter fields) what.filters) none);
}
