-- What the sets of a query's parts tell of documents.
use Rattle.std.proofs.Common.{◌≡◌, ℕ, ℤ, ◌<◌, ◌≤◌, Bool, true, false, not, ◌&&◌, List, [], ◌∷◌, ◌++◌, map, length, Option, Some, None, refl, sym, ap, ◌∙◌, subst, arith}
use Rattle.std.specs.Prelude.{IfOk, Result, int_le, negsuc, pos}
use Rattle.std.specs.List.{list_all, list_any}
use Rattle.std.proofs.Math.Bool.{and-true}
use Rattle.std.proofs.lemmas.Bool.{le-leb}
use Rattle.std.proofs.lemmas.List.{map-append}
use Rattle.std.proofs.lemmas.List.Folds.{list_all-map}
use Rattle.ft_base.specs.declared.definition.Field.{Field}
use Rattle.ft_base.specs.declared.definition.IndexDef.{IndexDef}
use Rattle.ft_base.specs.Docs.{Doc}
use Rattle.ft_base.specs.declared.query.Fields.{Fields}
use Rattle.ft_base.specs.declared.query.Query.{Query}
use Rattle.ft_base.specs.declared.query.Query.TheVariants as query
use Rattle.ft_base.specs.declared.query.TagPart.{TagPart}
use Rattle.ft_base.proofs.AnyLaws.{any_filter_and, any_map}
use Rattle.ft_meaning.specs.Holds.{has_of, has_phrase, holds, named as fields_named, searched}
use Rattle.ft_meaning.specs.Meaning.{field_tokens, has_words}
use Rattle.ft_meaning.proofs.HoldsLaws.{holds-All, holds-And, holds-Empty, holds-Not, holds-Optional, holds-Or}
use Rattle.id_iters.specs.Entries.{codes_at, phrase_has, stand_together}
use Rattle.id_iters.specs.Held.{Held, codes_of}
use Rattle.id_iters.specs.Leaves.{list_has, phrase_ids, word_entries}
use Rattle.id_iters.specs.Named.{Named, lies_at}
use Rattle.id_iters.specs.declared.list_name.ListName.{ListName}
use Rattle.id_iters.specs.declared.list_name.ListName.TheVariants as names
use Rattle.id_iters.specs.declared.phrase.PhraseIter.{PhraseIter}
use Rattle.phrase_match.specs.Phrase.{within}
use Rattle.query_merge.specs.Merged.{AreParts}
use Rattle.query_plan.specs.Asked.{asked_of_each}
use Rattle.list_plan.specs.Parts.{IsAny, IsEvery, part_has}
use Rattle.list_plan.specs.Plans.{some_has}
use Rattle.query_plan.specs.Plans.{AllTell, TellTogether, Tells}
use Rattle.query_plan.specs.Phrases.{AreOfWords}
use Rattle.query_plan.specs.Sought.{all_sought, section_of, words_with}
use Rattle.list_plan.specs.declared.parts.Part.{Part}
use Rattle.query_plan.proofs.AnyLaws.{any_cong}
use Rattle.query_plan.proofs.AskedLaws.{section_as}
use Rattle.query_plan.proofs.TagLaws.{kept_sought}
use Rattle.query_plan.proofs.TurnLaws.{phrase_has_words}
use Rattle.query_plan.proofs.MeetLaws.{phrase_meets, prefix_meets, range_meets, tags_meet, word_meets}

module _ (def : IndexDef) (held : Held) (named : Named) where
  -- ---- parts that read lists

  pub word_tells : (looked : Fields) (text : List ℕ) (low high : ℤ) (ids : ℕ → Bool) → ids ≡ list_has held (names.Word text) looked low high
      → Tells def held named (λ doc. (has_of def doc).word looked text) ids
  word_tells looked text low high ids same = record {
    at = λ docs doc are among.
        ap (λ (set : ℕ → Bool). set doc.id) same ∙ word_meets def held named docs are doc among looked text;
  }

  pub prefix_tells : (looked : Fields) (text : List ℕ) (low high : ℤ) (found : List ListName) (ids : ℕ → Bool)
      → ids ≡ some_has held found looked low high → found ≡ map (λ word. names.Word word) (words_with text named.words)
      → Tells def held named (λ doc. (has_of def doc).prefix looked text) ids
  prefix_tells looked text low high found ids same are_named = record {
    at = λ docs doc are among.
        ap (λ (set : ℕ → Bool). set doc.id) same
        ∙ ap (λ ns. some_has held ns looked low high doc.id) are_named
        ∙ any_map (λ name. list_has held name looked low high doc.id) (λ word. names.Word word) (words_with text named.words)
        ∙ prefix_meets def held named docs are doc among looked text;
  }

  pub tags_tell : (field : ℕ) (parts kept : List TagPart) (looked : Fields) (low high : ℤ) (found : List ListName) (ids : ℕ → Bool) → AreParts parts kept
      → ids ≡ some_has held found looked low high → found ≡ map (λ tag. names.Tag field tag) (all_sought (named.tags field) kept)
      → Tells def held named (λ doc. (has_of def doc).tags field parts) ids
  tags_tell field parts kept looked low high found ids are_parts same are_named = record {
    at = λ docs doc are among.
        ap (λ (set : ℕ → Bool). set doc.id) same
        ∙ ap (λ ns. some_has held ns looked low high doc.id) are_named
        ∙ any_map (λ name. list_has held name looked low high doc.id) (λ tag. names.Tag field tag) (all_sought (named.tags field) kept)
        ∙ kept_sought (named.tags field) parts kept are_parts (λ tag. list_has held (names.Tag field tag) looked low high doc.id)
        ∙ tags_meet def held named docs are doc among field parts;
  }

  pub range_tells : (field : ℕ) (low high : ℤ) (from to : ℕ) (ids : ℕ → Bool)
      → ids ≡ (λ id. list_any (λ (set : ℕ → Bool). set id) (section_of (asked_of_each held field low high (named.lows field)) from to))
      → int_le (negsuc 9223372036854775807) low ≡ true → int_le high (pos 9223372036854775807) ≡ true
      → ((place : ℕ) (number : ℤ) → int_le low number ≡ true → int_le number high ≡ true → lies_at (named.lows field) place number ≡ true → (from ≤ place) × (place < to))
      → Tells def held named (λ doc. (has_of def doc).range field low high) ids
  range_tells field low high from to ids same bound top met = record {
    at = λ docs doc are among.
        ap (λ (set : ℕ → Bool). set doc.id) same ∙ range_meets def held named docs are doc among field low high from to bound top met;
  }

  -- the same where the ends are known by equations
  pub range_tells_as : (field : ℕ) (low high l h : ℤ) (from to : ℕ) (ids : ℕ → Bool) → l ≡ low → h ≡ high
      → ids ≡ (λ id. list_any (λ (set : ℕ → Bool). set id) (section_of (asked_of_each held field l h (named.lows field)) from to))
      → int_le (negsuc 9223372036854775807) low ≡ true → int_le high (pos 9223372036854775807) ≡ true
      → ((place : ℕ) (number : ℤ) → int_le l number ≡ true → int_le number h ≡ true → lies_at (named.lows field) place number ≡ true → (from ≤ place) × (place < to))
      → Tells def held named (λ doc. (has_of def doc).range field low high) ids
  range_tells_as field low high l h from to ids is_low is_high same bound top met =
      range_tells field low high from to ids
      (same ∙ ap {B = ℕ → Bool} (λ (sets : List (ℕ → Bool)) id. list_any (λ (set : ℕ → Bool). set id) sets) (section_as held field low high (named.lows field) from to l h is_low is_high)) bound top
      (λ place number above below. met place number (ap (λ (n : ℤ). int_le n number) is_low ∙ above) (ap (int_le number) is_high ∙ below))

  pub phrase_tells : (phrase : PhraseIter) (looked : Fields) (words : List (List ℕ)) (slop : Option ℕ) (in_order : Bool) (ids : ℕ → Bool)
      → 0 < length words → ids ≡ phrase_ids held phrase → AreOfWords words phrase.words phrase.order
      → phrase.fields ≡ looked → phrase.slop ≡ slop → phrase.in_order ≡ in_order
      → Tells def held named (λ doc. (has_of def doc).phrase looked words slop in_order) ids
  phrase_tells phrase looked [] slop in_order ids some same of_words is_looked is_slop is_order = absurd (omega (arith, some))
  phrase_tells phrase looked (word ∷ words) slop in_order ids some same of_words is_looked is_slop is_order = record {
    at = λ docs doc are among.
        ap (λ (set : ℕ → Bool). set doc.id) same
        ∙ phrase_has_words held phrase (word ∷ words) of_words doc.id
        ∙ ap (λ l. phrase_has l phrase.slop phrase.in_order (map (word_entries held) (map (λ w. names.Word w) (word ∷ words))) doc.id) is_looked
        ∙ ap (λ s. phrase_has looked s phrase.in_order (map (word_entries held) (map (λ w. names.Word w) (word ∷ words))) doc.id) is_slop
        ∙ ap (λ o. phrase_has looked slop o (map (word_entries held) (map (λ w. names.Word w) (word ∷ words))) doc.id) is_order
        ∙ ap (λ cs. stand_together looked slop in_order cs) (codes_are doc.id (word ∷ words))
        ∙ phrase_meets def held named docs are doc among looked word words slop in_order;
  }
    where
      codes_are : (id : ℕ) (ws : List (List ℕ)) → map (λ entries. codes_at entries id) (map (word_entries held) (map (λ w. names.Word w) ws)) ≡ map (λ w. codes_of held w id) ws
      codes_are id [] = refl
      codes_are id (w ∷ ws) = ap (λ rest. codes_of held w id ∷ rest) (codes_are id ws)

  -- without a word a phrase stands in each field that is searched
  pub no_words_tell : (looked : Fields) (words : List (List ℕ)) (slop : Option ℕ) (in_order : Bool) (ids : ℕ → Bool) → length words ≡ 0
      → ids ≡ (λ id. list_any has_words (fields_named def looked))
      → Tells def held named (λ doc. (has_of def doc).phrase looked words slop in_order) ids
  no_words_tell looked (word ∷ words) slop in_order ids none same = absurd (omega (arith, none))
  no_words_tell looked [] slop in_order ids none same = record {
    at = λ docs doc are among. ap (λ (set : ℕ → Bool). set doc.id) same ∙ each doc;
  }
    where
      stands : (s : Option ℕ) (o : Bool) → within [] s o ≡ true
      stands None true = refl
      stands None false = refl
      stands (Some s) true = rw (le-leb 0 s (omega arith)) refl
      stands (Some s) false = rw (le-leb 0 s (omega arith)) refl

      each : (doc : Doc) → list_any has_words (fields_named def looked)
          ≡ list_any (λ (field : Field). has_phrase [] slop in_order (field_tokens def doc field)) (searched def looked)
      each doc =
          any_cong has_words (λ field. has_words field && has_phrase [] slop in_order (field_tokens def doc field)) (fields_named def looked)
          (λ field. sym (and-true (has_words field)) ∙ ap (λ b. has_words field && b) (sym (stands slop in_order)))
          ∙ sym (any_filter_and (λ (field : Field). has_phrase [] slop in_order (field_tokens def doc field)) has_words (fields_named def looked))

  -- what is told of a query is told of one that is the same
  pub tells_same : {E : Type 0} (whole query : Query) (made : Result Part E) → whole ≡ query
      → IfOk made (λ part. Tells def held named (λ doc. holds query def doc) (part_has held part))
      → IfOk made (λ part. Tells def held named (λ doc. holds whole def doc) (part_has held part))
  tells_same {E} whole query made is tells =
      subst (λ (q : Query). IfOk made (λ part. Tells def held named (λ doc. holds q def doc) (part_has held part))) (sym is) tells

  -- a set of the same ids tells the same
  pub tells_as : (test : Doc → Bool) (ids others : ℕ → Bool) → ((id : ℕ) → others id ≡ ids id) → Tells def held named test ids → Tells def held named test others
  tells_as test ids others same tells = record { at = λ docs doc are among. same doc.id ∙ tells.at docs doc are among }

  -- ---- parts made of others

  -- of equal parts one is planned, as the others change neither what all of them ask nor what some of them does
  pub together : (queries kept : List Query) (parts : List Part) → AreParts queries kept → AllTell def held named kept parts → TellTogether def held named queries parts
  together queries kept parts are_parts tell = record {
    every = λ docs doc are among.
        sym (list_all-map (λ b. b) (λ part. part_has held part doc.id) parts)
        ∙ ap (list_all (λ b. b)) (tell.at docs doc are among)
        ∙ list_all-map (λ b. b) (λ q. holds q def doc) kept
        ∙ are_parts.every (λ q. holds q def doc);
    some = λ docs doc are among.
        sym (any_map (λ b. b) (λ part. part_has held part doc.id) parts)
        ∙ ap (list_any (λ b. b)) (tell.at docs doc are among)
        ∙ any_map (λ b. b) (λ q. holds q def doc) kept
        ∙ are_parts.some (λ q. holds q def doc);
  }

  pub every_tells : (queries : List Query) (whole : Query) (parts : List Part) (made : Part) → whole ≡ query.And queries
      → TellTogether def held named queries parts → IsEvery parts made → Tells def held named (λ doc. holds whole def doc) (part_has held made)
  every_tells queries whole parts made is tell every = record {
    at = λ docs doc are among.
        every.set held doc.id
        ∙ tell.every docs doc are among
        ∙ sym (holds-And (has_of def doc) queries)
        ∙ ap (λ q. holds q def doc) (sym is);
  }

  pub some_tells : (queries : List Query) (whole : Query) (parts : List Part) (made : Part) → whole ≡ query.Or queries
      → TellTogether def held named queries parts → IsAny parts made → Tells def held named (λ doc. holds whole def doc) (part_has held made)
  some_tells queries whole parts made is tell any = record {
    at = λ docs doc are among.
        any.set held doc.id
        ∙ tell.some docs doc are among
        ∙ sym (holds-Or (has_of def doc) queries)
        ∙ ap (λ q. holds q def doc) (sym is);
  }

  pub none_tells : (whole : Query) (ids : ℕ → Bool) → whole ≡ query.Empty → ids ≡ (λ id. false) → Tells def held named (λ doc. holds whole def doc) ids
  none_tells whole ids is same = record {
    at = λ docs doc are among.
        ap (λ (set : ℕ → Bool). set doc.id) same ∙ sym (ap (λ q. holds q def doc) is ∙ holds-Empty (has_of def doc));
  }

  pub all_tell : (whole : Query) (ids : ℕ → Bool) → whole ≡ query.All → ids ≡ (λ id. true) → Tells def held named (λ doc. holds whole def doc) ids
  all_tell whole ids is same = record {
    at = λ docs doc are among.
        ap (λ (set : ℕ → Bool). set doc.id) same ∙ sym (ap (λ q. holds q def doc) is ∙ holds-All (has_of def doc));
  }

  pub optional_tells : (part whole : Query) (ids : ℕ → Bool) → whole ≡ query.Optional part → ids ≡ (λ id. true) → Tells def held named (λ doc. holds whole def doc) ids
  optional_tells part whole ids is same = record {
    at = λ docs doc are among.
        ap (λ (set : ℕ → Bool). set doc.id) same ∙ sym (ap (λ q. holds q def doc) is ∙ holds-Optional (has_of def doc) part);
  }

  pub other_tells : (part whole : Query) (ids others : ℕ → Bool) → whole ≡ query.Not part → Tells def held named (λ doc. holds part def doc) ids
      → ((id : ℕ) → others id ≡ not (ids id)) → Tells def held named (λ doc. holds whole def doc) others
  other_tells part whole ids others is tells set = record {
    at = λ docs doc are among.
        set doc.id ∙ ap not (tells.at docs doc are among)
        ∙ sym (ap (λ q. holds q def doc) is ∙ holds-Not (has_of def doc) part);
  }

  -- ---- plans that are gathered

  pub none_tell : AllTell def held named [] []
  none_tell = record { at = λ docs doc are among. refl }

  pub one_more_tells : (queries more : List Query) (one : Query) (parts new : List Part) (part : Part)
      → more ≡ queries ++ one ∷ [] → new ≡ parts ++ part ∷ []
      → AllTell def held named queries parts → Tells def held named (λ doc. holds one def doc) (part_has held part) → AllTell def held named more new
  one_more_tells queries more one parts new part is_more is_new tell tells = record {
    at = λ docs doc are among.
        ap (map (λ p. part_has held p doc.id)) is_new
        ∙ map-append _ _ _
        ∙ ap (λ xs. xs ++ part_has held part doc.id ∷ []) (tell.at docs doc are among)
        ∙ ap (λ b. map (λ q. holds q def doc) queries ++ b ∷ []) (tells.at docs doc are among)
        ∙ sym (ap (map (λ q. holds q def doc)) is_more ∙ map-append _ _ _);
  }
