-- What lists have at the id of a document is what the document has.
use Rattle.std.proofs.Common.{◌≡◌, ◌≢◌, ℕ, ℤ, ◌<◌, ◌≤◌, ◌^◌, Bool, true, false, ◌&&◌, List, [], ◌∷◌, map, Option, Some, None, refl, sym, ap, ◌∙◌, subst, inl, inr, arith}
use Rattle.std.specs.Prelude.{is_some, int_le, negsuc, pos}
use Rattle.std.specs.List.{flat_map, list_any, slice_get}
use Rattle.std.specs.Str.{bytes_eq}
use Rattle.std.proofs.lemmas.Bool.{cases_Bool, false≢true}
use Rattle.ft_base.specs.declared.definition.Field.{Field}
use Rattle.ft_base.specs.declared.definition.IndexDef.{IndexDef}
use Rattle.ft_base.specs.Docs.{Doc}
use Rattle.ft_base.specs.declared.query.Fields.{Fields}
use Rattle.ft_base.specs.declared.query.Query.{Query}
use Rattle.ft_base.specs.declared.query.TagPart.{TagPart}
use Rattle.ft_base.proofs.AnyLaws.{any_map}
use Rattle.ft_meaning.specs.Holds.{begins, has_of, holds, searched}
use Rattle.ft_meaning.specs.Meaning.{ValuesFit, field_tokens}
use Rattle.id_iters.specs.Entries.{counts_in, has_entry, lies_in, range_has, stand_together, tag_has, word_has}
use Rattle.id_iters.specs.Held.{Held, AreLists, codes_of, entries_of}
use Rattle.id_iters.specs.Named.{Named, lies_at}
use Rattle.ft_index.specs.Entries.{codes, has_tag}
use Rattle.ft_index.specs.Has.{NumbersHave}
use Rattle.ft_index.specs.Lists.{Vector, has_id, list_from, lows_of, rows_of}
use Rattle.inverted_list.specs.Listing.{Listing, RisesAbove, last_id}
use Rattle.numeric_ranges.specs.Ranges.{Rows, list_at}
use Rattle.phrase_match.specs.Phrase.{has, rises}
use Rattle.posting_block.specs.declared.hits.NumHit.{NumHit}
use Rattle.term_dict.specs.Tags.{tags_of}
use Rattle.query_plan.specs.Asked.{asked_of_each}
use Rattle.query_plan.specs.Finds.{AreOf, finds}
use Rattle.query_plan.specs.Plans.{IsIn, Tells}
use Rattle.query_plan.specs.Sought.{all_sought, section_of, words_with}
use Rattle.query_plan.proofs.AnyLaws.{any_cong}
use Rattle.query_plan.proofs.CodeLaws.{codes_rise, codes_apart}
use Rattle.query_plan.proofs.EntryLaws as entry
use Rattle.query_plan.proofs.FieldLaws.{phrase_in, word_in}
use Rattle.query_plan.proofs.PrefixLaws.{any_flat, begins_among, listed}
use Rattle.query_plan.proofs.AskedLaws.{asked_any}
use Rattle.query_plan.proofs.RangeLaws.{nothing_of, number_in, ranges_have, row_here, unranged}
use Rattle.query_plan.proofs.TagLaws.{tags_are}
use Rattle.query_plan.proofs.WordLaws as word
use Rattle.token_text.specs.declared.token.Token.{Token}

-- the words of some fields of a document
words_in : IndexDef → Doc → List Field → List (List ℕ)
words_in def doc fields = flat_map (λ (field : Field). map (λ (token : Token). token.word) (field_tokens def doc field)) fields

words_any : (p : List ℕ → Bool) (def : IndexDef) (doc : Doc) (fields : List Field)
    → list_any (λ (field : Field). list_any (λ (token : Token). p token.word) (field_tokens def doc field)) fields ≡ list_any p (words_in def doc fields)
unfolding words_in
words_any p def doc fields =
    sym (any_flat p (λ (field : Field). map (λ (token : Token). token.word) (field_tokens def doc field)) fields
    ∙ any_cong _ (λ (field : Field). list_any (λ (token : Token). p token.word) (field_tokens def doc field)) fields
    (λ field. any_map p (λ (token : Token). token.word) (field_tokens def doc field)))

-- a word with an entry has a list
has_list : {P : Type 0} (wants : P → Bool) (id : ℕ) (list : Option (Listing P)) → has_entry wants (entries_of list) id ≡ true → is_some list ≡ true
has_list wants id None h = absurd (false≢true h)
has_list wants id (Some list) h = refl

module _ (def : IndexDef) (held : Held) (named : Named) (docs : List Doc) (are : AreOf def held named docs)
    (doc : Doc) (among : IsIn doc docs) where
  fit : ValuesFit doc.hash
  fit = entry.fits doc docs are.kept.fit among

  pub word_meets : (looked : Fields) (text : List ℕ) → word_has looked (entries_of (held.words text)) doc.id ≡ (has_of def doc).word looked text
  word_meets looked text = word.word_at def held named docs are doc among (counts_in looked) text ∙ word_in def doc looked text fit

  pub prefix_meets : (looked : Fields) (text : List ℕ)
      → list_any (λ w. word_has looked (entries_of (held.words w)) doc.id) (words_with text named.words) ≡ (has_of def doc).prefix looked text
  prefix_meets looked text =
      any_cong _ (λ w. list_any (bytes_eq w) found) (words_with text named.words) same
      ∙ begins_among text named.words found listed_there
      ∙ sym (words_any (begins text) def doc (searched def looked))
    where
      found : List (List ℕ)
      found = words_in def doc (searched def looked)

      same : (w : List ℕ) → word_has looked (entries_of (held.words w)) doc.id ≡ list_any (bytes_eq w) (words_in def doc (searched def looked))
      same w = word_meets looked w ∙ words_any (bytes_eq w) def doc (searched def looked)

      listed_there : (w : List ℕ) → list_any (bytes_eq w) (words_in def doc (searched def looked)) ≡ true → list_any (bytes_eq w) named.words ≡ true
      listed_there w there =
          ap (λ (n : Named). list_any (bytes_eq w) n.words) are.names
          ∙ listed are.lists.words w
          (ap (λ (h : Held). is_some (h.words w)) (sym are.same) ∙ has_list (counts_in looked) doc.id (held.words w) (same w ∙ there))

  pub phrase_meets : (looked : Fields) (w : List ℕ) (words : List (List ℕ)) (slop : Option ℕ) (in_order : Bool)
      → stand_together looked slop in_order (map (λ w. codes_of held w doc.id) (w ∷ words)) ≡ (has_of def doc).phrase looked (w ∷ words) slop in_order
  phrase_meets looked w words slop in_order =
      ap (stand_together looked slop in_order) (all_codes (w ∷ words)) ∙ phrase_in def doc fit looked w words slop in_order
    where
      all_codes : (ws : List (List ℕ)) → map (λ w. codes_of held w doc.id) ws ≡ map (λ w. codes def w doc) ws
      all_codes [] = refl
      all_codes (v ∷ ws) =
          ap (λ cs. cs ∷ map (λ w. codes_of held w doc.id) ws) (word.codes_are def held named docs are doc among v)
          ∙ ap (λ rest. codes def v doc ∷ rest) (all_codes ws)

  pub tags_meet : (field : ℕ) (parts : List TagPart)
      → list_any (λ tag. tag_has (entries_of (held.tags field tag)) doc.id) (all_sought (named.tags field) parts) ≡ (has_of def doc).tags field parts
  tags_meet field parts =
      any_cong _ (λ tag. has_tag def field tag doc) (all_sought (named.tags field) parts) (word.tag_at def held named docs are doc among field)
      ∙ tags_are def doc field parts (named.tags field) listed_there
    where
      listed_there : (tag : List ℕ) → has_tag def field tag doc ≡ true → list_any (bytes_eq tag) (named.tags field) ≡ true
      listed_there tag there =
          ap (λ (n : Named). list_any (bytes_eq tag) (n.tags field)) are.names
          ∙ listed (tags_of are.lists.tags field) tag
          (ap (λ (h : Held). is_some (h.tags field tag)) (sym are.same)
          ∙ has_list (λ hit. true) doc.id (held.tags field tag) (word.tag_at def held named docs are doc among field tag ∙ there))

  pub range_meets : (field : ℕ) (low high : ℤ) (from to : ℕ) → int_le (negsuc 9223372036854775807) low ≡ true → int_le high (pos 9223372036854775807) ≡ true
      → ((place : ℕ) (number : ℤ) → int_le low number ≡ true → int_le number high ≡ true → lies_at (named.lows field) place number ≡ true → (from ≤ place) × (place < to))
      → list_any (λ (set : ℕ → Bool). set doc.id) (section_of (asked_of_each held field low high (named.lows field)) from to) ≡ (has_of def doc).range field low high
  range_meets field low high from to bound top met =
      by_slot (rows_of are.lists.ranges field) (are.has.numbers field) (ap (λ (n : Named). n.lows field) are.names) (λ n. ap (λ (h : Held). h.ranges field n) are.same)
    where
      by_slot : (slot : Option Rows) → NumbersHave def are.live field docs slot → named.lows field ≡ lows_of slot → ((n : ℤ) → held.ranges field n ≡ list_from slot n)
          → list_any (λ (set : ℕ → Bool). set doc.id) (section_of (asked_of_each held field low high (named.lows field)) from to) ≡ (has_of def doc).range field low high
      by_slot None numbers lows ranges =
          ap (list_any (λ (set : ℕ → Bool). set doc.id)) (ap (λ (ls : List ℤ). section_of (asked_of_each held field low high ls) from to) lows ∙ nothing_of from to)
          ∙ sym (unranged low high doc (slice_get def.fields field) numbers)
      by_slot (Some rows) numbers lows ranges =
          ap (λ (ls : List ℤ). list_any (λ (set : ℕ → Bool). set doc.id) (section_of (asked_of_each held field low high ls) from to)) lows
          ∙ asked_any held field low high bound top rows doc.id from to numbers.partition.lie (λ k row at. ranges row.0 ∙ row_here rows numbers.partition.lows k row at)
          ∙ any_cong _ (λ (row : ℤ × Listing NumHit). range_has low high (entries_of (list_at rows row.0)) doc.id) (section_of rows from to)
          (λ row. ap (λ (list : Option (Listing NumHit)). range_has low high (entries_of list) doc.id) (ranges row.0))
          ∙ ranges_have low high doc.id rows numbers.partition bound numbers.entries from to numbers.parted
          (λ place number above below lies. met place number above below (subst (λ (ls : List ℤ). lies_at ls place number ≡ true) (sym lows) lies))
          ∙ word.number_at def held named docs are doc among (lies_in low high) field numbers.entries numbers.same
          ∙ number_in low high doc (slice_get def.fields field)

-- ---- the lists of an index

module _ (def : IndexDef) (held : Held) (named : Named) (docs : List Doc) (are : AreOf def held named docs) where
  rise : entry.Rise 0 docs
  rise = entry.rise_from def 0 docs (subst (RisesAbove 0) are.has.live are.kept.rise)

  live_is : (id : ℕ) → held.live id ≡ has_id (map (entry.row_of def) docs) id
  live_is id = ap (λ (h : Held). h.live id) are.same ∙ ap (λ (rows : List (ℕ × Vector)). has_id rows id) are.has.live

  -- a live id is that of a document
  doc_at : (id : ℕ) → held.live id ≡ true → (doc : Doc) × IsIn doc docs × (doc.id ≡ id)
  doc_at id live = entry.live_doc def id docs (sym (live_is id) ∙ live)

  rising_at : (w : List ℕ) (id : ℕ) (doc : Doc) → IsIn doc docs → doc.id ≡ id → rises (codes_of held w id) ≡ true
  rising_at w id doc among same =
      ap (λ n. rises (codes_of held w n)) (sym same)
      ∙ ap rises (word.codes_are def held named docs are doc among w)
      ∙ codes_rise def doc (entry.fits doc docs are.kept.fit among) w

  apart_at : (w other : List ℕ) (id : ℕ) (doc : Doc) → IsIn doc docs → doc.id ≡ id → w ≢ other
      → (code : ℕ) → has (codes_of held w id) code ≡ true → has (codes_of held other id) code ≡ false
  apart_at w other id doc among same differ code there =
      ap (λ n. has (codes_of held other n) code) (sym same)
      ∙ ap (λ cs. has cs code) (word.codes_are def held named docs are doc among other)
      ∙ codes_apart def doc (entry.fits doc docs are.kept.fit among) w other differ code
      (ap (λ cs. has cs code) (sym (word.codes_are def held named docs are doc among w))
      ∙ ap (λ n. has (codes_of held w n) code) same ∙ there)

  pub are_lists : AreLists held
  are_lists = record {
    above = λ id live. let at = doc_at id live in omega (arith, entry.above 0 at.0 docs rise at.1, at.2);
    below = λ id live.
        let at = doc_at id live in
        let last : last_id 0 (map (entry.row_of def) docs) < 2 ^ 62 = subst (λ (rows : List (ℕ × Vector)). last_id 0 rows < 2 ^ 62) are.has.live are.kept.end in
        omega (arith, entry.upto def 0 at.0 docs rise at.1, at.2, last);
    rising = λ w id live. let at = doc_at id live in rising_at w id at.0 at.1 at.2;
    apart = λ w other id live differ. let at = doc_at id live in apart_at w other id at.0 at.1 at.2 differ;
  }

  -- the live ids of a set that tells of a query's documents are those that the query finds
  pub found_at : (query : Query) (ids : ℕ → Bool) → Tells def held named (λ doc. holds query def doc) ids → (id : ℕ)
      → (held.live id && ids id) ≡ finds query def docs id
  found_at query ids tells id =
      elim (cases_Bool (held.live id)) [
        | inl y ↦ rw y (let at = doc_at id y in
            ap ids (sym at.2) ∙ tells.at docs at.0 are at.1
            ∙ sym (ap (finds query def docs) (sym at.2) ∙ entry.one_finds (λ (doc : Doc). holds query def doc) 0 at.0 docs rise at.1))
        | inr n ↦ rw n (sym (entry.none_finds def (λ (doc : Doc). holds query def doc) id docs (sym (live_is id) ∙ n)))
      ]
