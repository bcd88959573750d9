-- What the lists of words, of tags and of numbers have at the id of a document.
use Rattle.std.proofs.Common.{◌≡◌, ℕ, ℤ, Bool, true, false, List, [], ◌∷◌, ◌++◌, Option, Some, None, refl, sym, ap, ◌∙◌, subst, inl, inr}
use Rattle.std.specs.Prelude.{nat_eq}
use Rattle.std.specs.List.{slice_get, cons_option}
use Rattle.std.specs.Option.{option_map, unwrap_or}
use Rattle.std.specs.Map.{lookup}
use Rattle.std.proofs.lemmas.Bool.{cases_Bool}
use Rattle.ft_base.specs.declared.definition.IndexDef.{IndexDef}
use Rattle.ft_base.specs.Docs.{Doc}
use Rattle.id_iters.specs.Entries.{has_entry, wanted, hit_codes}
use Rattle.id_iters.specs.Held.{Held, entries_of, codes_of}
use Rattle.id_iters.specs.Named.{Named}
use Rattle.ft_index.specs.Entries.{codes, entry, word_entries, has_tag, tag_entries, number_entries, searched_number}
use Rattle.ft_index.specs.Has.{alive}
use Rattle.ft_index.specs.Lists.{Vector, has_id}
use Rattle.inverted_list.specs.Listing.{Listing, RisesAbove}
use Rattle.posting_block.specs.declared.hits.NumHit.{NumHit}
use Rattle.posting_block.specs.declared.hits.TagHit.{TagHit}
use Rattle.posting_block.specs.declared.hits.TextHit.{TextHit}
use Rattle.term_dict.specs.Tags.{list_in}
use Rattle.term_dict.specs.Terms as terms
use Rattle.query_plan.specs.Finds.{AreOf}
use Rattle.query_plan.specs.Plans.{IsIn}
use Rattle.query_plan.proofs.EntryLaws.{Rise, entry_of, rise_from, is_live, all_entries, lookup_entries, has_entries, lookup_alive, entry_alive}

-- ---- the hits of a document

-- the hit of a word with these codes
abbrev pub text_hit : List ℕ → Option TextHit
text_hit [] = None
text_hit (code ∷ codes) = Some (record { places = code ∷ codes })

abbrev pub tag_hit : Bool → Option TagHit
tag_hit true = Some (record {})
tag_hit false = None

abbrev pub num_hit : Option ℤ → Option NumHit
num_hit None = None
num_hit (Some n) = Some (record { value = n })

word_entries_are : (def : IndexDef) (word : List ℕ) (docs : List Doc) → word_entries def word docs ≡ all_entries (λ (doc : Doc). text_hit (codes def word doc)) docs
word_entries_are def word [] = refl
word_entries_are def word (doc ∷ docs) = here (codes def word doc) (word_entries_are def word docs)
  where
    here : (cs : List ℕ) → word_entries def word docs ≡ all_entries (λ (d : Doc). text_hit (codes def word d)) docs
        → entry doc.id cs ++ word_entries def word docs ≡ entry_of doc.id (text_hit cs) ++ all_entries (λ (d : Doc). text_hit (codes def word d)) docs
    here [] rest = rest
    here (code ∷ cs) rest = ap (λ es. (doc.id, record { places = code ∷ cs }) ∷ es) rest

tag_entries_are : (def : IndexDef) (field : ℕ) (tag : List ℕ) (docs : List Doc)
    → tag_entries def field tag docs ≡ all_entries (λ (doc : Doc). tag_hit (has_tag def field tag doc)) docs
tag_entries_are def field tag [] = refl
tag_entries_are def field tag (doc ∷ docs) =
    elim (cases_Bool (has_tag def field tag doc)) [
      | inl y ↦ rw y (ap (λ es. (doc.id, record {}) ∷ es) (tag_entries_are def field tag docs))
      | inr n ↦ rw n (tag_entries_are def field tag docs)
    ]

number_entries_are : (def : IndexDef) (field : ℕ) (docs : List Doc)
    → number_entries def field docs ≡ all_entries (λ (doc : Doc). num_hit (searched_number (slice_get def.fields field) doc)) docs
number_entries_are def field [] = refl
number_entries_are def field (doc ∷ docs) = here (searched_number (slice_get def.fields field) doc) (number_entries_are def field docs)
  where
    here : (n : Option ℤ) → number_entries def field docs ≡ all_entries (λ (d : Doc). num_hit (searched_number (slice_get def.fields field) d)) docs
        → cons_option (option_map (λ n. (doc.id, record { value = n })) n) (number_entries def field docs)
        ≡ entry_of doc.id (num_hit n) ++ all_entries (λ (d : Doc). num_hit (searched_number (slice_get def.fields field) d)) docs
    here None rest = rest
    here (Some n) rest = ap (λ es. (doc.id, record { value = n }) ∷ es) rest

-- ---- the entries of lists, in two ways of saying it

entries_are : {P : Type 0} (list : Option (Listing P)) → entries_of list ≡ unwrap_or (option_map (λ (l : Listing P). l.entries) list) []
entries_are None = refl
entries_are (Some list) = refl

module _ (def : IndexDef) (held : Held) (named : Named) (docs : List Doc) (are : AreOf def held named docs)
    (doc : Doc) (among : IsIn doc docs) where
  rise : Rise 0 docs
  rise = rise_from def 0 docs (subst (RisesAbove 0) are.has.live are.kept.rise)

  lives : has_id are.live doc.id ≡ true
  lives = ap (λ (rows : List (ℕ × Vector)). has_id rows doc.id) are.has.live ∙ is_live def doc docs among

  -- entries of which the live ones come of the documents
  pub has_at : {P : Type 0} (of : Doc → Option P) (wants : P → Bool) (es : List (ℕ × P)) → alive are.live es ≡ all_entries of docs
      → has_entry wants es doc.id ≡ wanted wants (of doc)
  has_at {P = P} of wants es same =
      sym (entry_alive are.live wants doc.id es lives)
      ∙ ap (λ (found : List (ℕ × P)). has_entry wants found doc.id) same
      ∙ has_entries of wants 0 doc docs rise among

  words_alive : (word : List ℕ) → alive are.live (entries_of (held.words word)) ≡ all_entries (λ (d : Doc). text_hit (codes def word d)) docs
  words_alive word =
      ap (λ (h : Held). alive are.live (entries_of (h.words word))) are.same
      ∙ ap (alive are.live) (entries_are (terms.list_of are.lists.words word))
      ∙ are.has.words word
      ∙ word_entries_are def word docs

  pub word_at : (wants : TextHit → Bool) (word : List ℕ) → has_entry wants (entries_of (held.words word)) doc.id ≡ wanted wants (text_hit (codes def word doc))
  word_at wants word = has_at (λ (d : Doc). text_hit (codes def word d)) wants (entries_of (held.words word)) (words_alive word)

  -- the codes of a word's entry are those of the word
  pub codes_are : (word : List ℕ) → codes_of held word doc.id ≡ codes def word doc
  codes_are word =
      ap hit_codes (sym (lookup_alive are.live doc.id (entries_of (held.words word)) lives)
      ∙ ap (λ (found : List (ℕ × TextHit)). lookup (nat_eq doc.id) found) (words_alive word)
      ∙ lookup_entries (λ (d : Doc). text_hit (codes def word d)) 0 doc docs rise among)
      ∙ codes_back (codes def word doc)
    where
      codes_back : (cs : List ℕ) → hit_codes (text_hit cs) ≡ cs
      codes_back [] = refl
      codes_back (code ∷ cs) = refl

  pub tag_at : (field : ℕ) (tag : List ℕ) → has_entry (λ hit. true) (entries_of (held.tags field tag)) doc.id ≡ has_tag def field tag doc
  tag_at field tag =
      has_at (λ (d : Doc). tag_hit (has_tag def field tag d)) (λ hit. true) (entries_of (held.tags field tag))
      (ap (λ (h : Held). alive are.live (entries_of (h.tags field tag))) are.same
      ∙ ap (alive are.live) (entries_are (list_in are.lists.tags field tag))
      ∙ are.has.tags field tag
      ∙ tag_entries_are def field tag docs)
      ∙ back (has_tag def field tag doc)
    where
      back : (b : Bool) → wanted (λ hit. true) (tag_hit b) ≡ b
      back true = refl
      back false = refl

  pub number_at : (wants : NumHit → Bool) (field : ℕ) (es : List (ℕ × NumHit)) → alive are.live es ≡ number_entries def field docs
      → has_entry wants es doc.id ≡ wanted wants (num_hit (searched_number (slice_get def.fields field) doc))
  number_at wants field es same =
      has_at (λ (d : Doc). num_hit (searched_number (slice_get def.fields field) d)) wants es (same ∙ number_entries_are def field docs)
