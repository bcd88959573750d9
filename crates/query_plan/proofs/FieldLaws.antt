-- A word and a phrase, in the fields that are searched.
use Rattle.std.proofs.Common.{◌≡◌, ℕ, ◌+◌, Bool, true, false, ◌&&◌, ◌||◌, List, [], ◌∷◌, map, Option, Some, refl, sym, ap, ◌∙◌, inl, inr, arith}
use Rattle.std.specs.List.{list_any, filter_map, slice_get}
use Rattle.std.specs.Str.{bytes_eq}
use Rattle.std.proofs.lemmas.Bool.{cases_Bool, false≢true}
use Rattle.ft_base.specs.declared.definition.Field.{Field}
use Rattle.ft_base.specs.declared.definition.IndexDef.{IndexDef}
use Rattle.ft_base.specs.Docs.{Doc}
use Rattle.ft_base.specs.declared.query.Fields.{Fields}
use Rattle.ft_base.specs.declared.query.Fields.TheVariants as fields
use Rattle.ft_meaning.specs.Holds.{searched, has_phrase, places_of}
use Rattle.ft_meaning.specs.Meaning.{ValuesFit, has_words, field_tokens, has_word}
use Rattle.id_iters.specs.Entries.{counts_in, field_of, looks_in, places_in, stand_in, stand_together, wanted}
use Rattle.ft_index.specs.Entries.{codes}
use Rattle.phrase_match.specs.Phrase.{fits, some_choice, within}
use Rattle.query_plan.proofs.AnyLaws.{any_from, from_any, from_cong, any_filter, all_named}
use Rattle.query_plan.proofs.CodeLaws.{codes_any, places_at}
use Rattle.query_plan.proofs.WordLaws.{text_hit}
use Rattle.token_text.specs.declared.token.Token.{Token}

-- the fields that are searched are those whose number is looked in
searched_any : (def : IndexDef) (looked : Fields) (q : Field → Bool) → ((field : Field) → has_words field ≡ false → q field ≡ false)
    → any_from 0 (λ k field. looks_in looked k && q field) def.fields ≡ list_any q (searched def looked)
searched_any def fields.All q none = from_any q 0 def.fields ∙ sym (any_filter q has_words def.fields none)
searched_any def (fields.Named numbers) q none =
    all_named q def.fields numbers ∙ sym (any_filter q has_words (filter_map (slice_get def.fields) numbers) none)

-- a field whose words are not found has none
no_tokens : (def : IndexDef) (doc : Doc) (field : Field) → has_words field ≡ false → field_tokens def doc field ≡ []
no_tokens def doc field none = rw none refl

-- a hit counts where a code of it is of a field that is looked in
counts : (looked : Fields) (cs : List ℕ) → wanted (counts_in looked) (text_hit cs) ≡ list_any (λ code. looks_in looked (field_of code)) cs
counts fields.All [] = refl
counts fields.All (code ∷ cs) = refl
counts (fields.Named numbers) [] = refl
counts (fields.Named numbers) (code ∷ cs) = refl

-- a word's hit counts where a field that is searched has the word
pub word_in : (def : IndexDef) (doc : Doc) (looked : Fields) (word : List ℕ) → ValuesFit doc.hash
    → wanted (counts_in looked) (text_hit (codes def word doc)) ≡ list_any (λ (field : Field). has_word word (field_tokens def doc field)) (searched def looked)
word_in def doc looked word fit =
    counts looked (codes def word doc)
    ∙ codes_any (looks_in looked) def doc word 0 def.fields fit
    ∙ searched_any def looked (λ (field : Field). has_word word (field_tokens def doc field)) (λ field none. ap (has_word word) (no_tokens def doc field none))

-- ---- phrases

-- words of which the first is not there stand nowhere
not_there : (word : List ℕ) (words : List (List ℕ)) (slop : Option ℕ) (in_order : Bool) (tokens : List Token)
    → has_word word tokens ≡ false → has_phrase (word ∷ words) slop in_order tokens ≡ false
not_there word words slop in_order tokens none =
    ap (λ (places : List ℕ). some_choice (fits slop in_order) (places ∷ map (places_of tokens) words)) (no_place tokens none)
  where
    no_place : (ts : List Token) → has_word word ts ≡ false → places_of ts word ≡ []
    no_place [] h = refl
    no_place (token ∷ ts) h =
        elim (cases_Bool (bytes_eq word token.word)) [
          | inl y ↦ absurd (false≢true (sym h ∙ ap (λ b. b || has_word word ts) y))
          | inr n ↦ rw n (no_place ts (sym (ap (λ b. b || has_word word ts) n) ∙ h))
        ]

absorb : (a b c : Bool) → (c ≡ false → b ≡ false) → ((a && b) && c) ≡ (a && b)
absorb true true true h = refl
absorb true true false h = sym (h refl)
absorb true false c h = refl
absorb false b c h = refl

module _ (def : IndexDef) (doc : Doc) (fit : ValuesFit doc.hash) where
  -- the places of words in the field of a number
  all_places : (k : ℕ) (field : Field) (words : List (List ℕ)) → slice_get def.fields k ≡ Some field
      → map (places_in k) (map (λ word. codes def word doc) words) ≡ map (places_of (field_tokens def doc field)) words
  all_places k field [] at = refl
  all_places k field (word ∷ words) at =
      ap (λ places. places ∷ map (places_in k) (map (λ word. codes def word doc) words)) (places_at def doc word k k 0 def.fields field fit at (omega arith))
      ∙ ap (λ rest. places_of (field_tokens def doc field) word ∷ rest) (all_places k field words at)

  pub phrase_in : (looked : Fields) (word : List ℕ) (words : List (List ℕ)) (slop : Option ℕ) (in_order : Bool)
      → stand_together looked slop in_order (map (λ word. codes def word doc) (word ∷ words))
      ≡ list_any (λ (field : Field). has_phrase (word ∷ words) slop in_order (field_tokens def doc field)) (searched def looked)
  phrase_in looked word words slop in_order =
      codes_any (stand_in looked slop in_order (map (λ word. codes def word doc) (word ∷ words))) def doc word 0 def.fields fit
      ∙ from_cong _ (λ k field. looks_in looked k && has_phrase (word ∷ words) slop in_order (field_tokens def doc field)) 0 def.fields
      (λ k m field at is. each k m field at is)
      ∙ searched_any def looked (λ (field : Field). has_phrase (word ∷ words) slop in_order (field_tokens def doc field))
      (λ field none. not_there word words slop in_order (field_tokens def doc field) (ap (has_word word) (no_tokens def doc field none)))
    where
      each : (k m : ℕ) (field : Field) → slice_get def.fields k ≡ Some field → m ≡ 0 + k
          → (stand_in looked slop in_order (map (λ word. codes def word doc) (word ∷ words)) m && has_word word (field_tokens def doc field))
          ≡ (looks_in looked m && has_phrase (word ∷ words) slop in_order (field_tokens def doc field))
      each k m field at is =
          let here : slice_get def.fields m ≡ Some field = ap (slice_get def.fields) (let same : m ≡ k = omega (arith, is) in same) ∙ at in
          ap (λ (places : List (List ℕ)). (looks_in looked m && within places slop in_order) && has_word word (field_tokens def doc field)) (all_places m field (word ∷ words) here)
          ∙ absorb (looks_in looked m) (has_phrase (word ∷ words) slop in_order (field_tokens def doc field)) (has_word word (field_tokens def doc field))
          (not_there word words slop in_order (field_tokens def doc field))
