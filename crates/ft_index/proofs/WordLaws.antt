-- The words of a document, a field at a time, and what is seen of them once they are in the lists.
use Rattle.std.proofs.Common.{◌≡◌, ℕ, suc, ◌+◌, ◌<◌, ◌≤◌, List, [], ◌∷◌, ◌++◌, map, take, drop, drop-cons, Some, ◌*◌, ◌^◌, length, slice_index_or, refl, ap, sym, subst, inl, inr, ◌∙◌, add-one, append_assoc, append-nil, is_some, nat_eq, if◌then◌else◌}
use Rattle.std.proofs.lemmas.Bool.{cases_Bool}
use Rattle.std.proofs.lemmas.List.{map-append}
use Rattle.std.proofs.lemmas.List.Elements.{filter-append}
use Rattle.std.specs.Cmp.Lexicographic.{bytes_decides}
use Rattle.std.specs.List.{filter, slice_get}
use Rattle.std.specs.Str.{bytes_eq}
use Rattle.ft_base.specs.declared.definition.Field.{Field}
use Rattle.ft_base.specs.declared.definition.IndexDef.{IndexDef}
use Rattle.ft_base.specs.Docs.{Doc}
use Rattle.ft_meaning.specs.Sortable.{sorting_vector}
use Rattle.ft_meaning.specs.Meaning.{field_tokens}
use Rattle.inverted_list.specs.Listing.{last_id}
use Rattle.inverted_list.specs.declared.marker.Markers.{Markers}
use Rattle.posting_block.specs.declared.hits.TextHit.{TextHit}
use Rattle.term_dict.specs.Terms.{Lists, Sets, entries_of, list_of}
use Rattle.token_text.specs.declared.token.Token.{Token}
use Rattle.token_text.proofs.StepLaws.{taken-next}
use Rattle.ft_index.specs.Adding.{IsSeen, IsUnseen, WordsHave}
use Rattle.ft_index.specs.Collected.{GrowBy, occurrences_in}
use Rattle.ft_index.specs.Entries.{codes, codes_among, entry, occurrence, occurrences_from, word_entries}
use Rattle.ft_index.specs.Has.{alive}
use Rattle.ft_index.specs.Markers.{AllBefore, TakesMarkers, marker_in, word_marker}
use Rattle.ft_index.specs.UpTo.{RisesUpTo, WordsUpTo}
use Rattle.ft_index.specs.Without.{without}
use Rattle.ft_index.proofs.AliveLaws.{AreOf, alive-seen, alive-unseen, all-below, all-other, is_other, none-other}
use Rattle.ft_index.proofs.ListLaws.{added_list, entries-added, list-others, marker-here, up_to-push}
use Rattle.ft_index.proofs.TakingLaws.{takes-at}

pub codes_among-append : (word : List ℕ) (xs ys : List (List ℕ × ℕ)) → codes_among word (xs ++ ys) ≡ codes_among word xs ++ codes_among word ys
codes_among-append word xs ys =
    ap (map (λ (one : List ℕ × ℕ). one.1)) (filter-append (λ (one : List ℕ × ℕ). bytes_eq word one.0) xs ys) ∙ map-append _ _ _

-- the code of one token
codes-one : (word : List ℕ) (number : ℕ) (token : Token) → codes_among word (map (occurrence number) (token ∷ [])) ≡ (if bytes_eq word token.word then (number * 2 ^ 32 + token.place) ∷ [] else [])
codes-one word number token =
    elim (cases_Bool (bytes_eq word token.word)) [
      | inl y ↦ rw y refl
      | inr n ↦ rw n refl
    ]

-- the token at an index comes behind those before it
pub codes-next : (word : List ℕ) (number : ℕ) (tokens : List Token) (i : ℕ) (token : Token) → slice_get tokens i ≡ Some token
    → codes_among word (map (occurrence number) (take (i + 1) tokens))
    ≡ codes_among word (map (occurrence number) (take i tokens)) ++ (if bytes_eq word token.word then (number * 2 ^ 32 + token.place) ∷ [] else [])
codes-next word number tokens i token here =
    ap (λ (front : List Token). codes_among word (map (occurrence number) front)) (taken-next tokens i token here)
    ∙ (ap (codes_among word) (map-append (occurrence number) (take i tokens) (token ∷ []))
    ∙ (codes_among-append word (map (occurrence number) (take i tokens)) (map (occurrence number) (token ∷ []))
    ∙ ap (λ (last : List ℕ). codes_among word (map (occurrence number) (take i tokens)) ++ last) (codes-one word number token)))

-- the text at a number comes before those behind it
pub occurrences-next : (texts : List (List Token)) (number : ℕ) (tokens : List Token) → number < length texts → slice_index_or texts number tokens ≡ tokens
    → occurrences_in number (drop number texts) ≡ map (occurrence number) tokens ++ occurrences_in (number + 1) (drop (number + 1) texts)
occurrences-next texts number tokens within here =
    rw (drop-cons texts number tokens within, here, add-one) refl

-- the texts of a document's fields have what stands in the document
pub occurrences-of_texts : (def : IndexDef) (doc : Doc) (number : ℕ) (fields : List Field) → occurrences_in number (map (field_tokens def doc) fields) ≡ occurrences_from def doc number fields
occurrences-of_texts def doc number [] = refl
occurrences-of_texts def doc number (field ∷ fields) =
    ap (λ (rest : List (List ℕ × ℕ)). map (occurrence number) (field_tokens def doc field) ++ rest) (occurrences-of_texts def doc (suc number) fields)

pub entry-own : (id : ℕ) (codes : List ℕ) → AreOf id (entry id codes)
entry-own id [] = tt
entry-own id (code ∷ codes) = (refl, tt)

-- what lists have does not change by entries of an id that is not live
pub words-unseen : (def : IndexDef) (id : ℕ) (old new : Lists TextHit) → GrowBy id old new → IsUnseen id (WordsHave def old) (WordsHave def new)
words-unseen def id old new grown live docs dead has word =
    ap (alive live) (grown word).1
    ∙ (alive-unseen live (entries_of old word) (entry id (grown word).0) id (entry-own id (grown word).0) dead ∙ has word)

-- a document more has its entry last
word_entries-append : (def : IndexDef) (word : List ℕ) (docs : List Doc) (doc : Doc) → word_entries def word (docs ++ doc ∷ []) ≡ word_entries def word docs ++ entry doc.id (codes def word doc)
word_entries-append def word [] doc = append-nil (entry doc.id (codes def word doc))
word_entries-append def word (first ∷ docs) doc =
    ap (λ rest. entry first.id (codes def word first) ++ rest) (word_entries-append def word docs doc)
    ∙ sym (append_assoc (entry first.id (codes def word first)) (word_entries def word docs) (entry doc.id (codes def word doc)))

pub words-seen : (def : IndexDef) (doc : Doc) (old new : Lists TextHit) → WordsUpTo doc.id old → ((word : List ℕ) → last_id 0 (entries_of old word) < doc.id)
    → ((word : List ℕ) → entries_of new word ≡ entries_of old word ++ entry doc.id (codes def word doc)) → IsSeen def doc (WordsHave def old) (WordsHave def new)
words-seen def doc old new up_to later added live docs has word =
    let es = entries_of old word in
    let more = entry doc.id (codes def word doc) in
    ap (alive (live ++ (doc.id, sorting_vector def doc) ∷ [])) (added word)
    ∙ (alive-seen live es more doc.id (sorting_vector def doc) (all-below 0 doc.id es (up_to word).rise (later word)) (entry-own doc.id (codes def word doc))
    ∙ (ap (λ (entries : List (ℕ × TextHit)). entries ++ more) (has word) ∙ sym (word_entries-append def word docs doc)))

pub words-without : (def : IndexDef) (word : List ℕ) (id : ℕ) (docs : List Doc) → word_entries def word (without id docs) ≡ filter (is_other id) (word_entries def word docs)
words-without def word id [] = refl
words-without def word id (doc ∷ docs) =
    let own = entry-own doc.id (codes def word doc) in
    let parts = filter-append (is_other id) (entry doc.id (codes def word doc)) (word_entries def word docs) in
    let others = words-without def word id docs in
    elim (cases_Bool (nat_eq id doc.id)) [
      | inl same ↦ rw (same, parts, none-other id doc.id (entry doc.id (codes def word doc)) own same) others
      | inr apart ↦ rw (apart, parts, all-other id doc.id (entry doc.id (codes def word doc)) own apart) (ap (λ rest. entry doc.id (codes def word doc) ++ rest) others)
    ]

-- an entry more of a higher id ends its list, and the others end where they did
pub words-up_to : (old new : Lists TextHit) (word : List ℕ) (markers : Markers) (id : ℕ) (hit : TextHit) → WordsUpTo id old → last_id 0 (entries_of old word) < id → Sets word (added_list old word markers id hit) old new → WordsUpTo id new
words-up_to old new word markers id hit up_to later sets other =
    let entries = entries-added old new word markers id hit sets other in
    elim (cases_Bool (bytes_eq word other)) [
      | inl y ↦ rw (entries, y) (subst (λ (name : List ℕ). RisesUpTo id (entries_of old name ++ (id, hit) ∷ [])) ((bytes_decides word other).0 y)
          (up_to-push id hit (entries_of old word) (up_to word).rise later))
      | inr n ↦ rw (entries, n) (up_to other)
    ]

pub words-take : (old new : Lists TextHit) (word : List ℕ) (from to : Markers) (id : ℕ) (hit : TextHit) → AllBefore from (word_marker old) → Sets word (added_list old word from id hit) old new
    → to.event ≡ from.event → from.next ≤ to.next → to.next ≡ from.next + (if is_some (list_of old word) then 0 else 1) → TakesMarkers from to (word_marker old) (word_marker new)
words-take old new word from to id hit before sets event next taken =
    takes-at word from to (word_marker old) (word_marker new) event next before
    (λ other. elim (list-others old new word _ sets other) [ inl is ↦ inl is | inr same ↦ inr (ap marker_in same) ])
    (marker-here old new word from to id hit sets taken)
