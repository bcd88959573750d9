-- The documents that a read of a stream takes: one after another from an id on, until there are so many rows or none is left.
use Rattle.std.proofs.Common.{◌≡◌, ◌<◌, ◌≤◌, ◌+◌, ◌-◌, ◌^◌, ℕ, suc, Bool, true, false, List, [], ◌∷◌, ◌++◌, length, refl, sym, ap, ◌∙◌, subst, inl, inr, arith, append_assoc, append-nil, length-append}
use Rattle.std.specs.Prelude.{Option, None, Some, IsSome, nat_eq, nat_le, nat_lt, option_to_list}
use Rattle.std.specs.List.{filter_map}
use Rattle.std.specs.List.Sorted.{IsStrictlyIncreasing}
use Rattle.std.proofs.lemmas.Bool.{cases_Bool, cases_lt, eqb-true, false≢true}
use Rattle.std.proofs.lemmas.Bool.Decides.{nat_tests}
use Rattle.std.proofs.lemmas.List.{length_push}
use Rattle.std.proofs.lemmas.List.Elements.{filter_map-append}
use Rattle.std.proofs.lemmas.List.Sums.{fold-append}
use Rattle.std.proofs.lemmas.Map.Keys.{sorted_from_strictly_increasing}
use Rattle.ft_base.specs.Docs.{Doc}
use Rattle.ft_base.specs.declared.row.Row.{Row}
use Rattle.ft_machine.specs.Parts.{behind, docs_taken, last_id, still_to_come}
use Rattle.hash_store.specs.Store.{reads_after}
use Rattle.id_iters.specs.Least.{IsLeastAt, NoneFrom}
use Rattle.doc_reads.proofs.AskLaws.{docs_from, ids, next, none-left}
use Rattle.doc_reads.specs.Ids.{doc_at, docs_in}

-- the documents of a set behind an id are those from the next number on
above-is-from : (last id : ℕ) → nat_lt last id ≡ nat_le (last + 1) id
above-is-from last id = grind (arith, nat_tests)

behind-set : (last : ℕ) (has : ℕ → Bool) (docs : List Doc) → behind last (docs_in has docs) ≡ docs_from (last + 1) has docs
behind-set last has [] = refl
behind-set last has (doc ∷ docs) =
    elim (cases_Bool (has doc.id)) [
      | inl here ↦
          elim (cases_Bool (nat_lt last doc.id)) [
            | inl over ↦
                let from : nat_le (last + 1) doc.id ≡ true = sym (above-is-from last doc.id) ∙ over in
                rw (here, over, from, behind-set last has docs) refl
            | inr under ↦
                let from : nat_le (last + 1) doc.id ≡ false = sym (above-is-from last doc.id) ∙ under in
                rw (here, under, from) (behind-set last has docs)
          ]
      | inr away ↦
          elim (cases_Bool (nat_le (last + 1) doc.id)) [
            | inl over ↦ rw (away, over) (behind-set last has docs)
            | inr under ↦ rw (away, under) (behind-set last has docs)
          ]
    ]

-- Where no row is wanted no document is taken, nor where there is none.
none-wanted : (row : Doc → Option Row) (docs : List Doc) → docs_taken row 0 docs ≡ []
none-wanted row [] = refl
none-wanted row (doc ∷ docs) = refl

-- What is taken so far, and that it and what is taken from the last id on are all that is to be taken.
pub record IsTaken (row : Doc → Option Row) (after n : ℕ) (found : List Doc) (start : ℕ) (rows : List Row) (last reads : ℕ) : Type 0 where
  pub so_far : List Doc
  pub whole : docs_taken row n (behind after found) ≡ so_far ++ docs_taken row (n - length rows) (behind last found)
  pub made : rows ≡ filter_map row so_far
  pub after_last : last ≡ last_id after so_far
  pub count : reads ≡ reads_after start (length so_far)
  pub few : length rows ≤ n

-- at first none is taken
pub taken-none : (row : Doc → Option Row) (after n : ℕ) (found : List Doc) (start : ℕ) (rows : List Row) → rows ≡ [] → start < 2 ^ 64 → IsTaken row after n found start rows after start
taken-none row after n found start rows none bits =
    let empty : length rows ≡ 0 = ap (λ (rows : List Row). length rows) none in
    let whole : n ≡ n - length rows = omega (arith, empty) in
    record {
      so_far = [];
      whole = ap (λ (n : ℕ). docs_taken row n (behind after found)) whole;
      made = none;
      after_last = refl;
      count = omega (arith, bits);
      few = omega (arith, empty);
    }

-- how many rows are still to come, by how many there were and how many there are
still-left : (made : Option Row) (n left had now : ℕ) → n - had ≡ suc left → now ≡ had + length (option_to_list made) → still_to_come made left ≡ n - now
still-left None n left had now is more = omega (arith, is, more)
still-left (Some row) n left had now is more = omega (arith, is, more)

-- the next document is taken where a row is wanted
one-taken : (row : Doc → Option Row) (n had now : ℕ) (doc : Doc) (docs : List Doc) → had < n → now ≡ had + length (option_to_list (row doc))
    → docs_taken row (n - had) (doc ∷ docs) ≡ doc ∷ docs_taken row (n - now) docs
one-taken row n had now doc docs wanted more =
    let is : n - had ≡ suc (n - had - 1) = omega (arith, wanted) in
    ap (λ (left : ℕ). docs_taken row left (doc ∷ docs)) is
    ∙ ap (λ (left : ℕ). doc ∷ docs_taken row left docs) (still-left (row doc) n (n - had - 1) had now is more)

-- one document makes one row or none
one-made : (row : Doc → Option Row) (doc : Doc) → filter_map row (doc ∷ []) ≡ option_to_list (row doc)
one-made row doc = only (row doc) refl
  where
    only : (made : Option Row) → row doc ≡ made → filter_map row (doc ∷ []) ≡ option_to_list (row doc)
    only None is = rw is refl
    only (Some made) is = rw is refl

-- behind the last id comes the document of the least id above
next-behind : (last id : ℕ) (has : ℕ → Bool) (docs : List Doc) (doc : Doc) → IsStrictlyIncreasing (ids docs) → doc_at id docs ≡ Some doc → IsLeastAt has (last + 1) id
    → behind last (docs_in has docs) ≡ doc ∷ behind id (docs_in has docs)
next-behind last id has docs doc rise found least =
    behind-set last has docs
    ∙ (next (last + 1) id has docs doc (sorted_from_strictly_increasing (ids docs) rise) found least
    ∙ ap (λ (rest : List Doc). doc ∷ rest) (sym (behind-set id has docs)))

-- the document of an id has it
id-found : (id : ℕ) (docs : List Doc) (doc : Doc) → doc_at id docs ≡ Some doc → doc.id ≡ id
id-found id [] doc found = cc (found)
id-found id (d ∷ docs) doc found =
    elim (cases_Bool (nat_eq id d.id)) [
      | inl here ↦
          let said : ◌≡◌ {A = Option Doc} (Some d) (Some doc) = rw here at found in
          let same : d ≡ doc = cc (said) in
          sym (ap (λ (doc : Doc). doc.id) same) ∙ sym (eqb-true id d.id here)
      | inr away ↦ id-found id docs doc (rw away at found)
    ]

at-most-one : (made : Option Row) → length (option_to_list made) ≤ 1
at-most-one None = omega arith
at-most-one (Some row) = omega arith

-- one more is taken
pub taken-next : (row : Doc → Option Row) (after n : ℕ) (has : ℕ → Bool) (docs : List Doc) (start : ℕ) (rows more : List Row) (last id reads now : ℕ)
    → IsStrictlyIncreasing (ids docs) → IsLeastAt has (last + 1) id → IsSome (doc_at id docs) → length rows < n
    → ((doc : Doc) → doc_at id docs ≡ Some doc → more ≡ rows ++ option_to_list (row doc))
    → now ≡ reads_after reads 1 → IsTaken row after n (docs_in has docs) start rows last reads → IsTaken row after n (docs_in has docs) start more id now
taken-next row after n has docs start rows more last id reads now rise least stored wanted noted once taken = pick (doc_at id docs) refl stored
  where
    pick : (at : Option Doc) → doc_at id docs ≡ at → IsSome at → IsTaken row after n (docs_in has docs) start more id now
    pick None is some = absurd (false≢true some)
    pick (Some doc) is some =
        let made : more ≡ rows ++ option_to_list (row doc) = noted doc is in
        let longer : length more ≡ length rows + length (option_to_list (row doc)) = ap (λ (rows : List Row). length rows) made ∙ length-append rows (option_to_list (row doc)) in
        let rest = behind id (docs_in has docs) in
        record {
          so_far = taken.so_far ++ doc ∷ [];
          whole =
              taken.whole
              ∙ (ap (λ (docs : List Doc). taken.so_far ++ docs_taken row (n - length rows) docs) (next-behind last id has docs doc rise is least)
              ∙ (ap (λ (docs : List Doc). taken.so_far ++ docs) (one-taken row n (length rows) (length more) doc rest wanted longer)
              ∙ sym (append_assoc taken.so_far (doc ∷ []) (docs_taken row (n - length more) rest))));
          made =
              made
              ∙ (ap (λ (rows : List Row). rows ++ option_to_list (row doc)) taken.made
              ∙ (ap (λ (last : List Row). filter_map row taken.so_far ++ last) (sym (one-made row doc))
              ∙ sym (filter_map-append row taken.so_far (doc ∷ []))));
          after_last = sym (fold-append (λ (before : ℕ) (doc : Doc). doc.id) after taken.so_far (doc ∷ []) ∙ id-found id docs doc is);
          count = omega (arith, once, taken.count, length_push taken.so_far doc);
          few = omega (arith, longer, wanted, at-most-one (row doc));
        }

-- What is taken in all: the rows, how far it is read, and that each document was read once.
pub record IsRead (row : Doc → Option Row) (after : ℕ) (docs : List Doc) (start : ℕ) (rows : List Row) (last reads : ℕ) : Type 0 where
  pub made : rows ≡ filter_map row docs
  pub after_last : last ≡ last_id after docs
  pub count : reads ≡ reads_after start (length docs)

-- no row is wanted, or none is left
pub taken-ended : (row : Doc → Option Row) (after n : ℕ) (has : ℕ → Bool) (docs : List Doc) (start : ℕ) (rows : List Row) (last reads : ℕ)
    → (length rows < n → NoneFrom has (last + 1)) → IsTaken row after n (docs_in has docs) start rows last reads
    → IsRead row after (docs_taken row n (behind after (docs_in has docs))) start rows last reads
taken-ended row after n has docs start rows last reads none taken =
    subst (λ (docs : List Doc). IsRead row after docs start rows last reads) (sym whole) (record { made = taken.made; after_last = taken.after_last; count = taken.count })
  where
    ended : docs_taken row (n - length rows) (behind last (docs_in has docs)) ≡ []
    ended =
        elim (cases_lt (length rows) n) [
          | inl wanted ↦ ap (λ (docs : List Doc). docs_taken row (n - length rows) docs) (behind-set last has docs ∙ none-left (last + 1) has docs (none wanted))
          | inr full ↦
              let zero : n - length rows ≡ 0 = omega (arith, full) in
              ap (λ (left : ℕ). docs_taken row left (behind last (docs_in has docs))) zero ∙ none-wanted row (behind last (docs_in has docs))
        ]

    whole : docs_taken row n (behind after (docs_in has docs)) ≡ taken.so_far
    whole = taken.whole ∙ (ap (λ (docs : List Doc). taken.so_far ++ docs) ended ∙ append-nil taken.so_far)
