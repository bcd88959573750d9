-- What the machine gives of a stream, by the documents that match.
use Rattle.std.proofs.Common.{◌≡◌, ℕ, zero, suc, ◌≤◌, ◌+◌, Bool, true, false, cond, nat_lt, nat_eq, List, [], ◌∷◌, length, filter, take, is_some, Option, Some, None, refl, sym, ap, subst, ◌∙◌, arith}
use Rattle.std.specs.List.{filter_map, find}
use Rattle.std.specs.Str.{bytes_eq}
use Rattle.std.proofs.lemmas.Bool.{eq-eqb, ltb-false, ne_eqb}
use Rattle.ft_base.specs.declared.definition.IndexDef.{IndexDef}
use Rattle.ft_base.specs.Docs.{Doc}
use Rattle.ft_base.specs.declared.row.Row.{Row}
use Rattle.ft_machine.specs.Definitions.{Defined, index_of}
use Rattle.ft_machine.specs.Machine.{State}
use Rattle.ft_machine.specs.Parts.{behind, docs_taken, last_id, stream_row}
use Rattle.ft_meaning.specs.Holds.{found_of, holds}
use Rattle.ft_meaning.specs.Member.{member}
use Rattle.cursor_law.specs.StreamCursor.{StreamCursor, def_of, given_in, gives_row, has_serial, hits_in, index_in}
use Rattle.cursor_law.proofs.ListLaws.{Up, filter-swap, up-filter}
use Rattle.cursor_law.proofs.ReadLaws.{DocsUp, doc_id, last-gives, rows-given, rows-many, taken-gives}
use Rattle.cursor_law.proofs.StateLaws.{Sound, serial_of}

module _ (cursor : StreamCursor) (def : IndexDef) (docs : List Doc) (after n : ℕ) where
  abbrev row : Doc → Option Row
  row = stream_row def cursor.stream

  -- what the machine takes, and what gives rows
  abbrev pub machine_takes : List Doc
  machine_takes = docs_taken row n (behind after (found_of cursor.query def docs))

  abbrev pub read_gives : List Doc
  read_gives = take n (behind after (hits_in cursor (Some def) docs))

  behind-hits : filter (λ doc. is_some (row doc)) (behind after (found_of cursor.query def docs)) ≡ behind after (hits_in cursor (Some def) docs)
  behind-hits = filter-swap (λ doc. is_some (row doc)) (λ (doc : Doc). nat_lt after doc.id) (found_of cursor.query def docs)

  -- the documents that give its rows are the first ones that match behind the id
  pub gives-is : given_in cursor (Some def) after n docs ≡ read_gives
  gives-is = taken-gives row n (behind after (found_of cursor.query def docs)) ∙ ap (take n) behind-hits

  pub rows-is : filter_map row machine_takes ≡ filter_map row read_gives
  rows-is = sym (rows-given row machine_takes) ∙ ap (filter_map row) gives-is

  pub many-is : length (filter_map row machine_takes) ≡ length read_gives
  many-is = rows-many row machine_takes ∙ ap length gives-is

  pub rows-many-is : length (filter_map row read_gives) ≡ length read_gives
  rows-many-is = sym (ap length rows-is) ∙ many-is

  pub last-is : nat_lt (length read_gives) n ≡ false → last_id after machine_takes ≡ last_id after read_gives
  last-is e =
      let many : n ≤ length (take n (filter (λ doc. is_some (row doc)) (behind after (found_of cursor.query def docs)))) =
      subst (λ (l : List Doc). n ≤ length (take n l)) (sym behind-hits) (ltb-false (length read_gives) n e) in
      last-gives row n after (behind after (found_of cursor.query def docs)) many ∙ ap (λ l. last_id after (take n l)) behind-hits

none-first : (n : ℕ) → let none : List Doc = [] in take n none ≡ []
none-first zero = refl
none-first (suc n) = refl

-- the same where the index may be gone
pub first-given : (cursor : StreamCursor) (index : Option IndexDef) (after n : ℕ) (docs : List Doc) → given_in cursor index after n docs ≡ take n (behind after (hits_in cursor index docs))
first-given cursor None after n docs = sym (none-first n)
first-given cursor (Some def) after n docs = gives-is cursor def docs after n

-- the ids of the documents that match rise
pub hits-up : (cursor : StreamCursor) (index : Option IndexDef) (low high : ℕ) (docs : List Doc) → DocsUp low high docs → DocsUp low high (hits_in cursor index docs)
hits-up cursor None low high docs u = tt
hits-up cursor (Some def) low high docs u =
    up-filter doc_id (gives_row cursor (Some def)) low high (found_of cursor.query def docs)
    (up-filter doc_id (holds cursor.query def) low high (filter (member def) docs) (up-filter doc_id (member def) low high docs u))

-- ---- the index that a name finds is that of its serial

serial-low : (low high : ℕ) (indexes : List Defined) (name : List ℕ) (index : Defined) → index_of indexes name ≡ Some index → Up serial_of low high indexes → low ≤ index.def.serial
serial-low low high [] name index is u = absurd (let bad : ⊥ = cc in bad)
serial-low low high (x ∷ indexes) name index is u = pick (bytes_eq name x.def.name) is (λ it. serial-low (x.def.serial + 1) high indexes name index it u.2)
  where
    pick : (b : Bool) → cond b (Some x) (index_of indexes name) ≡ Some index → (index_of indexes name ≡ Some index → x.def.serial + 1 ≤ index.def.serial) → low ≤ index.def.serial
    pick true it again = let same : x ≡ index = cc in subst (λ (i : Defined). low ≤ i.def.serial) same u.0
    pick false it again = omega (arith, u.0, again it)

by-serial : (low high : ℕ) (indexes : List Defined) (name : List ℕ) (index : Defined) → index_of indexes name ≡ Some index → Up serial_of low high indexes
    → find (has_serial index.def.serial) indexes ≡ Some index
by-serial low high [] name index is u = absurd (let bad : ⊥ = cc in bad)
by-serial low high (x ∷ indexes) name index is u = pick (bytes_eq name x.def.name) is (λ it. by-serial (x.def.serial + 1) high indexes name index it u.2)
  where
    pick : (b : Bool) → cond b (Some x) (index_of indexes name) ≡ Some index → (index_of indexes name ≡ Some index → find (has_serial index.def.serial) indexes ≡ Some index)
        → cond (nat_eq x.def.serial index.def.serial) (Some x) (find (has_serial index.def.serial) indexes) ≡ Some index
    pick true it again =
        let same : x ≡ index = cc in
        ap (λ b. cond b (Some x) (find (has_serial index.def.serial) indexes)) (eq-eqb x.def.serial index.def.serial (ap serial_of same)) ∙ ap (λ (i : Defined). Some i) same
    pick false it again =
        let later = serial-low (x.def.serial + 1) high indexes name index it u.2 in
        ap (λ b. cond b (Some x) (find (has_serial index.def.serial) indexes)) (ne_eqb x.def.serial index.def.serial (λ e. absurd (omega (arith, later, e)))) ∙ again it

pub index-is : (number : ℕ) (state : State) (name : List ℕ) (index : Defined) → Sound number state → index_of state.definitions name ≡ Some index → index_in index.def.serial state ≡ Some index.def
index-is number state name index s is = ap (λ (o : Option Defined). Rattle.std.specs.Prelude.option_map def_of o) (by-serial 0 number state.definitions name index is s.serials)
