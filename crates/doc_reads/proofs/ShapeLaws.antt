-- A shape shows what the search asks that it is of, in the order that the search asks for, and what it shows fits the wire.
use Rattle.std.proofs.Common.{◌≡◌, ℕ, Bool, true, false, List, [], ◌∷◌, ◌++◌, length, map, take, drop, Option, None, Some, cond, ◌||◌, refl, sym, ap, ◌∙◌}
use Rattle.std.specs.Prelude.{pos, IsTrue, option_map, not, if◌then◌else◌}
use Rattle.std.specs.List.{find, flat_map, list_all, list_any}
use Rattle.std.specs.Str.{bytes_eq}
use Rattle.std.proofs.lemmas.List.Folds.{flat_map-map, list_all-map}
use Rattle.cmd_parse.specs.Options.{Sort}
use Rattle.cmd_parse.specs.Searching.{Searching}
use Rattle.ft_base.specs.Hash.{Hash, get_field}
use Rattle.ft_base.specs.Kinds.{is_numeric}
use Rattle.ft_base.specs.Reply.{fits_wire}
use Rattle.ft_base.specs.declared.definition.Field.{Field}
use Rattle.ft_base.specs.declared.definition.IndexDef.{IndexDef}
use Rattle.ft_base.specs.Docs.{Doc}
use Rattle.ft_base.specs.declared.reply.Reply.{Reply}
use Rattle.ft_base.specs.declared.reply.Reply.TheVariants.{Array, Bulk, Number}
use Rattle.ft_base.proofs.RepliesLaws.{fits-Array, fits-Bulk, fits-Number, in_turn-fits}
use Rattle.ft_machine.specs.Counted.{in_order, in_order_by, in_order_of, seen_by}
use Rattle.ft_machine.specs.Shown.{fields_shown, found_reply, row_of, with_value}
use Rattle.row_sort.specs.Order.{value_order}
use Rattle.row_sort.specs.Sorting.{sorted}
use Rattle.row_sort.proofs.SortingLaws.{length-sorted}
use Rattle.row_sort.specs.declared.order.Direction.{Direction}
use Rattle.doc_reads.specs.Shapes.{IsShapeOf, SortsBy, fields_by, fields_with, key_for, key_of_field, key_seen, order_by, page_by, pair_of, resolved, row_by, shown_in, value_seen}
use Rattle.doc_reads.specs.declared.shape.Shape.{Shape}
use Rattle.doc_reads.specs.declared.shape.ShownField.{ShownField}
use Rattle.doc_reads.specs.declared.shape.SortKey.{SortKey}

-- ---- the fields that are shown

-- a name as it was given, and the value of the field that it stands for
abbrev pub pair_in : Hash → List ℕ × List ℕ → List Reply
pair_in hash pair = with_value pair.0 (get_field hash pair.1)

named-same : (fields : List Field) (hash : Hash) (shown : List ShownField) (names : List (List ℕ)) → map pair_of shown ≡ map (resolved fields) names
    → flat_map (shown_in hash) shown ≡ fields_shown (Some names) fields hash
named-same fields hash shown names same =
    sym (flat_map-map (pair_in hash) pair_of shown) ∙ (ap (flat_map (pair_in hash)) same ∙ flat_map-map (pair_in hash) (resolved fields) names)

fields-same : {V : Type 0} (items : V → List ShownField) (fields : List Field) (hash : Hash) (held : Option V) (names : Option (List (List ℕ)))
    → option_map (λ (v : V). map pair_of (items v)) held ≡ option_map (map (resolved fields)) names
    → fields_with (option_map items held) hash ≡ fields_shown names fields hash
fields-same items fields hash None None same = refl
fields-same items fields hash None (Some names) same = absurd cc
fields-same items fields hash (Some v) None same = absurd cc
fields-same items fields hash (Some v) (Some names) same = named-same fields hash (items v) names cc

-- a document
pub row-same : (what : Searching) (def : IndexDef) (shape : Shape) (doc : Doc) → IsShapeOf what def shape → row_by shape doc ≡ row_of what def doc
row-same what def shape doc s =
    let fields : fields_by shape doc.hash ≡ fields_shown what.fields def.fields doc.hash = fields-same (λ shown. shown.items) def.fields doc.hash shape.fields what.fields s.fields in
    rw (s.no_content, fields)

-- the page
pub page-same : (what : Searching) (def : IndexDef) (shape : Shape) (docs : List Doc) → IsShapeOf what def shape → page_by shape docs ≡ found_reply what def docs
page-same what def shape docs s = λ i.
    Array (Number (pos (length docs)) ∷ flat_map (λ (doc : Doc). row-same what def shape doc s i) (take (s.num i) (drop (s.offset i) docs)))

-- ---- the order

-- documents in the order of what a key sees
abbrev pub order_seen : List ℕ × (Bool × Direction) → List Doc → List Doc
order_seen key docs =
    sorted (λ (left right : Doc). value_order key.1.1 (value_seen key.1.0 (get_field left.hash key.0)) (value_seen key.1.0 (get_field right.hash key.0))) docs

seen-same : (field : Field) (text : Option (List ℕ)) → value_seen (is_numeric field.kind) text ≡ seen_by field text
seen-same field None = refl
seen-same field (Some text) = refl

field-order : (field : Field) (descending : Bool) (docs : List Doc) → order_seen (key_of_field descending field) docs ≡ in_order_of field descending docs
field-order field descending docs = λ i.
    sorted (λ (left right : Doc). value_order (record { descending = descending; lower = not field.unf })
    (seen-same field (get_field left.hash field.name) i) (seen-same field (get_field right.hash field.name) i)) docs

found-order : (found : Option Field) (key : List ℕ × (Bool × Direction)) (descending : Bool) (docs : List Doc) → option_map (key_of_field descending) found ≡ Some key
    → order_seen key docs ≡ in_order_by found descending docs
found-order None key descending docs same = absurd cc
found-order (Some field) key descending docs same =
    let is : key ≡ key_of_field descending field = cc in
    ap (λ k. order_seen k docs) is ∙ field-order field descending docs

seen-order : (sort : Option Sort) (def : IndexDef) (key : List ℕ × (Bool × Direction)) (docs : List Doc) → key_for sort def.fields ≡ Some key → order_seen key docs ≡ in_order sort def docs
seen-order None def key docs same = absurd cc
seen-order (Some sort) def key docs same = found-order (find (λ (field : Field). bytes_eq sort.field field.alias) def.fields) key sort.descending docs same

-- the documents in the order of a shape's key
pub order-same : (what : Searching) (def : IndexDef) (shape : Shape) (key : SortKey) (docs : List Doc) → IsShapeOf what def shape → shape.sort ≡ Some key
    → order_by key docs ≡ in_order what.sort def docs
order-same what def shape key docs s is = seen-order what.sort def (key_seen key) docs (sym s.sort ∙ ap (option_map key_seen) is)

none-found : {X Y : Type 0} (f : X → Y) (p : X → Bool) (xs : List X) → option_map f (find p xs) ≡ None → list_any p xs ≡ false
none-found f p [] none = refl
none-found f p (x ∷ xs) none = none-first (p x) none (none-found f p xs) where
  none-first : (b : Bool) → option_map f (cond b (Some x) (find p xs)) ≡ None → (option_map f (find p xs) ≡ None → list_any p xs ≡ false)
      → (b || list_any p xs) ≡ false
  none-first true none rest = absurd cc
  none-first false none rest = rest none

unsorted-seen : (what : Searching) (fields : List Field) (sort : Option Sort) → key_for sort fields ≡ None → what.sort ≡ sort → SortsBy fields what → sort ≡ None
unsorted-seen what fields None none is known = refl
unsorted-seen what fields (Some sort) none is known = absurd (cc (none-found (key_of_field sort.descending) (λ (field : Field). bytes_eq sort.field field.alias) fields none, known.known sort is))

-- A shape without a key is of a search that is not sorted.
pub unsorted : (what : Searching) (def : IndexDef) (shape : Shape) → IsShapeOf what def shape → shape.sort ≡ None → SortsBy def.fields what → what.sort ≡ None
unsorted what def shape s none known = unsorted-seen what def.fields what.sort (sym s.sort ∙ ap (option_map key_seen) none) refl known

-- as many documents as before
pub order-length : (key : SortKey) (docs : List Doc) → length (order_by key docs) ≡ length docs
order-length key docs = length-sorted _ docs

found-length : (found : Option Field) (descending : Bool) (docs : List Doc) → length (in_order_by found descending docs) ≡ length docs
found-length None descending docs = refl
found-length (Some field) descending docs = length-sorted _ docs

in_order-length : (sort : Option Sort) (def : IndexDef) (docs : List Doc) → length (in_order sort def docs) ≡ length docs
in_order-length None def docs = refl
in_order-length (Some sort) def docs = found-length (find (λ (field : Field). bytes_eq sort.field field.alias) def.fields) sort.descending docs

-- ---- the page in the order that the search asks for

-- of a shape with a key
pub sorted-page : (what : Searching) (def : IndexDef) (shape : Shape) (key : SortKey) (docs : List Doc) → IsShapeOf what def shape → shape.sort ≡ Some key
    → page_by shape (order_by key docs) ≡ found_reply what def (in_order what.sort def docs)
sorted-page what def shape key docs s is =
    page-same what def shape (order_by key docs) s ∙ ap (found_reply what def) (order-same what def shape key docs s is)

-- of one without
pub unsorted-page : (what : Searching) (def : IndexDef) (shape : Shape) (docs : List Doc) → IsShapeOf what def shape → shape.sort ≡ None → SortsBy def.fields what
    → page_by shape docs ≡ found_reply what def (in_order what.sort def docs)
unsorted-page what def shape docs s none known =
    page-same what def shape docs s ∙ ap (λ (sort : Option Sort). found_reply what def (in_order sort def docs)) (sym (unsorted what def shape s none known))

-- of one that shows no row, whatever the order
pub unseen-page : (what : Searching) (def : IndexDef) (shape : Shape) (docs : List Doc) → IsShapeOf what def shape → shape.num ≡ 0
    → page_by shape docs ≡ found_reply what def (in_order what.sort def docs)
unseen-page what def shape docs s none =
    let num : what.num ≡ 0 = sym s.num ∙ none in
    page-same what def shape docs s ∙ rw (num, in_order-length what.sort def docs) refl

-- ---- the wire

value-fits : (name : List ℕ) (value : Option (List ℕ)) (rest : List Reply) → list_all (λ r. fits_wire r) rest ≡ true → list_all (λ r. fits_wire r) (with_value name value ++ rest) ≡ true
value-fits name None rest each = each
value-fits name (Some text) rest each = rw (fits-Bulk name, fits-Bulk text) each

named-fit : (hash : Hash) (shown : List ShownField) → list_all (λ r. fits_wire r) (flat_map (shown_in hash) shown) ≡ true
named-fit hash [] = refl
named-fit hash (field ∷ shown) = value-fits field.name.now (get_field hash field.field.now) _ (named-fit hash shown)

fits-all : (replies : List Reply) → list_all (λ r. fits_wire r) replies ≡ true → fits_wire (Array replies) ≡ true
fits-all replies each = fits-Array replies ∙ (list_all-map (λ (fits : Bool). fits) fits_wire replies ∙ each)

fields-fit : (fields : Option (List ShownField)) (hash : Hash) → fits_wire (Array (fields_with fields hash)) ≡ true
fields-fit None hash = in_turn-fits hash
fields-fit (Some fields) hash = fits-all _ (named-fit hash fields)

row-fits : (no_content : Bool) (key : List ℕ) (fields rest : List Reply) → fits_wire (Array fields) ≡ true → list_all (λ r. fits_wire r) rest ≡ true
    → list_all (λ r. fits_wire r) ((Bulk key ∷ (if no_content then [] else Array fields ∷ [])) ++ rest) ≡ true
row-fits true key fields rest shown each = rw (fits-Bulk key) each
row-fits false key fields rest shown each = rw (fits-Bulk key, shown) each

rows-fit : (shape : Shape) (docs : List Doc) → list_all (λ r. fits_wire r) (flat_map (row_by shape) docs) ≡ true
rows-fit shape [] = refl
rows-fit shape (doc ∷ docs) = row-fits shape.no_content doc.key (fields_by shape doc.hash) _ (fields-fit _ doc.hash) (rows-fit shape docs)

-- what is shown fits the wire
pub page-fits : (shape : Shape) (docs : List Doc) → IsTrue (fits_wire (page_by shape docs))
page-fits shape docs =
    fits-all _ (rw (fits-Number (pos (length docs))) (rows-fit shape (take shape.num (drop shape.offset docs))))
