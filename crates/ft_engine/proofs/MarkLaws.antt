-- By what an index is known to be as it was: where its definition is another one, or a document came to it, its marks differ.
use Rattle.std.specs.Prelude.{◌≡◌, ◌≢◌, ◌<◌, ◌≤◌, ◌+◌, ◌++◌, ◌||◌, ℕ, List, [], ◌∷◌, length, map, nat_eq, Bool, true, false, cond, Some, is_some, refl}
use Rattle.std.specs.List.{list_any}
use Rattle.std.specs.Str.{bytes_eq}
use Rattle.std.proofs.Common.{sym, ap, ◌∙◌, subst, arith}
use Rattle.std.proofs.lemmas.Bool.Decides.{nat_tests}
use Rattle.std.proofs.lemmas.List.{length-map}
use Rattle.std.proofs.lemmas.Slice.Eq.{bytes_eq-Decides}
use Rattle.ft_base.specs.Docs.{Doc}
use Rattle.ft_base.specs.Space.{erase}
use Rattle.ft_base.specs.declared.definition.IndexDef.{IndexDef}
use Rattle.ft_machine.specs.Clean.{all_named, mark_of, marks_of}
use Rattle.ft_machine.specs.Definitions.{Defined, index_of, tried, with_index, without_index}
use Rattle.ft_machine.specs.Machine.{State}
use Rattle.ft_meaning.specs.Member.{member, members}
use Rattle.inverted_list.specs.Listing.{RisesAbove, last_id}

-- the number of fields that the first mark tells, and the ids of its members
abbrev fields_told : List (List ℕ) → ℕ
fields_told [] = 0
fields_told ([] ∷ marks) = 0
fields_told ((serial ∷ []) ∷ marks) = 0
fields_told ((serial ∷ fields ∷ ids) ∷ marks) = fields

abbrev ids_told : List (List ℕ) → List ℕ
ids_told [] = []
ids_told ([] ∷ marks) = []
ids_told ((serial ∷ []) ∷ marks) = []
ids_told ((serial ∷ fields ∷ ids) ∷ marks) = ids

marks-length : (state : State) (name : List ℕ) → length (marks_of state name) ≡ length (all_named name state.definitions)
marks-length state name = length-map (all_named name state.definitions) (mark_of state.space)

named-more : (name : List ℕ) (ds : List Defined) (d : Defined) → bytes_eq name d.def.name ≡ true → length (all_named name (ds ++ d ∷ [])) ≡ length (all_named name ds) + 1
named-more name [] d same = by_test (bytes_eq name d.def.name) same
  where
    by_test : (here : Bool) → here ≡ true → length (cond here (d ∷ []) []) ≡ 0 + 1
    by_test true so = omega arith
    by_test false not_so = cc (not_so)
named-more name (x ∷ ds) d same = by_test (bytes_eq name x.def.name) (named-more name ds d same)
  where
    by_test : (here : Bool) → length (all_named name (ds ++ d ∷ [])) ≡ length (all_named name ds) + 1
        → length (cond here (x ∷ all_named name (ds ++ d ∷ [])) (all_named name (ds ++ d ∷ []))) ≡ length (cond here (x ∷ all_named name ds) (all_named name ds)) + 1
    by_test true more = omega (arith, more)
    by_test false more = more

named-fewer : (name : List ℕ) (ds : List Defined) → is_some (index_of ds name) ≡ true → length (all_named name (without_index ds name)) + 1 ≡ length (all_named name ds)
named-fewer name [] there = cc (there)
named-fewer name (x ∷ ds) there = by_test (bytes_eq name x.def.name) refl there (named-fewer name ds)
  where
    by_test : (here : Bool) → bytes_eq name x.def.name ≡ here → is_some (cond here (Some x) (index_of ds name)) ≡ true
        → (is_some (index_of ds name) ≡ true → length (all_named name (without_index ds name)) + 1 ≡ length (all_named name ds))
        → length (all_named name (cond here ds (x ∷ without_index ds name))) + 1 ≡ length (cond here (x ∷ all_named name ds) (all_named name ds))
    by_test true is there fewer = omega arith
    by_test false is there fewer = rw is (fewer there)

-- lists that begin with one definition and with another go on alike
abbrev BeginWith : Defined → Defined → List Defined → List Defined → Type 0
BeginWith old new olds news = (rest : List Defined) × (olds ≡ old ∷ rest) × (news ≡ new ∷ rest)

named-replaced : (ds : List Defined) (old new : Defined) → index_of ds new.def.name ≡ Some old → BeginWith old new (all_named new.def.name ds) (all_named new.def.name (with_index ds new))
named-replaced [] old new there = cc (there)
named-replaced (x ∷ ds) old new there = by_test (bytes_eq new.def.name x.def.name) refl there (named-replaced ds old new)
  where
    stands : all_named new.def.name (new ∷ ds) ≡ new ∷ all_named new.def.name ds
    stands = rw ((bytes_eq-Decides new.def.name new.def.name).1 refl) refl

    passed : bytes_eq new.def.name x.def.name ≡ false → all_named new.def.name (x ∷ with_index ds new) ≡ all_named new.def.name (with_index ds new)
    passed is = rw is refl

    by_test : (here : Bool) → bytes_eq new.def.name x.def.name ≡ here → cond here (Some x) (index_of ds new.def.name) ≡ Some old
        → (index_of ds new.def.name ≡ Some old → BeginWith old new (all_named new.def.name ds) (all_named new.def.name (with_index ds new)))
        → BeginWith old new (cond here (x ∷ all_named new.def.name ds) (all_named new.def.name ds)) (all_named new.def.name (cond here (new ∷ ds) (x ∷ with_index ds new)))
    by_test true is there later = let same : x ≡ old = cc (there) in (all_named new.def.name ds, ap (λ (d : Defined). d ∷ all_named new.def.name ds) same, stands)
    by_test false is there later = let found = later there in (found.0, found.1, passed is ∙ found.2)

named-tried : (name : List ℕ) (doc : Doc) (ds : List Defined) → all_named name (map (tried doc) ds) ≡ map (tried doc) (all_named name ds)
named-tried name doc [] = refl
named-tried name doc (x ∷ ds) = by_test (bytes_eq name x.def.name) (named-tried name doc ds)
  where
    by_test : (here : Bool) → all_named name (map (tried doc) ds) ≡ map (tried doc) (all_named name ds)
        → cond here (tried doc x ∷ all_named name (map (tried doc) ds)) (all_named name (map (tried doc) ds)) ≡ map (tried doc) (cond here (x ∷ all_named name ds) (all_named name ds))
    by_test true rest = ap (λ (ds : List Defined). tried doc x ∷ ds) rest
    by_test false rest = rest

-- ---- definitions that change

-- an index of the name more
pub more-differ : (name : List ℕ) (old new : State) (d : Defined) → bytes_eq name d.def.name ≡ true → new.definitions ≡ old.definitions ++ d ∷ [] → marks_of old name ≢ marks_of new name
more-differ name old new d same defs marks =
    absurd (omega (arith, ap (λ (ms : List (List ℕ)). length ms) marks, marks-length old name, marks-length new name, ap (λ (ds : List Defined). length (all_named name ds)) defs, named-more name old.definitions d same))

-- one less
pub fewer-differ : (name dropped : List ℕ) (old new : State) → bytes_eq name dropped ≡ true → is_some (index_of old.definitions dropped) ≡ true → new.definitions ≡ without_index old.definitions dropped
    → marks_of old name ≢ marks_of new name
fewer-differ name dropped old new same there defs marks =
    let is : name ≡ dropped = (bytes_eq-Decides name dropped).0 same in
    let here : is_some (index_of old.definitions name) ≡ true = subst (λ (n : List ℕ). is_some (index_of old.definitions n) ≡ true) (sym is) there in
    let left : new.definitions ≡ without_index old.definitions name = subst (λ (n : List ℕ). new.definitions ≡ without_index old.definitions n) (sym is) defs in
    absurd (omega (arith, ap (λ (ms : List (List ℕ)). length ms) marks, marks-length old name, marks-length new name, ap (λ (ds : List Defined). length (all_named name ds)) left, named-fewer name old.definitions here))

-- one with more fields
pub fields-differ : (name : List ℕ) (old new : State) (was d : Defined) → bytes_eq name d.def.name ≡ true → index_of old.definitions d.def.name ≡ Some was → length was.def.fields < length d.def.fields
    → new.definitions ≡ with_index old.definitions d → marks_of old name ≢ marks_of new name
fields-differ name old new was d same there more defs marks =
    let is : name ≡ d.def.name = (bytes_eq-Decides name d.def.name).0 same in
    let both : marks_of old d.def.name ≡ marks_of new d.def.name = subst (λ (n : List ℕ). marks_of old n ≡ marks_of new n) is marks in
    let found = named-replaced old.definitions was d there in
    let before : fields_told (marks_of old d.def.name) ≡ length was.def.fields = ap (λ (ds : List Defined). fields_told (map (mark_of old.space) ds)) found.1 in
    let after : fields_told (marks_of new d.def.name) ≡ length d.def.fields =
    ap (λ (ds : List Defined). fields_told (map (mark_of new.space) (all_named d.def.name ds))) defs ∙ ap (λ (ds : List Defined). fields_told (map (mark_of new.space) ds)) found.2 in
    absurd (omega (arith, more, before, after, ap fields_told both))

-- ---- a document that comes

-- the ids of the members
abbrev pub member_ids : IndexDef → List Doc → List ℕ
member_ids def docs = map (λ (doc : Doc). doc.id) (members def docs)

-- whether a document is among the members, by its id
abbrev has_member : IndexDef → ℕ → List Doc → Bool
has_member def id docs = list_any (nat_eq id) (member_ids def docs)

-- one document more before others takes none away
has-more : (def : IndexDef) (id : ℕ) (x : Doc) (xs : List Doc) → has_member def id xs ≡ true → has_member def id (x ∷ xs) ≡ true
has-more def id x xs has = by_test (member def x)
  where
    or_true : (b c : Bool) → c ≡ true → (b || c) ≡ true
    or_true true c so = refl
    or_true false c so = so

    by_test : (m : Bool) → list_any (nat_eq id) (map (λ (doc : Doc). doc.id) (cond m (x ∷ members def xs) (members def xs))) ≡ true
    by_test true = or_true (nat_eq id x.id) (has_member def id xs) has
    by_test false = has

itself : (n : ℕ) → nat_eq n n ≡ true
itself n = grind (arith, nat_tests)

-- a member that goes last is among them
pub last-has : (def : IndexDef) (doc : Doc) (xs : List Doc) → member def doc ≡ true → has_member def doc.id (xs ++ doc ∷ []) ≡ true
last-has def doc [] is = by_test (member def doc) is
  where
    or_first : (b : Bool) → b ≡ true → (b || false) ≡ true
    or_first true so = refl
    or_first false not_so = cc (not_so)

    by_test : (m : Bool) → m ≡ true → list_any (nat_eq doc.id) (map (λ (d : Doc). d.id) (cond m (doc ∷ []) [])) ≡ true
    by_test true so = or_first (nat_eq doc.id doc.id) (itself doc.id)
    by_test false not_so = cc (not_so)
last-has def doc (x ∷ xs) is = has-more def doc.id x (xs ++ doc ∷ []) (last-has def doc xs is)

-- also once the document of another key is gone
pub erased-has : (def : IndexDef) (doc : Doc) (from : List ℕ) (xs : List Doc) → member def doc ≡ true → bytes_eq from doc.key ≡ false → has_member def doc.id (erase (xs ++ doc ∷ []) from) ≡ true
erased-has def doc from [] is apart = by_test (bytes_eq from doc.key) apart
  where
    by_test : (gone : Bool) → gone ≡ false → has_member def doc.id (cond gone [] (doc ∷ [])) ≡ true
    by_test true not_so = cc (not_so)
    by_test false so = last-has def doc [] is
erased-has def doc from (x ∷ xs) is apart = by_test (bytes_eq from x.key) (erased-has def doc from xs is apart)
  where
    by_test : (gone : Bool) → has_member def doc.id (erase (xs ++ doc ∷ []) from) ≡ true → has_member def doc.id (cond gone (xs ++ doc ∷ []) (x ∷ erase (xs ++ doc ∷ []) from)) ≡ true
    by_test true rest = last-has def doc xs is
    by_test false rest = has-more def doc.id x (erase (xs ++ doc ∷ []) from) rest

low-last : {X : Type 0} (low : ℕ) (rows : List (ℕ × X)) → RisesAbove low rows → low ≤ last_id low rows
low-last low [] rises = omega arith
low-last low (row ∷ rows) rises = omega (arith, rises.0, low-last row.0 rows rises.1)

-- an id above all is not among them
pub none-has : (def : IndexDef) (low n : ℕ) (docs : List Doc) → RisesAbove low (map (λ (doc : Doc). (doc.id, doc.key)) docs) → last_id low (map (λ (doc : Doc). (doc.id, doc.key)) docs) < n → has_member def n docs ≡ false
none-has def low n [] rises below = refl
none-has def low n (x ∷ docs) rises below = by_test (member def x) (none-has def x.id n docs rises.1 below)
  where
    other : nat_eq n x.id ≡ false
    other = let upto : x.id ≤ last_id x.id (map (λ (doc : Doc). (doc.id, doc.key)) docs) = low-last x.id (map (λ (doc : Doc). (doc.id, doc.key)) docs) rises.1 in grind (arith, nat_tests, upto, below)

    or_false : (b c : Bool) → b ≡ false → c ≡ false → (b || c) ≡ false
    or_false true c not_so rest = cc (not_so)
    or_false false c not_so rest = rest

    by_test : (m : Bool) → has_member def n docs ≡ false → list_any (nat_eq n) (map (λ (doc : Doc). doc.id) (cond m (x ∷ members def docs) (members def docs))) ≡ false
    by_test true rest = or_false (nat_eq n x.id) (has_member def n docs) other rest
    by_test false rest = rest

-- the ids that the marks of a name tell first
pub ids-first : (state : State) (name : List ℕ) (d : Defined) (rest : List Defined) → all_named name state.definitions ≡ d ∷ rest → ids_told (marks_of state name) ≡ member_ids d.def state.space
ids-first state name d rest first = ap (λ (ds : List Defined). ids_told (map (mark_of state.space) ds)) first

-- an index to which a document comes is not as it was
pub come-differ : (name : List ℕ) (old new : State) (doc : Doc) (d : Defined) (rest : List Defined) → all_named name old.definitions ≡ d ∷ rest → new.definitions ≡ map (tried doc) old.definitions
    → has_member d.def doc.id new.space ≡ true → has_member d.def doc.id old.space ≡ false → marks_of old name ≢ marks_of new name
come-differ name old new doc d rest first defs there absent marks =
    let second : all_named name new.definitions ≡ tried doc d ∷ map (tried doc) rest =
    ap (all_named name) defs ∙ (named-tried name doc old.definitions ∙ ap (λ (ds : List Defined). map (tried doc) ds) first) in
    let same : member_ids d.def old.space ≡ member_ids d.def new.space =
    sym (ids-first old name d rest first) ∙ (ap ids_told marks ∙ ids-first new name (tried doc d) (map (tried doc) rest) second) in
    let both : true ≡ false = sym there ∙ (ap (λ (ids : List ℕ). list_any (nat_eq doc.id) ids) (sym same) ∙ absent) in
    cc (both)

-- members that are as they were have the ids that they had
pub same-ids : (old new : State) (name : List ℕ) (was is : Defined) (before after : List Defined) → all_named name old.definitions ≡ was ∷ before → all_named name new.definitions ≡ is ∷ after
    → marks_of old name ≡ marks_of new name → member_ids was.def old.space ≡ member_ids is.def new.space
same-ids old new name was is before after first second marks =
    sym (ids-first old name was before first) ∙ (ap ids_told marks ∙ ids-first new name is after second)
