-- Which lists stay: of an index by its name, while documents are prepared and once a change is made.
use Rattle.std.specs.Prelude.{◌≡◌, ◌≢◌, ◌<◌, ◌+◌, ◌++◌, ℕ, zero, suc, Bool, true, false, cond, List, [], ◌∷◌, Option, None, Some, drop, find, length, map, position, slice_index_or, slice_set, take, refl}
use Rattle.std.specs.Option.{option_map}
use Rattle.std.specs.Str.{bytes_eq}
use Rattle.std.proofs.Common.{sym, ap, ◌∙◌, subst, inl, inr}
use Rattle.std.proofs.lemmas.Bool.{cases_Bool}
use Rattle.std.proofs.lemmas.List.{take_at}
use Rattle.std.proofs.lemmas.Slice.Eq.{bytes_eq-Decides}
use Rattle.ft_base.specs.Docs.{Doc}
use Rattle.ft_base.specs.declared.definition.IndexDef.{IndexDef}
use Rattle.ft_index.specs.Fits.{fit_of}
use Rattle.ft_index.specs.Index.{Index, OnlyWaits, commits_as, commits_ready, committed}
use Rattle.ft_index.specs.Lists.{AllLists}
use Rattle.ft_index.specs.declared.ready.Fit.{Fit}
use Rattle.ft_index.specs.declared.ready.Fit.TheVariants.{Member, NoPrefix, Failed}
use Rattle.ft_index.specs.declared.ready.Ready.{Ready}
use Rattle.ft_meaning.specs.Member.{failed, member}
use Rattle.indexed_store.specs.Indexing.{killed, settled}
use Rattle.indexed_store.specs.Listed.{EntersDoc, EntersWaiting, KeepLists, listed, lists_at, unentered}
use Rattle.indexed_store.specs.Named.{is_named, without_named}
use Rattle.indexed_store.proofs.RepairingLaws.{found-at}

-- ---- lists by names

abbrev find_lists : List ℕ → List (List ℕ × AllLists) → Option AllLists
find_lists name [] = None
find_lists name (row ∷ rows) = cond (bytes_eq name row.0) (Some row.1) (find_lists name rows)

at-listed : (name : List ℕ) (xs : List Index) → lists_at name xs ≡ find_lists name (map listed xs)
at-listed name [] = refl
at-listed name (x ∷ xs) = by_test (is_named name x) (at-listed name xs)
  where
    by_test : (here : Bool) → lists_at name xs ≡ find_lists name (map listed xs)
        → option_map (λ (index : Index). index.lists) (cond here (Some x) (find (is_named name) xs)) ≡ cond here (Some x.lists) (find_lists name (map listed xs))
    by_test true rest = refl
    by_test false rest = rest

-- where each index keeps its lists, the one of a name does
pub keep-at : (name : List ℕ) (olds news : List Index) → KeepLists olds news → lists_at name news ≡ lists_at name olds
keep-at name olds news keep = at-listed name news ∙ (ap (find_lists name) keep ∙ sym (at-listed name olds))

-- an index that passes a test, and comes first, passes it
pub found-passes : (p : Index → Bool) (xs : List Index) (x : Index) → find p xs ≡ Some x → p x ≡ true
found-passes p [] x there = cc (there)
found-passes p (y ∷ ys) x there = by_test (p y) refl there (found-passes p ys x)
  where
    by_test : (here : Bool) → p y ≡ here → cond here (Some y) (find p ys) ≡ Some x → (find p ys ≡ Some x → p x ≡ true) → p x ≡ true
    by_test true is there later = let same : y ≡ x = cc (there) in subst (λ (z : Index). p z ≡ true) same is
    by_test false is there later = later there

-- a name is not that of an index of another name
pub other-name : (other name is : List ℕ) → bytes_eq other name ≡ false → bytes_eq name is ≡ true → bytes_eq other is ≡ false
other-name other name is apart same = subst (λ (n : List ℕ). bytes_eq other n ≡ false) ((bytes_eq-Decides name is).0 same) apart

-- another index in the place of one, where neither has the name
set-at : (name : List ℕ) (xs : List Index) (i : ℕ) (d new : Index) → is_named name new ≡ false → is_named name (slice_index_or xs i d) ≡ false → lists_at name (slice_set xs i new) ≡ lists_at name xs
set-at name [] zero d new fresh was = refl
set-at name [] (suc i) d new fresh was = refl
set-at name (x ∷ xs) zero d new fresh was = rw (fresh, was) refl
set-at name (x ∷ xs) (suc i) d new fresh was = by_test (is_named name x) (set-at name xs i d new fresh was)
  where
    by_test : (here : Bool) → lists_at name (slice_set xs i new) ≡ lists_at name xs
        → option_map (λ (index : Index). index.lists) (cond here (Some x) (find (is_named name) (slice_set xs i new))) ≡ option_map (λ (index : Index). index.lists) (cond here (Some x) (find (is_named name) xs))
    by_test true rest = refl
    by_test false rest = rest

-- one in the place of the first of its name leaves the lists of the others
pub placed-others : (xs : List Index) (name other : List ℕ) (i : ℕ) (d new : Index) → position (is_named name) xs ≡ Some i → is_named name new ≡ true → bytes_eq other name ≡ false
    → lists_at other (slice_set xs i new) ≡ lists_at other xs
placed-others xs name other i d new found same apart =
    let was : is_named name (slice_index_or xs i d) ≡ true = found-passes (is_named name) xs (slice_index_or xs i d) (found-at (is_named name) xs i d found) in
    set-at other xs i d new (other-name other name new.def.name apart same) (other-name other name (slice_index_or xs i d).def.name apart was)

-- one goes last
pub more-at : (name : List ℕ) (xs : List Index) (x : Index) → is_named name x ≡ false → lists_at name (xs ++ x ∷ []) ≡ lists_at name xs
more-at name [] x fresh = rw fresh refl
more-at name (y ∷ xs) x fresh = by_test (is_named name y) (more-at name xs x fresh)
  where
    by_test : (here : Bool) → lists_at name (xs ++ x ∷ []) ≡ lists_at name xs
        → option_map (λ (index : Index). index.lists) (cond here (Some y) (find (is_named name) (xs ++ x ∷ []))) ≡ option_map (λ (index : Index). index.lists) (cond here (Some y) (find (is_named name) xs))
    by_test true rest = refl
    by_test false rest = rest

-- one is gone
pub without-at : (xs : List Index) (name other : List ℕ) → bytes_eq other name ≡ false → lists_at other (without_named xs name) ≡ lists_at other xs
without-at [] name other apart = refl
without-at (x ∷ xs) name other apart = elim (cases_Bool (is_named name x)) [
  | inl y ↦ rw (y, other-name other name x.def.name apart y) refl
  | inr n ↦ rw n (by_test (is_named other x) (without-at xs name other apart))
]
  where
    by_test : (here : Bool) → lists_at other (without_named xs name) ≡ lists_at other xs
        → option_map (λ (index : Index). index.lists) (cond here (Some x) (find (is_named other) (without_named xs name))) ≡ option_map (λ (index : Index). index.lists) (cond here (Some x) (find (is_named other) xs))
    by_test true rest = refl
    by_test false rest = rest

-- ---- each index keeps its lists

keep-mapped : (f : Index → Index) (xs : List Index) → ((x : Index) → listed (f x) ≡ listed x) → KeepLists xs (map f xs)
keep-mapped f [] same = refl
keep-mapped f (x ∷ xs) same = ap (λ (rest : List (List ℕ × AllLists)). listed (f x) ∷ rest) (keep-mapped f xs same) ∙ ap (λ (first : List ℕ × AllLists). first ∷ map listed xs) (same x)

committed-listed : (index : Index) → listed (committed index) ≡ listed index
committed-listed index = by_waits index.waits
  where
    by_fit : (fit : Fit) → listed (commits_as fit (record index { waits = None })) ≡ listed index
    by_fit Member = refl
    by_fit NoPrefix = refl
    by_fit Failed = refl

    by_waits : (waits : Option Ready) → listed (commits_ready waits index) ≡ listed index
    by_waits None = refl
    by_waits (Some ready) = by_fit ready.fit

settled-listed : (replaced : Option ℕ) (index : Index) → listed (settled replaced index) ≡ listed index
settled-listed None index = committed-listed index
settled-listed (Some id) index = committed-listed index

pub keep-settled : (replaced : Option ℕ) (xs : List Index) → KeepLists xs (map (settled replaced) xs)
keep-settled replaced xs = keep-mapped (settled replaced) xs (settled-listed replaced)

pub keep-killed : (id : ℕ) (xs : List Index) → KeepLists xs (map (killed (Some id)) xs)
keep-killed id xs = keep-mapped (killed (Some id)) xs (λ x. refl)

-- the indexes as they come back from being lent
pub lent-lists : (olds lent items now : List Index) (len : ℕ) → length now ≡ len → lent ≡ olds → KeepLists lent now → KeepLists olds (take len (now ++ drop (length now) items))
lent-lists olds lent items now len whole same keep =
    subst (KeepLists olds) (sym (take_at now (drop (length now) items) len whole)) (subst (λ (xs : List Index). KeepLists xs now) same keep)

-- ---- a document is entered

not-member : (def : IndexDef) (doc : Doc) → member def doc ≡ false → fit_of def doc ≢ Member
not-member def doc apart is = by_test (failed def doc) (sym (ap (λ (m : Bool). cond m Member (cond (failed def doc) Failed NoPrefix)) apart) ∙ is)
  where
    by_test : (fails : Bool) → cond fails Failed NoPrefix ≢ Member
    by_test true e = cc (e)
    by_test false e = cc (e)

-- an index that tried a document
pub entered-one : (doc : Doc) (ready : Ready) (old new : Index) → new.def ≡ old.def → ready ≡ record { id = doc.id; fit = fit_of old.def doc } → OnlyWaits ready old new → unentered doc new ≡ unentered doc old
entered-one doc ready old new def is others =
    ap (λ (d : IndexDef). (d.name, cond (member d doc) None (Some new.lists))) def ∙ ap (λ (lists : Option AllLists). (old.def.name, lists)) (by_member (member old.def doc) refl)
  where
    by_member : (m : Bool) → member old.def doc ≡ m → cond m None (Some new.lists) ≡ cond m None (Some old.lists)
    by_member true is_one = refl
    by_member false none =
        let apart : ready.fit ≢ Member = λ e. not-member old.def doc none (sym (ap (λ (r : Ready). r.fit) is) ∙ e) in
        ap (λ (index : Index). Some index.lists) (others apart)

-- a document that waits
pub enters-waiting : (doc : Doc) (waits : Option Doc) (olds news : List Index) → waits ≡ Some doc → EntersDoc doc olds news → EntersWaiting waits olds news
enters-waiting doc waits olds news is enters = subst (λ (w : Option Doc). EntersWaiting w olds news) (sym is) enters

pub lent-enters : (doc : Doc) (olds lent items now : List Index) (len : ℕ) → length now ≡ len → lent ≡ olds → EntersDoc doc lent now → EntersDoc doc olds (take len (now ++ drop (length now) items))
lent-enters doc olds lent items now len whole same enters =
    subst (EntersDoc doc olds) (sym (take_at now (drop (length now) items) len whole)) (subst (λ (xs : List Index). EntersDoc doc xs now) same enters)

abbrev find_unentered : List ℕ → List (List ℕ × Option AllLists) → Option (Option AllLists)
find_unentered name [] = None
find_unentered name (row ∷ rows) = cond (bytes_eq name row.0) (Some row.1) (find_unentered name rows)

-- the lists of an index, unless a document is entered into them
abbrev unless_entered : Doc → Index → Option AllLists
unless_entered doc index = cond (member index.def doc) None (Some index.lists)

at-unentered : (doc : Doc) (name : List ℕ) (xs : List Index) → option_map (unless_entered doc) (find (is_named name) xs) ≡ find_unentered name (map (unentered doc) xs)
at-unentered doc name [] = refl
at-unentered doc name (x ∷ xs) = by_test (is_named name x) (at-unentered doc name xs)
  where
    by_test : (here : Bool) → option_map (unless_entered doc) (find (is_named name) xs) ≡ find_unentered name (map (unentered doc) xs)
        → option_map (unless_entered doc) (cond here (Some x) (find (is_named name) xs)) ≡ cond here (Some (unless_entered doc x)) (find_unentered name (map (unentered doc) xs))
    by_test true rest = refl
    by_test false rest = rest

-- an index of which a document is no member keeps its lists when that is entered
pub entered-at : (doc : Doc) (name : List ℕ) (olds news : List Index) → EntersDoc doc olds news → ((index : Index) → find (is_named name) news ≡ Some index → member index.def doc ≡ false)
    → lists_at name news ≡ lists_at name olds
entered-at doc name olds news enters apart =
    by_found (find (is_named name) news) (find (is_named name) olds) (at-unentered doc name news ∙ (ap (find_unentered name) enters ∙ sym (at-unentered doc name olds))) apart
  where
    by_member : (m n : Bool) (new old : AllLists) → m ≡ false → Some (cond m None (Some new)) ≡ Some (cond n None (Some old)) → Some new ≡ Some old
    by_member true n new old none same = cc (none)
    by_member false true new old none same = cc (same)
    by_member false false new old none same = cc (same)

    by_found : (new old : Option Index) → option_map (unless_entered doc) new ≡ option_map (unless_entered doc) old → ((index : Index) → new ≡ Some index → member index.def doc ≡ false)
        → option_map (λ (index : Index). index.lists) new ≡ option_map (λ (index : Index). index.lists) old
    by_found None None same apart = refl
    by_found None (Some old) same apart = cc (same)
    by_found (Some new) None same apart = cc (same)
    by_found (Some new) (Some old) same apart = by_member (member new.def doc) (member old.def doc) new.lists old.lists (apart new refl) same
