-- Indexes that move: what each change does to them, and one change after another.
use Rattle.std.specs.Prelude.{◌≡◌, ◌<◌, ◌≤◌, ◌+◌, ◌⊎◌, ℕ, List, [], ◌∷◌, ◌++◌, Option, None, Some, IfSome, length, map, take, drop, slice_index_or, slice_set}
use Rattle.std.specs.List.{All}
use Rattle.std.proofs.Common.{sym, subst, inl, inr, arith}
use Rattle.std.proofs.lemmas.List.{take_at}
use Rattle.std.proofs.lemmas.List.Elements.{All-contains, All-map, All-nil, All-push, Contains-get_or}
use Rattle.ft_base.specs.Docs.{Doc}
use Rattle.ft_index.specs.Coming.{Came, IsFresh}
use Rattle.ft_index.specs.Index.{Index, committed}
use Rattle.ft_index.specs.declared.ready.Ready.{Ready}
use Rattle.ft_index.proofs.ComingLaws.{came-again, came-committed, came-killed, came-same, fresh-came}
use Rattle.indexed_store.specs.Indexing.{killed, settled}
use Rattle.indexed_store.specs.Moving.{CameFrom, IndexesMove}
use Rattle.indexed_store.specs.Named.{without_named}
use Rattle.indexed_store.specs.Standing.{AreOfEvent, IndexStands, markers_at}
use Rattle.indexed_store.specs.Writing.{Waits}
use Rattle.indexed_store.proofs.IndexingLaws.{all-set}
use Rattle.indexed_store.proofs.NamedLaws.{others-have}

pub moves_same : (event : ℕ) (xs : List Index) → IndexesMove event xs xs
moves_same event xs k d short = inl (record { old = slice_index_or xs k d; there = Contains-get_or xs k d short; came = came-same event (slice_index_or xs k d) })

pub moves-kept : (event : ℕ) (olds news : List Index) → news ≡ olds → IndexesMove event olds news
moves-kept event olds news same = subst (IndexesMove event olds) (sym same) (moves_same event olds)

pub moves-again : (early late : ℕ) (a b c : List Index) → early ≤ late → IndexesMove early a b → IndexesMove late b c → IndexesMove early a c
moves-again early late a b c h f g k d short = elim (g k d short) [
  | inl second ↦ elim (All-contains (λ (x : Index). CameFrom early a x ⊎ IsFresh early x) b second.old f second.there) [
    | inl first ↦ inl (record { old = first.old; there = first.there; came = came-again early late first.old second.old (slice_index_or c k d) h first.came second.came })
    | inr fresh ↦ inr (fresh-came early late second.old (slice_index_or c k d) h second.came fresh)
  ]
  | inr fresh ↦ inr (λ marker has. omega (arith, h, fresh marker has))
]

-- each index becomes another
pub moves-mapped : (event : ℕ) (f : Index → Index) (xs : List Index) → ((k : ℕ) (d : Index) → k < length xs → Came event (slice_index_or xs k d) (f (slice_index_or xs k d))) → IndexesMove event xs (map f xs)
moves-mapped event f xs each = All-map (λ (x : Index). CameFrom event xs x ⊎ IsFresh event x) f xs
    (λ k d short. inl (record { old = slice_index_or xs k d; there = Contains-get_or xs k d short; came = each k d short }))

pub moves-killed : (event : ℕ) (id : ℕ) (xs : List Index) → IndexesMove event xs (map (killed (Some id)) xs)
moves-killed event id xs = moves-mapped event (killed (Some id)) xs (λ k d short. came-killed event id (slice_index_or xs k d))

came-settled : (event : ℕ) (replaced : Option ℕ) (index : Index) → Came event index (committed index) → Came event index (settled replaced index)
came-settled event None index came = came
came-settled event (Some id) index came = came-again event event index (committed index) (settled (Some id) index) (omega arith) came (came-killed event id (committed index))

-- the document that waits is written
pub moves-settled : (put number : ℕ) (space : List Doc) (waits : Option Doc) (replaced : Option ℕ) (xs : List Index) → Waits put number space xs waits
    → All (IndexStands space (number + 1) (markers_at (number + 1))) xs → IndexesMove number xs (map (settled replaced) xs)
moves-settled put number space None replaced xs waiting stand = absurd waiting
moves-settled put number space (Some doc) replaced xs waiting stand = moves-mapped number (settled replaced) xs (λ k d short.
    let index = slice_index_or xs k d in
    let late : IfSome index.waits (λ ready. number ≤ ready.id) = subst (λ (w : Option Ready). IfSome w (λ ready. number ≤ ready.id)) (sym (waiting.awaits k d short).waits) (omega (arith, waiting.id)) in
    came-settled number replaced index (came-committed number index (stand k d short).sound.waits late))

-- one index becomes another
pub moves-one : (event : ℕ) (xs : List Index) (i : ℕ) (d new : Index) → i < length xs → Came event (slice_index_or xs i d) new → IndexesMove event xs (slice_set xs i new)
moves-one event xs i d new within came =
    all-set (λ x. CameFrom event xs x ⊎ IsFresh event x) xs i new within (inl (record { old = slice_index_or xs i d; there = Contains-get_or xs i d within; came = came }))
    (λ k d' apart short. moves_same event xs k d' short)

-- one is made in the event, in the place of another
pub moves-placed : (event : ℕ) (xs : List Index) (i : ℕ) (new : Index) → i < length xs → IsFresh event new → IndexesMove event xs (slice_set xs i new)
moves-placed event xs i new within fresh =
    all-set (λ x. CameFrom event xs x ⊎ IsFresh event x) xs i new within (inr fresh) (λ k d apart short. moves_same event xs k d short)

-- or behind the others
pub moves-more : (event : ℕ) (xs : List Index) (new : Index) → IsFresh event new → IndexesMove event xs (xs ++ new ∷ [])
moves-more event xs new fresh = All-push (λ (x : Index). CameFrom event xs x ⊎ IsFresh event x) xs new (moves_same event xs) (inr fresh)

-- one is gone
pub moves-others : (event : ℕ) (xs : List Index) (name : List ℕ) → IndexesMove event xs (without_named xs name)
moves-others event xs name = others-have (λ x. CameFrom event xs x ⊎ IsFresh event x) xs name (moves_same event xs)

pub moves-none : (event : ℕ) (xs : List Index) → IndexesMove event xs []
moves-none event xs = All-nil (λ (x : Index). CameFrom event xs x ⊎ IsFresh event x)

pub fresh-of : (event : ℕ) (index : Index) → AreOfEvent event index → IsFresh event index
fresh-of event index given marker has = omega (arith, given marker has)

-- the indexes as they come back from being lent
pub moves-whole : (event : ℕ) (olds lent items now : List Index) (len : ℕ) → length now ≡ len → lent ≡ olds → IndexesMove event lent now → IndexesMove event olds (take len (now ++ drop (length now) items))
moves-whole event olds lent items now len whole same moves =
    subst (IndexesMove event olds) (sym (take_at now (drop (length now) items) len whole)) (subst (λ (xs : List Index). IndexesMove event xs now) same moves)
