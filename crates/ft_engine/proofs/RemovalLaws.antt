-- What DEL and FLUSHALL give.
use Rattle.std.proofs.Common.{◌≡◌, ◌≢◌, ◌<◌, ◌+◌, ℕ, List, [], length, refl, sym, ap, ◌∙◌, subst, arith, inl, inr}
use Rattle.std.specs.Prelude.{◌-◌, pos, codes, drop, ◌⊎◌}
use Rattle.cmd_parse.specs.Read.{Plain}
use Rattle.cmd_parse.specs.declared.command.Verb.TheVariants.{Del, Flushall}
use Rattle.ft_base.specs.Reply.{spelling}
use Rattle.ft_base.specs.Docs.{Doc}
use Rattle.ft_base.specs.declared.reply.Reply.TheVariants.{Line, Number}
use Rattle.ft_machine.specs.Definitions.{Defined, without_keys}
use Rattle.ft_machine.specs.Machine.{State}
use Rattle.ft_machine.specs.Step.{Does}
use Rattle.ft_machine.specs.Writes.{del}
use Rattle.ft_machine.proofs.Stepping.{gives}
use Rattle.indexed_store.proofs.MovingLaws.{moves_same}
use Rattle.indexed_store.specs.DefinitionsOf.{definitions_of}
use Rattle.indexed_store.specs.Holding.{Holding, state_of}
use Rattle.indexed_store.specs.Preparing.{Prepares, Stays}
use Rattle.indexed_store.specs.declared.change.Change.TheVariants.{CloseCursors, EraseKeys, Flush}

-- DEL of keys that have no documents
pub deleted-nothing : (keys : List (List ℕ)) (number count : ℕ) (state : State) (written : List ℕ) (docs : List Doc) → state.space ≡ docs → count ≡ 0 → without_keys docs keys ≡ docs
    → written ≡ spelling (Number (pos count)) → Does (Plain Del keys) number state written state
deleted-nothing keys number count state written docs same none whole said =
    let left : without_keys state.space keys ≡ state.space = ap (λ (docs : List Doc). without_keys docs keys) same ∙ (whole ∙ sym same) in
    let nothing : count ≡ length state.space - length (without_keys state.space keys) = omega (arith, none, ap (λ (docs : List Doc). length docs) left) in
    gives (Plain Del keys) number state (del keys state) written state refl
    (said ∙ ap (λ (n : ℕ). spelling (Number (pos n))) nothing) (ap (λ (docs : List Doc). record state { space = docs }) (sym left))

-- DEL of keys that have some
deleted-some : (keys : List (List ℕ)) (number count : ℕ) (state : State) (written : List ℕ) (docs : List Doc) → state.space ≡ docs
    → count + length (without_keys docs keys) ≡ length docs → written ≡ spelling (Number (pos count)) → Does (Plain Del keys) number state written (record state { space = without_keys state.space keys })
deleted-some keys number count state written docs same counted said =
    let many : count ≡ length state.space - length (without_keys state.space keys) = omega (arith, counted, ap (λ (docs : List Doc). length (without_keys docs keys)) same, ap (λ (docs : List Doc). length docs) same) in
    gives (Plain Del keys) number state (del keys state) written (record state { space = without_keys state.space keys }) refl
    (said ∙ ap (λ (n : ℕ). spelling (Number (pos n))) many) refl

-- FLUSHALL
flushed : (args : List (List ℕ)) (number : ℕ) (state : State) (written : List ℕ) → written ≡ spelling (Line (codes "OK"))
    → Does (Plain Flushall args) number state written (record state { space = []; definitions = []; cursors = [] })
flushed args number state written said =
    let after : State = record state { space = []; definitions = []; cursors = [] } in
    gives (Plain Flushall args) number state (record { reply = Line (codes "OK"); after = after }) written after refl said refl

-- FLUSHALL where there are cursors at most
closed : (args : List (List ℕ)) (number : ℕ) (state : State) (written : List ℕ) → state.space ≡ [] → state.definitions ≡ [] → written ≡ spelling (Line (codes "OK"))
    → Does (Plain Flushall args) number state written (record state { cursors = [] })
closed args number state written none nothing said =
    gives (Plain Flushall args) number state (record { reply = Line (codes "OK"); after = record state { space = []; definitions = []; cursors = [] } }) written (record state { cursors = [] }) refl
    said
    (ap (λ (docs : List Doc). record state { space = docs; cursors = [] }) none
    ∙ ap (λ (defs : List Defined). record state { space = []; definitions = defs; cursors = [] }) nothing)

-- what is the same is not seen
unseen : (held : Holding) → Stays held held
unseen held = record { space = refl; definitions = refl; cursors = refl; latest = refl; next = omega arith; moves = moves_same held.next held.indexes }

-- DEL of keys that have some documents
pub del-prepares : (args rest : List (List ℕ)) (old new : Holding) (said : List ℕ) (count : ℕ) → rest ≡ drop 0 args → new ≡ old → count + length (without_keys old.space args) ≡ length old.space → count ≢ 0
    → said ≡ spelling (Number (pos count)) → Prepares (Plain Del args) old new said (EraseKeys rest)
del-prepares args rest old new said count keys same counted some is =
    subst (λ (held : Holding). Prepares (Plain Del args) old held said (EraseKeys rest)) (sym same)
    (subst (λ (words : List (List ℕ)). Prepares (Plain Del args) old old said (EraseKeys words)) (sym keys) whole)
  where
    whole : Prepares (Plain Del args) old old said (EraseKeys args)
    whole = record {
      does = deleted-some args old.next count (state_of old) said old.space refl counted is;
      stays = unseen old;
      ready = omega (arith, counted, some);
      enters = inr (inl refl);
    }

-- FLUSHALL of something
pub flush-prepares : (args : List (List ℕ)) (held : Holding) (said : List ℕ) → said ≡ spelling (Line (codes "OK")) → (0 < length held.space) ⊎ (0 < length held.indexes) → Prepares (Plain Flushall args) held held said Flush
flush-prepares args held said is some = record {
  does = flushed args held.next (state_of held) said is;
  stays = unseen held;
  ready = some;
  enters = inr (inl refl);
}

-- FLUSHALL where there are cursors at most
pub close-prepares : (args : List (List ℕ)) (held : Holding) (said : List ℕ) → said ≡ spelling (Line (codes "OK")) → held.space ≡ [] → definitions_of held.indexes ≡ [] → Prepares (Plain Flushall args) held held said CloseCursors
close-prepares args held said is none nothing = record {
  does = closed args held.next (state_of held) said none nothing is;
  stays = unseen held;
  ready = tt;
  enters = inr (inl refl);
}
