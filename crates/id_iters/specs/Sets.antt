-- Which ids an iterator has. They are told of all numbers; a seek answers those that are live.
use Rattle.std.specs.Prelude.{ℕ, ◌+◌, Bool, true, false, not, ◌&&◌, List, [], ◌∷◌, max}
use Rattle.std.specs.List.{list_any, list_all}
use Rattle.id_iters.specs.Held.{Held}
use Rattle.id_iters.specs.Leaves.{leaf_has, phrase_ids}
use Rattle.id_iters.specs.declared.iter.Ahead.{Ahead}
use Rattle.id_iters.specs.declared.iter.Iter.{Iter}
use Rattle.id_iters.specs.declared.iter.Iter.TheFolds.{fold-Iter, fold-Ahead}
use Rattle.id_iters.specs.declared.iter.Iter.TheOpen as layer

-- what never changes of an iterator: which ids it has, and how deep it is
pub record About : Type 0 where
  pub has : ℕ → Bool
  pub depth : ℕ

-- the depth of the deepest part
abbrev pub deepest : List About → ℕ
deepest [] = 0
deepest (part ∷ parts) = max part.depth (deepest parts)

-- whether every part has an id
abbrev pub all_have : List About → ℕ → Bool
all_have parts id = list_all (λ part. part.has id) parts

-- whether some part has an id
abbrev pub any_has : List About → ℕ → Bool
any_has parts id = list_any (λ part. part.has id) parts

-- the live ids of a set
abbrev pub living : (ℕ → Bool) → About → ℕ → Bool
living live part id = live id && part.has id

-- a part that keeps its last answer has the ids that it has without
abbrev pub ahead_step : layer.Ahead-F About About → About
ahead_step part = part.iter

module _ (held : Held) where
  -- what an iterator has, by what its parts have
  abbrev pub set_step : layer.Iter-F About About → About
  set_step (layer.Leaf leaf) = record { has = leaf_has held leaf; depth = 1 }
  set_step (layer.And parts) = record { has = all_have parts; depth = 1 + deepest parts }
  set_step (layer.Or parts stretch) = record { has = any_has parts; depth = 1 + deepest parts }
  set_step (layer.Not part) = record { has = λ id. not (part.value.has id); depth = 1 + part.value.depth }
  set_step (layer.Optional part) = record { has = λ id. true; depth = 1 + part.value.depth }
  set_step layer.All = record { has = λ id. true; depth = 1 }
  set_step (layer.Phrase phrase) = record { has = phrase_ids held phrase; depth = 1 }
  set_step layer.Empty = record { has = λ id. false; depth = 1 }

  abbrev pub about : Iter → About
  about = fold-Iter About About set_step ahead_step

  abbrev pub about_ahead : Ahead → About
  about_ahead = fold-Ahead About About set_step ahead_step

  -- the live ids that an iterator has
  abbrev pub in_set : Iter → ℕ → Bool
  in_set iter = living held.live (about iter)
