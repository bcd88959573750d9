-- What an event leaves of the indexes that there were.
use Rattle.std.specs.Prelude.{◌⊎◌, ℕ, List}
use Rattle.std.specs.List.{All, Contains}
use Rattle.ft_index.specs.Coming.{Came, IsFresh}
use Rattle.ft_index.specs.Index.{Index}

-- one of these indexes is what the index was before the event
pub record CameFrom (event : ℕ) (olds : List Index) (new : Index) : Type 0 where
  pub old : Index
  pub there : Contains olds old
  pub came : Came event old new

-- Each index was there and has only grown since, or its lists were all made in the event or later.
abbrev pub IndexesMove : ℕ → List Index → List Index → Type 0
IndexesMove event olds news = All (λ new. CameFrom event olds new ⊎ IsFresh event new) news
