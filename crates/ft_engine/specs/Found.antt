-- What an iterator finds in an index that a query was planned over.
use Rattle.std.specs.Prelude.{◌≡◌, ◌+◌, ℕ, Bool, List}
use Rattle.ft_base.specs.Docs.{Doc}
use Rattle.ft_base.specs.declared.query.Query.{Query}
use Rattle.ft_index.specs.Index.{Index}
use Rattle.ft_index.specs.Lists.{held_of, named_of}
use Rattle.ft_meaning.specs.Holds.{found_of}
use Rattle.id_iters.specs.Held.{AreLists}
use Rattle.id_iters.specs.Ready.{Ready}
use Rattle.id_iters.specs.Sets.{in_set}
use Rattle.id_iters.specs.declared.iter.Iter.{Iter}
use Rattle.doc_reads.specs.Ids.{AreKnown, AreNumbered, docs_in}

-- the ids that an iterator has in an index
abbrev pub ids_in : Index → Iter → ℕ → Bool
ids_in index iter = in_set (held_of index.lists index.table.live) iter

-- Asked from behind an id on, an iterator has the ids of just the documents that a query finds, and what the index knows of
-- these is true.
pub record Finds (index : Index) (query : Query) (after : ℕ) (space : List Doc) (iter : Iter) : Type 0 where
  pub lists : AreLists (held_of index.lists index.table.live)
  pub ready : Ready (held_of index.lists index.table.live) iter (after + 1)
  pub known : AreKnown (ids_in index iter) space
  pub numbered : AreNumbered (ids_in index iter) (named_of index.lists index.table.live).numbers index.def space
  pub found : docs_in (ids_in index iter) space ≡ found_of query index.def space
