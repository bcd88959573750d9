-- What a planned part tells of the documents of an index.
use Rattle.std.specs.Prelude.{◌≡◌, ◌⊎◌, ℕ, List, [], ◌∷◌, map, Bool}
use Rattle.std.specs.List.{list_all, list_any}
use Rattle.ft_base.specs.declared.definition.IndexDef.{IndexDef}
use Rattle.ft_base.specs.Docs.{Doc}
use Rattle.ft_base.specs.declared.query.Query.{Query}
use Rattle.ft_meaning.specs.Holds.{holds}
use Rattle.id_iters.specs.Held.{Held}
use Rattle.id_iters.specs.Named.{Named}
pub use Rattle.list_plan.specs.Parts.{AllPartsKnown, AllPartsOpen, AllPartsReady, part_has}
pub use Rattle.list_plan.specs.Plans.{AllKnown, AllOpen, AllReady, AlwaysReady, Gains, HasAllIf, PartsKnown, PartsOpen, ids_of}
use Rattle.list_plan.specs.declared.parts.Part.{Part}
use Rattle.query_plan.specs.Finds.{AreOf}

-- a document is one of those listed
abbrev pub IsIn : Doc → List Doc → Type 0
IsIn doc [] = ⊥
IsIn doc (first ∷ docs) = (doc ≡ first) ⊎ IsIn doc docs

-- At the documents of an index with these lists and names a set of ids has the ids of those that pass a test.
pub record Tells (def : IndexDef) (held : Held) (named : Named) (test : Doc → Bool) (ids : ℕ → Bool) : Type 0 where
  pub at : (docs : List Doc) (doc : Doc) → AreOf def held named docs → IsIn doc docs → ids doc.id ≡ test doc

-- the parts tell of queries, in their order
pub record AllTell (def : IndexDef) (held : Held) (named : Named) (queries : List Query) (parts : List Part) : Type 0 where
  pub at : (docs : List Doc) (doc : Doc) → AreOf def held named docs → IsIn doc docs
      → map (λ part. part_has held part doc.id) parts ≡ map (λ query. holds query def doc) queries

-- the parts together tell whether a document meets every query, and whether it meets some
pub record TellTogether (def : IndexDef) (held : Held) (named : Named) (queries : List Query) (parts : List Part) : Type 0 where
  pub every : (docs : List Doc) (doc : Doc) → AreOf def held named docs → IsIn doc docs
      → list_all (λ part. part_has held part doc.id) parts ≡ list_all (λ query. holds query def doc) queries
  pub some : (docs : List Doc) (doc : Doc) → AreOf def held named docs → IsIn doc docs
      → list_any (λ part. part_has held part doc.id) parts ≡ list_any (λ query. holds query def doc) queries
