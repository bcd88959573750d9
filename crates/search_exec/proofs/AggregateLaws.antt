-- What a feed holds of the documents that an iterator finds, and how many of them were read.
use Rattle.std.proofs.Common.{◌≡◌, ◌<◌, ◌^◌, ℕ, List, [], ◌∷◌, ◌++◌, length, arith}
use Rattle.std.specs.Prelude.{Result, Ok, Err, IfOk, IsOk, OnOk}
use Rattle.std.proofs.lemmas.List.{length_push}
use Rattle.agg_pipeline.specs.Feeding.{Holds}
use Rattle.agg_pipeline.specs.declared.feed.Feed.{Feed}
use Rattle.agg_pipeline.specs.declared.step.Load.{Load}
use Rattle.agg_pipeline.specs.declared.step.Step.{Step}
use Rattle.ft_base.specs.declared.definition.IndexDef.{IndexDef}
use Rattle.ft_base.specs.Docs.{Doc}
use Rattle.ft_base.specs.declared.row.Row.{Row}
use Rattle.ft_machine.specs.Aggregating.{aggregate_rows}
use Rattle.hash_store.specs.Store.{reads_after}
use Rattle.search_exec.specs.Feeds.{AreMadeBy, Gathers, Takes}

-- A feed that held no document at first holds some, and each of these was read once.
pub record IsFed (first : Feed) (start : ℕ) (now : Feed) (reads : ℕ) (docs : List Doc) : Type 0 where
  pub holds : Gathers docs first now
  pub count : reads ≡ reads_after start (length docs)

-- at first none was read
pub fed-none : (first : Feed) (start : ℕ) → start < 2 ^ 64 → IsFed first start first start []
fed-none first start bits = record {
  holds = λ def load steps none. none;
  count = omega (arith, bits);
}

-- one more document is read and noted
pub fed-next : (first : Feed) (start : ℕ) (old new : Feed) (reads more : ℕ) (docs : List Doc) (doc : Doc)
    → Takes doc old new → more ≡ reads_after reads 1 → IsFed first start old reads docs → IsFed first start new more (docs ++ doc ∷ [])
fed-next first start old new reads more docs doc noted once fed = record {
  holds = λ def load steps none. noted def load steps docs (fed.holds def load steps none);
  count = omega (arith, once, fed.count, length_push docs doc);
}

-- what the steps make of a feed is what they make of its documents, where all of them were noted
pub rows-noted : {V N E F : Type 0} (items : V → List Row) (made : Result V E) (noted : Result N F) (first feed : Feed) (def : IndexDef) (load : Load) (steps : List Step) (docs : List Doc) → IfOk made (λ rows. IsOk noted)
    → IfOk made (λ rows. AreMadeBy feed (items rows)) → OnOk noted (Gathers docs first feed) → Holds def load steps [] first → IfOk made (λ rows. items rows ≡ aggregate_rows load steps def docs)
rows-noted items (Ok rows) (Ok x) first feed def load steps docs all made noted none = made def load steps docs (noted def load steps none)
rows-noted items (Ok rows) (Err f) first feed def load steps docs all made noted none = cc (all)
rows-noted items (Err e) noted first feed def load steps docs all made holds none = tt
