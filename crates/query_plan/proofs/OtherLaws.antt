-- Queries that ask nothing of others, by the variants that they are not.
use Rattle.std.proofs.Common.{◌≡◌, ℕ, ℤ, Bool, true, false, List, Option, sym, ap, ◌∙◌}
use Rattle.ft_base.specs.declared.definition.IndexDef.{IndexDef}
use Rattle.ft_base.specs.declared.query.Fields.{Fields}
use Rattle.ft_base.specs.declared.query.Query.{Query}
use Rattle.ft_base.specs.declared.query.Query.TheFolds.{fold-roll-Query}
use Rattle.ft_base.specs.declared.query.Query.TheOpen as layer
use Rattle.ft_base.specs.declared.query.Query.TheVariants as query
use Rattle.ft_base.specs.declared.query.Query.TheViews.{out-Query, roll-Query, roll-out-Query}
use Rattle.ft_base.specs.declared.query.TagPart.{TagPart}
use Rattle.ft_meaning.specs.Holds.{holds}
use Rattle.id_iters.specs.Held.{Held}
use Rattle.id_iters.specs.Named.{Named}
use Rattle.query_plan.specs.Plans.{Tells}
use Rattle.query_plan.specs.Sought.{single_step, is_single}
use Rattle.query_plan.proofs.PlanLaws.{all_tell, optional_tells}

single_at : (d : layer.Query-F Query) (whole : Query) → whole ≡ roll-Query d
    → ((parts : List Query) → whole ≡ query.And parts → ⊥) → ((parts : List Query) → whole ≡ query.Or parts → ⊥) → ((part : Query) → whole ≡ query.Not part → ⊥)
    → is_single whole ≡ true
single_at (layer.And parts) whole is not_and not_or not_not = absurd (not_and parts (is ∙ query.rolls-And parts))
single_at (layer.Or parts) whole is not_and not_or not_not = absurd (not_or parts (is ∙ query.rolls-Or parts))
single_at (layer.Not part) whole is not_and not_or not_not = absurd (not_not part (is ∙ query.rolls-Not part))
single_at rest whole is not_and not_or not_not = ap is_single is ∙ fold-roll-Query Bool single_step rest

pub single : (whole : Query) → ((parts : List Query) → whole ≡ query.And parts → ⊥) → ((parts : List Query) → whole ≡ query.Or parts → ⊥) → ((part : Query) → whole ≡ query.Not part → ⊥)
    → is_single whole ≡ true
single whole not_and not_or not_not = single_at (out-Query whole) whole (sym (roll-out-Query whole)) not_and not_or not_not

module _ (def : IndexDef) (held : Held) (named : Named) (ids : ℕ → Bool) (all : ids ≡ (λ id. true)) where
  rest_at : (d : layer.Query-F Query) (whole : Query) → whole ≡ roll-Query d → is_single whole ≡ true
      → (whole ≡ query.Empty → ⊥)
      → ((looked : Fields) (text : List ℕ) → whole ≡ query.Word looked text → ⊥)
      → ((looked : Fields) (text : List ℕ) → whole ≡ query.Prefix looked text → ⊥)
      → ((looked : Fields) (words : List (List ℕ)) (slop : Option ℕ) (in_order : Bool) → whole ≡ query.Phrase looked words slop in_order → ⊥)
      → ((field : ℕ) (tags : List TagPart) → whole ≡ query.Tags field tags → ⊥)
      → ((field : ℕ) (low high : ℤ) → whole ≡ query.Range field low high → ⊥)
      → Tells def held named (λ doc. holds whole def doc) ids
  rest_at layer.Empty whole is one no_empty no_word no_prefix no_phrase no_tags no_range = absurd (no_empty (is ∙ query.rolls-Empty))
  rest_at layer.All whole is one no_empty no_word no_prefix no_phrase no_tags no_range = all_tell def held named whole ids (is ∙ query.rolls-All) all
  rest_at (layer.Word looked text) whole is one no_empty no_word no_prefix no_phrase no_tags no_range = absurd (no_word looked text (is ∙ query.rolls-Word looked text))
  rest_at (layer.Prefix looked text) whole is one no_empty no_word no_prefix no_phrase no_tags no_range = absurd (no_prefix looked text (is ∙ query.rolls-Prefix looked text))
  rest_at (layer.Phrase looked words slop in_order) whole is one no_empty no_word no_prefix no_phrase no_tags no_range =
      absurd (no_phrase looked words slop in_order (is ∙ query.rolls-Phrase looked words slop in_order))
  rest_at (layer.Tags field tags) whole is one no_empty no_word no_prefix no_phrase no_tags no_range = absurd (no_tags field tags (is ∙ query.rolls-Tags field tags))
  rest_at (layer.Range field low high) whole is one no_empty no_word no_prefix no_phrase no_tags no_range =
      absurd (no_range field low high (is ∙ query.rolls-Range field low high))
  rest_at (layer.Optional part) whole is one no_empty no_word no_prefix no_phrase no_tags no_range =
      optional_tells def held named part whole ids (is ∙ query.rolls-Optional part) all
  rest_at (layer.And parts) whole is one no_empty no_word no_prefix no_phrase no_tags no_range =
      let e : false ≡ true = sym (ap is_single is ∙ fold-roll-Query Bool single_step (layer.And parts)) ∙ one in
      absurd (cc)
  rest_at (layer.Or parts) whole is one no_empty no_word no_prefix no_phrase no_tags no_range =
      let e : false ≡ true = sym (ap is_single is ∙ fold-roll-Query Bool single_step (layer.Or parts)) ∙ one in
      absurd (cc)
  rest_at (layer.Not part) whole is one no_empty no_word no_prefix no_phrase no_tags no_range =
      let e : false ≡ true = sym (ap is_single is ∙ fold-roll-Query Bool single_step (layer.Not part)) ∙ one in
      absurd (cc)

  -- what is left of them asks for all documents
  pub rest_tells : (whole : Query) → is_single whole ≡ true
      → (whole ≡ query.Empty → ⊥)
      → ((looked : Fields) (text : List ℕ) → whole ≡ query.Word looked text → ⊥)
      → ((looked : Fields) (text : List ℕ) → whole ≡ query.Prefix looked text → ⊥)
      → ((looked : Fields) (words : List (List ℕ)) (slop : Option ℕ) (in_order : Bool) → whole ≡ query.Phrase looked words slop in_order → ⊥)
      → ((field : ℕ) (tags : List TagPart) → whole ≡ query.Tags field tags → ⊥)
      → ((field : ℕ) (low high : ℤ) → whole ≡ query.Range field low high → ⊥)
      → Tells def held named (λ doc. holds whole def doc) ids
  rest_tells whole = rest_at (out-Query whole) whole (sym (roll-out-Query whole))
