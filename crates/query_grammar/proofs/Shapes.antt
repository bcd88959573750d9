-- The shape of each part of a tree.
use Rattle.std.proofs.Common.{◌≡◌, ℕ, ℤ, List, map, Bool, Option, ap, sym, ◌∙◌}
use Rattle.ft_base.specs.declared.query.Fields.{Fields}
use Rattle.ft_base.specs.declared.query.Query.{Query}
use Rattle.ft_base.specs.declared.query.Query.TheFolds.{fold-roll-Query}
use Rattle.ft_base.specs.declared.query.Query.TheOpen as layer
use Rattle.ft_base.specs.declared.query.Query.TheVariants.{rolls-Empty, rolls-All, rolls-Word, rolls-Prefix, rolls-Phrase, rolls-Tags, rolls-Range, rolls-And, rolls-Or, rolls-Not, rolls-Optional}
use Rattle.ft_base.specs.declared.query.Query.TheVariants as tree
use Rattle.ft_base.specs.declared.query.TagPart.{TagPart}
use Rattle.query_grammar.specs.Shape.{Shape, One, Several, Else, shape_of, shape_step, together}

pub shape-Empty : shape_of tree.Empty ≡ Else
shape-Empty = ap shape_of (sym rolls-Empty) ∙ fold-roll-Query Shape shape_step layer.Empty

pub shape-All : shape_of tree.All ≡ Else
shape-All = ap shape_of (sym rolls-All) ∙ fold-roll-Query Shape shape_step layer.All

pub shape-Word : (fields : Fields) (text : List ℕ) → shape_of (tree.Word fields text) ≡ One fields text
shape-Word fields text = ap shape_of (sym (rolls-Word fields text)) ∙ fold-roll-Query Shape shape_step (layer.Word fields text)

pub shape-Prefix : (fields : Fields) (text : List ℕ) → shape_of (tree.Prefix fields text) ≡ Else
shape-Prefix fields text = ap shape_of (sym (rolls-Prefix fields text)) ∙ fold-roll-Query Shape shape_step (layer.Prefix fields text)

pub shape-Phrase : (fields : Fields) (words : List (List ℕ)) (slop : Option ℕ) (in_order : Bool) → shape_of (tree.Phrase fields words slop in_order) ≡ Several fields words
shape-Phrase fields words slop in_order = ap shape_of (sym (rolls-Phrase fields words slop in_order)) ∙ fold-roll-Query Shape shape_step (layer.Phrase fields words slop in_order)

pub shape-Tags : (field : ℕ) (tags : List TagPart) → shape_of (tree.Tags field tags) ≡ Else
shape-Tags field tags = ap shape_of (sym (rolls-Tags field tags)) ∙ fold-roll-Query Shape shape_step (layer.Tags field tags)

pub shape-Range : (field : ℕ) (low : ℤ) (high : ℤ) → shape_of (tree.Range field low high) ≡ Else
shape-Range field low high = ap shape_of (sym (rolls-Range field low high)) ∙ fold-roll-Query Shape shape_step (layer.Range field low high)

pub shape-And : (parts : List Query) → shape_of (tree.And parts) ≡ together (map shape_of parts)
shape-And parts = ap shape_of (sym (rolls-And parts)) ∙ fold-roll-Query Shape shape_step (layer.And parts)

pub shape-Or : (parts : List Query) → shape_of (tree.Or parts) ≡ Else
shape-Or parts = ap shape_of (sym (rolls-Or parts)) ∙ fold-roll-Query Shape shape_step (layer.Or parts)

pub shape-Not : (part : Query) → shape_of (tree.Not part) ≡ Else
shape-Not part = ap shape_of (sym (rolls-Not part)) ∙ fold-roll-Query Shape shape_step (layer.Not part)

pub shape-Optional : (part : Query) → shape_of (tree.Optional part) ≡ Else
shape-Optional part = ap shape_of (sym (rolls-Optional part)) ∙ fold-roll-Query Shape shape_step (layer.Optional part)

pub ruleset part_shapes = (shape-Empty, shape-All, shape-Word, shape-Prefix, shape-Phrase, shape-Tags, shape-Range, shape-And, shape-Or, shape-Not, shape-Optional)
