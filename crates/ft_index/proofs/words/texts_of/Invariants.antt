use Rattle.std.proofs.Common.{◌≡◌, map, take}
use Rattle.ft_meaning.specs.Meaning.{field_tokens}
use Rattle.ft_index.proofs.words.texts_of.Given as goal

-- the tokens of the fields so far
abbrev pub invariant-loop-field : goal.invariant-loop-field
invariant-loop-field l = l.texts.items ≡ map (field_tokens l.def l.doc) (take l.field-index l.field-items)
