use Rattle.std.proofs.Common.{◌≡◌, [], map, fold}
use Rattle.field_text.specs.Seen.{seen, with_piece}
use Rattle.field_text.proofs.tag_list.tags.Given as goal

abbrev pub invariant-cutting : goal.invariant-cutting
invariant-cutting l = seen l.found.keys ≡ fold (with_piece l.case) [] (map (λ piece. piece.now) l.yielded)
