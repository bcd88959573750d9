use Rattle.std.proofs.Common.{sym, subst, ap, arith}
use Rattle.ft_index.specs.Has.{Has}
use Rattle.ft_index.specs.Lists.{AllLists, has_id}
use Rattle.ft_index.specs.Thinned.{ListsLive}
use Rattle.ft_index.specs.Records.{entries_in_ranges}
use Rattle.ft_index.proofs.ExactLaws.{records-most}
use Rattle.ft_index.proofs.RecordsLaws.{records-least}
use Rattle.ft_index.proofs.lists.IndexLists.records.Goals as goal

pub returns-then-all-lt-WIRE_END-clause-least : goal.returns-then-all-lt-WIRE_END-clause-least
returns-then-all-lt-WIRE_END-clause-least c def live docs has =
    let lists : AllLists = record { words = c.self.inside.terms; tags = c.self.inside.tags; ranges = c.self.inside.ranges.items } in
    omega (
      arith,
      records-least def live docs lists (subst (λ (l : AllLists). Has def live l docs) (sym c.self.view_is) has),
      c.in_ok-words.ensures.some,
      c.in_ok-tags.ensures.some,
      c.in_ok-numbers.ensures.some,
      ap entries_in_ranges c.as_slice.ensures.value,
      c.in_ok-checked_add.ensures.1,
      c.in_ok-all.ensures.1,
    )

pub returns-then-all-lt-WIRE_END-clause-exact : goal.returns-then-all-lt-WIRE_END-clause-exact
returns-then-all-lt-WIRE_END-clause-exact c def live docs has each =
    let lists : AllLists = record { words = c.self.inside.terms; tags = c.self.inside.tags; ranges = c.self.inside.ranges.items } in
    let has' : Has def live lists docs = subst (λ (l : AllLists). Has def live l docs) (sym c.self.view_is) has in
    let each' : ListsLive (has_id live) lists = subst (ListsLive (has_id live)) (sym c.self.view_is) each in
    omega (
      arith,
      records-least def live docs lists has',
      records-most def live docs lists c.len.ensures.words c.len-2.ensures.fields c.len-2.ensures.tags has' each',
      c.in_ok-words.ensures.some,
      c.in_ok-tags.ensures.some,
      c.in_ok-numbers.ensures.some,
      ap entries_in_ranges c.as_slice.ensures.value,
      c.in_ok-checked_add.ensures.1,
      c.in_ok-all.ensures.1,
    )
