use Rattle.std.proofs.Common.{◌++◌, ◌∙◌, IfSome, List, Option, ap, subst}
use Rattle.std.specs.Map.{keys_of}
use Rattle.std.specs.Option.{option_copied}
use Rattle.numeric_ranges.specs.Ranges.{LowsRise, Rows}
use Rattle.ft_index.specs.Lists.{AllLists, rows_of}
use Rattle.ft_index.specs.Parting.{Takes, behind, parted, whole_room}
use Rattle.ft_index.specs.Picturing.{AreOrdered, all_named, fields_named, slots_named, words_named}
use Rattle.ft_index.specs.contracts.lists.IndexLists.{the_view}
use Rattle.ft_index.proofs.PartLaws.{takes-all}
use Rattle.ft_index.proofs.lists.IndexLists.part.Goals as goal

pub returns-clause-named : goal.returns-clause-named
returns-clause-named g c =
    let lists = the_view c.self.inside in
    let hand = option_copied c.args.hand in
    takes-all hand (words_named lists.words) (fields_named lists.tags (keys_of lists.tags)) (slots_named 0 lists.ranges) c.new-part.result c.part_words.new.part c.part_tags.new.part c.part_ranges.new.part
    c.new-part.ensures.room c.new-part.ensures.pictures c.in_ok-part_words.ensures.takes c.in_ok-part_tags.ensures.takes
    (subst (λ (ranges : List (Option Rows)). Takes (behind hand (slots_named 0 ranges)) c.part_tags.new.part c.part_ranges.new.part) c.as_slice.ensures.value c.in_ok-part_ranges.ensures.takes)
    ∙ ap (λ (all : AllLists). parted whole_room (behind hand (all_named all))) c.self.view_is

pub returns-clause-ordered : goal.returns-clause-ordered
returns-clause-ordered g c =
    subst AreOrdered c.self.view_is (record {
      words = c.in_ok-part_words.ensures.rise;
      fields = c.in_ok-part_tags.ensures.fields;
      tags = c.in_ok-part_tags.ensures.rise;
      ranges = λ field. subst (λ (ranges : List (Option Rows)). IfSome (rows_of ranges field) LowsRise) c.as_slice.ensures.value (c.in_ok-part_ranges.ensures.rise field);
    })
