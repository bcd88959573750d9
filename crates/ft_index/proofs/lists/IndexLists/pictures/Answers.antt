use Rattle.std.proofs.Common.{◌∙◌, IfSome, List, Option, ap, subst}
use Rattle.numeric_ranges.specs.Ranges.{LowsRise, Rows}
use Rattle.ft_index.specs.Lists.{rows_of}
use Rattle.ft_index.specs.Picturing.{AreOrdered, all_named}
use Rattle.ft_index.specs.contracts.lists.IndexLists.{the_view}
use Rattle.ft_index.proofs.PictureLaws.{shown-all}
use Rattle.ft_index.proofs.lists.IndexLists.pictures.Goals as goal

pub returns-clause-named : goal.returns-clause-named
returns-clause-named c =
    shown-all (the_view c.self.inside) c.new-all.result c.picture_words.new.all c.picture_tags.new.all c.picture_ranges.new.all c.as_slice.result.now c.new-all.ensures c.in_ok-picture_words.ensures.named
    c.in_ok-picture_tags.ensures.named c.as_slice.ensures.value c.in_ok-picture_ranges.ensures.named
    ∙ ap all_named c.self.view_is

pub returns-clause-ordered : goal.returns-clause-ordered
returns-clause-ordered c =
    subst AreOrdered c.self.view_is (record {
      words = c.in_ok-picture_words.ensures.rise;
      fields = c.in_ok-picture_tags.ensures.fields;
      tags = c.in_ok-picture_tags.ensures.rise;
      ranges = λ field. subst (λ (ranges : List (Option Rows)). IfSome (rows_of ranges field) LowsRise) c.as_slice.ensures.value (c.in_ok-picture_ranges.ensures.rise field);
    })
