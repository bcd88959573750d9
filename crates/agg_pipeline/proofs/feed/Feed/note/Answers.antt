use Rattle.indexmap.proofs.MapLemmas.{OnOk-map}
use Rattle.agg_pipeline.specs.declared.feed.Made.TheVariants.{First, Groups}
use Rattle.agg_pipeline.proofs.FeedLaws.{held-next, rows-next}
use Rattle.agg_pipeline.proofs.feed.Feed.note.Goals as goal

pub returns-in-Rows : goal.returns-in-Rows
returns-in-Rows c =
    OnOk-map c.hold_doc.result _ _
    (λ told def load steps docs holds. record {
      def_same = holds.def_same;
      load_same = holds.load_same;
      first = holds.first;
      later = holds.later;
      made = rows-next def load steps docs c.args.self.now holds c.args.doc.now c.in-Rows.rows c.hold_doc.new.rows c.in-Rows.is told;
    })
    c.hold_doc.ensures

pub returns-in-Groups : goal.returns-in-Groups
returns-in-Groups c =
    OnOk-map c.group_doc.result _ _
    (λ told def load steps docs holds. record {
      def_same = holds.def_same;
      load_same = holds.load_same;
      first = holds.first;
      later = holds.later;
      made = held-next def load steps docs c.args.self.now holds c.args.doc.now (Groups c.in-Groups.groups) (Groups c.group_doc.new.groups) c.in-Groups.is told;
    })
    c.group_doc.ensures

pub returns-in-First : goal.returns-in-First
returns-in-First c =
    OnOk-map c.sort_doc.result _ _
    (λ told def load steps docs holds. record {
      def_same = holds.def_same;
      load_same = holds.load_same;
      first = holds.first;
      later = holds.later;
      made = held-next def load steps docs c.args.self.now holds c.args.doc.now (First c.in-First.held) (First c.sort_doc.new.held) c.in-First.is told;
    })
    c.sort_doc.ensures
