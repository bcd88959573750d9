use Rattle.std.proofs.Common.{ℕ, List, IfSome, sym, subst}
use Rattle.doc_table.specs.Pages.{has_id}
use Rattle.ft_index.specs.Index.{is_live}
use Rattle.term_dict.specs.Terms.{list_of}
use Rattle.leaf_rows.specs.Splicing.{IsRepairOf}
use Rattle.leaf_rows.proofs.RoundLaws.{fits-lives}
use Rattle.leaf_rows.proofs.lists.repairs.splice_word.Goals as goal

pub splice-requires-clause-fits : goal.splice-requires-clause-fits
splice-requires-clause-fits c =
    let was = has_id c.args.snapshot.now.live in
    let words = c.args.index.now.lists.words in
    fits-lives was (is_live c.args.index.now) c.requires.live (list_of words c.in_ok-text.text) c.args.repair
    (subst (λ (word : List ℕ). IfSome (list_of words word) (λ l. IsRepairOf was l c.args.repair)) (sym c.in_ok-text.ensures) c.requires.repair)
