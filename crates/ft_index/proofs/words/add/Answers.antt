use Rattle.std.proofs.Common.{sym, subst}
use Rattle.posting_block.specs.declared.hits.TextHit.{TextHit}
use Rattle.term_dict.specs.Terms.{Lists, list_of}
use Rattle.ft_index.specs.Markers.{TakesLists}
use Rattle.ft_index.specs.UpTo.{WordsUpTo}
use Rattle.ft_index.proofs.ListLaws.{lists-come}
use Rattle.ft_index.proofs.OutcomeLaws.{either, either-both}
use Rattle.ft_index.proofs.TakingLaws.{lists-lost}
use Rattle.ft_index.proofs.WordLaws.{words-take, words-up_to}
use Rattle.ft_index.proofs.words.add.Goals as goal

pub returns-clause-up_to : goal.returns-clause-up_to
returns-clause-up_to c =
    either c.add.result c.add.ensures.ok c.add.ensures.err
    (λ added. words-up_to c.args.terms.now c.add.new.self c.args.word.now c.args.markers.now c.args.id _ c.requires.up_to c.requires.later added)
    (λ same. subst (WordsUpTo c.args.id) (sym same) c.requires.up_to)

pub returns-clause-takes : goal.returns-clause-takes
returns-clause-takes c =
    either-both c.add.result c.add.ensures.ok c.add.ensures.taken c.add.ensures.err
    (λ added taken. record {
      markers = words-take c.args.terms.now c.add.new.self c.args.word.now c.args.markers.now c.add.new.markers c.args.id _ c.requires.before added c.add.ensures.event c.add.ensures.rises taken;
      come = lists-come c.args.terms.now c.add.new.self c.args.word.now c.args.markers.now c.args.id _ added;
    })
    (λ same. subst (λ (terms : Lists TextHit). TakesLists c.args.markers.now c.add.new.markers (list_of c.args.terms.now) (list_of terms)) (sym same)
    (lists-lost c.args.markers.now c.add.new.markers (list_of c.args.terms.now) c.add.ensures.event c.add.ensures.rises c.requires.before))
