use Rattle.std.specs.Prelude.{◌<◌, length}
use Rattle.std.proofs.Common.{sym, subst}
use Rattle.ft_base.specs.Hash.{Hash}
use Rattle.ft_meaning.specs.Meaning.{ValuesFit}
use Rattle.indexed_store.proofs.WritesLaws.{pairs-filled, pairs-fit}
use Rattle.ft_engine.proofs.hashes.setting.copy_with.Goals as goal

pub returns-clause-filled : goal.returns-clause-filled
returns-clause-filled c = subst (λ (hash : Hash). 0 < length hash) (sym c.in_ok-set_pairs.ensures.pairs) (pairs-filled c.in_ok-hash.hash c.args.pairs.now c.requires.some)

pub returns-clause-fits : goal.returns-clause-fits
returns-clause-fits c = subst ValuesFit (sym c.in_ok-set_pairs.ensures.pairs) (pairs-fit c.in_ok-hash.hash c.args.pairs.now c.in_ok-hash.ensures.fits c.requires.words)
