use Rattle.picture_laws.proofs.FittingLaws.{fits-good}
use Rattle.picture_laws.proofs.laws.fits_good.Goals as goal

pub returns : goal.returns
returns c = fits-good
