use Rattle.picture_laws.proofs.PicturingLaws.{good-kept}
use Rattle.picture_laws.proofs.laws.stays_good.Goals as goal

pub returns : goal.returns
returns c = good-kept
