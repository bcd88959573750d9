use Rattle.picture_laws.proofs.PicturingLaws.{spent-kept}
use Rattle.picture_laws.proofs.laws.stays_spent.Goals as goal

pub returns : goal.returns
returns c = spent-kept
