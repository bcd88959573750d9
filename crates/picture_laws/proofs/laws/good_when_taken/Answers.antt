use Rattle.picture_laws.proofs.PicturingLaws.{good-taken}
use Rattle.picture_laws.proofs.laws.good_when_taken.Goals as goal

pub returns : goal.returns
returns c = good-taken
