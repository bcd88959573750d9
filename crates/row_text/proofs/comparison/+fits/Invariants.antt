use Rattle.std.proofs.Common.{length}
use Rattle.row_text.proofs.comparison.+fits.Given as goal

abbrev pub decreases-fits : goal.decreases-fits
decreases-fits l = length l.want.now
