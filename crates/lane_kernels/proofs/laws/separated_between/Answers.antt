use Rattle.lane_kernels.specs.Separating.{is_word_byte}
use Rattle.lane_kernels.proofs.RunLaws.{run_from_within}
use Rattle.lane_kernels.proofs.laws.separated_between.Goals as goal

pub returns : goal.returns
returns c = λ text from to after before. run_from_within is_word_byte text from to after before
