-- The parts of an aggregate up to the end of its words.
use Rattle.std.proofs.Common.{◌≡◌, true, false, List, Ok, ap}
use Rattle.ft_base.specs.Reading.{◌>>=◌}
use Rattle.ft_base.proofs.PartsLaws.{ended, stops_there}
use Rattle.cmd_parse.specs.Aggregate.{all_parts_at, no_parts, part_at}
use Rattle.cmd_parse.specs.Gives.{Stops}
use Rattle.cmd_parse.specs.Search.{is_at_end}
use Rattle.cmd_parse.specs.Words.{Word, Read}
use Rattle.cmd_parse.specs.declared.aggregate_parts.Parts.{Parts}
use Rattle.cmd_parse.specs.declared.stop.Stop.{Stop}
use Rattle.cmd_parse.specs.declared.stop.Stop.TheVariants as stops
use Rattle.cmd_parse.proofs.LoopLaws.{GoesOn}

pub part-stops : (all : List Word) (parts : Parts) (words : List Word) (stop : Stop) → is_at_end words ≡ false → Stops stop (part_at parts words)
    → GoesOn is_at_end part_at no_parts all parts words → Stops stop (all_parts_at all)
part-stops all parts words stops.NoMemory more read here = tt
part-stops all parts words (stops.Fault cause left) more read here =
    ap (λ (r : Read Parts). r >>= λ x. Ok x.0) (stops_there is_at_end part_at parts words _ (stops.Fault cause left) more read here.0)

pub every-part : (all : List Word) (parts : Parts) (words : List Word) → is_at_end words ≡ true → GoesOn is_at_end part_at no_parts all parts words → all_parts_at all ≡ Ok parts
every-part all parts words done here = ap (λ (r : Read Parts). r >>= λ x. Ok x.0) (ended is_at_end part_at parts words _ done here.0)
