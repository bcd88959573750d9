-- Where the code of a step stops, all that begins with the step stops.
use Rattle.std.proofs.Common.{◌≡◌, Result, Err}
use Rattle.query_grammar.specs.Reading as reading
use Rattle.query_parse.specs.declared.stop.Stop.{Stop}
use Rattle.query_parse.specs.declared.stop.Stop.TheVariants.{Broken, Found, Cut, NoMemory}
use Rattle.query_parse.specs.Gives.{Stops}

pub stops-so : {A B : Type 0} (stop : Stop) (read : Result A reading.Stop) (whole : Result B reading.Stop)
    → ((s : reading.Stop) → read ≡ Err s → whole ≡ Err s) → Stops stop read → Stops stop whole
stops-so NoMemory read whole so stops = tt
stops-so (Broken rest) read whole so stops = so _ stops
stops-so (Found fault rest) read whole so stops = so _ stops
stops-so (Cut fault rest) read whole so stops = so _ stops
