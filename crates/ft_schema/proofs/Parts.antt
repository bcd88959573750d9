-- Reading one part after another, as a loop does it, where the code stops.
use Rattle.std.proofs.Common.{◌≡◌, Bool, false, List}
use Rattle.ft_base.proofs.PartsLaws.{Reads, stops_there}
use Rattle.ft_schema.specs.declared.fault.Stop.{Stop}
use Rattle.ft_schema.specs.declared.fault.Stop.TheVariants as stops
use Rattle.ft_schema.specs.Gives.{Stops}
use Rattle.ft_schema.specs.Names.{Word}
use Rattle.ft_schema.specs.Reading.{Read}

-- Where the code of a part stops, reading stops.
pub stops_so : {A : Type 0} (ends : List Word → Bool) (part : A → List Word → Read A) (before : A) (words : List Word) (whole : Read A) (stop : Stop)
    → ends words ≡ false → Stops stop (part before words) → Reads ends part before words whole → Stops stop whole
stops_so ends part before words whole stops.NoMemory more read reads = tt
stops_so ends part before words whole (stops.Fault cause left) more read reads = stops_there ends part before words whole _ more read reads
