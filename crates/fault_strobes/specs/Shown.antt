-- What strobes said, as plain data (nothing of the language).
use Rattle.std.specs.Prelude.{map}
use Rattle.kept_samples.specs.Plain.{sample_of}
use Rattle.fault_strobes.specs.Said.{Said, Judging, Keeping}
use Rattle.fault_strobes.specs.declared.strobed.Strobed.{Strobed}
use Rattle.fault_strobes.specs.declared.strobed.Strobed.TheVariants as is

abbrev pub said_of : Strobed → Said
said_of (is.Judging possible) = Judging possible
said_of (is.Keeping differs) = Keeping (map sample_of differs.items)
