use Rattle.std.proofs.Common.{◌≡◌, length}
use Rattle.v_scan.specs.Classes.{in_class}
use Rattle.v_scan.specs.Reading.{back_while}
use Rattle.v_scan.proofs.bytes.behind.Given as goal

abbrev pub invariant-bytes : goal.invariant-bytes
invariant-bytes l = back_while (in_class l.class) l.fn.text ≡ back_while (in_class l.class) l.rest

abbrev pub decreases-bytes : goal.decreases-bytes
decreases-bytes l = length l.rest
