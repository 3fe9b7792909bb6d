use Rattle.std.proofs.Common.{◌≡◌, length}
use Rattle.v_scan.specs.Reading as read
use Rattle.v_scan.proofs.pieces.behind_close.Given as goal

abbrev pub invariant-bytes : goal.invariant-bytes
invariant-bytes l = read.after_close l.fn.text ≡ read.after_close l.rest

abbrev pub decreases-bytes : goal.decreases-bytes
decreases-bytes l = length l.rest
