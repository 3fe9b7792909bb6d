use Rattle.std.proofs.Common.{◌≡◌, length, false}
use Rattle.v_scan.specs.Reading as read
use Rattle.v_scan.proofs.words.behind_quote.Given as goal

abbrev pub invariant-bytes : goal.invariant-bytes
invariant-bytes l = read.after_quote false l.fn.text ≡ read.after_quote l.behind_backslash l.rest

abbrev pub decreases-bytes : goal.decreases-bytes
decreases-bytes l = length l.rest
