-- So far it isn't there.
use Rattle.std.proofs.Common.{◌≡◌, false, map, take}
use Rattle.vf_base.specs.Base.{process_number}
use Rattle.vf_base.specs.Lists.{has}
use Rattle.block_compare.proofs.alike.has_process.Given as goal

abbrev pub invariant-list : goal.invariant-list
invariant-list l = has (map process_number (take l.place l.list)) (process_number l.process) ≡ false
