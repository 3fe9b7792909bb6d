-- Which kinds of accesses write (IEEE 1364-2001, clause 5).
use Rattle.std.specs.Prelude.{Bool, true, false}
use Rattle.vf_base.specs.declared.finding.AccessKind.{AccessKind}
use Rattle.vf_base.specs.declared.finding.AccessKind.TheVariants.{Read, Write, Await, Ended, Held, Settle}

abbrev pub is_write : AccessKind → Bool
is_write Read = false
is_write Write = true
is_write Await = false
is_write Ended = false
is_write Held = false
is_write Settle = false

-- and which read or write
abbrev pub is_touch : AccessKind → Bool
is_touch Read = true
is_touch Write = true
is_touch Await = false
is_touch Ended = false
is_touch Held = false
is_touch Settle = false
