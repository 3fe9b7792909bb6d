use Rattle.std.proofs.Common.{ℕ, length}
use Rattle.v_design.specs.Plain.{object_of}
use Rattle.plan_read.specs.Stems.{stem, object_key}
use Rattle.key_index.specs.Walks.{places_left}
use Rattle.plan_read.specs.Plain.{watched_bits}
use Rattle.plan_read.specs.Watched.{bits_in_object}
use Rattle.plan_read.proofs.Walking.{IsBitsWalk}
use Rattle.plan_read.proofs.watch.add_objects.Given as goal

abbrev pub invariant-places : goal.invariant-places
invariant-places l = IsBitsWalk object_of (bits_in_object l.word) object_key (stem l.word) l.names.design.now.objects (watched_bits l.initial.bits.items) (watched_bits l.bits.items) l.at

abbrev pub decreases-places : goal.decreases-places
decreases-places l = places_left (length l.names.design.now.objects) l.at
