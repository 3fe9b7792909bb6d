use Rattle.std.proofs.Common.{ℕ, length}
use Rattle.v_design.specs.Plain.{name_joined}
use Rattle.plan_read.specs.Stems.{stem, joined_key}
use Rattle.key_index.specs.Walks.{places_left}
use Rattle.plan_read.specs.Plain.{watched_bits}
use Rattle.plan_read.specs.Watched.{bits_in_joined}
use Rattle.plan_read.proofs.Walking.{IsBitsWalk}
use Rattle.plan_read.proofs.watch.add_names.Given as goal

abbrev pub invariant-places : goal.invariant-places
invariant-places l = IsBitsWalk name_joined (λ (m : ℕ). bits_in_joined l.word) joined_key (stem l.word) l.names.design.now.joined (watched_bits l.initial.bits.items) (watched_bits l.bits.items) l.at

abbrev pub decreases-places : goal.decreases-places
decreases-places l = places_left (length l.names.design.now.joined) l.at
