-- What the index of a phase holds.
use Rattle.std.specs.Prelude.{◌≡◌, List, map, length, vec_len}
use Rattle.std.specs.List.{All}
use Rattle.v_design.specs.Designs.{FlatDesign}
use Rattle.v_design.specs.Logs.{LoggedPhase, PhaseAccess, log_accesses}
use Rattle.causal_monitor.specs.declared.group.Group.TheVariants.{All as AllAccesses, Changes, Looks}
use Rattle.causal_monitor.specs.declared.index.AccessIndex.{AccessIndex}
use Rattle.causal_monitor.specs.declared.index.CheckIndex.{CheckIndex}
use Rattle.causal_monitor.specs.Orders.{HasJumps}
use Rattle.causal_monitor.specs.Counted.{IsNumbered, phase_access}
use Rattle.causal_monitor.specs.Links.{AreLinks}

-- the accesses that an index holds
abbrev pub indexed_accesses : AccessIndex → List PhaseAccess
indexed_accesses index = map phase_access index.accesses.items

-- an index of some accesses of a log
pub record IsIndexed (log : LoggedPhase) (index : AccessIndex) : Type 0 where
  pub numbered : All (IsNumbered (length log.events)) index.accesses.items
  pub has_jumps : HasJumps log index.jumps.items
  pub all_count : vec_len index.all ≡ length index.accesses.items
  pub changes_count : vec_len index.changes ≡ length index.accesses.items
  pub looks_count : vec_len index.looks ≡ length index.accesses.items
  pub all_links : AreLinks AllAccesses (indexed_accesses index) index.all.items
  pub changes_links : AreLinks Changes (indexed_accesses index) index.changes.items
  pub looks_links : AreLinks Looks (indexed_accesses index) index.looks.items

-- the accesses that the index of a phase holds, in their order
abbrev pub accesses_in : CheckIndex → List PhaseAccess
accesses_in index = indexed_accesses index.index

-- the index of some accesses of a log
abbrev pub IsIndexOf : LoggedPhase → CheckIndex → Type 0
IsIndexOf log index = IsIndexed log index.index

-- the index of a phase of a design: it holds the phase's accesses
pub record IsIndexFor (design : FlatDesign) (log : LoggedPhase) (index : CheckIndex) : Type 0 where
  pub accesses : indexed_accesses index.index ≡ log_accesses design log
  pub indexed : IsIndexed log index.index
  pub room : vec_len index.chained ≡ vec_len index.index.accesses
