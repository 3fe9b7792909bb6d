-- What each process of a state has yet to write (nonblocking updates by IEEE 1364-2001, clause 9.2.2).
use Rattle.std.proofs.Common.{◌≡◌, ℕ, List, map, ap, ◌∙◌, refl}
use Rattle.std.specs.Prelude.{Option, Some, None, slice_get}
use Rattle.std.specs.Option.{option_map}
use Rattle.std.proofs.lemmas.Option.{slice_get-map}
use Rattle.v_design.specs.States.{State, ProcessState, found_or, idle_process, process_at}
use Rattle.lockstep_index.specs.Writes.{OwnWrites}
use Rattle.lockstep_compare.specs.Compared.{writes_in}

-- what the process of a number has yet to write; nothing where there is no such process
abbrev pub writes_at : List OwnWrites → ℕ → OwnWrites
writes_at all process = found_or (writes_in idle_process) (slice_get all process)

found-writes : (found : Option ProcessState) → found_or (writes_in idle_process) (option_map writes_in found) ≡ writes_in (found_or idle_process found)
found-writes None = refl
found-writes (Some process) = refl

-- it is what the process has yet to write in the state
pub writes-at : (state : State) (process : ℕ) → writes_at (map writes_in state.processes) process ≡ writes_in (process_at state process)
writes-at state process = ap (found_or (writes_in idle_process)) (slice_get-map writes_in state.processes process) ∙ found-writes (slice_get state.processes process)
