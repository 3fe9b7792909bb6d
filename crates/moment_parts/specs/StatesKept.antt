-- States of processes as they are kept (processes by IEEE 1364-2001, clause 9).
use Rattle.std.specs.Prelude.{◌≡◌, ℕ, List, Some, slice_get}
use Rattle.v_design.specs.Designs.{FlatDesign}
use Rattle.process_code.specs.StatesOf.{IsStateOf}
use Rattle.process_code.specs.declared.code.Code.{Code}
use Rattle.process_code.specs.declared.state.ProcState.{ProcState}
use Rattle.run_ends.specs.RunEnds.{IsCodeAt}

-- each process stands in a state of its codes
abbrev pub AreStatesOf : FlatDesign → List ProcState → Type 0
AreStatesOf design states =
    (process : ℕ) (own : ProcState) (code : Code) → slice_get states process ≡ Some own → IsCodeAt design process code → IsStateOf code own
