-- Faults as keys of a map (nothing of the language).
use Rattle.v_design.specs.Designs.{StuckAt, VariableBit, OutputBit, GateTerminal}
use Rattle.fault_list.specs.declared.key.FaultKey.{FaultKey}
use Rattle.fault_list.specs.declared.key.FaultKey.TheVariants.{Var, Out, Terminal}

-- the fault of a key
abbrev pub key_fault : FaultKey → StuckAt
key_fault (Var object bit value) = record { site = VariableBit object bit; value = value }
key_fault (Out node object bit value) = record { site = OutputBit node object bit; value = value }
key_fault (Terminal node terminal value) = record { site = GateTerminal node terminal; value = value }
