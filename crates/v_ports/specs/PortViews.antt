-- The code's ports and answers as plain data.
use Rattle.std.specs.Prelude.{◌≡◌, ℕ, List, Result, Ok, Err}
use Rattle.std.specs.declared.alloc.Global.{Global}
use Rattle.std.specs.declared.vec.Vec.{Vec}
use Rattle.vf_base.specs.Base.{source_place}
use Rattle.v_names.specs.Faults.{Fault, BadConnection}
use Rattle.v_ports.specs.JoinedObjects.{PortUsed}
use Rattle.v_ports.specs.declared.fault.PortFault.{PortFault}
use Rattle.v_ports.specs.declared.fault.PortFault.TheVariants.{PortMismatch, TwoDrivers, NoMemory}
use Rattle.v_ports.specs.declared.join.PortUse.{PortUse}

abbrev pub port_used : PortUse → PortUsed
port_used p = record { formal = p.formal; actual = p.actual; place = source_place p.place }

-- the code's answer is the list of joined objects, or the port that is connected twice, or there was no memory
abbrev pub JoinsGive : Result (List ℕ) Fault → Result (Vec ℕ Global) PortFault → Type 0
JoinsGive (Ok objects) (Ok answer) = answer.items ≡ objects
JoinsGive (Ok objects) (Err NoMemory) = Unit {0}
JoinsGive (Ok objects) (Err (PortMismatch place)) = ⊥
JoinsGive (Ok objects) (Err (TwoDrivers place bit)) = ⊥
JoinsGive (Err fault) (Ok answer) = ⊥
JoinsGive (Err fault) (Err NoMemory) = Unit {0}
JoinsGive (Err fault) (Err (PortMismatch place)) = fault ≡ record { place = source_place place; wrong = BadConnection }
JoinsGive (Err fault) (Err (TwoDrivers place bit)) = ⊥
