-- What connections make of each object (nothing of the language).
use Rattle.std.specs.Prelude.{◌≡◌, ℕ, Bool, true, false, List, [], Option, Some, None, Result, Ok, Err, get_or}
use Rattle.std.specs.declared.alloc.Global.{Global}
use Rattle.std.specs.declared.vec.Vec.{Vec}
use Rattle.vf_base.specs.Base.{source_place}
use Rattle.v_names.specs.Faults.{Fault, BadConnection, first_fault, fault_at}
use Rattle.v_ports.specs.JoinedObjects.{PortUsed, actual_of, twice_used}
use Rattle.v_ports.specs.declared.fault.PortFault.{PortFault}
use Rattle.v_ports.specs.declared.fault.PortFault.TheVariants.{PortMismatch, TwoDrivers, NoMemory}
use Rattle.v_ports.specs.declared.join.Use.{Use}
use Rattle.v_ports.specs.declared.join.Use.TheVariants.{Unused, Used}

-- what stands for an object
abbrev pub use_at : List Use → ℕ → Use
use_at uses object = get_or uses object Unused

-- whether a connection names a port
abbrev pub is_used : Use → Bool
is_used Unused = false
is_used (Used actual) = true

-- what an object is joined into, or another answer where no connection names it
abbrev pub actual_or : Use → Option ℕ → Option ℕ
actual_or Unused other = other
actual_or (Used actual) other = actual

-- what each object is joined into by itself
abbrev pub next_of : List Use → ℕ → Option ℕ
next_of uses object = actual_or (use_at uses object) None

-- the code's uses say what each object is joined into by itself, no port being named twice; else the fault is that of the port that is
abbrev pub UsesGive : List PortUsed → Result (Vec Use Global) PortFault → Type 0
UsesGive parts (Ok uses) = (first_fault (twice_used [] parts) ≡ None) × ((object : ℕ) → next_of uses.items object ≡ actual_of parts object)
UsesGive parts (Err NoMemory) = Unit {0}
UsesGive parts (Err (PortMismatch place)) = first_fault (twice_used [] parts) ≡ Some (fault_at (source_place place) BadConnection)
UsesGive parts (Err (TwoDrivers place bit)) = ⊥
