-- Nodes and processes whose names are those over which they are made (IEEE 1364-2001, clause 9).
use Rattle.std.specs.Prelude.{List}
use Rattle.v_elab.specs.Parts.{Part, WalkedProcess}
use Rattle.v_elab.specs.Objects.{HeldObject}
use Rattle.v_elab.specs.Drivers.{NodeFunction}
use Rattle.sized_walks.specs.Texts.{IsSizedFunction, AreSizedProcesses}
use Rattle.elab_nodes.specs.Bases.{IsBasis}
use Rattle.elab_nodes.specs.declared.basis.Basis.{Basis}

-- what a node does whose names are those over which it is made
pub record HasSizedFunction (basis : Basis) (function : NodeFunction) : Type 0 where
  pub parts : List Part
  pub objects : List HeldObject
  pub basis_is : IsBasis parts objects basis
  pub sized : IsSizedFunction parts objects function

-- processes whose names are those over which they are made
pub record HasSizedProcesses (basis : Basis) (processes : List WalkedProcess) : Type 0 where
  pub parts : List Part
  pub objects : List HeldObject
  pub basis_is : IsBasis parts objects basis
  pub sized : AreSizedProcesses parts objects processes
