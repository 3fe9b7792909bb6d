-- What a module offers to its instances, as the code keeps it.
use Rattle.std.specs.Prelude.{◌≡◌, ℕ, Bool, List, [], ◌∷◌, ◌++◌, map, filter, Option, option_map, is_some}
use Rattle.std.specs.Borrow.{Bor}
use Rattle.v_tree.specs.Trees.{Identifier, SourceModule, has_name}
use Rattle.v_names.specs.Names.{Declaration, of_name, names_declared}
use Rattle.v_elab.specs.Connections.{is_open_parameter, open_parameters, head_names}
use Rattle.module_scope.specs.Kept.{kept}
use Rattle.module_scope.specs.Declarations.{declaration_seen, listed}
use Rattle.instance_checks.specs.declared.name_lists.Names.{Names}
use Rattle.instance_checks.specs.declared.offers.Formals.{Formals}

abbrev pub name_seen : Bor Identifier → Identifier
name_seen name = name.now

-- names in order, each also found
pub record AreNames (names : List Identifier) (offered : Names) : Type 0 where
  pub order_is : map name_seen offered.order.items ≡ names
  pub found_are : (name : Identifier) → is_some (kept offered.places name) ≡ has_name names name

-- some names are put behind others
pub record NamesGrow (more : List Identifier) (old new : Names) : Type 0 where
  pub grows : (names : List Identifier) → AreNames names old → AreNames (names ++ more) new

-- the parameters among some declarations that an instance may set
abbrev pub open_names : List Declaration → List Identifier
open_names declarations = map (λ (d : Declaration). d.name) (filter (λ (d : Declaration). is_open_parameter d.declared) declarations)

-- the name of a declaration, where an instance may set it
abbrev pub open_name : Declaration → List Identifier
open_name d = open_names (d ∷ [])

-- what a module offers
pub record AreFormals (m : SourceModule) (formals : Formals) : Type 0 where
  pub parameters_are : AreNames (open_parameters m) formals.parameters
  pub ports_are : AreNames (head_names m.heads) formals.ports
  pub declared_are : (name : Identifier) → of_name name (names_declared m) ≡ listed (option_map declaration_seen (kept formals.declared name))
