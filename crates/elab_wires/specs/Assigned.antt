-- The variables among names that a process assigns.
use Rattle.std.specs.Prelude.{List, filter}
use Rattle.v_tree.specs.Trees.{Identifier}
use Rattle.v_names.specs.Scopes.{is_reg, looked_up}
use Rattle.v_elab.specs.Parts.{WalkedProcess}
use Rattle.v_elab.specs.Drivers.{target_signals}

abbrev pub variables_among : WalkedProcess → List Identifier → List Identifier
variables_among process names = target_signals process (filter (λ name. is_reg (looked_up process.scope name)) names)
