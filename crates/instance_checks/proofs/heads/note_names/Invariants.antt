use Rattle.std.proofs.Common.{◌≡◌, map, flat_map, drop}
use Rattle.v_tree.specs.Trees.{SourceModule, NamedPlace}
use Rattle.v_tree.specs.Views.{name_of}
use Rattle.v_names.specs.Faults.{WrongKind, fault_if}
use Rattle.name_checks.specs.Noted.{noted}
use Rattle.instance_checks.specs.Offered.{AreFormals}
use Rattle.instance_checks.specs.Ports.{is_no_port}
use Rattle.instance_checks.proofs.heads.note_names.Given as goal

abbrev pub invariant-names : goal.invariant-names
invariant-names l =
    (m : SourceModule) → AreFormals m l.formals
    → noted l.first (flat_map (λ (n : NamedPlace). fault_if (is_no_port m n.name) n.place WrongKind) (map name_of (drop l.name-index l.names)))
    ≡ noted l.initial.first (flat_map (λ (n : NamedPlace). fault_if (is_no_port m n.name) n.place WrongKind) (map name_of l.names))
