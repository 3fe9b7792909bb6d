-- What stands before the names of an instance, as the code keeps it.
use Rattle.std.specs.Prelude.{◌≡◌}
use Rattle.v_elab.specs.Connections as plain
use Rattle.elab_connections.specs.declared.paths.Paths.{Paths}

abbrev pub ArePaths : plain.Paths → Paths → Type 0
ArePaths p paths = (paths.inner.value ≡ p.inner) × (paths.outer.value ≡ p.outer)
