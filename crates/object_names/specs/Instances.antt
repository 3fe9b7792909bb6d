-- What the names of one instance mean (IEEE 1364-2001, clause 12.4 for names).
use Rattle.std.specs.Prelude.{◌≡◌, List}
use Rattle.v_names.specs.SizedTrees.{Holders}
use Rattle.v_elab.specs.Parts.{Part}
use Rattle.v_elab.specs.Objects.{HeldObject, holders_at}
use Rattle.object_names.specs.NameTables.{AreNamesOf}
use Rattle.object_names.specs.declared.instance.InstanceNames.{InstanceNames}

-- the objects of an instance's names, with some parts and objects to which the names belong
pub record HoldNames (holders : Holders) (instance : InstanceNames) : Type 0 where
  pub parts : List Part
  pub objects : List HeldObject
  pub names_are : AreNamesOf parts objects instance.names.now
  pub holders_are : holders ≡ holders_at parts objects instance.path.now
