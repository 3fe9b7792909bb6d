-- Processes of the code as plain ones (nothing of the language).
use Rattle.std.specs.Prelude.{List}
use Rattle.v_elab.specs.Parts as plain
use Rattle.v_elab.specs.Parts.{Part}
use Rattle.v_elab.specs.Objects.{HeldObject}
use Rattle.v_elab.specs.Flat.{meaning_in}
use Rattle.object_statements.specs.Meanings.{IsMeaning}
use Rattle.object_statements.specs.declared.meaning.Meaning.{Meaning}
use Rattle.elab_nodes.specs.declared.basis.Basis.{Basis}
use Rattle.elab_nodes.specs.Bases.{IsBasis}

-- a meaning is that of a process's names, whatever the parts and the objects
abbrev pub IsMeantBy : Basis → plain.WalkedProcess → Meaning → Type 0
IsMeantBy basis process meaning = (parts : List Part) (objects : List HeldObject) → IsBasis parts objects basis → IsMeaning (meaning_in parts objects process) meaning
