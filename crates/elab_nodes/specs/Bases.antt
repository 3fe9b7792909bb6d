-- What nodes and processes are made over, in the code and as plain data (IEEE 1364-2001, clause 12.4 for names).
use Rattle.std.proofs.Common.{◌≡◌, ℕ, List, sym, ap, subst, ◌∙◌}
use Rattle.std.specs.Borrow.{Bor}
use Rattle.v_elab.specs.Parts.{Part, WalkedProcess}
use Rattle.v_elab.specs.Objects.{HeldObject, holders_at}
use Rattle.v_elab.specs.Flat.{widths_of, meaning_in}
use Rattle.v_tree.specs.Trees.{Identifier}
use Rattle.object_names.specs.NameTables.{NameTables, AreNamesOf}
use Rattle.object_names.specs.Instances.{HoldNames}
use Rattle.object_names.specs.declared.instance.InstanceNames.{InstanceNames}
use Rattle.object_statements.specs.Meanings.{IsMeaning}
use Rattle.object_statements.specs.declared.meaning.Meaning.{Meaning}
use Rattle.elab_nodes.specs.declared.basis.Basis.{Basis}

-- the names and the widths are those of some parts with their objects
pub record IsBasis (parts : List Part) (objects : List HeldObject) (basis : Basis) : Type 0 where
  pub names_are : AreNamesOf parts objects basis.names.now
  pub widths_are : basis.widths.now ≡ widths_of objects

-- the names of an instance by its path
pub names_at : (parts : List Part) (objects : List HeldObject) (basis : Basis) (path : Identifier) (names : InstanceNames) → IsBasis parts objects basis → names.names ≡ basis.names →
    names.path.now ≡ path →
    HoldNames (holders_at parts objects path) names
names_at parts objects basis path names are same at =
    record {
      parts = parts;
      objects = objects;
      names_are = subst (λ (n : Bor NameTables). AreNamesOf parts objects n.now) (sym same) are.names_are;
      holders_are = ap (holders_at parts objects) (sym at);
    }

-- what the names of a process mean
pub meant : (parts : List Part) (objects : List HeldObject) (basis : Basis) (process : WalkedProcess) (meaning : Meaning) → IsBasis parts objects basis → meaning.scope.now ≡ process.scope →
    meaning.names.names ≡ basis.names →
    meaning.names.path.now ≡ process.path → meaning.widths ≡ basis.widths → IsMeaning (meaning_in parts objects process) meaning
meant parts objects basis process meaning are scope names at widths =
    record { scope_is = sym scope; names_are = names_at parts objects basis process.path meaning.names are names at; widths_are = sym are.widths_are ∙ ap (λ (w : Bor (List ℕ)). w.now) (sym widths) }
