use Rattle.std.specs.Prelude.{◌≡◌, refl, [], ◌∷◌, Err, codes}
use Rattle.v_tree.specs.Trees.{InstanceItem, PlainHeads, SourceUnit}
use Rattle.v_elab.specs.declared.Mode.TheVariants.{Usual}
use Rattle.v_names.specs.Faults.{TooDeep}
use Rattle.v_elab.specs.Flat.{flat}
use Rattle.elab_examples.specs.Build.{at, faulty}

-- module top; top i(); endmodule
abbrev source : SourceUnit
source = record {
  modules = (record {
    name = (codes "top");
    place = (at 1 8);
    parameters = ([]);
    heads = (PlainHeads ([]));
    items =
        ((InstanceItem (at 1 13) (codes "top") ([]) (record { name = (codes "i"); place = (at 1 17); connections = ([]) } ∷ [])) ∷
        []);
  } ∷ []);
}

abbrev pub Found : Type 0
Found = flat source (codes "top") Usual ≡ Err (faulty 1 17 TooDeep)

found : Found
found = refl

-- what the definitions give of the texts above
abbrev pub Holds : Type 0
Holds = Found

pub holds : Holds
holds = found
