use Rattle.std.specs.Prelude.{◌≡◌, refl, [], ◌∷◌, Err, codes}
use Rattle.v_tree.specs.Trees.{PlainHeads, SourceUnit}
use Rattle.v_elab.specs.declared.Mode.TheVariants.{Usual}
use Rattle.v_elab.specs.Refusals.{NoTop}
use Rattle.v_elab.specs.Flat.{flat}
use Rattle.elab_examples.specs.Build.{at}

-- module other; endmodule
abbrev source : SourceUnit
source = record {
  modules = (record {
    name = (codes "other");
    place = (at 1 8);
    parameters = ([]);
    heads = (PlainHeads ([]));
    items =
        ([]);
  } ∷ []);
}

abbrev pub Found : Type 0
Found = flat source (codes "top") Usual ≡ Err NoTop

found : Found
found = refl

-- what the definitions give of the texts above
abbrev pub Holds : Type 0
Holds = Found

pub holds : Holds
holds = found
