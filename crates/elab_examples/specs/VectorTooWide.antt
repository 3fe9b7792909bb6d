use Rattle.std.specs.Prelude.{◌≡◌, refl, false, [], ◌∷◌, Some, Err, codes}
use Rattle.four_value.specs.Values.{bits_of}
use Rattle.v_tree.specs.declared.token.NumberForm.TheVariants.{Plain}
use Rattle.v_tree.specs.Trees.{Number, NoContent, RegItem, PlainHeads, SourceUnit}
use Rattle.v_elab.specs.declared.Mode.TheVariants.{Usual}
use Rattle.v_names.specs.Faults.{BadWidth}
use Rattle.v_elab.specs.Flat.{flat}
use Rattle.elab_examples.specs.Build.{at, faulty}

-- module top; reg [128:0] w; endmodule
abbrev source : SourceUnit
source = record {
  modules = (record {
    name = (codes "top");
    place = (at 1 8);
    parameters = ([]);
    heads = (PlainHeads ([]));
    items =
        ((RegItem (at 1 13) false (Some (record { place = (at 1 17); high = (Number (at 1 18) Plain (bits_of 32 128)); low = (Number (at 1 22) Plain (bits_of 32 0)) }))
        (record { name = (codes "w"); place = (at 1 25); content = NoContent } ∷ [])) ∷
        []);
  } ∷ []);
}

abbrev pub Found : Type 0
Found = flat source (codes "top") Usual ≡ Err (faulty 1 17 BadWidth)

found : Found
found = refl

-- what the definitions give of the texts above
abbrev pub Holds : Type 0
Holds = Found

pub holds : Holds
holds = found
