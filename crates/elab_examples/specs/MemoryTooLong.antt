use Rattle.std.specs.Prelude.{◌≡◌, refl, false, [], ◌∷◌, Some, Err, codes}
use Rattle.four_value.specs.Values.{bits_of}
use Rattle.v_tree.specs.declared.token.NumberForm.TheVariants.{Plain}
use Rattle.v_tree.specs.Trees.{Number, MemoryBounds, RegItem, PlainHeads, SourceUnit}
use Rattle.v_elab.specs.declared.Mode.TheVariants.{Usual}
use Rattle.v_elab.specs.declared.What.TheVariants.{Objects}
use Rattle.v_elab.specs.Refusals.{TooMany}
use Rattle.v_elab.specs.Flat.{flat}
use Rattle.elab_examples.specs.Build.{at}

-- module top; reg [7:0] m [0:65536]; endmodule
abbrev source : SourceUnit
source = record {
  modules = (record {
    name = (codes "top");
    place = (at 1 8);
    parameters = ([]);
    heads = (PlainHeads ([]));
    items =
        ((RegItem (at 1 13) false (Some (record { place = (at 1 17); high = (Number (at 1 18) Plain (bits_of 32 7)); low = (Number (at 1 20) Plain (bits_of 32 0)) }))
        (record {
          name = (codes "m");
          place = (at 1 23);
          content = (MemoryBounds (record {
            place = (at 1 25);
            high = (Number (at 1 26) Plain (bits_of 32 0));
            low = (Number (at 1 28) Plain (bits_of 32 65536));
          }));
        } ∷ [])) ∷
        []);
  } ∷ []);
}

abbrev pub Found : Type 0
Found = flat source (codes "top") Usual ≡ Err (TooMany Objects 65537)

found : Found
found = refl

-- what the definitions give of the texts above
abbrev pub Holds : Type 0
Holds = Found

pub holds : Holds
holds = found
