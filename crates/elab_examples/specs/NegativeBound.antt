use Rattle.std.specs.Prelude.{◌≡◌, refl, false, [], ◌∷◌, Some, None, Err, codes}
use Rattle.four_value.specs.Values.{bits_of}
use Rattle.four_value.specs.declared.operator.UnaryOperator.TheVariants.{Minus}
use Rattle.v_tree.specs.declared.token.NumberForm.TheVariants.{Plain}
use Rattle.v_tree.specs.Trees.{Number, Prefixed, WireItem, PlainHeads, SourceUnit}
use Rattle.v_elab.specs.declared.Mode.TheVariants.{Usual}
use Rattle.v_names.specs.Faults.{NoConstant}
use Rattle.v_elab.specs.Flat.{flat}
use Rattle.elab_examples.specs.Build.{at, faulty}

-- module top; wire [-1:0] w; endmodule
abbrev source : SourceUnit
source = record {
  modules = (record {
    name = (codes "top");
    place = (at 1 8);
    parameters = ([]);
    heads = (PlainHeads ([]));
    items =
        ((WireItem (at 1 13) false (Some (record { place = (at 1 18); high = (Prefixed (at 1 19) Minus (Number (at 1 20) Plain (bits_of 32 1))); low = (Number (at 1 22) Plain (bits_of 32 0)) }))
        (record { name = (codes "w"); place = (at 1 25); value = None } ∷ [])) ∷
        []);
  } ∷ []);
}

abbrev pub Found : Type 0
Found = flat source (codes "top") Usual ≡ Err (faulty 1 19 NoConstant)

found : Found
found = refl

-- what the definitions give of the texts above
abbrev pub Holds : Type 0
Holds = Found

pub holds : Holds
holds = found
