-- Each process stands in a state of its code.
use Rattle.std.proofs.Common.{◌∙◌, length, map, sym, ap, Vec, Global}
use Rattle.std.proofs.lemmas.List.{length-map}
use Rattle.v_design.specs.Designs.{FlatDesign}
use Rattle.v_design.specs.Plain.{due_of, object_of}
use Rattle.v_design.specs.declared.plan.Due.{Due}
use Rattle.moment_parts.specs.Lanes.{lane_left}
use Rattle.good_moment.proofs.First.{begun-states}
use Rattle.good_moment.proofs.moment.GoodMoment.new.Goals as goal

pub first_standing-requires : goal.first_standing-requires
first_standing-requires g c process code here = (c.codes.ensures.world.each process code here).code_of

pub returns : goal.returns
returns g c =
    let design = g.N.World.design in
    let begun = c.in_ok-standing.ensures in
    let count = c.codes.ensures.world.count in
    let standing = c.in_ok-standing.standing in
    record {
      counts = record {
        values =
            c.in_ok-values.ensures ∙ ap length c.as_slice.ensures ∙ sym (length-map c.design.result.now.objects object_of) ∙ ap (λ (d : FlatDesign). length d.objects) (sym c.design.ensures.world);
        states = begun.states_count ∙ count;
        later = length-map standing.later.items (λ (l : Vec Due Global). map due_of l.items) ∙ begun.later_count ∙ count;
        lanes = length-map standing.lanes.items lane_left ∙ begun.lanes_count ∙ count;
        ran = begun.ran_count ∙ count;
      };
      states = begun-states c.codes_are_one.ensures.read design c.codes.result.now standing.states.items standing.later.items standing.lanes.items standing.ran.items c.codes.ensures.world begun;
    }
