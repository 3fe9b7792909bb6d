-- What a window tells of the state before a slot.
use Rattle.std.proofs.Common.{◌≡◌, ◌+◌, map, Vec, Global, refl, sym, ap, subst, ◌∙◌, arith}
use Rattle.std.proofs.lemmas.List.{length-map}
use Rattle.v_design.specs.Assignments.{value_at}
use Rattle.v_design.specs.Plain.{due_of}
use Rattle.v_design.specs.declared.plan.Due.{Due}
use Rattle.moment_parts.specs.Lanes.{lane_left}
use Rattle.moment_parts.specs.Turned.{at_end_of_sleep, AreWokenWhere}
use Rattle.passed_blocks.specs.moment_laws.Begins.{HasSlot}
use Rattle.passed_blocks.specs.moment_laws.Shown.{IsWhole}
use Rattle.good_moment.proofs.moment.GoodMoment.go_to.Goals as goal

pub overflow_add-slot : goal.overflow_add-slot
overflow_add-slot g c = omega (arith, c.ends-through.ensures.slots, c.requires.slot)

pub put_values-requires-clause-count : goal.put_values-requires-clause-count
put_values-requires-clause-count g c κs within = (subst (λ k. IsWhole g.N.World.design k) (sym c.self.view_is) c.requires.whole).counts.values

pub put_values-requires-clause-few : goal.put_values-requires-clause-few
put_values-requires-clause-few g c κs within = let few = c.keeps_rules.ensures.few_objects in omega (arith, few)

pub put_states-requires-clause-count : goal.put_states-requires-clause-count
put_states-requires-clause-count g c κs within = (subst (λ k. IsWhole g.N.World.design k) (sym c.self.view_is) c.requires.whole).counts.states

pub put_states-requires-clause-few : goal.put_states-requires-clause-few
put_states-requires-clause-few g c κs within = let few = c.keeps_rules.ensures.few_processes in omega (arith, few)

pub put_states-requires-clause-states : goal.put_states-requires-clause-states
put_states-requires-clause-states g c κs within = (subst (λ k. IsWhole g.N.World.design k) (sym c.self.view_is) c.requires.whole).states

pub put_later-requires-clause-count : goal.put_later-requires-clause-count
put_later-requires-clause-count g c κs within =
    sym (length-map c.self.inside.standing.later.items (λ (l : Vec Due Global). map due_of l.items))
    ∙ (subst (λ k. IsWhole g.N.World.design k) (sym c.self.view_is) c.requires.whole).counts.later

pub put_later-requires-clause-few : goal.put_later-requires-clause-few
put_later-requires-clause-few g c κs within = let few = c.keeps_rules.ensures.few_processes in omega (arith, few)

pub returns : goal.returns
returns g c =
    let design = g.N.World.design in
    let plan = g.N.World.plan in
    let s = c.self.inside in
    let w = c.args.window.now in
    let number = c.args.slot in
    let whole = subst (λ k. IsWhole design k) (sym c.self.view_is) c.requires.whole in
    let there : HasSlot design plan (w.before + number) = c.slots_are_shown.ensures.there design plan w.before w.through number w.ending c.begins.ensures.window c.requires.slot in
    let time : c.slot_time-time.result ≡ there.slot.begins.time = c.slot_time-time.ensures there.slot there.is in
    c.slots_are_shown.ensures.shown design plan w.before w.through number there.slot c.put_states.new.states.items c.awake.new.states.items _ c.keeps_rules.ensures c.requires.slot there.is
    c.rests_before-2.ensures.few c.rests_before.ensures.rests
    (record {
      before_is = c.begins.ensures.number;
      through_is = c.ends-through.ensures.number;
      slot_is = refl;
      phase_is = c.phases_before.ensures;
      moment_is = c.first_moment-moment.ensures.moment;
      time_is = time;
      value_count = c.put_values.ensures.count;
      values = λ object low. c.put_values.ensures.values object low ∙ ap (λ v. value_at v object) c.first_moment-moment.ensures.values;
      state_count = c.in_ok-put_states.ensures.count;
      stand = c.in_ok-put_states.ensures.stand;
      wakes = subst (λ t. AreWokenWhere (at_end_of_sleep t) c.put_states.new.states.items c.awake.new.states.items) time c.awake.ensures;
      states_are = refl;
      later_count = length-map c.put_later.new.later.items (λ (l : Vec Due Global). map due_of l.items) ∙ c.in_ok-put_later.ensures.count;
      later = c.in_ok-put_later.ensures.later;
      lane_count = length-map c.clear_lanes.new.lanes.items lane_left ∙ c.clear_lanes.ensures.count ∙ sym (length-map s.standing.lanes.items lane_left) ∙ whole.counts.lanes;
      lanes = c.clear_lanes.ensures.none;
      ran_count = c.begin_count.ensures.count ∙ whole.counts.ran;
      ran = c.begin_count.ensures.none;
      runs = refl;
    })
