use Rattle.std.proofs.Common.{List, length, sym, ap, subst, ◌∙◌}
use Rattle.v_design.specs.Assignments.{first_values}
use Rattle.v_design.specs.Designs.{FlatDesign, good_machine}
use Rattle.v_design.specs.PlainDesigns.{design_of}
use Rattle.v_design.specs.RulesHold.{rules_hold}
use Rattle.v_design.specs.WellFormed.{KeepsRules}
use Rattle.process_code.specs.declared.code.Code.{Code}
use Rattle.run_ends.specs.RunEnds.{AreCodesOf}
use Rattle.good_trace.specs.Starting.{AreFirstStates}
use Rattle.good_trace.specs.RunsKept.{AreRunsKept}
use Rattle.good_trace.proofs.Steps.{run-fits}
use Rattle.good_trace.proofs.Keeping.{IsTrace-none}
use Rattle.good_trace.proofs.RunsKeeping.{AreStatesAt-start, AreRunsKept-none}
use Rattle.good_trace.proofs.Boundaries.{AreUpdatesAt-start}
use Rattle.good_trace.proofs.trace.Trace.new.Goals as goal

pub first_states-requires : goal.first_states-requires
first_states-requires g c = λ number code here. (c.codes-codes.ensures.world.each number code here).code_of

pub invariant_of-result : goal.invariant_of-result
invariant_of-result g c =
    let own = c.setup.inside.design.now in
    let codes = c.args.setup.now.codes in
    let are : AreCodesOf g.N.World.design codes = subst (AreCodesOf g.N.World.design) c.codes-codes.ensures.codes c.codes-codes.ensures.world in
    let first : AreFirstStates codes c.in_ok-states.states.items =
    subst (λ (l : List Code). AreFirstStates l c.in_ok-states.states.items) c.codes-codes.ensures.codes c.in_ok-states.ensures in
    record {
      slots_kept =
          IsTrace-none g.N.World.design g.N.World.plan 0 c.in_ok-values.values.items c.in_ok-slots.slots (subst KeepsRules (sym c.setup.invariant.design_is) (rules_hold (design_of own) own.rules))
          (c.in_ok-values.ensures.values ∙ ap (λ (d : FlatDesign). first_values (good_machine d)) (sym c.setup.invariant.design_is))
          (c.in_ok-values.ensures.count ∙ ap (λ (d : FlatDesign). length d.objects) (sym c.setup.invariant.design_is))
          (run-fits g.N.World.design g.N.World.plan c.setup.inside.plan.now c.setup.invariant.plan_is) c.in_ok-slots.ensures.table c.in_ok-slots.ensures.list;
      runs_kept =
          subst (AreRunsKept codes g.N.World.design g.N.World.plan 0 0 0 c.in_ok-states.states.items) (sym c.in_ok-slots.ensures.table.runs)
          (AreRunsKept-none codes g.N.World.design g.N.World.plan 0 c.in_ok-states.states.items are (AreStatesAt-start codes g.N.World.design g.N.World.plan c.in_ok-states.states.items are first));
      updates_kept =
          AreUpdatesAt-start g.N.World.design g.N.World.plan c.in_ok-updates.updates.items (c.in_ok-updates.ensures.count ∙ c.codes-codes.ensures.world.count)
          c.in_ok-updates.ensures.each;
    }
