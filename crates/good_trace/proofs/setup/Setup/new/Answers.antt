use Rattle.std.proofs.Common.{sym, subst}
use Rattle.vf_base.specs.Lists.{AllHold}
use Rattle.v_design.specs.Plain.{statement_of}
use Rattle.v_design.specs.PlainDesigns.{design_of}
use Rattle.v_design.specs.RulesHold.{rules_hold}
use Rattle.v_design.specs.Sized.{IsSizedStatement}
use Rattle.v_design.specs.declared.plan.Process.{Process}
use Rattle.good_trace.specs.Setups.{AreCompiled}
use Rattle.good_trace.proofs.Growing.{sized-processes}
use Rattle.good_trace.proofs.setup.Setup.new.Goals as goal

pub compile_all-requires : goal.compile_all-requires
compile_all-requires g c =
    let design = c.args.design.now in
    subst (AllHold (λ (process : Process). IsSizedStatement (statement_of process.body))) (sym c.as_slice.ensures)
    (sized-processes (design_of design) design.processes (rules_hold (design_of design) design.rules).processes)

pub invariant_of-result : goal.invariant_of-result
invariant_of-result g c = record {
  design_is = c.requires.world.0;
  plan_is = c.requires.world.1;
  graph_is = c.requires.graph;
  plan_fits = c.requires.plan;
  codes_are = subst (λ processes. AreCompiled processes c.in_ok-codes.codes.items) c.as_slice.ensures c.in_ok-codes.ensures;
}

pub returns-clause-codes : goal.returns-clause-codes
returns-clause-codes g c = subst (λ processes. AreCompiled processes c.in_ok-codes.codes.items) c.as_slice.ensures c.in_ok-codes.ensures
