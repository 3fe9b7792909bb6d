use Rattle.std.proofs.Common.{sym, subst, ◌∙◌, ap, map, arith}
use Rattle.vf_base.specs.Base.{object_number}
use Rattle.v_design.specs.Plain.{statement_of}
use Rattle.v_design.specs.Assignments.{value_at, run_statement}
use Rattle.node_eval.specs.Overlaid.{overlaid-own, overlaid-all}
use Rattle.node_eval.specs.Running.{MayRun}
use Rattle.node_eval.proofs.room.run_block.Goals as goal

pub run-requires-clause-may : goal.run-requires-clause-may
run-requires-clause-may g c =
    subst (λ values. MayRun values c.args.outputs.now (statement_of c.args.statement.now))
    (sym (overlaid-own c.args.outputs.now c.hold_first.new.held (g.V.Values.values c.args.values.now) c.hold_first.ensures)) c.requires.may

pub returns-clause-outputs : goal.returns-clause-outputs
returns-clause-outputs g c =
    let values = g.V.Values.values c.args.values.now in
    overlaid-all c.args.outputs.now c.run.new.held values c.requires.once (omega (arith, c.requires.alike, c.run.auto.held, c.hold_first.auto.held)) c.requires.there
    ∙ ap (λ l. map (value_at l) (map object_number c.args.outputs.now)) (c.run.ensures ∙ ap (run_statement (statement_of c.args.statement.now))
    (overlaid-own c.args.outputs.now c.hold_first.new.held (g.V.Values.values c.args.values.now) c.hold_first.ensures))
