use Rattle.std.proofs.Common.{rules, ◌≡◌, false, ap, ◌∙◌, map}
use Rattle.vf_base.specs.Base.{object_number}
use Rattle.v_design.specs.Logs.{phase_changes}
use Rattle.v_design.specs.PlainDesigns.{design_of}
use Rattle.causal_monitor.proofs.TotalLaws.{settled-none}
use Rattle.causal_monitor.proofs.settled.fill_reached_if.Goals as goal

pub returns-then-not-reaches-clause-nets : goal.returns-then-not-reaches-clause-nets
returns-then-not-reaches-clause-nets c = λ positive.
    let design = design_of c.args.graph.now.design.now in
    let unmarked : c.args.reaches ≡ false = search rules in
    ap (map object_number) c.clear.ensures.items
    ∙ settled-none design (phase_changes design c.args.log.now.log) (map object_number c.args.wild.now) (object_number c.args.from) c.requires.wild (c.requires.reaches unmarked)
