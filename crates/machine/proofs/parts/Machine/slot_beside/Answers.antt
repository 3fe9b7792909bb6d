-- The steps of the slot go beside the good machine's.
use Rattle.std.proofs.Common.{◌∙◌, length, sym, ap, subst}
use Rattle.std.proofs.lemmas.List.{length-map}
use Rattle.v_design.specs.Designs.{FlatDesign}
use Rattle.v_design.specs.Plain.{process_of}
use Rattle.runs_beside.specs.Runs.{HasBegun}
use Rattle.machine.specs.Standing.{machine_kept}
use Rattle.machine.proofs.Counted.{beside-begins, beside-counted}
use Rattle.machine.proofs.parts.Machine.slot_beside.Goals as goal

pub run_slot-requires-clause-counts : goal.run_slot-requires-clause-counts
run_slot-requires-clause-counts g c = λ begins next.
    let m = c.args.self.now in
    beside-begins c.runs_go_beside.ensures (machine_kept m) begins c.args.goods.now c.args.tried.now c.in_ok-kept.kept c.requires.goods.0 c.args.steps.now (c.requires.goods.1 begins next)
    (subst (λ n. HasBegun n c.args.goods.now c.args.tried.now c.in_ok-kept.kept)
    (ap length c.as_slice-processes.ensures ∙ sym (length-map m.graph.now.design.now.processes process_of) ∙ ap (λ (d : FlatDesign). length d.processes) c.requires.standing.graph)
    c.in_ok-kept.ensures)

pub returns-clause-ticks : goal.returns-clause-ticks
returns-clause-ticks g c = λ begins good_slots found next is tells were.
    beside-counted c.runs_go_beside.ensures c.run_slot.new.guide (machine_kept c.args.self.now) begins c.args.steps.now c.run_slot.new.steps c.in_ok-kept.kept c.args.goods.now c.args.tried.now
    c.in_ok-end.ensures.stays c.in_ok-kept.ensures.goods_are c.in_ok-kept.ensures.tried_are (c.in_ok-end.ensures.counts begins next) good_slots found is tells were
