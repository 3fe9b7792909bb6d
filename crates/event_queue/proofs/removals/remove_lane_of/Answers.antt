-- The lane at the place is taken out, or it isn't there.
use Rattle.std.proofs.Common.{◌<◌, ◌∙◌, length, sym, ap, arith}
use Rattle.std.proofs.lemmas.List.{get_or_default}
use Rattle.std.proofs.lemmas.Bool.{eqb-true, eqb-false}
use Rattle.event_queue.specs.Arranged.{lane_number}
use Rattle.event_queue.proofs.Removed.{remove-others, all-others}
use Rattle.event_queue.proofs.removals.remove_lane_of.Goals as goal
use Rattle.event_queue.proofs.removals.remove_lane_of.Goals.{else-place-len-via-then-place-len+else-eq, else-place-len-via-else-place-len}

pub returns-then-eq : goal.returns-then-eq
returns-then-eq c =
    let less : c.args.place < length c.args.lanes.now.items = omega (arith, c.len.ensures) in
    c.remove.ensures.items
    ∙ remove-others lane_number c.args.process.0 c.args.lanes.now.items c.args.place c.index.result.now c.requires.ascends c.requires.place less
    (sym (ap lane_number c.index.ensures) ∙ eqb-true _ _ (sym c.if-eq.ensures))

pub returns-else-place-len : goal.returns-else-place-len
returns-else-place-len c =
    elim c.else-place-len.branch [
      | else-place-len-via-then-place-len+else-eq w ↦ all-others lane_number c.args.process.0 c.args.lanes.now.items c.args.place c.requires.ascends c.requires.place
          (λ d less e. eqb-false _ _ (sym w.if-eq.ensures) (ap lane_number (w.index.ensures ∙ get_or_default c.args.lanes.now.items c.args.place w.index.result.now d less) ∙ e))
      | else-place-len-via-else-place-len w ↦ all-others lane_number c.args.process.0 c.args.lanes.now.items c.args.place c.requires.ascends c.requires.place
          (λ d less. absurd (omega (arith, c.len.ensures, less)))
    ]
