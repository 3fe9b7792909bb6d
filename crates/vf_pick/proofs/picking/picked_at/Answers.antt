-- The first fault of the strobe that has no other kept one.
use Rattle.std.proofs.Common.{get_or, refl, sym, ap, ◌∙◌}
use Rattle.strobe_detect.specs.declared.hard.Hard.{Hard}
use Rattle.vf_pick.specs.declared.picking.Picked.{Picked}
use Rattle.vf_pick.specs.Faults.{lists_of}
use Rattle.vf_pick.proofs.Needed.{IsKept}
use Rattle.vf_pick.proofs.Rows.{row-within, row-found, row-needing, row-stands}
use Rattle.vf_pick.proofs.picking.picked_at.Goals as goal

pub first_with_one-requires : goal.first_with_one-requires
first_with_one-requires c =
    row-within c.args.strobes.now (lists_of c.args.hard.now) c.args.index.now c.args.place c.moments.result.now c.args.counts.now
    c.requires.indexed c.requires.within c.moments.ensures.moments c.requires.counted.whole

pub unwrap-fault-requires : goal.unwrap-fault-requires
unwrap-fault-requires c =
    let kept : IsKept c.args.strobes.now (lists_of c.args.hard.now) c.args.counts.now (get_or c.args.strobes.now c.args.place 0) =
    record { ascending = c.requires.ascending; ascend = c.requires.hard_ascend; parts = c.requires.parts; counted = c.requires.counted; stands = c.requires.kept } in
    row-found c.args.strobes.now (lists_of c.args.hard.now) c.args.index.now c.args.counts.now c.args.place c.moments.result.now c.first_with_one.result
    kept c.requires.indexed c.requires.within c.moments.ensures.moments c.first_with_one.ensures

pub bounds-hard-fault : goal.bounds-hard-fault
bounds-hard-fault c =
    let kept : IsKept c.args.strobes.now (lists_of c.args.hard.now) c.args.counts.now (get_or c.args.strobes.now c.args.place 0) =
    record { ascending = c.requires.ascending; ascend = c.requires.hard_ascend; parts = c.requires.parts; counted = c.requires.counted; stands = c.requires.kept } in
    row-needing c.args.strobes.now c.args.hard.now c.args.index.now c.args.counts.now c.args.place c.moments.result.now c.unwrap-fault.result
    kept c.requires.indexed c.requires.within c.moments.ensures.moments (sym c.unwrap-fault.ensures ∙ c.first_with_one.ensures)

pub bounds-hard-fault-2 : goal.bounds-hard-fault-2
bounds-hard-fault-2 c =
    let kept : IsKept c.args.strobes.now (lists_of c.args.hard.now) c.args.counts.now (get_or c.args.strobes.now c.args.place 0) =
    record { ascending = c.requires.ascending; ascend = c.requires.hard_ascend; parts = c.requires.parts; counted = c.requires.counted; stands = c.requires.kept } in
    row-needing c.args.strobes.now c.args.hard.now c.args.index.now c.args.counts.now c.args.place c.moments.result.now c.unwrap-fault.result
    kept c.requires.indexed c.requires.within c.moments.ensures.moments (sym c.unwrap-fault.ensures ∙ c.first_with_one.ensures)

pub returns : goal.returns
returns c =
    let kept : IsKept c.args.strobes.now (lists_of c.args.hard.now) c.args.counts.now (get_or c.args.strobes.now c.args.place 0) =
    record { ascending = c.requires.ascending; ascend = c.requires.hard_ascend; parts = c.requires.parts; counted = c.requires.counted; stands = c.requires.kept } in
    let picked : Picked = record { time = get_or c.args.strobes.now c.args.place 0; fault = (get_or c.args.hard.now c.unwrap-fault.result c.index-hard-fault.result).fault } in
    row-stands c.args.strobes.now c.args.hard.now c.args.index.now c.args.counts.now c.args.place c.moments.result.now c.unwrap-fault.result c.index-hard-fault.result picked
    kept c.requires.indexed c.requires.within c.moments.ensures.moments (sym c.unwrap-fault.ensures ∙ c.first_with_one.ensures)
    c.index-hard-fault.is refl (ap (λ (one : Hard). one.fault) (sym c.index-hard-fault.is))
