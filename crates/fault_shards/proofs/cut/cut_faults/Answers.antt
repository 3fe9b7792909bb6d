-- The lists of the shards.
use Rattle.std.proofs.Common.{◌≡◌, ◌≤◌, length, take, ap, ◌∙◌, arith}
use Rattle.v_design.specs.PlainDesigns.{design_of}
use Rattle.fault_list.specs.Listed.{stuck}
use Rattle.fault_shards.proofs.Representing.{standing-count, cut-made, cut-within}
use Rattle.fault_shards.proofs.cut.cut_faults.Goals as goal

pub standing_faults-requires : goal.standing_faults-requires
standing_faults-requires c =
    let count : length c.in_ok-places.places.items ≡ length c.args.faults.now = c.in_ok-places.ensures.count in
    let same : length c.deref.result.now ≡ length c.in_ok-places.places.items = ap length c.deref.ensures.value in
    omega (arith, count, same)

pub invariant_of-result-clause-few : goal.invariant_of-result-clause-few
invariant_of-result-clause-few c =
    let few : length c.in_ok-representatives.representatives.items ≤ length c.deref-2.result.now = c.in_ok-representatives.ensures.few in
    let seen : length c.deref-2.result.now ≡ length c.in_ok-standing.standing.items = ap length c.deref-2.ensures.value in
    let count : length c.in_ok-standing.standing.items ≡ length c.args.faults.now =
    standing-count (design_of c.args.design.now) c.args.faults.now c.in_ok-places.places.items c.in_ok-standing.standing.items c.in_ok-places.ensures.classes
    (c.in_ok-standing.ensures ∙ ap (take (length c.args.faults.now)) c.deref.ensures.value) in
    let room : length c.args.faults.now ≤ 4294967295 = c.if-faults.false in
    omega (arith, few, seen, count, room)

pub invariant_of-result-clause-numbered : goal.invariant_of-result-clause-numbered
invariant_of-result-clause-numbered c =
    let count : length c.in_ok-standing.standing.items ≡ length c.args.faults.now =
    standing-count (design_of c.args.design.now) c.args.faults.now c.in_ok-places.places.items c.in_ok-standing.standing.items c.in_ok-places.ensures.classes
    (c.in_ok-standing.ensures ∙ ap (take (length c.args.faults.now)) c.deref.ensures.value) in
    let room : length c.args.faults.now ≤ 4294967295 = c.if-faults.false in
    omega (arith, count, room)

pub invariant_of-result-clause-within : goal.invariant_of-result-clause-within
invariant_of-result-clause-within c =
    cut-within (design_of c.args.design.now) (stuck c.args.faults.now) c.in_ok-standing.standing.items _
    (cut-made (design_of c.args.design.now) c.args.faults.now c.in_ok-places.places.items c.in_ok-standing.standing.items c.deref-2.result.now c.in_ok-representatives.representatives.items
    c.in_ok-places.ensures.classes
    (c.in_ok-standing.ensures ∙ ap (take (length c.args.faults.now)) c.deref.ensures.value) c.deref-2.ensures.value c.in_ok-representatives.ensures.own)

pub returns : goal.returns
returns c =
    let cut =
    cut-made (design_of c.args.design.now) c.args.faults.now c.in_ok-places.places.items c.in_ok-standing.standing.items c.deref-2.result.now c.in_ok-representatives.representatives.items
    c.in_ok-places.ensures.classes
    (c.in_ok-standing.ensures ∙ ap (take (length c.args.faults.now)) c.deref.ensures.value) c.deref-2.ensures.value c.in_ok-representatives.ensures.own in
    record { representatives = cut.representatives; classes = cut.classes; counted = cut.counted }
