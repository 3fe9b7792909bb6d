-- Slot by slot, and where the loop ends.
use Rattle.std.proofs.Common.{◌≡◌, ◌<◌, Some, sym, subst, ◌∙◌}
use Rattle.v_design.specs.Runs.{first_run}
use Rattle.order_laws.specs.EveryRun.{slots_by}
use Rattle.machine.specs.Standing.{machine_kept}
use Rattle.fault_grade.specs.Reached.{next_of}
use Rattle.cert_laws.specs.Written.{run_lines}
use Rattle.vf_certify.proofs.SlotsLeft.{time_left, left-falls, goes-onward, over-none, over-later}
use Rattle.vf_certify.proofs.run.append_slots.Goals as goal

pub returns-then-until-time : goal.returns-then-until-time
returns-then-until-time g c =
    let inv = c.slots.invariant in
    let machine = machine_kept c.args.machine.now in
    let here : next_of c.slots.machine ≡ Some c.in-Some.time = sym inv.next_is ∙ c.in-Some.is in
    over-later machine c.args.end c.args.bound c.in-Some.time c.slots.machine inv.left.0 (run_lines (slots_by c.args.bound (first_run machine c.args.end))) c.args.out.now.items c.slots.out.items
    inv.left.1 inv.left.2 here (λ h. c.earlier-until.ensures.last c.in-Some.time c.if-until-time.true h)

pub slots-smaller : goal.slots-smaller
slots-smaller g c =
    let inv = c.slots.invariant in
    let machine = machine_kept c.args.machine.now in
    let until = c.earlier-until.result in
    let next = c.next_time-next-in-Some.result in
    let on = goes-onward c.args.end c.args.bound until c.in-Some.time c.args.machine.now c.slots.machine c.append_slot.new.machine inv.left.0
    (run_lines (slots_by c.args.bound (first_run machine c.args.end))) c.args.out.now.items c.slots.out.items c.append_slot.new.out.items
    c.earlier-until.ensures.one c.earlier-until.ensures.other c.if-until-time.false inv.left.1 inv.left.2 c.in_ok-append_slot.ensures in
    subst (λ at. time_left until next < time_left until at) (sym c.in-Some.is)
    (left-falls until c.in-Some.time next c.if-until-time.false (λ later e. on.later later (sym c.next_time-next-in-Some.ensures ∙ e)))

pub slots-preserved : goal.slots-preserved
slots-preserved g c =
    let inv = c.slots.invariant in
    let machine = machine_kept c.args.machine.now in
    let on = goes-onward c.args.end c.args.bound c.earlier-until.result c.in-Some.time c.args.machine.now c.slots.machine c.append_slot.new.machine inv.left.0
    (run_lines (slots_by c.args.bound (first_run machine c.args.end))) c.args.out.now.items c.slots.out.items c.append_slot.new.out.items
    c.earlier-until.ensures.one c.earlier-until.ensures.other c.if-until-time.false inv.left.1 inv.left.2 c.in_ok-append_slot.ensures in
    record { next_is = c.next_time-next-in-Some.ensures; left = (on.slots, on.left, on.whole) }

pub returns : goal.returns
returns g c =
    let inv = c.slots.invariant in
    let machine = machine_kept c.args.machine.now in
    over-none machine c.args.end c.args.bound c.slots.machine inv.left.0 (run_lines (slots_by c.args.bound (first_run machine c.args.end))) c.args.out.now.items c.slots.out.items inv.left.1 inv.left.2
    (sym inv.next_is ∙ c.in_default.is)
