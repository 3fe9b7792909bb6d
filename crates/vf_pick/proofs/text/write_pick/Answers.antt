-- The fault of a picked strobe, its line, and the totals.
use Rattle.std.proofs.Common.{◌++◌, ◌∷◌, [], List, ℕ, map, codes}
use Rattle.v_design.specs.Plain.{fault_of}
use Rattle.v_design.specs.PlainDesigns.{design_of}
use Rattle.pick_laws.specs.Kept.{kept_strobes}
use Rattle.vf_pick.specs.declared.picking.Picked.{Picked}
use Rattle.vf_pick.specs.Faults.{lists_of}
use Rattle.vf_pick.specs.Texts.{fault_needing, strobe_text}
use Rattle.vf_pick.proofs.Lines.{picked-at, lines-more, text-done}
use Rattle.vf_pick.proofs.text.write_pick.Goals as goal

pub bounds-faults-one : goal.bounds-faults-one
bounds-faults-one c =
    let none : Picked = record { time = 0; fault = record { 0 = 0 } } in
    (picked-at (design_of c.args.design.now) c.as_slice-faults.result.now c.args.plan.now.faults c.args.hard.now (kept_strobes (lists_of c.args.hard.now) c.args.plan.now.strobes)
    c.args.picked.now c.picked.one-index none c.as_slice-faults.ensures c.requires.listed c.requires.picked c.picked-test.true).low

pub picked-preserved : goal.picked-preserved
picked-preserved c =
    let none : Picked = record { time = 0; fault = record { 0 = 0 } } in
    let kept : List ℕ = kept_strobes (lists_of c.args.hard.now) c.args.plan.now.strobes in
    let here = picked-at (design_of c.args.design.now) c.as_slice-faults.result.now c.args.plan.now.faults c.args.hard.now kept
    c.args.picked.now c.picked.one-index none c.as_slice-faults.ensures c.requires.listed c.requires.picked c.picked-test.true in
    lines-more (λ strobe. strobe_text (design_of c.args.design.now) strobe (fault_needing kept strobe (map fault_of c.as_slice-faults.result.now) (lists_of c.args.hard.now)))
    kept c.picked.one-index (codes "vfault pick 1" ++ 10 ∷ []) c.picked.out.items c.append_strobe.new.out.items _ here.within c.picked.invariant c.in_ok-append_strobe.ensures (here.line _)

pub returns : goal.returns
returns c =
    text-done (design_of c.args.design.now) c.as_slice-faults.result.now c.args.plan.now.faults c.args.hard.now c.args.plan.now.strobes c.as_slice-strobes.result.now c.args.picked.now
    c.picked.one-index c.count_detected.result c.picked.out.items c.append_total.new.out.items
    c.as_slice-faults.ensures c.as_slice-strobes.ensures c.requires.picked c.picked-test.false c.count_detected.ensures c.picked.invariant c.in_ok-append_total.ensures
