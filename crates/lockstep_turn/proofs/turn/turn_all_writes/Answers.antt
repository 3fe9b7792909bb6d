-- Process by process of those of which updates are kept.
use Rattle.std.proofs.Common.{◌≡◌, ◌+◌, ◌≤◌, length, sym, ap, ◌∙◌, arith}
use Rattle.std.specs.Prelude.{Some, None, option_map}
use Rattle.vf_base.specs.Base.{process_number}
use Rattle.v_design.specs.Designs.{FlatDesign}
use Rattle.v_design.specs.PlainDesigns.{design_of}
use Rattle.v_design.specs.RulesHold.{rules_hold}
use Rattle.copy_state.specs.Entries.{first_from}
use Rattle.phase_faults.specs.copy_skip.Entries.{next-kept}
use Rattle.lockstep_turn.proofs.Writes.{left-falls, next-below, turned-all, turned-first, turned-more}
use Rattle.lockstep_turn.proofs.turn.turn_all_writes.Goals as goal

pub processes-init : goal.processes-init
processes-init g c = record {
  up = c.ascending.ensures.updates;
  from = 0;
  next_is = c.next_updates-next.ensures;
  so = turned-first c.args.now c.args.good.now.lanes c.args.own.now;
}

pub turn_one-requires-after_bounds : goal.turn_one-requires-after_bounds
turn_one-requires-after_bounds g c κs within =
    let so = c.processes.invariant in
    let own = c.processes.own in
    let at : first_from so.from own.copy.updates ≡ Some (process_number c.in-Some.process) = sym so.next_is ∙ ap (option_map process_number) c.in-Some.is in
    let low = next-below c.args.now so.from c.args.good.now.lanes c.args.own.now own so.so (process_number c.in-Some.process) (length g.N.World.design.processes) c.requires.there
    so.up at in
    omega (arith, low, c.requires.lanes)

pub overflow_add-process : goal.overflow_add-process
overflow_add-process g c =
    let so = c.processes.invariant in
    let own = c.processes.own in
    let at : first_from so.from own.copy.updates ≡ Some (process_number c.in-Some.process) = sym so.next_is ∙ ap (option_map process_number) c.in-Some.is in
    let low = next-below c.args.now so.from c.args.good.now.lanes c.args.own.now own so.so (process_number c.in-Some.process) (length g.N.World.design.processes) c.requires.there
    so.up at in
    let few = (rules_hold (design_of c.design-design.result.now) c.design-design.result.now.rules).few_processes in
    let count = ap (λ (d : FlatDesign). length d.processes) c.design-design.ensures.world in
    omega (arith, low, few, count)

pub processes-preserved : goal.processes-preserved
processes-preserved g c =
    let so = c.processes.invariant in
    let own = c.processes.own in
    let at : first_from so.from own.copy.updates ≡ Some (process_number c.in-Some.process) = sym so.next_is ∙ ap (option_map process_number) c.in-Some.is in
    record {
      up = c.ascending-in-Some.ensures.updates;
      from = process_number c.in-Some.process + 1;
      next_is = c.next_updates-next-in-Some.ensures;
      so =
          turned-more c.args.now so.from c.args.good.now.lanes c.args.own.now own so.so (process_number c.in-Some.process) c.turn_one.new.own so.up at
          c.in_ok-turn_one.ensures;
    }

pub processes-smaller : goal.processes-smaller
processes-smaller g c =
    let so = c.processes.invariant in
    let own = c.processes.own in
    let process = process_number c.in-Some.process in
    let at : first_from so.from own.copy.updates ≡ Some process = sym so.next_is ∙ ap (option_map process_number) c.in-Some.is in
    let low = next-below c.args.now so.from c.args.good.now.lanes c.args.own.now own so.so process (length g.N.World.design.processes) c.requires.there so.up at in
    left-falls (length g.N.World.design.processes) c.processes.next c.in-Some.process c.next_updates-next-in-Some.result c.in-Some.is low
    (λ later e.
    let more : first_from (process + 1) c.turn_one.new.own.copy.updates ≡ Some (process_number later) = sym c.next_updates-next-in-Some.ensures ∙ ap (option_map process_number) e in
    let since : process + 1 ≤ process_number later = (next-kept (process + 1) (process_number later) c.turn_one.new.own.copy.updates c.ascending-in-Some.ensures.updates more).low in
    omega (arith, since))

pub returns : goal.returns
returns g c =
    let so = c.processes.invariant in
    let own = c.processes.own in
    let none : first_from so.from own.copy.updates ≡ None = sym so.next_is ∙ ap (option_map process_number) c.in_default.is in
    record {
      rest = so.so.rest;
      values = so.so.values;
      writes = turned-all c.args.now so.from c.args.good.now.lanes c.args.own.now own so.so none;
    }
