-- Process by process of those of which updates are kept.
use Rattle.std.proofs.Common.{◌≡◌, ◌+◌, ◌<◌, ◌≤◌, length, sym, ap, ◌∙◌, arith}
use Rattle.std.specs.Prelude.{Some, None, option_map}
use Rattle.vf_base.specs.Base.{process_number}
use Rattle.v_design.specs.Designs.{FlatDesign}
use Rattle.v_design.specs.PlainDesigns.{design_of}
use Rattle.v_design.specs.RulesHold.{rules_hold}
use Rattle.copy_state.specs.Entries.{first_from}
use Rattle.window_faults.specs.copy_skip.Entries.{next-kept}
use Rattle.lockstep_due.proofs.Entries.{due-all, due-more, left-falls}
use Rattle.lockstep_due.proofs.due.are_due_alike.Goals as goal

pub is_due_alike-requires-clause-process : goal.is_due_alike-requires-clause-process
is_due_alike-requires-clause-process g c κs within =
    let process = process_number c.in-Some.process in
    let at : first_from c.processes.invariant.from c.args.copy.now.updates ≡ Some process = sym c.processes.invariant.next_is ∙ ap (option_map process_number) c.in-Some.is in
    c.requires.there process (next-kept c.processes.invariant.from process c.args.copy.now.updates c.ascending.ensures.updates at).kept

pub overflow_add-process : goal.overflow_add-process
overflow_add-process g c =
    let process = process_number c.in-Some.process in
    let at : first_from c.processes.invariant.from c.args.copy.now.updates ≡ Some process = sym c.processes.invariant.next_is ∙ ap (option_map process_number) c.in-Some.is in
    let low : process < length g.N.World.design.processes =
    c.requires.there process (next-kept c.processes.invariant.from process c.args.copy.now.updates c.ascending.ensures.updates at).kept in
    let few = (rules_hold (design_of c.design-design.result.now) c.design-design.result.now.rules).few_processes in
    let count = ap (λ (d : FlatDesign). length d.processes) c.design-design.ensures.world in
    omega (arith, low, few, count)

pub processes-smaller : goal.processes-smaller
processes-smaller g c =
    let process = process_number c.in-Some.process in
    let at : first_from c.processes.invariant.from c.args.copy.now.updates ≡ Some process = sym c.processes.invariant.next_is ∙ ap (option_map process_number) c.in-Some.is in
    let low : process < length g.N.World.design.processes =
    c.requires.there process (next-kept c.processes.invariant.from process c.args.copy.now.updates c.ascending.ensures.updates at).kept in
    left-falls (length g.N.World.design.processes) c.processes.next c.in-Some.process c.next_updates-next-in-Some.result c.in-Some.is low
    (λ later e.
    let more : first_from (process + 1) c.args.copy.now.updates ≡ Some (process_number later) = sym c.next_updates-next-in-Some.ensures ∙ ap (option_map process_number) e in
    let since : process + 1 ≤ process_number later = (next-kept (process + 1) (process_number later) c.args.copy.now.updates c.ascending.ensures.updates more).low in
    omega (arith, since))

pub processes-preserved : goal.processes-preserved
processes-preserved g c =
    let process = process_number c.in-Some.process in
    let own = c.processes.invariant in
    let at : first_from c.processes.invariant.from c.args.copy.now.updates ≡ Some process = sym c.processes.invariant.next_is ∙ ap (option_map process_number) c.in-Some.is in
    record {
      from = process + 1;
      next_is = c.next_updates-next-in-Some.ensures;
      alike = λ one low.
          due-more g.N.World.design g.N.World.plan (c.args.window.now.before + c.args.slot) c.args.copy.now.updates own.from process one c.ascending.ensures.updates at own.alike
          (c.in_ok-alike.ensures c.if-not-alike.false) low;
    }

pub returns : goal.returns
returns g c =
    let none : first_from c.processes.invariant.from c.args.copy.now.updates ≡ None = sym c.processes.invariant.next_is ∙ ap (option_map process_number) c.in_default.is in
    λ yes process.
    due-all g.N.World.design g.N.World.plan (c.args.window.now.before + c.args.slot) c.args.copy.now.updates c.processes.invariant.from process none c.processes.invariant.alike
