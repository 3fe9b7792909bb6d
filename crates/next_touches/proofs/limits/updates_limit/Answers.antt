-- Process by process of those of which updates are kept.
use Rattle.std.proofs.Common.{◌≡◌, ◌+◌, ◌<◌, ◌≤◌, length, sym, ap, ◌∙◌, arith}
use Rattle.std.specs.Prelude.{Some, None, option_map}
use Rattle.vf_base.specs.Base.{process_number}
use Rattle.v_design.specs.Designs.{FlatDesign}
use Rattle.v_design.specs.PlainDesigns.{design_of}
use Rattle.v_design.specs.RulesHold.{rules_hold}
use Rattle.copy_state.specs.Entries.{first_from}
use Rattle.copy_skip.specs.Entries.{next-kept}
use Rattle.copy_skip.specs.Limits.{NoneBetween}
use Rattle.trace_window.specs.Acted.{stepped_at}
use Rattle.trace_window.specs.Moments.{window_events}
use Rattle.next_touches.proofs.Kept.{alone-all, alone-more, left-falls}
use Rattle.next_touches.proofs.limits.updates_limit.Goals as goal

pub step_until-until-requires-clause-there : goal.step_until-until-requires-clause-there
step_until-until-requires-clause-there g c κs within =
    let process = process_number c.in-Some.process in
    let at : first_from c.processes.invariant.from c.args.copy.now.updates ≡ Some process = sym c.processes.invariant.next_is ∙ ap (option_map process_number) c.in-Some.is in
    c.requires.there process (next-kept c.processes.invariant.from process c.args.copy.now.updates c.ascending.ensures.updates at).kept

pub overflow_add-process : goal.overflow_add-process
overflow_add-process g c =
    let process = process_number c.in-Some.process in
    let at : first_from c.processes.invariant.from c.args.copy.now.updates ≡ Some process = sym c.processes.invariant.next_is ∙ ap (option_map process_number) c.in-Some.is in
    let low : process < length g.N.World.design.processes =
    c.requires.there process (next-kept c.processes.invariant.from process c.args.copy.now.updates c.ascending.ensures.updates at).kept in
    let few = (rules_hold (design_of c.design-design.result.now) c.design-design.result.now.rules).few_processes in
    let count = ap (λ (d : FlatDesign). length d.processes) c.design-design.ensures.world in
    omega (arith, low, few, count)

pub processes-smaller : goal.processes-smaller
processes-smaller g c =
    let process = process_number c.in-Some.process in
    let here : option_map process_number c.processes.next ≡ Some process = ap (option_map process_number) c.in-Some.is in
    let at : first_from c.processes.invariant.from c.args.copy.now.updates ≡ Some process = sym c.processes.invariant.next_is ∙ here in
    let low : process < length g.N.World.design.processes =
    c.requires.there process (next-kept c.processes.invariant.from process c.args.copy.now.updates c.ascending.ensures.updates at).kept in
    left-falls (length g.N.World.design.processes) (option_map process_number c.processes.next) process (option_map process_number c.next_updates-next-in-Some.result) here low
    (λ later e.
    let more : first_from (process + 1) c.args.copy.now.updates ≡ Some later = sym c.next_updates-next-in-Some.ensures ∙ e in
    let since : process + 1 ≤ later = (next-kept (process + 1) later c.args.copy.now.updates c.ascending.ensures.updates more).low in
    omega (arith, since))

pub processes-preserved : goal.processes-preserved
processes-preserved g c =
    let events = window_events g.N.World.design g.N.World.plan c.args.window.now.before c.args.window.now.through in
    let process = process_number c.in-Some.process in
    let own = c.processes.invariant in
    let at : first_from own.from c.args.copy.now.updates ≡ Some process = sym own.next_is ∙ ap (option_map process_number) c.in-Some.is in
    let least = c.min-least.result in
    let less : least ≤ c.processes.least = (let is = c.min-least.ensures in omega (arith, is)) in
    let until : least ≤ c.step_until-until.result = (let is = c.min-least.ensures in omega (arith, is)) in
    let low = own.low in
    record {
      low = omega (arith, less, low);
      from = process + 1;
      next_is = c.next_updates-next-in-Some.ensures;
      alone = λ one below kept.
          alone-more (λ p. NoneBetween (stepped_at events p)) (λ number first limit lower le none moment since before. none moment since (omega (arith, le, before))) c.args.copy.now.updates
          own.from process c.args.first c.processes.least least c.ascending.ensures.updates at less own.alone
          (λ moment since before. c.step_until-until.ensures.steps moment since (omega (arith, until, before))) one (omega (arith, below)) kept;
      known = c.step_until-until.ensures.known;
    }

pub returns-clause-steps : goal.returns-clause-steps
returns-clause-steps g c =
    let events = window_events g.N.World.design g.N.World.plan c.args.window.now.before c.args.window.now.through in
    let none : first_from c.processes.invariant.from c.args.copy.now.updates ≡ None = sym c.processes.invariant.next_is ∙ ap (option_map process_number) c.in_default.is in
    alone-all (λ p. NoneBetween (stepped_at events p)) (λ number first limit lower le none moment since before. none moment since (omega (arith, le, before))) c.args.copy.now.updates
    c.processes.invariant.from (length g.N.World.design.processes) c.args.first c.processes.least none c.processes.invariant.alone
