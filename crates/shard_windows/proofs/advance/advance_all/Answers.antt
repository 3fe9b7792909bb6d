-- All faults of a shard.
use Rattle.std.proofs.Common.{◌≡◌, ◌<◌, false, sym, ap, subst, ◌∙◌, arith}
use Rattle.std.specs.List.{AllZip, list_any}
use Rattle.vf_base.specs.Lists.{AllHold}
use Rattle.good_trace.specs.Slots.{end_of}
use Rattle.good_trace.specs.Traces.{WindowKept}
use Rattle.shard_slots.specs.window_strobes.Leading.{EndsSo}
use Rattle.shard_slots.specs.window_strobes.Passed.{HasPassed}
use Rattle.shard_slots.specs.window_strobes.Strobes.{AreStrobesOf, passed_behind}
use Rattle.shard_slots.specs.copy_window.ShardFaults.{IsShardFault}
use Rattle.shard_slots.specs.window_faults.Within.{ComesThrough}
use Rattle.shard_windows.specs.Reached.{is_open}
use Rattle.shard_windows.proofs.Through.{all-ended, keeps-rules, time-behind}
use Rattle.shard_slots.proofs.Numbers.{all-rise}
use Rattle.shard_windows.proofs.advance.advance_all.Goals as goal

pub returns-then-not-some_open-clause-reached : goal.returns-then-not-some_open-clause-reached
returns-then-not-some_open-clause-reached g c some =
    let none : list_any is_open c.args.faults.now.items ≡ false = sym (c.some_open.ensures ∙ ap (list_any is_open) c.deref.ensures.value) ∙ c.if-not-some_open.true in
    cc

pub returns-then-not-some_open-clause-faults : goal.returns-then-not-some_open-clause-faults
returns-then-not-some_open-clause-faults g c =
    let some : c.args.window.now.before < c.args.window.now.through = subst (λ (w : WindowKept). w.before < w.through) c.window-trace.ensures c.begins-first.ensures.window.some in
    all-ended c.faults_go_on.ensures g.N.World.design g.N.World.plan (keeps-rules g.N.World.design c.design-design.result.now c.design-design.ensures.world) c.args.window.now.before
    c.args.window.now.through c.args.reached.passed c.args.reached.passed (omega (arith, some)) c.args.faults.now.items
    (sym (c.some_open.ensures ∙ ap (list_any is_open) c.deref.ensures.value) ∙ c.if-not-some_open.true) c.requires.faults

pub strobes_of-requires-after_bounds : goal.strobes_of-requires-after_bounds
strobes_of-requires-after_bounds g c κs within =
    subst (λ (w : WindowKept). HasPassed g.N.World.design g.N.World.plan w.before c.args.reached.passed) (sym c.window-trace.ensures)
    (c.requires.reached (sym (c.some_open.ensures ∙ ap (list_any is_open) c.deref.ensures.value) ∙ c.if-not-some_open.false)).passed

pub advance_each-requires-clause-strobes : goal.advance_each-requires-clause-strobes
advance_each-requires-clause-strobes g c κs within =
    subst (λ (w : WindowKept). AreStrobesOf g.N.World.design g.N.World.plan w.before w.through c.in_ok-strobes.strobes) c.window-trace.ensures c.in_ok-strobes.ensures.strobes

pub advance_each-requires-clause-behind : goal.advance_each-requires-clause-behind
advance_each-requires-clause-behind g c κs within =
    subst (λ (w : WindowKept). HasPassed g.N.World.design g.N.World.plan w.through (passed_behind c.in_ok-strobes.strobes)) c.window-trace.ensures c.in_ok-strobes.ensures.behind

pub advance_each-requires-clause-now : goal.advance_each-requires-clause-now
advance_each-requires-clause-now g c κs within =
    (c.requires.reached (sym (c.some_open.ensures ∙ ap (list_any is_open) c.deref.ensures.value) ∙ c.if-not-some_open.false)).time

pub advance_each-requires-clause-faults : goal.advance_each-requires-clause-faults
advance_each-requires-clause-faults g c κs within =
    subst (λ n. AllHold (IsShardFault g.N.World.design g.N.World.plan c.args.window.now.before n) c.args.faults.now.items) (sym c.in_ok-strobes.ensures.before) c.requires.faults

pub reached_behind-requires-after_bounds : goal.reached_behind-requires-after_bounds
reached_behind-requires-after_bounds g c κs within = c.in_ok-strobes.ensures.behind.within

pub returns-clause-reached : goal.returns-clause-reached
returns-clause-reached g c some = record {
  passed = subst (HasPassed g.N.World.design g.N.World.plan c.args.window.now.through) (sym c.reached_behind.ensures.passed) (subst (λ (w : WindowKept). HasPassed g.N.World.design g.N.World.plan w.through (passed_behind c.in_ok-strobes.strobes)) c.window-trace.ensures c.in_ok-strobes.ensures.behind);
  time =
      time-behind g.N.World.design g.N.World.plan c.args.window.now.through (end_of c.in_ok-strobes.strobes.ending) c.in_ok-strobes.strobes.until c.reached_behind.result.time
      (subst (λ (w : WindowKept). EndsSo g.N.World.design g.N.World.plan w.through (end_of c.in_ok-strobes.strobes.ending) c.in_ok-strobes.strobes.until) c.window-trace.ensures
      c.in_ok-strobes.ensures.strobes.leads.ends) c.reached_behind.ensures.time;
}

pub returns-clause-faults : goal.returns-clause-faults
returns-clause-faults g c =
    subst (λ n. AllZip (ComesThrough g.N.World.design g.N.World.plan c.args.window.now.through n) c.args.faults.now.items c.advance_each.new.faults.items) (sym c.reached_behind.ensures.passed)
    c.in_ok-advance_each.ensures.faults

pub returns-then-not-some_open-clause-ticks : goal.returns-then-not-some_open-clause-ticks
returns-then-not-some_open-clause-ticks g c tally =
    let some : c.args.window.now.before < c.args.window.now.through = subst (λ (w : WindowKept). w.before < w.through) c.window-trace.ensures c.begins-first.ensures.window.some in
    let rise = all-rise c.own_steps_rise.ensures g.N.World.design g.N.World.plan (keeps-rules g.N.World.design c.design-design.result.now c.design-design.ensures.world) tally c.args.window.now.before
    c.args.window.now.through (omega (arith, some)) c.args.window.now.before c.args.reached.passed c.args.faults.now.items c.requires.faults in
    omega (arith, rise)

pub returns-clause-ticks : goal.returns-clause-ticks
returns-clause-ticks g c = c.in_ok-advance_each.ensures.ticks
