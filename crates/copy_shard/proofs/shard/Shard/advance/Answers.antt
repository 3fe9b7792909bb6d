-- The faults came through the window.
use Rattle.std.proofs.Common.{◌<◌, map, ap, subst, ◌∙◌, arith}
use Rattle.good_trace.specs.Traces.{WindowKept}
use Rattle.copy_shard.specs.Kept.{fault_kept}
use Rattle.copy_shard.specs.Shards.{ShardKept, StandsBeside}
use Rattle.shard_windows.proofs.Through.{keeps-rules}
use Rattle.copy_shard.proofs.Standing.{all-stand}
use Rattle.copy_shard.proofs.Through.{ended-stay, places-stay, went-on}
use Rattle.copy_shard.proofs.Ticks.{rises-open, shard-rises}
use Rattle.copy_shard.proofs.shard.Shard.advance.Goals as goal

pub invariant_of-self-2 : goal.invariant_of-self-2
invariant_of-self-2 g c =
    let s = c.self.inside in
    went-on g.N.World.design g.N.World.plan s.gone c.args.window.now.through c.ends-self-inside.result s.reached c.in_ok-reached.reached s.numbers.items c.replace-numbers.result.items
    s.faults.items c.replace-faults.result.items c.advance_all.new.faults.items c.self.invariant (c.ends-self-inside.ensures.number ∙ ap (λ (w : WindowKept). w.through) c.window-trace.ensures) (λ i. (c.replace-numbers.ensures.value i).items)
    (λ i. (c.replace-faults.ensures.value i).items) c.in_ok-reached.ensures.faults c.in_ok-reached.ensures.reached

pub returns-clause-places : goal.returns-clause-places
returns-clause-places g c =
    let s = c.self.inside in
    places-stay g.N.World.design g.N.World.plan s.gone c.args.window.now.through c.ends-self-inside.result s.reached c.in_ok-reached.reached s.numbers.items c.replace-numbers.result.items
    s.faults.items c.replace-faults.result.items c.advance_all.new.faults.items c.self.invariant (c.ends-self-inside.ensures.number ∙ ap (λ (w : WindowKept). w.through) c.window-trace.ensures) (λ i. (c.replace-numbers.ensures.value i).items)
    (λ i. (c.replace-faults.ensures.value i).items) c.in_ok-reached.ensures.faults c.in_ok-reached.ensures.reached
    c.args.self.now.faults (ap (λ (kept : ShardKept). kept.faults) c.self.view_is)

pub returns-clause-ended : goal.returns-clause-ended
returns-clause-ended g c =
    let s = c.self.inside in
    ended-stay g.N.World.design g.N.World.plan s.gone c.args.window.now.through c.ends-self-inside.result s.reached c.in_ok-reached.reached s.numbers.items c.replace-numbers.result.items
    s.faults.items c.replace-faults.result.items c.advance_all.new.faults.items c.self.invariant (c.ends-self-inside.ensures.number ∙ ap (λ (w : WindowKept). w.through) c.window-trace.ensures) (λ i. (c.replace-numbers.ensures.value i).items)
    (λ i. (c.replace-faults.ensures.value i).items) c.in_ok-reached.ensures.faults c.in_ok-reached.ensures.reached
    c.args.self.now.faults (ap (λ (kept : ShardKept). kept.faults) c.self.view_is)

pub returns-clause-stands : goal.returns-clause-stands
returns-clause-stands g c =
    let s = c.self.inside in
    let shard = went-on g.N.World.design g.N.World.plan s.gone c.args.window.now.through c.ends-self-inside.result s.reached c.in_ok-reached.reached s.numbers.items c.replace-numbers.result.items
    s.faults.items c.replace-faults.result.items c.advance_all.new.faults.items c.self.invariant (c.ends-self-inside.ensures.number ∙ ap (λ (w : WindowKept). w.through) c.window-trace.ensures)
    (λ i. (c.replace-numbers.ensures.value i).items) (λ i. (c.replace-faults.ensures.value i).items) c.in_ok-reached.ensures.faults c.in_ok-reached.ensures.reached in
    all-stand g.N.World.design g.N.World.plan c.ends-self-inside.result c.in_ok-reached.reached.passed c.advance_all.new.faults.items shard.judged shard.each

pub returns-clause-ticks : goal.returns-clause-ticks
returns-clause-ticks g c tally =
    let s = c.self.inside in
    let shard = went-on g.N.World.design g.N.World.plan s.gone c.args.window.now.through c.ends-self-inside.result s.reached c.in_ok-reached.reached s.numbers.items c.replace-numbers.result.items
    s.faults.items c.replace-faults.result.items c.advance_all.new.faults.items c.self.invariant (c.ends-self-inside.ensures.number ∙ ap (λ (w : WindowKept). w.through) c.window-trace.ensures)
    (λ i. (c.replace-numbers.ensures.value i).items) (λ i. (c.replace-faults.ensures.value i).items) c.in_ok-reached.ensures.faults c.in_ok-reached.ensures.reached in
    shard-rises tally s.gone c.args.window.now.before c.args.window.now.through c.ends-self-inside.result c.args.self.now s.faults.items
    c.replace-faults.result.items c.advance_all.new.faults.items c.args.steps.now c.advance_all.new.steps c.self.view_is c.requires (c.ends-self-inside.ensures.number ∙ ap (λ (w : WindowKept). w.through) c.window-trace.ensures)
    (λ i. (c.replace-faults.ensures.value i).items) c.self.invariant.judged shard.judged (c.in_ok-reached.ensures.ticks tally)

pub returns-clause-own : goal.returns-clause-own
returns-clause-own g c =
    let s = c.self.inside in
    let shard = went-on g.N.World.design g.N.World.plan s.gone c.args.window.now.through c.ends-self-inside.result s.reached c.in_ok-reached.reached s.numbers.items c.replace-numbers.result.items
    s.faults.items c.replace-faults.result.items c.advance_all.new.faults.items c.self.invariant (c.ends-self-inside.ensures.number ∙ ap (λ (w : WindowKept). w.through) c.window-trace.ensures)
    (λ i. (c.replace-numbers.ensures.value i).items) (λ i. (c.replace-faults.ensures.value i).items) c.in_ok-reached.ensures.faults c.in_ok-reached.ensures.reached in
    let gone = c.ends-self-inside.ensures.number ∙ ap (λ (w : WindowKept). w.through) c.window-trace.ensures in
    let some : c.args.window.now.before < c.args.window.now.through = subst (λ (w : WindowKept). w.before < w.through) c.window-trace.ensures c.begins-first.ensures.window.some in
    rises-open c.own_steps_rise.ensures g.N.World.design g.N.World.plan (keeps-rules g.N.World.design c.design-design.result.now c.design-design.ensures.world) c.args.self.now
    (record { gone = c.ends-self-inside.result; faults = map fault_kept c.advance_all.new.faults.items }) c.args.steps.now c.advance_all.new.steps (omega (arith, some, gone, c.requires))
    (subst (StandsBeside g.N.World.design g.N.World.plan) c.self.view_is (all-stand g.N.World.design g.N.World.plan s.gone s.reached.passed s.faults.items c.self.invariant.judged c.self.invariant.each))
    (places-stay g.N.World.design g.N.World.plan s.gone c.args.window.now.through c.ends-self-inside.result s.reached c.in_ok-reached.reached s.numbers.items c.replace-numbers.result.items
    s.faults.items c.replace-faults.result.items c.advance_all.new.faults.items c.self.invariant gone (λ i. (c.replace-numbers.ensures.value i).items)
    (λ i. (c.replace-faults.ensures.value i).items) c.in_ok-reached.ensures.faults c.in_ok-reached.ensures.reached
    c.args.self.now.faults (ap (λ (kept : ShardKept). kept.faults) c.self.view_is))
    (λ tally.
    shard-rises tally s.gone c.args.window.now.before c.args.window.now.through c.ends-self-inside.result c.args.self.now s.faults.items
    c.replace-faults.result.items c.advance_all.new.faults.items c.args.steps.now c.advance_all.new.steps c.self.view_is c.requires (c.ends-self-inside.ensures.number ∙ ap (λ (w : WindowKept). w.through) c.window-trace.ensures)
    (λ i. (c.replace-faults.ensures.value i).items) c.self.invariant.judged shard.judged (c.in_ok-reached.ensures.ticks tally))
