-- The samples go to the faults, these through the window, and the samples back.
use Rattle.std.proofs.Common.{◌<◌, ◌≤◌, true, length, sym, ap, subst, ◌∙◌, arith}
use Rattle.copy_laws.specs.Windows.{IsWindow}
use Rattle.good_trace.specs.Traces.{WindowKept}
use Rattle.own_gradings.specs.Laws.{GoOn}
use Rattle.kept_shard.specs.Keeping.{KeepingShard, numbers_of, open_in}
use Rattle.kept_shard.proofs.Swapping.{none-left}
use Rattle.kept_shard.proofs.Windows.{came-count, swap-reaches, swap-stands, went-numbers, went-on, went-rises}
use Rattle.kept_shard.proofs.Ticks.{open-go-on, rises-open}
use Rattle.kept_shard.proofs.shard.KeptShard.advance.Goals as goal

pub swap_each-requires : goal.swap_each-requires
swap_each-requires g c =
    (λ i. length (c.replace-kept.ensures.value i).items) ∙ (c.self.invariant.count ∙ sym (λ i. length (c.replace-faults.ensures.value i).items))

pub advance_all-requires-clause-reached : goal.advance_all-requires-clause-reached
advance_all-requires-clause-reached g c κs within =
    let s = c.self.inside in
    let design = g.N.World.design in
    let plan = g.N.World.plan in
    let at = c.requires ∙ sym (ap (λ (k : KeepingShard). k.gone) c.self.view_is) in
    let window = subst (λ (w : WindowKept). IsWindow design plan w.before w.through w.ending) c.window-trace.ensures c.begins-first.ensures.window in
    swap-reaches design plan s.gone c.args.window.now.before at s.reached s.faults.items c.replace-faults.result.items
    (λ i. (c.replace-faults.ensures.value i).items) s.kept.items c.replace-kept.result.items (λ i. (c.replace-kept.ensures.value i).items) c.self.invariant c.swap_each.new.faults.items
    c.swap_each.new.kept.items c.swap_each.ensures

pub advance_all-requires-clause-faults : goal.advance_all-requires-clause-faults
advance_all-requires-clause-faults g c κs within =
    let s = c.self.inside in
    let design = g.N.World.design in
    let plan = g.N.World.plan in
    let at = c.requires ∙ sym (ap (λ (k : KeepingShard). k.gone) c.self.view_is) in
    let window = subst (λ (w : WindowKept). IsWindow design plan w.before w.through w.ending) c.window-trace.ensures c.begins-first.ensures.window in
    swap-stands design plan s.gone c.args.window.now.before at s.reached s.faults.items c.replace-faults.result.items
    (λ i. (c.replace-faults.ensures.value i).items) s.kept.items c.replace-kept.result.items (λ i. (c.replace-kept.ensures.value i).items) c.self.invariant c.swap_each.new.faults.items
    c.swap_each.new.kept.items c.swap_each.ensures

pub swap_each-requires-2 : goal.swap_each-requires-2
swap_each-requires-2 g c =
    let s = c.self.inside in
    let design = g.N.World.design in
    let plan = g.N.World.plan in
    let at = c.requires ∙ sym (ap (λ (k : KeepingShard). k.gone) c.self.view_is) in
    let window = subst (λ (w : WindowKept). IsWindow design plan w.before w.through w.ending) c.window-trace.ensures c.begins-first.ensures.window in
    came-count design plan s.gone c.args.window.now.before at s.reached s.faults.items c.replace-faults.result.items
    (λ i. (c.replace-faults.ensures.value i).items) s.kept.items c.replace-kept.result.items (λ i. (c.replace-kept.ensures.value i).items) c.self.invariant c.swap_each.new.faults.items
    c.swap_each.new.kept.items c.swap_each.ensures c.args.window.now.through c.in_ok-reached.reached c.advance_all.new.faults.items c.in_ok-reached.ensures.faults
    c.in_ok-reached.ensures.reached c.args.window.now.ending window

pub invariant_of-self : goal.invariant_of-self
invariant_of-self g c =
    let s = c.self.inside in
    none-left g.N.World.design g.N.World.plan s.gone s.reached s.faults.items _ s.kept.items _ c.self.invariant
    ((λ i. (c.replace-faults.ensures.after i).items) ∙ c.new.ensures.items) ((λ i. (c.replace-kept.ensures.after i).items) ∙ c.new-2.ensures.items)

pub invariant_of-self-2 : goal.invariant_of-self-2
invariant_of-self-2 g c =
    let s = c.self.inside in
    let design = g.N.World.design in
    let plan = g.N.World.plan in
    let at = c.requires ∙ sym (ap (λ (k : KeepingShard). k.gone) c.self.view_is) in
    let window = subst (λ (w : WindowKept). IsWindow design plan w.before w.through w.ending) c.window-trace.ensures c.begins-first.ensures.window in
    went-on design plan s.gone c.args.window.now.before at s.reached s.faults.items c.replace-faults.result.items
    (λ i. (c.replace-faults.ensures.value i).items) s.kept.items c.replace-kept.result.items (λ i. (c.replace-kept.ensures.value i).items) c.self.invariant c.swap_each.new.faults.items
    c.swap_each.new.kept.items c.swap_each.ensures c.args.window.now.through c.in_ok-reached.reached c.advance_all.new.faults.items c.in_ok-reached.ensures.faults
    c.in_ok-reached.ensures.reached c.args.window.now.ending window c.swap_each-2.new.faults.items c.swap_each-2.new.kept.items c.swap_each-2.ensures c.ends-self-inside.result
    (c.ends-self-inside.ensures.number ∙ ap (λ (w : WindowKept). w.through) c.window-trace.ensures)

pub returns-clause-numbers : goal.returns-clause-numbers
returns-clause-numbers g c =
    let s = c.self.inside in
    let design = g.N.World.design in
    let plan = g.N.World.plan in
    let at = c.requires ∙ sym (ap (λ (k : KeepingShard). k.gone) c.self.view_is) in
    let window = subst (λ (w : WindowKept). IsWindow design plan w.before w.through w.ending) c.window-trace.ensures c.begins-first.ensures.window in
    went-numbers design plan s.gone c.args.window.now.before at s.reached s.faults.items c.replace-faults.result.items
    (λ i. (c.replace-faults.ensures.value i).items) s.kept.items c.replace-kept.result.items (λ i. (c.replace-kept.ensures.value i).items) c.self.invariant c.swap_each.new.faults.items
    c.swap_each.new.kept.items c.swap_each.ensures c.args.window.now.through c.in_ok-reached.reached c.advance_all.new.faults.items c.in_ok-reached.ensures.faults
    c.in_ok-reached.ensures.reached c.args.window.now.ending window c.swap_each-2.new.faults.items c.swap_each-2.new.kept.items c.swap_each-2.ensures c.args.self.now.kept
    (ap (λ (k : KeepingShard). k.kept) c.self.view_is)

pub returns-clause-ticks : goal.returns-clause-ticks
returns-clause-ticks g c tally =
    let s = c.self.inside in
    let design = g.N.World.design in
    let plan = g.N.World.plan in
    let at = c.requires ∙ sym (ap (λ (k : KeepingShard). k.gone) c.self.view_is) in
    let window = subst (λ (w : WindowKept). IsWindow design plan w.before w.through w.ending) c.window-trace.ensures c.begins-first.ensures.window in
    went-rises design plan s.gone c.args.window.now.before at s.reached s.faults.items c.replace-faults.result.items
    (λ i. (c.replace-faults.ensures.value i).items) s.kept.items c.replace-kept.result.items (λ i. (c.replace-kept.ensures.value i).items) c.self.invariant c.swap_each.new.faults.items
    c.swap_each.new.kept.items c.swap_each.ensures c.args.window.now.through c.in_ok-reached.reached c.advance_all.new.faults.items c.in_ok-reached.ensures.faults
    c.in_ok-reached.ensures.reached c.args.window.now.ending window c.swap_each-2.new.faults.items c.swap_each-2.new.kept.items c.swap_each-2.ensures tally c.args.self.now
    c.ends-self-inside.result c.args.steps.now c.advance_all.new.steps c.self.view_is (c.ends-self-inside.ensures.number ∙ ap (λ (w : WindowKept). w.through) c.window-trace.ensures)
    (c.in_ok-reached.ensures.ticks tally)

pub returns-clause-own : goal.returns-clause-own
returns-clause-own g c =
    let s = c.self.inside in
    let design = g.N.World.design in
    let plan = g.N.World.plan in
    let at = c.requires ∙ sym (ap (λ (k : KeepingShard). k.gone) c.self.view_is) in
    let window = subst (λ (w : WindowKept). IsWindow design plan w.before w.through w.ending) c.window-trace.ensures c.begins-first.ensures.window in
    let gone = c.ends-self-inside.ensures.number ∙ ap (λ (w : WindowKept). w.through) c.window-trace.ensures in
    let some : c.args.window.now.before < c.args.window.now.through = window.some in
    let low : c.args.self.now.gone ≤ c.ends-self-inside.result = omega (arith, some, gone, c.requires) in
    rises-open c.own_steps_rise.ensures design plan c.self.invariant.rules c.args.self.now
    (record { gone = c.ends-self-inside.result; kept = c.swap_each-2.new.kept.items }) c.args.steps.now c.advance_all.new.steps low
    (λ tally. subst (λ (k : KeepingShard). k.gone ≤ c.ends-self-inside.result → GoOn design plan tally true k.gone c.ends-self-inside.result (numbers_of k.kept) (open_in plan k.kept)) c.self.view_is
    (open-go-on design plan tally s.gone s.reached s.faults.items s.kept.items c.self.invariant c.own_steps_rise.ensures c.ends-self-inside.result) low)
    (went-numbers design plan s.gone c.args.window.now.before at s.reached s.faults.items c.replace-faults.result.items
    (λ i. (c.replace-faults.ensures.value i).items) s.kept.items c.replace-kept.result.items (λ i. (c.replace-kept.ensures.value i).items) c.self.invariant c.swap_each.new.faults.items
    c.swap_each.new.kept.items c.swap_each.ensures c.args.window.now.through c.in_ok-reached.reached c.advance_all.new.faults.items c.in_ok-reached.ensures.faults
    c.in_ok-reached.ensures.reached c.args.window.now.ending window c.swap_each-2.new.faults.items c.swap_each-2.new.kept.items c.swap_each-2.ensures c.args.self.now.kept
    (ap (λ (k : KeepingShard). k.kept) c.self.view_is))
    (λ tally.
    went-rises design plan s.gone c.args.window.now.before at s.reached s.faults.items c.replace-faults.result.items
    (λ i. (c.replace-faults.ensures.value i).items) s.kept.items c.replace-kept.result.items (λ i. (c.replace-kept.ensures.value i).items) c.self.invariant c.swap_each.new.faults.items
    c.swap_each.new.kept.items c.swap_each.ensures c.args.window.now.through c.in_ok-reached.reached c.advance_all.new.faults.items c.in_ok-reached.ensures.faults
    c.in_ok-reached.ensures.reached c.args.window.now.ending window c.swap_each-2.new.faults.items c.swap_each-2.new.kept.items c.swap_each-2.ensures tally c.args.self.now
    c.ends-self-inside.result c.args.steps.now c.advance_all.new.steps c.self.view_is (c.ends-self-inside.ensures.number ∙ ap (λ (w : WindowKept). w.through) c.window-trace.ensures)
    (c.in_ok-reached.ensures.ticks tally))
