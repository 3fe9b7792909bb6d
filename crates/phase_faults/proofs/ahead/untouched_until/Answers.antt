-- Up to the end, or to the beginning of the block with the moment up to which events leave alone what is kept.
use Rattle.std.proofs.Common.{◌≡◌, ◌≤◌, ℕ, List, length, get_or, true, sym, ap, subst, arith}
use Rattle.graph_order.specs.ListLaws.{has-get_or}
use Rattle.vf_base.specs.Lists.{has}
use Rattle.v_design.specs.Plain.{site_of}
use Rattle.trace_window.specs.Moments.{window_events}
use Rattle.next_touches.proofs.Untouched.{left-none, left-within}
use Rattle.phase_faults.proofs.ahead.untouched_until.Goals as goal

pub copy_limit-limit-requires-clause-within : goal.copy_limit-limit-requires-clause-within
copy_limit-limit-requires-clause-within g c κs within =
    let ne = c.if-moment-end.false in
    let order = c.requires.order in
    c.requires.end (omega (arith, ne, order))

pub bounds-moments-block : goal.bounds-moments-block
bounds-moments-block g c = let count = ap length c.moments.ensures in let low = c.in-Some.ensures.0 in omega (arith, count, low)

pub returns-then-moment-end-clause-alone : goal.returns-then-moment-end-clause-alone
returns-then-moment-end-clause-alone g c =
    left-none g.N.World.design (site_of c.args.fault.site) c.args.own.now.copy (window_events g.N.World.design g.N.World.plan c.args.view.now.window.now.before c.args.view.now.window.now.through)
    c.args.moment

pub returns-in_default-clause-alone : goal.returns-in_default-clause-alone
returns-in_default-clause-alone g c =
    left-none g.N.World.design (site_of c.args.fault.site) c.args.own.now.copy (window_events g.N.World.design g.N.World.plan c.args.view.now.window.now.before c.args.view.now.window.now.through)
    c.args.moment

pub returns-then-begins-moment-clause-alone : goal.returns-then-begins-moment-clause-alone
returns-then-begins-moment-clause-alone g c =
    left-none g.N.World.design (site_of c.args.fault.site) c.args.own.now.copy (window_events g.N.World.design g.N.World.plan c.args.view.now.window.now.before c.args.view.now.window.now.through)
    c.args.moment

pub returns-clause-high : goal.returns-clause-high
returns-clause-high g c =
    let moments = c.args.view.now.blocks.now.moments in
    let at : get_or moments c.in-Some.block 0 ≤ c.copy_limit-limit.result = c.in-Some.ensures.1 in
    let same : get_or c.moments.result.now c.in-Some.block 0 ≡ get_or moments c.in-Some.block 0 = ap (λ (l : List ℕ). get_or l c.in-Some.block 0) c.moments.ensures in
    let low = c.copy_limit-limit.ensures.low in
    omega (arith, at, same, low)

pub returns-clause-begins : goal.returns-clause-begins
returns-clause-begins g c = λ more before.
    let moments = c.args.view.now.blocks.now.moments in
    let same : get_or c.moments.result.now c.in-Some.block 0 ≡ get_or moments c.in-Some.block 0 = ap (λ (l : List ℕ). get_or l c.in-Some.block 0) c.moments.ensures in
    subst (λ n. has moments n ≡ true) (sym same) (has-get_or moments c.in-Some.block 0 c.in-Some.ensures.0)

pub returns-clause-alone : goal.returns-clause-alone
returns-clause-alone g c =
    let moments = c.args.view.now.blocks.now.moments in
    let at : get_or moments c.in-Some.block 0 ≤ c.copy_limit-limit.result = c.in-Some.ensures.1 in
    let same : get_or c.moments.result.now c.in-Some.block 0 ≡ get_or moments c.in-Some.block 0 = ap (λ (l : List ℕ). get_or l c.in-Some.block 0) c.moments.ensures in
    left-within g.N.World.design (site_of c.args.fault.site) c.args.own.now.copy (window_events g.N.World.design g.N.World.plan c.args.view.now.window.now.before c.args.view.now.window.now.through)
    c.args.moment c.copy_limit-limit.result c.args.moment (get_or c.moments.result.now c.in-Some.block 0) (omega arith) (omega (arith, at, same)) c.copy_limit-limit.ensures.alone
