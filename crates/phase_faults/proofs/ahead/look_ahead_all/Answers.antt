-- One fault after the other.
use Rattle.std.proofs.Common.{arith}
use Rattle.phase_faults.specs.Beside.{HasSite, IsThereIf, LooksAhead}
use Rattle.phase_faults.proofs.Lists.{changed-all, changed-length, changed-more, changed-none, unchanged-holds}
use Rattle.phase_faults.proofs.ahead.look_ahead_all.Goals as goal

pub faults-init : goal.faults-init
faults-init g c =
    changed-none
    (LooksAhead g.N.World.design g.N.World.plan c.args.view.now.window.now.before c.args.view.now.window.now.through c.args.view.now.blocks.now.moments c.args.moment c.args.end)
    c.args.faults.now.items

pub index_mut-each-requires : goal.index_mut-each-requires
index_mut-each-requires g c =
    let R = LooksAhead g.N.World.design g.N.World.plan c.args.view.now.window.now.before c.args.view.now.window.now.through c.args.view.now.blocks.now.moments c.args.moment c.args.end in
    let same = changed-length R c.faults.place c.args.faults.now.items c.faults.faults.items c.faults.invariant in
    omega (arith, c.faults-test.true, c.len-place-end.ensures, same)

pub look_ahead-requires-clause-site : goal.look_ahead-requires-clause-site
look_ahead-requires-clause-site g c κs within =
    let R = LooksAhead g.N.World.design g.N.World.plan c.args.view.now.window.now.before c.args.view.now.window.now.through c.args.view.now.blocks.now.moments c.args.moment c.args.end in
    unchanged-holds R (HasSite g.N.World.design) c.faults.place c.args.faults.now.items c.faults.faults.items c.index_mut-each.result.now c.faults.invariant c.requires.sites
    (omega (arith, c.faults-test.true, c.len-place-end.ensures)) c.index_mut-each.ensures.value

pub look_ahead-requires-clause-kept : goal.look_ahead-requires-clause-kept
look_ahead-requires-clause-kept g c κs within =
    let R = LooksAhead g.N.World.design g.N.World.plan c.args.view.now.window.now.before c.args.view.now.window.now.through c.args.view.now.blocks.now.moments c.args.moment c.args.end in
    unchanged-holds R (IsThereIf g.N.World.design) c.faults.place c.args.faults.now.items c.faults.faults.items c.index_mut-each.result.now c.faults.invariant c.requires.kept
    (omega (arith, c.faults-test.true, c.len-place-end.ensures)) c.index_mut-each.ensures.value

pub faults-preserved : goal.faults-preserved
faults-preserved g c =
    let R = LooksAhead g.N.World.design g.N.World.plan c.args.view.now.window.now.before c.args.view.now.window.now.through c.args.view.now.blocks.now.moments c.args.moment c.args.end in
    changed-more R c.faults.place c.args.faults.now.items c.faults.faults.items c.index_mut-each.result.now c.look_ahead.new.each c.faults.invariant
    (omega (arith, c.faults-test.true, c.len-place-end.ensures)) c.index_mut-each.ensures.value c.look_ahead.ensures

pub returns : goal.returns
returns g c =
    let R = LooksAhead g.N.World.design g.N.World.plan c.args.view.now.window.now.before c.args.view.now.window.now.through c.args.view.now.blocks.now.moments c.args.moment c.args.end in
    changed-all R c.faults.place c.args.faults.now.items c.faults.faults.items c.faults.invariant (omega (arith, c.faults-test.false, c.len-place-end.ensures))
