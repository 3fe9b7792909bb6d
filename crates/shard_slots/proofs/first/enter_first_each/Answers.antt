-- One fault more.
use Rattle.std.proofs.Common.{◌≡◌, ◌+◌, ◌<◌, List, [], length, ap, subst, ◌∙◌, arith}
use Rattle.std.specs.Prelude.{Some, slice_get}
use Rattle.std.proofs.lemmas.List.{length_push}
use Rattle.copy_lockstep.specs.copy_window.declared.fault.ShardFault.{ShardFault}
use Rattle.copy_lockstep.specs.phase_faults.declared.beside.FaultBeside.{FaultBeside}
use Rattle.copy_lockstep.proofs.window_faults.Lists.{at-read, hold-at}
use Rattle.shard_slots.specs.Slots.{EntersFirst}
use Rattle.shard_slots.proofs.Looping.{more-pair}
use Rattle.shard_slots.proofs.first.enter_first_each.Goals as goal

pub faults-init : goal.faults-init
faults-init g c = record {
  most = omega arith;
  got = ap length c.in_ok-besides.ensures.items;
  room = c.requires.room;
  each = λ place own one here there. absurd (let none : slice_get {X = FaultBeside} [] place ≡ Some one = subst (λ (l : List FaultBeside). slice_get l place ≡ Some one) c.in_ok-besides.ensures.items there in cc);
}

pub enter_first-requires-clause-room : goal.enter_first-requires-clause-room
enter_first-requires-clause-room g c κs within = c.faults.invariant.room

pub enter_first-requires-clause-fault : goal.enter_first-requires-clause-fault
enter_first-requires-clause-fault g c κs within =
    hold-at (λ (own : ShardFault). own.copy.fault < length g.N.World.plan.faults) c.args.faults.now c.faults.own-index c.own-item.result c.requires.faults
    (at-read c.args.faults.now c.faults.own-index c.own-item.result c.faults-test.true c.own-item.is)

pub faults-preserved : goal.faults-preserved
faults-preserved g c =
    let window = c.args.view.now.window.now in
    let R = EntersFirst g.N.World.design g.N.World.plan window.through in
    let besides = c.faults.besides.items in
    record {
      most = omega (arith, c.faults-test.true);
      got = ap length c.in_ok-push.ensures.items ∙ (length_push besides c.in_ok-beside.beside ∙ ap (λ n. n + 1) c.faults.invariant.got);
      room = c.in_ok-beside.ensures.room;
      each = λ place u w one two. more-pair R c.args.faults.now besides c.faults.own-index c.own-item.result c.in_ok-beside.beside
          (at-read c.args.faults.now c.faults.own-index c.own-item.result c.faults-test.true c.own-item.is) c.faults.invariant.got c.in_ok-beside.ensures.enters c.faults.invariant.each place u w one
          (subst (λ (l : List FaultBeside). slice_get l place ≡ Some w) c.in_ok-push.ensures.items two);
    }

pub returns-clause-entered : goal.returns-clause-entered
returns-clause-entered g c = record {
  beside = omega (arith, c.faults.invariant.got, c.faults.invariant.most, c.faults-test.false);
  each = c.faults.invariant.each;
}

pub returns-clause-room : goal.returns-clause-room
returns-clause-room g c = c.faults.invariant.room
