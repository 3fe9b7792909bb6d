-- One fault more.
use Rattle.std.proofs.Common.{◌≡◌, ◌+◌, ◌<◌, List, [], length, sym, ap, subst, ◌∙◌, arith, inl, inr}
use Rattle.std.specs.Prelude.{Some, slice_get}
use Rattle.std.proofs.lemmas.List.{length_push}
use Rattle.slot_strobes.specs.copy_window.ShardFaults.{IsShardFault}
use Rattle.slot_strobes.specs.copy_window.declared.fault.ShardFault.{ShardFault}
use Rattle.window_faults.specs.Steps.{StaysFault}
use Rattle.window_faults.specs.Within.{IsWithin}
use Rattle.window_faults.specs.declared.at.FaultAt.{FaultAt}
use Rattle.window_faults.proofs.Lists.{at-push, at-read, at-set, hold-at, zip-length, zip-refl, zip-set}
use Rattle.window_faults.proofs.Steps.{stays-on, stays-same}
use Rattle.window_faults.proofs.begin.begin_each.Goals as goal

pub faults-init : goal.faults-init
faults-init g c = record {
  zip = zip-refl StaysFault stays-same c.args.faults.now.items;
  count = ap length c.in_ok-ats.ensures.items;
  most = omega arith;
  each = λ place own at here there. absurd (let none : slice_get {X = FaultAt} [] place ≡ Some at = subst (λ (l : List FaultAt). slice_get l place ≡ Some at) c.in_ok-ats.ensures.items there in cc);
  rest = λ place own low here. hold-at (IsShardFault g.N.World.design g.N.World.plan c.args.window.now.before c.args.strobes.now.passed) c.args.faults.now.items place own c.requires.faults here;
}

pub index_mut-own-requires : goal.index_mut-own-requires
index_mut-own-requires g c =
    let same = zip-length StaysFault c.args.faults.now.items c.faults.faults.items c.faults.invariant.zip in
    omega (arith, c.faults-test.true, c.len-place-end.ensures, same)

pub begin_one-at-requires-clause-fault : goal.begin_one-at-requires-clause-fault
begin_one-at-requires-clause-fault g c κs within =
    let same = zip-length StaysFault c.args.faults.now.items c.faults.faults.items c.faults.invariant.zip in
    c.faults.invariant.rest c.faults.place c.index_mut-own.result.now (omega arith)
    (at-read c.faults.faults.items c.faults.place c.index_mut-own.result.now (omega (arith, c.faults-test.true, c.len-place-end.ensures, same)) c.index_mut-own.ensures.value)

pub faults-preserved : goal.faults-preserved
faults-preserved g c =
    let same = zip-length StaysFault c.args.faults.now.items c.faults.faults.items c.faults.invariant.zip in
    let low : c.faults.place < length c.faults.faults.items = omega (arith, c.faults-test.true, c.len-place-end.ensures, same) in
    let own = c.begin_one-at.new.own in
    record {
      zip = zip-set StaysFault stays-on c.args.faults.now.items c.faults.faults.items c.faults.place c.index_mut-own.result.now own c.faults.invariant.zip c.index_mut-own.ensures.value
          (omega (arith, low, same)) c.begin_one-at.ensures.stays;
      count = ap length c.in_ok-push.ensures.items ∙ (length_push c.faults.ats.items c.begin_one-at.result ∙ ap (λ n. n + 1) c.faults.invariant.count);
      most = omega (arith, low, same);
      each = λ place one at here there. elim (at-set c.faults.faults.items c.faults.place place own one low here) [
        | inl this ↦ elim (at-push c.faults.ats.items c.begin_one-at.result at place (subst (λ (l : List FaultAt). slice_get l place ≡ Some at) c.in_ok-push.ensures.items there)) [
          | inl front ↦ absurd (omega (arith, front.0, this.0, c.faults.invariant.count))
          | inr last ↦
              subst (λ (o : ShardFault). IsWithin g.N.World.design g.N.World.plan c.args.window.now.before c.args.window.now.through o at) (sym this.1)
              (subst (λ (a : FaultAt). IsWithin g.N.World.design g.N.World.plan c.args.window.now.before c.args.window.now.through own a) (sym last.1) c.begin_one-at.ensures.within)
        ]
        | inr other ↦ elim (at-push c.faults.ats.items c.begin_one-at.result at place (subst (λ (l : List FaultAt). slice_get l place ≡ Some at) c.in_ok-push.ensures.items there)) [
          | inl front ↦ c.faults.invariant.each place one at other.1 front.1
          | inr last ↦ absurd (other.0 (last.0 ∙ c.faults.invariant.count))
        ]
      ];
      rest = λ place one past here. elim (at-set c.faults.faults.items c.faults.place place own one low here) [
        | inl this ↦ absurd (omega (arith, past, this.0))
        | inr other ↦ c.faults.invariant.rest place one (omega (arith, past)) other.1
      ];
    }

pub returns-clause-within : goal.returns-clause-within
returns-clause-within g c =
    let same = zip-length StaysFault c.args.faults.now.items c.faults.faults.items c.faults.invariant.zip in
    record {
      count = (let all : length c.faults.ats.items ≡ length c.faults.faults.items = omega (arith, c.faults.invariant.count, c.faults-test.false, c.faults.invariant.most, c.len-place-end.ensures, same) in all);
      each = c.faults.invariant.each;
      come = λ place own at here there none. omega arith;
    }

pub returns-clause-faults : goal.returns-clause-faults
returns-clause-faults g c = c.faults.invariant.zip
