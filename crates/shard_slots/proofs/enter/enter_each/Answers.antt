-- One fault more.
use Rattle.std.proofs.Common.{◌≡◌, ℕ, ◌+◌, ◌<◌, ◌≤◌, Bool, List, [], ◌∷◌, ◌++◌, length, refl, sym, ap, ◌∙◌, arith}
use Rattle.std.specs.Prelude.{None, Some, is_some, option_to_list, slice_get}
use Rattle.std.proofs.lemmas.List.{length-set, length_push, map-append}
use Rattle.copy_lockstep.specs.copy_window.declared.fault.ShardFault.{ShardFault}
use Rattle.copy_lockstep.specs.phase_faults.declared.beside.FaultBeside.{FaultBeside}
use Rattle.copy_lockstep.specs.window_faults.Steps.{StaysFault}
use Rattle.copy_lockstep.specs.window_faults.Within.{IsWithin}
use Rattle.copy_lockstep.specs.window_faults.declared.at.FaultAt.{FaultAt}
use Rattle.copy_lockstep.proofs.window_faults.Lists.{at-read, zip-length, zip-refl, zip-set}
use Rattle.shard_slots.proofs.Looping.{more-beside, still-behind}
use Rattle.copy_lockstep.proofs.window_faults.Steps.{stays-on, stays-same}
use Rattle.shard_slots.specs.Slots.{EntersIf}
use Rattle.shard_slots.proofs.Somes.{somes-push}
use Rattle.shard_slots.proofs.enter.enter_each.Goals as goal

none-there : {C P : Type 0} (place : ℕ) (one : C) → slice_get {X = C} [] place ≡ Some one → P
none-there place one here = absurd (let none : slice_get [] place ≡ Some one = here in cc)

pub faults-init : goal.faults-init
faults-init g c = record {
  zip = zip-refl StaysFault stays-same c.args.faults.now.items;
  count = c.requires.within.count;
  founds = [];
  got = refl;
  most = omega arith;
  entered_are = c.in_ok-entered.ensures.items;
  besides_are = c.new-besides.ensures.items;
  each = λ place own at found here there one. none-there place found one;
  within = λ place own at low here there. c.requires.within.each place own at here there;
  come = λ place own at low here there none. c.requires.within.come place own at here there none;
}

pub index_mut-own-requires : goal.index_mut-own-requires
index_mut-own-requires g c =
    let same = zip-length StaysFault c.args.faults.now.items c.faults.faults.items c.faults.invariant.zip in
    omega (arith, c.faults-test.true, c.len-place-end.ensures, same)

pub index_mut-at-requires : goal.index_mut-at-requires
index_mut-at-requires g c =
    let same = zip-length StaysFault c.args.faults.now.items c.faults.faults.items c.faults.invariant.zip in
    omega (arith, c.faults-test.true, c.len-place-end.ensures, same, c.faults.invariant.count)

pub enter_one-requires-clause-within : goal.enter_one-requires-clause-within
enter_one-requires-clause-within g c κs within =
    let same = zip-length StaysFault c.args.faults.now.items c.faults.faults.items c.faults.invariant.zip in
    c.faults.invariant.within c.faults.place c.index_mut-own.result.now c.index_mut-at.result.now (omega arith)
    (at-read c.faults.faults.items c.faults.place c.index_mut-own.result.now (omega (arith, c.faults-test.true, c.len-place-end.ensures, same)) c.index_mut-own.ensures.value)
    (at-read c.faults.ats.items c.faults.place c.index_mut-at.result.now (omega (arith, c.faults-test.true, c.len-place-end.ensures, same, c.faults.invariant.count)) c.index_mut-at.ensures.value)

pub enter_one-requires-clause-come : goal.enter_one-requires-clause-come
enter_one-requires-clause-come g c κs within =
    let same = zip-length StaysFault c.args.faults.now.items c.faults.faults.items c.faults.invariant.zip in
    c.faults.invariant.come c.faults.place c.index_mut-own.result.now c.index_mut-at.result.now (omega arith)
    (at-read c.faults.faults.items c.faults.place c.index_mut-own.result.now (omega (arith, c.faults-test.true, c.len-place-end.ensures, same)) c.index_mut-own.ensures.value)
    (at-read c.faults.ats.items c.faults.place c.index_mut-at.result.now (omega (arith, c.faults-test.true, c.len-place-end.ensures, same, c.faults.invariant.count)) c.index_mut-at.ensures.value)

pub faults-preserved : goal.faults-preserved
faults-preserved g c =
    let design = g.N.World.design in
    let plan = g.N.World.plan in
    let window = c.args.view.now.window.now in
    let xs = c.faults.faults.items in
    let ys = c.faults.ats.items in
    let i = c.faults.place in
    let own = c.enter_one.new.own in
    let at = c.enter_one.new.at in
    let same = zip-length StaysFault c.args.faults.now.items xs c.faults.invariant.zip in
    let low : i < length xs = omega (arith, c.faults-test.true, c.len-place-end.ensures, same) in
    let R = EntersIf design plan window.before window.through c.args.slot in
    let founds = c.faults.invariant.founds in
    record {
      zip = zip-set StaysFault stays-on c.args.faults.now.items xs i c.index_mut-own.result.now own c.faults.invariant.zip c.index_mut-own.ensures.value (omega (arith, low, same))
          c.in_ok-found.ensures.stays;
      count = length-set ys i at ∙ c.faults.invariant.count ∙ sym (length-set xs i own);
      founds = founds ++ c.in_ok-found.found ∷ [];
      got = length_push founds c.in_ok-found.found ∙ ap (λ n. n + 1) c.faults.invariant.got;
      most = omega (arith, low, same);
      entered_are =
          c.in_ok-push_found.ensures.entered ∙ ap (λ (l : List Bool). l ++ is_some c.in_ok-found.found ∷ []) c.faults.invariant.entered_are ∙ sym (map-append is_some founds (c.in_ok-found.found ∷ []));
      besides_are =
          c.in_ok-push_found.ensures.besides ∙ ap (λ (l : List FaultBeside). l ++ option_to_list c.in_ok-found.found) c.faults.invariant.besides_are ∙ sym (somes-push founds c.in_ok-found.found);
      each = more-beside (IsWithin design plan window.before window.through) R xs ys founds i own at c.in_ok-found.found low c.faults.invariant.count
          c.faults.invariant.got c.in_ok-found.ensures.enters c.faults.invariant.each;
      within = still-behind (IsWithin design plan window.before window.through) R xs ys i own at low c.faults.invariant.count c.faults.invariant.within;
      come = still-behind (λ (o : ShardFault) (a : FaultAt). o.end ≡ None → c.args.slot ≤ a.slot) R xs ys i own at low c.faults.invariant.count c.faults.invariant.come;
    }

pub returns-clause-entered : goal.returns-clause-entered
returns-clause-entered g c =
    let same = zip-length StaysFault c.args.faults.now.items c.faults.faults.items c.faults.invariant.zip in
    record {
      founds = c.faults.invariant.founds;
      are = record {
        count = c.faults.invariant.count;
        beside = omega (arith, c.faults.invariant.got, c.faults-test.false, c.faults.invariant.most, c.len-place-end.ensures, same);
        each = c.faults.invariant.each;
      };
      entered_are = c.faults.invariant.entered_are;
      besides_are = c.faults.invariant.besides_are;
    }

pub returns-clause-faults : goal.returns-clause-faults
returns-clause-faults g c = c.faults.invariant.zip
