-- Object by object.
use Rattle.std.proofs.Common.{ℕ, List, [], ◌∷◌, ◌++◌, map, get_or, take, refl, sym, ap, subst, ◌∙◌}
use Rattle.std.proofs.lemmas.List.{take_all}
use Rattle.vf_base.specs.Base.{object_number}
use Rattle.vf_base.specs.declared.ids.ObjectId.{ObjectId}
use Rattle.v_design.specs.Assignments.{value_at}
use Rattle.v_design.specs.Designs.{Machine}
use Rattle.lockstep_exchange.specs.block_events.Runners.{machine_of, state_of}
use Rattle.lockstep_exchange.specs.Putting.{ValuesArePut}
use Rattle.lockstep_exchange.proofs.Puts.{values-none}
use Rattle.lockstep_room.specs.Rooms.{AreCounts, values_among}
use Rattle.lockstep_room.proofs.Standing.{among-then, map-more, stands-values, values-then}
use Rattle.lockstep_room.proofs.following.follow_objects.Goals as goal

abbrev none : ObjectId
none = record { 0 = 0 }

pub objects-init : goal.objects-init
objects-init g c = record {
  machine = refl;
  put = λ of. values-none (values_among [] of.good) (state_of c.args.runner.now) (λ object. refl);
  whole = c.requires.whole;
}

pub follow_object-requires-clause-counts : goal.follow_object-requires-clause-counts
follow_object-requires-clause-counts g c = subst (λ (m : Machine). AreCounts m.design c.args.counts) (sym c.objects.invariant.machine) c.requires.counts

pub follow_object-requires-clause-stands : goal.follow_object-requires-clause-stands
follow_object-requires-clause-stands g c =
    let inv = c.objects.invariant in
    stands-values (machine_of c.args.runner.now).design (machine_of c.objects.runner).design (ap (λ (m : Machine). m.design) inv.machine) (g.S.ShownState.shows c.args.good.now)
    (values_among (map object_number (take c.objects.place c.args.objects.now)) c.requires.stands.good) (state_of c.args.runner.now) (state_of c.objects.runner) c.requires.stands
    (inv.put c.requires.stands)

pub objects-preserved : goal.objects-preserved
unfolding stands-values
objects-preserved g c =
    let inv = c.objects.invariant in
    let old = state_of c.args.runner.now in
    let now = state_of c.objects.runner in
    let new = state_of c.follow_object.new.runner in
    let objects = c.args.objects.now in
    let object = object_number (get_or objects c.objects.place none) in
    let before = map object_number (take c.objects.place objects) in
    record {
      machine = c.follow_object.ensures.machine ∙ inv.machine;
      put = λ of.
          let stands = stands-values (machine_of c.args.runner.now).design (machine_of c.objects.runner).design (ap (λ (m : Machine). m.design) inv.machine) (g.S.ShownState.shows c.args.good.now)
          (values_among before of.good) old now of (inv.put of) in
          subst (λ (l : List ℕ). ValuesArePut (values_among l of.good) old new) (sym (map-more object_number objects c.objects.place none c.objects-test.true))
          (values-then (values_among before of.good) (values_among (object ∷ []) of.good) (values_among (before ++ object ∷ []) of.good) old now new
          (λ other value. among-then before object other value (value_at of.good.values other)) (inv.put of) (c.follow_object.ensures.state stands));
      whole = c.follow_object.ensures.whole;
    }

pub returns-clause-state : goal.returns-clause-state
returns-clause-state g c = λ of.
    subst (λ (l : List ObjectId). ValuesArePut (values_among (map object_number l) of.good) (state_of c.args.runner.now) (state_of c.objects.runner))
    (take_all c.objects.place c.args.objects.now c.objects-test.false) (c.objects.invariant.put of)
