-- Before the walk, and at the try of a strobe.
use Rattle.std.proofs.Common.{◌-◌, ◌<◌, ◌≤◌, length, get_or, All, ap, sym, subst, ◌∙◌, arith, take, drop}
use Rattle.std.proofs.lemmas.Bool.{iff_false}
use Rattle.vf_pick.specs.Faults.{lists_of}
use Rattle.vf_pick.proofs.Tries.{AreTried, none-tried}
use Rattle.vf_pick.proofs.Needed.{first-counts}
use Rattle.vf_pick.proofs.Rows.{IsBefore, row-within, row-enough, row-goes, row-stays}
use Rattle.vf_pick.proofs.walk.keep_strobes.Goals as goal

pub strobes-init : goal.strobes-init
strobes-init c =
    subst (λ places. AreTried c.args.strobes.now (lists_of c.args.hard.now) (take (length c.args.strobes.now) c.args.strobes.now)
    (drop (length c.args.strobes.now) c.args.strobes.now) places c.in_ok-counts.counts.items)
    (sym c.new-places.ensures.items)
    (none-tried c.args.strobes.now (lists_of c.args.hard.now) c.in_ok-counts.counts.items
    (first-counts c.args.strobes.now c.args.hard.now c.in_ok-counts.counts.items c.requires.parts c.in_ok-counts.ensures))

pub all_have_two-requires : goal.all_have_two-requires
all_have_two-requires c =
    let low : c.strobes.place - 1 < length c.args.strobes.now = omega arith in
    row-within c.args.strobes.now (lists_of c.args.hard.now) c.args.index.now
    (c.strobes.place - 1) c.moments-faults.result.now c.deref.result.now c.requires.indexed low c.moments-faults.ensures.moments
    (ap length c.deref.ensures.value ∙ c.strobes.invariant.counted.whole)

pub take_one-requires-clause-enough : goal.take_one-requires-clause-enough
take_one-requires-clause-enough c =
    let low : c.strobes.place - 1 < length c.args.strobes.now = omega arith in
    row-enough c.args.strobes.now (lists_of c.args.hard.now) c.args.index.now
    (c.strobes.place - 1) c.moments-faults.result.now c.strobes.counts.items c.requires.indexed low c.moments-faults.ensures.moments
    c.strobes.invariant.counted.whole (subst (λ xs. All (λ fault. 2 ≤ get_or xs fault 0) c.moments-faults.result.now) c.deref.ensures.value (c.all_have_two.ensures.0 c.if-all_have_two.true))

pub strobes-preserved-then-all_have_two : goal.strobes-preserved-then-all_have_two
strobes-preserved-then-all_have_two c =
    let setting : IsBefore c.args.strobes.now (lists_of c.args.hard.now) c.args.index.now c.strobes.place
    (c.strobes.place - 1) c.moments-faults.result.now c.strobes.places.items c.strobes.counts.items = record {
      indexed = c.requires.indexed;
      next = omega arith;
      low = omega arith;
      ascending = c.requires.ascending;
      ascend = c.requires.hard_ascend;
      parts = c.requires.parts;
      row = c.moments-faults.ensures.moments;
      had = c.strobes.invariant;
    } in
    row-goes c.args.strobes.now (lists_of c.args.hard.now) c.args.index.now c.strobes.place
    (c.strobes.place - 1) c.moments-faults.result.now c.strobes.places.items c.strobes.counts.items setting c.take_one.new.counts.items
    (subst (λ xs. All (λ fault. 2 ≤ get_or xs fault 0) c.moments-faults.result.now) c.deref.ensures.value
    (c.all_have_two.ensures.0 c.if-all_have_two.true)) c.take_one.ensures.same c.take_one.ensures.taken

pub strobes-preserved : goal.strobes-preserved
strobes-preserved c =
    let setting : IsBefore c.args.strobes.now (lists_of c.args.hard.now) c.args.index.now c.strobes.place
    (c.strobes.place - 1) c.moments-faults.result.now c.strobes.places.items c.strobes.counts.items = record {
      indexed = c.requires.indexed;
      next = omega arith;
      low = omega arith;
      ascending = c.requires.ascending;
      ascend = c.requires.hard_ascend;
      parts = c.requires.parts;
      row = c.moments-faults.ensures.moments;
      had = c.strobes.invariant;
    } in
    row-stays c.args.strobes.now (lists_of c.args.hard.now) c.args.index.now c.strobes.place
    (c.strobes.place - 1) c.moments-faults.result.now c.strobes.places.items c.strobes.counts.items setting c.push.new.self.items
    (λ two. iff_false c.all_have_two.ensures c.if-all_have_two.false
    (subst (λ xs. All (λ fault. 2 ≤ get_or xs fault 0) c.moments-faults.result.now) (sym c.deref.ensures.value) two)) c.in_ok-push.ensures.items
