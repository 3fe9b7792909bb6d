-- The hard strobes of a fault, and the index of all occurrences.
use Rattle.std.proofs.Common.{◌≡◌, ◌<◌, length, get_or, [], All, true, sym, ap, subst, ◌∙◌, arith}
use Rattle.std.specs.List.Sorted.{IsNonDecreasingBy}
use Rattle.std.proofs.lemmas.List.{length-map}
use Rattle.vf_base.specs.Lists.{has, AllHold}
use Rattle.strobe_detect.specs.declared.hard.Hard.{Hard}
use Rattle.window_index.specs.declared.occurrence.Occurrence.{Occurrence}
use Rattle.window_index.specs.Moments.{moment_of, moments_of}
use Rattle.vf_pick.specs.Faults.{lists_of}
use Rattle.vf_pick.specs.Occurrences.{occurrences_from}
use Rattle.vf_pick.proofs.Standing.{hold-at}
use Rattle.vf_pick.proofs.Places.{numbers-within, moments-ascend, moments-are}
use Rattle.vf_pick.proofs.Noting.{indexed-all}
use Rattle.vf_pick.proofs.Needed.{lists-at}
use Rattle.vf_pick.proofs.fault_index.index_faults.Goals as goal

pub note_fault-requires-clause-listed : goal.note_fault-requires-clause-listed
note_fault-requires-clause-listed c =
    let low : c.faults.fault < length (lists_of c.args.hard.now) = omega (arith, c.faults-test.true, length-map c.args.hard.now (λ (one : Hard). one.times)) in
    let there = lists-at c.args.hard.now c.faults.fault c.index-hard-fault.result c.faults-test.true in
    let read = ap (λ (one : Hard). one.times) c.index-hard-fault.is in
    let is : c.as_slice.result.now ≡ get_or (lists_of c.args.hard.now) c.faults.fault [] = cc (there, read) in
    subst (λ times. AllHold (λ time. has c.args.strobes.now time ≡ true) times) (sym is)
    (hold-at (λ times. AllHold (λ time. has c.args.strobes.now time ≡ true) times) (lists_of c.args.hard.now) c.faults.fault [] low c.requires.parts)

pub build-requires-clause-numbers : goal.build-requires-clause-numbers
build-requires-clause-numbers c =
    subst (λ os. All (λ (o : Occurrence). o.number < length c.args.strobes.now) os)
    (sym (c.deref.ensures.value
    ∙ indexed-all c.args.strobes.now c.args.hard.now c.faults.fault c.faults.occurrences.items
    (occurrences_from c.args.strobes.now 0 (lists_of c.args.hard.now)) c.faults-test.false c.faults.invariant))
    (numbers-within c.args.strobes.now 0 (lists_of c.args.hard.now) c.requires.ascending c.requires.parts)

pub build-requires-clause-ascending : goal.build-requires-clause-ascending
build-requires-clause-ascending c =
    subst (λ os. IsNonDecreasingBy moment_of os)
    (sym (c.deref.ensures.value
    ∙ indexed-all c.args.strobes.now c.args.hard.now c.faults.fault c.faults.occurrences.items
    (occurrences_from c.args.strobes.now 0 (lists_of c.args.hard.now)) c.faults-test.false c.faults.invariant))
    (moments-ascend c.args.strobes.now 0 (lists_of c.args.hard.now))

pub returns : goal.returns
returns c = record {
  places = c.in_ok-index.ensures.numbers;
  rows = λ place low.
      c.in_ok-index.ensures.moments place low
      ∙ (ap (λ os. moments_of os place)
      (c.deref.ensures.value
      ∙ indexed-all c.args.strobes.now c.args.hard.now c.faults.fault c.faults.occurrences.items
      (occurrences_from c.args.strobes.now 0 (lists_of c.args.hard.now)) c.faults-test.false c.faults.invariant)
      ∙ moments-are c.args.strobes.now 0 place (lists_of c.args.hard.now) c.requires.ascending low c.requires.hard_ascend c.requires.parts);
}
