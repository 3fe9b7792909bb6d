-- What does alike goes alike; blocks go on by one more, and are blocks with more objects marked.
use Rattle.std.proofs.Common.{◌≡◌, List, [], ◌∷◌, refl, sym, ap, subst, ◌⊎◌, inl, inr}
use Rattle.vf_base.specs.Lists.{AllHold}
use Rattle.v_design.specs.Designs.{FlatDesign, Machine, StuckAt, good_machine, faulty_machine}
use Rattle.v_design.specs.States.{State, Event, after}
use Rattle.v_design.specs.Runs.{happened}
use Rattle.v_design.specs.Accesses.{ObjectAccess, accesses_of}
use Rattle.v_design.specs.Logs.{changes_of, phase_changes}
use Rattle.v_design.specs.PhaseLogs.{log_of}
use Rattle.block_filter.specs.Likes.{Marks, AreWider, WritesAlike, HasLikeAmong, IsSuspectOrLike, AllGoAlike, AlikeEventsGoAlike, AlikeStretchesGoAlike}
use Rattle.block_filter.specs.Blocks.{BlockPair, Alike, Unlike, good_events, faulty_events, good_phase, faulty_phase, all_accesses, ReachesSuspects, IsSuspectOrMet}
use Rattle.block_filter.specs.Blocks.{IsBlock, IsBlockPair, BlocksGoOn, BlocksWiden}
use Rattle.order_laws.proofs.ToFront.{happened-append}
use Rattle.block_filter.proofs.Places.{to_is_in, all-from_in, all-more}

-- Events that do alike

pub alike_events_go_alike : AlikeEventsGoAlike
alike_events_go_alike design fault marks good faulty event d = record {
  waits = d.waits;
  changes = d.changes;
  changed = λ writer line. ap (changes_of design) (d.accesses writer line);
  accesses = λ writer line.
      subst (λ ones. AllHold (IsSuspectOrLike marks ones) (accesses_of (faulty_machine design fault) writer line faulty event)) (sym (d.accesses writer line))
      (all-from_in (IsSuspectOrLike marks (accesses_of (faulty_machine design fault) writer line faulty event)) (accesses_of (faulty_machine design fault) writer line faulty event)
      (λ access i. inr (access, to_is_in access (accesses_of (faulty_machine design fault) writer line faulty event) i, record { object = refl; act = inl refl })));
}

pub alike_stretches_go_alike : AlikeStretchesGoAlike
alike_stretches_go_alike design fault marks good faulty [] d = tt
alike_stretches_go_alike design fault marks good faulty (event ∷ events) d = (
  alike_events_go_alike design fault marks good faulty event d.0,
  alike_stretches_go_alike design fault marks (after (good_machine design) good event) (after (faulty_machine design fault) faulty event) events d.1,
)

-- One block more

pub blocks_go_on : BlocksGoOn
blocks_go_on design fault marks good faulty [] block b next = (next, tt)
blocks_go_on design fault marks good faulty (first ∷ blocks) block b next = (
  b.0,
  blocks_go_on design fault marks (happened (good_machine design) good (good_events first)) (happened (faulty_machine design fault) faulty (faulty_events first)) blocks block b.1
      (subst (λ state. IsBlockPair design fault marks state
      (happened (faulty_machine design fault) (happened (faulty_machine design fault) faulty (faulty_events first)) (faulty_phase blocks)) block)
      (happened-append (good_machine design) good (good_events first) (good_phase blocks))
      (subst (λ state. IsBlockPair design fault marks (happened (good_machine design) good (good_phase (first ∷ blocks))) state block)
      (happened-append (faulty_machine design fault) faulty (faulty_events first) (faulty_phase blocks)) next)),
)

-- More objects

wider-like : (marks wider : Marks) → AreWider marks wider → (ones : List ObjectAccess) (access : ObjectAccess) → HasLikeAmong marks.awaited ones access → HasLikeAmong wider.awaited ones access
wider-like marks wider w ones access l = (l.0, l.1, record { object = l.2.object; act = go l.2.act })
  where
    go : (l.0.act ≡ access.act) ⊎ WritesAlike marks.awaited access.object l.0.act access.act → (l.0.act ≡ access.act) ⊎ WritesAlike wider.awaited access.object l.0.act access.act
    go (inl e) = inl e
    go (inr v) = inr (record { good_writes = v.good_writes; faulty_writes = v.faulty_writes; matches = λ entry a m. v.matches entry (w.awaited entry a) m })

wider-seen : (marks wider : Marks) → AreWider marks wider → (ones : List ObjectAccess) (access : ObjectAccess) → IsSuspectOrLike marks ones access → IsSuspectOrLike wider ones access
wider-seen marks wider w ones access (inl s) = inl (w.suspect access.object s)
wider-seen marks wider w ones access (inr l) = inr (wider-like marks wider w ones access l)

wider-met : (marks wider : Marks) → AreWider marks wider → (ones : List ObjectAccess) (access : ObjectAccess) → IsSuspectOrMet marks ones access → IsSuspectOrMet wider ones access
wider-met marks wider w ones access (inl s) = inl (w.suspect access.object s)
wider-met marks wider w ones access (inr m) = inr (w.met access.object m.0, wider-like marks wider w ones access m.1)

wider-events : (design : FlatDesign) (fault : StuckAt) (marks wider : Marks) → AreWider marks wider → (good faulty : State) (events : List Event) →
    AllGoAlike design fault marks good faulty events → AllGoAlike design fault wider good faulty events
wider-events design fault marks wider w good faulty [] d = tt
wider-events design fault marks wider w good faulty (event ∷ events) d = (
  record {
    waits = d.0.waits;
    changes = d.0.changes;
    changed = d.0.changed;
    accesses = λ writer line.
        all-more (IsSuspectOrLike marks (accesses_of (good_machine design) writer line good event)) (IsSuspectOrLike wider (accesses_of (good_machine design) writer line good event))
        (accesses_of (faulty_machine design fault) writer line faulty event) (wider-seen marks wider w (accesses_of (good_machine design) writer line good event)) (d.0.accesses writer line);
  },
  wider-events design fault marks wider w (after (good_machine design) good event) (after (faulty_machine design fault) faulty event) events d.1,
)

wider-block : (machine : Machine) (marks wider : Marks) → AreWider marks wider → (state : State) (first : Event) (events : List Event) → IsBlock machine marks state first events →
    IsBlock machine wider state first events
wider-block machine marks wider w state first events b = record {
  begins = b.begins;
  caused = b.caused;
  reaches = all-more (ReachesSuspects machine.design marks) (ReachesSuspects machine.design wider) (phase_changes machine.design (log_of machine state (first ∷ events)))
      (λ changed r net piece reach. w.suspect net (r net piece reach)) b.reaches;
}

wider-pair : (design : FlatDesign) (fault : StuckAt) (marks wider : Marks) → AreWider marks wider → (good faulty : State) (block : BlockPair) → IsBlockPair design fault marks good faulty block →
    IsBlockPair design fault wider good faulty block
wider-pair design fault marks wider w good faulty (Alike events) b = record { alike = wider-events design fault marks wider w good faulty events b.alike; caused = b.caused }
wider-pair design fault marks wider w good faulty (Unlike first ones others) b = record {
  good_block = wider-block (good_machine design) marks wider w good first ones b.good_block;
  faulty_block = wider-block (faulty_machine design fault) marks wider w faulty first others b.faulty_block;
  steps = b.steps;
  lanes = b.lanes;
  accesses = all-more (IsSuspectOrMet marks (all_accesses (log_of (good_machine design) good (first ∷ ones)))) (IsSuspectOrMet wider (all_accesses (log_of (good_machine design) good (first ∷ ones))))
      (all_accesses (log_of (faulty_machine design fault) faulty (first ∷ others))) (wider-met marks wider w (all_accesses (log_of (good_machine design) good (first ∷ ones)))) b.accesses;
}

pub blocks_widen : BlocksWiden
blocks_widen design fault marks wider good faulty [] w b = tt
blocks_widen design fault marks wider good faulty (block ∷ blocks) w b = (
  wider-pair design fault marks wider w good faulty block b.0,
  blocks_widen design fault marks wider (happened (good_machine design) good (good_events block)) (happened (faulty_machine design fault) faulty (faulty_events block)) blocks w b.1,
)
