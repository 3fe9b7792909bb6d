-- What none of the pairs of blocks does none of the phase does.
use Rattle.std.proofs.Common.{◌≡◌, ℕ, Bool, List, [], ◌∷◌, ◌++◌, sym, subst}
use Rattle.v_design.specs.Designs.{FlatDesign, Machine, StuckAt, good_machine, faulty_machine}
use Rattle.v_design.specs.States.{State, Event}
use Rattle.v_design.specs.Runs.{happened}
use Rattle.v_design.specs.Accesses.{AccessAct}
use Rattle.copy_laws.specs.QuietPhases.{AllDoAlike}
use Rattle.block_filter.specs.Blocks.{BlockPair, Alike, Unlike, good_phase, faulty_phase}
use Rattle.free_objects.specs.Stretches.{NonePasses, StretchesJoin, AlikeStretchesDo}
use Rattle.order_laws.proofs.ToFront.{happened-append}
use Rattle.lockstep_race.specs.Alike.{AreAlike, PairsPassNone, PairsTell, AlikeGoesOn}

pub pairs_tell : StretchesJoin → AlikeStretchesDo → PairsTell
pairs_tell join alike test design fault good faulty [] same none = tt
pairs_tell join alike test design fault good faulty (Alike events ∷ blocks) same none =
    join test (faulty_machine design fault) faulty events (faulty_phase blocks) (alike test design fault good faulty events same.0 none.0)
    (pairs_tell join alike test design fault (happened (good_machine design) good events) (happened (faulty_machine design fault) faulty events) blocks same.1 none.1)
pairs_tell join alike test design fault good faulty (Unlike first ones others ∷ blocks) same none =
    join test (faulty_machine design fault) faulty (first ∷ others) (faulty_phase blocks) none.0
    (pairs_tell join alike test design fault (happened (good_machine design) good (first ∷ ones)) (happened (faulty_machine design fault) faulty (first ∷ others)) blocks same none.1)

stretch-more : (design : FlatDesign) (fault : StuckAt) (good faulty : State) (blocks : List BlockPair) (events : List Event) → AreAlike design fault good faulty blocks →
    AllDoAlike design fault (happened (good_machine design) good (good_phase blocks)) (happened (faulty_machine design fault) faulty (faulty_phase blocks)) events →
    AreAlike design fault good faulty (blocks ++ Alike events ∷ [])
stretch-more design fault good faulty [] events same more = (more, tt)
stretch-more design fault good faulty (Alike one ∷ blocks) events same more = (
  same.0,
  stretch-more design fault (happened (good_machine design) good one) (happened (faulty_machine design fault) faulty one) blocks events same.1
      (subst (λ g. AllDoAlike design fault g (happened (faulty_machine design fault) (happened (faulty_machine design fault) faulty one) (faulty_phase blocks)) events)
      (happened-append (good_machine design) good one (good_phase blocks))
      (subst (λ f. AllDoAlike design fault (happened (good_machine design) good (one ++ good_phase blocks)) f events)
      (happened-append (faulty_machine design fault) faulty one (faulty_phase blocks)) more)),
)
stretch-more design fault good faulty (Unlike first ones others ∷ blocks) events same more =
    stretch-more design fault (happened (good_machine design) good (first ∷ ones)) (happened (faulty_machine design fault) faulty (first ∷ others)) blocks events same
    (subst (λ g. AllDoAlike design fault g (happened (faulty_machine design fault) (happened (faulty_machine design fault) faulty (first ∷ others)) (faulty_phase blocks)) events)
    (happened-append (good_machine design) good (first ∷ ones) (good_phase blocks))
    (subst (λ f. AllDoAlike design fault (happened (good_machine design) good ((first ∷ ones) ++ good_phase blocks)) f events)
    (happened-append (faulty_machine design fault) faulty (first ∷ others) (faulty_phase blocks)) more))

own-more : (design : FlatDesign) (fault : StuckAt) (good faulty : State) (blocks : List BlockPair) (first : Event) (ones others : List Event) → AreAlike design fault good faulty blocks →
    AreAlike design fault good faulty (blocks ++ Unlike first ones others ∷ [])
own-more design fault good faulty [] first ones others same = tt
own-more design fault good faulty (Alike one ∷ blocks) first ones others same =
    (same.0, own-more design fault (happened (good_machine design) good one) (happened (faulty_machine design fault) faulty one) blocks first ones others same.1)
own-more design fault good faulty (Unlike begin some more ∷ blocks) first ones others same =
    own-more design fault (happened (good_machine design) good (begin ∷ some)) (happened (faulty_machine design fault) faulty (begin ∷ more)) blocks first ones others same

pub alike_goes_on : AlikeGoesOn
alike_goes_on = record { stretch = stretch-more; own = own-more }
