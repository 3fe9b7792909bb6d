-- What the moments of the stretches among pairs of blocks tell.
use Rattle.std.proofs.Common.{◌≡◌, ◌⊎◌, ℕ, ◌+◌, ◌<◌, ◌≤◌, List, [], ◌∷◌, ◌++◌, map, length, Bool, true, false, ◌&&◌, refl, sym, ap, subst, ◌∙◌, inl, inr, arith}
use Rattle.std.specs.Prelude.{Some, slice_get, nat_eq}
use Rattle.std.proofs.lemmas.List.{length-append}
use Rattle.vf_base.specs.Lists.{AllHold}
use Rattle.v_design.specs.Designs.{FlatDesign, Machine, StuckAt, TestPlan, good_machine, faulty_machine}
use Rattle.v_design.specs.States.{State, Event}
use Rattle.v_design.specs.Runs.{happened}
use Rattle.v_design.specs.Accesses.{AccessAct}
use Rattle.v_design.specs.Logs.{is_write}
use Rattle.trace_window.specs.Moments.{Seen, seen_from, window_events}
use Rattle.trace_window.specs.Touched.{is_touching, event_touches, event_writes, touched_at, written_at}
use Rattle.block_filter.specs.Blocks.{BlockPair, Alike, Unlike, good_phase}
use Rattle.free_objects.specs.Stretches.{NonePasses}
use Rattle.lockstep_race.specs.Alike.{PairsPassNone}
use Rattle.lockstep_slots.specs.Places.{state_there}
use Rattle.window_tests.specs.Between.{read_at}
use Rattle.window_tests.specs.Stretches.{StretchesHold, StretchesPassNone, OwnBlocksPassNone, IsInStretch, own_spans, IsOutside, PairsAreTold}
use Rattle.window_tests.proofs.Told.{SeenFails, AreFrom, none-passes, seen-behind, stretch-from, each-seen, untouched-seen, unwritten-seen, unread-seen, seen-first}

-- Behind some of the events

from-first : (machine : Machine) (all : List Seen) (first : ℕ) (state : State) (events more : List Event) → AreFrom machine all first state (events ++ more) → AreFrom machine all first state events
from-first machine all first state events more from number seen here = from number seen (seen-first machine state events more number seen here)

from-rest : (machine : Machine) (all : List Seen) (first : ℕ) (state : State) (events more : List Event) → AreFrom machine all first state (events ++ more) →
    AreFrom machine all (first + length events) (happened machine state events) more
from-rest machine all first state events more from number seen here =
    let z : first + (length events + number) ≡ first + length events + number = omega arith in
    ap (slice_get all) (sym z) ∙ from (length events + number) seen (sym (seen-behind machine state events more number) ∙ here)

-- a fact of the event of each moment in a stretch, for each stretch a fact of its events
each-stretch : (Q : Seen → Type 0) (P : State → List Event → Type 0) (machine : Machine) (all : List Seen) (first : ℕ) (state : State) (pairs : List BlockPair) →
    ((at : State) (events : List Event) → AllHold Q (seen_from machine at events) → P at events) → AreFrom machine all first state (good_phase pairs) →
    ((moment : ℕ) (seen : Seen) → IsInStretch first pairs moment → slice_get all moment ≡ Some seen → Q seen) → StretchesHold P machine state pairs
each-stretch Q P machine all first state [] tells from each = tt
each-stretch Q P machine all first state (Alike events ∷ pairs) tells from each = (
  tells state events
      (each-seen Q machine all first state events (from-first machine all first state events (good_phase pairs) from)
      (λ moment seen since before here. each moment seen (inl (since, before)) here)),
  each-stretch Q P machine all (first + length events) (happened machine state events) pairs tells (from-rest machine all first state events (good_phase pairs) from)
      (λ moment seen within here. each moment seen (inr within) here),
)
each-stretch Q P machine all first state (Unlike one ones others ∷ pairs) tells from each =
    each-stretch Q P machine all (first + length (one ∷ ones)) (happened machine state (one ∷ ones)) pairs tells (from-rest machine all first state (one ∷ ones) (good_phase pairs) from)
    (λ moment seen within here. each moment seen within here)

-- Moments in stretches

stretch-outside : (first : ℕ) (pairs : List BlockPair) (moment : ℕ) → IsInStretch first pairs moment → IsOutside first pairs moment
stretch-outside first [] moment within = absurd within
stretch-outside first (Alike events ∷ pairs) moment (inl here) = record {
  since = here.0;
  before = omega (arith, here.1, length-append events (good_phase pairs));
  outside = spans-behind (first + length events) pairs moment here.1;
}
  where
    -- the spans of later pairs lie behind
    spans-behind : (from : ℕ) (pairs : List BlockPair) (moment : ℕ) → moment < from → AllHold (λ (span : ℕ × ℕ). (moment < span.0) ⊎ (span.1 ≤ moment)) (own_spans from pairs)
    spans-behind from [] moment low = tt
    spans-behind from (Alike events ∷ pairs) moment low = spans-behind (from + length events) pairs moment (omega arith)
    spans-behind from (Unlike one ones others ∷ pairs) moment low = (inl low, spans-behind (from + length (one ∷ ones)) pairs moment (omega arith))
stretch-outside first (Alike events ∷ pairs) moment (inr later) =
    let rest = stretch-outside (first + length events) pairs moment later in
    record {
      since = omega (arith, rest.since);
      before = omega (arith, rest.before, length-append events (good_phase pairs));
      outside = rest.outside;
    }
stretch-outside first (Unlike one ones others ∷ pairs) moment within =
    let rest = stretch-outside (first + length (one ∷ ones)) pairs moment within in
    record {
      since = omega (arith, rest.since);
      before = omega (arith, rest.before, length-append (one ∷ ones) (good_phase pairs));
      outside = (inr rest.since, rest.outside);
    }

-- The parts

join-parts : (test : ℕ → AccessAct → Bool) (design : FlatDesign) (fault : StuckAt) (good faulty : State) (pairs : List BlockPair) → StretchesPassNone test (good_machine design) good pairs →
    OwnBlocksPassNone test (faulty_machine design fault) faulty pairs → PairsPassNone test design fault good faulty pairs
join-parts test design fault good faulty [] stretches own = tt
join-parts test design fault good faulty (Alike events ∷ pairs) stretches own =
    (stretches.0, join-parts test design fault (happened (good_machine design) good events) (happened (faulty_machine design fault) faulty events) pairs stretches.1 own)
join-parts test design fault good faulty (Unlike first ones others ∷ pairs) stretches own =
    (own.0, join-parts test design fault (happened (good_machine design) good (first ∷ ones)) (happened (faulty_machine design fault) faulty (first ∷ others)) pairs stretches own.1)

-- The laws

pub pairs_are_told : PairsAreTold
pairs_are_told = record {
  untouched = λ design plan begins ends first place pairs object stretch none.
      each-stretch (SeenFails (λ other act. nat_eq other object && is_touching act) (good_machine design)) (NonePasses (λ other act. nat_eq other object && is_touching act) (good_machine design))
      (good_machine design) (window_events design plan begins ends) first (state_there (good_machine design) place) pairs
      (λ at events all. none-passes (λ other act. nat_eq other object && is_touching act) (good_machine design) at events all)
      (stretch-from design plan begins ends first place (good_phase pairs) stretch)
      (λ moment seen within here. untouched-seen (good_machine design) (window_events design plan begins ends) object moment seen here (none moment within));
  unwritten = λ design plan begins ends first place pairs object stretch none.
      each-stretch (SeenFails (λ other act. nat_eq other object && is_write act) (good_machine design)) (NonePasses (λ other act. nat_eq other object && is_write act) (good_machine design))
      (good_machine design) (window_events design plan begins ends) first (state_there (good_machine design) place) pairs
      (λ at events all. none-passes (λ other act. nat_eq other object && is_write act) (good_machine design) at events all)
      (stretch-from design plan begins ends first place (good_phase pairs) stretch)
      (λ moment seen within here. unwritten-seen (good_machine design) (window_events design plan begins ends) object moment seen here (none moment within));
  unread = λ design plan begins ends first place pairs object stretch none.
      each-stretch (λ (seen : Seen). event_touches (good_machine design) object seen ≡ true → event_writes (good_machine design) object seen ≡ true)
      (λ (at : State) (events : List Event). AllHold (λ (seen : Seen). event_touches (good_machine design) object seen ≡ true → event_writes (good_machine design) object seen ≡ true)
      (seen_from (good_machine design) at events))
      (good_machine design) (window_events design plan begins ends) first (state_there (good_machine design) place) pairs (λ at events all. all)
      (stretch-from design plan begins ends first place (good_phase pairs) stretch)
      (λ moment seen within here. unread-seen (good_machine design) (window_events design plan begins ends) object moment seen here (none moment within));
  outside = stretch-outside;
  parts = join-parts;
}
