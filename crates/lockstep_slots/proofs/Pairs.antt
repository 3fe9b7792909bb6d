-- A block of each machine as a pair, and a phase in which nothing is marked.
use Rattle.std.proofs.Common.{◌≡◌, ◌<◌, List, [], ◌∷◌, ◌++◌, length, map, true, false, refl, sym, ap, subst, ◌∙◌, arith}
use Rattle.std.specs.Prelude.{Some}
use Rattle.std.proofs.lemmas.List.{append-nil}
use Rattle.vf_base.specs.Lists.{joined}
use Rattle.v_design.specs.Designs.{FlatDesign, Machine, StuckAt, good_machine, faulty_machine}
use Rattle.v_design.specs.States.{State, Event, is_process_event}
use Rattle.v_design.specs.Runs.{first_event, happened}
use Rattle.v_design.specs.Accesses.{ObjectAccess}
use Rattle.v_design.specs.PhaseLogs.{noted_events, log_of}
use Rattle.copy_laws.specs.Beside.{AreFirst}
use Rattle.copy_laws.specs.Filter.{IsIn}
use Rattle.block_filter.specs.Likes.{Marks}
use Rattle.block_filter.specs.Blocks.{BlockPair, good_events, faulty_events, faulty_phase, HasCause, AllLaterHold, IsBlockPair}
use Rattle.block_filter.specs.Suffice.{HoldsAlike, AllAreAwaited}
use Rattle.block_filter.proofs.Places.{joined-append}
use Rattle.block_causes.specs.Caused.{IsFromRest, BlocksAreCaused}
use Rattle.phase_blocks.specs.Blocks.{IsWholeBlock, BlocksFollow}
use Rattle.lockstep_slots.specs.Pairs.{unlike_pair, TakeIn, no_marks, NoMarksLeaveNone}

-- one pair more
pub phase-more : (events : BlockPair → List Event) (pairs : List BlockPair) (pair : BlockPair) → joined (map events (pairs ++ pair ∷ [])) ≡ joined (map events pairs) ++ events pair
phase-more events pairs pair = joined-append events pairs (pair ∷ []) ∙ ap (λ l. joined (map events pairs) ++ l) (append-nil (events pair))

-- A block of each machine

-- a block begins with a step of a process or of a lane, and each further event has its cause in it
pub record HasItsCauses (machine : Machine) (state : State) (first : Event) (events : List Event) : Type 0 where
  pub begins : is_process_event first ≡ true
  pub caused : AllLaterHold HasCause (noted_events machine state (first ∷ events))

abbrev pub AreCaused : Machine → State → List Event → Type 0
AreCaused machine state [] = Unit {0}
AreCaused machine state (first ∷ events) = HasItsCauses machine state first events

pub whole-caused : BlocksFollow → BlocksAreCaused → (machine : Machine) (begins : State) (before block : List Event) → IsFromRest machine begins before block →
    IsWholeBlock machine (happened machine begins before) block → AreCaused machine (happened machine begins before) block
whole-caused follow law machine begins before [] from whole = tt
whole-caused follow law machine begins before (first ∷ events) from whole =
    let f = follow machine (happened machine begins before) first events from.rests whole in record { begins = f.0; caused = law machine begins before first events from f.1 }

-- a pair of two blocks
pub record IsUnlikePair (design : FlatDesign) (fault : StuckAt) (marks : Marks) (good faulty : State) (ones others : List Event) : Type 0 where
  pub is : IsBlockPair design fault marks good faulty (unlike_pair ones others)
  pub good_is : good_events (unlike_pair ones others) ≡ ones
  pub own_is : faulty_events (unlike_pair ones others) ≡ others

-- what is known of the faulty machine's block, by its first event
record OwnBlock (design : FlatDesign) (fault : StuckAt) (marks : Marks) (good faulty : State) (ones others : List Event) (first : Event) : Type 0 where
  caused : HasItsCauses (faulty_machine design fault) faulty first others
  take : TakeIn design fault marks good faulty ones (first ∷ others)

pub unlike-paired : (design : FlatDesign) (fault : StuckAt) (marks : Marks) (good faulty : State) (ones others : List Event) → first_event faulty ≡ first_event good → 0 < length ones →
    0 < length others → AreFirst (good_machine design) good ones → AreFirst (faulty_machine design fault) faulty others → AreCaused (good_machine design) good ones →
    AreCaused (faulty_machine design fault) faulty others → TakeIn design fault marks good faulty ones others → IsUnlikePair design fault marks good faulty ones others
unlike-paired design fault marks good faulty [] others same some other_some good_first own_first good_caused own_caused take = absurd (omega (arith, some))
unlike-paired design fault marks good faulty (first ∷ ones) [] same some other_some good_first own_first good_caused own_caused take = absurd (omega (arith, other_some))
unlike-paired design fault marks good faulty (first ∷ ones) (other ∷ others) same some other_some good_first own_first good_caused own_caused take = record {
  is = record {
    good_block = record { begins = good_caused.begins; caused = good_caused.caused; reaches = own.take.good_reaches };
    faulty_block = record { begins = own.caused.begins; caused = own.caused.caused; reaches = own.take.own_reaches };
    steps = own.take.steps;
    lanes = own.take.lanes;
    accesses = own.take.accesses;
  };
  good_is = refl;
  own_is = ap (λ (e : Event). e ∷ others) (sym one);
}
  where
    some-is : (x y : Event) → Some x ≡ Some y → x ≡ y
    some-is x y e = cc

    one : other ≡ first
    one = some-is other first (sym own_first.0 ∙ same ∙ good_first.0)

    own : OwnBlock design fault marks good faulty (first ∷ ones) others first
    own = subst (λ (e : Event). OwnBlock design fault marks good faulty (first ∷ ones) others e) one (record { caused = own_caused; take = take })

-- The race of a phase

pub holds-alike : (marks : Marks) (ones others : List ObjectAccess) → ones ≡ others → HoldsAlike marks ones others
holds-alike marks ones others same access here plain = subst (IsIn access) (sym same) here

pub no_marks_leave_none : AllAreAwaited → NoMarksLeaveNone
no_marks_leave_none law design fault faulty pairs = record {
  waits = law design no_marks (log_of (faulty_machine design fault) faulty (faulty_phase pairs)) (λ entry. refl);
  suspects = λ object e. absurd (let no : false ≡ true = e in cc);
  others = λ first second i j left. absurd (let no : false ≡ true = left.met in cc);
}
