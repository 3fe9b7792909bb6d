-- What a window tells of the stretches of a phase whose own blocks are noted.
use Rattle.std.proofs.Common.{◌≡◌, ℕ, ◌+◌, List, [], ◌∷◌, ◌++◌, length, map, Bool, true, false, not, ◌&&◌, refl, sym, ap, subst, ◌∙◌, inr, arith, append_assoc, length-append, nat_eq}
use Rattle.v_design.specs.Designs.{FlatDesign, Machine, StuckAt, TestPlan, good_machine}
use Rattle.v_design.specs.States.{State, Event}
use Rattle.v_design.specs.Runs.{happened}
use Rattle.v_design.specs.Accesses.{AccessAct, Reading, Writing, Awaiting, Ending, Holding, Settling, ObjectAccess}
use Rattle.v_design.specs.PhaseLogs.{log_of}
use Rattle.machine_laws.specs.SlotLoop.{Moment}
use Rattle.copy_laws.specs.Filter.{IsIn}
use Rattle.trace_window.specs.Moments.{window_events}
use Rattle.trace_window.specs.Touched.{touched_at, written_at}
use Rattle.block_filter.specs.Blocks.{BlockPair, Alike, Unlike, good_phase, all_accesses}
use Rattle.free_objects.specs.Stretches.{NonePasses}
use Rattle.phase_reach.specs.lockstep_slots.Places.{Place, state_there, behind_events}
use Rattle.phase_reach.specs.window_places.Windows.{PlacesInWindows}
use Rattle.phase_reach.specs.window_tests.Between.{OnlyWithin, read_at}
use Rattle.phase_reach.specs.window_tests.Stretches.{IsStretchAt, IsOnlyWrittenTo, StretchesHold, StretchesPassNone, IsInStretch, PairsAreTold}
use Rattle.sole_touches.specs.Unawaited.{reads_object, is_read, WritesAloneTouch}
use Rattle.race_notes.specs.declared.note.OwnSpan.{OwnSpan}
use Rattle.race_notes.specs.Notes.{NotesKept, is_reading, reads, writes, touches, span_of}
use Rattle.race_notes.proofs.Lists.{all-weaker}
use Rattle.phase_reach.specs.lockstep_notes.Notes.{own_blocks, phase_place, NotesTell}
use Rattle.lockstep_filter.specs.Free.{IsCovered}
use Rattle.lockstep_filter.proofs.OwnBlocks.{outside-covered, phases-joined}

-- a moment in a stretch is covered by no noted block
pub not-covered : PairsAreTold → (design : FlatDesign) (fault : StuckAt) (first : ℕ) (faulty : State) (pairs : List BlockPair) (spans : List OwnSpan) (moment : ℕ) →
    spans ≡ map span_of (own_blocks design fault first faulty pairs) → IsInStretch first pairs moment → IsCovered spans moment → ⊥
not-covered told design fault first faulty pairs spans moment spans_are at covered =
    outside-covered design fault first faulty pairs moment covered.0 (told.outside first pairs moment at).outside (subst (IsIn covered.0) spans_are covered.1) covered.2 covered.3

-- where a test passes at covered moments alone, it doesn't in the stretches
pub none-within : PairsAreTold → (first : ℕ) (pairs : List BlockPair) (spans : List OwnSpan) (end : ℕ) (test : ℕ → Bool) →
    ((moment : ℕ) → IsInStretch first pairs moment → IsCovered spans moment → ⊥) → end ≡ first + length (good_phase pairs) → OnlyWithin (IsCovered spans) test first end → (moment : ℕ) →
    IsInStretch first pairs moment → test moment ≡ false
none-within told first pairs spans end test apart end_is only moment at = go (test moment) refl
  where
    go : (b : Bool) → test moment ≡ b → test moment ≡ false
    go false e = e
    go true e =
        let out = told.outside first pairs moment at in
        let since = out.since in
        let before = out.before in
        absurd (apart moment at (only moment since (omega (arith, before, end_is)) e))

-- Tests of accesses

reading-is : (act : AccessAct) → is_read act ≡ is_reading act
reading-is Reading = refl
reading-is (Writing old new) = refl
reading-is (Awaiting entry) = refl
reading-is (Ending entry) = refl
reading-is (Holding entry) = refl
reading-is Settling = refl

pub none-weaker : (test other : ℕ → AccessAct → Bool) (machine : Machine) (state : State) (events : List Event) →
    ((object : ℕ) (act : AccessAct) → test object act ≡ false → other object act ≡ false) → NonePasses test machine state events → NonePasses other machine state events
none-weaker test other machine state events weaker none =
    all-weaker (λ (access : ObjectAccess). test access.object access.act ≡ false) (λ (access : ObjectAccess). other access.object access.act ≡ false)
    (all_accesses (log_of machine state events)) (λ access e. weaker access.object access.act e) none

-- an access that reads an object by the one word reads it by the other
pub reads-same : (object other : ℕ) (act : AccessAct) → reads object other act ≡ reads_object object other act
reads-same object other act = ap (λ b. nat_eq other object && b) (sym (reading-is act))

hold-weaker : (P Q : State → List Event → Type 0) (machine : Machine) (state : State) (pairs : List BlockPair) → ((at : State) (events : List Event) → P at events → Q at events) →
    StretchesHold P machine state pairs → StretchesHold Q machine state pairs
hold-weaker P Q machine state [] f h = tt
hold-weaker P Q machine state (Alike events ∷ pairs) f h = (f state events h.0, hold-weaker P Q machine (happened machine state events) pairs f h.1)
hold-weaker P Q machine state (Unlike first ones others ∷ pairs) f h = hold-weaker P Q machine (happened machine state (first ∷ ones)) pairs f h

-- The phase

-- pairs of blocks from a place on to the end of the phase, where the spans of own blocks cover no stretch of them
pub record IsPart (design : FlatDesign) (plan : TestPlan) (begins ends end : ℕ) (spans : List OwnSpan) (first : ℕ) (place : Place) (pairs : List BlockPair) : Type 0 where
  pub at : IsStretchAt design plan begins ends first place (good_phase pairs)
  pub end_is : end ≡ first + length (good_phase pairs)
  pub apart : (moment : ℕ) → IsInStretch first pairs moment → IsCovered spans moment → ⊥

module _ (told : PairsAreTold) (design : FlatDesign) (plan : TestPlan) (begins ends end first : ℕ) (spans : List OwnSpan) (place : Place) (pairs : List BlockPair)
    (part : IsPart design plan begins ends end spans first place pairs) (object : ℕ) where
  -- the stretches don't write an object
  pub part-unwritten : OnlyWithin (IsCovered spans) (written_at (good_machine design) (window_events design plan begins ends) object) first end →
      StretchesPassNone (writes object) (good_machine design) (state_there (good_machine design) place) pairs
  part-unwritten only =
      told.unwritten design plan begins ends first place pairs object part.at
      (none-within told first pairs spans end (written_at (good_machine design) (window_events design plan begins ends) object) part.apart part.end_is only)

  -- they don't read it
  pub part-unread : WritesAloneTouch → OnlyWithin (IsCovered spans) (read_at (good_machine design) (window_events design plan begins ends) object) first end →
      StretchesPassNone (reads object) (good_machine design) (state_there (good_machine design) place) pairs
  part-unread law only =
      hold-weaker (λ (at : State) (events : List Event). IsOnlyWrittenTo (good_machine design) at events object) (NonePasses (reads object) (good_machine design)) (good_machine design)
      (state_there (good_machine design) place) pairs
      (λ at events alone.
      none-weaker (reads_object object) (reads object) (good_machine design) at events (λ other act e. reads-same object other act ∙ e) (law (good_machine design) at events object alone))
      (told.unread design plan begins ends first place pairs object part.at
      (none-within told first pairs spans end (read_at (good_machine design) (window_events design plan begins ends) object) part.apart part.end_is only))

  -- they do neither
  pub part-untouched : OnlyWithin (IsCovered spans) (written_at (good_machine design) (window_events design plan begins ends) object) first end →
      OnlyWithin (IsCovered spans) (read_at (good_machine design) (window_events design plan begins ends) object) first end →
      StretchesPassNone (touches object) (good_machine design) (state_there (good_machine design) place) pairs
  part-untouched unwritten unread =
      told.untouched design plan begins ends first place pairs object part.at
      (λ moment at.
      untouched (touched_at (good_machine design) (window_events design plan begins ends) object moment) (written_at (good_machine design) (window_events design plan begins ends) object moment)
      (none-within told first pairs spans end (written_at (good_machine design) (window_events design plan begins ends) object) part.apart part.end_is unwritten moment at)
      (none-within told first pairs spans end (read_at (good_machine design) (window_events design plan begins ends) object) part.apart part.end_is unread moment at))
    where
      untouched : (t w : Bool) → w ≡ false → (t && not w) ≡ false → t ≡ false
      untouched true w e f = let z : true ≡ false = sym (ap not e) ∙ f in cc
      untouched false w e f = refl

-- the whole phase, and what is left of it behind some pairs
pub whole-part : (told : PairsAreTold) (design : FlatDesign) (plan : TestPlan) (fault : StuckAt) (begins ends end : ℕ) (place : Place) (own : Moment) (pairs : List BlockPair) (notes : NotesKept) →
    NotesTell design plan fault begins ends end place own pairs notes → place.phase.events ≡ place.passed ++ place.left → place.left ≡ [] →
    IsPart design plan begins ends end notes.spans notes.first (phase_place place) pairs
whole-part told design plan fault begins ends end place own pairs notes tells events left = record {
  at = record {
    at = tells.window;
    more = [];
    left = events ∙ (λ i. sym tells.good_pairs i ++ left i);
  };
  end_is = tells.moment_is ∙ ap (λ (l : List Event). notes.first + length l) (sym tells.good_pairs);
  apart = λ moment at covered. not-covered told design fault notes.first own.phase_begins pairs notes.spans moment tells.told.spans at covered;
}

-- a moment in a stretch of the later part is one in a stretch
in-later : (front rest : List BlockPair) (first moment : ℕ) → IsInStretch (first + length (good_phase front)) rest moment → IsInStretch first (front ++ rest) moment
in-later [] rest first moment at = let same : first + 0 ≡ first = omega arith in subst (λ n. IsInStretch n rest moment) same at
in-later (Alike events ∷ front) rest first moment at =
    let long = length-append events (good_phase front) in
    let same : first + length (events ++ good_phase front) ≡ first + length events + length (good_phase front) = omega (arith, long) in
    inr (in-later front rest (first + length events) moment (subst (λ n. IsInStretch n rest moment) same at))
in-later (Unlike one ones others ∷ front) rest first moment at =
    let long = length-append (one ∷ ones) (good_phase front) in
    let same : first + length ((one ∷ ones) ++ good_phase front) ≡ first + length (one ∷ ones) + length (good_phase front) = omega (arith, long) in
    in-later front rest (first + length (one ∷ ones)) moment (subst (λ n. IsInStretch n rest moment) same at)

pub rest-part : PairsAreTold → PlacesInWindows → (design : FlatDesign) (plan : TestPlan) (begins ends end first : ℕ) (spans : List OwnSpan) (place : Place) (front rest : List BlockPair) →
    IsPart design plan begins ends end spans first place (front ++ rest) →
    (more : List Event) × IsPart design plan begins ends end spans (first + length (good_phase front)) (behind_events (good_phase front) more place) rest
rest-part told law design plan begins ends end first spans place front rest part = (
  good_phase rest ++ part.at.more,
  record {
    at = record {
      at =
          law.goes_on design plan begins ends first place (good_phase front) (good_phase rest ++ part.at.more) part.at.at
          (part.at.left ∙ ap (λ l. l ++ part.at.more) (phases-joined front rest) ∙ append_assoc (good_phase front) (good_phase rest) part.at.more);
      more = part.at.more;
      left = refl;
    };
    end_is =
        let end_is = part.end_is in
        let parts = ap (λ (l : List Event). length l) (phases-joined front rest) in
        let long = length-append (good_phase front) (good_phase rest) in
        omega (arith, end_is, parts, long);
    apart = λ moment at covered. part.apart moment (in-later front rest first moment at) covered;
  },
)
