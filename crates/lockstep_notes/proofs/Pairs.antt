-- Notes go on with the pairs of blocks.
use Rattle.std.proofs.Common.{◌≡◌, ℕ, ◌+◌, List, [], ◌∷◌, ◌++◌, map, length, refl, sym, ap, subst, ◌∙◌, arith, append_assoc, append-nil, length-append}
use Rattle.vf_base.specs.Lists.{joined}
use Rattle.v_design.specs.Designs.{FlatDesign, Machine, StuckAt, TestPlan, faulty_machine}
use Rattle.v_design.specs.States.{State, Event, after}
use Rattle.v_design.specs.Runs.{happened}
use Rattle.v_design.specs.PhaseLogs.{log_of}
use Rattle.order_laws.proofs.ToFront.{happened-append}
use Rattle.machine_laws.specs.SlotLoop.{Moment, after_event, after_events}
use Rattle.block_filter.specs.Blocks.{BlockPair, Alike, Unlike, good_events, faulty_events, good_phase, faulty_phase, all_accesses}
use Rattle.block_told.specs.Tells.{access_seen}
use Rattle.window_tests.specs.lockstep_slots.Pairs.{unlike_pair}
use Rattle.window_tests.specs.lockstep_slots.Places.{Place, behind_events}
use Rattle.window_tests.specs.window_places.Windows.{IsAtMoment}
use Rattle.race_notes.specs.Notes.{OwnBlock, NotesKept, empty_note, note_at, HasNoNotes, IsNoteOf, AreNotesOf}
use Rattle.lockstep_notes.specs.Notes.{own_blocks, phase_place, NotesTell}
use Rattle.lockstep_notes.specs.Beside.{BeginAlike}
use Rattle.lockstep_notes.specs.Laws.{NotesGoOn}

-- Moments

after-state : (machine : Machine) (events : List Event) (at : Moment) → (after_events machine events at).state ≡ happened machine at.state events
after-state machine [] at = refl
after-state machine (event ∷ events) at = after-state machine events (after_event machine event at)

after-begins : (machine : Machine) (events : List Event) (at : Moment) → (after_events machine events at).phase_begins ≡ at.phase_begins
after-begins machine [] at = refl
after-begins machine (event ∷ events) at = after-begins machine events (after_event machine event at)

-- One pair more

phase-more : (events : BlockPair → List Event) (pairs : List BlockPair) (pair : BlockPair) → joined (map events (pairs ++ pair ∷ [])) ≡ joined (map events pairs) ++ events pair
phase-more events [] pair = append-nil (events pair)
phase-more events (first ∷ pairs) pair = ap (λ l. events first ++ l) (phase-more events pairs pair) ∙ sym (append_assoc (events first) (joined (map events pairs)) (events pair))

-- the own blocks of pairs in two parts
pub blocks-joined : (design : FlatDesign) (fault : StuckAt) (moment : ℕ) (faulty : State) (front rest : List BlockPair) →
    own_blocks design fault moment faulty (front ++ rest)
    ≡ own_blocks design fault moment faulty front
    ++ own_blocks design fault (moment + length (good_phase front)) (happened (faulty_machine design fault) faulty (faulty_phase front)) rest
blocks-joined design fault moment faulty [] rest = let same : moment ≡ moment + 0 = omega arith in ap (λ m. own_blocks design fault m faulty rest) same
blocks-joined design fault moment faulty (Alike events ∷ front) rest =
    blocks-joined design fault (moment + length events) (happened (faulty_machine design fault) faulty events) front rest
    ∙ (λ i. own_blocks design fault (moment + length events) (happened (faulty_machine design fault) faulty events) front
    ++ own_blocks design fault (further events front i) (sym (happened-append (faulty_machine design fault) faulty events (faulty_phase front)) i) rest)
  where
    further : (events : List Event) (front : List BlockPair) → moment + length events + length (good_phase front) ≡ moment + length (events ++ good_phase front)
    further events front = let long = length-append events (good_phase front) in omega (arith, long)
blocks-joined design fault moment faulty (Unlike first ones others ∷ front) rest =
    ap (λ l. block ∷ l)
    (blocks-joined design fault (moment + length (first ∷ ones)) (happened (faulty_machine design fault) faulty (first ∷ others)) front rest
    ∙ (λ i. own_blocks design fault (moment + length (first ∷ ones)) (happened (faulty_machine design fault) faulty (first ∷ others)) front
    ++ own_blocks design fault (further i) (sym (happened-append (faulty_machine design fault) faulty (first ∷ others) (faulty_phase front)) i) rest))
  where
    block : OwnBlock
    block = record {
      begins = moment;
      ends = moment + length (first ∷ ones);
      seen = map access_seen (all_accesses (log_of (faulty_machine design fault) faulty (first ∷ others)));
    }

    further : moment + length (first ∷ ones) + length (good_phase front) ≡ moment + length ((first ∷ ones) ++ good_phase front)
    further = let long = length-append (first ∷ ones) (good_phase front) in omega (arith, long)

-- the notes are of one pair more where they are of its own block too, if it is one
pub notes-more : (design : FlatDesign) (plan : TestPlan) (fault : StuckAt) (begins ends moment : ℕ) (place : Place) (own : Moment) (pairs : List BlockPair) (old new : NotesKept)
    (ones more others : List Event) (pair : BlockPair) → NotesTell design plan fault begins ends moment place own pairs old → new.first ≡ old.first → good_events pair ≡ ones →
    faulty_events pair ≡ others →
    AreNotesOf (own_blocks design fault old.first own.phase_begins pairs ++ own_blocks design fault moment own.state (pair ∷ [])) new →
    NotesTell design plan fault begins ends (moment + length ones) (behind_events ones more place) (after_events (faulty_machine design fault) others own) (pairs ++ pair ∷ []) new
notes-more design plan fault begins ends moment place own pairs old new ones more others pair tells first_is good_is own_is notes = record {
  window = subst (λ n. IsAtMoment design plan begins ends n (phase_place place)) (sym first_is) tells.window;
  moment_is = let parts = length-append place.passed ones in let at = tells.moment_is in omega (arith, parts, at, first_is);
  good_pairs = phase-more good_events pairs pair ∙ (λ i. tells.good_pairs i ++ good_is i);
  own_state =
      after-state machine others own ∙ (λ i. happened machine (tells.own_state i) others) ∙ sym (happened-append machine own.phase_begins (faulty_phase pairs) others)
      ∙ (λ i. happened machine (sym (after-begins machine others own) i) ((ap (λ l. faulty_phase pairs ++ l) (sym own_is) ∙ sym (phase-more faulty_events pairs pair)) i));
  told = subst (λ bs. AreNotesOf bs new) (sym blocks) notes;
}
  where
    machine : Machine
    machine = faulty_machine design fault

    moment-there : old.first + length (good_phase pairs) ≡ moment
    moment-there = ap (λ l. old.first + length l) tells.good_pairs ∙ sym tells.moment_is

    blocks : own_blocks design fault new.first (after_events machine others own).phase_begins (pairs ++ pair ∷ [])
        ≡ own_blocks design fault old.first own.phase_begins pairs ++ own_blocks design fault moment own.state (pair ∷ [])
    blocks =
        (λ i. own_blocks design fault (first_is i) (after-begins machine others own i) (pairs ++ pair ∷ []))
        ∙ blocks-joined design fault old.first own.phase_begins pairs (pair ∷ [])
        ∙ (λ i. own_blocks design fault old.first own.phase_begins pairs ++ own_blocks design fault (moment-there i) (sym tells.own_state i) (pair ∷ []))

-- a stretch that both machines take
passes : (design : FlatDesign) (plan : TestPlan) (fault : StuckAt) (begins ends moment : ℕ) (place : Place) (own : Moment) (pairs : List BlockPair) (notes : NotesKept)
    (events more : List Event) → NotesTell design plan fault begins ends moment place own pairs notes → place.left ≡ events ++ more →
    NotesTell design plan fault begins ends (moment + length events) (behind_events events more place) (after_events (faulty_machine design fault) events own) (pairs ++ Alike events ∷ []) notes
passes design plan fault begins ends moment place own pairs notes events more tells left =
    notes-more design plan fault begins ends moment place own pairs notes notes events more events (Alike events) tells refl refl refl
    (subst (λ bs. AreNotesOf bs notes) (sym (append-nil (own_blocks design fault notes.first own.phase_begins pairs))) tells.told)

-- a phase begins
begins-none : (design : FlatDesign) (plan : TestPlan) (fault : StuckAt) (begins ends moment : ℕ) (place : Place) (own : Moment) (notes : NotesKept) →
    IsAtMoment design plan begins ends moment place → place.passed ≡ [] → place.left ≡ place.phase.events → own.state ≡ own.phase_begins → HasNoNotes moment notes →
    NotesTell design plan fault begins ends moment place own [] notes
begins-none design plan fault begins ends moment place own notes at passed left state none = record {
  window = at-window;
  moment_is = let empty : length place.passed ≡ 0 = ap (λ (l : List Event). length l) passed in let first = none.first_is in omega (arith, empty, first);
  good_pairs = sym passed;
  own_state = state;
  told = record {
    spans = none.spans;
    objects = λ object. subst (λ n. IsNoteOf [] object n) (sym (nothing object)) (record { unread = λ e. tt; unwritten = λ e. tt; once = λ e. omega arith; since = tt });
    others = λ object e. nothing object;
    written = tt;
  };
}
  where
    nothing : (object : ℕ) → note_at notes.objects object ≡ empty_note
    nothing object = ap (λ l. note_at l object) none.objects

    same : place ≡ phase_place place
    same = λ i. record { ended = place.ended; phase = place.phase; later = place.later; passed = passed i; left = left i }

    at-window : IsAtMoment design plan begins ends notes.first (phase_place place)
    at-window = subst (λ n. IsAtMoment design plan begins ends n (phase_place place)) (sym none.first_is) (subst (IsAtMoment design plan begins ends moment) same at)

pub notes_go_on : NotesGoOn
notes_go_on = record { begins = begins-none; passes = passes }

-- a block of each machine, both of which begin with one event
pub block-more : (design : FlatDesign) (plan : TestPlan) (fault : StuckAt) (begins ends moment end : ℕ) (place : Place) (own : Moment) (pairs : List BlockPair) (old new : NotesKept)
    (ones more others : List Event) (block : OwnBlock) → NotesTell design plan fault begins ends moment place own pairs old → new.first ≡ old.first → BeginAlike ones others →
    end ≡ moment + length ones → block.begins ≡ moment → block.ends ≡ end → block.seen ≡ map access_seen (all_accesses (log_of (faulty_machine design fault) own.state others)) →
    AreNotesOf (own_blocks design fault old.first own.phase_begins pairs ++ block ∷ []) new →
    NotesTell design plan fault begins ends end (behind_events ones more place) (after_events (faulty_machine design fault) others own) (pairs ++ unlike_pair ones others ∷ []) new
block-more design plan fault begins ends moment end place own pairs old new ones more others block tells first_is alike end_is begins_is ends_is seen_is notes =
    subst (λ e. NotesTell design plan fault begins ends e (behind_events ones more place) (after_events machine others own) (pairs ++ unlike_pair ones others ∷ []) new) (sym end_is)
    (subst (λ p. NotesTell design plan fault begins ends (moment + length ones) (behind_events ones more place) (after_events machine others own) (pairs ++ p ∷ []) new) (sym pair_is)
    (notes-more design plan fault begins ends moment place own pairs old new ones more others (Unlike alike.first alike.good_rest alike.own_rest) tells first_is (sym alike.good_is)
    (sym alike.own_is) (subst (λ b. AreNotesOf (own_blocks design fault old.first own.phase_begins pairs ++ b ∷ []) new) block_is notes)))
  where
    machine : Machine
    machine = faulty_machine design fault

    pair_is : unlike_pair ones others ≡ Unlike alike.first alike.good_rest alike.own_rest
    pair_is = λ i. unlike_pair (alike.good_is i) (alike.own_is i)

    block_is : block ≡ record {
      begins = moment;
      ends = moment + length (alike.first ∷ alike.good_rest);
      seen = map access_seen (all_accesses (log_of machine own.state (alike.first ∷ alike.own_rest)));
    }
    block_is = λ i. record {
      begins = begins_is i;
      ends = (ends_is ∙ end_is ∙ ap (λ (l : List Event). moment + length l) alike.good_is) i;
      seen = (seen_is ∙ ap (λ l. map access_seen (all_accesses (log_of machine own.state l))) alike.own_is) i;
    }
