-- A phase whose noted objects and reached net pieces are free leaves no conflict.
use Rattle.std.proofs.Common.{◌≡◌, ℕ, ◌+◌, ◌≤◌, List, [], ◌∷◌, ◌++◌, length, Bool, true, false, not, ◌&&◌, ◌||◌, refl, sym, ap, subst, ◌∙◌, inl, inr, nat_eq}
use Rattle.std.specs.Prelude.{◌⊎◌, Some, nat_lt, IsTrue}
use Rattle.std.proofs.lemmas.Bool.{eqb-true, eq-eqb}
use Rattle.vf_base.specs.Lists.{AllHold, has}
use Rattle.v_design.specs.Paths.{paths, net_pieces}
use Rattle.v_design.specs.Designs.{FlatDesign, Machine, StuckAt, TestPlan, good_machine, faulty_machine}
use Rattle.v_design.specs.States.{State, Event}
use Rattle.v_design.specs.Runs.{happened, all_possible}
use Rattle.v_design.specs.Accesses.{AccessAct, ObjectAccess}
use Rattle.v_design.specs.Logs.{LoggedPhase, PhaseAccess, is_write, log_accesses, conflict}
use Rattle.v_design.specs.PhaseLogs.{log_of}
use Rattle.machine_laws.specs.SlotLoop.{Moment}
use Rattle.copy_laws.specs.Filter.{IsIn}
use Rattle.trace_window.specs.Moments.{window_events}
use Rattle.trace_window.specs.Touched.{written_at}
use Rattle.wait_index.specs.Waits.{WaitsAreOfBodies}
use Rattle.block_filter.specs.Likes.{Marks}
use Rattle.block_filter.specs.Blocks.{BlockPair, good_phase, faulty_phase, all_accesses}
use Rattle.block_filter.specs.Suffice.{ObjectIsFree, AreLeft, AllAreAwaited}
use Rattle.free_objects.specs.Stretches.{NonePasses, IsUnwritten}
use Rattle.free_objects.specs.FreeObjects.{is_wild_net, UnwrittenObjectsAreFree}
use Rattle.free_objects.specs.MetObjects.{MetReadsAreFree}
use Rattle.lockstep_race.specs.Alike.{AreAlike, PairsTell}
use Rattle.lockstep_race.specs.Nets.{reaches_by_write, UnreachedNetsAreNotWild, VariablesAreNotWild}
use Rattle.settled_objects.specs.Settled.{IsSettled, SettledObjectsAreFree}
use Rattle.lockstep_waits.specs.Awaited.{is_awaited}
use Rattle.lockstep_waits.specs.Texts.{WaitsGoOn}
use Rattle.sole_touches.specs.Counts.{NoneAreCounted, PairsAreCounted}
use Rattle.sole_touches.specs.Unawaited.{IsUnawaited, reads_object, WritesAloneTouch, SoleTouchesAreFree, UnreadNetsAreFree}
use Rattle.phase_reach.specs.lockstep_slots.Pairs.{LeavesNoConflict}
use Rattle.phase_reach.specs.lockstep_slots.Places.{Place, behind_events}
use Rattle.phase_reach.specs.window_places.Windows.{PlacesInWindows}
use Rattle.phase_reach.specs.window_tests.Between.{OnlyWithin}
use Rattle.phase_reach.specs.window_tests.Stretches.{StretchesPassNone, PairsAreTold}
use Rattle.race_notes.specs.declared.note.ObjectNote.{ObjectNote}
use Rattle.race_notes.specs.Notes.{OwnBlock, NoneSeen, NoneSees, is_of, reads, writes, touches, writes_beside, empty_note, note_at, NotesKept, IsSince, AreNotesOf}
use Rattle.race_notes.proofs.Lists.{all-weaker}
use Rattle.phase_reach.specs.lockstep_notes.Notes.{own_blocks, some_reaches, marks_of, phase_place}
use Rattle.phase_reach.proofs.lockstep_notes.Changes.{any-has, all-rest}
use Rattle.phase_reach.proofs.lockstep_notes.Pairs.{blocks-joined}
use Rattle.phase_reach.specs.Phases.{NotedPhase}
use Rattle.lockstep_filter.specs.Phases.{IsPhaseNoted}
use Rattle.lockstep_filter.specs.Free.{IsCovered, IsUnreadNet, IsNeverWritten, IsTouchedOnce, IsMetAlone, IsUnreachedFrom, IsUnreachedNet, IsTame, IsFreeHere}
use Rattle.lockstep_filter.proofs.OwnBlocks.{own-none, own-leave, own-pass-none, own-count, CutAt, cut-pairs, alike-behind}
use Rattle.lockstep_filter.proofs.Stretches.{none-weaker, reads-same, IsPart, part-unwritten, part-unread, part-untouched, whole-part, rest-part}

-- the laws that the filter stands on
pub record FilterLaws : Type 0 where
  pub awaited : AllAreAwaited
  pub unwritten : UnwrittenObjectsAreFree
  pub met : MetReadsAreFree
  pub settled : SettledObjectsAreFree
  pub pairs : PairsTell
  pub nets : UnreachedNetsAreNotWild
  pub variables : VariablesAreNotWild
  pub told : PairsAreTold
  pub places : PlacesInWindows
  pub alone : WritesAloneTouch
  pub none : NoneAreCounted
  pub counted : PairsAreCounted
  pub sole : SoleTouchesAreFree
  pub unread : UnreadNetsAreFree
  pub waits : WaitsGoOn

-- Tests of all objects

-- where no access writes an object that passes a test, none is a write of an object that does
all-tested : (test : ℕ → Bool) (accesses : List ObjectAccess) →
    ((object : ℕ) → test object ≡ true → AllHold (λ (access : ObjectAccess). (nat_eq access.object object && is_write access.act) ≡ false) accesses) →
    AllHold (λ (access : ObjectAccess). (is_write access.act && test access.object) ≡ false) accesses
all-tested test [] none = tt
all-tested test (access ∷ accesses) none = (here (test access.object) refl, all-tested test accesses (λ object e. (none object e).1))
  where
    and-false : (b : Bool) → (b && false) ≡ false
    and-false true = refl
    and-false false = refl

    here : (b : Bool) → test access.object ≡ b → (is_write access.act && test access.object) ≡ false
    here false e = ap (λ b. is_write access.act && b) e ∙ and-false (is_write access.act)
    here true e =
        let unwritten : is_write access.act ≡ false =
        sym (ap (λ b. b && is_write access.act) (eq-eqb access.object access.object refl)) ∙ (none access.object e).0 in
        ap (λ b. b && test access.object) unwritten

-- what isn't among those that are written isn't written
beside-unwritten : (changed : List ℕ) (object other : ℕ) (act : AccessAct) → has changed object ≡ false → writes_beside changed other act ≡ false → writes object other act ≡ false
beside-unwritten changed object other act fresh none = go (nat_eq other object) refl
  where
    and-true : (b : Bool) → (b && true) ≡ b
    and-true true = refl
    and-true false = refl

    go : (b : Bool) → nat_eq other object ≡ b → (nat_eq other object && is_write act) ≡ false
    go false e = ap (λ b. b && is_write act) e
    go true e =
        let out : not (has changed other) ≡ true = ap not (ap (has changed) (eqb-true other object e) ∙ fresh) in
        ap (λ b. b && is_write act) e ∙ sym (and-true (is_write act)) ∙ ap (λ b. is_write act && b) (sym out) ∙ none

-- what isn't among those that are written and don't reach an object doesn't reach it by a write
beside-unreached : (design : FlatDesign) (changed : List ℕ) (object other : ℕ) (act : AccessAct) → some_reaches design changed object ≡ false → writes_beside changed other act ≡ false →
    reaches_by_write design object other act ≡ false
beside-unreached design changed object other act apart none = go (nat_lt 0 (paths design other object)) refl
  where
    and-true : (b : Bool) → (b && true) ≡ b
    and-true true = refl
    and-true false = refl

    and-false : (b : Bool) → (b && false) ≡ false
    and-false true = refl
    and-false false = refl

    out : (b : Bool) → has changed other ≡ b → nat_lt 0 (paths design other object) ≡ true → not b ≡ true
    out false e reaches = refl
    out true e reaches = let z : true ≡ false = sym (any-has (λ source. nat_lt 0 (paths design source object)) changed other e reaches) ∙ apart in cc

    go : (b : Bool) → nat_lt 0 (paths design other object) ≡ b → (is_write act && nat_lt 0 (paths design other object)) ≡ false
    go false e = ap (λ b. is_write act && b) e ∙ and-false (is_write act)
    go true e =
        let unwritten : is_write act ≡ false = sym (and-true (is_write act)) ∙ ap (λ b. is_write act && b) (sym (out (has changed other) refl e)) ∙ none in
        ap (λ b. b && nat_lt 0 (paths design other object)) unwritten

all-front : {A : Type 0} (P : A → Type 0) (xs ys : List A) → AllHold P (xs ++ ys) → AllHold P xs
all-front P [] ys all = tt
all-front P (x ∷ xs) ys all = (all.0, all-front P xs ys all.1)

false-if : (b : Bool) → (b ≡ true → ⊥) → b ≡ false
false-if true f = absurd (f refl)
false-if false f = refl

sees-weaker : (test other : ℕ → AccessAct → Bool) (blocks : List OwnBlock) → ((object : ℕ) (act : AccessAct) → test object act ≡ false → other object act ≡ false) → NoneSees test blocks →
    NoneSees other blocks
sees-weaker test other blocks weaker none =
    all-weaker (λ (b : OwnBlock). NoneSeen test b.seen) (λ (b : OwnBlock). NoneSeen other b.seen) blocks
    (λ b h. all-weaker (λ s. test s.object s.act ≡ false) (λ s. other s.object s.act ≡ false) b.seen (λ s e. weaker s.object s.act e) h) none

-- The phase

module _ (laws : FilterLaws) (design : FlatDesign) (plan : TestPlan) (fault : StuckAt) (begins ends end : ℕ) (place : Place) (own : Moment) (pairs : List BlockPair) (notes : NotesKept)
    (noted : IsPhaseNoted design plan fault begins ends end place own pairs notes) where
  abbrev machine : Machine
  machine = faulty_machine design fault

  abbrev faulty : State
  faulty = own.phase_begins

  abbrev good : State
  good = place.phase.begins

  abbrev log : LoggedPhase
  log = log_of machine faulty (faulty_phase pairs)

  abbrev blocks : List OwnBlock
  blocks = own_blocks design fault notes.first faulty pairs

  abbrev phase : NotedPhase
  phase = record { design = design; plan = plan; begins = begins; ends = ends; end = end; notes = notes }

  of-blocks : AreNotesOf (own_blocks design fault notes.first own.phase_begins pairs) notes
  of-blocks = noted.noted.told

  part : IsPart design plan begins ends end notes.spans notes.first (phase_place place) pairs
  part = whole-part laws.told design plan fault begins ends end place own pairs notes noted.noted noted.stands.place_is.events_are noted.through

  unawaited : (object : ℕ) → is_awaited design object ≡ false → IsUnawaited (faulty_machine design fault) own.phase_begins object
  unawaited object e = record {
    bodies =
        laws.waits.phases_begin (faulty_machine design fault) own noted.stands.lockstep.own_comes
        (subst (WaitsAreOfBodies (faulty_machine design fault)) (sym noted.stands.own_begins) noted.waits);
    unawaited = e;
  }

  -- what the stretches don't do, and own blocks don't, the faulty machine's phase doesn't
  none-in-phase : (test : ℕ → AccessAct → Bool) → StretchesPassNone test (good_machine design) place.phase.begins pairs →
      NoneSees test (own_blocks design fault notes.first own.phase_begins pairs) → NonePasses test (faulty_machine design fault) own.phase_begins (faulty_phase pairs)
  none-in-phase test stretches sees =
      laws.pairs test design fault place.phase.begins own.phase_begins pairs noted.alike
      (laws.told.parts test design fault place.phase.begins own.phase_begins pairs stretches (own-none test design fault notes.first own.phase_begins pairs sees))

  -- an unread net piece
  unread-free : (object : ℕ) → IsUnreadNet phase object → ObjectIsFree design log object
  unread-free object is =
      laws.unread machine faulty (faulty_phase pairs) object noted.stands.good_slot.rules noted.stands.lockstep.own_comes.phase_asked
      (subst (λ es. IsTrue (all_possible machine faulty es)) (sym noted.stands.own_pairs) noted.stands.lockstep.own_comes.each_possible) is.piece (unawaited object is.unawaited)
      (none-weaker (reads object) (reads_object object) machine faulty (faulty_phase pairs) (λ other act e. sym (reads-same object other act) ∙ e)
      (none-in-phase (reads object) (part-unread laws.told design plan begins ends end notes.first notes.spans (phase_place place) pairs part object laws.alone is.stretches)
      ((of-blocks.objects object).unread is.own)))

  -- an object that nothing writes
  unwritten-in-phase : (object : ℕ) → NoneSees (writes object) (own_blocks design fault notes.first own.phase_begins pairs) →
      OnlyWithin (λ moment. IsCovered notes.spans moment) (written_at (good_machine design) (window_events design plan begins ends) object) notes.first end →
      IsUnwritten (faulty_machine design fault) own.phase_begins (faulty_phase pairs) object
  unwritten-in-phase object sees stretches =
      none-in-phase (writes object) (part-unwritten laws.told design plan begins ends end notes.first notes.spans (phase_place place) pairs part object stretches) sees

  -- what reaches an object that own blocks don't reach they don't write
  reaching-unwritten : (object : ℕ) → some_reaches design notes.changed object ≡ false → (source : ℕ) → nat_lt 0 (paths design source object) ≡ true →
      NoneSees (writes source) (own_blocks design fault notes.first own.phase_begins pairs)
  reaching-unwritten object apart source reaches =
      sees-weaker (writes_beside notes.changed) (writes source) blocks (λ other act e. beside-unwritten notes.changed source other act fresh e) of-blocks.written
    where
      fresh : has notes.changed source ≡ false
      fresh =
          false-if (has notes.changed source)
          (λ there. let z : true ≡ false = sym (any-has (λ other. nat_lt 0 (paths design other object)) notes.changed source there reaches) ∙ apart in cc)

  -- a net piece that nothing reaches isn't wild
  unreached : (object : ℕ) → IsUnreachedNet phase object → is_wild_net design log object ≡ false
  unreached object is =
      laws.nets machine faulty (faulty_phase pairs) object
      (all-tested (λ source. nat_lt 0 (paths design source object)) (all_accesses log)
      (λ source reaches. unwritten-in-phase source (reaching-unwritten object is.own source reaches)
      (λ moment since before written. absurd (let z : true ≡ false = sym reaches ∙ is.good source moment since before written in cc))))

  tame : (object : ℕ) → IsTame phase object → is_wild_net design log object ≡ false
  tame object (inl variable) = laws.variables design log object variable
  tame object (inr net) = unreached object net

  never-free : (object : ℕ) → IsTame phase object → IsNeverWritten phase object → ObjectIsFree design log object
  never-free object still is =
      laws.unwritten machine faulty (faulty_phase pairs) object (tame object still) (unwritten-in-phase object ((of-blocks.objects object).unwritten is.own) is.stretches)

  once-free : (object : ℕ) → IsTame phase object → IsTouchedOnce phase object → ObjectIsFree design log object
  once-free object still is =
      laws.sole machine faulty (faulty_phase pairs) object (unawaited object is.unawaited) (tame object still)
      (subst (λ n. n ≤ 1)
      (sym (laws.counted (touches object) design fault good faulty pairs noted.alike
      ∙ own-count laws.none (touches object) design fault notes.first good faulty pairs
      (part-untouched laws.told design plan begins ends end notes.first notes.spans (phase_place place) pairs part object is.unwritten is.unread)))
      ((of-blocks.objects object).once is.own))

  -- Pairs cut at an own block

  -- what own blocks don't write, nor the stretches from a cut on, isn't written behind it
  behind-unwritten : (front rest : List BlockPair) → pairs ≡ front ++ rest → (source : ℕ) → NoneSees (writes source) (own_blocks design fault notes.first own.phase_begins pairs) →
      OnlyWithin (λ moment. IsCovered notes.spans moment) (written_at (good_machine design) (window_events design plan begins ends) source) (notes.first + length (good_phase front)) end →
      IsUnwritten (faulty_machine design fault) (happened (faulty_machine design fault) own.phase_begins (faulty_phase front)) (faulty_phase rest) source
  behind-unwritten front rest are source unwritten stretches =
      laws.pairs (writes source) design fault (happened (good_machine design) good (good_phase front)) (happened machine faulty (faulty_phase front)) rest
      (alike-behind design fault good faulty front rest (subst (AreAlike design fault good faulty) are noted.alike))
      (laws.told.parts (writes source) design fault (happened (good_machine design) good (good_phase front)) (happened machine faulty (faulty_phase front)) rest
      (part-unwritten laws.told design plan begins ends end (notes.first + length (good_phase front)) notes.spans (behind_events (good_phase front) later.0 (phase_place place)) rest later.1 source
      stretches)
      (own-none (writes source) design fault (notes.first + length (good_phase front)) (happened machine faulty (faulty_phase front)) rest sees))
    where
      later : (more : List Event) × IsPart design plan begins ends end notes.spans (notes.first + length (good_phase front)) (behind_events (good_phase front) more (phase_place place)) rest
      later =
          rest-part laws.told laws.places design plan begins ends end notes.first notes.spans (phase_place place) front rest
          (subst (IsPart design plan begins ends end notes.spans notes.first (phase_place place)) are part)

      sees : NoneSees (writes source)
          (own_blocks design fault (notes.first + length (good_phase front)) (happened (faulty_machine design fault) own.phase_begins (faulty_phase front)) rest)
      sees =
          all-rest (λ (b : OwnBlock). NoneSeen (writes source) b.seen) (own_blocks design fault notes.first faulty front)
          (own_blocks design fault (notes.first + length (good_phase front)) (happened machine faulty (faulty_phase front)) rest)
          (subst (NoneSees (writes source)) (ap (own_blocks design fault notes.first faulty) are ∙ blocks-joined design fault notes.first faulty front rest) unwritten)

  -- an object that own blocks only meet
  module _ (object : ℕ) (is : IsMetAlone phase object) where
    since : IsSince (own_blocks design fault notes.first own.phase_begins pairs) object (Some is.since)
    since = subst (IsSince blocks object) is.since_is (of-blocks.objects object).since

    cut : CutAt design fault notes.first own.phase_begins pairs since.0 since.1
    cut = cut-pairs design fault notes.first faulty pairs since.0 since.1 since.2 since.3

    cut-at : is.since ≡ notes.first + length (good_phase cut.front)
    cut-at = sym since.4 ∙ cut.begins

    front-leaves : NoneSees (is_of object) (own_blocks design fault notes.first own.phase_begins cut.front)
    front-leaves = subst (NoneSees (is_of object)) (sym cut.before_are) since.5

    met-unwritten : IsUnwritten (faulty_machine design fault) (happened (faulty_machine design fault) own.phase_begins (faulty_phase cut.front)) (faulty_phase cut.rest) object
    met-unwritten =
        behind-unwritten cut.front cut.rest cut.pairs_are object ((of-blocks.objects object).unwritten is.own)
        (subst (λ n. OnlyWithin (λ moment. IsCovered notes.spans moment) (written_at (good_machine design) (window_events design plan begins ends) object) n end) cut-at is.stretches)

    -- accesses of it that are left, where it isn't wild
    met-free : IsTame phase object → (marks : Marks) (first second : PhaseAccess) → IsIn first (log_accesses design log) → IsIn second (log_accesses design log) →
        first.access.object ≡ object → AreLeft marks pairs first second → conflict log first second ≡ false
    met-free still marks first second one other same left =
        subst (λ ps. conflict (log_of machine faulty (faulty_phase ps)) first second ≡ false) (sym cut.pairs_are)
        (laws.met machine marks faulty cut.front cut.rest object
        (subst (λ ps. is_wild_net design (log_of machine faulty (faulty_phase ps)) object ≡ false) cut.pairs_are (tame object still))
        (own-leave design fault notes.first faulty cut.front object front-leaves) met-unwritten first second
        (subst (λ ps. IsIn first (log_accesses design (log_of machine faulty (faulty_phase ps)))) cut.pairs_are one)
        (subst (λ ps. IsIn second (log_accesses design (log_of machine faulty (faulty_phase ps)))) cut.pairs_are other) same
        (subst (λ ps. AreLeft marks ps first second) cut.pairs_are left))

    -- and where nothing reaches it any more
    settled : IsUnreachedFrom phase is.since object → IsSettled (faulty_machine design fault) own.phase_begins cut.front cut.rest object
    settled still = record {
      left = own-pass-none (is_of object) design fault notes.first faulty cut.front front-leaves;
      apart =
          own-pass-none (reaches_by_write design object) design fault notes.first faulty cut.front
          (all-front (λ (b : OwnBlock). NoneSeen (reaches_by_write design object) b.seen) (own_blocks design fault notes.first faulty cut.front)
          (own_blocks design fault (notes.first + length (good_phase cut.front)) (happened machine faulty (faulty_phase cut.front)) cut.rest)
          (subst (NoneSees (reaches_by_write design object))
          (ap (own_blocks design fault notes.first faulty) cut.pairs_are ∙ blocks-joined design fault notes.first faulty cut.front cut.rest)
          (sees-weaker (writes_beside notes.changed) (reaches_by_write design object) blocks (λ other act e. beside-unreached design notes.changed object other act still.own e) of-blocks.written)));
      unwritten = met-unwritten;
      unreached =
          all-tested (λ source. nat_lt 0 (paths design source object)) (all_accesses (log_of machine (happened machine faulty (faulty_phase cut.front)) (faulty_phase cut.rest)))
          (λ source reaches. behind-unwritten cut.front cut.rest cut.pairs_are source (reaching-unwritten object still.own source reaches)
          (λ moment after before written. absurd
          (let low : is.since ≤ moment = subst (λ n. n ≤ moment) (sym cut-at) after in
          let z : true ≡ false = sym reaches ∙ still.good source moment low before written in cc)));
    }

    settled-free : IsUnreachedFrom phase is.since object → (marks : Marks) (first second : PhaseAccess) → IsIn first (log_accesses design log) → IsIn second (log_accesses design log) →
        first.access.object ≡ object → AreLeft marks pairs first second → conflict log first second ≡ false
    settled-free still marks first second one other same left =
        subst (λ ps. conflict (log_of machine faulty (faulty_phase ps)) first second ≡ false) (sym cut.pairs_are)
        (laws.settled machine marks faulty cut.front cut.rest object (settled still) first second
        (subst (λ ps. IsIn first (log_accesses design (log_of machine faulty (faulty_phase ps)))) cut.pairs_are one)
        (subst (λ ps. IsIn second (log_accesses design (log_of machine faulty (faulty_phase ps)))) cut.pairs_are other) same
        (subst (λ ps. AreLeft marks ps first second) cut.pairs_are left))

  -- The marks

  -- an object of which something is noted
  is-noted : (object : ℕ) (flag : ObjectNote → Bool) → flag empty_note ≡ false → flag (note_at notes.objects object) ≡ true → has notes.noted object ≡ true
  is-noted object flag unset set = go (has notes.noted object) refl
    where
      go : (b : Bool) → has notes.noted object ≡ b → has notes.noted object ≡ true
      go true e = e
      go false e = let z : true ≡ false = sym set ∙ ap flag (of-blocks.others object e) ∙ unset in cc

  suspect-quiet : (object : ℕ) → (note_at notes.objects object).suspect ≡ true → IsTame phase object →
      IsNeverWritten phase object ⊎ (IsTouchedOnce phase object ⊎ IsMetAlone phase object) → ObjectIsFree design log object
  suspect-quiet object set still (inl never) = never-free object still never
  suspect-quiet object set still (inr (inl once)) = once-free object still once
  suspect-quiet object set still (inr (inr met)) = absurd (let z : true ≡ false = sym set ∙ met.met in cc)

  suspect-free : (object : ℕ) → (note_at notes.objects object).suspect ≡ true → IsFreeHere phase object → ObjectIsFree design log object
  suspect-free object set (inl net) = unread-free object net
  suspect-free object set (inr (inl settled)) = absurd (let z : true ≡ false = sym set ∙ settled.met.met in cc)
  suspect-free object set (inr (inr quiet)) = suspect-quiet object set quiet.0 quiet.1

  left-quiet : (object : ℕ) → IsTame phase object → IsNeverWritten phase object ⊎ (IsTouchedOnce phase object ⊎ IsMetAlone phase object) → (marks : Marks) (first second : PhaseAccess) →
      IsIn first (log_accesses design log) → IsIn second (log_accesses design log) → first.access.object ≡ object → AreLeft marks pairs first second → conflict log first second ≡ false
  left-quiet object still (inl never) marks first second one other same left = never-free object still never first second one other same (sym left.same ∙ same)
  left-quiet object still (inr (inl once)) marks first second one other same left = once-free object still once first second one other same (sym left.same ∙ same)
  left-quiet object still (inr (inr met)) marks first second one other same left = met-free object met still marks first second one other same left

  left-free : (object : ℕ) → IsFreeHere phase object → (marks : Marks) (first second : PhaseAccess) → IsIn first (log_accesses design log) → IsIn second (log_accesses design log) →
      first.access.object ≡ object → AreLeft marks pairs first second → conflict log first second ≡ false
  left-free object (inl net) marks first second one other same left = unread-free object net first second one other same (sym left.same ∙ same)
  left-free object (inr (inl settled)) marks first second one other same left = settled-free object settled.met settled.unreached marks first second one other same left
  left-free object (inr (inr quiet)) marks first second one other same left = left-quiet object quiet.0 quiet.1 marks first second one other same left

  pub leaves-none : ((object : ℕ) → has (net_pieces design) object ≡ true → some_reaches design notes.changed object ≡ true → IsUnreadNet phase object) →
      ((object : ℕ) → has notes.noted object ≡ true → IsFreeHere phase object) → LeavesNoConflict design fault (marks_of design notes) own.phase_begins pairs
  leaves-none reached free = record {
    waits = laws.awaited design (marks_of design notes) log (λ entry. refl);
    suspects = λ object is. suspect object (note_at notes.objects object).suspect refl is;
    others = λ first second one other left.
        let object = first.access.object in
        left-free object (free object (is-noted object (λ (n : ObjectNote). n.met) refl left.met)) (marks_of design notes) first second one other refl left;
  }
    where
      suspect : (object : ℕ) (b : Bool) → (note_at notes.objects object).suspect ≡ b → (b || (has (net_pieces design) object && some_reaches design notes.changed object)) ≡ true →
          ObjectIsFree design log object
      suspect object true e is = suspect-free object e (free object (is-noted object (λ (n : ObjectNote). n.suspect) refl e))
      suspect object false e is = net (has (net_pieces design) object) refl is
        where
          net : (b : Bool) → has (net_pieces design) object ≡ b → (b && some_reaches design notes.changed object) ≡ true → ObjectIsFree design log object
          net true e r = unread-free object (reached object e r)
          net false e r = cc
