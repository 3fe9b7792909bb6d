-- The logs of two phases that are cut into blocks, part by part, and the law.
use Rattle.std.proofs.Common.{◌≡◌, ℕ, zero, suc, ◌+◌, ◌<◌, ◌≤◌, List, [], ◌∷◌, ◌++◌, map, length, Bool, true, false, ◌||◌, refl, sym, ap, subst, ◌∙◌, ◌⊎◌, inl, inr, arith, append-nil}
use Rattle.std.specs.Prelude.{Option, Some, None, slice_get, is_some}
use Rattle.vf_base.specs.Lists.{joined, last_place}
use Rattle.v_design.specs.Designs.{FlatDesign, Machine, StuckAt, good_machine, faulty_machine}
use Rattle.v_design.specs.States.{State, Event, Step, LaneStep, Evaluation, NetUpdate, is_process_event, found_or}
use Rattle.v_design.specs.Runs.{happened}
use Rattle.v_design.specs.Accesses.{AccessAct, Reading, Writing, Awaiting, Ending, Holding, Settling, ObjectAccess, held_accesses, accesses_of}
use Rattle.v_design.specs.Logs.{LoggedEvent, LoggedPhase, PhaseAccess, changes_of, phase_changes, is_write, log_accesses, least_pair}
use Rattle.v_design.specs.PhaseLogs.{NotedEvent, may_cause, logged, log_of}
use Rattle.block_filter.specs.Likes.{Marks, IsSuspectOrLike, GoesAlike}
use Rattle.block_filter.specs.Blocks.{BlockPair, Alike, Unlike, good_events, faulty_events, good_phase, faulty_phase, IsStretch, all_accesses, ReachesSuspects}
use Rattle.block_filter.specs.Blocks.{IsSuspectOrMet, IsBlock, AreUnlike, IsBlockPair, AreBlocks}
use Rattle.block_filter.specs.Suffice.{IsAwaited, unlike_flags, BlocksSuffice, AllAreAwaited}
use Rattle.order_laws.proofs.Conflicts.{In, append-assoc}
use Rattle.order_laws.proofs.Notes.{new_notes, noted_events-new, new_notes-append}
use Rattle.order_laws.proofs.CleanNets.{same-changes}
use Rattle.order_laws.proofs.PathLaws.{true-false}
use Rattle.order_laws.proofs.SwappedRuns.{last_true, map-append, length-map}
use Rattle.order_laws.proofs.RunStates.{first_of, state_at, some_below}
use Rattle.block_filter.proofs.Places.{one-there, from_is_in, to_is_in, in-joined_at, all-in, map-one, or_earlier, some_found}
use Rattle.block_filter.proofs.Reaches.{cause_in, cause-there, GoBack}
use Rattle.block_filter.proofs.Parts.{Part, good_log, faulty_log, Beside, CausesBeside, StaysWithin, HasLikeIn, HasLikeAt, AlikePart}
use Rattle.block_filter.proofs.Parts.{UnlikePart, AllReachSuspects, IsPart, AreParts, causes-more, flags}
use Rattle.block_filter.proofs.Clashes.{IsClear, free-clear}
use Rattle.block_filter.proofs.Pairs.{whole, AreLogs, faulty_none}
use Rattle.block_filter.proofs.Entries.{entries, length-entries, log_entries, go_back, last_cause, last_among, last-below, last-before, is_some-later, IsEntry, entry_at, entry_back}
use Rattle.block_filter.proofs.Entries.{node_caused, inner_caused, any_writer, local-access, StandsAt, phase-access, like-same, held-holds, tests-alike, alike-first, alike-at}

-- Parts of phases

abbrev pub is_unlike : BlockPair → Bool
is_unlike (Alike events) = false
is_unlike (Unlike first good faulty) = true

-- a block in the logs of both machines, behind what was noted before it
abbrev pub part_of : FlatDesign → StuckAt → List NotedEvent → List NotedEvent → State → State → BlockPair → Part
part_of design fault ones others good faulty block = record {
  good = entries (good_machine design) ones good (good_events block);
  faulty = entries (faulty_machine design fault) others faulty (faulty_events block);
  unlike = is_unlike block;
}

-- the phases so far: what was noted in each, and its parts
pub record AreNoted (design : FlatDesign) (fault : StuckAt) (marks : Marks) (parts : List Part) (ones others : List NotedEvent) : Type 0 where
  pub good_is : good_log parts ≡ map (logged (good_machine design)) ones
  pub faulty_is : faulty_log parts ≡ map (logged (faulty_machine design fault)) others
  pub parts_are : AreParts design marks parts
  pub lasts : (later : Event) → is_process_event later ≡ true →
      CausesBeside parts (last_place (may_cause (good_machine design) later) ones) (last_place (may_cause (faulty_machine design fault) later) others)

good_start : (design : FlatDesign) (fault : StuckAt) (marks : Marks) (parts : List Part) (ones others : List NotedEvent) → AreNoted design fault marks parts ones others →
    length (good_log parts) ≡ length ones
good_start design fault marks parts ones others s = ap length s.good_is ∙ length-map (logged (good_machine design)) ones

faulty_start : (design : FlatDesign) (fault : StuckAt) (marks : Marks) (parts : List Part) (ones others : List NotedEvent) → AreNoted design fault marks parts ones others →
    length (faulty_log parts) ≡ length others
faulty_start design fault marks parts ones others s = ap length s.faulty_is ∙ length-map (logged (faulty_machine design fault)) others

-- Causes in a part or before it

-- of two causes, each in the present part or an earlier one, both are in it or neither is
cause-cut : (part : Part) (parts : List Part) (n m : ℕ) (one other before earlier : Option ℕ) → is_some one ≡ is_some other →
    ((j l : ℕ) → one ≡ Some j → other ≡ Some l → Beside (part ∷ parts) (n + j) (m + l)) → (one ≡ None → CausesBeside parts before earlier) →
    CausesBeside (part ∷ parts) (or_earlier n one before) (or_earlier m other earlier)
cause-cut part parts n m None None before earlier e here there = causes-more part parts before earlier (there refl)
cause-cut part parts n m None (Some l) before earlier e here there = cc
cause-cut part parts n m (Some j) None before earlier e here there = cc
cause-cut part parts n m (Some j) (Some l) before earlier e here there = here j l refl refl

-- two events of a part
stand-beside : (part : Part) (parts : List Part) (n m j l : ℕ) → length (good_log parts) ≡ n → length (faulty_log parts) ≡ m → j < length part.good → l < length part.faulty →
    (part.unlike ≡ false → j ≡ l) → Beside (part ∷ parts) (n + j) (m + l)
stand-beside part parts n m j l a b v w one =
    inl
    (record { good_place = j; faulty_place = l; good_is = omega (arith, a); faulty_is = omega (arith, b); good_within = v; faulty_within = w; one_place = one })

-- Stretches that both machines take

module _ (design : FlatDesign) (fault : StuckAt) (marks : Marks) (parts : List Part) (ones others : List NotedEvent) (s : AreNoted design fault marks parts ones others) (good faulty : State)
    (events : List Event) (a : IsStretch design fault marks good faulty events) where
  abbrev stretch : Part
  stretch = part_of design fault ones others good faulty (Alike events)

  good-length : length (entries (good_machine design) ones good events) ≡ length events
  good-length = length-entries (good_machine design) ones good events

  faulty-length : length (entries (faulty_machine design fault) others faulty events) ≡ length events
  faulty-length = length-entries (faulty_machine design fault) others faulty events

  -- causes among the first events of the stretch stand side by side, as far as they are there
  stretch-cut : (k : ℕ) (later : Event) → (last_cause (good_machine design) later good (first_of k events) ≡ None → is_process_event later ≡ true) →
      CausesBeside (stretch ∷ parts)
      (or_earlier (length ones) (last_cause (good_machine design) later good (first_of k events)) (last_place (may_cause (good_machine design) later) ones))
      (or_earlier (length others) (last_cause (faulty_machine design fault) later faulty (first_of k events)) (last_place (may_cause (faulty_machine design fault) later) others))
  stretch-cut k later process =
      cause-cut stretch parts (length ones) (length others) (last_cause (good_machine design) later good (first_of k events))
      (last_cause (faulty_machine design fault) later faulty (first_of k events)) (last_place (may_cause (good_machine design) later) ones)
      (last_place (may_cause (faulty_machine design fault) later) others) (ap is_some same)
      (λ j l e f.
      let at : j ≡ l = ap (found_or j) (sym e ∙ same ∙ f) in
      let below : j < length (first_of k events) = last-below (good_machine design) later good (first_of k events) j e in
      let within : length (first_of k events) ≤ length events = first-within k events in
      stand-beside stretch parts (length ones) (length others) j l (good_start design fault marks parts ones others s) (faulty_start design fault marks parts ones others s)
      (omega (arith, below, within, good-length)) (omega (arith, below, within, at, faulty-length)) (λ u. at))
      (λ none. s.lasts later (process none))
    where
      same : last_cause (good_machine design) later good (first_of k events) ≡ last_cause (faulty_machine design fault) later faulty (first_of k events)
      same = ap last_true (tests-alike design fault marks later good faulty (first_of k events) (alike-first design fault marks good faulty k events a.alike))

      first-within : (n : ℕ) (xs : List Event) → length (first_of n xs) ≤ length xs
      first-within zero xs = omega arith
      first-within (suc n) [] = omega arith
      first-within (suc n) (x ∷ xs) = let r : length (first_of n xs) ≤ length xs = first-within n xs in omega (arith, r)

  stretch-causes : (k : ℕ) → k < length stretch.good → CausesBeside (stretch ∷ parts) (cause_in stretch.good k) (cause_in stretch.faulty k)
  stretch-causes k b =
      let e = some_below events k (omega (arith, b, good-length)) in
      let x = entry_at (good_machine design) ones good events k e.0 e.1 in
      let y = entry_at (faulty_machine design fault) others faulty events k e.0 e.1 in
      subst (λ c. CausesBeside (stretch ∷ parts) c (cause_in stretch.faulty k)) (sym (cause-there stretch.good k x.0 x.1 ∙ x.2.cause))
      (subst
      (λ c. CausesBeside (stretch ∷ parts)
      (or_earlier (length ones) (last_cause (good_machine design) e.0 good (first_of k events)) (last_place (may_cause (good_machine design) e.0) ones)) c)
      (sym (cause-there stretch.faulty k y.0 y.1 ∙ y.2.cause))
      (stretch-cut k e.0
      (λ none. or-none (is_process_event e.0) (last_cause (good_machine design) e.0 good (first_of k events)) none (node_caused (good_machine design) good events k e.0 a.caused e.1))))
    where
      or-none : (b : Bool) (o : Option ℕ) → o ≡ None → (b || is_some o) ≡ true → b ≡ true
      or-none true o e f = refl
      or-none false None e f = f
      or-none false (Some n) e f = cc

  -- the accesses of an event of the stretch in both machines
  stretch-likes : (k : ℕ) (x y : LoggedEvent) → slice_get stretch.good k ≡ Some x → slice_get stretch.faulty k ≡ Some y → (access : ObjectAccess) → In access y.accesses →
      (marks.suspect access.object ≡ true) ⊎ HasLikeIn marks x.accesses access
  stretch-likes k x y ex ey access i =
      let p = entry_back (good_machine design) ones good events k x ex in
      let q = entry_back (faulty_machine design fault) others faulty events k y ey in
      let d : GoesAlike design fault marks (state_at (good_machine design) good events k) (state_at (faulty_machine design fault) faulty events k) q.0 =
      alike-at design fault marks good faulty events k q.0 a.alike q.1 in
      let there : In access (accesses_of (faulty_machine design fault) q.2.writer q.2.line (state_at (faulty_machine design fault) faulty events k) q.0) =
      subst (λ xs. In access xs) q.2.accesses i in
      go p.0 q.0 p.2 (one-there events k p.0 q.0 p.1 q.1) q.2.writer q.2.line
      (all-in (IsSuspectOrLike marks (accesses_of (good_machine design) q.2.writer q.2.line (state_at (good_machine design) good events k) q.0))
      (accesses_of (faulty_machine design fault) q.2.writer q.2.line (state_at (faulty_machine design fault) faulty events k) q.0) access (d.accesses q.2.writer q.2.line) there)
    where
      go : (event other : Event) (p : IsEntry (good_machine design) ones good events k event x) → event ≡ other → (w l : ℕ) →
          IsSuspectOrLike marks (accesses_of (good_machine design) w l (state_at (good_machine design) good events k) other) access →
          (marks.suspect access.object ≡ true) ⊎ HasLikeIn marks x.accesses access
      go event other p e w l (inl s) = inl s
      go event other p e w l (inr m) =
          let b = any_writer (good_machine design) w l p.writer p.line (state_at (good_machine design) good events k) other m.0
          (from_is_in m.0 (accesses_of (good_machine design) w l (state_at (good_machine design) good events k) other) m.1) in
          inr (
            b.0,
            subst (λ xs. In b.0 xs)
                (ap (accesses_of (good_machine design) p.writer p.line (state_at (good_machine design) good events k)) (sym e) ∙ sym p.accesses) b.1,
            like-same marks.awaited m.0 access b.0 access m.2 b.2 b.3 refl refl,
          )

  stretch-changes : (k : ℕ) (x y : LoggedEvent) → slice_get stretch.good k ≡ Some x → slice_get stretch.faulty k ≡ Some y → changes_of design x.accesses ≡ changes_of design y.accesses
  stretch-changes k x y ex ey =
      let p = entry_back (good_machine design) ones good events k x ex in
      let q = entry_back (faulty_machine design fault) others faulty events k y ey in
      let d : GoesAlike design fault marks (state_at (good_machine design) good events k) (state_at (faulty_machine design fault) faulty events k) q.0 =
      alike-at design fault marks good faulty events k q.0 a.alike q.1 in
      ap (changes_of design)
      (p.2.accesses ∙ ap (accesses_of (good_machine design) p.2.writer p.2.line (state_at (good_machine design) good events k)) (one-there events k p.0 q.0 p.1 q.1))
      ∙ same-changes (good_machine design) (state_at (good_machine design) good events k) q.0 p.2.writer p.2.line
      ∙ d.changed 0 0
      ∙ sym (same-changes (faulty_machine design fault) (state_at (faulty_machine design fault) faulty events k) q.0 q.2.writer q.2.line)
      ∙ sym (ap (changes_of design) q.2.accesses)

  stretch-part : AlikePart design marks parts stretch
  stretch-part = record { lengths = good-length ∙ sym faulty-length; causes = stretch-causes; likes = stretch-likes; changes = stretch-changes }

-- Blocks with events of their own

-- every event of a block but the first has its cause there
stays-within : (machine : Machine) (marks : Marks) (earlier : List NotedEvent) (state : State) (first : Event) (events : List Event) (start : ℕ) → start ≡ length earlier →
    IsBlock machine marks state first events → StaysWithin start (entries machine earlier state (first ∷ events))
stays-within machine marks earlier state first events start same b zero some k = absurd (omega (arith, some))
stays-within machine marks earlier state first events start same b (suc k) some within =
    let l : length (entries machine earlier state (first ∷ events)) ≡ length (first ∷ events) = length-entries machine earlier state (first ∷ events) in
    let e = some_below events k (let z : k < length events = omega (arith, within, l) in z) in
    let x = entry_at machine earlier state (first ∷ events) (suc k) e.0 e.1 in
    let c = some_found (last_cause machine e.0 state (first_of (suc k) (first ∷ events))) (inner_caused machine state first events k e.0 b.caused e.1) in (
      c.0,
      cause-there (entries machine earlier state (first ∷ events)) (suc k) x.0 x.1 ∙ x.2.cause
          ∙ ap (λ o. or_earlier (length earlier) o (last_place (may_cause machine e.0) earlier)) c.1 ∙ ap (λ n. Some (n + c.0)) (sym same),
      last-before machine e.0 state (first ∷ events) (suc k) c.0 c.1,
    )

-- what a block changes reaches suspect net pieces alone
block-reaches : (machine : Machine) (marks : Marks) (earlier : List NotedEvent) (state : State) (first : Event) (events : List Event) → IsBlock machine marks state first events →
    AllReachSuspects machine.design marks (entries machine earlier state (first ∷ events))
block-reaches machine marks earlier state first events b k x ex changed i =
    let p = entry_back machine earlier state (first ∷ events) k x ex in
    let z = entry_at machine [] state (first ∷ events) k p.0 p.1 in
    let same : changes_of machine.design x.accesses ≡ changes_of machine.design z.0.accesses =
    ap (changes_of machine.design) p.2.accesses ∙ same-changes machine (state_at machine state (first ∷ events) k) p.0 p.2.writer p.2.line
    ∙ sym (same-changes machine (state_at machine state (first ∷ events) k) p.0 z.2.writer z.2.line) ∙ sym (ap (changes_of machine.design) z.2.accesses) in
    all-in (ReachesSuspects machine.design marks) (phase_changes machine.design (log_of machine state (first ∷ events))) changed b.reaches
    (subst (λ es. In changed (joined (map (λ (event : LoggedEvent). changes_of machine.design event.accesses) es))) (sym (log_entries machine state (first ∷ events)))
    (in-joined_at (λ (event : LoggedEvent). changes_of machine.design event.accesses) (entries machine [] state (first ∷ events)) k z.0 changed z.1 (subst (λ cs. In changed cs) same i)))

module _ (design : FlatDesign) (fault : StuckAt) (marks : Marks) (parts : List Part) (ones others : List NotedEvent) (s : AreNoted design fault marks parts ones others) (good faulty : State)
    (first : Event) (mine yours : List Event) (a : AreUnlike design fault marks good faulty first mine yours) where
  abbrev own : Part
  own = part_of design fault ones others good faulty (Unlike first mine yours)

  own-likes : (k : ℕ) (y : LoggedEvent) → slice_get own.faulty k ≡ Some y → (access : ObjectAccess) → In access y.accesses →
      (marks.suspect access.object ≡ true) ⊎ ((marks.met access.object ≡ true) × HasLikeAt marks own.good access)
  own-likes k y ey access i =
      let o = local-access (faulty_machine design fault) others faulty (first ∷ yours) k y access ey i in
      go o.0 o.2 o.3
      (all-in (IsSuspectOrMet marks (all_accesses (log_of (good_machine design) good (first ∷ mine)))) (all_accesses (log_of (faulty_machine design fault) faulty (first ∷ yours))) o.0 a.accesses o.1)
    where
      go : (other : ObjectAccess) → other.act ≡ access.act → other.object ≡ access.object → IsSuspectOrMet marks (all_accesses (log_of (good_machine design) good (first ∷ mine))) other →
          (marks.suspect access.object ≡ true) ⊎ ((marks.met access.object ≡ true) × HasLikeAt marks own.good access)
      go other act object (inl suspect) = inl (ap marks.suspect (sym object) ∙ suspect)
      go other act object (inr m) =
          let p : StandsAt (entries (good_machine design) ones good (first ∷ mine)) m.1.0 =
          phase-access (good_machine design) ones good (first ∷ mine) m.1.0 (from_is_in m.1.0 (all_accesses (log_of (good_machine design) good (first ∷ mine))) m.1.1) in
          inr (
            ap marks.met (sym object) ∙ m.0,
            record {
              place = p.place;
              event = p.event;
              stands = p.stands;
              one = p.other;
              among = p.among;
              like = like-same marks.awaited m.1.0 other p.other access m.1.2 p.same_act p.same_object (sym act) (sym object);
            },
          )

  own-part : UnlikePart design marks parts own
  own-part = record {
    first = s.lasts first a.good_block.begins;
    good_inner = stays-within (good_machine design) marks ones good first mine (length (good_log parts)) (good_start design fault marks parts ones others s) a.good_block;
    faulty_inner = stays-within (faulty_machine design fault) marks others faulty first yours (length (faulty_log parts)) (faulty_start design fault marks parts ones others s) a.faulty_block;
    likes = own-likes;
    good_reaches = block-reaches (good_machine design) marks ones good first mine a.good_block;
    faulty_reaches = block-reaches (faulty_machine design fault) marks others faulty first yours a.faulty_block;
  }

  -- a later process or lane step has its cause in both blocks or in neither
  own-causes : (later : Event) → is_process_event later ≡ true →
      is_some (last_cause (good_machine design) later good (first ∷ mine)) ≡ is_some (last_cause (faulty_machine design fault) later faulty (first ∷ yours))
  own-causes (Step process) p =
      is_some-later (good_machine design) good (first ∷ mine) (Step process) ∙ a.steps process ∙ sym (is_some-later (faulty_machine design fault) faulty (first ∷ yours) (Step process))
  own-causes (LaneStep process) p =
      is_some-later (good_machine design) good (first ∷ mine) (LaneStep process) ∙ a.lanes process ∙ sym (is_some-later (faulty_machine design fault) faulty (first ∷ yours) (LaneStep process))
  own-causes (Evaluation node) p = cc
  own-causes (NetUpdate node) p = cc

-- Block by block

module _ (design : FlatDesign) (fault : StuckAt) (marks : Marks) (parts : List Part) (ones others : List NotedEvent) (s : AreNoted design fault marks parts ones others) (good faulty : State) where
  part-is : (block : BlockPair) → IsBlockPair design fault marks good faulty block → IsPart design marks parts (is_unlike block) (part_of design fault ones others good faulty block)
  part-is (Alike events) b = stretch-part design fault marks parts ones others s good faulty events b
  part-is (Unlike first mine yours) b = own-part design fault marks parts ones others s good faulty first mine yours b

  part-lasts : (block : BlockPair) → IsBlockPair design fault marks good faulty block → (later : Event) → is_process_event later ≡ true →
      CausesBeside (part_of design fault ones others good faulty block ∷ parts)
      (or_earlier (length ones) (last_cause (good_machine design) later good (good_events block)) (last_place (may_cause (good_machine design) later) ones))
      (or_earlier (length others) (last_cause (faulty_machine design fault) later faulty (faulty_events block)) (last_place (may_cause (faulty_machine design fault) later) others))
  part-lasts (Alike events) b later process =
      cause-cut (part_of design fault ones others good faulty (Alike events)) parts (length ones) (length others) (last_cause (good_machine design) later good events)
      (last_cause (faulty_machine design fault) later faulty events) (last_place (may_cause (good_machine design) later) ones)
      (last_place (may_cause (faulty_machine design fault) later) others) (ap is_some same)
      (λ j l e f.
      let at : j ≡ l = ap (found_or j) (sym e ∙ same ∙ f) in
      let below : j < length events = last-below (good_machine design) later good events j e in
      stand-beside (part_of design fault ones others good faulty (Alike events)) parts (length ones) (length others) j l (good_start design fault marks parts ones others s)
      (faulty_start design fault marks parts ones others s) (omega (arith, below, length-entries (good_machine design) ones good events))
      (omega (arith, below, at, length-entries (faulty_machine design fault) others faulty events)) (λ u. at))
      (λ none. s.lasts later process)
    where
      same : last_cause (good_machine design) later good events ≡ last_cause (faulty_machine design fault) later faulty events
      same = ap last_true (tests-alike design fault marks later good faulty events b.alike)
  part-lasts (Unlike first mine yours) b later process =
      cause-cut (part_of design fault ones others good faulty (Unlike first mine yours)) parts (length ones) (length others) (last_cause (good_machine design) later good (first ∷ mine))
      (last_cause (faulty_machine design fault) later faulty (first ∷ yours)) (last_place (may_cause (good_machine design) later) ones)
      (last_place (may_cause (faulty_machine design fault) later) others) (own-causes design fault marks parts ones others s good faulty first mine yours b later process)
      (λ j l e f.
      let one : j < length (first ∷ mine) = last-below (good_machine design) later good (first ∷ mine) j e in
      let other : l < length (first ∷ yours) = last-below (faulty_machine design fault) later faulty (first ∷ yours) l f in
      stand-beside (part_of design fault ones others good faulty (Unlike first mine yours)) parts (length ones) (length others) j l (good_start design fault marks parts ones others s)
      (faulty_start design fault marks parts ones others s) (omega (arith, one, length-entries (good_machine design) ones good (first ∷ mine)))
      (omega (arith, other, length-entries (faulty_machine design fault) others faulty (first ∷ yours))) (λ u. true-false true refl u))
      (λ none. s.lasts later process)

  grow : (block : BlockPair) → IsBlockPair design fault marks good faulty block →
      AreNoted design fault marks (part_of design fault ones others good faulty block ∷ parts) (ones ++ new_notes (good_machine design) ones good (good_events block))
      (others ++ new_notes (faulty_machine design fault) others faulty (faulty_events block))
  grow block b = record {
    good_is = ap (λ l. l ++ entries (good_machine design) ones good (good_events block)) s.good_is
        ∙ sym (map-append (logged (good_machine design)) ones (new_notes (good_machine design) ones good (good_events block)));
    faulty_is = ap (λ l. l ++ entries (faulty_machine design fault) others faulty (faulty_events block)) s.faulty_is
        ∙ sym (map-append (logged (faulty_machine design fault)) others (new_notes (faulty_machine design fault) others faulty (faulty_events block)));
    parts_are = (part-is block b, s.parts_are);
    lasts = λ later process.
        subst (λ c. CausesBeside (part_of design fault ones others good faulty block ∷ parts) c
        (last_place (may_cause (faulty_machine design fault) later) (others ++ new_notes (faulty_machine design fault) others faulty (faulty_events block))))
        (sym (last_among (good_machine design) later ones good (good_events block)))
        (subst (λ c. CausesBeside (part_of design fault ones others good faulty block ∷ parts)
        (or_earlier (length ones) (last_cause (good_machine design) later good (good_events block)) (last_place (may_cause (good_machine design) later) ones)) c)
        (sym (last_among (faulty_machine design fault) later others faulty (faulty_events block))) (part-lasts block b later process));
  }

  part-flags : (block : BlockPair) → map (λ (event : LoggedEvent). is_unlike block) (part_of design fault ones others good faulty block).faulty ≡ unlike_flags block
  part-flags (Alike events) = map-one false (entries (faulty_machine design fault) others faulty events) events (length-entries (faulty_machine design fault) others faulty events)
  part-flags (Unlike first mine yours) =
      map-one true (entries (faulty_machine design fault) others faulty (first ∷ yours)) (first ∷ yours) (length-entries (faulty_machine design fault) others faulty (first ∷ yours))

-- the phases with all blocks
pub record AreCut (design : FlatDesign) (fault : StuckAt) (marks : Marks) (before : List Part) (ones others : List NotedEvent) (blocks : List BlockPair) : Type 0 where
  pub parts : List Part
  pub noted : AreNoted design fault marks parts ones others
  pub flags_are : flags parts ≡ flags before ++ joined (map unlike_flags blocks)

pub cut : (design : FlatDesign) (fault : StuckAt) (marks : Marks) (blocks : List BlockPair) (parts : List Part) (ones others : List NotedEvent) (good faulty : State) →
    AreNoted design fault marks parts ones others → AreBlocks design fault marks good faulty blocks →
    AreCut design fault marks parts (ones ++ new_notes (good_machine design) ones good (good_phase blocks))
    (others ++ new_notes (faulty_machine design fault) others faulty (faulty_phase blocks)) blocks
cut design fault marks [] parts ones others good faulty s b = record {
  parts = parts;
  noted = subst (λ l. AreNoted design fault marks parts l (others ++ [])) (sym (append-nil ones)) (subst (AreNoted design fault marks parts ones) (sym (append-nil others)) s);
  flags_are = sym (append-nil (flags parts));
}
cut design fault marks (block ∷ blocks) parts ones others good faulty s b =
    let part : Part = part_of design fault ones others good faulty block in
    let r = cut design fault marks blocks (part ∷ parts) (ones ++ new_notes (good_machine design) ones good (good_events block))
    (others ++ new_notes (faulty_machine design fault) others faulty (faulty_events block)) (happened (good_machine design) good (good_events block))
    (happened (faulty_machine design fault) faulty (faulty_events block)) (grow design fault marks parts ones others s good faulty block b.0) b.1 in
    record {
      parts = r.parts;
      noted = subst (λ l. AreNoted design fault marks r.parts l (others ++ new_notes (faulty_machine design fault) others faulty (faulty_phase (block ∷ blocks))))
          (more (good_machine design) ones good (good_events block) (good_phase blocks))
          (subst (AreNoted design fault marks r.parts
          ((ones ++ new_notes (good_machine design) ones good (good_events block))
          ++ new_notes (good_machine design) (ones ++ new_notes (good_machine design) ones good (good_events block)) (happened (good_machine design) good (good_events block)) (good_phase blocks)))
          (more (faulty_machine design fault) others faulty (faulty_events block) (faulty_phase blocks)) r.noted);
      flags_are = r.flags_are
          ∙ append-assoc (flags parts) (map (λ (event : LoggedEvent). part.unlike) part.faulty) (joined (map unlike_flags blocks))
          ∙ ap (λ l. flags parts ++ (l ++ joined (map unlike_flags blocks))) (part-flags design fault marks parts ones others s good faulty block);
    }
  where
    more : (machine : Machine) (earlier : List NotedEvent) (state : State) (us ws : List Event) →
        ((earlier ++ new_notes machine earlier state us) ++ new_notes machine (earlier ++ new_notes machine earlier state us) (happened machine state us) ws)
        ≡ (earlier ++ new_notes machine earlier state (us ++ ws))
    more machine earlier state us ws =
        append-assoc earlier (new_notes machine earlier state us) (new_notes machine (earlier ++ new_notes machine earlier state us) (happened machine state us) ws)
        ∙ ap (λ l. earlier ++ l) (sym (new_notes-append machine earlier state us ws))

-- The law

-- a phase's log, by its notes
log-whole : (machine : Machine) (state : State) (events : List Event) (log : List LoggedEvent) → log ≡ map (logged machine) (new_notes machine [] state events) →
    log_of machine state events ≡ whole (held_accesses machine state) log
log-whole machine state events log e =
    λ i. record { held = held_accesses machine state; events = (ap (map (logged machine)) (noted_events-new machine state events) ∙ sym e) i }

held-reads : (machine : Machine) (state : State) (access : ObjectAccess) → In access (held_accesses machine state) → is_write access.act ≡ false
held-reads machine state access i = let r = held-holds machine state access i in ap is_write r.1

pub blocks_suffice : BlocksSuffice
blocks_suffice design fault marks good faulty blocks b held awaited none suspects left =
    ap (least_pair design) faulty-log ∙ faulty_none design marks c.parts (held_accesses (good_machine design) good) (held_accesses (faulty_machine design fault) faulty) logs
  where
    begins : AreNoted design fault marks [] [] []
    begins = record { good_is = refl; faulty_is = refl; parts_are = tt; lasts = λ later process. tt }

    c : AreCut design fault marks [] (new_notes (good_machine design) [] good (good_phase blocks)) (new_notes (faulty_machine design fault) [] faulty (faulty_phase blocks)) blocks
    c = cut design fault marks blocks [] [] [] good faulty begins b

    good-log : log_of (good_machine design) good (good_phase blocks) ≡ whole (held_accesses (good_machine design) good) (good_log c.parts)
    good-log = log-whole (good_machine design) good (good_phase blocks) (good_log c.parts) c.noted.good_is

    faulty-log : log_of (faulty_machine design fault) faulty (faulty_phase blocks) ≡ whole (held_accesses (faulty_machine design fault) faulty) (faulty_log c.parts)
    faulty-log = log-whole (faulty_machine design fault) faulty (faulty_phase blocks) (faulty_log c.parts) c.noted.faulty_is

    log : LoggedPhase
    log = log_of (faulty_machine design fault) faulty (faulty_phase blocks)

    suspects-clear : (first second : PhaseAccess) → In first (log_accesses design log) → In second (log_accesses design log) → marks.suspect first.access.object ≡ true → IsClear log first second
    suspects-clear first second i j s same clash =
        free-clear log first second
        (suspects first.access.object s first second (to_is_in first (log_accesses design log) i) (to_is_in second (log_accesses design log) j) refl (sym same)) same clash

    left-clear : (first second : PhaseAccess) → In first (log_accesses design log) → In second (log_accesses design log) → marks.met first.access.object ≡ true →
        first.access.object ≡ second.access.object → (one other : ℕ) → first.event ≡ Some one → second.event ≡ Some other → slice_get (flags c.parts) one ≡ Some true → one ≤ other →
        IsClear log first second
    left-clear first second i j m same one other e f u b =
        free-clear log first second
        (left first second (to_is_in first (log_accesses design log) i) (to_is_in second (log_accesses design log) j)
        (record {
          met = m;
          same = same;
          one = one;
          other = other;
          first_event = e;
          second_event = f;
          unlike = ap (λ l. slice_get l one) (sym c.flags_are) ∙ u;
          not_before = b;
        }))

    logs : AreLogs design marks c.parts (held_accesses (good_machine design) good) (held_accesses (faulty_machine design fault) faulty)
    logs = record {
      parts_are = c.noted.parts_are;
      held_read = held-reads (good_machine design) good;
      held_alike = λ access i tame.
          from_is_in access (held_accesses (good_machine design) good) (held access (to_is_in access (held_accesses (faulty_machine design fault) faulty) i) tame);
      awaited = subst (λ l. (access : PhaseAccess) → In access (log_accesses design l) → marks.suspect access.access.object ≡ false → IsAwaited marks.awaited access.access.act) faulty-log
          (λ access i tame. awaited access (to_is_in access (log_accesses design log) i) tame);
      good_back = subst GoBack good-log (go_back (good_machine design) good (good_phase blocks));
      faulty_back = subst GoBack faulty-log (go_back (faulty_machine design fault) faulty (faulty_phase blocks));
      good_none = ap (least_pair design) (sym good-log) ∙ none;
      suspects = subst (λ l. (first second : PhaseAccess) → In first (log_accesses design l) → In second (log_accesses design l) → marks.suspect first.access.object ≡ true → IsClear l first second)
          faulty-log suspects-clear;
      left = subst (λ l. (first second : PhaseAccess) → In first (log_accesses design l) → In second (log_accesses design l) → marks.met first.access.object ≡ true →
          first.access.object ≡ second.access.object → (one other : ℕ) → first.event ≡ Some one → second.event ≡ Some other → slice_get (flags c.parts) one ≡ Some true → one ≤ other →
          IsClear l first second) faulty-log left-clear;
    }

pub all_are_awaited : AllAreAwaited
all_are_awaited design marks log every access i tame = go access.access.act
  where
    go : (act : AccessAct) → IsAwaited marks.awaited act
    go Reading = tt
    go (Writing old new) = tt
    go (Awaiting entry) = every entry
    go (Ending entry) = every entry
    go (Holding entry) = tt
    go Settling = tt
