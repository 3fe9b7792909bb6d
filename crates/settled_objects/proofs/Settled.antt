-- From the first own block on that meets a settled object, its accesses are reads and waits.
use Rattle.std.proofs.Common.{◌≡◌, ℕ, zero, suc, ◌+◌, ◌<◌, ◌≤◌, List, [], ◌∷◌, ◌++◌, map, length, Bool, true, false, ◌&&◌, ◌||◌, refl, sym, ap, subst, ◌∙◌, ◌⊎◌, inl, inr, arith}
use Rattle.std.specs.Prelude.{Some, None, slice_get, nat_eq, nat_lt}
use Rattle.std.proofs.lemmas.Bool.{cases_lt, lt-ltb}
use Rattle.std.proofs.lemmas.Option.{slice_get_within}
use Rattle.std.proofs.lemmas.List.{length-append}
use Rattle.vf_base.specs.Lists.{joined, has}
use Rattle.four_value.specs.Values.{same_value}
use Rattle.v_design.specs.Paths.{paths, net_pieces}
use Rattle.v_design.specs.Designs.{FlatDesign, Machine}
use Rattle.v_design.specs.States.{State, Event, found_or}
use Rattle.v_design.specs.Runs.{happened}
use Rattle.v_design.specs.Accesses.{AccessAct, Reading, Writing, Awaiting, Ending, Holding, Settling, ObjectAccess}
use Rattle.v_design.specs.Logs.{LoggedEvent, PhaseAccess, is_write, change_of, phase_changes, counts, acts_clash, orders_others, log_accesses, conflict}
use Rattle.v_design.specs.PhaseLogs.{NotedEvent, log_of}
use Rattle.copy_laws.specs.Filter.{IsIn}
use Rattle.block_filter.specs.Likes.{Marks}
use Rattle.block_filter.specs.Blocks.{BlockPair, Alike, Unlike, faulty_events, faulty_phase}
use Rattle.block_filter.specs.Suffice.{unlike_flags, AreLeft}
use Rattle.free_objects.specs.Stretches.{NonePasses}
use Rattle.lockstep_race.specs.Nets.{reaches_by_write}
use Rattle.order_laws.proofs.Conflicts.{In}
use Rattle.order_laws.proofs.Notes.{new_notes}
use Rattle.order_laws.proofs.PathLaws.{true-false}
use Rattle.order_laws.proofs.RunStates.{state_at}
use Rattle.order_laws.proofs.SwappedRuns.{length-map}
use Rattle.block_filter.proofs.Places.{get-parts, joined-append, from_is_in}
use Rattle.block_filter.proofs.Clashes.{clear-free}
use Rattle.block_filter.proofs.Counted.{IsSettling, IsOfEvent, counted-back, log-back}
use Rattle.block_filter.proofs.Entries.{entries, length-entries, log_entries, entries-append, entry_back}
use Rattle.free_objects.proofs.EventAccesses.{of-event}
use Rattle.free_objects.proofs.Raw.{tested}
use Rattle.free_objects.proofs.Sole.{of-object, other-object}
use Rattle.settled_objects.specs.Settled.{UnlikesPassNone, IsSettled, SettledObjectsAreFree}

-- Acts

abbrev is_still : AccessAct → Bool
is_still Reading = true
is_still (Writing old new) = false
is_still (Awaiting entry) = true
is_still (Ending entry) = true
is_still (Holding entry) = true
is_still Settling = false

-- two acts that change nothing don't clash
still-clash : (object : ℕ) (one other : AccessAct) → is_still one ≡ true → is_still other ≡ true → acts_clash object one other ≡ false
still-clash object (Writing old new) other p q = cc
still-clash object Settling other p q = cc
still-clash object one (Writing old new) p q = cc
still-clash object one Settling p q = cc
still-clash object Reading Reading p q = refl
still-clash object one other p q = refl

still-unless : (act : AccessAct) → orders_others act ≡ true → is_write act ≡ false → is_still act ≡ true
still-unless Reading o w = refl
still-unless (Writing old new) o w = cc
still-unless (Awaiting entry) o w = refl
still-unless (Ending entry) o w = refl
still-unless (Holding entry) o w = cc
still-unless Settling o w = cc

-- who changes an object writes it
changed-is : (design : FlatDesign) (act : AccessAct) (object changed : ℕ) → In changed (change_of design act object) → (is_write act ≡ true) × (changed ≡ object)
changed-is design Reading object changed i = absurd i
changed-is design (Writing old new) object changed i = go (same_value old new || has (net_pieces design) object) i
  where
    go : (b : Bool) → In changed (elim b as (λ _. List ℕ) [ true ↦ [] | false ↦ object ∷ [] ]) → (true ≡ true) × (changed ≡ object)
    go true i = absurd i
    go false (inl e) = (refl, e)
    go false (inr i) = absurd i
changed-is design (Awaiting entry) object changed i = absurd i
changed-is design (Ending entry) object changed i = absurd i
changed-is design (Holding entry) object changed i = absurd i
changed-is design Settling object changed i = absurd i

-- a settling passes the test of what reaches an object by a write
settling-reaches : {A : Type 0} (design : FlatDesign) (changes : List ℕ) (accesses : List ObjectAccess) (access : ObjectAccess) (object : ℕ) → access.object ≡ object →
    (s : IsSettling design changes accesses access) → reaches_by_write design object s.writer.object s.writer.act ≡ false → A
settling-reaches design changes accesses access object same s none =
    let is = changed-is design s.writer.act s.writer.object s.changed s.change in
    let reach : nat_lt 0 (paths design s.changed access.object) ≡ true = lt-ltb 0 (paths design s.changed access.object) s.reaches in
    let here : nat_lt 0 (paths design s.writer.object object) ≡ true = (λ i. nat_lt 0 (paths design (sym is.1 i) (sym same i))) ∙ reach in
    true-false (is_write s.writer.act && nat_lt 0 (paths design s.writer.object object)) (λ i. is.0 i && here i) none

-- The events of a log

module _ (machine : Machine) (state : State) (events : List Event) where
  -- an access of an object at an event none of whose accesses writes the object or reaches it
  still-at : (access : PhaseAccess) (object number : ℕ) → In access (log_accesses machine.design (log_of machine state events)) → access.access.object ≡ object → access.event ≡ Some number →
      ((x : LoggedEvent) → slice_get (entries machine [] state events) number ≡ Some x → (one : ObjectAccess) → In one x.accesses →
      ((nat_eq one.object object && is_write one.act) ≡ false) × (reaches_by_write machine.design object one.object one.act ≡ false)) → is_still access.access.act ≡ true
  still-at access object number i same at none = elim (log-back machine.design (log_of machine state events) access i) [
    | inl h ↦ (let e : None ≡ Some number = sym h.0 ∙ at in cc)
    | inr e ↦ of_event e (counted-back machine.design (phase_changes machine.design (log_of machine state events)) e.event.accesses access.access e.counted)
  ]
    where
      there : (e : IsOfEvent machine.design (log_of machine state events) access) → slice_get (entries machine [] state events) number ≡ Some e.event
      there e =
          let one : e.number ≡ number = ap (found_or number) (sym e.at ∙ at) in
          subst (λ n. slice_get (entries machine [] state events) n ≡ Some e.event) one (subst (λ es. slice_get es e.number ≡ Some e.event) (log_entries machine state events) e.stands)

      of_event : (e : IsOfEvent machine.design (log_of machine state events) access) → (In access.access e.event.accesses ×
          (counts machine.design (phase_changes machine.design (log_of machine state events)) access.access ≡ true))
          ⊎ IsSettling machine.design (phase_changes machine.design (log_of machine state events)) e.event.accesses access.access → is_still access.access.act ≡ true
      of_event e (inl c) =
          let p = entry_back machine [] state events number e.event (there e) in
          let ordering = (of-event machine p.2.writer p.2.line (state_at machine state events number) p.0 access.access (subst (λ xs. In access.access xs) p.2.accesses c.0)).orders in
          still-unless access.access.act ordering (of-object object access.access.object (is_write access.access.act) same (none e.event (there e) access.access c.0).0)
      of_event e (inr s) =
          settling-reaches machine.design (phase_changes machine.design (log_of machine state events)) e.event.accesses access.access object same s
          (none e.event (there e) s.writer s.stands).1

-- Blocks

length-flags : (block : BlockPair) → length (unlike_flags block) ≡ length (faulty_events block)
length-flags (Alike events) = length-map (λ (event : Event). false) events
length-flags (Unlike first good faulty) = length-map (λ (event : Event). true) (first ∷ faulty)

never : {A : Type 0} (events : List Event) (n : ℕ) → slice_get (map (λ (event : Event). false) events) n ≡ Some true → A
never [] n e = cc
never (event ∷ events) zero e = cc
never (event ∷ events) (suc n) e = never events n e

passed-later : (test : ℕ → AccessAct → Bool) (machine : Machine) (state : State) (block : BlockPair) (blocks : List BlockPair) → UnlikesPassNone test machine state (block ∷ blocks) →
    UnlikesPassNone test machine (happened machine state (faulty_events block)) blocks
passed-later test machine state (Alike events) blocks u = u
passed-later test machine state (Unlike first good faulty) blocks u = u.1

passed-here : (test : ℕ → AccessAct → Bool) (machine : Machine) (earlier : List NotedEvent) (state : State) (block : BlockPair) (blocks : List BlockPair) (n : ℕ) (x : LoggedEvent)
    (access : ObjectAccess) → UnlikesPassNone test machine state (block ∷ blocks) → slice_get (unlike_flags block) n ≡ Some true →
    slice_get (entries machine earlier state (faulty_events block)) n ≡ Some x → In access x.accesses → test access.object access.act ≡ false
passed-here test machine earlier state (Alike events) blocks n x access u f e i = never events n f
passed-here test machine earlier state (Unlike first good faulty) blocks n x access u f e i = tested test machine earlier state (first ∷ faulty) n x access u.0 e i

-- no access of an event in a block with events of its own passes the test
unlikes-passed : (test : ℕ → AccessAct → Bool) (machine : Machine) (earlier : List NotedEvent) (state : State) (blocks : List BlockPair) (n : ℕ) (x : LoggedEvent) (access : ObjectAccess) →
    UnlikesPassNone test machine state blocks → slice_get (joined (map unlike_flags blocks)) n ≡ Some true → slice_get (entries machine earlier state (faulty_phase blocks)) n ≡ Some x →
    In access x.accesses → test access.object access.act ≡ false
unlikes-passed test machine earlier state [] n x access u f e i = cc
unlikes-passed test machine earlier state (block ∷ blocks) n x access u f e i =
    go (get-parts (unlike_flags block) (joined (map unlike_flags blocks)) n true f)
    (get-parts (entries machine earlier state (faulty_events block))
    (entries machine (earlier ++ new_notes machine earlier state (faulty_events block)) (happened machine state (faulty_events block)) (faulty_phase blocks)) n x
    (subst (λ es. slice_get es n ≡ Some x) (entries-append machine earlier state (faulty_events block) (faulty_phase blocks)) e))
    (λ k g h. unlikes-passed test machine (earlier ++ new_notes machine earlier state (faulty_events block)) (happened machine state (faulty_events block)) blocks k x access
    (passed-later test machine state block blocks u) g h i)
  where
    flags-long : length (unlike_flags block) ≡ length (faulty_events block)
    flags-long = length-flags block

    entries-long : length (entries machine earlier state (faulty_events block)) ≡ length (faulty_events block)
    entries-long = length-entries machine earlier state (faulty_events block)

    go : (slice_get (unlike_flags block) n ≡ Some true) ⊎ ((k : ℕ) × (n ≡ length (unlike_flags block) + k) × (slice_get (joined (map unlike_flags blocks)) k ≡ Some true)) →
        (slice_get (entries machine earlier state (faulty_events block)) n ≡ Some x)
        ⊎ ((k : ℕ) × (n ≡ length (entries machine earlier state (faulty_events block)) + k)
        × (slice_get
        (entries machine (earlier ++ new_notes machine earlier state (faulty_events block)) (happened machine state (faulty_events block)) (faulty_phase blocks)) k ≡ Some x)) →
        ((k : ℕ) → slice_get (joined (map unlike_flags blocks)) k ≡ Some true →
        slice_get (entries machine (earlier ++ new_notes machine earlier state (faulty_events block)) (happened machine state (faulty_events block)) (faulty_phase blocks)) k ≡ Some x →
        test access.object access.act ≡ false) →
        test access.object access.act ≡ false
    go (inl g) (inl h) rest = passed-here test machine earlier state block blocks n x access u g h i
    go (inl g) (inr h) rest =
        let b : n < length (unlike_flags block) = slice_get_within (unlike_flags block) n true g in
        absurd (omega (arith, b, h.1, flags-long, entries-long))
    go (inr g) (inl h) rest =
        let b : n < length (entries machine earlier state (faulty_events block)) = slice_get_within (entries machine earlier state (faulty_events block)) n x h in
        absurd (omega (arith, b, g.1, flags-long, entries-long))
    go (inr g) (inr h) rest =
        let at : g.0 ≡ h.0 = omega (arith, g.1, h.1, flags-long, entries-long) in
        rest g.0 g.2
        (subst
        (λ k. slice_get (entries machine (earlier ++ new_notes machine earlier state (faulty_events block)) (happened machine state (faulty_events block)) (faulty_phase blocks)) k ≡ Some x)
        (sym at) h.2)

length-joined : (blocks : List BlockPair) → length (joined (map unlike_flags blocks)) ≡ length (faulty_phase blocks)
length-joined [] = refl
length-joined (block ∷ blocks) =
    let a : length (unlike_flags block ++ joined (map unlike_flags blocks)) ≡ length (unlike_flags block) + length (joined (map unlike_flags blocks)) =
    length-append (unlike_flags block) (joined (map unlike_flags blocks)) in
    let b : length (faulty_events block ++ faulty_phase blocks) ≡ length (faulty_events block) + length (faulty_phase blocks) = length-append (faulty_events block) (faulty_phase blocks) in
    let c : length (unlike_flags block) ≡ length (faulty_events block) = length-flags block in
    let d : length (joined (map unlike_flags blocks)) ≡ length (faulty_phase blocks) = length-joined blocks in
    omega (arith, a, b, c, d)

first-part : {A : Type 0} (xs ys : List A) (n : ℕ) (y : A) → n < length xs → slice_get (xs ++ ys) n ≡ Some y → slice_get xs n ≡ Some y
first-part [] ys n y b e = absurd (omega (arith, b))
first-part (z ∷ xs) ys zero y b e = e
first-part (z ∷ xs) ys (suc n) y b e = first-part xs ys n y (omega (arith, b)) e

-- A settled object

module _ (machine : Machine) (marks : Marks) (state : State) (before after : List BlockPair) (object : ℕ) (settled : IsSettled machine state before after object) where
  phases : faulty_phase (before ++ after) ≡ faulty_phase before ++ faulty_phase after
  phases = joined-append faulty_events before after

  parted : entries machine [] state (faulty_phase (before ++ after))
      ≡ entries machine [] state (faulty_phase before) ++ entries machine (new_notes machine [] state (faulty_phase before)) (happened machine state (faulty_phase before)) (faulty_phase after)
  parted = ap (entries machine [] state) phases ∙ entries-append machine [] state (faulty_phase before) (faulty_phase after)

  -- an event of a block with events of its own before the first that meets the object
  early : (test : ℕ → AccessAct → Bool) → UnlikesPassNone test machine state before → (number : ℕ) (x : LoggedEvent) (access : ObjectAccess) →
      slice_get (joined (map unlike_flags (before ++ after))) number ≡ Some true → slice_get (entries machine [] state (faulty_phase (before ++ after))) number ≡ Some x → In access x.accesses →
      number < length (faulty_phase before) → test access.object access.act ≡ false
  early test u number x access f e i low =
      unlikes-passed test machine [] state before number x access u
      (first-part (joined (map unlike_flags before)) (joined (map unlike_flags after)) number true
      (let l : length (joined (map unlike_flags before)) ≡ length (faulty_phase before) = length-joined before in omega (arith, low, l))
      (subst (λ l. slice_get l number ≡ Some true) (joined-append unlike_flags before after) f))
      (first-part (entries machine [] state (faulty_phase before))
      (entries machine (new_notes machine [] state (faulty_phase before)) (happened machine state (faulty_phase before)) (faulty_phase after)) number x
      (let l : length (entries machine [] state (faulty_phase before)) ≡ length (faulty_phase before) = length-entries machine [] state (faulty_phase before) in omega (arith, low, l))
      (subst (λ es. slice_get es number ≡ Some x) parted e))
      i

  -- an event from there on
  late : (test : ℕ → AccessAct → Bool) → NonePasses test machine (happened machine state (faulty_phase before)) (faulty_phase after) → (number : ℕ) (x : LoggedEvent) (access : ObjectAccess) →
      slice_get (entries machine [] state (faulty_phase (before ++ after))) number ≡ Some x → In access x.accesses → length (faulty_phase before) ≤ number → test access.object access.act ≡ false
  late test none number x access e i high =
      go (get-parts (entries machine [] state (faulty_phase before))
      (entries machine (new_notes machine [] state (faulty_phase before)) (happened machine state (faulty_phase before)) (faulty_phase after)) number x
      (subst (λ es. slice_get es number ≡ Some x) parted e))
    where
      go : (slice_get (entries machine [] state (faulty_phase before)) number ≡ Some x)
          ⊎ ((k : ℕ) × (number ≡ length (entries machine [] state (faulty_phase before)) + k)
          × (slice_get (entries machine (new_notes machine [] state (faulty_phase before)) (happened machine state (faulty_phase before)) (faulty_phase after)) k ≡ Some x)) →
          test access.object access.act ≡ false
      go (inl there) =
          let w : number < length (entries machine [] state (faulty_phase before)) = slice_get_within (entries machine [] state (faulty_phase before)) number x there in
          let l : length (entries machine [] state (faulty_phase before)) ≡ length (faulty_phase before) = length-entries machine [] state (faulty_phase before) in
          absurd (omega (arith, w, high, l))
      go (inr r) =
          tested test machine (new_notes machine [] state (faulty_phase before)) (happened machine state (faulty_phase before)) (faulty_phase after) r.0 x access none r.2 i

  late-still : (access : PhaseAccess) (number : ℕ) → In access (log_accesses machine.design (log_of machine state (faulty_phase (before ++ after)))) → access.access.object ≡ object →
      access.event ≡ Some number → length (faulty_phase before) ≤ number → is_still access.access.act ≡ true
  late-still access number i same at high =
      still-at machine state (faulty_phase (before ++ after)) access object number i same at
      (λ x e one j.
      (late (λ other act. nat_eq other object && is_write act) settled.unwritten number x one e j high, late (reaches_by_write machine.design object) settled.unreached number x one e j high))

  -- what blocks of the machine's own access of the object stands behind the first ones
  meets-late : (access : PhaseAccess) (number : ℕ) → In access (log_accesses machine.design (log_of machine state (faulty_phase (before ++ after)))) → access.access.object ≡ object →
      access.event ≡ Some number → slice_get (joined (map unlike_flags (before ++ after))) number ≡ Some true → length (faulty_phase before) ≤ number
  meets-late access number i same at f = elim (cases_lt number (length (faulty_phase before))) [
    | inl less ↦ none-early less (log-back machine.design (log_of machine state (faulty_phase (before ++ after))) access i)
    | inr more ↦ more
  ]
    where
      none-early : number < length (faulty_phase before) →
          ((access.event ≡ None) × In access.access (log_of machine state (faulty_phase (before ++ after))).held)
          ⊎ IsOfEvent machine.design (log_of machine state (faulty_phase (before ++ after))) access → length (faulty_phase before) ≤ number
      none-early low (inl h) = let e : None ≡ Some number = sym h.0 ∙ at in cc
      none-early low (inr e) =
          counted (counted-back machine.design (phase_changes machine.design (log_of machine state (faulty_phase (before ++ after)))) e.event.accesses access.access e.counted)
        where
          there : slice_get (entries machine [] state (faulty_phase (before ++ after))) number ≡ Some e.event
          there =
              let one : e.number ≡ number = ap (found_or number) (sym e.at ∙ at) in
              subst (λ n. slice_get (entries machine [] state (faulty_phase (before ++ after))) n ≡ Some e.event) one
              (subst (λ es. slice_get es e.number ≡ Some e.event) (log_entries machine state (faulty_phase (before ++ after))) e.stands)

          counted : (In access.access e.event.accesses
              × (counts machine.design (phase_changes machine.design (log_of machine state (faulty_phase (before ++ after)))) access.access ≡ true))
              ⊎ IsSettling machine.design (phase_changes machine.design (log_of machine state (faulty_phase (before ++ after)))) e.event.accesses access.access →
              length (faulty_phase before) ≤ number
          counted (inl c) =
              other-object object access.access.object same (early (λ other act. nat_eq other object) settled.left number e.event access.access f there c.0 low)
          counted (inr s) =
              settling-reaches machine.design (phase_changes machine.design (log_of machine state (faulty_phase (before ++ after)))) e.event.accesses access.access object same s
              (early (reaches_by_write machine.design object) settled.apart number e.event s.writer f there s.stands low)

  pub settled-free : (first second : PhaseAccess) → IsIn first (log_accesses machine.design (log_of machine state (faulty_phase (before ++ after)))) →
      IsIn second (log_accesses machine.design (log_of machine state (faulty_phase (before ++ after)))) → first.access.object ≡ object → AreLeft marks (before ++ after) first second →
      conflict (log_of machine state (faulty_phase (before ++ after))) first second ≡ false
  settled-free first second i j same left =
      let log = log_of machine state (faulty_phase (before ++ after)) in
      let one = from_is_in first (log_accesses machine.design log) i in
      let other = from_is_in second (log_accesses machine.design log) j in
      let high : length (faulty_phase before) ≤ left.one = meets-late first left.one one same left.first_event left.unlike in
      let order : left.one ≤ left.other = left.not_before in
      let later : length (faulty_phase before) ≤ left.other = omega (arith, high, order) in
      clear-free log first second
      (λ s clash. true-false (acts_clash first.access.object first.access.act second.access.act) clash
      (still-clash first.access.object first.access.act second.access.act (late-still first left.one one same left.first_event high)
      (late-still second left.other other (sym left.same ∙ same) left.second_event later)))

pub settled_objects_are_free : SettledObjectsAreFree
settled_objects_are_free machine marks state before after object settled first second i j same left = settled-free machine marks state before after object settled first second i j same left
