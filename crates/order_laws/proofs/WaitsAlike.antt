-- An event that meets its like in a run without conflict ends the same waits there, and reads and writes the same.
use Rattle.std.proofs.Common.{◌≡◌, ℕ, zero, suc, ◌+◌, ◌<◌, ◌≤◌, List, [], Bool, true, false, ◌&&◌, refl, sym, ap, subst, ◌∙◌, ◌⊎◌, inl, inr, arith}
use Rattle.std.specs.Prelude.{◌≢◌, Option, Some, None, slice_get, nat_eq}
use Rattle.std.proofs.lemmas.Bool.{eqb-true, eq-eqb}
use Rattle.vf_base.specs.Lists.{has}
use Rattle.four_value.specs.Values.{LogicValue}
use Rattle.v_design.specs.Trees.{Entry}
use Rattle.v_design.specs.Designs.{Machine}
use Rattle.v_design.specs.Assignments.{value_at}
use Rattle.v_design.specs.States.{State, Event, Step, found_or, is_ready, some_entry, entry_matches}
use Rattle.v_design.specs.Accesses.{Reading, Writing, Awaiting, ObjectAccess, waiting_entries}
use Rattle.v_design.specs.Logs.{is_write, acts_clash, orders, orders_others}
use Rattle.v_design.specs.PhaseLogs.{log_of}
use Rattle.order_laws.proofs.Conflicts.{In}
use Rattle.order_laws.proofs.Clash.{await_stands, some_entry-true, true_is_false}
use Rattle.order_laws.proofs.MayCause.{activity_at}
use Rattle.order_laws.proofs.Notes.{later-orders-not}
use Rattle.order_laws.proofs.PairsOfRuns.{backward-log}
use Rattle.order_laws.proofs.PathLaws.{decided, true-false, reached}
use Rattle.order_laws.proofs.NetStates.{other_number}
use Rattle.order_laws.proofs.WorkedNodes.{below_other}
use Rattle.order_laws.proofs.QuietNets.{event_changes, run_changes}
use Rattle.order_laws.proofs.CountedChanges.{changed_in}
use Rattle.order_laws.proofs.RunStates.{first_of, state_at, at_next, first-below, first-state, possible_at, noted}
use Rattle.order_laws.proofs.Woken.{changed_entry, woken_by-ready, own_waits}
use Rattle.order_laws.proofs.Ordered.{events_clash}
use Rattle.order_laws.proofs.Touches.{entry_changed, wake_access, unchanged_in}
use Rattle.order_laws.proofs.Cells.{Cell, le_or, below_or_same, difference, NoneBetween, stays_between, IsNext, InOrder}
use Rattle.order_laws.proofs.Runs.{IsRun, quiet_at, changes_there, past_same, reached_by}
use Rattle.order_laws.proofs.FreeRuns.{IsFree, wild_in, counted, other_counted, change_counted, settles_there, IsOpen, InOrderWith, clash_with, in_chain, ready_waits_not, waits_tame}
use Rattle.order_laws.proofs.DoneChanges.{done_none}
use Rattle.order_laws.proofs.Comparison.{process_there, ProcessPart, process_part, process_stays, there-how, wakes_there, woken_at, Compared, part_through}

pub changes-where : (machine : Machine) (state : State) (first : List Event) (object k : ℕ) → changes_there machine state first object k ≡ true → (event : Event) × (slice_get first k ≡ Some event)
changes-where machine state first object k t = go (slice_get first k) refl
  where
    go : (found : Option Event) → slice_get first k ≡ found → (event : Event) × (slice_get first k ≡ Some event)
    go None e = true-false (changes_there machine state first object k) t (unchanged_in (state_at machine state first k) (state_at machine state first (suc k)) object
        (ap (λ s. value_at s.values object) (past_same machine state first k e)))
    go (Some event) e = (event, e)

-- an access of an event that clashes with each write of a tame object
pub value_in_order : (machine : Machine) (state : State) (first : List Event) (done : List ℕ) (i object : ℕ) (y : ObjectAccess) → IsFree machine state first →
    IsOpen (log_of machine state first) done i →
    wild_in machine state first object ≡ false → In y (counted machine state first i) → y.object ≡ object → ((old new : LogicValue) → acts_clash object (Writing old new) y.act ≡ true) →
    InOrder (changes_there machine state first object) done i
value_in_order machine state first done i object y r o tame a same clash = record {
  before = λ k t low. (with k t (λ e. let z : k ≡ i = e in omega (arith, z, low))).0 low;
  after = λ k t high. (with k t (λ e. let z : k ≡ i = e in omega (arith, z, high))).1 high;
  open_still = o.open_still;
}
  where
    with : (k : ℕ) → changes_there machine state first object k ≡ true → k ≢ i → InOrderWith done i k
    with k t d =
        let w = changes-where machine state first object k t in
        let x = change_counted machine state first k w.0 object r.run.rules w.1 tame t in
        clash_with machine state first done i k x.0 y r o d x.1 a (x.2 ∙ sym same)
        ((λ j. acts_clash (x.2 j) (x.3 j) y.act) ∙ clash (value_at (state_at machine state first k).values object) (value_at (state_at machine state first (suc k)).values object))

-- a read of a wild net comes before all changes in its cone
reads_wild : (machine : Machine) (state : State) (first : List Event) (done : List ℕ) (i object : ℕ) (y : ObjectAccess) → IsFree machine state first → IsOpen (log_of machine state first) done i →
    wild_in machine state first object ≡ true → In y (counted machine state first i) → y.object ≡ object → y.act ≡ Reading → (k : ℕ) (event : Event) → k ≢ i → slice_get first k ≡ Some event →
    1 ≤ reached machine.design (event_changes machine (state_at machine state first k) event) object → (k < i → ⊥) × (has done k ≡ true → ⊥)
reads_wild machine state first done i object y r o wild a same reading k event d e reach =
    let z = settles_there machine state first k event object e wild reach in
    let later : orders (log_of machine state first) i k ≡ true =
    elim (events_clash machine.design (log_of machine state first) r.free k i z.0 y d z.1 a (z.2 ∙ sym same) (λ j. acts_clash (z.2 j) (z.3 j) (reading j))) [
      | inl h ↦ true-false (orders_others z.0.act) (both (orders_others z.0.act) (orders (log_of machine state first) k i) h).0 (ap orders_others z.3)
      | inr h ↦ (both (orders_others y.act) (orders (log_of machine state first) i k) h).1
    ] in (
      λ low. true_is_false (sym later ∙ later-orders-not (log_of machine state first) (backward-log machine state first) i k low),
      λ h. true-false (has done i) (in_chain (log_of machine state first) done o.closed i _ (Some k) (λ c f. subst (λ n. has done n ≡ true) (ap (found_or k) f) h) later) o.open_still,
    )
  where
    both : (b c : Bool) → (b && c) ≡ true → (b ≡ true) × (c ≡ true)
    both true c e = (refl, e)
    both false c e = cc

-- so it finds the net's first value, in each of the runs
pub wild_first : (machine : Machine) (state : State) (first events : List Event) (n : ℕ) (matched : ℕ → Option ℕ) (done : List ℕ) (i object : ℕ) (event : Event) (y : ObjectAccess) →
    IsFree machine state first → IsRun machine state events →
    Compared machine state first events n matched done → IsOpen (log_of machine state first) done i → wild_in machine state first object ≡ true → slice_get first i ≡ Some event →
    event_changes machine (state_at machine state first i) event ≡ [] → In y (counted machine state first i) → y.object ≡ object → y.act ≡ Reading →
    value_at (state_at machine state events n).values object ≡ value_at (state_at machine state first i).values object
wild_first machine state first events n matched done i object event y r run c o wild e nothing a same reading =
    (quiet_at machine state events n run).values object
    (c.reach object ∙ done_none machine state done 0 first object (λ k ev f h. none k ev f (subst (λ m. has done m ≡ true) (let z : 0 + k ≡ k = omega arith in z) h)))
    ∙ sym ((quiet_at machine state first i r.run).values object (zero_or (reached machine.design (run_changes machine state (first_of i first)) object) earlier))
  where
    here : (k : ℕ) (ev : Event) → slice_get first k ≡ Some ev → k ≡ i → reached machine.design (event_changes machine (state_at machine state first k) ev) object ≡ 0
    here k ev f at =
        subst (λ m. reached machine.design (event_changes machine (state_at machine state first m) ev) object ≡ 0) (sym at)
        (ap (λ cs. reached machine.design cs object)
        (ap (event_changes machine (state_at machine state first i)) (ap (found_or ev) (sym f ∙ ap (slice_get first) at ∙ e)) ∙ nothing))

    zero_or : (m : ℕ) → (1 ≤ m → ⊥) → m ≡ 0
    zero_or zero h = refl
    zero_or (suc m) h = absurd (h (omega arith))

    apart : (k : ℕ) (ev : Event) → slice_get first k ≡ Some ev → 1 ≤ reached machine.design (event_changes machine (state_at machine state first k) ev) object → k ≢ i
    apart k ev f h at = let z : reached machine.design (event_changes machine (state_at machine state first k) ev) object ≡ 0 = here k ev f at in omega (arith, h, z)

    none : (k : ℕ) (ev : Event) → slice_get first k ≡ Some ev → has done k ≡ true → reached machine.design (event_changes machine (state_at machine state first k) ev) object ≡ 0
    none k ev f h =
        zero_or (reached machine.design (event_changes machine (state_at machine state first k) ev) object)
        (λ m. (reads_wild machine state first done i object y r o wild a same reading k ev (apart k ev f m) f m).1 h)

    earlier : 1 ≤ reached machine.design (run_changes machine state (first_of i first)) object → ⊥
    earlier h =
        let b = reached_by machine state (first_of i first) object h in
        let f = first-below i first b.0 b.1 b.2 in
        let m : 1 ≤ reached machine.design (event_changes machine (state_at machine state first b.0) b.1) object =
        subst (λ s. 1 ≤ reached machine.design (event_changes machine s b.1) object) (first-state machine state first i b.0 (let z : b.0 < i = f.0 in omega (arith, z))) b.3 in
        (reads_wild machine state first done i object y r o wild a same reading b.0 b.1 (apart b.0 b.1 f.1 m) f.1 m).0 f.0

-- Waits

pub tests-same : (one other : Entry → Bool) (entries : List Entry) → ((entry : Entry) → one entry ≡ other entry) → some_entry one entries ≡ some_entry other entries
tests-same one other entries h = λ i. some_entry (λ entry. h entry i) entries

-- two changes match the same entries
abbrev pub SameTests : State → State → State → State → Type 0
SameTests before next before' next' = (entry : Entry) → changed_entry before next entry ≡ changed_entry before' next' entry

module _ (machine : Machine) (state : State) (first : List Event) (done : List ℕ) (i q : ℕ) (event : Event)
    (r : IsFree machine state first) (o : IsOpen (log_of machine state first) done i) (e : slice_get first i ≡ Some event) (d : Step q ≢ event) where
  -- a write at the event of an object that an entry waits on, whose change matches it
  clash_here : (entry : Entry) → wild_in machine state first entry.object ≡ false → changed_entry (state_at machine state first i) (state_at machine state first (suc i)) entry ≡ true →
      (k : ℕ) (x : ObjectAccess) → k ≢ i → In x (counted machine state first k) → x.object ≡ entry.object →
      ((old new : LogicValue) → entry_matches entry.object old new entry ≡ true → acts_clash entry.object x.act (Writing old new) ≡ true) → InOrderWith done i k
  clash_here entry tame t k x apart a same clash =
      let y = change_counted machine state first i event entry.object r.run.rules e tame (entry_changed (state_at machine state first i) (state_at machine state first (suc i)) entry t) in
      let old : LogicValue = value_at (state_at machine state first i).values entry.object in
      let new : LogicValue = value_at (state_at machine state first (suc i)).values entry.object in
      let m : entry_matches entry.object (value_at (state_at machine state first i).values entry.object) (value_at (state_at machine state first (suc i)).values entry.object) entry ≡ true =
      (λ j. eq-eqb entry.object entry.object refl j && t j) in
      clash_with machine state first done i k x y.0 r o apart a y.1 (same ∙ sym y.2)
      ((λ j. acts_clash (same j) x.act (y.3 j)) ∙ clash (value_at (state_at machine state first i).values entry.object) (value_at (state_at machine state first (suc i)).values entry.object) m)

  -- the step that begins a wait on the entry
  await_here : (entry : Entry) → wild_in machine state first entry.object ≡ false → changed_entry (state_at machine state first i) (state_at machine state first (suc i)) entry ≡ true →
      (k : ℕ) → k ≢ i → slice_get first k ≡ Some (Step q) → In entry (waiting_entries (activity_at (state_at machine state first (suc k)) q)) → InOrderWith done i k
  await_here entry tame t k apart f w =
      let a = await_stands machine (state_at machine state first k) (noted machine state first k (Step q)).process (noted machine state first k (Step q)).line (Step q) entry
      (own_waits machine (state_at machine state first k) q entry (possible_at machine state first k (Step q) r.run.possible f)
      (subst (λ s. In entry (waiting_entries (activity_at s q))) (at_next machine state first k (Step q) f) w)) in
      let x : ObjectAccess = record { act = Awaiting entry; object = entry.object; process = q; line = a.0 } in
      clash_here entry tame t k x apart (other_counted machine state first k (Step q) x f a.1 refl) refl (λ old new m. m)

  not_ready : (entry : Entry) (k : ℕ) → Step q ≢ event → (some : Event) → slice_get first k ≡ Some some → Step q ≢ some →
      some_entry (changed_entry (state_at machine state first k) (state_at machine state first (suc k))) (waiting_entries (activity_at (state_at machine state first k) q)) ≡ true →
      In entry (waiting_entries (activity_at (state_at machine state first (suc k)) q)) → ⊥
  not_ready entry k d some f d' s w =
      ready_waits_not (activity_at (state_at machine state first (suc k)) q) entry
      (ap is_ready (woken_at machine state first q k some r.run f d') ∙ (woken_by-ready (changed_entry (state_at machine state first k) (state_at machine state first (suc k)))
      (activity_at (state_at machine state first k) q) s).1) w

  -- while a process waits on the entry no event up to this one touches it
  untouched_until : (entry : Entry) → wild_in machine state first entry.object ≡ false → changed_entry (state_at machine state first i) (state_at machine state first (suc i)) entry ≡ true →
      (k : ℕ) → k < i → (process_there machine state first q k ≡ true → has done k ≡ true → ⊥) → In entry (waiting_entries (activity_at (state_at machine state first k) q)) →
      process_there machine state first q k ≡ false
  untouched_until entry tame t k low undone w = elim (decided (process_there machine state first q k)) [
    | inr f ↦ f
    | inl touched ↦ (let h = there-how machine state first q k r.run touched in elim h.2 [
      | inl own ↦ absurd
          (ready_waits_not (activity_at (state_at machine state first k) q) entry (possible_at machine state first k (Step q) r.run.possible (h.1 ∙ ap Some own)) w)
      | inr wakes ↦
          (let acc = wake_access machine (state_at machine state first k) h.0 (noted machine state first k h.0).process (noted machine state first k h.0).line q entry w
          (ap (λ s. some_entry (changed_entry (state_at machine state first k) s) (waiting_entries (activity_at (state_at machine state first k) q))) (sym (at_next machine state first k h.0 h.1))
          ∙ wakes.1) in
          absurd (undone touched (elim acc [
            | inl changed ↦
                (let x = change_counted machine state first k h.0 entry.object r.run.rules h.1 tame
                (ap (λ s. changed_in (state_at machine state first k) s entry.object) (at_next machine state first k h.0 h.1) ∙ changed) in
                (clash_here entry tame t k x.0 apart x.1 x.2 (λ old new m. ap (λ act. acts_clash entry.object act (Writing old new)) x.3)).0 low)
            | inr ended ↦
                (clash_here entry tame t k ended.0 apart (other_counted machine state first k h.0 ended.0 h.1 ended.1 (ap is_write ended.3)) ended.2
                (λ old new m. ap (λ act. acts_clash entry.object act (Writing old new)) ended.3 ∙ m)).0 low
          ])))
    ])
  ]
    where
      apart : k ≢ i
      apart z = let w : k ≡ i = z in omega (arith, w, low)

  -- a process that waits on the entry afterwards was touched by no event between
  untouched_after : (entry : Entry) → wild_in machine state first entry.object ≡ false → changed_entry (state_at machine state first i) (state_at machine state first (suc i)) entry ≡ true →
      (k : ℕ) → (k < i → process_there machine state first q k ≡ true → has done k ≡ true → ⊥) → (i < k → process_there machine state first q k ≡ true → has done k ≡ true) →
      In entry (waiting_entries (activity_at (state_at machine state first (suc k)) q)) → process_there machine state first q k ≡ false
  untouched_after entry tame t k undone done' w = elim (decided (process_there machine state first q k)) [
    | inr f ↦ f
    | inl touched ↦ (let h = there-how machine state first q k r.run touched in elim h.2 [
      | inl own ↦ absurd (elim (decided (nat_eq k i)) [
        | inl same ↦ d (sym own ∙ ap (found_or event) (sym h.1 ∙ ap (slice_get first) (eqb-true k i same) ∙ e))
        | inr apart ↦
            (let p = await_here entry tame t k (other_number k i apart) (h.1 ∙ ap Some own) w in
            elim (below_other k i (other_number k i apart)) [
              | inl low ↦ undone low touched (p.0 low)
              | inr high ↦ p.1 high (done' high touched)
            ])
      ])
      | inr wakes ↦ absurd (not_ready entry k d h.0 h.1 wakes.0 wakes.1 w)
    ])
  ]

-- A process is as the run has it at the event, and is woken there; or it is woken neither here nor there
abbrev pub WaitsAlike : (machine : Machine) (state : State) (first events : List Event) (n : ℕ) (matched : ℕ → Option ℕ) (i q place : ℕ) → Type 0
WaitsAlike machine state first events n matched i q place =
    (IsNext (process_there machine state first q) (process_part machine state first q) place (part_through machine state events matched q n) i × (process_there machine state first q i ≡ true))
    ⊎ ((some_entry (changed_entry (state_at machine state events n) (state_at machine state events (suc n))) (waiting_entries (activity_at (state_at machine state events n) q)) ≡ false)
    × (process_there machine state first q i ≡ false))

module _ (machine : Machine) (state : State) (first events : List Event) (n : ℕ) (matched : ℕ → Option ℕ) (done : List ℕ) (i q : ℕ) (event : Event)
    (r : IsFree machine state first) (o : IsOpen (log_of machine state first) done i) (e : slice_get first i ≡ Some event) (d : Step q ≢ event)
    (cell : Cell (process_there machine state first q) (process_part machine state first q) done (part_through machine state events matched q n))
    (tests : SameTests (state_at machine state events n) (state_at machine state events (suc n)) (state_at machine state first i) (state_at machine state first (suc i))) where
  stays-active : (k : ℕ) → process_there machine state first q k ≡ false → activity_at (state_at machine state first (suc k)) q ≡ activity_at (state_at machine state first k) q
  stays-active k f = ap (λ (x : ProcessPart). x.activity) (process_stays machine state first q r.run k f)

  next-from : (le : cell.place ≤ i) → NoneBetween (process_there machine state first q) cell.place i →
      IsNext (process_there machine state first q) (process_part machine state first q) cell.place (part_through machine state events matched q n) i
  next-from le none = record {
    reaches = le;
    between = none;
    now = cell.same ∙ sym (stays_between (process_there machine state first q) (process_part machine state first q) (process_stays machine state first q r.run) cell.place i le none);
  }

  -- woken here
  woken-here : some_entry (changed_entry (state_at machine state events n) (state_at machine state events (suc n))) (waiting_entries (activity_at (state_at machine state events n) q)) ≡ true →
      WaitsAlike machine state first events n matched i q cell.place
  woken-here s = go (le_or cell.place i)
    where
      same : activity_at (state_at machine state events n) q ≡ activity_at (state_at machine state first cell.place) q
      same = ap (λ (x : ProcessPart). x.activity) cell.same

      m : (entry : Entry) × In entry (waiting_entries (activity_at (state_at machine state events n) q))
          × (changed_entry (state_at machine state events n) (state_at machine state events (suc n)) entry ≡ true)
      m = some_entry-true (changed_entry (state_at machine state events n) (state_at machine state events (suc n))) (waiting_entries (activity_at (state_at machine state events n) q)) s

      w : In m.0 (waiting_entries (activity_at (state_at machine state first cell.place) q))
      w = subst (λ act. In m.0 (waiting_entries act)) (ap (λ (x : ProcessPart). x.activity) cell.same) m.1

      tame : wild_in machine state first m.0.object ≡ false
      tame = waits_tame machine state first cell.place q m.0 r w

      t : changed_entry (state_at machine state first i) (state_at machine state first (suc i)) m.0 ≡ true
      t = sym (tests m.0) ∙ m.2

      -- a process in that activity is woken there
      there : activity_at (state_at machine state first i) q ≡ activity_at (state_at machine state first cell.place) q → process_there machine state first q i ≡ true
      there a =
          wakes_there machine state first q i event r.run e d
          (ap (λ act. some_entry (changed_entry (state_at machine state first i) (state_at machine state first (suc i))) (waiting_entries act))
          (a ∙ sym (ap (λ (x : ProcessPart). x.activity) cell.same))
          ∙ sym (tests-same (changed_entry (state_at machine state events n) (state_at machine state events (suc n)))
          (changed_entry (state_at machine state first i) (state_at machine state first (suc i)))
          (waiting_entries (activity_at (state_at machine state events n) q)) tests) ∙ s)

      up : (dd : ℕ) → cell.place + dd ≤ i →
          (activity_at (state_at machine state first (cell.place + dd)) q ≡ activity_at (state_at machine state first cell.place) q)
          × NoneBetween (process_there machine state first q) cell.place (cell.place + dd)
      up zero h = (ap (λ k. activity_at (state_at machine state first k) q) (let z : cell.place + 0 ≡ cell.place = omega arith in z), λ k a b. absurd (omega (arith, a, b)))
      up (suc dd) h =
          let rest = up dd (omega (arith, h)) in
          let f : process_there machine state first q (cell.place + dd) ≡ false =
          untouched_until machine state first done i q event r o e d m.0 tame t (cell.place + dd) (omega (arith, h))
          (λ touched hd. let z : cell.place + dd < cell.place = cell.before (cell.place + dd) touched hd in omega (arith, z))
          (subst (λ act. In m.0 (waiting_entries act)) (sym rest.0) w) in (
            ap (λ k. activity_at (state_at machine state first k) q) (let z : cell.place + suc dd ≡ suc (cell.place + dd) = omega arith in z) ∙ stays-active (cell.place + dd) f ∙ rest.0,
            λ k a b. elim (below_or_same k (cell.place + dd) (let z : k < cell.place + suc dd = b in omega (arith, z))) [
              | inl low ↦ rest.1 k a low
              | inr at ↦ subst (λ x. process_there machine state first q x ≡ false) (sym at) f
            ],
          )

      down : (dd : ℕ) → i + dd ≤ cell.place → i < cell.place → activity_at (state_at machine state first (i + dd)) q ≡ activity_at (state_at machine state first cell.place) q → ⊥
      down zero h gt a =
          true-false (has done i)
          (cell.known i (there (ap (λ k. activity_at (state_at machine state first k) q) (let z : i ≡ i + 0 = omega arith in z) ∙ a)) gt) o.open_still
      down (suc dd) h gt a =
          let f : process_there machine state first q (i + dd) ≡ false =
          untouched_after machine state first done i q event r o e d m.0 tame t (i + dd) (λ low. absurd (omega (arith, low))) (λ high touched. cell.known (i + dd) touched (omega (arith, h)))
          (subst (λ act. In m.0 (waiting_entries act)) (sym a ∙ ap (λ k. activity_at (state_at machine state first k) q) (let z : i + suc dd ≡ suc (i + dd) = omega arith in z)) w) in
          down dd (omega (arith, h)) gt (sym (stays-active (i + dd) f) ∙ ap (λ k. activity_at (state_at machine state first k) q) (let z : suc (i + dd) ≡ i + suc dd = omega arith in z) ∙ a)

      go : (cell.place ≤ i) ⊎ (i < cell.place) → WaitsAlike machine state first events n matched i q cell.place
      go (inl le) =
          let x = difference cell.place i le in
          let u = up x.0 (let z : cell.place + x.0 ≡ i = x.1 in omega (arith, z)) in
          inl (
            next-from le (subst (λ k. NoneBetween (process_there machine state first q) cell.place k) x.1 u.1),
            there (ap (λ k. activity_at (state_at machine state first k) q) (sym x.1) ∙ u.0),
          )
      go (inr gt) =
          let x = difference i cell.place (let z : i < cell.place = gt in omega (arith, z)) in
          absurd (down x.0 (let z : i + x.0 ≡ cell.place = x.1 in omega (arith, z)) gt (ap (λ k. activity_at (state_at machine state first k) q) x.1))

  -- woken there
  woken-there : process_there machine state first q i ≡ true → WaitsAlike machine state first events n matched i q cell.place
  woken-there touched = go (le_or cell.place i)
    where
      h : (ev : Event) × (slice_get first i ≡ Some ev)
          × ((ev ≡ Step q) ⊎ ((Step q ≢ ev) × (some_entry (changed_entry (state_at machine state first i) (state_at machine state first (suc i)))
          (waiting_entries (activity_at (state_at machine state first i) q)) ≡ true)))
      h = there-how machine state first q i r.run touched

      s : some_entry (changed_entry (state_at machine state first i) (state_at machine state first (suc i))) (waiting_entries (activity_at (state_at machine state first i) q)) ≡ true
      s = elim (there-how machine state first q i r.run touched).2 [
        | inl own ↦ absurd (d (sym own ∙ ap (found_or event) (sym (there-how machine state first q i r.run touched).1 ∙ e)))
        | inr wakes ↦ wakes.1
      ]

      m : (entry : Entry) × In entry (waiting_entries (activity_at (state_at machine state first i) q))
          × (changed_entry (state_at machine state first i) (state_at machine state first (suc i)) entry ≡ true)
      m = some_entry-true (changed_entry (state_at machine state first i) (state_at machine state first (suc i))) (waiting_entries (activity_at (state_at machine state first i) q)) s

      tame : wild_in machine state first m.0.object ≡ false
      tame = waits_tame machine state first i q m.0 r m.1

      down : (ee dd : ℕ) → cell.place + dd + ee ≡ i →
          (activity_at (state_at machine state first (cell.place + dd)) q ≡ activity_at (state_at machine state first i) q) × NoneBetween (process_there machine state first q) (cell.place + dd) i
      down zero dd z = (ap (λ k. activity_at (state_at machine state first k) q) (omega (arith, z)), λ k a b. absurd (omega (arith, a, b, z)))
      down (suc ee) dd z =
          let rest = down ee (suc dd) (omega (arith, z)) in
          let a : activity_at (state_at machine state first (suc (cell.place + dd))) q ≡ activity_at (state_at machine state first i) q =
          ap (λ k. activity_at (state_at machine state first k) q) (let y : suc (cell.place + dd) ≡ cell.place + suc dd = omega arith in y) ∙ rest.0 in
          let f : process_there machine state first q (cell.place + dd) ≡ false =
          untouched_after machine state first done i q event r o e d m.0 tame m.2 (cell.place + dd)
          (λ low t hd. let y : cell.place + dd < cell.place = cell.before (cell.place + dd) t hd in omega (arith, y)) (λ high. absurd (omega (arith, high, z)))
          (subst (λ act. In m.0 (waiting_entries act)) (sym a) m.1) in (
            sym (stays-active (cell.place + dd) f) ∙ a,
            λ k b c. elim (le_or (cell.place + suc dd) k) [
              | inl later ↦ rest.1 k later c
              | inr early ↦ subst (λ x. process_there machine state first q x ≡ false) (let y : cell.place + dd ≡ k = omega (arith, b, early) in y) f
            ],
          )

      go : (cell.place ≤ i) ⊎ (i < cell.place) → WaitsAlike machine state first events n matched i q cell.place
      go (inl le) =
          let x = difference cell.place i le in
          let u = down x.0 0 (let z : cell.place + x.0 ≡ i = x.1 in omega (arith, z)) in
          inl (next-from le (subst (λ k. NoneBetween (process_there machine state first q) k i) (let z : cell.place + 0 ≡ cell.place = omega arith in z) u.1), touched)
      go (inr gt) = true-false (has done i) (cell.known i touched gt) o.open_still

  pub waits_alike : WaitsAlike machine state first events n matched i q cell.place
  waits_alike = elim (decided (some_entry (changed_entry (state_at machine state events n) (state_at machine state events (suc n)))
      (waiting_entries (activity_at (state_at machine state events n) q)))) [
        | inl s ↦ woken-here s
        | inr f ↦ elim (decided (process_there machine state first q i)) [
          | inl touched ↦ woken-there touched
          | inr g ↦ inr (f, g)
        ]
      ]
