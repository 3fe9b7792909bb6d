-- The process and lane steps of each legal run of a phase are those of the run without conflict, with the same accesses and orders.
use Rattle.std.proofs.Common.{◌≡◌, ℕ, zero, suc, ◌+◌, ◌<◌, ◌≤◌, List, [], ◌∷◌, ◌++◌, map, length, Bool, true, false, not, ◌&&◌, ◌||◌, refl, sym, ap, subst, ◌∙◌, ◌⊎◌, inl, inr, arith, le_trans, filter}
use Rattle.std.specs.Prelude.{Option, Some, None, slice_get, nat_eq, nat_lt, cond}
use Rattle.std.proofs.lemmas.Bool.{eqb-true, eq-eqb}
use Rattle.vf_base.specs.Lists.{has, joined}
use Rattle.v_design.specs.Designs.{FlatDesign, Machine}
use Rattle.v_design.specs.Assignments.{value_at}
use Rattle.v_design.specs.States.{State, Event, after, found_or, is_process_event}
use Rattle.v_design.specs.Runs.{happened}
use Rattle.v_design.specs.Paths.{paths, net_pieces, class_of_paths, Clean, is_wild_class}
use Rattle.v_design.specs.Accesses.{Settling, ObjectAccess, accesses_of}
use Rattle.v_design.specs.Logs.{LoggedPhase, change_of, phase_changes, is_write, counted_accesses, cause_at, causes_from, orders}
use Rattle.v_design.specs.PhaseLogs.{NotedEvent, note_of, noted_events, log_of, logged}
use Rattle.v_design.specs.Laws.{RunsBeside, StepsAlike, RunsProject, CleanNetsChangeOnce, same_event, place_if, places_of, steps_accesses, orders_if_there}
use Rattle.order_laws.proofs.PathLaws.{decided, true-false, reached}
use Rattle.order_laws.proofs.Notes.{new_notes, noted_events-new, length-new_notes}
use Rattle.order_laws.proofs.SwappedRuns.{length-map}
use Rattle.order_laws.proofs.QuietNets.{run_changes}
use Rattle.order_laws.proofs.CountedChanges.{changes_bounded}
use Rattle.order_laws.proofs.CleanNets.{phase_changes-run, clean_alike}
use Rattle.order_laws.proofs.RunStates.{noted, note_stands, accesses_before, cause_before, cause_at-place, cause_found, found_below}
use Rattle.order_laws.proofs.Runs.{IsRun}
use Rattle.order_laws.proofs.FreeRuns.{IsFree}
use Rattle.order_laws.proofs.Comparison.{on_event, CauseSame, Maps, step_there, steps_to, Compared}
use Rattle.order_laws.proofs.Meets.{steps_stay, same_step}
use Rattle.order_laws.proofs.RunsGoOn.{whole_compared}
use Rattle.order_laws.proofs.AllDone.{first_of-all, first_of-past-all, last-part, past-place, steps_done, reach_same, same_end}

-- Accesses that count, by what the changes reach

abbrev settling_of : FlatDesign → (ℕ → ℕ) → ObjectAccess → List ObjectAccess
settling_of design reach access =
    joined (map (λ changed. map (λ net. record { act = Settling; object = net; process = access.process; line = access.line })
    (filter (λ net. is_wild_class (class_of_paths (reach net)) && nat_lt 0 (paths design changed net)) (net_pieces design)))
    (change_of design access.act access.object))

abbrev counted_by : FlatDesign → (ℕ → ℕ) → List ObjectAccess → List ObjectAccess
counted_by design reach accesses =
    filter (λ (access : ObjectAccess). not (is_write access.act && (has (net_pieces design) access.object && is_wild_class (class_of_paths (reach access.object))))) accesses
    ++ joined (map (settling_of design reach) accesses)

pub counted-same : (design : FlatDesign) (one other : List ℕ) (accesses : List ObjectAccess) → ((net : ℕ) → reached design one net ≡ reached design other net) →
    counted_accesses design one accesses ≡ counted_accesses design other accesses
counted-same design one other accesses h = λ i. counted_by design (λ net. h net i) accesses

-- Steps by their places

mapped_or : {A B : Type 0} → B → (A → B) → Option A → B
mapped_or b f None = b
mapped_or b f (Some x) = f x

places-notes : {B : Type 0} (event : Event) (start : ℕ) (notes : List NotedEvent) (g : NotedEvent → B) (f : ℕ → B) → ((k : ℕ) (x : NotedEvent) → slice_get notes k ≡ Some x → f (start + k) ≡ g x) →
    map g (filter (λ (n : NotedEvent). same_event event n.event) notes) ≡ map f (places_of event start (map (λ (n : NotedEvent). n.event) notes))
places-notes event start [] g f h = refl
places-notes event start (x ∷ notes) g f h =
    go (same_event event x.event) (places-notes event (start + 1) notes g f (λ k y e. ap f (let z : start + 1 + k ≡ start + suc k = omega arith in z) ∙ h (suc k) y e))
  where
    go : (b : Bool) → map g (filter (λ (n : NotedEvent). same_event event n.event) notes) ≡ map f (places_of event (start + 1) (map (λ (n : NotedEvent). n.event) notes)) →
        map g (cond b (x ∷ filter (λ (n : NotedEvent). same_event event n.event) notes) (filter (λ (n : NotedEvent). same_event event n.event) notes))
        ≡ map f (place_if b start (places_of event (start + 1) (map (λ (n : NotedEvent). n.event) notes)))
    go true rest = λ i. (sym (h 0 x refl) ∙ ap f (let z : start + 0 ≡ start = omega arith in z)) i ∷ rest i
    go false rest = rest

events-of-notes : (machine : Machine) (earlier : List NotedEvent) (state : State) (events : List Event) → map (λ (n : NotedEvent). n.event) (new_notes machine earlier state events) ≡ events
events-of-notes machine earlier state [] = refl
events-of-notes machine earlier state (event ∷ events) =
    ap (λ es. event ∷ es) (events-of-notes machine (earlier ++ note_of machine earlier state event ∷ []) (after machine state event) events)

-- what counts of the event at a place
counted_there : Machine → List ℕ → Option NotedEvent → List ObjectAccess
unfolding mapped_or
counted_there machine changes found = mapped_or [] (λ (n : NotedEvent). counted_accesses machine.design changes (accesses_of machine n.process n.line n.before n.event)) found

counted_some : (machine : Machine) (changes : List ℕ) (found : Option NotedEvent) (n : NotedEvent) → found ≡ Some n →
    counted_there machine changes found ≡ counted_accesses machine.design changes (accesses_of machine n.process n.line n.before n.event)
unfolding counted_there mapped_or
counted_some machine changes found n e = ap (mapped_or [] (λ (n : NotedEvent). counted_accesses machine.design changes (accesses_of machine n.process n.line n.before n.event))) e

steps-by-place : (machine : Machine) (state : State) (events : List Event) (event : Event) →
    steps_accesses machine state events event
    ≡ map (λ k. counted_there machine (phase_changes machine.design (log_of machine state events)) (slice_get (new_notes machine [] state events) k)) (places_of event 0 events)
steps-by-place machine state events event =
    ap (λ ns. map (λ (n : NotedEvent). counted_accesses machine.design (phase_changes machine.design (log_of machine state events)) (accesses_of machine n.process n.line n.before n.event))
    (filter (λ (n : NotedEvent). same_event event n.event) ns))
    (noted_events-new machine state events)
    ∙ places-notes event 0 (new_notes machine [] state events)
    (λ (n : NotedEvent). counted_accesses machine.design (phase_changes machine.design (log_of machine state events)) (accesses_of machine n.process n.line n.before n.event))
    (λ k. counted_there machine (phase_changes machine.design (log_of machine state events)) (slice_get (new_notes machine [] state events) k))
    (λ k x e. counted_some machine (phase_changes machine.design (log_of machine state events)) _ x (ap (slice_get (new_notes machine [] state events)) (let z : 0 + k ≡ k = omega arith in z) ∙ e))
    ∙ ap (λ es. map (λ k. counted_there machine (phase_changes machine.design (log_of machine state events)) (slice_get (new_notes machine [] state events) k)) (places_of event 0 es))
    (events-of-notes machine [] state events)

maps-same : {B : Type 0} (matched : ℕ → Option ℕ) (f g : ℕ → B) (js is : List ℕ) → Maps matched js is → ((j i : ℕ) → matched j ≡ Some i → f j ≡ g i) → map f js ≡ map g is
maps-same matched f g [] [] m h = refl
maps-same matched f g [] (i ∷ is) m h = absurd m
maps-same matched f g (j ∷ js) [] m h = absurd m
maps-same matched f g (j ∷ js) (i ∷ is) m h = λ k. h j i m.0 k ∷ maps-same matched f g js is m.1 h k

abbrev BothThere : (ℕ → Option ℕ) → Option ℕ → Option ℕ → Type 0
BothThere matched one other = ((one ≡ None) × (other ≡ None)) ⊎ ((j : ℕ) × (i : ℕ) × (one ≡ Some j) × (other ≡ Some i) × (matched j ≡ Some i))

maps-get : (matched : ℕ → Option ℕ) (js is : List ℕ) → Maps matched js is → (m : ℕ) → BothThere matched (slice_get js m) (slice_get is m)
maps-get matched [] [] h m = inl (refl, refl)
maps-get matched [] (i ∷ is) h m = absurd h
maps-get matched (j ∷ js) [] h m = absurd h
maps-get matched (j ∷ js) (i ∷ is) h zero = inr (j, i, refl, refl, h.0)
maps-get matched (j ∷ js) (i ∷ is) h (suc m) = maps-get matched js is h.1 m

nothing_caused : (depth : ℕ) (log : LoggedPhase) (x : ℕ) → has (causes_from depth log None) x ≡ false
nothing_caused zero log x = refl
nothing_caused (suc depth) log x = refl

-- Two runs

module _ (machine : Machine) (state : State) (first events : List Event) (beside : RunsBeside machine state first events) where
  run : IsRun machine state events
  run = record { rules = beside.rules; begins = beside.begins; possible = beside.legal.each_possible }

  free : IsFree machine state first
  free = record {
    run = record { rules = beside.rules; begins = beside.begins; possible = beside.first_legal.each_possible };
    free = beside.no_conflict;
    ends = beside.first_legal.ends;
  }

  pub whole : (matched : ℕ → Option ℕ) × (done : List ℕ) × Compared machine state first events (length events) matched done
  whole = whole_compared machine state first events free run

  matched : ℕ → Option ℕ
  matched = whole.0

  c : Compared machine state first events (length events) whole.0 whole.1
  c = whole.2

  pub end_same : happened machine state events ≡ happened machine state first
  end_same = same_end machine state first events whole.0 whole.1 free run beside.legal.ends whole.2

  pub reaches_same : (net : ℕ) → reached machine.design (phase_changes machine.design (log_of machine state events)) net ≡ reached machine.design
      (phase_changes machine.design (log_of machine state first)) net
  reaches_same net =
      ap (λ cs. reached machine.design cs net) (phase_changes-run machine state events)
      ∙ reach_same machine state first events whole.0 whole.1 free run beside.legal.ends whole.2 net
      ∙ ap (λ cs. reached machine.design cs net) (sym (phase_changes-run machine state first))

  -- the places of the steps stand for one another
  places_alike : (event : Event) → is_process_event event ≡ true → Maps whole.0 (places_of event 0 events) (places_of event 0 first)
  places_alike event h =
      let x = whole.2.histories event h in
      subst (λ is. Maps whole.0 (places_of event 0 events) is)
      (x.cell.same
      ∙ last-part (step_there first event) (steps_to first event) (length first) x.cell.place (steps_stay first event)
      (λ k le. ap (places_of event 0) (first_of-past-all first k le ∙ sym (first_of-all first)))
      (past-place machine state first events whole.0 whole.1 free run beside.legal.ends whole.2 (step_there first event) (steps_to first event) x.steps x.cell
      (λ k t. told k (slice_get first k) refl t))
      ∙ ap (places_of event 0) (first_of-all first))
      (subst (λ es. Maps whole.0 (places_of event 0 es) x.steps) (first_of-all events) x.maps)
    where
      told : (k : ℕ) (found : Option Event) → slice_get first k ≡ found → on_event (same_event event) found ≡ true → has whole.1 k ≡ true
      told k None e t = cc
      told k (Some other) e t =
          steps_done machine state first events whole.0 whole.1 free run beside.legal.ends whole.2 k other e (ap is_process_event (same_step event other t) ∙ h)

  accesses-alike : (j i : ℕ) → whole.0 j ≡ Some i →
      counted_there machine (phase_changes machine.design (log_of machine state events)) (slice_get (new_notes machine [] state events) j)
      ≡ counted_there machine (phase_changes machine.design (log_of machine state first)) (slice_get (new_notes machine [] state first) i)
  accesses-alike j i e =
      let p = whole.2.pairs j i e in
      counted_some machine (phase_changes machine.design (log_of machine state events)) _ (noted machine state events j p.event) (note_stands machine state events j p.event p.stands)
      ∙ counted-same machine.design (phase_changes machine.design (log_of machine state events)) (phase_changes machine.design (log_of machine state first))
      (accesses_before machine state events j p.event) reaches_same
      ∙ ap (counted_accesses machine.design (phase_changes machine.design (log_of machine state first))) p.accesses
      ∙ sym (counted_some machine (phase_changes machine.design (log_of machine state first)) _ (noted machine state first i p.event) (note_stands machine state first i p.event p.first_stands))

  -- Orders

  number-same : (j i l k : ℕ) → whole.0 j ≡ Some i → whole.0 l ≡ Some k → nat_eq j l ≡ nat_eq i k
  number-same j i l k e f = elim (decided (nat_eq j l)) [
    | inl same ↦ same ∙ sym (eq-eqb i k (some_eq i k (sym e ∙ ap whole.0 (eqb-true j l same) ∙ f)))
    | inr apart ↦ elim (decided (nat_eq i k)) [
      | inl same ↦ true-false (nat_eq j l) (eq-eqb j l (whole.2.single j l i e (f ∙ ap Some (sym (eqb-true i k same))))) apart
      | inr other ↦ apart ∙ sym other
    ]
  ]
    where
      some_eq : (x y : ℕ) → Some x ≡ Some y → x ≡ y
      some_eq x y h = ap (found_or x) h

  -- the causes of two events that stand for one another
  causes-here : (l k : ℕ) → whole.0 l ≡ Some k →
      CauseSame whole.0 (cause_at (log_of machine state events) l) (cause_at (log_of machine state first) k)
      × ((d : ℕ) → cause_at (log_of machine state events) l ≡ Some d → d < l) × ((d : ℕ) → cause_at (log_of machine state first) k ≡ Some d → d < k)
  causes-here l k e =
      let p = whole.2.pairs l k e in
      let a = cause_at-place machine state events l p.event p.stands in
      let b = cause_at-place machine state first k p.event p.first_stands in (
        subst (λ x. CauseSame whole.0 x (cause_at (log_of machine state first) k)) (sym a) (subst (λ x. CauseSame whole.0 (cause_before machine state events l p.event) x) (sym b) p.cause),
        λ d h. (cause_found machine state events l p.event d (sym a ∙ h)).earlier,
        λ d h. (cause_found machine state first k p.event d (sym b ∙ h)).earlier,
      )

  chains : (j i : ℕ) → whole.0 j ≡ Some i → (f g l k : ℕ) → whole.0 l ≡ Some k → l ≤ f → k ≤ g →
      has (causes_from f (log_of machine state events) (Some l)) j ≡ has (causes_from g (log_of machine state first) (Some k)) i
  chains j i e zero zero l k m a b = ap (λ x. x || false) (number-same l k j i m e)
  chains j i e zero (suc g) l k m a b =
      let x = causes-here l k m in
      (λ y. number-same l k j i m e y || none x.0 y)
    where
      none : CauseSame whole.0 (cause_at (log_of machine state events) l) (cause_at (log_of machine state first) k) →
          false ≡ has (causes_from g (log_of machine state first) (cause_at (log_of machine state first) k)) i
      none (inl n) = sym (ap (λ o. has (causes_from g (log_of machine state first) o) i) n.1 ∙ nothing_caused g (log_of machine state first) i)
      none (inr s) = let z : s.0 < l = (causes-here l k m).1 s.0 s.2 in absurd (omega (arith, z, a))
  chains j i e (suc f) zero l k m a b =
      let x = causes-here l k m in
      (λ y. number-same l k j i m e y || none x.0 y)
    where
      none : CauseSame whole.0 (cause_at (log_of machine state events) l) (cause_at (log_of machine state first) k) →
          has (causes_from f (log_of machine state events) (cause_at (log_of machine state events) l)) j ≡ false
      none (inl n) = ap (λ o. has (causes_from f (log_of machine state events) o) j) n.0 ∙ nothing_caused f (log_of machine state events) j
      none (inr s) = let z : s.1 < k = (causes-here l k m).2 s.1 s.3 in absurd (omega (arith, z, b))
  chains j i e (suc f) (suc g) l k m a b =
      (λ y. number-same l k j i m e y || rest (causes-here l k m).0 (λ l' k' m' a' b'. chains j i e f g l' k' m' a' b') y)
    where
      rest : CauseSame whole.0 (cause_at (log_of machine state events) l) (cause_at (log_of machine state first) k) →
          ((l' k' : ℕ) → whole.0 l' ≡ Some k' → l' ≤ f → k' ≤ g → has (causes_from f (log_of machine state events) (Some l')) j ≡ has (causes_from g (log_of machine state first) (Some k')) i) →
          has (causes_from f (log_of machine state events) (cause_at (log_of machine state events) l)) j ≡ has (causes_from g (log_of machine state first) (cause_at (log_of machine state first) k)) i
      rest (inl n) deeper =
          ap (λ o. has (causes_from f (log_of machine state events) o) j) n.0 ∙ nothing_caused f (log_of machine state events) j
          ∙ sym (ap (λ o. has (causes_from g (log_of machine state first) o) i) n.1 ∙ nothing_caused g (log_of machine state first) i)
      rest (inr s) deeper =
          let y : s.0 < l = (causes-here l k m).1 s.0 s.2 in
          let z : s.1 < k = (causes-here l k m).2 s.1 s.3 in
          ap (λ o. has (causes_from f (log_of machine state events) o) j) s.2 ∙ deeper s.0 s.1 s.4 (omega (arith, y, a)) (omega (arith, z, b))
          ∙ sym (ap (λ o. has (causes_from g (log_of machine state first) o) i) s.3)

  log-length : (es : List Event) → length (log_of machine state es).events ≡ length es
  log-length es = length-map (logged machine) (noted_events machine state es) ∙ ap (λ ns. length ns) (noted_events-new machine state es) ∙ length-new_notes machine [] state es

  pub orders-alike : (j i l k : ℕ) → whole.0 j ≡ Some i → whole.0 l ≡ Some k → orders (log_of machine state events) j l ≡ orders (log_of machine state first) i k
  orders-alike j i l k e f =
      let p = whole.2.pairs l k f in
      let a : l < length events = found_below events l p.event p.stands in
      let b : k < length first = found_below first k p.event p.first_stands in
      let x : length (log_of machine state events).events ≡ length events = log-length events in
      let y : length (log_of machine state first).events ≡ length first = log-length first in
      chains j i e (length (log_of machine state events).events) (length (log_of machine state first).events) l k f (omega (arith, a, x)) (omega (arith, b, y))

  there-alike : (one one' other other' : Option ℕ) → BothThere whole.0 one one' → BothThere whole.0 other other' →
      orders_if_there (log_of machine state events) one other ≡ orders_if_there (log_of machine state first) one' other'
  there-alike one one' other other' (inl n) y = (λ i. orders_if_there (log_of machine state events) (n.0 i) other) ∙ sym (λ i. orders_if_there (log_of machine state first) (n.1 i) other')
  there-alike one one' other other' (inr s) (inl n) = (λ i. orders_if_there (log_of machine state events) (s.2 i) (n.0 i)) ∙ sym (λ i. orders_if_there (log_of machine state first) (s.3 i) (n.1 i))
  there-alike one one' other other' (inr s) (inr t) =
      (λ i. orders_if_there (log_of machine state events) (s.2 i) (t.2 i)) ∙ orders-alike s.0 s.1 t.0 t.1 s.4 t.4 ∙ sym (λ i. orders_if_there (log_of machine state first) (s.3 i) (t.3 i))

  pub steps_alike : StepsAlike machine state first events
  steps_alike = record {
    accesses = λ event h.
        steps-by-place machine state events event
        ∙ maps-same whole.0 (λ k. counted_there machine (phase_changes machine.design (log_of machine state events)) (slice_get (new_notes machine [] state events) k))
        (λ k. counted_there machine (phase_changes machine.design (log_of machine state first)) (slice_get (new_notes machine [] state first) k)) (places_of event 0 events) (places_of event 0 first)
        (places_alike event h) accesses-alike
        ∙ sym (steps-by-place machine state first event);
    same_orders = λ one other m n h k.
        there-alike (slice_get (places_of one 0 events) m) (slice_get (places_of one 0 first) m) (slice_get (places_of other 0 events) n) (slice_get (places_of other 0 first) n)
        (maps-get whole.0 (places_of one 0 events) (places_of one 0 first) (places_alike one h) m) (maps-get whole.0 (places_of other 0 events) (places_of other 0 first) (places_alike other k) n);
    same_end = end_same;
  }

-- The laws

pub runs_project : RunsProject
runs_project machine state first events beside = steps_alike machine state first events beside

one_of-clean : (n : ℕ) → class_of_paths n ≡ Clean → n ≡ 1
one_of-clean zero e = cc
one_of-clean (suc zero) e = refl
one_of-clean (suc (suc n)) e = cc

pub clean_nets_change_once : CleanNetsChangeOnce
clean_nets_change_once machine state first events net beside e =
    let one : reached machine.design (phase_changes machine.design (log_of machine state first)) net ≡ 1 =
    one_of-clean (reached machine.design (phase_changes machine.design (log_of machine state first)) net) e in
    let f : reached machine.design (run_changes machine state first) net ≡ 1 = ap (λ cs. reached machine.design cs net) (sym (phase_changes-run machine state first)) ∙ one in
    let g : reached machine.design (run_changes machine state events) net ≡ 1 =
    ap (λ cs. reached machine.design cs net) (sym (phase_changes-run machine state events)) ∙ reaches_same machine state first events beside net ∙ one in
    record {
      alike = clean_alike machine state first events net beside.rules beside.begins beside.first_legal.each_possible beside.legal.each_possible (omega (arith, f)) (omega (arith, g))
          (ap (λ s. value_at s.values net) (end_same machine state first events beside));
      at_most_once = le_trans (changes_bounded machine state first net beside.rules beside.begins beside.first_legal.each_possible) (omega (arith, f));
    }
