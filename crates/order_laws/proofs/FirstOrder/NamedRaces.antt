-- A race of the first run names two conflicting accesses of a legal run, and a loop is there in the first run to its time.
use Rattle.std.proofs.Common.{◌≡◌, ℕ, zero, suc, ◌+◌, ◌<◌, List, [], ◌∷◌, ◌++◌, length, Bool, true, false, refl, sym, ap, subst, ◌∙◌, arith, filter}
use Rattle.std.specs.Prelude.{Option, Some, None, slice_get, nat_eq, find, cond}
use Rattle.std.proofs.lemmas.Bool.{eq-eqb, eqb-true}
use Rattle.vf_base.specs.Base.{ReportedPair}
use Rattle.vf_base.specs.Lists.{AllHold}
use Rattle.v_design.specs.Designs.{Machine}
use Rattle.v_design.specs.States.{State, start}
use Rattle.v_design.specs.Runs.{first_moves, FirstSlot, is_hyper, first_run}
use Rattle.v_design.specs.Logs.{LoggedPhase, PhaseAccess, log_accesses, conflict, or_pair, least_pair_from}
use Rattle.v_design.specs.PhaseLogs.{log_of, phase_race}
use Rattle.v_design.specs.Grades.{Phase, cut, phases, race_of, first_race, SlotOutcome, Fine, Race, Hyper, race_or_fine, slot_outcome, Stop, first_stop}
use Rattle.v_design.specs.WellFormed.{KeepsRules}
use Rattle.v_design.specs.Laws.{NamesConflict, IsHyperAt, run_moves}
use Rattle.order_laws.specs.EveryRun.{slots_by, ShowsRace, FirstRunsShowRaces}
use Rattle.order_laws.proofs.RunStates.{found_below}
use Rattle.order_laws.proofs.RunsEndAlike.{some_eq}
use Rattle.order_laws.proofs.FirstOrder.SlotChain.{Begins, slot_from, end_from, closes, slot_moves_may, ends_own}
use Rattle.order_laws.proofs.FirstOrder.FineSlots.{first_begins, race_on, outcome_by}
use Rattle.order_laws.proofs.FirstOrder.RunsUpTo.{stop_by}
use Rattle.order_laws.proofs.FirstOrder.Cuts.{race_turn}
use Rattle.order_laws.proofs.FirstOrder.FoundSlots.{Earlier, Reaches, found_slot, same_slot}

-- The pair

find-place : {A : Type 0} (test : A → Bool) (xs : List A) (x : A) → find test xs ≡ Some x → (n : ℕ) × (slice_get xs n ≡ Some x) × (test x ≡ true)
find-place test [] x e = cc
find-place {A} test (y ∷ xs) x e = go (test y) refl e (λ f. find-place test xs x f)
  where
    go : (b : Bool) → test y ≡ b → cond b (Some y) (find test xs) ≡ Some x → (find test xs ≡ Some x → (n : ℕ) × (slice_get xs n ≡ Some x) × (test x ≡ true)) →
        (n : ℕ) × (slice_get (y ∷ xs) n ≡ Some x) × (test x ≡ true)
    go true t f rest = (0, f, subst (λ z. test z ≡ true) (some_eq y x f) t)
    go false t f rest = let r = rest f in (suc r.0, r.1, r.2)

get-left : {A : Type 0} (xs ys : List A) (n : ℕ) (x : A) → slice_get xs n ≡ Some x → slice_get (xs ++ ys) n ≡ Some x
get-left [] ys n x e = cc
get-left (y ∷ xs) ys zero x e = e
get-left (y ∷ xs) ys (suc n) x e = get-left xs ys n x e

get-middle : {A : Type 0} (xs ys : List A) (x : A) → slice_get (xs ++ x ∷ ys) (length xs) ≡ Some x
get-middle [] ys x = refl
get-middle (y ∷ xs) ys x = get-middle xs ys x

append-one : {A : Type 0} (xs : List A) (x : A) (ys : List A) → (xs ++ x ∷ []) ++ ys ≡ xs ++ x ∷ ys
append-one [] x ys = refl
append-one (y ∷ xs) x ys = ap (λ rest. y ∷ rest) (append-one xs x ys)

-- the two places of a pair that conflicts
record Places (log : LoggedPhase) (accesses : List PhaseAccess) (pair : PhaseAccess × PhaseAccess) : Type 0 where
  earlier : ℕ
  later : ℕ
  in_order : earlier < later
  first_stands : slice_get accesses earlier ≡ Some pair.0
  second_stands : slice_get accesses later ≡ Some pair.1
  conflicts : conflict log pair.0 pair.1 ≡ true

places : (log : LoggedPhase) (earlier later : List PhaseAccess) (pair : PhaseAccess × PhaseAccess) → least_pair_from log earlier later ≡ Some pair → Places log (earlier ++ later) pair
places log earlier [] pair e = cc
places log earlier (second ∷ later) pair e =
    go (find (λ first. conflict log first second) earlier) refl e (λ f. places log (earlier ++ second ∷ []) later pair f)
  where
    go : (found : Option PhaseAccess) → find (λ first. conflict log first second) earlier ≡ found → or_pair found second (least_pair_from log (earlier ++ second ∷ []) later) ≡ Some pair →
        (least_pair_from log (earlier ++ second ∷ []) later ≡ Some pair → Places log ((earlier ++ second ∷ []) ++ later) pair) → Places log (earlier ++ second ∷ later) pair
    go None f g rest = subst (λ xs. Places log xs pair) (append-one earlier second later) (rest g)
    go (Some first) f g rest =
        let p = find-place (λ x. conflict log x second) earlier first f in
        subst (λ q. Places log (earlier ++ second ∷ later) q) (some_eq (first, second) pair g)
        (record {
          earlier = p.0;
          later = length earlier;
          in_order = found_below earlier p.0 first p.1;
          first_stands = get-left earlier (second ∷ later) p.0 first p.1;
          second_stands = get-middle earlier later second;
          conflicts = p.2;
        })

-- The phase

pub record RacedPhase (machine : Machine) (number : ℕ) (phases : List Phase) (pair : ReportedPair) : Type 0 where
  pub place : ℕ
  pub phase : Phase
  pub accesses : PhaseAccess × PhaseAccess
  pub stands : slice_get phases place ≡ Some phase
  pub races : phase_race machine phase.begins phase.events ≡ Some accesses
  pub is_pair : pair ≡ race_of phase.begins.time (number + place) accesses

pub raced-phase : (machine : Machine) (number : ℕ) (phases : List Phase) (pair : ReportedPair) → first_race machine number phases ≡ Some pair → RacedPhase machine number phases pair
raced-phase machine number [] pair e = cc
raced-phase machine number (phase ∷ rest) pair e = go (phase_race machine phase.begins phase.events) refl e (λ f. raced-phase machine (number + 1) rest pair f)
  where
    go : (found : Option (PhaseAccess × PhaseAccess)) → phase_race machine phase.begins phase.events ≡ found → race_on machine number phase rest found ≡ Some pair →
        (first_race machine (number + 1) rest ≡ Some pair → RacedPhase machine (number + 1) rest pair) → RacedPhase machine number (phase ∷ rest) pair
    go None f g next =
        let r = next g in
        let n : ℕ = r.place in
        record {
          place = suc r.place;
          phase = r.phase;
          accesses = r.accesses;
          stands = r.stands;
          races = r.races;
          is_pair = r.is_pair ∙ ap (λ k. race_of r.phase.begins.time k r.accesses) (let z : number + 1 + n ≡ number + suc n = omega arith in z);
        }
    go (Some accesses) f g next =
        record {
          place = 0;
          phase = phase;
          accesses = accesses;
          stands = refl;
          races = f;
          is_pair = sym (some_eq (race_of phase.begins.time number accesses) pair g) ∙ ap (λ k. race_of phase.begins.time k accesses) (let z : number ≡ number + 0 = omega arith in z);
        }

-- The phases of a time

abbrev at_time : ℕ → List Phase → List Phase
at_time time phases = filter (λ (phase : Phase). nat_eq phase.begins.time time) phases

drop-earlier : (time : ℕ) (earlier rest : List Phase) → Earlier time earlier → at_time time (earlier ++ rest) ≡ at_time time rest
drop-earlier time [] rest h = refl
drop-earlier time (phase ∷ earlier) rest h = go (nat_eq phase.begins.time time) refl (drop-earlier time earlier rest h.1)
  where
    go : (b : Bool) → nat_eq phase.begins.time time ≡ b → at_time time (earlier ++ rest) ≡ at_time time rest →
        cond b (phase ∷ at_time time (earlier ++ rest)) (at_time time (earlier ++ rest)) ≡ at_time time rest
    go true e r = let l : phase.begins.time < time = h.0 in let s : phase.begins.time ≡ time = eqb-true phase.begins.time time e in absurd (omega (arith, l, s))
    go false e r = r

keep-own : (time : ℕ) (phases : List Phase) → AllHold (λ (phase : Phase). phase.begins.time ≡ time) phases → at_time time phases ≡ phases
keep-own time [] h = refl
keep-own time (phase ∷ rest) h = go (nat_eq phase.begins.time time) (eq-eqb phase.begins.time time h.0) (keep-own time rest h.1)
  where
    go : (b : Bool) → b ≡ true → at_time time rest ≡ rest → cond b (phase ∷ at_time time rest) (at_time time rest) ≡ phase ∷ rest
    go true e r = ap (λ ps. phase ∷ ps) r
    go false e r = cc

pub all-at : {A : Type 0} (P : A → Type 0) (xs : List A) (n : ℕ) (x : A) → AllHold P xs → slice_get xs n ≡ Some x → P x
all-at P [] n x h e = cc
all-at P (y ∷ xs) zero x h e = subst P (some_eq y x e) h.0
all-at P (y ∷ xs) (suc n) x h e = all-at P xs n x h.1 e

-- The outcome of a slot

pub race-is : (machine : Machine) (slot : FirstSlot) (pair : ReportedPair) → slot_outcome machine slot ≡ Race pair → (is_hyper slot ≡ false) × (first_race machine 1 (phases machine slot) ≡ Some pair)
race-is machine slot pair e = go (is_hyper slot) refl e
  where
    raced : (found : Option ReportedPair) → race_or_fine found ≡ Race pair → found ≡ Some pair
    raced None f = cc
    raced (Some p) f = cc

    go : (hyper : Bool) → is_hyper slot ≡ hyper → outcome_by machine slot hyper ≡ Race pair → (is_hyper slot ≡ false) × (first_race machine 1 (phases machine slot) ≡ Some pair)
    go true h f = cc
    go false h f = (h, raced (first_race machine 1 (phases machine slot)) f)

-- the slot that a stop speaks of
pub record StoppedSlot (machine : Machine) (slots : List FirstSlot) (stop : Stop) : Type 0 where
  pub number : ℕ
  pub slot : FirstSlot
  pub stands : slice_get slots number ≡ Some slot
  pub same_time : slot.begins.time ≡ stop.time
  pub same_outcome : slot_outcome machine slot ≡ stop.outcome

pub stopped_slot : (machine : Machine) (slots : List FirstSlot) (stop : Stop) → first_stop machine slots ≡ Some stop → StoppedSlot machine slots stop
stopped_slot machine [] stop e = cc
stopped_slot machine (slot ∷ slots) stop e = go (slot_outcome machine slot) refl e (λ f. stopped_slot machine slots stop f)
  where
    go : (outcome : SlotOutcome) → slot_outcome machine slot ≡ outcome → stop_by machine slot slots outcome ≡ Some stop → (first_stop machine slots ≡ Some stop → StoppedSlot machine slots stop) →
        StoppedSlot machine (slot ∷ slots) stop
    go Fine f g rest = let r = rest g in record { number = suc r.number; slot = r.slot; stands = r.stands; same_time = r.same_time; same_outcome = r.same_outcome }
    go (Race pair) f g rest = record {
      number = 0;
      slot = slot;
      stands = refl;
      same_time = ap (λ (s : Stop). s.time) (some_eq (record { time = slot.begins.time; outcome = Race pair }) stop g);
      same_outcome = f ∙ ap (λ (s : Stop). s.outcome) (some_eq (record { time = slot.begins.time; outcome = Race pair }) stop g);
    }
    go Hyper f g rest = record {
      number = 0;
      slot = slot;
      stands = refl;
      same_time = ap (λ (s : Stop). s.time) (some_eq (record { time = slot.begins.time; outcome = Hyper }) stop g);
      same_outcome = f ∙ ap (λ (s : Stop). s.outcome) (some_eq (record { time = slot.begins.time; outcome = Hyper }) stop g);
    }

-- The laws

pub hyper_there : (machine : Machine) (end : ℕ) (stop : Stop) → KeepsRules machine.design → first_stop machine (first_run machine end) ≡ Some stop → stop.outcome ≡ Hyper → IsHyperAt machine stop.time
hyper_there machine end stop rules e h =
    let s = stopped_slot machine (first_run machine end) stop e in (
      s.number,
      s.slot,
      subst (λ t. slice_get (first_run machine t) s.number ≡ Some s.slot) s.same_time
          (same_slot machine end rules (end + 1) (s.slot.begins.time + 1) (start machine) (first_begins machine rules) s.number s.slot s.stands
          (let t : ℕ = s.slot.begins.time in let z : t < 0 + (t + 1) = omega arith in z)),
      s.same_time,
      s.same_outcome ∙ h,
    )

names-at : (machine : Machine) (begin : State) (pair : ReportedPair) → KeepsRules machine.design → Begins machine begin → Reaches machine (start machine) begin →
    slot_outcome machine (slot_from machine begin) ≡ Race pair → NamesConflict machine pair
names-at machine begin pair rules b r e =
    let o = race-is machine (slot_from machine begin) pair e in
    let c = closes machine begin rules b o.0 in
    let k = r.cuts None in
    let own : AllHold (λ (phase : Phase). phase.begins.time ≡ begin.time) (cut machine k.1 begin [] begin (first_moves machine begin)) =
    (slot_moves_may machine begin.time begin).phases k.1 begin [] refl in
    let f = raced-phase machine 1 (cut machine k.1 begin [] begin (first_moves machine begin)) pair (race_turn machine k.1 None 1 (first_moves machine begin) begin [] begin ∙ o.1) in
    let same : f.phase.begins.time ≡ begin.time = all-at _ (cut machine k.1 begin [] begin (first_moves machine begin)) f.place f.phase own f.stands in
    let p = places (log_of machine f.phase.begins f.phase.events) [] (log_accesses machine.design (log_of machine f.phase.begins f.phase.events)) f.accesses f.races in
    subst (λ q. NamesConflict machine q) (sym (f.is_pair ∙ ap (λ t. race_of t (1 + f.place) f.accesses) same))
    (record {
      moves = r.moves;
      final = end_from machine begin;
      legal = record { leads = r.leads; ends = ends_own machine begin c };
      number = f.place;
      phase = f.phase;
      phase_number = (let n : ℕ = f.place in let z : 1 + n ≡ n + 1 = omega arith in z);
      stands =
          ap (λ ps. slice_get ps f.place)
          (ap (at_time begin.time) k.3 ∙ drop-earlier begin.time k.0 (cut machine k.1 begin [] begin (first_moves machine begin)) k.2
          ∙ keep-own begin.time (cut machine k.1 begin [] begin (first_moves machine begin)) own)
          ∙ f.stands;
      earlier = p.earlier;
      later = p.later;
      in_order = p.in_order;
      first = f.accesses.0;
      second = f.accesses.1;
      first_stands = p.first_stands;
      second_stands = p.second_stands;
      conflicts = p.conflicts;
      named = refl;
    })

pub names_conflict : (machine : Machine) (end : ℕ) (stop : Stop) (pair : ReportedPair) → KeepsRules machine.design → first_stop machine (first_run machine end) ≡ Some stop →
    stop.outcome ≡ Race pair → NamesConflict machine pair
names_conflict machine end stop pair rules e h =
    let s = stopped_slot machine (first_run machine end) stop e in
    let f = found_slot machine end rules (end + 1) (start machine) (first_begins machine rules) s.number s.slot s.stands in
    names-at machine f.begin pair rules f.begins f.reach (ap (slot_outcome machine) (sym f.from) ∙ s.same_outcome ∙ h)

-- the first run shows its race

shows-at : (machine : Machine) (begin : State) (pair : ReportedPair) → KeepsRules machine.design → Begins machine begin → (r : Reaches machine (start machine) begin) →
    slot_outcome machine (slot_from machine begin) ≡ Race pair →
    (pair.time ≡ begin.time) × ShowsRace machine r.moves pair
shows-at machine begin pair rules b r e =
    let o = race-is machine (slot_from machine begin) pair e in
    let k = r.cuts None in
    let own : AllHold (λ (phase : Phase). phase.begins.time ≡ begin.time) (cut machine k.1 begin [] begin (first_moves machine begin)) =
    (slot_moves_may machine begin.time begin).phases k.1 begin [] refl in
    let f = raced-phase machine 1 (cut machine k.1 begin [] begin (first_moves machine begin)) pair (race_turn machine k.1 None 1 (first_moves machine begin) begin [] begin ∙ o.1) in
    let same : f.phase.begins.time ≡ begin.time = all-at _ (cut machine k.1 begin [] begin (first_moves machine begin)) f.place f.phase own f.stands in
    let is : pair ≡ race_of begin.time (1 + f.place) f.accesses = f.is_pair ∙ ap (λ t. race_of t (1 + f.place) f.accesses) same in (
      ap (λ (q : ReportedPair). q.time) is,
      subst (λ q. ShowsRace machine r.moves q) (sym is)
          (record {
            number = f.place;
            phase = f.phase;
            accesses = f.accesses;
            phase_number = (let n : ℕ = f.place in let z : 1 + n ≡ n + 1 = omega arith in z);
            stands =
                ap (λ ps. slice_get ps f.place)
                (ap (at_time begin.time) k.3 ∙ drop-earlier begin.time k.0 (cut machine k.1 begin [] begin (first_moves machine begin)) k.2
                ∙ keep-own begin.time (cut machine k.1 begin [] begin (first_moves machine begin)) own)
                ∙ f.stands;
            races = f.races;
            named = refl;
          }),
    )

pub first_runs_show_races : FirstRunsShowRaces
first_runs_show_races machine end stop pair rules e h =
    let s = stopped_slot machine (first_run machine end) stop e in
    let f = found_slot machine end rules (end + 1) (start machine) (first_begins machine rules) s.number s.slot s.stands in
    let r = shows-at machine f.begin pair rules f.begins f.reach (ap (slot_outcome machine) (sym f.from) ∙ s.same_outcome ∙ h) in
    subst (λ ms. ShowsRace machine ms pair) (f.reach.moves_are ∙ ap run_moves (sym f.front_is) ∙ ap (λ t. run_moves (slots_by t (first_run machine end))) (sym r.0)) r.1
