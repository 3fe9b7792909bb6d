-- How the arrangement by time follows the changes by process.
use Rattle.std.proofs.Common.{◌≡◌, ℕ, zero, suc, ◌+◌, ◌<◌, ◌≤◌, Bool, true, false, List, [], ◌∷◌, length, map, cond, Option, Some, None, refl, sym, ◌∙◌, ap, arith, nat_eq, nat_lt, nat_cmp, add-zero}
use Rattle.std.proofs.Common.{zero-add, subst}
use Rattle.std.specs.Option.{option_map}
use Rattle.std.specs.BTreeMap.{BTreeMap, get}
use Rattle.std.proofs.lemmas.Bool.{lt-ltb, le-ltb, eq-eqb, eqb-true}
use Rattle.vf_base.specs.Lists.{AllHold, change_at}
use Rattle.v_design.specs.Assignments.{ValueUpdate}
use Rattle.v_design.specs.States.{is_any}
use Rattle.vf_base.specs.declared.ids.ProcId.{ProcId}
use Rattle.vf_base.specs.Base.{process_number}
use Rattle.v_design.specs.declared.plan.Update.{Update}
use Rattle.event_queue.specs.declared.held.Holding.{Holding}
use Rattle.event_queue.specs.declared.held.Holding.TheVariants.{Free, Asleep, Postponed}
use Rattle.event_queue.specs.Queues.{HeldProcess, held_at, with_holding, is_postponed, number_if, numbers_where, lane_if, lanes_from}
use Rattle.event_queue.specs.Arranged.{process_of, processes_where, wakes_at, updates_at, lane_of, lane_number, listed_in, list_or_none, IsArranged, ListsAt, Ascends, process_before, with_process}
use Rattle.event_queue.proofs.Numbers.{AllHold-weaker, numbers_where-from, numbers_where-Ascends, numbers_where-below, lanes_from-numbers}

-- both cases of a condition
pub cond-either : {X : Type 0} (b : Bool) (x y z : X) → (b ≡ true → x ≡ z) → (b ≡ false → y ≡ z) → cond b x y ≡ z
cond-either true x y z f g = f refl
cond-either false x y z f g = g refl

-- the numbers of processes with some numbers
pub numbers-processes : (ns : List ℕ) → map process_number (map process_of ns) ≡ ns
numbers-processes [] = refl
numbers-processes (n ∷ ns) = ap (λ ms. n ∷ ms) (numbers-processes ns)

-- A process that is put before all
pub with_process-first : (p : ℕ) (ns : List ℕ) → AllHold (λ y. p + 1 ≤ y) ns → with_process (process_of p) (map process_of ns) ≡ process_of p ∷ map process_of ns
with_process-first p [] h = refl
with_process-first p (n ∷ ns) h =
    ap (λ b. process_before b (process_of p) (process_of n) (map process_of ns) (with_process (process_of p) (map process_of ns))) (le-ltb n p (omega (arith, h.0)))

-- a process that comes to pass a test is put among those that pass it
pub with_process-numbers_where : (test : HeldProcess → Bool) (change : HeldProcess → HeldProcess) (n k : ℕ) (xs : List HeldProcess) → k < length xs
    → test (held_at xs k) ≡ false → test (change (held_at xs k)) ≡ true
    → with_process (process_of (n + k)) (map process_of (numbers_where test n xs)) ≡ map process_of (numbers_where test n (change_at xs k change))
with_process-numbers_where test change n k [] less fails passes = absurd (omega arith)
with_process-numbers_where test change n zero (x ∷ xs) less fails passes =
    ap (λ b. with_process (process_of (n + 0)) (map process_of (number_if b n (numbers_where test (n + 1) xs)))) fails
    ∙ (ap (λ m. with_process (process_of m) (map process_of (numbers_where test (n + 1) xs))) (add-zero n)
    ∙ (with_process-first n (numbers_where test (n + 1) xs) (numbers_where-from test (n + 1) xs)
    ∙ ap (λ b. map process_of (number_if b n (numbers_where test (n + 1) xs))) (sym passes)))
with_process-numbers_where test change n (suc k) (x ∷ xs) less fails passes =
    let shift : n + suc k ≡ (n + 1) + k = omega arith in
    let rest : with_process (process_of (n + suc k)) (map process_of (numbers_where test (n + 1) xs)) ≡ map process_of (numbers_where test (n + 1) (change_at xs k change)) =
    ap (λ m. with_process (process_of m) (map process_of (numbers_where test (n + 1) xs))) shift
    ∙ with_process-numbers_where test change (n + 1) k xs (omega arith) fails passes in
    elim (test x) as (λ b. with_process (process_of (n + suc k)) (map process_of (number_if b n (numbers_where test (n + 1) xs)))
    ≡ map process_of (number_if b n (numbers_where test (n + 1) (change_at xs k change)))) [
      | true ↦
          ap (λ b. process_before b (process_of (n + suc k)) (process_of n) (map process_of (numbers_where test (n + 1) xs))
          (with_process (process_of (n + suc k)) (map process_of (numbers_where test (n + 1) xs))))
          (lt-ltb n (n + suc k) (omega arith))
          ∙ ap (λ ps. process_of n ∷ ps) rest
      | false ↦ rest
    ]

-- a change that a test doesn't see
pub numbers_where-change_at : (test : HeldProcess → Bool) (change : HeldProcess → HeldProcess) (n k : ℕ) (xs : List HeldProcess)
    → test (change (held_at xs k)) ≡ test (held_at xs k) → numbers_where test n (change_at xs k change) ≡ numbers_where test n xs
numbers_where-change_at test change n k [] same = refl
numbers_where-change_at test change n zero (x ∷ xs) same = ap (λ b. number_if b n (numbers_where test (n + 1) xs)) same
numbers_where-change_at test change n (suc k) (x ∷ xs) same = ap (number_if (test x) n) (numbers_where-change_at test change (n + 1) k xs same)

-- a change that leaves the updates
pub lanes_from-change_at : (lane : HeldProcess → List ValueUpdate) (change : HeldProcess → HeldProcess) (n k : ℕ) (xs : List HeldProcess)
    → lane (change (held_at xs k)) ≡ lane (held_at xs k) → lanes_from lane n (change_at xs k change) ≡ lanes_from lane n xs
lanes_from-change_at lane change n k [] same = refl
lanes_from-change_at lane change n zero (x ∷ xs) same = ap (λ us. lane_if n us (lanes_from lane (n + 1) xs)) same
lanes_from-change_at lane change n (suc k) (x ∷ xs) same = ap (lane_if n (lane x)) (lanes_from-change_at lane change (n + 1) k xs same)

-- a list is the one that a map has
pub list_or_none-listed_in : {A : Type 0} (xs : List A) → list_or_none (listed_in xs) ≡ xs
list_or_none-listed_in [] = refl
list_or_none-listed_in (x ∷ xs) = refl

-- a list with one more process isn't empty
pub listed_in-with_process : (p : ProcId) (xs : List ProcId) → listed_in (with_process p xs) ≡ Some (with_process p xs)
listed_in-with_process p [] = refl
listed_in-with_process p (x ∷ xs) =
    elim (nat_lt x.0 p.0) as (λ b. listed_in (process_before b p x xs (with_process p xs)) ≡ Some (process_before b p x xs (with_process p xs))) [ true ↦ refl | false ↦ refl ]

-- The lists of a time ascend

-- the processes that pass a test ascend
pub processes_where-Ascends : (test : Holding → Bool) (held : List HeldProcess) → Ascends (map process_number (processes_where test held))
processes_where-Ascends test held = subst Ascends (sym (numbers-processes _)) (numbers_where-Ascends (λ (h : HeldProcess). test h.holding) 0 held)

-- and are processes
pub processes_where-below : (test : Holding → Bool) (held : List HeldProcess) → AllHold (λ n. n < length held) (map process_number (processes_where test held))
processes_where-below test held =
    let Below : List ℕ → Type 0 = AllHold (λ n. n < length held) in
    subst Below (sym (numbers-processes _))
    (AllHold-weaker (λ y. y < 0 + length held) (λ y. y < length held) _ (λ y h. omega arith) (numbers_where-below (λ (h : HeldProcess). test h.holding) 0 held))

module _ (held : List HeldProcess) (postponed : List ProcId) (sleepers : BTreeMap ℕ (List ProcId)) (lanes : BTreeMap ℕ (List (ProcId × List Update))) where
  -- the sleepers of a time
  pub sleepers-list : IsArranged held postponed sleepers lanes → (t : ℕ) → list_or_none (get nat_cmp sleepers t) ≡ processes_where (wakes_at t) held
  sleepers-list a t = ap list_or_none (a.sleepers_are t) ∙ list_or_none-listed_in _

  -- they ascend
  pub sleepers-Ascends : IsArranged held postponed sleepers lanes → (t : ℕ) → Ascends (map process_number (list_or_none (get nat_cmp sleepers t)))
  sleepers-Ascends a t =
      let Up : List ProcId → Type 0 = λ ps. Ascends (map process_number ps) in
      subst Up (sym (sleepers-list a t)) (processes_where-Ascends (wakes_at t) held)

  -- so do the postponed
  pub postponed-Ascends : IsArranged held postponed sleepers lanes → Ascends (map process_number postponed)
  postponed-Ascends a =
      let Up : List ProcId → Type 0 = λ ps. Ascends (map process_number ps) in
      subst Up (sym a.postponed_are) (processes_where-Ascends is_postponed held)

-- the list of a map, seen by a function
pub list_or_none-map : {A B : Type 0} (f : A → B) (o : Option (List A)) → map f (list_or_none o) ≡ list_or_none (option_map (map f) o)
list_or_none-map f None = refl
list_or_none-map f (Some xs) = refl

-- the numbers of lanes
pub lane_number-lane_of : (lanes : List (ProcId × List Update)) → map lane_number lanes ≡ map (λ (l : ℕ × List ValueUpdate). l.0) (map lane_of lanes)
lane_number-lane_of [] = refl
lane_number-lane_of (l ∷ lanes) = ap (λ ns. lane_number l ∷ ns) (lane_number-lane_of lanes)

module _ (held : List HeldProcess) (postponed : List ProcId) (sleepers : BTreeMap ℕ (List ProcId)) (lanes : BTreeMap ℕ (List (ProcId × List Update))) where
  -- the lanes of a time
  pub lanes-list : IsArranged held postponed sleepers lanes → (t : ℕ) → map lane_of (list_or_none (get nat_cmp lanes t)) ≡ lanes_from (updates_at t) 0 held
  lanes-list a t = list_or_none-map lane_of (get nat_cmp lanes t) ∙ (ap list_or_none (a.lanes_are t) ∙ list_or_none-listed_in _)

  -- their numbers
  pub lanes-numbers : IsArranged held postponed sleepers lanes → (t : ℕ)
      → map lane_number (list_or_none (get nat_cmp lanes t)) ≡ numbers_where (λ h. is_any (updates_at t h)) 0 held
  lanes-numbers a t =
      lane_number-lane_of (list_or_none (get nat_cmp lanes t)) ∙ (ap (map (λ (l : ℕ × List ValueUpdate). l.0)) (lanes-list a t) ∙ lanes_from-numbers (updates_at t) 0 held)

  -- they ascend
  pub lanes-Ascends : IsArranged held postponed sleepers lanes → (t : ℕ) → Ascends (map lane_number (list_or_none (get nat_cmp lanes t)))
  lanes-Ascends a t = subst Ascends (sym (lanes-numbers a t)) (numbers_where-Ascends (λ h. is_any (updates_at t h)) 0 held)

-- Additions

module _ (held : List HeldProcess) (postponed : List ProcId) (sleepers : BTreeMap ℕ (List ProcId)) (lanes : BTreeMap ℕ (List (ProcId × List Update)))
    (p : ℕ) (less : p < length held) (free : (held_at held p).holding ≡ Free) (a : IsArranged held postponed sleepers lanes)
  where
    -- a process falls asleep
    pub arranged-asleep : (t : ℕ) (new : BTreeMap ℕ (List ProcId)) → ListsAt t (with_process (process_of p) (list_or_none (get nat_cmp sleepers t))) sleepers new
        → IsArranged (change_at held p (with_holding (Asleep t))) postponed new lanes
    arranged-asleep t new put = record {
      postponed_are =
          a.postponed_are ∙ ap (map process_of) (sym (numbers_where-change_at (λ (h : HeldProcess). is_postponed h.holding) (with_holding (Asleep t)) 0 p held (sym (ap is_postponed free))));
      sleepers_are = λ q.
          let change = with_holding (Asleep t) in
          let unchanged : nat_eq t q ≡ false → get nat_cmp sleepers q ≡ listed_in (processes_where (wakes_at q) (change_at held p change)) = λ e.
          a.sleepers_are q
          ∙ ap (λ ns. listed_in (map process_of ns)) (sym (numbers_where-change_at (λ (h : HeldProcess). wakes_at q h.holding) change 0 p held (e ∙ sym (ap (wakes_at q) free)))) in
          let put_in : nat_eq t q ≡ true → Some (with_process (process_of p) (list_or_none (get nat_cmp sleepers t))) ≡ listed_in (processes_where (wakes_at q) (change_at held p change)) = λ e.
          let same : t ≡ q = eqb-true t q e in
          let asleep : wakes_at t (Asleep t) ≡ true = eq-eqb t t refl in
          let there : with_process (process_of p) (list_or_none (get nat_cmp sleepers t)) ≡ processes_where (wakes_at t) (change_at held p change) =
          ap (with_process (process_of p)) (sleepers-list held postponed sleepers lanes a t)
          ∙ (ap (λ m. with_process (process_of m) (processes_where (wakes_at t) held)) (sym (zero-add p))
          ∙ with_process-numbers_where (λ (h : HeldProcess). wakes_at t h.holding) change 0 p held less (ap (wakes_at t) free) asleep) in
          let Goal : ℕ → Type 0 = λ s. Some (with_process (process_of p) (list_or_none (get nat_cmp sleepers t))) ≡ listed_in (processes_where (wakes_at s) (change_at held p change)) in
          subst Goal same (sym (listed_in-with_process (process_of p) (list_or_none (get nat_cmp sleepers t))) ∙ ap listed_in there) in
          put q ∙ cond-either (nat_eq t q) _ _ _ put_in unchanged;
      lanes_are = λ q. a.lanes_are q ∙ ap listed_in (sym (lanes_from-change_at (updates_at q) (with_holding (Asleep t)) 0 p held refl));
    }

    -- a process is postponed
    pub arranged-postponed : IsArranged (change_at held p (with_holding Postponed)) (with_process (process_of p) postponed) sleepers lanes
    arranged-postponed = record {
      postponed_are =
          ap (with_process (process_of p)) a.postponed_are
          ∙ (ap (λ m. with_process (process_of m) (processes_where is_postponed held)) (sym (zero-add p))
          ∙ with_process-numbers_where (λ (h : HeldProcess). is_postponed h.holding) (with_holding Postponed) 0 p held less (ap is_postponed free) refl);
      sleepers_are = λ q.
          a.sleepers_are q
          ∙ ap (λ ns. listed_in (map process_of ns)) (sym (numbers_where-change_at (λ (h : HeldProcess). wakes_at q h.holding) (with_holding Postponed) 0 p held (sym (ap (wakes_at q) free))));
      lanes_are = λ q. a.lanes_are q ∙ ap listed_in (sym (lanes_from-change_at (updates_at q) (with_holding Postponed) 0 p held refl));
    }
