-- What is left where a process is taken out of what is arranged by time.
use Rattle.std.proofs.Common.{◌≡◌, ◌≢◌, ℕ, zero, suc, ◌+◌, ◌<◌, ◌≤◌, Bool, true, false, not, ◌||◌, List, [], ◌∷◌}
use Rattle.std.proofs.Common.{◌++◌, length, map, filter, cond, get_or, Option, Some, None, refl, sym, ◌∙◌, ap, arith, nat_eq}
use Rattle.std.proofs.Common.{nat_cmp, add-zero, zero-add, subst}
use Rattle.std.specs.Option.{option_map}
use Rattle.std.specs.List.{remove}
use Rattle.std.specs.BTreeMap.{BTreeMap, get}
use Rattle.std.proofs.lemmas.Bool.{ltb-true, ltb-false, ne_eqb, eq-eqb, eqb-true, true≢false}
use Rattle.vf_base.specs.Lists.{AllHold, change_at}
use Rattle.vf_base.specs.declared.ids.ProcId.{ProcId}
use Rattle.v_design.specs.Assignments.{ValueUpdate}
use Rattle.v_design.specs.States.{LaterUpdate, some_in, is_any}
use Rattle.v_design.specs.declared.plan.Update.{Update}
use Rattle.event_queue.specs.declared.held.Holding.{Holding}
use Rattle.event_queue.specs.declared.held.Holding.TheVariants.{Free, Asleep, Postponed}
use Rattle.event_queue.specs.Queues.{HeldProcess, held_at, nothing_held, with_holding, with_updates, is_postponed, number_if, numbers_where, lane_if, lanes_from}
use Rattle.event_queue.specs.Arranged.{process_of, processes_where, wakes_at, is_at, updates_at, lane_of, lane_number, listed_in, list_or_none, IsArranged, Ascends}
use Rattle.event_queue.specs.Arranged.{IsPlaceOf, without_process, without_lane, ChangesAt, RemovesAt, RemovesLanes}
use Rattle.event_queue.specs.ChangeLaws.{change-none}
use Rattle.event_queue.proofs.Views.{map-filter}
use Rattle.event_queue.proofs.Numbers.{AllHold-weaker, numbers_where-from, lanes_from-numbers}
use Rattle.event_queue.proofs.Arrangements.{cond-either, numbers_where-change_at, lanes_from-change_at, list_or_none-listed_in, sleepers-list, lanes-list}

-- The elements with other numbers

-- the elements of a list but for those with a number
abbrev pub others : {A : Type 0} → (A → ℕ) → ℕ → List A → List A
others f p xs = filter (λ x. not (nat_eq (f x) p)) xs

-- the first is another
others-kept : {A : Type 0} (f : A → ℕ) (p : ℕ) (x : A) (xs : List A) → nat_eq (f x) p ≡ false → others f p (x ∷ xs) ≡ x ∷ others f p xs
others-kept f p x xs e = ap (λ b. cond (not b) (x ∷ others f p xs) (others f p xs)) e

-- or it isn't
others-less : {A : Type 0} (f : A → ℕ) (p : ℕ) (x : A) (xs : List A) → nat_eq (f x) p ≡ true → others f p (x ∷ xs) ≡ others f p xs
others-less f p x xs e = ap (λ b. cond (not b) (x ∷ others f p xs) (others f p xs)) e

-- a fact of the images is one of the elements
AllHold-images : {A B : Type 0} (P : B → Type 0) (f : A → B) (xs : List A) → AllHold P (map f xs) → AllHold (λ x. P (f x)) xs
AllHold-images P f [] h = tt
AllHold-images P f (x ∷ xs) h = (h.0, AllHold-images P f xs h.1)

-- elements with greater numbers all stay
others-above : {A : Type 0} (f : A → ℕ) (p : ℕ) (xs : List A) → AllHold (λ x. p < f x) xs → xs ≡ others f p xs
others-above f p [] h = refl
others-above f p (x ∷ xs) h = ap (λ ys. x ∷ ys) (others-above f p xs h.1) ∙ sym (others-kept f p x xs (ne_eqb (f x) p (λ e. absurd (omega (arith, h.0, e)))))

-- so do those behind one that isn't below
others-behind : {A : Type 0} (f : A → ℕ) (p : ℕ) (x : A) (xs : List A) → p ≤ f x → AllHold (λ y. f x < y) (map f xs) → xs ≡ others f p xs
others-behind f p x xs le h = others-above f p xs (AllHold-images (λ y. p < y) f xs (AllHold-weaker (λ y. f x < y) (λ y. p < y) (map f xs) (λ y k. omega (arith, k, le)) h))

place-rest : {A : Type 0} (f : A → ℕ) (p : ℕ) (x : A) (xs : List A) (place : ℕ) → IsPlaceOf f p (x ∷ xs) (suc place) → IsPlaceOf f p xs place
place-rest f p x xs place at = ((λ k d low high. at.0 (suc k) d (omega arith) (omega arith)), (λ k d low high. at.1 (suc k) d (omega arith) (omega arith)))

-- the element at the place is taken out
pub remove-others : {A : Type 0} (f : A → ℕ) (p : ℕ) (xs : List A) (place : ℕ) (d : A) → Ascends (map f xs) → IsPlaceOf f p xs place → place < length xs →
    f (get_or xs place d) ≡ p → remove xs place ≡ others f p xs
remove-others f p [] place d up at less same = absurd (omega (arith, less))
remove-others f p (x ∷ xs) zero d up at less same = others-behind f p x xs (omega (arith, same)) up.0 ∙ sym (others-less f p x xs (eq-eqb (f x) p same))
remove-others f p (x ∷ xs) (suc place) d up at less same =
    let below : f x < p = ltb-true _ _ (at.0 0 x (omega arith) (omega arith)) in
    ap (λ ys. x ∷ ys) (remove-others f p xs place d up.1 (place-rest f p x xs place at) (omega (arith, less)) same)
    ∙ sym (others-kept f p x xs (ne_eqb (f x) p (λ e. absurd (omega (arith, below, e)))))

-- there is none
pub all-others : {A : Type 0} (f : A → ℕ) (p : ℕ) (xs : List A) (place : ℕ) → Ascends (map f xs) → IsPlaceOf f p xs place →
    ((d : A) → place < length xs → f (get_or xs place d) ≢ p) → xs ≡ others f p xs
all-others f p [] place up at other = refl
all-others f p (x ∷ xs) zero up at other =
    let from : p ≤ f x = ltb-false _ _ (at.1 0 x (omega arith) (omega arith)) in
    ap (λ ys. x ∷ ys) (others-behind f p x xs from up.0) ∙ sym (others-kept f p x xs (ne_eqb (f x) p (other x (omega arith))))
all-others f p (x ∷ xs) (suc place) up at other =
    let below : f x < p = ltb-true _ _ (at.0 0 x (omega arith) (omega arith)) in
    ap (λ ys. x ∷ ys) (all-others f p xs place up.1 (place-rest f p x xs place at) (λ d less. other d (omega (arith, less))))
    ∙ sym (others-kept f p x xs (ne_eqb (f x) p (λ e. absurd (omega (arith, below, e)))))

-- what is left ascends
AllHold-others : {A : Type 0} (P : ℕ → Type 0) (f : A → ℕ) (p : ℕ) (xs : List A) → AllHold P (map f xs) → AllHold P (map f (others f p xs))
AllHold-others P f p [] h = tt
AllHold-others P f p (x ∷ xs) h =
    let rest = AllHold-others P f p xs h.1 in
    elim (nat_eq (f x) p) as (λ b. AllHold P (map f (cond (not b) (x ∷ others f p xs) (others f p xs)))) [ true ↦ rest | false ↦ (h.0, rest) ]

Ascends-others : {A : Type 0} (f : A → ℕ) (p : ℕ) (xs : List A) → Ascends (map f xs) → Ascends (map f (others f p xs))
Ascends-others f p [] up = tt
Ascends-others f p (x ∷ xs) up =
    let rest = Ascends-others f p xs up.1 in
    let above = AllHold-others (λ y. f x < y) f p xs up.0 in
    elim (nat_eq (f x) p) as (λ b. Ascends (map f (cond (not b) (x ∷ others f p xs) (others f p xs)))) [ true ↦ rest | false ↦ (above, rest) ]

-- and loses nothing where it is done again
others-twice : {A : Type 0} (f : A → ℕ) (p : ℕ) (xs : List A) → others f p (others f p xs) ≡ others f p xs
others-twice f p [] = refl
others-twice f p (x ∷ xs) = by_test (nat_eq (f x) p) refl (others-twice f p xs)
  where
    by_test : (b : Bool) → nat_eq (f x) p ≡ b → others f p (others f p xs) ≡ others f p xs
        → others f p (cond (not b) (x ∷ others f p xs) (others f p xs)) ≡ cond (not b) (x ∷ others f p xs) (others f p xs)
    by_test true e rest = rest
    by_test false e rest = others-kept f p x (others f p xs) e ∙ ap (λ ys. x ∷ ys) rest

-- What is arranged by time

-- a process that comes to fail a test is no more among those that pass it
numbers_where-others : (test : HeldProcess → Bool) (change : HeldProcess → HeldProcess) (n k : ℕ) (xs : List HeldProcess) → test (change (held_at xs k)) ≡ false →
    others (λ (m : ℕ). m) (n + k) (numbers_where test n xs) ≡ numbers_where test n (change_at xs k change)
numbers_where-others test change n k [] fails = refl
numbers_where-others test change n zero (x ∷ xs) fails =
    let rest = numbers_where test (n + 1) xs in
    let stay : rest ≡ others (λ (m : ℕ). m) n rest =
    others-above (λ (m : ℕ). m) n rest (AllHold-weaker (λ y. n + 1 ≤ y) (λ y. n < y) rest (λ y h. omega (arith, h)) (numbers_where-from test (n + 1) xs)) in
    let here : others (λ (m : ℕ). m) n (number_if (test x) n rest) ≡ rest =
    elim (test x) as (λ b. others (λ (m : ℕ). m) n (number_if b n rest) ≡ rest) [ true ↦ others-less (λ (m : ℕ). m) n n rest (eq-eqb n n refl) ∙ sym stay | false ↦ sym stay ] in
    ap (λ m. others (λ (m : ℕ). m) m (number_if (test x) n rest)) (add-zero n) ∙ (here ∙ ap (λ b. number_if b n rest) (sym fails))
numbers_where-others test change n (suc k) (x ∷ xs) fails =
    let shift : n + suc k ≡ (n + 1) + k = omega arith in
    let rest : others (λ (m : ℕ). m) (n + suc k) (numbers_where test (n + 1) xs) ≡ numbers_where test (n + 1) (change_at xs k change) =
    ap (λ m. others (λ (m : ℕ). m) m (numbers_where test (n + 1) xs)) shift ∙ numbers_where-others test change (n + 1) k xs fails in
    elim (test x) as (λ b. others (λ (m : ℕ). m) (n + suc k) (number_if b n (numbers_where test (n + 1) xs)) ≡ number_if b n (numbers_where test (n + 1) (change_at xs k change))) [
      | true ↦ others-kept (λ (m : ℕ). m) (n + suc k) n (numbers_where test (n + 1) xs) (ne_eqb n (n + suc k) (λ e. absurd (omega (arith, e)))) ∙ ap (λ ms. n ∷ ms) rest
      | false ↦ rest
    ]

-- a process that comes to have no updates has no more a lane
lanes_from-others : (lane : HeldProcess → List ValueUpdate) (change : HeldProcess → HeldProcess) (n k : ℕ) (xs : List HeldProcess) → lane (change (held_at xs k)) ≡ [] →
    others (λ (l : ℕ × List ValueUpdate). l.0) (n + k) (lanes_from lane n xs) ≡ lanes_from lane n (change_at xs k change)
lanes_from-others lane change n k [] none = refl
lanes_from-others lane change n zero (x ∷ xs) none =
    let number = λ (l : ℕ × List ValueUpdate). l.0 in
    let rest = lanes_from lane (n + 1) xs in
    let From : List ℕ → Type 0 = AllHold (λ y. n + 1 ≤ y) in
    let from : From (map number rest) = subst From (sym (lanes_from-numbers lane (n + 1) xs)) (numbers_where-from (λ y. is_any (lane y)) (n + 1) xs) in
    let stay : rest ≡ others number n rest =
    others-above number n rest (AllHold-images (λ y. n < y) number rest (AllHold-weaker (λ y. n + 1 ≤ y) (λ y. n < y) (map number rest) (λ y h. omega (arith, h)) from)) in
    let here : others number n (lane_if n (lane x) rest) ≡ rest =
    elim (lane x) as (λ us. others number n (lane_if n us rest) ≡ rest) [ [] ↦ sym stay | v ∷ vs ↦ others-less number n (n, v ∷ vs) rest (eq-eqb n n refl) ∙ sym stay ] in
    ap (λ m. others number m (lane_if n (lane x) rest)) (add-zero n) ∙ (here ∙ ap (λ us. lane_if n us rest) (sym none))
lanes_from-others lane change n (suc k) (x ∷ xs) none =
    let number = λ (l : ℕ × List ValueUpdate). l.0 in
    let shift : n + suc k ≡ (n + 1) + k = omega arith in
    let rest : others number (n + suc k) (lanes_from lane (n + 1) xs) ≡ lanes_from lane (n + 1) (change_at xs k change) =
    ap (λ m. others number m (lanes_from lane (n + 1) xs)) shift ∙ lanes_from-others lane change (n + 1) k xs none in
    elim (lane x) as (λ us. others number (n + suc k) (lane_if n us (lanes_from lane (n + 1) xs)) ≡ lane_if n us (lanes_from lane (n + 1) (change_at xs k change))) [
      | [] ↦ rest
      | v ∷ vs ↦ others-kept number (n + suc k) (n, v ∷ vs) (lanes_from lane (n + 1) xs) (ne_eqb n (n + suc k) (λ e. absurd (omega (arith, e)))) ∙ ap (λ ls. (n, v ∷ vs) ∷ ls) rest
    ]

-- both cases of a condition, as a function sees them
cond-seen : {X Y : Type 0} (f : X → Y) (b : Bool) (x y : X) (z : Y) → (b ≡ true → f x ≡ z) → (b ≡ false → f y ≡ z) → f (cond b x y) ≡ z
cond-seen f true x y z g h = g refl
cond-seen f false x y z g h = h refl

-- a list that stands only where it has elements, as a function sees it
listed_in-map : {A B : Type 0} (f : A → B) (xs : List A) → option_map (map f) (listed_in xs) ≡ listed_in (map f xs)
listed_in-map f [] = refl
listed_in-map f (x ∷ xs) = refl

-- no update of a time
none-at : (t : ℕ) (later : List LaterUpdate) → some_in (is_at t) later ≡ false → map (λ (l : LaterUpdate). l.update) (filter (is_at t) later) ≡ []
none-at t [] e = refl
none-at t (l ∷ later) e = by_test (is_at t l) e (none-at t later)
  where
    by_test : (b : Bool) → (b || some_in (is_at t) later) ≡ false → (some_in (is_at t) later ≡ false → map (λ (l : LaterUpdate). l.update) (filter (is_at t) later) ≡ [])
        → map (λ (l : LaterUpdate). l.update) (cond b (l ∷ filter (is_at t) later) (filter (is_at t) later)) ≡ []
    by_test true e rest = absurd (true≢false e)
    by_test false e rest = rest e

module _ (held : List HeldProcess) (postponed : List ProcId) (sleepers : BTreeMap ℕ (List ProcId)) (lanes : BTreeMap ℕ (List (ProcId × List Update)))
    (p : ProcId) (a : IsArranged held postponed sleepers lanes)
  where
    -- the processes that pass a test but for one that is let go of
    processes-left : (test : Holding → Bool) → test Free ≡ false → without_process p (processes_where test held) ≡ processes_where test (change_at held p.0 (with_holding Free))
    processes-left test fails =
        let numbers = numbers_where (λ (h : HeldProcess). test h.holding) 0 held in
        sym (map-filter process_of (λ (m : ℕ). not (nat_eq m p.0)) (λ (q : ProcId). not (nat_eq q.0 p.0)) (λ m. refl) numbers)
        ∙ ap (map process_of)
        (ap (λ m. others (λ (m : ℕ). m) m numbers) (sym (zero-add p.0)) ∙ numbers_where-others (λ (h : HeldProcess). test h.holding) (with_holding Free) 0 p.0 held fails)

    -- those that pass a test that a process failed before
    processes-same : (test : Holding → Bool) → test Free ≡ false → test (held_at held p.0).holding ≡ false →
        processes_where test held ≡ processes_where test (change_at held p.0 (with_holding Free))
    processes-same test fails failed = ap (map process_of) (sym (numbers_where-change_at (λ (h : HeldProcess). test h.holding) (with_holding Free) 0 p.0 held (fails ∙ sym failed)))

    lanes-same : (t : ℕ) → option_map (map lane_of) (get nat_cmp lanes t) ≡ listed_in (lanes_from (updates_at t) 0 (change_at held p.0 (with_holding Free)))
    lanes-same t = a.lanes_are t ∙ ap listed_in (sym (lanes_from-change_at (updates_at t) (with_holding Free) 0 p.0 held refl))

    -- a sleeper is let go of
    pub arranged-roused : (time : ℕ) (new : BTreeMap ℕ (List ProcId)) → (held_at held p.0).holding ≡ Asleep time → RemovesAt time (without_process p) sleepers new →
        IsArranged (change_at held p.0 (with_holding Free)) postponed new lanes
    arranged-roused time new asleep removes = record {
      postponed_are = a.postponed_are ∙ processes-same is_postponed refl (ap is_postponed asleep);
      sleepers_are = λ t.
          removes t ∙ cond-either (nat_eq time t) _ _ _
          (λ e. ap listed_in (ap (without_process p) (sleepers-list held postponed sleepers lanes a t) ∙ processes-left (wakes_at t) refl))
          (λ e. a.sleepers_are t ∙ ap listed_in (processes-same (wakes_at t) refl (ap (wakes_at t) asleep ∙ e)));
      lanes_are = lanes-same;
    }

    -- a postponed process is let go of
    pub arranged-resumed : (held_at held p.0).holding ≡ Postponed → IsArranged (change_at held p.0 (with_holding Free)) (without_process p postponed) sleepers lanes
    arranged-resumed is = record {
      postponed_are = ap (without_process p) a.postponed_are ∙ processes-left is_postponed refl;
      sleepers_are = λ t. a.sleepers_are t ∙ ap listed_in (processes-same (wakes_at t) refl (ap (wakes_at t) is));
      lanes_are = lanes-same;
    }

    -- the updates of a process are let go of
    pub arranged-cleared : (new : BTreeMap ℕ (List (ProcId × List Update))) → RemovesLanes p (held_at held p.0).later lanes new →
        IsArranged (change_at held p.0 (with_updates [])) postponed sleepers new
    arranged-cleared new removes = record {
      postponed_are = a.postponed_are ∙ ap (map process_of) (sym (numbers_where-change_at (λ (h : HeldProcess). is_postponed h.holding) (with_updates []) 0 p.0 held refl));
      sleepers_are = λ t.
          a.sleepers_are t ∙ ap (λ ns. listed_in (map process_of ns)) (sym (numbers_where-change_at (λ (h : HeldProcess). wakes_at t h.holding) (with_updates []) 0 p.0 held refl));
      lanes_are = λ t.
          let number = λ (l : ℕ × List ValueUpdate). l.0 in
          let list = list_or_none (get nat_cmp lanes t) in
          ap (option_map (map lane_of)) (removes t) ∙ cond-seen (option_map (map lane_of)) (some_in (is_at t) (held_at held p.0).later) _ _ _
          (λ e. listed_in-map lane_of (without_lane p list) ∙ ap listed_in (
          map-filter lane_of (λ (l : ProcId × List Update). not (nat_eq l.0.0 p.0)) (λ (l : ℕ × List ValueUpdate). not (nat_eq l.0 p.0)) (λ l. refl) list
          ∙ ap (others number p.0) (lanes-list held postponed sleepers lanes a t) ∙ ap (λ m. others number m (lanes_from (updates_at t) 0 held)) (sym (zero-add p.0))
          ∙ lanes_from-others (updates_at t) (with_updates []) 0 p.0 held refl
          ))
          (λ e. a.lanes_are t ∙ ap listed_in (sym (lanes_from-change_at (updates_at t) (with_updates []) 0 p.0 held (sym (none-at t (held_at held p.0).later e)))));
    }

-- The lists of a time

-- a list is changed, and dropped where it is empty then
pub removes-at : {A : Type 0} (time : ℕ) (change : List A → List A) (old mid new : BTreeMap ℕ (List A)) → change [] ≡ [] → ChangesAt time change old mid →
    RemovesAt time (λ (l : List A). l) mid new →
    RemovesAt time change old new
removes-at {A} time change old mid new empty changes drops = λ t.
    drops t ∙ ap (λ (o : Option (List A)). cond (nat_eq time t) (listed_in (list_or_none o)) o) (changes t) ∙ both (nat_eq time t) (get nat_cmp old t)
  where
    both : (b : Bool) (o : Option (List A)) → cond b (listed_in (list_or_none (cond b (option_map change o) o))) (cond b (option_map change o) o) ≡ cond b (listed_in (change (list_or_none o))) o
    both true None = ap listed_in (sym empty)
    both true (Some xs) = refl
    both false o = refl

-- a time without a list has none after a change of it
pub none-changed : {A : Type 0} (time : ℕ) (change : List A → List A) (lists : BTreeMap ℕ (List A)) → get nat_cmp lists time ≡ None → ChangesAt time change lists lists
none-changed {A} time change lists none = λ t. both t (nat_eq time t) refl
  where
    both : (t : ℕ) (b : Bool) → nat_eq time t ≡ b → get nat_cmp lists t ≡ cond b (option_map change (get nat_cmp lists t)) (get nat_cmp lists t)
    both t false e = refl
    both t true e =
        let at : get nat_cmp lists t ≡ None = subst (λ s. get nat_cmp lists s ≡ None) (eqb-true time t e) none in
        at ∙ sym (ap (option_map change) at)

-- one more element of which some is such
some_in-push : {A : Type 0} (test : A → Bool) (xs : List A) (x : A) → some_in test (xs ++ x ∷ []) ≡ (some_in test xs || test x)
some_in-push test [] x = elim (test x) as (λ b. (b || false) ≡ b) [ true ↦ refl | false ↦ refl ]
some_in-push test (y ∷ xs) x =
    let rest = some_in-push test xs x in
    elim (test y) as (λ b. (b || some_in test (xs ++ x ∷ [])) ≡ ((b || some_in test xs) || test x)) [ true ↦ refl | false ↦ rest ]

module _ (p : ProcId) (old now : BTreeMap ℕ (List (ProcId × List Update))) (later : List LaterUpdate) (before : RemovesLanes p later old now) where
  -- the lanes are gone at one more time
  pub removes-more : (l : LaterUpdate) (new : BTreeMap ℕ (List (ProcId × List Update))) → RemovesAt l.time (without_lane p) now new → RemovesLanes p (later ++ l ∷ []) old new
  removes-more l new removes = λ t.
      removes t ∙ ap (λ (o : Option (List (ProcId × List Update))). cond (nat_eq l.time t) (listed_in (without_lane p (list_or_none o))) o) (before t)
      ∙ twice (nat_eq l.time t) (some_in (is_at t) later) (get nat_cmp old t)
      ∙ ap (λ b. cond b (listed_in (without_lane p (list_or_none (get nat_cmp old t)))) (get nat_cmp old t)) (sym (some_in-push (is_at t) later l))
    where
      twice : (b c : Bool) (o : Option (List (ProcId × List Update)))
          → cond b (listed_in (without_lane p (list_or_none (cond c (listed_in (without_lane p (list_or_none o))) o)))) (cond c (listed_in (without_lane p (list_or_none o))) o)
          ≡ cond (c || b) (listed_in (without_lane p (list_or_none o))) o
      twice true true o = ap listed_in (ap (without_lane p) (list_or_none-listed_in (without_lane p (list_or_none o))) ∙ others-twice lane_number p.0 (list_or_none o))
      twice true false o = refl
      twice false true o = refl
      twice false false o = refl

  -- those that are left ascend
  pub removes-Ascends : (t : ℕ) → Ascends (map lane_number (list_or_none (get nat_cmp old t))) → Ascends (map lane_number (list_or_none (get nat_cmp now t)))
  removes-Ascends t up =
      subst (λ (o : Option (List (ProcId × List Update))). Ascends (map lane_number (list_or_none o))) (sym (before t)) (either (some_in (is_at t) later))
    where
      left : List (ProcId × List Update)
      left = without_lane p (list_or_none (get nat_cmp old t))

      either : (b : Bool) → Ascends (map lane_number (list_or_none (cond b (listed_in left) (get nat_cmp old t))))
      either true =
          subst (λ (xs : List (ProcId × List Update)). Ascends (map lane_number xs)) (sym (list_or_none-listed_in left)) (Ascends-others lane_number p.0 (list_or_none (get nat_cmp old t)) up)
      either false = up

-- a process that is held so already
pub same-holding : (held : List HeldProcess) (number : ℕ) (holding : Holding) → (held_at held number).holding ≡ holding → held ≡ change_at held number (with_holding holding)
same-holding held number holding is =
    sym (change-none nothing_held held number (with_holding holding) (ap (λ (h : Holding). record (held_at held number) { holding = h }) (sym is)))
