-- How the lanes of a time follow the appends of updates.
use Rattle.std.proofs.Common.{◌≡◌, ℕ, zero, suc, ◌+◌, ◌<◌, ◌≤◌, Bool, true, false, List, [], ◌∷◌, ◌++◌, length, map, filter, cond, Option, Some, refl, sym, ◌∙◌, ap, arith, nat_eq, nat_lt, nat_cmp}
use Rattle.std.proofs.Common.{add-zero, zero-add, subst, take, get_or, append_assoc}
use Rattle.std.proofs.lemmas.List.{take_more, map_push}
use Rattle.std.specs.Option.{option_map}
use Rattle.std.specs.BTreeMap.{BTreeMap, get}
use Rattle.std.proofs.lemmas.Bool.{lt-ltb, le-ltb, ne_eqb, eq-eqb, eqb-true}
use Rattle.vf_base.specs.Lists.{AllHold, change_at}
use Rattle.v_design.specs.Assignments.{ValueUpdate}
use Rattle.v_design.specs.States.{LaterUpdate, is_any}
use Rattle.v_design.specs.Plain.{due_of, update_of}
use Rattle.v_design.specs.declared.plan.Due.{Due}
use Rattle.vf_base.specs.declared.ids.ProcId.{ProcId}
use Rattle.v_design.specs.declared.plan.Update.{Update}
use Rattle.event_queue.specs.Queues.{HeldProcess, held_at, with_later, with_laters, is_postponed, lane_if, lanes_from}
use Rattle.event_queue.specs.Arranged.{wakes_at, is_at, updates_at, lane_of, listed_in, list_or_none, IsArranged, ListsAt, update_before, with_update, process_of}
use Rattle.event_queue.specs.ChangeLaws.{change-twice}
use Rattle.event_queue.proofs.Numbers.{numbers_where-from, lanes_from-numbers}
use Rattle.event_queue.proofs.Arrangements.{numbers_where-change_at, lanes_from-change_at, lanes-list}

-- an update put into the first lane, before it, or behind it
abbrev pub plain_before : Bool → Bool → ℕ → ValueUpdate → ℕ × List ValueUpdate → List (ℕ × List ValueUpdate) → List (ℕ × List ValueUpdate) → List (ℕ × List ValueUpdate)
plain_before true here p u first rest more = first ∷ more
plain_before false true p u first rest more = (first.0, first.1 ++ u ∷ []) ∷ rest
plain_before false false p u first rest more = (p, u ∷ []) ∷ first ∷ rest

-- the lanes with one more update of a process, at the end of its lane
abbrev pub with_plain : ℕ → ValueUpdate → List (ℕ × List ValueUpdate) → List (ℕ × List ValueUpdate)
with_plain p u [] = (p, u ∷ []) ∷ []
with_plain p u (first ∷ rest) = plain_before (nat_lt first.0 p) (nat_eq first.0 p) p u first rest (with_plain p u rest)

-- one more at the end of a list, seen by a function
pub map-push : {A B : Type 0} (f : A → B) (xs : List A) (x : A) → map f (xs ++ x ∷ []) ≡ map f xs ++ f x ∷ []
map-push f [] x = refl
map-push f (y ∷ xs) x = ap (λ ys. f y ∷ ys) (map-push f xs x)

-- lanes with one more update are so as plain data
pub with_update-plain : (p : ProcId) (u : Update) (lanes : List (ProcId × List Update)) → map lane_of (with_update p u lanes) ≡ with_plain p.0 (update_of u) (map lane_of lanes)
with_update-plain p u [] = refl
with_update-plain p u (l ∷ lanes) = by_tests (nat_lt l.0.0 p.0) (nat_eq l.0.0 p.0) (with_update-plain p u lanes)
  where
    by_tests : (b here : Bool) → map lane_of (with_update p u lanes) ≡ with_plain p.0 (update_of u) (map lane_of lanes)
        → map lane_of (update_before b here p u l lanes (with_update p u lanes))
        ≡ plain_before b here p.0 (update_of u) (lane_of l) (map lane_of lanes) (with_plain p.0 (update_of u) (map lane_of lanes))
    by_tests true here rest = ap (λ ls. lane_of l ∷ ls) rest
    by_tests false true rest = ap (λ us. (l.0.0, us) ∷ map lane_of lanes) (map-push update_of l.1 u)
    by_tests false false rest = refl

-- a lane of the least process is the first
with_plain-first : (p : ℕ) (u : ValueUpdate) (ls : List (ℕ × List ValueUpdate)) → AllHold (λ y. p + 1 ≤ y) (map (λ (l : ℕ × List ValueUpdate). l.0) ls)
    → with_plain p u ls ≡ (p, u ∷ []) ∷ ls
with_plain-first p u [] h = refl
with_plain-first p u (l ∷ ls) h =
    ap (λ b. plain_before b (nat_eq l.0 p) p u l ls (with_plain p u ls)) (le-ltb l.0 p (omega (arith, h.0)))
    ∙ ap (λ b. plain_before false b p u l ls (with_plain p u ls)) (ne_eqb l.0 p (λ e. absurd (omega (arith, h.0, e))))

-- an update that comes to a process comes to its lane
pub with_plain-lanes_from : (lane : HeldProcess → List ValueUpdate) (change : HeldProcess → HeldProcess) (u : ValueUpdate) (n k : ℕ) (xs : List HeldProcess) → k < length xs
    → lane (change (held_at xs k)) ≡ lane (held_at xs k) ++ u ∷ [] → with_plain (n + k) u (lanes_from lane n xs) ≡ lanes_from lane n (change_at xs k change)
with_plain-lanes_from lane change u n k [] less e = absurd (omega arith)
with_plain-lanes_from lane change u n zero (x ∷ xs) less e =
    let rest = lanes_from lane (n + 1) xs in
    let Above : List ℕ → Type 0 = AllHold (λ y. n + 1 ≤ y) in
    let above : Above (map (λ (l : ℕ × List ValueUpdate). l.0) rest) =
    subst Above (sym (lanes_from-numbers lane (n + 1) xs)) (numbers_where-from (λ y. is_any (lane y)) (n + 1) xs) in
    let here : with_plain n u (lane_if n (lane x) rest) ≡ lane_if n (lane x ++ u ∷ []) rest =
    elim (lane x) as (λ us. with_plain n u (lane_if n us rest) ≡ lane_if n (us ++ u ∷ []) rest) [
      | [] ↦ with_plain-first n u rest above
      | v ∷ vs ↦
          ap (λ b. plain_before b (nat_eq n n) n u (n, v ∷ vs) rest (with_plain n u rest)) (le-ltb n n (omega arith))
          ∙ ap (λ b. plain_before false b n u (n, v ∷ vs) rest (with_plain n u rest)) (eq-eqb n n refl)
    ] in
    ap (λ m. with_plain m u (lane_if n (lane x) rest)) (add-zero n) ∙ (here ∙ ap (λ us. lane_if n us rest) (sym e))
with_plain-lanes_from lane change u n (suc k) (x ∷ xs) less e =
    let before = lanes_from lane (n + 1) xs in
    let after = lanes_from lane (n + 1) (change_at xs k change) in
    let shift : n + suc k ≡ (n + 1) + k = omega arith in
    let rest : with_plain (n + suc k) u before ≡ after =
    ap (λ m. with_plain m u before) shift ∙ with_plain-lanes_from lane change u (n + 1) k xs (omega arith) e in
    elim (lane x) as (λ us. with_plain (n + suc k) u (lane_if n us before) ≡ lane_if n us after) [
      | [] ↦ rest
      | v ∷ vs ↦
          ap (λ b. plain_before b (nat_eq n (n + suc k)) (n + suc k) u (n, v ∷ vs) before (with_plain (n + suc k) u before)) (lt-ltb n (n + suc k) (omega arith))
          ∙ ap (λ ls. (n, v ∷ vs) ∷ ls) rest
    ]

-- lanes with one more update aren't empty
listed_in-with_plain : (p : ℕ) (u : ValueUpdate) (ls : List (ℕ × List ValueUpdate)) → listed_in (with_plain p u ls) ≡ Some (with_plain p u ls)
listed_in-with_plain p u [] = refl
listed_in-with_plain p u (l ∷ ls) = by_tests (nat_lt l.0 p) (nat_eq l.0 p)
  where
    by_tests : (b here : Bool) → listed_in (plain_before b here p u l ls (with_plain p u ls)) ≡ Some (plain_before b here p u l ls (with_plain p u ls))
    by_tests true here = refl
    by_tests false true = refl
    by_tests false false = refl

-- the updates of a time after an append
updates-push : (t : ℕ) (later : List LaterUpdate) (l : LaterUpdate)
    → map (λ (x : LaterUpdate). x.update) (filter (is_at t) (later ++ l ∷ [])) ≡ map (λ (x : LaterUpdate). x.update) (filter (is_at t) later) ++ cond (is_at t l) (l.update ∷ []) []
updates-push t [] l =
    elim (is_at t l) as (λ b. map (λ (x : LaterUpdate). x.update) (cond b (l ∷ []) []) ≡ cond b (l.update ∷ []) []) [ true ↦ refl | false ↦ refl ]
updates-push t (x ∷ later) l =
    let rest = updates-push t later l in
    elim (is_at t x) as (λ b. map (λ (y : LaterUpdate). y.update) (cond b (x ∷ filter (is_at t) (later ++ l ∷ [])) (filter (is_at t) (later ++ l ∷ [])))
    ≡ map (λ (y : LaterUpdate). y.update) (cond b (x ∷ filter (is_at t) later) (filter (is_at t) later)) ++ cond (is_at t l) (l.update ∷ []) []) [
      | true ↦ ap (λ us. x.update ∷ us) rest
      | false ↦ rest
    ]

-- nothing appended
append-nothing : {A : Type 0} (xs : List A) → xs ++ [] ≡ xs
append-nothing [] = refl
append-nothing (x ∷ xs) = ap (λ ys. x ∷ ys) (append-nothing xs)

module _ (held : List HeldProcess) (postponed : List ProcId) (sleepers : BTreeMap ℕ (List ProcId)) (lanes : BTreeMap ℕ (List (ProcId × List Update)))
    (p : ProcId) (less : p.0 < length held) (a : IsArranged held postponed sleepers lanes)
  where
    -- an update is appended
    pub arranged-later : (t : ℕ) (u : Update) (new : BTreeMap ℕ (List (ProcId × List Update))) → ListsAt t (with_update p u (list_or_none (get nat_cmp lanes t))) lanes new
        → IsArranged (change_at held p.0 (with_later (record { time = t; update = update_of u }))) postponed sleepers new
    arranged-later t u new put =
        let later : LaterUpdate = record { time = t; update = update_of u } in
        let change = with_later later in
        record {
          postponed_are = a.postponed_are ∙ ap (map process_of) (sym (numbers_where-change_at (λ (h : HeldProcess). is_postponed h.holding) change 0 p.0 held refl));
          sleepers_are = λ q.
              a.sleepers_are q ∙ ap (λ ns. listed_in (map process_of ns)) (sym (numbers_where-change_at (λ (h : HeldProcess). wakes_at q h.holding) change 0 p.0 held refl));
          lanes_are = λ q.
              let old = held_at held p.0 in
              let unchanged : nat_eq t q ≡ false → option_map (map lane_of) (get nat_cmp lanes q) ≡ listed_in (lanes_from (updates_at q) 0 (change_at held p.0 change)) = λ e.
              a.lanes_are q
              ∙ ap listed_in (sym (lanes_from-change_at (updates_at q) change 0 p.0 held
              (updates-push q old.later later ∙ (ap (λ b. updates_at q old ++ cond b (update_of u ∷ []) []) e ∙ append-nothing (updates_at q old))))) in
              let there : map lane_of (with_update p u (list_or_none (get nat_cmp lanes t))) ≡ lanes_from (updates_at t) 0 (change_at held p.0 change) =
              with_update-plain p u (list_or_none (get nat_cmp lanes t))
              ∙ (ap (with_plain p.0 (update_of u)) (lanes-list held postponed sleepers lanes a t)
              ∙ (ap (λ m. with_plain m (update_of u) (lanes_from (updates_at t) 0 held)) (sym (zero-add p.0))
              ∙ with_plain-lanes_from (updates_at t) change (update_of u) 0 p.0 held less
              (updates-push t old.later later ∙ ap (λ b. updates_at t old ++ cond b (update_of u ∷ []) []) (eq-eqb t t refl)))) in
              let full : listed_in (lanes_from (updates_at t) 0 (change_at held p.0 change)) ≡ Some (lanes_from (updates_at t) 0 (change_at held p.0 change)) =
              let Full : List (ℕ × List ValueUpdate) → Type 0 = λ ls. listed_in ls ≡ Some ls in
              subst Full (sym (with_update-plain p u (list_or_none (get nat_cmp lanes t))) ∙ there) (listed_in-with_plain p.0 (update_of u) (map lane_of (list_or_none (get nat_cmp lanes t)))) in
              let put_in : nat_eq t q ≡ true → option_map (map lane_of) (Some (with_update p u (list_or_none (get nat_cmp lanes t)))) ≡ listed_in
              (lanes_from (updates_at q) 0 (change_at held p.0 change)) = λ e.
              let Goal : ℕ → Type 0 = λ s. Some (map lane_of (with_update p u (list_or_none (get nat_cmp lanes t)))) ≡ listed_in (lanes_from (updates_at s) 0 (change_at held p.0 change)) in
              subst Goal (eqb-true t q e) (ap Some there ∙ sym full) in
              ap (option_map (map lane_of)) (put q) ∙ mapped q _ (nat_eq t q) put_in unchanged;
        }
      where
        mapped : (q : ℕ) (z : Option (List (ℕ × List ValueUpdate))) (b : Bool) → (b ≡ true → option_map (map lane_of) (Some (with_update p u (list_or_none (get nat_cmp lanes t)))) ≡ z)
            → (b ≡ false → option_map (map lane_of) (get nat_cmp lanes q) ≡ z) → option_map (map lane_of)
            (cond b (Some (with_update p u (list_or_none (get nat_cmp lanes t)))) (get nat_cmp lanes q)) ≡ z
        mapped q z true f g = f refl
        mapped q z false f g = g refl

-- one update more behind others
pub laters-more : (held : List HeldProcess) (p : ℕ) (later : List LaterUpdate) (one : LaterUpdate) →
    change_at (change_at held p (with_laters later)) p (with_later one) ≡ change_at held p (with_laters (later ++ one ∷ []))
laters-more held p later one =
    change-twice held p (with_laters later) (with_later one)
    ∙ (λ i. change_at held p (λ (h : HeldProcess). record { holding = h.holding; later = append_assoc h.later later (one ∷ []) i }))

-- and one more taken of some
pub taken-more : (updates : List Due) (i : ℕ) (due : Due) → i < length updates → due ≡ get_or updates i due →
    map due_of (take i updates) ++ due_of due ∷ [] ≡ map due_of (take (i + 1) updates)
taken-more updates i due low is =
    sym (ap (map due_of) (take_more updates i due low ∙ ap (λ (d : Due). take i updates ++ d ∷ []) (sym is)) ∙ map_push due_of (take i updates) due)
