-- The tables of an index while it is made, and laws on them (nothing of the language).
use Rattle.std.proofs.Common.{◌≡◌, ℕ, suc, ◌+◌, ◌<◌, ◌≤◌, Bool, true, false, List, [], ◌∷◌, ◌++◌, length, get_or, set, map, refl, ap, sym, ◌∙◌, arith, append-nil, replicate, inl, inr}
use Rattle.std.specs.Prelude.{nat_eq, Vec}
use Rattle.std.specs.declared.alloc.Global.{Global}
use Rattle.std.proofs.lemmas.List.{map-set, get_or-map, map_push, get_or-set_same, get_or-set_other, length-set, length_push, get_or-replicate, length-replicate}
use Rattle.std.proofs.lemmas.Bool.{ne_eqb, eq-eqb, cases_eq}
use Rattle.vf_base.specs.declared.ids.ProcId.{ProcId}
use Rattle.vf_base.specs.Base.{process_number}
use Rattle.vf_base.specs.Lists.{has}
use Rattle.v_design.specs.Designs.{FlatProcess}
use Rattle.graph_order.specs.ListLaws.{now_has, still_has}
use Rattle.wait_index.specs.Waits.{waited_objects, before_if, waiters_from}
use Rattle.wait_index.specs.Index.{process_lists}

-- one more process in one of the lists
pub process_lists-push : (lists : List (Vec ProcId Global)) (i : ℕ) (old new : Vec ProcId Global) (x : ProcId) → i < length lists → old ≡ get_or lists i old →
    new.items ≡ old.items ++ x ∷ [] → process_lists (set lists i new) ≡ set (process_lists lists) i (get_or (process_lists lists) i [] ++ process_number x ∷ [])
process_lists-push lists i old new x within is_old pushed =
    let numbers : Vec ProcId Global → List ℕ = λ list. map process_number list.items in
    map-set numbers lists i new
    ∙ ap (set (process_lists lists) i)
    (ap (map process_number) pushed ∙ map_push process_number old.items x
    ∙ ap (λ l. numbers l ++ process_number x ∷ []) is_old
    ∙ ap (λ l. l ++ process_number x ∷ []) (sym (get_or-map numbers lists i old [] within)))

-- Adding a process

-- what some objects of a process leave: the process stands in their lists, and each of them is marked as seen
pub record WaitersAdded (process : ℕ) (taken : List ℕ) (before : List (List ℕ)) (seen : List ℕ) (lists : List (List ℕ)) : Type 0 where
  pub marked : (o : ℕ) → o < length seen → nat_eq (get_or seen o 0) (process + 1) ≡ has taken o
  pub bounded : (o : ℕ) → o < length seen → get_or seen o 0 ≤ process + 1
  pub listed : (o : ℕ) → o < length lists → get_or lists o [] ≡ get_or before o [] ++ before_if (has taken o) process []
  pub same_length : length lists ≡ length before
  pub alike : length seen ≡ length lists

-- before the first object
pub WaitersAdded-none : (process : ℕ) (before : List (List ℕ)) (seen : List ℕ) → ((o : ℕ) → o < length seen → get_or seen o 0 ≤ process) → length seen ≡ length before →
    WaitersAdded process [] before seen before
WaitersAdded-none process before seen low alike = record {
  marked = λ o h. let le : get_or seen o 0 ≤ process = low o h in ne_eqb (get_or seen o 0) (process + 1) (λ e. omega arith);
  bounded = λ o h. let le : get_or seen o 0 ≤ process = low o h in omega arith;
  listed = λ o h. sym (append-nil (get_or before o []));
  same_length = refl;
  alike = alike;
}

-- one more object that isn't there
pub WaitersAdded-outside : (process : ℕ) (taken : List ℕ) (before : List (List ℕ)) (seen : List ℕ) (lists : List (List ℕ)) (x : ℕ) → WaitersAdded process taken before seen lists → length lists ≤ x →
    WaitersAdded process (taken ++ x ∷ []) before seen lists
WaitersAdded-outside process taken before seen lists x had out =
    let alike : length seen ≡ length lists = had.alike in
    record {
      marked = λ o h. had.marked o h ∙ sym (still_has taken x o (λ e. omega arith));
      bounded = had.bounded;
      listed = λ o h. had.listed o h ∙ ap (λ b. get_or before o [] ++ before_if b process []) (sym (still_has taken x o (λ e. omega arith)));
      same_length = had.same_length;
      alike = had.alike;
    }

-- one more object that was seen
pub WaitersAdded-again : (process : ℕ) (taken : List ℕ) (before : List (List ℕ)) (seen : List ℕ) (lists : List (List ℕ)) (x : ℕ) → WaitersAdded process taken before seen lists → x < length seen →
    get_or seen x 0 ≡ process + 1 → WaitersAdded process (taken ++ x ∷ []) before seen lists
WaitersAdded-again process taken before seen lists x had within stamped =
    let there : has taken x ≡ true = sym (had.marked x within) ∙ eq-eqb (get_or seen x 0) (process + 1) stamped in
    let same : (o : ℕ) → has (taken ++ x ∷ []) o ≡ has taken o =
    λ o. elim (cases_eq o x) [
      | inl is ↦ ap (has (taken ++ x ∷ [])) is ∙ now_has taken x ∙ sym there ∙ ap (has taken) (sym is)
      | inr other ↦ still_has taken x o other
    ] in
    record {
      marked = λ o h. had.marked o h ∙ sym (same o);
      bounded = had.bounded;
      listed = λ o h. had.listed o h ∙ ap (λ b. get_or before o [] ++ before_if b process []) (sym (same o));
      same_length = had.same_length;
      alike = had.alike;
    }

-- one more object that wasn't seen
pub WaitersAdded-new : (process : ℕ) (taken : List ℕ) (before : List (List ℕ)) (seen : List ℕ) (lists : List (List ℕ)) (x : ℕ) → WaitersAdded process taken before seen lists → x < length lists →
    (get_or seen x 0 ≡ process + 1 → ⊥) → WaitersAdded process (taken ++ x ∷ []) before (set seen x (process + 1)) (set lists x (get_or lists x [] ++ process ∷ []))
WaitersAdded-new process taken before seen lists x had within unseen =
    let alike : length seen ≡ length lists = had.alike in
    let in_seen : x < length seen = omega arith in
    let new : List ℕ = get_or lists x [] ++ process ∷ [] in
    let out : has taken x ≡ false = sym (had.marked x in_seen) ∙ ne_eqb (get_or seen x 0) (process + 1) unseen in
    record {
      marked = λ o h.
          elim (cases_eq o x) [
            | inl same ↦
                ap (λ j. nat_eq (get_or (set seen x (process + 1)) j 0) (process + 1)) same
                ∙ ap (λ n. nat_eq n (process + 1)) (get_or-set_same seen x (process + 1) 0 in_seen) ∙ eq-eqb (process + 1) (process + 1) refl
                ∙ sym (ap (has (taken ++ x ∷ [])) same ∙ now_has taken x)
            | inr other ↦
                ap (λ n. nat_eq n (process + 1)) (get_or-set_other seen x o (process + 1) 0 other)
                ∙ had.marked o (omega (arith, length-set seen x (process + 1))) ∙ sym (still_has taken x o other)
          ];
      bounded = λ o h.
          elim (cases_eq o x) [
            | inl same ↦ let now : get_or (set seen x (process + 1)) o 0 ≡ process + 1 = ap (λ j. get_or (set seen x (process + 1)) j 0) same ∙ get_or-set_same seen x (process + 1) 0 in_seen in
                omega arith
            | inr other ↦
                let le : get_or seen o 0 ≤ process + 1 = had.bounded o (omega (arith, length-set seen x (process + 1))) in
                let same : get_or (set seen x (process + 1)) o 0 ≡ get_or seen o 0 = get_or-set_other seen x o (process + 1) 0 other in omega arith
          ];
      listed = λ o h.
          elim (cases_eq o x) [
            | inl same ↦
                ap (λ j. get_or (set lists x (get_or lists x [] ++ process ∷ [])) j []) same
                ∙ get_or-set_same lists x (get_or lists x [] ++ process ∷ []) [] within
                ∙ ap (λ l. l ++ process ∷ []) (had.listed x within)
                ∙ ap (λ b. (get_or before x [] ++ before_if b process []) ++ process ∷ []) out
                ∙ ap (λ l. l ++ process ∷ []) (append-nil (get_or before x []))
                ∙ sym (ap (λ j. get_or before j [] ++ before_if (has (taken ++ x ∷ []) j) process []) same ∙ ap (λ b. get_or before x [] ++ before_if b process []) (now_has taken x))
            | inr other ↦
                get_or-set_other lists x o (get_or lists x [] ++ process ∷ []) [] other
                ∙ had.listed o (omega (arith, length-set lists x (get_or lists x [] ++ process ∷ [])))
                ∙ ap (λ b. get_or before o [] ++ before_if b process []) (sym (still_has taken x o other))
          ];
      same_length = length-set lists x (get_or lists x [] ++ process ∷ []) ∙ had.same_length;
      alike = length-set seen x (process + 1) ∙ had.alike ∙ sym (length-set lists x (get_or lists x [] ++ process ∷ []));
    }

-- All processes

waiters_from-push : (object number : ℕ) (processes : List FlatProcess) (process : FlatProcess) →
    waiters_from object number (processes ++ process ∷ []) ≡ waiters_from object number processes ++ before_if (has (waited_objects process.body) object) (number + length processes) []
waiters_from-push object number [] process = ap (λ n. before_if (has (waited_objects process.body) object) n []) (let e : number ≡ number + 0 = omega arith in e)
waiters_from-push object number (first ∷ processes) process =
    ap (before_if (has (waited_objects first.body) object) number) (waiters_from-push object (number + 1) processes process)
    ∙ before_if-append (has (waited_objects first.body) object) number (waiters_from object (number + 1) processes)
    (before_if (has (waited_objects process.body) object) (number + 1 + length processes) [])
    ∙ ap (λ n. before_if (has (waited_objects first.body) object) number (waiters_from object (number + 1) processes) ++ before_if (has (waited_objects process.body) object) n [])
    (let e : number + 1 + length processes ≡ number + suc (length processes) = omega arith in e)
  where
    before_if-append : (b : Bool) (n : ℕ) (rest more : List ℕ) → before_if b n (rest ++ more) ≡ before_if b n rest ++ more
    before_if-append true n rest more = refl
    before_if-append false n rest more = refl

-- the tables of some processes
pub record TablesBuilt (processes : List FlatProcess) (seen : List ℕ) (lists : List (List ℕ)) : Type 0 where
  pub bounded : (o : ℕ) → o < length seen → get_or seen o 0 ≤ length processes
  pub listed : (o : ℕ) → o < length lists → get_or lists o [] ≡ waiters_from o 0 processes
  pub alike : length seen ≡ length lists

-- before the first process
pub TablesBuilt-none : (count : ℕ) → TablesBuilt [] (replicate count 0) (replicate count [])
TablesBuilt-none count = record {
  bounded = λ o h. let e : get_or {A = ℕ} (replicate count 0) o 0 ≡ 0 = get_or-replicate {A = ℕ} count o 0 0 (omega (arith, length-replicate {A = ℕ} count 0)) in omega arith;
  listed = λ o h. get_or-replicate count o [] [] (omega (arith, length-replicate {A = List ℕ} count []));
  alike = length-replicate {A = ℕ} count 0 ∙ sym (length-replicate {A = List ℕ} count []);
}

-- one more process
pub TablesBuilt-more : (processes : List FlatProcess) (seen : List ℕ) (lists : List (List ℕ)) (process : FlatProcess) (later : List ℕ) (now : List (List ℕ)) →
    TablesBuilt processes seen lists → WaitersAdded (length processes) (waited_objects process.body) lists later now → TablesBuilt (processes ++ process ∷ []) later now
TablesBuilt-more processes seen lists process later now had added = record {
  bounded = λ o h. let le : get_or later o 0 ≤ length processes + 1 = added.bounded o h in omega (arith, length_push processes process);
  listed = λ o h.
      added.listed o h
      ∙ ap (λ l. l ++ before_if (has (waited_objects process.body) o) (length processes) []) (had.listed o (omega (arith, added.same_length)))
      ∙ ap (λ n. waiters_from o 0 processes ++ before_if (has (waited_objects process.body) o) n []) (let e : length processes ≡ 0 + length processes = omega arith in e)
      ∙ sym (waiters_from-push o 0 processes process);
  alike = added.alike;
}
