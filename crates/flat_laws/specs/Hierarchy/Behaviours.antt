-- Which blocks of a walk are nodes and which are processes, and that a variable which a process assigns is driven by itself (IEEE 1364-2001, clause 9.2; that a block is a node is own).
use Rattle.std.proofs.Common.{◌≡◌, ℕ, zero, suc, ◌+◌, Bool, true, false, ◌&&◌, List, [], ◌∷◌, ◌++◌, map, Option, Some, None, refl, sym, ap, ◌∙◌, inl, inr, arith}
use Rattle.std.specs.Prelude.{◌||◌, not, nat_eq, slice_get, filter, flat_map}
use Rattle.std.specs.List.{list_all, list_any}
use Rattle.std.proofs.lemmas.Bool.{cases_Bool, or_cases, or_left, or_right, eqb-true, cond-true, cond-false}
use Rattle.vf_base.specs.Lists.{map_numbered, joined}
use Rattle.v_tree.specs.Trees.{Identifier, NamedPlace, same_name, has_name}
use Rattle.v_names.specs.Scopes.{looked_up, is_reg}
use Rattle.v_names.specs.SizedLaws.{and-left, and-right}
use Rattle.v_comb.specs.CombinationalForm.{assigned_names}
use Rattle.v_elab.specs.Parts.{Signal, Drive, WalkedProcess, Part, SignalPart, MemoryPart, AssignPart, GatePart, ProcessPart, InstancePart}
use Rattle.v_elab.specs.Drivers.{signals_of, outermost, target_signals, variables_assigned, drives_some, drive_signals, writes_object, other_writes, port_writes, is_own_target, reads_by_other_name}
use Rattle.v_elab.specs.Drivers.{NodeFunction, AssignFunction, GateFunction, BlockFunction, WalkedNode, Behaviour, IsNode, IsProcess, block_drive, block_or_process, process_behaviour}
use Rattle.v_elab.specs.Drivers.{part_behaviour, behaviours_of, nodes_of, processes_of, block_signals, is_driving}
use Rattle.flat_laws.specs.Made.{nodes_in, processes_in}
use Rattle.flat_laws.specs.Lists.{same_some, at-append, filter-at}
use Rattle.flat_laws.specs.Hierarchy.Given.{equal-name, name-same, both-true}

-- Lists

-- an element of numbered lists that are joined stands in one of them
pub at-joined : {A B : Type 0} (f : ℕ → A → List B) (n : ℕ) (xs : List A) (i : ℕ) (y : B) → slice_get (joined (map_numbered f n xs)) i ≡ Some y →
    (k : ℕ) × (x : A) × (m : ℕ) × (slice_get xs k ≡ Some x) × (slice_get (f (n + k) x) m ≡ Some y)
at-joined f n [] i y at = absurd (cc)
at-joined f n (x ∷ xs) i y at =
    elim (at-append (f n x) (joined (map_numbered f (n + 1) xs)) i y at) [
      | inl first ↦ let same : n ≡ n + 0 = omega arith in (0, x, i, refl, ap (λ k. slice_get (f k x) i) (sym same) ∙ first.1)
      | inr second ↦
          let r = at-joined f (n + 1) xs second.0 y second.2 in
          let same : (n + 1) + r.0 ≡ n + suc r.0 = omega arith in
          (suc r.0, r.1, r.2, r.3, ap (λ k. slice_get (f k r.1) r.2) (sym same) ∙ r.4)
    ]

-- a name that stands in a list is one of it
pub name-there : (names : List Identifier) (i : ℕ) (name : Identifier) → slice_get names i ≡ Some name → has_name names name ≡ true
name-there [] i name at = absurd (cc)
name-there (first ∷ names) zero name at = or_left (same_name first name) (has_name names name) (ap (λ n. same_name n name) (same_some first name at) ∙ name-same name)
name-there (first ∷ names) (suc i) name at = or_right (same_name first name) (has_name names name) (name-there names i name at)

pub there-name : (names : List Identifier) (name : Identifier) → has_name names name ≡ true → (i : ℕ) × (slice_get names i ≡ Some name)
there-name [] name e = absurd (cc)
there-name (first ∷ names) name e =
    elim (or_cases (same_name first name) (has_name names name) e) [
      | inl here ↦ (0, ap Some (equal-name first name here))
      | inr later ↦ let r = there-name names name later in (suc r.0, r.1)
    ]

pub at-map : {A B : Type 0} (f : A → B) (xs : List A) (i : ℕ) (x : A) → slice_get xs i ≡ Some x → slice_get (map f xs) i ≡ Some (f x)
at-map f [] i x at = absurd (cc)
at-map f (first ∷ xs) zero x at = ap (λ y. Some (f y)) (same_some first x at)
at-map f (first ∷ xs) (suc i) x at = at-map f xs i x at

pub map-at : {A B : Type 0} (f : A → B) (xs : List A) (i : ℕ) (y : B) → slice_get (map f xs) i ≡ Some y → (x : A) × (slice_get xs i ≡ Some x) × (f x ≡ y)
map-at f [] i y at = absurd (cc)
map-at f (first ∷ xs) zero y at = (first, refl, same_some (f first) y at)
map-at f (first ∷ xs) (suc i) y at = map-at f xs i y at

pub all-named : (test : Identifier → Bool) (names : List Identifier) (name : Identifier) → list_all test names ≡ true → has_name names name ≡ true → test name ≡ true
all-named test [] name all e = absurd (cc)
all-named test (first ∷ names) name all e =
    elim (or_cases (same_name first name) (has_name names name) e) [
      | inl here ↦ ap test (sym (equal-name first name here)) ∙ and-left (test first) (list_all test names) all
      | inr later ↦ all-named test names name (and-right (test first) (list_all test names) all) later
    ]

pub any-named : (test : Identifier → Bool) (names : List Identifier) (name : Identifier) → has_name names name ≡ true → test name ≡ true → list_any test names ≡ true
any-named test [] name e passes = absurd (cc)
any-named test (first ∷ names) name e passes =
    elim (or_cases (same_name first name) (has_name names name) e) [
      | inl here ↦ or_left (test first) (list_any test names) (ap test (equal-name first name here) ∙ passes)
      | inr later ↦ or_right (test first) (list_any test names) (any-named test names name later passes)
    ]

pub named-append : (xs ys : List Identifier) (name : Identifier) → has_name (xs ++ ys) name ≡ (has_name xs name || has_name ys name)
named-append [] ys name = refl
named-append (x ∷ xs) ys name = ap (λ b. same_name x name || b) (named-append xs ys name) ∙ sym (assoc (same_name x name) (has_name xs name) (has_name ys name))
  where
    assoc : (a b c : Bool) → ((a || b) || c) ≡ (a || (b || c))
    assoc true b c = refl
    assoc false b c = refl

named-flat : {A : Type 0} (f : A → List Identifier) (xs : List A) (name : Identifier) → has_name (flat_map f xs) name ≡ true →
    (i : ℕ) × (x : A) × (slice_get xs i ≡ Some x) × (has_name (f x) name ≡ true)
named-flat f [] name e = absurd (cc)
named-flat f (x ∷ xs) name e =
    elim (or_cases (has_name (f x) name) (has_name (flat_map f xs) name) (sym (named-append (f x) (flat_map f xs) name) ∙ e)) [
      | inl here ↦ (0, x, refl, here)
      | inr later ↦ let r = named-flat f xs name later in (suc r.0, r.1, r.2, r.3)
    ]

-- Parts and behaviours

behaviour-at : (parts : List Part) (i : ℕ) (b : Behaviour) → slice_get (behaviours_of parts) i ≡ Some b →
    (k : ℕ) × (part : Part) × (m : ℕ) × (slice_get parts k ≡ Some part) × (slice_get (part_behaviour parts k part) m ≡ Some b)
behaviour-at parts i b at =
    let r = at-joined (part_behaviour parts) 0 parts i b at in
    let same : 0 + r.0 ≡ r.0 = omega arith in
    (r.0, r.1, r.2, r.3, ap (λ k. slice_get (part_behaviour parts k r.1) r.2) (sym same) ∙ r.4)

processes-at : (behaviours : List Behaviour) (i : ℕ) (process : WalkedProcess) → slice_get (processes_of behaviours) i ≡ Some process → (j : ℕ) × (slice_get behaviours j ≡ Some (IsProcess process))
processes-at [] i process at = absurd (cc)
processes-at (IsNode node ∷ rest) i process at = let r = processes-at rest i process at in (suc r.0, r.1)
processes-at (IsProcess first ∷ rest) zero process at = (0, ap (λ p. Some (IsProcess p)) (same_some first process at))
processes-at (IsProcess first ∷ rest) (suc i) process at = let r = processes-at rest i process at in (suc r.0, r.1)

nodes-at : (behaviours : List Behaviour) (i : ℕ) (node : WalkedNode) → slice_get (nodes_of behaviours) i ≡ Some node → (j : ℕ) × (slice_get behaviours j ≡ Some (IsNode node))
nodes-at [] i node at = absurd (cc)
nodes-at (IsProcess process ∷ rest) i node at = let r = nodes-at rest i node at in (suc r.0, r.1)
nodes-at (IsNode first ∷ rest) zero node at = (0, ap (λ n. Some (IsNode n)) (same_some first node at))
nodes-at (IsNode first ∷ rest) (suc i) node at = let r = nodes-at rest i node at in (suc r.0, r.1)

-- a part that stays a process
pub record IsProcessPart (parts : List Part) (process : WalkedProcess) : Type 0 where
  pub number : ℕ
  pub is : slice_get parts number ≡ Some (ProcessPart process)
  pub stays : process_behaviour parts number process process.targets ≡ IsProcess process

one-of : {A : Type 0} (x y : A) (m : ℕ) → slice_get (x ∷ []) m ≡ Some y → x ≡ y
one-of x y zero at = same_some x y at
one-of x y (suc m) at = absurd (cc)

same-process : (one other : WalkedProcess) → IsProcess one ≡ IsProcess other → one ≡ other
same-process one other e = cc

same-node : (one other : WalkedNode) → IsNode one ≡ IsNode other → one ≡ other
same-node one other e = cc

block-process : (signals : List Signal) (one other : WalkedProcess) (test : Bool) (targets : List Identifier) → block_or_process signals one test targets ≡ IsProcess other → one ≡ other
block-process signals one other true targets e = absurd (cc)
block-process signals one other false targets e = same-process one other e

behaviour-process : (parts : List Part) (number : ℕ) (one other : WalkedProcess) (targets : Option (List Identifier)) → process_behaviour parts number one targets ≡ IsProcess other → one ≡ other
behaviour-process parts number one other None e = same-process one other e
behaviour-process parts number one other (Some targets) e = block-process (signals_of parts) one other _ targets e

-- each process of a walk is a part that stays one
pub process-part : (parts : List Part) (i : ℕ) (process : WalkedProcess) → slice_get (processes_in parts) i ≡ Some process → IsProcessPart parts process
process-part parts i process at =
    let j = processes-at (behaviours_of parts) i process at in
    let r = behaviour-at parts j.0 (IsProcess process) j.1 in
    by_part r.0 r.1 r.2 r.3 r.4
  where
    by_part : (k : ℕ) (part : Part) (m : ℕ) → slice_get parts k ≡ Some part → slice_get (part_behaviour parts k part) m ≡ Some (IsProcess process) → IsProcessPart parts process
    by_part k (ProcessPart one) m is e =
        let b = one-of (process_behaviour parts k one one.targets) (IsProcess process) m e in
        let same = behaviour-process parts k one process one.targets b in
        record { number = k; is = is ∙ ap (λ p. Some (ProcessPart p)) same; stays = ap (λ (p : WalkedProcess). process_behaviour parts k p p.targets) (sym same) ∙ b }
    by_part k (AssignPart drives value) m is e = let b = one-of (IsNode (record { name = []; drives = drives; function = AssignFunction value })) (IsProcess process) m e in absurd (cc)
    by_part k (GatePart name kind drives path terminals) m is e =
        let b = one-of (IsNode (record { name = name; drives = drives; function = GateFunction kind path terminals })) (IsProcess process) m e in absurd (cc)
    by_part k (SignalPart signal) m is e = absurd (cc)
    by_part k (MemoryPart memory) m is e = absurd (cc)
    by_part k InstancePart m is e = absurd (cc)

-- a block that is a node
pub record IsBlockPart (parts : List Part) (node : WalkedNode) (process : WalkedProcess) : Type 0 where
  pub number : ℕ
  pub is : slice_get parts number ≡ Some (ProcessPart process)
  pub targets : List Identifier
  pub targets_is : process.targets ≡ Some targets
  pub own : list_all (is_own_target parts number) (target_signals process targets) ≡ true
  pub apart : reads_by_other_name (signals_of parts) process targets ≡ false
  pub drives : node.drives ≡ map (block_drive (signals_of parts) process) targets
  pub moves : process_behaviour parts number process process.targets ≡ IsNode node

not-true : (b : Bool) → not b ≡ true → b ≡ false
not-true true e = absurd (cc)
not-true false e = refl

-- a block of the walk's nodes
pub block-part : (parts : List Part) (i : ℕ) (node : WalkedNode) (process : WalkedProcess) → slice_get (nodes_in parts) i ≡ Some node → node.function ≡ BlockFunction process →
    IsBlockPart parts node process
block-part parts i node process at function =
    let j = nodes-at (behaviours_of parts) i node at in
    let r = behaviour-at parts j.0 (IsNode node) j.1 in
    by_part r.0 r.1 r.2 r.3 r.4
  where
    signals : List Signal
    signals = signals_of parts

    block-same : (one other : WalkedProcess) → BlockFunction one ≡ BlockFunction other → one ≡ other
    block-same one other e = cc

    by_test : (k : ℕ) (one : WalkedProcess) (targets : List Identifier) (test : Bool) → slice_get parts k ≡ Some (ProcessPart one) → one.targets ≡ Some targets →
        (list_all (is_own_target parts k) (target_signals one targets) && not (reads_by_other_name signals one targets)) ≡ test → block_or_process signals one test targets ≡ IsNode node →
        process_behaviour parts k one one.targets ≡ IsNode node → IsBlockPart parts node process
    by_test k one targets false is t tests e moves = absurd (cc)
    by_test k one targets true is t tests e moves =
        let made = same-node (record { name = []; drives = map (block_drive signals one) targets; function = BlockFunction one }) node e in
        let same : one ≡ process = block-same one process (ap (λ (n : WalkedNode). n.function) made ∙ function) in
        record {
          number = k;
          is = is ∙ ap (λ p. Some (ProcessPart p)) same;
          targets = targets;
          targets_is = ap (λ (p : WalkedProcess). p.targets) (sym same) ∙ t;
          own = ap (λ (p : WalkedProcess). list_all (is_own_target parts k) (target_signals p targets)) (sym same)
              ∙ and-left (list_all (is_own_target parts k) (target_signals one targets)) (not (reads_by_other_name signals one targets)) tests;
          apart = ap (λ (p : WalkedProcess). reads_by_other_name signals p targets) (sym same)
              ∙ not-true (reads_by_other_name signals one targets) (and-right (list_all (is_own_target parts k) (target_signals one targets)) (not (reads_by_other_name signals one targets)) tests);
          drives = ap (λ (n : WalkedNode). n.drives) (sym made) ∙ ap (λ (p : WalkedProcess). map (block_drive signals p) targets) same;
          moves = ap (λ (p : WalkedProcess). process_behaviour parts k p p.targets) (sym same) ∙ moves;
        }

    by_targets : (k : ℕ) (one : WalkedProcess) (targets : Option (List Identifier)) → slice_get parts k ≡ Some (ProcessPart one) → one.targets ≡ targets →
        process_behaviour parts k one targets ≡ IsNode node →
        process_behaviour parts k one one.targets ≡ IsNode node → IsBlockPart parts node process
    by_targets k one None is t e moves = absurd (cc)
    by_targets k one (Some targets) is t e moves = by_test k one targets (list_all (is_own_target parts k) (target_signals one targets) && not (reads_by_other_name signals one targets)) is t refl e
        moves

    by_part : (k : ℕ) (part : Part) (m : ℕ) → slice_get parts k ≡ Some part → slice_get (part_behaviour parts k part) m ≡ Some (IsNode node) → IsBlockPart parts node process
    by_part k (ProcessPart one) m is e =
        let b = one-of (process_behaviour parts k one one.targets) (IsNode node) m e in
        by_targets k one one.targets is refl b b
    by_part k (AssignPart drives value) m is e =
        let made = same-node (record { name = []; drives = drives; function = AssignFunction value }) node
        (one-of (IsNode (record { name = []; drives = drives; function = AssignFunction value })) (IsNode node) m e) in
        let wrong : AssignFunction value ≡ BlockFunction process = ap (λ (n : WalkedNode). n.function) made ∙ function in
        absurd (cc)
    by_part k (GatePart name kind drives path terminals) m is e =
        let made = same-node (record { name = name; drives = drives; function = GateFunction kind path terminals }) node
        (one-of (IsNode (record { name = name; drives = drives; function = GateFunction kind path terminals })) (IsNode node) m e) in
        let wrong : GateFunction kind path terminals ≡ BlockFunction process = ap (λ (n : WalkedNode). n.function) made ∙ function in
        absurd (cc)
    by_part k (SignalPart signal) m is e = absurd (cc)
    by_part k (MemoryPart memory) m is e = absurd (cc)
    by_part k InstancePart m is e = absurd (cc)

-- Variables that processes assign

driven-named : (drive : Identifier → Drive) (name : Identifier) (names : List Identifier) → has_name (drive_signals (map drive names)) name ≡ true →
    has_name (map (λ n. (drive n).signal) names) name ≡ true
driven-named drive name [] e = absurd (cc)
driven-named drive name (first ∷ names) e =
    elim (cases_Bool (drives_some (drive first))) [
      | inl some ↦
          let kept = ap (λ l. has_name (map (λ (d : Drive). d.signal) l) name) (sym (cond-true (drives_some (drive first)) (drive first ∷ filter drives_some (map drive names))
          (filter drives_some (map drive names)) some)) ∙ e in
          elim (or_cases (same_name (drive first).signal name) (has_name (drive_signals (map drive names)) name) kept) [
            | inl here ↦ or_left (same_name (drive first).signal name) (has_name (map (λ n. (drive n).signal) names) name) here
            | inr later ↦ or_right (same_name (drive first).signal name) (has_name (map (λ n. (drive n).signal) names) name) (driven-named drive name names later)
          ]
      | inr none ↦
          let lost = ap (λ l. has_name (map (λ (d : Drive). d.signal) l) name) (sym (cond-false (drives_some (drive first)) (drive first ∷ filter drives_some (map drive names))
          (filter drives_some (map drive names)) none)) ∙ e in
          or_right (same_name (drive first).signal name) (has_name (map (λ n. (drive n).signal) names) name) (driven-named drive name names lost)
    ]

-- a part that writes an object and isn't the one of a number
other-writes : (signals : List Signal) (number : ℕ) (object : Identifier) (start k : ℕ) (parts : List Part) (part : Part) → slice_get parts k ≡ Some part → (start + k ≡ number → ⊥) →
    writes_object signals object part ≡ true →
    other_writes signals number object start parts ≡ true
other-writes signals number object start k [] part at other writes = absurd (cc)
other-writes signals number object start zero (first ∷ parts) part at other writes =
    let apart : nat_eq start number ≡ false =
    elim (cases_Bool (nat_eq start number)) [
      | inl same ↦ let e = eqb-true start number same in absurd (other (omega (arith, e)))
      | inr differs ↦ differs
    ] in
    or_left (not (nat_eq start number) && writes_object signals object first) (other_writes signals number object (start + 1) parts)
    (both-true (not (nat_eq start number)) (writes_object signals object first) (ap not apart) (ap (writes_object signals object) (same_some first part at) ∙ writes))
other-writes signals number object start (suc k) (first ∷ parts) part at other writes =
    or_right (not (nat_eq start number) && writes_object signals object first) (other_writes signals number object (start + 1) parts)
    (other-writes signals number object (start + 1) k parts part at (λ e. other (omega (arith, e))) writes)

-- a variable that a statement assigns is among those of its process
assigned-variable : (process : WalkedProcess) (i : ℕ) (n : NamedPlace) → slice_get (assigned_names process.body) i ≡ Some n → is_reg (looked_up process.scope n.name) ≡ true →
    has_name (variables_assigned process) (process.path ++ n.name) ≡ true
assigned-variable process i n at reg =
    let names = map (λ (m : NamedPlace). m.name) (assigned_names process.body) in
    let test : Identifier → Bool = λ name. is_reg (looked_up process.scope name) in
    let kept = filter-at test names i n.name (at-map (λ (m : NamedPlace). m.name) (assigned_names process.body) i n at) reg in
    name-there (map (λ name. process.path ++ name) (filter test names)) kept.0 (process.path ++ n.name) (at-map (λ name. process.path ++ name) (filter test names) kept.0 n.name kept.1)

-- a block that is a node assigns no variable that a process assigns
pub process-apart : (parts : List Part) (process : WalkedProcess) → IsProcessPart parts process →
    (node : WalkedNode) (block : WalkedProcess) (moves : IsBlockPart parts node block) (name : Identifier) →
    has_name (variables_assigned process) name ≡ true → has_name (target_signals block moves.targets) name ≡ true → ⊥
process-apart parts process stays node block moves name writes target =
    let signals = signals_of parts in
    let object = outermost signals name in
    let own = all-named (is_own_target parts moves.number) (target_signals block moves.targets) name moves.own target in
    let none = not-true (other_writes signals moves.number object 0 parts) (and-right (not (port_writes signals name)) (not (other_writes signals moves.number object 0 parts)) own) in
    let written : writes_object signals object (ProcessPart process) ≡ true = any-named (λ n. same_name (outermost signals n) object) (variables_assigned process) name writes (name-same object) in
    let differs : 0 + stays.number ≡ moves.number → ⊥ = λ e.
    let number : stays.number ≡ moves.number = omega (arith, e) in
    let part : ProcessPart process ≡ ProcessPart block = same_some (ProcessPart process) (ProcessPart block) (sym stays.is ∙ ap (slice_get parts) number ∙ moves.is) in
    let same : process ≡ block = same-part process block part in
    let wrong : IsProcess process ≡ IsNode node = sym stays.stays ∙ ap (λ k. process_behaviour parts k process process.targets) number
    ∙ ap (λ (p : WalkedProcess). process_behaviour parts moves.number p p.targets) same ∙ moves.moves in
    never process node wrong in
    let both : true ≡ false = sym (other-writes signals moves.number object 0 stays.number parts (ProcessPart process) stays.is differs written) ∙ none in
    absurd (cc)
  where
    same-part : (one other : WalkedProcess) → ProcessPart one ≡ ProcessPart other → one ≡ other
    same-part one other e = cc

    never : (process : WalkedProcess) (node : WalkedNode) → IsProcess process ≡ IsNode node → ⊥
    never process node e = absurd (cc)

-- the signals that a node's block drives are its targets
block-named : (parts : List Part) (node : WalkedNode) (name : Identifier) → has_name (block_signals node) name ≡ true →
    (process : WalkedProcess) × (node.function ≡ BlockFunction process) × (has_name (drive_signals node.drives) name ≡ true)
block-named parts node name e = by_function node.function refl
  where
    by_function : (function : NodeFunction) → node.function ≡ function → (process : WalkedProcess) × (node.function ≡ BlockFunction process) × (has_name (drive_signals node.drives) name ≡ true)
    by_function (AssignFunction value) is = let none : false ≡ true = sym (ap (λ f. has_name (block_signals (record node { function = f })) name) is) ∙ e in absurd (cc)
    by_function (GateFunction kind path terminals) is = let none : false ≡ true = sym (ap (λ f. has_name (block_signals (record node { function = f })) name) is) ∙ e in absurd (cc)
    by_function (BlockFunction process) is = (process, is, sym (ap (λ f. has_name (block_signals (record node { function = f })) name) is) ∙ e)

-- a variable that a process assigns drives its object
pub process-drives : (parts : List Part) (process : WalkedProcess) → IsProcessPart parts process → (signal : Signal) → signal.is_reg ≡ true →
    has_name (variables_assigned process) signal.name ≡ true → is_driving (nodes_in parts) signal ≡ true
process-drives parts process stays signal reg writes =
    both-true signal.is_reg (not (has_name (flat_map block_signals (nodes_in parts)) signal.name)) reg
    (elim (cases_Bool (has_name (flat_map block_signals (nodes_in parts)) signal.name)) [
      | inl there ↦
          let r = named-flat block_signals (nodes_in parts) signal.name there in
          let block = block-named parts r.1 signal.name r.3 in
          let moves = block-part parts r.0 r.1 block.0 r.2 block.1 in
          let driven = driven-named (block_drive (signals_of parts) block.0) signal.name moves.targets (ap (λ drives. has_name (drive_signals drives) signal.name) (sym moves.drives) ∙ block.2) in
          absurd (process-apart parts process stays r.1 block.0 moves signal.name writes driven)
      | inr none ↦ ap not none
    ])

-- and so does one that a statement of it assigns
pub assigned-drives : (parts : List Part) (process : WalkedProcess) → IsProcessPart parts process → (i : ℕ) (n : NamedPlace) → slice_get (assigned_names process.body) i ≡ Some n →
    is_reg (looked_up process.scope n.name) ≡ true →
    (signal : Signal) → signal.is_reg ≡ true → signal.name ≡ process.path ++ n.name → is_driving (nodes_in parts) signal ≡ true
assigned-drives parts process stays i n at reg signal is_reg name = process-drives parts process stays signal is_reg
    (ap (has_name (variables_assigned process)) name ∙ assigned-variable process i n at reg)
