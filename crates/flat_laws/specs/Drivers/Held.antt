-- The objects of a name hold its bits: a net or a variable has pieces of its width together, a memory a word for each address (IEEE 1364-2001, clause 3.2 and clause 3.10).
use Rattle.std.proofs.Common.{◌≡◌, ℕ, zero, suc, ◌+◌, min, Bool, true, false, List, [], ◌∷◌, ◌++◌, length, map, Option, Some, None, refl, ap, sym, ◌∙◌, subst, inl, inr, arith}
use Rattle.std.specs.Prelude.{slice_get, flat_map, sum_by}
use Rattle.std.proofs.lemmas.Bool.{cases_Bool}
use Rattle.std.proofs.lemmas.List.{length-map}
use Rattle.std.proofs.lemmas.List.Sums.{sum_by-cons, sum_by-append}
use Rattle.vf_base.specs.Lists.{map_numbered, joined, AllHold}
use Rattle.v_design.specs.Trees.{Piece, Memory}
use Rattle.v_design.specs.Expressions.{up_from}
use Rattle.v_design.specs.Sized.{span, pieces_width, HasItsBits, HasItsWords}
use Rattle.v_tree.specs.Trees.{Identifier, same_name, SourceExpression, Number, Selected, Parenthesised, Prefixed, Infixed, Chosen, Concatenated, Replicated, SourceIndex, NoIndex, IndexAt}
use Rattle.v_tree.specs.Trees.{IndexRange, SourceExpressions, no_parts, more_parts}
use Rattle.v_names.specs.Scopes.{DeclaredRange, ScopeEntry, ParameterEntry, RefusedParameter, WaitingParameter, NetEntry, RegEntry, MemoryEntry, GateEntry, InstanceEntry, Scope, looked_up}
use Rattle.v_names.specs.Scopes.{range_width}
use Rattle.v_names.specs.SizedTrees.{Holders}
use Rattle.v_names.specs.SizedLaws.{IsHeld, AreHeld, AreHeldInIndex, AreHeldInParts}
use Rattle.v_ports.specs.Pieces.{CutPiece, pieces_of}
use Rattle.v_elab.specs.Parts.{Signal, WalkedMemory, Part, SignalPart, MemoryPart, AssignPart, GatePart, ProcessPart, InstancePart}
use Rattle.v_elab.specs.Drivers.{signals_of, signal_named, outermost, is_unjoined, WalkedNode, driving_variables, ObjectDrive, object_drives, run_of}
use Rattle.v_elab.specs.Objects.{HeldObject, variable_object, piece_object, pieces_or_variable, signal_objects, word_object, word_objects, part_objects, objects_of_parts, piece_if, pieces_held}
use Rattle.v_elab.specs.Objects.{range_of_signal, vector_of_name, memories_of, memory_vector, memory_if, memory_of_name, holders_at}
use Rattle.graph_order.specs.ListLaws.{AllHold-slice_get, sum_by-none}
use Rattle.flat_laws.specs.Lists.{same_some}
use Rattle.flat_laws.specs.Numbered.{AllHold-map, AllHold-all}
use Rattle.flat_laws.specs.Drivers.Pieces.{pieces-width}
use Rattle.flat_laws.specs.Hierarchy.Given.{equal-name, name-same, part_name, IsHierarchy, signal-part, signal-found, outermost-is}

-- What objects weigh

abbrev pub weight_if : Bool → ℕ → ℕ
weight_if true weight = weight
weight_if false weight = 0

-- the weight of an object, where it holds bits of a name
abbrev pub weight_of : (HeldObject → ℕ) → Identifier → HeldObject → ℕ
weight_of weight holder held = weight_if (same_name held.holder holder) (weight held)

piece-weight : (g : Piece → ℕ) (weight : HeldObject → ℕ) → ((number : ℕ) (held : HeldObject) → g (record { object = number; width = held.object.width }) ≡ weight held) →
    (test : Bool) (number : ℕ) (held : HeldObject) →
    sum_by g (piece_if test number held) ≡ weight_if test (weight held)
piece-weight g weight same true number held =
    let here = same number held in
    let one : sum_by g (record { object = number; width = held.object.width } ∷ []) ≡ g (record { object = number; width = held.object.width }) + sum_by g [] =
    sum_by-cons g (record { object = number; width = held.object.width }) [] in
    let none : sum_by g [] ≡ 0 = refl in
    omega (arith, here, one, none)
piece-weight g weight same false number held = refl

-- the pieces of a name weigh what the objects that hold it weigh
pub held-weight : (g : Piece → ℕ) (weight : HeldObject → ℕ) → ((number : ℕ) (held : HeldObject) → g (record { object = number; width = held.object.width }) ≡ weight held) →
    (holder : Identifier) (start : ℕ) (objects : List HeldObject) →
    sum_by g (joined (map_numbered (λ number (held : HeldObject). piece_if (same_name held.holder holder) number held) start objects)) ≡ sum_by (weight_of weight holder) objects
held-weight g weight same holder start [] = refl
held-weight g weight same holder start (held ∷ objects) =
    let first = piece_if (same_name held.holder holder) start held in
    let rest = joined (map_numbered (λ number (h : HeldObject). piece_if (same_name h.holder holder) number h) (start + 1) objects) in
    let split : sum_by g (first ++ rest) ≡ sum_by g first + sum_by g rest = sum_by-append g first rest in
    let here : sum_by g first ≡ weight_of weight holder held = piece-weight g weight same (same_name held.holder holder) start held in
    let later : sum_by g rest ≡ sum_by (weight_of weight holder) objects = held-weight g weight same holder (start + 1) objects in
    let whole : sum_by (weight_of weight holder) (held ∷ objects) ≡ weight_of weight holder held + sum_by (weight_of weight holder) objects = sum_by-cons (weight_of weight holder) held objects in
    omega (arith, split, here, later, whole)

-- Of all parts one alone has a name

-- a sum of which one term alone isn't 0
sum-only : {A : Type 0} (f : A → ℕ) (xs : List A) (i : ℕ) (x : A) → slice_get xs i ≡ Some x → ((j : ℕ) (y : A) → slice_get xs j ≡ Some y → (j ≡ i → ⊥) → f y ≡ 0) → sum_by f xs ≡ f x
sum-only f [] i x at none = absurd (cc)
sum-only f (z ∷ xs) zero x at none =
    let here : f z ≡ f x = ap f (same_some z x at) in
    let rest : sum_by f xs ≡ 0 = sum_by-none f xs (λ j y there. none (suc j) y there (λ e. omega arith)) in
    omega (arith, sum_by-cons f z xs, here, rest)
sum-only f (z ∷ xs) (suc i) x at none =
    let here : f z ≡ 0 = none 0 z refl (λ e. omega arith) in
    let rest : sum_by f xs ≡ f x = sum-only f xs i x at (λ j y there other. none (suc j) y there (λ e. other (omega (arith, e)))) in
    omega (arith, sum_by-cons f z xs, here, rest)

sum-flat_map : {A B : Type 0} (f : B → ℕ) (g : A → List B) (xs : List A) → sum_by f (flat_map g xs) ≡ sum_by (λ x. sum_by f (g x)) xs
sum-flat_map f g [] = refl
sum-flat_map f g (x ∷ xs) =
    let split : sum_by f (g x ++ flat_map g xs) ≡ sum_by f (g x) + sum_by f (flat_map g xs) = sum_by-append f (g x) (flat_map g xs) in
    let rest : sum_by f (flat_map g xs) ≡ sum_by (λ y. sum_by f (g y)) xs = sum-flat_map f g xs in
    let whole : sum_by (λ y. sum_by f (g y)) (x ∷ xs) ≡ sum_by f (g x) + sum_by (λ y. sum_by f (g y)) xs = sum_by-cons (λ y. sum_by f (g y)) x xs in
    omega (arith, split, rest, whole)

-- objects that hold another name weigh nothing
other-weight : (weight : HeldObject → ℕ) (holder name : Identifier) (objects : List HeldObject) → AllHold (λ (held : HeldObject). held.holder ≡ name) objects → (name ≡ holder → ⊥) →
    sum_by (weight_of weight holder) objects ≡ 0
other-weight weight holder name objects held_by other =
    sum_by-none (weight_of weight holder) objects
    (λ i held at.
    elim (cases_Bool (same_name held.holder holder)) [
      | inl same ↦ absurd (other (sym (AllHold-slice_get (λ (h : HeldObject). h.holder ≡ name) objects i held held_by at) ∙ equal-name held.holder holder same))
      | inr differs ↦ ap (λ b. weight_if b (weight held)) differs
    ])

pieces-holder : (signal : Signal) (drives : List ObjectDrive) (driving : List Signal) → AllHold (λ (held : HeldObject). held.holder ≡ signal.name) (pieces_or_variable signal drives driving)
pieces-holder signal drives [] =
    AllHold-map (λ (held : HeldObject). held.holder ≡ signal.name) (piece_object signal drives) _
    (AllHold-all (λ (piece : CutPiece). (piece_object signal drives piece).holder ≡ signal.name) _ (λ piece. refl))
pieces-holder signal drives (first ∷ rest) = (refl, tt)

pub signal-holder : (signals : List Signal) (nodes : List WalkedNode) (unjoined : Bool) (signal : Signal) →
    AllHold (λ (held : HeldObject). held.holder ≡ signal.name) (signal_objects signals nodes unjoined signal)
signal-holder signals nodes true signal = pieces-holder signal (object_drives signals nodes signal.name) (driving_variables signals nodes signal.name)
signal-holder signals nodes false signal = tt

memory-holder : (memory : WalkedMemory) → AllHold (λ (held : HeldObject). held.holder ≡ memory.name) (word_objects memory)
memory-holder memory = AllHold-map (λ (held : HeldObject). held.holder ≡ memory.name) (word_object memory) _
    (AllHold-all (λ address. (word_object memory address).holder ≡ memory.name) _ (λ address. refl))

-- a part of another name holds nothing of a name
part-other : (signals : List Signal) (nodes : List WalkedNode) (weight : HeldObject → ℕ) (holder : Identifier) (part : Part) → (part_name part ≡ Some holder → ⊥) →
    sum_by (weight_of weight holder) (part_objects signals nodes part) ≡ 0
part-other signals nodes weight holder (SignalPart signal) other =
    other-weight weight holder signal.name (signal_objects signals nodes (is_unjoined signal) signal) (signal-holder signals nodes (is_unjoined signal) signal) (λ e. other (ap Some e))
part-other signals nodes weight holder (MemoryPart memory) other = other-weight weight holder memory.name (word_objects memory) (memory-holder memory) (λ e. other (ap Some e))
part-other signals nodes weight holder (AssignPart drives value) other = refl
part-other signals nodes weight holder (GatePart name kind drives path terminals) other = refl
part-other signals nodes weight holder (ProcessPart process) other = refl
part-other signals nodes weight holder InstancePart other = refl

-- the objects of a name are those of the part that has it
pub part-weight : (parts : List Part) (nodes : List WalkedNode) → IsHierarchy parts → (weight : HeldObject → ℕ) (holder : Identifier) (i : ℕ) (part : Part) → slice_get parts i ≡ Some part →
    part_name part ≡ Some holder →
    sum_by (weight_of weight holder) (objects_of_parts parts nodes) ≡ sum_by (weight_of weight holder) (part_objects (signals_of parts) nodes part)
part-weight parts nodes hierarchy weight holder i part at is =
    sum-flat_map (weight_of weight holder) (part_objects (signals_of parts) nodes) parts
    ∙ sum-only (λ p. sum_by (weight_of weight holder) (part_objects (signals_of parts) nodes p)) parts i part at
    (λ j other there apart. part-other (signals_of parts) nodes weight holder other (λ e. apart (hierarchy.once j i other part holder there at e is)))

-- The width of a net or a variable

pub same-width : (g : HeldObject → ℕ) (name : Identifier) (held : HeldObject) → held.holder ≡ name → weight_of g name held ≡ g held
same-width g name held e = ap (λ b. weight_if b (g held)) (ap (λ (n : Identifier). same_name n name) e ∙ name-same name)

-- the weights of a list that is made of another
sum-made : {A : Type 0} (f : HeldObject → ℕ) (g : A → ℕ) (make : A → HeldObject) (xs : List A) → ((x : A) → f (make x) ≡ g x) → sum_by f (map make xs) ≡ sum_by g xs
sum-made f g make [] same = refl
sum-made f g make (x ∷ xs) same =
    let here = same x in
    let rest : sum_by f (map make xs) ≡ sum_by g xs = sum-made f g make xs same in
    let one : sum_by f (map make (x ∷ xs)) ≡ f (make x) + sum_by f (map make xs) = sum_by-cons f (make x) (map make xs) in
    let other : sum_by g (x ∷ xs) ≡ g x + sum_by g xs = sum_by-cons g x xs in
    omega (arith, here, rest, one, other)

pub single-weight : (f : HeldObject → ℕ) (held : HeldObject) (weight : ℕ) → f held ≡ weight → sum_by f (held ∷ []) ≡ weight
single-weight f held weight e =
    let one : sum_by f (held ∷ []) ≡ f held + sum_by f [] = sum_by-cons f held [] in
    let none : sum_by f [] ≡ 0 = refl in
    omega (arith, one, none, e)

own-width : (signal : Signal) (drives : List ObjectDrive) (driving : List Signal) → sum_by (weight_of (λ (held : HeldObject). held.object.width) signal.name)
    (pieces_or_variable signal drives driving) ≡ range_width signal.range
own-width signal drives [] =
    sum-made (weight_of (λ (held : HeldObject). held.object.width) signal.name) (λ (piece : CutPiece). piece.width) (piece_object signal drives)
    (pieces_of (range_width signal.range) (map run_of drives))
    (λ piece. same-width (λ (held : HeldObject). held.object.width) signal.name (piece_object signal drives piece) refl)
    ∙ pieces-width (range_width signal.range) (map run_of drives)
own-width signal drives (first ∷ rest) =
    single-weight (weight_of (λ (held : HeldObject). held.object.width) signal.name) (variable_object signal first) (range_width signal.range)
    (same-width (λ (held : HeldObject). held.object.width) signal.name (variable_object signal first) refl)

-- a signal that isn't joined
pub unjoined-is : (signal : Signal) → signal.joined ≡ None → is_unjoined signal ≡ true
unjoined-is signal e = ap (λ j. is_unjoined (record signal { joined = j })) e

-- the pieces of an unjoined signal have its width
unjoined-width : (parts : List Part) (nodes : List WalkedNode) → IsHierarchy parts → (i : ℕ) (signal : Signal) → slice_get (signals_of parts) i ≡ Some signal → signal.joined ≡ None →
    pieces_width (pieces_held (objects_of_parts parts nodes) signal.name) ≡ range_width signal.range
unjoined-width parts nodes hierarchy i signal at unjoined =
    let part = signal-part parts i signal at in
    held-weight (λ (piece : Piece). piece.width) (λ (held : HeldObject). held.object.width) (λ number held. refl) signal.name 0 (objects_of_parts parts nodes)
    ∙ part-weight parts nodes hierarchy (λ (held : HeldObject). held.object.width) signal.name part.0 (SignalPart signal) part.1 refl
    ∙ ap (λ b. sum_by (weight_of (λ (held : HeldObject). held.object.width) signal.name) (signal_objects (signals_of parts) nodes b signal)) (unjoined-is signal unjoined)
    ∙ own-width signal (object_drives (signals_of parts) nodes signal.name) (driving_variables (signals_of parts) nodes signal.name)

-- what holds a net or a variable has the bounds of its range and its width
pub record HoldsRange (parts : List Part) (objects : List HeldObject) (name : Identifier) (range : DeclaredRange) : Type 0 where
  pub width : pieces_width (vector_of_name (signals_of parts) objects name).pieces ≡ range_width range
  pub bits : HasItsBits (vector_of_name (signals_of parts) objects name)
  pub bounds : range_of_signal (signal_named (signals_of parts) name) ≡ range

pub signal-holds : (parts : List Part) (nodes : List WalkedNode) → IsHierarchy parts → (i : ℕ) (signal : Signal) → slice_get (signals_of parts) i ≡ Some signal →
    HoldsRange parts (objects_of_parts parts nodes) signal.name signal.range
signal-holds parts nodes hierarchy i signal at =
    let last = outermost-is parts hierarchy i signal at in
    let width : pieces_width (pieces_held (objects_of_parts parts nodes) (outermost (signals_of parts) signal.name)) ≡ range_width signal.range =
    ap (λ name. pieces_width (pieces_held (objects_of_parts parts nodes) name)) last.name_is ∙ unjoined-width parts nodes hierarchy last.number last.outer last.is last.unjoined ∙ last.width in
    let bounds : range_of_signal (signal_named (signals_of parts) signal.name) ≡ signal.range = ap range_of_signal (signal-found parts hierarchy i signal at) in
    record { width = width; bits = width ∙ ap range_width (sym bounds); bounds = bounds }

-- The words of a memory

pub length-ones : {A : Type 0} (xs : List A) → length xs ≡ sum_by (λ x. 1) xs
length-ones [] = refl
length-ones (x ∷ xs) = omega (arith, length-ones xs, sum_by-cons (λ y. 1) x xs)

ones-up_from : (start count : ℕ) → sum_by (λ n. 1) (up_from start count) ≡ count
ones-up_from start zero = refl
ones-up_from start (suc count) = omega (arith, ones-up_from (start + 1) count, sum_by-cons (λ n. 1) start (up_from (start + 1) count))

pub memory-part : (parts : List Part) (i : ℕ) (memory : WalkedMemory) → slice_get (memories_of parts) i ≡ Some memory → (k : ℕ) × (slice_get parts k ≡ Some (MemoryPart memory))
memory-part [] i memory at = absurd (cc)
memory-part (MemoryPart first ∷ parts) zero memory at = (0, ap (λ m. Some (MemoryPart m)) (same_some first memory at))
memory-part (MemoryPart first ∷ parts) (suc i) memory at = let r = memory-part parts i memory at in (suc r.0, r.1)
memory-part (SignalPart signal ∷ parts) i memory at = let r = memory-part parts i memory at in (suc r.0, r.1)
memory-part (AssignPart drives value ∷ parts) i memory at = let r = memory-part parts i memory at in (suc r.0, r.1)
memory-part (GatePart name kind drives path terminals ∷ parts) i memory at = let r = memory-part parts i memory at in (suc r.0, r.1)
memory-part (ProcessPart process ∷ parts) i memory at = let r = memory-part parts i memory at in (suc r.0, r.1)
memory-part (InstancePart ∷ parts) i memory at = let r = memory-part parts i memory at in (suc r.0, r.1)

pub part-memory : (parts : List Part) (k : ℕ) (memory : WalkedMemory) → slice_get parts k ≡ Some (MemoryPart memory) → (i : ℕ) × (slice_get (memories_of parts) i ≡ Some memory)
part-memory [] k memory at = absurd (cc)
part-memory (MemoryPart first ∷ parts) zero memory at = (0, (cc))
part-memory (MemoryPart first ∷ parts) (suc k) memory at = let r = part-memory parts k memory at in (suc r.0, r.1)
part-memory (SignalPart signal ∷ parts) zero memory at = absurd (cc)
part-memory (SignalPart signal ∷ parts) (suc k) memory at = part-memory parts k memory at
part-memory (AssignPart drives value ∷ parts) zero memory at = absurd (cc)
part-memory (AssignPart drives value ∷ parts) (suc k) memory at = part-memory parts k memory at
part-memory (GatePart name kind drives path terminals ∷ parts) zero memory at = absurd (cc)
part-memory (GatePart name kind drives path terminals ∷ parts) (suc k) memory at = part-memory parts k memory at
part-memory (ProcessPart process ∷ parts) zero memory at = absurd (cc)
part-memory (ProcessPart process ∷ parts) (suc k) memory at = part-memory parts k memory at
part-memory (InstancePart ∷ parts) zero memory at = absurd (cc)
part-memory (InstancePart ∷ parts) (suc k) memory at = part-memory parts k memory at

pub part-in-signals : (parts : List Part) (k : ℕ) (signal : Signal) → slice_get parts k ≡ Some (SignalPart signal) → (i : ℕ) × (slice_get (signals_of parts) i ≡ Some signal)
part-in-signals [] k signal at = absurd (cc)
part-in-signals (SignalPart first ∷ parts) zero signal at = (0, (cc))
part-in-signals (SignalPart first ∷ parts) (suc k) signal at = let r = part-in-signals parts k signal at in (suc r.0, r.1)
part-in-signals (MemoryPart memory ∷ parts) zero signal at = absurd (cc)
part-in-signals (MemoryPart memory ∷ parts) (suc k) signal at = part-in-signals parts k signal at
part-in-signals (AssignPart drives value ∷ parts) zero signal at = absurd (cc)
part-in-signals (AssignPart drives value ∷ parts) (suc k) signal at = part-in-signals parts k signal at
part-in-signals (GatePart name kind drives path terminals ∷ parts) zero signal at = absurd (cc)
part-in-signals (GatePart name kind drives path terminals ∷ parts) (suc k) signal at = part-in-signals parts k signal at
part-in-signals (ProcessPart process ∷ parts) zero signal at = absurd (cc)
part-in-signals (ProcessPart process ∷ parts) (suc k) signal at = part-in-signals parts k signal at
part-in-signals (InstancePart ∷ parts) zero signal at = absurd (cc)
part-in-signals (InstancePart ∷ parts) (suc k) signal at = part-in-signals parts k signal at

memory-same : (one other : WalkedMemory) → MemoryPart one ≡ MemoryPart other → one ≡ other
memory-same one other e = cc

-- a memory that a name finds
some-memory : (objects : List HeldObject) (memories : List WalkedMemory) (i : ℕ) (memory : WalkedMemory) → slice_get memories i ≡ Some memory →
    (j : ℕ) × (found : WalkedMemory) × (slice_get memories j ≡ Some found) × (found.name ≡ memory.name) × (memory_of_name objects memories memory.name ≡ memory_vector objects found)
some-memory objects [] i memory at = absurd (cc)
some-memory objects (first ∷ memories) i memory at =
    elim (cases_Bool (same_name first.name memory.name)) [
      | inl same ↦ (0, first, refl, equal-name first.name memory.name same, ap (λ b. memory_if b (memory_vector objects first) (memory_of_name objects memories memory.name)) same)
      | inr differs ↦ later i at differs (λ k there. some-memory objects memories k memory there)
    ]
  where
    Found : List WalkedMemory → Type 0
    Found all = (j : ℕ) × (found : WalkedMemory) × (slice_get all j ≡ Some found) × (found.name ≡ memory.name) × (memory_of_name objects all memory.name ≡ memory_vector objects found)

    later : (k : ℕ) → slice_get (first ∷ memories) k ≡ Some memory → same_name first.name memory.name ≡ false →
        ((k : ℕ) → slice_get memories k ≡ Some memory → (j : ℕ) × (found : WalkedMemory) × (slice_get memories j ≡ Some found) × (found.name ≡ memory.name)
        × (memory_of_name objects memories memory.name ≡ memory_vector objects found)) →
        (j : ℕ) × (found : WalkedMemory) × (slice_get (first ∷ memories) j ≡ Some found) × (found.name ≡ memory.name)
        × (memory_of_name objects (first ∷ memories) memory.name ≡ memory_vector objects found)
    later zero there differs rest =
        let same : same_name first.name memory.name ≡ true = ap (λ (m : WalkedMemory). same_name first.name m.name) (sym (same_some first memory there)) ∙ name-same first.name in
        let both : false ≡ true = sym differs ∙ same in
        absurd (cc)
    later (suc k) there differs rest =
        let r = rest k there in (suc r.0, r.1, r.2, r.3, ap (λ b. memory_if b (memory_vector objects first) (memory_of_name objects memories memory.name)) differs ∙ r.4)

memory-found : (parts : List Part) (objects : List HeldObject) → IsHierarchy parts → (k : ℕ) (memory : WalkedMemory) → slice_get parts k ≡ Some (MemoryPart memory) →
    memory_of_name objects (memories_of parts) memory.name ≡ memory_vector objects memory
memory-found parts objects hierarchy k memory at =
    let place = part-memory parts k memory at in
    let found = some-memory objects (memories_of parts) place.0 memory place.1 in
    let first = memory-part parts found.0 found.1 found.2 in
    let same : first.0 ≡ k = hierarchy.once first.0 k (MemoryPart found.1) (MemoryPart memory) memory.name first.1 at (ap Some found.3) refl in
    let is : found.1 ≡ memory = memory-same found.1 memory (same_some (MemoryPart found.1) (MemoryPart memory) (sym first.1 ∙ ap (slice_get parts) same ∙ at)) in
    found.4 ∙ ap (memory_vector objects) is

own-words : (memory : WalkedMemory) → sum_by (weight_of (λ held. 1) memory.name) (word_objects memory) ≡ span memory.first memory.last
own-words memory =
    sum-made (weight_of (λ held. 1) memory.name) (λ address. 1) (word_object memory) (up_from (min memory.first memory.last) (span memory.first memory.last))
    (λ address. same-width (λ held. 1) memory.name (word_object memory address) refl)
    ∙ ones-up_from (min memory.first memory.last) (span memory.first memory.last)

-- what holds a memory has a word for each address
pub memory-holds : (parts : List Part) (nodes : List WalkedNode) → IsHierarchy parts → (k : ℕ) (memory : WalkedMemory) → slice_get parts k ≡ Some (MemoryPart memory) →
    HasItsWords (memory_of_name (objects_of_parts parts nodes) (memories_of parts) memory.name)
    × ((memory_of_name (objects_of_parts parts nodes) (memories_of parts) memory.name).width ≡ range_width memory.range)
memory-holds parts nodes hierarchy k memory at =
    let objects = objects_of_parts parts nodes in
    let pieces = pieces_held objects memory.name in
    let words : length (map (λ (p : Piece). p.object) pieces) ≡ span memory.first memory.last =
    length-map pieces (λ (p : Piece). p.object) ∙ length-ones pieces ∙ held-weight (λ piece. 1) (λ held. 1) (λ number held. refl) memory.name 0 objects
    ∙ part-weight parts nodes hierarchy (λ held. 1) memory.name k (MemoryPart memory) at refl ∙ own-words memory in
    let P : Memory → Type 0 = λ m. HasItsWords m × (m.width ≡ range_width memory.range) in
    subst P (sym (memory-found parts objects hierarchy k memory at)) (words, refl)

-- Scopes

-- what a name of a scope means stands among the parts under the hierarchical name
abbrev pub IsDeclaredAs : List Part → Identifier → Option ScopeEntry → Type 0
IsDeclaredAs parts full (Some (NetEntry range signed)) = (k : ℕ) × (signal : Signal) × (slice_get parts k ≡ Some (SignalPart signal)) × (signal.name ≡ full) × (signal.range ≡ range)
IsDeclaredAs parts full (Some (RegEntry range signed)) = (k : ℕ) × (signal : Signal) × (slice_get parts k ≡ Some (SignalPart signal)) × (signal.name ≡ full) × (signal.range ≡ range)
IsDeclaredAs parts full (Some (MemoryEntry range first last signed)) = (k : ℕ) × (memory : WalkedMemory) × (slice_get parts k ≡ Some (MemoryPart memory)) × (memory.name ≡ full)
    × (memory.range ≡ range)
IsDeclaredAs parts full _ = Unit {0}

-- a scope of an instance whose names stand behind a path
abbrev pub IsScopeAt : List Part → Identifier → Scope → Type 0
IsScopeAt parts path scope = (name : Identifier) → IsDeclaredAs parts (path ++ name) (looked_up scope name)

vector-held : (parts : List Part) (nodes : List WalkedNode) → IsHierarchy parts → (path name : Identifier) (range : DeclaredRange) (k : ℕ) (signal : Signal) →
    slice_get parts k ≡ Some (SignalPart signal) → signal.name ≡ path ++ name →
    signal.range ≡ range → HasItsBits ((holders_at parts (objects_of_parts parts nodes) path).vector name)
    × (pieces_width ((holders_at parts (objects_of_parts parts nodes) path).vector name).pieces ≡ range_width range)
vector-held parts nodes hierarchy path name range k signal at is bounds =
    let place = part-in-signals parts k signal at in
    let holds = signal-holds parts nodes hierarchy place.0 signal place.1 in
    let P : Identifier → Type 0 = λ full.
    HasItsBits (vector_of_name (signals_of parts) (objects_of_parts parts nodes) full) × (pieces_width
    (vector_of_name (signals_of parts) (objects_of_parts parts nodes) full).pieces ≡ range_width range) in
    subst P is (holds.bits, holds.width ∙ ap range_width bounds)

pub entry-held : (parts : List Part) (nodes : List WalkedNode) → IsHierarchy parts → (path name : Identifier) (entry : Option ScopeEntry) → IsDeclaredAs parts (path ++ name) entry →
    IsHeld (holders_at parts (objects_of_parts parts nodes) path) name entry
entry-held parts nodes hierarchy path name (Some (NetEntry range signed)) h = vector-held parts nodes hierarchy path name range h.0 h.1 h.2 h.3 h.4
entry-held parts nodes hierarchy path name (Some (RegEntry range signed)) h = vector-held parts nodes hierarchy path name range h.0 h.1 h.2 h.3 h.4
entry-held parts nodes hierarchy path name (Some (MemoryEntry range first last signed)) h =
    let holds = memory-holds parts nodes hierarchy h.0 h.1 h.2 in
    let P : Identifier → Type 0 = λ full.
    HasItsWords (memory_of_name (objects_of_parts parts nodes) (memories_of parts) full) × ((memory_of_name (objects_of_parts parts nodes) (memories_of parts) full).width ≡ range_width range) in
    subst P h.3 (holds.0, holds.1 ∙ ap range_width h.4)
entry-held parts nodes hierarchy path name None h = tt
entry-held parts nodes hierarchy path name (Some (ParameterEntry value signed)) h = tt
entry-held parts nodes hierarchy path name (Some RefusedParameter) h = tt
entry-held parts nodes hierarchy path name (Some WaitingParameter) h = tt
entry-held parts nodes hierarchy path name (Some GateEntry) h = tt
entry-held parts nodes hierarchy path name (Some InstanceEntry) h = tt

mutual
  pub held-all : (holders : Holders) (scope : Scope) → ((name : Identifier) → IsHeld holders name (looked_up scope name)) → (e : SourceExpression) → AreHeld holders scope e
  held-all holders scope each (Number place form value) = tt
  held-all holders scope each (Selected place name index) = (each name, held-index holders scope each index)
  held-all holders scope each (Parenthesised place inner) = held-all holders scope each inner
  held-all holders scope each (Prefixed place operator operand) = held-all holders scope each operand
  held-all holders scope each (Infixed place operator left right) = (held-all holders scope each left, held-all holders scope each right)
  held-all holders scope each (Chosen place condition first second) = (held-all holders scope each condition, held-all holders scope each first, held-all holders scope each second)
  held-all holders scope each (Concatenated place parts) = held-parts holders scope each parts
  held-all holders scope each (Replicated place count parts) = held-parts holders scope each parts

  held-index : (holders : Holders) (scope : Scope) → ((name : Identifier) → IsHeld holders name (looked_up scope name)) → (index : SourceIndex) → AreHeldInIndex holders scope index
  held-index holders scope each NoIndex = tt
  held-index holders scope each (IndexAt index) = held-all holders scope each index
  held-index holders scope each (IndexRange from to) = tt

  held-parts : (holders : Holders) (scope : Scope) → ((name : Identifier) → IsHeld holders name (looked_up scope name)) → (parts : SourceExpressions) → AreHeldInParts holders scope parts
  held-parts holders scope each no_parts = tt
  held-parts holders scope each (more_parts first rest) = (held-all holders scope each first, held-parts holders scope each rest)

-- the names of an expression are held by the objects of the hierarchy
pub scope-held : (parts : List Part) (nodes : List WalkedNode) → IsHierarchy parts → (path : Identifier) (scope : Scope) → IsScopeAt parts path scope → (e : SourceExpression) →
    AreHeld (holders_at parts (objects_of_parts parts nodes) path) scope e
scope-held parts nodes hierarchy path scope at e =
    held-all (holders_at parts (objects_of_parts parts nodes) path) scope (λ name. entry-held parts nodes hierarchy path name (looked_up scope name) (at name)) e
