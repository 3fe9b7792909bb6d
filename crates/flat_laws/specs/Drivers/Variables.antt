-- A name whose part makes one object is held by that object; a variable that drives itself is, and neither it nor a word is a net piece (IEEE 1364-2001, clause 3.2 and clause 3.10).
use Rattle.std.proofs.Common.{◌≡◌, ℕ, zero, suc, ◌+◌, Bool, true, false, ◌&&◌, List, [], ◌∷◌, length, map, Some, nat_le, refl, sym, ap, ◌∙◌, subst, inl, inr, arith}
use Rattle.std.specs.Prelude.{nat_eq, slice_get, filter, sum_by}
use Rattle.std.proofs.lemmas.Bool.{cases_Bool, or_cases, eq-eqb, eqb-true}
use Rattle.std.proofs.lemmas.List.Sums.{sum_by-cons}
use Rattle.vf_base.specs.Lists.{has, AllHold}
use Rattle.v_design.specs.Trees.{Piece, Vector}
use Rattle.v_design.specs.Sized.{pieces_width}
use Rattle.v_design.specs.Designs.{FlatObject, FlatDesign}
use Rattle.v_design.specs.Paths.{is_net, numbers_of, net_pieces}
use Rattle.v_design.specs.WellFormed.{width_is}
use Rattle.v_tree.specs.Trees.{Identifier, same_name}
use Rattle.v_elab.specs.Parts.{Signal, WalkedMemory, Part, SignalPart, MemoryPart}
use Rattle.v_elab.specs.Drivers.{signals_of, outermost, WalkedNode, is_driving, insert_here, insert_by_depth, by_depth, object_drives}
use Rattle.v_elab.specs.Objects.{HeldObject, variable_object, pieces_or_variable, signal_objects, word_object, word_objects, part_objects, objects_of_parts, piece_if, pieces_held, memories_of}
use Rattle.v_elab.specs.Objects.{memory_vector, memory_if, memory_of_name}
use Rattle.v_elab.specs.Statements.{first_object, variable_of}
use Rattle.graph_order.specs.ListLaws.{AllHold-slice_get}
use Rattle.flat_laws.specs.Lists.{same_some, AllHold-from, filter-at}
use Rattle.flat_laws.specs.Numbered.{AllHold-map, AllHold-all}
use Rattle.flat_laws.specs.Hierarchy.Given.{equal-name, name-same, both-true, part_name, IsHierarchy, signal-part, outermost-is}
use Rattle.flat_laws.specs.Drivers.Held.{weight_of, held-weight, part-weight, same-width, single-weight, length-ones, unjoined-is, memory-part}
use Rattle.flat_laws.specs.Sizes.Objects.{object-at}
use Rattle.flat_laws.specs.Blocks.Named.{at-flat_map, part-holds}
use Rattle.flat_laws.specs.Hierarchy.Behaviours.{at-joined}
use Rattle.flat_laws.specs.Blocks.Fitting.{FitsVariable}

-- The objects that hold a name

-- a piece that holds a name is one of an object that does
pub record IsHeldAt (objects : List HeldObject) (holder : Identifier) (piece : Piece) : Type 0 where
  pub number : ℕ
  pub held : HeldObject
  pub is : slice_get objects number ≡ Some held
  pub holds : held.holder ≡ holder
  pub piece_is : piece ≡ record { object = number; width = held.object.width }

pub piece-at : (objects : List HeldObject) (holder : Identifier) (i : ℕ) (piece : Piece) → slice_get (pieces_held objects holder) i ≡ Some piece → IsHeldAt objects holder piece
piece-at objects holder i piece at =
    let r = at-joined (λ number (held : HeldObject). piece_if (same_name held.holder holder) number held) 0 objects i piece at in
    let same : 0 + r.0 ≡ r.0 = omega arith in
    by_test r.0 r.1 r.2 (same_name r.1.holder holder) refl r.3 (ap (λ k. slice_get (piece_if (same_name r.1.holder holder) k r.1) r.2) (sym same) ∙ r.4)
  where
    by_test : (number : ℕ) (held : HeldObject) (m : ℕ) (test : Bool) → same_name held.holder holder ≡ test → slice_get objects number ≡ Some held →
        slice_get (piece_if test number held) m ≡ Some piece → IsHeldAt objects holder piece
    by_test number held zero true e is d = record {
      number = number;
      held = held;
      is = is;
      holds = equal-name held.holder holder e;
      piece_is = sym (same_some (record { object = number; width = held.object.width }) piece d);
    }
    by_test number held (suc m) true e is d = absurd (cc)
    by_test number held m false e is d = absurd (cc)

-- an object that holds the name of a part is one of that part
pub held-of : (parts : List Part) (nodes : List WalkedNode) → IsHierarchy parts → (k : ℕ) (part : Part) (holder : Identifier) → slice_get parts k ≡ Some part → part_name part ≡ Some holder →
    (i : ℕ) (held : HeldObject) → slice_get (objects_of_parts parts nodes) i ≡ Some held → held.holder ≡ holder → (m : ℕ) × (slice_get (part_objects (signals_of parts) nodes part) m ≡ Some held)
held-of parts nodes hierarchy k part holder at name i held there holds =
    let r = at-flat_map (part_objects (signals_of parts) nodes) parts i held there in
    let same : r.0 ≡ k = hierarchy.once r.0 k r.1 part holder r.3 at (part-holds (signals_of parts) nodes r.1 r.2 held r.4 ∙ ap Some holds) name in
    let is : r.1 ≡ part = same_some r.1 part (sym r.3 ∙ ap (slice_get parts) same ∙ at) in
    (r.2, ap (λ p. slice_get (part_objects (signals_of parts) nodes p) r.2) (sym is) ∙ r.4)

-- a name that one object holds
pub record IsOneObject (objects : List HeldObject) (holder : Identifier) (held : HeldObject) : Type 0 where
  pub number : ℕ
  pub is : slice_get objects number ≡ Some held
  pub pieces : pieces_held objects holder ≡ record { object = number; width = held.object.width } ∷ []

one-long : {A : Type 0} (xs : List A) → length xs ≡ 1 → (x : A) × (xs ≡ x ∷ [])
one-long [] e = absurd (omega (arith, e))
one-long (x ∷ []) e = (x, refl)
one-long (x ∷ y ∷ xs) e = absurd (omega (arith, e))

-- a part that makes one object
pub one-held : (parts : List Part) (nodes : List WalkedNode) → IsHierarchy parts → (k : ℕ) (part : Part) (holder : Identifier) (held : HeldObject) → slice_get parts k ≡ Some part →
    part_name part ≡ Some holder → held.holder ≡ holder →
    part_objects (signals_of parts) nodes part ≡ held ∷ [] → IsOneObject (objects_of_parts parts nodes) holder held
one-held parts nodes hierarchy k part holder held at name holds one =
    let objects = objects_of_parts parts nodes in
    let pieces = pieces_held objects holder in
    let long : length pieces ≡ 1 =
    length-ones pieces ∙ held-weight (λ piece. 1) (λ h. 1) (λ number h. refl) holder 0 objects ∙ part-weight parts nodes hierarchy (λ h. 1) holder k part at name
    ∙ ap (sum_by (weight_of (λ h. 1) holder)) one ∙ single-weight (weight_of (λ h. 1) holder) held 1 (same-width (λ h. 1) holder held holds) in
    let only = one-long pieces long in
    let there = piece-at objects holder 0 only.0 (ap (λ l. slice_get l 0) only.1) in
    let among = held-of parts nodes hierarchy k part holder at name there.number there.held there.is there.holds in
    let same : held ≡ there.held = alone held there.held among.0 (ap (λ l. slice_get l among.0) (sym one) ∙ among.1) in
    record {
      number = there.number;
      is = there.is ∙ ap Some (sym same);
      pieces = only.1 ∙ ap (λ p. p ∷ []) (there.piece_is ∙ ap (λ (h : HeldObject). record { object = there.number; width = h.object.width }) (sym same));
    }
  where
    alone : (x y : HeldObject) (m : ℕ) → slice_get (x ∷ []) m ≡ Some y → x ≡ y
    alone x y zero e = same_some x y e
    alone x y (suc m) e = absurd (cc)

-- a vector that one object holds is a variable
pub one-fits : (design : FlatDesign) (Q : ℕ → Type 0) (objects : List HeldObject) → map (λ (held : HeldObject). held.object) objects ≡ design.objects → (holder : Identifier) (held : HeldObject) →
    (one : IsOneObject objects holder held) → Q one.number →
    (v : Vector) → v.pieces ≡ pieces_held objects holder → FitsVariable design Q (variable_of v)
one-fits design Q objects is holder held one q v pieces =
    let P : List Piece → Type 0 = λ all. (width_is (pieces_width all) (slice_get design.objects (first_object all)) ≡ true) × Q (first_object all) in
    let wide : pieces_width (record { object = one.number; width = held.object.width } ∷ []) ≡ held.object.width =
    single-piece (record { object = one.number; width = held.object.width }) in
    let found : slice_get design.objects one.number ≡ Some held.object = ap (λ all. slice_get all one.number) (sym is) ∙ object-at objects one.number held one.is in
    subst P (sym (pieces ∙ one.pieces)) (
      ap (width_is (pieces_width (record { object = one.number; width = held.object.width } ∷ []))) found
          ∙ eq-eqb held.object.width (pieces_width (record { object = one.number; width = held.object.width } ∷ [])) (sym wide),
      q,
    )
  where
    single-piece : (piece : Piece) → pieces_width (piece ∷ []) ≡ piece.width
    single-piece piece =
        let one : sum_by (λ (p : Piece). p.width) (piece ∷ []) ≡ piece.width + sum_by (λ (p : Piece). p.width) [] = sum_by-cons (λ (p : Piece). p.width) piece [] in
        let none : sum_by (λ (p : Piece). p.width) [] ≡ 0 = refl in
        omega (arith, one, none)

-- Variables that drive

depth-cons : (signal : Signal) (signals : List Signal) → (first : Signal) × (rest : List Signal) × (insert_by_depth signal signals ≡ first ∷ rest)
depth-cons signal [] = (signal, [], refl)
depth-cons signal (other ∷ others) = by_test (nat_le signal.depth other.depth)
  where
    by_test : (test : Bool) → (first : Signal) × (rest : List Signal) × (insert_here test signal other others (insert_by_depth signal others) ≡ first ∷ rest)
    by_test true = (signal, other ∷ others, refl)
    by_test false = (other, insert_by_depth signal others, refl)

depth-some : (signals : List Signal) (i : ℕ) (signal : Signal) → slice_get signals i ≡ Some signal → (first : Signal) × (rest : List Signal) × (by_depth signals ≡ first ∷ rest)
depth-some [] i signal at = absurd (cc)
depth-some (other ∷ signals) i signal at = depth-cons other (by_depth signals)

-- a variable that drives makes its object a variable
pub driving-held : (parts : List Part) (nodes : List WalkedNode) → IsHierarchy parts → (i : ℕ) (signal : Signal) → slice_get (signals_of parts) i ≡ Some signal → is_driving nodes signal ≡ true →
    (held : HeldObject) × (is_net held.object.kind ≡ false) × IsOneObject (objects_of_parts parts nodes) (outermost (signals_of parts) signal.name) held
driving-held parts nodes hierarchy i signal at drives =
    let signals = signals_of parts in
    let last = outermost-is parts hierarchy i signal at in
    let test : Signal → Bool = λ s. is_driving nodes s && same_name (outermost signals s.name) last.outer.name in
    let passes : test signal ≡ true = both-true (is_driving nodes signal) (same_name (outermost signals signal.name) last.outer.name) drives
    (ap (λ n. same_name n last.outer.name) last.name_is ∙ name-same last.outer.name) in
    let kept = filter-at test signals i signal at passes in
    let some = depth-some (filter test signals) kept.0 signal kept.1 in
    let part = signal-part parts last.number last.outer last.is in
    let held = variable_object last.outer some.0 in
    let made : part_objects signals nodes (SignalPart last.outer) ≡ held ∷ [] =
    ap (λ b. signal_objects signals nodes b last.outer) (unjoined-is last.outer last.unjoined) ∙ ap (pieces_or_variable last.outer (object_drives signals nodes last.outer.name)) some.2 in
    let one = one-held parts nodes hierarchy part.0 (SignalPart last.outer) last.outer.name held part.1 refl refl made in
    (held, refl, subst (λ n. IsOneObject (objects_of_parts parts nodes) n held) (sym last.name_is) one)

-- Net pieces

-- the number of an object that passes a test
numbers-pass : (test : FlatObject → Bool) (start o : ℕ) (objects : List FlatObject) → has (numbers_of test start objects) o ≡ true →
    (i : ℕ) × (object : FlatObject) × (slice_get objects i ≡ Some object) × (o ≡ start + i) × (test object ≡ true)
numbers-pass test start o [] e = absurd (cc)
numbers-pass test start o (object ∷ objects) e =
    elim (cases_Bool (test object)) [
      | inl passes ↦
          let kept = ap (λ b. has (elim b [ true ↦ start ∷ numbers_of test (start + 1) objects | false ↦ numbers_of test (start + 1) objects ]) o) (sym passes) ∙ e in
          elim (or_cases (nat_eq start o) (has (numbers_of test (start + 1) objects) o) kept) [
            | inl here ↦ let same = eqb-true start o here in (0, object, refl, omega (arith, same), passes)
            | inr later ↦ let r = numbers-pass test (start + 1) o objects later in let is = r.3 in (suc r.0, r.1, r.2, omega (arith, is), r.4)
          ]
      | inr fails ↦
          let lost = ap (λ b. has (elim b [ true ↦ start ∷ numbers_of test (start + 1) objects | false ↦ numbers_of test (start + 1) objects ]) o) (sym fails) ∙ e in
          let r = numbers-pass test (start + 1) o objects lost in
          let is = r.3 in
          (suc r.0, r.1, r.2, omega (arith, is), r.4)
    ]

-- an object that is no net is no net piece
pub no-piece : (design : FlatDesign) (number : ℕ) (object : FlatObject) → slice_get design.objects number ≡ Some object → is_net object.kind ≡ false → has (net_pieces design) number ≡ false
no-piece design number object at kind =
    elim (cases_Bool (has (net_pieces design) number)) [
      | inl piece ↦
          let r = numbers-pass (λ (o : FlatObject). is_net o.kind) 0 number design.objects piece in
          let is = r.3 in
          let place : r.0 ≡ number = omega (arith, is) in
          let same : r.1 ≡ object = same_some r.1 object (sym r.2 ∙ ap (slice_get design.objects) place ∙ at) in
          let both : true ≡ false = sym r.4 ∙ ap (λ (o : FlatObject). is_net o.kind) same ∙ kind in
          absurd (cc)
      | inr none ↦ none
    ]

-- the words of a memory are none
pub words-none : (design : FlatDesign) (parts : List Part) (nodes : List WalkedNode) → IsHierarchy parts → map (λ (held : HeldObject). held.object) (objects_of_parts parts nodes) ≡ design.objects →
    (full : Identifier) →
    AllHold (λ o. has (net_pieces design) o ≡ false) (memory_of_name (objects_of_parts parts nodes) (memories_of parts) full).words
words-none design parts nodes hierarchy is full = each (memories_of parts) (memory-part parts)
  where
    objects : List HeldObject
    objects = objects_of_parts parts nodes

    words : (k : ℕ) (memory : WalkedMemory) → slice_get parts k ≡ Some (MemoryPart memory) → AllHold (λ o. has (net_pieces design) o ≡ false) (memory_vector objects memory).words
    words k memory at =
        AllHold-map (λ o. has (net_pieces design) o ≡ false) (λ (p : Piece). p.object) (pieces_held objects memory.name)
        (AllHold-from (λ (p : Piece). has (net_pieces design) p.object ≡ false) (pieces_held objects memory.name)
        (λ i piece found.
        let there = piece-at objects memory.name i piece found in
        let among = held-of parts nodes hierarchy k (MemoryPart memory) memory.name at refl there.number there.held there.is there.holds in
        let word : is_net there.held.object.kind ≡ false =
        AllHold-slice_get (λ (h : HeldObject). is_net h.object.kind ≡ false) (word_objects memory) among.0 there.held
        (AllHold-map (λ (h : HeldObject). is_net h.object.kind ≡ false) (word_object memory) _ (AllHold-all (λ address. is_net (word_object memory address).object.kind ≡ false) _ (λ address. refl)))
        among.1 in
        ap (λ (p : Piece). has (net_pieces design) p.object) there.piece_is
        ∙ no-piece design there.number there.held.object (ap (λ all. slice_get all there.number) (sym is) ∙ object-at objects there.number there.held there.is) word))

    by_test : (memory : WalkedMemory) (rest : List WalkedMemory) (test : Bool) → AllHold (λ o. has (net_pieces design) o ≡ false) (memory_vector objects memory).words →
        AllHold (λ o. has (net_pieces design) o ≡ false) (memory_of_name objects rest full).words →
        AllHold (λ o. has (net_pieces design) o ≡ false) (memory_if test (memory_vector objects memory) (memory_of_name objects rest full)).words
    by_test memory rest true h k = h
    by_test memory rest false h k = k

    each : (memories : List WalkedMemory) → ((i : ℕ) (memory : WalkedMemory) → slice_get memories i ≡ Some memory → (k : ℕ) × (slice_get parts k ≡ Some (MemoryPart memory))) →
        AllHold (λ o. has (net_pieces design) o ≡ false) (memory_of_name objects memories full).words
    each [] at = tt
    each (memory ∷ rest) at = let part = at 0 memory refl in by_test memory rest (same_name memory.name full) (words part.0 memory part.1) (each rest (λ i other found. at (suc i) other found))
