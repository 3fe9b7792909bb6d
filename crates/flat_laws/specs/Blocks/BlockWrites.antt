-- A block that is a node writes its outputs and nothing else, each of them whole on every path before it is read (IEEE 1364-2001, clause 9.2.1 and clause 9.7.5).
use Rattle.std.proofs.Common.{◌≡◌, ℕ, suc, Bool, true, false, List, [], ◌∷◌, ◌++◌, map, Option, Some, None, Ok, refl, sym, ap, ◌∙◌, subst, inl, inr}
use Rattle.std.specs.Prelude.{◌||◌, not, nat_eq, IsTrue, slice_get}
use Rattle.std.specs.List.{list_all}
use Rattle.std.proofs.lemmas.Bool.{cases_Bool, or_cases, or_left, or_right, eq-eqb, eqb-true}
use Rattle.vf_base.specs.Lists.{has, AllHold}
use Rattle.v_design.specs.Trees.{Piece}
use Rattle.v_design.specs.Expressions.{piece_objects}
use Rattle.v_design.specs.Designs.{BlockNode, FlatNode, FlatDesign}
use Rattle.v_design.specs.Paths.{net_pieces}
use Rattle.v_design.specs.Reads.{written_objects}
use Rattle.v_design.specs.CombinationalForm.{assigned_by, all_among, WritesOutputs}
use Rattle.v_tree.specs.Trees.{Identifier, has_name, SourceModule}
use Rattle.v_comb.specs.CombinationalForm.{assigned_names, names_read, assigned_after, all_assigned}
use Rattle.v_elab.specs.declared.Mode.{Mode}
use Rattle.v_elab.specs.Parts.{Signal, WalkedProcess, Part}
use Rattle.v_elab.specs.Walk.{walked_from}
use Rattle.v_elab.specs.Drivers.{signals_of, outermost, target_signals, names_only_read, WalkedNode}
use Rattle.v_elab.specs.Objects.{HeldObject, pieces_held, memories_of, memory_of_name}
use Rattle.v_elab.specs.Statements.{first_object, statement_over, block_body}
use Rattle.v_elab.specs.Flat.{meaning_in, outputs_of}
use Rattle.graph_order.specs.ListLaws.{AllHold-has}
use Rattle.flat_laws.specs.Made.{nodes_in, objects_in, IsMadeOf}
use Rattle.flat_laws.specs.Lists.{same_some, AllHold-from, filter-at}
use Rattle.flat_laws.specs.Limits.{design-objects}
use Rattle.flat_laws.specs.Drivers.OneDriver.{objects_of_outputs, outputs-nets}
use Rattle.flat_laws.specs.Hierarchy.Given.{both-true, IsHierarchy}
use Rattle.flat_laws.specs.Hierarchy.Visits.{IsReadPart}
use Rattle.flat_laws.specs.Blocks.Fitting.{FitsStatement}
use Rattle.flat_laws.specs.Hierarchy.Behaviours.{name-there, there-name, at-map, all-named, any-named}
use Rattle.flat_laws.specs.Drivers.Variables.{piece-at, words-none}
use Rattle.flat_laws.specs.Blocks.Targets.{target-held, output-of, only-object}
use Rattle.flat_laws.specs.Blocks.Formed.{IsKnownBlock, assigned-target, target-plain, block-fits}
use Rattle.flat_laws.specs.Blocks.BlockNodes.{IsBlockKind, each-block}
use Rattle.flat_laws.specs.Blocks.Forms.{IsRead, AreApart, IsPlain, statement-moves}

-- Lists

piece-there : (pieces : List Piece) (o : ℕ) → has (piece_objects pieces) o ≡ true → (i : ℕ) × (piece : Piece) × (slice_get pieces i ≡ Some piece) × (piece.object ≡ o)
piece-there [] o e = absurd (cc)
piece-there (first ∷ pieces) o e =
    elim (or_cases (nat_eq first.object o) (has (piece_objects pieces) o) e) [
      | inl here ↦ (0, first, refl, eqb-true first.object o here)
      | inr later ↦ let r = piece-there pieces o later in (suc r.0, r.1, r.2, r.3)
    ]

words-same : (width : ℕ) (words : List ℕ) → piece_objects (map (λ word. record { object = word; width = width }) words) ≡ words
words-same width [] = refl
words-same width (word ∷ words) = ap (λ l. word ∷ l) (words-same width words)

all-has : (found xs : List ℕ) → ((o : ℕ) → has xs o ≡ true → has found o ≡ true) → list_all (has found) xs ≡ true
all-has found [] each = refl
all-has found (x ∷ xs) each =
    both-true (has found x) (list_all (has found) xs) (each x (or_left (nat_eq x x) (has xs x) (eq-eqb x x refl))) (all-has found xs (λ o there. each o (or_right (nat_eq x o) (has xs o) there)))

same-bool : (a b : Bool) → (a ≡ true → b ≡ true) → (b ≡ true → a ≡ true) → a ≡ b
same-bool true b f g = sym (f refl)
same-bool false true f g = g refl
same-bool false false f g = refl

-- Outputs

-- an output is the object of a target
record IsTargetObject (parts : List Part) (process : WalkedProcess) (targets : List Identifier) (o : ℕ) : Type 0 where
  name : Identifier
  target : has_name targets name ≡ true
  held : HeldObject
  is : slice_get (objects_in parts) o ≡ Some held
  holder : held.holder ≡ outermost (signals_of parts) (process.path ++ name)
  object_is : o ≡ first_object (pieces_held (objects_in parts) (outermost (signals_of parts) (process.path ++ name)))

target-object : (modules : List SourceModule) (mode : Mode) (top : SourceModule) (parts : List Part) (design : FlatDesign) → IsMadeOf parts design → IsHierarchy parts →
    (number : ℕ) (node : WalkedNode) (process : WalkedProcess) →
    (block : IsKnownBlock modules mode top parts number node process) → (o : ℕ) → has (objects_of_outputs (outputs_of (objects_in parts) number)) o ≡ true →
    IsTargetObject parts process block.moves.targets o
target-object modules mode top parts design made hierarchy number node process block o output =
    let out = output-of parts hierarchy number node process block.at block.moves o output in
    let full = process.path ++ out.name in
    let t = target-held parts hierarchy made.one_driver number node process block.at block.moves out.m out.name out.target out.number out.signal out.signal_is out.name_is in
    let only = only-object (objects_in parts) (outermost (signals_of parts) full) t.held t.one o out.held out.is out.holder in
    record {
      name = out.name;
      target = name-there block.moves.targets out.m out.name out.target;
      held = out.held;
      is = out.is;
      holder = out.holder;
      object_is = sym only ∙ ap first_object (sym t.one.pieces);
    }

-- a name that the body of a block reads
name-read : (modules : List SourceModule) (mode : Mode) (top : SourceModule) (parts : List Part) (design : FlatDesign) → IsMadeOf parts design → IsHierarchy parts →
    (number : ℕ) (node : WalkedNode) (process : WalkedProcess) →
    (block : IsKnownBlock modules mode top parts number node process) → (i : ℕ) (name : Identifier) → slice_get (names_read block.form.inner) i ≡ Some name →
    IsRead (meaning_in parts (objects_in parts) process) block.moves.targets (objects_of_outputs (outputs_of (objects_in parts) number)) name
name-read modules mode top parts design made hierarchy number node process block i name at o there output =
    let objects = objects_in parts in
    let signals = signals_of parts in
    let targets = block.moves.targets in
    let full = process.path ++ name in
    let t = target-object modules mode top parts design made hierarchy number node process block o output in
    let piece = piece-there (pieces_held objects (outermost signals full)) o there in
    let held = piece-at objects (outermost signals full) piece.0 piece.1 piece.2 in
    let number_is : held.number ≡ o = ap (λ (p : Piece). p.object) (sym held.piece_is) ∙ piece.3 in
    let same : held.held ≡ t.held = same_some held.held t.held (sym held.is ∙ ap (slice_get objects) number_is ∙ t.is) in
    let one : outermost signals full ≡ outermost signals (process.path ++ t.name) = sym held.holds ∙ ap (λ (h : HeldObject). h.holder) same ∙ t.holder in
    let object_is : o ≡ first_object (pieces_held objects (outermost signals full)) = t.object_is ∙ ap (λ n. first_object (pieces_held objects n)) (sym one) in
    elim (cases_Bool (has_name targets name)) [
      | inl target ↦ (target, object_is)
      | inr other ↦
          let test : Identifier → Bool = λ n. not (has_name targets n) in
          let body : names_read (block_body process.body) ≡ names_read block.form.inner = ap (λ s. names_read (block_body s)) block.form.is in
          let kept = filter-at test (names_read (block_body process.body)) i name (ap (λ l. slice_get l i) body ∙ at) (ap not other) in
          let read : has_name (target_signals process (names_only_read process targets)) full ≡ true =
          name-there (target_signals process (names_only_read process targets)) kept.0 full (at-map (λ n. process.path ++ n) (names_only_read process targets) kept.0 name kept.1) in
          let others = map (outermost signals) (target_signals process targets) in
          let mine : has_name others (outermost signals full) ≡ true = ap (has_name others) one ∙ among signals targets t.name t.target in
          let wrong : true ≡ false = sym (any-named (λ n. has_name others (outermost signals n)) (target_signals process (names_only_read process targets)) full read mine) ∙ block.moves.apart in
          absurd (cc)
    ]
  where
    among : (signals : List Signal) (targets : List Identifier) (n : Identifier) → has_name targets n ≡ true →
        has_name (map (outermost signals) (target_signals process targets)) (outermost signals (process.path ++ n)) ≡ true
    among signals targets n e =
        let place = there-name targets n e in
        name-there (map (outermost signals) (target_signals process targets)) place.0 (outermost signals (process.path ++ n))
        (at-map (outermost signals) (target_signals process targets) place.0 (process.path ++ n) (at-map (λ m. process.path ++ m) targets place.0 n place.1))

-- words are no outputs
words-apart : (parts : List Part) (design : FlatDesign) → IsMadeOf parts design → IsHierarchy parts → (number : ℕ) (process : WalkedProcess) (targets : List Identifier) →
    AreApart (meaning_in parts (objects_in parts) process) targets (objects_of_outputs (outputs_of (objects_in parts) number))
words-apart parts design made hierarchy number process targets assigned name =
    let outputs = objects_of_outputs (outputs_of (objects_in parts) number) in
    let memory = memory_of_name (objects_in parts) (memories_of parts) (process.path ++ name) in
    let is = design-objects parts design made in
    words-free assigned outputs memory.width memory.words
    (λ o there.
    let none = AllHold-has (λ n. has (net_pieces design) n ≡ false) memory.words o (words-none design parts (nodes_in parts) hierarchy is (process.path ++ name)) there in
    elim (cases_Bool (has outputs o)) [
      | inl output ↦
          let net : has (net_pieces design) o ≡ true = AllHold-has (λ n. IsTrue (has (net_pieces design) n)) outputs o (outputs-nets parts (nodes_in parts) number design is) output in
          let wrong : true ≡ false = sym net ∙ none in
          absurd (cc)
      | inr apart ↦ apart
    ])
  where
    words-free : (assigned outputs : List ℕ) (width : ℕ) (words : List ℕ) → ((o : ℕ) → has words o ≡ true → has outputs o ≡ false) →
        list_all (λ (piece : Piece). not (has outputs piece.object) || has assigned piece.object) (map (λ word. record { object = word; width = width }) words) ≡ true
    words-free assigned outputs width [] each = refl
    words-free assigned outputs width (word ∷ words) each =
        both-true (not (has outputs word) || has assigned word) (list_all (λ (piece : Piece). not (has outputs piece.object) || has assigned piece.object)
        (map (λ word. record { object = word; width = width }) words))
        (or_left (not (has outputs word)) (has assigned word) (ap not (each word (or_left (nat_eq word word) (has words word) (eq-eqb word word refl)))))
        (words-free assigned outputs width words (λ o there. each o (or_right (nat_eq word o) (has words o) there)))

assigned-some : (targets : List Identifier) (found : Option (List Identifier)) → all_assigned targets found ≡ true →
    (after : List Identifier) × (found ≡ Some after) × (list_all (has_name after) targets ≡ true)
assigned-some targets None e = absurd (cc)
assigned-some targets (Some after) e = (after, refl, e)

-- a block writes its outputs
pub block-writes : (modules : List SourceModule) (mode : Mode) (top : SourceModule) (parts : List Part) (design : FlatDesign) → walked_from modules mode top ≡ Ok parts → IsMadeOf parts design →
    IsHierarchy parts → (number : ℕ) (node : WalkedNode)
    (process : WalkedProcess) → IsKnownBlock modules mode top parts number node process →
    WritesOutputs (BlockNode (statement_over (meaning_in parts (objects_in parts) process) (block_body process.body))) (objects_of_outputs (outputs_of (objects_in parts) number))
block-writes modules mode top parts design e made hierarchy number node process block =
    let meaning = meaning_in parts (objects_in parts) process in
    let targets = block.moves.targets in
    let outputs = objects_of_outputs (outputs_of (objects_in parts) number) in
    let form = block.form in
    let inner = form.inner in
    let over = statement_over meaning inner in
    let after = assigned-some targets (assigned_after targets [] inner) form.assigned in
    let reads = AllHold-from (IsRead meaning targets outputs) (names_read inner) (name-read modules mode top parts design made hierarchy number node process block) in
    let plain = AllHold-from (IsPlain meaning targets outputs) (assigned_names inner)
    (λ i n at. let there = assigned-target process.scope process.body targets form i n at in (there, target-plain process.scope process.body targets form n.name there)) in
    let m = statement-moves meaning targets outputs inner (words-apart parts design made hierarchy number process targets) [] after.0 [] (λ name there. absurd (cc)) reads plain after.1 in
    let fits = subst (λ s. FitsStatement design (λ o. has outputs o ≡ true) meaning (statement_over meaning (block_body s))) form.is
    (block-fits modules mode top parts design e made hierarchy number node process block) in
    let found : (o : ℕ) → has outputs o ≡ true → has m.found o ≡ true = λ o output.
    let t = target-object modules mode top parts design made hierarchy number node process block o output in
    ap (has m.found) t.object_is ∙ m.follows t.name (all-named (has_name after.0) targets t.name after.2 t.target) in
    let writes : (o : ℕ) → has (written_objects over) o ≡ has outputs o = λ o.
    same-bool (has (written_objects over) o) (has outputs o) (λ written. AllHold-has (λ n. has outputs n ≡ true) (written_objects over) o fits.1 written) (λ output. m.writes o (found o output)) in
    let whole : IsTrue (all_among outputs (assigned_by outputs [] over)) = ap (all_among outputs) m.is ∙ all-has m.found outputs found in
    subst (λ s. WritesOutputs (BlockNode (statement_over meaning (block_body s))) outputs) (sym form.is) (writes, whole)

-- each node that is a block
pub blocks-write : (modules : List SourceModule) (mode : Mode) (top : SourceModule) (parts : List Part) (design : FlatDesign) → walked_from modules mode top ≡ Ok parts → IsMadeOf parts design →
    IsHierarchy parts → AllHold (IsReadPart modules mode top) parts →
    AllHold (λ (node : FlatNode). IsBlockKind node.kind → WritesOutputs node.kind node.outputs) design.nodes
blocks-write modules mode top parts design e made hierarchy read =
    each-block modules mode top parts design (λ kind node. WritesOutputs kind node.outputs) made read
    (λ number node process block. block-writes modules mode top parts design e made hierarchy number node process block)
