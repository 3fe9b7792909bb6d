-- What a block that is a node names is there, and its inputs are what it reads (IEEE 1364-2001, clause 9.7.5; that a block is a node is own).
use Rattle.std.proofs.Common.{◌≡◌, ℕ, ◌<◌, Bool, true, false, List, [], ◌∷◌, ◌++◌, length, map, Option, Some, None, Ok, refl, sym, ap, ◌∙◌, subst, inl, inr}
use Rattle.std.specs.Prelude.{◌||◌, ◌&&◌, not, IsTrue, slice_get, filter, option_and_then}
use Rattle.std.specs.List.{list_all, list_any}
use Rattle.std.proofs.lemmas.Bool.{cases_Bool, or_left, or_right}
use Rattle.vf_base.specs.Base.{SourcePlace}
use Rattle.vf_base.specs.Lists.{has, AllHold}
use Rattle.v_design.specs.Trees.{Piece, Expression, Expressions, Target, WholeTarget, BitTarget, PartTarget, WordTarget, Statement, Null, Block, If, Case, For, While, Repeat, Forever, Delay}
use Rattle.v_design.specs.Trees.{EventControl, Wait, Blocking, Nonblocking, Finish, Statements, no_statements, more_statements, CaseItems, no_items, more_items}
use Rattle.v_design.specs.Expressions.{memory_pieces, pieces_read, parts_read, piece_objects, objects_of, parts_objects}
use Rattle.v_design.specs.Designs.{BlockNode, FlatDesign}
use Rattle.v_design.specs.Reads.{index_objects, indexes_objects, read_objects, all_read, items_read, node_reads, variable_piece, named_in, named_in_parts, named_in_target, named_in_targets}
use Rattle.v_design.specs.Reads.{named_by, named_by_all, named_by_items}
use Rattle.v_design.specs.WellFormed.{has_width, have_widths}
use Rattle.v_tree.specs.Trees.{Identifier, NamedPlace, same_name, has_name, SourceWaits, SourceStatement, NullStatement, BlockStatement, IfStatement, IfElseStatement, CaseStatement, ForStatement}
use Rattle.v_tree.specs.Trees.{WhileStatement, RepeatStatement, ForeverStatement, WaitStatement, EventStatement, DelayStatement, BlockingStatement, NonblockingStatement, IgnoredTask, FinishTask}
use Rattle.v_tree.specs.Trees.{SourceModule}
use Rattle.v_names.specs.Scopes.{Scope, looked_up, is_memory, is_reg}
use Rattle.v_names.specs.Names.{entry_faults, statement_name_faults}
use Rattle.v_names.specs.SizedLaws.{and-left, and-right}
use Rattle.v_comb.specs.CombinationalForm.{NetForm, fresh_name, each_once, assigned_names, names_read, assigned_after, waits_for, all_assigned, form_if, block_form}
use Rattle.v_elab.specs.declared.Mode.{Mode}
use Rattle.v_elab.specs.Blocks.{block_waits, net_targets, block_targets}
use Rattle.v_elab.specs.ItemFaults.{waits_faults, statement_faults}
use Rattle.v_elab.specs.Parts.{WalkedProcess, Part}
use Rattle.v_elab.specs.Walk.{walked_from}
use Rattle.v_elab.specs.Drivers.{signals_of, outermost, WalkedNode, two_drivers}
use Rattle.v_elab.specs.Objects.{vector_of_name}
use Rattle.v_elab.specs.Statements.{statement_over, block_body}
use Rattle.v_elab.specs.Flat.{meaning_in, outputs_of}
use Rattle.graph_order.specs.ListLaws.{AllHold-has}
use Rattle.flat_laws.specs.Made.{nodes_in, objects_in, IsMadeOf}
use Rattle.flat_laws.specs.Lists.{AllHold-from}
use Rattle.flat_laws.specs.Numbered.{AllHold-append, AllHold-filter}
use Rattle.flat_laws.specs.Limits.{design-objects}
use Rattle.flat_laws.specs.Drivers.OneDriver.{objects_of_outputs}
use Rattle.flat_laws.specs.Hierarchy.Given.{equal-name, IsHierarchy}
use Rattle.flat_laws.specs.Sizes.Complete.{append-none}
use Rattle.flat_laws.specs.Blocks.Named.{all-front, all-back, read-there, reads-there, width-within, holders-there}
use Rattle.flat_laws.specs.Hierarchy.Visits.{IsReadProcess}
use Rattle.flat_laws.specs.Blocks.Fitting.{FitsStatement, FitsName, statement-fits}
use Rattle.flat_laws.specs.Hierarchy.Behaviours.{name-there, there-name, at-map, any-named, IsBlockPart}
use Rattle.flat_laws.specs.Drivers.Variables.{one-fits}
use Rattle.flat_laws.specs.Blocks.Targets.{IsTargetHeld, target-held, target-output}
use Rattle.flat_laws.specs.Blocks.Written.{reg-at}

-- The form of a block

-- a block of combinational form, with its body and its targets
pub record IsBlockForm (scope : Scope) (body : SourceStatement) (targets : List Identifier) : Type 0 where
  pub place : SourcePlace
  pub waits : SourceWaits
  pub inner : SourceStatement
  pub is : body ≡ EventStatement place waits inner
  pub targets_are : each_once [] (map (λ (n : NamedPlace). n.name) (assigned_names inner)) ≡ targets
  pub assigned : all_assigned targets (assigned_after targets [] inner) ≡ true
  pub no_memory : list_any (λ name. is_memory (looked_up scope name)) targets ≡ false

and_then-some : {A B : Type 0} (f : A → Option B) (x : Option A) (y : B) → option_and_then f x ≡ Some y → (a : A) × (f a ≡ Some y)
and_then-some f None y e = absurd (cc)
and_then-some f (Some a) y e = (a, e)

net-form : (scope : Scope) (test : Bool) (own reads targets : List Identifier) → net_targets scope (form_if test own reads) ≡ Some targets →
    (test ≡ true) × (own ≡ targets) × (list_any (λ name. is_memory (looked_up scope name)) own ≡ false)
net-form scope false own reads targets e = absurd (cc)
net-form scope true own reads targets e = by_memory (list_any (λ name. is_memory (looked_up scope name)) own) refl
  where
    by_memory : (b : Bool) → list_any (λ name. is_memory (looked_up scope name)) own ≡ b → (true ≡ true) × (own ≡ targets) × (list_any (λ name. is_memory (looked_up scope name)) own ≡ false)
    by_memory true is = let none : net_targets scope (NetForm own reads) ≡ None = rw is refl in let both : None ≡ Some targets = sym none ∙ e in absurd (cc)
    by_memory false is = let some : net_targets scope (NetForm own reads) ≡ Some own = rw is refl in let both : Some own ≡ Some targets = sym some ∙ e in (refl, (cc), is)

pub block-formed : (scope : Scope) (body : SourceStatement) (targets : List Identifier) → block_targets scope body ≡ Some targets → IsBlockForm scope body targets
block-formed scope (EventStatement place waits inner) targets e =
    let names = and_then-some (λ all. net_targets scope (block_form inner all)) (block_waits scope waits) targets e in
    let own = each_once [] (map (λ (n : NamedPlace). n.name) (assigned_names inner)) in
    let reads = each_once own (names_read inner) in
    let r = net-form scope (all_assigned own (assigned_after own [] inner) && waits_for names.0 reads) own reads targets names.1 in
    record {
      place = place;
      waits = waits;
      inner = inner;
      is = refl;
      targets_are = r.1;
      assigned = ap (λ l. all_assigned l (assigned_after l [] inner)) (sym r.1) ∙ and-left (all_assigned own (assigned_after own [] inner)) (waits_for names.0 reads) r.0;
      no_memory = ap (list_any (λ name. is_memory (looked_up scope name))) (sym r.1) ∙ r.2;
    }
block-formed scope (NullStatement place) targets e = absurd (cc)
block-formed scope (BlockStatement place statements) targets e = absurd (cc)
block-formed scope (IfStatement place condition first) targets e = absurd (cc)
block-formed scope (IfElseStatement place condition first second) targets e = absurd (cc)
block-formed scope (CaseStatement place kind value items) targets e = absurd (cc)
block-formed scope (ForStatement place first_target first condition next_target next body) targets e = absurd (cc)
block-formed scope (WhileStatement place condition body) targets e = absurd (cc)
block-formed scope (RepeatStatement place count body) targets e = absurd (cc)
block-formed scope (ForeverStatement place body) targets e = absurd (cc)
block-formed scope (WaitStatement place condition body) targets e = absurd (cc)
block-formed scope (DelayStatement place delay body) targets e = absurd (cc)
block-formed scope (BlockingStatement place target delay value) targets e = absurd (cc)
block-formed scope (NonblockingStatement place target delay value) targets e = absurd (cc)
block-formed scope (IgnoredTask place) targets e = absurd (cc)
block-formed scope (FinishTask place) targets e = absurd (cc)

-- a name that stands in a list and wasn't seen is among those that stand once
once-has : (seen names : List Identifier) (name : Identifier) → has_name names name ≡ true → has_name seen name ≡ false → has_name (each_once seen names) name ≡ true
once-has seen [] name there unseen = absurd (cc)
once-has seen (first ∷ names) name there unseen =
    elim (cases_Bool (same_name first name)) [
      | inl same ↦
          let fresh : has_name seen first ≡ false = ap (has_name seen) (equal-name first name same) ∙ unseen in
          ap (λ b. has_name (fresh_name b first (each_once (first ∷ seen) names)) name) fresh ∙ or_left (same_name first name) (has_name (each_once (first ∷ seen) names) name) same
      | inr differs ↦
          let later : has_name names name ≡ true = ap (λ b. b || has_name names name) (sym differs) ∙ there in
          let still : has_name (first ∷ seen) name ≡ false = ap (λ b. b || has_name seen name) differs ∙ unseen in
          let rest = once-has (first ∷ seen) names name later still in
          elim (cases_Bool (has_name seen first)) [
            | inl old ↦ ap (λ b. has_name (fresh_name b first (each_once (first ∷ seen) names)) name) old ∙ rest
            | inr fresh ↦
                ap (λ b. has_name (fresh_name b first (each_once (first ∷ seen) names)) name) fresh ∙ or_right (same_name first name) (has_name (each_once (first ∷ seen) names) name) rest
          ]
    ]

-- a name that the body assigns is a target
pub assigned-target : (scope : Scope) (body : SourceStatement) (targets : List Identifier) → (form : IsBlockForm scope body targets) → (i : ℕ) (n : NamedPlace) →
    slice_get (assigned_names form.inner) i ≡ Some n → has_name targets n.name ≡ true
assigned-target scope body targets form i n at =
    let names = map (λ (m : NamedPlace). m.name) (assigned_names form.inner) in
    ap (λ l. has_name l n.name) (sym form.targets_are) ∙ once-has [] names n.name (name-there names i n.name (at-map (λ (m : NamedPlace). m.name) (assigned_names form.inner) i n at)) refl

-- a target is no memory
pub target-plain : (scope : Scope) (body : SourceStatement) (targets : List Identifier) → IsBlockForm scope body targets → (name : Identifier) → has_name targets name ≡ true →
    is_memory (looked_up scope name) ≡ false
target-plain scope body targets form name there =
    elim (cases_Bool (is_memory (looked_up scope name))) [
      | inl memory ↦ let both : true ≡ false = sym (any-named (λ n. is_memory (looked_up scope n)) targets name there memory) ∙ form.no_memory in absurd (cc)
      | inr plain ↦ plain
    ]

-- What a statement reads is what it names

pieces-low : (design : FlatDesign) (pieces : List Piece) → list_all (has_width design) pieces ≡ true → AllHold (λ o. o < length design.objects) (piece_objects pieces)
pieces-low design [] h = tt
pieces-low design (piece ∷ pieces) h = (
  width-within design.objects piece.width piece.object (and-left (has_width design piece) (list_all (has_width design) pieces) h),
  pieces-low design pieces (and-right (has_width design piece) (list_all (has_width design) pieces) h),
)

module _ (design : FlatDesign) where
  abbrev IsLow : ℕ → Type 0
  IsLow o = o < length design.objects

  abbrev named : Piece → Bool
  named piece = has_width design piece

  value-low : (e : Expression) → list_all (λ piece. has_width design piece) (named_in e) ≡ true → AllHold IsLow (objects_of e)
  value-low e h = pieces-low design (pieces_read e) (read-there named e h)

  parts-low : (parts : Expressions) → list_all (λ piece. has_width design piece) (named_in_parts parts) ≡ true → AllHold IsLow (parts_objects parts)
  parts-low parts h = pieces-low design (parts_read parts) (reads-there named parts h)

  target-low : (target : Target) → list_all named (named_in_target target) ≡ true → AllHold IsLow (index_objects target)
  target-low (WholeTarget variable) h = tt
  target-low (BitTarget variable index) h = value-low index (and-right (named (variable_piece variable)) (list_all named (named_in index)) h)
  target-low (PartTarget variable from to) h = tt
  target-low (WordTarget memory index) h = value-low index (all-back named (memory_pieces memory) (named_in index) h)

  targets-low : (targets : List Target) → list_all named (named_in_targets targets) ≡ true → AllHold IsLow (indexes_objects targets)
  targets-low [] h = tt
  targets-low (target ∷ targets) h =
      AllHold-append IsLow (index_objects target) (indexes_objects targets) (target-low target (all-front named (named_in_target target) (named_in_targets targets) h))
      (targets-low targets (all-back named (named_in_target target) (named_in_targets targets) h))

  mutual
    -- what a statement reads is there, where all is that it names
    pub statement-low : (s : Statement) → list_all (λ piece. has_width design piece) (named_by s) ≡ true → AllHold (λ o. o < length design.objects) (read_objects s)
    statement-low Null h = tt
    statement-low (Block statements) h = statements-low statements h
    statement-low (If place condition first second) h =
        let rest = all-back named (named_in condition) (named_by first ++ named_by second) h in
        AllHold-append IsLow (objects_of condition) (read_objects first ++ read_objects second) (value-low condition (all-front named (named_in condition) (named_by first ++ named_by second) h))
        (AllHold-append IsLow (read_objects first) (read_objects second) (statement-low first (all-front named (named_by first) (named_by second) rest))
        (statement-low second (all-back named (named_by first) (named_by second) rest)))
    statement-low (Case place kind value items default) h =
        let rest = all-back named (named_in value) (named_by_items items ++ named_by default) h in
        AllHold-append IsLow (objects_of value) (items_read items ++ read_objects default) (value-low value (all-front named (named_in value) (named_by_items items ++ named_by default) h))
        (AllHold-append IsLow (items_read items) (read_objects default) (items-low items (all-front named (named_by_items items) (named_by default) rest))
        (statement-low default (all-back named (named_by_items items) (named_by default) rest)))
    statement-low (For place first_targets first condition next_targets next body) h =
        let r1 = all-back named (named_in_targets first_targets) (named_in first ++ (named_in condition ++ (named_in_targets next_targets ++ (named_in next ++ named_by body)))) h in
        let r2 = all-back named (named_in first) (named_in condition ++ (named_in_targets next_targets ++ (named_in next ++ named_by body))) r1 in
        let r3 = all-back named (named_in condition) (named_in_targets next_targets ++ (named_in next ++ named_by body)) r2 in
        let r4 = all-back named (named_in_targets next_targets) (named_in next ++ named_by body) r3 in
        let q0 = targets-low first_targets (all-front named (named_in_targets first_targets)
        (named_in first ++ (named_in condition ++ (named_in_targets next_targets ++ (named_in next ++ named_by body)))) h) in
        let q1 = value-low first (all-front named (named_in first) (named_in condition ++ (named_in_targets next_targets ++ (named_in next ++ named_by body))) r1) in
        let q2 = value-low condition (all-front named (named_in condition) (named_in_targets next_targets ++ (named_in next ++ named_by body)) r2) in
        let q3 = targets-low next_targets (all-front named (named_in_targets next_targets) (named_in next ++ named_by body) r3) in
        let q4 = value-low next (all-front named (named_in next) (named_by body) r4) in
        let q5 = statement-low body (all-back named (named_in next) (named_by body) r4) in
        AllHold-append IsLow (indexes_objects first_targets) (objects_of first ++ (objects_of condition ++ (indexes_objects next_targets ++ (objects_of next ++ read_objects body)))) q0
        (AllHold-append IsLow (objects_of first) (objects_of condition ++ (indexes_objects next_targets ++ (objects_of next ++ read_objects body))) q1
        (AllHold-append IsLow (objects_of condition) (indexes_objects next_targets ++ (objects_of next ++ read_objects body)) q2
        (AllHold-append IsLow (indexes_objects next_targets) (objects_of next ++ read_objects body) q3 (AllHold-append IsLow (objects_of next) (read_objects body) q4 q5))))
    statement-low (While place condition body) h =
        AllHold-append IsLow (objects_of condition) (read_objects body) (value-low condition (all-front named (named_in condition) (named_by body) h))
        (statement-low body (all-back named (named_in condition) (named_by body) h))
    statement-low (Repeat place count body) h =
        AllHold-append IsLow (objects_of count) (read_objects body) (value-low count (all-front named (named_in count) (named_by body) h))
        (statement-low body (all-back named (named_in count) (named_by body) h))
    statement-low (Forever place body) h = statement-low body h
    statement-low (Delay place delay body) h = statement-low body h
    statement-low (EventControl place entries body) h = statement-low body h
    statement-low (Wait place condition body) h = statement-low body (all-back named (named_in condition) (named_by body) h)
    statement-low (Blocking place targets delay value) h =
        AllHold-append IsLow (indexes_objects targets) (objects_of value) (targets-low targets (all-front named (named_in_targets targets) (named_in value) h))
        (value-low value (all-back named (named_in_targets targets) (named_in value) h))
    statement-low (Nonblocking place targets delay value) h =
        AllHold-append IsLow (indexes_objects targets) (objects_of value) (targets-low targets (all-front named (named_in_targets targets) (named_in value) h))
        (value-low value (all-back named (named_in_targets targets) (named_in value) h))
    statement-low (Finish place) h = tt

    statements-low : (statements : Statements) → list_all (λ piece. has_width design piece) (named_by_all statements) ≡ true → AllHold (λ o. o < length design.objects) (all_read statements)
    statements-low no_statements h = tt
    statements-low (more_statements first rest) h =
        AllHold-append IsLow (read_objects first) (all_read rest) (statement-low first (all-front named (named_by first) (named_by_all rest) h))
        (statements-low rest (all-back named (named_by first) (named_by_all rest) h))

    items-low : (items : CaseItems) → list_all (λ piece. has_width design piece) (named_by_items items) ≡ true → AllHold (λ o. o < length design.objects) (items_read items)
    items-low no_items h = tt
    items-low (more_items labels statement rest) h =
        let later = all-back named (named_in_parts labels) (named_by statement ++ named_by_items rest) h in
        AllHold-append IsLow (parts_objects labels) (read_objects statement ++ items_read rest)
        (parts-low labels (all-front named (named_in_parts labels) (named_by statement ++ named_by_items rest) h))
        (AllHold-append IsLow (read_objects statement) (items_read rest) (statement-low statement (all-front named (named_by statement) (named_by_items rest) later))
        (items-low rest (all-back named (named_by statement) (named_by_items rest) later)))

-- so a block reads objects that are there
pub block-within : (design : FlatDesign) (s : Statement) (outputs : List ℕ) → IsTrue (have_widths design (named_by s)) → (o : ℕ) → has (node_reads (BlockNode s) outputs) o ≡ true →
    o < length design.objects
block-within design s outputs h o e =
    AllHold-has (λ n. n < length design.objects) (filter (λ object. not (has outputs object)) (read_objects s)) o
    (AllHold-filter (λ n. n < length design.objects) (λ object. not (has outputs object)) (read_objects s) (statement-low design s h)) e

-- Blocks

-- a block that is a node, with what is known of it
pub record IsKnownBlock (modules : List SourceModule) (mode : Mode) (top : SourceModule) (parts : List Part) (number : ℕ) (node : WalkedNode) (process : WalkedProcess) : Type 0 where
  pub at : slice_get (nodes_in parts) number ≡ Some node
  pub moves : IsBlockPart parts node process
  pub text : IsReadProcess modules mode top process
  pub form : IsBlockForm process.scope process.body moves.targets

-- a target that is a variable is held by one object
pub known-target : (modules : List SourceModule) (mode : Mode) (top : SourceModule) (parts : List Part) → walked_from modules mode top ≡ Ok parts → IsHierarchy parts →
    two_drivers (signals_of parts) (nodes_in parts) ≡ None →
    (number : ℕ) (node : WalkedNode) (process : WalkedProcess) → (block : IsKnownBlock modules mode top parts number node process) → (name : Identifier) → has_name block.moves.targets name ≡ true →
    is_reg (looked_up process.scope name) ≡ true → IsTargetHeld parts number (process.path ++ name)
known-target modules mode top parts e hierarchy two number node process block name there reg =
    let place = there-name block.moves.targets name there in
    let variable = reg-at modules mode top parts e process.path process.scope block.text.at name reg in
    target-held parts hierarchy two number node process block.at block.moves place.0 name place.1 variable.number variable.signal variable.is variable.name_is

-- what the body of a block names is there, and it writes outputs of its node
pub block-fits : (modules : List SourceModule) (mode : Mode) (top : SourceModule) (parts : List Part) (design : FlatDesign) → walked_from modules mode top ≡ Ok parts → IsMadeOf parts design →
    IsHierarchy parts → (number : ℕ) (node : WalkedNode)
    (process : WalkedProcess) → IsKnownBlock modules mode top parts number node process →
    FitsStatement design (λ o. has (objects_of_outputs (outputs_of (objects_in parts) number)) o ≡ true) (meaning_in parts (objects_in parts) process)
    (statement_over (meaning_in parts (objects_in parts) process) (block_body process.body))
block-fits modules mode top parts design e made hierarchy number node process block =
    let objects = objects_in parts in
    let is = design-objects parts design made in
    let meaning = meaning_in parts objects process in
    let form = block.form in
    let inner = form.inner in
    let Q : ℕ → Type 0 = λ o. has (objects_of_outputs (outputs_of objects number)) o ≡ true in
    let there = holders-there design parts (nodes_in parts) hierarchy is process.path in
    let names : AllHold (λ (n : NamedPlace). FitsName design Q meaning n.name) (assigned_names inner) =
    AllHold-from (λ (n : NamedPlace). FitsName design Q meaning n.name) (assigned_names inner)
    (λ i n at.
    let target = assigned-target process.scope process.body block.moves.targets form i n at in
    record {
      words = λ memory. let both : true ≡ false = sym memory ∙ target-plain process.scope process.body block.moves.targets form n.name target in absurd (cc);
      variable = λ reg.
          let t = known-target modules mode top parts e hierarchy made.one_driver number node process block n.name target reg in
          one-fits design Q objects is (outermost (signals_of parts) (process.path ++ n.name)) t.held t.one (target-output parts number (process.path ++ n.name) t)
          (vector_of_name (signals_of parts) objects (process.path ++ n.name)) refl;
    }) in
    let none = append-none (entry_faults process.scope form.waits) (statement_name_faults process.scope inner) (ap (statement_name_faults process.scope) (sym form.is) ∙ block.text.names) in
    let sizes = append-none (waits_faults process.scope form.waits) (statement_faults process.scope inner) (ap (statement_faults process.scope) (sym form.is) ∙ block.text.sizes) in
    let r = statement-fits design Q meaning inner there names none.1 sizes.1 in
    subst (λ s. FitsStatement design Q meaning (statement_over meaning (block_body s))) (sym form.is) r
