-- The entries for which the processes of a design may wait (IEEE 1364-2001, clause 9.7).
use Rattle.std.proofs.Common.{◌≡◌, ℕ, zero, suc, ◌<◌, ◌≤◌, Bool, true, false, List, [], ◌∷◌, ◌++◌, length, map, get_or, refl, sym, ap, ◌∙◌, arith}
use Rattle.std.specs.Prelude.{slice_get, nat_eq}
use Rattle.std.proofs.lemmas.Bool.{and_parts, eqb-true, eq-eqb, or_left, or_right}
use Rattle.four_value.specs.Values.{IsWidth}
use Rattle.vf_base.specs.Lists.{has, AllHold}
use Rattle.v_design.specs.Trees.{Piece, Entry, Statement, Null, Block, If, Case, For, While, Repeat, Forever, Delay, EventControl, Wait, Blocking, Nonblocking, Finish, Statements, no_statements}
use Rattle.v_design.specs.Trees.{more_statements, CaseItems, no_items, more_items}
use Rattle.v_design.specs.Designs.{FlatObject, FlatDesign, FlatProcess, width_in}
use Rattle.v_design.specs.Reads.{named_in, named_in_parts, named_in_targets, named_by, named_by_all, named_by_items, entries_in, entries_in_all, entries_in_items}
use Rattle.v_design.specs.Sized.{IsSizedEntry, IsSizedStatement, AreSizedStatements, AreSizedItems}
use Rattle.v_design.specs.States.{found_or}
use Rattle.v_design.specs.Plain.{process_of, statement_of}
use Rattle.v_design.specs.declared.plan.Process.{Process}
use Rattle.process_operands.specs.BoundsLaws.{AreBelow}
use Rattle.v_design.specs.WellFormed.{KeepsRules, IsProcessOf, IsEntryOf, IsSizedObject, width_is, has_width, have_widths}
use Rattle.wait_index.specs.Waits.{waited_objects, all_waited, items_waited, entry_objects}
use Rattle.process_table.specs.Waited.{any_change, piece_entries, waited_entries, all_entries, items_entries, IsWaitable, body_of}

pub left : {A : Type 0} (P : A → Type 0) (xs ys : List A) → AllHold P (xs ++ ys) → AllHold P xs
left P [] ys h = tt
left P (x ∷ xs) ys h = (h.0, left P xs ys h.1)

pub right : {A : Type 0} (P : A → Type 0) (xs ys : List A) → AllHold P (xs ++ ys) → AllHold P ys
right P [] ys h = h
right P (x ∷ xs) ys h = right P xs ys h.1

more : {A : Type 0} (P : A → Type 0) (xs ys : List A) → AllHold P xs → AllHold P ys → AllHold P (xs ++ ys)
more P [] ys h i = i
more P (x ∷ xs) ys h i = (h.0, more P xs ys h.1 i)

images : {A B : Type 0} (f : A → B) (P : B → Type 0) (xs : List A) → AllHold (λ x. P (f x)) xs → AllHold P (map f xs)
images f P [] h = tt
images f P (x ∷ xs) h = (h.0, images f P xs h.1)

both : {A : Type 0} (P Q R : A → Type 0) (xs : List A) → ((x : A) → P x → Q x → R x) → AllHold P xs → AllHold Q xs → AllHold R xs
both P Q R [] k h i = tt
both P Q R (x ∷ xs) k h i = (k x h.0 i.0, both P Q R xs k h.1 i.1)

map-more : {A B : Type 0} (f : A → B) (xs ys : List A) → map f (xs ++ ys) ≡ map f xs ++ map f ys
map-more f [] ys = refl
map-more f (x ∷ xs) ys = ap (λ zs. f x ∷ zs) (map-more f xs ys)

mutual
  -- what a statement may wait for is an entry of its event controls, or a change of a piece that it names
  waited-from : (P : Entry → Type 0) (s : Statement) → AllHold P (entries_in s) → AllHold (λ piece. P (any_change piece)) (named_by s) → AllHold P (waited_entries s)
  waited-from P Null h i = tt
  waited-from P (Block statements) h i = waited-all P statements h i
  waited-from P (If place condition first second) h i =
      let j = right _ (named_in condition) (named_by first ++ named_by second) i in
      more P (waited_entries first) (waited_entries second) (waited-from P first (left P (entries_in first) (entries_in second) h) (left _ (named_by first) (named_by second) j))
      (waited-from P second (right P (entries_in first) (entries_in second) h) (right _ (named_by first) (named_by second) j))
  waited-from P (Case place kind value items default) h i =
      let j = right _ (named_in value) (named_by_items items ++ named_by default) i in
      more P (items_entries items) (waited_entries default) (waited-items P items (left P (entries_in_items items) (entries_in default) h) (left _ (named_by_items items) (named_by default) j))
      (waited-from P default (right P (entries_in_items items) (entries_in default) h) (right _ (named_by_items items) (named_by default) j))
  waited-from P (For place first_targets first condition next_targets next body) h i =
      let a = right _ (named_in_targets first_targets) (named_in first ++ (named_in condition ++ (named_in_targets next_targets ++ (named_in next ++ named_by body)))) i in
      let b = right _ (named_in first) (named_in condition ++ (named_in_targets next_targets ++ (named_in next ++ named_by body))) a in
      let c = right _ (named_in condition) (named_in_targets next_targets ++ (named_in next ++ named_by body)) b in
      let d = right _ (named_in_targets next_targets) (named_in next ++ named_by body) c in
      waited-from P body h (right _ (named_in next) (named_by body) d)
  waited-from P (While place condition body) h i = waited-from P body h (right _ (named_in condition) (named_by body) i)
  waited-from P (Repeat place count body) h i = waited-from P body h (right _ (named_in count) (named_by body) i)
  waited-from P (Forever place body) h i = waited-from P body h i
  waited-from P (Delay place delay body) h i = waited-from P body h i
  waited-from P (EventControl place entries body) h i =
      more P entries (waited_entries body) (left P entries (entries_in body) h) (waited-from P body (right P entries (entries_in body) h) i)
  waited-from P (Wait place condition body) h i =
      more P (piece_entries (named_in condition)) (waited_entries body) (images any_change P (named_in condition) (left _ (named_in condition) (named_by body) i))
      (waited-from P body h (right _ (named_in condition) (named_by body) i))
  waited-from P (Blocking place targets delay value) h i = tt
  waited-from P (Nonblocking place targets delay value) h i = tt
  waited-from P (Finish place) h i = tt

  waited-all : (P : Entry → Type 0) (ss : Statements) → AllHold P (entries_in_all ss) → AllHold (λ piece. P (any_change piece)) (named_by_all ss) → AllHold P (all_entries ss)
  waited-all P no_statements h i = tt
  waited-all P (more_statements first rest) h i =
      more P (waited_entries first) (all_entries rest) (waited-from P first (left P (entries_in first) (entries_in_all rest) h) (left _ (named_by first) (named_by_all rest) i))
      (waited-all P rest (right P (entries_in first) (entries_in_all rest) h) (right _ (named_by first) (named_by_all rest) i))

  waited-items : (P : Entry → Type 0) (items : CaseItems) → AllHold P (entries_in_items items) → AllHold (λ piece. P (any_change piece)) (named_by_items items) → AllHold P (items_entries items)
  waited-items P no_items h i = tt
  waited-items P (more_items labels statement rest) h i =
      let j = right _ (named_in_parts labels) (named_by statement ++ named_by_items rest) i in
      more P (waited_entries statement) (items_entries rest) (waited-from P statement (left P (entries_in statement) (entries_in_items rest) h) (left _ (named_by statement) (named_by_items rest) j))
      (waited-items P rest (right P (entries_in statement) (entries_in_items rest) h) (right _ (named_by statement) (named_by_items rest) j))

mutual
  -- the entries of a sized statement have widths
  sized-entries : (s : Statement) → IsSizedStatement s → AllHold IsSizedEntry (entries_in s)
  sized-entries Null h = tt
  sized-entries (Block statements) h = sized-all statements h
  sized-entries (If place condition first second) h = more IsSizedEntry (entries_in first) (entries_in second) (sized-entries first h.1) (sized-entries second h.2)
  sized-entries (Case place kind value items default) h =
      more IsSizedEntry (entries_in_items items) (entries_in default) (sized-items _ _ items h.2) (sized-entries default h.3)
  sized-entries (For place first_targets first condition next_targets next body) h = sized-entries body h.3
  sized-entries (While place condition body) h = sized-entries body h.1
  sized-entries (Repeat place count body) h = sized-entries body h.1
  sized-entries (Forever place body) h = sized-entries body h
  sized-entries (Delay place delay body) h = sized-entries body h.1
  sized-entries (EventControl place entries body) h = more IsSizedEntry entries (entries_in body) h.0 (sized-entries body h.1)
  sized-entries (Wait place condition body) h = sized-entries body h.1
  sized-entries (Blocking place targets delay value) h = tt
  sized-entries (Nonblocking place targets delay value) h = tt
  sized-entries (Finish place) h = tt

  sized-all : (ss : Statements) → AreSizedStatements ss → AllHold IsSizedEntry (entries_in_all ss)
  sized-all no_statements h = tt
  sized-all (more_statements first rest) h = more IsSizedEntry (entries_in first) (entries_in_all rest) (sized-entries first h.0) (sized-all rest h.1)

  sized-items : (width : ℕ) (signed : Bool) (items : CaseItems) → AreSizedItems width signed items → AllHold IsSizedEntry (entries_in_items items)
  sized-items width signed no_items h = tt
  sized-items width signed (more_items labels statement rest) h =
      more IsSizedEntry (entries_in statement) (entries_in_items rest) (sized-entries statement h.1) (sized-items width signed rest h.2)

mutual
  -- the objects on which a statement may wait are those of its entries
  objects-of : (s : Statement) → waited_objects s ≡ entry_objects (waited_entries s)
  objects-of Null = refl
  objects-of (Block statements) = objects-all statements
  objects-of (If place condition first second) =
      ap (λ xs. xs ++ waited_objects second) (objects-of first) ∙ ap (λ ys. entry_objects (waited_entries first) ++ ys) (objects-of second)
      ∙ sym (map-more (λ (entry : Entry). entry.object) (waited_entries first) (waited_entries second))
  objects-of (Case place kind value items default) =
      ap (λ xs. xs ++ waited_objects default) (objects-items items) ∙ ap (λ ys. entry_objects (items_entries items) ++ ys) (objects-of default)
      ∙ sym (map-more (λ (entry : Entry). entry.object) (items_entries items) (waited_entries default))
  objects-of (For place first_targets first condition next_targets next body) = objects-of body
  objects-of (While place condition body) = objects-of body
  objects-of (Repeat place count body) = objects-of body
  objects-of (Forever place body) = objects-of body
  objects-of (Delay place delay body) = objects-of body
  objects-of (EventControl place entries body) =
      ap (λ ys. entry_objects entries ++ ys) (objects-of body) ∙ sym (map-more (λ (entry : Entry). entry.object) entries (waited_entries body))
  objects-of (Wait place condition body) =
      ap (λ ys. map (λ (piece : Piece). piece.object) (named_in condition) ++ ys) (objects-of body)
      ∙ ap (λ xs. xs ++ entry_objects (waited_entries body)) (piece-objects (named_in condition))
      ∙ sym (map-more (λ (entry : Entry). entry.object) (piece_entries (named_in condition)) (waited_entries body))
    where
      piece-objects : (pieces : List Piece) → map (λ (piece : Piece). piece.object) pieces ≡ entry_objects (piece_entries pieces)
      piece-objects [] = refl
      piece-objects (piece ∷ pieces) = ap (λ xs. piece.object ∷ xs) (piece-objects pieces)
  objects-of (Blocking place targets delay value) = refl
  objects-of (Nonblocking place targets delay value) = refl
  objects-of (Finish place) = refl

  objects-all : (ss : Statements) → all_waited ss ≡ entry_objects (all_entries ss)
  objects-all no_statements = refl
  objects-all (more_statements first rest) =
      ap (λ xs. xs ++ all_waited rest) (objects-of first) ∙ ap (λ ys. entry_objects (waited_entries first) ++ ys) (objects-all rest)
      ∙ sym (map-more (λ (entry : Entry). entry.object) (waited_entries first) (all_entries rest))

  objects-items : (items : CaseItems) → items_waited items ≡ entry_objects (items_entries items)
  objects-items no_items = refl
  objects-items (more_items labels statement rest) =
      ap (λ xs. xs ++ items_waited rest) (objects-of statement) ∙ ap (λ ys. entry_objects (waited_entries statement) ++ ys) (objects-items rest)
      ∙ sym (map-more (λ (entry : Entry). entry.object) (waited_entries statement) (items_entries rest))

-- each entry is on one of their objects
on-objects : (all : List ℕ) (entries : List Entry) → ((o : ℕ) → has (entry_objects entries) o ≡ true → has all o ≡ true) → AllHold (λ (entry : Entry). has all entry.object ≡ true) entries
on-objects all [] h = tt
on-objects all (entry ∷ entries) h = (
  h entry.object (or_left (nat_eq entry.object entry.object) (has (entry_objects entries) entry.object) (eq-eqb entry.object entry.object refl)),
  on-objects all entries (λ o i. h o (or_right (nat_eq entry.object o) (has (entry_objects entries) o) i)),
)

-- What is there, with a width

width-there : (objects : List FlatObject) (object : ℕ) → 1 ≤ get_or (map (λ (o : FlatObject). o.width) objects) object 0 → object < length objects
width-there [] object some = absurd (omega (arith, some))
width-there (o ∷ objects) zero some = omega arith
width-there (o ∷ objects) (suc object) some = omega (arith, width-there objects object some)

piece-there : (objects : List FlatObject) (object width : ℕ) → AllHold IsSizedObject objects → width_is width (slice_get objects object) ≡ true → (object < length objects) × IsWidth width
piece-there [] object width h e = absurd (cc)
piece-there (o ∷ objects) zero width h e =
    let same : o.width ≡ width = eqb-true o.width width e in
    let spans = h.0.1 in
    let few = h.0.2 in
    (omega arith, (omega (arith, same, spans), omega (arith, same, few)))
piece-there (o ∷ objects) (suc object) width h e = let there = piece-there objects object width h.1 e in (omega (arith, there.0), there.1)

pieces-there : (design : FlatDesign) (pieces : List Piece) → AllHold IsSizedObject design.objects → have_widths design pieces ≡ true →
    AllHold (λ (piece : Piece). (piece.object < length design.objects) × IsWidth piece.width) pieces
pieces-there design [] h e = tt
pieces-there design (piece ∷ pieces) h e =
    let parts = and_parts (has_width design piece) (have_widths design pieces) e in
    (piece-there design.objects piece.object piece.width h parts.0, pieces-there design pieces h parts.1)

-- The entries of a body

-- an entry of the design with a width
abbrev Within : FlatDesign → Entry → Type 0
Within design entry = (entry.object < length design.objects) × IsWidth entry.width

entry-within : (design : FlatDesign) (entry : Entry) → IsEntryOf design entry → IsSizedEntry entry → Within design entry
entry-within design entry fits sized =
    let some : 1 ≤ width_in design entry.object = omega (arith, fits, sized.1) in
    (width-there design.objects entry.object some, (sized.1, sized.2))

body-waitable : (design : FlatDesign) (process : FlatProcess) → AllHold IsSizedObject design.objects → IsProcessOf design process →
    AllHold (IsWaitable design process.body) (waited_entries process.body)
body-waitable design process objects rules =
    let body = process.body in
    let entries : AllHold (Within design) (entries_in body) =
    both (IsEntryOf design) IsSizedEntry (Within design) (entries_in body) (entry-within design) rules.entries (sized-entries body rules.sized) in
    let own : AllHold (Within design) (waited_entries body) = waited-from (Within design) body entries (pieces-there design (named_by body) objects rules.names) in
    let named : AllHold (λ (entry : Entry). has (waited_objects body) entry.object ≡ true) (waited_entries body) =
    on-objects (waited_objects body) (waited_entries body) (λ o i. ap (λ xs. has xs o) (objects-of body) ∙ i) in
    both (Within design) (λ (entry : Entry). has (waited_objects body) entry.object ≡ true) (IsWaitable design body) (waited_entries body)
    (λ entry h i. record { waited = i; there = h.0; width = h.1 }) own named

-- the entries of each process of a design are waitable
pub bodies-waitable : (design : FlatDesign) → KeepsRules design → (n : ℕ) → AllHold (IsWaitable design (body_of design n)) (waited_entries (body_of design n))
bodies-waitable design rules n = go design.processes n rules.processes
  where
    go : (processes : List FlatProcess) (n : ℕ) → AllHold (IsProcessOf design) processes →
        let body = (found_or (record { always = false; body = Null; place = record { line = 0; column = 0 } }) (slice_get processes n)).body in
        AllHold (IsWaitable design body) (waited_entries body)
    go [] n h = tt
    go (process ∷ processes) zero h = body-waitable design process rules.objects h.0
    go (process ∷ processes) (suc n) h = go processes n h.1

-- What the rules of a design give of its processes

-- their bodies are sized
pub sized-processes : (design : FlatDesign) (processes : List Process) → AllHold (IsProcessOf design) (map process_of processes) →
    AllHold (λ (process : Process). IsSizedStatement (statement_of process.body)) processes
sized-processes design [] h = tt
sized-processes design (process ∷ processes) h = (h.0.sized, sized-processes design processes h.1)

-- they name objects that are there
pub bodies-below : (design : FlatDesign) → KeepsRules design → (n : ℕ) → AreBelow (length design.objects) (named_by (body_of design n))
bodies-below design rules n = go design.processes n rules.processes
  where
    below : (pieces : List Piece) → AllHold (λ (piece : Piece). (piece.object < length design.objects) × IsWidth piece.width) pieces → AreBelow (length design.objects) pieces
    below [] h = tt
    below (piece ∷ pieces) h = (h.0.0, below pieces h.1)

    go : (processes : List FlatProcess) (n : ℕ) → AllHold (IsProcessOf design) processes →
        AreBelow (length design.objects) (named_by (found_or (record { always = false; body = Null; place = record { line = 0; column = 0 } }) (slice_get processes n)).body)
    go [] n h = tt
    go (process ∷ processes) zero h = below (named_by process.body) (pieces-there design (named_by process.body) rules.objects h.0.names)
    go (process ∷ processes) (suc n) h = go processes n h.1
