-- What a node gives rests on its inputs alone and has the widths of its outputs.
use Rattle.std.proofs.Common.{◌≡◌, ℕ, zero, suc, ◌+◌, ◌≤◌, List, [], ◌∷◌, ◌++◌, map, length, Bool, true, false, not, ◌&&◌, ◌||◌, refl, sym, ap, subst, ◌∙◌, ◌⊎◌, inl, inr, arith, get_or, fold, filter}
use Rattle.std.specs.Prelude.{Option, Some, None, slice_get, nat_eq, is_none, cond, option_and_then}
use Rattle.std.specs.List.{list_all, AllZip}
use Rattle.std.proofs.lemmas.Bool.{eqb-true}
use Rattle.vf_base.specs.Lists.{AllHold, has, change_at, zip_with, map_numbered}
use Rattle.four_value.specs.Values.{LogicValue, natural_number, is_true, part_of, with_part, bit_at}
use Rattle.four_value.specs.Bits.{bit_of}
use Rattle.v_design.specs.Trees.{Piece, Expression, Target, WholeTarget, BitTarget, PartTarget, WordTarget, Statement, Null, Block, If, Case, For, While, Repeat, Forever, Delay, EventControl, Wait}
use Rattle.v_design.specs.Trees.{Blocking, Nonblocking, Finish, Statements, no_statements, more_statements, CaseItems, no_items, more_items}
use Rattle.v_design.specs.Expressions.{sign_of, width_of, value_of, objects_of, parts_objects, pieces_read, parts_read, memory_pieces}
use Rattle.v_design.specs.Designs.{FlatObject, FlatNodeKind, AssignNode, GateNode, BlockNode, Machine, StuckAt, FaultSite, VariableBit, OutputBit, GateTerminal, forced_if, forced_at_output}
use Rattle.v_design.specs.Designs.{forced_output, forced_terminal}
use Rattle.v_design.specs.Assignments.{ValueUpdate, value_at, updated, target_width, target_update, target_updates, targets_width, index_value, assigned, some_label_matches, label_values}
use Rattle.v_design.specs.Assignments.{either_values, run_statement, run_statements, run_items, gate_bit, node_value, object_width}
use Rattle.v_design.specs.WellFormed.{KeepsRules, IsSizedNode, width_is, has_width, have_widths}
use Rattle.v_design.specs.Reads.{node_reads, read_objects, all_read, labels_read, items_read, indexes_objects, named_in, named_in_parts, named_in_target, named_in_targets, named_by, named_by_all}
use Rattle.v_design.specs.Reads.{named_by_items, named_by_node}
use Rattle.v_design.specs.CombinationalForm.{reads_assigned, whole_targets, part_targets_after, assigned_if, assigned_on_both, then_assigned, assigned_by, all_assigned_by, items_assigned_by}
use Rattle.v_design.specs.CombinationalForm.{all_among, WritesOutputs}
use Rattle.four_value.specs.declared.logic.Bit.{Bit}
use Rattle.four_value.specs.declared.operator.CaseKind.{CaseKind}
use Rattle.order_laws.proofs.Rules.{node_rules}
use Rattle.order_laws.proofs.ListLaws.{get_or-change_at}
use Rattle.order_laws.proofs.PathLaws.{decided, true-false, or-either, or-second}
use Rattle.order_laws.proofs.WritersStay.{Clear, clear-append, clear-left, clear-right, in-clear}
use Rattle.order_laws.proofs.NetStates.{other_number}
use Rattle.order_laws.proofs.SettledNets.{Fit, RestOnInputs, length-with_part}
use Rattle.order_laws.proofs.ExpressionRests.{PiecesFit, agree_objects, value-same, labels-same}

and-both : (b c : Bool) → (b && c) ≡ true → (b ≡ true) × (c ≡ true)
and-both true c e = (refl, e)
and-both false c e = cc

-- Widths of what is named

-- the objects have the widths that are named
abbrev pub NamedFit : Machine → List Piece → Type 0
NamedFit machine [] = Unit {0}
NamedFit machine (piece ∷ pieces) = (object_width machine piece.object ≡ piece.width) × NamedFit machine pieces

named-left : (machine : Machine) (ps qs : List Piece) → NamedFit machine (ps ++ qs) → NamedFit machine ps
named-left machine [] qs h = tt
named-left machine (p ∷ ps) qs h = (h.0, named-left machine ps qs h.1)

named-right : (machine : Machine) (ps qs : List Piece) → NamedFit machine (ps ++ qs) → NamedFit machine qs
named-right machine [] qs h = h
named-right machine (p ∷ ps) qs h = named-right machine ps qs h.1

width-found : (objects : List FlatObject) (number width : ℕ) → width_is width (slice_get objects number) ≡ true → get_or (map (λ (o : FlatObject). o.width) objects) number 0 ≡ width
width-found [] number width h = cc
width-found (object ∷ objects) zero width h = eqb-true object.width width h
width-found (object ∷ objects) (suc number) width h = width-found objects number width h

pub named_fit : (machine : Machine) (pieces : List Piece) → have_widths machine.design pieces ≡ true → NamedFit machine pieces
named_fit machine [] h = tt
named_fit machine (piece ∷ pieces) h =
    let both : (has_width machine.design piece ≡ true) × (have_widths machine.design pieces ≡ true) = and-both (has_width machine.design piece) (have_widths machine.design pieces) h in
    (width-found machine.design.objects piece.object piece.width both.0, named_fit machine pieces both.1)

pieces-fit : (machine : Machine) (values : List LogicValue) (pieces : List Piece) → Fit machine values → NamedFit machine pieces → PiecesFit (value_at values) pieces
pieces-fit machine values [] f h = tt
pieces-fit machine values (piece ∷ pieces) f h = (f piece.object ∙ h.0, pieces-fit machine values pieces f h.1)

-- Updates of two lists of values

updated-here : (values : List LogicValue) (object low : ℕ) (part : LogicValue) → value_at (change_at values object (λ old. with_part old low part)) object ≡ with_part (value_at values object) low part
updated-here [] object low part = refl
updated-here (v ∷ values) zero low part = refl
updated-here (v ∷ values) (suc object) low part = updated-here values object low part

abbrev pub Agrees : (ℕ → Type 0) → List LogicValue → List LogicValue → Type 0
Agrees Q a b = (x : ℕ) → Q x → value_at a x ≡ value_at b x

agrees-updated : (Q : ℕ → Type 0) (a b : List LogicValue) (u : Option ValueUpdate) → Agrees Q a b → Agrees Q (updated a u) (updated b u)
agrees-updated Q a b None h x q = h x q
agrees-updated Q a b (Some u) h x q = elim (decided (nat_eq u.object x)) [
  | inl same ↦
      subst (λ y. Q y → value_at (updated a (Some u)) y ≡ value_at (updated b (Some u)) y) (eqb-true u.object x same)
      (λ r. updated-here a u.object u.low u.value ∙ ap (λ v. with_part v u.low u.value) (h u.object r) ∙ sym (updated-here b u.object u.low u.value)) q
  | inr other ↦
      get_or-change_at a u.object x (λ old. with_part old u.low u.value) [] (other_number u.object x other) ∙ h x q
      ∙ sym (get_or-change_at b u.object x (λ old. with_part old u.low u.value) [] (other_number u.object x other))
]

fit-updated : (machine : Machine) (a : List LogicValue) (u : Option ValueUpdate) → Fit machine a → Fit machine (updated a u)
fit-updated machine a None f x = f x
fit-updated machine a (Some u) f x = elim (decided (nat_eq u.object x)) [
  | inl same ↦
      subst (λ y. length (value_at (updated a (Some u)) y) ≡ object_width machine y) (eqb-true u.object x same)
      (ap length (updated-here a u.object u.low u.value) ∙ length-with_part (value_at a u.object) u.value u.low ∙ f u.object)
  | inr other ↦ ap length (get_or-change_at a u.object x (λ old. with_part old u.low u.value) [] (other_number u.object x other)) ∙ f x
]

with_part-whole : (old part : LogicValue) → length part ≡ length old → with_part old 0 part ≡ part
with_part-whole [] [] e = refl
with_part-whole [] (p ∷ part) e = absurd (omega (arith, e))
with_part-whole (b ∷ old) [] e = absurd (omega (arith, e))
with_part-whole (b ∷ old) (p ∷ part) e = ap (λ v. p ∷ v) (with_part-whole old part (omega (arith, e)))

length-part_of : (bits : LogicValue) (low width : ℕ) → length (part_of bits low width) ≡ width
length-part_of bits low zero = refl
length-part_of bits low (suc width) = ap suc (length-part_of bits (low + 1) width)

-- agreement on some objects, of values with their widths
pub record Same (machine : Machine) (Q : ℕ → Type 0) (a b : List LogicValue) : Type 0 where
  pub agrees : Agrees Q a b
  pub one_fits : Fit machine a
  pub other_fits : Fit machine b

same-updated : (machine : Machine) (Q : ℕ → Type 0) (a b : List LogicValue) (u : Option ValueUpdate) → Same machine Q a b → Same machine Q (updated a u) (updated b u)
same-updated machine Q a b u s = record { agrees = agrees-updated Q a b u s.agrees; one_fits = fit-updated machine a u s.one_fits; other_fits = fit-updated machine b u s.other_fits }

same-fewer : (machine : Machine) (Q R : ℕ → Type 0) (a b : List LogicValue) → ((x : ℕ) → R x → Q x) → Same machine Q a b → Same machine R a b
same-fewer machine Q R a b h s = record { agrees = λ x r. s.agrees x (h x r); one_fits = s.one_fits; other_fits = s.other_fits }

-- an object that is written whole agrees afterwards
same-whole : (machine : Machine) (Q : ℕ → Type 0) (a b : List LogicValue) (line object : ℕ) (value : LogicValue) → length value ≡ object_width machine object → Same machine Q a b →
    Same machine (λ x. Q x ⊎ (nat_eq object x ≡ true)) (updated a (Some (record { object = object; low = 0; value = value; line = line })))
    (updated b (Some (record { object = object; low = 0; value = value; line = line })))
same-whole machine Q a b line object value e s =
    let update : ValueUpdate = record { object = object; low = 0; value = value; line = line } in
    record {
      agrees = λ x q. elim q [
        | inl old ↦ agrees-updated Q a b (Some update) s.agrees x old
        | inr here ↦
            subst (λ y. value_at (updated a (Some update)) y ≡ value_at (updated b (Some update)) y) (eqb-true object x here)
            (updated-here a object 0 value ∙ with_part-whole (value_at a object) value (e ∙ sym (s.one_fits object))
            ∙ sym (updated-here b object 0 value ∙ with_part-whole (value_at b object) value (e ∙ sym (s.other_fits object))))
      ];
      one_fits = fit-updated machine a (Some update) s.one_fits;
      other_fits = fit-updated machine b (Some update) s.other_fits;
    }

same-targets : (machine : Machine) (Q : ℕ → Type 0) (line : ℕ) (c : List LogicValue) (targets : List Target) (value : LogicValue) (a b : List LogicValue) →
    NamedFit machine (named_in_targets targets) → Same machine Q a b →
    Same machine (λ x. Q x ⊎ (has (whole_targets targets) x ≡ true)) (fold updated a (target_updates line targets (map (index_value c) targets) value))
    (fold updated b (target_updates line targets (map (index_value c) targets) value))
same-targets machine Q line c [] value a b f s = same-fewer machine Q _ a b (λ x q. elim q [ inl old ↦ old | inr none ↦ true-false false none refl ]) s
same-targets machine Q line c (WholeTarget variable ∷ targets) value a b f s =
    same-fewer machine (λ x. (Q x ⊎ (nat_eq variable.object x ≡ true)) ⊎ (has (whole_targets targets) x ≡ true)) _ _ _
    (λ x q. elim q [
      | inl old ↦ inl (inl old)
      | inr new ↦ elim (or-either (nat_eq variable.object x) (has (whole_targets targets) x) new) [ inl here ↦ inl (inr here) | inr there ↦ inr there ]
    ])
    (same-targets machine (λ x. Q x ⊎ (nat_eq variable.object x ≡ true)) line c targets value _ _ f.1
    (same-whole machine Q a b line variable.object (part_of value (targets_width targets) variable.width) (length-part_of value (targets_width targets) variable.width ∙ sym f.0) s))
same-targets machine Q line c (BitTarget variable index ∷ targets) value a b f s =
    same-targets machine Q line c targets value _ _ (named-right machine (named_in_target (BitTarget variable index)) (named_in_targets targets) f)
    (same-updated machine Q a b (target_update line (BitTarget variable index) (index_value c (BitTarget variable index)) (part_of value (targets_width targets) 1)) s)
same-targets machine Q line c (PartTarget variable from to ∷ targets) value a b f s =
    same-targets machine Q line c targets value _ _ (named-right machine (named_in_target (PartTarget variable from to)) (named_in_targets targets) f)
    (same-updated machine Q a b (target_update line (PartTarget variable from to) (index_value c (PartTarget variable from to))
    (part_of value (targets_width targets) (target_width (PartTarget variable from to)))) s)
same-targets machine Q line c (WordTarget memory index ∷ targets) value a b f s =
    same-targets machine Q line c targets value _ _ (named-right machine (named_in_target (WordTarget memory index)) (named_in_targets targets) f)
    (same-updated machine Q a b (target_update line (WordTarget memory index) (index_value c (WordTarget memory index)) (part_of value (targets_width targets) memory.width)) s)

-- Combinational blocks

-- an object of these agrees if it is an input or is assigned
abbrev Reached : (ℕ → Type 0) → List ℕ → ℕ → Type 0
Reached Input assigned x = Input x ⊎ (has assigned x ≡ true)

-- what is read and is no output is an input
abbrev ReadsInputs : (ℕ → Type 0) → List ℕ → List ℕ → Type 0
ReadsInputs Input outputs objects = Clear (λ x. has outputs x ≡ false → Input x) objects

read-step : (outputs assigned : List ℕ) (x : ℕ) → (not (has outputs x) || has assigned x) ≡ true → (has outputs x ≡ false) ⊎ (has assigned x ≡ true)
read-step outputs assigned x h = go (has outputs x) (has assigned x) h
  where
    go : (b c : Bool) → (not b || c) ≡ true → (b ≡ false) ⊎ (c ≡ true)
    go true c e = inr e
    go false c e = inl refl

reads-agree : (machine : Machine) (Input : ℕ → Type 0) (outputs assigned objects : List ℕ) (a b : List LogicValue) → reads_assigned outputs assigned objects ≡ true →
    ReadsInputs Input outputs objects →
    Same machine (Reached Input assigned) a b → Clear (λ x. value_at a x ≡ value_at b x) objects
reads-agree machine Input outputs assigned [] a b e h s = tt
reads-agree machine Input outputs assigned (x ∷ objects) a b e h s =
    let both : ((not (has outputs x) || has assigned x) ≡ true) × (reads_assigned outputs assigned objects ≡ true) =
    and-both (not (has outputs x) || has assigned x) (reads_assigned outputs assigned objects) e in (
      s.agrees x (elim (read-step outputs assigned x both.0) [ inl out ↦ inl (h.0 out) | inr there ↦ inr there ]),
      reads-agree machine Input outputs assigned objects a b both.1 h.1 s,
    )

reads-left : (outputs assigned xs ys : List ℕ) → reads_assigned outputs assigned (xs ++ ys) ≡ true → reads_assigned outputs assigned xs ≡ true
reads-left outputs assigned [] ys e = refl
reads-left outputs assigned (x ∷ xs) ys e =
    let both : ((not (has outputs x) || has assigned x) ≡ true) × (reads_assigned outputs assigned (xs ++ ys) ≡ true) =
    and-both (not (has outputs x) || has assigned x) (reads_assigned outputs assigned (xs ++ ys)) e in
    ap (λ b. b && reads_assigned outputs assigned xs) both.0 ∙ reads-left outputs assigned xs ys both.1

reads-right : (outputs assigned xs ys : List ℕ) → reads_assigned outputs assigned (xs ++ ys) ≡ true → reads_assigned outputs assigned ys ≡ true
reads-right outputs assigned [] ys e = e
reads-right outputs assigned (x ∷ xs) ys e =
    reads-right outputs assigned xs ys (and-both (not (has outputs x) || has assigned x) (reads_assigned outputs assigned (xs ++ ys)) e).1

then-parts : (b : Bool) (found : Option (List ℕ)) (assigned : List ℕ) → then_assigned b found ≡ Some assigned → (b ≡ true) × (found ≡ Some assigned)
then-parts true found assigned e = (refl, e)
then-parts false found assigned e = cc

if-parts : (b : Bool) (assigned given : List ℕ) → assigned_if b assigned ≡ Some given → (b ≡ true) × (assigned ≡ given)
if-parts true assigned given e = (refl, some_eq assigned given e)
  where
    list_or : Option (List ℕ) → List ℕ
    list_or None = []
    list_or (Some xs) = xs

    some_eq : (xs ys : List ℕ) → Some xs ≡ Some ys → xs ≡ ys
    some_eq xs ys e = ap list_or e
if-parts false assigned given e = cc

abbrev BothParts : Option (List ℕ) → Option (List ℕ) → List ℕ → Type 0
BothParts one other given = (first : List ℕ) × (second : List ℕ) × (one ≡ Some first) × (other ≡ Some second) × (filter (has second) first ≡ given)

both-parts : (one other : Option (List ℕ)) (given : List ℕ) → assigned_on_both one other ≡ Some given → BothParts one other given
both-parts None other given e = cc
both-parts (Some first) None given e = cc
both-parts (Some first) (Some second) given e = (first, second, refl, refl, ap list_or e)
  where
    list_or : Option (List ℕ) → List ℕ
    list_or None = []
    list_or (Some xs) = xs

filter-has : (test : ℕ → Bool) (xs : List ℕ) (x : ℕ) → has (filter test xs) x ≡ true → (has xs x ≡ true) × (test x ≡ true)
filter-has test [] x h = cc
filter-has test (y ∷ xs) x h = go (test y) refl h (filter-has test xs x)
  where
    go : (b : Bool) → test y ≡ b → has (cond b (y ∷ filter test xs) (filter test xs)) x ≡ true → (has (filter test xs) x ≡ true → (has xs x ≡ true) × (test x ≡ true)) →
        ((nat_eq y x || has xs x) ≡ true) × (test x ≡ true)
    go true e i deeper = elim (or-either (nat_eq y x) (has (filter test xs) x) i) [
      | inl same ↦ (ap (λ b. b || has xs x) same, ap test (sym (eqb-true y x same)) ∙ e)
      | inr there ↦ (or-second (nat_eq y x) (has xs x) (deeper there).0, (deeper there).1)
    ]
    go false e i deeper = (or-second (nat_eq y x) (has xs x) (deeper i).0, (deeper i).1)

pub has-filter : (test : ℕ → Bool) (xs : List ℕ) (x : ℕ) → has xs x ≡ true → test x ≡ true → has (filter test xs) x ≡ true
has-filter test [] x h t = cc
has-filter test (y ∷ xs) x h t = go (test y) refl (or-either (nat_eq y x) (has xs x) h) (λ i. has-filter test xs x i t)
  where
    go : (b : Bool) → test y ≡ b → (nat_eq y x ≡ true) ⊎ (has xs x ≡ true) → (has xs x ≡ true → has (filter test xs) x ≡ true) → has (cond b (y ∷ filter test xs) (filter test xs)) x ≡ true
    go true e (inl same) deeper = ap (λ b. b || has (filter test xs) x) same
    go true e (inr there) deeper = or-second (nat_eq y x) (has (filter test xs) x) (deeper there)
    go false e (inl same) deeper = true-false (test x) t (ap test (sym (eqb-true y x same)) ∙ e)
    go false e (inr there) deeper = deeper there

same-left : (machine : Machine) (Input : ℕ → Type 0) (first second : List ℕ) (a b : List LogicValue) → Same machine (Reached Input first) a b →
    Same machine (Reached Input (filter (has second) first)) a b
same-left machine Input first second a b s =
    same-fewer machine (Reached Input first) (Reached Input (filter (has second) first)) a b (λ x q. elim q [ inl i ↦ inl i | inr h ↦ inr (filter-has (has second) first x h).0 ]) s

same-right : (machine : Machine) (Input : ℕ → Type 0) (first second : List ℕ) (a b : List LogicValue) → Same machine (Reached Input second) a b →
    Same machine (Reached Input (filter (has second) first)) a b
same-right machine Input first second a b s =
    same-fewer machine (Reached Input second) (Reached Input (filter (has second) first)) a b (λ x q. elim q [ inl i ↦ inl i | inr h ↦ inr (filter-has (has second) first x h).1 ]) s

same-either : (machine : Machine) (Input : ℕ → Type 0) (first second given : List ℕ) (c d : Bool) (a a' b b' : List LogicValue) → c ≡ d → filter (has second) first ≡ given →
    Same machine (Reached Input first) a b → Same machine (Reached Input second) a' b' → Same machine (Reached Input given) (either_values c a a') (either_values d b b')
same-either machine Input first second given c d a a' b b' e g s t =
    subst (λ gs. Same machine (Reached Input gs) (either_values c a a') (either_values d b b')) g
    (subst (λ y. Same machine (Reached Input (filter (has second) first)) (either_values c a a') (either_values y b b')) e (go c))
  where
    go : (c : Bool) → Same machine (Reached Input (filter (has second) first)) (either_values c a a') (either_values c b b')
    go true = same-left machine Input first second a b s
    go false = same-right machine Input first second a' b' t

indexes-same : (machine : Machine) (targets : List Target) (a b : List LogicValue) → NamedFit machine (named_in_targets targets) → Fit machine a → Fit machine b →
    Clear (λ x. value_at a x ≡ value_at b x) (indexes_objects targets) →
    map (index_value a) targets ≡ map (index_value b) targets
indexes-same machine [] a b n f g h = refl
indexes-same machine (WholeTarget variable ∷ targets) a b n f g h = ap (λ is. None ∷ is) (indexes-same machine targets a b n.1 f g h)
indexes-same machine (BitTarget variable index ∷ targets) a b n f g h =
    let mine : NamedFit machine (named_in index) = named-left machine (named_in index) (named_in_targets targets) n.1 in
    λ i. natural_number (sign_of index) (value-same (value_at a) (value_at b) index (pieces-fit machine a (named_in index) f mine) (inl (pieces-fit machine b (named_in index) g mine))
    (agree_objects (value_at a) (value_at b) (pieces_read index) (clear-left (λ x. value_at a x ≡ value_at b x) (objects_of index) (indexes_objects targets) h)) i)
    ∷ indexes-same machine targets a b (named-right machine (named_in index) (named_in_targets targets) n.1) f g
    (clear-right (λ x. value_at a x ≡ value_at b x) (objects_of index) (indexes_objects targets) h) i
indexes-same machine (PartTarget variable from to ∷ targets) a b n f g h = ap (λ is. None ∷ is) (indexes-same machine targets a b n.1 f g h)
indexes-same machine (WordTarget memory index ∷ targets) a b n f g h =
    let here : NamedFit machine (memory_pieces memory ++ named_in index) = named-left machine (memory_pieces memory ++ named_in index) (named_in_targets targets) n in
    let mine : NamedFit machine (named_in index) = named-right machine (memory_pieces memory) (named_in index) here in
    λ i. natural_number (sign_of index) (value-same (value_at a) (value_at b) index (pieces-fit machine a (named_in index) f mine) (inl (pieces-fit machine b (named_in index) g mine))
    (agree_objects (value_at a) (value_at b) (pieces_read index) (clear-left (λ x. value_at a x ≡ value_at b x) (objects_of index) (indexes_objects targets) h)) i)
    ∷ indexes-same machine targets a b (named-right machine (memory_pieces memory ++ named_in index) (named_in_targets targets) n) f g
    (clear-right (λ x. value_at a x ≡ value_at b x) (objects_of index) (indexes_objects targets) h) i

has-append : (xs ys : List ℕ) (x : ℕ) → has (xs ++ ys) x ≡ true → (has xs x ≡ true) ⊎ (has ys x ≡ true)
has-append [] ys x h = inr h
has-append (y ∷ xs) ys x h = elim (or-either (nat_eq y x) (has (xs ++ ys) x) h) [
  | inl same ↦ inl (ap (λ b. b || has xs x) same)
  | inr there ↦ elim (has-append xs ys x there) [ inl l ↦ inl (or-second (nat_eq y x) (has xs x) l) | inr r ↦ inr r ]
]

assignment-same : (machine : Machine) (line : ℕ) (Input : ℕ → Type 0) (outputs already given : List ℕ) (targets : List Target) (value : Expression) (a b : List LogicValue) →
    whole_targets targets ++ already ≡ given → reads_assigned outputs already (objects_of value ++ indexes_objects targets) ≡ true →
    NamedFit machine (named_in_targets targets ++ named_in value) → ReadsInputs Input outputs (objects_of value ++ indexes_objects targets) →
    Same machine (Reached Input already) a b → Same machine (Reached Input given) (assigned line a targets value) (assigned line b targets value)
assignment-same machine line Input outputs already given targets value a b e r n h s =
    subst (λ gs. Same machine (Reached Input gs) (assigned line a targets value) (assigned line b targets value)) e
    (same-fewer machine (λ x. Reached Input already x ⊎ (has (whole_targets targets) x ≡ true)) (Reached Input (whole_targets targets ++ already)) (assigned line a targets value)
    (assigned line b targets value)
    (λ x q. elim q [ inl i ↦ inl (inl i) | inr k ↦ elim (has-append (whole_targets targets) already x k) [ inl new ↦ inr new | inr old ↦ inl (inr old) ] ])
    (subst (λ updates. Same machine (λ x. Reached Input already x ⊎ (has (whole_targets targets) x ≡ true)) (assigned line a targets value) (fold updated b updates)) updates
    (same-targets machine (Reached Input already) line a targets (value_of (value_at a) value) a b (named-left machine (named_in_targets targets) (named_in value) n) s)))
  where
    agree : Clear (λ x. value_at a x ≡ value_at b x) (objects_of value ++ indexes_objects targets)
    agree = reads-agree machine Input outputs already (objects_of value ++ indexes_objects targets) a b r h s

    updates : target_updates line targets (map (index_value a) targets) (value_of (value_at a) value)
        ≡ target_updates line targets (map (index_value b) targets) (value_of (value_at b) value)
    updates = λ i. target_updates line targets
        (indexes-same machine targets a b (named-left machine (named_in_targets targets) (named_in value) n) s.one_fits s.other_fits
        (clear-right (λ x. value_at a x ≡ value_at b x) (objects_of value) (indexes_objects targets) agree) i)
        (value-same (value_at a) (value_at b) value (pieces-fit machine a (named_in value) s.one_fits (named-right machine (named_in_targets targets) (named_in value) n))
        (inl (pieces-fit machine b (named_in value) s.other_fits (named-right machine (named_in_targets targets) (named_in value) n)))
        (agree_objects (value_at a) (value_at b) (pieces_read value) (clear-left (λ x. value_at a x ≡ value_at b x) (objects_of value) (indexes_objects targets) agree)) i)

condition-same : (machine : Machine) (Input : ℕ → Type 0) (outputs already rest : List ℕ) (pieces : List Piece) (condition : Expression) (a b : List LogicValue) →
    reads_assigned outputs already (objects_of condition) ≡ true → NamedFit machine (named_in condition ++ pieces) → ReadsInputs Input outputs (objects_of condition ++ rest) →
    Same machine (Reached Input already) a b → value_of (value_at a) condition ≡ value_of (value_at b) condition
condition-same machine Input outputs already rest pieces condition a b r n h s =
    value-same (value_at a) (value_at b) condition (pieces-fit machine a (named_in condition) s.one_fits (named-left machine (named_in condition) pieces n))
    (inl (pieces-fit machine b (named_in condition) s.other_fits (named-left machine (named_in condition) pieces n)))
    (agree_objects (value_at a) (value_at b) (pieces_read condition)
    (reads-agree machine Input outputs already (objects_of condition) a b r (clear-left (λ x. has outputs x ≡ false → Input x) (objects_of condition) rest h) s))

same_given : (machine : Machine) (Input : ℕ → Type 0) (already given : List ℕ) (a b : List LogicValue) → Some already ≡ Some given → Same machine (Reached Input already) a b →
    Same machine (Reached Input given) a b
same_given machine Input already given a b e s = subst (λ gs. Same machine (Reached Input gs) a b) (ap list_or e) s
  where
    list_or : Option (List ℕ) → List ℕ
    list_or None = []
    list_or (Some xs) = xs

abbrev Halfway : (List ℕ → Option (List ℕ)) → Option (List ℕ) → List ℕ → Type 0
Halfway next found given = (middle : List ℕ) × (found ≡ Some middle) × (next middle ≡ Some given)

halfway : (next : List ℕ → Option (List ℕ)) (found : Option (List ℕ)) (given : List ℕ) → option_and_then next found ≡ Some given → Halfway next found given
halfway next None given e = cc
halfway next (Some middle) given e = (middle, refl, e)

mutual
  -- a statement of combinational form leaves the same in what it assigns, whatever its targets held before
  pub run-same : (machine : Machine) (Input : ℕ → Type 0) (outputs : List ℕ) (statement : Statement) (already given : List ℕ) (a b : List LogicValue) →
      assigned_by outputs already statement ≡ Some given →
      NamedFit machine (named_by statement) → ReadsInputs Input outputs (read_objects statement) → Same machine (Reached Input already) a b →
      Same machine (Reached Input given) (run_statement statement a) (run_statement statement b)
  run-same machine Input outputs Null already given a b e n h s = same_given machine Input already given a b e s
  run-same machine Input outputs (Block statements) already given a b e n h s = all-same machine Input outputs statements already given a b e n h s
  run-same machine Input outputs (If place condition first second) already given a b e n h s =
      let parts : (reads_assigned outputs already (objects_of condition) ≡ true) × (assigned_on_both (assigned_by outputs already first) (assigned_by outputs already second) ≡ Some given) =
      then-parts (reads_assigned outputs already (objects_of condition)) (assigned_on_both (assigned_by outputs already first) (assigned_by outputs already second)) given e in
      let both : BothParts (assigned_by outputs already first) (assigned_by outputs already second) given =
      both-parts (assigned_by outputs already first) (assigned_by outputs already second) given parts.1 in
      let n' : NamedFit machine (named_by first ++ named_by second) = named-right machine (named_in condition) (named_by first ++ named_by second) n in
      let h' : ReadsInputs Input outputs (read_objects first ++ read_objects second) = clear-right (λ x. has outputs x ≡ false → Input x) (objects_of condition)
      (read_objects first ++ read_objects second) h in
      same-either machine Input both.0 both.1 given (is_true (value_of (value_at a) condition)) (is_true (value_of (value_at b) condition)) _ _ _ _
      (ap is_true (condition-same machine Input outputs already (read_objects first ++ read_objects second) (named_by first ++ named_by second) condition a b parts.0 n h s)) both.4
      (run-same machine Input outputs first already both.0 a b both.2 (named-left machine (named_by first) (named_by second) n')
      (clear-left (λ x. has outputs x ≡ false → Input x) (read_objects first) (read_objects second) h') s)
      (run-same machine Input outputs second already both.1 a b both.3 (named-right machine (named_by first) (named_by second) n')
      (clear-right (λ x. has outputs x ≡ false → Input x) (read_objects first) (read_objects second) h') s)
  run-same machine Input outputs (Case place kind value items default) already given a b e n h s =
      let parts : (reads_assigned outputs already (objects_of value ++ labels_read items) ≡ true) × (items_assigned_by outputs already items (assigned_by outputs already default) ≡ Some given) =
      then-parts (reads_assigned outputs already (objects_of value ++ labels_read items)) (items_assigned_by outputs already items (assigned_by outputs already default)) given e in
      let n' : NamedFit machine (named_by_items items ++ named_by default) = named-right machine (named_in value) (named_by_items items ++ named_by default) n in
      let h' : ReadsInputs Input outputs (items_read items ++ read_objects default) = clear-right (λ x. has outputs x ≡ false → Input x) (objects_of value)
      (items_read items ++ read_objects default) h in
      subst (λ v. Same machine (Reached Input given) (run_items kind (value_of (value_at a) value) items a (run_statement default a)) (run_items kind v items b (run_statement default b)))
      (condition-same machine Input outputs already (items_read items ++ read_objects default) (named_by_items items ++ named_by default) value a b
      (reads-left outputs already (objects_of value) (labels_read items) parts.0) n h s)
      (items-same machine Input outputs kind (value_of (value_at a) value) items already (assigned_by outputs already default) given a b (run_statement default a) (run_statement default b) parts.1
      (reads-right outputs already (objects_of value) (labels_read items) parts.0) (named-left machine (named_by_items items) (named_by default) n')
      (clear-left (λ x. has outputs x ≡ false → Input x) (items_read items) (read_objects default) h') s
      (λ left f. run-same machine Input outputs default already left a b f (named-right machine (named_by_items items) (named_by default) n')
      (clear-right (λ x. has outputs x ≡ false → Input x) (items_read items) (read_objects default) h') s))
  run-same machine Input outputs (For place first_targets first condition next_targets next body) already given a b e n h s = cc
  run-same machine Input outputs (While place condition body) already given a b e n h s = cc
  run-same machine Input outputs (Repeat place count body) already given a b e n h s = cc
  run-same machine Input outputs (Forever place body) already given a b e n h s = cc
  run-same machine Input outputs (Delay place delay body) already given a b e n h s = cc
  run-same machine Input outputs (EventControl place entries body) already given a b e n h s = cc
  run-same machine Input outputs (Wait place condition body) already given a b e n h s = cc
  run-same machine Input outputs (Blocking place targets delay value) already given a b e n h s =
      let parts : ((is_none delay && reads_assigned outputs already (objects_of value ++ indexes_objects targets) && part_targets_after already targets) ≡ true)
      × (whole_targets targets ++ already ≡ given) =
      if-parts (is_none delay && reads_assigned outputs already (objects_of value ++ indexes_objects targets) && part_targets_after already targets) (whole_targets targets ++ already) given e in
      let reads : reads_assigned outputs already (objects_of value ++ indexes_objects targets) ≡ true =
      (and-both (is_none delay) (reads_assigned outputs already (objects_of value ++ indexes_objects targets))
      (and-both (is_none delay && reads_assigned outputs already (objects_of value ++ indexes_objects targets)) (part_targets_after already targets) parts.0).0).1 in
      assignment-same machine place.line Input outputs already given targets value a b parts.1 reads n
      (clear-append (λ x. has outputs x ≡ false → Input x) (objects_of value) (indexes_objects targets)
      (clear-right (λ x. has outputs x ≡ false → Input x) (indexes_objects targets) (objects_of value) h)
      (clear-left (λ x. has outputs x ≡ false → Input x) (indexes_objects targets) (objects_of value) h)) s
  run-same machine Input outputs (Nonblocking place targets delay value) already given a b e n h s = cc
  run-same machine Input outputs (Finish place) already given a b e n h s = cc

  pub all-same : (machine : Machine) (Input : ℕ → Type 0) (outputs : List ℕ) (statements : Statements) (already given : List ℕ) (a b : List LogicValue) →
      all_assigned_by outputs already statements ≡ Some given →
      NamedFit machine (named_by_all statements) → ReadsInputs Input outputs (all_read statements) → Same machine (Reached Input already) a b →
      Same machine (Reached Input given) (run_statements statements a) (run_statements statements b)
  all-same machine Input outputs no_statements already given a b e n h s = same_given machine Input already given a b e s
  all-same machine Input outputs (more_statements first rest) already given a b e n h s =
      let half : Halfway (λ now. all_assigned_by outputs now rest) (assigned_by outputs already first) given =
      halfway (λ now. all_assigned_by outputs now rest) (assigned_by outputs already first) given e in
      all-same machine Input outputs rest half.0 given (run_statement first a) (run_statement first b) half.2 (named-right machine (named_by first) (named_by_all rest) n)
      (clear-right (λ x. has outputs x ≡ false → Input x) (read_objects first) (all_read rest) h)
      (run-same machine Input outputs first already half.0 a b half.1 (named-left machine (named_by first) (named_by_all rest) n)
      (clear-left (λ x. has outputs x ≡ false → Input x) (read_objects first) (all_read rest) h) s)

  pub items-same : (machine : Machine) (Input : ℕ → Type 0) (outputs : List ℕ) (kind : CaseKind) (value : LogicValue) (items : CaseItems) (already : List ℕ) (otherwise : Option (List ℕ))
      (given : List ℕ) (a b a' b' : List LogicValue) →
      items_assigned_by outputs already items otherwise ≡ Some given → reads_assigned outputs already (labels_read items) ≡ true → NamedFit machine (named_by_items items) →
      ReadsInputs Input outputs (items_read items) → Same machine (Reached Input already) a b →
      ((left : List ℕ) → otherwise ≡ Some left → Same machine (Reached Input left) a' b') →
      Same machine (Reached Input given) (run_items kind value items a a') (run_items kind value items b b')
  items-same machine Input outputs kind value no_items already otherwise given a b a' b' e r n h s t = t given e
  items-same machine Input outputs kind value (more_items labels statement rest) already otherwise given a b a' b' e r n h s t =
      let both : BothParts (assigned_by outputs already statement) (items_assigned_by outputs already rest otherwise) given =
      both-parts (assigned_by outputs already statement) (items_assigned_by outputs already rest otherwise) given e in
      let labels_fit : NamedFit machine (named_in_parts labels) = named-left machine (named_in_parts labels) (named_by statement ++ named_by_items rest) n in
      let n' : NamedFit machine (named_by statement ++ named_by_items rest) = named-right machine (named_in_parts labels) (named_by statement ++ named_by_items rest) n in
      let h' : ReadsInputs Input outputs (read_objects statement ++ items_read rest) = clear-right (λ x. has outputs x ≡ false → Input x) (parts_objects labels)
      (read_objects statement ++ items_read rest) h in
      same-either machine Input both.0 both.1 given (some_label_matches kind value (label_values (value_at a) labels)) (some_label_matches kind value (label_values (value_at b) labels)) _ _ _ _
      (ap (some_label_matches kind value)
      (labels-same (value_at a) (value_at b) labels (pieces-fit machine a (named_in_parts labels) s.one_fits labels_fit) (pieces-fit machine b (named_in_parts labels) s.other_fits labels_fit)
      (agree_objects (value_at a) (value_at b) (parts_read labels)
      (reads-agree machine Input outputs already (parts_objects labels) a b (reads-left outputs already (parts_objects labels) (labels_read rest) r)
      (clear-left (λ x. has outputs x ≡ false → Input x) (parts_objects labels) (read_objects statement ++ items_read rest) h) s))))
      both.4
      (run-same machine Input outputs statement already both.0 a b both.2 (named-left machine (named_by statement) (named_by_items rest) n')
      (clear-left (λ x. has outputs x ≡ false → Input x) (read_objects statement) (items_read rest) h') s)
      (items-same machine Input outputs kind value rest already otherwise both.1 a b a' b' both.3 (reads-right outputs already (parts_objects labels) (labels_read rest) r)
      (named-right machine (named_by statement) (named_by_items rest) n')
      (clear-right (λ x. has outputs x ≡ false → Input x) (read_objects statement) (items_read rest) h') s t)

-- Nodes

outputs-agree : (assigned outputs : List ℕ) (a b : List LogicValue) → list_all (has assigned) outputs ≡ true → ((x : ℕ) → has assigned x ≡ true → value_at a x ≡ value_at b x) →
    map (value_at a) outputs ≡ map (value_at b) outputs
outputs-agree assigned [] a b e h = refl
outputs-agree assigned (x ∷ outputs) a b e h =
    let both : (has assigned x ≡ true) × (list_all (has assigned) outputs ≡ true) = and-both (has assigned x) (list_all (has assigned) outputs) e in
    λ i. h x both.0 i ∷ outputs-agree assigned outputs a b both.1 h i

block-same : (machine : Machine) (Input : ℕ → Type 0) (outputs : List ℕ) (statement : Statement) (found : Option (List ℕ)) (a b : List LogicValue) → assigned_by outputs [] statement ≡ found →
    all_among outputs found ≡ true →
    NamedFit machine (named_by statement) → ReadsInputs Input outputs (read_objects statement) → Same machine (Reached Input []) a b →
    (map (value_at (run_statement statement a)) outputs ≡ map (value_at (run_statement statement b)) outputs) × Fit machine (run_statement statement a)
block-same machine Input outputs statement None a b e all n h s = cc
block-same machine Input outputs statement (Some given) a b e all n h s =
    let t : Same machine (Reached Input given) (run_statement statement a) (run_statement statement b) = run-same machine Input outputs statement [] given a b e n h s in
    (outputs-agree given outputs (run_statement statement a) (run_statement statement b) all (λ x k. t.agrees x (inr k)), t.one_fits)

-- the inputs hold all that a block reads
block-reads : (outputs inputs : List ℕ) (reads : List ℕ) → ((x : ℕ) → has inputs x ≡ has (filter (λ object. not (has outputs object)) reads) x) → ReadsInputs (λ x. has inputs x ≡ true) outputs reads
block-reads outputs inputs reads same =
    in-clear (λ x. has outputs x ≡ false → has inputs x ≡ true) reads (λ x i out. same x ∙ has-filter (λ object. not (has outputs object)) reads x i (ap not out))

value-rests : (machine : Machine) (number : ℕ) (kind : FlatNodeKind) (inputs outputs : List ℕ) (a b : List LogicValue) → ((x : ℕ) → has inputs x ≡ has (node_reads kind outputs) x) →
    WritesOutputs kind outputs →
    NamedFit machine (named_by_node kind) → Fit machine a → Fit machine b → ((x : ℕ) → has inputs x ≡ true → value_at a x ≡ value_at b x) →
    node_value machine number kind outputs a ≡ node_value machine number kind outputs b
value-rests machine number (AssignNode value places) inputs outputs a b reads writes n f g h =
    ap (λ (bits : LogicValue). zip_with (λ object place. part_of bits place (object_width machine object)) outputs places)
    (value-same (value_at a) (value_at b) value (pieces-fit machine a (named_in value) f n) (inl (pieces-fit machine b (named_in value) g n))
    (agree_objects (value_at a) (value_at b) (pieces_read value) (in-clear (λ x. value_at a x ≡ value_at b x) (objects_of value) (λ x i. h x (reads x ∙ i)))))
value-rests machine number (GateNode kind terminals) inputs outputs a b reads writes n f g h =
    ap (λ (vs : List LogicValue). (gate_bit kind (map_numbered (λ k v. forced_terminal machine.fault number k (bit_at v 0)) 1 vs) ∷ []) ∷ [])
    (labels-same (value_at a) (value_at b) terminals (pieces-fit machine a (named_in_parts terminals) f n) (pieces-fit machine b (named_in_parts terminals) g n)
    (agree_objects (value_at a) (value_at b) (parts_read terminals) (in-clear (λ x. value_at a x ≡ value_at b x) (parts_objects terminals) (λ x i. h x (reads x ∙ i)))))
value-rests machine number (BlockNode statement) inputs outputs a b reads writes n f g h =
    (block-same machine (λ x. has inputs x ≡ true) outputs statement (assigned_by outputs [] statement) a b refl writes.1 n (block-reads outputs inputs (read_objects statement) reads)
    (record { agrees = λ x q. elim q [ inl i ↦ h x i | inr none ↦ true-false false none refl ]; one_fits = f; other_fits = g })).0

abbrev Widths : Machine → List ℕ → List LogicValue → Type 0
Widths machine outputs values = map (λ (v : LogicValue). length v) values ≡ map (object_width machine) outputs

-- an assignment has a place for each output, from which its width is still in the value
parts-widths : (machine : Machine) (outputs places : List ℕ) (bits : LogicValue) (width : ℕ) → AllZip (λ object place. place + object_width machine object ≤ width) outputs places →
    Widths machine outputs (zip_with (λ object place. part_of bits place (object_width machine object)) outputs places)
parts-widths machine [] [] bits width h = refl
parts-widths machine [] (place ∷ places) bits width h = refl
parts-widths machine (object ∷ outputs) [] bits width h = absurd h
parts-widths machine (object ∷ outputs) (place ∷ places) bits width h = λ i. length-part_of bits place (object_width machine object) i ∷ parts-widths machine outputs places bits width h.1 i

map-widths : (machine : Machine) (outputs : List ℕ) (values : List LogicValue) → Fit machine values → Widths machine outputs (map (value_at values) outputs)
map-widths machine [] values f = refl
map-widths machine (object ∷ outputs) values f = λ i. f object i ∷ map-widths machine outputs values f i

length-forced_if : (here : Bool) (bit : ℕ) (stuck : Bool) (value : LogicValue) → length (forced_if here bit stuck value) ≡ length value
length-forced_if true bit stuck value = length-with_part value (bit_of stuck ∷ []) bit
length-forced_if false bit stuck value = refl

length-forced_at : (site : FaultSite) (stuck : Bool) (number object : ℕ) (value : LogicValue) → length (forced_at_output site stuck number object value) ≡ length value
length-forced_at (VariableBit forced bit) stuck number object value = refl
length-forced_at (OutputBit node forced bit) stuck number object value = length-forced_if (nat_eq node number && nat_eq forced object) bit stuck value
length-forced_at (GateTerminal node terminal) stuck number object value = refl

length-forced : (fault : Option StuckAt) (number object : ℕ) (value : LogicValue) → length (forced_output fault number object value) ≡ length value
length-forced None number object value = refl
length-forced (Some fault) number object value = length-forced_at fault.site fault.value number object value

forced-widths : (machine : Machine) (number : ℕ) (outputs : List ℕ) (values : List LogicValue) → Widths machine outputs values →
    Widths machine outputs (zip_with (forced_output machine.fault number) outputs values)
forced-widths machine number [] [] w = refl
forced-widths machine number [] (value ∷ values) w = refl
forced-widths machine number (object ∷ outputs) [] w = w
forced-widths machine number (object ∷ outputs) (value ∷ values) w =
    λ i. (length-forced machine.fault number object value ∙ ap head_or w) i ∷ forced-widths machine number outputs values (ap tail_of w) i
  where
    head_or : List ℕ → ℕ
    head_or [] = 0
    head_or (x ∷ xs) = x

    tail_of : List ℕ → List ℕ
    tail_of [] = []
    tail_of (x ∷ xs) = xs

-- a gate without an output gives none its value
gate-widths : (machine : Machine) (number : ℕ) (outputs : List ℕ) (bit : Bit) → length outputs ≤ 1 → AllHold (λ object. object_width machine object ≡ 1) outputs →
    Widths machine outputs (zip_with (forced_output machine.fault number) outputs ((bit ∷ []) ∷ []))
gate-widths machine number [] bit e n = refl
gate-widths machine number (object ∷ []) bit e n = forced-widths machine number (object ∷ []) ((bit ∷ []) ∷ []) (ap (λ w. w ∷ []) (sym n.0))
gate-widths machine number (object ∷ (other ∷ outputs)) bit e n = absurd (omega (arith, e))

value-widths : (machine : Machine) (number : ℕ) (kind : FlatNodeKind) (inputs outputs : List ℕ) (a : List LogicValue) → ((x : ℕ) → has inputs x ≡ has (node_reads kind outputs) x) →
    WritesOutputs kind outputs →
    NamedFit machine (named_by_node kind) → IsSizedNode machine.design kind outputs → Fit machine a →
    Widths machine outputs (zip_with (forced_output machine.fault number) outputs (node_value machine number kind outputs a))
value-widths machine number (AssignNode value places) inputs outputs a reads writes n g f =
    forced-widths machine number outputs (node_value machine number (AssignNode value places) outputs a) (parts-widths machine outputs places (value_of (value_at a) value) (width_of value) g.1)
value-widths machine number (GateNode kind terminals) inputs outputs a reads writes n g f =
    gate-widths machine number outputs (gate_bit kind (map_numbered (λ k v. forced_terminal machine.fault number k (bit_at v 0)) 1 (label_values (value_at a) terminals))) writes g.2
value-widths machine number (BlockNode statement) inputs outputs a reads writes n g f =
    forced-widths machine number outputs (node_value machine number (BlockNode statement) outputs a)
    (map-widths machine outputs (run_statement statement a)
    (block-same machine (λ x. has inputs x ≡ true) outputs statement (assigned_by outputs [] statement) a a refl writes.1 n (block-reads outputs inputs (read_objects statement) reads)
    (record { agrees = λ x q. refl; one_fits = f; other_fits = f })).1)

-- so the rules say it of each node
pub rest_on_inputs : (machine : Machine) → KeepsRules machine.design → RestOnInputs machine
rest_on_inputs machine rules = record {
  rests = λ number node one other e f g h.
      ap (zip_with (forced_output machine.fault number) node.outputs)
      (value-rests machine number node.kind node.inputs node.outputs one other (node_rules rules number node e).inputs (node_rules rules number node e).outputs
      (named_fit machine (named_by_node node.kind) (node_rules rules number node e).names) f g h);
  widths = λ number node values e f.
      value-widths machine number node.kind node.inputs node.outputs values (node_rules rules number node e).inputs (node_rules rules number node e).outputs
      (named_fit machine (named_by_node node.kind) (node_rules rules number node e).names)
      (node_rules rules number node e).sized f;
}
