-- Memories among the names of expressions.
use Rattle.std.proofs.Common.{◌≡◌, Bool, true, false, List, [], ◌∷◌, ◌++◌, map, filter, Option, Some, None, refl, sym, ap, ap₂, ◌∙◌, Global}
use Rattle.std.proofs.lemmas.List.{map-append}
use Rattle.std.proofs.lemmas.List.Elements.{filter-append}
use Rattle.std.specs.declared.vec.Vec.{Vec}
use Rattle.std.specs.declared.boxed.Box.{Box}
use Rattle.vf_base.specs.Base.{SourcePlace, source_place}
use Rattle.vf_base.specs.declared.ids.Place.{Place}
use Rattle.four_value.specs.declared.operator.BinaryOperator.{BinaryOperator}
use Rattle.v_tree.specs.Trees.{Identifier, NamedPlace, named_in, named_in_parts}
use Rattle.v_tree.specs.Views.{expression_of, expressions_of}
use Rattle.v_tree.specs.ViewLaws.{expressions-hidden}
use Rattle.v_tree.specs.declared.expression.Expr.{Expr}
use Rattle.v_tree.specs.declared.expression.Expr.TheVariants as code
use Rattle.v_names.specs.Faults.{WrongKind, Fault, fault_at, comes_before, earlier_of, first_fault}
use Rattle.v_names.specs.Scopes.{Scope, looked_up, is_memory}
use Rattle.v_width.specs.Summaries.{others, AreFaults}
use Rattle.v_width.specs.declared.faults.Faults.{Faults}
use Rattle.item_checks.specs.Memories.{memories_faults, memory_fault_of}

-- the memories of two lists of names
pub memories_append : (scope : Scope) (names more : List NamedPlace) → memories_faults scope (names ++ more) ≡ memories_faults scope names ++ memories_faults scope more
memories_append scope names more =
    let memory : NamedPlace → Bool = λ n. is_memory (looked_up scope n.name) in
    let fault : NamedPlace → Fault = λ n. fault_at n.place WrongKind in
    ap (map fault) (filter-append memory names more) ∙ map-append fault (filter memory names) (filter memory more)

-- names of the wrong kind at some places
abbrev pub wrong_kinds : List NamedPlace → List Fault
wrong_kinds names = map (λ (n : NamedPlace). fault_at n.place WrongKind) names

-- none of them is a bad width
others-kinds : (names : List NamedPlace) → others (wrong_kinds names) ≡ wrong_kinds names
others-kinds [] = refl
others-kinds (n ∷ names) = ap (λ faults. fault_at n.place WrongKind ∷ faults) (others-kinds names)

-- the first of a fault of the wrong kind and of such faults is of the wrong kind
earlier-kind : (one : SourcePlace) (other : Fault) → other ≡ fault_at other.place WrongKind →
    earlier_of (fault_at one WrongKind) (Some other) ≡ fault_at (earlier_of (fault_at one WrongKind) (Some other)).place WrongKind
earlier-kind one other e = by (comes_before other (fault_at one WrongKind)) refl
  where
    by : (b : Bool) → comes_before other (fault_at one WrongKind) ≡ b → earlier_of (fault_at one WrongKind) (Some other) ≡ fault_at (earlier_of (fault_at one WrongKind) (Some other)).place WrongKind
    by true h = rw h e
    by false h = rw h refl

first-kind : (names : List NamedPlace) (first : Fault) → first_fault (wrong_kinds names) ≡ Some first → first ≡ fault_at first.place WrongKind
first-kind [] first e = cc
first-kind (n ∷ names) first e = by (first_fault (wrong_kinds names)) refl (λ other h. first-kind names other h)
  where
    by : (rest : Option Fault) → first_fault (wrong_kinds names) ≡ rest → ((other : Fault) → first_fault (wrong_kinds names) ≡ Some other → other ≡ fault_at other.place WrongKind) →
        first ≡ fault_at first.place WrongKind
    by None h rest_kind =
        let f : Some first ≡ Some (earlier_of (fault_at n.place WrongKind) None) = sym e ∙ ap (λ r. Some (earlier_of (fault_at n.place WrongKind) r)) h in
        let g : first ≡ fault_at n.place WrongKind = cc in
        g ∙ ap (λ (x : Fault). fault_at x.place WrongKind) (sym g)
    by (Some other) h rest_kind =
        let f : Some first ≡ Some (earlier_of (fault_at n.place WrongKind) (Some other)) = sym e ∙ ap (λ r. Some (earlier_of (fault_at n.place WrongKind) r)) h in
        let g : first ≡ earlier_of (fault_at n.place WrongKind) (Some other) = cc in
        g ∙ earlier-kind n.place other (rest_kind other h) ∙ ap (λ (x : Fault). fault_at x.place WrongKind) (sym g)

-- where none comes first, there is none
none-kinds : (names : List NamedPlace) (faults : Faults) → first_fault (wrong_kinds names) ≡ None → AreFaults [] [] faults → AreFaults (wrong_kinds names) [] faults
none-kinds [] faults e h = h
none-kinds (n ∷ names) faults e h = absurd (let x : ⊥ = cc in x)

-- where one comes first, it stands for all of them
some-kinds : (names : List NamedPlace) (first : Fault) (faults : Faults) → first_fault (wrong_kinds names) ≡ Some first → AreFaults (fault_at first.place WrongKind ∷ []) [] faults →
    AreFaults (wrong_kinds names) [] faults
some-kinds [] first faults e h = absurd (let x : ⊥ = cc in x)
some-kinds (n ∷ names) first faults e h =
    let first_is : Some (fault_at first.place WrongKind) ≡ first_fault (wrong_kinds (n ∷ names)) = ap (λ (x : Fault). Some x) (sym (first-kind (n ∷ names) first e)) ∙ sym e in
    record {
      all_is = h.all_is ∙ first_is;
      other_is = h.other_is ∙ first_is ∙ ap first_fault (sym (others-kinds (n ∷ names)));
      inside_is = h.inside_is;
      wrong_is = h.wrong_is;
    }

-- the memories that are named, from the first of them
pub kinds-none : (scope : Scope) (names : List NamedPlace) (faults : Faults) → first_fault (memories_faults scope names) ≡ None → AreFaults [] [] faults →
    AreFaults (memories_faults scope names) [] faults
kinds-none scope names faults e h = none-kinds (filter (λ (n : NamedPlace). is_memory (looked_up scope n.name)) names) faults e h

pub kinds-some : (scope : Scope) (names : List NamedPlace) (first : Fault) (faults : Faults) → first_fault (memories_faults scope names) ≡ Some first →
    AreFaults (fault_at first.place WrongKind ∷ []) [] faults → AreFaults (memories_faults scope names) [] faults
kinds-some scope names first faults e h = some-kinds (filter (λ (n : NamedPlace). is_memory (looked_up scope n.name)) names) first faults e h

-- Expressions of parts

abbrev memories_of : Scope → Expr → List Fault
memories_of scope e = memories_faults scope (named_in (expression_of e))

pub part-memories : (scope : Scope) (place : Place) (name : Identifier) (from to : Box Expr Global) (one two : Expr) → one ≡ from.value → two ≡ to.value
    → memories_faults scope (named_in (expression_of (code.PartSelect place name from to))) ≡ memory_fault_of scope name (source_place place) ++ (memories_of scope one ++ memories_of scope two)
part-memories scope place name from to one two e f =
    let named : List NamedPlace = record { name = name; place = source_place place } ∷ [] in
    memories_append scope named (named_in (expression_of from.value) ++ named_in (expression_of to.value))
    ∙ ap (λ more. memories_faults scope named ++ more) (memories_append scope (named_in (expression_of from.value)) (named_in (expression_of to.value))
    ∙ ap₂ (λ (x y : Expr). memories_of scope x ++ memories_of scope y) (sym e) (sym f))

pub binary-memories : (scope : Scope) (place : Place) (operator : BinaryOperator) (left right : Box Expr Global) (one two : Expr) → one ≡ left.value → two ≡ right.value
    → memories_faults scope (named_in (expression_of (code.Binary place operator left right))) ≡ memories_of scope one ++ memories_of scope two
binary-memories scope place operator left right one two e f =
    memories_append scope (named_in (expression_of left.value)) (named_in (expression_of right.value)) ∙ ap₂ (λ (x y : Expr). memories_of scope x ++ memories_of scope y) (sym e) (sym f)

pub choice-memories : (scope : Scope) (place : Place) (condition first second : Box Expr Global) (c a b : Expr) → c ≡ condition.value → a ≡ first.value → b ≡ second.value
    → memories_faults scope (named_in (expression_of (code.Conditional place condition first second))) ≡ memories_of scope c ++ (memories_of scope a ++ memories_of scope b)
choice-memories scope place condition first second c a b e f g =
    memories_append scope (named_in (expression_of condition.value)) (named_in (expression_of first.value) ++ named_in (expression_of second.value))
    ∙ ap₂ (λ (x : Expr) (more : List Fault). memories_of scope x ++ more) (sym e)
    (memories_append scope (named_in (expression_of first.value)) (named_in (expression_of second.value)) ∙ ap₂ (λ (x y : Expr). memories_of scope x ++ memories_of scope y) (sym f) (sym g))

pub concat-memories : (scope : Scope) (place : Place) (parts : Vec Expr Global)
    → memories_faults scope (named_in (expression_of (code.Concat place parts))) ≡ memories_faults scope (named_in_parts (expressions_of parts.items))
concat-memories scope place parts = ap (λ ps. memories_faults scope (named_in_parts ps)) (expressions-hidden parts)

pub repeat-memories : (scope : Scope) (place : Place) (count : Box Expr Global) (parts : Vec Expr Global) (one : Expr) (list : List Expr) → one ≡ count.value → list ≡ parts.items
    → memories_faults scope (named_in (expression_of (code.Repeat place count parts))) ≡ memories_of scope one ++ memories_faults scope (named_in_parts (expressions_of list))
repeat-memories scope place count parts one list e f =
    ap (λ ps. memories_faults scope (named_in (expression_of count.value) ++ named_in_parts ps)) (expressions-hidden parts ∙ ap expressions_of (sym f))
    ∙ memories_append scope (named_in (expression_of count.value)) (named_in_parts (expressions_of list))
    ∙ ap (λ (x : Expr). memories_of scope x ++ memories_faults scope (named_in_parts (expressions_of list))) (sym e)
