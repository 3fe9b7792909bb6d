-- The first fault of a group from those that are kept of it.
use Rattle.std.proofs.Common.{◌≡◌, Bool, true, false, cond, not, ◌||◌, List, [], ◌∷◌, ◌++◌, filter, Option, Some, None, refl, sym, ap, ap₂, ◌∙◌}
use Rattle.std.specs.List.{list_any}
use Rattle.vf_base.specs.Base.{SourcePlace}
use Rattle.std.proofs.lemmas.List.Elements.{filter-append}
use Rattle.v_names.specs.declared.found.Found.{Found}
use Rattle.v_names.specs.Faults.{Wrong, UnknownName, DeclaredTwice, NoConstant, BadWidth, BadConnection, WrongKind, TooDeep, Fault, fault_at, first_fault}
use Rattle.v_names.specs.FaultLaws.{first_of, first-append}
use Rattle.v_names.specs.Readings.{is_wrong_kind, is_bad_width, group_faults}
use Rattle.v_width.specs.declared.faults.Faults.{Faults}
use Rattle.v_width.specs.Summaries.{found_fault, others, AreFaults, first_of_group}

or-groups : (a b c : Bool) → (a || (b || c)) ≡ ((a || b) || c)
or-groups true b c = refl
or-groups false b c = refl

pub any-append : (xs ys : List Fault) → list_any is_wrong_kind (xs ++ ys) ≡ (list_any is_wrong_kind xs || list_any is_wrong_kind ys)
any-append [] ys = refl
any-append (x ∷ xs) ys = ap (λ b. is_wrong_kind x || b) (any-append xs ys) ∙ or-groups (is_wrong_kind x) (list_any is_wrong_kind xs) (list_any is_wrong_kind ys)

or-four : (a b c d : Bool) → ((a || b) || (c || d)) ≡ ((a || c) || (b || d))
or-four true b c d = refl
or-four false true true d = refl
or-four false true false d = refl
or-four false false c d = refl

-- whether a name is of the wrong kind in two groups together
pub any-together : (here inside more_here more_inside : List Fault)
    → (list_any is_wrong_kind (here ++ inside) || list_any is_wrong_kind (more_here ++ more_inside)) ≡ list_any is_wrong_kind ((here ++ more_here) ++ (inside ++ more_inside))
any-together here inside more_here more_inside =
    ap₂ (λ a b. a || b) (any-append here inside) (any-append more_here more_inside)
    ∙ or-four (list_any is_wrong_kind here) (list_any is_wrong_kind inside) (list_any is_wrong_kind more_here) (list_any is_wrong_kind more_inside)
    ∙ ap₂ (λ a b. a || b) (sym (any-append here more_here)) (sym (any-append inside more_inside)) ∙ sym (any-append (here ++ more_here) (inside ++ more_inside))

pub group-by : (here inside : List Fault) (wrong : Bool) → list_any is_wrong_kind (here ++ inside) ≡ wrong → group_faults here inside ≡ cond wrong (others here) here ++ inside
group-by here inside true e = rw e refl
group-by here inside false e = rw e refl

-- the first fault of a group
pub first-group : (here inside : List Fault) (faults : Faults) → AreFaults here inside faults
    → first_of_group faults.wrong_kind (found_fault faults.all) (found_fault faults.other) (found_fault faults.inside) ≡ first_fault (group_faults here inside)
first-group here inside faults h = by faults.wrong_kind refl
  where
    by : (wrong : Bool) → faults.wrong_kind ≡ wrong → first_of_group faults.wrong_kind (found_fault faults.all) (found_fault faults.other) (found_fault faults.inside) ≡ first_fault
        (group_faults here inside)
    by true e =
        ap (λ w. first_of_group w (found_fault faults.all) (found_fault faults.other) (found_fault faults.inside)) e ∙ ap₂ first_of h.other_is h.inside_is
        ∙ sym (ap first_fault (group-by here inside true (sym h.wrong_is ∙ e)) ∙ first-append (others here) inside)
    by false e =
        ap (λ w. first_of_group w (found_fault faults.all) (found_fault faults.other) (found_fault faults.inside)) e ∙ ap₂ first_of h.all_is h.inside_is
        ∙ sym (ap first_fault (group-by here inside false (sym h.wrong_is ∙ e)) ∙ first-append here inside)

any-by : (place : SourcePlace) (wrong : Wrong) (faults : List Fault) → list_any is_wrong_kind (others faults) ≡ list_any is_wrong_kind faults
    → list_any is_wrong_kind (others (fault_at place wrong ∷ faults)) ≡ list_any is_wrong_kind (fault_at place wrong ∷ faults)
any-by place UnknownName faults h = h
any-by place DeclaredTwice faults h = h
any-by place NoConstant faults h = h
any-by place BadWidth faults h = h
any-by place BadConnection faults h = h
any-by place WrongKind faults h = refl
any-by place TooDeep faults h = h

any-others : (faults : List Fault) → list_any is_wrong_kind (others faults) ≡ list_any is_wrong_kind faults
any-others [] = refl
any-others (fault ∷ faults) = any-by fault.place fault.wrong faults (any-others faults)

any-group : (here inside : List Fault) (wrong : Bool) → list_any is_wrong_kind (here ++ inside) ≡ wrong → list_any is_wrong_kind (group_faults here inside) ≡ list_any is_wrong_kind (here ++ inside)
any-group here inside true e =
    ap (list_any is_wrong_kind) (group-by here inside true e) ∙ any-append (others here) inside ∙ ap (λ b. b || list_any is_wrong_kind inside) (any-others here) ∙ sym (any-append here inside)
any-group here inside false e = ap (list_any is_wrong_kind) (group-by here inside false e)

-- the faults of a group are those of a part that is sized apart
pub group-apart : (here inside : List Fault) (faults apart : Faults) → AreFaults here inside faults → found_fault apart.all ≡ None → found_fault apart.other ≡ None
    → found_fault apart.inside ≡ first_of_group faults.wrong_kind (found_fault faults.all) (found_fault faults.other) (found_fault faults.inside) → apart.wrong_kind ≡ faults.wrong_kind
    → AreFaults [] (group_faults here inside) apart
group-apart here inside faults apart h a o i w = record {
  all_is = a;
  other_is = o;
  inside_is = i ∙ first-group here inside faults h;
  wrong_is = w ∙ h.wrong_is ∙ sym (any-group here inside (list_any is_wrong_kind (here ++ inside)) refl);
}

-- the faults of two expressions that are sized together
pub group-together : (here inside more_here more_inside : List Fault) (one other both : Faults) → AreFaults here inside one → AreFaults more_here more_inside other
    → found_fault both.all ≡ first_of (found_fault one.all) (found_fault other.all) → found_fault both.other ≡ first_of (found_fault one.other) (found_fault other.other)
    → found_fault both.inside ≡ first_of (found_fault one.inside) (found_fault other.inside) → both.wrong_kind ≡ (one.wrong_kind || other.wrong_kind)
    → AreFaults (here ++ more_here) (inside ++ more_inside) both
group-together here inside more_here more_inside one other both h k a o i w = record {
  all_is = a ∙ ap₂ first_of h.all_is k.all_is ∙ sym (first-append here more_here);
  other_is =
      o ∙ ap₂ first_of h.other_is k.other_is
      ∙ sym (ap first_fault (filter-append (λ (fault : Fault). not (is_bad_width fault)) here more_here) ∙ first-append (others here) (others more_here));
  inside_is = i ∙ ap₂ first_of h.inside_is k.inside_is ∙ sym (first-append inside more_inside);
  wrong_is = w ∙ ap₂ (λ a b. a || b) h.wrong_is k.wrong_is ∙ any-together here inside more_here more_inside;
}
