-- Reading parameters, ports, nets and variables is exact.
use Rattle.std.proofs.Common.{◌≡◌, ℕ, ◌≤◌, Bool, true, false, List, [], ◌∷◌, ◌++◌, Option, Some, None, refl, sym, ◌∙◌, ap, subst, arith, append_assoc, inl, inr}
use Rattle.vf_base.specs.Base.{SourcePlace}
use Rattle.v_tree.specs.Tokens.{SourceToken}
use Rattle.v_tree.specs.declared.item.Direction.{Direction}
use Rattle.v_tree.specs.declared.item.Direction.TheVariants.{Input, Output}
use Rattle.v_tree.specs.Trees.{SourceExpression, NamedPlace, SourceRange, SourceParameter, SourceParameters, SourcePorts, SourceWire, SourceContent, NoContent, FirstContent, MemoryBounds, SourceReg}
use Rattle.v_tree.specs.Trees.{SourceHeads, PlainHeads, DeclaredHeads}
use Rattle.v_readers.specs.declared.class.Class.{Class}
use Rattle.v_readers.specs.declared.class.Class.TheVariants as classes
use Rattle.v_readers.specs.Classes.{is_fixed, token_of}
use Rattle.v_readers.specs.Separated.{SpellsBehind, SpellsList}
use Rattle.v_readers.specs.Exact.{Language, Exact, behind, exact-bind, exact-under, exact-give}
use Rattle.v_readers.specs.Branches.{nowhere, Some-of, Branch, branch, branch-wrong, branch-step, exact-by_class, exact-after, exact-name}
use Rattle.v_readers.specs.Repeat.{append-nil, Turn, TurnFits, exact-repeat}
use Rattle.v_readers.specs.SeparatedLaws.{EachFits, exact-separated, list-append}
use Rattle.v_expr.specs.Spelling.{SpellsExpression, SpellsRange}
use Rattle.v_expr.specs.Heights.{height_of, range_height}
use Rattle.v_expr.specs.PartLaws.{expression-within, range-exact}
use Rattle.v_stmt.specs.PartExact.{a_name}
use Rattle.v_parse.specs.Spelling.{SpellsNamed, SpellsSigned, SpellsWidth, SpellsValue, SpellsParameter, SpellsParameters, parameter_word, SpellsGroup, SpellsParameterList, direction_word}
use Rattle.v_parse.specs.Spelling.{SpellsSort, SpellsPorts, SpellsHeads, SpellsWire, SpellsContent, SpellsReg}
use Rattle.v_parse.specs.Heights.{greatest, height_if_there, parameters_height, ports_height, heads_height, wire_height, content_height, reg_height}
use Rattle.v_parse.specs.Items.{named, signed_by, signed, width_by, width, value_by, value, parameter, parameters, group, with_last, add_parameter, group_by, groups_by, groups_turn, groups}
use Rattle.v_parse.specs.Items.{parameter_list_by, parameter_list, sort_by, sort, ports_head, with_names, ports, port, add_name, another_port, port_by, ports_by, ports_turn, declared_ports}
use Rattle.v_parse.specs.Items.{heads_inside, heads_by, heads, wire, content_by, content, reg}

-- nothing is asked of what was read
abbrev pub Any : {A : Type 0} → A → Type 0
Any x = Unit {0}

-- Heights of lists

pub greatest-fits : {A : Type 0} (height : A → ℕ) (k : ℕ) (xs : List A) → EachFits (λ x. height x ≤ k) xs → greatest height xs ≤ k
greatest-fits height k [] h = omega arith
greatest-fits height k (x ∷ xs) h =
    let first : height x ≤ k = h.0 in
    let rest : greatest height xs ≤ k = greatest-fits height k xs h.1 in
    omega arith

pub greatest-append : {A : Type 0} (height : A → ℕ) (k : ℕ) (xs : List A) (x : A) → greatest height xs ≤ k → height x ≤ k → greatest height (xs ++ x ∷ []) ≤ k
greatest-append height k [] x h g = omega arith
greatest-append height k (y ∷ xs) x h g = let rest : greatest height (xs ++ x ∷ []) ≤ k = greatest-append height k xs x (omega (arith, h)) g in omega (arith, h)

-- Parts of declarations

pub named-exact : {C : Type 0} {k : ℕ} → Exact C (λ m. named) k SpellsNamed Any
unfolding named
named-exact = exact-bind exact-name (λ n front spelled.
    exact-give (record { name = n.0; place = n.1 }) (spelled.0, ap (λ f. f ++ []) spelled.1) (λ c. tt))

pub signed-exact : {C : Type 0} {k : ℕ} → Exact C (λ m. signed) k SpellsSigned Any
unfolding signed
signed-exact {C} {k} = exact-by_class (λ m. signed_by) ((false, [], refl), λ c. (false, [], refl, tt)) each
  where
    each : (class : Option Class) → Branch C (λ m. signed_by class) k SpellsSigned Any class
    each (Some classes.Signed) = branch-step refl (λ word. exact-give true (word, refl) (λ c. tt))
    each _ = branch (exact-give false refl (λ c. tt))

abbrev pub WidthWithin : ℕ → Option SourceRange → Type 0
WidthWithin k w = height_if_there range_height w ≤ k

pub width-exact : {C : Type 0} (k : ℕ) → Exact C width k SpellsWidth (WidthWithin k)
unfolding width
width-exact {C} k = exact-by_class (λ m. width_by m) ((None, [], refl), λ c. (None, [], refl, omega arith)) each
  where
    each : (class : Option Class) → Branch C (λ m. width_by m class) k SpellsWidth (WidthWithin k) class
    each (Some classes.LeftBracket) = branch (exact-bind (range-exact k) (λ r front spelled.
        exact-give (Some r) (subst (SpellsRange r) (sym (append-nil front)) spelled) (λ c. c.1)))
    each _ = branch (exact-give None refl (λ c. omega arith))

abbrev pub ValueWithin : ℕ → Option SourceExpression → Type 0
ValueWithin k v = height_if_there height_of v ≤ k

pub value-exact : {C : Type 0} (k : ℕ) → Exact C value k SpellsValue (ValueWithin k)
unfolding value
value-exact {C} k = exact-by_class (λ m. value_by m) ((None, [], refl), λ c. (None, [], refl, omega arith)) each
  where
    each : (class : Option Class) → Branch C (λ m. value_by m class) k SpellsValue (ValueWithin k) class
    each (Some classes.Assign) = branch-step refl (λ sign.
        exact-bind (expression-within k) (λ e after spelled.
        exact-give (Some e) (sign, after ++ [], subst (SpellsExpression e) (sym (append-nil after)) spelled, refl) (λ c. c.1)))
    each _ = branch (exact-give None refl (λ c. omega arith))

-- Parameters

abbrev pub ParameterWithin : ℕ → SourceParameter → Type 0
ParameterWithin k p = height_of p.value ≤ k

pub parameter-exact : {C : Type 0} (k : ℕ) → Exact C parameter k SpellsParameter (ParameterWithin k)
unfolding parameter
parameter-exact k =
    exact-bind exact-name (λ n front spelled.
    exact-after classes.Assign refl (λ sign.
    exact-bind (expression-within k) (λ e after valued.
    exact-give (record { name = n.0; place = n.1; value = e })
    (spelled.0, sign, after ++ [], subst (SpellsExpression e) (sym (append-nil after)) valued, ap (λ f. f ++ token_of classes.Assign sign ∷ (after ++ [])) spelled.1)
    (λ c. c.1))))

abbrev pub ParametersWithin : ℕ → SourceParameters → Type 0
ParametersWithin k g = parameters_height g ≤ k

parameter_word-fixed : (is_local : Bool) → is_fixed (parameter_word is_local) ≡ true
parameter_word-fixed true = refl
parameter_word-fixed false = refl

pub parameters-exact : {C : Type 0} (k : ℕ) (is_local : Bool)
    → Exact C (λ m. parameters m is_local) k (λ g ts. (g.is_local ≡ is_local) × SpellsParameters (parameter_word is_local) g ts) (ParametersWithin k)
unfolding parameters
parameters-exact k is_local =
    exact-after (parameter_word is_local) (parameter_word-fixed is_local) (λ place.
    exact-bind signed-exact (λ s sign signing.
    exact-bind (width-exact k) (λ w width ranging.
    exact-bind (exact-separated parameter k SpellsParameter (ParameterWithin k) classes.Comma refl (parameter-exact k)) (λ ps after listing.
    exact-give (record { place = place; is_local = is_local; signed = s; range = w; parameters = ps })
    (refl, (sign, width, after ++ [], signing, ranging, subst (SpellsList SpellsParameter classes.Comma ps) (sym (append-nil after)) listing, refl))
    (λ c. let all : greatest (λ (p : SourceParameter). height_of p.value) ps ≤ k = greatest-fits (λ (p : SourceParameter). height_of p.value) k ps c.1 in omega (arith, c.0.1))))))

pub group-exact : {C : Type 0} (k : ℕ) → Exact C group k (λ g ts. SpellsGroup g ts) (ParametersWithin k)
unfolding group
group-exact k =
    exact-after classes.Parameter refl (λ place.
    exact-bind signed-exact (λ s sign signing.
    exact-bind (width-exact k) (λ w width ranging.
    exact-bind (parameter-exact k) (λ p after spelled.
    exact-give (record { place = place; is_local = false; signed = s; range = w; parameters = p ∷ [] })
    (refl, (sign, width, after ++ [], signing, ranging, (after, [], spelled, refl, refl), refl))
    (λ c. omega (arith, c.0.1, c.1))))))

-- Lists of groups

list-behind : {A : Type 0} (L : Language A) (m : Class) (place : SourcePlace) (xs : List A) (ts : List SourceToken) → SpellsList L m xs ts → SpellsBehind L m xs (token_of m place ∷ ts)
list-behind L m place [] ts h = absurd h
list-behind L m place (x ∷ xs) ts h = (place, h.0, h.1, h.2, h.3, ap (λ f. token_of m place ∷ f) h.4)

-- a group that one more element makes a longer one
module _ {G P : Type 0} (L : Language G) (M : Language P) (more : G → P → G)
    (grow : (g : G) (ts : List SourceToken) (p : P) (place : SourcePlace) (inside : List SourceToken) → L g ts → M p inside → L (more g p) (ts ++ token_of classes.Comma place ∷ (inside ++ []))) where
  pub last-grows : (gs : List G) (front : List SourceToken) (p : P) (place : SourcePlace) (inside : List SourceToken)
      → SpellsList L classes.Comma gs front → M p inside → SpellsList L classes.Comma (with_last more gs p) (front ++ token_of classes.Comma place ∷ (inside ++ []))
  last-grows [] front p place inside h s = absurd h
  last-grows (g ∷ []) front p place inside h s = (
    h.0 ++ token_of classes.Comma place ∷ (inside ++ []),
    [],
    grow g h.0 p place inside h.2 s,
    refl,
    ap (λ f. f ++ token_of classes.Comma place ∷ (inside ++ [])) (h.4 ∙ ap (λ f. h.0 ++ f) h.3 ∙ append-nil h.0) ∙ sym (append-nil (h.0 ++ token_of classes.Comma place ∷ (inside ++ []))),
  )
  last-grows (g ∷ d ∷ gs) front p place inside h s =
      let tail = token_of classes.Comma place ∷ (inside ++ []) in
      let rest = last-grows (d ∷ gs) (h.3.1 ++ h.3.2) p place inside (h.3.1, h.3.2, h.3.3, h.3.4, refl) s in (
        h.0,
        token_of classes.Comma h.3.0 ∷ ((h.3.1 ++ h.3.2) ++ tail),
        h.2,
        list-behind L classes.Comma h.3.0 (with_last more (d ∷ gs) p) ((h.3.1 ++ h.3.2) ++ tail) rest,
        ap (λ f. f ++ tail) (h.4 ∙ ap (λ f. h.0 ++ f) h.3.5) ∙ append_assoc h.0 (token_of classes.Comma h.3.0 ∷ (h.3.1 ++ h.3.2)) tail,
      )

  pub last-fits : (height : G → ℕ) (k : ℕ) (p : P) → ((g : G) → height g ≤ k → height (more g p) ≤ k) → (gs : List G) → greatest height gs ≤ k → greatest height (with_last more gs p) ≤ k
  last-fits height k p fits [] h = h
  last-fits height k p fits (g ∷ []) h = let first : height (more g p) ≤ k = fits g (omega (arith, h)) in omega arith
  last-fits height k p fits (g ∷ d ∷ gs) h =
      let rest : greatest height (with_last more (d ∷ gs) p) ≤ k = last-fits height k p fits (d ∷ gs) (omega (arith, h)) in
      omega (arith, h)

group-grows : (g : SourceParameters) (ts : List SourceToken) (p : SourceParameter) (place : SourcePlace) (inside : List SourceToken)
    → SpellsGroup g ts → SpellsParameter p inside → SpellsGroup (add_parameter g p) (ts ++ token_of classes.Comma place ∷ (inside ++ []))
group-grows g ts p place inside h s =
    let tail = token_of classes.Comma place ∷ (inside ++ []) in
    let t = h.1 in (
      h.0,
      (
        t.0,
        t.1,
        t.2 ++ tail,
        t.3,
        t.4,
        list-append SpellsParameter classes.Comma g.parameters t.2 p place inside t.5 s,
        ap (λ f. f ++ tail) t.6 ∙ ap (λ f. token_of classes.Parameter g.place ∷ f) (append_assoc t.0 (t.1 ++ t.2) tail ∙ ap (λ f. t.0 ++ f) (append_assoc t.1 t.2 tail)),
      ),
    )

abbrev pub GroupsWithin : ℕ → List SourceParameters → Type 0
GroupsWithin k gs = greatest parameters_height gs ≤ k

one-more-fits : (k : ℕ) (p : SourceParameter) → height_of p.value ≤ k → (g : SourceParameters) → parameters_height g ≤ k → parameters_height (add_parameter g p) ≤ k
one-more-fits k p low g h =
    let all : greatest (λ (p : SourceParameter). height_of p.value) (g.parameters ++ p ∷ []) ≤ k =
    greatest-append (λ (p : SourceParameter). height_of p.value) k g.parameters p (omega (arith, h)) low in
    omega (arith, h)

groups_turn-exact : {C : Type 0} (k : ℕ) (gs : List SourceParameters) (front : List SourceToken) → SpellsList SpellsGroup classes.Comma gs front
    → Exact (C × GroupsWithin k gs) (λ m. groups_turn m gs) k (Turn (SpellsList SpellsGroup classes.Comma) gs front) (TurnFits (GroupsWithin k))
groups_turn-exact {C} k gs front here = exact-by_class (λ m. groups_by m gs) ((None, [], refl), λ c. (None, [], refl, tt)) each
  where
    grown : (comma : SourcePlace) (p : SourceParameter) (inside : List SourceToken) → SpellsParameter p inside
        → Turn (SpellsList SpellsGroup classes.Comma) gs front (Some (with_last add_parameter gs p)) (token_of classes.Comma comma ∷ (inside ++ []))
    grown comma p inside spelled = (last-grows SpellsGroup SpellsParameter add_parameter group-grows gs front p comma inside here spelled, omega arith)

    fits : (p : SourceParameter) → height_of p.value ≤ k → GroupsWithin k gs → GroupsWithin k (with_last add_parameter gs p)
    fits p low h = last-fits SpellsGroup SpellsParameter add_parameter group-grows parameters_height k p (one-more-fits k p low) gs h

    some : (comma : SourcePlace) → Some-of (C × GroupsWithin k gs) (behind (token_of classes.Comma comma ∷ []) (Turn (SpellsList SpellsGroup classes.Comma) gs front)) (TurnFits (GroupsWithin k))
    some comma =
        let x = (parameter-exact {C = Unit {0}} k).some tt in
        ((Some (with_last add_parameter gs x.0), x.1 ++ [], grown comma x.0 x.1 x.2), λ c. (Some (with_last add_parameter gs x.0), x.1 ++ [], grown comma x.0 x.1 x.2, fits x.0 x.3 c.1))

    behind_comma : (comma : SourcePlace) (class : Option Class)
        → Branch (C × GroupsWithin k gs) (λ m. group_by m gs class) k (behind (token_of classes.Comma comma ∷ []) (Turn (SpellsList SpellsGroup classes.Comma) gs front))
        (TurnFits (GroupsWithin k)) class
    behind_comma comma (Some classes.Parameter) = branch (exact-bind (group-exact k) (λ g inside spelled.
        exact-give (Some (gs ++ g ∷ [])) (list-append SpellsGroup classes.Comma gs front g comma inside here spelled, omega arith)
        (λ c. greatest-append parameters_height k gs g c.0.1 c.1)))
    behind_comma comma _ = branch (exact-bind (parameter-exact k) (λ p inside spelled.
        exact-give (Some (with_last add_parameter gs p)) (grown comma p inside spelled) (λ c. fits p c.1 c.0.1)))

    each : (class : Option Class) → Branch (C × GroupsWithin k gs) (λ m. groups_by m gs class) k (Turn (SpellsList SpellsGroup classes.Comma) gs front) (TurnFits (GroupsWithin k)) class
    each (Some classes.Comma) = branch-step refl (λ comma. exact-by_class (λ m. group_by m gs) (some comma) (behind_comma comma))
    each _ = branch (exact-give None refl (λ c. tt))

pub groups-exact : {C : Type 0} (k : ℕ) → Exact C groups k (SpellsList SpellsGroup classes.Comma) (GroupsWithin k)
unfolding groups
groups-exact {C} k =
    exact-bind (group-exact k) (λ g front spelled.
    exact-under (λ c. (c.0, let h : parameters_height g ≤ k = c.1 in omega arith))
    (exact-repeat {C = C} groups_turn {N = SpellsList SpellsGroup classes.Comma} {G = GroupsWithin k} (groups_turn-exact k) (g ∷ []) front
    (front, [], spelled, refl, sym (append-nil front))))

pub parameter_list-exact : {C : Type 0} (k : ℕ) → Exact C parameter_list k SpellsParameterList (GroupsWithin k)
unfolding parameter_list
parameter_list-exact {C} k = exact-by_class (λ m. parameter_list_by m) ((([], [], refl)), λ c. ([], [], refl, omega arith)) each
  where
    listed : (hash opening closing : SourcePlace) (gs : List SourceParameters) (inside : List SourceToken) → SpellsList SpellsGroup classes.Comma gs inside
        → SpellsParameterList gs (token_of classes.Hash hash ∷ token_of classes.LeftParen opening ∷ (inside ++ token_of classes.RightParen closing ∷ []))
    listed hash opening closing [] inside h = absurd h
    listed hash opening closing (g ∷ gs) inside h = (hash, opening, closing, inside, h, refl)

    each : (class : Option Class) → Branch C (λ m. parameter_list_by m class) k SpellsParameterList (GroupsWithin k) class
    each (Some classes.Hash) = branch-step refl (λ hash.
        exact-after classes.LeftParen refl (λ opening.
        exact-bind (groups-exact k) (λ gs inside spelled.
        exact-after classes.RightParen refl (λ closing.
        exact-give gs (listed hash opening closing gs inside spelled) (λ c. c.1)))))
    each _ = branch (exact-give [] refl (λ c. omega arith))

-- Ports

direction_word-fixed : (direction : Direction) → is_fixed (direction_word direction) ≡ true
direction_word-fixed Input = refl
direction_word-fixed Output = refl

pub sort-exact : {C : Type 0} {k : ℕ} (direction : Direction) → Exact C (λ m. sort direction) k (SpellsSort direction) Any
unfolding sort
sort-exact {C} {k} Input = exact-by_class (λ m. sort_by Input) ((false, [], inl refl), λ c. (false, [], inl refl, tt)) each
  where
    each : (class : Option Class) → Branch C (λ m. sort_by Input class) k (SpellsSort Input) Any class
    each (Some classes.Wire) = branch-step refl (λ word. exact-give false (inr (word, refl)) (λ c. tt))
    each _ = branch (exact-give false (inl refl) (λ c. tt))
sort-exact {C} {k} Output = exact-by_class (λ m. sort_by Output) ((false, [], inl refl), λ c. (false, [], inl refl, tt)) each
  where
    each : (class : Option Class) → Branch C (λ m. sort_by Output class) k (SpellsSort Output) Any class
    each (Some classes.Wire) = branch-step refl (λ word. exact-give false (inr (word, refl)) (λ c. tt))
    each (Some classes.Reg) = branch-step refl (λ word. exact-give true (word, refl) (λ c. tt))
    each _ = branch (exact-give false (inl refl) (λ c. tt))

abbrev pub PortsWithin : ℕ → SourcePorts → Type 0
PortsWithin k g = ports_height g ≤ k

-- ports before their names
abbrev pub SpellsPortsHead : Direction → SourcePorts → List SourceToken → Type 0
SpellsPortsHead direction group ts =
    (group.direction ≡ direction) × (sort sign width : List SourceToken) × SpellsSort group.direction group.is_reg sort × SpellsSigned group.signed sign × SpellsWidth group.range width
    × (ts ≡ token_of (direction_word group.direction) group.place ∷ (sort ++ (sign ++ width)))

pub ports_head-exact : {C : Type 0} (k : ℕ) (direction : Direction) → Exact C (λ m. ports_head m direction) k (SpellsPortsHead direction) (PortsWithin k)
unfolding ports_head
ports_head-exact k direction =
    exact-after (direction_word direction) (direction_word-fixed direction) (λ place.
    exact-bind (sort-exact direction) (λ r sort sorting.
    exact-bind signed-exact (λ s sign signing.
    exact-bind (width-exact k) (λ w width ranging.
    exact-give (record { place = place; direction = direction; is_reg = r; signed = s; range = w; names = [] })
    (refl, sort, sign, width ++ [], sorting, signing, subst (SpellsWidth w) (sym (append-nil width)) ranging, refl)
    (λ c. c.1)))))

-- names behind the head of their group
with_names-spelled : (direction : Direction) (g : SourcePorts) (head : List SourceToken) (names : List NamedPlace) (after : List SourceToken)
    → SpellsPortsHead direction g head → SpellsList SpellsNamed classes.Comma names after → SpellsPorts (with_names g names) (head ++ after)
with_names-spelled direction g head names after h s = (
  h.1,
  h.2,
  h.3,
  after,
  h.4,
  h.5,
  h.6,
  s,
  ap (λ f. f ++ after) h.7 ∙ ap (λ f. token_of (direction_word g.direction) g.place ∷ f) (append_assoc h.1 (h.2 ++ h.3) after ∙ ap (λ f. h.1 ++ f) (append_assoc h.2 h.3 after)),
)

pub ports-exact : {C : Type 0} (k : ℕ) (direction : Direction) → Exact C (λ m. ports m direction) k SpellsPorts (PortsWithin k)
unfolding ports
ports-exact k direction =
    exact-bind (ports_head-exact k direction) (λ g head spelled.
    exact-bind (exact-separated (λ m. named) k SpellsNamed Any classes.Comma refl named-exact) (λ names after listing.
    exact-give (with_names g names)
    (with_names-spelled direction g head names (after ++ []) spelled (subst (SpellsList SpellsNamed classes.Comma names) (sym (append-nil after)) listing))
    (λ c. c.0.1)))

pub port-exact : {C : Type 0} (k : ℕ) (direction : Direction) → Exact C (λ m. port m direction) k SpellsPorts (PortsWithin k)
unfolding port
port-exact k direction =
    exact-bind (ports_head-exact k direction) (λ g head spelled.
    exact-bind named-exact (λ n after naming.
    exact-give (with_names g (n ∷ []))
    (with_names-spelled direction g head (n ∷ []) (after ++ []) spelled (after, [], naming, refl, refl))
    (λ c. c.0.1)))

ports-grow : (g : SourcePorts) (ts : List SourceToken) (n : NamedPlace) (place : SourcePlace) (inside : List SourceToken)
    → SpellsPorts g ts → SpellsNamed n inside → SpellsPorts (add_name g n) (ts ++ token_of classes.Comma place ∷ (inside ++ []))
ports-grow g ts n place inside h s =
    let tail = token_of classes.Comma place ∷ (inside ++ []) in (
      h.0,
      h.1,
      h.2,
      h.3 ++ tail,
      h.4,
      h.5,
      h.6,
      list-append SpellsNamed classes.Comma g.names h.3 n place inside h.7 s,
      ap (λ f. f ++ tail) h.8 ∙ ap (λ f. token_of (direction_word g.direction) g.place ∷ f)
          (append_assoc h.0 (h.1 ++ (h.2 ++ h.3)) tail ∙ ap (λ f. h.0 ++ f) (append_assoc h.1 (h.2 ++ h.3) tail ∙ ap (λ f. h.1 ++ f) (append_assoc h.2 h.3 tail))),
    )

abbrev pub AllPortsWithin : ℕ → List SourcePorts → Type 0
AllPortsWithin k gs = greatest ports_height gs ≤ k

a_named : NamedPlace
a_named = record { name = a_name; place = nowhere }

ports_turn-exact : {C : Type 0} (k : ℕ) (gs : List SourcePorts) (front : List SourceToken) → SpellsList SpellsPorts classes.Comma gs front
    → Exact (C × AllPortsWithin k gs) (λ m. ports_turn m gs) k (Turn (SpellsList SpellsPorts classes.Comma) gs front) (TurnFits (AllPortsWithin k))
ports_turn-exact {C} k gs front here = exact-by_class (λ m. ports_by m gs) ((None, [], refl), λ c. (None, [], refl, tt)) each
  where
    grown : (comma : SourcePlace) (n : NamedPlace) (inside : List SourceToken) → SpellsNamed n inside
        → Turn (SpellsList SpellsPorts classes.Comma) gs front (Some (with_last add_name gs n)) (token_of classes.Comma comma ∷ (inside ++ []))
    grown comma n inside spelled = (last-grows SpellsPorts SpellsNamed add_name ports-grow gs front n comma inside here spelled, omega arith)

    fits : (n : NamedPlace) → AllPortsWithin k gs → AllPortsWithin k (with_last add_name gs n)
    fits n h = last-fits SpellsPorts SpellsNamed add_name ports-grow ports_height k n (λ g low. low) gs h

    some : (comma : SourcePlace) → Some-of (C × AllPortsWithin k gs) (behind (token_of classes.Comma comma ∷ []) (Turn (SpellsList SpellsPorts classes.Comma) gs front)) (TurnFits (AllPortsWithin k))
    some comma =
        let x = (named-exact {C = Unit {0}} {k = k}).any in
        ((Some (with_last add_name gs x.0), x.1 ++ [], grown comma x.0 x.1 x.2), λ c. (Some (with_last add_name gs x.0), x.1 ++ [], grown comma x.0 x.1 x.2, fits x.0 c.1))

    another : (comma : SourcePlace) (direction : Direction) {class : Option Class}
        → Branch (C × AllPortsWithin k gs) (λ m. another_port m gs direction) k (behind (token_of classes.Comma comma ∷ []) (Turn (SpellsList SpellsPorts classes.Comma) gs front))
        (TurnFits (AllPortsWithin k)) class
    another comma direction = branch (exact-bind (port-exact k direction) (λ g inside spelled.
        exact-give (Some (gs ++ g ∷ [])) (list-append SpellsPorts classes.Comma gs front g comma inside here spelled, omega arith)
        (λ c. greatest-append ports_height k gs g c.0.1 c.1)))

    behind_comma : (comma : SourcePlace) (class : Option Class)
        → Branch (C × AllPortsWithin k gs) (λ m. port_by m gs class) k (behind (token_of classes.Comma comma ∷ []) (Turn (SpellsList SpellsPorts classes.Comma) gs front))
        (TurnFits (AllPortsWithin k)) class
    behind_comma comma (Some classes.Input) = another comma Input
    behind_comma comma (Some classes.Output) = another comma Output
    behind_comma comma _ = branch (exact-bind named-exact (λ n inside spelled.
        exact-give (Some (with_last add_name gs n)) (grown comma n inside spelled) (λ c. fits n c.0.1)))

    each : (class : Option Class) → Branch (C × AllPortsWithin k gs) (λ m. ports_by m gs class) k (Turn (SpellsList SpellsPorts classes.Comma) gs front) (TurnFits (AllPortsWithin k)) class
    each (Some classes.Comma) = branch-step refl (λ comma. exact-by_class (λ m. port_by m gs) (some comma) (behind_comma comma))
    each _ = branch (exact-give None refl (λ c. tt))

abbrev pub HeadsWithin : ℕ → SourceHeads → Type 0
HeadsWithin k hs = heads_height hs ≤ k

pub declared_ports-exact : {C : Type 0} (k : ℕ) (direction : Direction) (opening : SourcePlace)
    → Exact C (λ m. declared_ports m direction) k (behind (token_of classes.LeftParen opening ∷ []) SpellsHeads) (HeadsWithin k)
unfolding declared_ports
declared_ports-exact {C} k direction opening =
    exact-bind (port-exact k direction) (λ p front spelled.
    exact-bind (exact-under (λ c. (c.0, let h : ports_height p ≤ k = c.1 in omega arith))
    (exact-repeat {C = C} ports_turn {N = SpellsList SpellsPorts classes.Comma} {G = AllPortsWithin k} (ports_turn-exact k) (p ∷ []) front
    (front, [], spelled, refl, sym (append-nil front)))) (λ ps more listed.
    exact-after classes.RightParen refl (λ closing.
    exact-give (DeclaredHeads ps)
    (opening, closing, front ++ more, listed, ap (λ f. token_of classes.LeftParen opening ∷ f) (sym (append_assoc front more (token_of classes.RightParen closing ∷ []))))
    (λ c. c.1))))

pub heads-exact : {C : Type 0} (k : ℕ) → Exact C heads k SpellsHeads (HeadsWithin k)
unfolding heads
heads-exact {C} k = exact-by_class (λ m. heads_by m) ((PlainHeads [], [], inl refl), λ c. (PlainHeads [], [], inl refl, omega arith)) each
  where
    within : (opening : SourcePlace) → Some-of C (behind (token_of classes.LeftParen opening ∷ []) SpellsHeads) (HeadsWithin k)
    within opening = (
      (PlainHeads [], token_of classes.RightParen nowhere ∷ [], inr (opening, nowhere, [], refl, refl)),
      λ c. (PlainHeads [], token_of classes.RightParen nowhere ∷ [], inr (opening, nowhere, [], refl, refl), omega arith),
    )

    plain : (opening closing : SourcePlace) (names : List NamedPlace) (inside : List SourceToken) → SpellsList SpellsNamed classes.Comma names inside
        → SpellsHeads (PlainHeads names) (token_of classes.LeftParen opening ∷ (inside ++ token_of classes.RightParen closing ∷ []))
    plain opening closing [] inside h = absurd h
    plain opening closing (n ∷ names) inside h = (opening, closing, inside, h, refl)

    inside : (opening : SourcePlace) (class : Option Class) → Branch C (λ m. heads_inside m class) k (behind (token_of classes.LeftParen opening ∷ []) SpellsHeads) (HeadsWithin k) class
    inside opening (Some classes.RightParen) = branch-step refl (λ closing. exact-give (PlainHeads []) (inr (opening, closing, [], refl, refl)) (λ c. omega arith))
    inside opening (Some classes.Name) = branch
        (exact-bind (exact-separated (λ m. named) k SpellsNamed Any classes.Comma refl named-exact) (λ names ts listing.
        exact-after classes.RightParen refl (λ closing.
        exact-give (PlainHeads names) (plain opening closing names ts listing) (λ c. omega arith))))
    inside opening (Some classes.Input) = branch (declared_ports-exact k Input opening)
    inside opening (Some classes.Output) = branch (declared_ports-exact k Output opening)
    inside opening _ = branch-wrong (within opening)

    each : (class : Option Class) → Branch C (λ m. heads_by m class) k SpellsHeads (HeadsWithin k) class
    each (Some classes.LeftParen) = branch-step refl (λ opening. exact-by_class (λ m. heads_inside m) (within opening) (inside opening))
    each _ = branch (exact-give (PlainHeads []) (inl refl) (λ c. omega arith))

-- Nets and variables

abbrev pub WireWithin : ℕ → SourceWire → Type 0
WireWithin k w = wire_height w ≤ k

pub wire-exact : {C : Type 0} (k : ℕ) → Exact C wire k SpellsWire (WireWithin k)
unfolding wire
wire-exact k =
    exact-bind exact-name (λ n front spelled.
    exact-bind (value-exact k) (λ v after valued.
    exact-give (record { name = n.0; place = n.1; value = v })
    (spelled.0, after ++ [], subst (SpellsValue v) (sym (append-nil after)) valued, ap (λ f. f ++ (after ++ [])) spelled.1)
    (λ c. c.1)))

abbrev pub ContentWithin : ℕ → SourceContent → Type 0
ContentWithin k c = content_height c ≤ k

pub content-exact : {C : Type 0} (k : ℕ) → Exact C content k SpellsContent (ContentWithin k)
unfolding content
content-exact {C} k = exact-by_class (λ m. content_by m) ((NoContent, [], refl), λ c. (NoContent, [], refl, omega arith)) each
  where
    each : (class : Option Class) → Branch C (λ m. content_by m class) k SpellsContent (ContentWithin k) class
    each (Some classes.Assign) = branch-step refl (λ sign.
        exact-bind (expression-within k) (λ e after spelled.
        exact-give (FirstContent e) (sign, after ++ [], subst (SpellsExpression e) (sym (append-nil after)) spelled, refl) (λ c. c.1)))
    each (Some classes.LeftBracket) = branch (exact-bind (range-exact k) (λ r front spelled.
        exact-give (MemoryBounds r) (subst (SpellsRange r) (sym (append-nil front)) spelled) (λ c. c.1)))
    each _ = branch (exact-give NoContent refl (λ c. omega arith))

abbrev pub RegWithin : ℕ → SourceReg → Type 0
RegWithin k r = reg_height r ≤ k

pub reg-exact : {C : Type 0} (k : ℕ) → Exact C reg k SpellsReg (RegWithin k)
unfolding reg
reg-exact k =
    exact-bind exact-name (λ n front spelled.
    exact-bind (content-exact k) (λ v after valued.
    exact-give (record { name = n.0; place = n.1; content = v })
    (spelled.0, after ++ [], subst (SpellsContent v) (sym (append-nil after)) valued, ap (λ f. f ++ (after ++ [])) spelled.1)
    (λ c. c.1)))
