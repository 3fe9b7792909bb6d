-- Reading assignments, gates and connections is exact.
use Rattle.std.proofs.Common.{◌≡◌, ℕ, ◌<◌, ◌≤◌, Bool, true, false, List, [], ◌∷◌, ◌++◌, length, Option, Some, None, refl, sym, ◌∙◌, ap, subst, arith, append_assoc, length-append, ◌⊎◌, inl, inr}
use Rattle.std.specs.Prelude.{if◌then◌else◌}
use Rattle.vf_base.specs.Base.{SourcePlace}
use Rattle.four_value.specs.declared.operator.GateKind.{GateKind}
use Rattle.v_tree.specs.Tokens.{SourceToken}
use Rattle.v_tree.specs.Trees.{SourceExpression, place_of_expression, SourceAssignment, SourceGate, SourceConnection, SourceInstance}
use Rattle.v_readers.specs.declared.class.Class.{Class}
use Rattle.v_readers.specs.declared.class.Class.TheVariants as classes
use Rattle.v_readers.specs.Classes.{token_of, name_token, IsName}
use Rattle.v_readers.specs.Reading.{◌>>=◌, give}
use Rattle.v_readers.specs.Separated.{SpellsBehind, SpellsList, separated}
use Rattle.v_readers.specs.Exact.{Language, Family, Exact, behind, exact-bind, exact-under, exact-give, exact-weaken}
use Rattle.v_readers.specs.Branches.{nowhere, Some-of, Branch, branch, branch-step, exact-by_class, exact-after, exact-name}
use Rattle.v_readers.specs.Repeat.{append-nil, Turn, TurnFits, exact-repeat}
use Rattle.v_readers.specs.SeparatedLaws.{EachFits, exact-separated}
use Rattle.v_expr.specs.Spelling.{SpellsExpression}
use Rattle.v_expr.specs.Heights.{height_of}
use Rattle.v_expr.specs.Expressions.{expression}
use Rattle.v_expr.specs.ExpressionExact.{Within}
use Rattle.v_expr.specs.PartLaws.{expression-within, target-exact}
use Rattle.v_stmt.specs.PartReads.{expression-first}
use Rattle.v_parse.specs.Spelling.{SpellsNamed, SpellsAssignment, has_one_input, SpellsGateName, SpellsGate, SpellsActual, SpellsNamedConnection, actual_place, SpellsPlacedConnection}
use Rattle.v_parse.specs.Spelling.{SpellsPlacedConnections, SpellsConnections, SpellsInstance, IsGiven, AreGiven, SpellsGiven}
use Rattle.v_parse.specs.Heights.{greatest, height_if_there, assignment_height, gate_height, connection_height, instance_height}
use Rattle.v_parse.specs.Items.{assignment, gate_name_by, gate_name, inputs, gate, actual_by, actual, some_actual, connection, named_connections, Placed, placed, start_by, placed_start, one_more}
use Rattle.v_parse.specs.Items.{placed_by, placed_turn, placed_connections, connections_by, connections, given_expression, given_expressions, given_inside, given_by, given, inst}
use Rattle.v_parse.specs.DeclarationExact.{Any, greatest-fits, greatest-append, named-exact}

pub expression-tokens : (e : SourceExpression) (ts : List SourceToken) → SpellsExpression e ts → 0 < length ts
expression-tokens e [] h = absurd (let p : false ≡ true = expression-first e [] [] h in cc)
expression-tokens e (t ∷ ts) h = omega arith

-- Assignments

abbrev pub AssignmentWithin : ℕ → SourceAssignment → Type 0
AssignmentWithin k a = assignment_height a ≤ k

pub assignment-exact : {C : Type 0} (k : ℕ) → Exact C assignment k SpellsAssignment (AssignmentWithin k)
unfolding assignment
assignment-exact k =
    exact-bind (target-exact k) (λ t before targeted.
    exact-after classes.Assign refl (λ sign.
    exact-bind (expression-within k) (λ e after spelled.
    exact-give (record { target = t; value = e }) (sign, before, after ++ [], targeted, subst (SpellsExpression e) (sym (append-nil after)) spelled, refl)
    (λ c. omega (arith, c.0.1, c.1)))))

-- Gates

pub gate_name-exact : {C : Type 0} {k : ℕ} → Exact C (λ m. gate_name) k SpellsGateName Any
unfolding gate_name
gate_name-exact {C} {k} = exact-by_class (λ m. gate_name_by) ((None, [], refl), λ c. (None, [], refl, tt)) each
  where
    each : (class : Option Class) → Branch C (λ m. gate_name_by class) k SpellsGateName Any class
    each (Some classes.Name) = branch (exact-bind named-exact (λ n front spelled.
        exact-give (Some n) (subst (SpellsNamed n) (sym (append-nil front)) spelled) (λ c. tt)))
    each _ = branch (exact-give None refl (λ c. tt))

-- as many inputs as a gate of this kind may have
abbrev pub SpellsInputs : GateKind → List SourceExpression → List SourceToken → Type 0
SpellsInputs kind es ts = (has_one_input kind ≡ true → length es ≡ 1) × SpellsList SpellsExpression classes.Comma es ts

pub inputs-exact : {C : Type 0} (k : ℕ) (kind : GateKind) → Exact C (λ m. inputs m kind) k (SpellsInputs kind) (EachFits (Within k))
unfolding inputs
inputs-exact {C} k kind = at (has_one_input kind) refl
  where
    at : (b : Bool) → has_one_input kind ≡ b
        → Exact C (λ m. if b then (expression m >>= λ e. give (e ∷ [])) else separated classes.Comma (expression m)) k (SpellsInputs kind) (EachFits (Within k))
    at true e = exact-bind (expression-within k) (λ e front spelled.
        exact-give (e ∷ []) ((λ one. refl), (front, [], spelled, refl, refl)) (λ c. (c.1, tt)))
    at false e = exact-weaken (λ es ts h. ((λ one. absurd (let p : false ≡ true = sym e ∙ one in cc)), h))
        (exact-separated expression k SpellsExpression (Within k) classes.Comma refl (expression-within k))

abbrev pub GateWithin : ℕ → SourceGate → Type 0
GateWithin k g = gate_height g ≤ k

pub gate-exact : {C : Type 0} (k : ℕ) (kind : GateKind) → Exact C (λ m. gate m kind) k (SpellsGate kind) (GateWithin k)
unfolding gate
gate-exact k kind =
    exact-bind gate_name-exact (λ n name naming.
    exact-after classes.LeftParen refl (λ opening.
    exact-bind (target-exact k) (λ t inside targeted.
    exact-after classes.Comma refl (λ comma.
    exact-bind (inputs-exact k kind) (λ es after listing.
    exact-after classes.RightParen refl (λ closing.
    exact-give (record { name = n; output = t; inputs = es })
    (listing.0, opening, comma, closing, name, inside, after, naming, targeted, listing.1, refl)
    (λ c. let all : greatest height_of es ≤ k = greatest-fits height_of k es c.1 in omega (arith, c.0.1))))))))

-- Connections by name

abbrev pub ActualWithin : ℕ → Option SourceExpression → Type 0
ActualWithin k a = height_if_there height_of a ≤ k

pub actual-exact : {C : Type 0} (k : ℕ) → Exact C actual k SpellsActual (ActualWithin k)
unfolding actual
actual-exact {C} k = exact-by_class (λ m. actual_by m) ((None, [], refl), λ c. (None, [], refl, omega arith)) each
  where
    each : (class : Option Class) → Branch C (λ m. actual_by m class) k SpellsActual (ActualWithin k) class
    each (Some classes.RightParen) = branch (exact-give None refl (λ c. omega arith))
    each _ = branch (exact-bind (expression-within k) (λ e front spelled.
        exact-give (Some e) (subst (SpellsExpression e) (sym (append-nil front)) spelled) (λ c. c.1)))

-- something is connected
abbrev pub SpellsSome : Option SourceExpression → List SourceToken → Type 0
SpellsSome a ts = ((e : SourceExpression) × (a ≡ Some e)) × SpellsActual a ts

pub some_actual-exact : {C : Type 0} (k : ℕ) → Exact C some_actual k SpellsSome (ActualWithin k)
unfolding some_actual
some_actual-exact k = exact-bind (expression-within k) (λ e front spelled.
    exact-give (Some e) ((e, refl), subst (SpellsExpression e) (sym (append-nil front)) spelled) (λ c. c.1))

abbrev pub ConnectionWithin : ℕ → SourceConnection → Type 0
ConnectionWithin k c = connection_height c ≤ k

-- a connection by name, with a language of what is connected
abbrev pub SpellsConnection : Language (Option SourceExpression) → SourceConnection → List SourceToken → Type 0
SpellsConnection L c ts =
    (name : List ℕ) × (c.name ≡ Some name) × IsName name × (dot_place open_place close_place : SourcePlace) × (inside : List SourceToken) × L c.actual inside
    × (ts ≡ token_of classes.Dot dot_place ∷ name_token name c.place ∷ token_of classes.LeftParen open_place ∷ (inside ++ token_of classes.RightParen close_place ∷ []))

pub connection-exact : {C : Type 0} (k : ℕ) (connected : Family (Option SourceExpression)) (L : Language (Option SourceExpression)) → Exact C connected k L (ActualWithin k)
    → Exact C (λ m. connection (connected m)) k (SpellsConnection L) (ConnectionWithin k)
unfolding connection
connection-exact k connected L exact =
    exact-after classes.Dot refl (λ dot.
    exact-bind exact-name (λ n front spelled.
    exact-after classes.LeftParen refl (λ opening.
    exact-bind (exact-under (λ c. c.0) exact) (λ a inside actual.
    exact-after classes.RightParen refl (λ closing.
    exact-give (record { name = Some n.0; place = n.1; actual = a }) (
      n.0,
      refl,
      spelled.0,
      dot,
      opening,
      closing,
      inside,
      actual,
      ap (λ f. token_of classes.Dot dot ∷
          (f ++ token_of classes.LeftParen opening ∷ (inside ++ token_of classes.RightParen closing ∷ []))) spelled.1,
    )
    (λ c. c.1))))))

abbrev pub ConnectionsWithin : ℕ → List SourceConnection → Type 0
ConnectionsWithin k cs = greatest connection_height cs ≤ k

-- connections by name, to the closing parenthesis
abbrev pub SpellsToClose : (SourcePlace → List SourceConnection → List SourceToken → Type 0) → List SourceConnection → List SourceToken → Type 0
SpellsToClose L cs ts = (close_place : SourcePlace) × (inside : List SourceToken) × L close_place cs inside × (ts ≡ inside ++ token_of classes.RightParen close_place ∷ [])

pub named_connections-exact : {C : Type 0} (k : ℕ) (connected : Family (Option SourceExpression)) (L : Language (Option SourceExpression)) → Exact C connected k L (ActualWithin k)
    → Exact C (λ m. named_connections (connected m)) k (SpellsToClose (λ close_place. SpellsList (SpellsConnection L) classes.Comma)) (ConnectionsWithin k)
unfolding named_connections
named_connections-exact k connected L exact =
    exact-bind (exact-separated (λ m. connection (connected m)) k (SpellsConnection L) (ConnectionWithin k) classes.Comma refl (connection-exact k connected L exact)) (λ cs inside listing.
    exact-after classes.RightParen refl (λ closing.
    exact-give cs (closing, inside, listing, refl) (λ c. greatest-fits connection_height k cs c.1)))

-- Connections by position

-- each connection with the comma that ends it
abbrev pub SpellsEnded : List SourceConnection → List SourceToken → Type 0
SpellsEnded [] ts = ts ≡ []
SpellsEnded (c ∷ cs) ts =
    (comma_place : SourcePlace) × (before after : List SourceToken) × SpellsPlacedConnection comma_place c before × SpellsEnded cs after
    × (ts ≡ before ++ token_of classes.Comma comma_place ∷ after)

abbrev pub SpellsPlaced : Placed → List SourceToken → Type 0
SpellsPlaced s ts = (before after : List SourceToken) × SpellsEnded s.ended before × SpellsActual s.last after × (0 < length ts) × (ts ≡ before ++ after)

abbrev pub PlacedWithin : ℕ → Placed → Type 0
PlacedWithin k s = (ConnectionsWithin k s.ended) × (ActualWithin k s.last)

ended-append : (cs : List SourceConnection) (front : List SourceToken) (c : SourceConnection) (place : SourcePlace) (inside : List SourceToken)
    → SpellsEnded cs front → SpellsPlacedConnection place c inside → SpellsEnded (cs ++ c ∷ []) (front ++ (inside ++ token_of classes.Comma place ∷ []))
ended-append [] front c place inside h s = (place, inside, [], s, refl, ap (λ f. f ++ (inside ++ token_of classes.Comma place ∷ [])) h)
ended-append (d ∷ cs) front c place inside h s =
    let tail = inside ++ token_of classes.Comma place ∷ [] in (
      h.0,
      h.1,
      h.2 ++ tail,
      h.3,
      ended-append cs h.2 c place inside h.4 s,
      ap (λ f. f ++ tail) h.5 ∙ append_assoc h.1 (token_of classes.Comma h.0 ∷ h.2) tail,
    )

pub start-exact : {C : Type 0} (k : ℕ) → Exact C placed_start k SpellsPlaced (PlacedWithin k)
unfolding placed_start
start-exact {C} k = exact-by_class (λ m. start_by m) (some.0, some.1) each
  where
    first : (comma : SourcePlace) → SpellsPlaced (record { ended = placed comma None ∷ []; last = None }) (token_of classes.Comma comma ∷ [])
    first comma = (token_of classes.Comma comma ∷ [], [], (comma, [], [], (refl, refl, refl), refl, refl), refl, omega arith, refl)

    some : Some-of C SpellsPlaced (PlacedWithin k)
    some = (
      (record { ended = placed nowhere None ∷ []; last = None }, token_of classes.Comma nowhere ∷ [], first nowhere),
      λ c. (record { ended = placed nowhere None ∷ []; last = None }, token_of classes.Comma nowhere ∷ [], first nowhere, (omega arith, omega arith)),
    )

    each : (class : Option Class) → Branch C (λ m. start_by m class) k SpellsPlaced (PlacedWithin k) class
    each (Some classes.Comma) = branch-step refl (λ comma. exact-give (record { ended = placed comma None ∷ []; last = None }) (first comma) (λ c. (omega arith, omega arith)))
    each _ = branch (exact-bind (expression-within k) (λ e front spelled.
        exact-give (record { ended = []; last = Some e })
        ([], front ++ [], refl, subst (SpellsExpression e) (sym (append-nil front)) spelled, subst (λ f. 0 < length f) (sym (append-nil front)) (expression-tokens e front spelled), refl)
        (λ c. (omega arith, c.1))))

placed_turn-exact : {C : Type 0} (k : ℕ) (s : Placed) (front : List SourceToken) → SpellsPlaced s front
    → Exact (C × PlacedWithin k s) (λ m. placed_turn m s) k (Turn SpellsPlaced s front) (TurnFits (PlacedWithin k))
placed_turn-exact {C} k s front here = exact-by_class (λ m. placed_by m s) ((None, [], refl), λ c. (None, [], refl, tt)) each
  where
    ended : (comma : SourcePlace) → Turn SpellsPlaced s front (Some (record { ended = s.ended ++ placed comma s.last ∷ []; last = None })) (token_of classes.Comma comma ∷ [])
    ended comma = (
      (
        front ++ token_of classes.Comma comma ∷ [],
        [],
        subst (SpellsEnded (s.ended ++ placed comma s.last ∷ [])) (sym (append_assoc here.0 here.1 (token_of classes.Comma comma ∷ [])) ∙ ap (λ f. f ++ token_of classes.Comma comma ∷ []) (sym here.5))
            (ended-append s.ended here.0 (placed comma s.last) comma here.1 here.2 (refl, refl, here.3)),
        refl,
        omega (arith, length-append front (token_of classes.Comma comma ∷ [])),
        sym (append-nil (front ++ token_of classes.Comma comma ∷ [])),
      ),
      omega arith,
    )

    more : (last : Option SourceExpression) → s.last ≡ last → {class : Option Class}
        → Branch (C × PlacedWithin k s) (λ m. one_more m s.ended last) k (Turn SpellsPlaced s front) (TurnFits (PlacedWithin k)) class
    more None none = branch (exact-bind (expression-within k) (λ e inside spelled.
        let empty : here.1 ≡ [] = subst (λ l. SpellsActual l here.1) none here.3 in
        exact-give (Some (record { ended = s.ended; last = Some e })) (
          (
            here.0,
            inside ++ [],
            here.2,
            subst (SpellsExpression e) (sym (append-nil inside)) spelled,
            omega (arith, here.4, length-append front (inside ++ [])),
            ap (λ f. f ++ (inside ++ [])) (here.5 ∙ ap (λ f. here.0 ++ f) empty ∙ append-nil here.0),
          ),
          subst (λ f. 0 < length f) (sym (append-nil inside)) (expression-tokens e inside spelled),
        )
        (λ c. (c.0.1.0, c.1))))
    more (Some e) some = branch (exact-give None refl (λ c. tt))

    each : (class : Option Class) → Branch (C × PlacedWithin k s) (λ m. placed_by m s class) k (Turn SpellsPlaced s front) (TurnFits (PlacedWithin k)) class
    each (Some classes.Comma) = branch-step refl (λ comma.
        exact-give (Some (record { ended = s.ended ++ placed comma s.last ∷ []; last = None })) (ended comma)
        (λ c. (greatest-append connection_height k s.ended (placed comma s.last) c.1.0 c.1.1, omega arith)))
    each (Some classes.RightParen) = branch (exact-give None refl (λ c. tt))
    each _ = more s.last refl

placed-before : (close comma : SourcePlace) (c : SourceConnection) (cs : List SourceConnection) (before after : List SourceToken)
    → SpellsPlacedConnection comma c before → SpellsPlacedConnections close cs after → SpellsPlacedConnections close (c ∷ cs) (before ++ token_of classes.Comma comma ∷ after)
placed-before close comma c [] before after s h = absurd h
placed-before close comma c (d ∷ cs) before after s h = (comma, before, after, s, h, refl)

pub placed-closed : (close : SourcePlace) (cs : List SourceConnection) (c : SourceConnection) (before after : List SourceToken)
    → SpellsEnded cs before → SpellsPlacedConnection close c after → SpellsPlacedConnections close (cs ++ c ∷ []) (before ++ after)
placed-closed close [] c before after h s = subst (λ f. SpellsPlacedConnection close c (f ++ after)) (sym h) s
placed-closed close (d ∷ cs) c before after h s =
    subst (SpellsPlacedConnections close (d ∷ (cs ++ c ∷ []))) (sym (ap (λ f. f ++ after) h.5 ∙ append_assoc h.1 (token_of classes.Comma h.0 ∷ h.2) after))
    (placed-before close h.0 d (cs ++ c ∷ []) h.1 (h.2 ++ after) h.3 (placed-closed close cs c h.2 after h.4 s))

-- connections by position, not all of them nothing
abbrev pub SpellsSomePlaced : SourcePlace → List SourceConnection → List SourceToken → Type 0
SpellsSomePlaced close_place cs inside = (0 < length inside) × SpellsPlacedConnections close_place cs inside

pub placed_connections-exact : {C : Type 0} (k : ℕ) → Exact C placed_connections k (SpellsToClose SpellsSomePlaced) (ConnectionsWithin k)
unfolding placed_connections
placed_connections-exact {C} k =
    exact-bind (start-exact k) (λ s front spelled.
    exact-bind (exact-repeat {C = C} placed_turn {N = SpellsPlaced} {G = PlacedWithin k} (placed_turn-exact k) s front spelled) (λ t more placing.
    exact-after classes.RightParen refl (λ closing.
    exact-give (t.ended ++ placed closing t.last ∷ []) (
      closing,
      front ++ more,
      (
        placing.4,
        subst (SpellsPlacedConnections closing (t.ended ++ placed closing t.last ∷ [])) (sym placing.5)
            (placed-closed closing t.ended (placed closing t.last) placing.0 placing.1 placing.2 (refl, refl, placing.3)),
      ),
      sym (append_assoc front more (token_of classes.RightParen closing ∷ [])),
    )
    (λ c. greatest-append connection_height k t.ended (placed closing t.last) c.1.0 c.1.1))))

-- Instances

-- the connections of an instance
abbrev pub SpellsConnected : SourcePlace → List SourceConnection → List SourceToken → Type 0
SpellsConnected close_place cs inside = ((cs ≡ []) × (inside ≡ [])) ⊎ ((0 < length inside) × SpellsConnections close_place cs inside)

named-tokens : (cs : List SourceConnection) (ts : List SourceToken) → SpellsList SpellsNamedConnection classes.Comma cs ts → 0 < length ts
named-tokens [] ts h = absurd h
named-tokens (c ∷ cs) ts h = omega (arith, ap length h.4, length-append h.0 h.1, ap length h.2.8)

pub connections-exact : {C : Type 0} (k : ℕ) → Exact C connections k (SpellsToClose SpellsConnected) (ConnectionsWithin k)
unfolding connections
connections-exact {C} k = exact-by_class (λ m. connections_by m) some each
  where
    some : Some-of C (SpellsToClose SpellsConnected) (ConnectionsWithin k)
    some = (
      ([], token_of classes.RightParen nowhere ∷ [], (nowhere, [], inl (refl, refl), refl)),
      λ c. ([], token_of classes.RightParen nowhere ∷ [], (nowhere, [], inl (refl, refl), refl), omega arith),
    )

    each : (class : Option Class) → Branch C (λ m. connections_by m class) k (SpellsToClose SpellsConnected) (ConnectionsWithin k) class
    each (Some classes.Dot) = branch (exact-weaken (λ cs ts h. (h.0, h.1, inr (named-tokens cs h.1 h.2, inl h.2), h.3)) (named_connections-exact k actual SpellsActual (actual-exact k)))
    each (Some classes.RightParen) = branch-step refl (λ closing. exact-give [] (closing, [], inl (refl, refl), refl) (λ c. omega arith))
    each _ = branch (exact-weaken (λ cs ts h. (h.0, h.1, inr (h.2.0, inr h.2.1), h.3)) (placed_connections-exact k))

abbrev pub InstanceWithin : ℕ → SourceInstance → Type 0
InstanceWithin k i = instance_height i ≤ k

pub inst-exact : {C : Type 0} (k : ℕ) → Exact C inst k SpellsInstance (InstanceWithin k)
unfolding inst
inst-exact k =
    exact-bind exact-name (λ n front spelled.
    exact-after classes.LeftParen refl (λ opening.
    exact-bind (connections-exact k) (λ cs after connected.
    exact-give (record { name = n.0; place = n.1; connections = cs }) (
      spelled.0,
      opening,
      connected.0,
      connected.1,
      connected.2,
      ap (λ f. f ++ token_of classes.LeftParen opening ∷ (after ++ [])) spelled.1
          ∙ ap (λ f. name_token n.0 n.1 ∷ token_of classes.LeftParen opening ∷ f) (append-nil after ∙ connected.3),
    )
    (λ c. c.1))))

-- What an instance gives its parameters

pub given_expression-exact : {C : Type 0} (k : ℕ) → Exact C given_expression k (λ c ts. IsGiven c
    × ((c.name ≡ None) × ((next_place : SourcePlace) → c.place ≡ actual_place next_place c.actual) × SpellsActual c.actual ts)) (ConnectionWithin k)
unfolding given_expression
given_expression-exact k = exact-bind (expression-within k) (λ e front spelled.
    exact-give (record { name = None; place = place_of_expression e; actual = Some e })
    ((e, refl), (refl, (λ next_place. refl), subst (SpellsExpression e) (sym (append-nil front)) spelled)) (λ c. c.1))

-- connections with their expressions, to the closing parenthesis
abbrev pub SpellsGivenInside : SourcePlace → List SourceConnection → List SourceToken → Type 0
SpellsGivenInside close_place cs inside = AreGiven cs × SpellsConnections close_place cs inside

abbrev SpellsGivenExpression : SourceConnection → List SourceToken → Type 0
SpellsGivenExpression c ts = IsGiven c × ((c.name ≡ None) × ((next_place : SourcePlace) → c.place ≡ actual_place next_place c.actual) × SpellsActual c.actual ts)

given-placed : (close : SourcePlace) (cs : List SourceConnection) (ts : List SourceToken) → SpellsList SpellsGivenExpression classes.Comma cs ts → AreGiven cs × SpellsPlacedConnections close cs ts
given-placed close [] ts h = absurd h
given-placed close (c ∷ []) ts h =
    let same : ts ≡ h.0 = h.4 ∙ ap (λ f. h.0 ++ f) h.3 ∙ append-nil h.0 in
    ((h.2.0, tt), (h.2.1.0, h.2.1.1 close, subst (SpellsActual c.actual) (sym same) h.2.1.2))
given-placed close (c ∷ d ∷ cs) ts h =
    let rest = given-placed close (d ∷ cs) (h.3.1 ++ h.3.2) (h.3.1, h.3.2, h.3.3, h.3.4, refl) in
    ((h.2.0, rest.0), (h.3.0, h.0, h.3.1 ++ h.3.2, (h.2.1.0, h.2.1.1 h.3.0, h.2.1.2), rest.1, h.4 ∙ ap (λ f. h.0 ++ f) h.3.5))

given-named-behind : (cs : List SourceConnection) (ts : List SourceToken) → SpellsBehind (SpellsConnection SpellsSome) classes.Comma cs ts
    → AreGiven cs × SpellsBehind SpellsNamedConnection classes.Comma cs ts
given-named-behind [] ts h = (tt, h)
given-named-behind (c ∷ cs) ts h =
    let rest = given-named-behind cs h.2 h.4 in
    let n = h.3 in
    ((n.7.0, rest.0), (h.0, h.1, h.2, (n.0, n.1, n.2, n.3, n.4, n.5, n.6, n.7.1, n.8), rest.1, h.5))

given-named : (cs : List SourceConnection) (ts : List SourceToken) → SpellsList (SpellsConnection SpellsSome) classes.Comma cs ts → AreGiven cs × SpellsList SpellsNamedConnection classes.Comma cs ts
given-named [] ts h = absurd h
given-named (c ∷ cs) ts h =
    let rest = given-named-behind cs h.1 h.3 in
    let n = h.2 in
    ((n.7.0, rest.0), (h.0, h.1, (n.0, n.1, n.2, n.3, n.4, n.5, n.6, n.7.1, n.8), rest.1, h.4))

pub given_expressions-exact : {C : Type 0} (k : ℕ) → Exact C given_expressions k (SpellsToClose SpellsGivenInside) (ConnectionsWithin k)
unfolding given_expressions
given_expressions-exact k =
    exact-bind (exact-separated given_expression k SpellsGivenExpression (ConnectionWithin k) classes.Comma refl (given_expression-exact k)) (λ cs inside listing.
    exact-after classes.RightParen refl (λ closing.
    exact-give cs (closing, inside, ((given-placed closing cs inside listing).0, inr (given-placed closing cs inside listing).1), refl)
    (λ c. greatest-fits connection_height k cs c.1)))

pub given-exact : {C : Type 0} (k : ℕ) → Exact C given k SpellsGiven (ConnectionsWithin k)
unfolding given
given-exact {C} k = exact-by_class (λ m. given_by m) (([], [], refl), λ c. ([], [], refl, omega arith)) each
  where
    listed : (hash opening : SourcePlace) (cs : List SourceConnection) (ts : List SourceToken) → SpellsToClose SpellsGivenInside cs ts
        → SpellsGiven cs (token_of classes.Hash hash ∷ token_of classes.LeftParen opening ∷ ts)
    listed hash opening [] ts h = absurd (none h.2.1)
      where
        none : SpellsConnections h.0 [] h.1 → ⊥
        none (inl e) = e
        none (inr e) = e
    listed hash opening (c ∷ cs) ts h = (hash, opening, h.0, h.1, h.2.0, h.2.1, ap (λ f. token_of classes.Hash hash ∷ token_of classes.LeftParen opening ∷ f) h.3)

    inside : (hash opening : SourcePlace) (class : Option Class)
        → Branch C (λ m. given_inside m class) k (behind (token_of classes.LeftParen opening ∷ []) (behind (token_of classes.Hash hash ∷ []) SpellsGiven)) (ConnectionsWithin k) class
    inside hash opening (Some classes.Dot) = branch (exact-weaken
        (λ cs ts h. listed hash opening cs ts (h.0, h.1, ((given-named cs h.1 h.2).0, inl (given-named cs h.1 h.2).1), h.3))
        (named_connections-exact k some_actual SpellsSome (some_actual-exact k)))
    inside hash opening _ = branch (exact-weaken (λ cs ts h. listed hash opening cs ts h) (given_expressions-exact k))

    within : (hash opening : SourcePlace) → Some-of C (behind (token_of classes.LeftParen opening ∷ []) (behind (token_of classes.Hash hash ∷ []) SpellsGiven)) (ConnectionsWithin k)
    within hash opening =
        let x = (given_expressions-exact {C = Unit {0}} k).some tt in
        ((x.0, x.1, listed hash opening x.0 x.1 x.2), λ c. (x.0, x.1, listed hash opening x.0 x.1 x.2, x.3))

    each : (class : Option Class) → Branch C (λ m. given_by m class) k SpellsGiven (ConnectionsWithin k) class
    each (Some classes.Hash) = branch-step refl (λ hash.
        exact-after classes.LeftParen refl (λ opening.
        exact-by_class (λ m. given_inside m) (within hash opening) (inside hash opening)))
    each _ = branch (exact-give [] refl (λ c. omega arith))
