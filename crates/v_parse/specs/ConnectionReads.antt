-- Every spelled assignment, gate and connection is read.
use Rattle.std.proofs.Common.{◌≡◌, ℕ, suc, ◌<◌, ◌≤◌, Bool, true, false, List, [], ◌∷◌, ◌++◌, length, Option, Some, None, Ok, Err, refl, sym, ◌∙◌, ap, subst, arith, append_assoc, length-append, inl}
use Rattle.std.proofs.Common.{inr}
use Rattle.std.proofs.lemmas.List.{append-nil}
use Rattle.std.specs.Prelude.{if◌then◌else◌}
use Rattle.vf_base.specs.Base.{SourcePlace}
use Rattle.four_value.specs.declared.operator.GateKind.{GateKind}
use Rattle.v_tree.specs.Tokens.{SourceToken}
use Rattle.v_tree.specs.Trees.{SourceExpression, place_of_expression, NamedPlace, SourceAssignment, SourceGate, SourceConnection, SourceInstance}
use Rattle.v_readers.specs.declared.class.Class.{Class}
use Rattle.v_readers.specs.declared.class.Class.TheVariants as classes
use Rattle.v_readers.specs.Classes.{token_of, name_token}
use Rattle.v_readers.specs.Reading.{Reading, Reader, ◌>>=◌, followed, give, next_class, is_class, expect, repeat}
use Rattle.v_readers.specs.Separated.{SpellsBehind, SpellsList, separated}
use Rattle.v_readers.specs.SeparatedLaws.{EachFits}
use Rattle.v_readers.specs.Reads.{name-reads, turn-is, last-is, separated-reads}
use Rattle.v_expr.specs.Spelling.{SpellsExpression}
use Rattle.v_expr.specs.Heights.{height_of}
use Rattle.v_expr.specs.Expressions.{expression}
use Rattle.v_expr.specs.ExpressionExact.{Within}
use Rattle.v_expr.specs.ExpressionReads.{expression-reads}
use Rattle.v_expr.specs.PartLaws.{target-reads}
use Rattle.v_stmt.specs.PartReads.{leads, expression-first}
use Rattle.v_parse.specs.Spelling.{SpellsAssignment, has_one_input, SpellsGateName, SpellsGate, SpellsActual, SpellsNamedConnection, actual_place, SpellsPlacedConnection, SpellsPlacedConnections}
use Rattle.v_parse.specs.Spelling.{SpellsConnections, SpellsInstance, IsGiven, AreGiven, SpellsGiven}
use Rattle.v_parse.specs.Heights.{greatest, height_if_there, assignment_height, gate_height, connection_height, instance_height}
use Rattle.v_parse.specs.Items.{assignment, gate_name_by, gate_name, inputs, gate, actual_by, actual, some_actual, connection, named_connections, Placed, placed, start_by, placed_start, placed_by}
use Rattle.v_parse.specs.Items.{placed_turn, placed_connections, connections_by, connections, given_expression, given_expressions, given_inside, given_by, given, inst}
use Rattle.v_parse.specs.DeclarationExact.{Any}
use Rattle.v_parse.specs.ConnectionExact.{SpellsInputs, ConnectionWithin, SpellsConnected}
use Rattle.v_parse.specs.DeclarationReads.{Closes, closer-ends, each-fits, named-reads, named-first}

-- Assignments

pub assignment-reads : (k : ℕ) (a : SourceAssignment) (ts rest : List SourceToken) → SpellsAssignment a ts → assignment_height a ≤ k → Closes (next_class rest) →
    assignment k (ts ++ rest) ≡ Ok (a, rest)
unfolding assignment
assignment-reads k a ts rest h low c =
    let tail = token_of classes.Assign h.0 ∷ (h.2 ++ rest) in
    let first = target-reads k a.target h.1 tail h.3 (omega (arith, low)) (omega arith) in
    let second = expression-reads k a.value h.2 rest h.4 (omega (arith, low)) (closer-ends (next_class rest) c) in
    ap (λ f. assignment k (f ++ rest)) h.5 ∙ ap (assignment k) (append_assoc h.1 (token_of classes.Assign h.0 ∷ h.2) rest) ∙ rw (first, second) refl

-- Gates

gate_name-reads : (n : Option NamedPlace) (ts tail : List SourceToken) → SpellsGateName n ts → next_class tail ≡ Some classes.LeftParen → gate_name (ts ++ tail) ≡ Ok (n, tail)
unfolding gate_name
gate_name-reads None ts tail h e = ap (λ f. gate_name (f ++ tail)) h ∙ ap (λ c. gate_name_by c tail) e
gate_name-reads (Some n) ts tail h e =
    ap (λ c. gate_name_by c (ts ++ tail)) (named-first n ts tail h) ∙ ap (λ w. followed w (λ n. give (Some n))) (named-reads n ts tail h)

inputs-read : (k : ℕ) (kind : GateKind) (es : List SourceExpression) (ts rest : List SourceToken) → SpellsInputs kind es ts → EachFits (Within k) es → Closes (next_class rest)
    → is_class classes.Comma (next_class rest) ≡ false → inputs k kind (ts ++ rest) ≡ Ok (es, rest)
unfolding inputs
inputs-read k kind es ts rest h fits c other = at (has_one_input kind) refl
  where
    one : (es : List SourceExpression) (ts : List SourceToken) → SpellsList SpellsExpression classes.Comma es ts → length es ≡ 1 → EachFits (Within k) es
        → followed (expression k (ts ++ rest)) (λ e. give (e ∷ [])) ≡ Ok (es, rest)
    one [] ts s l f = absurd s
    one (e ∷ []) ts s l f =
        ap (λ u. followed (expression k (u ++ rest)) (λ e. give (e ∷ []))) (s.4 ∙ ap (λ u. s.0 ++ u) s.3 ∙ append-nil s.0)
        ∙ ap (λ w. followed w (λ e. give (e ∷ []))) (expression-reads k e s.0 rest s.2 f.0 (closer-ends (next_class rest) c))
    one (e ∷ d ∷ es) ts s l f = absurd (let p : suc (suc (length es)) ≡ 1 = l in omega (arith, p))

    at : (b : Bool) → has_one_input kind ≡ b → (if b then (expression k >>= λ e. give (e ∷ [])) else separated classes.Comma (expression k)) (ts ++ rest) ≡ Ok (es, rest)
    at true e = one es ts h.1 (h.0 e) fits
    at false e = separated-reads (expression k) SpellsExpression (Within k) Closes classes.Comma refl
        (λ e ts rest s f c. expression-reads k e ts rest s f (closer-ends (next_class rest) c)) es ts rest h.1 fits c other

pub gate-reads : (k : ℕ) (kind : GateKind) (g : SourceGate) (ts rest : List SourceToken) → SpellsGate kind g ts → gate_height g ≤ k → Closes (next_class rest) → gate k kind (ts ++ rest) ≡ Ok (g, rest)
unfolding gate
gate-reads k kind g ts rest h low c =
    let close = token_of classes.RightParen h.3 ∷ rest in
    let comma = token_of classes.Comma h.2 ∷ (h.6 ++ close) in
    let opening = token_of classes.LeftParen h.1 ∷ (h.5 ++ comma) in
    let name = gate_name-reads g.name h.4 opening h.7 refl in
    let output = target-reads k g.output h.5 comma h.8 (omega (arith, low)) (omega arith) in
    let all = inputs-read k kind g.inputs h.6 close (h.0, h.9) (each-fits height_of k g.inputs (omega (arith, low))) refl refl in
    ap (λ f. gate k kind (f ++ rest)) h.10
    ∙ ap (gate k kind) (append_assoc h.4 (token_of classes.LeftParen h.1 ∷ (h.5 ++ token_of classes.Comma h.2 ∷ (h.6 ++ token_of classes.RightParen h.3 ∷ []))) rest
    ∙ ap (λ f. h.4 ++ token_of classes.LeftParen h.1 ∷ f) (append_assoc h.5 (token_of classes.Comma h.2 ∷ (h.6 ++ token_of classes.RightParen h.3 ∷ [])) rest
    ∙ ap (λ f. h.5 ++ token_of classes.Comma h.2 ∷ f) (append_assoc h.6 (token_of classes.RightParen h.3 ∷ []) rest)))
    ∙ rw (name, output, all) refl

-- Connections by name

actual_by-leads : (k : ℕ) (class : Option Class) (tokens : List SourceToken) → leads class ≡ true → actual_by k class tokens ≡ followed (expression k tokens) (λ e. give (Some e))
actual_by-leads k (Some classes.RightParen) tokens h = absurd (let p : false ≡ true = h in cc)
actual_by-leads k _ tokens h = refl

actual-reads : (k : ℕ) (a : Option SourceExpression) (ts : List SourceToken) (close : SourcePlace) (rest : List SourceToken) → SpellsActual a ts → height_if_there height_of a ≤ k
    → actual k (ts ++ token_of classes.RightParen close ∷ rest) ≡ Ok (a, token_of classes.RightParen close ∷ rest)
unfolding actual
actual-reads k None ts close rest h low = ap (λ f. actual k (f ++ token_of classes.RightParen close ∷ rest)) h
actual-reads k (Some e) ts close rest h low =
    actual_by-leads k (next_class (ts ++ token_of classes.RightParen close ∷ rest)) (ts ++ token_of classes.RightParen close ∷ rest)
    (expression-first e ts (token_of classes.RightParen close ∷ rest) h)
    ∙ ap (λ w. followed w (λ e. give (Some e))) (expression-reads k e ts (token_of classes.RightParen close ∷ rest) h low (omega arith))

-- a connection by name, where its reader of what is connected reads that
connection-reads : (connected : Reader (Option SourceExpression)) (c : SourceConnection) (ts rest : List SourceToken) (h : SpellsNamedConnection c ts)
    → connected (h.6 ++ token_of classes.RightParen h.5 ∷ rest) ≡ Ok (c.actual, token_of classes.RightParen h.5 ∷ rest) → connection connected (ts ++ rest) ≡ Ok (c, rest)
unfolding connection
connection-reads connected c ts rest h read =
    let inside = h.6 ++ token_of classes.RightParen h.5 ∷ rest in
    ap (λ f. connection connected (f ++ rest)) h.8
    ∙ ap (λ f. connection connected (token_of classes.Dot h.3 ∷ name_token h.0 c.place ∷ token_of classes.LeftParen h.4 ∷ f)) (append_assoc h.6 (token_of classes.RightParen h.5 ∷ []) rest)
    ∙ rw (name-reads h.0 c.place (token_of classes.LeftParen h.4 ∷ inside) h.2, read) refl
    ∙ ap (λ n. Ok (record { name = n; place = c.place; actual = c.actual }, rest)) (sym h.1)

named_connections-reads : (k : ℕ) (cs : List SourceConnection) (ts : List SourceToken) (close : SourcePlace) (rest : List SourceToken) → SpellsList SpellsNamedConnection classes.Comma cs ts
    → greatest connection_height cs ≤ k → named_connections (actual k) (ts ++ token_of classes.RightParen close ∷ rest) ≡ Ok (cs, rest)
unfolding named_connections
named_connections-reads k cs ts close rest h low =
    let read = separated-reads (connection (actual k)) SpellsNamedConnection (ConnectionWithin k) Any classes.Comma tt
    (λ c ts rest s f e. connection-reads (actual k) c ts rest s (actual-reads k c.actual s.6 s.5 rest s.7 f))
    cs ts (token_of classes.RightParen close ∷ rest) h (each-fits connection_height k cs low) tt refl in
    rw read refl

named_connections-first : (cs : List SourceConnection) (ts rest : List SourceToken) → SpellsList SpellsNamedConnection classes.Comma cs ts → next_class (ts ++ rest) ≡ Some classes.Dot
named_connections-first [] ts rest h = absurd h
named_connections-first (c ∷ cs) ts rest h = ap (λ f. next_class (f ++ rest)) h.4 ∙ ap next_class (append_assoc h.0 h.1 rest) ∙ ap (λ f. next_class (f ++ (h.1 ++ rest))) h.2.8

-- Connections by position

placed-is : (place : SourcePlace) (c : SourceConnection) → c.name ≡ None → c.place ≡ actual_place place c.actual → placed place c.actual ≡ c
placed-is place c e f =
    ap (λ p. record { name = None; place = p; actual = c.actual }) (sym f) ∙ ap (λ n. record { name = n; place = c.place; actual = c.actual }) (sym e)

placed_by-leads : (k : ℕ) (ended : List SourceConnection) (class : Option Class) (tokens : List SourceToken) → leads class ≡ true
    → placed_by k (record { ended = ended; last = None }) class tokens ≡ followed (expression k tokens) (λ e. give (Some (record { ended = ended; last = Some e })))
placed_by-leads k ended (Some classes.Comma) tokens h = absurd (let p : false ≡ true = h in cc)
placed_by-leads k ended (Some classes.RightParen) tokens h = absurd (let p : false ≡ true = h in cc)
placed_by-leads k ended _ tokens h = refl

start_by-leads : (k : ℕ) (class : Option Class) (tokens : List SourceToken) → leads class ≡ true
    → start_by k class tokens ≡ followed (expression k tokens) (λ e. give (record { ended = []; last = Some e }))
start_by-leads k (Some classes.Comma) tokens h = absurd (let p : false ≡ true = h in cc)
start_by-leads k _ tokens h = refl

step-expression : (k : ℕ) (ended : List SourceConnection) (e : SourceExpression) (ts tail : List SourceToken) → SpellsExpression e ts → height_of e ≤ k → Closes (next_class tail)
    → placed_turn k (record { ended = ended; last = None }) (ts ++ tail) ≡ Ok (Some (record { ended = ended; last = Some e }), tail)
step-expression k ended e ts tail h low c =
    placed_by-leads k ended (next_class (ts ++ tail)) (ts ++ tail) (expression-first e ts tail h)
    ∙ ap (λ w. followed w (λ e. give (Some (record { ended = ended; last = Some e })))) (expression-reads k e ts tail h low (closer-ends (next_class tail) c))

start-expression : (k : ℕ) (e : SourceExpression) (ts tail : List SourceToken) → SpellsExpression e ts → height_of e ≤ k → Closes (next_class tail)
    → placed_start k (ts ++ tail) ≡ Ok (record { ended = []; last = Some e }, tail)
unfolding placed_start
start-expression k e ts tail h low c =
    start_by-leads k (next_class (ts ++ tail)) (ts ++ tail) (expression-first e ts tail h)
    ∙ ap (λ w. followed w (λ e. give (record { ended = []; last = Some e }))) (expression-reads k e ts tail h low (closer-ends (next_class tail) c))

abbrev closing_of : Placed → Reader (List SourceConnection)
closing_of t = expect classes.RightParen >>= λ closing. give (t.ended ++ placed closing t.last ∷ [])

placed-ending : (k : ℕ) (t : Placed) (close : SourcePlace) (rest : List SourceToken)
    → followed (repeat (placed_turn k) t (token_of classes.RightParen close ∷ rest)) closing_of ≡ Ok (t.ended ++ placed close t.last ∷ [], rest)
placed-ending k t close rest = ap (λ w. followed w closing_of) (last-is (placed_turn k) t (token_of classes.RightParen close ∷ rest) refl)

placed-comma : (k : ℕ) (t : Placed) (comma : SourcePlace) (tail : List SourceToken)
    → repeat (placed_turn k) t (token_of classes.Comma comma ∷ tail) ≡ repeat (placed_turn k) (record { ended = t.ended ++ placed comma t.last ∷ []; last = None }) tail
placed-comma k t comma tail = turn-is (placed_turn k) t (record { ended = t.ended ++ placed comma t.last ∷ []; last = None }) (token_of classes.Comma comma ∷ tail) tail refl (omega arith)

expression-shorter : (e : SourceExpression) (ts tail : List SourceToken) → SpellsExpression e ts → length tail < length (ts ++ tail)
expression-shorter e [] tail h = absurd (let p : false ≡ true = expression-first e [] [] h in cc)
expression-shorter e (t ∷ ts) tail h = omega (arith, length-append ts tail)

-- an expression and then what ends it
placed-expression : (k : ℕ) (ended : List SourceConnection) (e : SourceExpression) (ts tail : List SourceToken) → SpellsExpression e ts → height_of e ≤ k → Closes (next_class tail)
    → repeat (placed_turn k) (record { ended = ended; last = None }) (ts ++ tail) ≡ repeat (placed_turn k) (record { ended = ended; last = Some e }) tail
placed-expression k ended e ts tail h low c =
    turn-is (placed_turn k) (record { ended = ended; last = None }) (record { ended = ended; last = Some e }) (ts ++ tail) tail (step-expression k ended e ts tail h low c)
    (expression-shorter e ts tail h)

-- up to the token that ends a connection
placed-actual : (k : ℕ) (ended : List SourceConnection) (a : Option SourceExpression) (ts tail : List SourceToken) → SpellsActual a ts → height_if_there height_of a ≤ k → Closes (next_class tail)
    → repeat (placed_turn k) (record { ended = ended; last = None }) (ts ++ tail) ≡ repeat (placed_turn k) (record { ended = ended; last = a }) tail
placed-actual k ended None ts tail h low c = ap (λ f. repeat (placed_turn k) (record { ended = ended; last = None }) (f ++ tail)) h
placed-actual k ended (Some e) ts tail h low c = placed-expression k ended e ts tail h low c

placed-loop : (k : ℕ) (cs ended : List SourceConnection) (ts : List SourceToken) (close : SourcePlace) (rest : List SourceToken) → SpellsPlacedConnections close cs ts →
    greatest connection_height cs ≤ k
    → followed (repeat (placed_turn k) (record { ended = ended; last = None }) (ts ++ token_of classes.RightParen close ∷ rest)) closing_of ≡ Ok (ended ++ cs, rest)
placed-loop k [] ended ts close rest h low = absurd h
placed-loop k (c ∷ []) ended ts close rest h low =
    ap (λ w. followed w closing_of) (placed-actual k ended c.actual ts (token_of classes.RightParen close ∷ rest) h.2 (omega (arith, low)) refl)
    ∙ placed-ending k (record { ended = ended; last = c.actual }) close rest
    ∙ ap (λ c. Ok (ended ++ c ∷ [], rest)) (placed-is close c h.0 h.1)
placed-loop k (c ∷ d ∷ cs) ended ts close rest h low =
    let tail = h.2 ++ token_of classes.RightParen close ∷ rest in
    ap (λ f. followed (repeat (placed_turn k) (record { ended = ended; last = None }) (f ++ token_of classes.RightParen close ∷ rest)) closing_of) h.5
    ∙ ap (λ f. followed (repeat (placed_turn k) (record { ended = ended; last = None }) f) closing_of) (append_assoc h.1 (token_of classes.Comma h.0 ∷ h.2) (token_of classes.RightParen close ∷ rest))
    ∙ ap (λ w. followed w closing_of) (placed-actual k ended c.actual h.1 (token_of classes.Comma h.0 ∷ tail) h.3.2 (omega (arith, low)) refl
    ∙ placed-comma k (record { ended = ended; last = c.actual }) h.0 tail
    ∙ ap (λ c. repeat (placed_turn k) (record { ended = ended ++ c ∷ []; last = None }) tail) (placed-is h.0 c h.3.0 h.3.1))
    ∙ placed-loop k (d ∷ cs) (ended ++ c ∷ []) h.2 close rest h.4 (omega (arith, low))
    ∙ ap (λ cs. Ok (cs, rest)) (append_assoc ended (c ∷ []) (d ∷ cs))

-- the first connection is read as a turn would read it
placed-started : (k : ℕ) (a : Option SourceExpression) (ts tail : List SourceToken) → SpellsActual a ts → height_if_there height_of a ≤ k → Closes (next_class tail)
    → ((place : SourcePlace) (more : List SourceToken) → tail ≡ token_of classes.Comma place ∷ more
    → followed (placed_start k (ts ++ tail)) (λ s. repeat (placed_turn k) s) ≡ repeat (placed_turn k) (record { ended = placed place a ∷ []; last = None }) more)
unfolding placed_start
placed-started k None ts tail h low c place more e =
    ap (λ f. followed (placed_start k (f ++ tail)) (λ s. repeat (placed_turn k) s)) h ∙ ap (λ f. followed (placed_start k f) (λ s. repeat (placed_turn k) s)) e ∙ by
  where
    by : followed (placed_start k (token_of classes.Comma place ∷ more)) (λ s. repeat (placed_turn k) s) ≡ repeat (placed_turn k) (record { ended = placed place None ∷ []; last = None }) more
    by = refl
placed-started k (Some x) ts tail h low c place more e =
    ap (λ w. followed w (λ s. repeat (placed_turn k) s)) (start-expression k x ts tail h low c)
    ∙ ap (repeat (placed_turn k) (record { ended = []; last = Some x })) e
    ∙ placed-comma k (record { ended = []; last = Some x }) place more

pub bound : {A B D : Type 0} (first : Reader A) (second : A → Reader B) (third : B → Reader D) (tokens : List SourceToken)
    → followed (first tokens) (λ a. second a >>= third) ≡ followed (followed (first tokens) second) third
bound {A} first second third tokens = again (first tokens)
  where
    again : (r : Reading A) → followed r (λ a. second a >>= third) ≡ followed (followed r second) third
    again (Ok y) = refl
    again (Err stop) = refl

pub placed_connections-reads : (k : ℕ) (cs : List SourceConnection) (ts : List SourceToken) (close : SourcePlace) (rest : List SourceToken) → SpellsPlacedConnections close cs ts → 0 < length ts
    → greatest connection_height cs ≤ k → placed_connections k (ts ++ token_of classes.RightParen close ∷ rest) ≡ Ok (cs, rest)
unfolding placed_connections
placed_connections-reads k [] ts close rest h some low = absurd h
placed_connections-reads k (c ∷ []) ts close rest h some low = by c.actual refl h.2
  where
    by : (a : Option SourceExpression) → c.actual ≡ a → SpellsActual a ts → placed_connections k (ts ++ token_of classes.RightParen close ∷ rest) ≡ Ok (c ∷ [], rest)
    by None e s = absurd (let p : length ts ≡ 0 = ap length s in omega (arith, p, some))
    by (Some x) e s =
        let fits : height_of x ≤ k = let same : height_if_there height_of c.actual ≡ height_of x = ap (height_if_there height_of) e in omega (arith, same, low) in
        ap (λ w. followed w (λ s. repeat (placed_turn k) s >>= closing_of)) (start-expression k x ts (token_of classes.RightParen close ∷ rest) s fits refl)
        ∙ placed-ending k (record { ended = []; last = Some x }) close rest
        ∙ ap (λ a. Ok (placed close a ∷ [], rest)) (sym e)
        ∙ ap (λ c. Ok (c ∷ [], rest)) (placed-is close c h.0 h.1)
placed_connections-reads k (c ∷ d ∷ cs) ts close rest h some low =
    let tail = h.2 ++ token_of classes.RightParen close ∷ rest in
    ap (λ f. placed_connections k (f ++ token_of classes.RightParen close ∷ rest)) h.5
    ∙ ap (placed_connections k) (append_assoc h.1 (token_of classes.Comma h.0 ∷ h.2) (token_of classes.RightParen close ∷ rest))
    ∙ bound (placed_start k) (repeat (placed_turn k)) closing_of (h.1 ++ token_of classes.Comma h.0 ∷ tail)
    ∙ ap (λ w. followed w closing_of) (placed-started k c.actual h.1 (token_of classes.Comma h.0 ∷ tail) h.3.2 (omega (arith, low)) refl h.0 tail refl
    ∙ ap (λ c. repeat (placed_turn k) (record { ended = c ∷ []; last = None }) tail) (placed-is h.0 c h.3.0 h.3.1))
    ∙ placed-loop k (d ∷ cs) (c ∷ []) h.2 close rest h.4 (omega (arith, low))

-- Instances

-- what connections by position begin with
starts_placed : Option Class → Bool
starts_placed (Some classes.Comma) = true
starts_placed class = leads class

actual-starts : (a : Option SourceExpression) (ts tail : List SourceToken) → SpellsActual a ts → (a ≡ None → starts_placed (next_class tail) ≡ true) → starts_placed (next_class (ts ++ tail)) ≡ true
unfolding starts_placed
actual-starts None ts tail h e = ap (λ f. starts_placed (next_class (f ++ tail))) h ∙ e refl
actual-starts (Some x) ts tail h e = by (next_class (ts ++ tail)) (expression-first x ts tail h)
  where
    by : (class : Option Class) → leads class ≡ true → starts_placed class ≡ true
    by (Some classes.Comma) l = refl
    by _ l = l

placed-starts : (close : SourcePlace) (cs : List SourceConnection) (ts tail : List SourceToken) → SpellsPlacedConnections close cs ts → 0 < length ts → starts_placed (next_class (ts ++ tail)) ≡ true
unfolding starts_placed
placed-starts close [] ts tail h some = absurd h
placed-starts close (c ∷ []) ts tail h some = actual-starts c.actual ts tail h.2 (λ e. absurd (let p : length ts ≡ 0 = ap length (subst (λ a. SpellsActual a ts) e h.2) in omega (arith, p, some)))
placed-starts close (c ∷ d ∷ cs) ts tail h some =
    ap (λ f. starts_placed (next_class (f ++ tail))) h.5 ∙ ap (λ f. starts_placed (next_class f)) (append_assoc h.1 (token_of classes.Comma h.0 ∷ h.2) tail)
    ∙ actual-starts c.actual h.1 (token_of classes.Comma h.0 ∷ (h.2 ++ tail)) h.3.2 (λ e. refl)

connections_by-placed : (k : ℕ) (class : Option Class) (tokens : List SourceToken) → starts_placed class ≡ true → connections_by k class tokens ≡ placed_connections k tokens
unfolding starts_placed
connections_by-placed k (Some classes.Dot) tokens h = absurd (let p : false ≡ true = h in cc)
connections_by-placed k (Some classes.RightParen) tokens h = absurd (let p : false ≡ true = h in cc)
connections_by-placed k _ tokens h = refl

pub connections-reads : (k : ℕ) (cs : List SourceConnection) (ts : List SourceToken) (close : SourcePlace) (rest : List SourceToken) → SpellsConnected close cs ts
    → greatest connection_height cs ≤ k → connections k (ts ++ token_of classes.RightParen close ∷ rest) ≡ Ok (cs, rest)
unfolding connections
connections-reads k cs ts close rest (inl h) low =
    ap (λ f. connections k (f ++ token_of classes.RightParen close ∷ rest)) h.1 ∙ ap (λ cs. Ok (cs, rest)) (sym h.0)
connections-reads k cs ts close rest (inr (some, inl h)) low =
    ap (λ c. connections_by k c (ts ++ token_of classes.RightParen close ∷ rest)) (named_connections-first cs ts (token_of classes.RightParen close ∷ rest) h)
    ∙ named_connections-reads k cs ts close rest h low
connections-reads k cs ts close rest (inr (some, inr h)) low =
    connections_by-placed k (next_class (ts ++ token_of classes.RightParen close ∷ rest)) (ts ++ token_of classes.RightParen close ∷ rest)
    (placed-starts close cs ts (token_of classes.RightParen close ∷ rest) h some)
    ∙ placed_connections-reads k cs ts close rest h some low

pub inst-reads : (k : ℕ) (i : SourceInstance) (ts rest : List SourceToken) → SpellsInstance i ts → instance_height i ≤ k → Closes (next_class rest) → inst k (ts ++ rest) ≡ Ok (i, rest)
unfolding inst
inst-reads k i ts rest h low c =
    let back = h.3 ++ token_of classes.RightParen h.2 ∷ rest in
    ap (λ f. inst k (f ++ rest)) h.5
    ∙ ap (λ f. inst k (name_token i.name i.place ∷ token_of classes.LeftParen h.1 ∷ f)) (append_assoc h.3 (token_of classes.RightParen h.2 ∷ []) rest)
    ∙ rw (name-reads i.name i.place (token_of classes.LeftParen h.1 ∷ back) h.0, connections-reads k i.connections h.3 h.2 rest h.4 low) refl

-- What an instance gives its parameters

abbrev GivenExpression : SourceConnection → List SourceToken → Type 0
GivenExpression c ts = (e : SourceExpression) × (record { name = None; place = place_of_expression e; actual = Some e } ≡ c) × SpellsExpression e ts

given-one : (place : SourcePlace) (c : SourceConnection) (ts : List SourceToken) → IsGiven c → SpellsPlacedConnection place c ts → GivenExpression c ts
given-one place c ts g s =
    (g.0, ap (placed place) (sym g.1) ∙ placed-is place c s.0 s.1, subst (λ a. SpellsActual a ts) g.1 s.2)

given-list : (close : SourcePlace) (cs : List SourceConnection) (ts : List SourceToken) → AreGiven cs → SpellsPlacedConnections close cs ts → SpellsList GivenExpression classes.Comma cs ts
given-list close [] ts g h = absurd h
given-list close (c ∷ []) ts g h = (ts, [], given-one close c ts g.0 h, refl, sym (append-nil ts))
given-list close (c ∷ d ∷ cs) ts g h =
    let rest = given-list close (d ∷ cs) h.2 g.1 h.4 in
    (h.1, token_of classes.Comma h.0 ∷ h.2, given-one h.0 c h.1 g.0 h.3, (h.0, rest.0, rest.1, rest.2, rest.3, ap (λ f. token_of classes.Comma h.0 ∷ f) rest.4), h.5)

given_expression-reads : (k : ℕ) (c : SourceConnection) (ts rest : List SourceToken) → GivenExpression c ts → connection_height c ≤ k → Closes (next_class rest) →
    given_expression k (ts ++ rest) ≡ Ok (c, rest)
unfolding given_expression
given_expression-reads k c ts rest h low ends =
    let fits : height_of h.0 ≤ k = let same : connection_height c ≡ height_of h.0 = ap connection_height (sym h.1) in omega (arith, same, low) in
    ap (λ w. followed w (λ e. give (record { name = None; place = place_of_expression e; actual = Some e }))) (expression-reads k h.0 ts rest h.2 fits (closer-ends (next_class rest) ends))
    ∙ ap (λ c. Ok (c, rest)) h.1

given_expressions-reads : (k : ℕ) (cs : List SourceConnection) (ts : List SourceToken) (close : SourcePlace) (rest : List SourceToken) → SpellsList GivenExpression classes.Comma cs ts
    → greatest connection_height cs ≤ k → given_expressions k (ts ++ token_of classes.RightParen close ∷ rest) ≡ Ok (cs, rest)
unfolding given_expressions
given_expressions-reads k cs ts close rest h low =
    let read = separated-reads (given_expression k) GivenExpression (ConnectionWithin k) Closes classes.Comma refl (given_expression-reads k) cs ts (token_of classes.RightParen close ∷ rest) h
    (each-fits connection_height k cs low) refl refl in
    rw read refl

some_actual-reads : (k : ℕ) (a : Option SourceExpression) (e : SourceExpression) (ts : List SourceToken) (close : SourcePlace) (rest : List SourceToken) → a ≡ Some e → SpellsActual a ts
    → height_if_there height_of a ≤ k → some_actual k (ts ++ token_of classes.RightParen close ∷ rest) ≡ Ok (a, token_of classes.RightParen close ∷ rest)
unfolding some_actual
some_actual-reads k a e ts close rest is h low =
    let fits : height_of e ≤ k = let same : height_if_there height_of a ≡ height_of e = ap (height_if_there height_of) is in omega (arith, same, low) in
    ap (λ w. followed w (λ e. give (Some e))) (expression-reads k e ts (token_of classes.RightParen close ∷ rest) (subst (λ a. SpellsActual a ts) is h) fits (omega arith))
    ∙ ap (λ a. Ok (a, token_of classes.RightParen close ∷ rest)) (sym is)

abbrev GivenConnection : SourceConnection → List SourceToken → Type 0
GivenConnection c ts = IsGiven c × SpellsNamedConnection c ts

given-behind : (cs : List SourceConnection) (ts : List SourceToken) → AreGiven cs → SpellsBehind SpellsNamedConnection classes.Comma cs ts → SpellsBehind GivenConnection classes.Comma cs ts
given-behind [] ts g h = h
given-behind (c ∷ cs) ts g h = (h.0, h.1, h.2, (g.0, h.3), given-behind cs h.2 g.1 h.4, h.5)

given-names : (cs : List SourceConnection) (ts : List SourceToken) → AreGiven cs → SpellsList SpellsNamedConnection classes.Comma cs ts → SpellsList GivenConnection classes.Comma cs ts
given-names [] ts g h = absurd h
given-names (c ∷ cs) ts g h = (h.0, h.1, (g.0, h.2), given-behind cs h.1 g.1 h.3, h.4)

given_names-read : (k : ℕ) (cs : List SourceConnection) (ts : List SourceToken) (close : SourcePlace) (rest : List SourceToken) → SpellsList GivenConnection classes.Comma cs ts
    → greatest connection_height cs ≤ k → named_connections (some_actual k) (ts ++ token_of classes.RightParen close ∷ rest) ≡ Ok (cs, rest)
unfolding named_connections
given_names-read k cs ts close rest h low =
    let read = separated-reads (connection (some_actual k)) GivenConnection (ConnectionWithin k) Any classes.Comma tt
    (λ c ts rest s f e. connection-reads (some_actual k) c ts rest s.1 (some_actual-reads k c.actual s.0.0 s.1.6 s.1.5 rest s.0.1 s.1.7 f))
    cs ts (token_of classes.RightParen close ∷ rest) h (each-fits connection_height k cs low) tt refl in
    rw read refl

given_inside-leads : (k : ℕ) (class : Option Class) (tokens : List SourceToken) → leads class ≡ true → given_inside k class tokens ≡ given_expressions k tokens
given_inside-leads k (Some classes.Dot) tokens h = absurd (let p : false ≡ true = h in cc)
given_inside-leads k _ tokens h = refl

given_list-first : (cs : List SourceConnection) (ts rest : List SourceToken) → SpellsList GivenExpression classes.Comma cs ts → leads (next_class (ts ++ rest)) ≡ true
given_list-first [] ts rest h = absurd h
given_list-first (c ∷ cs) ts rest h =
    ap (λ f. leads (next_class (f ++ rest))) h.4 ∙ ap (λ f. leads (next_class f)) (append_assoc h.0 h.1 rest) ∙ expression-first h.2.0 h.0 (h.1 ++ rest) h.2.2

given_inside-reads : (k : ℕ) (cs : List SourceConnection) (ts : List SourceToken) (close : SourcePlace) (rest : List SourceToken) → AreGiven cs → SpellsConnections close cs ts
    → greatest connection_height cs ≤ k → given_inside k (next_class (ts ++ token_of classes.RightParen close ∷ rest)) (ts ++ token_of classes.RightParen close ∷ rest) ≡ Ok (cs, rest)
given_inside-reads k cs ts close rest g (inl h) low =
    ap (λ c. given_inside k c (ts ++ token_of classes.RightParen close ∷ rest)) (named_connections-first cs ts (token_of classes.RightParen close ∷ rest) h)
    ∙ given_names-read k cs ts close rest (given-names cs ts g h) low
given_inside-reads k cs ts close rest g (inr h) low =
    given_inside-leads k (next_class (ts ++ token_of classes.RightParen close ∷ rest)) (ts ++ token_of classes.RightParen close ∷ rest)
    (given_list-first cs ts (token_of classes.RightParen close ∷ rest) (given-list close cs ts g h))
    ∙ given_expressions-reads k cs ts close rest (given-list close cs ts g h) low

pub given-reads : (k : ℕ) (cs : List SourceConnection) (ts rest : List SourceToken) → SpellsGiven cs ts → greatest connection_height cs ≤ k → (next_class rest ≡ Some classes.Hash → ⊥) →
    given k (ts ++ rest) ≡ Ok (cs, rest)
unfolding given
given-reads k [] ts rest h low other = ap (λ f. given k (f ++ rest)) h ∙ none (next_class rest) other
  where
    none : (class : Option Class) → (class ≡ Some classes.Hash → ⊥) → given_by k class rest ≡ Ok ([], rest)
    none (Some classes.Hash) h = absurd (h refl)
    none _ h = refl
given-reads k (c ∷ cs) ts rest h low other =
    ap (λ f. given k (f ++ rest)) h.6
    ∙ ap (λ f. given k (token_of classes.Hash h.0 ∷ token_of classes.LeftParen h.1 ∷ f)) (append_assoc h.3 (token_of classes.RightParen h.2 ∷ []) rest)
    ∙ given_inside-reads k (c ∷ cs) h.3 h.2 rest h.4 h.5 low
