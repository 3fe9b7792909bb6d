-- What the turns of loops over groups, connections by position, items and modules read.
use Rattle.std.proofs.Common.{◌≡◌, ℕ, ◌<◌, Bool, true, false, List, [], ◌∷◌, ◌++◌, length, Option, Some, None, Ok, Err, refl, sym, ◌∙◌, ap, subst, arith, length-append}
use Rattle.std.specs.Prelude.{◌==◌}
use Rattle.std.proofs.lemmas.Bool.{eqb-true}
use Rattle.vf_base.specs.Base.{SourcePlace}
use Rattle.v_tree.specs.Tokens.{SourceToken}
use Rattle.v_tree.specs.declared.item.Direction.{Direction}
use Rattle.v_tree.specs.Trees.{SourceExpression, SourceConnection, SourceParameters, SourcePorts, DeclaredHeads, SourceItem, SourceModule}
use Rattle.v_readers.specs.declared.class.Class.{Class}
use Rattle.v_readers.specs.declared.class.Class.TheVariants as classes
use Rattle.v_readers.specs.declared.stop.Stop.{Stop}
use Rattle.v_readers.specs.ClassLaws.{same_class-true}
use Rattle.v_readers.specs.Reading.{Reading, Reader, followed, ◌>>=◌, give, by_class, next_class, is_class, place_of, expect, step, end, repeat}
use Rattle.v_readers.specs.Exact.{Found, Tells}
use Rattle.v_readers.specs.Reads.{turn-is, last-is, stop-is, Fails-through, Fails-followed}
use Rattle.v_readers.specs.Given.{Fails}
use Rattle.v_expr.specs.Spelling.{SpellsExpression}
use Rattle.v_expr.specs.Expressions.{expression}
use Rattle.v_expr.specs.ExpressionExact.{Within}
use Rattle.v_expr.specs.PartLaws.{expression-within}
use Rattle.v_parse.specs.Items.{with_last, groups_by, group_by, groups_turn, ports_by, port_by, ports_turn, port, declared_ports, some_actual, Placed, placed, start_by, placed_start, placed_by}
use Rattle.v_parse.specs.Items.{placed_turn, placed_connections, item, items_by, items_turn, module_reader, modules_turn, unit_reader}
use Rattle.v_parse.specs.Rows.{port_groups, first_by, first_position, position_by, position}
use Rattle.v_parse.specs.ConnectionExact.{expression-tokens}
use Rattle.v_parse.specs.ConnectionReads.{bound}
use Rattle.v_parse.specs.DeclarationReads.{with_last-append, groups_last, ports_last}

-- Loops whose turns begin with a comma

module _ {S : Type 0} (turn : S → Reader (Option S)) (more : S → Reader (Option S))
    (goes : (s : S) (tokens : List SourceToken) → is_class classes.Comma (next_class tokens) ≡ true → turn s tokens ≡ followed (step tokens) (λ comma. more s)) where
  turn-more : (s : S) (tokens between : List SourceToken) (place : SourcePlace) → is_class classes.Comma (next_class tokens) ≡ true → step tokens ≡ Ok (place, between) → turn s tokens ≡ more s between
  turn-more s tokens between place h e = goes s tokens h ∙ ap (λ w. followed w (λ comma. more s)) e

  next-turn : (s t : S) (tokens between after : List SourceToken) (place : SourcePlace) → is_class classes.Comma (next_class tokens) ≡ true → step tokens ≡ Ok (place, between)
      → more s between ≡ Ok (Some t, after) → length after < length tokens → repeat turn s tokens ≡ repeat turn t after
  next-turn s t tokens between after place h e read less = turn-is turn s t tokens after (turn-more s tokens between place h e ∙ read) less

  failed-turn : (s : S) (tokens between : List SourceToken) (place : SourcePlace) (stop : Stop) → is_class classes.Comma (next_class tokens) ≡ true → step tokens ≡ Ok (place, between)
      → Fails stop (more s between) → Fails stop (repeat turn s tokens)
  failed-turn s tokens between place stop h e fails =
      Fails-through stop (more s between) (repeat turn s tokens) (λ w f. stop-is turn s tokens w (turn-more s tokens between place h e ∙ f)) fails

-- Groups of parameters

groups-goes : (k : ℕ) (gs : List SourceParameters) (tokens : List SourceToken) → is_class classes.Comma (next_class tokens) ≡ true →
    groups_turn k gs tokens ≡ followed (step tokens) (λ comma. by_class (group_by k gs))
groups-goes k gs tokens h = by (next_class tokens) h
  where
    by : (class : Option Class) → is_class classes.Comma class ≡ true → groups_by k gs class tokens ≡ followed (step tokens) (λ comma. by_class (group_by k gs))
    by None e = absurd (let p : false ≡ true = e in cc)
    by (Some class) e = ap (λ (c : Class). groups_by k gs (Some c) tokens) (sym (same_class-true classes.Comma class e))

pub groups-next : (k : ℕ) (gs hs : List SourceParameters) (tokens between after : List SourceToken) (place : SourcePlace) → is_class classes.Comma (next_class tokens) ≡ true →
    step tokens ≡ Ok (place, between)
    → by_class (group_by k gs) between ≡ Ok (Some hs, after) → length after < length tokens → repeat (groups_turn k) gs tokens ≡ repeat (groups_turn k) hs after
groups-next k = next-turn (groups_turn k) (λ gs. by_class (group_by k gs)) (groups-goes k)

pub groups-fail : (k : ℕ) (gs : List SourceParameters) (tokens between : List SourceToken) (place : SourcePlace) (stop : Stop) → is_class classes.Comma (next_class tokens) ≡ true →
    step tokens ≡ Ok (place, between)
    → Fails stop (by_class (group_by k gs) between) → Fails stop (repeat (groups_turn k) gs tokens)
groups-fail k = failed-turn (groups_turn k) (λ gs. by_class (group_by k gs)) (groups-goes k)

pub groups-end : (k : ℕ) (gs : List SourceParameters) (tokens : List SourceToken) → is_class classes.Comma (next_class tokens) ≡ false → repeat (groups_turn k) gs tokens ≡ Ok (gs, tokens)
groups-end k gs tokens h = last-is (groups_turn k) gs tokens (groups_last k gs tokens h)

-- one more element of the last group
pub added : {G P : Type 0} (add : G → P → G) (done : List G) (g : G) (p : P) → with_last add (done ++ g ∷ []) p ≡ done ++ add g p ∷ []
added add done g p = with_last-append add done g p

-- Groups of ports

ports-goes : (k : ℕ) (gs : List SourcePorts) (tokens : List SourceToken) → is_class classes.Comma (next_class tokens) ≡ true →
    ports_turn k gs tokens ≡ followed (step tokens) (λ comma. by_class (port_by k gs))
ports-goes k gs tokens h = by (next_class tokens) h
  where
    by : (class : Option Class) → is_class classes.Comma class ≡ true → ports_by k gs class tokens ≡ followed (step tokens) (λ comma. by_class (port_by k gs))
    by None e = absurd (let p : false ≡ true = e in cc)
    by (Some class) e = ap (λ (c : Class). ports_by k gs (Some c) tokens) (sym (same_class-true classes.Comma class e))

pub ports-next : (k : ℕ) (gs hs : List SourcePorts) (tokens between after : List SourceToken) (place : SourcePlace) → is_class classes.Comma (next_class tokens) ≡ true →
    step tokens ≡ Ok (place, between)
    → by_class (port_by k gs) between ≡ Ok (Some hs, after) → length after < length tokens → repeat (ports_turn k) gs tokens ≡ repeat (ports_turn k) hs after
ports-next k = next-turn (ports_turn k) (λ gs. by_class (port_by k gs)) (ports-goes k)

pub ports-fail : (k : ℕ) (gs : List SourcePorts) (tokens between : List SourceToken) (place : SourcePlace) (stop : Stop) → is_class classes.Comma (next_class tokens) ≡ true →
    step tokens ≡ Ok (place, between)
    → Fails stop (by_class (port_by k gs) between) → Fails stop (repeat (ports_turn k) gs tokens)
ports-fail k = failed-turn (ports_turn k) (λ gs. by_class (port_by k gs)) (ports-goes k)

pub ports-end : (k : ℕ) (gs : List SourcePorts) (tokens : List SourceToken) → is_class classes.Comma (next_class tokens) ≡ false → repeat (ports_turn k) gs tokens ≡ Ok (gs, tokens)
ports-end k gs tokens h = last-is (ports_turn k) gs tokens (ports_last k gs tokens h)

-- declared ports are their groups and the closing parenthesis
pub declared_ports_are : (k : ℕ) (direction : Direction) (tokens : List SourceToken)
    → declared_ports k direction tokens ≡ followed (port_groups k direction tokens) (λ ps. expect classes.RightParen >>= λ closing. give (DeclaredHeads ps))
unfolding declared_ports port_groups
declared_ports_are k direction tokens = bound (port k direction) (λ p. repeat (ports_turn k) (p ∷ [])) (λ ps. expect classes.RightParen >>= λ closing. give (DeclaredHeads ps)) tokens

-- Connections by position

-- the closing parenthesis, and the connection that it ends
abbrev pub to_closing : Placed → Reader (List SourceConnection)
to_closing t = expect classes.RightParen >>= λ closing. give (t.ended ++ placed closing t.last ∷ [])

-- an expression that is read has a token
pub expression-passes : (k : ℕ) (tokens : List SourceToken) (e : SourceExpression) (rest : List SourceToken) → expression k tokens ≡ Ok (e, rest) → length rest < length tokens
expression-passes k tokens e rest h =
    let found : Found expression k SpellsExpression (Within k) tokens e rest = subst (Tells expression k SpellsExpression (Within k) tokens) h ((expression-within {C = Unit {0}} k).tells tt tokens) in
    omega (arith, ap length found.whole, length-append found.front rest, expression-tokens e found.front found.spelled)

-- what stands behind a comma, and then the turns
module _ (k : ℕ) (ended : List SourceConnection) (tokens : List SourceToken) where
  abbrev begun : Option SourceExpression → Placed
  begun a = record { ended = ended; last = a }

  some-read : (r : Reading SourceExpression) → expression k tokens ≡ r → placed_turn k (begun None) tokens ≡ followed r (λ e. give (Some (begun (Some e))))
      → repeat (placed_turn k) (begun None) tokens ≡ followed (followed r (λ e. give (Some e))) (λ a. repeat (placed_turn k) (begun a))
  some-read (Ok x) h turn = turn-is (placed_turn k) (begun None) (begun (Some x.0)) tokens x.1 turn (expression-passes k tokens x.0 x.1 h)
  some-read (Err stop) h turn = stop-is (placed_turn k) (begun None) tokens stop turn

  position-by : (class : Option Class) → next_class tokens ≡ class → repeat (placed_turn k) (begun None) tokens ≡ followed (position_by k class tokens) (λ a. repeat (placed_turn k) (begun a))
  unfolding some_actual
  position-by (Some classes.Comma) c = refl
  position-by (Some classes.RightParen) c = refl
  position-by _ c = some-read (expression k tokens) refl (ap (λ w. placed_by k (begun None) w tokens) c)

  position-is : repeat (placed_turn k) (begun None) tokens ≡ followed (position k tokens) (λ a. repeat (placed_turn k) (begun a))
  unfolding position
  position-is = position-by (next_class tokens) refl

-- what stands first, and then the turns
module _ (k : ℕ) where
  first-read : (r : Reading SourceExpression)
      → followed (followed r (λ e. give (record { ended = []; last = Some e }))) (λ s. repeat (placed_turn k) s)
      ≡ followed (followed r (λ e. give (Some e))) (λ a. repeat (placed_turn k) (begun k [] [] a))
  first-read (Ok x) = refl
  first-read (Err stop) = refl

  first-by : (tokens : List SourceToken) (class : Option Class) → next_class tokens ≡ class
      → followed (start_by k class tokens) (λ s. repeat (placed_turn k) s) ≡ followed (first_by k class tokens) (λ a. repeat (placed_turn k) (begun k [] [] a))
  unfolding some_actual
  first-by [] (Some classes.Comma) c = absurd (let p : None ≡ Some classes.Comma = c in cc)
  first-by (t ∷ ts) (Some classes.Comma) c =
      sym (turn-is (placed_turn k) (begun k [] [] None) (begun k (placed (place_of t) None ∷ []) [] None) (t ∷ ts) ts (ap (λ w. placed_by k (begun k [] [] None) w (t ∷ ts)) c) (omega arith))
  first-by tokens _ c = first-read (expression k tokens)

  placed-is : (tokens : List SourceToken) → placed_connections k tokens ≡ followed (followed (first_position k tokens) (λ a. repeat (placed_turn k) (begun k [] [] a))) to_closing
  unfolding placed_connections placed_start first_position
  placed-is tokens =
      bound (placed_start k) (λ s. repeat (placed_turn k) s) to_closing tokens ∙ ap (λ w. followed w to_closing) (first-by tokens (next_class tokens) refl)

-- whether a comma or the closing parenthesis stands where nothing is connected
abbrev pub is_ended : Option SourceExpression → Option Class → Bool
is_ended (Some e) class = true
is_ended None (Some classes.Comma) = true
is_ended None (Some classes.RightParen) = true
is_ended None _ = false

some-not-none : (r : Reading SourceExpression) (rest : List SourceToken) → followed r (λ e. give (Some e)) ≡ Ok (None, rest) → ⊥
some-not-none (Ok x) rest h =
    let u : Option SourceExpression × List SourceToken = (Some x.0, x.1) in
    let v : Option SourceExpression × List SourceToken = (None, rest) in
    let p : ◌≡◌ {A = Reading (Option SourceExpression)} (Ok u) (Ok v) = h in
    let q : u ≡ v = cc in
    let e : Some x.0 ≡ None = ap (λ (z : Option SourceExpression × List SourceToken). z.0) q in cc
some-not-none (Err stop) rest h =
    let v : Option SourceExpression × List SourceToken = (None, rest) in
    let p : ◌≡◌ {A = Reading (Option SourceExpression)} (Err stop) (Ok v) = h in cc

give-rest : (tokens rest : List SourceToken) → ◌≡◌ {A = Reading (Option SourceExpression)} (Ok (None, tokens)) (Ok (None, rest)) → tokens ≡ rest
give-rest tokens rest h =
    let u : Option SourceExpression × List SourceToken = (None, tokens) in
    let v : Option SourceExpression × List SourceToken = (None, rest) in
    let p : ◌≡◌ {A = Reading (Option SourceExpression)} (Ok u) (Ok v) = h in
    let q : u ≡ v = cc in
    ap (λ (z : Option SourceExpression × List SourceToken). z.1) q

ended-there : (tokens rest : List SourceToken) (class : Option Class) → next_class tokens ≡ class → is_ended None class ≡ true →
    ◌≡◌ {A = Reading (Option SourceExpression)} (Ok (None, tokens)) (Ok (None, rest))
    → is_ended None (next_class rest) ≡ true
ended-there tokens rest class c e h = ap (λ ts. is_ended None (next_class ts)) (sym (give-rest tokens rest h)) ∙ ap (is_ended None) c ∙ e

module _ (k : ℕ) (tokens rest : List SourceToken) where
  first-none : (class : Option Class) → next_class tokens ≡ class → first_by k class tokens ≡ Ok (None, rest) → is_ended None (next_class rest) ≡ true
  unfolding some_actual
  first-none (Some classes.Comma) c h = ended-there tokens rest (Some classes.Comma) c refl h
  first-none _ c h = absurd (some-not-none (expression k tokens) rest h)

  position-none : (class : Option Class) → next_class tokens ≡ class → position_by k class tokens ≡ Ok (None, rest) → is_ended None (next_class rest) ≡ true
  unfolding some_actual
  position-none (Some classes.Comma) c h = ended-there tokens rest (Some classes.Comma) c refl h
  position-none (Some classes.RightParen) c h = ended-there tokens rest (Some classes.RightParen) c refl h
  position-none _ c h = absurd (some-not-none (expression k tokens) rest h)

  pub first-ended : (a : Option SourceExpression) → first_position k tokens ≡ Ok (a, rest) → is_ended a (next_class rest) ≡ true
  unfolding first_position
  first-ended (Some e) h = refl
  first-ended None h = first-none (next_class tokens) refl h

  pub position-ended : (a : Option SourceExpression) → position k tokens ≡ Ok (a, rest) → is_ended a (next_class rest) ≡ true
  unfolding position
  position-ended (Some e) h = refl
  position-ended None h = position-none (next_class tokens) refl h

module _ (k : ℕ) (ended : List SourceConnection) (last : Option SourceExpression) (tokens : List SourceToken) where
  comma-goes : is_class classes.Comma (next_class tokens) ≡ true
      → placed_turn k (record { ended = ended; last = last }) tokens ≡ followed (step tokens) (λ comma. give (Some (record { ended = ended ++ placed comma last ∷ []; last = None })))
  comma-goes h = by (next_class tokens) h
    where
      by : (class : Option Class) → is_class classes.Comma class ≡ true
          → placed_by k (record { ended = ended; last = last }) class tokens ≡ followed (step tokens) (λ comma. give (Some (record { ended = ended ++ placed comma last ∷ []; last = None })))
      by None e = absurd (let p : false ≡ true = e in cc)
      by (Some class) e = ap (λ (c : Class). placed_by k (record { ended = ended; last = last }) (Some c) tokens) (sym (same_class-true classes.Comma class e))

  comma-passed : (between : List SourceToken) (place : SourcePlace) → is_class classes.Comma (next_class tokens) ≡ true → step tokens ≡ Ok (place, between) → length between < length tokens
      → repeat (placed_turn k) (record { ended = ended; last = last }) tokens
      ≡ followed (position k between) (λ a. repeat (placed_turn k) (record { ended = ended ++ placed place last ∷ []; last = a }))
  comma-passed between place h e less =
      turn-is (placed_turn k) (record { ended = ended; last = last }) (record { ended = ended ++ placed place last ∷ []; last = None }) tokens between
      (comma-goes h ∙ ap (λ w. followed w (λ comma. give (Some (record { ended = ended ++ placed comma last ∷ []; last = None })))) e) less
      ∙ position-is k (ended ++ placed place last ∷ []) between

  pub placed-next : (between after : List SourceToken) (place : SourcePlace) (a : Option SourceExpression) → is_class classes.Comma (next_class tokens) ≡ true → step tokens ≡ Ok (place, between)
      → length between < length tokens → position k between ≡ Ok (a, after)
      → repeat (placed_turn k) (record { ended = ended; last = last }) tokens ≡ repeat (placed_turn k) (record { ended = ended ++ placed place last ∷ []; last = a }) after
  placed-next between after place a h e less read =
      comma-passed between place h e less ∙ ap (λ w. followed w (λ a. repeat (placed_turn k) (record { ended = ended ++ placed place last ∷ []; last = a }))) read

  pub placed-fail : (between : List SourceToken) (place : SourcePlace) (stop : Stop) → is_class classes.Comma (next_class tokens) ≡ true → step tokens ≡ Ok (place, between)
      → length between < length tokens → Fails stop (position k between) → Fails stop (followed (repeat (placed_turn k) (record { ended = ended; last = last }) tokens) to_closing)
  placed-fail between place stop h e less fails =
      let next : Option SourceExpression → Reader Placed = λ a. repeat (placed_turn k) (record { ended = ended ++ placed place last ∷ []; last = a }) in
      subst (λ w. Fails stop (followed w to_closing)) (sym (comma-passed between place h e less))
      (Fails-followed stop (followed (position k between) next) to_closing (Fails-followed stop (position k between) next fails))

  pub placed-end : is_class classes.Comma (next_class tokens) ≡ false → is_ended last (next_class tokens) ≡ true
      → repeat (placed_turn k) (record { ended = ended; last = last }) tokens ≡ Ok (record { ended = ended; last = last }, tokens)
  placed-end h e = last-is (placed_turn k) (record { ended = ended; last = last }) tokens (by last (next_class tokens) h e)
    where
      by : (a : Option SourceExpression) (class : Option Class) → is_class classes.Comma class ≡ false → is_ended a class ≡ true →
          placed_by k (record { ended = ended; last = a }) class tokens ≡ Ok (None, tokens)
      by a (Some classes.Comma) f g = absurd (let p : true ≡ false = f in cc)
      by a (Some classes.RightParen) f g = refl
      by (Some x) _ f g = refl
      by None _ f g = absurd (let p : false ≡ true = g in cc)

-- the beginning of connections by position
pub placed-begin : (k : ℕ) (tokens rest : List SourceToken) (a : Option SourceExpression) → first_position k tokens ≡ Ok (a, rest)
    → placed_connections k tokens ≡ followed (repeat (placed_turn k) (record { ended = []; last = a }) rest) to_closing
placed-begin k tokens rest a h =
    placed-is k tokens ∙ ap (λ w. followed (followed w (λ a. repeat (placed_turn k) (record { ended = []; last = a }))) to_closing) h

pub placed-begin_fail : (k : ℕ) (tokens : List SourceToken) (stop : Stop) → Fails stop (first_position k tokens) → Fails stop (placed_connections k tokens)
placed-begin_fail k tokens stop fails =
    let next : Option SourceExpression → Reader Placed = λ a. repeat (placed_turn k) (record { ended = []; last = a }) in
    subst (Fails stop) (sym (placed-is k tokens)) (Fails-followed stop (followed (first_position k tokens) next) to_closing (Fails-followed stop (first_position k tokens) next fails))

-- Items and modules

module _ (k : ℕ) (is : List SourceItem) (tokens : List SourceToken) where
  item-goes : is_class classes.EndModule (next_class tokens) ≡ false → items_turn k is tokens ≡ followed (item k tokens) (λ i. give (Some (is ++ i ∷ [])))
  item-goes h = by (next_class tokens) h
    where
      by : (class : Option Class) → is_class classes.EndModule class ≡ false → items_by k is class tokens ≡ followed (item k tokens) (λ i. give (Some (is ++ i ∷ [])))
      by (Some classes.EndModule) e = absurd (let p : true ≡ false = e in cc)
      by _ e = refl

  pub items-next : (i : SourceItem) (after : List SourceToken) → is_class classes.EndModule (next_class tokens) ≡ false → item k tokens ≡ Ok (i, after) → length after < length tokens
      → repeat (items_turn k) is tokens ≡ repeat (items_turn k) (is ++ i ∷ []) after
  items-next i after h read less = turn-is (items_turn k) is (is ++ i ∷ []) tokens after (item-goes h ∙ ap (λ w. followed w (λ i. give (Some (is ++ i ∷ [])))) read) less

  pub items-fail : (stop : Stop) → is_class classes.EndModule (next_class tokens) ≡ false → Fails stop (item k tokens) → Fails stop (repeat (items_turn k) is tokens)
  items-fail stop h fails = Fails-through stop (item k tokens) (repeat (items_turn k) is tokens)
      (λ w f. stop-is (items_turn k) is tokens w (item-goes h ∙ ap (λ w. followed w (λ i. give (Some (is ++ i ∷ [])))) f)) fails

  pub items-end : is_class classes.EndModule (next_class tokens) ≡ true → repeat (items_turn k) is tokens ≡ Ok (is, tokens)
  items-end h = last-is (items_turn k) is tokens (by (next_class tokens) h)
    where
      by : (class : Option Class) → is_class classes.EndModule class ≡ true → items_by k is class tokens ≡ Ok (None, tokens)
      by None e = absurd (let p : false ≡ true = e in cc)
      by (Some class) e = ap (λ (c : Class). items_by k is (Some c) tokens) (sym (same_class-true classes.EndModule class e))

module _ (k : ℕ) (ms : List SourceModule) where
  module-goes : (tokens : List SourceToken) → 0 < length tokens → modules_turn k ms tokens ≡ followed (module_reader k tokens) (λ m. give (Some (ms ++ m ∷ [])))
  module-goes [] h = absurd (let p : 0 < 0 = h in omega arith)
  module-goes (t ∷ ts) h = refl

  pub modules-next : (tokens : List SourceToken) (m : SourceModule) (after : List SourceToken) → module_reader k tokens ≡ Ok (m, after) → length after < length tokens
      → repeat (modules_turn k) ms tokens ≡ repeat (modules_turn k) (ms ++ m ∷ []) after
  modules-next tokens m after read less =
      turn-is (modules_turn k) ms (ms ++ m ∷ []) tokens after (module-goes tokens (omega (arith, less)) ∙ ap (λ w. followed w (λ m. give (Some (ms ++ m ∷ [])))) read) less

  pub modules-fail : (tokens : List SourceToken) (stop : Stop) → 0 < length tokens → Fails stop (module_reader k tokens) → Fails stop (repeat (modules_turn k) ms tokens)
  modules-fail tokens stop some fails = Fails-through stop (module_reader k tokens) (repeat (modules_turn k) ms tokens)
      (λ w f. stop-is (modules_turn k) ms tokens w (module-goes tokens some ∙ ap (λ w. followed w (λ m. give (Some (ms ++ m ∷ [])))) f)) fails

  pub modules-end : (tokens : List SourceToken) → length tokens ≡ 0 → repeat (modules_turn k) ms tokens ≡ Ok (ms, tokens)
  modules-end [] h = last-is (modules_turn k) ms [] refl
  modules-end (t ∷ ts) h = absurd (omega (arith, h))

-- the modules and the end of the text
pub unit-is : (k : ℕ) (tokens rest : List SourceToken) (ms : List SourceModule) → repeat (modules_turn k) [] tokens ≡ Ok (ms, rest) → length rest ≡ 0 →
    unit_reader k tokens ≡ Ok (record { modules = ms }, rest)
unfolding unit_reader
unit-is k tokens [] ms h e = ap (λ w. followed w (λ ms. end >>= λ nothing. give (record { modules = ms }))) h
unit-is k tokens (t ∷ ts) ms h e = absurd (omega (arith, e))

pub unit-fail : (k : ℕ) (tokens : List SourceToken) (stop : Stop) → Fails stop (repeat (modules_turn k) [] tokens) → Fails stop (unit_reader k tokens)
unfolding unit_reader
unit-fail k tokens stop fails = Fails-followed stop (repeat (modules_turn k) [] tokens) (λ ms. end >>= λ nothing. give (record { modules = ms })) fails

-- what the test of a list says
pub some-left : (tokens : List SourceToken) → (length tokens == 0) ≡ false → 0 < length tokens
some-left [] h = absurd (let p : true ≡ false = h in cc)
some-left (t ∷ ts) h = omega arith

pub none-left : (tokens : List SourceToken) → (length tokens == 0) ≡ true → length tokens ≡ 0
none-left tokens h = eqb-true (length tokens) 0 h
