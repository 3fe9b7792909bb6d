-- Reading statements is exact.
use Rattle.std.proofs.Common.{◌≡◌, ℕ, zero, suc, ◌+◌, ◌<◌, ◌≤◌, max, Bool, true, false, List, [], ◌∷◌, ◌++◌, length, Option, Some, None, refl, sym, ◌∙◌, ap, subst, arith, append_assoc}
use Rattle.std.proofs.Common.{length-append, ltb-false, inl}
use Rattle.std.specs.Prelude.{nat_lt, if◌then◌else◌}
use Rattle.vf_base.specs.Base.{SourcePlace}
use Rattle.four_value.specs.declared.operator.CaseKind.{CaseKind}
use Rattle.four_value.specs.declared.operator.CaseKind.TheVariants as kinds_of_case
use Rattle.v_tree.specs.declared.token.NumberForm.TheVariants.{Plain}
use Rattle.v_tree.specs.declared.token.TokenKind.{TokenKind}
use Rattle.v_tree.specs.declared.token.TokenKind.TheVariants as kinds
use Rattle.v_tree.specs.Tokens.{SourceToken}
use Rattle.v_tree.specs.Trees.{SourceExpression, Number, NoIndex, SourceTarget, OneSelect, JoinedSelects, OnAnyRead, SourceStatement, NullStatement, BlockStatement, IfStatement, IfElseStatement}
use Rattle.v_tree.specs.Trees.{CaseStatement, ForStatement, WhileStatement, RepeatStatement, ForeverStatement, WaitStatement, EventStatement, DelayStatement, BlockingStatement, NonblockingStatement}
use Rattle.v_tree.specs.Trees.{IgnoredTask, FinishTask, no_source_statements, no_source_items, otherwise, place_of_target, parts_of}
use Rattle.v_readers.specs.declared.class.Class.{Class}
use Rattle.v_readers.specs.declared.class.Class.TheVariants as classes
use Rattle.v_readers.specs.Classes.{class_of, is_fixed, token_at, token_of, name_token, IsName}
use Rattle.v_readers.specs.ClassLaws.{name-kind}
use Rattle.v_readers.specs.Reading.{◌>>=◌, give, wrong, place_of, by_class, expect, step, name_in, repeat}
use Rattle.v_readers.specs.Separated.{SpellsBehind, SpellsList}
use Rattle.v_readers.specs.Exact.{Language, Exact, behind, exact-bind, exact-under, exact-give, exact-weaken, exact-shift}
use Rattle.v_readers.specs.Branches.{nowhere, Some-of, Branch, branch, branch-wrong, branch-step, branch-down, branch-ready, exact-by_class, exact-after, exact-pass, is-fixed-token}
use Rattle.v_readers.specs.Repeat.{append-nil, Turn, TurnFits, exact-repeat}
use Rattle.v_readers.specs.SeparatedLaws.{exact-separated}
use Rattle.v_expr.specs.Spelling.{SpellsExpression, SpellsParts, SpellsMoreParts, SpellsTarget}
use Rattle.v_expr.specs.Heights.{height_of, heights_of, target_height}
use Rattle.v_expr.specs.ExpressionExact.{Below, parts-below}
use Rattle.v_stmt.specs.Spelling.{SpellsLabel, SpellsInnerDelay, SpellsTask, case_word, defaults_in, items_in, is_unfinished, SpellsStatement, SpellsBody, SpellsItems}
use Rattle.v_stmt.specs.Heights.{waits_height, delay_height, statement_height, body_height, items_height}
use Rattle.v_expr.specs.Parts.{inner_expression}
use Rattle.v_expr.specs.PartLaws.{inner_expression-exact, inner_target-exact, inner_delay-exact}
use Rattle.v_stmt.specs.Statements.{task, assigned, assignment_by, assignment, another, begins_statement, begins, body_by, body_turn, statements_list, block_body, block, condition, second_branch}
use Rattle.v_stmt.specs.Statements.{else_by, conditional, Looping, looped, forever, for_loop, event, delayed, CasePart, item_before, items_list, default_item, labelled_item, item_by, item, items_by}
use Rattle.v_stmt.specs.Statements.{items_turn, items, case, statement_by, below_of, statement}
use Rattle.v_stmt.specs.PartExact.{TargetBelow, DelayBelow, label-exact, colon-exact, a_name, a_name-is, a_select, waits-exact, assigned_delay-exact, condition-exact, head-exact, arguments-exact}

abbrev pub StatementWithin : ℕ → SourceStatement → Type 0
StatementWithin k s = statement_height s ≤ k

abbrev pub StatementBelow : ℕ → SourceStatement → Type 0
StatementBelow k s = statement_height s < k

abbrev null_token : SourceToken
null_token = token_of classes.Semicolon nowhere

abbrev zero_number : SourceExpression
zero_number = Number nowhere Plain []

abbrev zero_token : SourceToken
zero_token = token_at (kinds.Number [] Plain) nowhere

pub some-statement : {C : Type 0} {k : ℕ} → Some-of C SpellsStatement (StatementWithin k)
some-statement {C} {k} = ((NullStatement nowhere, null_token ∷ [], refl), λ c. (NullStatement nowhere, null_token ∷ [], refl, omega arith))

-- what the reader of statements one level down is
abbrev pub BelowExact : ℕ → Type 0
BelowExact k = Exact (0 < k) below_of k SpellsStatement (StatementBelow k)

-- What begins a statement

-- a statement begins with this token
abbrev Begun : SourceToken → Type 0
Begun t = (s : SourceStatement) × (ts : List SourceToken) × SpellsStatement s (t ∷ ts)

begun-fixed : (class : Class) → is_fixed class ≡ true → ((place : SourcePlace) → Begun (token_of class place)) → (t : SourceToken) → class_of t.kind ≡ class → Begun t
begun-fixed class fixed made t e = subst Begun (sym (is-fixed-token class fixed t e)) (made (place_of t))

in_parentheses : List SourceToken
in_parentheses = token_of classes.LeftParen nowhere ∷ zero_token ∷ token_of classes.RightParen nowhere ∷ null_token ∷ []

begun-case : (kind : CaseKind) (place : SourcePlace) → Begun (token_of (case_word kind) place)
begun-case kind place = (
  CaseStatement place kind zero_number (otherwise (NullStatement nowhere) no_source_items),
  token_of classes.LeftParen nowhere ∷ zero_token ∷ token_of classes.RightParen nowhere ∷ token_of classes.Default nowhere ∷ null_token ∷ token_of classes.EndCase nowhere ∷ [],
  (
    omega arith,
    omega arith,
    nowhere,
    nowhere,
    nowhere,
    zero_token ∷ [],
    token_of classes.Default nowhere ∷ null_token ∷ [],
    refl,
    (nowhere, [], null_token ∷ [], [], inl refl, refl, refl, refl),
    refl,
  ),
)

begun-name : (t : SourceToken) → class_of t.kind ≡ classes.Name → Begun t
begun-name t e =
    let is : t.kind ≡ kinds.Word (name_in t.kind) = name-kind t.kind e in
    let named : IsName (name_in t.kind) = sym (ap class_of is) ∙ e in
    let rest = token_of classes.Assign nowhere ∷ zero_token ∷ null_token ∷ [] in (
      BlockingStatement (place_of t) (OneSelect (record { place = place_of t; name = name_in t.kind; index = NoIndex })) None zero_number,
      rest,
      (
        refl,
        nowhere,
        nowhere,
        name_token (name_in t.kind) (place_of t) ∷ [],
        [],
        zero_token ∷ [],
        (named, [], refl, refl),
        refl,
        refl,
        ap (λ (kind : TokenKind). token_at kind (place_of t) ∷ rest) is,
      ),
    )

begun-task : (class : Class) (made : SourcePlace → SourceStatement) → ((place : SourcePlace) (ts : List SourceToken) → SpellsTask class place ts → SpellsStatement (made place) ts)
    → (t : SourceToken) → class_of t.kind ≡ class → Begun t
begun-task class made so t e = (made (place_of t), null_token ∷ [], so (place_of t) (t ∷ null_token ∷ []) (t, e, refl, nowhere, [], inl refl, refl))

begun : (class : Class) → begins_statement class ≡ true → (t : SourceToken) → class_of t.kind ≡ class → Begun t
unfolding in_parentheses
begun classes.Semicolon h = begun-fixed classes.Semicolon refl (λ place. (NullStatement place, [], refl))
begun classes.Begin h = begun-fixed classes.Begin refl (λ place. (BlockStatement place no_source_statements, token_of classes.End nowhere ∷ [], (nowhere, [], [], inl refl, refl, refl)))
begun classes.If h = begun-fixed classes.If refl (λ place.
    (IfStatement place zero_number (NullStatement nowhere), in_parentheses, (nowhere, nowhere, zero_token ∷ [], null_token ∷ [], refl, refl, refl)))
begun classes.Case h = begun-fixed classes.Case refl (begun-case kinds_of_case.Exact)
begun classes.CaseZ h = begun-fixed classes.CaseZ refl (begun-case kinds_of_case.IgnoreZ)
begun classes.CaseX h = begun-fixed classes.CaseX refl (begun-case kinds_of_case.IgnoreXz)
begun classes.For h = begun-fixed classes.For refl (λ place.
    let head = name_token a_name nowhere ∷ token_of classes.Assign nowhere ∷ zero_token ∷ [] in (
      ForStatement place (OneSelect a_select) zero_number zero_number (OneSelect a_select) zero_number (NullStatement nowhere),
      token_of classes.LeftParen nowhere ∷ (head ++ null_token ∷ zero_token ∷ null_token ∷ (head ++ token_of classes.RightParen nowhere ∷ null_token ∷ [])),
      (
        nowhere,
        nowhere,
        nowhere,
        nowhere,
        nowhere,
        nowhere,
        name_token a_name nowhere ∷ [],
        zero_token ∷ [],
        zero_token ∷ [],
        name_token a_name nowhere ∷ [],
        zero_token ∷ [],
        null_token ∷ [],
        (a_name-is, [], refl, refl),
        refl,
        refl,
        (a_name-is, [], refl, refl),
        refl,
        refl,
        refl,
      ),
    ))
begun classes.While h = begun-fixed classes.While refl (λ place.
    (WhileStatement place zero_number (NullStatement nowhere), in_parentheses, (nowhere, nowhere, zero_token ∷ [], null_token ∷ [], refl, refl, refl)))
begun classes.Repeat h = begun-fixed classes.Repeat refl (λ place.
    (RepeatStatement place zero_number (NullStatement nowhere), in_parentheses, (nowhere, nowhere, zero_token ∷ [], null_token ∷ [], refl, refl, refl)))
begun classes.Forever h = begun-fixed classes.Forever refl (λ place. (ForeverStatement place (NullStatement nowhere), null_token ∷ [], (null_token ∷ [], refl, refl)))
begun classes.Wait h = begun-fixed classes.Wait refl (λ place.
    (WaitStatement place zero_number (NullStatement nowhere), in_parentheses, (nowhere, nowhere, zero_token ∷ [], null_token ∷ [], refl, refl, refl)))
begun classes.At h = begun-fixed classes.At refl (λ place.
    (EventStatement place OnAnyRead (NullStatement nowhere), token_of classes.Star nowhere ∷ null_token ∷ [], (token_of classes.Star nowhere ∷ [], null_token ∷ [], inl (nowhere, refl), refl, refl)))
begun classes.Hash h = begun-fixed classes.Hash refl (λ place.
    (DelayStatement place zero_number (NullStatement nowhere), zero_token ∷ null_token ∷ [], (zero_token ∷ [], null_token ∷ [], inl refl, refl, refl)))
begun classes.Name h = begun-name
begun classes.LeftBrace h = begun-fixed classes.LeftBrace refl (λ place.
    let target = token_of classes.LeftBrace place ∷ name_token a_name nowhere ∷ token_of classes.RightBrace nowhere ∷ [] in (
      BlockingStatement place (JoinedSelects place (a_select ∷ [])) None zero_number,
      name_token a_name nowhere ∷ token_of classes.RightBrace nowhere ∷ token_of classes.Assign nowhere ∷ zero_token ∷ null_token ∷ [],
      (
        refl,
        nowhere,
        nowhere,
        target,
        [],
        zero_token ∷ [],
        (nowhere, name_token a_name nowhere ∷ [], (name_token a_name nowhere ∷ [], [], (a_name-is, [], refl, refl), refl, refl), refl),
        refl,
        refl,
        refl,
      ),
    ))
begun classes.IgnoredTask h = begun-task classes.IgnoredTask IgnoredTask (λ place ts s. s)
begun classes.FinishTask h = begun-task classes.FinishTask FinishTask (λ place ts s. s)
begun _ h = absurd (let p : false ≡ true = h in cc)

-- Lists

body-append : (ss : List SourceStatement) (front : List SourceToken) (s : SourceStatement) (inside : List SourceToken)
    → SpellsBody (statements_list ss) front → SpellsStatement s inside → SpellsBody (statements_list (ss ++ s ∷ [])) (front ++ inside)
body-append [] front s inside h g = (inside, [], g, refl, ap (λ f. f ++ inside) h ∙ sym (append-nil inside))
body-append (t ∷ ss) front s inside h g =
    (h.0, h.1 ++ inside, h.2, body-append ss h.1 s inside h.3 g, ap (λ f. f ++ inside) h.4 ∙ append_assoc h.0 h.1 inside)

body_height-append : (ss : List SourceStatement) (s : SourceStatement) (k : ℕ) → body_height (statements_list ss) ≤ k → statement_height s < k → body_height (statements_list (ss ++ s ∷ [])) ≤ k
body_height-append [] s k h g = omega arith
body_height-append (t ∷ ss) s k h g = let rest : body_height (statements_list (ss ++ s ∷ [])) ≤ k = body_height-append ss s k (omega arith) g in omega arith

-- a token in a list of tokens
some_within : (before : List SourceToken) (t : SourceToken) (after : List SourceToken) → 0 < length (before ++ t ∷ after)
some_within before t after = omega (arith, length-append before (t ∷ after))

pub some-tokens : (s : SourceStatement) (ts : List SourceToken) → SpellsStatement s ts → 0 < length ts
some-tokens (NullStatement place) ts h = omega (arith, ap length h)
some-tokens (BlockStatement place statements) ts h = omega (arith, ap length h.5)
some-tokens (IfStatement place condition first) ts h = omega (arith, ap length h.6)
some-tokens (IfElseStatement place condition first second) ts h = omega (arith, ap length h.10)
some-tokens (CaseStatement place kind value items) ts h = omega (arith, ap length h.9)
some-tokens (ForStatement place first_target first condition next_target next body) ts h = omega (arith, ap length h.18)
some-tokens (WhileStatement place condition body) ts h = omega (arith, ap length h.6)
some-tokens (RepeatStatement place count body) ts h = omega (arith, ap length h.6)
some-tokens (ForeverStatement place body) ts h = omega (arith, ap length h.2)
some-tokens (WaitStatement place condition body) ts h = omega (arith, ap length h.6)
some-tokens (EventStatement place waits body) ts h = omega (arith, ap length h.4)
some-tokens (DelayStatement place delay body) ts h = omega (arith, ap length h.4)
some-tokens (BlockingStatement place target delay value) ts h =
    subst (λ f. 0 < length f) (sym h.9) (some_within h.3 (token_of classes.Assign h.1) (h.4 ++ (h.5 ++ token_of classes.Semicolon h.2 ∷ [])))
some-tokens (NonblockingStatement place target delay value) ts h =
    subst (λ f. 0 < length f) (sym h.9) (some_within h.3 (token_of classes.LessEqual h.1) (h.4 ++ (h.5 ++ token_of classes.Semicolon h.2 ∷ [])))
some-tokens (IgnoredTask place) ts h = omega (arith, ap length h.6)
some-tokens (FinishTask place) ts h = omega (arith, ap length h.6)

-- Tasks and assignments

-- how a statement is made of its delay and its value
abbrev Assigning : Type 0
Assigning = Option SourceExpression → SourceExpression → SourceStatement

task-exact : {C : Type 0} {k : ℕ} (class : Class) → Exact C (λ m. task class) k (SpellsTask class) (λ place. Unit {0})
unfolding task
task-exact {C} {k} class =
    exact-bind named-exact (λ place front named.
    exact-bind arguments-exact (λ nothing inside spelled.
    exact-after classes.Semicolon refl (λ closing.
    exact-give place
    (named.0, named.1, named.2, closing, inside, spelled, ap (λ f. f ++ (inside ++ token_of classes.Semicolon closing ∷ [])) named.3)
    (λ c. tt))))
  where
    Named : Language SourcePlace
    Named place ts = (name : SourceToken) × (class_of name.kind ≡ class) × (place_of name ≡ place) × (ts ≡ name ∷ [])

    named-exact : Exact C (λ m. expect class) k (λ place ts. (name : SourceToken) × (class_of name.kind ≡ class) × (place_of name ≡ place) × (ts ≡ name ∷ [])) (λ place. Unit {0})
    named-exact = exact-bind (exact-pass class) (λ t front named. exact-give (place_of t) (t, named.0, refl, ap (λ f. f ++ []) named.1) (λ c. tt))

task-branch : {C : Type 0} {k : ℕ} {seen : Option Class} (class : Class) (made : SourcePlace → SourceStatement)
    → ((place : SourcePlace) (ts : List SourceToken) → SpellsTask class place ts → SpellsStatement (made place) ts)
    → ((place : SourcePlace) → statement_height (made place) ≤ 0) → Branch C (λ m. task class >>= λ place. give (made place)) k SpellsStatement (StatementWithin k) seen
task-branch class made so low = branch (exact-bind (task-exact class) (λ place front spelled.
    exact-give (made place) (so place (front ++ []) (subst (SpellsTask class place) (sym (append-nil front)) spelled)) (λ c. omega (arith, low place))))

module _ (k : ℕ) where
  -- these tokens spell what stands behind the sign of an assignment
  SpellsAssigned : Language (Option SourceExpression × SourceExpression)
  SpellsAssigned x ts =
      (end_place : SourcePlace) × (between after : List SourceToken) × SpellsInnerDelay x.0 between × SpellsExpression x.1 after
      × (ts ≡ between ++ (after ++ token_of classes.Semicolon end_place ∷ []))

  assigned-exact : Exact (0 < k) assigned k SpellsAssigned (λ x. DelayBelow k x.0 × Below k x.1)
  unfolding assigned SpellsAssigned
  assigned-exact =
      exact-bind (assigned_delay-exact k) (λ delay between delaying.
      exact-bind (exact-under (λ c. c.0) (inner_expression-exact k)) (λ value after spelled.
      exact-after classes.Semicolon refl (λ end_place.
      exact-give (delay, value) (end_place, between, after, delaying, spelled, refl) (λ c. (c.0.1, c.1)))))

  -- an assignment by its sign, behind a target that is spelled so
  assigned-branch : (t : SourceTarget) (before : List SourceToken) → SpellsTarget t before → (sign : Class) → is_fixed sign ≡ true → (made : Assigning)
      → ((delay : Option SourceExpression) (value : SourceExpression) (sign_place end_place : SourcePlace) (between after : List SourceToken) → SpellsInnerDelay delay between →
      SpellsExpression value after
      → SpellsStatement (made delay value) (before ++ token_of sign sign_place ∷ (between ++ (after ++ token_of classes.Semicolon end_place ∷ []))))
      → ((delay : Option SourceExpression) (value : SourceExpression) → statement_height (made delay value) ≡ suc (max (target_height t) (max (delay_height delay) (height_of value))))
      → Branch ((0 < k) × TargetBelow k t) (λ m. step >>= λ sign. assigned m >>= λ x. give (made x.0 x.1)) k (behind before SpellsStatement) (StatementWithin k) (Some sign)
  unfolding SpellsAssigned
  assigned-branch t before targeted sign fixed made so high = branch-step fixed (λ sign_place.
      exact-bind (exact-under (λ c. c.0) assigned-exact) (λ x front spelled.
      exact-give (made x.0 x.1)
      (subst (λ f. SpellsStatement (made x.0 x.1) (before ++ token_of sign sign_place ∷ f)) (sym (append-nil front ∙ spelled.5))
      (so x.0 x.1 sign_place spelled.0 spelled.1 spelled.2 spelled.3 spelled.4))
      (λ c.
      let first : target_height t < k = c.0.1 in
      let second : delay_height x.0 < k = c.1.0 in
      let third : height_of x.1 < k = c.1.1 in omega (arith, high x.0 x.1))))

  -- an assignment behind its target
  signed : (t : SourceTarget) (before : List SourceToken) → SpellsTarget t before
      → Exact ((0 < k) × TargetBelow k t) (λ m. by_class (assignment_by m t)) k (behind before SpellsStatement) (StatementWithin k)
  signed t before targeted = exact-by_class (λ m. assignment_by m t) some each
    where
      ending : List SourceToken
      ending = token_of classes.Assign nowhere ∷ zero_token ∷ null_token ∷ []

      some : Some-of ((0 < k) × TargetBelow k t) (behind before SpellsStatement) (StatementWithin k)
      some = (
        (
          BlockingStatement (place_of_target t) t None zero_number,
          token_of classes.Assign nowhere ∷ zero_token ∷ null_token ∷ [],
          (refl, nowhere, nowhere, before, [], zero_token ∷ [], targeted, refl, refl, refl),
        ),
        λ c. (
          BlockingStatement (place_of_target t) t None zero_number,
          token_of classes.Assign nowhere ∷ zero_token ∷ null_token ∷ [],
          (refl, nowhere, nowhere, before, [], zero_token ∷ [], targeted, refl, refl, refl),
          let low : target_height t < k = c.1 in omega arith,
        ),
      )

      each : (class : Option Class) → Branch ((0 < k) × TargetBelow k t) (λ m. assignment_by m t class) k (behind before SpellsStatement) (StatementWithin k) class
      each (Some classes.Assign) = assigned-branch t before targeted classes.Assign refl (BlockingStatement (place_of_target t) t)
          (λ delay value sign_place end_place between after d v. (refl, sign_place, end_place, before, between, after, targeted, d, v, refl)) (λ delay value. refl)
      each (Some classes.LessEqual) = assigned-branch t before targeted classes.LessEqual refl (NonblockingStatement (place_of_target t) t)
          (λ delay value sign_place end_place between after d v. (refl, sign_place, end_place, before, between, after, targeted, d, v, refl)) (λ delay value. refl)
      each _ = branch-wrong some

  assignment-branch : {C : Type 0} (class : Class) → begins_statement class ≡ true → Branch C (λ m. assignment m) k SpellsStatement (StatementWithin k) (Some class)
  unfolding assignment
  assignment-branch class begins = branch-ready 0 (begun class begins)
      (exact-bind (exact-under (λ c. c.1) (inner_target-exact k)) (λ t before targeted.
      exact-under (λ c. (c.0.1, c.1)) (signed t before targeted)))

-- Statements with statements in them

-- a list in a list that another list follows
regroup : (first : SourceToken) (inside : List SourceToken) (last : SourceToken) (after : List SourceToken)
    → (first ∷ (inside ++ last ∷ [])) ++ after ≡ first ∷ (inside ++ last ∷ after)
regroup first inside last after = ap (λ f. first ∷ f) (append_assoc inside (last ∷ []) after)

-- Items of a case behind others

items-append : (parts : List CasePart) (front : List SourceToken) (part : Option (List SourceExpression)) (s : SourceStatement) (back : List SourceToken)
    → SpellsItems (items_list parts) front → SpellsItems (item_before part s no_source_items) back → SpellsItems (items_list (parts ++ (part, s) ∷ [])) (front ++ back)
items-append [] front part s back h g = subst (λ f. SpellsItems (item_before part s no_source_items) (f ++ back)) (sym h) g
items-append ((Some labels, first) ∷ parts) front part s back h g = (
  h.0,
  h.1,
  h.2,
  h.3 ++ back,
  h.4,
  h.5,
  items-append parts h.3 part s back h.6 g,
  ap (λ f. f ++ back) h.7 ∙ append_assoc h.1 (token_of classes.Colon h.0 ∷ (h.2 ++ h.3)) back
      ∙ ap (λ f. h.1 ++ token_of classes.Colon h.0 ∷ f) (append_assoc h.2 h.3 back),
)
items-append ((None, first) ∷ parts) front part s back h g = (
  h.0,
  h.1,
  h.2,
  h.3 ++ back,
  h.4,
  h.5,
  items-append parts h.3 part s back h.6 g,
  ap (λ f. f ++ back) h.7
      ∙ ap (λ f. token_of classes.Default h.0 ∷ f) (append_assoc h.1 (h.2 ++ h.3) back ∙ ap (λ f. h.1 ++ f) (append_assoc h.2 h.3 back)),
)

items_in-append : (parts : List CasePart) (part : Option (List SourceExpression)) (s : SourceStatement) → 1 ≤ items_in (items_list (parts ++ (part, s) ∷ []))
items_in-append [] (Some labels) s = omega arith
items_in-append [] None s = omega arith
items_in-append ((Some labels, first) ∷ parts) part s = omega arith
items_in-append ((None, first) ∷ parts) part s = omega arith

pub defaults-append : (parts : List CasePart) (part : Option (List SourceExpression)) (s : SourceStatement)
    → defaults_in (items_list (parts ++ (part, s) ∷ [])) ≡ defaults_in (items_list parts) + defaults_in (item_before part s no_source_items)
defaults-append [] part s = omega arith
defaults-append ((Some labels, first) ∷ parts) part s = defaults-append parts part s
defaults-append ((None, first) ∷ parts) part s = omega (arith, defaults-append parts part s)

module _ (k : ℕ) (below : BelowExact k) where
  body_turn-exact : {C : Type 0} (body : List SourceStatement) (front : List SourceToken) → SpellsBody (statements_list body) front
      → Exact (C × (body_height (statements_list body) ≤ k)) (λ m. body_turn m (below_of m) body) k
      (Turn (λ ss ts. SpellsBody (statements_list ss) ts) body front) (TurnFits (λ ss. body_height (statements_list ss) ≤ k))
  body_turn-exact {C} body front here = exact-by_class (λ m. body_by m (below_of m) body) ((None, [], refl), λ c. (None, [], refl, tt)) each
    where
      N : Language (Option (List SourceStatement))
      N = Turn (λ ss ts. SpellsBody (statements_list ss) ts) body front

      G : Option (List SourceStatement) → Type 0
      G = TurnFits (λ ss. body_height (statements_list ss) ≤ k)

      one : (class : Class) → begins_statement class ≡ true
          → Branch (C × (body_height (statements_list body) ≤ k)) (λ m. another m (below_of m) body) k
          (Turn (λ ss ts. SpellsBody (statements_list ss) ts) body front) (TurnFits (λ ss. body_height (statements_list ss) ≤ k)) (Some class)
      one class b = branch-ready 0
          (λ t e. let s = begun class b t e in (Some (body ++ s.0 ∷ []), s.1, (body-append body front s.0 (t ∷ s.1) here s.2, omega arith)))
          (exact-bind (exact-under (λ c. c.1) below) (λ s inside spelled.
          exact-give (Some (body ++ s ∷ [])) (
            subst (λ f. SpellsBody (statements_list (body ++ s ∷ [])) (front ++ f)) (sym (append-nil inside)) (body-append body front s inside here spelled),
            subst (λ f. 0 < length f) (sym (append-nil inside)) (some-tokens s inside spelled),
          )
          (λ c. body_height-append body s k c.0.0.1 c.1)))

      by : (class : Class) (b : Bool) → begins_statement class ≡ b
          → Branch (C × (body_height (statements_list body) ≤ k)) (λ m. if b then another m (below_of m) body else give None) k
          (Turn (λ ss ts. SpellsBody (statements_list ss) ts) body front) (TurnFits (λ ss. body_height (statements_list ss) ≤ k)) (Some class)
      by class true e = one class e
      by class false e = branch (exact-give None refl (λ c. tt))

      each : (class : Option Class) → Branch (C × (body_height (statements_list body) ≤ k)) (λ m. body_by m (below_of m) body class) k
          (Turn (λ ss ts. SpellsBody (statements_list ss) ts) body front) (TurnFits (λ ss. body_height (statements_list ss) ≤ k)) class
      each None = branch (exact-give None refl (λ c. tt))
      each (Some class) = by class (begins_statement class) refl

  pub body-exact : {C : Type 0} (body : List SourceStatement) (front : List SourceToken) → SpellsBody (statements_list body) front
      → Exact (C × (body_height (statements_list body) ≤ k)) (λ m. repeat (body_turn m (below_of m)) body) k
      (behind front (λ ss ts. SpellsBody (statements_list ss) ts)) (λ ss. body_height (statements_list ss) ≤ k)
  body-exact {C} = exact-repeat {C = C} (λ m. body_turn m (below_of m)) {N = λ ss ts. SpellsBody (statements_list ss) ts} {G = λ ss. body_height (statements_list ss) ≤ k}
      (body_turn-exact {C = C})

  block_body-exact : {C : Type 0} → Exact C (λ m. block_body m (below_of m)) k
      (λ body ts. (label inside : List SourceToken) × SpellsLabel label × SpellsBody (statements_list body) inside × (ts ≡ label ++ inside)) (λ ss. body_height (statements_list ss) ≤ k)
  unfolding block_body
  block_body-exact {C} =
      exact-bind label-exact (λ nothing before named.
      exact-weaken (λ body inside spelled. (before, inside, named, spelled, refl))
      (exact-under (λ c. (c, omega arith)) (body-exact {C = C × Unit {0}} [] [] refl)))

  block-branch : {C : Type 0} → Branch C (λ m. block m (below_of m)) k SpellsStatement (StatementWithin k) (Some classes.Begin)
  unfolding block
  block-branch {C} = branch-step refl (λ place.
      exact-bind block_body-exact (λ body front spelled.
      exact-after classes.End refl (λ closing.
      exact-give (BlockStatement place (statements_list body)) (
        closing,
        spelled.0,
        spelled.1,
        spelled.2,
        spelled.3,
        ap (λ f. token_of classes.Begin place ∷ f) (ap (λ f. f ++ token_of classes.End closing ∷ []) spelled.4 ∙ append_assoc spelled.0 spelled.1 (token_of classes.End closing ∷ [])),
      )
      (λ c. c.1))))

  else-exact : (place : SourcePlace) (test : SourceExpression) (opening closing : SourcePlace) (inside : List SourceToken) → SpellsExpression test inside
      → (first : SourceStatement) (between : List SourceToken) → SpellsStatement first between
      → Exact (((0 < k) × Below k test) × StatementBelow k first) (λ m. by_class (else_by (below_of m) place test first)) k
      (behind (token_of classes.If place ∷ token_of classes.LeftParen opening ∷ (inside ++ token_of classes.RightParen closing ∷ between)) SpellsStatement) (StatementWithin k)
  else-exact place test opening closing inside spelled first between held = exact-by_class (λ m. else_by (below_of m) place test first)
      ((IfStatement place test first, [], alone), λ c. (IfStatement place test first, [], alone, low c)) each
    where
      E : Type 0
      E = ((0 < k) × Below k test) × StatementBelow k first

      head : List SourceToken
      head = token_of classes.If place ∷ token_of classes.LeftParen opening ∷ (inside ++ token_of classes.RightParen closing ∷ between)

      alone : SpellsStatement (IfStatement place test first) ((token_of classes.If place ∷ token_of classes.LeftParen opening ∷ (inside ++ token_of classes.RightParen closing ∷ between)) ++ [])
      alone = (
        opening,
        closing,
        inside,
        between,
        spelled,
        held,
        append-nil (token_of classes.If place ∷ token_of classes.LeftParen opening ∷
            (inside ++ token_of classes.RightParen closing ∷ between)),
      )

      low : ((0 < k) × Below k test) × StatementBelow k first → statement_height (IfStatement place test first) ≤ k
      low c = let a : height_of test < k = c.0.1 in let b : statement_height first < k = c.1 in omega arith

      by_unfinished : (b : Bool) → is_unfinished first ≡ b
          → Branch (((0 < k) × Below k test) × StatementBelow k first) (λ m. if b then give (IfStatement place test first) else second_branch (below_of m) place test first) k
          (behind (token_of classes.If place ∷ token_of classes.LeftParen opening ∷ (inside ++ token_of classes.RightParen closing ∷ between)) SpellsStatement) (StatementWithin k) (Some classes.Else)
      by_unfinished true e = branch (exact-give (IfStatement place test first) alone low)
      by_unfinished false e = branch-step refl (λ word.
          exact-bind (exact-under (λ c. c.0.0) below) (λ second after ends.
          exact-give (IfElseStatement place test first second) (
            e,
            opening,
            closing,
            word,
            inside,
            between,
            after ++ [],
            spelled,
            held,
            subst (SpellsStatement second) (sym (append-nil after)) ends,
            ap (λ f. token_of classes.If place ∷ token_of classes.LeftParen opening ∷ f) (append_assoc inside (token_of classes.RightParen closing ∷ between)
                (token_of classes.Else word ∷ (after ++ []))),
          )
          (λ c.
          let a : height_of test < k = c.0.0.1 in
          let b : statement_height first < k = c.0.1 in
          let d : statement_height second < k = c.1 in omega arith)))

      each : (class : Option Class) → Branch (((0 < k) × Below k test) × StatementBelow k first) (λ m. else_by (below_of m) place test first class) k
          (behind (token_of classes.If place ∷ token_of classes.LeftParen opening ∷ (inside ++ token_of classes.RightParen closing ∷ between)) SpellsStatement) (StatementWithin k) class
      each (Some classes.Else) = by_unfinished (is_unfinished first) refl
      each _ = branch (exact-give (IfStatement place test first) alone low)

  conditional-branch : {C : Type 0} → Branch C (λ m. conditional m (below_of m)) k SpellsStatement (StatementWithin k) (Some classes.If)
  unfolding conditional
  conditional-branch {C} = branch-down refl 0 (λ place.
      exact-bind (exact-under (λ c. c.1) (condition-exact k)) (λ test front spelled.
      exact-bind (exact-under (λ c. c.0.1) below) (λ first between held.
      subst (λ f. Exact (((C × (0 < k)) × Below k test) × StatementBelow k first) (λ m. by_class (else_by (below_of m) place test first)) k
      (λ s ts. SpellsStatement s (token_of classes.If place ∷ (f ++ (between ++ ts)))) (StatementWithin k)) (sym spelled.4)
      (after_condition place test spelled.0 spelled.1 spelled.2 spelled.3 first between held))))
    where
      after_condition : (place : SourcePlace) (test : SourceExpression) (opening closing : SourcePlace) (inside : List SourceToken) → SpellsExpression test inside
          → (first : SourceStatement) (between : List SourceToken) → SpellsStatement first between
          → Exact (((C × (0 < k)) × Below k test) × StatementBelow k first) (λ m. by_class (else_by (below_of m) place test first)) k
          (λ s ts. SpellsStatement s (token_of classes.If place ∷ ((token_of classes.LeftParen opening ∷ (inside ++ token_of classes.RightParen closing ∷ [])) ++ (between ++ ts)))) (StatementWithin k)
      after_condition place test opening closing inside spelled first between held =
          exact-weaken (λ s ts h. subst (SpellsStatement s) (ap (λ f. token_of classes.If place ∷ token_of classes.LeftParen opening ∷ f)
          (append_assoc inside (token_of classes.RightParen closing ∷ between) ts ∙ sym (append_assoc inside (token_of classes.RightParen closing ∷ []) (between ++ ts)))) h)
          (exact-under (λ c. ((c.0.0.1, c.0.1), c.1)) (else-exact place test opening closing inside spelled first between held))

  -- a statement with a condition and a body
  loop-branch : {C : Type 0} (word : Class) → is_fixed word ≡ true → (made : Looping)
      → ((place open_place close_place : SourcePlace) (test : SourceExpression) (body : SourceStatement) (inside after : List SourceToken) → SpellsExpression test inside → SpellsStatement body after
      → SpellsStatement (made place test body) (token_of word place ∷ token_of classes.LeftParen open_place ∷ (inside ++ token_of classes.RightParen close_place ∷ after)))
      → ((place : SourcePlace) (test : SourceExpression) (body : SourceStatement) → statement_height (made place test body) ≡ suc (max (height_of test) (statement_height body)))
      → Branch C (λ m. looped m (below_of m) made) k SpellsStatement (StatementWithin k) (Some word)
  unfolding looped
  loop-branch {C} word fixed made so high = branch-down fixed 0 (λ place.
      exact-bind (exact-under (λ c. c.1) (condition-exact k)) (λ test front spelled.
      exact-bind (exact-under (λ c. c.0.1) below) (λ body after held.
      exact-give (made place test body)
      (subst (SpellsStatement (made place test body))
      (ap (λ f. token_of word place ∷ f) (sym (regroup (token_of classes.LeftParen spelled.0) spelled.2 (token_of classes.RightParen spelled.1) (after ++ []))
      ∙ ap (λ f. f ++ (after ++ [])) (sym spelled.4)))
      (so place spelled.0 spelled.1 test body spelled.2 (after ++ []) spelled.3 (subst (SpellsStatement body) (sym (append-nil after)) held)))
      (λ c. let a : height_of test < k = c.0.1 in let b : statement_height body < k = c.1 in omega (arith, high place test body)))))

  forever-branch : {C : Type 0} → Branch C (λ m. forever m (below_of m)) k SpellsStatement (StatementWithin k) (Some classes.Forever)
  unfolding forever
  forever-branch = branch-down refl 0 (λ place.
      exact-bind (exact-under (λ c. c.1) below) (λ body after held.
      exact-give (ForeverStatement place body) (after ++ [], subst (SpellsStatement body) (sym (append-nil after)) held, refl)
      (λ c. let b : statement_height body < k = c.1 in omega arith)))

  event-branch : {C : Type 0} → Branch C (λ m. event m (below_of m)) k SpellsStatement (StatementWithin k) (Some classes.At)
  unfolding event
  event-branch = branch-down refl 0 (λ place.
      exact-bind (exact-under (λ c. c.1) (waits-exact k)) (λ w before waiting.
      exact-bind (exact-under (λ c. c.0.1) below) (λ body after held.
      exact-give (EventStatement place w body) (before, after ++ [], waiting, subst (SpellsStatement body) (sym (append-nil after)) held, refl)
      (λ c. let a : waits_height w < k = c.0.1 in let b : statement_height body < k = c.1 in omega arith))))

  delayed-branch : {C : Type 0} → Branch C (λ m. delayed m (below_of m)) k SpellsStatement (StatementWithin k) (Some classes.Hash)
  unfolding delayed
  delayed-branch = branch-down refl 0 (λ place.
      exact-bind (exact-under (λ c. c.1) (inner_delay-exact k)) (λ d before spelled.
      exact-bind (exact-under (λ c. c.0.1) below) (λ body after held.
      exact-give (DelayStatement place d body) (before, after ++ [], spelled, subst (SpellsStatement body) (sym (append-nil after)) held, refl)
      (λ c. let a : height_of d < k = c.0.1 in let b : statement_height body < k = c.1 in omega arith))))

  for-branch : {C : Type 0} → Branch C (λ m. for_loop m (below_of m)) k SpellsStatement (StatementWithin k) (Some classes.For)
  unfolding for_loop
  for-branch {C} = branch-down refl 0 (λ place.
      exact-after classes.LeftParen refl (λ opening.
      exact-bind (exact-under (λ c. c.1) (head-exact k)) (λ first before headed.
      exact-after classes.Semicolon refl (λ first_end.
      exact-bind (exact-under (λ c. c.0.1) (inner_expression-exact k)) (λ test between spelled.
      exact-after classes.Semicolon refl (λ test_end.
      exact-bind (exact-under (λ c. c.0.0.1) (head-exact k)) (λ next behind_test ended.
      exact-after classes.RightParen refl (λ closing.
      exact-bind (exact-under (λ c. c.0.0.0.1) below) (λ body after held.
      exact-give (ForStatement place first.0 first.1 test next.0 next.1 body) (
        opening,
        headed.0,
        first_end,
        test_end,
        ended.0,
        closing,
        headed.1,
        headed.2,
        between,
        ended.1,
        ended.2,
        after ++ [],
        headed.3,
        headed.4,
        spelled,
        ended.3,
        ended.4,
        subst (SpellsStatement body) (sym (append-nil after)) held,
        ap (λ f. token_of classes.For place ∷ token_of classes.LeftParen opening ∷ f)
            (grouped headed.1 headed.2 before headed.0 headed.5 (token_of classes.Semicolon first_end ∷
            (between ++ token_of classes.Semicolon test_end ∷ (behind_test ++ token_of classes.RightParen closing ∷ (after ++ []))))
            ∙ ap (λ f. headed.1 ++ token_of classes.Assign headed.0 ∷ (headed.2 ++ token_of classes.Semicolon first_end ∷ (between ++ token_of classes.Semicolon test_end ∷ f)))
            (grouped ended.1 ended.2 behind_test ended.0 ended.5 (token_of classes.RightParen closing ∷ (after ++ [])))),
      )
      (λ c.
      let a : target_height first.0 < k = c.0.0.0.1.0 in
      let b : height_of first.1 < k = c.0.0.0.1.1 in
      let d : height_of test < k = c.0.0.1 in
      let e : target_height next.0 < k = c.0.1.0 in
      let f : height_of next.1 < k = c.0.1.1 in
      let g : statement_height body < k = c.1 in omega arith))))))))))
    where
      grouped : (target value all : List SourceToken) (sign : SourcePlace) → all ≡ target ++ token_of classes.Assign sign ∷ value → (rest : List SourceToken)
          → all ++ rest ≡ target ++ token_of classes.Assign sign ∷ (value ++ rest)
      grouped target value all sign e rest = ap (λ f. f ++ rest) e ∙ append_assoc target (token_of classes.Assign sign ∷ value) rest

  -- Items of a case

  -- these tokens spell these items of a case, one at least and one default at most
  SpellsAll : Language (List CasePart)
  SpellsAll parts ts = SpellsItems (items_list parts) ts × (1 ≤ items_in (items_list parts)) × (defaults_in (items_list parts) ≤ 1)

  AllBelow : List CasePart → Type 0
  AllBelow parts = items_height (items_list parts) < k

  -- more items behind others
  SpellsAnother : List SourceToken → Language (List CasePart)
  SpellsAnother front parts back = SpellsAll parts (front ++ back) × (0 < length back)

  item_after : (part : Option (List SourceExpression)) (s : SourceStatement) (back : List SourceToken) → Type 0
  item_after part s back = SpellsItems (item_before part s no_source_items) back

  heights-append : (parts : List CasePart) (part : Option (List SourceExpression)) (s : SourceStatement)
      → items_height (items_list parts) < k → items_height (item_before part s no_source_items) < k → items_height (items_list (parts ++ (part, s) ∷ [])) < k
  heights-append [] part s h g = g
  heights-append ((Some labels, first) ∷ parts) part s h g = let rest : items_height (items_list (parts ++ (part, s) ∷ [])) < k = heights-append parts part s (omega arith) g in omega arith
  heights-append ((None, first) ∷ parts) part s h g = let rest : items_height (items_list (parts ++ (part, s) ∷ [])) < k = heights-append parts part s (omega arith) g in omega arith

  labels-more : (es : List SourceExpression) (ts : List SourceToken) → SpellsBehind SpellsExpression classes.Comma es ts → SpellsMoreParts (parts_of es) ts
  labels-more [] ts h = h
  labels-more (e ∷ es) ts h = (h.0, h.1, h.2, h.3, labels-more es h.2 h.4, h.5)

  labels-spelled : (es : List SourceExpression) (ts : List SourceToken) → SpellsList SpellsExpression classes.Comma es ts → SpellsParts (parts_of es) ts
  labels-spelled [] ts h = absurd h
  labels-spelled (e ∷ es) ts h = (h.0, h.1, h.2, labels-more es h.1 h.3, h.4)

  module _ (parts : List CasePart) (front : List SourceToken) (here : SpellsItems (items_list parts) front) where
    another-spelled : (part : Option (List SourceExpression)) (s : SourceStatement) (back : List SourceToken) → SpellsItems (item_before part s no_source_items) back
        → defaults_in (items_list parts) + defaults_in (item_before part s no_source_items) ≤ 1 → 0 < length back → SpellsAnother front (parts ++ (part, s) ∷ []) back
    unfolding SpellsAnother SpellsAll
    another-spelled part s back h few some =
        ((items-append parts front part s back here h, items_in-append parts part s, omega (arith, defaults-append parts part s, few)), some)

    labelled-exact : defaults_in (items_list parts) ≤ 1 → Exact ((0 < k) × AllBelow parts) (λ m. labelled_item m (below_of m) parts) k (SpellsAnother front) AllBelow
    unfolding labelled_item AllBelow
    labelled-exact few =
        exact-bind (exact-separated inner_expression k SpellsExpression (Below k) classes.Comma refl (exact-under (λ c. c.0) (inner_expression-exact k))) (λ labels before listed.
        exact-after classes.Colon refl (λ colon_place.
        exact-bind (exact-under (λ c. c.0.0) below) (λ s after held.
        exact-give (parts ++ (Some labels, s) ∷ [])
        (another-spelled (Some labels) s (before ++ token_of classes.Colon colon_place ∷ (after ++ []))
        (colon_place, before, after, [], labels-spelled labels before listed, held, refl, refl) (omega (arith, few))
        (some_within before (token_of classes.Colon colon_place) (after ++ [])))
        (λ c.
        let high : statement_height s < k = c.1 in
        let labels_low : heights_of (parts_of labels) < k = parts-below k labels c.0.0.0 c.0.1 in
        heights-append parts (Some labels) s c.0.0.1 (omega arith)))))

    default-exact : defaults_in (items_list parts) ≡ 0 → Branch ((0 < k) × AllBelow parts) (λ m. default_item (below_of m) parts) k (SpellsAnother front) AllBelow (Some classes.Default)
    unfolding default_item AllBelow
    default-exact none = branch-step refl (λ default_place.
        exact-bind colon-exact (λ nothing sign spelled.
        exact-bind (exact-under (λ c. c.0.0) below) (λ s after held.
        exact-give (parts ++ (None, s) ∷ [])
        (another-spelled None s (token_of classes.Default default_place ∷ (sign ++ (after ++ [])))
        (default_place, sign, after, [], spelled, held, refl, refl) (omega (arith, none)) (omega arith))
        (λ c. let high : statement_height s < k = c.1 in heights-append parts None s c.0.0.1 (omega arith)))))

    item-some : defaults_in (items_list parts) ≤ 1 → Some-of ((0 < k) × AllBelow parts) (SpellsAnother front) AllBelow
    unfolding AllBelow
    item-some few = (
      (parts ++ (Some (zero_number ∷ []), NullStatement nowhere) ∷ [], zero_token ∷ token_of classes.Colon nowhere ∷ null_token ∷ [], spelled),
      λ c. (
        parts ++ (Some (zero_number ∷ []), NullStatement nowhere) ∷ [],
        zero_token ∷ token_of classes.Colon nowhere ∷ null_token ∷ [],
        spelled,
        heights-append parts (Some (zero_number ∷ [])) (NullStatement nowhere) c.1 (omega (arith, c.0)),
      ),
    )
      where
        spelled : SpellsAnother front (parts ++ (Some (zero_number ∷ []), NullStatement nowhere) ∷ []) (zero_token ∷ token_of classes.Colon nowhere ∷ null_token ∷ [])
        spelled = another-spelled (Some (zero_number ∷ [])) (NullStatement nowhere) (zero_token ∷ token_of classes.Colon nowhere ∷ null_token ∷ [])
            (nowhere, zero_token ∷ [], null_token ∷ [], [], (zero_token ∷ [], [], refl, refl, refl), refl, refl, refl) (omega (arith, few)) (omega arith)

    item-exact : defaults_in (items_list parts) ≤ 1 → Exact ((0 < k) × AllBelow parts) (λ m. item m (below_of m) parts) k (SpellsAnother front) AllBelow
    unfolding item
    item-exact few = exact-by_class (λ m. item_by m (below_of m) parts) (item-some few) each
      where
        by_default : (b : Bool) → nat_lt 0 (defaults_in (items_list parts)) ≡ b
            → Branch ((0 < k) × AllBelow parts) (λ m. if b then wrong else default_item (below_of m) parts) k (SpellsAnother front) AllBelow (Some classes.Default)
        by_default true e = branch-wrong (item-some few)
        by_default false e = default-exact (omega (arith, ltb-false 0 (defaults_in (items_list parts)) e))

        each : (class : Option Class) → Branch ((0 < k) × AllBelow parts) (λ m. item_by m (below_of m) parts class) k (SpellsAnother front) AllBelow class
        each (Some classes.Default) = by_default (nat_lt 0 (defaults_in (items_list parts))) refl
        each _ = branch (labelled-exact few)

  items_turn-exact : (parts : List CasePart) (front : List SourceToken) → SpellsAll parts front
      → Exact ((0 < k) × AllBelow parts) (λ m. items_turn m (below_of m) parts) k (Turn SpellsAll parts front) (TurnFits AllBelow)
  unfolding SpellsAll SpellsAnother
  items_turn-exact parts front here = exact-by_class (λ m. items_by m (below_of m) parts) ((None, [], refl), λ c. (None, [], refl, tt)) each
    where
      one : Exact ((0 < k) × AllBelow parts) (λ m. item m (below_of m) parts >>= λ more. give (Some more)) k (Turn SpellsAll parts front) (TurnFits AllBelow)
      one = exact-bind (item-exact parts front here.0 here.2) (λ more inside spelled.
          exact-give (Some more)
          (subst (λ f. SpellsAll more (front ++ f) × (0 < length f)) (sym (append-nil inside)) spelled) (λ c. c.1))

      each : (class : Option Class) → Branch ((0 < k) × AllBelow parts) (λ m. items_by m (below_of m) parts class) k (Turn SpellsAll parts front) (TurnFits AllBelow) class
      each (Some classes.EndCase) = branch (exact-give None refl (λ c. tt))
      each _ = branch one

  case_word-fixed : (kind : CaseKind) → is_fixed (case_word kind) ≡ true
  case_word-fixed kinds_of_case.Exact = refl
  case_word-fixed kinds_of_case.IgnoreZ = refl
  case_word-fixed kinds_of_case.IgnoreXz = refl

  items-exact : Exact (0 < k) (λ m. items m (below_of m)) k SpellsAll AllBelow
  unfolding items SpellsAll SpellsAnother AllBelow
  items-exact =
      exact-bind (exact-under (λ c. (c, c)) (item-exact [] [] refl (omega arith))) (λ first between begun.
      exact-under (λ c. (c.0, c.1)) (exact-repeat {C = 0 < k} (λ m. items_turn m (below_of m)) {N = SpellsAll} {G = AllBelow} items_turn-exact first between begun.0))

  case-branch : {C : Type 0} (kind : CaseKind) → Branch C (λ m. case m (below_of m) kind) k SpellsStatement (StatementWithin k) (Some (case_word kind))
  unfolding case SpellsAll AllBelow
  case-branch {C} kind = branch-down (case_word-fixed kind) 0 (λ place.
      exact-bind (exact-under (λ c. c.1) (condition-exact k)) (λ value front spelled.
      exact-bind (exact-under (λ c. c.0.1) items-exact) (λ all between listed.
      exact-after classes.EndCase refl (λ closing.
      exact-give (CaseStatement place kind value (items_list all)) (
        listed.1,
        listed.2,
        spelled.0,
        spelled.1,
        closing,
        spelled.2,
        between,
        spelled.3,
        listed.0,
        ap (λ f. token_of (case_word kind) place ∷ f)
            (ap (λ f. f ++ (between ++ token_of classes.EndCase closing ∷ [])) spelled.4
            ∙ regroup (token_of classes.LeftParen spelled.0) spelled.2 (token_of classes.RightParen spelled.1) (between ++ token_of classes.EndCase closing ∷ [])),
      )
      (λ c.
      let a : height_of value < k = c.0.1 in
      let b : items_height (items_list all) < k = c.1 in omega arith)))))

  pub statement_by-exact : {C : Type 0} → Exact C (λ m. by_class (statement_by m (below_of m))) k SpellsStatement (StatementWithin k)
  statement_by-exact {C} = exact-by_class (λ m. statement_by m (below_of m)) some-statement each
    where
      each : (class : Option Class) → Branch C (λ m. statement_by m (below_of m) class) k SpellsStatement (StatementWithin k) class
      each (Some classes.Semicolon) = branch-step refl (λ place. exact-give (NullStatement place) refl (λ c. omega arith))
      each (Some classes.Begin) = block-branch
      each (Some classes.If) = conditional-branch
      each (Some classes.Case) = case-branch kinds_of_case.Exact
      each (Some classes.CaseZ) = case-branch kinds_of_case.IgnoreZ
      each (Some classes.CaseX) = case-branch kinds_of_case.IgnoreXz
      each (Some classes.For) = for-branch
      each (Some classes.While) = loop-branch classes.While refl WhileStatement
          (λ place open_place close_place test body inside after e s. (open_place, close_place, inside, after, e, s, refl)) (λ place test body. refl)
      each (Some classes.Repeat) = loop-branch classes.Repeat refl RepeatStatement
          (λ place open_place close_place test body inside after e s. (open_place, close_place, inside, after, e, s, refl)) (λ place test body. refl)
      each (Some classes.Forever) = forever-branch
      each (Some classes.Wait) = loop-branch classes.Wait refl WaitStatement
          (λ place open_place close_place test body inside after e s. (open_place, close_place, inside, after, e, s, refl)) (λ place test body. refl)
      each (Some classes.At) = event-branch
      each (Some classes.Hash) = delayed-branch
      each (Some classes.Name) = assignment-branch k classes.Name refl
      each (Some classes.LeftBrace) = assignment-branch k classes.LeftBrace refl
      each (Some classes.IgnoredTask) = task-branch classes.IgnoredTask IgnoredTask (λ place ts s. s) (λ place. omega arith)
      each (Some classes.FinishTask) = task-branch classes.FinishTask FinishTask (λ place ts s. s) (λ place. omega arith)
      each _ = branch-wrong some-statement

pub below-exact : (k : ℕ) → BelowExact k
unfolding below_of
below-exact zero = record {
  any = (some-statement {C = Unit {0}} {k = 0}).0;
  some = λ c. absurd (let p : 0 < 0 = c in omega arith);
  tells = λ c tokens. absurd (let p : 0 < 0 = c in omega arith);
}
below-exact (suc k) = exact-shift {C = Unit {0}} below_of (StatementBelow (suc k)) (λ m tokens. refl) (λ s h. omega (arith, h)) (λ d. tt) (statement_by-exact k (below-exact k))

-- reading a statement with at most so many levels below it
pub statement-exact : {C : Type 0} (k : ℕ) → Exact C statement k SpellsStatement (StatementWithin k)
unfolding statement
statement-exact k = statement_by-exact k (below-exact k)
