-- Each spelled statement is read.
use Rattle.std.proofs.Common.{◌≡◌, ℕ, zero, suc, ◌+◌, ◌<◌, ◌≤◌, true, false, List, [], ◌∷◌, ◌++◌, Option, Some, None, Ok, refl, sym, ◌∙◌, ap, subst, arith, append_assoc, length-append, lt-ltb, ◌⊎◌}
use Rattle.std.proofs.Common.{inl, inr}
use Rattle.std.proofs.lemmas.List.{append-nil}
use Rattle.std.specs.Prelude.{nat_lt, if◌then◌else◌}
use Rattle.vf_base.specs.Base.{SourcePlace}
use Rattle.four_value.specs.declared.operator.CaseKind.{CaseKind}
use Rattle.four_value.specs.declared.operator.CaseKind.TheVariants as kinds_of_case
use Rattle.v_tree.specs.Tokens.{SourceToken}
use Rattle.v_tree.specs.Trees.{SourceExpression, SourceExpressions, no_parts, more_parts, SourceTarget, OneSelect, JoinedSelects, SourceStatement, NullStatement, BlockStatement, IfStatement}
use Rattle.v_tree.specs.Trees.{IfElseStatement, CaseStatement, ForStatement, WhileStatement, RepeatStatement, ForeverStatement, WaitStatement, EventStatement, DelayStatement, BlockingStatement}
use Rattle.v_tree.specs.Trees.{NonblockingStatement, IgnoredTask, FinishTask, SourceStatements, no_source_statements, more_source_statements, SourceCaseItems, no_source_items, labelled, otherwise}
use Rattle.v_tree.specs.Trees.{place_of_target, parts_of}
use Rattle.v_readers.specs.declared.class.Class.{Class}
use Rattle.v_readers.specs.declared.class.Class.TheVariants as classes
use Rattle.v_readers.specs.Classes.{class_of, token_of}
use Rattle.v_readers.specs.Reading.{Reader, followed, give, wrong, next_class, by_class, repeat}
use Rattle.v_readers.specs.Separated.{SpellsBehind, SpellsList}
use Rattle.v_readers.specs.SeparatedLaws.{EachFits}
use Rattle.v_readers.specs.Reads.{next-class, expect-reads, pass-reads, ready-reads, turn-is, last-is, separated-reads}
use Rattle.v_expr.specs.Spelling.{SpellsExpression, SpellsParts, SpellsMoreParts, SpellsTarget}
use Rattle.v_expr.specs.Heights.{height_of, heights_of, target_height}
use Rattle.v_expr.specs.Parts.{inner_expression}
use Rattle.v_expr.specs.ExpressionExact.{Below}
use Rattle.v_expr.specs.ExpressionReads.{EndsBefore}
use Rattle.v_expr.specs.PartLaws.{inner_expression-reads, inner_target-reads, inner_delay-reads}
use Rattle.v_stmt.specs.Spelling.{SpellsColon, SpellsTask, SpellsInnerDelay, case_word, defaults_in, items_in, is_unfinished, SpellsStatement, SpellsBody, SpellsItems}
use Rattle.v_stmt.specs.Heights.{delay_height, statement_height, body_height, items_height}
use Rattle.v_stmt.specs.Statements.{task, assigned, assignment_by, assignment, another, begins_statement, begins, body_by, body_turn, statements_list, block_body, block, condition, second_branch}
use Rattle.v_stmt.specs.Statements.{else_by, conditional, Looping, looped, forever, head_assignment, for_loop, event, delayed, CasePart, items_list, default_item, labelled_item, item_by, item}
use Rattle.v_stmt.specs.Statements.{items_by, items_turn, items, case, statement_by, below_of, statement}
use Rattle.v_stmt.specs.StatementExact.{some-tokens, defaults-append}
use Rattle.v_stmt.specs.PartReads.{leads, expression-first, leads-not, label-reads, colon-reads, waits-reads, assigned_delay-reads, condition-reads, head-reads, arguments-reads}

-- What a statement begins with, and what may stand behind it

-- no `else` stands behind an unfinished statement
abbrev pub EndsStatement : SourceStatement → Option Class → Type 0
EndsStatement s class = is_unfinished s ≡ true → class ≡ Some classes.Else → ⊥

target-first : (t : SourceTarget) (ts rest : List SourceToken) → SpellsTarget t ts → (class : Class) × (next_class (ts ++ rest) ≡ Some class) × ((class ≡ classes.Name) ⊎ (class ≡ classes.LeftBrace))
target-first (OneSelect s) ts rest h = (classes.Name, ap (λ f. next_class (f ++ rest)) h.3 ∙ ap (λ (c : Class). Some c) h.0, inl refl)
target-first (JoinedSelects place selects) ts rest h = (classes.LeftBrace, ap (λ f. next_class (f ++ rest)) h.3, inr refl)

-- what is known of the class of the first token of a statement
abbrev First : List SourceToken → Type 0
First tokens = (class : Class) × (next_class tokens ≡ Some class) × (begins_statement class ≡ true)

assigned-first : (t : SourceTarget) (before rest : List SourceToken) → SpellsTarget t before → First (before ++ rest)
assigned-first t before rest h = let f = target-first t before rest h in (f.0, f.1, by f.0 f.2)
  where
    by : (class : Class) → (class ≡ classes.Name) ⊎ (class ≡ classes.LeftBrace) → begins_statement class ≡ true
    by class (inl e) = ap begins_statement e
    by class (inr e) = ap begins_statement e

fixed-first : (class : Class) → begins_statement class ≡ true → (place : SourcePlace) (ts rest after : List SourceToken) → ts ≡ token_of class place ∷ after → First (ts ++ rest)
fixed-first class b place ts rest after e = (class, ap (λ f. next_class (f ++ rest)) e ∙ next-class class place (after ++ rest), b)

pub statement-first : (s : SourceStatement) (ts rest : List SourceToken) → SpellsStatement s ts → (class : Class) × (next_class (ts ++ rest) ≡ Some class) × (begins_statement class ≡ true)
statement-first (NullStatement place) ts rest h = fixed-first classes.Semicolon refl place ts rest [] h
statement-first (BlockStatement place statements) ts rest h = fixed-first classes.Begin refl place ts rest _ h.5
statement-first (IfStatement place condition first) ts rest h = fixed-first classes.If refl place ts rest _ h.6
statement-first (IfElseStatement place condition first second) ts rest h = fixed-first classes.If refl place ts rest _ h.10
statement-first (CaseStatement place kinds_of_case.Exact value items) ts rest h = fixed-first classes.Case refl place ts rest _ h.9
statement-first (CaseStatement place kinds_of_case.IgnoreZ value items) ts rest h = fixed-first classes.CaseZ refl place ts rest _ h.9
statement-first (CaseStatement place kinds_of_case.IgnoreXz value items) ts rest h = fixed-first classes.CaseX refl place ts rest _ h.9
statement-first (ForStatement place first_target first condition next_target next body) ts rest h = fixed-first classes.For refl place ts rest _ h.18
statement-first (WhileStatement place condition body) ts rest h = fixed-first classes.While refl place ts rest _ h.6
statement-first (RepeatStatement place count body) ts rest h = fixed-first classes.Repeat refl place ts rest _ h.6
statement-first (ForeverStatement place body) ts rest h = fixed-first classes.Forever refl place ts rest _ h.2
statement-first (WaitStatement place condition body) ts rest h = fixed-first classes.Wait refl place ts rest _ h.6
statement-first (EventStatement place waits body) ts rest h = fixed-first classes.At refl place ts rest _ h.4
statement-first (DelayStatement place delay body) ts rest h = fixed-first classes.Hash refl place ts rest _ h.4
statement-first (BlockingStatement place target delay value) ts rest h =
    let tail = token_of classes.Assign h.1 ∷ (h.4 ++ (h.5 ++ token_of classes.Semicolon h.2 ∷ [])) in
    subst First (sym (ap (λ f. f ++ rest) h.9 ∙ append_assoc h.3 tail rest)) (assigned-first target h.3 (tail ++ rest) h.6)
statement-first (NonblockingStatement place target delay value) ts rest h =
    let tail = token_of classes.LessEqual h.1 ∷ (h.4 ++ (h.5 ++ token_of classes.Semicolon h.2 ∷ [])) in
    subst First (sym (ap (λ f. f ++ rest) h.9 ∙ append_assoc h.3 tail rest)) (assigned-first target h.3 (tail ++ rest) h.6)
statement-first (IgnoredTask place) ts rest h = (classes.IgnoredTask, ap (λ f. next_class (f ++ rest)) h.6 ∙ ap (λ (c : Class). Some c) h.1, refl)
statement-first (FinishTask place) ts rest h = (classes.FinishTask, ap (λ f. next_class (f ++ rest)) h.6 ∙ ap (λ (c : Class). Some c) h.1, refl)

-- a statement begins with no token of another class
first-not : (tokens : List SourceToken) → First tokens → (other : Class) → begins_statement other ≡ false → next_class tokens ≡ Some other → ⊥
first-not tokens f other g e =
    let is : ◌≡◌ {A = Option Class} (Some f.0) (Some other) = sym f.1 ∙ e in
    let p : true ≡ false = sym f.2 ∙ ap begins is ∙ g in cc

-- Words are led by their tokens

module _ (k : ℕ) (below : Reader SourceStatement) where
  led : (class : Class) (place : SourcePlace) (rest : List SourceToken) → by_class (statement_by k below) (token_of class place ∷ rest) ≡ statement_by k below (Some class)
      (token_of class place ∷ rest)
  led class place rest = ap (λ c. statement_by k below c (token_of class place ∷ rest)) (next-class class place rest)

  body-begins : (body : List SourceStatement) (class : Option Class) (tokens : List SourceToken) → begins class ≡ true → body_by k below body class tokens ≡ another k below body tokens
  body-begins body class tokens h = ap (λ b. (if b then another k below body else give None) tokens) h

  body-ends : (body : List SourceStatement) (class : Option Class) (tokens : List SourceToken) → begins class ≡ false → body_by k below body class tokens ≡ Ok (None, tokens)
  body-ends body class tokens h = ap (λ b. (if b then another k below body else give None) tokens) h

  else_by-other : (place : SourcePlace) (test : SourceExpression) (first : SourceStatement) (class : Option Class) (tokens : List SourceToken) → (class ≡ Some classes.Else → ⊥)
      → else_by below place test first class tokens ≡ Ok (IfStatement place test first, tokens)
  else_by-other place test first (Some classes.Else) tokens h = absurd (h refl)
  else_by-other place test first _ tokens h = refl

  else_by-else : (place : SourcePlace) (test : SourceExpression) (first : SourceStatement) (tokens : List SourceToken) → is_unfinished first ≡ false
      → else_by below place test first (Some classes.Else) tokens ≡ second_branch below place test first tokens
  else_by-else place test first tokens h = ap (λ b. (if b then give (IfStatement place test first) else second_branch below place test first) tokens) h

-- Lists in trees

abbrev list_of_statements : SourceStatements → List SourceStatement
list_of_statements no_source_statements = []
list_of_statements (more_source_statements s rest) = s ∷ list_of_statements rest

statements_list-list : (all : SourceStatements) → statements_list (list_of_statements all) ≡ all
statements_list-list no_source_statements = refl
statements_list-list (more_source_statements s rest) = ap (more_source_statements s) (statements_list-list rest)

abbrev list_of_labels : SourceExpressions → List SourceExpression
list_of_labels no_parts = []
list_of_labels (more_parts e rest) = e ∷ list_of_labels rest

parts_of-labels : (all : SourceExpressions) → parts_of (list_of_labels all) ≡ all
parts_of-labels no_parts = refl
parts_of-labels (more_parts e rest) = ap (more_parts e) (parts_of-labels rest)

labels-more : (all : SourceExpressions) (ts : List SourceToken) → SpellsMoreParts all ts → SpellsBehind SpellsExpression classes.Comma (list_of_labels all) ts
labels-more no_parts ts h = h
labels-more (more_parts e rest) ts h = (h.0, h.1, h.2, h.3, labels-more rest h.2 h.4, h.5)

labels-list : (all : SourceExpressions) (ts : List SourceToken) → SpellsParts all ts → SpellsList SpellsExpression classes.Comma (list_of_labels all) ts
labels-list no_parts ts h = absurd h
labels-list (more_parts e rest) ts h = (h.0, h.1, h.2, labels-more rest h.1 h.3, h.4)

labels-fit : (k : ℕ) (all : SourceExpressions) → heights_of all < k → EachFits (Below k) (list_of_labels all)
labels-fit k no_parts h = tt
labels-fit k (more_parts e rest) h = (omega arith, labels-fit k rest (omega arith))

labels-lead : (all : SourceExpressions) (ts rest : List SourceToken) → SpellsParts all ts → leads (next_class (ts ++ rest)) ≡ true
labels-lead no_parts ts rest h = absurd h
labels-lead (more_parts e more) ts rest h =
    ap (λ f. leads (next_class (f ++ rest))) h.4 ∙ ap (λ f. leads (next_class f)) (append_assoc h.0 h.1 rest) ∙ expression-first e h.0 (h.1 ++ rest) h.2

abbrev list_of_items : SourceCaseItems → List CasePart
list_of_items no_source_items = []
list_of_items (labelled labels s rest) = (Some (list_of_labels labels), s) ∷ list_of_items rest
list_of_items (otherwise s rest) = (None, s) ∷ list_of_items rest

items_list-list : (all : SourceCaseItems) → items_list (list_of_items all) ≡ all
items_list-list no_source_items = refl
items_list-list (labelled labels s rest) = ap (λ l. labelled l s (items_list (list_of_items rest))) (parts_of-labels labels) ∙ ap (labelled labels s) (items_list-list rest)
items_list-list (otherwise s rest) = ap (otherwise s) (items_list-list rest)

-- Tasks and assignments

task-reads : (class : Class) (place : SourcePlace) (ts rest : List SourceToken) → SpellsTask class place ts → task class (ts ++ rest) ≡ Ok (place, rest)
unfolding task
task-reads class place ts rest h =
    ap (λ f. task class (f ++ rest)) h.6
    ∙ rw (append_assoc h.4 (token_of classes.Semicolon h.3 ∷ []) rest, pass-reads class h.0 (h.4 ++ token_of classes.Semicolon h.3 ∷ rest) h.1, arguments-reads h.4 h.3 rest h.5)
    (ap (λ p. Ok (p, rest)) h.2)

module _ (k : ℕ) where
  assigned-reads : (delay : Option SourceExpression) (value : SourceExpression) (end_place : SourcePlace) (between after rest : List SourceToken)
      → SpellsInnerDelay delay between → SpellsExpression value after → delay_height delay < k → height_of value < k
      → assigned k (between ++ (after ++ token_of classes.Semicolon end_place ∷ rest)) ≡ Ok ((delay, value), rest)
  unfolding assigned
  assigned-reads delay value end_place between after rest d v delay_low low =
      let not_hash = leads-not (next_class (after ++ token_of classes.Semicolon end_place ∷ rest)) (expression-first value after (token_of classes.Semicolon end_place ∷ rest) v) classes.Hash refl in
      let delaying = assigned_delay-reads k delay between (after ++ token_of classes.Semicolon end_place ∷ rest) d delay_low not_hash in
      let read = inner_expression-reads k value after (token_of classes.Semicolon end_place ∷ rest) v low (omega arith) in
      rw (delaying, read) refl

  grouped : (before between after : List SourceToken) (sign end : SourceToken) (rest : List SourceToken)
      → (before ++ sign ∷ (between ++ (after ++ end ∷ []))) ++ rest ≡ before ++ sign ∷ (between ++ (after ++ end ∷ rest))
  grouped before between after sign end rest =
      append_assoc before (sign ∷ (between ++ (after ++ end ∷ []))) rest
      ∙ ap (λ f. before ++ sign ∷ f) (append_assoc between (after ++ end ∷ []) rest ∙ ap (λ f. between ++ f) (append_assoc after (end ∷ []) rest))

  target-led : (below : Reader SourceStatement) (t : SourceTarget) (before tail : List SourceToken) → SpellsTarget t before
      → by_class (statement_by k below) (before ++ tail) ≡ assignment k (before ++ tail)
  target-led below t before tail h = let f = target-first t before tail h in ap (λ c. statement_by k below c (before ++ tail)) f.1 ∙ by f.0 f.2
    where
      by : (class : Class) → (class ≡ classes.Name) ⊎ (class ≡ classes.LeftBrace) → statement_by k below (Some class) (before ++ tail) ≡ assignment k (before ++ tail)
      by class (inl e) = ap (λ (c : Class). statement_by k below (Some c) (before ++ tail)) e
      by class (inr e) = ap (λ (c : Class). statement_by k below (Some c) (before ++ tail)) e

  assignment-reads : (t : SourceTarget) (before tail : List SourceToken) → SpellsTarget t before → target_height t < k → EndsBefore 0 (next_class tail)
      → assignment k (before ++ tail) ≡ by_class (assignment_by k t) tail
  unfolding assignment
  assignment-reads t before tail h low ends =
      let some : 0 < k = omega arith in
      let target = inner_target-reads k t before tail h low ends in
      rw (ready-reads 0 k (before ++ tail) some, target) refl

-- Statements with statements in them

-- what the reader of statements one level down reads
abbrev pub BelowReads : ℕ → Type 0
BelowReads k = (s : SourceStatement) (ts rest : List SourceToken) → SpellsStatement s ts → statement_height s < k → EndsStatement s (next_class rest) → below_of k (ts ++ rest) ≡ Ok (s, rest)

body-not : (all : SourceStatements) (ts : List SourceToken) (end_place : SourcePlace) (rest : List SourceToken) → SpellsBody all ts → (other : Class) → begins_statement other ≡ false
    → (classes.End ≡ other → ⊥) → next_class (ts ++ token_of classes.End end_place ∷ rest) ≡ Some other → ⊥
body-not no_source_statements ts end_place rest h other b not_end e =
    let p : ◌≡◌ {A = Option Class} (Some classes.End) (Some other) = sym (ap (λ f. next_class (f ++ token_of classes.End end_place ∷ rest)) h ∙ next-class classes.End end_place rest) ∙ e in
    not_end cc
body-not (more_source_statements s all) ts end_place rest h other b not_end e =
    let tail = h.1 ++ token_of classes.End end_place ∷ rest in
    first-not (h.0 ++ (h.1 ++ token_of classes.End end_place ∷ rest)) (statement-first s h.0 (h.1 ++ token_of classes.End end_place ∷ rest) h.2) other b
    (ap next_class (sym (append_assoc h.0 h.1 (token_of classes.End end_place ∷ rest))) ∙ ap (λ f. next_class (f ++ token_of classes.End end_place ∷ rest)) (sym h.4) ∙ e)

-- what stands behind an item of a case is another item or the end
items-not : (all : SourceCaseItems) (ts : List SourceToken) (end_place : SourcePlace) (rest : List SourceToken) → SpellsItems all ts
    → next_class (ts ++ token_of classes.EndCase end_place ∷ rest) ≡ Some classes.Else → ⊥
items-not no_source_items ts end_place rest h e =
    let p : ◌≡◌ {A = Option Class} (Some classes.EndCase) (Some classes.Else) = sym (ap (λ f. next_class (f ++ token_of classes.EndCase end_place ∷ rest)) h
    ∙ next-class classes.EndCase end_place rest) ∙ e in cc
items-not (labelled labels s all) ts end_place rest h e =
    let end = token_of classes.EndCase end_place ∷ rest in
    leads-not (next_class (ts ++ token_of classes.EndCase end_place ∷ rest))
    (ap (λ f. leads (next_class (f ++ token_of classes.EndCase end_place ∷ rest))) h.7
    ∙ ap (λ f. leads (next_class f)) (append_assoc h.1 (token_of classes.Colon h.0 ∷ (h.2 ++ h.3)) (token_of classes.EndCase end_place ∷ rest))
    ∙ labels-lead labels h.1 (token_of classes.Colon h.0 ∷ ((h.2 ++ h.3) ++ token_of classes.EndCase end_place ∷ rest)) h.4)
    classes.Else refl e
items-not (otherwise s all) ts end_place rest h e =
    let p : ◌≡◌ {A = Option Class} (Some classes.Default) (Some classes.Else) =
    sym (ap (λ f. next_class (f ++ token_of classes.EndCase end_place ∷ rest)) h.7 ∙ next-class classes.Default h.0 ((h.1 ++ (h.2 ++ h.3)) ++ token_of classes.EndCase end_place ∷ rest)) ∙ e in cc

module _ (k : ℕ) (below : Reader SourceStatement) (parts : List CasePart) (tokens : List SourceToken) where
  item_by-leads : (class : Option Class) → leads class ≡ true → item_by k below parts class tokens ≡ labelled_item k below parts tokens
  item_by-leads (Some classes.Default) h = absurd (let p : false ≡ true = h in cc)
  item_by-leads _ h = refl

  items_by-leads : (class : Option Class) → leads class ≡ true → items_by k below parts class tokens ≡ followed (item k below parts tokens) (λ more. give (Some more))
  items_by-leads (Some classes.EndCase) h = absurd (let p : false ≡ true = h in cc)
  items_by-leads _ h = refl

  item_by-default : defaults_in (items_list parts) ≡ 0 → item_by k below parts (Some classes.Default) tokens ≡ default_item below parts tokens
  item_by-default h =
      let none : nat_lt 0 (defaults_in (items_list parts)) ≡ false = ap (nat_lt 0) h in
      ap (λ b. (if b then wrong else default_item below parts) tokens) none

module _ (k : ℕ) (below : BelowReads k) where
  body-reads : (all : SourceStatements) (done : List SourceStatement) (ts : List SourceToken) (end_place : SourcePlace) (rest : List SourceToken) → SpellsBody all ts → body_height all ≤ k
      → repeat (body_turn k (below_of k)) done (ts ++ token_of classes.End end_place ∷ rest) ≡ Ok (done ++ list_of_statements all, token_of classes.End end_place ∷ rest)
  body-reads no_source_statements done ts end_place rest h low =
      ap (λ f. repeat (body_turn k (below_of k)) done (f ++ token_of classes.End end_place ∷ rest)) h
      ∙ last-is (body_turn k (below_of k)) done (token_of classes.End end_place ∷ rest)
      (body-ends k (below_of k) done (next_class (token_of classes.End end_place ∷ rest)) (token_of classes.End end_place ∷ rest) (ap begins (next-class classes.End end_place rest)))
      ∙ ap (λ w. Ok (w, token_of classes.End end_place ∷ rest)) (sym (append-nil done))
  body-reads (more_source_statements s all) done ts end_place rest h low =
      let end = token_of classes.End end_place ∷ rest in
      let tail = h.1 ++ token_of classes.End end_place ∷ rest in
      let first = statement-first s h.0 (h.1 ++ token_of classes.End end_place ∷ rest) h.2 in
      let read = below s h.0 (h.1 ++ token_of classes.End end_place ∷ rest) h.2 (omega arith) (λ unfinished. body-not all h.1 end_place rest h.3 classes.Else refl (λ e. cc)) in
      let turn : body_turn k (below_of k) done (h.0 ++ (h.1 ++ token_of classes.End end_place ∷ rest)) ≡ Ok (Some (done ++ s ∷ []), h.1 ++ token_of classes.End end_place ∷ rest) =
      body-begins k (below_of k) done (next_class (h.0 ++ (h.1 ++ token_of classes.End end_place ∷ rest))) (h.0 ++ (h.1 ++ token_of classes.End end_place ∷ rest)) (ap begins first.1 ∙ first.2)
      ∙ rw (ready-reads 0 k (h.0 ++ (h.1 ++ token_of classes.End end_place ∷ rest)) (omega arith), read) refl in
      ap (λ f. repeat (body_turn k (below_of k)) done (f ++ token_of classes.End end_place ∷ rest)) h.4
      ∙ ap (repeat (body_turn k (below_of k)) done) (append_assoc h.0 h.1 (token_of classes.End end_place ∷ rest))
      ∙ turn-is (body_turn k (below_of k)) done (done ++ s ∷ []) (h.0 ++ (h.1 ++ token_of classes.End end_place ∷ rest)) (h.1 ++ token_of classes.End end_place ∷ rest) turn
      (omega (arith, length-append h.0 (h.1 ++ token_of classes.End end_place ∷ rest), some-tokens s h.0 h.2))
      ∙ body-reads all (done ++ s ∷ []) h.1 end_place rest h.3 (omega arith)
      ∙ ap (λ w. Ok (w, token_of classes.End end_place ∷ rest)) (append_assoc done (s ∷ []) (list_of_statements all))

  -- Items of a case

  labelled-reads : (done : List CasePart) (labels : SourceExpressions) (s : SourceStatement) (colon_place : SourcePlace) (before between tail : List SourceToken)
      → SpellsParts labels before → SpellsStatement s between → heights_of labels < k → statement_height s < k → (next_class tail ≡ Some classes.Else → ⊥)
      → item k (below_of k) done (before ++ token_of classes.Colon colon_place ∷ (between ++ tail)) ≡ Ok (done ++ (Some (list_of_labels labels), s) ∷ [], tail)
  unfolding item labelled_item
  labelled-reads done labels s colon_place before between tail h g labels_low low ends =
      let tokens = before ++ token_of classes.Colon colon_place ∷ (between ++ tail) in
      let read = separated-reads (inner_expression k) SpellsExpression (Below k) (EndsBefore 11) classes.Comma (omega arith) (inner_expression-reads k)
      (list_of_labels labels) before (token_of classes.Colon colon_place ∷ (between ++ tail)) (labels-list labels before h) (labels-fit k labels labels_low) (omega arith) refl in
      let inside = below s between tail g low (λ unfinished. ends) in
      item_by-leads k (below_of k) done (before ++ token_of classes.Colon colon_place ∷ (between ++ tail)) (next_class (before ++ token_of classes.Colon colon_place ∷ (between ++ tail)))
      (labels-lead labels before (token_of classes.Colon colon_place ∷ (between ++ tail)) h)
      ∙ rw (read, inside) refl

  default-reads : (done : List CasePart) (s : SourceStatement) (default_place : SourcePlace) (sign between tail : List SourceToken)
      → SpellsColon sign → SpellsStatement s between → statement_height s < k → (next_class tail ≡ Some classes.Else → ⊥) → defaults_in (items_list done) ≡ 0
      → item k (below_of k) done (token_of classes.Default default_place ∷ (sign ++ (between ++ tail))) ≡ Ok (done ++ (None, s) ∷ [], tail)
  unfolding item default_item
  default-reads done s default_place sign between tail h g low ends none =
      let tokens = token_of classes.Default default_place ∷ (sign ++ (between ++ tail)) in
      let marked = colon-reads sign (between ++ tail) h (first-not (between ++ tail) (statement-first s between tail g) classes.Colon refl) in
      let inside = below s between tail g low (λ unfinished. ends) in
      ap (λ c. item_by k (below_of k) done c (token_of classes.Default default_place ∷ (sign ++ (between ++ tail)))) (next-class classes.Default default_place (sign ++ (between ++ tail)))
      ∙ item_by-default k (below_of k) done (token_of classes.Default default_place ∷ (sign ++ (between ++ tail))) none
      ∙ rw (marked, inside) refl

  regrouped-labelled : (before between after : List SourceToken) (colon : SourceToken) (rest : List SourceToken)
      → (before ++ colon ∷ (between ++ after)) ++ rest ≡ before ++ colon ∷ (between ++ (after ++ rest))
  regrouped-labelled before between after colon rest = append_assoc before (colon ∷ (between ++ after)) rest ∙ ap (λ f. before ++ colon ∷ f) (append_assoc between after rest)

  regrouped-default : (sign between after : List SourceToken) (rest : List SourceToken)
      → (sign ++ (between ++ after)) ++ rest ≡ sign ++ (between ++ (after ++ rest))
  regrouped-default sign between after rest = append_assoc sign (between ++ after) rest ∙ ap (λ f. sign ++ f) (append_assoc between after rest)

  items-reads : (all : SourceCaseItems) (done : List CasePart) (ts : List SourceToken) (end_place : SourcePlace) (rest : List SourceToken) → SpellsItems all ts → items_height all < k
      → defaults_in (items_list done) + defaults_in all ≤ 1
      → repeat (items_turn k (below_of k)) done (ts ++ token_of classes.EndCase end_place ∷ rest) ≡ Ok (done ++ list_of_items all, token_of classes.EndCase end_place ∷ rest)
  items-reads no_source_items done ts end_place rest h low few =
      ap (λ f. repeat (items_turn k (below_of k)) done (f ++ token_of classes.EndCase end_place ∷ rest)) h
      ∙ last-is (items_turn k (below_of k)) done (token_of classes.EndCase end_place ∷ rest)
      (ap (λ c. items_by k (below_of k) done c (token_of classes.EndCase end_place ∷ rest)) (next-class classes.EndCase end_place rest))
      ∙ ap (λ w. Ok (w, token_of classes.EndCase end_place ∷ rest)) (sym (append-nil done))
  items-reads (labelled labels s all) done ts end_place rest h low few =
      let end = token_of classes.EndCase end_place ∷ rest in
      let tokens = h.1 ++ token_of classes.Colon h.0 ∷ (h.2 ++ (h.3 ++ token_of classes.EndCase end_place ∷ rest)) in
      let read = labelled-reads done labels s h.0 h.1 h.2 (h.3 ++ token_of classes.EndCase end_place ∷ rest) h.4 h.5 (omega arith) (omega arith) (items-not all h.3 end_place rest h.6) in
      let leading = labels-lead labels h.1 (token_of classes.Colon h.0 ∷ (h.2 ++ (h.3 ++ token_of classes.EndCase end_place ∷ rest))) h.4 in
      let turn : items_turn k (below_of k) done tokens ≡ Ok (Some (done ++ (Some (list_of_labels labels), s) ∷ []), h.3 ++ token_of classes.EndCase end_place ∷ rest) =
      items_by-leads k (below_of k) done tokens (next_class tokens) leading ∙ ap (λ r. followed r (λ more. give (Some more))) read in
      ap (λ f. repeat (items_turn k (below_of k)) done (f ++ token_of classes.EndCase end_place ∷ rest)) h.7
      ∙ ap (repeat (items_turn k (below_of k)) done) (regrouped-labelled h.1 h.2 h.3 (token_of classes.Colon h.0) (token_of classes.EndCase end_place ∷ rest))
      ∙ turn-is (items_turn k (below_of k)) done (done ++ (Some (list_of_labels labels), s) ∷ []) tokens (h.3 ++ token_of classes.EndCase end_place ∷ rest) turn
      (omega (
        arith,
        length-append h.1 (token_of classes.Colon h.0 ∷ (h.2 ++ (h.3 ++ token_of classes.EndCase end_place ∷ rest))),
        length-append h.2 (h.3 ++ token_of classes.EndCase end_place ∷ rest),
      ))
      ∙ items-reads all (done ++ (Some (list_of_labels labels), s) ∷ []) h.3 end_place rest h.6 (omega arith) (omega (arith, defaults-append done (Some (list_of_labels labels)) s, few))
      ∙ ap (λ w. Ok (w, token_of classes.EndCase end_place ∷ rest)) (append_assoc done ((Some (list_of_labels labels), s) ∷ []) (list_of_items all))
  items-reads (otherwise s all) done ts end_place rest h low few =
      let end = token_of classes.EndCase end_place ∷ rest in
      let tokens = token_of classes.Default h.0 ∷ (h.1 ++ (h.2 ++ (h.3 ++ token_of classes.EndCase end_place ∷ rest))) in
      let read = default-reads done s h.0 h.1 h.2 (h.3 ++ token_of classes.EndCase end_place ∷ rest) h.4 h.5 (omega arith) (items-not all h.3 end_place rest h.6) (omega (arith, few)) in
      let turn : items_turn k (below_of k) done tokens ≡ Ok (Some (done ++ (None, s) ∷ []), h.3 ++ token_of classes.EndCase end_place ∷ rest) =
      ap (λ c. items_by k (below_of k) done c tokens) (next-class classes.Default h.0 (h.1 ++ (h.2 ++ (h.3 ++ token_of classes.EndCase end_place ∷ rest))))
      ∙ ap (λ r. followed r (λ more. give (Some more))) read in
      ap (λ f. repeat (items_turn k (below_of k)) done (f ++ token_of classes.EndCase end_place ∷ rest)) h.7
      ∙ ap (λ f. repeat (items_turn k (below_of k)) done (token_of classes.Default h.0 ∷ f)) (regrouped-default h.1 h.2 h.3 (token_of classes.EndCase end_place ∷ rest))
      ∙ turn-is (items_turn k (below_of k)) done (done ++ (None, s) ∷ []) tokens (h.3 ++ token_of classes.EndCase end_place ∷ rest) turn
      (omega (arith, length-append h.1 (h.2 ++ (h.3 ++ token_of classes.EndCase end_place ∷ rest)), length-append h.2 (h.3 ++ token_of classes.EndCase end_place ∷ rest)))
      ∙ items-reads all (done ++ (None, s) ∷ []) h.3 end_place rest h.6 (omega arith) (omega (arith, defaults-append done None s, few))
      ∙ ap (λ w. Ok (w, token_of classes.EndCase end_place ∷ rest)) (append_assoc done ((None, s) ∷ []) (list_of_items all))

  -- Statements

  conditioned : (test : SourceExpression) (open_place close_place : SourcePlace) (inside after rest : List SourceToken) → SpellsExpression test inside → height_of test < k
      → condition k (token_of classes.LeftParen open_place ∷ ((inside ++ token_of classes.RightParen close_place ∷ after) ++ rest)) ≡ Ok (test, after ++ rest)
  conditioned test open_place close_place inside after rest h low =
      ap (λ f. condition k (token_of classes.LeftParen open_place ∷ f))
      (append_assoc inside (token_of classes.RightParen close_place ∷ after) rest ∙ sym (append_assoc inside (token_of classes.RightParen close_place ∷ []) (after ++ rest)))
      ∙ condition-reads k test (token_of classes.LeftParen open_place ∷ (inside ++ token_of classes.RightParen close_place ∷ [])) (after ++ rest) (open_place, close_place, inside, h, refl) low

  loop-reads : (word : Class) (made : Looping) (place open_place close_place : SourcePlace) (test : SourceExpression) (body : SourceStatement) (inside after rest : List SourceToken)
      → SpellsExpression test inside → SpellsStatement body after → height_of test < k → statement_height body < k → EndsStatement body (next_class rest)
      → looped k (below_of k) made (token_of word place ∷ token_of classes.LeftParen open_place ∷ ((inside ++ token_of classes.RightParen close_place ∷ after) ++ rest)) ≡ Ok
      (made place test body, rest)
  unfolding looped
  loop-reads word made place open_place close_place test body inside after rest h g test_low low ends =
      let some : nat_lt 0 k ≡ true = lt-ltb 0 k (omega arith) in
      rw (some, conditioned test open_place close_place inside after rest h test_low, below body after rest g low ends) refl

  headed : (target value : List SourceToken) (sign end : SourceToken) (behind rest : List SourceToken)
      → (target ++ sign ∷ (value ++ end ∷ behind)) ++ rest ≡ (target ++ sign ∷ value) ++ end ∷ (behind ++ rest)
  headed target value sign end behind rest =
      append_assoc target (sign ∷ (value ++ end ∷ behind)) rest
      ∙ ap (λ f. target ++ sign ∷ f) (append_assoc value (end ∷ behind) rest)
      ∙ sym (append_assoc target (sign ∷ value) (end ∷ (behind ++ rest)))

  head-read : (t : SourceTarget) (value : SourceExpression) (sign_place : SourcePlace) (target_tokens value_tokens : List SourceToken) (end : SourceToken) (behind rest : List SourceToken)
      → SpellsTarget t target_tokens → SpellsExpression value value_tokens → target_height t < k → height_of value < k → EndsBefore 11 (Some (class_of end.kind))
      → head_assignment k ((target_tokens ++ token_of classes.Assign sign_place ∷ (value_tokens ++ end ∷ behind)) ++ rest) ≡ Ok ((t, value), end ∷ (behind ++ rest))
  head-read t value sign_place target_tokens value_tokens end behind rest h g target_low low ends =
      ap (head_assignment k) (headed target_tokens value_tokens (token_of classes.Assign sign_place) end behind rest)
      ∙ head-reads k (t, value) (target_tokens ++ token_of classes.Assign sign_place ∷ value_tokens) (end ∷ (behind ++ rest)) (sign_place, target_tokens, value_tokens, h, g, refl) target_low low ends

  case-reads : (kind : CaseKind) (place : SourcePlace) (value : SourceExpression) (items : SourceCaseItems) (open_place close_place end_place : SourcePlace) (inside between rest : List SourceToken)
      → 1 ≤ items_in items → defaults_in items ≤ 1 → SpellsExpression value inside → SpellsItems items between → height_of value < k → items_height items < k
      → case k (below_of k) kind (token_of (case_word kind) place ∷ token_of classes.LeftParen open_place ∷
      ((inside ++ token_of classes.RightParen close_place ∷ (between ++ token_of classes.EndCase end_place ∷ [])) ++ rest))
      ≡ Ok (CaseStatement place kind value items, rest)
  unfolding case items
  case-reads kind place value no_source_items open_place close_place end_place inside between rest some few h g low items_low = absurd (let p : 1 ≤ 0 = some in omega arith)
  case-reads kind place value (labelled labels s all) open_place close_place end_place inside between rest some few h g low items_low =
      let deeper : nat_lt 0 k ≡ true = lt-ltb 0 k (omega arith) in
      let first = labelled-reads [] labels s g.0 g.1 g.2 (g.3 ++ token_of classes.EndCase end_place ∷ rest) g.4 g.5 (omega arith) (omega arith) (items-not all g.3 end_place rest g.6) in
      let others = items-reads all ((Some (list_of_labels labels), s) ∷ []) g.3 end_place rest g.6 (omega arith) (omega (arith, few)) in
      let all_tokens : (between ++ token_of classes.EndCase end_place ∷ []) ++ rest ≡ g.1 ++ token_of classes.Colon g.0 ∷ (g.2 ++ (g.3 ++ token_of classes.EndCase end_place ∷ rest)) =
      append_assoc between (token_of classes.EndCase end_place ∷ []) rest ∙ ap (λ f. f ++ token_of classes.EndCase end_place ∷ rest) g.7
      ∙ regrouped-labelled g.1 g.2 g.3 (token_of classes.Colon g.0) (token_of classes.EndCase end_place ∷ rest) in
      rw (
        deeper,
        conditioned value open_place close_place inside (between ++ token_of classes.EndCase end_place ∷ []) rest h low,
        all_tokens,
        first,
        others,
        expect-reads classes.EndCase end_place rest,
      )
      (ap (λ l. Ok (CaseStatement place kind value l, rest)) (items_list-list (labelled labels s all)))
  case-reads kind place value (otherwise s all) open_place close_place end_place inside between rest some few h g low items_low =
      let deeper : nat_lt 0 k ≡ true = lt-ltb 0 k (omega arith) in
      let first = default-reads [] s g.0 g.1 g.2 (g.3 ++ token_of classes.EndCase end_place ∷ rest) g.4 g.5 (omega arith) (items-not all g.3 end_place rest g.6) refl in
      let others = items-reads all ((None, s) ∷ []) g.3 end_place rest g.6 (omega arith) (omega (arith, few)) in
      let all_tokens : (between ++ token_of classes.EndCase end_place ∷ []) ++ rest ≡ token_of classes.Default g.0 ∷ (g.1 ++ (g.2 ++ (g.3 ++ token_of classes.EndCase end_place ∷ rest))) =
      append_assoc between (token_of classes.EndCase end_place ∷ []) rest ∙ ap (λ f. f ++ token_of classes.EndCase end_place ∷ rest) g.7
      ∙ ap (λ f. token_of classes.Default g.0 ∷ f) (regrouped-default g.1 g.2 g.3 (token_of classes.EndCase end_place ∷ rest)) in
      rw (
        deeper,
        conditioned value open_place close_place inside (between ++ token_of classes.EndCase end_place ∷ []) rest h low,
        all_tokens,
        first,
        others,
        expect-reads classes.EndCase end_place rest,
      )
      (ap (λ l. Ok (CaseStatement place kind value l, rest)) (items_list-list (otherwise s all)))

  statement_by-case : (kind : CaseKind) (tokens : List SourceToken) → statement_by k (below_of k) (Some (case_word kind)) tokens ≡ case k (below_of k) kind tokens
  statement_by-case kinds_of_case.Exact tokens = refl
  statement_by-case kinds_of_case.IgnoreZ tokens = refl
  statement_by-case kinds_of_case.IgnoreXz tokens = refl

  pub statement_by-reads : (s : SourceStatement) (ts rest : List SourceToken) → SpellsStatement s ts → statement_height s ≤ k → EndsStatement s (next_class rest)
      → by_class (statement_by k (below_of k)) (ts ++ rest) ≡ Ok (s, rest)
  unfolding block block_body conditional forever event delayed for_loop
  statement_by-reads (NullStatement place) ts rest h low ends = ap (λ f. by_class (statement_by k (below_of k)) (f ++ rest)) h
  statement_by-reads (BlockStatement place statements) ts rest h low ends =
      let regrouped : (h.1 ++ (h.2 ++ token_of classes.End h.0 ∷ [])) ++ rest ≡ h.1 ++ (h.2 ++ token_of classes.End h.0 ∷ rest) =
      append_assoc h.1 (h.2 ++ token_of classes.End h.0 ∷ []) rest ∙ ap (λ f. h.1 ++ f) (append_assoc h.2 (token_of classes.End h.0 ∷ []) rest) in
      let named = label-reads h.1 (h.2 ++ token_of classes.End h.0 ∷ rest) h.3 (body-not statements h.2 h.0 rest h.4 classes.Colon refl (λ e. cc)) in
      let read = body-reads statements [] h.2 h.0 rest h.4 low in
      ap (λ f. by_class (statement_by k (below_of k)) (f ++ rest)) h.5
      ∙ led k (below_of k) classes.Begin place ((h.1 ++ (h.2 ++ token_of classes.End h.0 ∷ [])) ++ rest)
      ∙ rw (regrouped, named, read, expect-reads classes.End h.0 rest) (ap (λ l. Ok (BlockStatement place l, rest)) (statements_list-list statements))
  statement_by-reads (IfStatement place test first) ts rest h low ends =
      let some : nat_lt 0 k ≡ true = lt-ltb 0 k (omega arith) in
      let inside = below first h.3 rest h.5 (omega arith) (λ unfinished. ends refl) in
      ap (λ f. by_class (statement_by k (below_of k)) (f ++ rest)) h.6
      ∙ led k (below_of k) classes.If place (token_of classes.LeftParen h.0 ∷ ((h.2 ++ token_of classes.RightParen h.1 ∷ h.3) ++ rest))
      ∙ rw (some, conditioned test h.0 h.1 h.2 h.3 rest h.4 (omega arith), inside) (else_by-other k (below_of k) place test first (next_class rest) rest (ends refl))
  statement_by-reads (IfElseStatement place test first second) ts rest h low ends =
      let some : nat_lt 0 k ≡ true = lt-ltb 0 k (omega arith) in
      let tail = token_of classes.Else h.3 ∷ (h.6 ++ rest) in
      let finished = h.0 in
      let inside = below first h.5 (token_of classes.Else h.3 ∷ (h.6 ++ rest)) h.8 (omega arith) (λ unfinished e. let p : false ≡ true = sym h.0 ∙ unfinished in cc) in
      let last = below second h.6 rest h.9 (omega arith) ends in
      ap (λ f. by_class (statement_by k (below_of k)) (f ++ rest)) h.10
      ∙ led k (below_of k) classes.If place (token_of classes.LeftParen h.1 ∷ ((h.4 ++ token_of classes.RightParen h.2 ∷ (h.5 ++ token_of classes.Else h.3 ∷ h.6)) ++ rest))
      ∙ rw (some, conditioned test h.1 h.2 h.4 (h.5 ++ token_of classes.Else h.3 ∷ h.6) rest h.7 (omega arith), append_assoc h.5 (token_of classes.Else h.3 ∷ h.6) rest, inside)
      (ap (λ c. else_by (below_of k) place test first c (token_of classes.Else h.3 ∷ (h.6 ++ rest))) (next-class classes.Else h.3 (h.6 ++ rest))
      ∙ else_by-else k (below_of k) place test first (token_of classes.Else h.3 ∷ (h.6 ++ rest)) h.0
      ∙ ap (λ r. followed r (λ second. give (IfElseStatement place test first second))) last)
  statement_by-reads (CaseStatement place kind value items) ts rest h low ends =
      ap (λ f. by_class (statement_by k (below_of k)) (f ++ rest)) h.9
      ∙ led k (below_of k) (case_word kind) place (token_of classes.LeftParen h.2 ∷ ((h.5 ++ token_of classes.RightParen h.3 ∷ (h.6 ++ token_of classes.EndCase h.4 ∷ [])) ++ rest))
      ∙ statement_by-case kind (token_of (case_word kind) place ∷ token_of classes.LeftParen h.2 ∷ ((h.5 ++ token_of classes.RightParen h.3 ∷ (h.6 ++ token_of classes.EndCase h.4 ∷ [])) ++ rest))
      ∙ case-reads kind place value items h.2 h.3 h.4 h.5 h.6 rest h.0 h.1 h.7 h.8 (omega arith) (omega arith)
  statement_by-reads (ForStatement place first_target first test next_target next body) ts rest h low ends =
      let some : nat_lt 0 k ≡ true = lt-ltb 0 k (omega arith) in
      let after_next = token_of classes.RightParen h.5 ∷ h.11 in
      let next_part = h.9 ++ token_of classes.Assign h.4 ∷ (h.10 ++ token_of classes.RightParen h.5 ∷ h.11) in
      let test_part = h.8 ++ token_of classes.Semicolon h.3 ∷ (h.9 ++ token_of classes.Assign h.4 ∷ (h.10 ++ token_of classes.RightParen h.5 ∷ h.11)) in
      let first_read = head-read first_target first h.1 h.6 h.7 (token_of classes.Semicolon h.2)
      (h.8 ++ token_of classes.Semicolon h.3 ∷ (h.9 ++ token_of classes.Assign h.4 ∷ (h.10 ++ token_of classes.RightParen h.5 ∷ h.11))) rest h.12 h.13 (omega arith) (omega arith) (omega arith) in
      let test_tokens = append_assoc h.8 (token_of classes.Semicolon h.3 ∷ (h.9 ++ token_of classes.Assign h.4 ∷ (h.10 ++ token_of classes.RightParen h.5 ∷ h.11))) rest in
      let test_read = inner_expression-reads k test h.8 (token_of classes.Semicolon h.3 ∷ ((h.9 ++ token_of classes.Assign h.4 ∷ (h.10 ++ token_of classes.RightParen h.5 ∷ h.11)) ++ rest)) h.14
      (omega arith) (omega arith) in
      let next_read = head-read next_target next h.4 h.9 h.10 (token_of classes.RightParen h.5) h.11 rest h.15 h.16 (omega arith) (omega arith) (omega arith) in
      let inside = below body h.11 rest h.17 (omega arith) ends in
      ap (λ f. by_class (statement_by k (below_of k)) (f ++ rest)) h.18
      ∙ led k (below_of k) classes.For place (token_of classes.LeftParen h.0 ∷ ((h.6 ++ token_of classes.Assign h.1 ∷ (h.7 ++ token_of classes.Semicolon h.2
      ∷ (h.8 ++ token_of classes.Semicolon h.3 ∷ (h.9 ++ token_of classes.Assign h.4 ∷ (h.10 ++ token_of classes.RightParen h.5 ∷ h.11))))) ++ rest))
      ∙ rw (some, first_read, test_tokens, test_read, next_read, inside) refl
  statement_by-reads (WhileStatement place test body) ts rest h low ends =
      ap (λ f. by_class (statement_by k (below_of k)) (f ++ rest)) h.6
      ∙ led k (below_of k) classes.While place (token_of classes.LeftParen h.0 ∷ ((h.2 ++ token_of classes.RightParen h.1 ∷ h.3) ++ rest))
      ∙ loop-reads classes.While WhileStatement place h.0 h.1 test body h.2 h.3 rest h.4 h.5 (omega arith) (omega arith) ends
  statement_by-reads (RepeatStatement place test body) ts rest h low ends =
      ap (λ f. by_class (statement_by k (below_of k)) (f ++ rest)) h.6
      ∙ led k (below_of k) classes.Repeat place (token_of classes.LeftParen h.0 ∷ ((h.2 ++ token_of classes.RightParen h.1 ∷ h.3) ++ rest))
      ∙ loop-reads classes.Repeat RepeatStatement place h.0 h.1 test body h.2 h.3 rest h.4 h.5 (omega arith) (omega arith) ends
  statement_by-reads (ForeverStatement place body) ts rest h low ends =
      let some : nat_lt 0 k ≡ true = lt-ltb 0 k (omega arith) in
      ap (λ f. by_class (statement_by k (below_of k)) (f ++ rest)) h.2
      ∙ led k (below_of k) classes.Forever place (h.0 ++ rest)
      ∙ rw (some, below body h.0 rest h.1 (omega arith) ends) refl
  statement_by-reads (WaitStatement place test body) ts rest h low ends =
      ap (λ f. by_class (statement_by k (below_of k)) (f ++ rest)) h.6
      ∙ led k (below_of k) classes.Wait place (token_of classes.LeftParen h.0 ∷ ((h.2 ++ token_of classes.RightParen h.1 ∷ h.3) ++ rest))
      ∙ loop-reads classes.Wait WaitStatement place h.0 h.1 test body h.2 h.3 rest h.4 h.5 (omega arith) (omega arith) ends
  statement_by-reads (EventStatement place w body) ts rest h low ends =
      let some : nat_lt 0 k ≡ true = lt-ltb 0 k (omega arith) in
      ap (λ f. by_class (statement_by k (below_of k)) (f ++ rest)) h.4
      ∙ rw (some, append_assoc h.0 h.1 rest, waits-reads k w h.0 (h.1 ++ rest) h.2 (omega arith), below body h.1 rest h.3 (omega arith) ends) refl
  statement_by-reads (DelayStatement place d body) ts rest h low ends =
      let some : nat_lt 0 k ≡ true = lt-ltb 0 k (omega arith) in
      ap (λ f. by_class (statement_by k (below_of k)) (f ++ rest)) h.4
      ∙ rw (some, append_assoc h.0 h.1 rest, inner_delay-reads k d h.0 (h.1 ++ rest) h.2 (omega arith), below body h.1 rest h.3 (omega arith) ends) refl
  statement_by-reads (BlockingStatement place t delay value) ts rest h low ends =
      let tail = token_of classes.Assign h.1 ∷ (h.4 ++ (h.5 ++ token_of classes.Semicolon h.2 ∷ rest)) in
      ap (λ f. by_class (statement_by k (below_of k)) (f ++ rest)) h.9
      ∙ ap (by_class (statement_by k (below_of k))) (grouped k h.3 h.4 h.5 (token_of classes.Assign h.1) (token_of classes.Semicolon h.2) rest)
      ∙ target-led k (below_of k) t h.3 (token_of classes.Assign h.1 ∷ (h.4 ++ (h.5 ++ token_of classes.Semicolon h.2 ∷ rest))) h.6
      ∙ assignment-reads k t h.3 (token_of classes.Assign h.1 ∷ (h.4 ++ (h.5 ++ token_of classes.Semicolon h.2 ∷ rest))) h.6 (omega arith) (omega arith)
      ∙ ap (λ r. followed r (λ x. give (BlockingStatement (place_of_target t) t x.0 x.1))) (assigned-reads k delay value h.2 h.4 h.5 rest h.7 h.8 (omega arith) (omega arith))
      ∙ ap (λ p. Ok (BlockingStatement p t delay value, rest)) h.0
  statement_by-reads (NonblockingStatement place t delay value) ts rest h low ends =
      let tail = token_of classes.LessEqual h.1 ∷ (h.4 ++ (h.5 ++ token_of classes.Semicolon h.2 ∷ rest)) in
      ap (λ f. by_class (statement_by k (below_of k)) (f ++ rest)) h.9
      ∙ ap (by_class (statement_by k (below_of k))) (grouped k h.3 h.4 h.5 (token_of classes.LessEqual h.1) (token_of classes.Semicolon h.2) rest)
      ∙ target-led k (below_of k) t h.3 (token_of classes.LessEqual h.1 ∷ (h.4 ++ (h.5 ++ token_of classes.Semicolon h.2 ∷ rest))) h.6
      ∙ assignment-reads k t h.3 (token_of classes.LessEqual h.1 ∷ (h.4 ++ (h.5 ++ token_of classes.Semicolon h.2 ∷ rest))) h.6 (omega arith) (omega arith)
      ∙ ap (λ r. followed r (λ x. give (NonblockingStatement (place_of_target t) t x.0 x.1))) (assigned-reads k delay value h.2 h.4 h.5 rest h.7 h.8 (omega arith) (omega arith))
      ∙ ap (λ p. Ok (NonblockingStatement p t delay value, rest)) h.0
  statement_by-reads (IgnoredTask place) ts rest h low ends =
      ap (λ c. statement_by k (below_of k) c (ts ++ rest)) (ap (λ f. next_class (f ++ rest)) h.6 ∙ ap (λ (c : Class). Some c) h.1)
      ∙ ap (λ r. followed r (λ place. give (IgnoredTask place))) (task-reads classes.IgnoredTask place ts rest h)
  statement_by-reads (FinishTask place) ts rest h low ends =
      ap (λ c. statement_by k (below_of k) c (ts ++ rest)) (ap (λ f. next_class (f ++ rest)) h.6 ∙ ap (λ (c : Class). Some c) h.1)
      ∙ ap (λ r. followed r (λ place. give (FinishTask place))) (task-reads classes.FinishTask place ts rest h)

pub below-reads : (k : ℕ) → BelowReads k
unfolding below_of
below-reads zero s ts rest h low ends = absurd (let p : statement_height s < 0 = low in omega arith)
below-reads (suc k) s ts rest h low ends = statement_by-reads k (below-reads k) s ts rest h (omega (arith, low)) ends

-- each spelled statement within the levels is read
pub statement-reads : (k : ℕ) (s : SourceStatement) (ts rest : List SourceToken) → SpellsStatement s ts → statement_height s ≤ k → EndsStatement s (next_class rest) →
    statement k (ts ++ rest) ≡ Ok (s, rest)
unfolding statement
statement-reads k s ts rest h low ends = statement_by-reads k (below-reads k) s ts rest h low ends
