-- What is assigned in braces holds something, and facts of the elements of a spelled list (IEEE 1364-2001, annexes A.6 and A.8.5).
use Rattle.std.proofs.Common.{◌≡◌, ℕ, suc, ◌+◌, ◌<◌, ◌≤◌, List, [], ◌∷◌, ◌++◌, length, ap, length-append, arith}
use Rattle.vf_base.specs.Lists.{AllHold}
use Rattle.v_tree.specs.Tokens.{SourceToken}
use Rattle.v_tree.specs.Trees.{SourceTarget, OneSelect, JoinedSelects, SourceStatement, NullStatement, BlockStatement, IfStatement, IfElseStatement, CaseStatement, ForStatement, WhileStatement}
use Rattle.v_tree.specs.Trees.{RepeatStatement, ForeverStatement, WaitStatement, EventStatement, DelayStatement, BlockingStatement, NonblockingStatement, IgnoredTask, FinishTask, SourceStatements}
use Rattle.v_tree.specs.Trees.{no_source_statements, more_source_statements, SourceCaseItems, no_source_items, labelled, otherwise}
use Rattle.v_readers.specs.declared.class.Class.{Class}
use Rattle.v_readers.specs.declared.class.Class.TheVariants as classes
use Rattle.v_readers.specs.Separated.{SpellsList, SpellsBehind}
use Rattle.v_expr.specs.Spelling.{SpellsTarget}
use Rattle.v_stmt.specs.Spelling.{SpellsStatement, SpellsBody, SpellsItems}
use Rattle.v_parse.specs.Heights.{greatest}
use Rattle.flat_laws.specs.Sizes.Statements.{HasSelects, HaveSelects, AllHaveSelects, ItemsHaveSelects}

-- Targets

pub target-has : (target : SourceTarget) (ts : List SourceToken) → SpellsTarget target ts → HasSelects target
target-has (OneSelect select) ts h = tt
target-has (JoinedSelects place []) ts h = h.2
target-has (JoinedSelects place (select ∷ selects)) ts h = tt

mutual
  pub statement-has : (s : SourceStatement) (ts : List SourceToken) → SpellsStatement s ts → HaveSelects s
  statement-has (NullStatement place) ts h = tt
  statement-has (BlockStatement place statements) ts h = body-has statements h.2 h.4
  statement-has (IfStatement place condition first) ts h = statement-has first h.3 h.5
  statement-has (IfElseStatement place condition first second) ts h = (statement-has first h.5 h.8, statement-has second h.6 h.9)
  statement-has (CaseStatement place kind value items) ts h = items-has items h.6 h.8
  statement-has (ForStatement place first_target first condition next_target next body) ts h =
      (target-has first_target h.6 h.12, target-has next_target h.9 h.15, statement-has body h.11 h.17)
  statement-has (WhileStatement place condition body) ts h = statement-has body h.3 h.5
  statement-has (RepeatStatement place count body) ts h = statement-has body h.3 h.5
  statement-has (ForeverStatement place body) ts h = statement-has body h.0 h.1
  statement-has (WaitStatement place condition body) ts h = statement-has body h.3 h.5
  statement-has (EventStatement place waits body) ts h = statement-has body h.1 h.3
  statement-has (DelayStatement place delay body) ts h = statement-has body h.1 h.3
  statement-has (BlockingStatement place target delay value) ts h = target-has target h.3 h.6
  statement-has (NonblockingStatement place target delay value) ts h = target-has target h.3 h.6
  statement-has (IgnoredTask place) ts h = tt
  statement-has (FinishTask place) ts h = tt

  body-has : (ss : SourceStatements) (ts : List SourceToken) → SpellsBody ss ts → AllHaveSelects ss
  body-has no_source_statements ts h = tt
  body-has (more_source_statements first rest) ts h = (statement-has first h.0 h.2, body-has rest h.1 h.3)

  items-has : (items : SourceCaseItems) (ts : List SourceToken) → SpellsItems items ts → ItemsHaveSelects items
  items-has no_source_items ts h = tt
  items-has (labelled labels statement rest) ts h = (statement-has statement h.2 h.5, items-has rest h.3 h.6)
  items-has (otherwise statement rest) ts h = (statement-has statement h.2 h.5, items-has rest h.3 h.6)

-- Lists

-- a fact of each element, where it follows from its spelling, its height and how many tokens it takes
behind-hold : {A : Type 0} (L : A → List SourceToken → Type 0) (separator : Class) (height : A → ℕ) (most few : ℕ) (P : A → Type 0) →
    ((x : A) (ts : List SourceToken) → L x ts → height x ≤ most → length ts < few → P x) →
    (xs : List A) (ts : List SourceToken) → SpellsBehind L separator xs ts → greatest height xs ≤ most → length ts < few → AllHold P xs
behind-hold L separator height most few P each [] ts h low short = tt
behind-hold L separator height most few P each (x ∷ xs) ts h low short =
    let long : length ts ≡ suc (length (h.1 ++ h.2)) = ap length h.5 in
    let both = length-append h.1 h.2 in
    (each x h.1 h.3 (omega (arith, low)) (omega (arith, long, both, short)), behind-hold L separator height most few P each xs h.2 h.4 (omega (arith, low)) (omega (arith, long, both, short)))

pub list-hold : {A : Type 0} (L : A → List SourceToken → Type 0) (separator : Class) (height : A → ℕ) (most few : ℕ) (P : A → Type 0) →
    ((x : A) (ts : List SourceToken) → L x ts → height x ≤ most → length ts < few → P x) →
    (xs : List A) (ts : List SourceToken) → SpellsList L separator xs ts → greatest height xs ≤ most → length ts < few → AllHold P xs
list-hold L separator height most few P each [] ts h low short = absurd h
list-hold L separator height most few P each (x ∷ xs) ts h low short =
    let long : length ts ≡ length (h.0 ++ h.1) = ap length h.4 in
    let both = length-append h.0 h.1 in
    (each x h.0 h.2 (omega (arith, low)) (omega (arith, long, both, short)), behind-hold L separator height most few P each xs h.1 h.3 (omega (arith, low)) (omega (arith, long, both, short)))

-- each element but the first takes a token at least
behind-long : {A : Type 0} (L : A → List SourceToken → Type 0) (separator : Class) (xs : List A) (ts : List SourceToken) → SpellsBehind L separator xs ts → length xs ≤ length ts
behind-long L separator [] ts h = omega arith
behind-long L separator (x ∷ xs) ts h = omega (arith, behind-long L separator xs h.2 h.4, ap length h.5, length-append h.1 h.2)

pub list-long : {A : Type 0} (L : A → List SourceToken → Type 0) (separator : Class) (xs : List A) (ts : List SourceToken) → SpellsList L separator xs ts → length xs ≤ suc (length ts)
list-long L separator [] ts h = absurd h
list-long L separator (x ∷ xs) ts h = omega (arith, behind-long L separator xs h.1 h.3, ap length h.4, length-append h.0 h.1)
