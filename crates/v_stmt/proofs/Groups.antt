-- Reading part by part gives what reading by groups gives.
use Rattle.std.proofs.Common.{◌≡◌, ℕ, List, ◌∷◌, Option, Some, None, Ok, Err, refl, sym, ◌∙◌}
use Rattle.vf_base.specs.Base.{SourcePlace}
use Rattle.v_tree.specs.Tokens.{SourceToken}
use Rattle.v_tree.specs.Trees.{SourceExpression, SourceTarget, SourceStatement}
use Rattle.v_readers.specs.declared.class.Class.{Class}
use Rattle.v_readers.specs.declared.class.Class.TheVariants as classes
use Rattle.v_readers.specs.Reading.{Reader, Reading, ◌>>=◌, followed, give, next_class, by_class, expect, step, ready, down}
use Rattle.v_expr.specs.Parts.{inner_expression, inner_target}
use Rattle.v_stmt.specs.declared.parts.AssignmentKind.{AssignmentKind}
use Rattle.v_stmt.specs.declared.parts.AssignmentKind.TheVariants.{Blocking, Nonblocking}
use Rattle.v_stmt.specs.Statements.{assigned_delay, assigned, assignment_by, assignment, head_assignment, for_loop}
use Rattle.v_stmt.specs.Groups.{ForParts, for_statement, ended, valued, head_ended, for_steps, for_head, sign_by, sign, signed_side, assignment_of}

-- what follows a group follows its last part
through : {A B C : Type 0} (r : Reading A) (f : A → Reader B) (g : B → Reader C) → followed (followed r f) g ≡ followed r (λ x ts. followed (f x ts) g)
through (Ok x) f g = refl
through (Err stop) f g = refl

alike : {A B : Type 0} (r : Reading A) (f g : A → Reader B) → ((x : A) (ts : List SourceToken) → f x ts ≡ g x ts) → followed r f ≡ followed r g
alike (Ok x) f g h = h x.0 x.1
alike (Err stop) f g h = refl

ended-through : {C : Type 0} (class : Class) (k : ℕ) (g : SourceExpression → Reader C) (tokens : List SourceToken)
    → followed (ended class k tokens) g ≡ (inner_expression k >>= λ e. expect class >>= λ closing. g e) tokens
unfolding ended
ended-through class k g tokens = through (inner_expression k tokens) (λ e. expect class >>= λ closing. give e) g
    ∙ alike (inner_expression k tokens) _ (λ e. expect class >>= λ closing. g e) (λ e ts. through (expect class ts) (λ closing. give e) g)

head_ended-through : {C : Type 0} (class : Class) (k : ℕ) (g : SourceTarget × SourceExpression → Reader C) (tokens : List SourceToken)
    → followed (head_ended class k tokens) g ≡ (head_assignment k >>= λ head. expect class >>= λ closing. g head) tokens
unfolding head_ended
head_ended-through class k g tokens = through (head_assignment k tokens) (λ head. expect class >>= λ closing. give head) g
    ∙ alike (head_assignment k tokens) _ (λ head. expect class >>= λ closing. g head) (λ head ts. through (expect class ts) (λ closing. give head) g)

pub head_assignment_is : (k : ℕ) (tokens : List SourceToken) → head_assignment k tokens ≡ (inner_target k >>= λ t. valued k >>= λ value. give (t, value)) tokens
unfolding head_assignment valued
head_assignment_is k tokens = alike (inner_target k tokens) _ (λ t. valued k >>= λ value. give (t, value))
    (λ t ts. sym (through (expect classes.Assign ts) (λ sign. inner_expression k) (λ value. give (t, value))))

pub assigned_is : (k : ℕ) (tokens : List SourceToken) → assigned k tokens ≡ (assigned_delay k >>= λ delay. ended classes.Semicolon k >>= λ value. give (delay, value)) tokens
unfolding assigned
assigned_is k tokens = alike (assigned_delay k tokens) _ (λ delay. ended classes.Semicolon k >>= λ value. give (delay, value))
    (λ delay ts. sym (ended-through classes.Semicolon k (λ value. give (delay, value)) ts))

module _ (k : ℕ) (t : SourceTarget) where
  abbrev finish : AssignmentKind × (Option SourceExpression × SourceExpression) → Reader SourceStatement
  finish x = give (assignment_of x.0 t x.1.0 x.1.1)

  -- behind a sign of this kind
  signed : (kind : AssignmentKind) (tokens : List SourceToken)
      → followed (followed (followed (step tokens) (λ sign. give kind)) (λ kind. assigned k >>= λ x. give (kind, x))) finish ≡ (step >>= λ sign. assigned k >>= λ x. finish (kind, x)) tokens
  signed kind tokens =
      through (followed (step tokens) (λ sign. give kind)) (λ kind. assigned k >>= λ x. give (kind, x)) finish
      ∙ through (step tokens) (λ sign. give kind) (λ kind ts. followed (followed (assigned k ts) (λ x. give (kind, x))) finish)
      ∙ alike (step tokens) _ _ (λ sign ts. through (assigned k ts) (λ x. give (kind, x)) finish)

  by-sign : (class : Option Class) (tokens : List SourceToken)
      → followed (followed (sign_by class tokens) (λ kind. assigned k >>= λ x. give (kind, x))) finish ≡ assignment_by k t class tokens
  by-sign (Some classes.Assign) tokens = signed Blocking tokens
  by-sign (Some classes.LessEqual) tokens = signed Nonblocking tokens
  by-sign None tokens = refl
  by-sign (Some _) tokens = refl

pub assignment_is : (k : ℕ) (tokens : List SourceToken)
    → assignment k tokens ≡ (ready 0 k >>= λ level. inner_target k >>= λ t. signed_side k >>= λ x. give (assignment_of x.0 t x.1.0 x.1.1)) tokens
unfolding assignment signed_side sign
assignment_is k tokens = alike (ready 0 k tokens) _ (λ level. inner_target k >>= λ t. signed_side k >>= λ x. give (assignment_of x.0 t x.1.0 x.1.1))
    (λ level ts. alike (inner_target k ts) (λ t. by_class (assignment_by k t)) (λ t. signed_side k >>= λ x. give (assignment_of x.0 t x.1.0 x.1.1)) (λ t ts. sym (by-sign k t (next_class ts) ts)))

module _ (k : ℕ) (below : Reader SourceStatement) (place : SourcePlace) where
  abbrev made : ForParts → Reader SourceStatement
  made h = below >>= λ body. give (for_statement place h body)

  steps-through : (first : SourceTarget × SourceExpression) (tokens : List SourceToken)
      → followed (for_steps k tokens) (λ steps. made (first, steps))
      ≡ (inner_expression k >>= λ test. expect classes.Semicolon >>= λ test_end. head_assignment k >>= λ next. expect classes.RightParen >>= λ closing. made (first, (test, next))) tokens
  unfolding for_steps
  steps-through first tokens =
      through (ended classes.Semicolon k tokens) (λ test. head_ended classes.RightParen k >>= λ next. give (test, next)) (λ steps. made (first, steps))
      ∙ ended-through classes.Semicolon k _ tokens
      ∙ alike (inner_expression k tokens) _ _ (λ test ts. alike (expect classes.Semicolon ts) _ _ (λ test_end ts.
      through (head_ended classes.RightParen k ts) (λ next. give (test, next)) (λ steps. made (first, steps))
      ∙ head_ended-through classes.RightParen k (λ next. made (first, (test, next))) ts))

  head-through : (tokens : List SourceToken)
      → followed (for_head k tokens) (λ h. made h)
      ≡ (expect classes.LeftParen >>= λ opening. head_assignment k >>= λ first. expect classes.Semicolon >>= λ first_end.
      inner_expression k >>= λ test. expect classes.Semicolon >>= λ test_end. head_assignment k >>= λ next. expect classes.RightParen >>= λ closing. made (first, (test, next))) tokens
  unfolding for_head
  head-through tokens =
      through (expect classes.LeftParen tokens) (λ opening. head_ended classes.Semicolon k >>= λ first. for_steps k >>= λ steps. give (first, steps)) (λ h. made h)
      ∙ alike (expect classes.LeftParen tokens) _ _ (λ opening ts.
      through (head_ended classes.Semicolon k ts) (λ first. for_steps k >>= λ steps. give (first, steps)) (λ h. made h)
      ∙ head_ended-through classes.Semicolon k _ ts
      ∙ alike (head_assignment k ts) _ _ (λ first ts. alike (expect classes.Semicolon ts) _ _ (λ first_end ts.
      through (for_steps k ts) (λ steps. give (first, steps)) (λ h. made h)
      ∙ steps-through first ts)))

pub for_loop_is : (k : ℕ) (below : Reader SourceStatement) (tokens : List SourceToken)
    → for_loop k below tokens ≡ (down 0 k >>= λ place. for_head k >>= λ h. below >>= λ body. give (for_statement place h body)) tokens
unfolding for_loop
for_loop_is k below tokens = alike (down 0 k tokens) _ _ (λ place ts. sym (head-through k below place ts))
