-- Reading an index bound by bound gives what reading it whole gives.
use Rattle.std.proofs.Common.{◌≡◌, List, Option, Some, None, Ok, Err, refl, sym, ◌∙◌}
use Rattle.v_tree.specs.Tokens.{SourceToken}
use Rattle.v_tree.specs.Trees.{SourceExpression, SourceIndex, IndexAt, IndexRange}
use Rattle.v_readers.specs.declared.class.Class.{Class}
use Rattle.v_readers.specs.declared.class.Class.TheVariants as classes
use Rattle.v_readers.specs.Reading.{Reader, Reading, ◌>>=◌, followed, give, next_class, by_class, expect, step}
use Rattle.v_expr.specs.Expressions.{Inner, bounds_by, bounds}
use Rattle.v_expr.specs.Bounds.{second_by}

-- the index of these bounds
abbrev pub between : SourceExpression → Option SourceExpression → SourceIndex
between from None = IndexAt from
between from (Some to) = IndexRange from to

through : {A B C : Type 0} (r : Reading A) (f : A → Reader B) (g : B → Reader C) → followed (followed r f) g ≡ followed r (λ x ts. followed (f x ts) g)
through (Ok x) f g = refl
through (Err stop) f g = refl

alike : {A B : Type 0} (r : Reading A) (f g : A → Reader B) → ((x : A) (ts : List SourceToken) → f x ts ≡ g x ts) → followed r f ≡ followed r g
alike (Ok x) f g h = h x.0 x.1
alike (Err stop) f g h = refl

module _ (inner : Inner) (from : SourceExpression) where
  abbrev made : Option SourceExpression → Reader SourceIndex
  made to = give (between from to)

  one : (tokens : List SourceToken) → (expect classes.RightBracket >>= λ closing. give (IndexAt from)) tokens
      ≡ followed ((expect classes.RightBracket >>= λ closing. give None) tokens) made
  one tokens = sym (through (expect classes.RightBracket tokens) (λ closing. give None) made)

  two : (tokens : List SourceToken) → (step >>= λ colon. inner 11 >>= λ to. expect classes.RightBracket >>= λ closing. give (IndexRange from to)) tokens
      ≡ followed ((step >>= λ colon. inner 11 >>= λ to. expect classes.RightBracket >>= λ closing. give (Some to)) tokens) made
  two tokens = sym (
      through (step tokens) (λ colon. inner 11 >>= λ to. expect classes.RightBracket >>= λ closing. give (Some to)) made
      ∙ alike (step tokens) _ _ (λ colon ts.
      through (inner 11 ts) (λ to. expect classes.RightBracket >>= λ closing. give (Some to)) made
      ∙ alike (inner 11 ts) _ _ (λ to rest. through (expect classes.RightBracket rest) (λ closing. give (Some to)) made)))

  each : (class : Option Class) (tokens : List SourceToken) → bounds_by inner from class tokens ≡ followed (second_by inner class tokens) made
  each (Some classes.Colon) tokens = two tokens
  each None tokens = one tokens
  each (Some _) tokens = one tokens

pub bounds_is : (inner : Inner) (from : SourceExpression) (tokens : List SourceToken)
    → bounds inner from tokens ≡ followed (by_class (second_by inner) tokens) (λ to. give (between from to))
unfolding bounds
bounds_is inner from tokens = each inner from (next_class tokens) tokens
