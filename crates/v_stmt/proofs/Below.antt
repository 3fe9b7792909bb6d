-- What the calls one level down and the loops over statements and items read.
use Rattle.std.proofs.Common.{◌≡◌, ℕ, zero, suc, ◌-◌, ◌<◌, true, false, List, [], ◌∷◌, ◌++◌, length, Option, Some, None, Ok, refl, ◌∙◌, ap, arith, lt-ltb}
use Rattle.std.specs.Prelude.{nat_lt, if◌then◌else◌}
use Rattle.v_tree.specs.Tokens.{SourceToken}
use Rattle.v_tree.specs.Trees.{SourceStatement}
use Rattle.v_readers.specs.declared.class.Class.{Class}
use Rattle.v_readers.specs.declared.class.Class.TheVariants as classes
use Rattle.v_readers.specs.declared.stop.Stop.{Stop}
use Rattle.v_readers.specs.Reading.{Reader, ◌>>=◌, followed, give, ready, next_class, by_class, is_class, repeat}
use Rattle.v_readers.specs.Given.{Fails}
use Rattle.v_readers.specs.SeparatedLaws.{is_class-true}
use Rattle.v_readers.specs.Reads.{turn-is, last-is, stop-is, Fails-through}
use Rattle.v_stmt.specs.Statements.{another, begins, body_turn, statement_by, below_of, statement, CasePart, item, items_by, items_turn}

pub below_of_is : (levels : ℕ) (tokens : List SourceToken) → 0 < levels → below_of levels tokens ≡ statement (levels - 1) tokens
unfolding below_of statement
below_of_is zero tokens h = absurd (let p : 0 < 0 = h in omega arith)
below_of_is (suc levels) tokens h = let e : levels ≡ suc levels - 1 = omega arith in ap (λ k. by_class (statement_by k (below_of k)) tokens) e

module _ (k : ℕ) (done : List SourceStatement) (rest : List SourceToken) where
  body-turn : begins (next_class rest) ≡ true → body_turn k (below_of k) done rest ≡ another k (below_of k) done rest
  body-turn h = ap (λ b. (if b then another k (below_of k) done else give None) rest) h

  pub body-next : (s : SourceStatement) (after : List SourceToken) → 0 < k → begins (next_class rest) ≡ true → below_of k rest ≡ Ok (s, after) → length after < length rest
      → repeat (body_turn k (below_of k)) done rest ≡ repeat (body_turn k (below_of k)) (done ++ s ∷ []) after
  body-next s after some b read h =
      let low : nat_lt 0 k ≡ true = lt-ltb 0 k some in
      turn-is (body_turn k (below_of k)) done (done ++ s ∷ []) rest after (body-turn b ∙ rw (low, read) refl) h

  pub body-fail : (stop : Stop) → 0 < k → begins (next_class rest) ≡ true → Fails stop (below_of k rest) → Fails stop (repeat (body_turn k (below_of k)) done rest)
  body-fail stop some b h = Fails-through stop (below_of k rest) (repeat (body_turn k (below_of k)) done rest)
      (λ e fails.
      let low : nat_lt 0 k ≡ true = lt-ltb 0 k some in
      stop-is (body_turn k (below_of k)) done rest e (body-turn b ∙ rw (low, fails) refl)) h

  -- a body that is too deep
  pub body-deep : (stop : Stop) → begins (next_class rest) ≡ true → Fails stop (ready 0 k rest) → Fails stop (repeat (body_turn k (below_of k)) done rest)
  body-deep stop b h = Fails-through stop (ready 0 k rest) (repeat (body_turn k (below_of k)) done rest)
      (λ e fails. stop-is (body_turn k (below_of k)) done rest e (body-turn b ∙ ap (λ r. followed r (λ level. below_of k >>= λ s. give (Some (done ++ s ∷ [])))) fails)) h

  pub body-end : begins (next_class rest) ≡ false → repeat (body_turn k (below_of k)) done rest ≡ Ok (done, rest)
  body-end b = last-is (body_turn k (below_of k)) done rest (ap (λ b. (if b then another k (below_of k) done else give None) rest) b)

module _ (k : ℕ) (below : Reader SourceStatement) (done : List CasePart) (rest : List SourceToken) where
  items_by-other : (class : Option Class) → is_class classes.EndCase class ≡ false → items_by k below done class rest ≡ followed (item k below done rest) (λ more. give (Some more))
  items_by-other (Some classes.EndCase) h = absurd (let p : true ≡ false = h in cc)
  items_by-other _ h = refl

  pub items-next : (more : List CasePart) (after : List SourceToken) → is_class classes.EndCase (next_class rest) ≡ false → item k below done rest ≡ Ok (more, after) → length after < length rest
      → repeat (items_turn k below) done rest ≡ repeat (items_turn k below) more after
  items-next more after e read h = turn-is (items_turn k below) done more rest after (items_by-other (next_class rest) e ∙ ap (λ r. followed r (λ more. give (Some more))) read) h

  pub items-fail : (stop : Stop) → is_class classes.EndCase (next_class rest) ≡ false → Fails stop (item k below done rest) → Fails stop (repeat (items_turn k below) done rest)
  items-fail stop e h = Fails-through stop (item k below done rest) (repeat (items_turn k below) done rest)
      (λ s fails. stop-is (items_turn k below) done rest s (items_by-other (next_class rest) e ∙ ap (λ r. followed r (λ more. give (Some more))) fails)) h

  pub items-end : is_class classes.EndCase (next_class rest) ≡ true → repeat (items_turn k below) done rest ≡ Ok (done, rest)
  items-end e = last-is (items_turn k below) done rest (ap (λ c. items_by k below done c rest) (is_class-true classes.EndCase (next_class rest) e))
