-- What the turns of the loops read.
use Rattle.std.proofs.Common.{◌≡◌, ℕ, ◌+◌, ◌-◌, ◌<◌, ◌≤◌, Bool, true, false, List, [], ◌∷◌, ◌++◌, length, Option, Some, None, Ok, Err, refl, ◌∙◌, ap, arith}
use Rattle.std.specs.Prelude.{nat_lt, if◌then◌else◌}
use Rattle.vf_base.specs.Base.{SourcePlace}
use Rattle.v_tree.specs.Tokens.{SourceToken}
use Rattle.v_tree.specs.Trees.{SourceEntry}
use Rattle.v_readers.specs.declared.class.Class.{Class}
use Rattle.v_readers.specs.declared.class.Class.TheVariants as classes
use Rattle.v_readers.specs.declared.stop.Stop.{Stop}
use Rattle.v_readers.specs.declared.stop.Stop.TheVariants as stops
use Rattle.v_readers.specs.Classes.{class_of, same_class}
use Rattle.v_readers.specs.Reading.{Wrong, Deep, place_of, Reader, Reading, followed, give, wrong, next_class, step, repeat}
use Rattle.v_readers.specs.Given.{Fails}
use Rattle.v_readers.specs.Reads.{turn-is, last-is, stop-is, Fails-through}
use Rattle.v_stmt.specs.Statements.{entry, separates, another_entry, entries_by, entries_turn, depth_behind, skipped}

-- Entries

entries_by-separates : (k : ℕ) (done : List SourceEntry) (class : Option Class) (tokens : List SourceToken) → separates class ≡ true → entries_by k done class tokens ≡ another_entry k done tokens
entries_by-separates k done (Some classes.OrWord) tokens h = refl
entries_by-separates k done (Some classes.Comma) tokens h = refl
entries_by-separates k done None tokens h = absurd (let p : false ≡ true = h in cc)
entries_by-separates k done (Some _) tokens h = absurd (let p : false ≡ true = h in cc)

entries_by-other : (k : ℕ) (done : List SourceEntry) (class : Option Class) (tokens : List SourceToken) → separates class ≡ false → entries_by k done class tokens ≡ Ok (None, tokens)
entries_by-other k done (Some classes.OrWord) tokens h = absurd (let p : true ≡ false = h in cc)
entries_by-other k done (Some classes.Comma) tokens h = absurd (let p : true ≡ false = h in cc)
entries_by-other k done None tokens h = refl
entries_by-other k done (Some _) tokens h = refl

module _ (k : ℕ) (done : List SourceEntry) (rest : List SourceToken) where
  turn-entry : separates (next_class rest) ≡ true → (place : SourcePlace) (between : List SourceToken) → step rest ≡ Ok (place, between)
      → entries_turn k done rest ≡ followed (entry k between) (λ e. give (Some (done ++ e ∷ [])))
  turn-entry h place between s = entries_by-separates k done (next_class rest) rest h ∙ ap (λ r. followed r (λ place tokens. followed (entry k tokens) (λ e. give (Some (done ++ e ∷ []))))) s

  pub entries-next : (place : SourcePlace) (between after : List SourceToken) (e : SourceEntry) → separates (next_class rest) ≡ true → step rest ≡ Ok (place, between) → entry k between ≡ Ok (e, after)
      → length after < length rest → repeat (entries_turn k) done rest ≡ repeat (entries_turn k) (done ++ e ∷ []) after
  entries-next place between after e h s r less = turn-is (entries_turn k) done (done ++ e ∷ []) rest after
      (turn-entry h place between s ∙ ap (λ r. followed r (λ e. give (Some (done ++ e ∷ [])))) r) less

  pub entries-fail : (place : SourcePlace) (between : List SourceToken) (stop : Stop) → separates (next_class rest) ≡ true → step rest ≡ Ok (place, between) → Fails stop (entry k between)
      → Fails stop (repeat (entries_turn k) done rest)
  entries-fail place between stop h s fails = Fails-through stop (entry k between) (repeat (entries_turn k) done rest)
      (λ e r. stop-is (entries_turn k) done rest e (turn-entry h place between s ∙ ap (λ r. followed r (λ e. give (Some (done ++ e ∷ [])))) r)) fails

  pub entries-end : separates (next_class rest) ≡ false → repeat (entries_turn k) done rest ≡ Ok (done, rest)
  entries-end h = last-is (entries_turn k) done rest (entries_by-other k done (next_class rest) rest h)

-- Arguments of system tasks

some_class : (a b : Class) → ◌≡◌ {A = Option Class} (Some a) (Some b) → a ≡ b
some_class a b e = cc

-- what comes of a token that leaves so many parentheses open
abbrev pub skipped_at : Option ℕ → Reader (Unit {0})
skipped_at None ts = give tt ts
skipped_at (Some depth) ts = skipped depth ts

skipped-by : (opens closes deeper : Bool) (depth : ℕ) (ts : List SourceToken)
    → (if opens then skipped (depth + 1) ts else (if closes then (if deeper then skipped (depth - 1) ts else give tt ts) else skipped depth ts))
    ≡ skipped_at (if opens then Some (depth + 1) else (if closes then (if deeper then Some (depth - 1) else None) else Some depth)) ts
skipped-by true closes deeper depth ts = refl
skipped-by false true true depth ts = refl
skipped-by false true false depth ts = refl
skipped-by false false deeper depth ts = refl

rest_in : Reading SourcePlace → List SourceToken
rest_in (Ok x) = x.1
rest_in (Err stop) = []

pub skipped_step : (depth : ℕ) (tokens : List SourceToken) (class : Class) (place : SourcePlace) (after : List SourceToken) → next_class tokens ≡ Some class → step tokens ≡ Ok (place, after)
    → skipped depth tokens ≡ skipped_at (depth_behind depth class) after
unfolding skipped rest_in
skipped_step depth [] class place after e s = absurd (let p : ◌≡◌ {A = Option Class} None (Some class) = e in cc)
skipped_step depth (t ∷ ts) class place after e s =
    skipped-by (same_class classes.LeftParen (class_of t.kind)) (same_class classes.RightParen (class_of t.kind)) (nat_lt 0 depth) depth ts
    ∙ ap (λ c. skipped_at (depth_behind depth c) ts) (some_class (class_of t.kind) class e)
    ∙ ap (skipped_at (depth_behind depth class)) (ap rest_in s)

pub skipped_none : (depth : ℕ) (tokens : List SourceToken) → next_class tokens ≡ None → skipped depth tokens ≡ wrong tokens
unfolding skipped
skipped_none depth [] e = refl
skipped_none depth (t ∷ ts) e = absurd (let p : ◌≡◌ {A = Option Class} (Some (class_of t.kind)) None = e in cc)

-- how many parentheses are open
abbrev pub opened : Option ℕ → ℕ
opened None = 0
opened (Some depth) = depth

pub opened-behind : (depth : ℕ) (class : Class) → opened (depth_behind depth class) ≤ depth + 1
opened-behind depth class = by (same_class classes.LeftParen class) (same_class classes.RightParen class) (nat_lt 0 depth)
  where
    by : (opens closes deeper : Bool) → opened (if opens then Some (depth + 1) else (if closes then (if deeper then Some (depth - 1) else None) else Some depth)) ≤ depth + 1
    by true closes deeper = omega arith
    by false true true = omega arith
    by false true false = omega arith
    by false false deeper = omega arith

-- a token that comes next is passed
pub step_fails : {A : Type 0} (stop : Stop) (tokens : List SourceToken) (class : Class) (r : Reading A) → next_class tokens ≡ Some class → Fails stop (step tokens) → Fails stop r
step_fails {A} stop [] class r e h = absurd (let p : ◌≡◌ {A = Option Class} None (Some class) = e in cc)
step_fails {A} stops.Memory (t ∷ ts) class r e h = tt
step_fails {A} (stops.Wrong rest) (t ∷ ts) class r e h = absurd (let p : ◌≡◌ {A = Reading SourcePlace} (Ok (place_of t, ts)) (Err (record { why = Wrong; rest = rest.now })) = h in cc)
step_fails {A} (stops.Deep rest) (t ∷ ts) class r e h = absurd (let p : ◌≡◌ {A = Reading SourcePlace} (Ok (place_of t, ts)) (Err (record { why = Deep; rest = rest.now })) = h in cc)
