-- Reading the parts of statements is exact.
use Rattle.std.proofs.Common.{◌≡◌, ℕ, zero, suc, ◌+◌, ◌-◌, ◌<◌, Bool, true, false, List, [], ◌∷◌, ◌++◌, Option, Some, None, Ok, Err, refl, sym, ◌∙◌, ap, subst, arith, append_assoc, lt-ltb, ◌⊎◌, inl}
use Rattle.std.proofs.Common.{inr}
use Rattle.std.specs.Prelude.{nat_lt, if◌then◌else◌}
use Rattle.vf_base.specs.Base.{SourcePlace}
use Rattle.four_value.specs.declared.logic.Edge.{Edge}
use Rattle.four_value.specs.declared.logic.Edge.TheVariants.{Any, Pos, Neg}
use Rattle.v_tree.specs.Tokens.{SourceToken}
use Rattle.v_tree.specs.Trees.{SourceExpression, NoIndex, SourceSelect, SourceTarget, SourceEntry, SourceWaits, OnAnyRead, OnEntries}
use Rattle.v_readers.specs.declared.class.Class.{Class}
use Rattle.v_readers.specs.declared.class.Class.TheVariants as classes
use Rattle.v_readers.specs.Classes.{class_of, is_fixed, same_class, token_of, name_token, IsName}
use Rattle.v_readers.specs.ClassLaws.{same_class-true, class_of-kind_of}
use Rattle.v_readers.specs.Reading.{Why, Wrong, Deep, Reading, give, wrong, place_of}
use Rattle.v_readers.specs.Exact.{Language, SameNext, Stops, Tells, Exact, behind, exact-bind, exact-under, exact-give, exact-weaken}
use Rattle.v_readers.specs.Branches.{nowhere, Some-of, Branch, branch, branch-wrong, branch-step, exact-by_class, exact-after, exact-name, is-fixed-token}
use Rattle.v_readers.specs.Repeat.{append-nil, Turn, TurnFits, exact-repeat}
use Rattle.v_expr.specs.Spelling.{SpellsExpression, SpellsSelect, SpellsTarget, SpellsDelay}
use Rattle.v_expr.specs.Heights.{select_height, target_height}
use Rattle.v_expr.specs.ExpressionExact.{Below}
use Rattle.v_expr.specs.PartLaws.{inner_expression-exact, inner_select-exact, inner_target-exact, inner_delay-exact}
use Rattle.v_stmt.specs.Spelling.{SpellsLabel, SpellsColon, SpellsEdge, SpellsEntry, is_entry_separator, SpellsMoreEntries, SpellsEntries, name_entry, SpellsWaits, SpellsInnerDelay, is_balanced}
use Rattle.v_stmt.specs.Spelling.{SpellsArguments}
use Rattle.v_stmt.specs.Heights.{entries_height, waits_height, delay_height}
use Rattle.v_stmt.specs.Statements.{label_by, label, colon_by, colon, edged, entry_by, entry, another_entry, entries_by, entries_turn, entry_row, entries, inside_by, waits_by, waits}
use Rattle.v_stmt.specs.Statements.{assigned_delay_by, assigned_delay, skipped, arguments_by, arguments, condition, head_assignment}

-- What stands one level down

abbrev pub TargetBelow : ℕ → SourceTarget → Type 0
TargetBelow k t = target_height t < k

-- Labels and colons

pub label-exact : {C : Type 0} {k : ℕ} → Exact C (λ m. label) k (λ (x : Unit {0}) ts. SpellsLabel ts) (λ x. Unit {0})
unfolding label
label-exact {C} {k} = exact-by_class (λ m. label_by) ((tt, [], inl refl), λ c. (tt, [], inl refl, tt)) each
  where
    each : (class : Option Class) → Branch C (λ m. label_by class) k (λ (x : Unit {0}) ts. SpellsLabel ts) (λ x. Unit {0}) class
    each (Some classes.Colon) = branch-step refl (λ colon.
        exact-bind exact-name (λ n ts spelled.
        exact-give tt (inr (colon, n.1, n.0, spelled.0, ap (λ f. token_of classes.Colon colon ∷ (f ++ [])) spelled.1)) (λ c. tt)))
    each _ = branch (exact-give tt (inl refl) (λ c. tt))

pub colon-exact : {C : Type 0} {k : ℕ} → Exact C (λ m. colon) k (λ (x : Unit {0}) ts. SpellsColon ts) (λ x. Unit {0})
unfolding colon
colon-exact {C} {k} = exact-by_class (λ m. colon_by) ((tt, [], inl refl), λ c. (tt, [], inl refl, tt)) each
  where
    each : (class : Option Class) → Branch C (λ m. colon_by class) k (λ (x : Unit {0}) ts. SpellsColon ts) (λ x. Unit {0}) class
    each (Some classes.Colon) = branch-step refl (λ place. exact-give tt (inr (place, refl)) (λ c. tt))
    each _ = branch (exact-give tt (inl refl) (λ c. tt))

-- Event controls

abbrev pub a_name : List ℕ
a_name = 97 ∷ []

pub a_name-is : IsName a_name
a_name-is = class_of-kind_of classes.Name

abbrev pub a_select : SourceSelect
a_select = record { place = nowhere; name = a_name; index = NoIndex }

abbrev pub EntryBelow : ℕ → SourceEntry → Type 0
EntryBelow k e = select_height e.select < k

abbrev an_entry : SourceEntry
an_entry = record { edge = Any; select = a_select }

an_entry-spelled : SpellsEntry an_entry (name_token a_name nowhere ∷ [])
an_entry-spelled = ([], name_token a_name nowhere ∷ [], refl, (a_name-is, [], refl, refl), refl)

edged-exact : {k : ℕ} (edge : Edge) (front : List SourceToken) → SpellsEdge edge front → Exact (0 < k) (λ m. edged m edge) k (behind front SpellsEntry) (EntryBelow k)
edged-exact {k} edge front here = exact-bind (inner_select-exact k) (λ s after spelled.
    exact-give (record { edge = edge; select = s }) (front, after ++ [], here, subst (SpellsSelect s) (sym (append-nil after)) spelled, refl) (λ c. c.1))

pub entry-exact : (k : ℕ) → Exact (0 < k) entry k SpellsEntry (EntryBelow k)
unfolding entry
entry-exact k = exact-by_class (λ m. entry_by m)
    ((an_entry, name_token a_name nowhere ∷ [], an_entry-spelled), λ c. (an_entry, name_token a_name nowhere ∷ [], an_entry-spelled, c)) each
  where
    each : (class : Option Class) → Branch (0 < k) (λ m. entry_by m class) k SpellsEntry (EntryBelow k) class
    each (Some classes.PosEdge) = branch-step refl (λ word. edged-exact Pos (token_of classes.PosEdge word ∷ []) (word, refl))
    each (Some classes.NegEdge) = branch-step refl (λ word. edged-exact Neg (token_of classes.NegEdge word ∷ []) (word, refl))
    each _ = branch (edged-exact Any [] refl)

more_entries-append : (es : List SourceEntry) (front : List SourceToken) (e : SourceEntry) (separator : Class) (place : SourcePlace) (inside : List SourceToken)
    → is_entry_separator separator ≡ true → SpellsMoreEntries es front → SpellsEntry e inside
    → SpellsMoreEntries (es ++ e ∷ []) (front ++ token_of separator place ∷ (inside ++ []))
more_entries-append [] front e separator place inside is h s =
    (separator, is, place, inside, [], s, refl, ap (λ f. f ++ token_of separator place ∷ (inside ++ [])) h)
more_entries-append (d ∷ es) front e separator place inside is h s = (
  h.0,
  h.1,
  h.2,
  h.3,
  h.4 ++ token_of separator place ∷ (inside ++ []),
  h.5,
  more_entries-append es h.4 e separator place inside is h.6 s,
  ap (λ f. f ++ token_of separator place ∷ (inside ++ [])) h.7 ∙ ap (λ f. token_of h.0 h.2 ∷ f) (append_assoc h.3 h.4 (token_of separator place ∷ (inside ++ []))),
)

entries-append : (es : List SourceEntry) (front : List SourceToken) (e : SourceEntry) (separator : Class) (place : SourcePlace) (inside : List SourceToken)
    → is_entry_separator separator ≡ true → SpellsEntries es front → SpellsEntry e inside
    → SpellsEntries (es ++ e ∷ []) (front ++ token_of separator place ∷ (inside ++ []))
entries-append [] front e separator place inside is h s = absurd h
entries-append (d ∷ es) front e separator place inside is h s = (
  h.0,
  h.1 ++ token_of separator place ∷ (inside ++ []),
  h.2,
  more_entries-append es h.1 e separator place inside is h.3 s,
  ap (λ f. f ++ token_of separator place ∷ (inside ++ [])) h.4 ∙ append_assoc h.0 h.1 (token_of separator place ∷ (inside ++ [])),
)

entries_height-append : (es : List SourceEntry) (e : SourceEntry) (k : ℕ) → entries_height es < k → select_height e.select < k → entries_height (es ++ e ∷ []) < k
entries_height-append [] e k h g = omega arith
entries_height-append (d ∷ es) e k h g = let rest : entries_height (es ++ e ∷ []) < k = entries_height-append es e k (omega arith) g in omega arith

abbrev EntriesBelow : ℕ → List SourceEntry → Type 0
EntriesBelow k es = entries_height es < k

entries_turn-exact : (k : ℕ) (es : List SourceEntry) (front : List SourceToken) → SpellsEntries es front
    → Exact ((0 < k) × EntriesBelow k es) (λ m. entries_turn m es) k (Turn SpellsEntries es front) (TurnFits (EntriesBelow k))
entries_turn-exact k es front here = exact-by_class (λ m. entries_by m es) ((None, [], refl), λ c. (None, [], refl, tt)) each
  where
    one : (separator : Class) → is_fixed separator ≡ true → is_entry_separator separator ≡ true
        → Branch ((0 < k) × EntriesBelow k es) (λ m. another_entry m es) k (Turn SpellsEntries es front) (TurnFits (EntriesBelow k)) (Some separator)
    one separator fixed is = branch-step fixed (λ place.
        exact-bind (exact-under (λ c. c.0) (entry-exact k)) (λ e inside spelled.
        exact-give (Some (es ++ e ∷ [])) (entries-append es front e separator place inside is here spelled, omega arith)
        (λ c. entries_height-append es e k c.0.1 c.1)))

    each : (class : Option Class) → Branch ((0 < k) × EntriesBelow k es) (λ m. entries_by m es class) k (Turn SpellsEntries es front) (TurnFits (EntriesBelow k)) class
    each (Some classes.OrWord) = one classes.OrWord refl refl
    each (Some classes.Comma) = one classes.Comma refl refl
    each _ = branch (exact-give None refl (λ c. tt))

abbrev pub WaitsBelow : ℕ → SourceWaits → Type 0
WaitsBelow k w = waits_height w < k

entry_row-exact : (k : ℕ) → Exact (0 < k) entry_row k SpellsEntries (EntriesBelow k)
unfolding entry_row
entry_row-exact k =
    exact-bind (entry-exact k) (λ e front spelled.
    exact-under (λ c. (c.0, let h : select_height e.select < k = c.1 in omega arith))
    (exact-repeat {C = 0 < k} entries_turn {N = SpellsEntries} {G = EntriesBelow k} (entries_turn-exact k) (e ∷ []) front
    (front, [], spelled, refl, sym (append-nil front))))

entries-exact : (k : ℕ) (opening : SourcePlace) → Exact (0 < k) entries k (behind (token_of classes.LeftParen opening ∷ []) SpellsWaits) (WaitsBelow k)
unfolding entries
entries-exact k opening =
    exact-bind (entry_row-exact k) (λ all inside listed.
    exact-after classes.RightParen refl (λ closing.
    exact-give (OnEntries all) (inr (opening, closing, inside, listed, refl)) (λ c. c.1)))

pub waits-exact : (k : ℕ) → Exact (0 < k) waits k SpellsWaits (WaitsBelow k)
unfolding waits
waits-exact k = exact-by_class (λ m. waits_by m) some each
  where
    some : Some-of (0 < k) SpellsWaits (WaitsBelow k)
    some = ((OnAnyRead, token_of classes.Star nowhere ∷ [], inl (nowhere, refl)), λ c. (OnAnyRead, token_of classes.Star nowhere ∷ [], inl (nowhere, refl), c))

    inside : (opening : SourcePlace) (class : Option Class)
        → Branch (0 < k) (λ m. inside_by m class) k (behind (token_of classes.LeftParen opening ∷ []) SpellsWaits) (WaitsBelow k) class
    inside opening (Some classes.Star) = branch-step refl (λ star.
        exact-after classes.RightParen refl (λ closing.
        exact-give OnAnyRead (inr (opening, star, closing, refl)) (λ c. c)))
    inside opening _ = branch (entries-exact k opening)

    within : (opening : SourcePlace) → Some-of (0 < k) (behind (token_of classes.LeftParen opening ∷ []) SpellsWaits) (WaitsBelow k)
    within opening = (
      (OnAnyRead, token_of classes.Star nowhere ∷ token_of classes.RightParen nowhere ∷ [], inr (opening, nowhere, nowhere, refl)),
      λ c. (OnAnyRead, token_of classes.Star nowhere ∷ token_of classes.RightParen nowhere ∷ [], inr (opening, nowhere, nowhere, refl), c),
    )

    each : (class : Option Class) → Branch (0 < k) (λ m. waits_by m class) k SpellsWaits (WaitsBelow k) class
    each (Some classes.Star) = branch-step refl (λ star. exact-give OnAnyRead (inl (star, refl)) (λ c. c))
    each (Some classes.Name) = branch (exact-bind exact-name (λ n front spelled.
        exact-give (OnEntries (name_entry n.0 n.1 ∷ [])) (inl (n.0, n.1, spelled.0, refl, ap (λ f. f ++ []) spelled.1)) (λ c. let h : 0 < k = c.0 in omega arith)))
    each (Some classes.LeftParen) = branch-step refl (λ opening. exact-by_class (λ m. inside_by m) (within opening) (inside opening))
    each _ = branch-wrong some

-- Delays inside assignments

abbrev pub DelayBelow : ℕ → Option SourceExpression → Type 0
DelayBelow k d = delay_height d < k

pub assigned_delay-exact : (k : ℕ) → Exact (0 < k) assigned_delay k SpellsInnerDelay (DelayBelow k)
unfolding assigned_delay
assigned_delay-exact k = exact-by_class (λ m. assigned_delay_by m) ((None, [], refl), λ c. (None, [], refl, c)) each
  where
    each : (class : Option Class) → Branch (0 < k) (λ m. assigned_delay_by m class) k SpellsInnerDelay (DelayBelow k) class
    each (Some classes.Hash) = branch-step refl (λ hash.
        exact-bind (inner_delay-exact k) (λ d after spelled.
        exact-give (Some d) (hash, after ++ [], subst (SpellsDelay d) (sym (append-nil after)) spelled, refl) (λ c. c.1)))
    each _ = branch (exact-give None refl (λ c. c))

-- Conditions, and assignments in the head of a `for`

-- these tokens spell an expression in parentheses
abbrev pub SpellsCondition : SourceExpression → List SourceToken → Type 0
SpellsCondition e ts =
    (open_place close_place : SourcePlace) × (inside : List SourceToken) × SpellsExpression e inside
    × (ts ≡ token_of classes.LeftParen open_place ∷ (inside ++ token_of classes.RightParen close_place ∷ []))

pub condition-exact : (k : ℕ) → Exact (0 < k) condition k SpellsCondition (Below k)
unfolding condition
condition-exact k =
    exact-after classes.LeftParen refl (λ opening.
    exact-bind (inner_expression-exact k) (λ e inside spelled.
    exact-after classes.RightParen refl (λ closing.
    exact-give e (opening, closing, inside, spelled, refl) (λ c. c.1))))

-- these tokens spell a target and what it is assigned
abbrev pub SpellsHead : SourceTarget × SourceExpression → List SourceToken → Type 0
SpellsHead x ts =
    (sign_place : SourcePlace) × (before after : List SourceToken) × SpellsTarget x.0 before × SpellsExpression x.1 after
    × (ts ≡ before ++ token_of classes.Assign sign_place ∷ after)

abbrev pub HeadBelow : ℕ → SourceTarget × SourceExpression → Type 0
HeadBelow k x = TargetBelow k x.0 × Below k x.1

pub head-exact : (k : ℕ) → Exact (0 < k) head_assignment k SpellsHead (HeadBelow k)
unfolding head_assignment
head-exact k =
    exact-bind (inner_target-exact k) (λ t before targeted.
    exact-after classes.Assign refl (λ sign.
    exact-bind (exact-under (λ c. c.0) (inner_expression-exact k)) (λ value after spelled.
    exact-give (t, value) (sign, before, after ++ [], targeted, subst (SpellsExpression value) (sym (append-nil after)) spelled, refl) (λ c. (c.0.1, c.1)))))

-- Arguments of system tasks

-- these tokens close so many open parentheses and one more
abbrev pub SpellsSkipped : ℕ → Language (Unit {0})
SpellsSkipped depth x ts =
    (close_place : SourcePlace) × (inside : List SourceToken) × (is_balanced depth inside ≡ true) × (ts ≡ inside ++ token_of classes.RightParen close_place ∷ [])

closers : ℕ → List SourceToken
closers zero = []
closers (suc n) = token_of classes.RightParen nowhere ∷ closers n

closers-balanced : (n : ℕ) → is_balanced n (closers n) ≡ true
unfolding closers
closers-balanced zero = refl
closers-balanced (suc n) =
    let some : nat_lt 0 (suc n) ≡ true = lt-ltb 0 (suc n) (omega arith) in
    let less : suc n - 1 ≡ n = omega arith in
    ap (λ b. if b then is_balanced (suc n - 1) (closers n) else false) some ∙ ap (λ d. is_balanced d (closers n)) less ∙ closers-balanced n

skipped-some : (depth : ℕ) → SpellsSkipped depth tt (closers depth ++ token_of classes.RightParen nowhere ∷ [])
skipped-some depth = (nowhere, closers depth, closers-balanced depth, refl)

abbrev Always : Unit {0} → Type 0
Always x = Unit {0}

-- a token that leads from one depth to another
module _ (k : ℕ) (t : SourceToken) (from to : ℕ)
    (reads : (more : List SourceToken) → skipped from (t ∷ more) ≡ skipped to more)
    (spells : (inside : List SourceToken) → is_balanced from (t ∷ inside) ≡ is_balanced to inside) where
  onward : {ts : List SourceToken} → SpellsSkipped to tt ts → SpellsSkipped from tt (t ∷ ts)
  onward h = (h.0, t ∷ h.1, spells h.1 ∙ h.2, ap (λ f. t ∷ f) h.3)

  advance : (ts : List SourceToken) (r : Reading (Unit {0})) → Tells (λ m. skipped to) k (SpellsSkipped to) Always ts r → Tells (λ m. skipped from) k (SpellsSkipped from) Always (t ∷ ts) r
  advance ts (Ok x) p = record {
    front = t ∷ p.front;
    whole = ap (λ f. t ∷ f) p.whole;
    spelled = onward p.spelled;
    fits = tt;
    again = λ m h more s. reads (p.front ++ more) ∙ p.again m h more s;
  }
  advance ts (Err stop) p = stops stop.why stop.rest p
    where
      begun : {front : List SourceToken} → (front ≡ []) ⊎ ((x : Unit {0}) × (ts : List SourceToken) × SpellsSkipped to x (front ++ ts) × Unit {0})
          → (x : Unit {0}) × (ts : List SourceToken) × SpellsSkipped from x ((t ∷ front) ++ ts) × Unit {0}
      begun {front} (inl e) = (
        tt,
        closers to ++ token_of classes.RightParen nowhere ∷ [],
        subst (λ f. SpellsSkipped from tt (t ∷ (f ++ (closers to ++ token_of classes.RightParen nowhere ∷ [])))) (sym e) (onward (skipped-some to)),
        tt,
      )
      begun {front} (inr b) = (tt, b.1, onward b.2, tt)

      stops : (why : Why) (rest : List SourceToken) → Stops (λ m. skipped to) k (SpellsSkipped to) Always ts why rest → Stops (λ m. skipped from) k (SpellsSkipped from) Always (t ∷ ts) why rest
      stops Wrong rest p = record {
        front = t ∷ p.front;
        whole = ap (λ f. t ∷ f) p.whole;
        value = tt;
        tail = p.tail;
        spelled = onward p.spelled;
        fits = tt;
        again = λ m h more s. reads (p.front ++ more) ∙ p.again m h more s;
      }
      stops Deep rest p = record {
        front = t ∷ p.front;
        token = p.token;
        after = p.after;
        next = p.next;
        whole = ap (λ f. t ∷ f) p.whole;
        value = tt;
        tail = p.tail;
        spelled = onward p.spelled;
        before = inr (begun p.before);
        again = λ more. reads (p.front ++ p.token ∷ more) ∙ p.again more;
      }

-- what a token does to the depth, by whether it opens and whether it closes
abbrev skip_by : Bool → Bool → Bool → ℕ → List SourceToken → Reading (Unit {0})
skip_by opens closes deeper depth ts =
    if opens then skipped (depth + 1) ts
    else (if closes then (if deeper then skipped (depth - 1) ts else give tt ts)
    else skipped depth ts)

abbrev balanced_by : Bool → Bool → Bool → ℕ → List SourceToken → Bool
balanced_by opens closes deeper depth ts =
    if opens then is_balanced (depth + 1) ts
    else (if closes then (if deeper then is_balanced (depth - 1) ts else false)
    else is_balanced depth ts)

skipped-tells : (k : ℕ) (tokens : List SourceToken) (depth : ℕ) → Tells (λ m. skipped depth) k (SpellsSkipped depth) Always tokens (skipped depth tokens)
unfolding skipped
skipped-tells k [] depth = record {
  front = [];
  whole = refl;
  value = tt;
  tail = closers depth ++ token_of classes.RightParen nowhere ∷ [];
  spelled = skipped-some depth;
  fits = tt;
  again = λ m h more s. nothing more s;
}
  where
    nothing : (more : List SourceToken) → SameNext [] more → skipped depth more ≡ wrong more
    nothing [] s = refl
    nothing (u ∷ us) s = absurd s
skipped-tells k (t ∷ ts) depth = by (same_class classes.LeftParen (class_of t.kind)) (same_class classes.RightParen (class_of t.kind)) (nat_lt 0 depth) refl refl refl (skipped-tells k ts)
  where
    by : (opens closes deeper : Bool) → same_class classes.LeftParen (class_of t.kind) ≡ opens → same_class classes.RightParen (class_of t.kind) ≡ closes → nat_lt 0 depth ≡ deeper
        → ((d : ℕ) → Tells (λ m. skipped d) k (SpellsSkipped d) Always ts (skipped d ts))
        → Tells (λ m. skipped depth) k (SpellsSkipped depth) Always (t ∷ ts) (skip_by opens closes deeper depth ts)
    by true closes deeper o c d later = advance k t depth (depth + 1)
        (λ more. ap (λ b. skip_by b (same_class classes.RightParen (class_of t.kind)) (nat_lt 0 depth) depth more) o)
        (λ inside. ap (λ b. balanced_by b (same_class classes.RightParen (class_of t.kind)) (nat_lt 0 depth) depth inside) o)
        ts (skipped (depth + 1) ts) (later (depth + 1))
    by false true true o c d later = advance k t depth (depth - 1)
        (λ more. ap (λ b. skip_by b (same_class classes.RightParen (class_of t.kind)) (nat_lt 0 depth) depth more) o
        ∙ ap (λ b. skip_by false b (nat_lt 0 depth) depth more) c ∙ ap (λ b. skip_by false true b depth more) d)
        (λ inside. ap (λ b. balanced_by b (same_class classes.RightParen (class_of t.kind)) (nat_lt 0 depth) depth inside) o
        ∙ ap (λ b. balanced_by false b (nat_lt 0 depth) depth inside) c ∙ ap (λ b. balanced_by false true b depth inside) d)
        ts (skipped (depth - 1) ts) (later (depth - 1))
    by false true false o c d later = record {
      front = t ∷ [];
      whole = refl;
      spelled = (place_of t, [], balanced_none depth d, ap (λ u. u ∷ []) (is-fixed-token classes.RightParen refl t (sym (same_class-true classes.RightParen (class_of t.kind) c))));
      fits = tt;
      again = λ m h more s. ap (λ b. skip_by b (same_class classes.RightParen (class_of t.kind)) (nat_lt 0 depth) depth more) o
          ∙ ap (λ b. skip_by false b (nat_lt 0 depth) depth more) c ∙ ap (λ b. skip_by false true b depth more) d;
    }
      where
        balanced_none : (depth : ℕ) → nat_lt 0 depth ≡ false → is_balanced depth [] ≡ true
        balanced_none zero h = refl
        balanced_none (suc n) h = absurd (let p : true ≡ false = sym (lt-ltb 0 (suc n) (omega arith)) ∙ h in cc)
    by false false deeper o c d later = advance k t depth depth
        (λ more. ap (λ b. skip_by b (same_class classes.RightParen (class_of t.kind)) (nat_lt 0 depth) depth more) o
        ∙ ap (λ b. skip_by false b (nat_lt 0 depth) depth more) c)
        (λ inside. ap (λ b. balanced_by b (same_class classes.RightParen (class_of t.kind)) (nat_lt 0 depth) depth inside) o
        ∙ ap (λ b. balanced_by false b (nat_lt 0 depth) depth inside) c)
        ts (skipped depth ts) (later depth)

pub skipped-exact : {C : Type 0} {k : ℕ} (depth : ℕ) → Exact C (λ m. skipped depth) k (SpellsSkipped depth) Always
skipped-exact {C} {k} depth = record {
  any = (tt, closers depth ++ token_of classes.RightParen nowhere ∷ [], skipped-some depth);
  some = λ c. (tt, closers depth ++ token_of classes.RightParen nowhere ∷ [], skipped-some depth, tt);
  tells = λ c tokens. skipped-tells k tokens depth;
}

pub arguments-exact : {C : Type 0} {k : ℕ} → Exact C (λ m. arguments) k (λ (x : Unit {0}) ts. SpellsArguments ts) (λ x. Unit {0})
unfolding arguments
arguments-exact {C} {k} = exact-by_class (λ m. arguments_by) ((tt, [], inl refl), λ c. (tt, [], inl refl, tt)) each
  where
    each : (class : Option Class) → Branch C (λ m. arguments_by class) k (λ (x : Unit {0}) ts. SpellsArguments ts) (λ x. Unit {0}) class
    each (Some classes.LeftParen) = branch-step refl (λ opening.
        exact-weaken (λ x ts h. inr (opening, h.0, h.1, h.2, ap (λ f. token_of classes.LeftParen opening ∷ f) h.3)) (skipped-exact 0))
    each _ = branch (exact-give tt (inl refl) (λ c. tt))
