-- Each statement of a body over objects stands at the first token of its spelling, so no two stand at one place (IEEE 1364-2001, clause 9, annex A.6).
use Rattle.std.proofs.Common.{◌≡◌, ◌+◌, ◌≤◌, List, [], ◌∷◌, ◌++◌, Option, ap, arith}
use Rattle.vf_base.specs.Base.{SourcePlace}
use Rattle.v_design.specs.Places.{same_place, places_in, places_in_all, places_in_items}
use Rattle.v_tree.specs.Tokens.{SourceToken}
use Rattle.v_tree.specs.Trees.{SourceTarget, OneSelect, JoinedSelects, place_of_target, SourceStatement, NullStatement, BlockStatement, IfStatement, IfElseStatement, CaseStatement, ForStatement}
use Rattle.v_tree.specs.Trees.{WhileStatement, RepeatStatement, ForeverStatement, WaitStatement, EventStatement, DelayStatement, BlockingStatement, NonblockingStatement, IgnoredTask, FinishTask}
use Rattle.v_tree.specs.Trees.{SourceStatements, no_source_statements, more_source_statements, SourceCaseItems, no_source_items, labelled, otherwise}
use Rattle.v_readers.specs.declared.class.Class.TheVariants as classes
use Rattle.v_readers.specs.Classes.{token_of, name_token}
use Rattle.v_readers.specs.Reading.{place_of}
use Rattle.v_names.specs.Readings.{Size, reading_of}
use Rattle.v_expr.specs.Spelling.{SpellsTarget}
use Rattle.v_stmt.specs.Spelling.{SpellsStatement, SpellsBody, SpellsItems}
use Rattle.v_elab.specs.Statements.{Meaning, items_size, statement_over, statements_over, items_over, default_over}
use Rattle.source_laws.specs.Counted.{one_if, times, times-append, standing, standing-append}

-- Fronts

-- a target's first token stands at its place
target-first : (target : SourceTarget) (ts : List SourceToken) → SpellsTarget target ts → (p : SourcePlace) → one_if (same_place p (place_of_target target)) ≤ standing p ts
target-first (OneSelect select) ts h p = let e : standing p ts ≡ standing p (name_token select.name select.place ∷ h.1) = ap (standing p) h.3 in omega (arith, e)
target-first (JoinedSelects place selects) ts h p =
    let e : standing p ts ≡ standing p (token_of classes.LeftBrace place ∷ (h.1 ++ token_of classes.RightBrace h.0 ∷ [])) = ap (standing p) h.3 in omega (arith, e)

mutual
  -- the statements of a body stand at tokens of its spelling, each at one of its own
  pub statement-stands : (meaning : Meaning) (s : SourceStatement) (ts : List SourceToken) → SpellsStatement s ts → (p : SourcePlace) → times p (places_in (statement_over meaning s)) ≤ standing p ts
  statement-stands meaning (NullStatement place) ts h p = omega arith
  statement-stands meaning (BlockStatement place statements) ts h p =
      let end = token_of classes.End h.0 ∷ [] in
      let e = ap (standing p) h.5 in
      omega (arith, e, standing-append p h.1 (h.2 ++ end), standing-append p h.2 end, body-stands meaning statements h.2 h.4 p)
  statement-stands meaning (IfStatement place condition first) ts h p =
      let behind = token_of classes.RightParen h.1 ∷ h.3 in
      let e = ap (standing p) h.6 in
      omega (arith, e, standing-append p h.2 behind, times-append p (places_in (statement_over meaning first)) [], statement-stands meaning first h.3 h.5 p)
  statement-stands meaning (IfElseStatement place condition first second) ts h p =
      let other = token_of classes.Else h.3 ∷ h.6 in
      let behind = token_of classes.RightParen h.2 ∷ (h.5 ++ other) in
      let e = ap (standing p) h.10 in
      omega (
        arith,
        e,
        standing-append p h.4 behind,
        standing-append p h.5 other,
        times-append p (places_in (statement_over meaning first)) (places_in (statement_over meaning second)),
        statement-stands meaning first h.5 h.8 p,
        statement-stands meaning second h.6 h.9 p,
      )
  statement-stands meaning (CaseStatement place kind value items) ts h p =
      let size = items_size meaning.scope items (reading_of meaning.scope value).size in
      let end = token_of classes.EndCase h.4 ∷ [] in
      let behind = token_of classes.RightParen h.3 ∷ (h.6 ++ end) in
      let e = ap (standing p) h.9 in
      omega (
        arith,
        e,
        standing-append p h.5 behind,
        standing-append p h.6 end,
        times-append p (places_in_items (items_over meaning size items)) (places_in (default_over meaning items)),
        items-stand meaning size items h.6 h.8 p,
      )
  statement-stands meaning (ForStatement place first_target first condition next_target next body) ts h p =
      let fifth = h.10 ++ token_of classes.RightParen h.5 ∷ h.11 in
      let fourth = h.9 ++ token_of classes.Assign h.4 ∷ fifth in
      let third = h.8 ++ token_of classes.Semicolon h.3 ∷ fourth in
      let second = h.7 ++ token_of classes.Semicolon h.2 ∷ third in
      let e = ap (standing p) h.18 in
      omega (
        arith,
        e,
        standing-append p h.6 (token_of classes.Assign h.1 ∷ second),
        standing-append p h.7 (token_of classes.Semicolon h.2 ∷ third),
        standing-append p h.8 (token_of classes.Semicolon h.3 ∷ fourth),
        standing-append p h.9 (token_of classes.Assign h.4 ∷ fifth),
        standing-append p h.10 (token_of classes.RightParen h.5 ∷ h.11),
        statement-stands meaning body h.11 h.17 p,
      )
  statement-stands meaning (WhileStatement place condition body) ts h p =
      let e = ap (standing p) h.6 in omega (arith, e, standing-append p h.2 (token_of classes.RightParen h.1 ∷ h.3), statement-stands meaning body h.3 h.5 p)
  statement-stands meaning (RepeatStatement place count body) ts h p =
      let e = ap (standing p) h.6 in omega (arith, e, standing-append p h.2 (token_of classes.RightParen h.1 ∷ h.3), statement-stands meaning body h.3 h.5 p)
  statement-stands meaning (ForeverStatement place body) ts h p = let e = ap (standing p) h.2 in omega (arith, e, statement-stands meaning body h.0 h.1 p)
  statement-stands meaning (WaitStatement place condition body) ts h p =
      let e = ap (standing p) h.6 in omega (arith, e, standing-append p h.2 (token_of classes.RightParen h.1 ∷ h.3), statement-stands meaning body h.3 h.5 p)
  statement-stands meaning (EventStatement place waits body) ts h p = let e = ap (standing p) h.4 in omega (arith, e, standing-append p h.0 h.1, statement-stands meaning body h.1 h.3 p)
  statement-stands meaning (DelayStatement place delay body) ts h p = let e = ap (standing p) h.4 in omega (arith, e, standing-append p h.0 h.1, statement-stands meaning body h.1 h.3 p)
  statement-stands meaning (BlockingStatement place target delay value) ts h p =
      let e = ap (standing p) h.9 in
      let behind = token_of classes.Assign h.1 ∷ (h.4 ++ (h.5 ++ token_of classes.Semicolon h.2 ∷ [])) in
      let first : one_if (same_place p (place_of_target target)) ≡ one_if (same_place p place) = ap (λ q. one_if (same_place p q)) h.0 in
      omega (arith, e, standing-append p h.3 behind, target-first target h.3 h.6 p, first)
  statement-stands meaning (NonblockingStatement place target delay value) ts h p =
      let e = ap (standing p) h.9 in
      let behind = token_of classes.LessEqual h.1 ∷ (h.4 ++ (h.5 ++ token_of classes.Semicolon h.2 ∷ [])) in
      let first : one_if (same_place p (place_of_target target)) ≡ one_if (same_place p place) = ap (λ q. one_if (same_place p q)) h.0 in
      omega (arith, e, standing-append p h.3 behind, target-first target h.3 h.6 p, first)
  statement-stands meaning (IgnoredTask place) ts h p = omega arith
  statement-stands meaning (FinishTask place) ts h p =
      let e = ap (standing p) h.6 in
      let first : one_if (same_place p (place_of h.0)) ≡ one_if (same_place p place) = ap (λ q. one_if (same_place p q)) h.2 in
      omega (arith, e, first)

  body-stands : (meaning : Meaning) (ss : SourceStatements) (ts : List SourceToken) → SpellsBody ss ts → (p : SourcePlace) → times p (places_in_all (statements_over meaning ss)) ≤ standing p ts
  body-stands meaning no_source_statements ts h p = omega arith
  body-stands meaning (more_source_statements first rest) ts h p =
      let e = ap (standing p) h.4 in
      omega (
        arith,
        e,
        standing-append p h.0 h.1,
        times-append p (places_in (statement_over meaning first)) (places_in_all (statements_over meaning rest)),
        statement-stands meaning first h.0 h.2 p,
        body-stands meaning rest h.1 h.3 p,
      )

  -- a default may stand among the items, and is the last of the case over objects
  items-stand : (meaning : Meaning) (size : Option Size) (items : SourceCaseItems) (ts : List SourceToken) → SpellsItems items ts → (p : SourcePlace) →
      times p (places_in_items (items_over meaning size items)) + times p (places_in (default_over meaning items)) ≤ standing p ts
  items-stand meaning size no_source_items ts h p = omega arith
  items-stand meaning size (labelled labels statement rest) ts h p =
      let behind = token_of classes.Colon h.0 ∷ (h.2 ++ h.3) in
      let e = ap (standing p) h.7 in
      omega (
        arith,
        e,
        standing-append p h.1 behind,
        standing-append p h.2 h.3,
        times-append p (places_in (statement_over meaning statement)) (places_in_items (items_over meaning size rest)),
        statement-stands meaning statement h.2 h.5 p,
        items-stand meaning size rest h.3 h.6 p,
      )
  items-stand meaning size (otherwise statement rest) ts h p =
      let e = ap (standing p) h.7 in
      omega (arith, e, standing-append p h.1 (h.2 ++ h.3), standing-append p h.2 h.3, statement-stands meaning statement h.2 h.5 p, items-stand meaning size rest h.3 h.6 p)
