-- No two statements of a process stand at one place, in each flat design of a text (IEEE 1364-2001, clause 2.1 for the places of tokens, clause 9 for processes).
use Rattle.std.proofs.Common.{◌≡◌, ℕ, List, Ok, subst, arith}
use Rattle.vf_base.specs.Lists.{AllHold}
use Rattle.v_design.specs.Designs.{FlatProcess, FlatDesign}
use Rattle.v_design.specs.Places.{places_in, PlacesDiffer}
use Rattle.v_tree.specs.Tokens.{SourceToken}
use Rattle.v_tree.specs.Trees.{Identifier, SourceStatement, SourceItem, InitialItem, AlwaysItem, SourceUnit}
use Rattle.v_scan.specs.Texts.{AreTokens}
use Rattle.v_stmt.specs.Spelling.{SpellsStatement}
use Rattle.v_parse.specs.Spelling.{SpellsItem, SpellsUnit}
use Rattle.v_elab.specs.declared.Mode.{Mode}
use Rattle.v_elab.specs.Parts.{WalkedProcess}
use Rattle.v_elab.specs.Drivers.{behaviours_of}
use Rattle.v_elab.specs.Statements.{Meaning, statement_over}
use Rattle.v_elab.specs.Flat.{meaning_in, flat_process, flat}
use Rattle.flat_laws.specs.Numbered.{AllHold-each, AllHold-map}
use Rattle.flat_laws.specs.Limits.{design-processes}
use Rattle.flat_laws.specs.Hierarchy.Levelled.{named-module}
use Rattle.flat_laws.specs.Made.{processes_in, objects_in, flat-made}
use Rattle.flat_laws.specs.Hierarchy.Processes.{behaviours-of, among-processes}
use Rattle.source_laws.specs.InOrder.{IsInOrder, stand-in-order}
use Rattle.source_laws.specs.Ascending.{ComesBefore, tokens-ascend}
use Rattle.source_laws.specs.Units.{unit-items}
use Rattle.source_laws.specs.Counted.{once-distinct, one-standing}
use Rattle.source_laws.specs.Bodies.{statement-stands}
use Rattle.source_laws.specs.Walked.{HoldsOfBodies, walked-bodies}

-- a statement that is spelled by tokens in the order of a text
pub record IsTextStatement (s : SourceStatement) : Type 0 where
  pub tokens : List SourceToken
  pub spelled : SpellsStatement s tokens
  pub order : IsInOrder ComesBefore tokens

abbrev IsTextItem : SourceItem → Type 0
IsTextItem (InitialItem place body) = IsTextStatement body
IsTextItem (AlwaysItem place body) = IsTextStatement body
IsTextItem _ = Unit {0}

item-text : (item : SourceItem) (part : List SourceToken) → SpellsItem item part → IsInOrder ComesBefore part → IsTextItem item
item-text (InitialItem place body) part h order = let ordered = subst (IsInOrder ComesBefore) h.2 order in record { tokens = h.0; spelled = h.1; order = ordered.1 }
item-text (AlwaysItem place body) part h order = let ordered = subst (IsInOrder ComesBefore) h.2 order in record { tokens = h.0; spelled = h.1; order = ordered.1 }
item-text _ part h order = tt

-- the bodies of a unit's processes
unit-bodies : (tokens : List SourceToken) (u : SourceUnit) → IsInOrder ComesBefore tokens → SpellsUnit u tokens → HoldsOfBodies IsTextStatement u.modules
unit-bodies tokens u order spelled =
    let each = unit-items IsTextItem (λ group. tt) (λ group. tt) u tokens spelled (λ item part h stands low. item-text item part h (stand-in-order ComesBefore part tokens stands order)) in
    record { of_initial = λ i m at place body of. each i m at (InitialItem place body) of; of_always = λ i m at place body of. each i m at (AlwaysItem place body) of }

-- over any objects
body-apart : (meaning : Meaning) (s : SourceStatement) → IsTextStatement s → PlacesDiffer (statement_over meaning s)
body-apart meaning s is =
    once-distinct (places_in (statement_over meaning s)) (λ p. let few = statement-stands meaning s is.tokens is.spelled p in let most = one-standing is.tokens is.order p in omega (arith, few, most))

-- in each flat design of the unit that a text spells no two statements of a process stand at one place
abbrev pub TextsSetStatementsApart : Type 0
TextsSetStatementsApart = (text : List ℕ) (tokens : List SourceToken) (u : SourceUnit) (top : Identifier) (mode : Mode) (design : FlatDesign) → AreTokens text tokens → SpellsUnit u tokens →
    flat u top mode ≡ Ok design →
    AllHold (λ (process : FlatProcess). PlacesDiffer process.body) design.processes

pub text-apart : TextsSetStatementsApart
text-apart text tokens u top mode design are spelled e =
    let made = flat-made u top mode design e in
    let found = named-module u.modules made.name made.top made.found in
    let body = λ (process : WalkedProcess). IsTextStatement process.body in
    let parts = walked-bodies IsTextStatement u.modules (unit-bodies tokens u (tokens-ascend text tokens are) spelled) mode made.top found.0 found.1 made.parts made.walk in
    let processes = among-processes body (behaviours_of made.parts) (behaviours-of body made.parts 0 made.parts parts) in
    let flat = flat_process made.parts (objects_in made.parts) in
    subst (AllHold (λ (process : FlatProcess). PlacesDiffer process.body)) (design-processes made.parts design made.made)
    (AllHold-map (λ (process : FlatProcess). PlacesDiffer process.body) flat (processes_in made.parts)
    (AllHold-each body (λ process. PlacesDiffer (flat process).body) (processes_in made.parts)
    (λ process is. body-apart (meaning_in made.parts (objects_in made.parts) process) process.body is) processes))
