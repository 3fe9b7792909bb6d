-- The unit that a text spells is one of a text, and its names are spelled as names are, each at a place of its own (IEEE 1364-2001, clauses 2.1 and 2.7, annex A).
use Rattle.std.proofs.Common.{◌≡◌, ℕ, ◌<◌, List, map, Some, sym, ap, ◌∙◌, inl, inr, arith}
use Rattle.std.specs.Prelude.{slice_get, option_map}
use Rattle.std.proofs.lemmas.Bool.{cases_order}
use Rattle.std.proofs.lemmas.Option.{slice_get-map}
use Rattle.vf_base.specs.Base.{SourcePlace}
use Rattle.v_tree.specs.Tokens.{SourceToken}
use Rattle.v_tree.specs.Trees.{SourceUnit}
use Rattle.v_names.specs.Names.{Declaration, declarations_of}
use Rattle.v_scan.specs.Texts.{AreTokens}
use Rattle.v_parse.specs.Spelling.{SpellsUnit}
use Rattle.v_parse.specs.Heights.{unit_height}
use Rattle.flat_laws.specs.Source.{IsSourceItem, IsSourceUnit}
use Rattle.flat_laws.specs.Names.OnceDeclared.{IsNamedUnit}
use Rattle.source_laws.specs.InOrder.{stand-long, stand-hold, hold-map, IsInOrder, stand-in-order, in-order-at}
use Rattle.source_laws.specs.Ascending.{ComesBefore, never-before, tokens-ascend}
use Rattle.source_laws.specs.Words.{HasSpelledKind, tokens-spelled, tokens-few}
use Rattle.source_laws.specs.Items.{item-good}
use Rattle.source_laws.specs.Units.{unit-module, unit-items}
use Rattle.source_laws.specs.Declared.{declared_token, module-declares}

-- the unit that a text spells within its levels is one of a text
abbrev pub TextsGiveSourceUnits : Type 0
TextsGiveSourceUnits = (text : List ℕ) (tokens : List SourceToken) (u : SourceUnit) → AreTokens text tokens → SpellsUnit u tokens → unit_height u < 256 → IsSourceUnit u.modules

pub text-source : TextsGiveSourceUnits
text-source text tokens u are spelled low = record {
  items = unit-items IsSourceItem (λ group. tt) (λ group. tt) u tokens spelled (λ item part h stands height.
      let few = tokens-few text tokens are in
      let long = stand-long part tokens stands in
      item-good item part h (omega (arith, height, low)) (omega (arith, long, few)));
}

-- the declared names of the unit that a text spells are spelled as names are, each at a place of its own
abbrev pub TextsGiveNamedUnits : Type 0
TextsGiveNamedUnits = (text : List ℕ) (tokens : List SourceToken) (u : SourceUnit) → AreTokens text tokens → SpellsUnit u tokens → IsNamedUnit u.modules

pub text-named : TextsGiveNamedUnits
text-named text tokens u are spelled = record {
  spelled = λ i m at.
      let r = unit-module u tokens spelled i m at in
      hold-map (λ (t : SourceToken). HasSpelledKind t.kind) declared_token (declarations_of m)
      (stand-hold (λ (t : SourceToken). HasSpelledKind t.kind) (map declared_token (declarations_of m)) r.part (module-declares m r.part r.spelled)
      (stand-hold (λ (t : SourceToken). HasSpelledKind t.kind) r.part tokens r.stands (tokens-spelled text tokens are)));
  placed = λ i m at k l one other at_one at_other same.
      let r = unit-module u tokens spelled i m at in
      let names = map declared_token (declarations_of m) in
      let order = stand-in-order ComesBefore names r.part (module-declares m r.part r.spelled) (stand-in-order ComesBefore r.part tokens r.stands (tokens-ascend text tokens are)) in
      apart (declarations_of m) order k l one other at_one at_other same;
}
  where
    token-at : (ds : List Declaration) (k : ℕ) (d : Declaration) → slice_get ds k ≡ Some d → slice_get (map declared_token ds) k ≡ Some (declared_token d)
    token-at ds k d at = slice_get-map declared_token ds k ∙ ap (option_map declared_token) at

    apart : (ds : List Declaration) → IsInOrder ComesBefore (map declared_token ds) → (k l : ℕ) (one other : Declaration) → slice_get ds k ≡ Some one → slice_get ds l ≡ Some other →
        one.place ≡ other.place → k ≡ l
    apart ds order k l one other at_one at_other same =
        let places : (declared_token one).place ≡ (declared_token other).place = ap (λ (p : SourcePlace). record { line = p.line; column = p.column }) same in
        elim (cases_order k l) [
          | inl here ↦ here
          | inr (inl less) ↦
              absurd (never-before (declared_token one).place (declared_token other).place places
              (in-order-at ComesBefore (map declared_token ds) order k l (declared_token one) (declared_token other) (token-at ds k one at_one) (token-at ds l other at_other) less))
          | inr (inr more) ↦
              absurd (never-before (declared_token other).place (declared_token one).place (sym places)
              (in-order-at ComesBefore (map declared_token ds) order l k (declared_token other) (declared_token one) (token-at ds l other at_other) (token-at ds k one at_one) more))
        ]
