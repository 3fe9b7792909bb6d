use Rattle.std.proofs.Common.{ap, sym, Ok, ◌∙◌}
use Rattle.v_tree.specs.Views.{unit_of}
use Rattle.source_laws.specs.Texts.{text-source, text-named}
use Rattle.elaborate.specs.ElementLaws.{same-design}
use Rattle.elaborate.proofs.design.elaborate.Goals as goal

pub elements_from-requires-clause-items : goal.elements_from-requires-clause-items
elements_from-requires-clause-items c = let text = c.requires.text in text-source text.0 text.1 (unit_of c.args.unit.now) text.2 text.3 text.4

pub elements_from-requires-clause-names : goal.elements_from-requires-clause-names
elements_from-requires-clause-names c = let text = c.requires.text in text-named text.0 text.1 (unit_of c.args.unit.now) text.2 text.3

pub invariant_of-result : goal.invariant_of-result
invariant_of-result c = record {
  rules =
      ∣ c.kept.ensures c.requires.text.0 c.requires.text.1 (unit_of c.args.unit.now) c.args.top.now c.args.mode _ c.requires.text.2 c.requires.text.3 c.requires.text.4
      (c.in-Ok.ensures ∙ ap Ok (same-design _ _ _ _ _ _ _ _ (sym c.from_vec.ensures) (sym c.from_vec-in-Ok.ensures) (sym c.from_vec-in-Ok-2.ensures) (sym c.from_vec-in-Ok-3.ensures))) ∣₁;
}
