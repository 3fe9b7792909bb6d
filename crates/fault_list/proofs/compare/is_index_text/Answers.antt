use Rattle.std.proofs.Common.{◌≡◌, ◌∙◌, ap, sym, true, rules}
use Rattle.std.specs.Str.{bytes_eq}
use Rattle.v_design.specs.Sites.{index_text}
use Rattle.fault_list.proofs.Decimals.{index-right, index-first, index-last}
use Rattle.fault_list.proofs.compare.is_index_text.Goals as goal
use Rattle.fault_list.proofs.compare.is_index_text.Goals.{then-first-ne91-via-then-first-ne91, then-first-ne91-via-else-first-ne91+then-last-ne93}

pub returns : goal.returns
returns c =
    let ranged : c.args.ranged ≡ true = search rules in
    c.is_decimal.ensures
    ∙ (index-right c.args.index c.in-Some.first.now c.in-Some-split_last.last.now c.args.word.now c.in-Some.rest.now c.in-Some-split_last.digits.now c.in-Some.ensures.cases.0
    c.in-Some-split_last.ensures.cases.0 c.if-first-ne91.false c.if-last-ne93.false
    ∙ ap (λ b. bytes_eq (index_text b c.args.index) c.args.word.now) (sym ranged))

pub returns-then-first-ne91 : goal.returns-then-first-ne91
returns-then-first-ne91 c =
    let ranged : c.args.ranged ≡ true = search rules in
    elim c.then-first-ne91.branch [
      | then-first-ne91-via-then-first-ne91 w ↦
          index-first c.args.index c.in-Some.first.now c.args.word.now c.in-Some.rest.now c.in-Some.ensures.cases.0 w.if-first-ne91.true
          ∙ ap (λ b. bytes_eq (index_text b c.args.index) c.args.word.now) (sym ranged)
      | then-first-ne91-via-else-first-ne91+then-last-ne93 w ↦
          index-last c.args.index c.in-Some.first.now c.in-Some-split_last.last.now c.args.word.now c.in-Some.rest.now c.in-Some-split_last.digits.now c.in-Some.ensures.cases.0
          c.in-Some-split_last.ensures.cases.0 w.if-last-ne93.true
          ∙ ap (λ b. bytes_eq (index_text b c.args.index) c.args.word.now) (sym ranged)
    ]
