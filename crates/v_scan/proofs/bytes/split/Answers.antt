use Rattle.std.proofs.Common.{ap, sym, ◌∙◌, ◌++◌}
use Rattle.v_scan.specs.Classes.{in_class}
use Rattle.v_scan.specs.Reading.{front_while}
use Rattle.v_scan.proofs.Spans.{while-whole, cancel_back}
use Rattle.v_scan.proofs.bytes.split.Goals as goal

pub before-requires : goal.before-requires
before-requires c =
    record {
      front = front_while (in_class c.args.class) c.args.text.now;
      whole = while-whole (in_class c.args.class) c.args.text.now ∙ ap (λ w. front_while (in_class c.args.class) c.args.text.now ++ w) (sym c.behind-back.ensures);
    }

pub returns-clause-front : goal.returns-clause-front
returns-clause-front c =
    cancel_back c.before-2.result.now (front_while (in_class c.args.class) c.args.text.now) c.behind-back.result.now
    (sym c.before-2.ensures ∙ while-whole (in_class c.args.class) c.args.text.now ∙ ap (λ w. front_while (in_class c.args.class) c.args.text.now ++ w) (sym c.behind-back.ensures))
