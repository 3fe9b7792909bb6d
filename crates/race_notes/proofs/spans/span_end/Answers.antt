-- The last block that doesn't begin behind the moment.
use Rattle.std.proofs.Common.{refl, sym, subst, arith}
use Rattle.std.proofs.lemmas.Bool.{ltb-true}
use Rattle.copy_laws.specs.Filter.{IsIn}
use Rattle.race_notes.specs.declared.note.OwnSpan.{OwnSpan}
use Rattle.race_notes.proofs.Lists.{in-at}
use Rattle.race_notes.proofs.spans.span_end.Goals as goal

pub returns-then-moment-span : goal.returns-then-moment-span
returns-then-moment-span c =
    let found = c.in_ok-span.ensures.lookup in
    let spans = c.args.spans.now in
    let span = c.in_ok-span.span.now in
    record {
      span = span;
      is_in = subst (λ (s : OwnSpan). IsIn s spans) (sym found.1) (in-at spans c.in_ok-last.last span (ltb-true _ _ (sym found.0)));
      since = omega arith;
      before = omega arith;
      end_is = refl;
    }
