use Rattle.std.proofs.Common.{ap, sym, ◌∙◌, arith}
use Rattle.v_stmt.proofs.Loops.{skipped_at, skipped_step, skipped_none, opened, opened-behind}
use Rattle.v_stmt.proofs.parts.parenthesised.Goals as goal

pub returns-in_default-next_class-clause-reads : goal.returns-in_default-next_class-clause-reads
returns-in_default-next_class-clause-reads c =
    c.tokens.invariant.same ∙ ap (λ d. skipped_at d c.tokens.rest.now) c.in-Some.is
    ∙ skipped_none c.in-Some.open c.tokens.rest.now (sym c.next_class.ensures ∙ c.in_default-next_class.is)

pub tokens-preserved : goal.tokens-preserved
tokens-preserved c = record {
  same = c.tokens.invariant.same ∙ ap (λ d. skipped_at d c.tokens.rest.now) c.in-Some.is
      ∙ skipped_step c.in-Some.open c.tokens.rest.now c.in-Some-next_class.class _ c.in_ok-after.after.now (sym c.next_class.ensures ∙ c.in-Some-next_class.is) c.in_ok-after.ensures.reads
      ∙ ap (λ d. skipped_at d c.in_ok-after.after.now) (sym c.depth_behind-depth.ensures);
  shorter = omega (
    arith,
    ap opened c.depth_behind-depth.ensures,
    opened-behind c.in-Some.open c.in-Some-next_class.class,
    ap opened c.in-Some.is,
    c.tokens.invariant.shorter,
    c.in_ok-after.ensures.shorter,
  );
}
