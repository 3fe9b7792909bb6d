-- Its copy alone changes.
use Rattle.std.proofs.Common.{◌≡◌, true, false, not, refl, ap, ◌∙◌}
use Rattle.std.specs.Prelude.{is_some}
use Rattle.copy_state.specs.Kept.{CopyKept, nothing_kept}
use Rattle.shard_slots.proofs.let_go.let_go_ended.Goals as goal

pub returns-then-is_none : goal.returns-then-is_none
returns-then-is_none c = record {
  goes_on = λ none. refl;
  ended = λ some. absurd (let no : is_some c.args.own.now.end ≡ false = c.is_none.ensures ∙ ap not c.if-is_none.true in cc);
}

pub returns : goal.returns
returns c = record {
  goes_on = λ none.
      absurd (let some : is_some c.args.own.now.end ≡ true = c.is_none.ensures ∙ ap not c.if-is_none.false in
      let no : is_some c.args.own.now.end ≡ false = ap is_some none in
      cc);
  ended = λ some. ap (λ (kept : CopyKept). record c.args.own.now { copy = kept }) (c.new.ensures ∙ ap nothing_kept c.fault-number.ensures);
}
