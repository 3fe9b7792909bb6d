use Rattle.std.proofs.Common.{sym, ◌∙◌, length, ◌-◌, take, drop, get_or}
use Rattle.v_scan.proofs.NumberReads.{no-digits, is-tail, digits-rest, head-tail, empty-nil, some-nil}
use Rattle.v_scan.proofs.number.base_and_digits.Goals as goal

pub before-digits-requires : goal.before-digits-requires
before-digits-requires c = digits-rest c.in_ok-base.base c.behind-text.result.now c.behind_digits-back.result.now c.behind_digits-back.ensures

pub returns-then-is_empty-clause-none : goal.returns-then-is_empty-clause-none
returns-then-is_empty-clause-none c =
    no-digits c.args.tail.now c.sign-signed.result.1.now (get_or c.sign-signed.result.1.now 0 0) c.in_ok-base.base (take (length c.sign-signed.result.1.now - 1) (drop 1 c.sign-signed.result.1.now))
    c.behind-text.result.now c.behind_digits-back.result.now c.before-digits.result.now c.sign-signed.ensures.back
    (head-tail c.sign-signed.result.1.now c.in-len1-up.len_at_least) (sym c.in_ok-base.ensures) c.behind-text.ensures c.behind_digits-back.ensures c.before-digits.ensures
    (empty-nil c.before-digits.result.now (sym c.is_empty.ensures ∙ c.if-is_empty.true))

pub returns-clause-found : goal.returns-clause-found
returns-clause-found c =
    is-tail c.args.tail.now c.sign-signed.result.1.now c.sign-signed.result.0 (get_or c.sign-signed.result.1.now 0 0) c.in_ok-base.base
    (take (length c.sign-signed.result.1.now - 1) (drop 1 c.sign-signed.result.1.now))
    c.behind-text.result.now c.behind_digits-back.result.now c.before-digits.result.now c.sign-signed.ensures.signed c.sign-signed.ensures.back
    (head-tail c.sign-signed.result.1.now c.in-len1-up.len_at_least) (sym c.in_ok-base.ensures) c.behind-text.ensures c.behind_digits-back.ensures c.before-digits.ensures
    (some-nil c.before-digits.result.now (sym c.is_empty.ensures ∙ c.if-is_empty.false))
