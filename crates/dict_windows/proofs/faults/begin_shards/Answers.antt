-- Shard by shard.
use Rattle.std.proofs.Common.{◌≡◌, ◌*◌, ◌≤◌, length, sym, ap, subst, ◌∙◌, arith}
use Rattle.std.proofs.lemmas.List.Elements.{All-nil, All-push}
use Rattle.kept_shard.specs.Keeping.{KeepingShard}
use Rattle.fault_shards.specs.Cuts.{shard_count}
use Rattle.fault_shards.specs.Shards.{representatives_of}
use Rattle.dict_windows.specs.Faults.{HaveGone, faults_in}
use Rattle.dict_windows.proofs.Shards.{begun-more, begun-all}
use Rattle.dict_windows.proofs.faults.begin_shards.Goals as goal

pub numbers-init : goal.numbers-init
numbers-init g c = record {
  gone = subst (HaveGone 0) (sym c.new-own.ensures.items) (All-nil (λ (own : KeepingShard). own.gone ≡ 0));
  faults = ap faults_in c.new-own.ensures.items;
}

pub numbers-preserved : goal.numbers-preserved
numbers-preserved g c = record {
  gone =
      subst (HaveGone 0) (sym c.in_ok-push.ensures.items)
      (All-push (λ (own : KeepingShard). own.gone ≡ 0) c.numbers.own.items c.in_ok-next.next c.numbers.invariant.gone c.in_ok-next.ensures.gone);
  faults =
      ap faults_in c.in_ok-push.ensures.items
      ∙ begun-more (representatives_of c.args.shards.now) c.numbers.number c.numbers.own.items c.in_ok-next.next c.numbers.invariant.faults c.in_ok-next.ensures.faults;
}

pub returns-clause-gone : goal.returns-clause-gone
returns-clause-gone g c = c.numbers.invariant.gone

pub returns-clause-faults : goal.returns-clause-faults
returns-clause-faults g c =
    let numbers = representatives_of c.args.shards.now in
    let room : length numbers ≤ 32 * shard_count (length numbers) = c.shards_suffice.ensures.room (length numbers) in
    let count : c.count-number-end.result ≡ shard_count (length numbers) = c.count-number-end.ensures in
    let past : c.count-number-end.result ≤ c.numbers.number = c.numbers-test.false in
    begun-all numbers c.numbers.number c.numbers.own.items (omega (arith, room, count, past)) c.numbers.invariant.faults
