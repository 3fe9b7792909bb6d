use Rattle.std.proofs.Common.{◌<◌, rules, arith}
use Rattle.causal_monitor.proofs.OrderLaws.{jump_orders, jump_le, orders-parent, orders_trans}
use Rattle.causal_monitor.proofs.order.jump_of.Goals as goal

pub index-far-requires : goal.index-far-requires
index-far-requires c =
    let cause_before : c.in-Some.cause < c.args.event = search rules in
    let le = jump_le c.args.log.now.log c.requires.earlier c.args.jumps.now.items c.requires.jumps c.in-Some.cause c.index-near.result.now (omega (arith, c.requires.within))
    (omega (arith, c.requires.noted)) c.index-near.ensures in
    omega (arith, c.requires.within)

pub index-requires-2 : goal.index-requires-2
index-requires-2 c =
    let cause_before : c.in-Some.cause < c.args.event = search rules in
    let le = jump_le c.args.log.now.log c.requires.earlier c.args.jumps.now.items c.requires.jumps c.in-Some.cause c.index-near.result.now (omega (arith, c.requires.within))
    (omega (arith, c.requires.noted)) c.index-near.ensures in
    omega (arith, c.requires.within, c.requires.as_many)

pub index-requires-3 : goal.index-requires-3
index-requires-3 c =
    let cause_before : c.in-Some.cause < c.args.event = search rules in
    let le = jump_le c.args.log.now.log c.requires.earlier c.args.jumps.now.items c.requires.jumps c.in-Some.cause c.index-near.result.now (omega (arith, c.requires.within))
    (omega (arith, c.requires.noted)) c.index-near.ensures in
    omega (arith, c.requires.within, c.requires.as_many)

pub index-requires-4 : goal.index-requires-4
index-requires-4 c =
    let cause_before : c.in-Some.cause < c.args.event = search rules in
    let le = jump_le c.args.log.now.log c.requires.earlier c.args.jumps.now.items c.requires.jumps c.in-Some.cause c.index-near.result.now (omega (arith, c.requires.within))
    (omega (arith, c.requires.noted)) c.index-near.ensures in
    let le' = jump_le c.args.log.now.log c.requires.earlier c.args.jumps.now.items c.requires.jumps c.index-near.result.now c.index-far.result.now (omega (arith, c.requires.within))
    (omega (arith, c.requires.noted)) c.index-far.ensures in
    omega (arith, c.requires.within, c.requires.as_many)

pub returns-then-first-second : goal.returns-then-first-second
returns-then-first-second c =
    let cause_before : c.in-Some.cause < c.args.event = search rules in
    let le = jump_le c.args.log.now.log c.requires.earlier c.args.jumps.now.items c.requires.jumps c.in-Some.cause c.index-near.result.now (omega (arith, c.requires.within))
    (omega (arith, c.requires.noted)) c.index-near.ensures in
    let near = jump_orders c.args.log.now.log c.args.jumps.now.items c.requires.jumps c.in-Some.cause c.index-near.result.now (omega (arith, c.requires.within)) c.index-near.ensures in
    let far = jump_orders c.args.log.now.log c.args.jumps.now.items c.requires.jumps c.index-near.result.now c.index-far.result.now (omega (arith, c.requires.within)) c.index-far.ensures in
    orders-parent c.args.log.now.log c.requires.earlier c.index-far.result.now c.args.event c.in-Some.cause (omega (arith, c.requires.noted)) (search rules)
    (orders_trans c.args.log.now.log c.requires.earlier c.index-far.result.now c.index-near.result.now c.in-Some.cause (omega (arith, c.requires.noted)) far near)
