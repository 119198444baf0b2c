use Rattle.std.proofs.Common.{arith, sym, ◌∙◌}
use Rattle.san_speculation.proofs.Nexts.{leaf_within, next_ahead, none_ahead, none_needed, none_when_full, other_ahead}
use Rattle.san_speculation.proofs.need.next_leaf.Goals as goal

pub head-requires : goal.head-requires
head-requires c = let l = leaf_within c.args.machine.now c.follows.ensures c.args.ahead.now c.in-Some.taking c.in-Some.ensures in omega (arith, l, c.requires)

pub returns-in_default : goal.returns-in_default
returns-in_default c = none_needed c.args.machine.now c.follows.ensures c.args.ahead.now c.in_default.ensures

pub returns-then-is_full : goal.returns-then-is_full
returns-then-is_full c = none_when_full c.args.machine.now c.follows.ensures c.args.ahead.now (sym c.is_full.ensures ∙ c.if-is_full.true)

pub returns-in_default-head : goal.returns-in_default-head
returns-in_default-head c = none_ahead c.args.machine.now c.follows.ensures c.args.ahead.now c.in-Some.taking c.in-Some.ensures c.in_default-head.ensures

pub returns-then-is_needed_head : goal.returns-then-is_needed_head
returns-then-is_needed_head c = next_ahead c.args.machine.now c.follows.ensures c.args.ahead.now c.in-Some.taking c.in-Some.ensures (sym c.is_full.ensures ∙ c.if-is_full.false)
    (let l = leaf_within c.args.machine.now c.follows.ensures c.args.ahead.now c.in-Some.taking c.in-Some.ensures in omega (arith, l, c.requires))
    c.in-Some-head.head.now c.in-Some-head.ensures (sym c.is_needed_head.ensures ∙ c.if-is_needed_head.true)

pub returns-else-is_needed_head : goal.returns-else-is_needed_head
returns-else-is_needed_head c = other_ahead c.args.machine.now c.follows.ensures c.args.ahead.now c.in-Some.taking c.in-Some.ensures c.in-Some-head.head.now c.in-Some-head.ensures (sym c.is_needed_head.ensures ∙ c.if-is_needed_head.false)
