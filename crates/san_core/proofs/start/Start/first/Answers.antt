use Rattle.std.proofs.Common.{refl}
use Rattle.san_draw.specs.Key.{draw_of}
use Rattle.san_net.specs.Runs.{limits_in}
use Rattle.san_core.proofs.Opening as opening
use Rattle.san_core.proofs.start.Start.first.Goals as goal

pub returns-clause-core : goal.returns-clause-core
returns-clause-core c draw bounds = opening.core_is c.args.flat.now c.is_network.ensures.network draw bounds c.args.limits.horizon.0 c.in_ok-first_states.field-0.items c.in_ok-first_shared.field-0.items c.in_ok-open.field-0 c.in_ok-open-2.field-0
    c.in_ok-first_states.ensures c.in_ok-first_shared.ensures (c.in_ok-open.ensures draw bounds) c.in_ok-open-2.ensures

pub returns-clause-starts : goal.returns-clause-starts
returns-clause-starts c seed = let draw = draw_of seed in let bounds = limits_in c.args.limits in
    opening.first_starts c.args.flat.now c.is_network.ensures.network draw bounds c.args.limits.horizon.0 c.in_ok-first_states.field-0.items c.in_ok-first_shared.field-0.items c.in_ok-open.field-0 c.in_ok-open-2.field-0
    c.in_ok-first_states.ensures c.in_ok-first_shared.ensures (c.in_ok-open.ensures draw bounds) c.in_ok-open-2.ensures (c.is_network.ensures.lawful draw bounds) (c.is_network.ensures.laid draw bounds) refl
