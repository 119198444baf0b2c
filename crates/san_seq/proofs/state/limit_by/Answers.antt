use Rattle.std.proofs.Common.{◌∙◌, ap, sym, cond, Bool, Some}
use Rattle.std.specs.Option.{option_map}
use Rattle.std.proofs.lemmas.Bool.{lt-ltb}
use Rattle.san_law.specs.Step.{Unstable, events_left}
use Rattle.san_net.specs.Runs.{ending_in}
use Rattle.san_seq.proofs.state.limit_by.Goals as goal

pub returns-then-burst-limits : goal.returns-then-burst-limits
returns-then-burst-limits c = λ n.
    c.events_left.ensures n
    ∙ ap (λ (b : Bool). option_map (ending_in n c.args.time) (cond b (events_left c.args.limits.now.events c.args.count) (Some Unstable))) (sym (lt-ltb c.args.burst c.args.limits.now.burst c.if-burst-limits.true))
