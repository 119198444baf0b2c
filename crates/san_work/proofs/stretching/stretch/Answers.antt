use Rattle.std.proofs.Common.{subst}
use Rattle.san_draw.specs.Key.{draw_of}
use Rattle.san_law.specs.Lawful.{IsLawful}
use Rattle.san_net.specs.Network.{Network, net_of}
use Rattle.san_net.specs.Runs.{limits_in, net_at}
use Rattle.san_work.proofs.Continuing.{core_continues}
use Rattle.san_work.proofs.Finishing.{of_run_on}
use Rattle.san_work.proofs.stretching.stretch.Goals as goal

pub returns : goal.returns
returns g c =
    let s = c.args.setting.now in
    let run = of_run_on s.flat.now s.seed s.limits s.start.now c.in_ok-core.core c.finish.new.core c.in_ok-core.ensures c.finish.ensures.run in
    let lawful : IsLawful (net_at s.flat.now s.seed s.limits) = subst (λ (x : Network). IsLawful (net_of x (draw_of s.seed) (limits_in s.limits))) c.get.ensures (c.is_network.ensures.lawful (draw_of s.seed) (limits_in s.limits)) in
    record {
      run = run;
      over = c.in_ok-finish.ensures.over;
      continues = λ past h. core_continues s.flat.now s.seed s.limits s.start.now c.finish.new.core run c.keeps_the_law.ensures.machine lawful past h;
    }
