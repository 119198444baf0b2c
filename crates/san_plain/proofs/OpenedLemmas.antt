-- A run that has not begun stands for the law's opening state, with the whole report to come.
use Rattle.std.proofs.Common.{ℕ, sym, refl, subst, arith, List, [], Option}
use Rattle.san_base.proofs.FlowLemmas.{appends_nothing}
use Rattle.san_draw.specs.Key.{draw_of}
use Rattle.san_law.specs.State.{State, opening_state}
use Rattle.san_law.specs.Trajectory.{trajectory}
use Rattle.san_net.specs.Laid.{IsNetwork}
use Rattle.san_reward.specs.Running.{rates_in}
use Rattle.san_plain.specs.inner.Accounts.{RewardAccount, opened_account}
use Rattle.san_plain.specs.inner.Progress.{HasCounted, IsOpened, IsUnderWay, IsUnwritten, RunStands, left_after, opened_by}
use Rattle.san_report.specs.Pages.{Sent}
use Rattle.san_plain.specs.Reports.{Opened, net_by, report_of}
use Rattle.san_plain.specs.declared.counted.CountedRun.{CountedRun}
use Rattle.san_plain.specs.declared.run.RunInProgress.{RunInProgress}
use Rattle.san_plain.proofs.CountLemmas.{opened_counts, opened_is}
use Rattle.san_plain.proofs.ReportLemmas.{whole_left}
use Rattle.san_net.specs.Runs.{limits_in}

module _ (o : Opened) where
  abbrev start : State
  start = opening_state (net_by o)

  abbrev none_counted : RewardAccount
  none_counted = opened_account o.network o.limits.horizon.0

  opened_counted : HasCounted o [] start none_counted
  opened_counted = record {
    of_network = refl;
    at_marking = refl;
    is_of = opened_is o.network (draw_of o.seed) (limits_in o.limits) (rates_in o.network o.network.initial);
    rates = refl;
    counts = opened_counts o.network (draw_of o.seed) (limits_in o.limits) (rates_in o.network o.network.initial);
    early = omega arith;
  }

  sent_none : (first : Option (List ℕ)) → Sent first first [] (report_of o) (left_after o [] (trajectory (net_by o) start))
  sent_none first = ([], appends_nothing first, whole_left o)

module _ (c : CountedRun) (known : IsNetwork c.flat.now) (is : IsOpened c) where
  pub stands : RunStands (opened_by c) [] (start (opened_by c)) c
  stands = record {
    known = known;
    range = is.range;
    of_network = refl;
    in_limits = refl;
    runs = refl;
    at_state = is.run;
    counted = subst (HasCounted (opened_by c) [] (start (opened_by c))) (sym is.rewards) (opened_counted (opened_by c));
    many = is.none;
  }

-- its report is to come whole
pub begins : (p : RunInProgress) → IsNetwork p.run.flat.now → IsUnwritten p → (first : Option (List ℕ)) → IsUnderWay (opened_by p.run) first first p
begins p known is first =
    let o = opened_by p.run in
    ([], start o, stands p.run known is.run, subst (λ (page : List ℕ). Sent first first page (report_of o) (left_after o [] (trajectory (net_by o) (start o)))) (sym is.page) (sent_none o first))
