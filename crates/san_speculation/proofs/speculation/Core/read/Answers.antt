use Rattle.std.proofs.Common.{ℕ, ◌≤◌, ◌≡◌, ◌∙◌, ap, subst, sym}
use Rattle.san_base.specs.declared.limits.TheConstants.{MAX_TOKENS}
use Rattle.san_book.specs.Lines.{seen_at}
use Rattle.san_book.specs.Nets.{or_zero}
use Rattle.san_speculation.specs.Speculating.{CoreValue}
use Rattle.san_speculation.proofs.Keeping.{run_seen}
use Rattle.san_speculation.proofs.SmallReads.{core_shows_small}
use Rattle.san_speculation.proofs.Speculated.{is_run}
use Rattle.san_speculation.proofs.speculation.Core.read.Goals as goal

pub returns-clause-value : goal.returns-clause-value
returns-clause-value c = c.read.ensures ∙ ap (λ (x : CoreValue). or_zero (seen_at x.book.lines c.args.stamp c.args.place.0)) c.self.view_is

pub returns-clause-small : goal.returns-clause-small
returns-clause-small c =
    let is = ap (λ (x : CoreValue). x.machine) c.self.view_is in
    let run = run_seen c.self.inside.machine c.args.self.now is (is_run c.network.result.now c.self.inside.machine.network c.network.ensures c.is_network.ensures.network c.is_network.ensures.lawful c.is_network.ensures.laid c.is_network.ensures.shared c.is_network.ensures.private) in
    let value : c.read.result ≡ or_zero (seen_at c.args.self.now.book.lines c.args.stamp c.args.place.0) = c.read.ensures ∙ ap (λ (x : CoreValue). or_zero (seen_at x.book.lines c.args.stamp c.args.place.0)) c.self.view_is in
    subst (λ (k : ℕ). k ≤ MAX_TOKENS) (sym value) (core_shows_small c.args.self.now c.keeps_the_law.ensures.machine run c.keeps_the_law.ensures.replayed c.args.stamp c.args.place.0)
