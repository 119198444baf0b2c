use Rattle.std.proofs.Common.{List, ap, arith, length, refl, subst, sym, ◌+◌, ◌-◌, ◌<◌, ◌≤◌, ◌≡◌}
use Rattle.san_book.specs.Chains.{chain_of}
use Rattle.san_book.specs.Cores as book
use Rattle.san_speculation.specs.CoreCalls.{ahead_of}
use Rattle.san_speculation.specs.Speculating.{CoreValue, IsReplayed, core_by}
use Rattle.san_speculation.specs.declared.step.Step.{Step}
use Rattle.san_speculation.proofs.Cuts.{all_fit, cut_by_some, cut_count, cut_is, cut_nothing, cut_nowhere}
use Rattle.san_speculation.proofs.Lows.{cut_kept}
use Rattle.san_speculation.proofs.Keeping.{rollbacks_fit, run_seen}
use Rattle.san_speculation.proofs.Seen.{leaves_seen, same_machine, stays_seen, step_seen}
use Rattle.san_speculation.proofs.Speculated.{is_run}
use Rattle.san_speculation.proofs.Stepping.{step_keeps}
use Rattle.san_speculation.proofs.speculation.Core.cut.Goals as goal

pub cut-requires-clause-fit : goal.cut-requires-clause-fit
cut-requires-clause-fit c =
    let is = ap (λ (x : CoreValue). x.machine) c.self.view_is in
    let run = run_seen c.self.inside.machine c.args.self.now is (is_run c.network.result.now c.self.inside.machine.network c.network.ensures c.is_network.ensures.network c.is_network.ensures.lawful c.is_network.ensures.laid c.is_network.ensures.shared c.is_network.ensures.private) in
    all_fit c.args.self.now c.keeps_the_law.ensures.machine run c.keeps_the_law.ensures.replayed c.self.inside.ahead (sym (ap (λ (x : CoreValue). x.book.lines) c.self.view_is)) (sym (ap (λ (x : CoreValue). x.book.chains) c.self.view_is)) c.args.leaf.0

pub overflow_add-self : goal.overflow_add-self
overflow_add-self c =
    let is = ap (λ (x : CoreValue). x.machine) c.self.view_is in
    let run = run_seen c.self.inside.machine c.args.self.now is (is_run c.network.result.now c.self.inside.machine.network c.network.ensures c.is_network.ensures.network c.is_network.ensures.lawful c.is_network.ensures.laid c.is_network.ensures.shared c.is_network.ensures.private) in
    let few = rollbacks_fit c.args.self.now c.keeps_the_law.ensures.machine run c.keeps_the_law.ensures.replayed in
    let same : c.self.inside.rollbacks ≡ c.args.self.now.book.rollbacks = ap (λ (x : CoreValue). x.book.rollbacks) c.self.view_is in
    omega (arith, few, same)

pub invariant_of-self : goal.invariant_of-self
invariant_of-self c = (
  subst (λ (js : List Step). IsReplayed (core_by c.self.inside.machine c.self.inside.ahead c.self.inside.claims.items js c.self.inside.rollbacks)) (sym c.in_err-push.ensures.items)
      (subst IsReplayed (sym c.self.view_is) c.keeps_the_law.ensures.replayed),
  c.self.invariant.1,
)

pub invariant_of-self-2 : goal.invariant_of-self-2
invariant_of-self-2 c =
    let is = ap (λ (x : CoreValue). x.machine) c.self.view_is in
    let run = run_seen c.self.inside.machine c.args.self.now is (is_run c.network.result.now c.self.inside.machine.network c.network.ensures c.is_network.ensures.network c.is_network.ensures.lawful c.is_network.ensures.laid c.is_network.ensures.shared c.is_network.ensures.private) in
    let old = core_by c.self.inside.machine c.self.inside.ahead c.self.inside.claims.items c.self.inside.journal.items c.self.inside.rollbacks in
    let new = core_by c.self.inside.machine c.cut.new.self c.self.inside.claims.items c.push.new.self.items (c.self.inside.rollbacks + 1) in
    let gone : 0 < c.len.result - c.current-current.result = omega (arith, c.if-gone-eq0.false) in
    let short : c.current-current.result < length (chain_of c.self.inside.ahead.chains c.args.leaf.0) = let l = c.len.ensures in omega (arith, gone, l) in (
      step_keeps c.args.self.now new c.keeps_the_law.ensures.machine run c.keeps_the_law.ensures.replayed (book.Cut c.args.worker c.args.leaf.0) tt
          (step_seen old c.args.self.now c.self.view_is (book.Cut c.args.worker c.args.leaf.0) _
          (cut_is c.self.inside.machine c.self.inside.ahead c.self.inside.claims.items c.self.inside.journal.items c.self.inside.rollbacks c.args.worker c.current-current.result c.args.leaf c.cut.new.self c.push.new.self.items (c.self.inside.rollbacks + 1)
          c.current-current.ensures.count short c.cut.ensures c.in_ok-push.ensures.items refl))
          (same_machine old c.args.self.now new c.self.view_is refl),
      cut_kept c.self.inside.machine c.self.inside.ahead c.self.inside.claims.items c.self.inside.journal.items c.self.inside.rollbacks c.args.self.now c.self.view_is c.keeps_the_law.ensures.machine (run_seen c.self.inside.machine c.args.self.now (ap (λ (x : CoreValue). x.machine) c.self.view_is) (is_run c.network.result.now c.self.inside.machine.network c.network.ensures c.is_network.ensures.network c.is_network.ensures.lawful c.is_network.ensures.laid c.is_network.ensures.shared c.is_network.ensures.private)) c.keeps_the_law.ensures.replayed c.self.inside.soonest c.self.invariant.1 c.args.leaf c.current-current.result c.cut.new.self c.touch.new.soonest c.cut.ensures c.touch.ensures,
    )

pub returns : goal.returns
returns c =
    let old = core_by c.self.inside.machine c.self.inside.ahead c.self.inside.claims.items c.self.inside.journal.items c.self.inside.rollbacks in
    let new = core_by c.self.inside.machine c.cut.new.self c.self.inside.claims.items c.push.new.self.items (c.self.inside.rollbacks + 1) in
    let gone : 0 < c.len.result - c.current-current.result = omega (arith, c.if-gone-eq0.false) in
    let long : c.len.result ≡ length (chain_of c.self.inside.ahead.chains c.args.leaf.0) = c.len.ensures in
    let within : c.current-current.result ≤ length (chain_of c.self.inside.ahead.chains c.args.leaf.0) = c.current-current.ensures.within in
    let short : c.current-current.result < length (chain_of c.self.inside.ahead.chains c.args.leaf.0) = omega (arith, gone, long) in
    let left : length (chain_of c.cut.new.self.chains c.args.leaf.0) ≡ c.current-current.result = cut_count c.self.inside.machine c.self.inside.ahead c.self.inside.claims.items c.self.inside.journal.items c.self.inside.rollbacks c.current-current.result c.args.leaf c.cut.new.self (let n = c.leaves.ensures in omega (arith, n, c.if-at-leaves.false)) within c.cut.ensures in
    let before : ahead_of c.args.self.now c.args.leaf.0 ≡ length (chain_of c.self.inside.ahead.chains c.args.leaf.0) = sym (ap (λ (x : CoreValue). length (chain_of x.book.chains c.args.leaf.0)) c.self.view_is) in
    let count : ahead_of c.args.self.now c.args.leaf.0 ≡ length (chain_of c.cut.new.self.chains c.args.leaf.0) + (c.len.result - c.current-current.result) = omega (arith, before, left, long, within) in
    cut_by_some c.args.self.now new c.args.worker c.args.leaf.0 (c.len.result - c.current-current.result) gone
    (leaves_seen old c.args.self.now new c.self.view_is (book.Cut c.args.worker c.args.leaf.0)
    (cut_is c.self.inside.machine c.self.inside.ahead c.self.inside.claims.items c.self.inside.journal.items c.self.inside.rollbacks c.args.worker c.current-current.result c.args.leaf c.cut.new.self c.push.new.self.items (c.self.inside.rollbacks + 1)
    c.current-current.ensures.count short c.cut.ensures c.in_ok-push.ensures.items refl) refl)
    count

pub returns-then-at-leaves : goal.returns-then-at-leaves
returns-then-at-leaves c =
    stays_seen (core_by c.self.inside.machine c.self.inside.ahead c.self.inside.claims.items c.self.inside.journal.items c.self.inside.rollbacks) c.args.self.now c.self.view_is (book.Cut c.args.worker c.args.leaf.0)
    (cut_nowhere c.self.inside.machine c.self.inside.ahead c.self.inside.claims.items c.self.inside.journal.items c.self.inside.rollbacks c.args.worker c.args.leaf.0 (let n = c.leaves.ensures in omega (arith, n, c.if-at-leaves.true)))

pub returns-then-gone-eq0 : goal.returns-then-gone-eq0
returns-then-gone-eq0 c =
    stays_seen (core_by c.self.inside.machine c.self.inside.ahead c.self.inside.claims.items c.self.inside.journal.items c.self.inside.rollbacks) c.args.self.now c.self.view_is (book.Cut c.args.worker c.args.leaf.0)
    (cut_nothing c.self.inside.machine c.self.inside.ahead c.self.inside.claims.items c.self.inside.journal.items c.self.inside.rollbacks c.args.worker c.args.leaf.0 c.current-current.result c.current-current.ensures.count
    (let l : c.len.result ≡ length (chain_of c.self.inside.ahead.chains c.args.leaf.0) = c.len.ensures in omega (arith, l, c.if-gone-eq0.true)))

pub touch-requires : goal.touch-requires
touch-requires c = let n = c.leaves.ensures in let l = c.self.invariant.1.long in omega (arith, n, l, c.if-at-leaves.false)
