use Rattle.std.proofs.Common.{List, [], ◌∷◌, ◌++◌, ap, length, refl, sym, ◌∙◌}
use Rattle.san_core.specs.Machines.{MachineValue}
use Rattle.san_speculation.proofs.Lows.{keys_long, parts_long, taken_kept}
use Rattle.san_book.specs.Cores as book
use Rattle.san_book.specs.declared.limits.TheConstants.{MAX_COMMIT}
use Rattle.san_speculation.specs.Speculating.{CoreValue, core_by}
use Rattle.san_speculation.specs.declared.step.Step.{Step}
use Rattle.san_speculation.specs.declared.step.Step.TheVariants as step
use Rattle.san_speculation.proofs.Advancing.{advances}
use Rattle.san_speculation.proofs.Committings.{all_here, commit_by_some, commit_is, commit_nothing, commit_rest, less_here, next_reserved, run_here, sizes_seen, whole_reserved, whole_seen}
use Rattle.san_speculation.proofs.Keeping.{run_seen}
use Rattle.san_speculation.proofs.Seen.{held_seen, less_seen, run_moved, stays_seen, step_seen}
use Rattle.san_speculation.proofs.Speculated.{is_run}
use Rattle.san_speculation.proofs.Stepping.{step_keeps}
use Rattle.san_speculation.proofs.speculation.Core.commit.Goals as goal

pub next_leaf-requires : goal.next_leaf-requires
next_leaf-requires c =
    let is = ap (λ (x : CoreValue). x.machine) c.self.view_is in
    let run = run_seen c.self.inside.machine c.args.self.now is (is_run c.network.result.now c.self.inside.machine.network c.network.ensures c.is_network.ensures.network c.is_network.ensures.lawful c.is_network.ensures.laid c.is_network.ensures.shared c.is_network.ensures.private) in
    sizes_seen c.self.inside.machine c.self.inside.ahead c.self.inside.claims.items c.self.inside.journal.items c.self.inside.rollbacks c.args.self.now c.self.view_is c.keeps_the_law.ensures.machine run c.keeps_the_law.ensures.replayed

pub returns-in_default : goal.returns-in_default
returns-in_default c = stays_seen (core_by c.self.inside.machine c.self.inside.ahead c.self.inside.claims.items c.self.inside.journal.items c.self.inside.rollbacks) c.args.self.now c.self.view_is (book.Commit c.args.worker 1) (commit_nothing c.self.inside.machine c.self.inside.ahead c.self.inside.claims.items c.self.inside.journal.items c.self.inside.rollbacks c.args.worker c.in_default.ensures)

pub commit_pieces-pieces-requires-clause-next : goal.commit_pieces-pieces-requires-clause-next
commit_pieces-pieces-requires-clause-next c = next_reserved c.self.inside.machine c.reserve-2.new.self MAX_COMMIT c.in_ok-reserve-2.ensures.ok c.self.inside.ahead c.in-Some.first c.in-Some.ensures

pub commit_pieces-pieces-requires-clause-whole : goal.commit_pieces-pieces-requires-clause-whole
commit_pieces-pieces-requires-clause-whole c =
    let is = ap (λ (x : CoreValue). x.machine) c.self.view_is in
    let run = run_seen c.self.inside.machine c.args.self.now is (is_run c.network.result.now c.self.inside.machine.network c.network.ensures c.is_network.ensures.network c.is_network.ensures.lawful c.is_network.ensures.laid c.is_network.ensures.shared c.is_network.ensures.private) in
    whole_reserved c.self.inside.machine c.reserve-2.new.self MAX_COMMIT c.in_ok-reserve-2.ensures.ok c.self.inside.ahead (whole_seen c.self.inside.machine c.self.inside.ahead c.self.inside.claims.items c.self.inside.journal.items c.self.inside.rollbacks c.args.self.now c.self.view_is c.keeps_the_law.ensures.machine run c.keeps_the_law.ensures.replayed)

pub commit_pieces-pieces-requires-clause-sizes : goal.commit_pieces-pieces-requires-clause-sizes
commit_pieces-pieces-requires-clause-sizes c = parts_long c.self.inside.machine c.self.inside.ahead c.self.inside.claims.items c.self.inside.journal.items c.self.inside.rollbacks c.args.self.now c.self.view_is c.keeps_the_law.ensures.machine (run_seen c.self.inside.machine c.args.self.now (ap (λ (x : CoreValue). x.machine) c.self.view_is) (is_run c.network.result.now c.self.inside.machine.network c.network.ensures c.is_network.ensures.network c.is_network.ensures.lawful c.is_network.ensures.laid c.is_network.ensures.shared c.is_network.ensures.private)) c.keeps_the_law.ensures.replayed c.self.inside.soonest c.self.invariant.1 ∙ ap (λ (x : MachineValue). length x.network.parts) (sym c.in_ok-reserve-2.ensures.ok)

pub invariant_of-self-2 : goal.invariant_of-self-2
invariant_of-self-2 c =
    let is = ap (λ (x : CoreValue). x.machine) c.self.view_is in
    let run = run_seen c.self.inside.machine c.args.self.now is (is_run c.network.result.now c.self.inside.machine.network c.network.ensures c.is_network.ensures.network c.is_network.ensures.lawful c.is_network.ensures.laid c.is_network.ensures.shared c.is_network.ensures.private) in
    let old = core_by c.self.inside.machine c.self.inside.ahead c.self.inside.claims.items c.self.inside.journal.items c.self.inside.rollbacks in
    let new = core_by c.commit_pieces-pieces.new.machine c.commit_pieces-pieces.new.ahead c.self.inside.claims.items c.book.new.journal.items c.self.inside.rollbacks in
    let happens = step_seen old c.args.self.now c.self.view_is (book.Commit c.args.worker c.commit_pieces-pieces.result) _
    (commit_is c.self.inside.machine c.self.inside.ahead c.self.inside.claims.items c.self.inside.journal.items c.self.inside.rollbacks c.commit_pieces-pieces.new.machine c.commit_pieces-pieces.new.ahead c.args.worker c.commit_pieces-pieces.result c.book.new.journal.items c.commit_pieces-pieces.ensures.least c.commit_pieces-pieces.ensures.most (all_here c.self.inside.machine c.reserve-2.new.self MAX_COMMIT c.in_ok-reserve-2.ensures.ok c.self.inside.ahead c.commit_pieces-pieces.result c.commit_pieces-pieces.new.machine c.commit_pieces-pieces.new.ahead c.commit_pieces-pieces.ensures.taken) (c.book.ensures.items ∙ ap (λ (js : List Step). js ++ step.Commit c.args.worker c.commit_pieces-pieces.result ∷ []) c.in_ok-reserve.ensures.items)) in
    let same = run_moved old c.args.self.now c.self.view_is c.commit_pieces-pieces.new.machine (run_here c.self.inside.machine c.reserve-2.new.self MAX_COMMIT c.in_ok-reserve-2.ensures.ok c.self.inside.ahead c.commit_pieces-pieces.result c.commit_pieces-pieces.new.machine c.commit_pieces-pieces.new.ahead c.commit_pieces-pieces.ensures.taken) in (
      step_keeps c.args.self.now new c.keeps_the_law.ensures.machine run c.keeps_the_law.ensures.replayed (book.Commit c.args.worker c.commit_pieces-pieces.result) tt happens same,
      taken_kept c.self.inside.machine c.self.inside.ahead c.self.inside.claims.items c.self.inside.journal.items c.self.inside.rollbacks c.args.self.now c.self.view_is c.keeps_the_law.ensures.machine (run_seen c.self.inside.machine c.args.self.now (ap (λ (x : CoreValue). x.machine) c.self.view_is) (is_run c.network.result.now c.self.inside.machine.network c.network.ensures c.is_network.ensures.network c.is_network.ensures.lawful c.is_network.ensures.laid c.is_network.ensures.shared c.is_network.ensures.private)) c.keeps_the_law.ensures.replayed c.self.inside.soonest c.self.invariant.1 c.reserve-2.new.self c.commit_pieces-pieces.new.machine _ c.commit_pieces-pieces.new.ahead c.commit_pieces-pieces.new.soonest c.in_ok-reserve-2.ensures.ok c.commit_pieces-pieces.ensures.low,
    )

pub returns : goal.returns
returns c =
    let is = ap (λ (x : CoreValue). x.machine) c.self.view_is in
    let run = run_seen c.self.inside.machine c.args.self.now is (is_run c.network.result.now c.self.inside.machine.network c.network.ensures c.is_network.ensures.network c.is_network.ensures.lawful c.is_network.ensures.laid c.is_network.ensures.shared c.is_network.ensures.private) in
    let old = core_by c.self.inside.machine c.self.inside.ahead c.self.inside.claims.items c.self.inside.journal.items c.self.inside.rollbacks in
    let new = core_by c.commit_pieces-pieces.new.machine c.commit_pieces-pieces.new.ahead c.self.inside.claims.items c.book.new.journal.items c.self.inside.rollbacks in
    let happens = step_seen old c.args.self.now c.self.view_is (book.Commit c.args.worker c.commit_pieces-pieces.result) _
    (commit_is c.self.inside.machine c.self.inside.ahead c.self.inside.claims.items c.self.inside.journal.items c.self.inside.rollbacks c.commit_pieces-pieces.new.machine c.commit_pieces-pieces.new.ahead c.args.worker c.commit_pieces-pieces.result c.book.new.journal.items c.commit_pieces-pieces.ensures.least c.commit_pieces-pieces.ensures.most (all_here c.self.inside.machine c.reserve-2.new.self MAX_COMMIT c.in_ok-reserve-2.ensures.ok c.self.inside.ahead c.commit_pieces-pieces.result c.commit_pieces-pieces.new.machine c.commit_pieces-pieces.new.ahead c.commit_pieces-pieces.ensures.taken) (c.book.ensures.items ∙ ap (λ (js : List Step). js ++ step.Commit c.args.worker c.commit_pieces-pieces.result ∷ []) c.in_ok-reserve.ensures.items)) in
    let same = run_moved old c.args.self.now c.self.view_is c.commit_pieces-pieces.new.machine (run_here c.self.inside.machine c.reserve-2.new.self MAX_COMMIT c.in_ok-reserve-2.ensures.ok c.self.inside.ahead c.commit_pieces-pieces.result c.commit_pieces-pieces.new.machine c.commit_pieces-pieces.new.ahead c.commit_pieces-pieces.ensures.taken) in
    commit_by_some c.args.self.now new c.args.worker c.commit_pieces-pieces.result c.commit_pieces-pieces.ensures.least
    (advances c.args.self.now new c.keeps_the_law.ensures.machine run c.follows.ensures (held_seen c.self.inside.machine c.self.inside.ahead c.self.inside.claims.items c.self.inside.journal.items c.self.inside.rollbacks c.args.self.now c.self.view_is) refl (book.Commit c.args.worker c.commit_pieces-pieces.result) happens same
    (less_seen old c.args.self.now c.self.view_is c.commit_pieces-pieces.new.machine (less_here c.self.inside.machine c.reserve-2.new.self MAX_COMMIT c.in_ok-reserve-2.ensures.ok c.self.inside.ahead c.commit_pieces-pieces.result c.commit_pieces-pieces.new.machine c.commit_pieces-pieces.new.ahead c.commit_pieces-pieces.ensures.taken c.commit_pieces-pieces.ensures.least)))
    (commit_rest c.commit_pieces-pieces.new.machine c.commit_pieces-pieces.new.ahead c.self.inside.claims.items c.book.new.journal.items c.self.inside.rollbacks c.args.worker c.commit_pieces-pieces.result c.commit_pieces-pieces.ensures.rest)

pub commit_pieces-pieces-requires-clause-keys : goal.commit_pieces-pieces-requires-clause-keys
commit_pieces-pieces-requires-clause-keys c = keys_long c.self.inside.machine c.self.inside.ahead c.self.inside.claims.items c.self.inside.journal.items c.self.inside.rollbacks c.args.self.now c.self.view_is c.keeps_the_law.ensures.machine (run_seen c.self.inside.machine c.args.self.now (ap (λ (x : CoreValue). x.machine) c.self.view_is) (is_run c.network.result.now c.self.inside.machine.network c.network.ensures c.is_network.ensures.network c.is_network.ensures.lawful c.is_network.ensures.laid c.is_network.ensures.shared c.is_network.ensures.private)) c.keeps_the_law.ensures.replayed c.self.inside.soonest c.self.invariant.1 ∙ ap (λ (x : MachineValue). length x.network.parts) (sym c.in_ok-reserve-2.ensures.ok)
