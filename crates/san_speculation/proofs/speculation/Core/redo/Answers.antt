use Rattle.std.proofs.Common.{List, [], ◌∷◌, ◌++◌, ◌+◌, ap, arith, length, refl, sym, ◌≡◌, ◌∙◌}
use Rattle.san_core.specs.Machines.{MachineValue}
use Rattle.san_speculation.proofs.Lows.{keys_long, parts_long, taken_kept}
use Rattle.san_book.specs.Cores as book
use Rattle.san_speculation.specs.Speculating.{CoreValue, core_by}
use Rattle.san_speculation.specs.declared.step.Step.{Step}
use Rattle.san_speculation.specs.declared.step.Step.TheVariants as step
use Rattle.san_speculation.proofs.Advancing.{advances}
use Rattle.san_speculation.proofs.Committings.{less_taken, redo_is, redone_here, reserved_then, run_taken, whole_reserved, whole_seen}
use Rattle.san_speculation.proofs.Keeping.{rollbacks_fit, run_seen}
use Rattle.san_speculation.proofs.Nexts.{goes_here, need_core, rests_here}
use Rattle.san_speculation.proofs.Seen.{follows_seen, held_seen, less_seen, redo_failed, rests_seen, run_moved, same_parts, step_seen}
use Rattle.san_speculation.proofs.Speculated.{is_run}
use Rattle.san_speculation.proofs.Stepping.{counter_fits, step_keeps}
use Rattle.san_speculation.proofs.speculation.Core.redo.Goals as goal

pub returns-then-is_full : goal.returns-then-is_full
returns-then-is_full c =
    let old = core_by c.self.inside.machine c.self.inside.ahead c.self.inside.claims.items c.self.inside.journal.items c.self.inside.rollbacks in
    let follows = (follows_seen c.self.inside.machine c.self.inside.ahead c.self.inside.claims.items c.self.inside.journal.items c.self.inside.rollbacks c.args.self.now c.self.view_is c.keeps_the_law.ensures.machine) in
    rests_seen old c.args.self.now c.self.view_is (rests_here c.self.inside.machine follows c.self.inside.ahead c.in-Some.taking c.in-Some.ensures (sym c.is_full.ensures ∙ c.if-is_full.true) old.book)

pub returns-in_err-reserve : goal.returns-in_err-reserve
returns-in_err-reserve c =
    redo_failed c.args.self.now (core_by c.make.new.self c.self.inside.ahead c.self.inside.claims.items c.reserve.new.self.items c.self.inside.rollbacks) c.args.worker c.from_residual-in_err-reserve.result c.from_residual-in_err-reserve.ensures.0
    (same_parts c.self.inside.machine c.make.new.self c.self.inside.ahead c.self.inside.claims.items c.self.inside.journal.items c.reserve.new.self.items c.self.inside.rollbacks c.args.self.now c.self.view_is c.make.ensures.same c.in_err-reserve.ensures.items)

pub returns-in_err-reserve-2 : goal.returns-in_err-reserve-2
returns-in_err-reserve-2 c =
    redo_failed c.args.self.now (core_by c.reserve-2.new.self c.self.inside.ahead c.self.inside.claims.items c.reserve.new.self.items c.self.inside.rollbacks) c.args.worker c.from_residual-in_err-reserve-2.result c.from_residual-in_err-reserve-2.ensures.0
    (same_parts c.self.inside.machine c.reserve-2.new.self c.self.inside.ahead c.self.inside.claims.items c.self.inside.journal.items c.reserve.new.self.items c.self.inside.rollbacks c.args.self.now c.self.view_is (c.in_err-reserve-2.ensures.err ∙ c.make.ensures.same) c.in_ok-reserve.ensures.items)

pub retake-thrown-requires-clause-whole : goal.retake-thrown-requires-clause-whole
retake-thrown-requires-clause-whole c =
    let is = ap (λ (x : CoreValue). x.machine) c.self.view_is in
    let run = run_seen c.self.inside.machine c.args.self.now is (is_run c.network.result.now c.self.inside.machine.network c.network.ensures c.is_network.ensures.network c.is_network.ensures.lawful c.is_network.ensures.laid c.is_network.ensures.shared c.is_network.ensures.private) in
    whole_reserved c.self.inside.machine c.reserve-2.new.self 1 (reserved_then c.self.inside.machine c.make.new.self c.reserve-2.new.self 1 c.make.ensures.same c.in_ok-reserve-2.ensures.ok) c.self.inside.ahead (whole_seen c.self.inside.machine c.self.inside.ahead c.self.inside.claims.items c.self.inside.journal.items c.self.inside.rollbacks c.args.self.now c.self.view_is c.keeps_the_law.ensures.machine run c.keeps_the_law.ensures.replayed)

pub retake-thrown-requires-clause-sizes : goal.retake-thrown-requires-clause-sizes
retake-thrown-requires-clause-sizes c = parts_long c.self.inside.machine c.self.inside.ahead c.self.inside.claims.items c.self.inside.journal.items c.self.inside.rollbacks c.args.self.now c.self.view_is c.keeps_the_law.ensures.machine (run_seen c.self.inside.machine c.args.self.now (ap (λ (x : CoreValue). x.machine) c.self.view_is) (is_run c.network.result.now c.self.inside.machine.network c.network.ensures c.is_network.ensures.network c.is_network.ensures.lawful c.is_network.ensures.laid c.is_network.ensures.shared c.is_network.ensures.private)) c.keeps_the_law.ensures.replayed c.self.inside.soonest c.self.invariant.1 ∙ ap (λ (x : MachineValue). length x.network.parts) (sym (reserved_then c.self.inside.machine c.make.new.self c.reserve-2.new.self 1 c.make.ensures.same c.in_ok-reserve-2.ensures.ok))

pub retake-thrown-requires-clause-few : goal.retake-thrown-requires-clause-few
retake-thrown-requires-clause-few c =
    let is = ap (λ (x : CoreValue). x.machine) c.self.view_is in
    let run = run_seen c.self.inside.machine c.args.self.now is (is_run c.network.result.now c.self.inside.machine.network c.network.ensures c.is_network.ensures.network c.is_network.ensures.lawful c.is_network.ensures.laid c.is_network.ensures.shared c.is_network.ensures.private) in
    counter_fits c.self.inside.machine c.self.inside.ahead c.self.inside.claims.items c.self.inside.journal.items c.self.inside.rollbacks c.args.self.now c.self.view_is c.keeps_the_law.ensures.machine run c.keeps_the_law.ensures.replayed c.in-Some.taking.leaf.0

pub overflow_add-self : goal.overflow_add-self
overflow_add-self c =
    let is = ap (λ (x : CoreValue). x.machine) c.self.view_is in
    let run = run_seen c.self.inside.machine c.args.self.now is (is_run c.network.result.now c.self.inside.machine.network c.network.ensures c.is_network.ensures.network c.is_network.ensures.lawful c.is_network.ensures.laid c.is_network.ensures.shared c.is_network.ensures.private) in
    let few = rollbacks_fit c.args.self.now c.keeps_the_law.ensures.machine run c.keeps_the_law.ensures.replayed in
    let same : c.self.inside.rollbacks ≡ c.args.self.now.book.rollbacks = ap (λ (x : CoreValue). x.book.rollbacks) c.self.view_is in
    omega (arith, few, same, c.retake-thrown.ensures.once)

pub invariant_of-self-2 : goal.invariant_of-self-2
invariant_of-self-2 c =
    let is = ap (λ (x : CoreValue). x.machine) c.self.view_is in
    let run = run_seen c.self.inside.machine c.args.self.now is (is_run c.network.result.now c.self.inside.machine.network c.network.ensures c.is_network.ensures.network c.is_network.ensures.lawful c.is_network.ensures.laid c.is_network.ensures.shared c.is_network.ensures.private) in
    let old = core_by c.self.inside.machine c.self.inside.ahead c.self.inside.claims.items c.self.inside.journal.items c.self.inside.rollbacks in
    let follows = (follows_seen c.self.inside.machine c.self.inside.ahead c.self.inside.claims.items c.self.inside.journal.items c.self.inside.rollbacks c.args.self.now c.self.view_is c.keeps_the_law.ensures.machine) in
    let new = core_by c.retake-thrown.new.machine c.retake-thrown.new.ahead c.self.inside.claims.items c.book.new.journal.items (c.self.inside.rollbacks + c.retake-thrown.result) in
    let happens = step_seen old c.args.self.now c.self.view_is (book.Redo c.args.worker) _
    (redo_is c.self.inside.machine c.self.inside.ahead c.self.inside.claims.items c.self.inside.journal.items c.self.inside.rollbacks c.retake-thrown.new.machine c.retake-thrown.new.ahead c.args.worker c.retake-thrown.result c.in-Some.taking c.book.new.journal.items
    (goes_here c.self.inside.machine follows c.self.inside.ahead c.in-Some.taking c.in-Some.ensures (sym c.is_full.ensures ∙ c.if-is_full.false) old.book)
    (need_core c.self.inside.machine follows c.self.inside.ahead c.in-Some.taking c.in-Some.ensures)
    (redone_here c.self.inside.machine c.reserve-2.new.self 1 (reserved_then c.self.inside.machine c.make.new.self c.reserve-2.new.self 1 c.make.ensures.same c.in_ok-reserve-2.ensures.ok) c.self.inside.ahead c.in-Some.taking c.retake-thrown.new.machine c.retake-thrown.new.ahead c.retake-thrown.result c.retake-thrown.ensures.redone)
    (c.book.ensures.items ∙ ap (λ (js : List Step). js ++ step.Redo c.args.worker ∷ []) c.in_ok-reserve.ensures.items)) in
    let same = run_moved old c.args.self.now c.self.view_is c.retake-thrown.new.machine (run_taken c.self.inside.machine c.reserve-2.new.self 1 (reserved_then c.self.inside.machine c.make.new.self c.reserve-2.new.self 1 c.make.ensures.same c.in_ok-reserve-2.ensures.ok) c.retake-thrown.new.machine c.in_ok-piece.piece c.retake-thrown.ensures.machine) in (
      step_keeps c.args.self.now new c.keeps_the_law.ensures.machine run c.keeps_the_law.ensures.replayed (book.Redo c.args.worker) tt happens same,
      taken_kept c.self.inside.machine c.self.inside.ahead c.self.inside.claims.items c.self.inside.journal.items c.self.inside.rollbacks c.args.self.now c.self.view_is c.keeps_the_law.ensures.machine (run_seen c.self.inside.machine c.args.self.now (ap (λ (x : CoreValue). x.machine) c.self.view_is) (is_run c.network.result.now c.self.inside.machine.network c.network.ensures c.is_network.ensures.network c.is_network.ensures.lawful c.is_network.ensures.laid c.is_network.ensures.shared c.is_network.ensures.private)) c.keeps_the_law.ensures.replayed c.self.inside.soonest c.self.invariant.1 c.reserve-2.new.self c.retake-thrown.new.machine _ c.retake-thrown.new.ahead c.retake-thrown.new.soonest (reserved_then c.self.inside.machine c.make.new.self c.reserve-2.new.self 1 c.make.ensures.same c.in_ok-reserve-2.ensures.ok) c.retake-thrown.ensures.low,
    )

pub returns : goal.returns
returns c =
    let is = ap (λ (x : CoreValue). x.machine) c.self.view_is in
    let run = run_seen c.self.inside.machine c.args.self.now is (is_run c.network.result.now c.self.inside.machine.network c.network.ensures c.is_network.ensures.network c.is_network.ensures.lawful c.is_network.ensures.laid c.is_network.ensures.shared c.is_network.ensures.private) in
    let old = core_by c.self.inside.machine c.self.inside.ahead c.self.inside.claims.items c.self.inside.journal.items c.self.inside.rollbacks in
    let follows = (follows_seen c.self.inside.machine c.self.inside.ahead c.self.inside.claims.items c.self.inside.journal.items c.self.inside.rollbacks c.args.self.now c.self.view_is c.keeps_the_law.ensures.machine) in
    let new = core_by c.retake-thrown.new.machine c.retake-thrown.new.ahead c.self.inside.claims.items c.book.new.journal.items (c.self.inside.rollbacks + c.retake-thrown.result) in
    let happens = step_seen old c.args.self.now c.self.view_is (book.Redo c.args.worker) _
    (redo_is c.self.inside.machine c.self.inside.ahead c.self.inside.claims.items c.self.inside.journal.items c.self.inside.rollbacks c.retake-thrown.new.machine c.retake-thrown.new.ahead c.args.worker c.retake-thrown.result c.in-Some.taking c.book.new.journal.items
    (goes_here c.self.inside.machine follows c.self.inside.ahead c.in-Some.taking c.in-Some.ensures (sym c.is_full.ensures ∙ c.if-is_full.false) old.book)
    (need_core c.self.inside.machine follows c.self.inside.ahead c.in-Some.taking c.in-Some.ensures)
    (redone_here c.self.inside.machine c.reserve-2.new.self 1 (reserved_then c.self.inside.machine c.make.new.self c.reserve-2.new.self 1 c.make.ensures.same c.in_ok-reserve-2.ensures.ok) c.self.inside.ahead c.in-Some.taking c.retake-thrown.new.machine c.retake-thrown.new.ahead c.retake-thrown.result c.retake-thrown.ensures.redone)
    (c.book.ensures.items ∙ ap (λ (js : List Step). js ++ step.Redo c.args.worker ∷ []) c.in_ok-reserve.ensures.items)) in
    let same = run_moved old c.args.self.now c.self.view_is c.retake-thrown.new.machine (run_taken c.self.inside.machine c.reserve-2.new.self 1 (reserved_then c.self.inside.machine c.make.new.self c.reserve-2.new.self 1 c.make.ensures.same c.in_ok-reserve-2.ensures.ok) c.retake-thrown.new.machine c.in_ok-piece.piece c.retake-thrown.ensures.machine) in
    advances c.args.self.now new c.keeps_the_law.ensures.machine run c.follows.ensures (held_seen c.self.inside.machine c.self.inside.ahead c.self.inside.claims.items c.self.inside.journal.items c.self.inside.rollbacks c.args.self.now c.self.view_is) refl (book.Redo c.args.worker) happens same
    (less_seen old c.args.self.now c.self.view_is c.retake-thrown.new.machine (less_taken c.self.inside.machine c.reserve-2.new.self 1 (reserved_then c.self.inside.machine c.make.new.self c.reserve-2.new.self 1 c.make.ensures.same c.in_ok-reserve-2.ensures.ok) c.retake-thrown.new.machine c.retake-thrown.ensures.less))

pub retake-thrown-requires-clause-keys : goal.retake-thrown-requires-clause-keys
retake-thrown-requires-clause-keys c = keys_long c.self.inside.machine c.self.inside.ahead c.self.inside.claims.items c.self.inside.journal.items c.self.inside.rollbacks c.args.self.now c.self.view_is c.keeps_the_law.ensures.machine (run_seen c.self.inside.machine c.args.self.now (ap (λ (x : CoreValue). x.machine) c.self.view_is) (is_run c.network.result.now c.self.inside.machine.network c.network.ensures c.is_network.ensures.network c.is_network.ensures.lawful c.is_network.ensures.laid c.is_network.ensures.shared c.is_network.ensures.private)) c.keeps_the_law.ensures.replayed c.self.inside.soonest c.self.invariant.1 ∙ ap (λ (x : MachineValue). length x.network.parts) (sym (reserved_then c.self.inside.machine c.make.new.self c.reserve-2.new.self 1 c.make.ensures.same c.in_ok-reserve-2.ensures.ok))
