-- What every core keeps.
use Rattle.std.proofs.Common.{ℕ, ◌+◌, ◌*◌, ◌^◌, ◌<◌, ◌≤◌, ◌≡◌, ◌∙◌, ap, sym, subst, arith, List, length, map}
use Rattle.std.proofs.lemmas.List.{length-map}
use Rattle.std.proofs.lemmas.Nat.{mul-le}
use Rattle.san_base.specs.declared.limits.TheConstants.{MAX_CELLS, MAX_LEAVES, MAX_WINDOW}
use Rattle.san_book.specs.Bounds.{claims_by, claims_in, pieces_in, steps_of}
use Rattle.san_book.specs.declared.limits.TheConstants.{MAX_JOURNAL, MAX_STEPS_TO_CLAIM}
use Rattle.san_draw.specs.Key.{draw_of}
use Rattle.san_net.specs.Runs.{limits_in}
use Rattle.san_core.specs.Machines.{FollowsRun, MachineValue}
use Rattle.san_speculation.specs.Speculating.{CoreValue, IsReplayed, KeepsTheLaw, step_in}
use Rattle.san_speculation.specs.declared.step.Step.{Step}
use Rattle.san_speculation.proofs.Speculated.{HasSizes, IsRun, every_interleaving, sizes_of}

pub keeps_the_law : (v : CoreValue) → FollowsRun v.machine → IsRun v.machine.network → (r : IsReplayed v) → KeepsTheLaw v.machine.network v.machine.seed v.machine.limits v.machine.start r.workers v.book
keeps_the_law v follows run r = every_interleaving v.machine.network run v.machine.seed v.machine.limits v.machine.start r.workers follows.start v.book.journal v.book r.replays

-- a machine's network, of a core as it is seen
pub run_seen : (m : MachineValue) (v : CoreValue) → m ≡ v.machine → IsRun m.network → IsRun v.machine.network
run_seen m v is run = subst (λ (x : MachineValue). IsRun x.network) is run

-- a chain for each leaf
pub chains_long : (v : CoreValue) → FollowsRun v.machine → IsRun v.machine.network → (r : IsReplayed v) → length v.book.chains ≡ length v.machine.network.parts
chains_long v follows run r =
    let sizes : HasSizes v.machine.network v.machine.start.core = sizes_of v.machine.network (draw_of v.machine.seed) (limits_in v.machine.limits) run.shared v.machine.start.core follows.start in
    (keeps_the_law v follows run r).core.chains ∙ sizes.leaves

-- the windows of all leaves
windows : (v : CoreValue) → FollowsRun v.machine → IsRun v.machine.network → length v.machine.network.parts * v.machine.limits.window ≤ MAX_LEAVES * MAX_WINDOW
windows v follows run = mul-le (length v.machine.network.parts) v.machine.limits.window MAX_LEAVES MAX_WINDOW run.known.network.small.leaves follows.limits.window_in_range.1

pub journal_is_few : (v : CoreValue) → FollowsRun v.machine → IsRun v.machine.network → (r : IsReplayed v) → (js : List Step) → map step_in js ≡ v.book.journal → length js ≤ MAX_JOURNAL
journal_is_few v follows run r js is =
    let t : length v.book.journal + (pieces_in v.book.chains + claims_by steps_of v.book.claims) ≤ MAX_STEPS_TO_CLAIM + ((length v.book.chains * v.machine.limits.window + (MAX_CELLS + 2) * length v.book.claims) + v.book.taken) = r.brief.journal in
    let p : length v.book.chains * v.machine.limits.window ≡ length v.machine.network.parts * v.machine.limits.window = ap (λ (n : ℕ). n * v.machine.limits.window) (chains_long v follows run r) in
    let most = windows v follows run in
    let long : length js ≡ length v.book.journal = sym (length-map js step_in) ∙ ap length is in
    omega (arith, t, p, most, long, r.brief.stretch, r.claims, r.few)

pub rollbacks_are_few : (v : CoreValue) → FollowsRun v.machine → IsRun v.machine.network → (r : IsReplayed v) → v.book.rollbacks ≤ v.machine.limits.rollbacks + (length v.machine.network.parts * v.machine.limits.window + length v.book.claims)
rollbacks_are_few v follows run r =
    let b : v.book.rollbacks + (pieces_in v.book.chains + claims_in v.book.claims) ≤ v.machine.limits.rollbacks + (length v.book.chains * v.machine.limits.window + length v.book.claims) = (keeps_the_law v follows run r).core.bounded.rollbacks in
    let p : length v.book.chains * v.machine.limits.window ≡ length v.machine.network.parts * v.machine.limits.window = ap (λ (n : ℕ). n * v.machine.limits.window) (chains_long v follows run r) in
    omega (arith, b, p)

pub rollbacks_fit : (v : CoreValue) → FollowsRun v.machine → IsRun v.machine.network → (r : IsReplayed v) → v.book.rollbacks + 1 < 2 ^ 64
rollbacks_fit v follows run r =
    let few : v.book.rollbacks ≤ v.machine.limits.rollbacks + (length v.machine.network.parts * v.machine.limits.window + length v.book.claims) = rollbacks_are_few v follows run r in
    let p : length v.machine.network.parts * v.machine.limits.window ≤ MAX_LEAVES * MAX_WINDOW = windows v follows run in
    let w = r.claims in
    let most = follows.limits.rollbacks_in_range in
    omega (arith, few, p, w, r.few, most)
