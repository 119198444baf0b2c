-- What a core keeps by a step, or by several.
use Rattle.std.proofs.Common.{ℕ, ◌+◌, ◌^◌, ◌<◌, ◌≤◌, ◌≡◌, ◌∙◌, ap, arith, sym, subst, List, [], ◌∷◌, ◌++◌, length, map, Option, Some}
use Rattle.san_base.specs.declared.limits.Limits.{Limits}
use Rattle.san_book.specs.Bounds.{IsBrief, ReadFits}
use Rattle.san_book.specs.Cores as book
use Rattle.san_book.specs.Cores.{opened}
use Rattle.san_book.specs.Journals.{Replays, replayed, stepped}
use Rattle.san_book.specs.Laws.{ReadsFit}
use Rattle.san_book.proofs.Replaying.{every_run, runs_are_brief}
use Rattle.san_core.specs.Machines.{FollowsRun, MachineValue}
use Rattle.san_core.specs.Redone.{IsSameRun}
use Rattle.san_law.specs.Core as law
use Rattle.san_net.specs.Network.{Network}
use Rattle.san_decide.specs.Booked.{book_of}
use Rattle.san_speculation.specs.Speculating.{CoreValue, IsReplayed, book_in, core_by, step_in}
use Rattle.std.specs.Prelude.{slice_index}
use Rattle.std.proofs.lemmas.List.{length-map}
use Rattle.san_ahead.specs.Ahead.{AheadValue}
use Rattle.san_base.specs.declared.numbers.LeafId.{LeafId}
use Rattle.san_book.specs.declared.limits.TheConstants.{MAX_JOURNAL}
use Rattle.san_speculation.specs.declared.step.Step.{Step}
use Rattle.san_speculation.proofs.Counters.{counters_are_few, opened_few}
use Rattle.san_speculation.proofs.Keeping.{journal_is_few, keeps_the_law}
use Rattle.san_speculation.proofs.Runs.{one_fits, replayed_more, replayed_one}
use Rattle.san_speculation.proofs.Speculated.{IsRun, has_values, is_lawful}

-- the network, the seed, the limits and the start of a run
abbrev run_of : MachineValue → ((Network × ℕ) × (Limits × law.Core))
run_of m = ((m.network, m.seed), (m.limits, m.start.core))

same_run_of : (old new : MachineValue) → IsSameRun old new → run_of old ≡ run_of new
same_run_of old new same =
    ap (λ (n : Network). ((n, old.seed), (old.limits, old.start.core))) (sym same.network)
    ∙ (ap (λ (s : ℕ). ((new.network, s), (old.limits, old.start.core))) (sym same.seed)
    ∙ (ap (λ (l : Limits). ((new.network, new.seed), (l, old.start.core))) (sym same.limits)
    ∙ ap (λ (s : Rattle.san_core.specs.Committed.CommittedValue). ((new.network, new.seed), (new.limits, s.core))) (sym same.start)))

-- some steps that fit
pub run_keeps : (old new : CoreValue) → FollowsRun old.machine → IsRun old.machine.network → IsReplayed old → (ss : List book.Step) → ReadsFit (book_in old.machine) old.machine.limits ss old.book
    → replayed (book_in old.machine) old.machine.limits ss old.book ≡ Some new.book → IsSameRun old.machine new.machine → IsReplayed new
run_keeps old new follows run r ss fits happens same =
    let n = old.machine.network in let seed = old.machine.seed in let limits = old.machine.limits in let start = old.machine.start.core in
    let m = book_in old.machine in
    let values = has_values n run seed limits start follows.start in
    let lawful = is_lawful n run seed limits start follows.start in
    let all = replayed_more m limits (opened m r.workers start) old.book new.book old.book.journal ss r.replays happens in
    let after = every_run m lawful limits r.workers start (old.book.journal ++ ss) new.book values all in
    let core = (keeps_the_law old follows run r).core in
    let replays : Replays m limits r.workers start new.book = ap (λ (xs : List book.Step). replayed m limits xs (opened m r.workers start)) after.1 ∙ all in
    let brief : IsBrief limits new.book = runs_are_brief m lawful limits ss old.book new.book core.whole core.bounded r.brief fits happens in
    let moved = same_run_of old.machine new.machine same in
    record {
      workers = r.workers;
      few = r.few;
      claims = after.0.claims;
      replays = subst (λ (x : (Network × ℕ) × (Limits × law.Core)). Replays (book_of x.0.0 x.0.1 x.1.0) x.1.0 r.workers x.1.1 new.book) moved replays;
      brief = subst (λ (x : (Network × ℕ) × (Limits × law.Core)). IsBrief x.1.0 new.book) moved brief;
    }

-- a step that fits
pub step_keeps : (old new : CoreValue) → FollowsRun old.machine → IsRun old.machine.network → IsReplayed old → (s : book.Step) → ReadFits old.book.claims s
    → stepped (book_in old.machine) old.machine.limits s old.book ≡ Some new.book → IsSameRun old.machine new.machine → IsReplayed new
step_keeps old new follows run r s fits happens same =
    let m = book_in old.machine in
    run_keeps old new follows run r (s ∷ []) (one_fits m old.machine.limits old.book s fits) (replayed_one m old.machine.limits old.book new.book s happens) same

-- a leaf's next number is far from the greatest
pub counter_fits : (m : MachineValue) (a : AheadValue) (os : List (Option LeafId)) (js : List Step) (r : ℕ) (v : CoreValue) → core_by m a os js r ≡ v → FollowsRun v.machine → IsRun v.machine.network → IsReplayed v → (j : ℕ) → slice_index a.counters j + 1 < 2 ^ 64
counter_fits m a os js r v is follows run replayed j =
    let few : slice_index v.book.counters j ≤ length v.book.journal =
    counters_are_few (book_in v.machine) v.machine.limits v.book.journal (opened (book_in v.machine) replayed.workers v.machine.start.core) v.book (opened_few (book_in v.machine) replayed.workers v.machine.start.core) replayed.replays j in
    let counters : slice_index a.counters j ≡ slice_index v.book.counters j = ap (λ (x : CoreValue). slice_index x.book.counters j) is in
    let steps : map step_in js ≡ v.book.journal = ap (λ (x : CoreValue). x.book.journal) is in
    let long : length js ≤ MAX_JOURNAL = journal_is_few v follows run replayed js steps in
    let same : length v.book.journal ≡ length js = ap length (sym steps) ∙ length-map js step_in in
    omega (arith, few, counters, long, same)
