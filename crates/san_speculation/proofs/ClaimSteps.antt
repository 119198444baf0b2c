-- A claim in code is one of the book, and fits.
use Rattle.std.proofs.Common.{ℕ, ◌<◌, ◌≤◌, ◌≡◌, ◌∙◌, ap, sym, subst, arith, false, true, List, [], ◌∷◌, ◌++◌, length, map, Option, Some, None}
use Rattle.std.specs.Option.{is_some}
use Rattle.std.specs.Prelude.{slice_get, slice_index, slice_set}
use Rattle.std.proofs.lemmas.List.{length-map, map-set, map_push}
use Rattle.san_base.specs.declared.limits.TheConstants.{MAX_LEAVES, MAX_WINDOW}
use Rattle.san_base.specs.declared.numbers.LeafId.{LeafId}
use Rattle.san_base.specs.declared.numbers.Tick.{Tick}
use Rattle.san_base.specs.declared.piece.Kind.{Kind}
use Rattle.san_base.specs.declared.piece.Stamp.{Stamp}
use Rattle.san_ahead.specs.Ahead.{AheadValue}
use Rattle.san_book.specs.Chains.{AreMadeByLogs, Connects, chain_of}
use Rattle.san_book.specs.Cores as book
use Rattle.san_book.specs.Cores.{Pending, claim_of}
use Rattle.san_book.specs.Journals.{stepped}
use Rattle.san_book.specs.Laws.{IsCore}
use Rattle.san_book.specs.Machines.{sees_all}
use Rattle.san_book.specs.Nets.{is_there}
use Rattle.san_book.specs.Plans.{Plan as Planned, planned}
use Rattle.san_book.specs.Steps.{goes_on, has_none, may_claim}
use Rattle.san_book.specs.declared.limits.TheConstants.{MAX_STEPS_TO_CLAIM}
use Rattle.san_book.proofs.Planning.{planned_free}
use Rattle.san_book.proofs.Subject.{not_stopped}
use Rattle.san_book.proofs.Walking.{goes_where}
use Rattle.san_core.specs.Machines.{FollowsRun, MachineValue, core_in}
use Rattle.san_decide.specs.Booked.{of_piece, part_at}
use Rattle.san_law.specs.Core as law
use Rattle.san_law.specs.Core.{leaf_of}
use Rattle.san_leaf.specs.Claims.{claimed}
use Rattle.san_leaf.specs.Fits.{Fits, KindFits, StateFits}
use Rattle.san_leaf.specs.Pieces.{PieceValue}
use Rattle.san_leaf.specs.States.{kind_in}
use Rattle.san_leaf.specs.declared.piece.Claim.{Claim}
use Rattle.san_leaf.proofs.FitLemmas.{claim_fits}
use Rattle.san_net.specs.declared.part.Part.{Part}
use Rattle.san_plan.specs.Plans.{IsPlannable, LastFits, end_state}
use Rattle.san_plan.specs.declared.plan.Plan.{Plan}
use Rattle.san_plan.proofs.Ends.{end_fits, last_part, row_stands, timely}
use Rattle.san_plan.proofs.Planned.{part_there}
use Rattle.san_speculation.specs.Claims.{ClaimsNext}
use Rattle.san_speculation.specs.CoreCalls.{Stays}
use Rattle.san_speculation.specs.Speculating.{CoreValue, IsReplayed, book_in, claim_in, core_by, step_in}
use Rattle.san_speculation.specs.inner.Claiming.{ArePlannable, IsClaimOf, IsPlanOf, PlannedBy}
use Rattle.san_speculation.specs.declared.step.Step.{Step}
use Rattle.san_speculation.specs.declared.step.Step.TheVariants as step
use Rattle.san_speculation.proofs.Claimings.{may, may_not_book, may_not_go, may_not_hold, may_not_roll}
use Rattle.san_speculation.proofs.Keeping.{chains_long, keeps_the_law}
use Rattle.san_speculation.proofs.Runs.{claim_happens, claim_refused, none_planned}
use Rattle.san_speculation.proofs.Seen.{stays_seen}
use Rattle.san_speculation.proofs.Speculated.{IsRun}

module _ (m : MachineValue) (a : AheadValue) (os : List (Option LeafId)) (js : List Step) (r : ℕ) where
  abbrev here : CoreValue
  here = core_by m a os js r

  -- it happens
  abbrev with_claims : List (Option Pending) → List book.Step → book.Core law.Core PieceValue
  with_claims claims steps = record { held = core_in m; chains = a.chains; counters = a.counters; lines = a.lines; claims = claims; journal = steps; rollbacks = r; taken = m.taken }

  pub claim_is : (w : ℕ) (leaf : LeafId) (plan : Plan) (ks : List Step) → may_claim (book_in m) m.limits here.book w ≡ true → PlannedBy m a (map claim_in os) (Some (leaf, plan)) → ks ≡ js ++ step.Claim w ∷ []
      → stepped (book_in m) m.limits (book.Claim w) here.book ≡ Some (core_by m a (slice_set os w (Some leaf)) ks r).book
  claim_is w leaf plan ks may by booked =
      claim_happens (book_in m) m.limits here.book w (plan.time.0, leaf.0) may (sym by.least)
      ∙ (ap (λ (xs : List (Option Pending)). Some (with_claims xs (map step_in js ++ book.Claim w ∷ []))) (sym (map-set claim_in os w (Some leaf)))
      ∙ ap (λ (xs : List book.Step). Some (with_claims (map claim_in (slice_set os w (Some leaf))) xs)) (sym (ap (map step_in) booked ∙ map_push step_in js (step.Claim w))))

  module _ (v : CoreValue) (seen : here ≡ v) (follows : FollowsRun v.machine) (run : IsRun v.machine.network) (replayed_so : IsReplayed v) where
    follows_here : FollowsRun m
    follows_here = subst (λ (x : CoreValue). FollowsRun x.machine) (sym seen) follows

    run_here : IsRun m.network
    run_here = subst (λ (x : CoreValue). IsRun x.machine.network) (sym seen) run

    core : IsCore (book_in m) m.limits replayed_so.workers m.start.core here.book
    core = subst (λ (x : CoreValue). IsCore (book_in x.machine) x.machine.limits replayed_so.workers x.machine.start.core x.book) (sym seen) (keeps_the_law v follows run replayed_so).core

    parts_long : length a.chains ≡ length m.network.parts
    parts_long = subst (λ (x : CoreValue). length x.book.chains ≡ length x.machine.network.parts) (sym seen) (chains_long v follows run replayed_so)

    pub leaves_few : length a.chains ≤ MAX_LEAVES
    leaves_few = let few = run_here.known.network.small.leaves in omega (arith, parts_long, few)

    module _ (goes : goes_on (book_in m) m.limits here.book ≡ true) where
      stopped : is_there (core_in m).stop ≡ false
      stopped = (goes_where (book_in m) m.limits here.book goes).open_end

      pub going : m.held.core.stop ≡ None
      going = ap (λ (x : law.Core). x.stop) follows_here.held ∙ not_stopped (core_in m).stop stopped

      module _ (j : ℕ) (there : j < length a.chains) where
        part_below : j < length m.network.parts
        part_below = omega (arith, there, parts_long)

        connects : Connects of_piece (leaf_of (core_in m) j) (chain_of a.chains j)
        connects = core.whole.connects stopped j

        made : AreMadeByLogs (book_in m) j (chain_of a.chains j)
        made = (core.whole.chains j).made

        short : length (chain_of a.chains j) ≤ MAX_WINDOW
        short = let s = core.bounded.short j in let w = follows_here.limits.window_in_range.1 in omega (arith, s, w)

        state_below : j < length m.held.core.leaves
        state_below =
            let k : length a.chains ≡ length (core_in m).leaves = core.whole.leaves in
            let held : length m.held.core.leaves ≡ length (core_in m).leaves = ap (λ (x : law.Core). length x.leaves) follows_here.held in
            omega (arith, there, k, held)

        pub plannable : IsPlannable m a j
        plannable = record {
          going = going;
          timely = timely m follows_here run_here.known going a j part_below connects made short;
          part = part_below;
          state = state_below;
          chain = there;
          row = row_stands m follows_here run_here.known going a j part_below connects made short;
          last = λ q is. last_part m.network run_here.known m.seed m.limits j part_below (chain_of a.chains j) made q is;
        }

        pub state_fits : LastFits a j → StateFits (part_at m.network j) (end_state m a j)
        state_fits last = end_fits m follows_here run_here.known going a j part_below connects made short last

        pub number_below : j < length a.counters
        number_below = let k : length a.counters ≡ length a.chains = core.whole.counters in omega (arith, k, there)

      pub all_plannable : ArePlannable m a
      all_plannable j there = plannable j there

      -- the claim of a leaf's plan
      module _ (leaf : LeafId) (plan : Plan) (claim : Claim) (there : leaf.0 < length a.chains) (of : IsClaimOf m a leaf plan claim) (own : IsPlanOf m a leaf.0 plan) (last : LastFits a leaf.0) where
        abbrev part : Part
        part = part_at m.network leaf.0

        part_is : slice_get m.network.parts leaf.0 ≡ Some part
        part_is = part_there m.network.parts leaf.0 (part_below leaf.0 there)

        fits : Fits (claimed claim)
        fits = claim_fits m.network leaf.0 (claimed claim) run_here.known.network
            (subst (λ (x : Part). slice_get m.network.parts leaf.0 ≡ Some x) (sym of.part) part_is)
            (subst (λ (x : Part). StateFits x claim.base) (sym of.part) (subst (StateFits part) (sym of.base) (state_fits leaf.0 there last)))
            (subst (λ (x : Part). KindFits x claim.kind) (sym of.part) (subst (KindFits part) (sym of.kind) own.fits.kind))
            (let t : claim.time.0 ≡ plan.time.0 = ap (λ (x : Tick). x.0) of.time in let l = own.fits.time in omega (arith, t, l))

        abbrev plan_by : ℕ → Kind → ℕ → Option Planned
        plan_by first kind time = Some (record { kind = kind_in first kind; time = time })

        abbrev stamp_by : Tick → ℕ → Kind → Stamp
        stamp_by time first kind = record { time = time; leaf = leaf; pos = slice_index a.counters leaf.0; all = sees_all (kind_in first kind) }

        pub next_here : ClaimsNext here leaf.0 claim
        next_here = record {
          seed = of.seed;
          part = of.part;
          base = of.base;
          plan = own.is
              ∙ (ap (λ (x : Part). plan_by x.first.0 plan.kind plan.time.0) (sym of.part)
              ∙ (ap (λ (x : Kind). plan_by claim.part.first.0 x plan.time.0) (sym of.kind)
              ∙ ap (λ (x : Tick). plan_by claim.part.first.0 claim.kind x.0) (sym of.time)));
          stamp = of.stamp
              ∙ (ap (λ (x : Part). stamp_by plan.time x.first.0 plan.kind) (sym of.part)
              ∙ (ap (λ (x : Kind). stamp_by plan.time claim.part.first.0 x) (sym of.kind)
              ∙ ap (λ (x : Tick). stamp_by x claim.part.first.0 claim.kind) (sym of.time)));
          fits = fits;
        }

        pub next_seen : ClaimsNext v leaf.0 claim
        next_seen = subst (λ (x : CoreValue). ClaimsNext x leaf.0 claim) seen next_here

    pub planned_seen : (leaf : LeafId) (plan : Plan) → PlannedBy m a (map claim_in os) (Some (leaf, plan)) → planned (book_in v.machine) v.machine.limits v.book ≡ Some (plan.time.0, leaf.0)
    planned_seen leaf plan by = subst (λ (x : CoreValue). planned (book_in x.machine) x.machine.limits x.book ≡ Some (plan.time.0, leaf.0)) seen (sym by.least)

  -- whether a worker may claim
  length_steps : length (map step_in js) ≡ length js
  length_steps = length-map js step_in

  pub may_here : (w : ℕ) (o : Option LeafId) → goes_on (book_in m) m.limits here.book ≡ true → length js < MAX_STEPS_TO_CLAIM → r < m.limits.rollbacks → w < length here.book.claims → claim_of here.book.claims w ≡ claim_in o → is_some o ≡ false → may_claim (book_in m) m.limits here.book w ≡ true
  may_here w (Some leaf) goes steps backs there claim none = absurd (cc)
  may_here w None goes steps backs there claim none =
      may m a here.book w goes (let l = length_steps in omega (arith, l, steps)) backs there (ap has_none claim)

  pub none_held : (w : ℕ) (o : Option LeafId) → claim_of here.book.claims w ≡ claim_in o → is_some o ≡ false → claim_of here.book.claims w ≡ None
  none_held w (Some leaf) claim none = absurd (cc)
  none_held w None claim none = claim

  module _ (v : CoreValue) (seen : here ≡ v) (w : ℕ) where
    stays_by : may_claim (book_in m) m.limits here.book w ≡ false → Stays v (book.Claim w) v
    stays_by may = stays_seen here v seen (book.Claim w) (claim_refused (book_in m) m.limits here.book w may)

    pub stays_at_rest : goes_on (book_in m) m.limits here.book ≡ false → Stays v (book.Claim w) v
    stays_at_rest goes = stays_by (may_not_go m a here.book w goes)

    pub stays_when_booked : MAX_STEPS_TO_CLAIM ≤ length js → Stays v (book.Claim w) v
    stays_when_booked long = stays_by (may_not_book m a here.book w (let l = length_steps in omega (arith, l, long)))

    pub stays_when_rolled : m.limits.rollbacks ≤ r → Stays v (book.Claim w) v
    stays_when_rolled many = stays_by (may_not_roll m a here.book w many)

    pub stays_when_held : (o : Option LeafId) → claim_of here.book.claims w ≡ claim_in o → is_some o ≡ true → Stays v (book.Claim w) v
    stays_when_held (Some leaf) claim some = stays_by (may_not_hold m a here.book w (ap has_none claim))
    stays_when_held None claim some = absurd (cc)

    pub stays_unplanned : PlannedBy m a (map claim_in os) None → Stays v (book.Claim w) v
    stays_unplanned by = stays_seen here v seen (book.Claim w) (none_planned (book_in m) m.limits here.book w (sym by.least))

  -- the leaf that is found is there
  pub found_below : (leaf : LeafId) (plan : Plan) → PlannedBy m a (map claim_in os) (Some (leaf, plan)) → leaf.0 < length a.chains
  found_below leaf plan by = (planned_free (book_in m) m.limits here.book (plan.time.0, leaf.0) (sym by.least)).there
