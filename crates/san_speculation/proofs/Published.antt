-- A publication in code is one of the book.
use Rattle.std.proofs.Common.{Bool, false, true, ◌↔◌, zero, suc, ℕ, ◌<◌, ◌≤◌, ◌≡◌, ◌∙◌, ◌⊎◌, inl, inr, ap, sym, subst, refl, arith, List, [], ◌∷◌, ◌++◌, append_assoc, length, map, Option, Some, None}
use Rattle.std.specs.Prelude.{IsTrue, slice_get, slice_index, slice_index_or, slice_set}
use Rattle.san_base.proofs.NumberTests.{some_same}
use Rattle.san_net.specs.Network.{Network}
use Rattle.san_net.specs.declared.part.Part.{Part}
use Rattle.std.proofs.lemmas.Bool.{cases_lt}
use Rattle.std.proofs.lemmas.List.{get_or-map, get_or_past, map-append, map-set, map_push}
use Rattle.san_base.specs.declared.numbers.LeafId.{LeafId}
use Rattle.san_book.specs.Chains.{Chain, chain_of}
use Rattle.san_book.specs.Cores as book
use Rattle.san_book.specs.Cores.{Pending, claim_of}
use Rattle.san_book.specs.Journals.{reads_of, replayed, stepped}
use Rattle.san_book.specs.Lines.{AreWrites, Line, line_of, no_line}
use Rattle.san_book.specs.Laws.{ReadsFit}
use Rattle.san_book.specs.Steps.{chain_end}
use Rattle.san_book.specs.Whole.{IsWhole}
use Rattle.san_book.proofs.Parts.{free_below}
use Rattle.san_book.proofs.Publishing.{log_fits, publication_is_read}
use Rattle.san_book.proofs.Written.{written_free}
use Rattle.san_ahead.specs.Ahead.{AheadValue, pushed}
use Rattle.san_chain.specs.Chains.{GoesOn, end_from, end_of}
use Rattle.san_decide.specs.Booked.{entry_of, no_part, of_piece, part_at}
use Rattle.san_decide.proofs.Booking.{book_is_lawful, entries_back}
use Rattle.san_base.specs.declared.piece.Kind.{Kind}
use Rattle.san_base.specs.declared.numbers.Tick.{Tick}
use Rattle.san_log.specs.Logs.{Entry}
use Rattle.san_law.specs.Core as law
use Rattle.san_law.specs.Core.{leaf_of}
use Rattle.san_law.specs.Piece.{LeafState}
use Rattle.san_line.specs.Lines.{find}
use Rattle.san_leaf.specs.Claimed.{claim_of as claimed_by}
use Rattle.san_leaf.specs.Fits.{Fits}
use Rattle.san_leaf.specs.Pieces.{IsLog, IsSound, PieceValue}
use Rattle.san_leaf.specs.States.{kind_in, pair_in}
use Rattle.san_core.specs.Machines.{FollowsRun, MachineValue, core_in}
use Rattle.san_speculation.specs.CoreCalls.{Leaves}
use Rattle.san_speculation.specs.Publishing.{GoesOnFrom, LateBy, publication}
use Rattle.san_speculation.specs.Speculating.{CoreValue, IsReplayed, book_in, claim_in, core_by, step_in}
use Rattle.san_speculation.specs.inner.Going.{IsFrom, read_step, steps_of}
use Rattle.san_speculation.specs.declared.step.Step.{Step}
use Rattle.san_speculation.specs.declared.step.Step.TheVariants as step
use Rattle.san_speculation.proofs.Keeping.{chains_long, keeps_the_law}
use Rattle.san_speculation.proofs.Publications.{few_here, kind_here, made, noted_here}
use Rattle.san_speculation.proofs.Runs.{late_happens}
use Rattle.san_speculation.proofs.Speculated.{IsRun}

-- the parts of a core
module _ (m : MachineValue) (a : AheadValue) (os : List (Option LeafId)) (js : List Step) (r : ℕ) where
  abbrev here : CoreValue
  here = core_by m a os js r

  -- a worker's claim
  pub claim_here : (w : ℕ) (o d : Option LeafId) → w < length here.book.claims → o ≡ slice_index_or os w d → claim_of here.book.claims w ≡ claim_in o
  claim_here w o d l is = get_or-map claim_in os w d None (subst (λ (k : ℕ). w < k) (Rattle.std.proofs.lemmas.List.length-map os claim_in) l) ∙ ap claim_in (sym is)

  module _ (v : CoreValue) (seen : here ≡ v) (follows : FollowsRun v.machine) (run : IsRun v.machine.network) (replayed_so : IsReplayed v) where
    whole : IsWhole (book_in m) here.book
    whole = subst (λ (x : CoreValue). IsWhole (book_in x.machine) x.book) (sym seen) (keeps_the_law v follows run replayed_so).core.whole

    run_here : IsRun m.network
    run_here = subst (λ (x : CoreValue). IsRun x.machine.network) (sym seen) run

    -- a claimed leaf is there
    module _ (w : ℕ) (leaf : LeafId) (claim : claim_of here.book.claims w ≡ Some (record { leaf = leaf.0; log = [] })) where
      pub chain_there : leaf.0 < length a.chains
      chain_there = whole.claims w (record { leaf = leaf.0; log = [] }) claim

      pub number_there : leaf.0 < length a.counters
      number_there = let l = chain_there in let k : length a.counters ≡ length a.chains = whole.counters in omega (arith, l, k)

      pub part_there : leaf.0 < length m.network.parts
      part_there =
          let l = chain_there in
          let chains : length a.chains ≡ length v.book.chains = ap (λ (x : CoreValue). length x.book.chains) seen in
          let parts : length m.network.parts ≡ length v.machine.network.parts = ap (λ (x : CoreValue). length x.machine.network.parts) seen in
          let long = chains_long v follows run replayed_so in
          omega (arith, l, chains, parts, long)

      pub state_there : leaf.0 < length m.held.core.leaves
      state_there =
          let l = chain_there in
          let k : length a.chains ≡ length (core_in m).leaves = whole.leaves in
          let held : length m.held.core.leaves ≡ length (core_in m).leaves = ap (λ (x : law.Core). length x.leaves) (subst (λ (x : CoreValue). FollowsRun x.machine) (sym seen) follows).held in
          omega (arith, l, k, held)

      -- its next number is new in all lines
      pub number_new : (q : ℕ) → find leaf.0 (slice_index a.counters leaf.0) (line_of a.lines q).versions ≡ None
      number_new q = by_case (cases_lt q (length a.lines))
        where
          by_case : (q < length a.lines) ⊎ (length a.lines ≤ q) → find leaf.0 (slice_index a.counters leaf.0) (line_of a.lines q).versions ≡ None
          by_case (inl l) = whole.exact.versions q leaf.0 (slice_index a.counters leaf.0) l ∙ written_free of_piece leaf.0 q (slice_index a.counters leaf.0) (chain_of a.chains leaf.0) (free_below (slice_index a.counters leaf.0) (chain_of a.chains leaf.0) (whole.chains leaf.0).below)
          by_case (inr l) = ap (λ (x : Line). find leaf.0 (slice_index a.counters leaf.0) x.versions) (get_or_past a.lines q no_line l)

      -- a piece that goes on from there
      module _ (p : PieceValue) (from : IsFrom m a leaf.0 p) (sound : IsSound p) (fits : Fits (claimed_by p)) (log : IsLog p.part p.log) where
        is_made : (book_in m).makes leaf.0 (chain_end (book_in m) here.book leaf.0) (kind_in p.part.first.0 p.kind) p.time (map entry_of p.log) ≡ Some p
        is_made = subst (λ (s : LeafState). (book_in m).makes leaf.0 s (kind_in p.part.first.0 p.kind) p.time (map entry_of p.log) ≡ Some p) from.base (made m run_here leaf.0 part_there p sound fits log from.seed from.part)

        pub writes_fit : AreWrites (length a.lines) p.outcome.writes
        writes_fit =
            let asked = (book_is_lawful m.network run_here.known.network m.seed m.limits).made leaf.0 (chain_end (book_in m) here.book leaf.0) (kind_in p.part.first.0 p.kind) p.time (map entry_of p.log) p is_made in
            subst (λ (k : ℕ). AreWrites k p.outcome.writes) (sym whole.lines) asked.fits

        pub joins : GoesOn p.base (end_of (λ (x : PieceValue). x.outcome.state) (chain_of a.chains leaf.0))
        joins = by_chain (chain_of a.chains leaf.0) from.base
          where
            by_chain : (xs : Chain PieceValue) → p.base ≡ end_from of_piece.end (leaf_of (core_in m) leaf.0) xs → GoesOn p.base (end_of (λ (x : PieceValue). x.outcome.state) xs)
            by_chain [] e = tt
            by_chain (x ∷ xs) e = e

        pub reads_fit : ReadsFit (book_in m) m.limits (publication w p) here.book
        reads_fit = log_fits (book_in m) m.limits here.book w leaf.0 (map entry_of p.log) p.kind p.time claim (noted_here m run_here leaf.0 part_there p sound fits log from.seed from.part) (few_here m run_here leaf.0 part_there p sound fits log from.seed from.part)

        pub reads_fit_seen : ReadsFit (book_in v.machine) v.machine.limits (publication w p) v.book
        reads_fit_seen = subst (λ (x : CoreValue). ReadsFit (book_in x.machine) x.machine.limits (publication w p) x.book) seen reads_fit

        abbrev with_steps : AheadValue → List (Option Pending) → List book.Step → book.Core law.Core PieceValue
        with_steps b claims steps = record { held = core_in m; chains = b.chains; counters = b.counters; lines = b.lines; claims = claims; journal = steps; rollbacks = r; taken = m.taken }

        -- its reads and its publication happen
        pub publish_is : (b : AheadValue) (ks : List Step) → b ≡ pushed a leaf.0 p → map step_in ks ≡ map step_in js ++ publication w p → replayed (book_in m) m.limits (publication w p) here.book ≡ Some (core_by m b (slice_set os w None) ks r).book
        publish_is b ks put booked =
            publication_is_read (book_in m) m.limits here.book w leaf.0 (map entry_of p.log) p.kind (kind_in p.part.first.0 p.kind) p.time p claim (noted_here m run_here leaf.0 part_there p sound fits log from.seed from.part) (kind_here m run_here leaf.0 part_there p sound fits log from.seed from.part) is_made
            ∙ (ap (λ (xs : List (Option Pending)). Some (with_steps (pushed a leaf.0 p) xs (map step_in js ++ publication w p))) (sym (map-set claim_in os w None))
            ∙ (ap (λ (xs : List book.Step). Some (with_steps (pushed a leaf.0 p) (map claim_in (slice_set os w None)) xs)) (sym booked)
            ∙ ap (λ (x : AheadValue). Some (with_steps x (map claim_in (slice_set os w None)) (map step_in ks))) (sym put)))

  -- a claim that goes
  abbrev with_claims : List (Option Pending) → List book.Step → book.Core law.Core PieceValue
  with_claims claims steps = record { held = core_in m; chains = a.chains; counters = a.counters; lines = a.lines; claims = claims; journal = steps; rollbacks = r; taken = m.taken }

  pub late_is : (w : ℕ) (p : Pending) (ks : List Step) → claim_of here.book.claims w ≡ Some p → ks ≡ js ++ step.Late w ∷ [] → stepped (book_in m) m.limits (book.Late w) here.book ≡ Some (core_by m a (slice_set os w None) ks r).book
  late_is w p ks claim booked =
      late_happens (book_in m) m.limits here.book w p claim
      ∙ (ap (λ (xs : List (Option Pending)). Some (with_claims xs (map step_in js ++ book.Late w ∷ []))) (sym (map-set claim_in os w None))
      ∙ ap (λ (xs : List book.Step). Some (with_claims (map claim_in (slice_set os w None)) xs)) (sym (ap (map step_in) booked ∙ map_push step_in js (step.Late w))))

-- what goes on from a core as it is seen goes on from its parts
pub from_seen : (m : MachineValue) (a : AheadValue) (os : List (Option LeafId)) (js : List Step) (r : ℕ) (v : CoreValue) → core_by m a os js r ≡ v → (j : ℕ) (p : PieceValue) → GoesOnFrom v j p → IsFrom m a j p
from_seen m a os js r v seen j p goes = parts (subst (λ (x : CoreValue). GoesOnFrom x j p) (sym seen) goes)
  where
    parts : GoesOnFrom (core_by m a os js r) j p → IsFrom m a j p
    parts g = record { seed = g.seed; part = g.part; base = g.base }

-- late, by the claim
pub late_without : (v : CoreValue) (w : ℕ) (p : PieceValue) → claim_of v.book.claims w ≡ None → LateBy v w p v (claim_of v.book.claims w)
late_without v w p none = subst (λ (o : Option Pending). LateBy v w p v o) (sym none) refl

pub late_with : (v new : CoreValue) (w : ℕ) (p : PieceValue) (claim : Pending) → claim_of v.book.claims w ≡ Some claim → (GoesOnFrom v claim.leaf p → ⊥) → Leaves v (book.Late w) new → LateBy v w p new (claim_of v.book.claims w)
late_with v new w p claim is not_from leaves = subst (λ (o : Option Pending). LateBy v w p new o) (sym is) (not_from, leaves)

-- the steps that are booked
reads_are : (w : ℕ) (es : List Entry) → map step_in (map (read_step w) es) ≡ reads_of w es
reads_are w [] = refl
reads_are w (e ∷ es) = ap (λ (xs : List book.Step). book.Read w e.0 e.1 ∷ xs) (reads_are w es)

pub steps_are : (w : ℕ) (p : PieceValue) (js ks : List Step) → ks ≡ js ++ steps_of w p → map step_in ks ≡ map step_in js ++ publication w p
steps_are w p js ks e =
    ap (map step_in) e
    ∙ (map-append step_in js (steps_of w p)
    ∙ ap (λ (xs : List book.Step). map step_in js ++ xs) (map-append step_in (map (read_step w) (map entry_of p.log)) (step.Publish w p.kind (record { 0 = p.time }) ∷ []) ∙ ap (λ (xs : List book.Step). xs ++ book.Publish w p.kind p.time ∷ []) (reads_are w (map entry_of p.log))))

pub piece_booked : (w : ℕ) (old mid new : List Step) (log : List Entry) (p : PieceValue) (k : Kind) (t : Tick) → new ≡ mid ++ step.Publish w k t ∷ [] → mid ≡ old ++ map (read_step w) log → map pair_in log ≡ p.log → k ≡ p.kind → t.0 ≡ p.time → new ≡ old ++ steps_of w p
piece_booked w old mid new log p k t last reads is kind time =
    last
    ∙ (ap (λ (x : Kind). mid ++ step.Publish w x t ∷ []) kind
    ∙ (ap (λ (x : ℕ). mid ++ step.Publish w p.kind (record { 0 = x }) ∷ []) time
    ∙ (ap (λ (xs : List Step). xs ++ step.Publish w p.kind (record { 0 = p.time }) ∷ []) reads
    ∙ (append_assoc old (map (read_step w) log) (step.Publish w p.kind (record { 0 = p.time }) ∷ [])
    ∙ ap (λ (es : List Entry). old ++ (map (read_step w) es ++ step.Publish w p.kind (record { 0 = p.time }) ∷ [])) (sym (entries_back log) ∙ ap (map entry_of) is)))))

-- the committed state, where there is no piece
pub committed_end : (m : MachineValue) (a : AheadValue) (j : ℕ) (s : LeafState) → FollowsRun m → s ≡ leaf_of m.held.core j → chain_of a.chains j ≡ [] → s ≡ end_from of_piece.end (leaf_of (core_in m) j) (chain_of a.chains j)
committed_end m a j s follows is none = is ∙ (ap (λ (x : law.Core). leaf_of x j) follows.held ∙ sym (ap (end_from of_piece.end (leaf_of (core_in m) j)) none))

-- whether a piece goes on from a leaf's chain
pub from_false : (m : MachineValue) (a : AheadValue) (j : ℕ) (p : PieceValue) → (IsFrom m a j p → ⊥) → IsTrue false ↔ IsFrom m a j p
from_false m a j p not_from = (λ t. let e : false ≡ true = t in absurd (cc), λ from. absurd (not_from from))

pub from_true : (m : MachineValue) (a : AheadValue) (j : ℕ) (p : PieceValue) (r : Bool) → p.seed ≡ m.seed → p.part ≡ part_at m.network j → (IsTrue r ↔ (p.base ≡ end_from of_piece.end (leaf_of (core_in m) j) (chain_of a.chains j))) → IsTrue r ↔ IsFrom m a j p
from_true m a j p r seed part base = (λ t. record { seed = seed; part = part; base = base.0 t }, λ from. base.1 from.base)

part_got : (ps : List Part) (j : ℕ) (q : Part) → slice_get ps j ≡ Some q → q ≡ slice_index_or ps j no_part
part_got [] j q e = absurd (cc)
part_got (p ∷ ps) zero q e = sym (some_same p q e)
part_got (p ∷ ps) (suc j) q e = part_got ps j q e

pub part_at_is : (n : Network) (j : ℕ) (q : Part) → slice_get n.parts j ≡ Some q → q ≡ part_at n j
part_at_is n j q e = part_got n.parts j q e

pub not_true : (b : Bool) → IsTrue b → b ≡ false → ⊥
not_true b h e = let t : b ≡ true = h in absurd (cc)
