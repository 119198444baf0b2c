-- The needed piece, made anew.
use Rattle.std.proofs.Common.{ℕ, suc, ◌+◌, ◌^◌, ◌<◌, ◌≤◌, ◌≡◌, ◌↔◌, add-one, [], ◌∙◌, ap, sym, subst, refl, arith, Bool, true, false, List, length}
use Rattle.std.specs.Prelude.{slice_index}
use Rattle.san_book.specs.Chains.{AllFit, Chain, chain_of}
use Rattle.san_book.specs.Lines.{AreWrites, commit}
use Rattle.san_book.specs.Nets.{same_state}
use Rattle.san_book.specs.Whole.{IsLawfulMachine, IsWhole}
use Rattle.san_book.proofs.Each.{length_each}
use Rattle.san_book.proofs.Subject.{state_is, state_itself}
use Rattle.san_book.specs.Cores as book
use Rattle.san_book.specs.Steps.{fallen, falls, redone, taken_anew}
use Rattle.san_ahead.specs.Ahead.{AheadValue, Heads, cut_from, raised, with_committed}
use Rattle.san_decide.specs.Booked.{needed_from, of_piece, part_at}
use Rattle.san_decide.proofs.Booking.{book_is_lawful, kind_back}
use Rattle.san_law.specs.Core as law
use Rattle.san_law.specs.Core.{leaf_of, taken}
use Rattle.san_law.specs.Order.{Finished, Need, Needs}
use Rattle.san_law.specs.Piece.{Kind, LeafState, Outcome, Settle, piece_of}
use Rattle.san_leaf.specs.Pieces.{IsSound, PieceValue}
use Rattle.san_leaf.specs.States.{kind_in}
use Rattle.san_core.specs.Machines.{FollowsRun, IsNeeded, MachineValue, after_taking, core_in, net_in}
use Rattle.san_core.specs.Needed.{IsNeed}
use Rattle.san_core.specs.declared.admission.Taking.{Taking}
use Rattle.san_core.proofs.Following.{at_leaf, core_then}
use Rattle.san_speculation.specs.Speculating.{book_in}
use Rattle.san_speculation.specs.inner.Committing.{ArePartsWhole, IsRedone, head_falls, redone_with, thrown, with_parts}
use Rattle.san_speculation.proofs.Nexts.{leaf_within}
use Rattle.san_speculation.proofs.Speculated.{IsRun}

abbrev leaf_or : Need → ℕ
leaf_or (Needs j kind time) = j
leaf_or Finished = 0

abbrev kind_or : Need → Kind
kind_or (Needs j kind time) = kind
kind_or Finished = Settle

abbrev time_or : Need → ℕ
time_or (Needs j kind time) = time
time_or Finished = 0

module _ (m : MachineValue) (follows : FollowsRun m) (run : IsRun m.network) (t : Taking) (need : IsNeed m t) (q : PieceValue) (needed : IsNeeded m q) (sound : IsSound q) where
  abbrev h : law.Core
  h = core_in m

  abbrev j : ℕ
  j = t.leaf.0

  abbrev kind : Kind
  kind = kind_in t.first.0 t.kind

  abbrev p : PieceValue
  p = needed_from m.network m.seed m.limits j (leaf_of h j) kind t.time.0 h.shared

  needs_same : Needs q.part.leaf.0 (kind_in q.part.first.0 q.kind) q.time ≡ Needs j kind t.time.0
  needs_same = sym needed.need ∙ need.need

  pub leaf_same : q.part.leaf.0 ≡ j
  leaf_same = ap leaf_or needs_same

  -- it is the book's
  pub outcome_same : q.outcome ≡ p.outcome
  outcome_same =
      at_leaf m follows run.known.network run.known.lawful run.known.laid q needed sound
      ∙ (ap (λ (i : ℕ). piece_of (net_in m) i (kind_in q.part.first.0 q.kind) q.time (leaf_of m.held.core i) m.held.core.shared) leaf_same
      ∙ (ap (λ (k : Kind). piece_of (net_in m) j k q.time (leaf_of m.held.core j) m.held.core.shared) (ap kind_or needs_same)
      ∙ (ap (λ (x : ℕ). piece_of (net_in m) j kind x (leaf_of m.held.core j) m.held.core.shared) (ap time_or needs_same)
      ∙ ap (λ (x : law.Core). piece_of (net_in m) j kind t.time.0 (leaf_of x j) x.shared) follows.held)))

  pub takes_same : core_in (after_taking m q) ≡ (book_in m).takes h j p
  takes_same =
      core_then m follows run.known.network run.known.lawful run.known.laid q needed sound
      ∙ (ap (λ (i : ℕ). taken (net_in m) h i (kind_in q.part.first.0 q.kind) q.time q.outcome) leaf_same
      ∙ (ap (λ (k : Kind). taken (net_in m) h j k q.time q.outcome) (ap kind_or needs_same)
      ∙ (ap (λ (x : ℕ). taken (net_in m) h j kind x q.outcome) (ap time_or needs_same)
      ∙ (ap (taken (net_in m) h j kind t.time.0) outcome_same
      ∙ ap (λ (k : Kind). taken (net_in m) h j k t.time.0 p.outcome) (sym (kind_back (part_at m.network j).first.0 kind))))))

  one_more : suc m.taken ≡ m.taken + 1
  one_more = omega arith

  -- taken, with the leaf's next number raised
  module _ (n : MachineValue) (is : n ≡ after_taking m q) (a b : AheadValue) (made : b ≡ raised (with_committed a (core_in n).shared q.outcome.writes) j) (c : book.Core law.Core PieceValue) where
    held_same : core_in n ≡ (book_in m).takes h j p
    held_same = ap core_in is ∙ takes_same

    abbrev with_taken : law.Core → AheadValue → ℕ → book.Core law.Core PieceValue
    with_taken held x k = record { held = held; chains = x.chains; counters = x.counters; lines = x.lines; claims = c.claims; journal = c.journal; rollbacks = c.rollbacks; taken = k }

    taken_count : n.taken ≡ suc m.taken
    taken_count = ap (λ (x : MachineValue). x.taken) is ∙ sym one_more

    pub taken_is : with_parts n b c ≡ taken_anew (book_in m) (with_parts m a c) j p
    taken_is =
        ap (λ (x : AheadValue). with_taken (core_in n) x n.taken) made
        ∙ (ap (λ (k : ℕ). with_taken (core_in n) (raised (with_committed a (core_in n).shared q.outcome.writes) j) k) taken_count
        ∙ (ap (λ (x : law.Core). with_taken x (raised (with_committed a x.shared q.outcome.writes) j) (suc m.taken)) held_same
        ∙ ap (λ (o : Outcome). with_taken ((book_in m).takes h j p) (raised (with_committed a ((book_in m).takes h j p).shared o.writes) j) (suc m.taken)) outcome_same))

    abbrev falls_then : Bool
    falls_then = falls (book_in m) kind t.time.0 (leaf_of (core_in n) j) (chain_of b.chains j)

    chain_same : chain_of b.chains j ≡ chain_of a.chains j
    chain_same = ap (λ (x : AheadValue). chain_of x.chains j) made

    tested : (gone : Bool) → falls_then ≡ gone → redone (book_in m) (with_parts m a c) j kind t.time.0 p ≡ fallen gone (book_in m) (taken_anew (book_in m) (with_parts m a c) j p) j
    tested gone e =
        ap (λ (x : Bool). fallen x (book_in m) (taken_anew (book_in m) (with_parts m a c) j p) j)
        (ap (λ (s : LeafState). falls (book_in m) kind t.time.0 s (chain_of a.chains j)) (sym (ap (λ (x : law.Core). leaf_of x j) held_same))
        ∙ (ap (falls (book_in m) kind t.time.0 (leaf_of (core_in n) j)) (sym chain_same)
        ∙ e))

    none_more : (x : ℕ) → x ≡ x + 0
    none_more x = omega arith

    abbrev with_rollbacks : AheadValue → ℕ → book.Core law.Core PieceValue
    with_rollbacks x k = record { held = core_in n; chains = x.chains; counters = x.counters; lines = x.lines; claims = c.claims; journal = c.journal; rollbacks = k; taken = n.taken }

    -- its chain stays, or goes whole
    pub redone_stays : falls_then ≡ false → redone_with m a t c ≡ thrown 0 (with_parts n b c)
    redone_stays e = tested false e ∙ (sym taken_is ∙ ap (with_rollbacks b) (none_more c.rollbacks))

    pub redone_falls : falls_then ≡ true → (d : AheadValue) → d ≡ cut_from b j 0 → redone_with m a t c ≡ thrown 1 (with_parts n d c)
    redone_falls e d gone =
        tested true e
        ∙ (sym (ap (λ (x : book.Core law.Core PieceValue). fallen true (book_in m) x j) taken_is)
        ∙ (ap (with_rollbacks (cut_from b j 0)) (sym (add-one c.rollbacks))
        ∙ ap (λ (x : AheadValue). with_rollbacks x (c.rollbacks + 1)) (sym gone)))

-- what is owed at each step
module _ (m : MachineValue) (follows : FollowsRun m) (run : IsRun m.network) (t : Taking) (need : IsNeed m t) (q : PieceValue) (needed : IsNeeded m q) (sound : IsSound q)
    (a : AheadValue) (whole : ArePartsWhole m a) (long : length m.network.parts ≤ length a.chains) (n : MachineValue) (is : n ≡ after_taking m q) (after : FollowsRun n) where
  abbrev w : IsWhole (book_in m) (with_parts m a whole.0)
  w = whole.1

  abbrev made : PieceValue
  made = needed_from m.network m.seed m.limits t.leaf.0 (leaf_of (core_in m) t.leaf.0) (kind_in t.first.0 t.kind) t.time.0 (core_in m).shared

  lawful : IsLawfulMachine (book_in m)
  lawful = book_is_lawful m.network run.known.network m.seed m.limits

  fit : AreWrites (length a.lines) q.outcome.writes
  fit =
      let asked = lawful.needed (core_in m) w.width t.leaf.0 (kind_in t.first.0 t.kind) t.time.0 in
      let asked_for = lawful.made t.leaf.0 (leaf_of (core_in m) t.leaf.0) (kind_in t.first.0 t.kind) t.time.0 (of_piece.log made) made asked.0 in
      subst (λ (k : ℕ). AreWrites k q.outcome.writes) (sym w.lines)
      (subst (λ (o : Outcome). AreWrites m.network.shared o.writes) (sym (outcome_same m follows run t need q needed sound)) asked_for.fits)

  pub writes_here : (ws : List (ℕ × ℕ)) → ws ≡ q.outcome.writes → AreWrites (length a.lines) ws
  writes_here ws e = subst (λ (xs : List (ℕ × ℕ)). AreWrites (length a.lines) xs) (sym e) fit

  core_same : core_in n ≡ (book_in m).takes (core_in m) t.leaf.0 made
  core_same = ap core_in is ∙ takes_same m follows run t need q needed sound

  shared_core : n.held.core.shared ≡ (core_in n).shared
  shared_core = ap (λ (x : law.Core). x.shared) after.held

  pub values_here : (shared : List ℕ) → shared ≡ n.held.core.shared → length shared ≡ length a.lines
  values_here shared e = ap length (e ∙ (shared_core ∙ ap (λ (x : law.Core). x.shared) core_same)) ∙ (lawful.sizes (core_in m) t.leaf.0 made ∙ (w.width ∙ sym w.lines))

  abbrev here : ℕ
  here = t.leaf.0

  pub leaf_there : here < length m.network.parts
  leaf_there = leaf_within m follows a t need

  -- once it is taken
  module _ (mid : AheadValue) (shared : List ℕ) (ws : List (ℕ × ℕ)) (values : shared ≡ n.held.core.shared) (written : ws ≡ q.outcome.writes) (put : mid ≡ with_committed a shared ws) where
    pub counter_there : here < length mid.counters
    counter_there =
        let l = leaf_there in
        let same : length mid.counters ≡ length a.counters = ap (λ (x : AheadValue). length x.counters) put in
        let k : length a.counters ≡ length a.chains = w.counters in
        omega (arith, l, long, same, k)

    pub counter_small : slice_index a.counters here + 1 < 2 ^ 64 → slice_index mid.counters here + 1 < 2 ^ 64
    counter_small few = subst (λ (x : AheadValue). slice_index x.counters here + 1 < 2 ^ 64) (sym put) few

    module _ (b : AheadValue) (raise : b ≡ raised mid here) where
      made_by : b ≡ raised (with_committed a (core_in n).shared q.outcome.writes) here
      made_by = raise ∙ (ap (λ (x : AheadValue). raised x here) put ∙ (ap (λ (xs : List ℕ). raised (with_committed a xs ws) here) (values ∙ shared_core) ∙ ap (λ (xs : List (ℕ × ℕ)). raised (with_committed a (core_in n).shared xs) here) written))

      chains_same : b.chains ≡ a.chains
      chains_same = ap (λ (x : AheadValue). x.chains) made_by

      pub chain_there : here < length b.chains
      chain_there = let l = leaf_there in let same : length b.chains ≡ length a.chains = ap length chains_same in omega (arith, l, long, same)

      pub state_there : here < length n.held.core.leaves
      state_there =
          let l = chain_there in
          let same : length b.chains ≡ length a.chains = ap length chains_same in
          let k : length a.chains ≡ length (core_in m).leaves = w.leaves in
          let after_all : length n.held.core.leaves ≡ length (core_in m).leaves = ap (λ (x : law.Core). length x.leaves) (after.held) ∙ (ap (λ (x : law.Core). length x.leaves) core_same ∙ lawful.leaves (core_in m) here made) in
          omega (arith, l, same, k, after_all)

      pub chain_fit : AllFit of_piece (length b.lines) (chain_of b.chains here)
      chain_fit =
          let lines : length b.lines ≡ length a.lines = ap (λ (x : AheadValue). length x.lines) made_by ∙ length_each (commit (core_in n).shared) q.outcome.writes a.lines in
          subst (λ (k : ℕ). AllFit of_piece k (chain_of b.chains here)) (sym (lines ∙ w.lines))
          (subst (λ (cs : List (Chain PieceValue)). AllFit of_piece m.network.shared (chain_of cs here)) (sym chains_same) (w.chains here).fit)

      pub stays_here : falls (book_in n) (kind_in t.first.0 t.kind) t.time.0 (leaf_of (core_in n) here) (chain_of b.chains here) ≡ false → IsRedone m a t n b 0
      stays_here e c = redone_stays m follows run t need q needed sound n is a b made_by c e

      pub falls_here : falls (book_in n) (kind_in t.first.0 t.kind) t.time.0 (leaf_of (core_in n) here) (chain_of b.chains here) ≡ true → (d : AheadValue) → d ≡ cut_from b here 0 → IsRedone m a t n d 1
      falls_here e d gone c = redone_falls m follows run t need q needed sound n is a b made_by c e d gone

-- two truth values that hold alike are equal
alike : (x y : Bool) → (x ≡ true → y ≡ true) → (y ≡ true → x ≡ true) → x ≡ y
alike true true f g = refl
alike false false f g = refl
alike true false f g = sym (f refl)
alike false true f g = g refl

-- the test on states in code is the book's
pub same_is : (a b : LeafState) (x : Bool) → ((x ≡ true) ↔ (a ≡ b)) → x ≡ same_state a b
same_is a b x h = alike x (same_state a b) (λ e. subst (λ (s : LeafState). same_state a s ≡ true) (h.0 e) (state_itself a)) (λ e. h.1 (state_is a b e))

-- and so is that on a chain
pub falls_none : (m : MachineValue) (t : Taking) (s : LeafState) (chain : Chain PieceValue) → chain ≡ [] → false ≡ falls (book_in m) (kind_in t.first.0 t.kind) t.time.0 s chain
falls_none m t s chain e = sym (ap (falls (book_in m) (kind_in t.first.0 t.kind) t.time.0 s) e)

pub falls_some : (m : MachineValue) (a : AheadValue) (t : Taking) (s : LeafState) (p : PieceValue) → Heads a t.leaf.0 p → head_falls p t s ≡ falls (book_in m) (kind_in t.first.0 t.kind) t.time.0 s (chain_of a.chains t.leaf.0)
falls_some m a t s p heads = sym (ap (falls (book_in m) (kind_in t.first.0 t.kind) t.time.0 s) heads.is)
