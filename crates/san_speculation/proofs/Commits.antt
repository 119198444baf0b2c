-- Pieces that are committed one after another.
use Rattle.std.proofs.Common.{ℕ, zero, ◌+◌, ◌-◌, ◌<◌, ◌≤◌, ◌≡◌, ◌∙◌, ap, sym, subst, refl, arith, add-one, List, length, Some}
use Rattle.std.proofs.lemmas.List.{length-set}
use Rattle.san_book.specs.Chains.{AllFit, Chain, chain_of}
use Rattle.san_book.specs.Cores as book
use Rattle.san_book.specs.Cores.{Commit}
use Rattle.san_book.specs.Journals.{booked, stepped}
use Rattle.san_book.specs.Lines.{AreWrites, withdraw}
use Rattle.san_book.specs.Steps.{all_committed, committed}
use Rattle.san_book.specs.Whole.{IsWhole}
use Rattle.san_book.proofs.Keeping.{steps_keep}
use Rattle.san_book.proofs.Walking.{read_after}
use Rattle.san_ahead.specs.Ahead.{AheadValue, TakesOut, with_committed}
use Rattle.san_book.proofs.Each.{length_each}
use Rattle.san_decide.specs.Booked.{book_of, of_piece}
use Rattle.san_decide.proofs.Booking.{book_is_lawful}
use Rattle.san_law.specs.Core as law
use Rattle.san_net.specs.Network.{Network}
use Rattle.san_base.specs.declared.limits.Limits.{Limits}
use Rattle.san_leaf.specs.Pieces.{IsSound, PieceValue}
use Rattle.san_law.specs.Left.{left}
use Rattle.san_core.specs.Machines.{FollowsRun, IsNeeded, MachineValue, after_taking, core_in, net_in}
use Rattle.san_core.specs.Redone.{IsSameRun}
use Rattle.san_base.specs.declared.numbers.LeafId.{LeafId}
use Rattle.san_speculation.specs.Speculating.{book_in}
use Rattle.san_speculation.specs.inner.Committing.{ArePartsWhole, IsNext, TakesHead, TakesHeads, with_parts}
use Rattle.san_speculation.proofs.Heads.{head_is_committed, head_needed, values_long, writes_fit}
use Rattle.san_speculation.proofs.Nexts.{with_front}
use Rattle.san_speculation.proofs.Runs.{one_more as all_more, commit_happens}
use Rattle.san_speculation.proofs.Speculated.{IsRun}

pub same_run : (m : MachineValue) (p : PieceValue) (n : MachineValue) → n ≡ after_taking m p → IsSameRun m n
same_run m p n is = subst (IsSameRun m) (sym is) (record { network = refl; seed = refl; limits = refl; start = refl })

moved_run : (m n : MachineValue) → IsSameRun m n → ◌≡◌ {A = (Network × ℕ) × Limits} ((m.network, m.seed), m.limits) ((n.network, n.seed), n.limits)
moved_run m n same = ap (λ (x : Network). ((x, m.seed), m.limits)) (sym same.network) ∙ (ap (λ (x : ℕ). ((n.network, x), m.limits)) (sym same.seed) ∙ ap (λ (x : Limits). ((n.network, n.seed), x)) (sym same.limits))

-- a whole core stays whole
pub whole_then : (m : MachineValue) (run : IsRun m.network) (a : AheadValue) → ArePartsWhole m a → (n : MachineValue) (b : AheadValue) → IsSameRun m n
    → ((d : book.Core law.Core PieceValue) → committed (book_in m) m.limits (with_parts m a d) ≡ Some (with_parts n b d)) → ArePartsWhole n b
whole_then m run a whole n b same happens =
    let c = with_parts m a whole.0 in
    let d = with_parts n b whole.0 in
    let law = book_is_lawful m.network run.known.network m.seed m.limits in
    let step = commit_happens (book_in m) m.limits c d 0 1 (omega arith) (omega arith) (all_more (book_in m) m.limits zero c c d refl (happens whole.0)) in
    let kept : IsWhole (book_in m) (booked (Commit 0 1) d) = read_after (IsWhole (book_in m)) (stepped (book_in m) m.limits (Commit 0 1) c) (booked (Commit 0 1) d) (steps_keep (book_in m) law m.limits c (Commit 0 1) w.1) step in
    (whole.0, moved (record { width = kept.width; lines = kept.lines; leaves = kept.leaves; counters = kept.counters; committed = kept.committed; exact = kept.exact; chains = kept.chains; connects = kept.connects; claims = kept.claims }))
  where
    w : ArePartsWhole m a
    w = whole

    moved : IsWhole (book_in m) (with_parts n b whole.0) → IsWhole (book_in n) (with_parts n b whole.0)
    moved k = subst (λ (x : (Network × ℕ) × Limits). IsWhole (book_of x.0.0 x.0.1 x.1) (with_parts n b whole.0)) (moved_run m n same) k

module _ (m : MachineValue) (follows : FollowsRun m) (run : IsRun m.network) (a : AheadValue) (leaf : LeafId) (next : IsNext m a leaf) (whole : ArePartsWhole m a) where
  abbrev w : IsWhole (book_in m) (with_parts m a whole.0)
  w = whole.1

  pub some_there : 0 < length (chain_of a.chains leaf.0)
  some_there = subst (λ (xs : Chain PieceValue). 0 < length xs) (sym next.chain) (omega arith)

  pub chain_fits : AllFit of_piece (length a.lines) (chain_of a.chains leaf.0)
  chain_fits = subst (λ (n : ℕ). AllFit of_piece n (chain_of a.chains leaf.0)) (sym w.lines) (w.chains leaf.0).fit

  -- the piece that is taken out
  module _ (p : PieceValue) (mid : AheadValue) (out : TakesOut a leaf.0 p mid) where
    abbrev front : IsNext m a leaf
    front = with_front m a leaf next (out.pos, p) out.rest out.is

    pub is_needed : IsNeeded m p
    is_needed = head_needed m follows run a whole.0 w leaf front

    -- and taken
    module _ (sound : IsSound p) (n : MachineValue) (is : n ≡ after_taking m p) (after : FollowsRun n) where
      mid_long : length mid.lines ≡ length a.lines
      mid_long = ap (λ (x : AheadValue). length x.lines) out.left ∙ length_each (withdraw leaf.0 out.pos) p.outcome.writes a.lines

      pub mid_fits : (ws : List (ℕ × ℕ)) → ws ≡ p.outcome.writes → AreWrites (length mid.lines) ws
      mid_fits ws e = subst (λ (xs : List (ℕ × ℕ)). AreWrites (length mid.lines) xs) (sym e) (subst (λ (k : ℕ). AreWrites k p.outcome.writes) (sym mid_long) (writes_fit m follows run a whole.0 w leaf front))

      shared_core : n.held.core.shared ≡ (core_in (after_taking m p)).shared
      shared_core = ap (λ (x : law.Core). x.shared) after.held ∙ ap (λ (x : MachineValue). (core_in x).shared) is

      pub values_fit : (shared : List ℕ) → shared ≡ n.held.core.shared → length shared ≡ length mid.lines
      values_fit shared e = ap length (e ∙ shared_core) ∙ (values_long m follows run a whole.0 w leaf front sound ∙ sym mid_long)

      pub committed_then : (b : AheadValue) (shared : List ℕ) (ws : List (ℕ × ℕ)) → shared ≡ n.held.core.shared → ws ≡ p.outcome.writes → b ≡ with_committed mid shared ws
          → (d : book.Core law.Core PieceValue) → committed (book_in m) m.limits (with_parts m a d) ≡ Some (with_parts n b d)
      committed_then b shared ws values written made d =
          head_is_committed m follows run a whole.0 w leaf front sound b
          (made ∙ (ap (λ (xs : List ℕ). with_committed mid xs ws) (values ∙ shared_core) ∙ (ap (with_committed mid (core_in (after_taking m p)).shared) written ∙ ap (λ (x : AheadValue). with_committed x (core_in (after_taking m p)).shared p.outcome.writes) out.left)))
          d
          ∙ ap (λ (x : MachineValue). Some (with_parts x b d)) (sym is)

      chains_stay : (b : AheadValue) (shared : List ℕ) (ws : List (ℕ × ℕ)) → b ≡ with_committed mid shared ws → length b.chains ≡ length a.chains
      chains_stay b shared ws made = ap (λ (x : AheadValue). length x.chains) made ∙ (ap (λ (x : AheadValue). length x.chains) out.left ∙ length-set a.chains leaf.0 out.rest)

      spare_falls : 1 ≤ m.spare → n.spare + 1 ≡ m.spare
      spare_falls some = let e : n.spare ≡ m.spare - 1 = ap (λ (x : MachineValue). x.spare) is in omega (arith, e, some)

      -- so the head is taken
      pub takes_head : 1 ≤ m.spare → left (net_in n) (core_in n) < left (net_in m) (core_in m) → (b : AheadValue) (shared : List ℕ) (ws : List (ℕ × ℕ)) → shared ≡ n.held.core.shared → ws ≡ p.outcome.writes → b ≡ with_committed mid shared ws → TakesHead m a n b
      takes_head some less b shared ws values written made =
          let happens = committed_then b shared ws values written made in
          let same = same_run m p n is in
          record { committed = happens; run = same; whole = whole_then m run a whole n b same happens; spare = spare_falls some; less = less; chains = chains_stay b shared ws made }

-- the same run, and then the same again
pub run_more : (m n k : MachineValue) → IsSameRun m n → IsSameRun n k → IsSameRun m k
run_more m n k a b = record { network = b.network ∙ a.network; seed = b.seed ∙ a.seed; limits = b.limits ∙ a.limits; start = b.start ∙ a.start }

-- a head, and one more
pub first_head : (m : MachineValue) (a : AheadValue) (n : MachineValue) (b : AheadValue) → TakesHead m a n b → TakesHeads m a 1 n b
first_head m a n b one = record {
  committed = λ c. all_more (book_in m) m.limits zero (with_parts m a c) (with_parts m a c) (with_parts n b c) refl (one.committed c);
  run = one.run;
  whole = one.whole;
  spare = one.spare;
  less = let l = one.less in omega (arith, l);
  chains = one.chains;
}

pub next_head : (m : MachineValue) (a : AheadValue) (k : ℕ) (n : MachineValue) (b : AheadValue) (o : MachineValue) (d : AheadValue) → TakesHeads m a k n b → TakesHead n b o d → TakesHeads m a (k + 1) o d
next_head m a k n b o d so_far one =
    let l = one.less in let s = one.spare in let few = so_far.less in let room = so_far.spare in
    record {
      committed = λ c. ap (λ (i : ℕ). all_committed (book_in m) m.limits i (with_parts m a c)) (add-one k)
          ∙ all_more (book_in m) m.limits k (with_parts m a c) (with_parts n b c) (with_parts o d c) (so_far.committed c)
          (subst (λ (x : (Network × ℕ) × Limits). committed (book_of x.0.0 x.0.1 x.1) x.1 (with_parts n b c) ≡ Some (with_parts o d c)) (sym (moved_run m n so_far.run)) (one.committed c));
      run = run_more m n o so_far.run one.run;
      whole = one.whole;
      spare = omega (arith, s, room);
      less = omega (arith, l, few);
      chains = one.chains ∙ so_far.chains;
    }
