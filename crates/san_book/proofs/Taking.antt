-- A core that takes a piece, from a chain or made anew, stays whole.
use Rattle.san_base.proofs.NumberTests.{by_number}
use Rattle.std.proofs.Common.{ℕ, zero, suc, ◌<◌, ◌≤◌, ◌≡◌, ◌≢◌, ◌∙◌, ◌||◌, sym, refl, subst, not, List, [], ◌∷◌, length, Bool, true, false, nat_lt, arith, slice_index, slice_set}
use Rattle.std.proofs.lemmas.Bool.{true≢false}
use Rattle.std.proofs.lemmas.List.{length-set}
use Rattle.san_law.specs.Piece.{Kind}
use Rattle.san_book.specs.Machines.{Machine, is_of}
use Rattle.san_book.specs.Lines.{AreWrites, Line, commit, withdraw}
use Rattle.san_book.specs.Chains.{AreMadeByLogs, Chain, Connects, chain_of, without_piece}
use Rattle.san_book.specs.Cores.{Core}
use Rattle.san_book.specs.Steps.{cut_at, fallen, falls, redone, taken_anew, taken_head}
use Rattle.san_book.specs.Whole.{IsChain, IsLawfulMachine, IsWhole}
use Rattle.san_book.proofs.Each.{committed_kept, committed_new, length_each}
use Rattle.san_book.proofs.Moves.{exact_commit, exact_same, lines_less}
use Rattle.san_book.proofs.Parts.{chain_grow, chain_rest, chains_by, set_chain, within}
use Rattle.san_book.proofs.Cutting.{cut_whole}
use Rattle.san_book.proofs.Written.{with_chain}

-- the head of a chain is taken
module _ {H S P : Type 0} (m : Machine H S P) (law : IsLawfulMachine m) (c : Core H P) (j : ℕ) (x : ℕ × P) (rest : Chain P) (h : IsWhole m c) (goes : m.stopped c.held ≡ false) (is : chain_of c.chains j ≡ x ∷ rest) where
  abbrev new : List ℕ
  new = m.shared (m.takes c.held j x.1)

  abbrev less : List Line
  less = without_piece m.reading j x.0 x.1 c.lines

  facts : IsChain m j (slice_index c.counters j) (x ∷ rest)
  facts = subst (λ (y : Chain P). IsChain m j (slice_index c.counters j) y) is (h.chains j)

  less_length : length less ≡ length c.lines
  less_length = length_each (withdraw j x.0) (m.reading.writes x.1) c.lines

  fits : AreWrites (length c.lines) (m.reading.writes x.1)
  fits = subst (λ (s : ℕ). AreWrites s (m.reading.writes x.1)) (sym h.lines) facts.fit.0

  fits_less : AreWrites (length less) (m.reading.writes x.1)
  fits_less = subst (λ (s : ℕ). AreWrites s (m.reading.writes x.1)) (sym less_length) fits

  there : j < length c.chains
  there = within c.chains j 0 (subst (λ (y : Chain P). 0 < length y) (sym is) (omega arith))

  joined : Connects m.reading (m.state c.held j) (x ∷ rest)
  joined = subst (λ (y : Chain P). Connects m.reading (m.state c.held j) y) is (h.connects goes j)

  pub taken_whole : IsWhole m (taken_head m c j x rest)
  taken_whole = record {
    width = law.sizes c.held j x.1 ∙ h.width;
    lines = length_each (commit new) (m.reading.writes x.1) less ∙ (less_length ∙ h.lines);
    leaves = length-set c.chains j rest ∙ (h.leaves ∙ sym (law.leaves c.held j x.1));
    counters = h.counters ∙ sym (length-set c.chains j rest);
    committed = committed_new (m.reading.writes x.1) less (m.shared c.held) new fits_less (λ q e. law.frame c.held j x.1 q e)
        (committed_kept (withdraw j x.0) (m.reading.writes x.1) c.lines (m.shared c.held) fits (λ q v l. refl) h.committed);
    exact = exact_commit m.reading (m.reading.writes x.1) new less (chain_of (slice_set c.chains j rest)) fits_less
        (exact_same m.reading less (with_chain (chain_of c.chains) j rest) (chain_of (slice_set c.chains j rest)) (set_chain c.chains j rest there)
        (lines_less m.reading j [] rest x (chain_of c.chains) c.lines fits is facts.apart h.exact));
    chains = chains_by (λ i y. IsChain m i (slice_index c.counters i) y) c.chains j rest there (chain_rest m j (slice_index c.counters j) x rest facts) (λ i d. h.chains i);
    connects = λ s. chains_by (λ i y. Connects m.reading (m.state (m.takes c.held j x.1) i) y) c.chains j rest there
        (subst (λ (b : S). Connects m.reading b rest) (sym (law.own c.held j x.1 (omega (arith, there, h.leaves)) s)) joined.1)
        (λ i d. subst (λ (b : S). Connects m.reading b (chain_of c.chains i)) (sym (law.others c.held j i x.1 d)) (h.connects goes i));
    claims = λ v p e. subst (λ (s : ℕ). p.leaf < s) (sym (length-set c.chains j rest)) (h.claims v p e);
  }

-- the same committed part, whose chains needn't connect
abbrev still : {H S P : Type 0} → Machine H S P → Machine H S P
still m = record m { stopped = λ h. true }

counter_grows : (counters : List ℕ) (j i : ℕ) → slice_index counters i ≤ slice_index (slice_set counters j (suc (slice_index counters j))) i
counter_grows [] j i = omega arith
counter_grows (n ∷ ns) zero zero = omega arith
counter_grows (n ∷ ns) zero (suc i) = omega arith
counter_grows (n ∷ ns) (suc j) zero = omega arith
counter_grows (n ∷ ns) (suc j) (suc i) = counter_grows ns j i

-- a chain that stays begins with the leaf's state
stays_where : {H S P : Type 0} (m : Machine H S P) (law : IsLawfulMachine m) (kind : Kind) (time : ℕ) (s : S) (xs : Chain P) (b : S) → falls m kind time s xs ≡ false → Connects m.reading b xs → Connects m.reading s xs
stays_where m law kind time s [] b e h = tt
stays_where m law kind time s (x ∷ xs) b e h = ((law.same (m.reading.base x.1) s).0 (base_is (is_of m.reading kind time x.1) (nat_lt (m.reading.time x.1) time) (m.same (m.reading.base x.1) s) e), h.1)
  where
    base_is : (o t a : Bool) → (o || (t || not a)) ≡ false → a ≡ true
    base_is true t a e = cc
    base_is false true a e = cc
    base_is false false true e = refl
    base_is false false false e = cc

-- a chain that goes has a piece
pub falls_some : {H S P : Type 0} (m : Machine H S P) (kind : Kind) (time : ℕ) (s : S) (xs : Chain P) → falls m kind time s xs ≡ true → 0 < length xs
falls_some m kind time s [] e = absurd (true≢false (sym e))
falls_some m kind time s (x ∷ xs) e = omega arith

-- a piece is made anew
module _ {H S P : Type 0} (m : Machine H S P) (law : IsLawfulMachine m) (c : Core H P) (j : ℕ) (kind : Kind) (time : ℕ) (h : IsWhole m c) (goes : m.stopped c.held ≡ false) where
  abbrev made : P
  made = m.needed c.held j kind time

  abbrev shared_now : List ℕ
  shared_now = m.shared (m.takes c.held j made)

  abbrev state_now : S
  state_now = m.state (m.takes c.held j made) j

  fits_made : AreWrites (length c.lines) (m.reading.writes made)
  fits_made = subst (λ (s : ℕ). AreWrites s (m.reading.writes made)) (sym h.lines) (law.made j (m.state c.held j) kind time (m.reading.log made) made (law.needed c.held h.width j kind time).0).fits

  all_still : (i : ℕ) (xs : Chain P) → AreMadeByLogs m i xs → AreMadeByLogs (still m) i xs
  all_still i [] a = tt
  all_still i (x ∷ xs) a = (a.0, all_still i xs a.1)

  chain_still : {n : ℕ} (i : ℕ) (xs : Chain P) → IsChain m i n xs → IsChain (still m) i n xs
  chain_still i xs g = record { apart = g.apart; below = g.below; fit = g.fit; made = all_still i xs g.made }

  made_whole : IsWhole (still m) (taken_anew m c j made)
  made_whole = record {
    width = law.sizes c.held j made ∙ h.width;
    lines = length_each (commit shared_now) (m.reading.writes made) c.lines ∙ h.lines;
    leaves = h.leaves ∙ sym (law.leaves c.held j made);
    counters = length-set c.counters j (suc (slice_index c.counters j)) ∙ h.counters;
    committed = committed_new (m.reading.writes made) c.lines (m.shared c.held) shared_now fits_made (λ q e. law.frame c.held j made q e) h.committed;
    exact = exact_commit m.reading (m.reading.writes made) shared_now c.lines (chain_of c.chains) fits_made h.exact;
    chains = λ i. chain_still i (chain_of c.chains i) (chain_grow m i (slice_index c.counters i) (slice_index (slice_set c.counters j (suc (slice_index c.counters j))) i) (chain_of c.chains i) (counter_grows c.counters j i) (h.chains i));
    connects = λ s. absurd (true≢false s);
    claims = h.claims;
  }

  others_connect : (i : ℕ) → i ≢ j → Connects m.reading (m.state (m.takes c.held j made) i) (chain_of c.chains i)
  others_connect i d = subst (λ (b : S). Connects m.reading b (chain_of c.chains i)) (sym (law.others c.held j i made d)) (h.connects goes i)

  back_still : (i : ℕ) (xs : Chain P) → AreMadeByLogs (still m) i xs → AreMadeByLogs m i xs
  back_still i [] a = tt
  back_still i (x ∷ xs) a = (a.0, back_still i xs a.1)

  whole_of : (d : Core H P) → IsWhole (still m) d → ((i : ℕ) → Connects m.reading (m.state d.held i) (chain_of d.chains i)) → IsWhole m d
  whole_of d w k = record {
    width = w.width;
    lines = w.lines;
    leaves = w.leaves;
    counters = w.counters;
    committed = w.committed;
    exact = w.exact;
    chains = λ i. record { apart = (w.chains i).apart; below = (w.chains i).below; fit = (w.chains i).fit; made = back_still i (chain_of d.chains i) (w.chains i).made };
    connects = λ s. k;
    claims = w.claims;
  }

  whole_by : (t : Bool) → falls m kind time state_now (chain_of c.chains j) ≡ t → IsWhole m (fallen t m (taken_anew m c j made) j)
  whole_by true e =
      let l : j < length c.chains = within c.chains j 0 (falls_some m kind time state_now (chain_of c.chains j) e) in
      whole_of (cut_at m (taken_anew m c j made) j 0) (cut_whole (still m) (taken_anew m c j made) j 0 made_whole l)
      (chains_by (λ i x. Connects m.reading (m.state (m.takes c.held j made) i) x) c.chains j [] l tt (λ i d. others_connect i d))
  whole_by false e = whole_of (taken_anew m c j made) made_whole
      (by_number (λ i. Connects m.reading (m.state (m.takes c.held j made) i) (chain_of c.chains i)) j
      (stays_where m law kind time state_now (chain_of c.chains j) (m.state c.held j) e (h.connects goes j))
      (λ i d. others_connect i d))

  pub redone_whole : IsWhole m (redone m c j kind time made)
  redone_whole = whole_by (falls m kind time state_now (chain_of c.chains j)) refl
