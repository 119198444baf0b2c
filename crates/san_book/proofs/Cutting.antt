-- A core whose chain is cut stays whole.
use Rattle.std.proofs.Common.{ℕ, ◌<◌, ◌≡◌, ◌∙◌, sym, subst, ◌++◌, length, take, drop, slice_index, slice_set}
use Rattle.std.proofs.lemmas.List.{length-set, take-append-drop}
use Rattle.san_book.specs.Machines.{Machine}
use Rattle.san_book.specs.Chains.{AllFit, AreNumberedApart, Chain, Connects, chain_of, without_pieces}
use Rattle.san_book.specs.Cores.{Core}
use Rattle.san_book.specs.Steps.{cut_at}
use Rattle.san_book.specs.Whole.{IsChain, IsWhole}
use Rattle.san_book.proofs.Moves.{committed_without, exact_same, length_without, lines_cut}
use Rattle.san_book.proofs.Parts.{chain_front, chains_by, connects_front, fit_back, set_chain}
use Rattle.san_book.proofs.Written.{with_chain}

module _ {H S P : Type 0} (m : Machine H S P) (c : Core H P) (j k : ℕ) (h : IsWhole m c) (l : j < length c.chains) where
  abbrev old : Chain P
  old = chain_of c.chains j

  abbrev front : Chain P
  front = take k old

  abbrev back : Chain P
  back = drop k old

  parts : front ++ back ≡ old
  parts = take-append-drop k old

  fits_back : AllFit m.reading (length c.lines) back
  fits_back = subst (λ (s : ℕ). AllFit m.reading s back) (sym h.lines) (fit_back m.reading m.width k old (h.chains j).fit)

  pub cut_whole : IsWhole m (cut_at m c j k)
  cut_whole = record {
    width = h.width;
    lines = length_without m.reading j back c.lines ∙ h.lines;
    leaves = length-set c.chains j front ∙ h.leaves;
    counters = h.counters ∙ sym (length-set c.chains j front);
    committed = committed_without m.reading j back c.lines (m.shared c.held) fits_back h.committed;
    exact = exact_same m.reading (without_pieces m.reading j back c.lines) (with_chain (chain_of c.chains) j front) (chain_of (slice_set c.chains j front))
        (set_chain c.chains j front l)
        (lines_cut m.reading j front back (chain_of c.chains) c.lines fits_back (sym parts) (subst (λ (x : Chain P). AreNumberedApart x) (sym parts) (h.chains j).apart) h.exact);
    chains = chains_by (λ i x. IsChain m i (slice_index c.counters i) x) c.chains j front l (chain_front m j (slice_index c.counters j) k old (h.chains j)) (λ i d. h.chains i);
    connects = λ s. chains_by (λ i x. Connects m.reading (m.state c.held i) x) c.chains j front l (connects_front m.reading (m.state c.held j) k old (h.connects s j)) (λ i d. h.connects s i);
    claims = λ v p e. subst (λ (s : ℕ). p.leaf < s) (sym (length-set c.chains j front)) (h.claims v p e);
  }
