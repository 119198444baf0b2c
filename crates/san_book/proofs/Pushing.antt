-- A core that a piece is pushed to, and one whose claims change, stay whole.
use Rattle.std.proofs.Common.{ℕ, suc, ◌<◌, ◌≡◌, ◌∙◌, ap, sym, refl, subst, List, [], ◌∷◌, ◌++◌, length, Option, Some, arith, slice_index, slice_set}
use Rattle.std.proofs.lemmas.List.{length-set, get_or-set_same, get_or-set_other}
use Rattle.san_log.specs.Logs.{Entry}
use Rattle.san_law.specs.Piece.{Kind}
use Rattle.san_book.specs.Machines.{Machine}
use Rattle.san_book.specs.Lines.{AreWrites, put}
use Rattle.san_book.specs.Chains.{Chain, Connects, chain_of, with_piece}
use Rattle.san_book.specs.Cores.{Core, Pending, claim_of}
use Rattle.san_book.specs.Steps.{chain_end, pushed, with_claim}
use Rattle.san_book.specs.Whole.{IsChain, IsAsAsked, IsWhole}
use Rattle.san_book.proofs.Each.{committed_kept, length_each}
use Rattle.san_book.proofs.Moves.{exact_same, lines_more}
use Rattle.san_book.proofs.Parts.{chain_push, chains_by, connects_push, free_below, set_chain}
use Rattle.san_book.proofs.Claims.{claims_less}
use Rattle.san_book.proofs.Written.{with_chain}

-- a piece that was made as it was asked for is what its own log makes
pub remade : {H S P : Type 0} (m : Machine H S P) (j : ℕ) (base : S) (kind : Kind) (time : ℕ) (log : List Entry) (p : P) → IsAsAsked m.reading m.width base kind time log p → m.makes j base kind time log ≡ Some p →
    m.makes j (m.reading.base p) (m.reading.kind p) (m.reading.time p) (m.reading.log p) ≡ Some p
remade m j base kind time log p i e =
    ap (λ b. m.makes j b (m.reading.kind p) (m.reading.time p) (m.reading.log p)) i.based
    ∙ (ap (λ k. m.makes j base k (m.reading.time p) (m.reading.log p)) i.kinded
    ∙ (ap (λ t. m.makes j base kind t (m.reading.log p)) i.timed
    ∙ (ap (λ l. m.makes j base kind time l) i.logged ∙ e)))

pub with_claim_whole : {H S P : Type 0} (m : Machine H S P) (c : Core H P) (w : ℕ) (o : Option Pending) → IsWhole m c → ((v : ℕ) (p : Pending) → claim_of (slice_set c.claims w o) v ≡ Some p → p.leaf < length c.chains) → IsWhole m (with_claim c w o)
with_claim_whole m c w o h f = record { width = h.width; lines = h.lines; leaves = h.leaves; counters = h.counters; committed = h.committed; exact = h.exact; chains = h.chains; connects = h.connects; claims = f }

module _ {H S P : Type 0} (m : Machine H S P) (c : Core H P) (w j : ℕ) (p : P) (h : IsWhole m c) (k : j < length c.chains)
    (made : m.makes j (m.reading.base p) (m.reading.kind p) (m.reading.time p) (m.reading.log p) ≡ Some p) (fit : AreWrites m.width (m.reading.writes p)) (base : m.reading.base p ≡ chain_end m c j) where
  abbrev n : ℕ
  n = slice_index c.counters j

  abbrev old : Chain P
  old = chain_of c.chains j

  abbrev new : Chain P
  new = old ++ (n, p) ∷ []

  here : AreWrites (length c.lines) (m.reading.writes p)
  here = subst (λ (s : ℕ). AreWrites s (m.reading.writes p)) (sym h.lines) fit

  pub pushed_whole : IsWhole m (pushed m c w j p)
  pushed_whole = record {
    width = h.width;
    lines = length_each (put (m.reading.time p) j n) (m.reading.writes p) c.lines ∙ h.lines;
    leaves = length-set c.chains j new ∙ h.leaves;
    counters = length-set c.counters j (suc n) ∙ (h.counters ∙ sym (length-set c.chains j new));
    committed = committed_kept (put (m.reading.time p) j n) (m.reading.writes p) c.lines (m.shared c.held) here (λ q v l. refl) h.committed;
    exact = exact_same m.reading (with_piece m.reading j n p c.lines) (with_chain (chain_of c.chains) j new) (chain_of (slice_set c.chains j new))
        (set_chain c.chains j new k) (lines_more m.reading j (n, p) (chain_of c.chains) c.lines here (free_below n old (h.chains j).below) h.exact);
    chains = chains_by (λ i x. IsChain m i (slice_index (slice_set c.counters j (suc n)) i) x) c.chains j new k
        (subst (λ (s : ℕ). IsChain m j s new) (sym (get_or-set_same c.counters j (suc n) 0 (omega (arith, k, h.counters)))) (chain_push m j n old p fit made (h.chains j)))
        (λ i d. subst (λ (s : ℕ). IsChain m i s (chain_of c.chains i)) (sym (get_or-set_other c.counters j i (suc n) 0 d)) (h.chains i));
    connects = λ s. chains_by (λ i x. Connects m.reading (m.state c.held i) x) c.chains j new k (connects_push m.reading (m.state c.held j) old (n, p) base (h.connects s j)) (λ i d. h.connects s i);
    claims = λ v r e. subst (λ (s : ℕ). r.leaf < s) (sym (length-set c.chains j new)) (h.claims v r (claims_less c.claims w v r e).0);
  }
