-- The counts are the journal's, and the journal stays bounded.
use Rattle.std.proofs.Common.{ℕ, suc, ◌+◌, ◌<◌, ◌≤◌, ◌≡◌, ◌⊎◌, ◌∙◌, inl, inr, ap, refl, List, [], ◌∷◌, ◌++◌, length, take, Some, None, Bool, true, false, arith, slice_index, slice_set}
use Rattle.std.proofs.lemmas.List.{length-set, length-take, length_push}
use Rattle.san_base.specs.declared.limits.Limits.{Limits}
use Rattle.san_base.specs.declared.piece.Kind as named
use Rattle.san_log.specs.Logs.{noted}
use Rattle.san_law.specs.Piece.{Kind}
use Rattle.san_book.specs.declared.limits.TheConstants.{MAX_STRETCH_PIECES}
use Rattle.san_book.specs.Machines.{Machine}
use Rattle.san_book.specs.Chains.{Chain, chain_of}
use Rattle.san_book.specs.Cores.{Claim, Commit, Core, Cut, Late, Pending, Publish, Read, Redo, Step, claim_of}
use Rattle.san_book.specs.Steps.{all_committed, cut_at, fallen, falls, happens, pushed, redone, taken_anew, taken_head, with_claim}
use Rattle.san_book.specs.Journals.{booked, commits, counted, is_claim, is_late, is_redo}
use Rattle.san_book.specs.Whole.{IsWhole}
use Rattle.san_book.specs.Bounds.{IsCounted, claims_in, pieces_in}
use Rattle.san_book.specs.Laws.{After, StepsAreBooked, StepsCount}
use Rattle.san_book.proofs.Afters.{after_booked, after_map}
use Rattle.san_book.proofs.Claims.{sum_less, sum_more, sum_other}
use Rattle.san_book.proofs.Parts.{within}
use Rattle.san_book.proofs.Sums.{counted_more, pieces_set}
use Rattle.san_book.proofs.Taking.{falls_some}
use Rattle.san_book.proofs.Walking.{Handles, IsHead, after_commits, handled}

-- what so many commits change, with so many more to come
pub record Committed {H P : Type 0} (c : Core H P) (all n : ℕ) (d : Core H P) : Type 0 where
  pub journal : d.journal ≡ c.journal
  pub claims : d.claims ≡ c.claims
  pub leaves : length d.chains ≡ length c.chains
  pub taken : d.taken + n ≡ c.taken + all
  pub pieces : pieces_in d.chains + all ≡ pieces_in c.chains + n
  pub stretch : (d.taken ≤ MAX_STRETCH_PIECES) ⊎ (d.taken ≡ c.taken)

pub commits_change : {H S P : Type 0} (m : Machine H S P) (limits : Limits) (c : Core H P) (n : ℕ) → After (Committed c n 0) (all_committed m limits n c)
commits_change {H} {S} {P} m limits c all = after_commits m limits (Committed c all) one all c (record { journal = refl; claims = refl; leaves = refl; taken = refl; pieces = refl; stretch = inr refl })
  where
    one : (n : ℕ) (d : Core H P) (j : ℕ) (kind : Kind) (time : ℕ) (x : ℕ × P) (rest : Chain P) → Committed c all (suc n) d → IsHead m limits d j kind time x rest → Committed c all n (taken_head m d j x rest)
    one n d j kind time x rest r i =
        let t : length (chain_of d.chains j) ≡ suc (length rest) = ap (λ (y : Chain P). length y) i.chain in
        let p = pieces_set d.chains j rest (within d.chains j 0 (omega (arith, t))) in
        let q = r.pieces in let u = r.taken in let room = i.goes.room in
        record { journal = r.journal; claims = r.claims; leaves = length-set d.chains j rest ∙ r.leaves; taken = omega (arith, u); pieces = omega (arith, p, q, t); stretch = inl (omega (arith, room)) }

-- what a redo changes
pub record Redone {H P : Type 0} (c d : Core H P) : Type 0 where
  pub journal : d.journal ≡ c.journal
  pub claims : d.claims ≡ c.claims
  pub leaves : length d.chains ≡ length c.chains
  pub taken : d.taken ≡ suc c.taken
  pub pieces : pieces_in d.chains ≤ pieces_in c.chains

pub cut_pieces : {P : Type 0} (chains : List (Chain P)) (j k : ℕ) → k < length (chain_of chains j) → pieces_in (slice_set chains j (take k (chain_of chains j))) < pieces_in chains
cut_pieces chains j k l = let p = pieces_set chains j (take k (chain_of chains j)) (within chains j k l) in let t = length-take k (chain_of chains j) in omega (arith, p, t, l)

pub redo_changes : {H S P : Type 0} (m : Machine H S P) (c : Core H P) (j : ℕ) (kind : Kind) (time : ℕ) (p : P) → Redone c (redone m c j kind time p)
redo_changes {H} {S} {P} m c j kind time p = by_fall (falls m kind time (m.state (m.takes c.held j p) j) (chain_of c.chains j)) refl
  where
    by_fall : (t : Bool) → falls m kind time (m.state (m.takes c.held j p) j) (chain_of c.chains j) ≡ t → Redone c (fallen t m (taken_anew m c j p) j)
    by_fall true e = let l = cut_pieces c.chains j 0 (falls_some m kind time (m.state (m.takes c.held j p) j) (chain_of c.chains j) e) in
        let none : Chain P = [] in
        record { journal = refl; claims = refl; leaves = length-set c.chains j none; taken = refl; pieces = omega (arith, l) }
    by_fall false e = record { journal = refl; claims = refl; leaves = refl; taken = refl; pieces = omega arith }

-- counts after one step more, for which the journal stays as it is until it is booked
module _ {H P : Type 0} (c d : Core H P) (s : Step) (journal : d.journal ≡ c.journal) where
  more : (f : Step → ℕ) → counted f (booked s d).journal ≡ counted f c.journal + f s
  more f = ap (λ (ss : List Step). counted f (ss ++ s ∷ [])) journal ∙ counted_more f c.journal s

  counted_by : IsCounted c → d.taken ≡ c.taken + (commits s + is_redo s) → is_late s + (commits s + (pieces_in d.chains + claims_in d.claims)) ≤ is_claim s + (pieces_in c.chains + claims_in c.claims) → IsCounted (booked s d)
  counted_by h taken claims = record {
    taken = let a = more commits in let b = more is_redo in let t = h.taken in omega (arith, a, b, t, taken);
    claims = let a = more is_late in let b = more commits in let e = more is_claim in let t = h.claims in omega (arith, a, b, e, t, claims);
  }

module _ {H S P : Type 0} (m : Machine H S P) (limits : Limits) (c : Core H P) (whole : IsWhole m c) (h : IsCounted c) where
  push_counts : (w : ℕ) (kind : named.Kind) (time : ℕ) (p : Pending) (x : P) → claim_of c.claims w ≡ Some p → IsCounted (booked (Publish w kind time) (pushed m c w p.leaf x))
  push_counts w kind time p x e = counted_by c (pushed m c w p.leaf x) (Publish w kind time) refl h (omega arith)
      (let a = pieces_set c.chains p.leaf (chain_of c.chains p.leaf ++ (slice_index c.counters p.leaf, x) ∷ []) (whole.claims w p e) in
      let q = length_push (chain_of c.chains p.leaf) (slice_index c.counters p.leaf, x) in
      let b : claims_in (slice_set c.claims w None) + 1 ≡ claims_in c.claims = sum_less (λ p. 1) c.claims w p e in omega (arith, a, q, b))

  counts : Handles m limits c (λ s d. IsCounted (booked s d))
  counts = record {
    claim = λ w j may free. let n : Pending = record { leaf = j; log = [] } in let b : claims_in (slice_set c.claims w (Some n)) ≡ claims_in c.claims + 1 = sum_more (λ p. 1) c.claims w n may.worker may.idle in
        counted_by c (with_claim c w (Some n)) (Claim w) refl h (omega arith) (omega (arith, b));
    read = λ w place v p e. let n : Pending = record { leaf = p.leaf; log = noted place v p.log } in let b : claims_in (slice_set c.claims w (Some n)) + 1 ≡ claims_in c.claims + 1 = sum_other (λ p. 1) c.claims w p n e in
        counted_by c (with_claim c w (Some n)) (Read w place v) refl h (omega arith) (omega (arith, b));
    publish = λ w kind time p k x e made. push_counts w kind time p x e;
    late = λ w p e. let b : claims_in (slice_set c.claims w None) + 1 ≡ claims_in c.claims = sum_less (λ p. 1) c.claims w p e in
        counted_by c (with_claim c w None) (Late w) refl h (omega arith) (omega (arith, b));
    cut = λ w j k l. let t = cut_pieces c.chains j k l in counted_by c (cut_at m c j k) (Cut w j) refl h (omega arith) (omega (arith, t));
    commit = λ w n l. after_map (Committed c n 0) (λ d. IsCounted (booked (Commit w n) d)) (all_committed m limits n c)
        (λ d r. let t = r.taken in let p = r.pieces in let k : claims_in d.claims ≡ claims_in c.claims = ap claims_in r.claims in
        counted_by c d (Commit w n) r.journal h (omega (arith, t)) (omega (arith, p, k)))
        (commits_change m limits c n);
    redo = λ w j kind time g need. let d : Core H P = redone m c j kind time (m.needed c.held j kind time) in
        let r : Redone c d = redo_changes m c j kind time (m.needed c.held j kind time) in
        let t = r.taken in let p = r.pieces in let k : claims_in d.claims ≡ claims_in c.claims = ap claims_in r.claims in
        counted_by c d (Redo w) r.journal h (omega (arith, t)) (omega (arith, p, k));
  }

pub steps_count : {H S P : Type 0} (m : Machine H S P) → StepsCount m
steps_count m limits c s whole h = after_booked IsCounted s (happens m limits s c) (handled m limits c (λ s d. IsCounted (booked s d)) (counts m limits c whole h) s)

-- each step is booked
module _ {H S P : Type 0} (m : Machine H S P) (limits : Limits) (c : Core H P) where
  books : Handles m limits c (λ s d. (booked s d).journal ≡ c.journal ++ s ∷ [])
  books = record {
    claim = λ w j may free. refl;
    read = λ w place v p e. refl;
    publish = λ w kind time p k x e made. refl;
    late = λ w p e. refl;
    cut = λ w j k l. refl;
    commit = λ w n l. after_map (Committed c n 0) (λ (d : Core H P). (booked (Commit w n) d).journal ≡ c.journal ++ Commit w n ∷ []) (all_committed m limits n c) (λ d r. ap (λ (ss : List Step). ss ++ Commit w n ∷ []) r.journal) (commits_change m limits c n);
    redo = λ w j kind time g need. ap (λ (ss : List Step). ss ++ Redo w ∷ []) (redo_changes m c j kind time (m.needed c.held j kind time)).journal;
  }

pub steps_are_booked : {H S P : Type 0} (m : Machine H S P) → StepsAreBooked m
steps_are_booked {H} {S} {P} m limits c s = after_booked (λ (d : Core H P). d.journal ≡ c.journal ++ s ∷ []) s (happens m limits s c) (handled m limits c (λ s d. (booked s d).journal ≡ c.journal ++ s ∷ []) (books m limits c) s)
