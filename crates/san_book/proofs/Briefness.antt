-- The journal stays bounded.
use Rattle.std.proofs.Common.{ℕ, suc, ◌+◌, ◌*◌, ◌-◌, ◌<◌, ◌≤◌, ◌≡◌, inl, inr, ap, sym, refl, subst, List, [], ◌∷◌, ◌++◌, length, take, Option, Some, None, arith, slice_index, slice_set}
use Rattle.std.proofs.lemmas.List.{length-set, length_push}
use Rattle.san_base.specs.declared.limits.Limits.{Limits}
use Rattle.san_base.specs.declared.limits.TheConstants.{MAX_CELLS}
use Rattle.san_base.specs.declared.numbers.PlaceId.{PlaceId}
use Rattle.san_log.specs.Logs.{Entry, find, noted, noted_by}
use Rattle.san_book.specs.declared.limits.TheConstants.{MAX_STEPS_TO_CLAIM, MAX_STRETCH_PIECES}
use Rattle.san_book.specs.Machines.{Machine}
use Rattle.san_book.specs.Chains.{chain_of}
use Rattle.san_book.specs.Cores.{Claim, Commit, Core, Cut, Late, Pending, Publish, Read, Redo, Step, claim_of}
use Rattle.san_book.specs.Steps.{all_committed, cut_at, happens, pushed, redone, with_claim}
use Rattle.san_book.specs.Journals.{booked}
use Rattle.san_book.specs.Whole.{IsWhole}
use Rattle.san_book.specs.Bounds.{IsBounded, IsBrief, ReadFits, claims_by, pieces_in, steps_of}
use Rattle.san_book.specs.Laws.{StepsAreBrief}
use Rattle.san_book.proofs.Afters.{after_booked, after_map}
use Rattle.san_book.proofs.Claims.{claims_less, claims_more, sum_less, sum_other}
use Rattle.san_book.proofs.Counting.{Committed, Redone, commits_change, cut_pieces, redo_changes}
use Rattle.san_book.proofs.Sums.{pieces_set, pieces_short, steps_short}
use Rattle.san_book.proofs.Walking.{Handles, handled}

-- one entry more
noted_new : (o : Option ℕ) (e : Entry) (es : List Entry) → o ≡ None → length (noted_by o e es) ≡ suc (length es)
noted_new None e es h = let r : length (es ++ e ∷ []) ≡ length es + 1 = length_push es e in omega (arith, r)
noted_new (Some v) e es h = absurd (cc)

-- one step more is within the bound, where what may still come to be is less by one, or a piece more was taken
module _ {H P : Type 0} (limits : Limits) (c d : Core H P) (s : Step) (journal : d.journal ≡ c.journal) (leaves : length d.chains ≡ length c.chains) (workers : length d.claims ≡ length c.claims) where
  one_step : length (booked s d).journal ≡ suc (length c.journal)
  one_step = let r : length (d.journal ++ s ∷ []) ≡ length d.journal + 1 = length_push d.journal s in let k : length d.journal ≡ length c.journal = ap (λ (ss : List Step). length ss) journal in omega (arith, r, k)

  brief_by : IsBrief limits c → d.taken ≤ MAX_STRETCH_PIECES → ((w : ℕ) (p : Pending) → claim_of d.claims w ≡ Some p → length p.log ≤ MAX_CELLS) →
      suc (pieces_in d.chains + claims_by steps_of d.claims) + c.taken ≤ (pieces_in c.chains + claims_by steps_of c.claims) + d.taken → IsBrief limits (booked s d)
  brief_by h stretch logs less = record {
    stretch = stretch;
    logs = logs;
    journal = subst (λ (n : ℕ). length (booked s d).journal + (pieces_in d.chains + claims_by steps_of d.claims) ≤ MAX_STEPS_TO_CLAIM + ((n * limits.window + (MAX_CELLS + 2) * length d.claims) + d.taken)) (sym leaves)
        (let a = one_step in let t : length c.journal + (pieces_in c.chains + claims_by steps_of c.claims) ≤ MAX_STEPS_TO_CLAIM + ((length c.chains * limits.window + (MAX_CELLS + 2) * length c.claims) + c.taken) = h.journal in omega (arith, a, t, less, workers));
  }

module _ {H S P : Type 0} (m : Machine H S P) (limits : Limits) (c : Core H P) (whole : IsWhole m c) (bounded : IsBounded limits c) (h : IsBrief limits c) where
  set_workers : (w : ℕ) (o : Option Pending) → length (slice_set c.claims w o) ≡ length c.claims
  set_workers w o = length-set c.claims w o

  logs_with : (w : ℕ) (n : Pending) → length n.log ≤ MAX_CELLS → (v : ℕ) (p : Pending) → claim_of (slice_set c.claims w (Some n)) v ≡ Some p → length p.log ≤ MAX_CELLS
  logs_with w n l v p e = elim (claims_more c.claims w v n p e) [
    | inl r ↦ subst (λ (x : Pending). length x.log ≤ MAX_CELLS) r.1 l
    | inr r ↦ h.logs v p r.0
  ]

  logs_less : (w v : ℕ) (p : Pending) → claim_of (slice_set c.claims w None) v ≡ Some p → length p.log ≤ MAX_CELLS
  logs_less w v p e = h.logs v p (claims_less c.claims w v p e).0

  -- while leaves are claimed, all that stands and is claimed is within its room
  claim_brief : (w : ℕ) (n : Pending) → length c.journal < MAX_STEPS_TO_CLAIM → length n.log ≤ MAX_CELLS → IsBrief limits (booked (Claim w) (with_claim c w (Some n)))
  claim_brief w n l k = record {
    stretch = h.stretch;
    logs = logs_with w n k;
    journal = let a = length_push c.journal (Claim w) in let b = steps_short (slice_set c.claims w (Some n)) in let p = pieces_short c.chains limits.window bounded.short in omega (arith, a, b, p, l);
  }

  read_brief : (w : ℕ) (place : PlaceId) (v : ℕ) (p : Pending) → claim_of c.claims w ≡ Some p → find place.0 p.log ≡ None → length p.log < MAX_CELLS → IsBrief limits (booked (Read w place v) (with_claim c w (Some (record { leaf = p.leaf; log = noted place v p.log }))))
  read_brief w place v p e free l =
      let n : Pending = record { leaf = p.leaf; log = noted place v p.log } in
      let more : length n.log ≡ suc (length p.log) = noted_new (find place.0 p.log) (place, v) p.log free in
      let sum : claims_by steps_of (slice_set c.claims w (Some n)) + steps_of p ≡ claims_by steps_of c.claims + steps_of n = sum_other steps_of c.claims w p n e in
      brief_by limits c (with_claim c w (Some n)) (Read w place v) refl refl (set_workers w (Some n)) h h.stretch (logs_with w n (omega (arith, more, l)))
      (step_less (pieces_in c.chains) (claims_by steps_of (slice_set c.claims w (Some n))) (claims_by steps_of c.claims) (length p.log) (length n.log) c.taken sum more l)
    where
      step_less : (p a b k n t : ℕ) → a + (MAX_CELLS + 2 - k) ≡ b + (MAX_CELLS + 2 - n) → n ≡ suc k → k < MAX_CELLS → suc (p + a) + t ≤ (p + b) + t
      step_less p a b k n t s more l = omega (arith, s, more, l)

  gone_less : (a b k : ℕ) → a + (MAX_CELLS + 2 - k) ≡ b → k ≤ MAX_CELLS → a + 2 ≤ b
  gone_less a b k s l = omega (arith, s, l)

  briefs : (s : Step) → ReadFits c.claims s → Handles m limits c (λ s2 d. s2 ≡ s → IsBrief limits (booked s2 d))
  briefs s fits = record {
    claim = λ w j may free is. claim_brief w (record { leaf = j; log = [] }) may.steps (omega arith);
    read = λ w place v p e is. let f : ReadFits c.claims (Read w place v) = subst (λ (x : Step). ReadFits c.claims x) (sym is) fits in let g = f p e in read_brief w place v p e g.0 g.1;
    publish = λ w kind time p k x e made is.
        let sum : claims_by steps_of (slice_set c.claims w None) + steps_of p ≡ claims_by steps_of c.claims = sum_less steps_of c.claims w p e in
        let two = gone_less (claims_by steps_of (slice_set c.claims w None)) (claims_by steps_of c.claims) (length p.log) sum (h.logs w p e) in
        let a = pieces_set c.chains p.leaf (chain_of c.chains p.leaf ++ (slice_index c.counters p.leaf, x) ∷ []) (whole.claims w p e) in
        let q = length_push (chain_of c.chains p.leaf) (slice_index c.counters p.leaf, x) in
        brief_by limits c (pushed m c w p.leaf x) (Publish w kind time) refl (length-set c.chains p.leaf (chain_of c.chains p.leaf ++ (slice_index c.counters p.leaf, x) ∷ [])) (set_workers w None) h h.stretch (logs_less w) (omega (arith, two, a, q));
    late = λ w p e is.
        let sum : claims_by steps_of (slice_set c.claims w None) + steps_of p ≡ claims_by steps_of c.claims = sum_less steps_of c.claims w p e in
        let two = gone_less (claims_by steps_of (slice_set c.claims w None)) (claims_by steps_of c.claims) (length p.log) sum (h.logs w p e) in
        brief_by limits c (with_claim c w None) (Late w) refl refl (set_workers w None) h h.stretch (logs_less w) (omega (arith, two));
    cut = λ w j k l is. let t = cut_pieces c.chains j k l in
        brief_by limits c (cut_at m c j k) (Cut w j) refl (length-set c.chains j (take k (chain_of c.chains j))) refl h h.stretch h.logs (omega (arith, t));
    commit = λ w n l. after_map (Committed c n 0) (λ d. Commit w n ≡ s → IsBrief limits (booked (Commit w n) d)) (all_committed m limits n c)
        (λ d r is. let t = r.taken in let p = r.pieces in let k : claims_by steps_of d.claims ≡ claims_by steps_of c.claims = ap (claims_by steps_of) r.claims in
        brief_by limits c d (Commit w n) r.journal r.leaves (ap (λ (os : List (Option Pending)). length os) r.claims) h (within_stretch d n r)
        (λ v q e. h.logs v q (subst (λ (os : List (Option Pending)). claim_of os v ≡ Some q) r.claims e)) (omega (arith, p, k, t, l)))
        (commits_change m limits c n);
    redo = λ w j kind time g need is. let d : Core H P = redone m c j kind time (m.needed c.held j kind time) in
        let r : Redone c d = redo_changes m c j kind time (m.needed c.held j kind time) in
        let t = r.taken in let p = r.pieces in let room = g.room in let k : claims_by steps_of d.claims ≡ claims_by steps_of c.claims = ap (claims_by steps_of) r.claims in
        brief_by limits c d (Redo w) r.journal r.leaves (ap (λ (os : List (Option Pending)). length os) r.claims) h (omega (arith, t, room))
        (λ v q e. h.logs v q (subst (λ (os : List (Option Pending)). claim_of os v ≡ Some q) r.claims e)) (omega (arith, p, k, t));
  }
    where
      within_stretch : (d : Core H P) (n : ℕ) → Committed c n 0 d → d.taken ≤ MAX_STRETCH_PIECES
      within_stretch d n r = elim r.stretch [ inl l ↦ l | inr e ↦ let s = h.stretch in omega (arith, e, s) ]

pub steps_are_brief : {H S P : Type 0} (m : Machine H S P) → StepsAreBrief m
steps_are_brief m limits c s fits whole bounded h = after_booked (IsBrief limits) s (happens m limits s c)
    (after_map (λ d. s ≡ s → IsBrief limits (booked s d)) (λ d. IsBrief limits (booked s d)) (happens m limits s c) (λ d f. f refl)
    (handled m limits c (λ s2 d. s2 ≡ s → IsBrief limits (booked s2 d)) (briefs m limits c whole bounded h s fits) s))
