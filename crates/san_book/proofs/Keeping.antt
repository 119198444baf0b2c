-- Each step keeps a core whole.
use Rattle.std.proofs.Common.{ℕ, ◌<◌, inl, inr, subst, [], length, Some, None}
use Rattle.san_base.specs.declared.limits.Limits.{Limits}
use Rattle.san_log.specs.Logs.{noted}
use Rattle.san_book.specs.Machines.{Machine}
use Rattle.san_book.specs.Cores.{Commit, Core, Pending, Step}
use Rattle.san_book.specs.Steps.{all_committed, chain_end, happens, with_claim}
use Rattle.san_book.specs.Journals.{booked}
use Rattle.san_book.specs.Whole.{IsLawfulMachine, IsWhole}
use Rattle.san_book.specs.Laws.{StepsKeep}
use Rattle.san_book.proofs.Afters.{after_booked, after_map}
use Rattle.san_book.proofs.Claims.{claims_less, claims_more}
use Rattle.san_book.proofs.Cutting.{cut_whole}
use Rattle.san_book.proofs.Parts.{within}
use Rattle.san_book.proofs.Pushing.{pushed_whole, remade, with_claim_whole}
use Rattle.san_book.proofs.Taking.{redone_whole, taken_whole}
use Rattle.san_book.proofs.Walking.{Handles, after_commits, handled}

pub whole_booked : {H S P : Type 0} (m : Machine H S P) (s : Step) (d : Core H P) → IsWhole m d → IsWhole m (booked s d)
whole_booked m s d h = record { width = h.width; lines = h.lines; leaves = h.leaves; counters = h.counters; committed = h.committed; exact = h.exact; chains = h.chains; connects = h.connects; claims = h.claims }

module _ {H S P : Type 0} (m : Machine H S P) (law : IsLawfulMachine m) (limits : Limits) (c : Core H P) (h : IsWhole m c) where
  one_claimed : (w : ℕ) (n : Pending) → n.leaf < length c.chains → IsWhole m (with_claim c w (Some n))
  one_claimed w n l = with_claim_whole m c w (Some n) h (λ v p e. elim (claims_more c.claims w v n p e) [
    | inl r ↦ subst (λ (x : Pending). x.leaf < length c.chains) r.1 l
    | inr r ↦ h.claims v p r.0
  ])

  wholes : Handles m limits c (λ s d. IsWhole m (booked s d))
  wholes = record {
    claim = λ w j may free. whole_booked m _ _ (one_claimed w (record { leaf = j; log = [] }) free.there);
    read = λ w place v p e. whole_booked m _ _ (one_claimed w (record { leaf = p.leaf; log = noted place v p.log }) (h.claims w p e));
    publish = λ w kind time p k x e made. let i = law.made p.leaf (chain_end m c p.leaf) k time p.log x made in
        whole_booked m _ _ (pushed_whole m c w p.leaf x h (h.claims w p e) (remade m p.leaf (chain_end m c p.leaf) k time p.log x i made) i.fits i.based);
    late = λ w p e. whole_booked m _ _ (with_claim_whole m c w None h (λ v r k. h.claims v r (claims_less c.claims w v r k).0));
    cut = λ w j k l. whole_booked m _ _ (cut_whole m c j k h (within c.chains j k l));
    commit = λ w n l. after_map (λ (d : Core H P). IsWhole m d) (λ d. IsWhole m (booked (Commit w n) d)) (all_committed m limits n c) (λ d. whole_booked m (Commit w n) d)
        (after_commits m limits (λ n d. IsWhole m d) (λ n d j kind time x rest whole i. taken_whole m law d j x rest whole i.goes.open_end i.chain) n c h);
    redo = λ w j kind time g need. whole_booked m _ _ (redone_whole m law c j kind time h g.open_end);
  }

pub steps_keep : {H S P : Type 0} (m : Machine H S P) → IsLawfulMachine m → StepsKeep m
steps_keep m law limits c s h = after_booked (IsWhole m) s (happens m limits s c) (handled m limits c (λ s d. IsWhole m (booked s d)) (wholes m law limits c h) s)
