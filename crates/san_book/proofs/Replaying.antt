-- A journal that replays goes on replaying; and what an opened core comes to.
use Rattle.san_base.proofs.NumberTests.{some_same}
use Rattle.std.proofs.Common.{ℕ, zero, suc, ◌+◌, ◌*◌, ◌≤◌, ◌≡◌, ◌∙◌, ap, sym, refl, subst, List, [], ◌∷◌, ◌++◌, append_assoc, length, map, replicate, Option, Some, None, arith}
use Rattle.std.specs.Prelude.{slice_index}
use Rattle.std.proofs.Math.Nat.{mul_comm, mul-le-mul_left}
use Rattle.std.proofs.lemmas.List.{append-nil, length-map, length-replicate}
use Rattle.san_base.specs.declared.limits.Limits.{Limits}
use Rattle.san_base.specs.declared.limits.TheConstants.{MAX_CELLS, MAX_LEAVES, MAX_WINDOW}
use Rattle.san_book.specs.declared.limits.TheConstants.{MAX_STEPS_TO_CLAIM}
use Rattle.san_line.specs.Lines.{find}
use Rattle.san_line.specs.Ordered.{IsOrdered}
use Rattle.san_book.specs.Machines.{Machine}
use Rattle.san_book.specs.Lines.{Line, line_of}
use Rattle.san_book.specs.Chains.{Chain, Connects, chain_of, written}
use Rattle.san_book.specs.Cores.{Core, Pending, Step, bare_line, claim_of, opened}
use Rattle.san_book.specs.Steps.{then_by}
use Rattle.san_book.specs.Journals.{Replays, replayed, stepped}
use Rattle.san_book.specs.Whole.{IsChain, IsCommitted, IsLawfulMachine, HasValues, IsWhole}
use Rattle.san_book.specs.Bounds.{IsBounded, IsBrief, IsCounted, claims_by, pieces_in, steps_of}
use Rattle.san_book.specs.Laws.{After, EveryRun, IsCore, JournalGoesOn, JournalIsShort, OpensWhole, ReadsFit, RollbacksAreFew, RunsAreBrief}
use Rattle.san_book.proofs.Bounding.{steps_bound}
use Rattle.san_book.proofs.Briefness.{steps_are_brief}
use Rattle.san_book.proofs.Committing.{steps_commit}
use Rattle.san_book.proofs.Counting.{steps_are_booked, steps_count}
use Rattle.san_book.proofs.Keeping.{steps_keep}
use Rattle.san_book.proofs.Parts.{chain_none}
use Rattle.san_book.proofs.Walking.{read_after}
use Rattle.san_book.proofs.Sizes.{SameSizes, sizes_stay}

-- steps, and one more
pub one_step_more : {H S P : Type 0} (m : Machine H S P) (limits : Limits) (b c d : Core H P) (ss : List Step) (s : Step) → replayed m limits ss b ≡ Some c → stepped m limits s c ≡ Some d → replayed m limits (ss ++ s ∷ []) b ≡ Some d
one_step_more m limits b c d [] s e h = ap (λ o. then_by o (replayed m limits [])) (ap (λ o. then_by o (stepped m limits s)) e ∙ h)
one_step_more {H} {S} {P} m limits b c d (x ∷ ss) s e h = by_first (stepped m limits x b) (λ a k. one_step_more m limits a c d ss s k h) e
  where
    by_first : (o : Option (Core H P)) → ((a : Core H P) → replayed m limits ss a ≡ Some c → replayed m limits (ss ++ s ∷ []) a ≡ Some d) → then_by o (replayed m limits ss) ≡ Some c → then_by o (replayed m limits (ss ++ s ∷ [])) ≡ Some d
    by_first None f e = absurd (cc)
    by_first (Some a) f e = f a e

after_of : {X : Type 0} (Q : X → Type 0) (o : Option X) → ((x : X) → o ≡ Some x → Q x) → After Q o
after_of Q None f = tt
after_of Q (Some x) f = f x refl

pub journal_goes_on : {H S P : Type 0} (m : Machine H S P) → JournalGoesOn m
journal_goes_on {H} {S} {P} m limits workers start c s h = after_of (Replays m limits workers start) (stepped m limits s c) (λ d e.
    let j : d.journal ≡ c.journal ++ s ∷ [] = read_after (λ (d : Core H P). d.journal ≡ c.journal ++ s ∷ []) (stepped m limits s c) d (steps_are_booked m limits c s) e in
    ap (λ (ss : List Step). replayed m limits ss (opened m workers start)) j ∙ one_step_more m limits (opened m workers start) c d c.journal s h e)

-- an opened core
no_chains : {P : Type 0} (n j : ℕ) → chain_of {P = P} (replicate n []) j ≡ []
no_chains zero j = refl
no_chains (suc n) zero = refl
no_chains (suc n) (suc j) = no_chains n j

no_claims : (n w : ℕ) → claim_of (replicate n None) w ≡ None
no_claims zero w = refl
no_claims (suc n) zero = refl
no_claims (suc n) (suc w) = no_claims n w

no_pieces : (P : Type 0) (n : ℕ) → pieces_in {P = P} (replicate n []) ≡ 0
no_pieces P zero = refl
no_pieces P (suc n) = let r : pieces_in {P = P} (replicate n []) ≡ 0 = no_pieces P n in omega (arith, r)

none_claimed : (f : Pending → ℕ) (n : ℕ) → claims_by f (replicate n None) ≡ 0
none_claimed f zero = refl
none_claimed f (suc n) = let r : claims_by f (replicate n None) ≡ 0 = none_claimed f n in omega (arith, r)

line_at : (shared : List ℕ) (q : ℕ) → line_of (map bare_line shared) q ≡ bare_line (slice_index shared q)
line_at [] q = refl
line_at (v ∷ vs) zero = refl
line_at (v ∷ vs) (suc q) = line_at vs q

none_some : {X : Type 0} (x : X) → None ≡ Some x → ⊥
none_some x e = cc

module _ {H S P : Type 0} (m : Machine H S P) (limits : Limits) (workers : ℕ) (start : H) where
  abbrev first : Core H P
  first = opened m workers start

  chain_first : (j : ℕ) → chain_of first.chains j ≡ []
  chain_first j = no_chains (m.leaves start) j

  claim_first : (w : ℕ) (p : Pending) → claim_of first.claims w ≡ Some p → ⊥
  claim_first w p e = none_some p (sym (no_claims (suc workers) w) ∙ e)

  opened_whole : HasValues m start → IsWhole m first
  opened_whole h = record {
    width = h;
    lines = length-map (m.shared start) bare_line ∙ h;
    leaves = length-replicate (m.leaves start) [];
    counters = length-replicate (m.leaves start) 0 ∙ sym (length-replicate (m.leaves start) []);
    committed = λ q k. ap (λ (l : Line). l.committed) (line_at (m.shared start) q);
    exact = record {
      ordered = λ q. subst (λ (l : Line). IsOrdered l.versions) (sym (line_at (m.shared start) q)) tt;
      versions = λ q j pos k. ap (λ (l : Line). find j pos l.versions) (line_at (m.shared start) q) ∙ sym (ap (λ (c : Chain P). written m.reading j q pos c) (chain_first j));
    };
    chains = λ j. subst (λ (c : Chain P). IsChain m j (slice_index first.counters j) c) (sym (chain_first j)) (chain_none m j (slice_index first.counters j));
    connects = λ s j. subst (λ (c : Chain P). Connects m.reading (m.state start j) c) (sym (chain_first j)) tt;
    claims = λ w p e. absurd (claim_first w p e);
  }

  opened_bounded : IsBounded limits first
  opened_bounded = record {
    single = λ v w p r a b e. absurd (claim_first v p a);
    room = λ w p e. absurd (claim_first w p e);
    short = λ j. subst (λ (c : Chain P). length c ≤ limits.window) (sym (chain_first j)) (omega arith);
    rollbacks = let a : pieces_in first.chains ≡ 0 = no_pieces P (m.leaves start) in let b : claims_by (λ p. 1) first.claims ≡ 0 = none_claimed (λ p. 1) (suc workers) in omega (arith, a, b);
  }

  opened_counted : IsCounted first
  opened_counted = record {
    taken = refl;
    claims = let a : pieces_in first.chains ≡ 0 = no_pieces P (m.leaves start) in let b : claims_by (λ p. 1) first.claims ≡ 0 = none_claimed (λ p. 1) (suc workers) in omega (arith, a, b);
  }

  opened_brief : IsBrief limits first
  opened_brief = record {
    stretch = omega arith;
    logs = λ w p e. absurd (claim_first w p e);
    journal = let a : pieces_in first.chains ≡ 0 = no_pieces P (m.leaves start) in let b : claims_by steps_of first.claims ≡ 0 = none_claimed steps_of (suc workers) in omega (arith, a, b);
  }

  opened_core : HasValues m start → IsCore m limits workers start first
  opened_core h = record { chains = length-replicate (m.leaves start) []; claims = length-replicate (suc workers) None; whole = opened_whole h; committed = refl; bounded = opened_bounded; counted = opened_counted }

pub opens_well : {H S P : Type 0} (m : Machine H S P) → OpensWhole m
opens_well m limits workers start h = (opened_core m limits workers start h, opened_brief m limits workers start)

-- each step leads from one core to another
step_core : {H S P : Type 0} (m : Machine H S P) → IsLawfulMachine m → (limits : Limits) (workers : ℕ) (start : H) (c d : Core H P) (s : Step) → IsCore m limits workers start c → stepped m limits s c ≡ Some d → IsCore m limits workers start d
step_core {H} {S} {P} m law limits workers start c d s h e = let z : SameSizes c d = read_after (SameSizes c) (stepped m limits s c) d (sizes_stay m limits c s) e in record {
  chains = z.leaves ∙ h.chains;
  claims = z.workers ∙ h.claims;
  whole = read_after (IsWhole m) (stepped m limits s c) d (steps_keep m law limits c s h.whole) e;
  committed = read_after (IsCommitted m limits start) (stepped m limits s c) d (steps_commit m law limits start c s h.whole h.committed) e;
  bounded = read_after (IsBounded limits) (stepped m limits s c) d (steps_bound m limits c s h.whole h.bounded) e;
  counted = read_after IsCounted (stepped m limits s c) d (steps_count m limits c s h.whole h.counted) e;
}

run_from : {H S P : Type 0} (m : Machine H S P) → IsLawfulMachine m → (limits : Limits) (workers : ℕ) (start : H) (ss : List Step) (c d : Core H P) → IsCore m limits workers start c → replayed m limits ss c ≡ Some d → IsCore m limits workers start d × (d.journal ≡ c.journal ++ ss)
run_from {H} {S} {P} m law limits workers start [] c d h e = subst (λ (x : Core H P). IsCore m limits workers start x × (x.journal ≡ c.journal ++ [])) (some_same c d e) (h, sym (append-nil c.journal))
run_from {H} {S} {P} m law limits workers start (s ∷ ss) c d h e = by_first (stepped m limits s c) (λ b k. step_core m law limits workers start c b s h k)
    (λ b k. read_after (λ (b : Core H P). b.journal ≡ c.journal ++ s ∷ []) (stepped m limits s c) b (steps_are_booked m limits c s) k)
    (λ b k f. run_from m law limits workers start ss b d k f) e
  where
    by_first : (o : Option (Core H P)) → ((b : Core H P) → o ≡ Some b → IsCore m limits workers start b) → ((b : Core H P) → o ≡ Some b → b.journal ≡ c.journal ++ s ∷ []) →
        ((b : Core H P) → IsCore m limits workers start b → replayed m limits ss b ≡ Some d → IsCore m limits workers start d × (d.journal ≡ b.journal ++ ss)) →
        then_by o (replayed m limits ss) ≡ Some d → IsCore m limits workers start d × (d.journal ≡ c.journal ++ s ∷ ss)
    by_first None core books go e = absurd (none_some d e)
    by_first (Some b) core books go e = let r = go b (core b refl) e in (r.0, r.1 ∙ (ap (λ (xs : List Step). xs ++ ss) (books b refl) ∙ append_assoc c.journal (s ∷ []) ss))

pub every_run : {H S P : Type 0} (m : Machine H S P) → IsLawfulMachine m → EveryRun m
every_run m law limits workers start ss c h e = run_from m law limits workers start ss (opened m workers start) c (opened_core m limits workers start h) e

pub rollbacks_are_few : {H S P : Type 0} (m : Machine H S P) → IsLawfulMachine m → RollbacksAreFew m
rollbacks_are_few {H} {S} {P} m law limits workers start ss c h e =
    let r : IsCore m limits workers start c = (every_run m law limits workers start ss c h e).0 in
    let b : c.rollbacks + (pieces_in c.chains + claims_by (λ p. 1) c.claims) ≤ limits.rollbacks + (length c.chains * limits.window + length c.claims) = r.bounded.rollbacks in
    let p : length c.chains * limits.window ≡ m.leaves start * limits.window = ap (λ (n : ℕ). n * limits.window) r.chains in
    let w = r.claims in omega (arith, b, p, w)

-- brief cores
pub runs_are_brief : {H S P : Type 0} (m : Machine H S P) → IsLawfulMachine m → RunsAreBrief m
runs_are_brief {H} {S} {P} m law limits [] c d whole bounded brief fits e = subst (λ (x : Core H P). IsBrief limits x) (some_same c d e) brief
runs_are_brief {H} {S} {P} m law limits (s ∷ ss) c d whole bounded brief fits e = by_first (stepped m limits s c) fits.1
    (λ b k. read_after (IsWhole m) (stepped m limits s c) b (steps_keep m law limits c s whole) k)
    (λ b k. read_after (IsBounded limits) (stepped m limits s c) b (steps_bound m limits c s whole bounded) k)
    (λ b k. read_after (IsBrief limits) (stepped m limits s c) b (steps_are_brief m limits c s fits.0 whole bounded brief) k)
    (λ b w l k f g. runs_are_brief m law limits ss b d w l k f g) e
  where
    by_first : (o : Option (Core H P)) → After (ReadsFit m limits ss) o → ((b : Core H P) → o ≡ Some b → IsWhole m b) → ((b : Core H P) → o ≡ Some b → IsBounded limits b) → ((b : Core H P) → o ≡ Some b → IsBrief limits b) →
        ((b : Core H P) → IsWhole m b → IsBounded limits b → IsBrief limits b → ReadsFit m limits ss b → replayed m limits ss b ≡ Some d → IsBrief limits d) → then_by o (replayed m limits ss) ≡ Some d → IsBrief limits d
    by_first None f w l k go e = absurd (none_some d e)
    by_first (Some b) f w l k go e = go b (w b refl) (l b refl) (k b refl) f e

-- of a core of the greatest size
times : (a b x y : ℕ) → a ≤ x → b ≤ y → a * b ≤ x * y
times a b x y h k = let p : a * b ≤ a * y = mul-le-mul_left a k in let q : y * a ≤ y * x = mul-le-mul_left y h in let r : a * y ≡ y * a = mul_comm a y in let s : x * y ≡ y * x = mul_comm x y in omega (arith, p, q, r, s)

pub journal_is_short : {H S P : Type 0} (m : Machine H S P) → IsLawfulMachine m → JournalIsShort m
journal_is_short {H} {S} {P} m law limits workers start ss c few leaves window values fits e =
    let o : IsCore m limits workers start (opened m workers start) = opened_core m limits workers start values in
    let r : IsCore m limits workers start c = (every_run m law limits workers start ss c values e).0 in
    let h : IsBrief limits c = runs_are_brief m law limits ss (opened m workers start) c o.whole o.bounded (opened_brief m limits workers start) fits e in
    let t : length c.journal + (pieces_in c.chains + claims_by steps_of c.claims) ≤ MAX_STEPS_TO_CLAIM + ((length c.chains * limits.window + (MAX_CELLS + 2) * length c.claims) + c.taken) = h.journal in
    let s = h.stretch in let w = r.claims in
    let p : length c.chains * limits.window ≤ MAX_LEAVES * MAX_WINDOW = times (length c.chains) limits.window MAX_LEAVES MAX_WINDOW (subst (λ (n : ℕ). n ≤ MAX_LEAVES) (sym r.chains) leaves) window in
    omega (arith, t, s, p, w, few)
