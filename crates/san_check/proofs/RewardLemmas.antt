-- Without a fault an atomic's terms of all rewards are as they are accepted.
use Rattle.std.proofs.Common.{◌≡◌, ℕ, ◌+◌, ◌<◌, ◌≤◌, Bool, true, false, cond, nat_eq, nat_le, List, [], ◌∷◌, ◌++◌, length, map, All, refl, ap, subst, ◌∙◌, true≢false, arith}
use Rattle.std.proofs.lemmas.Bool.{eqb-true}
use Rattle.std.proofs.lemmas.List.Elements.{All-nil, All-append}
use Rattle.std.proofs.lemmas.List.Sums.{sum_by-cons}
use Rattle.std.proofs.lemmas.Slice.Eq.{bytes_eq-Decides}
use Rattle.std.specs.List.{count_by}
use Rattle.std.specs.Str.{bytes_eq}
use Rattle.san_text.specs.declared.syntax.RewardDecl.{RewardDecl}
use Rattle.san_text.specs.declared.syntax.TermDecl.{TermDecl}
use Rattle.san_text.specs.declared.syntax.TermDecl.TheVariants as term
use Rattle.san_net.specs.declared.atomic.RateTerm.{RateTerm}
use Rattle.san_net.specs.declared.atomic.ImpulseTerm.{ImpulseTerm}
use Rattle.san_check.specs.declared.known.Known.{Known}
use Rattle.san_check.specs.Tables.{is_known, declared}
use Rattle.san_check.specs.walk.Entries.{code}
use Rattle.san_check.specs.walk.Expression.{Places}
use Rattle.san_check.specs.walk.Activity.{ActNames}
use Rattle.san_check.specs.walk.Composition.{Models, known_as}
use Rattle.san_check.specs.walk.Reward.{reward_code, span_entries, is_at, terms_entries, reward_entries, rewards_entries}
use Rattle.san_check.specs.build.Cells.{CellTable}
use Rattle.san_check.specs.build.Composition.{capped, number}
use Rattle.san_check.specs.build.Expression.{expr_of}
use Rattle.san_check.specs.build.Term.{rate_in, impulse_in, rates_in, impulses_in, rates_on, impulses_on, all_rates, all_impulses}
use Rattle.san_check.proofs.FreeLemmas.{Free, free_left, free_right, else_second, room}
use Rattle.san_check.proofs.FitLemmas.{Placed}
use Rattle.san_check.proofs.TermLemmas.{GoodRate, GoodImpulse, terms_good}

abbrev one_if : Bool → ℕ
one_if b = cond b 1 0

abbrev rate_times : ℕ → List RateTerm → ℕ
rate_times r rates = count_by (nat_eq r) (map (λ t. t.reward) rates)

abbrev impulse_times : ℕ → List ImpulseTerm → ℕ
impulse_times r impulses = count_by (nat_eq r) (map (λ t. t.reward) impulses)

-- how many terms of a reward there are
abbrev pub times : ℕ → List RateTerm → List ImpulseTerm → ℕ
times r rates impulses = rate_times r rates + impulse_times r impulses

rate_step : (r : ℕ) (x : RateTerm) (xs : List RateTerm) → rate_times r (x ∷ xs) ≡ one_if (nat_eq r x.reward) + rate_times r xs
rate_step r x xs = sum_by-cons (λ (n : ℕ). one_if (nat_eq r n)) x.reward (map (λ (t : RateTerm). t.reward) xs)

impulse_step : (r : ℕ) (x : ImpulseTerm) (xs : List ImpulseTerm) → impulse_times r (x ∷ xs) ≡ one_if (nat_eq r x.reward) + impulse_times r xs
impulse_step r x xs = sum_by-cons (λ (n : ℕ). one_if (nat_eq r n)) x.reward (map (λ (t : ImpulseTerm). t.reward) xs)

rate_append : (r : ℕ) (xs ys : List RateTerm) → rate_times r (xs ++ ys) ≡ rate_times r xs + rate_times r ys
rate_append r [] ys = omega arith
rate_append r (x ∷ xs) ys =
    let a : rate_times r ((x ∷ xs) ++ ys) ≡ one_if (nat_eq r x.reward) + rate_times r (xs ++ ys) = rate_step r x (xs ++ ys) in
    let b : rate_times r (x ∷ xs) ≡ one_if (nat_eq r x.reward) + rate_times r xs = rate_step r x xs in
    let more = rate_append r xs ys in
    omega (arith, a, b, more)

impulse_append : (r : ℕ) (xs ys : List ImpulseTerm) → impulse_times r (xs ++ ys) ≡ impulse_times r xs + impulse_times r ys
impulse_append r [] ys = omega arith
impulse_append r (x ∷ xs) ys =
    let a : impulse_times r ((x ∷ xs) ++ ys) ≡ one_if (nat_eq r x.reward) + impulse_times r (xs ++ ys) = impulse_step r x (xs ++ ys) in
    let b : impulse_times r (x ∷ xs) ≡ one_if (nat_eq r x.reward) + impulse_times r xs = impulse_step r x xs in
    let more = impulse_append r xs ys in
    omega (arith, a, b, more)

one_at_most : (b : Bool) → one_if b ≤ 1
one_at_most true = omega arith
one_at_most false = omega arith

no_one : (b : Bool) → b ≡ false → one_if b ≡ 0
no_one true h = absurd (true≢false h)
no_one false h = refl

-- the terms of one reward are counted for it
few_times : (cells : CellTable) (acts : ActNames) (r n : ℕ) (ts : List TermDecl) → times r (rates_in cells n ts) (impulses_in cells acts n ts) ≤ length ts
unfolding rate_in impulse_in
few_times cells acts r n [] = omega arith
few_times cells acts r n (term.Rate e ∷ ts) =
    let step : rate_times r (rates_in cells n (term.Rate e ∷ ts)) ≡ one_if (nat_eq r n) + rate_times r (rates_in cells n ts) = rate_step r (record { reward = n; expr = expr_of cells e }) (rates_in cells n ts) in
    let same : impulse_times r (impulses_in cells acts n (term.Rate e ∷ ts)) ≡ impulse_times r (impulses_in cells acts n ts) = refl in
    let one = one_at_most (nat_eq r n) in
    let more = few_times cells acts r n ts in
    omega (arith, step, same, one, more)
few_times cells acts r n (term.Impulse act e ∷ ts) =
    let step : impulse_times r (impulses_in cells acts n (term.Impulse act e ∷ ts)) ≡ one_if (nat_eq r n) + impulse_times r (impulses_in cells acts n ts) = impulse_step r (record { reward = n; act = number acts act; expr = expr_of cells e }) (impulses_in cells acts n ts) in
    let same : rate_times r (rates_in cells n (term.Impulse act e ∷ ts)) ≡ rate_times r (rates_in cells n ts) = refl in
    let one = one_at_most (nat_eq r n) in
    let more = few_times cells acts r n ts in
    omega (arith, step, same, one, more)

-- and for no other
no_times : (cells : CellTable) (acts : ActNames) (r n : ℕ) (ts : List TermDecl) → nat_eq r n ≡ false → times r (rates_in cells n ts) (impulses_in cells acts n ts) ≡ 0
unfolding rate_in impulse_in
no_times cells acts r n [] h = omega arith
no_times cells acts r n (term.Rate e ∷ ts) h =
    let step : rate_times r (rates_in cells n (term.Rate e ∷ ts)) ≡ one_if (nat_eq r n) + rate_times r (rates_in cells n ts) = rate_step r (record { reward = n; expr = expr_of cells e }) (rates_in cells n ts) in
    let same : impulse_times r (impulses_in cells acts n (term.Rate e ∷ ts)) ≡ impulse_times r (impulses_in cells acts n ts) = refl in
    let one = no_one (nat_eq r n) h in
    let more = no_times cells acts r n ts h in
    omega (arith, step, same, one, more)
no_times cells acts r n (term.Impulse act e ∷ ts) h =
    let step : impulse_times r (impulses_in cells acts n (term.Impulse act e ∷ ts)) ≡ one_if (nat_eq r n) + impulse_times r (impulses_in cells acts n ts) = impulse_step r (record { reward = n; act = number acts act; expr = expr_of cells e }) (impulses_in cells acts n ts) in
    let same : rate_times r (rates_in cells n (term.Impulse act e ∷ ts)) ≡ rate_times r (rates_in cells n ts) = refl in
    let one = no_one (nat_eq r n) h in
    let more = no_times cells acts r n ts h in
    omega (arith, step, same, one, more)

record GoodHead (k acts n : ℕ) (us : List RateTerm) (vs : List ImpulseTerm) : Type 0 where
  pub rates : All (GoodRate k) us
  pub impulses : All (GoodImpulse k acts) vs
  pub few : (r : ℕ) → times r us vs ≤ 16
  pub other : (r : ℕ) → nat_eq r n ≡ false → times r us vs ≡ 0

head_good : (b : Bool) (models : Models) (name : List ℕ) (places : Places) (acts : ActNames) (cells : CellTable) (k n : ℕ) (d : RewardDecl) → bytes_eq d.atomic name ≡ b → Placed places cells k → known_as models name ≡ record { atomic = true; places = places; acts = acts }
    → Free (terms_entries (known_as models d.atomic).places (known_as models d.atomic).acts (is_at d.span) 0 d.terms) → GoodHead k (length acts) n (cond b (rates_in cells n d.terms) []) (cond b (impulses_in cells acts n d.terms) [])
head_good true models name places acts cells k n d is fit known f =
    let here : known_as models d.atomic ≡ record { atomic = true; places = places; acts = acts } = ap (known_as models) ((bytes_eq-Decides d.atomic name).0 is) ∙ known in
    let g = terms_good places cells acts k n 0 (is_at d.span) fit d.terms (omega arith) (subst (λ (q : Known). Free (terms_entries q.places q.acts (is_at d.span) 0 d.terms)) here f) in
    record { rates = g.rates; impulses = g.impulses; few = λ r. let most = few_times cells acts r n d.terms in omega (arith, most, g.few); other = λ r h. no_times cells acts r n d.terms h }
head_good false models name places acts cells k n d is fit known f = record { rates = All-nil (GoodRate k); impulses = All-nil (GoodImpulse k (length acts)); few = λ r. omega arith; other = λ r h. omega arith }

-- rewards behind n others
pub record GoodRewards (k acts n : ℕ) (us : List RateTerm) (vs : List ImpulseTerm) : Type 0 where
  pub rates : All (GoodRate k) us
  pub impulses : All (GoodImpulse k acts) vs
  pub few : (r : ℕ) → times r us vs ≤ 16
  pub later : (r : ℕ) → r < n → times r us vs ≡ 0

either : (b : Bool) (h t : ℕ) → h ≤ 16 → t ≤ 16 → (b ≡ true → t ≡ 0) → (b ≡ false → h ≡ 0) → h + t ≤ 16
either true h t a b c d = let zero = c refl in omega (arith, a, zero)
either false h t a b c d = let zero = d refl in omega (arith, b, zero)

below_differs : (b : Bool) (r n : ℕ) → nat_eq r n ≡ b → r < n → b ≡ false
below_differs true r n is lt = let same = eqb-true r n is in absurd (omega (arith, same, lt))
below_differs false r n is lt = refl

joined_times : (r : ℕ) (xs ys : List RateTerm) (us vs : List ImpulseTerm) → times r (xs ++ ys) (us ++ vs) ≡ times r xs us + times r ys vs
joined_times r xs ys us vs = let a = rate_append r xs ys in let b = impulse_append r us vs in omega (arith, a, b)

pub rewards_good : (models : Models) (name : List ℕ) (places : Places) (acts : ActNames) (cells : CellTable) (k : ℕ) → Placed places cells k → known_as models name ≡ record { atomic = true; places = places; acts = acts }
    → (rewards : ActNames) (n : ℕ) (rs : List RewardDecl) → n ≤ 64 → Free (rewards_entries models rewards n rs) → GoodRewards k (length acts) n (all_rates cells name n rs) (all_impulses cells acts name n rs)
unfolding reward_code reward_entries
rewards_good models name places acts cells k fit known rewards n [] lt f = record { rates = All-nil (GoodRate k); impulses = All-nil (GoodImpulse k (length acts)); few = λ r. omega arith; later = λ r h. omega arith }
rewards_good models name places acts cells k fit known rewards n (d ∷ ds) lt f =
    let fits = room 64 n 45 (else_second (code 20 (is_known rewards d.name)) (code 45 (nat_le 64 n)) f.0) in
    let next = declared rewards d.name tt in
    let up : n + 1 ≡ capped (n + 1) = omega (arith, fits) in
    let here = free_left (reward_entries models d) (rewards_entries models next (n + 1) ds) f.1 in
    let terms = free_right (span_entries d.span) (terms_entries (known_as models d.atomic).places (known_as models d.atomic).acts (is_at d.span) 0 d.terms) here.1 in
    let h = head_good (bytes_eq d.atomic name) models name places acts cells k n d refl fit known terms in
    let t = rewards_good models name places acts cells k fit known next (n + 1) ds (omega (arith, fits)) (free_right (reward_entries models d) (rewards_entries models next (n + 1) ds) f.1) in
    let us = rates_on cells name n d in
    let vs = impulses_on cells acts name n d in
    subst (λ (m : ℕ). GoodRewards k (length acts) n (us ++ all_rates cells name m ds) (vs ++ all_impulses cells acts name m ds)) up (record {
      rates = All-append (GoodRate k) us (all_rates cells name (n + 1) ds) h.rates t.rates;
      impulses = All-append (GoodImpulse k (length acts)) vs (all_impulses cells acts name (n + 1) ds) h.impulses t.impulses;
      few = λ r. let sum = joined_times r us (all_rates cells name (n + 1) ds) vs (all_impulses cells acts name (n + 1) ds) in
          let most = either (nat_eq r n) (times r us vs) (times r (all_rates cells name (n + 1) ds) (all_impulses cells acts name (n + 1) ds)) (h.few r) (t.few r) (λ same. t.later r (let is = eqb-true r n same in omega (arith, is))) (h.other r) in
          omega (arith, sum, most);
      later = λ r below. let sum = joined_times r us (all_rates cells name (n + 1) ds) vs (all_impulses cells acts name (n + 1) ds) in
          let a = h.other r (below_differs (nat_eq r n) r n refl below) in
          let b = t.later r (omega (arith, below)) in
          omega (arith, sum, a, b);
    })
