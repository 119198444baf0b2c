-- Without a fault the rewards are few and each over a span, and each term's reward is one of them.
use Rattle.san_base.proofs.Bools.{not_false}
use Rattle.std.proofs.Common.{◌≡◌, ℕ, suc, ◌+◌, ◌<◌, ◌≤◌, Bool, true, false, cond, not, ◌||◌, nat_le, nat_lt, List, [], ◌∷◌, ◌++◌, length, map, Option, Some, None, All, get_or, refl, sym, ap, subst, ◌∙◌, true≢false, arith}
use Rattle.std.proofs.lemmas.Bool.{ltb-true, ltb-false}
use Rattle.std.proofs.lemmas.List.Elements.{All-nil, All-cons, All-append, All-map}
use Rattle.std.proofs.lemmas.Option.{slice_get_within}
use Rattle.std.specs.Prelude.{slice_get}
use Rattle.std.specs.Str.{bytes_eq}
use Rattle.san_text.specs.declared.syntax.ModelDecl.{ModelDecl}
use Rattle.san_text.specs.declared.syntax.ModelDecl.TheVariants as model
use Rattle.san_text.specs.declared.syntax.RewardDecl.{RewardDecl}
use Rattle.san_text.specs.declared.syntax.SpanDecl.{SpanDecl}
use Rattle.san_text.specs.declared.syntax.SpanDecl.TheVariants as decl
use Rattle.san_text.specs.declared.syntax.TermDecl.{TermDecl}
use Rattle.san_text.specs.declared.syntax.TermDecl.TheVariants as term
use Rattle.san_net.specs.Accepted as net
use Rattle.san_net.specs.Laid.{IsSpan, IsInterval, TakesImpulses}
use Rattle.san_net.specs.declared.atomic.Atomic.{Atomic}
use Rattle.san_net.specs.declared.atomic.RateTerm.{RateTerm}
use Rattle.san_net.specs.declared.atomic.ImpulseTerm.{ImpulseTerm}
use Rattle.san_net.specs.declared.part.Reward.{Reward}
use Rattle.san_check.specs.Tables.{is_known, declared}
use Rattle.san_check.specs.walk.Entries.{code, ◌else◌}
use Rattle.san_check.specs.walk.Expression.{Places, first_entries, expr_entries}
use Rattle.san_check.specs.walk.Activity.{ActNames}
use Rattle.san_check.specs.walk.Atomic.{all_acts}
use Rattle.san_check.specs.walk.Composition.{Models, known_as}
use Rattle.san_check.specs.walk.Reward.{reward_code, end_code, span_entries, is_at, impulse_code, term_entries, terms_entries, reward_entries, rewards_entries}
use Rattle.san_check.specs.build.Reward.{span_of, reward_of}
use Rattle.san_check.specs.build.Cells.{CellTable, all_cells}
use Rattle.san_check.specs.build.Composition.{capped, number}
use Rattle.san_check.specs.build.Expression.{expr_of}
use Rattle.san_check.specs.build.Term.{rate_in, impulse_in, rates_in, impulses_in, rates_on, impulses_on, all_rates, all_impulses}
use Rattle.san_check.specs.build.Atomic.{atomic_of, atomic_in, atomics_from}
use Rattle.san_check.proofs.FreeLemmas.{Free, free_left, free_right, code_free, else_first, else_second, room}
use Rattle.san_check.proofs.ListedLemmas.{or_left, or_right}

pub rewards_few : (models : Models) (rewards : ActNames) (n : ℕ) (rs : List RewardDecl) → n ≤ 64 → Free (rewards_entries models rewards n rs) → n + length rs ≤ 64
unfolding reward_code
rewards_few models rewards n [] lt f = omega (arith, lt)
rewards_few models rewards n (r ∷ rs) lt f =
    let fits = room 64 n 45 (else_second (code 20 (is_known rewards r.name)) (code 45 (nat_le 64 n)) f.0) in
    let more = rewards_few models (declared rewards r.name tt) (n + 1) rs (omega (arith, fits)) (free_right (reward_entries models r) (rewards_entries models (declared rewards r.name tt) (n + 1) rs) f.1) in
    omega (arith, more)

end_good : (from to : ℕ) → end_code from to ≡ None → (from < to) × (to ≤ 1000000000001)
unfolding end_code
end_good from to h =
    let both = code_free 38 (not (nat_lt from to) || nat_lt 1000000000001 to) h in (
      ltb-true from to (not_false (nat_lt from to) (or_left (not (nat_lt from to)) (nat_lt 1000000000001 to) both)),
      ltb-false 1000000000001 to (or_right (not (nat_lt from to)) (nat_lt 1000000000001 to) both),
    )

span_good : (d : SpanDecl) → Free (span_entries d) → IsSpan (span_of d)
unfolding span_entries span_of
span_good (decl.Over from to) f = end_good from to f.1.0
span_good (decl.Mean from to) f = end_good from to f.1.0
span_good (decl.At tick) f = ltb-false 1000000000000 tick (code_free 38 (nat_lt 1000000000000 tick) f.0)

abbrev HasSpan : Reward → Type 0
HasSpan r = IsSpan r.span

pub spans_good : (models : Models) (rewards atomics : ActNames) (n : ℕ) (rs : List RewardDecl) → Free (rewards_entries models rewards n rs) → All HasSpan (map (reward_of atomics) rs)
unfolding reward_entries
spans_good models rewards atomics n [] f = All-nil HasSpan
spans_good models rewards atomics n (r ∷ rs) f =
    let next = declared rewards r.name tt in
    let here = free_left (reward_entries models r) (rewards_entries models next (n + 1) rs) f.1 in
    let span = free_left (span_entries r.span) (terms_entries (known_as models r.atomic).places (known_as models r.atomic).acts (is_at r.span) 0 r.terms) here.1 in
    All-cons HasSpan (reward_of atomics r) (map (reward_of atomics) rs) (span_good r.span span) (spans_good models next atomics (n + 1) rs (free_right (reward_entries models r) (rewards_entries models next (n + 1) rs) f.1))

interval : (d : SpanDecl) → is_at d ≡ false → IsInterval (span_of d)
unfolding span_of
interval (decl.Over from to) h = tt
interval (decl.Mean from to) h = tt
interval (decl.At tick) h = absurd (true≢false h)

-- an impulse of a reward over an interval
abbrev IsOf : Bool → ℕ → ImpulseTerm → Type 0
IsOf at reward t = (t.reward ≡ reward) × (at ≡ false)

abbrev IsRateOf : ℕ → RateTerm → Type 0
IsRateOf reward t = t.reward ≡ reward

not_at : (known : ActNames) (at : Bool) (n : ℕ) (name : List ℕ) → impulse_code known at n name ≡ None → at ≡ false
unfolding impulse_code
not_at known at n name h =
    code_free 39 at (else_first (code 39 at) (code 47 (nat_le 16 n)) (else_second (code 24 (not (is_known known name))) (code 39 at else code 47 (nat_le 16 n)) h))

impulses_of_one : (places : Places) (known acts : ActNames) (cells : CellTable) (at : Bool) (reward n : ℕ) (ts : List TermDecl) → Free (terms_entries places known at n ts) → All (IsOf at reward) (impulses_in cells acts reward ts)
unfolding term_entries impulse_in
impulses_of_one places known acts cells at reward n [] f = All-nil (IsOf at reward)
impulses_of_one places known acts cells at reward n (term.Rate e ∷ ts) f = impulses_of_one places known acts cells at reward (n + 1) ts (free_right (first_entries places e (nat_le 16 n)) (terms_entries places known at (n + 1) ts) f)
impulses_of_one places known acts cells at reward n (term.Impulse act e ∷ ts) f =
    All-cons (IsOf at reward) (record { reward = reward; act = number acts act; expr = expr_of cells e }) (impulses_in cells acts reward ts) (refl, not_at known at n act f.0)
    (impulses_of_one places known acts cells at reward (n + 1) ts (free_right (expr_entries places e) (terms_entries places known at (n + 1) ts) f.1))

rates_of_one : (cells : CellTable) (reward : ℕ) (ts : List TermDecl) → All (IsRateOf reward) (rates_in cells reward ts)
unfolding rate_in
rates_of_one cells reward [] = All-nil (IsRateOf reward)
rates_of_one cells reward (term.Rate e ∷ ts) = All-cons (IsRateOf reward) (record { reward = reward; expr = expr_of cells e }) (rates_in cells reward ts) refl (rates_of_one cells reward ts)
rates_of_one cells reward (term.Impulse act e ∷ ts) = rates_of_one cells reward ts

-- what each is, each of those that are taken is
taken : {A : Type 0} (P Q : A → Type 0) (b : Bool) (xs : List A) → ((x : A) → P x → Q x) → All P xs → All Q (cond b xs [])
taken P Q true xs f h = λ k d lt. f (get_or xs k d) (h k d lt)
taken P Q false xs f h = All-nil Q

abbrev IsBelow : List Reward → ℕ → Type 0
IsBelow whole r = r < length whole

abbrev IsRateBelow : List Reward → RateTerm → Type 0
IsRateBelow whole t = t.reward < length whole

abbrev IsImpulseBelow : List Reward → ImpulseTerm → Type 0
IsImpulseBelow whole t = t.reward < length whole

abbrev TakesTerm : List Reward → ImpulseTerm → Type 0
TakesTerm whole t = TakesImpulses (slice_get whole t.reward)

-- the terms of an atomic are of these rewards
pub record TermsFit (whole : List Reward) (us : List RateTerm) (vs : List ImpulseTerm) : Type 0 where
  pub rates : All (λ t. t.reward < length whole) us
  pub impulses : All (λ t. t.reward < length whole) vs
  pub intervals : All (λ t. TakesImpulses (slice_get whole t.reward)) vs

both_fit : (whole : List Reward) (us us' : List RateTerm) (vs vs' : List ImpulseTerm) → TermsFit whole us vs → TermsFit whole us' vs' → TermsFit whole (us ++ us') (vs ++ vs')
both_fit whole us us' vs vs' h t = record {
  rates = All-append (IsRateBelow whole) us us' h.rates t.rates;
  impulses = All-append (IsImpulseBelow whole) vs vs' h.impulses t.impulses;
  intervals = All-append (TakesTerm whole) vs vs' h.intervals t.intervals;
}

one_fits : (models : Models) (atomics acts : ActNames) (cells : CellTable) (name : List ℕ) (whole : List Reward) (n : ℕ) (d : RewardDecl) → slice_get whole n ≡ Some (reward_of atomics d) → Free (reward_entries models d) → TermsFit whole (rates_on cells name n d) (impulses_on cells acts name n d)
unfolding reward_entries
one_fits models atomics acts cells name whole n d at f =
    let places = (known_as models d.atomic).places in
    let known = (known_as models d.atomic).acts in
    let below = slice_get_within whole n (reward_of atomics d) at in
    let own = bytes_eq d.atomic name in
    let impulses = impulses_of_one places known acts cells (is_at d.span) n 0 d.terms (free_right (span_entries d.span) (terms_entries places known (is_at d.span) 0 d.terms) f.1) in
    record {
      rates = taken (IsRateOf n) (IsRateBelow whole) own (rates_in cells n d.terms) (λ t is. subst (λ (m : ℕ). m < length whole) (sym is) below) (rates_of_one cells n d.terms);
      impulses = taken (IsOf (is_at d.span) n) (IsImpulseBelow whole) own (impulses_in cells acts n d.terms) (λ t is. subst (λ (m : ℕ). m < length whole) (sym is.0) below) impulses;
      intervals = taken (IsOf (is_at d.span) n) (TakesTerm whole) own (impulses_in cells acts n d.terms) (λ t is. subst (λ (o : Option Reward). TakesImpulses o) (sym (ap (slice_get whole) is.0 ∙ at)) (interval d.span is.1)) impulses;
    }

-- rewards behind n others, which stand there in the whole
rewards_fit : (models : Models) (atomics acts : ActNames) (cells : CellTable) (name : List ℕ) (whole : List Reward) (known : ActNames) (n : ℕ) (rs : List RewardDecl) → n ≤ 64 → ((i : ℕ) → slice_get whole (n + i) ≡ slice_get (map (reward_of atomics) rs) i)
    → Free (rewards_entries models known n rs) → TermsFit whole (all_rates cells name n rs) (all_impulses cells acts name n rs)
unfolding reward_code
rewards_fit models atomics acts cells name whole known n [] lt at f = record { rates = All-nil (IsRateBelow whole); impulses = All-nil (IsImpulseBelow whole); intervals = All-nil (TakesTerm whole) }
rewards_fit models atomics acts cells name whole known n (d ∷ ds) lt at f =
    let fits = room 64 n 45 (else_second (code 20 (is_known known d.name)) (code 45 (nat_le 64 n)) f.0) in
    let next = declared known d.name tt in
    let up : n + 1 ≡ capped (n + 1) = omega (arith, fits) in
    let here : n ≡ n + 0 = omega arith in
    let us = rates_on cells name n d in
    let vs = impulses_on cells acts name n d in
    let h = one_fits models atomics acts cells name whole n d (ap (slice_get whole) here ∙ at 0) (free_left (reward_entries models d) (rewards_entries models next (n + 1) ds) f.1) in
    let t = rewards_fit models atomics acts cells name whole next (n + 1) ds (omega (arith, fits)) (λ i. let on : (n + 1) + i ≡ n + suc i = omega arith in ap (slice_get whole) on ∙ at (suc i)) (free_right (reward_entries models d) (rewards_entries models next (n + 1) ds) f.1) in
    subst (λ (m : ℕ). TermsFit whole (us ++ all_rates cells name m ds) (vs ++ all_impulses cells acts name m ds)) up (both_fit whole us (all_rates cells name (n + 1) ds) vs (all_impulses cells acts name (n + 1) ds) h t)

abbrev pub AllFit : List Reward → Atomic → Type 0
AllFit whole x = TermsFit whole x.rates x.impulses

pub atomics_fit : (models : Models) (atomics : ActNames) (rewards : List RewardDecl) (ms : List ModelDecl) → Free (rewards_entries models [] 0 rewards) → All (AllFit (map (reward_of atomics) rewards)) (atomics_from rewards ms)
unfolding atomic_in
atomics_fit models atomics rewards [] f = All-nil (AllFit (map (reward_of atomics) rewards))
atomics_fit models atomics rewards (model.Atomic name places acts ∷ ms) f =
    let whole = map (reward_of atomics) rewards in
    All-cons (AllFit whole) (atomic_of name places acts rewards) (atomics_from rewards ms)
    (rewards_fit models atomics (all_acts [] acts) (all_cells [] 0 places) name whole [] 0 rewards (omega arith) (λ i. let from : 0 + i ≡ i = omega arith in ap (slice_get whole) from) f)
    (atomics_fit models atomics rewards ms f)
atomics_fit models atomics rewards (model.Join name children shares ∷ ms) f = atomics_fit models atomics rewards ms f
atomics_fit models atomics rewards (model.Rep name of times shares ∷ ms) f = atomics_fit models atomics rewards ms f

-- the rewards of an atomic's terms
pub fit_known : (whole : List Reward) (x : Atomic) → AllFit whole x → All (λ r. r < length whole) (net.rewards_of x)
fit_known whole x h =
    All-append (IsBelow whole) (map (λ (t : RateTerm). t.reward) x.rates) (map (λ (t : ImpulseTerm). t.reward) x.impulses)
    (All-map (IsBelow whole) (λ (t : RateTerm). t.reward) x.rates h.rates)
    (All-map (IsBelow whole) (λ (t : ImpulseTerm). t.reward) x.impulses h.impulses)
