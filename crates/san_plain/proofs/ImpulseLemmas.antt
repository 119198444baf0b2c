-- Impulses counted term by term.
use Rattle.std.proofs.Common.{ℕ, ◌<◌, ◌≡◌, ◌∙◌, ap, sym, refl, arith, List, [], ◌∷◌, ◌++◌, length, map, Some, Result}
use Rattle.std.specs.Prelude.{ℤ, All, slice_get}
use Rattle.std.proofs.lemmas.List.{get_or-map, length-map}
use Rattle.std.proofs.lemmas.List.Elements.{All-tail}
use Rattle.san_base.specs.declared.ending.Trap.{Trap}
use Rattle.san_base.specs.Rated.{rated_by}
use Rattle.san_expr.specs.Meets.{Evaluates}
use Rattle.san_expr.specs.Value.{value_of}
use Rattle.san_expr.specs.View.{plain}
use Rattle.san_expr.proofs.WholeLemmas.{plain_evaluates}
use Rattle.san_law.specs.Net.{Impulse, Rated, Span}
use Rattle.san_net.specs.Laid.{IsNetwork}
use Rattle.san_net.specs.Leaf.{impulse_in}
use Rattle.san_net.specs.Network.{Network, span_in}
use Rattle.san_net.specs.declared.atomic.ImpulseTerm.{ImpulseTerm}
use Rattle.san_net.specs.declared.part.Part.{Part}
use Rattle.san_reward.specs.Running.{Running, with_impulse, with_impulses}

-- a term's value over all of a leaf's cells
pub value_there : (t : ImpulseTerm) (values left : List ℕ) (r : Result ℤ Trap) (w : Rated) → Evaluates (plain values) (plain left) (value_of t.expr) r → w ≡ rated_by r → w ≡ (impulse_in values t).rated
value_there t values left r w e is = is ∙ ap rated_by (sym (plain_evaluates values left t.expr r e).0)

-- what impulses leave
pub spans_stay : (t : Running) (xs : List Impulse) → (with_impulses t xs).spans ≡ t.spans
spans_stay t [] = refl
spans_stay t (x ∷ xs) = spans_stay (with_impulse t x.reward x.rated) xs

pub terms_stay : (t : Running) (xs : List Impulse) → (with_impulses t xs).terms ≡ t.terms
terms_stay t [] = refl
terms_stay t (x ∷ xs) = terms_stay (with_impulse t x.reward x.rated) xs

pub rates_stay : (t : Running) (xs : List Impulse) → (with_impulses t xs).tally.rates ≡ t.tally.rates
rates_stay t [] = refl
rates_stay t (x ∷ xs) = rates_stay (with_impulse t x.reward x.rated) xs

-- a network's terms are of its rewards
all_behind : {X : Type 0} (P : X → Type 0) (xs ys : List X) → All P (xs ++ ys) → All P ys
all_behind P [] ys h = h
all_behind P (x ∷ xs) ys h = all_behind P xs ys (All-tail P x (xs ++ ys) h)

pub known_rewards : (n : Network) → IsNetwork n → (j : ℕ) (p : Part) → slice_get n.parts j ≡ Some p → (spans : List Span) → spans ≡ map (λ r. span_in r.span) n.rewards → All (λ (t : ImpulseTerm). t.reward < length spans) p.atomic.impulses
known_rewards n net j p is spans are = λ k d l.
    let known = all_behind (λ (r : ℕ). r < length n.rewards) (map (λ t. t.reward) p.atomic.rates) (map (λ (t : ImpulseTerm). t.reward) p.atomic.impulses) (net.rewarded.known j p is) in
    let many = length-map p.atomic.impulses (λ (t : ImpulseTerm). t.reward) in
    let below = known k 0 (omega (arith, l, many)) in
    let at = get_or-map (λ (t : ImpulseTerm). t.reward) p.atomic.impulses k d 0 l in
    let long = ap length are ∙ length-map n.rewards (λ r. span_in r.span) in
    omega (arith, below, at, long)
