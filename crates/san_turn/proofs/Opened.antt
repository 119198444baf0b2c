-- All leaves are unsettled and stale, and none has a timer.
use Rattle.std.proofs.Common.{ℕ, ◌≡◌, ◌∙◌, ap, refl, sym, List, [], ◌∷◌, length, map, replicate, Option, None, Bool, true}
use Rattle.std.proofs.lemmas.List.{length-map}
use Rattle.san_law.specs.Activity as leaf
use Rattle.san_law.specs.Network as law
use Rattle.san_net.specs.Leaf.{leaf_of}
use Rattle.san_net.specs.Network.{Network, net_of}
use Rattle.san_net.specs.declared.part.Part.{Part}
use Rattle.san_turn.specs.Changes.{OrderValue, opened}

all_same : {X : Type 0} {Y : Type 0} (y : Y) (xs : List X) → map (λ x. y) xs ≡ replicate (length xs) y
all_same y [] = refl
all_same y (x ∷ xs) = ap (λ ys. y ∷ ys) (all_same y xs)

long : (n : Network) (draw : ℕ → ℕ → ℕ) (limits : law.Limits) → length (net_of n draw limits).parts ≡ length n.parts
long n draw limits = length-map (map leaf_of n.parts) (λ (p : leaf.Part). p.slots) ∙ length-map n.parts leaf_of

-- flags and timers, and what else an order has at first
abbrev pub order_from : List Bool → List (Option (ℕ × ℕ)) → List ℕ → ℕ → OrderValue
order_from flags dues firsts horizon = record { order = record { going = None; unsettled = flags; stale = flags; dues = dues; time = 0 }; firsts = firsts; horizon = horizon }

pub opened_is : (n : Network) (draw : ℕ → ℕ → ℕ) (limits : law.Limits) (horizon : ℕ)
    → order_from (replicate (length n.parts) true) (replicate (length n.parts) None) (map (λ (p : Part). p.first.0) n.parts) horizon ≡ opened (net_of n draw limits) n.parts horizon
opened_is n draw limits horizon =
    let firsts = map (λ (p : Part). p.first.0) n.parts in
    let flags : replicate (length n.parts) true ≡ map (λ p. true) (net_of n draw limits).parts =
    ap (λ (k : ℕ). replicate k true) (sym (long n draw limits)) ∙ sym (all_same true (net_of n draw limits).parts) in
    let dues : replicate (length n.parts) (let none : Option (ℕ × ℕ) = None in none) ≡ map (λ p. None) (net_of n draw limits).parts =
    ap (λ (k : ℕ). replicate k (let none : Option (ℕ × ℕ) = None in none)) (sym (long n draw limits)) ∙ sym (all_same None (net_of n draw limits).parts) in
    ap (λ (fs : List Bool). order_from fs (replicate (length n.parts) None) firsts horizon) flags
    ∙ ap (λ (ds : List (Option (ℕ × ℕ))). order_from (map (λ p. true) (net_of n draw limits).parts) ds firsts horizon) dues
