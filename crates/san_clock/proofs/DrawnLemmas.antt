-- Streams that are drawn from, one leaf and one activity more at a time.
use Rattle.std.proofs.Common.{ℕ, zero, suc, ◌≡◌, ◌∙◌, ◌+◌, ◌*◌, Bool, List, [], ◌∷◌, ◌++◌, length, map, take, Some, refl, ap, sym, arith, append_assoc, append-nil, length-append, nat_lt}
use Rattle.std.specs.Prelude.{slice_get, slice_index_or, ◌<◌}
use Rattle.san_base.proofs.NumberTests.{some_same}
use Rattle.std.proofs.lemmas.Option.{slice_get-get_or}
use Rattle.std.proofs.lemmas.List.Sums.{sum_by-cons}
use Rattle.san_clock.specs.Drawn.{all_drawn, drawn_in, is_drawn}
use Rattle.san_net.specs.Instants.{Named}
use Rattle.san_net.specs.Laid.{acts_of}
use Rattle.san_net.specs.Numbering.{all_of}
use Rattle.san_net.specs.declared.part.Part.{Part}

-- the rows of one more
pub rows_more : {X Y : Type 0} (f : X → List Y) (xs : List X) (k : ℕ) (x : X) → slice_get xs k ≡ Some x → all_of (map f (take (suc k) xs)) ≡ all_of (map f (take k xs)) ++ f x
rows_more f [] k x is = absurd cc
rows_more f (y ∷ ys) zero x is = append-nil (f y) ∙ ap f (some_same y x is)
rows_more f (y ∷ ys) (suc k) x is = ap (λ r. f y ++ r) (rows_more f ys k x is) ∙ sym (append_assoc (f y) (all_of (map f (take k ys))) (f x))

-- two streams for each activity
pub two_each : (acts : List Named) → length (drawn_in acts) ≡ 2 * length acts
two_each [] = refl
two_each (a ∷ acts) =
    let rest = two_each acts in
    omega (arith, rest)

pub two_of_all : (parts : List Part) → length (all_drawn parts) ≡ 2 * acts_of parts
two_of_all [] = refl
two_of_all (p ∷ parts) =
    length-append (drawn_in p.atomic.acts) (all_drawn parts)
    ∙ (let own = two_each p.atomic.acts in
    let rest = two_of_all parts in
    let more = sum_by-cons (λ (q : Part). length q.atomic.acts) p parts in
    omega (arith, own, rest, more))

-- one activity more
pub drawn_more : (acts : List Named) (k : ℕ) (a : Named) (before first all : List Bool) → k < length acts → a ≡ slice_index_or acts k a → before ≡ first ++ drawn_in (take k acts)
    → all ≡ (before ++ is_drawn a.1.kind ∷ []) ++ nat_lt 1 (length a.1.cases) ∷ [] → all ≡ first ++ drawn_in (take (k + 1) acts)
drawn_more acts k a before first all within is was now =
    let pair = is_drawn a.1.kind ∷ nat_lt 1 (length a.1.cases) ∷ [] in
    let next : suc k ≡ k + 1 = omega arith in
    now
    ∙ append_assoc before (is_drawn a.1.kind ∷ []) (nat_lt 1 (length a.1.cases) ∷ [])
    ∙ ap (λ bs. bs ++ pair) was
    ∙ append_assoc first (drawn_in (take k acts)) pair
    ∙ ap (λ bs. first ++ bs) (sym (rows_more (λ (b : Named). is_drawn b.1.kind ∷ nat_lt 1 (length b.1.cases) ∷ []) acts k a (slice_get-get_or acts k a within ∙ ap (λ (b : Named). Some b) (sym is))))
    ∙ ap (λ n. first ++ drawn_in (take n acts)) next

-- one leaf more
pub leaf_more : (parts : List Part) (k : ℕ) (p : Part) (before all : List Bool) → slice_get parts k ≡ Some p → before ≡ all_drawn (take k parts)
    → all ≡ before ++ drawn_in p.atomic.acts → all ≡ all_drawn (take (k + 1) parts)
leaf_more parts k p before all is was now =
    let next : suc k ≡ k + 1 = omega arith in
    now ∙ ap (λ bs. bs ++ drawn_in p.atomic.acts) was ∙ sym (rows_more (λ (q : Part). drawn_in q.atomic.acts) parts k p is) ∙ ap (λ n. all_drawn (take n parts)) next
