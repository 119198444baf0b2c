-- What a piece leaves in the place of what was there.
use Rattle.std.proofs.Common.{ℕ, suc, ◌+◌, ◌<◌, ◌≡◌, ◌∙◌, ap, sym, refl, All, List, [], ◌∷◌, ◌++◌, length, map, Option, Some, None, arith, slice_index_or, slice_set}
use Rattle.std.specs.Prelude.{take}
use Rattle.std.proofs.lemmas.List.{take_more}
use Rattle.san_base.specs.declared.numbers.PlaceId.{PlaceId}
use Rattle.san_law.specs.Core.{put}
use Rattle.san_law.specs.Net.{Net}
use Rattle.san_law.specs.Order.{Order, places_of}
use Rattle.san_law.specs.Piece as law
use Rattle.san_law.specs.Piece.{LeafState}
use Rattle.san_leaf.specs.States.{pair_in}
use Rattle.san_reward.specs.Running.{Running}
use Rattle.san_turn.specs.Changes.{OrderValue, after_taking, order_taken}
use Rattle.san_turn.specs.Reflected.{Reflects, order_with}
use Rattle.san_turn.specs.declared.need.Taken.{Taken}
use Rattle.san_turn.proofs.Changes.{taken_is}
use Rattle.san_core.specs.Committed.{CommittedValue}
use Rattle.san_core.specs.declared.admission.Taking.{Taking}
use Rattle.san_core.specs.declared.over.Halt.{Halt}
use Rattle.san_core.specs.inner.Held.{committed_by, stop_in}
use Rattle.san_core.specs.inner.Steps.{put_in}
use Rattle.san_core.proofs.Suiting.{of_none}
use Rattle.san_reward.proofs.Making.{with_first}

places_push : (xs : List (ℕ × ℕ)) (x : ℕ × ℕ) → places_of (xs ++ x ∷ []) ≡ places_of xs ++ x.0 ∷ []
places_push [] x = refl
places_push (y ∷ xs) x = ap (λ (qs : List ℕ). y.0 ∷ qs) (places_push xs x)

map_push : {X Y : Type 0} (f : X → Y) (xs : List X) (x : X) → map f (xs ++ x ∷ []) ≡ map f xs ++ f x ∷ []
map_push f [] x = refl
map_push {X} {Y} f (y ∷ xs) x = ap (λ (ys : List Y). f y ∷ ys) (map_push f xs x)

pub places_more : (writes : List (PlaceId × ℕ)) (k : ℕ) (d : PlaceId × ℕ) (places : List PlaceId) → k < length writes → map (λ (p : PlaceId). p.0) places ≡ places_of (map pair_in (take k writes))
    → map (λ (p : PlaceId). p.0) (places ++ (slice_index_or writes k d).0 ∷ []) ≡ places_of (map pair_in (take (k + 1) writes))
places_more writes k d places l is =
    let x = slice_index_or writes k d in
    map_push (λ (p : PlaceId). p.0) places x.0
    ∙ (ap (λ (qs : List ℕ). qs ++ x.0.0 ∷ []) is
    ∙ (sym (places_push (map pair_in (take k writes)) (pair_in x))
    ∙ (ap places_of (sym (map_push pair_in (take k writes) x))
    ∙ ap (λ (ws : List (PlaceId × ℕ)). places_of (map pair_in ws)) (sym (take_more writes k d l)))))

abbrev head_or : List ℕ → ℕ
head_or [] = 0
head_or (q ∷ qs) = q

abbrev tail_or : List ℕ → List ℕ
tail_or [] = []
tail_or (q ∷ qs) = qs

pub places_below : (ps : List PlaceId) (ws : List (PlaceId × ℕ)) (m : ℕ) → map (λ (p : PlaceId). p.0) ps ≡ places_of (map pair_in ws) → All (λ w. w.0.0 < m) ws → All (λ (p : PlaceId). p.0 < m) ps
places_below [] ws m is h = of_none (λ (p : PlaceId). p.0 < m)
places_below (p ∷ ps) [] m is h = absurd cc
places_below (p ∷ ps) (w ∷ ws) m is h =
    let same : p.0 ≡ w.0.0 = ap head_or is in
    let here = h 0 w (omega arith) in
    with_first (λ (p : PlaceId). p.0 < m) p ps (omega (arith, same, here)) (places_below ps ws m (ap tail_or is) (λ k d l. h (suc k) d (omega (arith, l))))

pub put_value : (net : Net) (leaves : List LeafState) (shared : List ℕ) (order : OrderValue) (running : Running) (burst count : ℕ) (halt : Option Halt) (t : Taking) (o : law.Outcome) (news : Taken)
    (new : OrderValue) (states : List LeafState) (values : List ℕ)
    → stop_in halt ≡ None → new ≡ after_taking net order t.leaf.0 news → slice_index_or order.firsts t.leaf.0 0 ≡ t.first.0 → Reflects t.first.0 o news → news.kind ≡ t.kind → news.time ≡ t.time
    → states ≡ slice_set leaves t.leaf.0 o.state → values ≡ put o.writes shared
    → committed_by states values new running burst count halt ≡ put_in net (committed_by leaves shared order running burst count halt) t o
put_value net leaves shared order running burst count (Some h) t o news new states values going took first reflected kind time ls vs = absurd cc
put_value net leaves shared order running burst count None t o news new states values going took first reflected kind time ls vs =
    ap (λ (xs : List LeafState). made xs values new) ls
    ∙ (ap (λ (xs : List ℕ). made (slice_set leaves t.leaf.0 o.state) xs new) vs
    ∙ (ap (made (slice_set leaves t.leaf.0 o.state) (put o.writes shared)) took
    ∙ ap (λ (x : Order). made (slice_set leaves t.leaf.0 o.state) (put o.writes shared) (record { order = x; firsts = order.firsts; horizon = order.horizon }))
    (ap (λ (f : ℕ). order_taken net order.order t.leaf.0 f news) first
    ∙ (taken_is net order.order t.leaf.0 t.first.0 o news reflected
    ∙ (ap (λ m. order_with net order.order m.0 t.leaf.0 o news.kind) time
    ∙ ap (order_with net order.order t.time.0 t.leaf.0 o) kind)))))
  where
    made : List LeafState → List ℕ → OrderValue → CommittedValue
    made xs ys x = committed_by xs ys x running burst count None

pub value_by : (a b : CommittedValue) (net : Net) (t : Taking) (o : law.Outcome) (x : CommittedValue) → a ≡ b → x ≡ put_in net a t o → x ≡ put_in net b t o
value_by a b net t o x e is = is ∙ ap (λ (v : CommittedValue). put_in net v t o) e
