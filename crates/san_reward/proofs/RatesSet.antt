-- A leaf's rates, and those of all leaves, set one after another.
use Rattle.std.proofs.Common.{ℕ, zero, suc, ◌+◌, ◌<◌, ◌≤◌, ◌≡◌, ◌∙◌, ap, sym, refl, subst, List, [], ◌∷◌, ◌++◌, arith, Some, slice_index_or, slice_set, length, map, take, drop}
use Rattle.std.specs.Prelude.{All, IsTrue, slice_get}
use Rattle.san_expr.specs.Below.{places_below}
use Rattle.san_law.specs.Lawful.{AllBelow, IsLaid}
use Rattle.san_reward.proofs.Making.{got}
use Rattle.san_reward.proofs.Setting.{leaves_long}
use Rattle.std.proofs.lemmas.List.{drop_all, get_or-map, get_or-set_same, length-map, set-get_or, set-set, take_all}
use Rattle.san_law.specs.Net.{Rated}
use Rattle.san_law.specs.Activity as leaf
use Rattle.san_law.specs.Network as law
use Rattle.san_law.specs.Reward.{rates_from, zero_sum}
use Rattle.san_law.specs.State.{gather}
use Rattle.san_law.specs.State as state
use Rattle.san_law.proofs.Tallies.{rates_are}
use Rattle.san_net.proofs.LaidLemmas.{place_in, places_in}
use Rattle.san_net.specs.Laid.{IsNetwork, place_of, places_of}
use Rattle.san_net.specs.Leaf.{leaf_of, rate_in, slot_in}
use Rattle.san_net.specs.Network.{Network, net_of}
use Rattle.san_net.specs.declared.atomic.Atomic.{Atomic}
use Rattle.san_net.specs.declared.atomic.RateTerm.{RateTerm}
use Rattle.san_net.specs.declared.part.Part.{Part}
use Rattle.san_net.specs.declared.part.Slot.{Slot}
use Rattle.san_net.specs.declared.part.Slot.TheVariants.{Private, Shared}
use Rattle.san_reward.specs.Running.{Running, rates_in, rates_of, terms_in, with_all_rates, with_leaf_rates, with_rate}

-- the first of a list in place of those of another
abbrev pub begun : {X : Type 0} → ℕ → List X → List X → List X
begun n xs old = take n xs ++ drop n old

put_next : {X : Type 0} (xs old : List X) (n : ℕ) (d : X) → n < length xs → n < length old → slice_set (begun n xs old) n (slice_index_or xs n d) ≡ begun (suc n) xs old
put_next [] old n d h l = absurd (omega (arith, h))
put_next (x ∷ xs) [] n d h l = absurd (omega (arith, l))
put_next (x ∷ xs) (o ∷ old) zero d h l = refl
put_next (x ∷ xs) (o ∷ old) (suc n) d h l = ap (λ zs. x ∷ zs) (put_next xs old n d (omega (arith, h)) (omega (arith, l)))

pub one_more : {X : Type 0} (xs old : List X) (n : ℕ) (d : X) → n < length xs → n < length old → slice_set (begun n xs old) n (slice_index_or xs n d) ≡ begun (n + 1) xs old
one_more xs old n d h l = put_next xs old n d h l ∙ ap (λ m. begun m xs old) (let z : suc n ≡ n + 1 = omega arith in z)

none_yet : {X : Type 0} (xs old : List X) → begun 0 xs old ≡ old
none_yet [] old = refl
none_yet (x ∷ xs) old = refl

all_done : {X : Type 0} (xs old : List X) (n : ℕ) → length xs ≤ n → length old ≤ n → begun n xs old ≡ xs
all_done xs old n h l = ap (λ zs. zs ++ drop n old) (take_all n xs h) ∙ (ap (λ zs. xs ++ zs) (drop_all n old l) ∙ append_none xs)
  where
    append_none : {X : Type 0} (xs : List X) → xs ++ [] ≡ xs
    append_none [] = refl
    append_none (x ∷ xs) = ap (λ zs. x ∷ zs) (append_none xs)

-- a leaf's first so many rates
module _ (t : Running) (j : ℕ) (ws : List Rated) where
  abbrev pub so_far : ℕ → Running
  so_far n = with_leaf_rates t j (begun n ws (slice_index_or t.tally.rates j []))

  -- the terms stay
  module _ (n : ℕ) (u : Running) (is : u ≡ so_far n) where
    pub leaf_there : j < length t.terms → j < length u.terms
    leaf_there h = let same = ap (λ (x : Running). length x.terms) is in omega (arith, h, same)

    pub term_there : (k : ℕ) → k < length (slice_index_or t.terms j []) → k < length (slice_index_or u.terms j [])
    term_there k h = let same = ap (λ (x : Running). length (slice_index_or x.terms j [])) is in omega (arith, h, same)

  pub leaf_begins : t ≡ so_far 0
  leaf_begins = sym (ap (with_leaf_rates t j) (none_yet ws (slice_index_or t.tally.rates j [])) ∙ ap (with_all_rates t) (set-get_or t.tally.rates j []))

  pub leaf_goes_on : (n : ℕ) (u v : Running) (w : Rated) → u ≡ so_far n → v ≡ with_rate u j n w → j < length t.tally.rates → length ws ≡ length (slice_index_or t.tally.rates j []) → n < length ws → w ≡ slice_index_or ws n zero_sum → v ≡ so_far (n + 1)
  leaf_goes_on n u v w before is h long l value =
      let old = slice_index_or t.tally.rates j [] in
      let row = begun n ws old in
      is
      ∙ (ap (λ x. with_rate x j n w) before
      ∙ (ap (λ r. with_all_rates t (slice_set (slice_set t.tally.rates j row) j (slice_set r n w))) (get_or-set_same t.tally.rates j row [] h)
      ∙ (ap (with_all_rates t) (set-set t.tally.rates j row (slice_set row n w))
      ∙ (ap (λ x. with_leaf_rates t j (slice_set row n x)) value
      ∙ ap (with_leaf_rates t j) (one_more ws old n zero_sum l (omega (arith, l, long)))))))

  pub leaf_ends : (n : ℕ) (u : Running) → u ≡ so_far n → length ws ≡ length (slice_index_or t.tally.rates j []) → length ws ≤ n → u ≡ with_leaf_rates t j ws
  leaf_ends n u is long h = is ∙ ap (with_leaf_rates t j) (all_done ws (slice_index_or t.tally.rates j []) n h (omega (arith, h, long)))

-- the rates of the first so many leaves
module _ (t : Running) (all : List (List Rated)) where
  abbrev pub leaves_so_far : ℕ → Running
  leaves_so_far n = with_all_rates t (begun n all t.tally.rates)

  pub leaves_begin : t ≡ leaves_so_far 0
  leaves_begin = sym (ap (with_all_rates t) (none_yet all t.tally.rates))

  pub leaves_go_on : (n : ℕ) (u v : Running) (ws : List Rated) → u ≡ leaves_so_far n → v ≡ with_leaf_rates u n ws → length all ≡ length t.tally.rates → n < length all → ws ≡ slice_index_or all n [] → v ≡ leaves_so_far (n + 1)
  leaves_go_on n u v ws before is long l value =
      is
      ∙ (ap (λ x. with_leaf_rates x n ws) before
      ∙ (ap (λ x. with_all_rates t (slice_set (begun n all t.tally.rates) n x)) value
      ∙ ap (with_all_rates t) (one_more all t.tally.rates n [] l (omega (arith, l, long)))))

  pub leaves_end : (n : ℕ) (u : Running) → u ≡ leaves_so_far n → length all ≡ length t.tally.rates → length all ≤ n → u ≡ with_all_rates t all
  leaves_end n u is long h = is ∙ ap (with_all_rates t) (all_done all t.tally.rates n h (omega (arith, h, long)))

module _ (marking : List ℕ) where
  leaf_rates : (parts : List Part) (i : ℕ) → i < length parts
      → slice_index_or (map (rates_of marking) parts) i [] ≡ (slice_index_or (map leaf_of parts) i law.no_part).rates (gather (map state.place_of (slice_index_or (map (λ (p : leaf.Part). p.slots) (map leaf_of parts)) i [])) marking)
  leaf_rates [] i h = absurd (omega (arith, h))
  leaf_rates (p ∷ parts) zero h = ap (λ ps. map (rate_in (gather ps marking)) p.atomic.rates) (sym (places_in p.slots))
  leaf_rates (p ∷ parts) (suc i) h = leaf_rates parts i (omega (arith, h))

  pub rates_law : (n : Network) (draw : ℕ → ℕ → ℕ) (limits : law.Limits) → rates_in n marking ≡ rates_from (net_of n draw limits) 0 (net_of n draw limits).parts marking
  rates_law n draw limits =
      let slots = length-map (map leaf_of n.parts) (λ (p : leaf.Part). p.slots) in
      let leaves = length-map n.parts leaf_of in
      rates_are (net_of n draw limits) (rates_in n marking) marking (length-map n.parts (rates_of marking) ∙ sym (slots ∙ leaves)) (λ i l. leaf_rates n.parts i (omega (arith, l, slots, leaves)))

-- a network's leaf
module _ (n : Network) (j : ℕ) (p : Part) (is : slice_get n.parts j ≡ Some p) (h : j < length n.parts) where
  pub terms_there : (terms : List (List ℕ)) → terms ≡ map terms_in n.parts → slice_index_or terms j [] ≡ terms_in p
  terms_there terms e = ap (λ ts. slice_index_or ts j []) e ∙ (get_or-map terms_in n.parts j p [] h ∙ ap terms_in (got n.parts j p is))

  pub rates_there : (marking : List ℕ) → rates_of marking p ≡ slice_index_or (rates_in n marking) j []
  rates_there marking = sym (get_or-map (rates_of marking) n.parts j p [] h ∙ ap (rates_of marking) (got n.parts j p is))

  pub lies_within : (m : List ℕ) → length m ≡ length n.initial → ((draw : ℕ → ℕ → ℕ) (limits : law.Limits) → IsLaid (net_of n draw limits) (length n.initial)) → AllBelow (places_of p) (length m)
  lies_within m sized laid =
      let slots = λ (q : leaf.Part). q.slots in
      let many = length-map n.parts leaf_of in
      let lies : AllBelow (map state.place_of (slice_index_or (map slots (map leaf_of n.parts)) j [])) (length n.initial) = (laid (λ s k. 0) (record { horizon = 0; burst = 0; events = 0 })).below j in
      subst (λ k. AllBelow (places_of p) k) (sym sized) (subst (λ ps. AllBelow ps (length n.initial)) here lies)
    where
      inside : j < length (map leaf_of n.parts)
      inside = let many = length-map n.parts leaf_of in omega (arith, h, many)

      here : map state.place_of (slice_index_or (map (λ (q : leaf.Part). q.slots) (map leaf_of n.parts)) j []) ≡ places_of p
      here = ap (map state.place_of) (get_or-map (λ (q : leaf.Part). q.slots) (map leaf_of n.parts) j law.no_part [] inside ∙ ap (λ (q : leaf.Part). q.slots) (get_or-map leaf_of n.parts j p law.no_part h ∙ ap leaf_of (got n.parts j p is))) ∙ places_in p.slots

  -- its terms' cells are its own
  pub terms_within : IsNetwork n → All (λ t. IsTrue (places_below t.expr (length p.slots))) p.atomic.rates
  terms_within net = λ i d l. subst (λ k. IsTrue (places_below (slice_index_or p.atomic.rates i d).expr k)) (sym (net.slotted j p is).each) ((net.accepted j p is).rates i d l).places

-- a part's terms, and their values
module _ (p : Part) (m : List ℕ) (a : Atomic) (items : List RateTerm) (of : a ≡ p.atomic) (are : items ≡ a.rates) where
  pub part_long : length (rates_of m p) ≡ length items
  part_long = length-map p.atomic.rates (rate_in (gather (places_of p) m)) ∙ ap length (sym (are ∙ ap (λ (x : Atomic). x.rates) of))

  pub terms_long : length (terms_in p) ≡ length items
  terms_long = length-map p.atomic.rates (λ t. t.reward) ∙ ap length (sym (are ∙ ap (λ (x : Atomic). x.rates) of))

  pub part_rate : (slots : List Slot) (t : RateTerm) (n : ℕ) (w : Rated) → slots ≡ p.slots → t ≡ slice_index_or items n t → n < length items → w ≡ rate_in (gather (map place_of slots) m) t → w ≡ slice_index_or (rates_of m p) n zero_sum
  part_rate slots t n w over at h is =
      let same : items ≡ p.atomic.rates = are ∙ ap (λ (x : Atomic). x.rates) of in
      let long = ap length same in
      is
      ∙ (ap (λ ss. rate_in (gather (map place_of ss) m) t) over
      ∙ (ap (rate_in (gather (places_of p) m)) (at ∙ ap (λ ts. slice_index_or ts n t) same)
      ∙ sym (get_or-map (rate_in (gather (places_of p) m)) p.atomic.rates n t zero_sum (omega (arith, h, long)))))

-- a rate for each of a network's leaves
pub all_long : (n : Network) (m : List ℕ) (t : Running) → t.terms ≡ map terms_in n.parts → map length t.tally.rates ≡ map length t.terms → length (rates_in n m) ≡ length t.tally.rates
all_long n m t are shaped = length-map n.parts (rates_of m) ∙ sym (leaves_long t.terms t.tally.rates shaped ∙ (ap length are ∙ length-map n.parts terms_in))
