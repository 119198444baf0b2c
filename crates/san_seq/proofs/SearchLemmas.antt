-- The first leaf that has something is found among those that hang on a place which has changed.
use Rattle.san_base.proofs.NumberTests.{some_same}
use Rattle.std.proofs.Common.{ℕ, zero, suc, ◌+◌, ◌<◌, ◌≤◌, ◌≡◌, ◌∙◌, ◌⊎◌, inl, inr, ap, sym, refl, subst, arith, List, [], ◌∷◌, length, drop, Option, Some, Bool, true, false, slice_index, slice_index_or}
use Rattle.std.specs.Prelude.{slice_get}
use Rattle.std.proofs.lemmas.Bool.{cases_lt}
use Rattle.san_base.specs.declared.ending.Trap.{Trap}
use Rattle.san_base.specs.declared.numbers.LeafId.{LeafId}
use Rattle.san_law.specs.Net.{Broken, Enabled, Found, Nothing}
use Rattle.san_law.specs.Next as law
use Rattle.san_law.specs.Next.{found_at}
use Rattle.san_net.specs.Laid.{IsNetwork, places_of}
use Rattle.san_net.specs.Network.{Network}
use Rattle.san_net.specs.declared.part.Part.{Part}
use Rattle.san_seq.specs.declared.next.First.{First}
use Rattle.san_seq.specs.inner.Flagged.{AreListed}
use Rattle.san_seq.specs.declared.concern.Concern.TheVariants as concern
use Rattle.san_seq.specs.declared.wakes.Band.{Band}
use Rattle.san_seq.specs.inner.Firsts.{AreEarlier, AreEarlierBy, EachEarlier, IsEarlier, IsFirst}
use Rattle.san_seq.specs.inner.Known.{AreSettled, HaveSame, SeesSame}
use Rattle.san_seq.specs.inner.Nexts.{first_by, first_from, first_of_part, next_in}
use Rattle.san_seq.specs.inner.Wakes.{AreWoken, Stands, Woken, bands_at, level}
use Rattle.san_seq.proofs.AlikeLemmas.{nothing_alike}
use Rattle.san_seq.proofs.FlaggedLemmas.{up_or_down}
use Rattle.san_seq.proofs.NextLemmas.{cut, none_left, one_leaf, skipped_to}
use Rattle.san_seq.proofs.WeightLemmas.{each_weaker}

completes_apart : (j k : ℕ) → law.Completes j k ≡ law.Stable → ⊥
completes_apart j k e = cc

traps_apart : (j k : ℕ) (trap : Trap) → law.TrapsAt j k trap ≡ law.Stable → ⊥
traps_apart j k trap e = cc

-- a leaf that passes the search on has nothing
pub nothing_of : (j : ℕ) (f : Found) → ((rest : law.Next) → found_at j f rest ≡ rest) → f ≡ Nothing
nothing_of j Nothing h = refl
nothing_of j (Enabled k) h = absurd (completes_apart j k (h law.Stable))
nothing_of j (Broken k trap) h = absurd (traps_apart j k trap (h law.Stable))

-- a leaf's number by its place among some
pub leaf_at : (leaves : List LeafId) (k : ℕ) (d : LeafId) → k < length leaves → slice_get leaves k ≡ Some (slice_index_or leaves k d)
leaf_at [] k d h = absurd (omega (arith, h))
leaf_at (x ∷ xs) zero d h = refl
leaf_at (x ∷ xs) (suc k) d h = leaf_at xs k d (omega (arith, h))

pub earlier_all : (parts : List Part) (m : List ℕ) (leaves : List LeafId) (k many : ℕ) → length leaves ≤ k
    → ((i : ℕ) (leaf : LeafId) → i < k → slice_get leaves i ≡ Some leaf → first_by m (slice_get parts leaf.0) ≡ Nothing) → AreEarlier parts m leaves many
earlier_all parts m leaves k many long before i leaf is h = before i leaf (omega (arith, long, Rattle.std.proofs.lemmas.Option.slice_get_within leaves i leaf is)) is

-- one more has nothing
pub earlier_more : (parts : List Part) (m : List ℕ) (leaves : List LeafId) (k : ℕ) (x : LeafId) → slice_get leaves k ≡ Some x → ((rest : law.Next) → found_at x.0 (first_by m (slice_get parts x.0)) rest ≡ rest)
    → ((i : ℕ) (leaf : LeafId) → i < k → slice_get leaves i ≡ Some leaf → first_by m (slice_get parts leaf.0) ≡ Nothing)
    → (i : ℕ) (leaf : LeafId) → i < k + 1 → slice_get leaves i ≡ Some leaf → first_by m (slice_get parts leaf.0) ≡ Nothing
earlier_more parts m leaves k x at none before i leaf h is = by_case (cases_lt i k)
  where
    by_case : (i < k) ⊎ (k ≤ i) → first_by m (slice_get parts leaf.0) ≡ Nothing
    by_case (inl u) = before i leaf u is
    by_case (inr u) =
        let here : i ≡ k = omega (arith, h, u) in
        let same : x ≡ leaf = some_same x leaf (sym at ∙ ap (slice_get leaves) (sym here) ∙ is) in
        subst (λ (y : LeafId). first_by m (slice_get parts y.0) ≡ Nothing) same (nothing_of x.0 (first_by m (slice_get parts x.0)) none)

-- a lesser number leaves fewer
pub earlier_fewer : (parts : List Part) (band : Band) (was now : ℕ) (m : List ℕ) (many fewer : ℕ) → fewer ≤ many → AreEarlierBy parts band was now m many → AreEarlierBy parts band was now m fewer
earlier_fewer parts band was now m many fewer h (inl e) = inl e
earlier_fewer parts band was now m many fewer h (inr e) = inr (λ k leaf is l. e k leaf is (omega (arith, h, l)))

-- a place's bands, by their list
pub earlier_at : (parts : List Part) (w : Woken) (stable m : List ℕ) (many q : ℕ) (bands : List Band) → bands ≡ bands_at w.instants q → EachEarlier parts bands (slice_index stable q) (slice_index m q) m many → IsEarlier parts w stable m many q
earlier_at parts w stable m many q bands is each weight j there h = by_case (each there.at there.band (ap (λ (bs : List Band). slice_get bs there.at) is ∙ there.is))
  where
    by_case : AreEarlierBy parts there.band (slice_index stable q) (slice_index m q) m many → (level weight (slice_index stable q) ≡ level weight (slice_index m q)) ⊎ (first_by m (slice_get parts j) ≡ Nothing)
    by_case (inl e) = inl (subst (λ (v : ℕ). level v (slice_index stable q) ≡ level v (slice_index m q)) there.weighs e)
    by_case (inr e) = inr (e there.among (record { 0 = j }) there.leaf h)

-- and of all places, where those of the flagged ones are known
pub earlier_whole : (parts : List Part) (w : Woken) (stable m : List ℕ) (flags : List Bool) (list : List ℕ) (k many : ℕ) → HaveSame flags stable m → AreListed list flags → length list ≤ k
    → ((i q : ℕ) → i < k → slice_get list i ≡ Some q → IsEarlier parts w stable m many q) → (q : ℕ) → q < length flags → IsEarlier parts w stable m many q
earlier_whole parts w stable m flags list k many same is long before q h weight j there l = by_flag (up_or_down flags q h)
  where
    by_flag : (slice_get flags q ≡ Some true) ⊎ (slice_get flags q ≡ Some false) → (level weight (slice_index stable q) ≡ level weight (slice_index m q)) ⊎ (first_by m (slice_get parts j) ≡ Nothing)
    by_flag (inl up) = let at = is.each q up in before at.0 q (omega (arith, long, Rattle.std.proofs.lemmas.Option.slice_get_within list at.0 q at.1)) at.1 weight j there l
    by_flag (inr down) = inl (ap (level weight) (same q down))

-- one more of a list's front
pub front_more : (P : ℕ → Type 0) (list : List ℕ) (k at : ℕ) → slice_get list k ≡ Some at → P at → ((i q : ℕ) → i < k → slice_get list i ≡ Some q → P q) → (i q : ℕ) → i < k + 1 → slice_get list i ≡ Some q → P q
front_more P list k at here it before i q u is = by_case (cases_lt i k)
  where
    number_of : (x y : ℕ) → (let o : Option ℕ = Some x in o) ≡ Some y → x ≡ y
    number_of x y e = cc

    by_case : (i < k) ⊎ (k ≤ i) → P q
    by_case (inl low) = before i q low is
    by_case (inr high) =
        let same : i ≡ k = omega (arith, u, high) in
        subst P (number_of at q (sym here ∙ ap (slice_get list) (sym same) ∙ is)) it

-- one more of some bands
pub bands_more : (P : Band → Type 0) (bands : List Band) (k : ℕ) (at : Band) → slice_get bands k ≡ Some at → P at → ((i : ℕ) (b : Band) → i < k → slice_get bands i ≡ Some b → P b) → (i : ℕ) (b : Band) → i < k + 1 → slice_get bands i ≡ Some b → P b
bands_more P bands k at here it before i b u is = by_case (cases_lt i k)
  where
    by_case : (i < k) ⊎ (k ≤ i) → P b
    by_case (inl low) = before i b low is
    by_case (inr high) =
        let same : i ≡ k = omega (arith, u, high) in
        subst P (some_same at b (sym here ∙ ap (slice_get bands) (sym same) ∙ is)) it

module _ (n : Network) (w : Woken) (stable m : List ℕ) (f : First) (ok : IsNetwork n) (woken : AreWoken n w) (settled : AreSettled n.parts stable)
    (within : (i : ℕ) (p : Part) (k q : ℕ) → slice_get n.parts i ≡ Some p → slice_get (places_of p) k ≡ Some q → q < length n.initial)
    (is : IsFirst n.parts m f) (all : (q : ℕ) → q < length n.initial → IsEarlier n.parts w stable m f.leaf.0 q) where
  -- a leaf before it has nothing: else none of its places had changed, and it had nothing at the last stable marking
  none_before : (j : ℕ) (p : Part) → slice_get n.parts j ≡ Some p → j < f.leaf.0 → first_of_part m p ≡ Nothing
  none_before j p at l = by_found (first_of_part m p) refl
    where
      alike : ((first_of_part m p ≡ Nothing) → ⊥) → first_of_part m p ≡ Nothing
      alike some =
          nothing_alike p stable m (ok.accepted j p at)
          (λ i q has. each_weaker i (λ weight. Stands (bands_at w.instants q) weight j) (SeesSame stable m q) (λ weight s. same q weight (all q (within j p i q at has) weight j s l)) concern.Instants p.atomic.acts
          (woken.instants.there j i q p (Rattle.std.proofs.lemmas.Option.slice_get_within n.parts j p at) at has)) (settled j p at)
        where
          same : (q weight : ℕ) → (level weight (slice_index stable q) ≡ level weight (slice_index m q)) ⊎ (first_by m (slice_get n.parts j) ≡ Nothing) → SeesSame stable m q weight
          same q weight (inl e) = e
          same q weight (inr e) = absurd (some (sym (ap (first_by m) at) ∙ e))

      by_found : (g : Found) → first_of_part m p ≡ g → first_of_part m p ≡ Nothing
      by_found Nothing e = e
      by_found (Enabled k) e = alike (λ c. enabled_apart k (sym e ∙ c))
        where
          enabled_apart : (a : ℕ) → (let g : Found = Enabled a in g) ≡ Nothing → ⊥
          enabled_apart a d = cc
      by_found (Broken k trap) e = alike (λ c. broken_apart k trap (sym e ∙ c))
        where
          broken_apart : (a : ℕ) (t : Trap) → (let g : Found = Broken a t in g) ≡ Nothing → ⊥
          broken_apart a t d = cc

  none_earlier : (i : ℕ) → 0 ≤ i → i < f.leaf.0 → first_by m (slice_get n.parts i) ≡ Nothing
  none_earlier i low l = let part = cut n.parts i (omega (arith, l, is.within)) in ap (first_by m) part.1 ∙ none_before i part.0 part.1 l

  pub found_first : next_in f.next ≡ first_from 0 m n.parts
  found_first = by_case (cases_lt f.leaf.0 (length n.parts))
    where
      to_it : first_from 0 m n.parts ≡ first_from f.leaf.0 m (drop f.leaf.0 n.parts)
      to_it = skipped_to n.parts m 0 f.leaf.0 (omega arith) is.within none_earlier

      by_case : (f.leaf.0 < length n.parts) ⊎ (length n.parts ≤ f.leaf.0) → next_in f.next ≡ first_from 0 m n.parts
      by_case (inl h) = sym (to_it ∙ one_leaf n.parts m f.leaf.0 h ∙ is.some h (first_from (f.leaf.0 + 1) m (drop (f.leaf.0 + 1) n.parts)))
      by_case (inr h) = is.none h ∙ sym (to_it ∙ none_left n.parts m f.leaf.0 h)
