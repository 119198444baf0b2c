-- What one more cell changes of what is known of those seen.
use Rattle.san_base.proofs.Bools.{or_right, or_none}
use Rattle.std.proofs.Common.{◌≡◌, ◌≤◌, ◌<◌, ℕ, Bool, true, false, not, cond, ◌||◌, List, [], ◌∷◌, ◌++◌, length, refl, ap, sym, ◌∙◌, subst, arith, map, inl, inr, ◌⊎◌, nat_le, length-append}
use Rattle.std.proofs.Math.Bool.{true≢false}
use Rattle.std.specs.List.{list_any}
use Rattle.std.proofs.lemmas.Bool.Decides.{leb_tells}
use Rattle.std.proofs.lemmas.List.{length-map, map-append}
use Rattle.san_flat.proofs.HomeLemmas.{same-equiv}
use Rattle.san_flat.specs.Homes.{CellHome, same, home_of_key}
use Rattle.san_flat.specs.Networks.{value_at}
use Rattle.san_flat.specs.inner.Sightings.{HasSeen, Sees}
use Rattle.san_flat.specs.declared.home.HomeKey.{HomeKey}
use Rattle.san_flat.specs.declared.seen.Seen.{Seen}
use Rattle.san_net.proofs.SeenLemmas.{list_any-map}
use Rattle.san_net.specs.Numbering.{firsts, often}

-- a home that was there has the value that it had
value-old : (homes : List CellHome) (initial : List ℕ) (h k : CellHome) (v : ℕ) → length homes ≡ length initial → list_any (same k) homes ≡ true → value_at (homes ++ h ∷ []) (initial ++ v ∷ []) k ≡ value_at homes initial k
value-old [] initial h k v e there = absurd (true≢false (sym there))
value-old (x ∷ homes) [] h k v e there = absurd (omega (arith, e))
value-old (x ∷ homes) (w ∷ initial) h k v e there = by_test (same k x) (λ t. value-old homes initial h k v (omega (arith, e)) t) there
  where
    by_test : (b : Bool) → (list_any (same k) homes ≡ true → value_at (homes ++ h ∷ []) (initial ++ v ∷ []) k ≡ value_at homes initial k) → (b || list_any (same k) homes) ≡ true → cond b w (value_at (homes ++ h ∷ []) (initial ++ v ∷ []) k) ≡ cond b w (value_at homes initial k)
    by_test true rest t = refl
    by_test false rest t = rest t

value-new : (homes : List CellHome) (initial : List ℕ) (k : CellHome) (v : ℕ) → length homes ≡ length initial → list_any (same k) homes ≡ false → value_at (homes ++ k ∷ []) (initial ++ v ∷ []) k ≡ v
value-new [] [] k v e none = ap (λ b. cond b v 0) (same-equiv.refl k)
value-new [] (w ∷ initial) k v e none = absurd (omega (arith, e))
value-new (x ∷ homes) [] k v e none = absurd (omega (arith, e))
value-new (x ∷ homes) (w ∷ initial) k v e none =
    let two = or_none (same k x) (list_any (same k) homes) none in
    ap (λ b. cond b w (value_at (homes ++ k ∷ []) (initial ++ v ∷ []) k)) two.0 ∙ value-new homes initial k v (omega (arith, e)) two.1

values-old : (homes : List CellHome) (initial : List ℕ) (h : CellHome) (v : ℕ) → length homes ≡ length initial → (ks : List CellHome) → ((k : CellHome) → list_any (same k) ks ≡ true → list_any (same k) homes ≡ true) → map (value_at (homes ++ h ∷ []) (initial ++ v ∷ [])) ks ≡ map (value_at homes initial) ks
values-old homes initial h v e [] all = refl
values-old homes initial h v e (k ∷ ks) all =
    ap (λ x. x ∷ map (value_at (homes ++ h ∷ []) (initial ++ v ∷ [])) ks) (value-old homes initial h k v e (all k (ap (λ b. b || list_any (same k) ks) (same-equiv.refl k))))
    ∙ ap (λ xs. value_at homes initial k ∷ xs) (values-old homes initial h v e ks (λ j t. all j (ap (λ b. same j k || b) t ∙ or_right (same j k))))

pub even-push : (homes : List CellHome) (initial : List ℕ) (h : CellHome) (v : ℕ) → length homes ≡ length initial → length (homes ++ h ∷ []) ≡ length (initial ++ v ∷ [])
even-push homes initial h v e = omega (arith, e, length-append homes (h ∷ []), length-append initial (v ∷ []))

not-true : (b c : Bool) → b ≡ not c → b ≡ true → c ≡ false
not-true b true e t = absurd (true≢false (sym t ∙ e))
not-true b false e t = refl

not-false : (b c : Bool) → b ≡ not c → b ≡ false → c ≡ true
not-false b true e t = refl
not-false b false e t = absurd (true≢false (sym e ∙ t))

abbrev pub eq-seen : HomeKey → HomeKey → Bool
eq-seen a b = same (home_of_key a) (home_of_key b)

pub inserted-new : (ks more : List HomeKey) (h : HomeKey) (b : Bool) → b ≡ not (list_any (eq-seen h) ks) → b ≡ true → more ≡ cond (list_any (eq-seen h) ks) ks (ks ++ h ∷ []) → (list_any (same (home_of_key h)) (map home_of_key ks) ≡ false) × (map home_of_key more ≡ map home_of_key ks ++ home_of_key h ∷ [])
inserted-new ks more h b e t k =
    let none = not-true b (list_any (eq-seen h) ks) e t in
    (list_any-map home_of_key (same (home_of_key h)) ks ∙ none, ap (map home_of_key) (k ∙ ap (λ c. cond c ks (ks ++ h ∷ [])) none) ∙ map-append home_of_key ks (h ∷ []))

pub inserted-old : (ks more : List HomeKey) (h : HomeKey) (b : Bool) → b ≡ not (list_any (eq-seen h) ks) → b ≡ false → more ≡ cond (list_any (eq-seen h) ks) ks (ks ++ h ∷ []) → (list_any (same (home_of_key h)) (map home_of_key ks) ≡ true) × (map home_of_key more ≡ map home_of_key ks)
inserted-old ks more h b e t k =
    let some = not-false b (list_any (eq-seen h) ks) e t in
    (list_any-map home_of_key (same (home_of_key h)) ks ∙ some, ap (map home_of_key) (k ∙ ap (λ c. cond c ks (ks ++ h ∷ [])) some))

abbrev HasAll : List CellHome → List CellHome → Type 0
HasAll ks homes = (k : CellHome) → list_any (same k) ks ≡ list_any (same k) homes

pub values-more : (homes : List CellHome) (initial : List ℕ) (ks : List CellHome) (h : CellHome) (v : ℕ) → length homes ≡ length initial → HasAll ks homes → list_any (same h) ks ≡ false → map (value_at homes initial) ks ++ v ∷ [] ≡ map (value_at (homes ++ h ∷ []) (initial ++ v ∷ [])) (ks ++ h ∷ [])
values-more homes initial ks h v e all none =
    let f : CellHome → ℕ = value_at (homes ++ h ∷ []) (initial ++ v ∷ []) in
    ap (λ xs. xs ++ v ∷ []) (sym (values-old homes initial h v e ks (λ k t. sym (all k) ∙ t)))
    ∙ ap (λ x. map f ks ++ x ∷ []) (sym (value-new homes initial h v e (sym (all h) ∙ none)))
    ∙ sym (map-append f ks (h ∷ []))

pub values-again : (homes : List CellHome) (initial : List ℕ) (ks : List CellHome) (h : CellHome) (v : ℕ) → length homes ≡ length initial → HasAll ks homes → map (value_at homes initial) ks ≡ map (value_at (homes ++ h ∷ []) (initial ++ v ∷ [])) ks
values-again homes initial ks h v e all = sym (values-old homes initial h v e ks (λ k t. sym (all k) ∙ t))

-- as many keys as there are different homes
keys-counted : (homes : List CellHome) (initial : List ℕ) (s : Seen) → HasSeen homes initial s → length s.homes.keys ≡ length (firsts same homes)
keys-counted homes initial s w = sym (length-map s.homes.keys home_of_key) ∙ ap length w.recorded.keys

pub sees : (homes : List CellHome) (initial : List ℕ) (s : Seen) (n : ℕ) → n ≡ length s.homes.keys → HasSeen homes initial s → Sees (nat_le n 65536) homes initial s
sees homes initial s n e w = by_test (leb_tells n 65536)
  where
    by_test : ((nat_le n 65536 ≡ true) × (n ≤ 65536)) ⊎ ((nat_le n 65536 ≡ false) × (65536 < n)) → Sees (nat_le n 65536) homes initial s
    by_test (inl (t, few)) = subst (λ b. Sees b homes initial s) (sym t) (w, omega (arith, e, few))
    by_test (inr (t, many)) = subst (λ b. Sees b homes initial s) (sym t) (omega (arith, e, many, keys-counted homes initial s w))

pub few-places : (homes : List CellHome) (initial : List ℕ) (s : Seen) → HasSeen homes initial s → length s.homes.keys ≤ 65536 → length (firsts same homes) ≤ 65536
few-places homes initial s w few = omega (arith, few, keys-counted homes initial s w)

counts-long : (homes : List CellHome) (initial : List ℕ) (s : Seen) → HasSeen homes initial s → length s.counts.items ≡ length (map home_of_key s.homes.keys)
counts-long homes initial s w = ap length w.recorded.counts ∙ length-map (map home_of_key s.homes.keys) (often same homes)

pub counts_few : (homes : List CellHome) (initial : List ℕ) (s : Seen) → HasSeen homes initial s → length s.homes.keys ≤ 65536 → length s.counts.items ≤ 65536
counts_few homes initial s w few = omega (arith, few, counts-long homes initial s w, length-map s.homes.keys home_of_key)

pub counts_even : (homes : List CellHome) (initial : List ℕ) (s : Seen) → HasSeen homes initial s → length s.counts.items ≡ length s.values.items
counts_even homes initial s w = counts-long homes initial s w ∙ sym (ap length w.values ∙ length-map (map home_of_key s.homes.keys) (value_at homes initial))
