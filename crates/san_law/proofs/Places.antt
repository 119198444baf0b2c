-- A leaf's places in a marking.
use Rattle.std.proofs.Common.{ℕ, zero, suc, ◌+◌, ◌<◌, ◌≤◌, ◌≡◌, ◌≢◌, ◌∙◌, inl, inr, ◌||◌, take, ap, sym, refl, List, [], ◌∷◌, length, map, Option, Some, None, Bool, true, false, nat_eq, arith, slice_index, slice_set}
use Rattle.std.proofs.lemmas.Bool.Decides.{nat_tests}
use Rattle.std.proofs.lemmas.List.{ext_get_or, get_or-map, get_or-take, get_or_past, get_or-set_same, get_or-set_other, length-set}
use Rattle.std.proofs.lemmas.List.{length-map}
use Rattle.std.proofs.lemmas.Bool.{cases_lt, true≢false, eq-eqb, ne_eqb, eqb-true}
use Rattle.san_base.proofs.Bools.{or_none, or_right}
use Rattle.san_law.specs.Net.{Private, Shared, Slot}
use Rattle.san_law.specs.State.{gather, index_of, or_next, place_of, scatter, scatter_from, taken_from}
use Rattle.san_law.specs.Piece.{own, privates, leaf_view, with_write, writes_from}
use Rattle.san_law.specs.Order.{any_in, is_in, places_of}
use Rattle.san_law.specs.Core.{put}
use Rattle.san_law.specs.Lawful.{AllApart, AllBelow, AreDistinct}

pub scatter_from_length : (slots values : List ℕ) (q : ℕ) (m : List ℕ) → length (scatter_from slots values q m) ≡ length m
scatter_from_length slots values q [] = refl
scatter_from_length slots values q (v ∷ vs) = ap suc (scatter_from_length slots values (suc q) vs)

pub scatter_length : (slots values m : List ℕ) → length (scatter slots values m) ≡ length m
unfolding scatter
scatter_length slots values m = scatter_from_length slots values 0 m

scatter_from_at : (slots values m : List ℕ) (q i : ℕ) → i < length m → slice_index (scatter_from slots values q m) i ≡ taken_from values (index_of (q + i) slots) (slice_index m i)
scatter_from_at slots values [] q i h = absurd (omega arith)
scatter_from_at slots values (v ∷ vs) q zero h = let e : q ≡ q + 0 = omega arith in ap (λ n. taken_from values (index_of n slots) v) e
scatter_from_at slots values (v ∷ vs) q (suc i) h =
    let e : suc q + i ≡ q + suc i = omega arith in
    scatter_from_at slots values vs (suc q) i (omega arith) ∙ ap (λ n. taken_from values (index_of n slots) (slice_index vs i)) e

-- what stands at a place
pub scatter_at : (slots values m : List ℕ) (i : ℕ) → i < length m → slice_index (scatter slots values m) i ≡ taken_from values (index_of i slots) (slice_index m i)
unfolding scatter
scatter_at slots values m i h = let e : 0 + i ≡ i = omega arith in scatter_from_at slots values m 0 i h ∙ ap (λ n. taken_from values (index_of n slots) (slice_index m i)) e

scatter_from_frame : (slots values m : List ℕ) (q i n : ℕ) → n ≡ q + i → index_of n slots ≡ None → slice_index (scatter_from slots values q m) i ≡ slice_index m i
scatter_from_frame slots values [] q i n e out = refl
scatter_from_frame slots values (v ∷ vs) q zero n e out =
    let k : n ≡ q = omega arith in ap (λ o. taken_from values o v) (ap (λ x. index_of x slots) (sym k) ∙ out)
scatter_from_frame slots values (v ∷ vs) q (suc i) n e out = scatter_from_frame slots values vs (suc q) i n (omega arith) out

-- a place that isn't the leaf's stays
pub scatter_frame : (slots values m : List ℕ) (q : ℕ) → index_of q slots ≡ None → slice_index (scatter slots values m) q ≡ slice_index m q
unfolding scatter
scatter_frame slots values m q out = scatter_from_frame slots values m 0 q q (omega arith) out

pub or_next_none : (b : Bool) (o : Option ℕ) → or_next b o ≡ None → (b ≡ false) × (o ≡ None)
or_next_none true o h = cc
or_next_none false None h = (refl, refl)
or_next_none false (Some n) h = cc

or_next_test : (b : Bool) (o : Option ℕ) (p : ℕ) → b ≡ false → o ≡ Some p → or_next b o ≡ Some (suc p)
or_next_test b o p e f = rw (e, f)

differs : (s t : ℕ) (ts : List ℕ) (p : ℕ) → index_of s ts ≡ None → p < length ts → slice_index ts p ≡ t → nat_eq t s ≡ false
differs s t [] p out h is = absurd (omega arith)
differs s t (u ∷ us) zero out h is = let k = or_next_none (nat_eq s u) (index_of s us) out in grind (arith, nat_tests)
differs s t (u ∷ us) (suc p) out h is = differs s t us p (or_next_none (nat_eq s u) (index_of s us) out).1 (omega arith) is

-- a place of the leaf has its number
pub index_of_slot : (slots : List ℕ) (p : ℕ) → AreDistinct slots → p < length slots → index_of (slice_index slots p) slots ≡ Some p
index_of_slot [] p d h = absurd (omega arith)
index_of_slot (s ∷ ss) zero d h = let e : nat_eq s s ≡ true = grind (arith, nat_tests) in rw e refl
index_of_slot (s ∷ ss) (suc p) d h = or_next_test (nat_eq (slice_index ss p) s) (index_of (slice_index ss p) ss) p (differs s (slice_index ss p) ss p d.0 (omega arith) refl) (index_of_slot ss p d.1 (omega arith))

pub below_at : (slots : List ℕ) (n p : ℕ) → AllBelow slots n → p < length slots → slice_index slots p < n
below_at [] n p b h = absurd (omega arith)
below_at (s ∷ ss) n zero b h = b.0
below_at (s ∷ ss) n (suc p) b h = below_at ss n p b.1 (omega arith)

pub gather_scatter : (slots values m : List ℕ) → AllBelow slots (length m) → AreDistinct slots → length values ≡ length slots → gather slots (scatter slots values m) ≡ values
gather_scatter slots values m b d l = ext_get_or 0 (gather slots (scatter slots values m)) values (length-map slots (λ s. slice_index (scatter slots values m) s) ∙ sym l) (λ i h.
    let k : i < length slots = omega (arith, length-map slots (λ s. slice_index (scatter slots values m) s)) in
    get_or-map (λ s. slice_index (scatter slots values m) s) slots i 0 0 k
    ∙ (scatter_at slots values m (slice_index slots i) (below_at slots (length m) i b k)
    ∙ ap (λ o. taken_from values o (slice_index m (slice_index slots i))) (index_of_slot slots i d k)))

take_scatter_from : (slots values : List ℕ) (n q : ℕ) (m : List ℕ) → take n (scatter_from slots values q m) ≡ scatter_from slots values q (take n m)
take_scatter_from slots values zero q m = refl
take_scatter_from slots values (suc n) q [] = refl
take_scatter_from slots values (suc n) q (v ∷ vs) = ap (λ (xs : List ℕ). taken_from values (index_of q slots) v ∷ xs) (take_scatter_from slots values n (suc q) vs)

pub take_scatter : (slots values : List ℕ) (n : ℕ) (m : List ℕ) → take n (scatter slots values m) ≡ scatter slots values (take n m)
unfolding scatter
take_scatter slots values n m = take_scatter_from slots values n 0 m

taken_twice : (v w : List ℕ) (o : Option ℕ) (x : ℕ) → taken_from v o (taken_from w o x) ≡ taken_from v o x
taken_twice v w None x = refl
taken_twice v w (Some p) x = refl

scatter_from_twice : (slots v w : List ℕ) (q : ℕ) (m : List ℕ) → scatter_from slots v q (scatter_from slots w q m) ≡ scatter_from slots v q m
scatter_from_twice slots v w q [] = refl
scatter_from_twice slots v w q (x ∷ xs) =
    ap (λ n. n ∷ scatter_from slots v (suc q) (scatter_from slots w (suc q) xs)) (taken_twice v w (index_of q slots) x)
    ∙ ap (λ (ys : List ℕ). taken_from v (index_of q slots) x ∷ ys) (scatter_from_twice slots v w (suc q) xs)

pub scatter_twice : (slots v w m : List ℕ) → scatter slots v (scatter slots w m) ≡ scatter slots v m
unfolding scatter
scatter_twice slots v w m = scatter_from_twice slots v w 0 m

-- a number's place in a list is one of the list
pub record IsPlaceOf (slots : List ℕ) (q p : ℕ) : Type 0 where
  pub within : p < length slots
  pub is : slice_index slots p ≡ q

place_of_more : (slots : List ℕ) (q s p : ℕ) → IsPlaceOf slots q p → IsPlaceOf (s ∷ slots) q (suc p)
place_of_more slots q s p h = record { within = omega (arith, h.within); is = h.is }

place_by : (slots : List ℕ) (q s p : ℕ) (b : Bool) (o : Option ℕ) → (b ≡ true → s ≡ q) → ((r : ℕ) → o ≡ Some r → IsPlaceOf slots q r) → or_next b o ≡ Some p → IsPlaceOf (s ∷ slots) q p
place_by slots q s zero true o h g e = record { within = omega arith; is = h refl }
place_by slots q s (suc p) true o h g e = cc
place_by slots q s p false None h g e = cc
place_by slots q s zero false (Some r) h g e = cc
place_by slots q s (suc p) false (Some r) h g e = place_of_more slots q s p (g p cc)

pub index_of_is : (slots : List ℕ) (q p : ℕ) → index_of q slots ≡ Some p → IsPlaceOf slots q p
index_of_is [] q p e = cc
index_of_is (s ∷ slots) q p e = place_by slots q s p (nat_eq q s) (index_of q slots) (λ t. grind (arith, nat_tests)) (λ r f. index_of_is slots q r f) e

-- a leaf's own values put back change nothing
back_at : (slots m : List ℕ) (i : ℕ) (o : Option ℕ) → index_of i slots ≡ o → taken_from (gather slots m) o (slice_index m i) ≡ slice_index m i
back_at slots m i None e = refl
back_at slots m i (Some p) e =
    let h = index_of_is slots i p e in
    get_or-map (λ s. slice_index m s) slots p 0 0 h.within ∙ ap (λ q. slice_index m q) h.is

pub scatter_same : (slots m : List ℕ) → scatter slots (gather slots m) m ≡ m
scatter_same slots m = ext_get_or 0 (scatter slots (gather slots m) m) m (scatter_length slots (gather slots m) m) (λ i h.
    scatter_at slots (gather slots m) m i (omega (arith, scatter_length slots (gather slots m) m)) ∙ back_at slots m i (index_of i slots) refl)

-- numbers that are in a list
in_next : (b : Bool) (o : Option ℕ) → is_in (or_next b o) ≡ (b || is_in o)
in_next true o = refl
in_next false None = refl
in_next false (Some n) = refl

pub not_in_cons : (p q : ℕ) (qs : List ℕ) → is_in (index_of p (q ∷ qs)) ≡ false → (nat_eq p q ≡ false) × (is_in (index_of p qs) ≡ false)
not_in_cons p q qs e = or_none (nat_eq p q) (is_in (index_of p qs)) (sym (in_next (nat_eq p q) (index_of p qs)) ∙ e)

pub not_in_from : (p q : ℕ) (qs : List ℕ) → nat_eq p q ≡ false → is_in (index_of p qs) ≡ false → is_in (index_of p (q ∷ qs)) ≡ false
not_in_from p q qs a b = in_next (nat_eq p q) (index_of p qs) ∙ (ap (λ t. t || is_in (index_of p qs)) a ∙ b)

-- what isn't assigned stays
stays_at : (slots v m : List ℕ) (sets : ℕ → Bool) (q : ℕ) (o : Option ℕ) → index_of q slots ≡ o
    → ((p : ℕ) → sets p ≡ false → slice_index v p ≡ slice_index (gather slots m) p)
    → ((p : ℕ) → index_of q slots ≡ Some p → sets p ≡ false)
    → taken_from v o (slice_index m q) ≡ slice_index m q
stays_at slots v m sets q None e same out = refl
stays_at slots v m sets q (Some p) e same out =
    let h = index_of_is slots q p e in
    same p (out p e) ∙ (get_or-map (λ s. slice_index m s) slots p 0 0 h.within ∙ ap (λ r. slice_index m r) h.is)

stays : (slots v m : List ℕ) (sets : ℕ → Bool) (q : ℕ)
    → ((p : ℕ) → sets p ≡ false → slice_index v p ≡ slice_index (gather slots m) p)
    → ((p : ℕ) → index_of q slots ≡ Some p → sets p ≡ false)
    → slice_index (scatter slots v m) q ≡ slice_index m q
stays slots v m sets q same out = elim (cases_lt q (length m)) [
  | inl h ↦ scatter_at slots v m q h ∙ stays_at slots v m sets q (index_of q slots) refl same out
  | inr h ↦ get_or_past (scatter slots v m) q 0 (omega (arith, scatter_length slots v m)) ∙ sym (get_or_past m q 0 h)
]

pub gather_like : (slots m n : List ℕ) → ((i : ℕ) → i < length slots → slice_index m (slice_index slots i) ≡ slice_index n (slice_index slots i)) → gather slots m ≡ gather slots n
gather_like [] m n h = refl
gather_like (s ∷ ss) m n h = ap (λ v. v ∷ gather ss m) (h 0 (omega arith)) ∙ ap (λ (vs : List ℕ). slice_index n s ∷ vs) (gather_like ss m n (λ i k. h (suc i) (omega (arith, k))))

in_self : (slots : List ℕ) (i : ℕ) → i < length slots → is_in (index_of (slice_index slots i) slots) ≡ true
in_self [] i h = absurd (omega arith)
in_self (s ∷ ss) zero h = let e : nat_eq s s ≡ true = grind (arith, nat_tests) in in_next (nat_eq s s) (index_of s ss) ∙ ap (λ t. t || is_in (index_of s ss)) e
in_self (s ∷ ss) (suc i) h =
    in_next (nat_eq (slice_index ss i) s) (index_of (slice_index ss i) ss)
    ∙ (ap (λ t. nat_eq (slice_index ss i) s || t) (in_self ss i (omega (arith, h))) ∙ or_right (nat_eq (slice_index ss i) s))

pub not_in_any : (qs slots : List ℕ) (i : ℕ) → any_in qs slots ≡ false → i < length slots → is_in (index_of (slice_index slots i) qs) ≡ false
not_in_any [] slots i e h = refl
not_in_any (q ∷ qs) slots i e h =
    let k = or_none (is_in (index_of q slots)) (any_in qs slots) e in
    not_in_from (slice_index slots i) q qs (by_test (nat_eq (slice_index slots i) q) refl k.0) (not_in_any qs slots i k.1 h)
  where
    by_test : (b : Bool) → nat_eq (slice_index slots i) q ≡ b → is_in (index_of q slots) ≡ false → b ≡ false
    by_test false t o = refl
    by_test true t o =
        let s : slice_index slots i ≡ q = grind (arith, nat_tests) in
        let u : is_in (index_of q slots) ≡ true = ap (λ r. is_in (index_of r slots)) (sym s) ∙ in_self slots i h in
        absurd (true≢false (sym u ∙ o))

true_apart : (b : Bool) → b ≡ true → b ≡ false → ⊥
true_apart b t f = true≢false (sym t ∙ f)

-- a shared place that was assigned is written
unset_write : (b : Bool) (q x y : ℕ) (ws : List (ℕ × ℕ)) → x ≡ q → is_in (index_of q (places_of (with_write b (x, y) ws))) ≡ false → b ≡ false
unset_write false q x y ws e out = refl
unset_write true q x y ws e out =
    let t : nat_eq q x ≡ true = grind (arith, nat_tests) in
    absurd (true_apart (nat_eq q x) t (not_in_cons q x (places_of ws) out).0)

rest_write : (b : Bool) (q x y : ℕ) (ws : List (ℕ × ℕ)) → is_in (index_of q (places_of (with_write b (x, y) ws))) ≡ false → is_in (index_of q (places_of ws)) ≡ false
rest_write false q x y ws out = out
rest_write true q x y ws out = (not_in_cons q x (places_of ws) out).1

unset_at : (n : ℕ) (others : List ℕ) (sets : ℕ → Bool) (q : ℕ) → is_in (index_of q others) ≡ true → (part : List Slot) (v : List ℕ) (a p : ℕ) → length v ≡ length part → p < length part → slice_index (map place_of part) p ≡ q
    → AllApart n (λ x. index_of x others ≡ None) part → is_in (index_of q (places_of (writes_from sets a part v))) ≡ false → sets (a + p) ≡ false
unset_at n others sets q inside [] v a p long h is apart out = absurd (omega (arith, h))
unset_at n others sets q inside (s ∷ ss) [] a p long h is apart out = absurd (omega (arith, long))
unset_at n others sets q inside (Private x ∷ ss) (y ∷ vs) a zero long h is apart out =
    absurd (true_apart (is_in (index_of q others)) inside (ap (λ z. is_in (index_of z others)) (sym is) ∙ ap is_in apart.1))
unset_at n others sets q inside (Private x ∷ ss) (y ∷ vs) a (suc p) long h is apart out =
    let e : suc a + p ≡ a + suc p = omega arith in
    ap sets (sym e) ∙ unset_at n others sets q inside ss vs (suc a) p (omega (arith, long)) (omega (arith, h)) is apart.2 out
unset_at n others sets q inside (Shared x ∷ ss) (y ∷ vs) a zero long h is apart out =
    let e : a ≡ a + zero = omega arith in
    ap sets (sym e) ∙ unset_write (sets a) q x y (writes_from sets (suc a) ss vs) is out
unset_at n others sets q inside (Shared x ∷ ss) (y ∷ vs) a (suc p) long h is apart out =
    let e : suc a + p ≡ a + suc p = omega arith in
    ap sets (sym e) ∙ unset_at n others sets q inside ss vs (suc a) p (omega (arith, long)) (omega (arith, h)) is apart.1 (rest_write (sets a) q x y (writes_from sets (suc a) ss vs) out)

-- a leaf that has no written place sees what it saw
pub untouched : (n : ℕ) (part : List Slot) (others v m : List ℕ) (sets : ℕ → Bool) → length v ≡ length part
    → ((p : ℕ) → sets p ≡ false → slice_index v p ≡ slice_index (gather (map place_of part) m) p)
    → AllApart n (λ x. index_of x others ≡ None) part
    → any_in (places_of (writes_from sets 0 part v)) others ≡ false
    → gather others (scatter (map place_of part) v m) ≡ gather others m
untouched n part others v m sets long same apart out = gather_like others (scatter (map place_of part) v m) m (λ i h.
    stays (map place_of part) v m sets (slice_index others i) same (λ p e.
    let k = index_of_is (map place_of part) (slice_index others i) p e in
    let z : p ≡ 0 + p = omega arith in
    ap sets z ∙ unset_at n others sets (slice_index others i) (in_self others i h) part v 0 p long (omega (arith, k.within, length-map part place_of)) k.is apart (not_in_any (places_of (writes_from sets 0 part v)) others i out h)))

pub writes_none : (sets : ℕ → Bool) → ((p : ℕ) → sets p ≡ false) → (part : List Slot) (v : List ℕ) (a : ℕ) → writes_from sets a part v ≡ []
writes_none sets none [] v a = refl
writes_none sets none (s ∷ ss) [] a = refl
writes_none sets none (Private x ∷ ss) (y ∷ vs) a = writes_none sets none ss vs (suc a)
writes_none sets none (Shared x ∷ ss) (y ∷ vs) a = ap (λ b. with_write b (x, y) (writes_from sets (suc a) ss vs)) (none a) ∙ writes_none sets none ss vs (suc a)

-- the writes put the leaf's values in the shared places
pub length_put : (ws : List (ℕ × ℕ)) (sh : List ℕ) → length (put ws sh) ≡ length sh
length_put [] sh = refl
length_put (w ∷ ws) sh = length-set (put ws sh) w.0 w.1 ∙ length_put ws sh

taken_later : (y : ℕ) (vs : List ℕ) (b : Bool) (o : Option ℕ) (z : ℕ) → b ≡ false → taken_from (y ∷ vs) (or_next b o) z ≡ taken_from vs o z
taken_later y vs true o z e = absurd (true≢false e)
taken_later y vs false None z e = refl
taken_later y vs false (Some p) z e = refl

taken_now : (y : ℕ) (vs : List ℕ) (b : Bool) (o : Option ℕ) (z : ℕ) → b ≡ true → taken_from (y ∷ vs) (or_next b o) z ≡ y
taken_now y vs false o z e = absurd (true≢false (sym e))
taken_now y vs true o z e = refl

put_other : (b : Bool) (q x y : ℕ) (ws : List (ℕ × ℕ)) (sh : List ℕ) → nat_eq q x ≡ false → slice_index (put (with_write b (x, y) ws) sh) q ≡ slice_index (put ws sh) q
put_other false q x y ws sh e = refl
put_other true q x y ws sh e = let n : q ≢ x = λ f. true≢false (sym (eq-eqb q x f) ∙ e) in get_or-set_other (put ws sh) x q y 0 n

put_here : (b : Bool) (q x y z : ℕ) (ws : List (ℕ × ℕ)) (sh : List ℕ) → q ≡ x → q < length sh → (b ≡ false → slice_index (put ws sh) q ≡ y) → slice_index (put (with_write b (x, y) ws) sh) q ≡ y
put_here false q x y z ws sh e h f = f refl
put_here true q x y z ws sh e h f = ap (λ r. slice_index (slice_set (put ws sh) r y) q) (sym e) ∙ get_or-set_same (put ws sh) q y 0 (omega (arith, h, length_put ws sh))

put_at : (n : ℕ) (P : ℕ → Type 0) (sets : ℕ → Bool) (sh : List ℕ) (q : ℕ) → q < length sh → length sh ≤ n → (part : List Slot) (v : List ℕ) (a : ℕ) → length v ≡ length part → AllApart n P part → AreDistinct (map place_of part)
    → ((p : ℕ) → p < length part → sets (a + p) ≡ false → slice_index (map place_of part) p ≡ q → slice_index v p ≡ slice_index sh q)
    → slice_index (put (writes_from sets a part v) sh) q ≡ taken_from v (index_of q (map place_of part)) (slice_index sh q)
put_at n P sets sh q h small [] v a long apart d same = refl
put_at n P sets sh q h small (s ∷ ss) [] a long apart d same = absurd (omega (arith, long))
put_at n P sets sh q h small (Private x ∷ ss) (y ∷ vs) a long apart d same =
    let ne : q ≢ x = omega (arith, h, small, apart.0) in
    put_at n P sets sh q h small ss vs (suc a) (omega (arith, long)) apart.2 d.1 (λ p l e is. let z : a + suc p ≡ suc a + p = omega arith in same (suc p) (omega (arith, l)) (ap sets z ∙ e) is)
    ∙ sym (taken_later y vs (nat_eq q x) (index_of q (map place_of ss)) (slice_index sh q) (ne_eqb q x ne))
put_at n P sets sh q h small (Shared x ∷ ss) (y ∷ vs) a long apart d same =
    by_test (nat_eq q x) refl (put_at n P sets sh q h small ss vs (suc a) (omega (arith, long)) apart.1 d.1 (λ p l e is. let z : a + suc p ≡ suc a + p = omega arith in same (suc p) (omega (arith, l)) (ap sets z ∙ e) is))
  where
    by_test : (b : Bool) → nat_eq q x ≡ b → slice_index (put (writes_from sets (suc a) ss vs) sh) q ≡ taken_from vs (index_of q (map place_of ss)) (slice_index sh q)
        → slice_index (put (with_write (sets a) (x, y) (writes_from sets (suc a) ss vs)) sh) q ≡ taken_from (y ∷ vs) (or_next (nat_eq q x) (index_of q (map place_of ss))) (slice_index sh q)
    by_test false t rest = put_other (sets a) q x y (writes_from sets (suc a) ss vs) sh t ∙ (rest ∙ sym (taken_later y vs (nat_eq q x) (index_of q (map place_of ss)) (slice_index sh q) t))
    by_test true t rest =
        let e : q ≡ x = eqb-true q x t in
        put_here (sets a) q x y 0 (writes_from sets (suc a) ss vs) sh e h (λ f.
        rest ∙ (ap (λ o. taken_from vs o (slice_index sh q)) (ap (λ r. index_of r (map place_of ss)) e ∙ d.0)
        ∙ sym (let z : a + zero ≡ a = omega arith in same 0 (omega arith) (ap sets z ∙ f) (sym e))))
        ∙ sym (taken_now y vs (nat_eq q x) (index_of q (map place_of ss)) (slice_index sh q) t)

pub put_is : (n : ℕ) (P : ℕ → Type 0) (sets : ℕ → Bool) (sh : List ℕ) (part : List Slot) (v : List ℕ) → length sh ≤ n → length v ≡ length part → AllApart n P part → AreDistinct (map place_of part)
    → ((p q : ℕ) → p < length part → q < length sh → sets p ≡ false → slice_index (map place_of part) p ≡ q → slice_index v p ≡ slice_index sh q)
    → put (writes_from sets 0 part v) sh ≡ scatter (map place_of part) v sh
put_is n P sets sh part v small long apart d same = ext_get_or 0 (put (writes_from sets 0 part v) sh) (scatter (map place_of part) v sh) (length_put (writes_from sets 0 part v) sh ∙ sym (scatter_length (map place_of part) v sh)) (λ q h.
    let k : q < length sh = omega (arith, h, length_put (writes_from sets 0 part v) sh) in
    put_at n P sets sh q k small part v 0 long apart d (λ p l e is. let z : p ≡ 0 + p = omega arith in same p q l k (ap sets z ∙ e) is)
    ∙ sym (scatter_at (map place_of part) v sh q k))

-- a leaf's list of values from its own and the shared ones
pub leaf_view_is : (n : ℕ) (IsOthers : ℕ → Type 0) (part : List Slot) (m : List ℕ) → AllApart n IsOthers part → leaf_view part (gather (privates part) m) (take n m) ≡ gather (map place_of part) m
leaf_view_is n P [] m a = refl
leaf_view_is n P (Private p ∷ ss) m a = ap (λ (vs : List ℕ). slice_index m p ∷ vs) (leaf_view_is n P ss m a.2)
leaf_view_is n P (Shared q ∷ ss) m a =
    ap (λ v. v ∷ leaf_view ss (gather (privates ss) m) (take n m)) (get_or-take n m q 0 a.0)
    ∙ ap (λ (vs : List ℕ). slice_index m q ∷ vs) (leaf_view_is n P ss m a.1)

pub own_is : (part : List Slot) (m : List ℕ) → own part (gather (map place_of part) m) ≡ gather (privates part) m
own_is [] m = refl
own_is (Private p ∷ ss) m = ap (λ (vs : List ℕ). slice_index m p ∷ vs) (own_is ss m)
own_is (Shared q ∷ ss) m = own_is ss m

pub privates_stay : (n : ℕ) (slots v m : List ℕ) (part : List Slot) → AllApart n (λ p. index_of p slots ≡ None) part → gather (privates part) (scatter slots v m) ≡ gather (privates part) m
privates_stay n slots v m [] a = refl
privates_stay n slots v m (Private p ∷ ss) a =
    ap (λ x. x ∷ gather (privates ss) (scatter slots v m)) (scatter_frame slots v m p a.1)
    ∙ ap (λ (vs : List ℕ). slice_index m p ∷ vs) (privates_stay n slots v m ss a.2)
privates_stay n slots v m (Shared q ∷ ss) a = privates_stay n slots v m ss a.1
