-- Lists by number.
use Rattle.std.proofs.Common.{ℕ, zero, suc, ◌+◌, ◌<◌, ◌≡◌, ◌≢◌, inl, inr, ap, sym, refl, subst, List, [], ◌∷◌, length, Some, None, Bool, true, false, arith, nat_eq}
use Rattle.std.proofs.lemmas.Bool.{cases_eq, ne_eqb, eq-eqb}
use Rattle.san_law.specs.Order.{first_true, flag, flags_from}

pub length_flags : (f : ℕ → Bool → Bool) (n : ℕ) (bs : List Bool) → length (flags_from f n bs) ≡ length bs
length_flags f n [] = refl
length_flags f n (b ∷ bs) = ap suc (length_flags f (suc n) bs)

flag_from : (f : ℕ → Bool → Bool) (n m i : ℕ) (bs : List Bool) → i < length bs → m ≡ n + i → flag (flags_from f n bs) i ≡ f m (flag bs i)
flag_from f n m i [] h e = absurd (omega (arith, h))
flag_from f n m zero (b ∷ bs) h e = let k : n ≡ m = omega (arith, e) in ap (λ r. f r b) k
flag_from f n m (suc i) (b ∷ bs) h e = flag_from f (suc n) m i bs (omega (arith, h)) (omega (arith, e))

pub flag_is : (f : ℕ → Bool → Bool) (i : ℕ) (bs : List Bool) → i < length bs → flag (flags_from f 0 bs) i ≡ f i (flag bs i)
flag_is f i bs h = flag_from f 0 i i bs h (omega arith)

-- the first that is set
pub record IsFirst (n : ℕ) (bs : List Bool) (j i : ℕ) : Type 0 where
  pub at : j ≡ n + i
  pub within : i < length bs
  pub set : flag bs i ≡ true
  pub below : (k : ℕ) → k < i → flag bs k ≡ false

first_later : (n j : ℕ) (bs : List Bool) → ((i : ℕ) × IsFirst (suc n) bs j i) → (i : ℕ) × IsFirst n (false ∷ bs) j i
first_later n j bs (i, h) = (suc i, record { at = omega (arith, h.at); within = omega (arith, h.within); set = h.set; below = before })
  where
    before : (k : ℕ) → k < suc i → flag (false ∷ bs) k ≡ false
    before zero l = refl
    before (suc k) l = h.below k (omega (arith, l))

first_by : (n j : ℕ) (bs : List Bool) → first_true n bs ≡ Some j → (i : ℕ) × IsFirst n bs j i
first_by n j [] e = cc
first_by n j (true ∷ bs) e = let k : n ≡ j = cc in (0, record { at = omega (arith, k); within = omega arith; set = refl; below = λ k h. absurd (omega (arith, h)) })
first_by n j (false ∷ bs) e = first_later n j bs (first_by (suc n) j bs e)

pub record IsLeast (bs : List Bool) (j : ℕ) : Type 0 where
  pub within : j < length bs
  pub set : flag bs j ≡ true
  pub below : (k : ℕ) → k < j → flag bs k ≡ false

pub first_is : (bs : List Bool) (j : ℕ) → first_true 0 bs ≡ Some j → IsLeast bs j
first_is bs j e = from_it (first_by 0 j bs e)
  where
    from_it : ((i : ℕ) × IsFirst 0 bs j i) → IsLeast bs j
    from_it (i, h) = let e : i ≡ j = omega (arith, h.at) in record {
      within = omega (arith, h.within, e);
      set = subst (λ k. flag bs k ≡ true) e h.set;
      below = λ k l. h.below k (omega (arith, l, e));
    }

none_from : (n : ℕ) (bs : List Bool) → first_true n bs ≡ None → (i : ℕ) → flag bs i ≡ false
none_from n [] e i = refl
none_from n (true ∷ bs) e i = cc
none_from n (false ∷ bs) e zero = refl
none_from n (false ∷ bs) e (suc i) = none_from (suc n) bs e i

pub none_is : (bs : List Bool) → first_true 0 bs ≡ None → (i : ℕ) → flag bs i ≡ false
none_is bs e i = none_from 0 bs e i
