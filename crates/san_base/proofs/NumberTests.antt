-- Numbers that tests compare, and options that hold them.
use Rattle.std.proofs.Common.{ℕ, ◌<◌, ◌≤◌, ◌≡◌, ◌≢◌, inl, inr, sym, refl, subst, Option, Some, Bool, true, false, nat_eq, nat_le, nat_lt, arith}
use Rattle.std.proofs.lemmas.Bool.{cases_eq, eq-eqb, eqb-true, ne_eqb}
use Rattle.std.proofs.lemmas.Bool.Decides.{nat_tests}

pub same_number : (m n : ℕ) → nat_eq m n ≡ true → m ≡ n
same_number m n h = eqb-true m n h

pub number_itself : (n : ℕ) → nat_eq n n ≡ true
number_itself n = eq-eqb n n refl

pub other_number : (m n : ℕ) → m ≢ n → nat_eq m n ≡ false
other_number m n d = ne_eqb m n d

pub number_turned : (m n : ℕ) → nat_eq m n ≡ false → nat_eq n m ≡ false
number_turned m n h = grind (arith, nat_tests)

pub number_below : (m n : ℕ) → nat_lt m n ≡ true → m < n
number_below m n h = grind (arith, nat_tests)

pub number_within : (m n : ℕ) → m ≤ n → nat_le m n ≡ true
number_within m n h = grind (arith, nat_tests)

-- at one number and at all others
pub by_number : (P : ℕ → Type 0) (j : ℕ) → P j → ((i : ℕ) → i ≢ j → P i) → (i : ℕ) → P i
by_number P j a b i = elim (cases_eq i j) [ inl e ↦ subst P (sym e) a | inr n ↦ b i n ]

pub some_same : {X : Type 0} (x y : X) → Some x ≡ Some y → x ≡ y
some_same x y e = cc
