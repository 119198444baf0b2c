-- Passes that are a whole crew.
use Rattle.std.proofs.Common.{ℕ, zero, suc, ◌<◌, ◌≡◌, arith, subst, refl, Bool, true, false, List, length, nat_eq}
use Rattle.std.proofs.lemmas.Bool.{and_left, and_right, eqb-false, eqb-true}
use Rattle.san_base.proofs.Bools.{both_true}
use Rattle.san_board.specs.Passes.{BookedPass, has_all, has_number, is_crew}

-- without one number they don't have all
lacks : (n k : ℕ) (ps : List BookedPass) → k < n → has_number k ps ≡ false → has_all n ps ≡ false
lacks zero k ps l e = absurd (omega (arith, l))
lacks (suc n) k ps l e = by_test (nat_eq k n) refl (λ less. lacks n k ps less e)
  where
    by_test : (b : Bool) → nat_eq k n ≡ b → (k < n → has_all n ps ≡ false) → has_all (suc n) ps ≡ false
    by_test true t below = and_left (has_number n ps) (has_all n ps) (subst (λ (x : ℕ). has_number x ps ≡ false) (eqb-true k n t) e)
    by_test false t below = and_right (has_number n ps) (has_all n ps) (below (omega (arith, l, eqb-false k n t)))

pub no_crew : (n k : ℕ) (ps : List BookedPass) → k < n → has_number k ps ≡ false → is_crew n ps ≡ false
no_crew n k ps l e = and_right (nat_eq (length ps) n) (has_all n ps) (lacks n k ps l e)

-- a whole crew has as many passes as it is to have
pub crew_long : (n : ℕ) (ps qs : List BookedPass) → ps ≡ qs → is_crew n ps ≡ true → length qs ≡ n
crew_long n ps qs same e = subst (λ (xs : List BookedPass). length xs ≡ n) same (eqb-true (length ps) n (both_true (nat_eq (length ps) n) (has_all n ps) e).0)
