-- Joined pieces that are pushed, popped and cut.
use Rattle.std.proofs.Common.{ℕ, zero, suc, ◌≡◌, List, [], ◌∷◌, ◌++◌, take, drop, length, get_or, ap, refl, arith, Some}
use Rattle.san_chain.specs.Chains.{GoesOn, end_from, end_of}
use Rattle.san_chain.specs.inner.Joined.{Joins, JoinsFrom}

joins_from_push : {P S : Type 0} (base end : P → S) (e : S) (xs : List (ℕ × P)) (x : ℕ × P) → JoinsFrom base end e xs → base x.1 ≡ end_from end e xs → JoinsFrom base end e (xs ++ (x ∷ []))
joins_from_push base end e [] x h k = (k, tt)
joins_from_push base end e (y ∷ ys) x h k = (h.0, joins_from_push base end (end y.1) ys x h.1 k)

pub joins_push : {P S : Type 0} (base end : P → S) (xs : List (ℕ × P)) (x : ℕ × P) → Joins base end xs → GoesOn (base x.1) (end_of end xs) → Joins base end (xs ++ (x ∷ []))
joins_push base end [] x h k = tt
joins_push base end (y ∷ ys) x h k = joins_from_push base end (end y.1) ys x h k

joins_from_take : {P S : Type 0} (base end : P → S) (e : S) (n : ℕ) (xs : List (ℕ × P)) → JoinsFrom base end e xs → JoinsFrom base end e (take n xs)
joins_from_take base end e zero xs h = tt
joins_from_take base end e (suc n) [] h = tt
joins_from_take base end e (suc n) (x ∷ xs) h = (h.0, joins_from_take base end (end x.1) n xs h.1)

pub joins_take : {P S : Type 0} (base end : P → S) (n : ℕ) (xs : List (ℕ × P)) → Joins base end xs → Joins base end (take n xs)
joins_take base end zero xs h = tt
joins_take base end (suc n) [] h = tt
joins_take base end (suc n) (x ∷ xs) h = joins_from_take base end (end x.1) n xs h

pub joins_rest : {P S : Type 0} (base end : P → S) (xs : List (ℕ × P)) → Joins base end xs → Joins base end (drop 1 xs)
joins_rest base end [] h = tt
joins_rest base end (x ∷ []) h = tt
joins_rest base end (x ∷ (y ∷ ys)) h = h.1

end_from_last : {P S : Type 0} (end : P → S) (e : S) (n : ℕ) (x : ℕ × P) (xs : List (ℕ × P)) → length xs ≡ suc n → end_from end e xs ≡ end (get_or xs n x).1
end_from_last end e n x [] h = absurd (omega (arith, h))
end_from_last end e zero x (y ∷ []) h = refl
end_from_last end e zero x (y ∷ (z ∷ zs)) h = absurd (omega (arith, h))
end_from_last end e (suc n) x (y ∷ ys) h = end_from_last end (end y.1) n x ys (omega (arith, h))

-- the end is the last piece's
pub end_is_last : {P S : Type 0} (end : P → S) (n : ℕ) (x : ℕ × P) (xs : List (ℕ × P)) → length xs ≡ suc n → end_of end xs ≡ Some (end (get_or xs n x).1)
end_is_last end n x [] h = absurd (omega (arith, h))
end_is_last end zero x (y ∷ []) h = refl
end_is_last end zero x (y ∷ (z ∷ zs)) h = absurd (omega (arith, h))
end_is_last end (suc n) x (y ∷ ys) h = ap (λ s. Some s) (end_from_last end (end y.1) n x ys (omega (arith, h)))
