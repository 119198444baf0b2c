-- A small network meets what the law asks.
use Rattle.std.proofs.Common.{ℕ, zero, suc, ◌≤◌, ◌≡◌, ◌≢◌, ◌∙◌, sym, refl, subst, List, [], ◌∷◌, length, None, Bool, true, false, arith, nat_eq, slice_index, cond}
use Rattle.std.specs.Prelude.{Result, Ok, Err, ◌/◌, ◌-◌}
use Rattle.san_base.specs.declared.ending.Trap.{Trap}
use Rattle.san_base.specs.declared.ending.Trap.TheVariants as trap
use Rattle.std.proofs.lemmas.Bool.{true≢false, eq-eqb}
use Rattle.std.proofs.lemmas.List.{get_or-set_other}
use Rattle.san_law.specs.Net.{Net}
use Rattle.san_law.specs.State.{index_of, part_of, slots_of}
use Rattle.san_law.specs.Order.{is_in, places_of}
use Rattle.san_law.specs.Core.{put}
use Rattle.san_law.specs.Lawful.{AllApart, AllBelow, AreDistinct, IsLaid}
use Rattle.san_law.specs.Activity.{Activity, Effected, IsMade, no_activity}
use Rattle.san_law.specs.Network.{AllMade}
use Rattle.san_law.specs.Examples.{assigned, divide, divided, net_with, set_and_divide, set_shared}
use Rattle.san_law.proofs.Places.{length_put, not_in_cons}

-- what isn't written stays
put_out : (ws : List (ℕ × ℕ)) (v : List ℕ) (p : ℕ) → is_in (index_of p (places_of ws)) ≡ false → slice_index (put ws v) p ≡ slice_index v p
put_out [] v p out = refl
put_out (w ∷ ws) v p out =
    let k = not_in_cons p w.0 (places_of ws) out in
    let n : p ≢ w.0 = λ e. true≢false (sym (eq-eqb p w.0 e) ∙ k.0) in
    get_or-set_other (put ws v) w.0 p w.1 0 n ∙ put_out ws v p k.1

-- a completion that writes, or traps
abbrev Writes : List ℕ → Result Effected Trap → Type 0
Writes v (Err trap) = Unit {0}
Writes v (Ok e) = (length e.values ≡ length v) × ((p : ℕ) → e.sets p ≡ false → slice_index e.values p ≡ slice_index v p)

writes : (ws : List (ℕ × ℕ)) (v : List ℕ) → Writes v (assigned ws v)
writes ws v = (length_put ws v, λ p out. put_out ws v p out)

made_by : (a : Activity) → ((u : ℕ) (v : List ℕ) → Writes v (a.complete u v)) → ((v : List ℕ) → length (a.impulses v) ≤ 1024) → IsMade a
made_by a h few = record {
  keeps = λ u v e is. (subst (Writes v) is (h u v)).0;
  sets = λ u v e is. (subst (Writes v) is (h u v)).1;
  few = few;
}

divides : (v : List ℕ) → Writes v (divided v)
divides v = by_test (nat_eq (slice_index v 0) 0)
  where
    by_test : (b : Bool) → Writes v (cond b (Err trap.Arith) (assigned ((1, 10 / slice_index v 0) ∷ (2, slice_index v 2 - 1) ∷ []) v))
    by_test true = tt
    by_test false = writes ((1, 10 / slice_index v 0) ∷ (2, slice_index v 2 - 1) ∷ []) v

no_impulse : (v : List ℕ) → 0 ≤ 1024
no_impulse v = omega arith

pub none_made : IsMade no_activity
none_made = made_by no_activity (λ u v. tt) no_impulse

pub set_and_divide_is_made : AllMade set_and_divide
set_and_divide_is_made zero zero = made_by set_shared (λ u v. writes ((0, 1) ∷ (1, slice_index v 1 - 1) ∷ []) v) no_impulse
set_and_divide_is_made zero (suc k) = none_made
set_and_divide_is_made (suc zero) zero = made_by divide (λ u v. divides v) no_impulse
set_and_divide_is_made (suc zero) (suc k) = none_made
set_and_divide_is_made (suc (suc j)) k = none_made

abbrev the_net : Net
the_net = net_with set_and_divide 10 1000 20

below : (j : ℕ) → AllBelow (slots_of the_net j) 4
below zero = (omega arith, (omega arith, tt))
below (suc zero) = (omega arith, (omega arith, (omega arith, tt)))
below (suc (suc j)) = tt

distinct : (j : ℕ) → AreDistinct (slots_of the_net j)
distinct zero = (refl, (refl, tt))
distinct (suc zero) = (refl, (refl, (refl, tt)))
distinct (suc (suc j)) = tt

apart : (i j : ℕ) → j ≢ i → AllApart 1 (λ p. index_of p (slots_of the_net j) ≡ None) (part_of the_net i)
apart zero zero n = absurd (n refl)
apart zero (suc zero) n = (omega arith, (omega arith, refl, tt))
apart zero (suc (suc j)) n = (omega arith, (omega arith, refl, tt))
apart (suc zero) zero n = (omega arith, (omega arith, refl, (omega arith, refl, tt)))
apart (suc zero) (suc zero) n = absurd (n refl)
apart (suc zero) (suc (suc j)) n = (omega arith, (omega arith, refl, (omega arith, refl, tt)))
apart (suc (suc i)) j n = tt

pub set_and_divide_is_laid : IsLaid the_net 4
set_and_divide_is_laid = record { below = below; distinct = distinct; apart = apart }
