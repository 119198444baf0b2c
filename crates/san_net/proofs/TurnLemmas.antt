-- Actions of a list's items, one after another; and sums and searches over cases.
use Rattle.san_base.proofs.Bools.{and_both}
use Rattle.std.proofs.Common.{ℕ, suc, ◌+◌, ◌<◌, ◌≡◌, ◌∙◌, ap, sym, refl, subst, Bool, true, false, ◌&&◌, IsTrue, Option, Some, None, Result, Ok, Err, List, [], ◌∷◌, length, map, get_or, drop, drop-cons, add-one}
use Rattle.san_base.specs.declared.ending.Trap.{Trap}
use Rattle.san_expr.specs.View.{ViewState}
use Rattle.san_expr.specs.Effect.{Acts, in_turn}
use Rattle.san_expr.specs.Meets.{Evaluates, Meets}
use Rattle.san_expr.specs.Below.{Bounded, all_below}
use Rattle.san_expr.proofs.ComposeLemmas.{evaluates_settled, evaluates_stop, evaluates_then, meets_stop, meets_then}
use Rattle.san_net.specs.Choice.{weight_of}
use Rattle.san_net.specs.inner.Weighing.{found_from, passed, stop_or, total_from, weigh}
use Rattle.san_net.specs.declared.activity.Case.{Case}

module _ {A : Type 0} where
  pub rest_at : (xs : List A) (i : ℕ) (x : A) → i < length xs → x ≡ get_or xs i x → drop i xs ≡ x ∷ drop (i + 1) xs
  rest_at xs i x h is = drop-cons xs i x h ∙ (ap (λ (y : A). y ∷ drop (suc i) xs) (sym is) ∙ ap (λ n. x ∷ drop n xs) (sym (add-one i)))

  -- the first of the rest, and what follows it
  pub first_below : (below : A → Bounded) (xs : List A) (i k places : ℕ) (x : A) → i < length xs → x ≡ get_or xs i x → k ≡ places → IsTrue (all_below (map below (drop i xs)) places)
      → IsTrue (below x k) × IsTrue (all_below (map below (drop (i + 1) xs)) places)
  first_below below xs i k places x h is same holds =
      let at = rest_at xs i x h is in
      let b = and_both (below x places) (all_below (map below (drop (i + 1) xs)) places) (subst (λ (ys : List A). IsTrue (all_below (map below ys) places)) at holds) in
      (subst (λ (n : ℕ). IsTrue (below x n)) (sym same) b.0, b.1)

  -- what the rest of the items does from here on, all of them do from the start
  abbrev pub Stands : (A → Acts) → ViewState → ViewState → List A → List A → Type 0
  Stands act was now xs rest = (new : ViewState) (r : Result (Unit {0}) Trap) → Meets now new (in_turn (map act rest)) r → Meets was new (in_turn (map act xs)) r

  pub stands_more : (act : A → Acts) (was now next : ViewState) (xs rest : List A) (x : A) (done : Result (Unit {0}) Trap) → Stands act was now xs (x ∷ rest)
      → done ≡ Ok tt → Meets now next (act x) done → Stands act was next xs rest
  stands_more act was now next xs rest x done stands is p = λ new r q.
      stands new r (meets_then now next new (act x) (λ _. in_turn (map act rest)) tt r (subst (λ (a : Result (Unit {0}) Trap). Meets now next (act x) a) is p) q)

  pub stands_trap : (act : A → Acts) (was now new : ViewState) (xs rest : List A) (x : A) (t : Trap) (done : Result (Unit {0}) Trap) → Stands act was now xs (x ∷ rest)
      → done ≡ Err t → Meets now new (act x) done → Meets was new (in_turn (map act xs)) (Err t)
  stands_trap act was now new xs rest x t done stands is p =
      stands new (Err t) (meets_stop now new (act x) (λ _. in_turn (map act rest)) t (subst (λ (a : Result (Unit {0}) Trap). Meets now new (act x) a) is p))

  pub stands_end : (act : A → Acts) (was now : ViewState) (xs rest : List A) → Stands act was now xs rest → rest ≡ [] → Meets was now (in_turn (map act xs)) (Ok tt)
  stands_end act was now xs rest stands none =
      stands now (Ok tt) (subst (λ (ys : List A). Meets now now (in_turn (map act ys)) (Ok tt)) (sym none) (evaluates_settled now (Ok tt)).meets)

-- the same of sums
abbrev pub Sums : ViewState → ViewState → List Case → Option ℕ → List Case → Type 0
Sums was now cases n rest = (new : ViewState) (r : Result (Option ℕ) Trap) → Evaluates now new (total_from n rest) r → Evaluates was new (total_from (Some 0) cases) r

pub sums_more : (was now next : ViewState) (cases rest : List Case) (n y : Option ℕ) (c : Case) (read : Result (Option ℕ) Trap) → Sums was now cases n (c ∷ rest)
    → read ≡ Ok y → Evaluates now next (weight_of c) read → Sums was next cases (weigh n y) rest
sums_more was now next cases rest n y c read sums is p = λ new r q.
    sums new r (evaluates_then now next new (weight_of c) (λ z. total_from (weigh n z) rest) y r (subst (λ (a : Result (Option ℕ) Trap). Evaluates now next (weight_of c) a) is p) q)

pub sums_trap : (was now new : ViewState) (cases rest : List Case) (n : Option ℕ) (c : Case) (t : Trap) (read : Result (Option ℕ) Trap) → Sums was now cases n (c ∷ rest)
    → read ≡ Err t → Evaluates now new (weight_of c) read → Evaluates was new (total_from (Some 0) cases) (Err t)
sums_trap was now new cases rest n c t read sums is p =
    sums new (Err t) (evaluates_stop now new (weight_of c) (λ z. total_from (weigh n z) rest) t (subst (λ (a : Result (Option ℕ) Trap). Evaluates now new (weight_of c) a) is p))

pub sums_end : (was now : ViewState) (cases rest : List Case) (n : Option ℕ) → Sums was now cases n rest → rest ≡ [] → Evaluates was now (total_from (Some 0) cases) (Ok n)
sums_end was now cases rest n sums none =
    sums now (Ok n) (subst (λ (ys : List Case). Evaluates now now (total_from n ys) (Ok n)) (sym none) (evaluates_settled now (Ok n)))

-- the same of searches
abbrev pub Finds : ViewState → ViewState → List Case → ℕ → ℕ → ℕ → List Case → Type 0
Finds was now cases picked left at rest = (new : ViewState) (r : Result ℕ Trap) → Evaluates now new (found_from left at rest) r → Evaluates was new (found_from picked 0 cases) r

pub finds_more : (was now next : ViewState) (cases rest : List Case) (picked left more at : ℕ) (y : Option ℕ) (c : Case) (read : Result (Option ℕ) Trap) → Finds was now cases picked left at (c ∷ rest)
    → read ≡ Ok y → passed left y ≡ Some more → Evaluates now next (weight_of c) read → Finds was next cases picked more (at + 1) rest
finds_more was now next cases rest picked left more at y c read finds is goes p = λ new r q.
    finds new r (evaluates_then now next new (weight_of c) (λ z. stop_or at (λ l. found_from l (suc at) rest) (passed left z)) y r (subst (λ (a : Result (Option ℕ) Trap). Evaluates now next (weight_of c) a) is p)
    (subst (λ (o : Option ℕ). Evaluates next new (stop_or at (λ l. found_from l (suc at) rest) o) r) (sym goes)
    (subst (λ (k : ℕ). Evaluates next new (found_from more k rest) r) (add-one at) q)))

pub finds_here : (was now new : ViewState) (cases rest : List Case) (picked left at : ℕ) (y : Option ℕ) (c : Case) (read : Result (Option ℕ) Trap) → Finds was now cases picked left at (c ∷ rest)
    → read ≡ Ok y → passed left y ≡ None → Evaluates now new (weight_of c) read → Evaluates was new (found_from picked 0 cases) (Ok at)
finds_here was now new cases rest picked left at y c read finds is stops p =
    finds new (Ok at) (evaluates_then now new new (weight_of c) (λ z. stop_or at (λ l. found_from l (suc at) rest) (passed left z)) y (Ok at) (subst (λ (a : Result (Option ℕ) Trap). Evaluates now new (weight_of c) a) is p)
    (subst (λ (o : Option ℕ). Evaluates new new (stop_or at (λ l. found_from l (suc at) rest) o) (Ok at)) (sym stops) (evaluates_settled new (Ok at))))

pub finds_trap : (was now new : ViewState) (cases rest : List Case) (picked left at : ℕ) (c : Case) (t : Trap) (read : Result (Option ℕ) Trap) → Finds was now cases picked left at (c ∷ rest)
    → read ≡ Err t → Evaluates now new (weight_of c) read → Evaluates was new (found_from picked 0 cases) (Err t)
finds_trap was now new cases rest picked left at c t read finds is p =
    finds new (Err t) (evaluates_stop now new (weight_of c) (λ z. stop_or at (λ l. found_from l (suc at) rest) (passed left z)) t (subst (λ (a : Result (Option ℕ) Trap). Evaluates now new (weight_of c) a) is p))

pub finds_end : (was now : ViewState) (cases rest : List Case) (picked left at : ℕ) → Finds was now cases picked left at rest → rest ≡ [] → Evaluates was now (found_from picked 0 cases) (Ok at)
finds_end was now cases rest picked left at finds none =
    finds now (Ok at) (subst (λ (ys : List Case). Evaluates now now (found_from left at ys) (Ok at)) (sym none) (evaluates_settled now (Ok at)))
