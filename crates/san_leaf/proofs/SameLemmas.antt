-- Timers that are alike.
use Rattle.std.proofs.Common.{ℕ, ◌≡◌, ◌∙◌, ◌↔◌, ap, sym, refl, List, [], ◌∷◌, map, Option, Some, None}
use Rattle.std.specs.Option.{option_map}
use Rattle.san_clock.specs.Rows.{timer_in}
use Rattle.san_clock.specs.declared.row.Timer.{Timer}
use Rattle.san_law.specs.Net as net

abbrev timer_of : net.Timer → Timer
timer_of t = record { due = t.due; held = t.held }

abbrev row_by : List (Option net.Timer) → List ℕ → List ℕ → net.Row
row_by timers delays cases = record { timers = timers; delays = delays; cases = cases }

one_alike : (s t : Option Timer) → option_map timer_in s ≡ option_map timer_in t → s ≡ t
one_alike None None e = refl
one_alike None (Some t) e = cc
one_alike (Some s) None e = cc
one_alike (Some s) (Some t) e = let same : timer_in s ≡ timer_in t = cc in ap (λ x. Some (timer_of x)) same

pub timers_alike : (xs ys : List (Option Timer)) → map (option_map timer_in) xs ≡ map (option_map timer_in) ys → xs ≡ ys
timers_alike [] [] e = refl
timers_alike [] (y ∷ ys) e = cc
timers_alike (x ∷ xs) [] e = cc
timers_alike (x ∷ xs) (y ∷ ys) e =
    let head : option_map timer_in x ≡ option_map timer_in y = cc in
    let tail : map (option_map timer_in) xs ≡ map (option_map timer_in) ys = cc in
    ap (λ z. z ∷ xs) (one_alike x y head) ∙ ap (λ zs. y ∷ zs) (timers_alike xs ys tail)

pub rows_alike : (a b : net.Row) (cases1 cases2 delays1 delays2 : List ℕ) (timers1 timers2 : List (Option Timer)) → cases1 ≡ a.cases → cases2 ≡ b.cases → delays1 ≡ a.delays → delays2 ≡ b.delays → map (option_map timer_in) timers1 ≡ a.timers → map (option_map timer_in) timers2 ≡ b.timers
    → cases1 ≡ cases2 → delays1 ≡ delays2 → (timers1 ≡ timers2) ↔ (a ≡ b)
rows_alike a b cases1 cases2 delays1 delays2 timers1 timers2 c1 c2 d1 d2 t1 t2 cases delays = (
  λ e. ap (λ (ts : List (Option net.Timer)). row_by ts a.delays a.cases) (sym t1 ∙ ap (map (option_map timer_in)) e ∙ t2)
      ∙ ap (λ (ds : List ℕ). row_by b.timers ds a.cases) (sym d1 ∙ delays ∙ d2)
      ∙ ap (λ (cs : List ℕ). row_by b.timers b.delays cs) (sym c1 ∙ cases ∙ c2),
  λ e. timers_alike timers1 timers2 (t1 ∙ ap (λ (r : net.Row). r.timers) e ∙ sym t2),
)
