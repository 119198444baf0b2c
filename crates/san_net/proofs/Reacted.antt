-- The renewal of an activity with a pair, by computation.
use Rattle.san_expr.proofs.EvalLemmas.{value_of-place}
use Rattle.std.proofs.Common.{ℕ, ℤ, ◌≡◌, ◌∙◌, ap, refl, Ok, Some, None, Option, List, [], ◌∷◌}
use Rattle.std.specs.Prelude.{not}
use Rattle.san_expr.specs.Delay.{delay_of}
use Rattle.san_expr.specs.Meaning.{Meaning, settled, then_do, value_at}
use Rattle.san_expr.specs.Value.{is_zero, value_of}
use Rattle.san_expr.specs.declared.expr.Expr.TheVariants.{Place}
use Rattle.san_expr.specs.declared.dist.Dist.TheVariants as dist
use Rattle.san_law.specs.Activity as leaf
use Rattle.san_law.specs.Clocks.{renewed_row}
use Rattle.san_law.specs.Net as net
use Rattle.san_net.specs.Examples.{held_timer, renewed_reacting, row_with, timer}
use Rattle.san_net.specs.Leaf.{answer_by, completed_in, enabled_in, impulses_in}
use Rattle.san_net.specs.Examples as example
use Rattle.san_net.specs.declared.activity.Activity.{Activity}

abbrev holds_by : Meaning ℤ → List ℕ → leaf.Answer
holds_by m v = answer_by (then_do m (λ x. settled (Ok (not (is_zero x)))) v).answer

-- the renewal by what the two predicates come to
module _ (activation reactivation : Meaning ℤ) where
  abbrev the_activity : Activity
  the_activity = example.reacting_activity

  abbrev activity_by : leaf.Activity
  activity_by = record {
    kind = leaf.Timed (λ u v. (delay_of (dist.Table ((2, 1) ∷ [])) u v).answer) (Some (record { activation = holds_by activation; reactivation = holds_by reactivation }));
    enabled = enabled_in the_activity;
    complete = completed_in the_activity;
    impulses = impulses_in [] 0;
  }

  abbrev part_by : leaf.Part
  part_by = record { slots = net.Private 0 ∷ net.Private 1 ∷ []; first = 0; activities = activity_by ∷ []; rates = λ v. []; terms = [] }

  abbrev renewed_by : ℕ → ℕ → List (Option net.Timer) → net.Renewing
  renewed_by p q timers = renewed_row (λ s k. 0) part_by 10 (0 ∷ 0 ∷ []) (record { values = p ∷ q ∷ []; row = row_with timers 0 })

is_computed : (p q : ℕ) (timers : List (Option net.Timer)) → renewed_reacting p q timers ≡ renewed_by (value_at 0) (value_at 1) p q timers
is_computed p q timers =
    ap (λ (m : Meaning ℤ). renewed_by m (value_of (Place 1)) p q timers) (value_of-place 0) ∙ ap (λ (m : Meaning ℤ). renewed_by (value_at 0) m p q timers) (value_of-place 1)

pub activated_held : renewed_reacting 1 0 (None ∷ []) ≡ net.Fresh (row_with (Some (held_timer 12) ∷ []) 1)
activated_held = is_computed 1 0 (None ∷ []) ∙ refl

pub activated_bare : renewed_reacting 0 1 (None ∷ []) ≡ net.Fresh (row_with (Some (timer 12) ∷ []) 1)
activated_bare = is_computed 0 1 (None ∷ []) ∙ refl

pub activated_anew : renewed_reacting 0 1 (Some (held_timer 11) ∷ []) ≡ net.Fresh (row_with (Some (timer 12) ∷ []) 1)
activated_anew = is_computed 0 1 (Some (held_timer 11) ∷ []) ∙ refl

pub kept_without_reactivation : renewed_reacting 1 0 (Some (held_timer 11) ∷ []) ≡ net.Fresh (row_with (Some (held_timer 11) ∷ []) 0)
kept_without_reactivation = is_computed 1 0 (Some (held_timer 11) ∷ []) ∙ refl

pub kept_without_activation : renewed_reacting 0 1 (Some (timer 11) ∷ []) ≡ net.Fresh (row_with (Some (timer 11) ∷ []) 0)
kept_without_activation = is_computed 0 1 (Some (timer 11) ∷ []) ∙ refl
