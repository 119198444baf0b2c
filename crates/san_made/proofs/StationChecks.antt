-- A ring's station and its reward have no fault.
use Rattle.std.proofs.Common.{◌≡◌, ℕ, Bool, false, refl, sym, subst, List, [], ◌∷◌, ◌++◌, None, map, codes}
use Rattle.san_base.specs.declared.op.Op.{Op}
use Rattle.san_text.specs.declared.syntax.Ast.{Ast}
use Rattle.san_text.specs.declared.syntax.Ast.TheFolds.{fold-roll-Ast}
use Rattle.san_text.specs.declared.syntax.Ast.TheOpen.{Ast-F}
use Rattle.san_text.specs.declared.syntax.Ast.TheVariants as ast
use Rattle.san_text.specs.declared.syntax.Ast.TheViews as view
use Rattle.san_text.specs.declared.syntax.DistDecl.TheVariants as dist
use Rattle.san_text.specs.declared.syntax.TermDecl.{TermDecl}
use Rattle.san_text.specs.declared.syntax.TermDecl.TheVariants as term
use Rattle.san_check.specs.Tables.{declared}
use Rattle.san_check.specs.walk.Activity.{ActNames, act_code, act_entries, arc_entries, cases_entries, dist_entries, input_entries, output_entries, pair_entries, timing_entries, weight_entries}
use Rattle.san_check.specs.walk.Atomic.{acts_entries, all_acts, all_places, initial_entries, length_entries, place_code, places_entries}
use Rattle.san_check.specs.walk.Composition.{Models, all_models, known_of, model_entries, name_code}
use Rattle.san_check.specs.walk.Entries.{Entries, joined}
use Rattle.san_check.specs.walk.Expression.{Places, entry, expr_entries, expr_step, first_entries, whole}
use Rattle.san_check.specs.walk.Reward.{end_code, impulse_code, reward_code, reward_entries, rewards_entries, span_entries, term_entries, terms_entries}
use Rattle.san_made.proofs.RingChecks.{AllNone, all_clear, none_append}
use Rattle.san_made.proofs.RingModel.{done_place, local_act, pass_act, reward, ring, station, token_place}

-- a number has no fault
number_entries : (places : Places) (n : ℕ) → first_entries places (ast.Number n) ≡ λ late. entry late None ∷ []
unfolding view.roll-Ast denote.Hole.Carrier.roll
number_entries places n = fold-roll-Ast (Bool → Entries) (expr_step places) (Ast-F.Number n)

pub number_clear : (places : Places) (n : ℕ) → AllNone (expr_entries places (ast.Number n))
unfolding entry
number_clear places n = subst (λ (f : Bool → Entries). AllNone (f false)) (sym (number_entries places n)) (refl, tt)

-- a name has none where it stands for a place that is no array
name_entries : (places : Places) (name : List ℕ) → first_entries places (ast.Name name) ≡ λ late. entry late (whole places name) ∷ []
unfolding view.roll-Ast denote.Hole.Carrier.roll
name_entries places name = fold-roll-Ast (Bool → Entries) (expr_step places) (Ast-F.Name name)

pub name_clear : (places : Places) (name : List ℕ) → whole places name ≡ None → AllNone (expr_entries places (ast.Name name))
unfolding entry
name_clear places name e = subst (λ (f : Bool → Entries). AllNone (f false)) (sym (name_entries places name)) (e, tt)

-- nor have two operands together
binary_entries : (places : Places) (o : Op) (a b : Ast) → first_entries places (ast.Binary o a b) ≡ λ late. first_entries places a late ++ first_entries places b false
unfolding view.roll-Ast denote.Hole.Carrier.roll
binary_entries places o a b = fold-roll-Ast (Bool → Entries) (expr_step places) (Ast-F.Binary o a b)

pub binary_clear : (places : Places) (o : Op) (a b : Ast) → AllNone (expr_entries places a) → AllNone (expr_entries places b) → AllNone (expr_entries places (ast.Binary o a b))
binary_clear places o a b first second = subst (λ (f : Bool → Entries). AllNone (f false)) (sym (binary_entries places o a b)) (none_append (expr_entries places a) (expr_entries places b) first second)

-- the station
abbrev shown : Places
shown = all_places [] (token_place (codes "inbox") ∷ token_place (codes "outbox") ∷ done_place ∷ [])

pass_clear : AllNone (act_entries shown pass_act)
unfolding act_entries timing_entries dist_entries pair_entries cases_entries input_entries output_entries arc_entries weight_entries whole declared
pass_clear =
    none_append (joined (map (input_entries shown) pass_act.inputs)) (timing_entries shown pass_act.timing ++ cases_entries shown pass_act.cases) (all_clear (joined (map (input_entries shown) pass_act.inputs)) refl)
    (none_append (timing_entries shown pass_act.timing) (cases_entries shown pass_act.cases)
    (none_append (dist_entries shown (dist.Uniform (ast.Number 3) (ast.Number 9))) [] (none_append (expr_entries shown (ast.Number 3)) (expr_entries shown (ast.Number 9)) (number_clear shown 3) (number_clear shown 9)) tt)
    (all_clear (cases_entries shown pass_act.cases) refl))

local_clear : AllNone (act_entries shown local_act)
unfolding act_entries timing_entries dist_entries pair_entries cases_entries output_entries arc_entries weight_entries whole declared
local_clear = all_clear (act_entries shown local_act) refl

places_clear : AllNone (places_entries [] 0 (token_place (codes "inbox") ∷ token_place (codes "outbox") ∷ done_place ∷ []))
unfolding place_code length_entries initial_entries declared
places_clear = all_clear (places_entries [] 0 (token_place (codes "inbox") ∷ token_place (codes "outbox") ∷ done_place ∷ [])) refl

acts_clear : AllNone (acts_entries shown [] 0 (local_act ∷ pass_act ∷ []))
unfolding act_code declared
acts_clear = (refl, none_append (act_entries shown local_act) _ local_clear (refl, none_append (act_entries shown pass_act) [] pass_clear tt))

pub station_clear : AllNone (name_code [] 0 (codes "station") ∷ model_entries [] station)
unfolding model_entries name_code
station_clear = (refl, none_append (places_entries [] 0 (token_place (codes "inbox") ∷ token_place (codes "outbox") ∷ done_place ∷ [])) (acts_entries shown [] 0 (local_act ∷ pass_act ∷ [])) places_clear acts_clear)

-- the reward
abbrev whole_ring : ℕ → Models
whole_ring n = all_models [] (station ∷ ring n ∷ [])

abbrev acts : ActNames
acts = all_acts [] (local_act ∷ pass_act ∷ [])

abbrev local_term : TermDecl
local_term = term.Impulse (codes "local") (ast.Number 1)

abbrev pass_term : TermDecl
pass_term = term.Impulse (codes "pass") (ast.Number 10)

terms_clear : (n : ℕ) → AllNone (reward_entries (whole_ring n) reward)
unfolding reward_entries span_entries end_code term_entries impulse_code declared known_of
terms_clear n = (
  refl,
  none_append (span_entries reward.span) (terms_entries shown acts false 0 (local_term ∷ pass_term ∷ [])) (all_clear (span_entries reward.span) refl)
      (none_append (term_entries shown acts false 0 local_term) (terms_entries shown acts false 1 (pass_term ∷ [])) (refl, number_clear shown 1)
      (none_append (term_entries shown acts false 1 pass_term) [] (refl, number_clear shown 10) tt)),
)

pub reward_clear : (n : ℕ) → AllNone (rewards_entries (whole_ring n) [] 0 (reward ∷ []))
unfolding reward_code declared
reward_clear n = (refl, none_append (reward_entries (whole_ring n) reward) [] (terms_clear n) tt)
