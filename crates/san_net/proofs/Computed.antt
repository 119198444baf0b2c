-- Small leaves and a small network, by computation.
use Rattle.std.proofs.Common.{map, Ok, ◌∙◌, ℕ, zero, suc, ◌≤◌, ◌<◌, ◌≡◌, ap, refl, subst, take, arith, IsTrue, Bool, true, false, ◌&&◌, ℤ, nat_eq, pos, negsuc, List, [], ◌∷◌, Some, None}
use Rattle.std.specs.Prelude.{All, slice_get, slice_index}
use Rattle.std.specs.List.{list_any}
use Rattle.std.proofs.lemmas.List.Elements.{All-cons, All-nil}
use Rattle.san_expr.specs.Below.{Bounded, places_below, places_below_step}
use Rattle.san_expr.specs.declared.expr.Expr.TheVariants.{Number}
use Rattle.san_expr.specs.declared.expr.Expr.TheOpen.{Expr-F}
use Rattle.san_expr.specs.declared.expr.Expr.TheViews as view
use Rattle.san_expr.specs.declared.expr.Expr.TheFolds.{fold-roll-Expr}
use Rattle.san_law.specs.Activity as leaf
use Rattle.san_expr.specs.Meaning.{Meaning, settled, then_do}
use Rattle.san_expr.specs.Value.{value_of, value_step}
use Rattle.san_law.specs.Examples.{event_at, ran, run_of}
use Rattle.san_law.specs.Net as net
use Rattle.san_law.specs.Net.{least_timer, without_timer}
use Rattle.san_law.specs.Network as law
use Rattle.san_law.specs.Next.{next_instant}
use Rattle.san_law.specs.State.{scatter}
use Rattle.san_law.specs.Step.{End, step}
use Rattle.san_net.specs.Choice.{all_natural, chosen, natural}
use Rattle.san_net.specs.Completion.{case_outputs, inputs_of, outputs_of}
use Rattle.san_delay.specs.Sound.{IsDelay}
use Rattle.san_net.specs.Accepted.{IsAccepted, IsAcceptedActivity, IsAcceptedInput, IsAcceptedOutput, IsAcceptedTerm, IsWeight, rewards_of}
use Rattle.san_net.specs.Apart.{AreApart}
use Rattle.san_net.specs.Examples.{four_activities, get_part, getter, leaf_id, letter_a, letter_b, moving, net_to_five, one_case, private, put_and_get, put_part, putter, renewed_putter, row_with, shared, taking, timer}
use Rattle.san_net.specs.Instants.{Named, instants_of}
use Rattle.san_net.specs.Laid.{EachPart, IsTagged, IsNetwork, IsSlotted, IsSpan, IsValued, TakesImpulses, acts_of, all_places, is_blank}
use Rattle.san_net.specs.Leaf.{effected_by, enabled_in, first_in, impulses_in, kind_in, slot_in}
use Rattle.san_net.specs.Lengths.{has_lengths, lengths_step}
use Rattle.san_base.specs.Names.{is_name}
use Rattle.san_net.specs.Numbering.{ordered, repeated}
use Rattle.san_base.specs.Rated.{in_bounds}
use Rattle.san_net.proofs.Counted.{number_value}
use Rattle.san_net.specs.Tables.{importers_of, leaves_of_acts}
use Rattle.san_net.specs.declared.activity.Activity.{Activity}
use Rattle.san_net.specs.declared.activity.Case.{Case}
use Rattle.san_net.specs.declared.activity.Input.TheVariants as input
use Rattle.san_net.specs.declared.activity.Output.TheVariants as output
use Rattle.san_net.specs.declared.atomic.RateTerm.{RateTerm}
use Rattle.san_net.specs.declared.atomic.ImpulseTerm.{ImpulseTerm}
use Rattle.san_net.specs.declared.part.Part.{Part}
use Rattle.san_net.specs.declared.part.Reward.{Reward}
use Rattle.san_net.specs.declared.part.Span.TheVariants as span

pub places : all_places put_and_get.parts ≡ 0 ∷ 1 ∷ 2 ∷ 0 ∷ []
places = refl

pub shared_places : repeated nat_eq (all_places put_and_get.parts) ≡ 0 ∷ []
shared_places = refl

pub numbered : ordered nat_eq (5 ∷ 3 ∷ 4 ∷ 3 ∷ 5 ∷ 7 ∷ []) ≡ 5 ∷ 3 ∷ 4 ∷ 7 ∷ []
numbered = refl

pub leaves_of_shared : importers_of put_and_get.parts 0 ≡ leaf_id 0 ∷ leaf_id 1 ∷ []
leaves_of_shared = refl

pub leaves_of_private : importers_of put_and_get.parts 2 ≡ leaf_id 1 ∷ []
leaves_of_private = refl

pub activities : leaves_of_acts put_and_get.parts ≡ leaf_id 0 ∷ leaf_id 1 ∷ leaf_id 1 ∷ []
activities = refl

pub too_few_tokens : enabled_in (taking 0 1 2 0) (0 ∷ 1 ∷ []) ≡ leaf.No
too_few_tokens = refl

pub enough_tokens : enabled_in (taking 0 1 2 0) (0 ∷ 2 ∷ []) ≡ leaf.Yes
enough_tokens = refl

pub order : instants_of four_activities ≡ 2 ∷ 0 ∷ 3 ∷ []
order = refl

pub nothing_first : first_in getter (9 ∷ 0 ∷ []) ≡ net.Nothing
nothing_first = refl

pub lesser_first : first_in getter (0 ∷ 1 ∷ []) ≡ net.Enabled 0
lesser_first = refl

pub greater_first : first_in getter (0 ∷ 2 ∷ []) ≡ net.Enabled 1
greater_first = refl

pub activated : renewed_putter 1 (None ∷ []) ≡ net.Fresh (row_with (Some (timer 12) ∷ []) 1)
activated = refl

pub dropped : renewed_putter 0 (Some (timer 11) ∷ []) ≡ net.Fresh (row_with (None ∷ []) 0)
dropped = refl

pub kept : renewed_putter 1 (Some (timer 11) ∷ []) ≡ net.Fresh (row_with (Some (timer 11) ∷ []) 0)
kept = refl

pub greatest : in_bounds (pos 1000000000) ≡ Some (pos 1000000000)
greatest = refl

pub too_great : in_bounds (pos 1000000001) ≡ None
too_great = refl

pub least : in_bounds (negsuc 999999999) ≡ Some (negsuc 999999999)
least = refl

pub too_small : in_bounds (negsuc 1000000000) ≡ None
too_small = refl

-- a number names no cell and no array
number_below : (n : ℤ) (k : ℕ) → places_below (Number n) k ≡ true
unfolding view.roll-Expr denote.Hole.Carrier.roll
number_below n k = ap (λ (b : Bounded). b k) (fold-roll-Expr Bounded places_below_step (Expr-F.Number n))

number_lengths : (n : ℤ) → has_lengths (Number n) ≡ true
unfolding view.roll-Expr denote.Hole.Carrier.roll
number_lengths n = fold-roll-Expr Bool lengths_step (Expr-F.Number n)

only : {X : Type 0} (P : X → Type 0) (x : X) → P x → All P (x ∷ [])
only P x h = All-cons P x [] h (All-nil P)

both : {X : Type 0} (P : X → Type 0) (x y : X) → P x → P y → All P (x ∷ y ∷ [])
both P x y h k = All-cons P x (y ∷ []) h (only P y k)

one_apart : {X : Type 0} (a : X) → AreApart (a ∷ [])
one_apart a zero zero x h k = refl
one_apart a zero (suc j) x h k = absurd cc
one_apart a (suc i) j x h k = absurd cc

two_apart : {X : Type 0} (a b : X) → (a ≡ b → ⊥) → AreApart (a ∷ b ∷ [])
two_apart a b n zero zero x h k = refl
two_apart a b n zero (suc zero) x h k = absurd (n cc)
two_apart a b n zero (suc (suc j)) x h k = absurd cc
two_apart a b n (suc zero) zero x h k = absurd (n cc)
two_apart a b n (suc zero) (suc zero) x h k = refl
two_apart a b n (suc zero) (suc (suc j)) x h k = absurd cc
two_apart a b n (suc (suc i)) j x h k = absurd cc

letters_differ : letter_a ≡ letter_b → ⊥
letters_differ e = let first : 97 ≡ 98 = ap (λ (xs : List ℕ). slice_index xs 0) e in omega (arith, first)

is_weight : (w : ℕ) → 1 ≤ w → w ≤ 2 → IsWeight w
is_weight w h k = (h, omega (arith, k))

outputs_are : (q : ℕ) → All (λ (c : Case). All IsAcceptedOutput c.outputs) (one_case (output.Arc q 1 ∷ []))
outputs_are q =
    only (λ (c : Case). All IsAcceptedOutput c.outputs) (record { weight = Number (pos 1); outputs = output.Arc q 1 ∷ [] })
    (only IsAcceptedOutput (output.Arc q 1) (omega arith, omega arith))

moving_is : IsAcceptedActivity 2 (moving 1 0)
moving_is = record {
  places = ap (λ (b : Bool). (b && true) && true) (number_below (pos 1) 2);
  lengths = ap (λ (b : Bool). (b && true) && true) (number_lengths (pos 1));
  kind = record { size = (omega arith, omega arith); delays = only (λ (e : ℕ × ℕ). IsDelay e.0) (2, 1) (omega arith, omega arith); weights = (omega arith, omega arith) };
  inputs = only IsAcceptedInput (input.Arc 1 1) (omega arith, omega arith);
  outputs = outputs_are 0;
  some = omega arith;
  numbered = omega arith;
}

taking_is : (priority w : ℕ) → priority ≤ 1000 → 1 ≤ w → w ≤ 2 → IsAcceptedActivity 2 (taking priority 1 w 0)
taking_is priority w few h k = record {
  places = ap (λ (b : Bool). (b && true) && true) (number_below (pos 1) 2);
  lengths = ap (λ (b : Bool). (b && true) && true) (number_lengths (pos 1));
  kind = few;
  inputs = only IsAcceptedInput (input.Arc 1 w) (is_weight w h k);
  outputs = outputs_are 0;
  some = omega arith;
  numbered = omega arith;
}

no_terms : (r : ℕ) → 0 ≤ 16
no_terms r = omega arith

putter_is : IsAccepted putter
putter_is = record {
  cells = omega arith;
  initial = both (λ v. v ≤ 2147483647) 0 1 (omega arith) (omega arith);
  few = omega arith;
  names = only (λ (x : Named). IsTrue (is_name x.0)) (letter_a, moving 1 0) refl;
  apart = one_apart letter_a;
  activities = only (λ (x : Named). IsAcceptedActivity 2 x.1) (letter_a, moving 1 0) moving_is;
  instants = refl;
  rates = All-nil (λ (t : RateTerm). IsAcceptedTerm 2 t.expr);
  impulses = All-nil (λ (t : ImpulseTerm). (t.act < 1) × IsAcceptedTerm 2 t.expr);
  terms = no_terms;
}

getter_is : IsAccepted getter
getter_is = record {
  cells = omega arith;
  initial = both (λ v. v ≤ 2147483647) 0 0 (omega arith) (omega arith);
  few = omega arith;
  names = both (λ (x : Named). IsTrue (is_name x.0)) (letter_a, taking 0 1 1 0) (letter_b, taking 5 1 2 0) refl refl;
  apart = two_apart letter_a letter_b letters_differ;
  activities = both (λ (x : Named). IsAcceptedActivity 2 x.1) (letter_a, taking 0 1 1 0) (letter_b, taking 5 1 2 0) (taking_is 0 1 (omega arith) (omega arith) (omega arith)) (taking_is 5 2 (omega arith) (omega arith) (omega arith));
  instants = refl;
  rates = All-nil (λ (t : RateTerm). IsAcceptedTerm 2 t.expr);
  impulses = All-nil (λ (t : ImpulseTerm). (t.act < 2) × IsAcceptedTerm 2 t.expr);
  terms = no_terms;
}

each : (Holds : ℕ → Part → Type 0) → Holds 0 put_part → Holds 1 get_part → EachPart (put_part ∷ get_part ∷ []) Holds
each Holds h k zero p is = subst (Holds 0) (let e : put_part ≡ p = cc in e) h
each Holds h k (suc zero) p is = subst (Holds 1) (let e : get_part ≡ p = cc in e) k
each Holds h k (suc (suc n)) p is = absurd cc

zero_one : ◌≡◌ {A = ℕ} 0 1 → ⊥
zero_one e = omega (arith, e)

two_zero : ◌≡◌ {A = ℕ} 2 0 → ⊥
two_zero e = omega (arith, e)

put_slots : IsSlotted 1 put_part
put_slots = record { each = refl; apart = two_apart 0 1 zero_one; tagged = both (IsTagged 1) (shared 0) (private 1) (omega arith) (omega arith) }

get_slots : IsSlotted 1 get_part
get_slots = record { each = refl; apart = two_apart 2 0 two_zero; tagged = both (IsTagged 1) (private 2) (shared 0) (omega arith) (omega arith) }

abbrev the_values : List ℕ
the_values = 0 ∷ 1 ∷ 0 ∷ []

put_values : IsValued the_values put_part
put_values zero place is = let e : ◌≡◌ {A = ℕ} 0 place = cc in subst (λ (q : ℕ). slice_get the_values q ≡ Some 0) e refl
put_values (suc zero) place is = let e : ◌≡◌ {A = ℕ} 1 place = cc in subst (λ (q : ℕ). slice_get the_values q ≡ Some 1) e refl
put_values (suc (suc i)) place is = absurd cc

get_values : IsValued the_values get_part
get_values zero place is = let e : ◌≡◌ {A = ℕ} 2 place = cc in subst (λ (q : ℕ). slice_get the_values q ≡ Some 0) e refl
get_values (suc zero) place is = let e : ◌≡◌ {A = ℕ} 0 place = cc in subst (λ (q : ℕ). slice_get the_values q ≡ Some 0) e refl
get_values (suc (suc i)) place is = absurd cc

abbrev the_reward : Reward
the_reward = record { name = letter_a; atomic = 0; span = span.At (record { 0 = 6 }) }

pub is_network : IsNetwork put_and_get
is_network = record {
  accepted = each (λ _ p. IsAccepted p.atomic) putter_is getter_is;
  rewarded = record {
    few = omega arith;
    spans = only (λ (r : Reward). IsSpan r.span) the_reward (omega arith);
    known = each (λ _ p. All (λ r. r < 1) (rewards_of p.atomic)) (All-nil (λ r. r < 1)) (All-nil (λ r. r < 1));
    intervals = each (λ _ p. All (λ t. TakesImpulses (slice_get (the_reward ∷ []) t.reward)) p.atomic.impulses) (All-nil (λ (t : ImpulseTerm). TakesImpulses (slice_get (the_reward ∷ []) t.reward))) (All-nil (λ (t : ImpulseTerm). TakesImpulses (slice_get (the_reward ∷ []) t.reward)));
  };
  slotted = each (λ _ p. IsSlotted 1 p) put_slots get_slots;
  valued = each (λ _ p. IsValued the_values p) put_values get_values;
  paths = record { each = refl; apart = two_apart letter_a letter_b letters_differ; unbroken = both (λ path. list_any is_blank path ≡ false) letter_a letter_b refl refl };
  numbered = record { leaves = each (λ k p. p.leaf.0 ≡ k) refl refl; acts = each (λ k p. p.first.0 ≡ acts_of (take k (put_part ∷ get_part ∷ []))) refl refl; places = refl };
  shared = refl;
  small = record { leaves = omega arith; places = omega arith; acts = omega arith };
}

-- the network by what the weight of its cases comes to
module _ (weight : Meaning ℤ) where
  abbrev choice_by : ℕ → Meaning ℕ
  choice_by u =
      then_do (then_do (then_do weight (λ x. settled (Ok (natural x)))) (λ y. then_do (settled (Ok [])) (λ ys. settled (Ok (y ∷ ys)))))
      (λ ys. settled (chosen u (all_natural ys)))

  abbrev completion_by : Activity → ℕ → Meaning ℕ
  completion_by a u = then_do (choice_by u) (λ k. then_do (inputs_of a.inputs) (λ _. then_do (outputs_of (case_outputs a.cases k)) (λ _. settled (Ok k))))

  abbrev activity_by : ℕ → Activity → leaf.Activity
  activity_by k a = record {
    kind = kind_in a.kind;
    enabled = enabled_in a;
    complete = λ u v. effected_by (completion_by a u v) (completion_by a u v).answer;
    impulses = impulses_in [] k;
  }

  abbrev leaf_by : Part → List leaf.Activity → leaf.Part
  leaf_by p activities = record { slots = map slot_in p.slots; first = p.first.0; activities = activities; rates = λ v. []; terms = [] }

  abbrev net_by : net.Net
  net_by = law.net_of (λ s k. 0)
      (record {
        parts = leaf_by put_part (activity_by 0 (moving 1 0) ∷ []) ∷ leaf_by get_part (activity_by 0 (taking 0 1 1 0) ∷ activity_by 1 (taking 5 1 2 0) ∷ []) ∷ [];
        shared = 1;
        initial = 0 ∷ 1 ∷ 0 ∷ [];
        spans = record { from = 6; to = 7; mean = false } ∷ [];
      })
      (record { horizon = 5; burst = 10; events = 20 })

by_weight : run_of (net_by (settled (Ok (pos 1)))) ≡ ran (event_at 2 0 0 ∷ event_at 2 1 0 ∷ []) 5 End
unfolding step next_instant scatter least_timer without_timer
by_weight = refl

pub put_then_got : run_of net_to_five ≡ ran (event_at 2 0 0 ∷ event_at 2 1 0 ∷ []) 5 End
put_then_got = ap (λ (weight : Meaning ℤ). run_of (net_by weight)) (number_value (pos 1)) ∙ by_weight
