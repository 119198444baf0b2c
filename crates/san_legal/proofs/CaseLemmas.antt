-- The cases over all draws.
use Rattle.std.proofs.Common.{ℕ, ◌^◌, ◌<◌, ◌≡◌, ◌∙◌, ap, refl, Bool, true, false, cond, nat_le, List, Option, Some, None, Result, Ok, Err}
use Rattle.std.specs.Prelude.{sum}
use Rattle.std.proofs.lemmas.Bool.{and_parts, leb-true}
use Rattle.san_base.specs.Draws.{weighted_choice}
use Rattle.san_base.specs.declared.ending.Trap.{Trap}
use Rattle.san_base.specs.declared.ending.Trap.TheVariants.{Weight}
use Rattle.san_expr.specs.Meaning.{Evaluation, go_on, settled}
use Rattle.san_net.specs.Choice.{all_natural, chosen, is_total, weights_of}
use Rattle.san_net.specs.declared.activity.Case.{Case}
use Rattle.san_legal.specs.Cases.{CasesAreDrawn, ChoicesTrapAlike, IsChosen, IsWeighted}
use Rattle.san_legal.proofs.DelayLemmas.{weights_are_drawn}

same_case : (a b : ℕ) → (let r : Result ℕ Trap = Ok a in r) ≡ Ok b → a ≡ b
same_case a b e = cc

module _ (cases : List Case) (values : List ℕ) where
  abbrev weighed : Evaluation (List (Option ℕ))
  weighed = weights_of cases values

  -- what a draw answers, by what the weights are
  abbrev answer_by : ℕ → Result (List (Option ℕ)) Trap → Result ℕ Trap
  answer_by u r = (go_on r weighed (λ ys. settled (chosen u (all_natural ys)))).answer

  -- ---- forward

  by_total : (u k : ℕ) (ys : List (Option ℕ)) (ns : List ℕ) → u < 2 ^ 64 → weighed.answer ≡ Ok ys → all_natural ys ≡ Some ns → (c : Bool) → is_total (sum ns) ≡ c
      → cond c (Ok (weighted_choice u ns)) (Err Weight) ≡ Ok k → IsWeighted cases values k
  by_total u k ys ns word e n false t h = absurd cc
  by_total u k ys ns word e n true t h =
      let bounds = and_parts (nat_le 1 (sum ns)) (nat_le (sum ns) (2 ^ 32)) t in
      record {
        answers = ys;
        weights = ns;
        evaluated = e;
        natural = n;
        total = t;
        some = (weights_are_drawn ns (leb-true 1 (sum ns) bounds.0) (leb-true (sum ns) (2 ^ 32) bounds.1) k).0 (u, word, same_case (weighted_choice u ns) k h);
      }

  by_natural : (u k : ℕ) (ys : List (Option ℕ)) → u < 2 ^ 64 → weighed.answer ≡ Ok ys → (o : Option (List ℕ)) → all_natural ys ≡ o → chosen u o ≡ Ok k → IsWeighted cases values k
  by_natural u k ys word e None n h = absurd cc
  by_natural u k ys word e (Some ns) n h = by_total u k ys ns word e n (is_total (sum ns)) refl h

  by_answer : (u k : ℕ) → u < 2 ^ 64 → (r : Result (List (Option ℕ)) Trap) → weighed.answer ≡ r → answer_by u r ≡ Ok k → IsWeighted cases values k
  by_answer u k word (Err t) e h = absurd cc
  by_answer u k word (Ok ys) e h = by_natural u k ys word e (all_natural ys) refl h

  is_weighted : (k : ℕ) → IsChosen cases values k → IsWeighted cases values k
  is_weighted k is = by_answer is.0 k is.1 weighed.answer refl is.2

  -- ---- back

  is_chosen : (k : ℕ) → IsWeighted cases values k → IsChosen cases values k
  is_chosen k is =
      let bounds = and_parts (nat_le 1 (sum is.weights)) (nat_le (sum is.weights) (2 ^ 32)) is.total in
      let drawn = (weights_are_drawn is.weights (leb-true 1 (sum is.weights) bounds.0) (leb-true (sum is.weights) (2 ^ 32) bounds.1) k).1 is.some in (
        drawn.0,
        drawn.1,
        ap (answer_by drawn.0) is.evaluated
            ∙ (ap (chosen drawn.0) is.natural
            ∙ (ap (λ (c : Bool). (let r : Result ℕ Trap = cond c (Ok (weighted_choice drawn.0 is.weights)) (Err Weight) in r)) is.total
            ∙ ap (λ (i : ℕ). (let r : Result ℕ Trap = Ok i in r)) drawn.2)),
      )

  -- ---- traps

  total_traps : (u w : ℕ) (ns : List ℕ) (trap : Trap) (c : Bool) → cond c (Ok (weighted_choice u ns)) (Err Weight) ≡ Err trap → cond c (Ok (weighted_choice w ns)) (Err Weight) ≡ Err trap
  total_traps u w ns trap true h = absurd cc
  total_traps u w ns trap false h = h

  natural_traps : (u w : ℕ) (trap : Trap) (o : Option (List ℕ)) → chosen u o ≡ Err trap → chosen w o ≡ Err trap
  natural_traps u w trap None h = h
  natural_traps u w trap (Some ns) h = total_traps u w ns trap (is_total (sum ns)) h

  answer_traps : (u w : ℕ) (trap : Trap) (r : Result (List (Option ℕ)) Trap) → answer_by u r ≡ Err trap → answer_by w r ≡ Err trap
  answer_traps u w trap (Err t) h = h
  answer_traps u w trap (Ok ys) h = natural_traps u w trap (all_natural ys) h

pub cases_are_drawn : (cases : List Case) → CasesAreDrawn cases
cases_are_drawn cases values k = (is_weighted cases values k, is_chosen cases values k)

pub choices_trap_alike : (cases : List Case) → ChoicesTrapAlike cases
choices_trap_alike cases values u w trap h = answer_traps cases values u w trap (weights_of cases values).answer h
