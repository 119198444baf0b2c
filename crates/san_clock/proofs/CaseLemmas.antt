-- The only case is chosen by every draw.
use Rattle.std.proofs.Common.{ℕ, ◌+◌, ◌*◌, ◌/◌, ◌%◌, ◌^◌, ◌<◌, ◌≤◌, ◌≡◌, ◌≢◌, ◌∙◌, ◌⊎◌, inl, inr, ap, sym, refl, subst, arith, Bool, true, false, cond, not, ◌&&◌, ◌||◌, nat_lt, nat_le, List, [], ◌∷◌, length, sum, Option, Some, None, Result, Ok, Err, mod-lt, mul-lt-mul_of_pos_right, div-lt_iff_lt-mul, lt-ltb, leb-true}
use Rattle.rand_chacha.specs.Block.{block_word}
use Rattle.rand_chacha.specs.ChaCha.{key_of}
use Rattle.san_base.proofs.Bools.{both_true}
use Rattle.san_base.specs.Draws.{pick, weighted_choice}
use Rattle.san_base.specs.declared.ending.Trap.{Trap}
use Rattle.san_base.specs.declared.ending.Trap.TheVariants.{Weight}
use Rattle.san_draw.specs.Key.{draw_of, key_bytes}
use Rattle.san_expr.specs.Meaning.{Meaning, Evaluation, go_on, joined, settled, then_do}
use Rattle.san_expr.specs.Meets.{Meets, marking_of}
use Rattle.san_expr.specs.View.{ViewState, is_known}
use Rattle.san_net.specs.Choice.{all_natural, case_of, chosen, is_total, weight_of, weights_of}
use Rattle.san_net.specs.Completion.{case_outputs, completion_of, inputs_of, outputs_of}
use Rattle.san_net.specs.declared.activity.Activity.{Activity}
use Rattle.san_net.specs.declared.activity.Case.{Case}

-- a draw has 64 bits
word_small : (n : ℕ) (key : List ℕ) (counter nonce k : ℕ) → block_word n key counter nonce k < 2 ^ 32
unfolding block_word
word_small n key counter nonce k = mod-lt _ (omega arith)

draw_small : (seed stream k : ℕ) → draw_of seed stream k < 2 ^ 64
draw_small seed stream k =
    let key = key_of (key_bytes seed) in
    let low = word_small 10 key (2 * k / 16) stream (2 * k % 16) in
    let high = word_small 10 key ((2 * k + 1) / 16) stream ((2 * k + 1) % 16) in
    omega (arith, low, high)

-- one weight is chosen
abbrev first_if : Bool → ℕ
first_if b = cond b 0 1

first_of_one : (u n : ℕ) → u < 2 ^ 64 → 1 ≤ n → weighted_choice u (n ∷ []) ≡ 0
first_of_one u n small some =
    let whole : 0 + n ≡ n = omega arith in
    let product : u * n < 2 ^ 64 * n = mul-lt-mul_of_pos_right small (omega (arith, some)) in
    let picked : u * n / 2 ^ 64 < n = (div-lt_iff_lt-mul {k = 2 ^ 64} {x = u * n} {y = n} (omega arith)).1 (omega (arith, product)) in
    ap (λ (s : ℕ). first_if (nat_lt (pick u s) s)) whole ∙ ap first_if (lt-ltb (pick u n) n picked)

abbrev told : Bool → ℕ → Result ℕ Trap
told t k = cond t (Ok k) (Err Weight)

one_chosen : (u v : ℕ) → u < 2 ^ 64 → v < 2 ^ 64 → (y : Option ℕ) → chosen u (all_natural (y ∷ [])) ≡ chosen v (all_natural (y ∷ []))
one_chosen u v a b None = refl
one_chosen u v a b (Some n) = by_total (is_total (sum (n ∷ []))) refl
  where
    by_total : (t : Bool) → is_total (sum (n ∷ [])) ≡ t → told (is_total (sum (n ∷ []))) (weighted_choice u (n ∷ [])) ≡ told (is_total (sum (n ∷ []))) (weighted_choice v (n ∷ []))
    by_total false e = ap (λ (t : Bool). told t (weighted_choice u (n ∷ []))) e ∙ sym (ap (λ (t : Bool). told t (weighted_choice v (n ∷ []))) e)
    by_total true e =
        let least : 1 ≤ sum (n ∷ []) = leb-true 1 (sum (n ∷ [])) (both_true (nat_le 1 (sum (n ∷ []))) (nat_le (sum (n ∷ [])) (2 ^ 32)) e).0 in
        let whole : sum (n ∷ []) ≡ n = let z : 0 + n ≡ n = omega arith in z in
        let some : 1 ≤ n = omega (arith, least, whole) in
        ap (told (is_total (sum (n ∷ [])))) (first_of_one u n a some ∙ sym (first_of_one v n b some))

-- so the choice has one outcome whatever the draw
module _ (u v : ℕ) (a : u < 2 ^ 64) (b : v < 2 ^ 64) where
  went_on : (r : Result (List (Option ℕ)) Trap) (o : Evaluation (List (Option ℕ))) → ((ys : List (Option ℕ)) → r ≡ Ok ys → chosen u (all_natural ys) ≡ chosen v (all_natural ys))
      → go_on r o (λ ys. settled (chosen u (all_natural ys))) ≡ go_on r o (λ ys. settled (chosen v (all_natural ys)))
  went_on (Err t) o same = refl
  went_on (Ok ys) o same = ap (λ (c : Result ℕ Trap). joined o (settled c o.left)) (same ys refl)

  weights_one : (c : Case) (m : List ℕ) (r : Result (Option ℕ) Trap) (o : Evaluation (Option ℕ)) → r ≡ (weight_of c m).answer → o ≡ weight_of c m → (ys : List (Option ℕ))
      → (go_on r o (λ y. then_do (settled (Ok [])) (λ ys. settled (Ok (y ∷ ys))))).answer ≡ Ok ys → chosen u (all_natural ys) ≡ chosen v (all_natural ys)
  weights_one c m (Err t) o e f ys is = absurd cc
  weights_one c m (Ok y) o e f ys is = subst (λ (zs : List (Option ℕ)). chosen u (all_natural zs) ≡ chosen v (all_natural zs)) (same_list (y ∷ []) ys is) (one_chosen u v a b y)
    where
      same_list : (xs zs : List (Option ℕ)) → (let r : Result (List (Option ℕ)) Trap = Ok xs in r) ≡ Ok zs → xs ≡ zs
      same_list xs zs e = cc

  one_case : (cases : List Case) → length cases ≡ 1 → (m : List ℕ) → case_of u cases m ≡ case_of v cases m
  one_case [] e m = absurd (omega (arith, e))
  one_case (c ∷ d ∷ cases) e m = absurd (omega (arith, e))
  one_case (c ∷ []) e m = went_on (weights_of (c ∷ []) m).answer (weights_of (c ∷ []) m) (weights_one c m (weight_of c m).answer (weight_of c m) refl refl)

  pub one_completion : (x : Activity) → length x.cases ≡ 1 → (m : List ℕ) → completion_of u x m ≡ completion_of v x m
  one_completion x e m =
      ap (λ (o : Evaluation ℕ). go_on o.answer o (λ k. then_do (inputs_of x.inputs) (λ _. then_do (outputs_of (case_outputs x.cases k)) (λ _. settled (Ok k))))) (one_case x.cases e m)

-- a meaning with the same outcomes is met alike
pub met_alike : {T : Type 0} (s t : ViewState) (a b : Meaning T) (r : Result T Trap) → ((m : List ℕ) → a m ≡ b m) → Meets s t a r → Meets s t b r
met_alike {T} s t a b r same did = record {
  answer = λ m h. ap (λ (o : Evaluation T). o.answer) (sym (same (marking_of s m))) ∙ did.answer m h;
  left = λ m h. did.left m h ∙ ap (λ (o : Evaluation T). o.left) (same (marking_of s m));
  looks = λ m h p. did.looks m h p ∙ ap (λ (o : Evaluation T). is_known (s.first p) || (not (is_known (s.own p)) && o.looks p)) (same (marking_of s m));
  sets = λ m h p. did.sets m h p ∙ ap (λ (o : Evaluation T). is_known (s.own p) || o.sets p) (same (marking_of s m));
  unset = λ m h p e. did.unset m h p (ap (λ (o : Evaluation T). o.sets p) (same (marking_of s m)) ∙ e);
  grows = did.grows;
  seen = did.seen;
  places = did.places;
  behind = did.behind;
  kept = did.kept;
}

-- a draw of 0 in place of that with a number, where there is one case
pub drawn_or_one : (s t : ViewState) (seed stream k u : ℕ) (x : Activity) (r : Result ℕ Trap) → (length x.cases ≡ 1 → u ≡ 0) → (length x.cases ≢ 1 → u ≡ draw_of seed stream k) → Meets s t (completion_of u x) r → Meets s t (completion_of (draw_of seed stream k) x) r
drawn_or_one s t seed stream k u x r one more did = by_case (Rattle.std.proofs.lemmas.Bool.cases_eq (length x.cases) 1)
  where
    by_case : (length x.cases ≡ 1) ⊎ (length x.cases ≢ 1) → Meets s t (completion_of (draw_of seed stream k) x) r
    by_case (inl e) =
        met_alike s t (completion_of 0 x) (completion_of (draw_of seed stream k) x) r (one_completion 0 (draw_of seed stream k) (omega arith) (draw_small seed stream k) x e)
        (subst (λ (n : ℕ). Meets s t (completion_of n x) r) (one e) did)
    by_case (inr n) = subst (λ (y : ℕ). Meets s t (completion_of y x) r) (more n) did
