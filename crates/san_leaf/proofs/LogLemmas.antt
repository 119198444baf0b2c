-- What a piece logs was read of some of its cells.
use Rattle.std.proofs.Common.{ℕ, zero, suc, ◌+◌, ◌<◌, ◌≤◌, ◌≡◌, ◌∙◌, ◌⊎◌, inl, inr, ap, sym, subst, refl, arith, All, Bool, true, false, List, [], ◌∷◌, ◌++◌, length, map, Option, Some, None}
use Rattle.std.specs.Prelude.{slice_index_or}
use Rattle.std.proofs.lemmas.Bool.{cases_lt}
use Rattle.std.proofs.lemmas.List.{get_or_past}
use Rattle.std.proofs.lemmas.List.Elements.{All-get_or}
use Rattle.san_base.specs.declared.limits.TheConstants.{MAX_TOKENS}
use Rattle.san_expr.specs.Concerns.{IsMarking}
use Rattle.san_law.specs.Net.{Private, Shared, Slot}
use Rattle.san_mark.specs.Overlays.{IsSmall}
use Rattle.san_net.specs.declared.part.Part.{Part}
use Rattle.san_leaf.specs.Pieces.{IsLog, reads_from, slots_in, with_read}
use Rattle.san_leaf.specs.inner.Cells.{noted, noted_by, value_by}
use Rattle.san_leaf.specs.inner.Gathers.{HasTokens, joined, shared_of}
use Rattle.san_leaf.proofs.GatherLemmas.{firsts, joined_reads}

-- the cells that are known, with their values
is_here : Option ℕ → Bool
is_here None = false
is_here (Some v) = true

here_at : List (Option ℕ) → ℕ → Bool
here_at [] i = false
here_at (o ∷ os) zero = is_here o
here_at (o ∷ os) (suc i) = here_at os i

note_is : (o : Option ℕ) (b : Bool) (q : ℕ) (rest : List (ℕ × ℕ)) → b ≡ is_here o → noted_by o q rest ≡ with_read b (q, value_by o) rest
unfolding is_here
note_is None true q rest e = absurd (cc)
note_is None false q rest e = refl
note_is (Some v) true q rest e = refl
note_is (Some v) false q rest e = absurd (cc)

noted_reads : (ss : List Slot) (cells : List (Option ℕ)) (looks : ℕ → Bool) (k : ℕ) → ((i : ℕ) → looks (k + i) ≡ here_at cells i) → noted ss cells ≡ reads_from looks k ss (map value_by cells)
unfolding here_at
noted_reads [] cells looks k f = refl
noted_reads (s ∷ ss) [] looks k f = refl
noted_reads (Private q ∷ ss) (o ∷ cells) looks k f = noted_reads ss cells looks (suc k) (λ i. let z : suc k + i ≡ k + suc i = omega arith in ap looks z ∙ f (suc i))
noted_reads (Shared q ∷ ss) (o ∷ cells) looks k f =
    let z : k ≡ k + 0 = omega arith in
    ap (noted_by o q) (noted_reads ss cells looks (suc k) (λ i. let y : suc k + i ≡ k + suc i = omega arith in ap looks y ∙ f (suc i)))
    ∙ note_is o (looks k) q (reads_from looks (suc k) ss (map value_by cells)) (ap looks z ∙ f 0)

-- small ones
all_at : {A : Type 0} (P : A → Type 0) (xs : List A) (d : A) → P d → All P xs → (i : ℕ) → P (slice_index_or xs i d)
all_at P xs d none all i = by_case (cases_lt i (length xs))
  where
    by_case : (i < length xs) ⊎ (length xs ≤ i) → P (slice_index_or xs i d)
    by_case (inl l) = All-get_or P xs i d l all
    by_case (inr l) = subst P (sym (get_or_past xs i d l)) none

values_small : (cells : List (Option ℕ)) → ((i : ℕ) → IsSmall (slice_index_or cells i None)) → IsMarking (map value_by cells)
values_small [] h i = omega arith
values_small (None ∷ cells) h zero = omega arith
values_small (Some v ∷ cells) h zero = h zero
values_small (o ∷ cells) h (suc i) = values_small cells (λ k. h (suc k)) i

joined_small : (ss : List Slot) (own : List ℕ) (log : List (ℕ × ℕ)) → IsMarking own → HasTokens log → IsMarking (joined ss own log)
joined_small [] own log a b i = omega arith
joined_small (Private q ∷ ss) [] log a b zero = omega arith
joined_small (Private q ∷ ss) [] log a b (suc i) = joined_small ss [] log a b i
joined_small (Private q ∷ ss) (v ∷ own) log a b zero = a 0
joined_small (Private q ∷ ss) (v ∷ own) log a b (suc i) = joined_small ss own log (λ k. a (suc k)) b i
joined_small (Shared q ∷ ss) own [] a b zero = omega arith
joined_small (Shared q ∷ ss) own [] a b (suc i) = joined_small ss own [] a b i
joined_small (Shared q ∷ ss) own (r ∷ log) a b zero = b 0
joined_small (Shared q ∷ ss) own (r ∷ log) a b (suc i) = joined_small ss own log a (λ k. b (suc k)) i

-- one more of them
pub tokens_more : (log : List (ℕ × ℕ)) (q v : ℕ) → HasTokens log → v ≤ MAX_TOKENS → HasTokens (log ++ (q, v) ∷ [])
tokens_more [] q v h l zero = l
tokens_more [] q v h l (suc i) = omega arith
tokens_more (e ∷ log) q v h l zero = h 0
tokens_more (e ∷ log) q v h l (suc i) = tokens_more log q v (λ k. h (suc k)) l i

-- a block's log
pub noted_is_log : (p : Part) (cells : List (Option ℕ)) (log : List (ℕ × ℕ)) → All IsSmall cells → log ≡ noted (slots_in p) cells → IsLog p log
noted_is_log p cells log small is = record {
  looks = here_at cells;
  values = map value_by cells;
  small = values_small cells (all_at IsSmall cells None tt small);
  is = is ∙ noted_reads (slots_in p) cells (here_at cells) 0 (λ i. let z : 0 + i ≡ i = omega arith in ap (here_at cells) z);
}

-- a renewal's log
pub read_is_log : (p : Part) (own : List ℕ) (log : List (ℕ × ℕ)) → All (λ v. v ≤ MAX_TOKENS) own → HasTokens log → firsts log ≡ shared_of (slots_in p) → IsLog p log
read_is_log p own log small tokens is = record {
  looks = λ i. true;
  values = joined (slots_in p) own log;
  small = joined_small (slots_in p) own log (all_at (λ v. v ≤ MAX_TOKENS) own 0 (omega arith) small) tokens;
  is = sym (joined_reads 0 (slots_in p) own log is);
}
