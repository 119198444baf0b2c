-- Items one after another, as a loop reads them.
use Rattle.std.proofs.Common.{◌≡◌, ℕ, zero, suc, ◌-◌, ◌<◌, Bool, true, false, cond, List, [], ◌∷◌, ◌++◌, Result, Ok, Err, refl, sym, ap, ◌∙◌, append_assoc, arith, ◌⊎◌, inl, inr}
use Rattle.std.proofs.lemmas.List.{append-nil}
use Rattle.san_lex.specs.Lexer.{Word}
use Rattle.san_text.specs.Steps.{GrammarFault, Reading, ◌>>=◌, many, gathered}

pub gathered_none : {A : Type 0} (r : Result (List A × List Word) GrammarFault) → gathered [] r ≡ r
gathered_none (Ok y) = refl
gathered_none (Err f) = refl

pub many_stops : {A : Type 0} (starts : List Word → Bool) (item : Reading A) (m : ℕ) (after : List Word) → starts after ≡ false → many starts item m after ≡ Ok ([], after)
unfolding many
many_stops starts item zero after e = refl
many_stops starts item (suc m) after e = rw e refl

regroup_loop : {A : Type 0} (front : List A) (x : A) (r : Result (List A × List Word) GrammarFault) → gathered front (r >>= λ y. Ok (x ∷ y.0, y.1)) ≡ gathered (front ++ x ∷ []) r
regroup_loop front x (Ok y) = ap (λ (xs : List _). Ok (xs, y.1)) (sym (append_assoc front (x ∷ []) y.0))
regroup_loop front x (Err f) = refl

one_turn : {A : Type 0} (starts : List Word → Bool) (item : Reading A) (front : List A) (turns left : ℕ) (ws : List Word) → suc left ≡ turns → starts ws ≡ true
    → gathered front (many starts item turns ws) ≡ gathered front (item ws >>= λ x. many starts item left x.1 >>= λ y. Ok (x.0 ∷ y.0, y.1))
unfolding many
one_turn starts item front turns left ws e is =
    ap (λ (n : ℕ). gathered front (many starts item n ws)) (sym e)
    ∙ ap (λ (b : Bool). gathered front (cond b (item ws >>= λ x. many starts item left x.1 >>= λ y. Ok (x.0 ∷ y.0, y.1)) (Ok ([], ws)))) is

pub turn_goes_on : {A : Type 0} (starts : List Word → Bool) (item : Reading A) (front : List A) (turns : ℕ) (ws : List Word) (x : A) (after : List Word) (total : Result (List A × List Word) GrammarFault)
    → 0 < turns → starts ws ≡ true → item ws ≡ Ok (x, after) → gathered front (many starts item turns ws) ≡ total → gathered (front ++ x ∷ []) (many starts item (turns - 1) after) ≡ total
turn_goes_on starts item front turns ws x after total lt is e so_far =
    sym (regroup_loop front x (many starts item (turns - 1) after))
    ∙ ap (λ (r : Result _ GrammarFault). gathered front (r >>= λ x. many starts item (turns - 1) x.1 >>= λ y. Ok (x.0 ∷ y.0, y.1))) (sym e)
    ∙ sym (one_turn starts item front turns (turns - 1) ws (omega arith) is) ∙ so_far

pub turn_fails : {A : Type 0} (starts : List Word → Bool) (item : Reading A) (front : List A) (turns : ℕ) (ws : List Word) (f : GrammarFault) (total : Result (List A × List Word) GrammarFault)
    → 0 < turns → starts ws ≡ true → item ws ≡ Err f → gathered front (many starts item turns ws) ≡ total → total ≡ Err f
turn_fails starts item front turns ws f total lt is e so_far =
    sym so_far ∙ one_turn starts item front turns (turns - 1) ws (omega arith) is
    ∙ ap (λ (r : Result _ GrammarFault). gathered front (r >>= λ x. many starts item (turns - 1) x.1 >>= λ y. Ok (x.0 ∷ y.0, y.1))) e

pub turns_end : {A : Type 0} (starts : List Word → Bool) (item : Reading A) (front : List A) (turns : ℕ) (ws : List Word) (total : Result (List A × List Word) GrammarFault)
    → (turns ≡ 0) ⊎ (starts ws ≡ false) → gathered front (many starts item turns ws) ≡ total → total ≡ Ok (front, ws)
unfolding many
turns_end starts item front turns ws total (inl e) so_far =
    sym so_far ∙ ap (λ (n : ℕ). gathered front (many starts item n ws)) e ∙ ap (λ (xs : List _). Ok (xs, ws)) (append-nil front)
turns_end starts item front turns ws total (inr e) so_far =
    sym so_far ∙ ap (gathered front) (many_stops starts item turns ws e) ∙ ap (λ (xs : List _). Ok (xs, ws)) (append-nil front)
