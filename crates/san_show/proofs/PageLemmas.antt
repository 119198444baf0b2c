-- Words written one by one are their layout.
use Rattle.std.proofs.Common.{◌≡◌, ℕ, zero, suc, ◌+◌, ◌-◌, ◌*◌, ◌<◌, ◌≤◌, Bool, false, cond, List, [], ◌∷◌, ◌++◌, length, map, take, drop, get_or, Result, refl, sym, ap, ◌∙◌, append_assoc, arith}
use Rattle.std.proofs.lemmas.List.{append-nil, take_all}
use Rattle.std.proofs.lemmas.Result.{on_ok_weaker}
use Rattle.std.specs.Prelude.{OnOk}
use Rattle.san_lex.specs.Lexer.{Word, Number, Name, Fixed}
use Rattle.san_lex.specs.declared.sign.Mark.TheVariants as mark
use Rattle.san_lex.specs.declared.sign.Sign.{Sign}
use Rattle.san_lex.specs.declared.sign.Sign.TheVariants as sign
use Rattle.san_lex.specs.Layout as layout
use Rattle.san_lex.specs.Layout.{gap, spaces, text_of, ending, before, hugs, closes, depth_after, sign_text, sign_hugs, sign_closes, sign_before, sign_depth}
use Rattle.san_text.specs.Spelling.{joined}
use Rattle.san_text.specs.ActivityWords.{with_commas}
use Rattle.san_show.specs.inner.Pages.{Written, put, written, gap_by, put_by}

pub written_append : (us vs : List Word) (p : Written) → written p (us ++ vs) ≡ written (written p us) vs
written_append [] vs p = refl
written_append (u ∷ us) vs p = written_append us vs (put p u)

gap_is : (b : layout.Spacing) (d : ℕ) (w : Word) (h : Bool) (c : ℕ) → hugs w ≡ h → closes w ≡ c → gap_by b d h c ≡ gap b d w
gap_is layout.Line d w h c eh ec = ap (λ (n : ℕ). spaces (2 * (d - n))) (sym ec)
gap_is layout.Tight d w h c eh ec = refl
gap_is layout.Loose d w h c eh ec = ap (λ (x : Bool). cond x [] (32 ∷ [])) (sym eh)

abbrev made : List ℕ → layout.Spacing → ℕ → Written
made bytes b d = record { bytes = bytes; before = b; depth = d }

put_is : (p : Written) (w : Word) (text : List ℕ) (h : Bool) (c : ℕ) (next : layout.Spacing) (d : ℕ) → text_of w ≡ text → hugs w ≡ h → closes w ≡ c → before w ≡ next → depth_after w p.depth ≡ d → put_by p text h c next d ≡ put p w
unfolding put
put_is p w text h c next d et eh ec eb ed =
    ap (λ (g : List ℕ). made (p.bytes ++ (g ++ (text ++ ending next))) next d) (gap_is p.before p.depth w h c eh ec)
    ∙ ap (λ (t : List ℕ). made (p.bytes ++ (gap p.before p.depth w ++ (t ++ ending next))) next d) (sym et)
    ∙ ap (λ (b : layout.Spacing). made (p.bytes ++ (gap p.before p.depth w ++ (text_of w ++ ending b))) b d) (sym eb)
    ∙ ap (λ (n : ℕ). made (p.bytes ++ (gap p.before p.depth w ++ (text_of w ++ ending (before w)))) (before w) n) (sym ed)

-- what is put of each kind of word
pub put_fixed : (p : Written) (s : Sign) (text : List ℕ) (h : Bool) (c : ℕ) (next : layout.Spacing) (d : ℕ) → text ≡ sign_text s → h ≡ sign_hugs s → c ≡ sign_closes s → next ≡ sign_before s → d ≡ sign_depth s p.depth → put_by p text h c next d ≡ put p (Fixed s)
unfolding text_of hugs before depth_after
put_fixed p s text h c next d et eh ec eb ed = put_is p (Fixed s) text h c next d (sym et) (sym eh) (sym ec) (sym eb) (sym ed)

pub put_named : (p : Written) (name : List ℕ) → put_by p name false 0 layout.Loose p.depth ≡ put p (Name name)
unfolding text_of hugs before depth_after
put_named p name = put_is p (Name name) name false 0 layout.Loose p.depth refl refl refl refl refl

pub put_numbered : (p : Written) (n : ℕ) (digits : List ℕ) → digits ≡ text_of (Number n) → put_by p digits false 0 layout.Loose p.depth ≡ put p (Number n)
unfolding text_of hugs before depth_after
put_numbered p n digits e = put_is p (Number n) digits false 0 layout.Loose p.depth (sym e) refl refl refl refl

-- one level of indent more
pub spaces_turn : (left : ℕ) (bytes more total : List ℕ) → 0 < left → more ≡ bytes ++ 32 ∷ 32 ∷ [] → bytes ++ spaces (2 * left) ≡ total → more ++ spaces (2 * (left - 1)) ≡ total
spaces_turn zero bytes more total lt em e = absurd (omega arith)
spaces_turn (suc left) bytes more total lt em e =
    let less : 2 * (suc left - 1) ≡ 2 * left = omega arith in
    let two : 2 * suc left ≡ suc (suc (2 * left)) = omega arith in
    ap (λ (k : ℕ). more ++ spaces k) less ∙ ap (λ (u : List ℕ). u ++ spaces (2 * left)) em ∙ append_assoc bytes (32 ∷ 32 ∷ []) (spaces (2 * left)) ∙ ap (λ (k : ℕ). bytes ++ spaces k) (sym two) ∙ e

pub laid : (p : Written) (ws : List Word) → (written p ws).bytes ≡ p.bytes ++ layout.layout p.before p.depth ws
unfolding layout.layout put
laid p [] = sym (append-nil p.bytes)
laid p (w ∷ ws) =
    let g = gap p.before p.depth w in
    let t = text_of w in
    let e = ending (before w) in
    let rest = layout.layout (before w) (depth_after w p.depth) ws in
    laid (put p w) ws ∙ append_assoc p.bytes (g ++ (t ++ e)) rest ∙ ap (λ (u : List ℕ). p.bytes ++ u) (append_assoc g (t ++ e) rest ∙ ap (λ (u : List ℕ). g ++ u) (append_assoc t e rest))

-- ---- lists

abbrev pub all_words : {A : Type 0} → (A → List Word) → List A → List Word
all_words f xs = joined (map f xs)

drop_next : {A : Type 0} (xs : List A) (i : ℕ) (d : A) → i < length xs → drop i xs ≡ get_or xs i d ∷ drop (suc i) xs
drop_next [] i d lt = absurd (omega arith)
drop_next (x ∷ xs) zero d lt = refl
drop_next (x ∷ xs) (suc i) d lt = drop_next xs i d (omega arith)

drop_all : {A : Type 0} (xs : List A) (i : ℕ) → length xs ≤ i → drop i xs ≡ []
drop_all [] zero le = refl
drop_all [] (suc i) le = refl
drop_all (x ∷ xs) zero le = absurd (omega arith)
drop_all (x ∷ xs) (suc i) le = drop_all xs i (omega arith)

-- one item more of a list
pub items_turn : {A : Type 0} (f : A → List Word) (xs : List A) (i : ℕ) (d : A) (p n total : Written) → i < length xs → n ≡ written p (f (get_or xs i d)) → written p (all_words f (drop i xs)) ≡ total → written n (all_words f (drop (i + 1) xs)) ≡ total
items_turn f xs i d p n total lt en e =
    let one : i + 1 ≡ suc i = omega arith in
    ap (λ (k : ℕ). written n (all_words f (drop k xs))) one
    ∙ ap (λ (q : Written). written q (all_words f (drop (suc i) xs))) en
    ∙ sym (written_append (f (get_or xs i d)) (all_words f (drop (suc i) xs)) p)
    ∙ ap (λ (ys : List _). written p (all_words f ys)) (sym (drop_next xs i d lt)) ∙ e

pub items_end : {A : Type 0} (f : A → List Word) (xs : List A) (i : ℕ) (p total : Written) → length xs ≤ i → written p (all_words f (drop i xs)) ≡ total → p ≡ total
items_end f xs i p total le e = ap (λ (ys : List _). written p (all_words f ys)) (sym (drop_all xs i le)) ∙ e

abbrev pub behind_comma : {A : Type 0} → (A → List Word) → A → List Word
behind_comma f x = Fixed (sign.Mark mark.Comma) ∷ f x

-- ---- words, then words

pub also : (us vs : List Word) (p q n : Written) → q ≡ written p us → n ≡ written q vs → n ≡ written p (us ++ vs)
also us vs p q n e h = h ∙ ap (λ (x : Written). written x vs) e ∙ sym (written_append us vs p)

pub commas_shown : {A E : Type 0} (f : A → List Word) (xs : List A) (d : A) (p q n : Written) (r : Result (Unit {0}) E) → 1 ≤ length xs → d ≡ get_or xs 0 d → q ≡ written p (f d)
    → OnOk r (n ≡ written q (all_words (behind_comma f) (take (length xs - 1) (drop 1 xs)))) → OnOk r (n ≡ written p (with_commas f xs))
commas_shown f [] d p q n r le is e h = absurd (omega arith)
commas_shown f (x ∷ xs) d p q n r le is e h =
    let rest : take (length (x ∷ xs) - 1) xs ≡ xs = take_all (length (x ∷ xs) - 1) xs (omega arith) in
    on_ok_weaker r (λ k. also (f x) (all_words (behind_comma f) xs) p q n (e ∙ ap (λ y. written p (f y)) is) (k ∙ ap (λ (ys : List _). written q (all_words (behind_comma f) ys)) rest)) h
