-- The tokens of words that were written with their blanks are these words.
use Rattle.san_base.proofs.Bools.{both_true}
use Rattle.std.proofs.Common.{◌≡◌, ℕ, zero, suc, ◌+◌, ◌-◌, ◌*◌, ◌<◌, ◌≤◌, Bool, true, false, cond, ◌&&◌, List, [], ◌∷◌, ◌++◌, length, map, Result, Ok, Err, Option, Some, None, refl, ap, ◌∙◌, arith}
use Rattle.std.specs.Prelude.{nat_eq, nat_le}
use Rattle.std.proofs.lemmas.Bool.Decides.{nat_tests}
use Rattle.std.specs.Char.{digit_value}
use Rattle.std.specs.Str.Parse.{digits_value, AllDigits, IsNumeral}
use Rattle.std.specs.Fmt.{decimal}
use Rattle.std.proofs.lemmas.Fmt.{decimal_is_IsNumeral}
use Rattle.san_base.specs.declared.op.Op.{Op}
use Rattle.san_base.specs.declared.op.Op.TheVariants as op
use Rattle.san_lex.specs.declared.keyword.Keyword.TheVariants as keyword
use Rattle.san_lex.specs.declared.sign.Mark.{Mark}
use Rattle.san_lex.specs.declared.sign.Mark.TheVariants as mark
use Rattle.san_lex.specs.declared.sign.Sign.{Sign}
use Rattle.san_lex.specs.declared.sign.Sign.TheVariants as sign
use Rattle.san_base.specs.declared.limits.TheConstants.{MAX_NAME_BYTES}
use Rattle.san_lex.specs.declared.byte.TheConstants.{MAX_NUMBER}
use Rattle.san_base.specs.Names.{is_letter, is_digit, is_in_name, each}
use Rattle.san_lex.specs.Bytes.{is_blank, run, first}
use Rattle.san_lex.specs.Keywords.{keyword_of}
use Rattle.san_lex.specs.Lexer.{Word, Number, Name, Fixed, TokenFault, Front, Token, named, numbered, mark_of, operator_of, single, double, sign_front, front, more, Located, with_token, grown, lex, word_of, heard}
use Rattle.san_lex.specs.Words.{IsName, IsWord, AreWords}
use Rattle.san_lex.specs.Layout.{sign_text, text_of, Spacing, Line, Tight, Loose, before, hugs, depth_after, closes, spaces, gap, ending, layout}

-- ---- steps of the lexer

lex_skip : (us vs : List ℕ) (at then : ℕ) → at + length us ≡ then → lex (length us) at (us ++ vs) ≡ lex 0 then vs
unfolding lex
lex_skip [] vs at then e = let same : at ≡ then = omega arith in ap (λ (n : ℕ). lex 0 n vs) same
lex_skip (u ∷ us) vs at then e = lex_skip us vs (suc at) then (omega arith)

-- a token at the front
lex_token : (b : ℕ) (bs vs : List ℕ) (w : Word) (at then : ℕ) → at + suc (length bs) ≡ then → front b (bs ++ vs) ≡ Token w (length bs)
    → lex 0 at (b ∷ (bs ++ vs)) ≡ with_token (record { word = w; start = at; end = at + suc (length bs) }) (lex 0 then vs)
unfolding lex
lex_token b bs vs w at then e f =
    ap (λ (g : Front). grown g at (lex (more g) (suc at) (bs ++ vs))) f
    ∙ ap (λ (r : Result (List Located) TokenFault). grown (Token w (length bs)) at r) (lex_skip bs vs (suc at) then (omega arith))

lex_space : (vs : List ℕ) (at : ℕ) → lex 0 at (32 ∷ vs) ≡ lex 0 (suc at) vs
unfolding lex front
lex_space vs at = refl

lex_line : (vs : List ℕ) (at : ℕ) → lex 0 at (10 ∷ vs) ≡ lex 0 (suc at) vs
unfolding lex front
lex_line vs at = refl

lex_spaces : (n : ℕ) (vs : List ℕ) (at then : ℕ) → at + n ≡ then → lex 0 at (spaces n ++ vs) ≡ lex 0 then vs
lex_spaces zero vs at then e = let same : at ≡ then = omega arith in ap (λ (k : ℕ). lex 0 k vs) same
lex_spaces (suc n) vs at then e = lex_space (spaces n ++ vs) at ∙ lex_spaces n vs (suc at) then (omega arith)

heard_token : (p : Located) (r : Result (List Located) TokenFault) (ws : List Word) → heard r ≡ Ok ws → heard (with_token p r) ≡ Ok (p.word ∷ ws)
heard_token p (Ok ps) ws e = let same : map word_of ps ≡ ws = cc in ap (λ (us : List Word). Ok (p.word ∷ us)) same
heard_token p (Err f) ws e = absurd cc

-- ---- which bytes would lengthen a word

abbrev op_grows : Op → ℕ → Bool
op_grows op.Lt b = nat_eq b 61
op_grows op.Gt b = nat_eq b 61
op_grows o b = false

abbrev mark_grows : Mark → ℕ → Bool
mark_grows mark.Equals b = nat_eq b 61
mark_grows m b = false

abbrev sign_grows : Sign → ℕ → Bool
sign_grows (sign.Keyword k) b = is_in_name b
sign_grows (sign.Mark m) b = mark_grows m b
sign_grows (sign.Operator o) b = op_grows o b
sign_grows sign.Not b = nat_eq b 61

abbrev grows : Word → ℕ → Bool
grows (Number n) b = is_digit b
grows (Name bs) b = is_in_name b
grows (Fixed s) b = sign_grows s b

abbrev Stops : ℕ → Type 0
Stops b = (is_in_name b ≡ false) × (is_digit b ≡ false) × (nat_eq b 61 ≡ false)

abbrev sign_first : Sign → List ℕ → Type 0
sign_first s vs = Stops (first (gap Loose 0 (Fixed s) ++ (sign_text s ++ vs)))

sign_stops : (s : Sign) (vs : List ℕ) → sign_first s vs
unfolding hugs
sign_stops (sign.Keyword keyword.San) vs = (refl, refl, refl)
sign_stops (sign.Keyword keyword.Atomic) vs = (refl, refl, refl)
sign_stops (sign.Keyword keyword.Place) vs = (refl, refl, refl)
sign_stops (sign.Keyword keyword.Join) vs = (refl, refl, refl)
sign_stops (sign.Keyword keyword.Child) vs = (refl, refl, refl)
sign_stops (sign.Keyword keyword.Share) vs = (refl, refl, refl)
sign_stops (sign.Keyword keyword.Rep) vs = (refl, refl, refl)
sign_stops (sign.Keyword keyword.Times) vs = (refl, refl, refl)
sign_stops (sign.Keyword keyword.System) vs = (refl, refl, refl)
sign_stops (sign.Keyword keyword.Timed) vs = (refl, refl, refl)
sign_stops (sign.Keyword keyword.Instant) vs = (refl, refl, refl)
sign_stops (sign.Keyword keyword.In) vs = (refl, refl, refl)
sign_stops (sign.Keyword keyword.Gate) vs = (refl, refl, refl)
sign_stops (sign.Keyword keyword.Do) vs = (refl, refl, refl)
sign_stops (sign.Keyword keyword.React) vs = (refl, refl, refl)
sign_stops (sign.Keyword keyword.Case) vs = (refl, refl, refl)
sign_stops (sign.Keyword keyword.Out) vs = (refl, refl, refl)
sign_stops (sign.Keyword keyword.If) vs = (refl, refl, refl)
sign_stops (sign.Keyword keyword.Else) vs = (refl, refl, refl)
sign_stops (sign.Keyword keyword.Delay) vs = (refl, refl, refl)
sign_stops (sign.Keyword keyword.Det) vs = (refl, refl, refl)
sign_stops (sign.Keyword keyword.Uniform) vs = (refl, refl, refl)
sign_stops (sign.Keyword keyword.Geom) vs = (refl, refl, refl)
sign_stops (sign.Keyword keyword.Table) vs = (refl, refl, refl)
sign_stops (sign.Keyword keyword.Reward) vs = (refl, refl, refl)
sign_stops (sign.Keyword keyword.On) vs = (refl, refl, refl)
sign_stops (sign.Keyword keyword.Over) vs = (refl, refl, refl)
sign_stops (sign.Keyword keyword.Mean) vs = (refl, refl, refl)
sign_stops (sign.Keyword keyword.At) vs = (refl, refl, refl)
sign_stops (sign.Keyword keyword.Rate) vs = (refl, refl, refl)
sign_stops (sign.Keyword keyword.Impulse) vs = (refl, refl, refl)
sign_stops (sign.Mark mark.OpenBrace) vs = (refl, refl, refl)
sign_stops (sign.Mark mark.CloseBrace) vs = (refl, refl, refl)
sign_stops (sign.Mark mark.OpenParen) vs = (refl, refl, refl)
sign_stops (sign.Mark mark.CloseParen) vs = (refl, refl, refl)
sign_stops (sign.Mark mark.OpenBracket) vs = (refl, refl, refl)
sign_stops (sign.Mark mark.CloseBracket) vs = (refl, refl, refl)
sign_stops (sign.Mark mark.Semicolon) vs = (refl, refl, refl)
sign_stops (sign.Mark mark.Comma) vs = (refl, refl, refl)
sign_stops (sign.Mark mark.Dot) vs = (refl, refl, refl)
sign_stops (sign.Mark mark.Colon) vs = (refl, refl, refl)
sign_stops (sign.Mark mark.Equals) vs = (refl, refl, refl)
sign_stops (sign.Operator op.Or) vs = (refl, refl, refl)
sign_stops (sign.Operator op.And) vs = (refl, refl, refl)
sign_stops (sign.Operator op.Eq) vs = (refl, refl, refl)
sign_stops (sign.Operator op.Ne) vs = (refl, refl, refl)
sign_stops (sign.Operator op.Lt) vs = (refl, refl, refl)
sign_stops (sign.Operator op.Le) vs = (refl, refl, refl)
sign_stops (sign.Operator op.Gt) vs = (refl, refl, refl)
sign_stops (sign.Operator op.Ge) vs = (refl, refl, refl)
sign_stops (sign.Operator op.Add) vs = (refl, refl, refl)
sign_stops (sign.Operator op.Sub) vs = (refl, refl, refl)
sign_stops (sign.Operator op.Mul) vs = (refl, refl, refl)
sign_stops (sign.Operator op.Div) vs = (refl, refl, refl)
sign_stops (sign.Operator op.Rem) vs = (refl, refl, refl)
sign_stops sign.Not vs = (refl, refl, refl)

-- what follows a word that wants a space lengthens none
loose_first : (d : ℕ) (ws : List Word) → Stops (first (layout Loose d ws))
unfolding layout hugs text_of
loose_first d [] = (refl, refl, refl)
loose_first d (Number n ∷ ws) = (refl, refl, refl)
loose_first d (Name bs ∷ ws) = (refl, refl, refl)
loose_first d (Fixed s ∷ ws) = sign_stops s (ending (before (Fixed s)) ++ layout (before (Fixed s)) (depth_after (Fixed s) d) ws)

abbrev sign_rest : Sign → ℕ → List Word → List ℕ
sign_rest s d ws = ending (before (Fixed s)) ++ layout (before (Fixed s)) d ws

mark_apart : (m : Mark) (d : ℕ) (ws : List Word) → mark_grows m (first (sign_rest (sign.Mark m) d ws)) ≡ false
unfolding before
mark_apart mark.Equals d ws = (loose_first d ws).2
mark_apart m d ws = refl

op_apart : (o : Op) (d : ℕ) (ws : List Word) → op_grows o (first (sign_rest (sign.Operator o) d ws)) ≡ false
unfolding before
op_apart op.Lt d ws = (loose_first d ws).2
op_apart op.Gt d ws = (loose_first d ws).2
op_apart o d ws = refl

sign_apart : (s : Sign) (d : ℕ) (ws : List Word) → sign_grows s (first (sign_rest s d ws)) ≡ false
unfolding before
sign_apart (sign.Keyword k) d ws = (loose_first d ws).0
sign_apart (sign.Mark m) d ws = mark_apart m d ws
sign_apart (sign.Operator o) d ws = op_apart o d ws
sign_apart sign.Not d ws = (loose_first d ws).2

apart : (w : Word) (d : ℕ) (ws : List Word) → grows w (first (ending (before w) ++ layout (before w) d ws)) ≡ false
unfolding before
apart (Number n) d ws = (loose_first d ws).1
apart (Name bs) d ws = (loose_first d ws).0
apart (Fixed s) d ws = sign_apart s d ws

-- ---- the front of a written word

run_all : (p : ℕ → Bool) (us vs : List ℕ) → each p us ≡ true → p (first vs) ≡ false → run p (us ++ vs) ≡ us
unfolding run
run_all p [] [] h e = refl
run_all p [] (v ∷ vs) h e = ap (λ (b : Bool). cond b (v ∷ run p vs) []) e
run_all p (u ∷ us) vs h e =
    let two = both_true (p u) (each p us) h in
    ap (λ (b : Bool). cond b (u ∷ run p (us ++ vs)) []) two.0 ∙ ap (λ (xs : List ℕ). u ∷ xs) (run_all p us vs two.1 e)

nones : (x y z : Bool) → cond {A = Option Sign} x None (cond y None (cond z None None)) ≡ None
nones true y z = refl
nones false true z = refl
nones false false true = refl
nones false false false = refl

no_equals : (c : ℕ) (o : Option Sign) → nat_eq c 61 ≡ false → cond (nat_eq c 61) o (cond (nat_eq c 38) None (cond (nat_eq c 124) None None)) ≡ None
no_equals c o e = ap (λ (b : Bool). cond b o (cond (nat_eq c 38) None (cond (nat_eq c 124) None None))) e ∙ nones false (nat_eq c 38) (nat_eq c 124)

-- what a written word is at the front of a text
record Fronts (w : Word) (vs : List ℕ) : Type 0 where
  head : ℕ
  others : List ℕ
  text : text_of w ≡ head ∷ others
  front_is : front head (others ++ vs) ≡ Token w (length others)

sign_fronts : (s : Sign) (vs : List ℕ) → sign_grows s (first vs) ≡ false → Fronts (Fixed s) vs
unfolding text_of front double single mark_of operator_of named keyword_of run
sign_fronts (sign.Operator op.Or) vs e = record { head = 124; others = 124 ∷ []; text = refl; front_is = refl }
sign_fronts (sign.Operator op.And) vs e = record { head = 38; others = 38 ∷ []; text = refl; front_is = refl }
sign_fronts (sign.Operator op.Eq) vs e = record { head = 61; others = 61 ∷ []; text = refl; front_is = refl }
sign_fronts (sign.Operator op.Ne) vs e = record { head = 33; others = 61 ∷ []; text = refl; front_is = refl }
sign_fronts (sign.Operator op.Le) vs e = record { head = 60; others = 61 ∷ []; text = refl; front_is = refl }
sign_fronts (sign.Operator op.Ge) vs e = record { head = 62; others = 61 ∷ []; text = refl; front_is = refl }
sign_fronts (sign.Operator op.Add) vs e = record { head = 43; others = []; text = refl; front_is = ap (λ (o : Option Sign). sign_front o (Some (sign.Operator op.Add))) (nones (nat_eq (first vs) 61) (nat_eq (first vs) 38) (nat_eq (first vs) 124)) }
sign_fronts (sign.Operator op.Sub) vs e = record { head = 45; others = []; text = refl; front_is = ap (λ (o : Option Sign). sign_front o (Some (sign.Operator op.Sub))) (nones (nat_eq (first vs) 61) (nat_eq (first vs) 38) (nat_eq (first vs) 124)) }
sign_fronts (sign.Operator op.Mul) vs e = record { head = 42; others = []; text = refl; front_is = ap (λ (o : Option Sign). sign_front o (Some (sign.Operator op.Mul))) (nones (nat_eq (first vs) 61) (nat_eq (first vs) 38) (nat_eq (first vs) 124)) }
sign_fronts (sign.Operator op.Div) vs e = record { head = 47; others = []; text = refl; front_is = ap (λ (o : Option Sign). sign_front o (Some (sign.Operator op.Div))) (nones (nat_eq (first vs) 61) (nat_eq (first vs) 38) (nat_eq (first vs) 124)) }
sign_fronts (sign.Operator op.Rem) vs e = record { head = 37; others = []; text = refl; front_is = ap (λ (o : Option Sign). sign_front o (Some (sign.Operator op.Rem))) (nones (nat_eq (first vs) 61) (nat_eq (first vs) 38) (nat_eq (first vs) 124)) }
sign_fronts (sign.Operator op.Lt) vs e = record { head = 60; others = []; text = refl; front_is = ap (λ (o : Option Sign). sign_front o (Some (sign.Operator op.Lt))) (no_equals (first vs) _ e) }
sign_fronts (sign.Operator op.Gt) vs e = record { head = 62; others = []; text = refl; front_is = ap (λ (o : Option Sign). sign_front o (Some (sign.Operator op.Gt))) (no_equals (first vs) _ e) }
sign_fronts sign.Not vs e = record { head = 33; others = []; text = refl; front_is = ap (λ (o : Option Sign). sign_front o (Some sign.Not)) (no_equals (first vs) _ e) }
sign_fronts (sign.Mark mark.OpenBrace) vs e = record { head = 123; others = []; text = refl; front_is = ap (λ (o : Option Sign). sign_front o (Some (sign.Mark mark.OpenBrace))) (nones (nat_eq (first vs) 61) (nat_eq (first vs) 38) (nat_eq (first vs) 124)) }
sign_fronts (sign.Mark mark.CloseBrace) vs e = record { head = 125; others = []; text = refl; front_is = ap (λ (o : Option Sign). sign_front o (Some (sign.Mark mark.CloseBrace))) (nones (nat_eq (first vs) 61) (nat_eq (first vs) 38) (nat_eq (first vs) 124)) }
sign_fronts (sign.Mark mark.OpenParen) vs e = record { head = 40; others = []; text = refl; front_is = ap (λ (o : Option Sign). sign_front o (Some (sign.Mark mark.OpenParen))) (nones (nat_eq (first vs) 61) (nat_eq (first vs) 38) (nat_eq (first vs) 124)) }
sign_fronts (sign.Mark mark.CloseParen) vs e = record { head = 41; others = []; text = refl; front_is = ap (λ (o : Option Sign). sign_front o (Some (sign.Mark mark.CloseParen))) (nones (nat_eq (first vs) 61) (nat_eq (first vs) 38) (nat_eq (first vs) 124)) }
sign_fronts (sign.Mark mark.OpenBracket) vs e = record { head = 91; others = []; text = refl; front_is = ap (λ (o : Option Sign). sign_front o (Some (sign.Mark mark.OpenBracket))) (nones (nat_eq (first vs) 61) (nat_eq (first vs) 38) (nat_eq (first vs) 124)) }
sign_fronts (sign.Mark mark.CloseBracket) vs e = record { head = 93; others = []; text = refl; front_is = ap (λ (o : Option Sign). sign_front o (Some (sign.Mark mark.CloseBracket))) (nones (nat_eq (first vs) 61) (nat_eq (first vs) 38) (nat_eq (first vs) 124)) }
sign_fronts (sign.Mark mark.Semicolon) vs e = record { head = 59; others = []; text = refl; front_is = ap (λ (o : Option Sign). sign_front o (Some (sign.Mark mark.Semicolon))) (nones (nat_eq (first vs) 61) (nat_eq (first vs) 38) (nat_eq (first vs) 124)) }
sign_fronts (sign.Mark mark.Comma) vs e = record { head = 44; others = []; text = refl; front_is = ap (λ (o : Option Sign). sign_front o (Some (sign.Mark mark.Comma))) (nones (nat_eq (first vs) 61) (nat_eq (first vs) 38) (nat_eq (first vs) 124)) }
sign_fronts (sign.Mark mark.Dot) vs e = record { head = 46; others = []; text = refl; front_is = ap (λ (o : Option Sign). sign_front o (Some (sign.Mark mark.Dot))) (nones (nat_eq (first vs) 61) (nat_eq (first vs) 38) (nat_eq (first vs) 124)) }
sign_fronts (sign.Mark mark.Colon) vs e = record { head = 58; others = []; text = refl; front_is = ap (λ (o : Option Sign). sign_front o (Some (sign.Mark mark.Colon))) (nones (nat_eq (first vs) 61) (nat_eq (first vs) 38) (nat_eq (first vs) 124)) }
sign_fronts (sign.Mark mark.Equals) vs e = record { head = 61; others = []; text = refl; front_is = ap (λ (o : Option Sign). sign_front o (Some (sign.Mark mark.Equals))) (no_equals (first vs) _ e) }
sign_fronts (sign.Keyword keyword.San) vs e = record { head = 115; others = 97 ∷ 110 ∷ []; text = refl; front_is = ap (λ (us : List ℕ). named (115 ∷ us)) (run_all is_in_name (97 ∷ 110 ∷ []) vs refl e) }
sign_fronts (sign.Keyword keyword.Atomic) vs e = record { head = 97; others = 116 ∷ 111 ∷ 109 ∷ 105 ∷ 99 ∷ []; text = refl; front_is = ap (λ (us : List ℕ). named (97 ∷ us)) (run_all is_in_name (116 ∷ 111 ∷ 109 ∷ 105 ∷ 99 ∷ []) vs refl e) }
sign_fronts (sign.Keyword keyword.Place) vs e = record { head = 112; others = 108 ∷ 97 ∷ 99 ∷ 101 ∷ []; text = refl; front_is = ap (λ (us : List ℕ). named (112 ∷ us)) (run_all is_in_name (108 ∷ 97 ∷ 99 ∷ 101 ∷ []) vs refl e) }
sign_fronts (sign.Keyword keyword.Join) vs e = record { head = 106; others = 111 ∷ 105 ∷ 110 ∷ []; text = refl; front_is = ap (λ (us : List ℕ). named (106 ∷ us)) (run_all is_in_name (111 ∷ 105 ∷ 110 ∷ []) vs refl e) }
sign_fronts (sign.Keyword keyword.Child) vs e = record { head = 99; others = 104 ∷ 105 ∷ 108 ∷ 100 ∷ []; text = refl; front_is = ap (λ (us : List ℕ). named (99 ∷ us)) (run_all is_in_name (104 ∷ 105 ∷ 108 ∷ 100 ∷ []) vs refl e) }
sign_fronts (sign.Keyword keyword.Share) vs e = record { head = 115; others = 104 ∷ 97 ∷ 114 ∷ 101 ∷ []; text = refl; front_is = ap (λ (us : List ℕ). named (115 ∷ us)) (run_all is_in_name (104 ∷ 97 ∷ 114 ∷ 101 ∷ []) vs refl e) }
sign_fronts (sign.Keyword keyword.Rep) vs e = record { head = 114; others = 101 ∷ 112 ∷ []; text = refl; front_is = ap (λ (us : List ℕ). named (114 ∷ us)) (run_all is_in_name (101 ∷ 112 ∷ []) vs refl e) }
sign_fronts (sign.Keyword keyword.Times) vs e = record { head = 116; others = 105 ∷ 109 ∷ 101 ∷ 115 ∷ []; text = refl; front_is = ap (λ (us : List ℕ). named (116 ∷ us)) (run_all is_in_name (105 ∷ 109 ∷ 101 ∷ 115 ∷ []) vs refl e) }
sign_fronts (sign.Keyword keyword.System) vs e = record { head = 115; others = 121 ∷ 115 ∷ 116 ∷ 101 ∷ 109 ∷ []; text = refl; front_is = ap (λ (us : List ℕ). named (115 ∷ us)) (run_all is_in_name (121 ∷ 115 ∷ 116 ∷ 101 ∷ 109 ∷ []) vs refl e) }
sign_fronts (sign.Keyword keyword.Timed) vs e = record { head = 116; others = 105 ∷ 109 ∷ 101 ∷ 100 ∷ []; text = refl; front_is = ap (λ (us : List ℕ). named (116 ∷ us)) (run_all is_in_name (105 ∷ 109 ∷ 101 ∷ 100 ∷ []) vs refl e) }
sign_fronts (sign.Keyword keyword.Instant) vs e = record { head = 105; others = 110 ∷ 115 ∷ 116 ∷ 97 ∷ 110 ∷ 116 ∷ []; text = refl; front_is = ap (λ (us : List ℕ). named (105 ∷ us)) (run_all is_in_name (110 ∷ 115 ∷ 116 ∷ 97 ∷ 110 ∷ 116 ∷ []) vs refl e) }
sign_fronts (sign.Keyword keyword.In) vs e = record { head = 105; others = 110 ∷ []; text = refl; front_is = ap (λ (us : List ℕ). named (105 ∷ us)) (run_all is_in_name (110 ∷ []) vs refl e) }
sign_fronts (sign.Keyword keyword.Gate) vs e = record { head = 103; others = 97 ∷ 116 ∷ 101 ∷ []; text = refl; front_is = ap (λ (us : List ℕ). named (103 ∷ us)) (run_all is_in_name (97 ∷ 116 ∷ 101 ∷ []) vs refl e) }
sign_fronts (sign.Keyword keyword.Do) vs e = record { head = 100; others = 111 ∷ []; text = refl; front_is = ap (λ (us : List ℕ). named (100 ∷ us)) (run_all is_in_name (111 ∷ []) vs refl e) }
sign_fronts (sign.Keyword keyword.React) vs e = record { head = 114; others = 101 ∷ 97 ∷ 99 ∷ 116 ∷ []; text = refl; front_is = ap (λ (us : List ℕ). named (114 ∷ us)) (run_all is_in_name (101 ∷ 97 ∷ 99 ∷ 116 ∷ []) vs refl e) }
sign_fronts (sign.Keyword keyword.Case) vs e = record { head = 99; others = 97 ∷ 115 ∷ 101 ∷ []; text = refl; front_is = ap (λ (us : List ℕ). named (99 ∷ us)) (run_all is_in_name (97 ∷ 115 ∷ 101 ∷ []) vs refl e) }
sign_fronts (sign.Keyword keyword.Out) vs e = record { head = 111; others = 117 ∷ 116 ∷ []; text = refl; front_is = ap (λ (us : List ℕ). named (111 ∷ us)) (run_all is_in_name (117 ∷ 116 ∷ []) vs refl e) }
sign_fronts (sign.Keyword keyword.If) vs e = record { head = 105; others = 102 ∷ []; text = refl; front_is = ap (λ (us : List ℕ). named (105 ∷ us)) (run_all is_in_name (102 ∷ []) vs refl e) }
sign_fronts (sign.Keyword keyword.Else) vs e = record { head = 101; others = 108 ∷ 115 ∷ 101 ∷ []; text = refl; front_is = ap (λ (us : List ℕ). named (101 ∷ us)) (run_all is_in_name (108 ∷ 115 ∷ 101 ∷ []) vs refl e) }
sign_fronts (sign.Keyword keyword.Delay) vs e = record { head = 100; others = 101 ∷ 108 ∷ 97 ∷ 121 ∷ []; text = refl; front_is = ap (λ (us : List ℕ). named (100 ∷ us)) (run_all is_in_name (101 ∷ 108 ∷ 97 ∷ 121 ∷ []) vs refl e) }
sign_fronts (sign.Keyword keyword.Det) vs e = record { head = 100; others = 101 ∷ 116 ∷ []; text = refl; front_is = ap (λ (us : List ℕ). named (100 ∷ us)) (run_all is_in_name (101 ∷ 116 ∷ []) vs refl e) }
sign_fronts (sign.Keyword keyword.Uniform) vs e = record { head = 117; others = 110 ∷ 105 ∷ 102 ∷ 111 ∷ 114 ∷ 109 ∷ []; text = refl; front_is = ap (λ (us : List ℕ). named (117 ∷ us)) (run_all is_in_name (110 ∷ 105 ∷ 102 ∷ 111 ∷ 114 ∷ 109 ∷ []) vs refl e) }
sign_fronts (sign.Keyword keyword.Geom) vs e = record { head = 103; others = 101 ∷ 111 ∷ 109 ∷ []; text = refl; front_is = ap (λ (us : List ℕ). named (103 ∷ us)) (run_all is_in_name (101 ∷ 111 ∷ 109 ∷ []) vs refl e) }
sign_fronts (sign.Keyword keyword.Table) vs e = record { head = 116; others = 97 ∷ 98 ∷ 108 ∷ 101 ∷ []; text = refl; front_is = ap (λ (us : List ℕ). named (116 ∷ us)) (run_all is_in_name (97 ∷ 98 ∷ 108 ∷ 101 ∷ []) vs refl e) }
sign_fronts (sign.Keyword keyword.Reward) vs e = record { head = 114; others = 101 ∷ 119 ∷ 97 ∷ 114 ∷ 100 ∷ []; text = refl; front_is = ap (λ (us : List ℕ). named (114 ∷ us)) (run_all is_in_name (101 ∷ 119 ∷ 97 ∷ 114 ∷ 100 ∷ []) vs refl e) }
sign_fronts (sign.Keyword keyword.On) vs e = record { head = 111; others = 110 ∷ []; text = refl; front_is = ap (λ (us : List ℕ). named (111 ∷ us)) (run_all is_in_name (110 ∷ []) vs refl e) }
sign_fronts (sign.Keyword keyword.Over) vs e = record { head = 111; others = 118 ∷ 101 ∷ 114 ∷ []; text = refl; front_is = ap (λ (us : List ℕ). named (111 ∷ us)) (run_all is_in_name (118 ∷ 101 ∷ 114 ∷ []) vs refl e) }
sign_fronts (sign.Keyword keyword.Mean) vs e = record { head = 109; others = 101 ∷ 97 ∷ 110 ∷ []; text = refl; front_is = ap (λ (us : List ℕ). named (109 ∷ us)) (run_all is_in_name (101 ∷ 97 ∷ 110 ∷ []) vs refl e) }
sign_fronts (sign.Keyword keyword.At) vs e = record { head = 97; others = 116 ∷ []; text = refl; front_is = ap (λ (us : List ℕ). named (97 ∷ us)) (run_all is_in_name (116 ∷ []) vs refl e) }
sign_fronts (sign.Keyword keyword.Rate) vs e = record { head = 114; others = 97 ∷ 116 ∷ 101 ∷ []; text = refl; front_is = ap (λ (us : List ℕ). named (114 ∷ us)) (run_all is_in_name (97 ∷ 116 ∷ 101 ∷ []) vs refl e) }
sign_fronts (sign.Keyword keyword.Impulse) vs e = record { head = 105; others = 109 ∷ 112 ∷ 117 ∷ 108 ∷ 115 ∷ 101 ∷ []; text = refl; front_is = ap (λ (us : List ℕ). named (105 ∷ us)) (run_all is_in_name (109 ∷ 112 ∷ 117 ∷ 108 ∷ 115 ∷ 101 ∷ []) vs refl e) }

letter_is : (b : ℕ) → is_letter b ≡ true → (is_blank b ≡ false) × (nat_eq b 35 ≡ false)
letter_is b h = (grind (arith, nat_tests), grind (arith, nat_tests))

digit_range : (b : ℕ) → digit_value b < 10 → (48 ≤ b) × (b < 58)
digit_range b h = (grind (arith, nat_tests), grind (arith, nat_tests))

digit_is : (b : ℕ) → digit_value b < 10 → (is_blank b ≡ false) × (nat_eq b 35 ≡ false) × (is_letter b ≡ false) × (is_digit b ≡ true)
digit_is b h = let r = digit_range b h in (grind (arith, nat_tests), grind (arith, nat_tests), grind (arith, nat_tests), grind (arith, nat_tests))

-- a byte of a number and those after it
each_digit : (ds : List ℕ) → AllDigits 10 ds → each is_digit ds ≡ true
each_digit [] h = refl
each_digit (d ∷ ds) h = ap (λ (b : Bool). b && each is_digit ds) (digit_is d h.0).3 ∙ each_digit ds h.1

number_text : (ds : List ℕ) (n : ℕ) (vs : List ℕ) → IsNumeral 10 ds → digits_value 10 ds ≡ n → n ≤ MAX_NUMBER → is_digit (first vs) ≡ false
    → (b : ℕ) × (bs : List ℕ) × (ds ≡ b ∷ bs) × (front b (bs ++ vs) ≡ Token (Number n) (length bs))
unfolding front numbered
number_text [] n vs h v lt e = absurd (omega (arith, h.0))
number_text (d ∷ ds) n vs h v lt e =
    let t = digit_is d h.1.0 in
    let r : run is_digit (ds ++ vs) ≡ ds = run_all is_digit ds vs (each_digit ds h.1.1) e in
    let small : nat_le n MAX_NUMBER ≡ true = grind (arith, nat_tests) in
    (d, ds, refl, rw (t.0, t.1, t.2, t.3, r, v, small) refl)

number_fronts : (n : ℕ) (vs : List ℕ) → n ≤ MAX_NUMBER → is_digit (first vs) ≡ false → Fronts (Number n) vs
unfolding text_of
number_fronts n vs lt e =
    let d = decimal_is_IsNumeral n (omega arith) in
    let t = number_text (decimal n) n vs d.0 d.1 lt e in
    record { head = t.0; others = t.1; text = t.2; front_is = t.3 }

name_fronts : (bs : List ℕ) (vs : List ℕ) → IsName bs → is_in_name (first vs) ≡ false → Fronts (Name bs) vs
unfolding text_of front named
name_fronts [] vs h e = absurd h
name_fronts (b ∷ bs) vs h e =
    let t = letter_is b h.0 in
    let letter : is_letter b ≡ true = h.0 in
    let r : run is_in_name (bs ++ vs) ≡ bs = run_all is_in_name bs vs h.1 e in
    let lt : length bs < MAX_NAME_BYTES = h.2 in
    let short : nat_le MAX_NAME_BYTES (length bs) ≡ false = grind (arith, nat_tests) in
    let key : keyword_of (b ∷ bs) ≡ None = h.3 in
    record { head = b; others = bs; text = refl; front_is = rw (t.0, t.1, letter, r, short, key) refl }

word_fronts : (w : Word) (vs : List ℕ) → IsWord w → grows w (first vs) ≡ false → Fronts w vs
word_fronts (Number n) vs h e = number_fronts n vs h e
word_fronts (Name bs) vs h e = name_fronts bs vs h e
word_fronts (Fixed s) vs h e = sign_fronts s vs e

-- ---- the law

-- a word, and what is behind it
lex_word : (w : Word) (vs : List ℕ) (ws : List Word) (at : ℕ) → Fronts w vs → ((then : ℕ) → heard (lex 0 then vs) ≡ Ok ws) → heard (lex 0 at (text_of w ++ vs)) ≡ Ok (w ∷ ws)
lex_word w vs ws at f rest =
    let then : ℕ = at + suc (length f.others) in
    ap (λ (u : List ℕ). heard (lex 0 at (u ++ vs))) f.text
    ∙ ap heard (lex_token f.head f.others vs w at then refl f.front_is)
    ∙ heard_token (record { word = w; start = at; end = then }) (lex 0 then vs) ws (rest then)

lex_ending : (b : Spacing) (vs : List ℕ) (ws : List Word) → ((at : ℕ) → heard (lex 0 at vs) ≡ Ok ws) → (at : ℕ) → heard (lex 0 at (ending b ++ vs)) ≡ Ok ws
lex_ending Line vs ws h at = ap heard (lex_line vs at) ∙ h (suc at)
lex_ending Tight vs ws h at = h at
lex_ending Loose vs ws h at = h at

space_or_none : (c : Bool) (vs : List ℕ) (ws : List Word) → ((at : ℕ) → heard (lex 0 at vs) ≡ Ok ws) → (at : ℕ) → heard (lex 0 at (cond c [] (32 ∷ []) ++ vs)) ≡ Ok ws
space_or_none true vs ws h at = h at
space_or_none false vs ws h at = ap heard (lex_space vs at) ∙ h (suc at)

lex_gap : (b : Spacing) (d : ℕ) (w : Word) (vs : List ℕ) (ws : List Word) → ((at : ℕ) → heard (lex 0 at vs) ≡ Ok ws) → (at : ℕ) → heard (lex 0 at (gap b d w ++ vs)) ≡ Ok ws
lex_gap Line d w vs ws h at = ap heard (lex_spaces (2 * (d - closes w)) vs at (at + 2 * (d - closes w)) refl) ∙ h (at + 2 * (d - closes w))
lex_gap Tight d w vs ws h at = h at
lex_gap Loose d w vs ws h at = space_or_none (hugs w) vs ws h at

pub layout_law : (b : Spacing) (d : ℕ) (ws : List Word) → AreWords ws → (at : ℕ) → heard (lex 0 at (layout b d ws)) ≡ Ok ws
unfolding layout lex
layout_law b d [] h at = refl
layout_law b d (w ∷ ws) h at =
    let e = depth_after w d in
    let vs : List ℕ = ending (before w) ++ layout (before w) e ws in
    lex_gap b d w (text_of w ++ vs) (w ∷ ws)
    (λ at. lex_word w vs ws at (word_fronts w vs h.0 (apart w e ws)) (lex_ending (before w) (layout (before w) e ws) ws (λ at. layout_law (before w) e ws h.1 at))) at
