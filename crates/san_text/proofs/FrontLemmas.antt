-- What the tests of the front say of the words, and the parts of a reading that did not fail.
use Rattle.std.proofs.Common.{◌≡◌, ℕ, zero, suc, Bool, true, false, cond, ◌&&◌, List, [], ◌∷◌, ◌++◌, Result, Ok, Err, Some, None, refl, ap, ◌∙◌}
use Rattle.std.specs.Prelude.{nat_eq}
use Rattle.san_base.specs.declared.op.Op.{Op}
use Rattle.san_base.specs.declared.op.Op.TheVariants as op
use Rattle.san_lex.specs.declared.sign.Sign.{Sign}
use Rattle.san_lex.specs.declared.sign.Sign.TheVariants as sign
use Rattle.san_lex.specs.declared.sign.Mark.TheVariants as mark
use Rattle.san_lex.specs.Lexer.{Word, Number, Name, Fixed}
use Rattle.san_text.specs.declared.expression.Begin.TheVariants as begin
use Rattle.san_text.specs.Words.{Goes, By, Ends, Index, look, at_level, level_of, is_next, tail}
use Rattle.san_text.proofs.SignLemmas.{sign_is, sign_self}
use Rattle.san_text.specs.Steps.{GrammarFault, ◌>>=◌}
use Rattle.san_text.specs.Expressions.{room, beginning}

-- the value of a step that did not fail
pub bind_ok : {A B : Type 0} (r : Result A GrammarFault) (f : A → Result B GrammarFault) (y : B) → (r >>= f) ≡ Ok y → (x : A) × (r ≡ Ok x) × (f x ≡ Ok y)
bind_ok (Ok x) f y e = (x, refl, e)
bind_ok (Err d) f y e = absurd cc

abbrev done : {A : Type 0} → A → Result A GrammarFault
done x = Ok x

pub ok_is : {A : Type 0} (x y : A) → done x ≡ done y → x ≡ y
ok_is x y e = cc

-- a test that held
pub test_ok : {A : Type 0} (b : Bool) (r : Result A GrammarFault) (d : GrammarFault) (y : A) → cond b r (Err d) ≡ Ok y → (b ≡ true) × (r ≡ Ok y)
test_ok true r d y e = (refl, e)
test_ok false r d y e = absurd cc

pub room_again : (k j : ℕ) (ws vs : List Word) → room k ws ≡ Ok j → room k vs ≡ Ok j
unfolding room
room_again zero j ws vs e = absurd cc
room_again (suc k) j ws vs e = e

pub next_is : (s : Sign) (ws : List Word) → is_next s ws ≡ true → ws ≡ Fixed s ∷ tail ws
unfolding is_next
next_is s [] e = absurd cc
next_is s (Number n ∷ ws) e = absurd cc
next_is s (Name n ∷ ws) e = absurd cc
next_is s (Fixed t ∷ ws) e = ap (λ (u : Sign). Fixed u ∷ ws) (sign_is t s e)

pub look_by : (ws : List Word) (o : Op) → look ws ≡ By o → ws ≡ Fixed (sign.Operator o) ∷ tail ws
unfolding look
look_by [] o e = absurd cc
look_by (Number n ∷ ws) o e = absurd cc
look_by (Name s ∷ ws) o e = absurd cc
look_by (Fixed (sign.Operator p) ∷ ws) o e = cc
look_by (Fixed (sign.Mark mark.OpenBracket) ∷ ws) o e = absurd cc
look_by (Fixed (sign.Mark m) ∷ ws) o e = absurd cc
look_by (Fixed (sign.Keyword k) ∷ ws) o e = absurd cc
look_by (Fixed sign.Not ∷ ws) o e = absurd cc

pub look_index : (ws : List Word) → look ws ≡ Index → ws ≡ Fixed (sign.Mark mark.OpenBracket) ∷ tail ws
unfolding look
look_index [] e = absurd cc
look_index (Number n ∷ ws) e = absurd cc
look_index (Name s ∷ ws) e = absurd cc
look_index (Fixed (sign.Operator p) ∷ ws) e = absurd cc
look_index (Fixed (sign.Mark mark.OpenBracket) ∷ ws) e = refl
look_index (Fixed s ∷ ws) e = absurd cc

chosen : (b : Bool) (p o : Op) → cond b (Some p) None ≡ Some o → By p ≡ By o
chosen true p o h = cc
chosen false p o h = absurd cc

pub level_by : (level : ℕ) (g : Goes) (o : Op) → at_level level g ≡ Some o → g ≡ By o
unfolding at_level
level_by level Ends o e = absurd cc
level_by level Index o e = absurd cc
level_by level (By p) o e = chosen (nat_eq (level_of p) level) p o e

pub then_ok : {A B : Type 0} (r : Result A GrammarFault) (f : A → Result B GrammarFault) (x : A) (y : B) → r ≡ Ok x → f x ≡ Ok y → (r >>= f) ≡ Ok y
then_ok r f x y e h = ap (λ (q : Result _ GrammarFault). q >>= f) e ∙ h

pub look_front : (us vs ws : List Word) → look vs ≡ look ws → look (us ++ vs) ≡ look (us ++ ws)
unfolding look
look_front [] vs ws e = e
look_front (u ∷ us) vs ws e = refl

pub next_self : (s : Sign) (ws : List Word) → is_next s (Fixed s ∷ ws) ≡ true
unfolding is_next
next_self s ws = sign_self s

-- ---- how an operand beginning

pub begins_value : (ws : List Word) (n : ℕ) → beginning ws ≡ begin.Value n → ws ≡ Number n ∷ tail ws
unfolding beginning
begins_value [] n e = absurd cc
begins_value (Number m ∷ ws) n e = cc
begins_value (Name s ∷ ws) n e = absurd cc
begins_value (Fixed (sign.Mark mark.OpenParen) ∷ ws) n e = absurd cc
begins_value (Fixed (sign.Operator op.Sub) ∷ ws) n e = absurd cc
begins_value (Fixed (sign.Operator o) ∷ ws) n e = absurd cc
begins_value (Fixed s ∷ ws) n e = absurd cc

pub begins_called : (ws : List Word) (s : List ℕ) → beginning ws ≡ begin.Called s → ws ≡ Name s ∷ tail ws
unfolding beginning
begins_called [] s e = absurd cc
begins_called (Number m ∷ ws) s e = absurd cc
begins_called (Name n ∷ ws) s e = cc
begins_called (Fixed (sign.Mark mark.OpenParen) ∷ ws) s e = absurd cc
begins_called (Fixed (sign.Operator op.Sub) ∷ ws) s e = absurd cc
begins_called (Fixed (sign.Operator o) ∷ ws) s e = absurd cc
begins_called (Fixed t ∷ ws) s e = absurd cc

pub begins_minus : (ws : List Word) → beginning ws ≡ begin.Minus → ws ≡ Fixed (sign.Operator op.Sub) ∷ tail ws
unfolding beginning
begins_minus [] e = absurd cc
begins_minus (Number m ∷ ws) e = absurd cc
begins_minus (Name n ∷ ws) e = absurd cc
begins_minus (Fixed (sign.Mark mark.OpenParen) ∷ ws) e = absurd cc
begins_minus (Fixed (sign.Operator op.Sub) ∷ ws) e = refl
begins_minus (Fixed (sign.Operator o) ∷ ws) e = absurd cc
begins_minus (Fixed s ∷ ws) e = absurd cc

pub begins_not : (ws : List Word) → beginning ws ≡ begin.Not → ws ≡ Fixed sign.Not ∷ tail ws
unfolding beginning
begins_not [] e = absurd cc
begins_not (Number m ∷ ws) e = absurd cc
begins_not (Name n ∷ ws) e = absurd cc
begins_not (Fixed (sign.Mark mark.OpenParen) ∷ ws) e = absurd cc
begins_not (Fixed (sign.Operator op.Sub) ∷ ws) e = absurd cc
begins_not (Fixed (sign.Operator o) ∷ ws) e = absurd cc
begins_not (Fixed sign.Not ∷ ws) e = refl
begins_not (Fixed s ∷ ws) e = absurd cc

pub begins_opens : (ws : List Word) → beginning ws ≡ begin.Opens → ws ≡ Fixed (sign.Mark mark.OpenParen) ∷ tail ws
unfolding beginning
begins_opens [] e = absurd cc
begins_opens (Number m ∷ ws) e = absurd cc
begins_opens (Name n ∷ ws) e = absurd cc
begins_opens (Fixed (sign.Operator op.Sub) ∷ ws) e = absurd cc
begins_opens (Fixed (sign.Operator o) ∷ ws) e = absurd cc
begins_opens (Fixed (sign.Mark mark.OpenParen) ∷ ws) e = refl
begins_opens (Fixed s ∷ ws) e = absurd cc

-- ---- tests of two parts
