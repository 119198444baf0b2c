-- What is read as an expression is spelled so, and is read again before other words that go on alike.
use Rattle.std.proofs.Common.{◌≡◌, ℕ, zero, suc, Bool, true, false, cond, List, [], ◌∷◌, ◌++◌, length, Ok, Err, Option, Some, None, refl, sym, ap, subst, ◌∙◌, append_assoc}
use Rattle.std.proofs.lemmas.List.{append-nil}
use Rattle.san_base.specs.declared.op.Op.{Op}
use Rattle.san_base.specs.declared.op.Op.TheVariants as op
use Rattle.san_lex.specs.declared.sign.Sign.{Sign}
use Rattle.san_lex.specs.declared.sign.Sign.TheVariants as sign
use Rattle.san_lex.specs.declared.sign.Mark.TheVariants as mark
use Rattle.san_text.specs.declared.syntax.Ast.{Ast}
use Rattle.san_text.specs.declared.syntax.Ast.TheViews as ast
use Rattle.san_text.specs.declared.syntax.Ast.TheVariants as leaf
use Rattle.san_lex.specs.Lexer.{Word, Number, Name, Fixed}
use Rattle.san_text.specs.declared.expression.Begin.{Begin}
use Rattle.san_text.specs.declared.expression.Begin.TheVariants as begin
use Rattle.san_text.specs.Words.{Goes, By, Ends, Index, look, at_level, turns_of, is_next, tail, has_arrays}
use Rattle.san_text.specs.Steps.{Illegal, ◌>>=◌}
use Rattle.san_text.specs.Expressions.{Reader, room, closing, turned, more, chain, levels, indexed, grouped, begun, beginning, unary, expr}
use Rattle.san_text.specs.declared.syntax.Ast.TheOpen.{Ast-F}
use Rattle.san_text.specs.declared.syntax.Ast.TheFolds.{fold-roll-Ast}
use denote.Hole.Carrier
use Rattle.san_text.specs.Spelling.{spelling, spell_step}
use Rattle.san_text.proofs.FrontLemmas.{bind_ok, ok_is, test_ok, room_again, look_by, look_index, level_by, next_is, next_self, then_ok, look_front, begins_value, begins_called, begins_minus, begins_not, begins_opens}

-- ---- the spelling of each form

pub spell_number : (n : ℕ) → spelling (leaf.Number n) ≡ Number n ∷ []
unfolding spelling ast.roll-Ast denote.Hole.Carrier.roll
spell_number n = ap spelling (sym (leaf.rolls-Number n)) ∙ fold-roll-Ast (List Word) spell_step (Ast-F.Number n)

pub spell_name : (s : List ℕ) → spelling (leaf.Name s) ≡ Name s ∷ []
unfolding spelling ast.roll-Ast denote.Hole.Carrier.roll
spell_name s = ap spelling (sym (leaf.rolls-Name s)) ∙ fold-roll-Ast (List Word) spell_step (Ast-F.Name s)

pub spell_neg : (x : Ast) → spelling (ast.Neg x) ≡ Fixed (sign.Operator op.Sub) ∷ spelling x
unfolding spelling ast.roll-Ast denote.Hole.Carrier.roll
spell_neg x = fold-roll-Ast (List Word) spell_step (Ast-F.Neg x)

pub spell_not : (x : Ast) → spelling (ast.Not x) ≡ Fixed sign.Not ∷ spelling x
unfolding spelling ast.roll-Ast denote.Hole.Carrier.roll
spell_not x = fold-roll-Ast (List Word) spell_step (Ast-F.Not x)

pub spell_binary : (o : Op) (x y : Ast) → spelling (ast.Binary o x y) ≡ spelling x ++ Fixed (sign.Operator o) ∷ spelling y
unfolding spelling ast.roll-Ast denote.Hole.Carrier.roll
spell_binary o x y = fold-roll-Ast (List Word) spell_step (Ast-F.Binary o x y)

pub spell_group : (x : Ast) → spelling (ast.Group x) ≡ Fixed (sign.Mark mark.OpenParen) ∷ (spelling x ++ Fixed (sign.Mark mark.CloseParen) ∷ [])
unfolding spelling ast.roll-Ast denote.Hole.Carrier.roll
spell_group x = fold-roll-Ast (List Word) spell_step (Ast-F.Group x)

pub spell_cell : (s : List ℕ) (x : Ast) → spelling (ast.Cell s x) ≡ Name s ∷ Fixed (sign.Mark mark.OpenBracket) ∷ (spelling x ++ Fixed (sign.Mark mark.CloseBracket) ∷ [])
unfolding spelling ast.roll-Ast denote.Hole.Carrier.roll
spell_cell s x = fold-roll-Ast (List Word) spell_step (Ast-F.Cell s x)

-- ---- one reader

pub record Took (r : Reader) (k : ℕ) (ws : List Word) (p : Ast × ℕ × List Word) : Type 0 where
  pub spelled : ws ≡ spelling p.0 ++ p.2
  pub again : (after : List Word) → look after ≡ look p.2 → r k (spelling p.0 ++ after) ≡ Ok (p.0, p.1, after)

abbrev pub Lawful : Reader → Type 0
Lawful r = (k : ℕ) (ws : List Word) (p : Ast × ℕ × List Word) → r k ws ≡ Ok p → Took r k ws p

-- ---- more operands of a level

record More (r : Ast → Reader) (left : Ast) (k : ℕ) (ws : List Word) (p : Ast × ℕ × List Word) : Type 0 where
  others : List Word
  whole : spelling p.0 ≡ spelling left ++ others
  spelled : ws ≡ others ++ p.2
  again : (after : List Word) → look after ≡ look p.2 → r left k (others ++ after) ≡ Ok (p.0, p.1, after)

no_more : (r : Ast → Reader) (left : Ast) (k : ℕ) (ws : List Word) (p : Ast × ℕ × List Word) → ((vs : List Word) → look vs ≡ look ws → r left k vs ≡ Ok (left, k, vs)) → (left, k, ws) ≡ p → More r left k ws p
no_more r left k ws p h e =
    subst (λ (q : Ast × ℕ × List Word). More r left k ws q) e (record { others = []; whole = sym (append-nil (spelling left)); spelled = refl; again = λ after same. h after same })

found_more : (n level : ℕ) (go : Reader) → Lawful go → ((left : Ast) (k : ℕ) (ws : List Word) (p : Ast × ℕ × List Word) → more n level go left k ws ≡ Ok p → More (more n level go) left k ws p)
    → (o : Option Op) (left : Ast) (k : ℕ) (ws : List Word) (p : Ast × ℕ × List Word) → at_level level (look ws) ≡ o → turned o left k ws go (more n level go) ≡ Ok p → More (more (suc n) level go) left k ws p
unfolding more turned look
found_more n level go law rest None left k ws p is e =
    no_more (more (suc n) level go) left k ws p (λ vs same. let t : at_level level (look vs) ≡ None = ap (at_level level) same ∙ is in ap (λ (o : Option Op). turned o left k vs go (more n level go)) t) (ok_is (left, k, ws) p e)
found_more n level go law rest (Some o) left k ws p is e =
    let a = bind_ok (room k ws) (λ j. go j (tail ws) >>= λ x. more n level go (ast.Binary o left x.0) x.1 x.2) p e in
    let b = bind_ok (go a.0 (tail ws)) (λ x. more n level go (ast.Binary o left x.0) x.1 x.2) p a.2 in
    let t = law a.0 (tail ws) b.0 b.1 in
    let m = rest (ast.Binary o left b.0.0) b.0.1 b.0.2 p b.2 in
    let g : look ws ≡ By o = level_by level (look ws) o is in
    let front : ws ≡ Fixed (sign.Operator o) ∷ tail ws = look_by ws o g in
    record {
      others = Fixed (sign.Operator o) ∷ (spelling b.0.0 ++ m.others);
      whole = m.whole ∙ ap (λ (u : List Word). u ++ m.others) (spell_binary o left b.0.0) ∙ append_assoc (spelling left) (Fixed (sign.Operator o) ∷ spelling b.0.0) m.others;
      spelled = front ∙ ap (λ (u : List Word). Fixed (sign.Operator o) ∷ u) (t.spelled ∙ ap (λ (u : List Word). spelling b.0.0 ++ u) m.spelled ∙ sym (append_assoc (spelling b.0.0) m.others p.2));
      again = λ after same.
          let vs : List Word = (spelling b.0.0 ++ m.others) ++ after in
          let lev : at_level level (By o) ≡ Some o = ap (at_level level) (sym g) ∙ is in
          let alike : look (m.others ++ after) ≡ look b.0.2 = look_front m.others after p.2 same ∙ ap look (sym m.spelled) in
          let operand_again : go a.0 vs ≡ Ok (b.0.0, b.0.1, m.others ++ after) = ap (go a.0) (append_assoc (spelling b.0.0) m.others after) ∙ t.again (m.others ++ after) alike in
          ap (λ (f : Option Op). turned f left k (Fixed (sign.Operator o) ∷ vs) go (more n level go)) lev
          ∙ then_ok (room k (Fixed (sign.Operator o) ∷ vs)) _ a.0 _ (room_again k a.0 ws (Fixed (sign.Operator o) ∷ vs) a.1)
          (then_ok (go a.0 vs) (λ x. more n level go (ast.Binary o left x.0) x.1 x.2) (b.0.0, b.0.1, m.others ++ after) (p.0, p.1, after) operand_again (m.again after same));
    }

more_law : (n level : ℕ) (go : Reader) → Lawful go → (left : Ast) (k : ℕ) (ws : List Word) (p : Ast × ℕ × List Word) → more n level go left k ws ≡ Ok p → More (more n level go) left k ws p
unfolding more
more_law zero level go law left k ws p e = no_more (more zero level go) left k ws p (λ vs same. refl) (ok_is (left, k, ws) p e)
more_law (suc n) level go law left k ws p e = found_more n level go law (more_law n level go law) (at_level level (look ws)) left k ws p refl e

chain_law : (level : ℕ) (go : Reader) → Lawful go → Lawful (chain level go)
unfolding chain
chain_law level go law k ws p e =
    let b = bind_ok (go k ws) (λ x. more (turns_of level) level go x.0 x.1 x.2) p e in
    let t = law k ws b.0 b.1 in
    let m = more_law (turns_of level) level go law b.0.0 b.0.1 b.0.2 p b.2 in
    record {
      spelled = t.spelled ∙ ap (λ (u : List Word). spelling b.0.0 ++ u) m.spelled ∙ sym (append_assoc (spelling b.0.0) m.others p.2) ∙ ap (λ (u : List Word). u ++ p.2) (sym m.whole);
      again = λ after same.
          let alike : look (m.others ++ after) ≡ look b.0.2 = look_front m.others after p.2 same ∙ ap look (sym m.spelled) in
          let regrouped : spelling p.0 ++ after ≡ spelling b.0.0 ++ (m.others ++ after) = ap (λ (u : List Word). u ++ after) m.whole ∙ append_assoc (spelling b.0.0) m.others after in
          ap (λ (u : List Word). go k u >>= λ x. more (turns_of level) level go x.0 x.1 x.2) regrouped
          ∙ then_ok (go k (spelling b.0.0 ++ (m.others ++ after))) (λ x. more (turns_of level) level go x.0 x.1 x.2) (b.0.0, b.0.1, m.others ++ after) (p.0, p.1, after) (t.again (m.others ++ after) alike) (m.again after same);
    }

levels_law : (n : ℕ) (go : Reader) → Lawful go → Lawful (levels n go)
unfolding levels
levels_law zero go law = law
levels_law (suc n) go law = chain_law (suc n) (levels n go) (levels_law n go law)

-- ---- operands

pub closed : (s : Sign) (k : ℕ) (ws : List Word) (y : ℕ × List Word) → closing s k ws ≡ Ok y → (ws ≡ Fixed s ∷ y.1) × ((after : List Word) → closing s k (Fixed s ∷ after) ≡ Ok (y.0, after))
unfolding closing
closed s k ws y e =
    let t = test_ok (is_next s ws) (room k ws >>= λ j. Ok (j, tail ws)) (Illegal (length ws)) y e in
    let a = bind_ok (room k ws) (λ j. Ok (j, tail ws)) y t.1 in
    let is : (a.0, tail ws) ≡ y = ok_is (a.0, tail ws) y a.2 in (
      next_is s ws t.0 ∙ ap (λ (z : ℕ × List Word). Fixed s ∷ z.1) is,
      λ after. ap (λ (b : Bool). cond b (room k (Fixed s ∷ after) >>= λ j. Ok (j, after)) (Err (Illegal (length (Fixed s ∷ after))))) (next_self s after)
          ∙ then_ok (room k (Fixed s ∷ after)) (λ j. Ok (j, after)) a.0 (y.0, after) (room_again k a.0 ws (Fixed s ∷ after) a.1) (ap (λ (z : ℕ × List Word). Ok (z.0, after)) is),
    )

abbrev by_front : Bool → Reader → Reader → Reader
by_front arrays go whole k ws = begun arrays (beginning ws) go whole k ws

value_law : (arrays : Bool) (n : ℕ) (go whole : Reader) (k : ℕ) (ws : List Word) (p : Ast × ℕ × List Word) → beginning ws ≡ begin.Value n → begun arrays (begin.Value n) go whole k ws ≡ Ok p → Took (by_front arrays go whole) k ws p
unfolding begun beginning
value_law arrays n go whole k ws p is e =
    let a = bind_ok (room k ws) (λ j. Ok (leaf.Number n, j, tail ws)) p e in
    subst (λ (q : Ast × ℕ × List Word). Took (by_front arrays go whole) k ws q) (ok_is (leaf.Number n, a.0, tail ws) p a.2) (record {
      spelled = begins_value ws n is ∙ ap (λ (u : List Word). u ++ tail ws) (sym (spell_number n));
      again = λ after same. ap (λ (u : List Word). by_front arrays go whole k (u ++ after)) (spell_number n)
          ∙ then_ok (room k (Number n ∷ after)) (λ j. Ok (leaf.Number n, j, after)) a.0 (leaf.Number n, a.0, after) (room_again k a.0 ws (Number n ∷ after) a.1) refl;
    })

minus_law : (arrays : Bool) (go whole : Reader) → Lawful go → (k : ℕ) (ws : List Word) (p : Ast × ℕ × List Word) → beginning ws ≡ begin.Minus → begun arrays begin.Minus go whole k ws ≡ Ok p → Took (by_front arrays go whole) k ws p
unfolding begun beginning
minus_law arrays go whole law k ws p is e =
    let a = bind_ok (room k ws) (λ j. go j (tail ws) >>= λ x. Ok (ast.Neg x.0, x.1, x.2)) p e in
    let b = bind_ok (go a.0 (tail ws)) (λ x. Ok (ast.Neg x.0, x.1, x.2)) p a.2 in
    let t = law a.0 (tail ws) b.0 b.1 in
    subst (λ (q : Ast × ℕ × List Word). Took (by_front arrays go whole) k ws q) (ok_is (ast.Neg b.0.0, b.0.1, b.0.2) p b.2) (record {
      spelled = begins_minus ws is ∙ ap (λ (u : List Word). Fixed (sign.Operator op.Sub) ∷ u) t.spelled ∙ ap (λ (u : List Word). u ++ b.0.2) (sym (spell_neg b.0.0));
      again = λ after same.
          let vs : List Word = Fixed (sign.Operator op.Sub) ∷ (spelling b.0.0 ++ after) in
          ap (λ (u : List Word). by_front arrays go whole k (u ++ after)) (spell_neg b.0.0)
          ∙ then_ok (room k vs) (λ j. go j (tail vs) >>= λ x. Ok (ast.Neg x.0, x.1, x.2)) a.0 (ast.Neg b.0.0, b.0.1, after) (room_again k a.0 ws vs a.1)
          (then_ok (go a.0 (tail vs)) (λ x. Ok (ast.Neg x.0, x.1, x.2)) (b.0.0, b.0.1, after) (ast.Neg b.0.0, b.0.1, after) (t.again after same) refl);
    })

not_law : (arrays : Bool) (go whole : Reader) → Lawful go → (k : ℕ) (ws : List Word) (p : Ast × ℕ × List Word) → beginning ws ≡ begin.Not → begun arrays begin.Not go whole k ws ≡ Ok p → Took (by_front arrays go whole) k ws p
unfolding begun beginning
not_law arrays go whole law k ws p is e =
    let a = bind_ok (room k ws) (λ j. go j (tail ws) >>= λ x. Ok (ast.Not x.0, x.1, x.2)) p e in
    let b = bind_ok (go a.0 (tail ws)) (λ x. Ok (ast.Not x.0, x.1, x.2)) p a.2 in
    let t = law a.0 (tail ws) b.0 b.1 in
    subst (λ (q : Ast × ℕ × List Word). Took (by_front arrays go whole) k ws q) (ok_is (ast.Not b.0.0, b.0.1, b.0.2) p b.2) (record {
      spelled = begins_not ws is ∙ ap (λ (u : List Word). Fixed sign.Not ∷ u) t.spelled ∙ ap (λ (u : List Word). u ++ b.0.2) (sym (spell_not b.0.0));
      again = λ after same.
          let vs : List Word = Fixed sign.Not ∷ (spelling b.0.0 ++ after) in
          ap (λ (u : List Word). by_front arrays go whole k (u ++ after)) (spell_not b.0.0)
          ∙ then_ok (room k vs) (λ j. go j (tail vs) >>= λ x. Ok (ast.Not x.0, x.1, x.2)) a.0 (ast.Not b.0.0, b.0.1, after) (room_again k a.0 ws vs a.1)
          (then_ok (go a.0 (tail vs)) (λ x. Ok (ast.Not x.0, x.1, x.2)) (b.0.0, b.0.1, after) (ast.Not b.0.0, b.0.1, after) (t.again after same) refl);
    })

-- an expression and the sign that closes it
abbrev inside : Sign → (Ast → Ast) → Reader → Reader
inside s f whole j ws = whole j ws >>= λ x. closing s x.1 x.2 >>= λ y. Ok (f x.0, y.0, y.1)

record Inside (s : Sign) (f : Ast → Ast) (whole : Reader) (j : ℕ) (ws : List Word) (p : Ast × ℕ × List Word) : Type 0 where
  x : Ast
  is : f x ≡ p.0
  spelled : ws ≡ spelling x ++ Fixed s ∷ p.2
  again : (after : List Word) → inside s f whole j (spelling x ++ Fixed s ∷ after) ≡ Ok (p.0, p.1, after)

inside_law : (s : Sign) (f : Ast → Ast) (whole : Reader) → Lawful whole → (j : ℕ) (ws : List Word) (p : Ast × ℕ × List Word) → inside s f whole j ws ≡ Ok p → Inside s f whole j ws p
unfolding look
inside_law s f whole law j ws p e =
    let b = bind_ok (whole j ws) (λ x. closing s x.1 x.2 >>= λ y. Ok (f x.0, y.0, y.1)) p e in
    let t = law j ws b.0 b.1 in
    let c = bind_ok (closing s b.0.1 b.0.2) (λ y. Ok (f b.0.0, y.0, y.1)) p b.2 in
    let d = closed s b.0.1 b.0.2 c.0 c.1 in
    let q : (f b.0.0, c.0.0, c.0.1) ≡ p = ok_is (f b.0.0, c.0.0, c.0.1) p c.2 in
    record {
      x = b.0.0;
      is = ap (λ (z : Ast × ℕ × List Word). z.0) q;
      spelled = t.spelled ∙ ap (λ (u : List Word). spelling b.0.0 ++ u) d.0 ∙ ap (λ (z : Ast × ℕ × List Word). spelling b.0.0 ++ Fixed s ∷ z.2) q;
      again = λ after.
          let alike : look (Fixed s ∷ after) ≡ look b.0.2 = ap look (sym d.0) in
          then_ok (whole j (spelling b.0.0 ++ Fixed s ∷ after)) (λ x. closing s x.1 x.2 >>= λ y. Ok (f x.0, y.0, y.1)) (b.0.0, b.0.1, Fixed s ∷ after) (p.0, p.1, after) (t.again (Fixed s ∷ after) alike)
          (then_ok (closing s b.0.1 (Fixed s ∷ after)) (λ y. Ok (f b.0.0, y.0, y.1)) (c.0.0, after) (p.0, p.1, after) (d.1 after) (ap (λ (z : Ast × ℕ × List Word). Ok (z.0, z.1, after)) q));
    }

opens_law : (arrays : Bool) (go whole : Reader) → Lawful whole → (k : ℕ) (ws : List Word) (p : Ast × ℕ × List Word) → beginning ws ≡ begin.Opens → begun arrays begin.Opens go whole k ws ≡ Ok p → Took (by_front arrays go whole) k ws p
unfolding begun beginning grouped
opens_law arrays go whole law k ws p is e =
    let a = bind_ok (room k ws) (λ j. inside (sign.Mark mark.CloseParen) ast.Group whole j (tail ws)) p e in
    let t = inside_law (sign.Mark mark.CloseParen) ast.Group whole law a.0 (tail ws) p a.2 in
    let spelled : spelling p.0 ≡ Fixed (sign.Mark mark.OpenParen) ∷ (spelling t.x ++ Fixed (sign.Mark mark.CloseParen) ∷ []) = ap spelling (sym t.is) ∙ spell_group t.x in
    let regrouped = λ (after : List Word). append_assoc (spelling t.x) (Fixed (sign.Mark mark.CloseParen) ∷ []) after in
    record {
      spelled = begins_opens ws is ∙ ap (λ (u : List Word). Fixed (sign.Mark mark.OpenParen) ∷ u) (t.spelled ∙ sym (regrouped p.2)) ∙ ap (λ (u : List Word). u ++ p.2) (sym spelled);
      again = λ after same.
          let vs : List Word = Fixed (sign.Mark mark.OpenParen) ∷ (spelling t.x ++ Fixed (sign.Mark mark.CloseParen) ∷ after) in
          ap (λ (u : List Word). by_front arrays go whole k u) (ap (λ (u : List Word). u ++ after) spelled ∙ ap (λ (u : List Word). Fixed (sign.Mark mark.OpenParen) ∷ u) (regrouped after))
          ∙ then_ok (room k vs) (λ j. inside (sign.Mark mark.CloseParen) ast.Group whole j (tail vs)) a.0 (p.0, p.1, after) (room_again k a.0 ws vs a.1) (t.again after);
    }

-- ---- a name

plain_law : (arrays : Bool) (s : List ℕ) (go whole : Reader) (k j : ℕ) (ws : List Word) (p : Ast × ℕ × List Word) → beginning ws ≡ begin.Called s → room k ws ≡ Ok j
    → ((vs : List Word) → look vs ≡ look (tail ws) → indexed arrays (look vs) s whole j vs ≡ Ok (leaf.Name s, j, vs))
    → indexed arrays (look (tail ws)) s whole j (tail ws) ≡ Ok p → Took (by_front arrays go whole) k ws p
unfolding begun beginning
plain_law arrays s go whole k j ws p is a h e =
    subst (λ (q : Ast × ℕ × List Word). Took (by_front arrays go whole) k ws q) (ok_is (leaf.Name s, j, tail ws) p (sym (h (tail ws) refl) ∙ e)) (record {
      spelled = begins_called ws s is ∙ ap (λ (u : List Word). u ++ tail ws) (sym (spell_name s));
      again = λ after same. ap (λ (u : List Word). by_front arrays go whole k (u ++ after)) (spell_name s)
          ∙ then_ok (room k (Name s ∷ after)) (λ i. indexed arrays (look after) s whole i after) j (leaf.Name s, j, after) (room_again k j ws (Name s ∷ after) a) (h after same);
    })

cell_law : (s : List ℕ) (go whole : Reader) → Lawful whole → (k j : ℕ) (ws : List Word) (p : Ast × ℕ × List Word) → beginning ws ≡ begin.Called s → room k ws ≡ Ok j → look (tail ws) ≡ Index
    → indexed true Index s whole j (tail ws) ≡ Ok p → Took (by_front true go whole) k ws p
unfolding begun beginning indexed look
cell_law s go whole law k j ws p is a index e =
    let c = bind_ok (room j (tail ws)) (λ i. inside (sign.Mark mark.CloseBracket) (ast.Cell s) whole i (tail (tail ws))) p e in
    let t = inside_law (sign.Mark mark.CloseBracket) (ast.Cell s) whole law c.0 (tail (tail ws)) p c.2 in
    let spelled : spelling p.0 ≡ Name s ∷ Fixed (sign.Mark mark.OpenBracket) ∷ (spelling t.x ++ Fixed (sign.Mark mark.CloseBracket) ∷ []) = ap spelling (sym t.is) ∙ spell_cell s t.x in
    let regrouped = λ (after : List Word). append_assoc (spelling t.x) (Fixed (sign.Mark mark.CloseBracket) ∷ []) after in
    record {
      spelled = begins_called ws s is ∙ ap (λ (u : List Word). Name s ∷ u) (look_index (tail ws) index)
          ∙ ap (λ (u : List Word). Name s ∷ Fixed (sign.Mark mark.OpenBracket) ∷ u) (t.spelled ∙ sym (regrouped p.2)) ∙ ap (λ (u : List Word). u ++ p.2) (sym spelled);
      again = λ after same.
          let us : List Word = Fixed (sign.Mark mark.OpenBracket) ∷ (spelling t.x ++ Fixed (sign.Mark mark.CloseBracket) ∷ after) in
          let vs : List Word = Name s ∷ us in
          ap (λ (u : List Word). by_front true go whole k u) (ap (λ (u : List Word). u ++ after) spelled ∙ ap (λ (u : List Word). Name s ∷ Fixed (sign.Mark mark.OpenBracket) ∷ u) (regrouped after))
          ∙ then_ok (room k vs) (λ i. indexed true (look us) s whole i us) j (p.0, p.1, after) (room_again k j ws vs a)
          (then_ok (room j us) (λ i. inside (sign.Mark mark.CloseBracket) (ast.Cell s) whole i (tail us)) c.0 (p.0, p.1, after) (room_again j c.0 (tail ws) us c.1) (t.again after));
    }

called_by : (arrays : Bool) (g : Goes) (s : List ℕ) (go whole : Reader) → Lawful whole → (k j : ℕ) (ws : List Word) (p : Ast × ℕ × List Word) → beginning ws ≡ begin.Called s → room k ws ≡ Ok j → look (tail ws) ≡ g
    → indexed arrays g s whole j (tail ws) ≡ Ok p → Took (by_front arrays go whole) k ws p
unfolding indexed
called_by true Index s go whole law k j ws p is a g e = cell_law s go whole law k j ws p is a g e
called_by true (By o) s go whole law k j ws p is a g e =
    plain_law true s go whole k j ws p is a (λ vs same. ap (λ (h : Goes). indexed true h s whole j vs) (same ∙ g)) (ap (λ (h : Goes). indexed true h s whole j (tail ws)) g ∙ e)
called_by true Ends s go whole law k j ws p is a g e =
    plain_law true s go whole k j ws p is a (λ vs same. ap (λ (h : Goes). indexed true h s whole j vs) (same ∙ g)) (ap (λ (h : Goes). indexed true h s whole j (tail ws)) g ∙ e)
called_by false g s go whole law k j ws p is a h e =
    plain_law false s go whole k j ws p is a (λ vs same. refl) e

begun_law : (arrays : Bool) (b : Begin) (go whole : Reader) → Lawful go → Lawful whole → (k : ℕ) (ws : List Word) (p : Ast × ℕ × List Word) → beginning ws ≡ b → begun arrays b go whole k ws ≡ Ok p → Took (by_front arrays go whole) k ws p
unfolding begun
begun_law arrays begin.Nothing go whole lawful law k ws p is e = absurd cc
begun_law arrays (begin.Value n) go whole lawful law k ws p is e = value_law arrays n go whole k ws p is e
begun_law arrays (begin.Called s) go whole lawful law k ws p is e =
    let a = bind_ok (room k ws) (λ j. indexed arrays (look (tail ws)) s whole j (tail ws)) p e in
    called_by arrays (look (tail ws)) s go whole law k a.0 ws p is a.1 refl a.2
begun_law arrays begin.Minus go whole lawful law k ws p is e = minus_law arrays go whole lawful k ws p is e
begun_law arrays begin.Not go whole lawful law k ws p is e = not_law arrays go whole lawful k ws p is e
begun_law arrays begin.Opens go whole lawful law k ws p is e = opens_law arrays go whole law k ws p is e

pub unary_law : (version : ℕ) (n : ℕ) → Lawful (unary version n)
unfolding unary
unary_law version zero k ws p e = absurd cc
unary_law version (suc n) k ws p e =
    let t = begun_law (has_arrays version) (beginning ws) (unary version n) (levels 5 (unary version n)) (unary_law version n) (levels_law 5 (unary version n) (unary_law version n)) k ws p refl e in
    record { spelled = t.spelled; again = t.again }

-- an expression is spelled by the words that were read, and reads alike before words that go on alike
pub expr_law : (version : ℕ) (ws : List Word) (p : Ast × List Word) → expr version ws ≡ Ok p → (ws ≡ spelling p.0 ++ p.1) × ((after : List Word) → look after ≡ look p.1 → expr version (spelling p.0 ++ after) ≡ Ok (p.0, after))
unfolding expr
expr_law version ws p e =
    let b = bind_ok (levels 5 (unary version 129) 128 ws) (λ x. Ok (x.0, x.2)) p e in
    let t = levels_law 5 (unary version 129) (unary_law version 129) 128 ws b.0 b.1 in
    let q : (b.0.0, b.0.2) ≡ p = ok_is (b.0.0, b.0.2) p b.2 in
    subst (λ (z : Ast × List Word). (ws ≡ spelling z.0 ++ z.1) × ((after : List Word) → look after ≡ look z.1 → expr version (spelling z.0 ++ after) ≡ Ok (z.0, after))) q
    (t.spelled, λ after same. then_ok (levels 5 (unary version 129) 128 (spelling b.0.0 ++ after)) (λ x. Ok (x.0, x.2)) (b.0.0, b.0.1, after) (b.0.0, after) (t.again after same) refl)
