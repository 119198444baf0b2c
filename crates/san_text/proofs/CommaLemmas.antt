-- Items with commas between them.
use Rattle.std.proofs.Common.{◌≡◌, true, false, List, [], ◌∷◌, ◌++◌, Result, Ok, Err, refl, ap, subst, ◌∙◌, append_assoc}
use Rattle.san_lex.specs.declared.sign.Mark.TheVariants as mark
use Rattle.san_lex.specs.declared.sign.Sign.TheVariants as sign
use Rattle.san_lex.specs.Lexer.{Word, Fixed}
use Rattle.san_text.specs.Words.{is_next, tail}
use Rattle.san_text.specs.Steps.{GrammarFault, Reading, ◌>>=◌, all_of, gathered, next_mark}
use Rattle.san_text.specs.ActivityWords.{with_commas}
use Rattle.san_text.proofs.FrontLemmas.{bind_ok, ok_is, then_ok, next_is, next_self}
use Rattle.san_text.proofs.AlikeLemmas.{alike_is, alike_then, alike_front, alike_parts}
use Rattle.san_text.proofs.StepLemmas.{Follow, Any, Kept, Law}
use Rattle.san_text.proofs.BasicLemmas.{Items, Nothing, list_law, list_words}

abbrev comma : Word
comma = Fixed (sign.Mark mark.Comma)

-- no comma comes next
abbrev pub NoComma : Follow
NoComma was now = next_mark mark.Comma now ≡ false

none_next : next_mark mark.Comma [] ≡ false
unfolding is_next
none_next = refl

behind_keeps : {A : Type 0} (f : A → List Word) (r : Reading A) → Law f r Any → (ws : List Word) (p : A × List Word) → next_mark mark.Comma ws ≡ true → r (tail ws) ≡ Ok p → Kept (λ x. comma ∷ f x) (λ us. r (tail us)) (λ was now. Nothing now) ws p
behind_keeps f r law ws p h e =
    let t = law.kept (tail ws) p e in
    record {
      words = alike_then ws (comma ∷ tail ws) (comma ∷ (f p.0 ++ p.1)) (alike_is ws (comma ∷ tail ws) (next_is (sign.Mark mark.Comma) ws h)) (alike_front (comma ∷ []) (tail ws) (f p.0 ++ p.1) t.words);
      again = λ after k. t.again after tt;
    }

behind_items : {A : Type 0} {f : A → List Word} {r : Reading A} → Law f r Any → Items (λ x. comma ∷ f x) (next_mark mark.Comma) (λ us. r (tail us)) Nothing
behind_items {f = f} {r = r} law = record {
  none = none_next;
  easy = λ ws h. tt;
  begins = λ ws p s e after. next_self (sign.Mark mark.Comma) (f p.0 ++ after);
  keeps = λ ws p s e. behind_keeps f r law ws p s e;
}

gathered_ok : {A : Type 0} (x : A) (r : Result (List A × List Word) GrammarFault) (p : List A × List Word) → gathered (x ∷ []) r ≡ Ok p → (y : List A × List Word) × (r ≡ Ok y) × ((x ∷ y.0, y.1) ≡ p)
gathered_ok x (Ok y) p e = (y, refl, ok_is (x ∷ y.0, y.1) p e)
gathered_ok x (Err f) p e = absurd cc

pub commas_law : {A : Type 0} {f : A → List Word} {r : Reading A} → Law f r Any → Law (with_commas f) (λ ws. r ws >>= λ x. gathered (x.0 ∷ []) (all_of (next_mark mark.Comma) (λ us. r (tail us)) x.1)) NoComma
commas_law {f = f} {r = r} law = record {
  kept = λ ws p e.
      let more = all_of (next_mark mark.Comma) (λ us. r (tail us)) in
      let a = bind_ok (r ws) (λ x. gathered (x.0 ∷ []) (more x.1)) p e in
      let b = gathered_ok a.0.0 (more a.0.1) p a.2 in
      let t = law.kept ws a.0 a.1 in
      let u = (list_law (behind_items law)).kept a.0.1 b.0 b.1 in
      let J : List Word = list_words (λ x. comma ∷ f x) b.0.0 in
      subst (λ (z : List _ × List Word). Kept (with_commas f) (λ ws. r ws >>= λ x. gathered (x.0 ∷ []) (all_of (next_mark mark.Comma) (λ us. r (tail us)) x.1)) NoComma ws z) b.2 (record {
        words = alike_parts ws (f a.0.0) J a.0.1 b.0.1 t.words u.words;
        again = λ after h. ap (λ (z : List Word). r z >>= λ x. gathered (x.0 ∷ []) (more x.1)) (append_assoc (f a.0.0) J after)
            ∙ then_ok (r (f a.0.0 ++ (J ++ after))) (λ x. gathered (x.0 ∷ []) (more x.1)) (a.0.0, J ++ after) (a.0.0 ∷ b.0.0, after) (t.again (J ++ after) tt)
            (ap (gathered (a.0.0 ∷ [])) (u.again after h));
      });
}
