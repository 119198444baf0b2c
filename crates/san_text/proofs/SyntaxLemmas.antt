-- A whole text is read again from its spelling, as the same syntax.
use Rattle.std.proofs.Common.{◌≡◌, ℕ, Bool, false, cond, ◌&&◌, List, [], ◌∷◌, ◌++◌, length, Result, Ok, Err, refl, sym, ap, subst, ◌∙◌, arith}
use Rattle.std.proofs.lemmas.Bool.{eqb-true}
use Rattle.std.proofs.lemmas.List.{append-nil}
use Rattle.std.specs.Prelude.{nat_le, nat_eq}
use Rattle.san_lex.specs.declared.keyword.Keyword.TheVariants as keyword
use Rattle.san_lex.specs.declared.sign.Mark.TheVariants as mark
use Rattle.san_lex.specs.declared.sign.Sign.TheVariants as sign
use Rattle.san_lex.specs.Lexer.{Word, Number, Name, Fixed}
use Rattle.san_text.specs.declared.syntax.Syntax.{Syntax}
use Rattle.san_text.specs.declared.syntax.ModelDecl.{ModelDecl}
use Rattle.san_text.specs.declared.syntax.RewardDecl.{RewardDecl}
use Rattle.san_text.specs.Words.{is_next, name_of}
use Rattle.san_text.specs.Steps.{GrammarFault, Illegal, Version, ◌>>=◌, sign_at, name_at, number_at, all_of, next_keyword}
use Rattle.san_text.specs.Models.{model_at, starts_model, reward_at, version_at, head_at, system_at, ended, syntax_at}
use Rattle.san_text.specs.ModelWords.{model_words, reward_words, head_words, system_words, syntax_words}
use Rattle.san_text.proofs.FrontLemmas.{bind_ok, ok_is, then_ok, test_ok}
use Rattle.san_text.proofs.AlikeLemmas.{Alike, alike_is, alike_then, alike_front}
use Rattle.san_text.proofs.StepLemmas.{seq, sign_then, done, Any, Kept, Law, law_of, signed, sign_again, sign_step, seq_step, done_step}
use Rattle.san_text.proofs.BasicLemmas.{name_law, number_law, int_words, list_law, list_words}
use Rattle.san_text.proofs.ModelLemmas.{model_items}
use Rattle.san_text.proofs.RewardLemmas.{reward_items, no_reward}

-- ---- head and end

version_law : Law int_words version_at Any
unfolding version_at
version_law = record {
  kept = λ ws p e.
      let a = bind_ok (number_at ws) (λ v. cond (nat_le 1 v.0 && nat_le v.0 3) (Ok v) (Err (Version (length ws)))) p e in
      let t = test_ok (nat_le 1 a.0.0 && nat_le a.0.0 3) (Ok a.0) (Version (length ws)) p a.2 in
      let u = number_law.kept ws a.0 a.1 in
      subst (λ (z : ℕ × List Word). Kept int_words (λ ws. number_at ws >>= λ v. cond (nat_le 1 v.0 && nat_le v.0 3) (Ok v) (Err (Version (length ws)))) Any ws z) (ok_is a.0 p t.1) (record {
        words = u.words;
        again = λ after h. then_ok (number_at (Number a.0.0 ∷ after)) (λ v. cond (nat_le 1 v.0 && nat_le v.0 3) (Ok v) (Err (Version (length (Number a.0.0 ∷ after))))) (a.0.0, after) (a.0.0, after) (u.again after tt)
            (ap (λ (b : Bool). cond b (Ok (a.0.0, after)) (Err (Version (length (Number a.0.0 ∷ after))))) t.0);
      });
}

head_law : Law head_words head_at Any
unfolding head_at seq sign_then done
head_law = law_of (sign_step (sign.Keyword keyword.San) (λ a b. tt) (seq_step version_law (λ v. sign_step (sign.Mark mark.Semicolon) (λ a b. tt) (done_step v (λ a b h. h) refl))))

-- the system's name is read again, at whatever place
record Systems (ws : List Word) (p : (List ℕ × ℕ) × List Word) : Type 0 where
  words : Alike ws (system_words p.0.0 ++ p.1)
  again : (after : List Word) → (n : ℕ) × (system_at (system_words p.0.0 ++ after) ≡ Ok ((p.0.0, n), after))

name_again : (s : List ℕ) (after : List Word) → name_at (Name s ∷ after) ≡ Ok (s, after)
unfolding name_at name_of
name_again s after = refl

named_again : (s : List ℕ) (after : List Word) → system_at (system_words s ++ after) ≡ Ok ((s, length (Name s ∷ Fixed (sign.Mark mark.Semicolon) ∷ after)), after)
unfolding system_at
named_again s after =
    let r2 : List Word = Fixed (sign.Mark mark.Semicolon) ∷ after in
    let r1 : List Word = Name s ∷ r2 in
    then_ok (sign_at (sign.Keyword keyword.System) (Fixed (sign.Keyword keyword.System) ∷ r1)) (λ s. name_at s >>= λ n. sign_at (sign.Mark mark.Semicolon) n.1 >>= λ r. Ok ((n.0, length s), r)) r1 ((s, length r1), after) (sign_again (sign.Keyword keyword.System) r1)
    (then_ok (name_at r1) (λ n. sign_at (sign.Mark mark.Semicolon) n.1 >>= λ r. Ok ((n.0, length r1), r)) (s, r2) ((s, length r1), after) (name_again s r2)
    (then_ok (sign_at (sign.Mark mark.Semicolon) r2) (λ r. Ok ((s, length r1), r)) after ((s, length r1), after) (sign_again (sign.Mark mark.Semicolon) after) refl))

system_law : (ws : List Word) (p : (List ℕ × ℕ) × List Word) → system_at ws ≡ Ok p → Systems ws p
unfolding system_at
system_law ws p e =
    let a = bind_ok (sign_at (sign.Keyword keyword.System) ws) (λ s. name_at s >>= λ n. sign_at (sign.Mark mark.Semicolon) n.1 >>= λ r. Ok ((n.0, length s), r)) p e in
    let b = bind_ok (name_at a.0) (λ n. sign_at (sign.Mark mark.Semicolon) n.1 >>= λ r. Ok ((n.0, length a.0), r)) p a.2 in
    let c = bind_ok (sign_at (sign.Mark mark.Semicolon) b.0.1) (λ r. Ok ((b.0.0, length a.0), r)) p b.2 in
    let K : List Word = Fixed (sign.Keyword keyword.System) ∷ [] in
    let N : List Word = Name b.0.0 ∷ [] in
    let is0 : ws ≡ K ++ a.0 = signed (sign.Keyword keyword.System) ws a.0 a.1 in
    let is2 : b.0.1 ≡ Fixed (sign.Mark mark.Semicolon) ∷ c.0 = signed (sign.Mark mark.Semicolon) b.0.1 c.0 c.1 in
    let t = name_law.kept a.0 b.0 b.1 in
    subst (λ (z : (List ℕ × ℕ) × List Word). Systems ws z) (ok_is ((b.0.0, length a.0), c.0) p c.2) (record {
      words = alike_then ws (K ++ a.0) (system_words b.0.0 ++ c.0) (alike_is ws (K ++ a.0) is0)
          (alike_front K a.0 (N ++ (Fixed (sign.Mark mark.Semicolon) ∷ c.0)) (alike_then a.0 (N ++ b.0.1) (N ++ (Fixed (sign.Mark mark.Semicolon) ∷ c.0)) t.words (alike_is (N ++ b.0.1) (N ++ (Fixed (sign.Mark mark.Semicolon) ∷ c.0)) (ap (λ (u : List Word). N ++ u) is2))));
      again = λ after. (length (Name b.0.0 ∷ Fixed (sign.Mark mark.Semicolon) ∷ after), named_again b.0.0 after);
    })

ended_is : (ws : List Word) (n : ℕ) → ended ws ≡ Ok n → ws ≡ []
unfolding ended
ended_is [] n e = refl
ended_is (w ∷ ws) n e =
    let t = test_ok (nat_eq (length (w ∷ ws)) 0) (Ok 0) (Illegal (length (w ∷ ws))) n e in
    absurd (omega (arith, eqb-true (length (w ∷ ws)) 0 t.0))

ended_again : ended [] ≡ Ok 0
unfolding ended
ended_again = refl

system_no_model : (s : List ℕ) (us : List Word) → starts_model (system_words s ++ us) ≡ false
unfolding starts_model is_next
system_no_model s us = refl

-- ---- the whole

abbrev made : ℕ → List ModelDecl → List ℕ → List RewardDecl → Syntax
made v ms s rs = record { version = v; models = ms; system = s; rewards = rs }

pub record Whole (ws : List Word) (x : Syntax × ℕ) : Type 0 where
  pub words : Alike ws (syntax_words x.0)
  pub left : ℕ
  pub again : syntax_at (syntax_words x.0) ≡ Ok (x.0, left)

pub syntax_law : (ws : List Word) (x : Syntax × ℕ) → syntax_at ws ≡ Ok x → Whole ws x
unfolding syntax_at syntax_words
syntax_law ws x e =
    let last = λ (v : ℕ) (ms : List ModelDecl) (s : List ℕ × ℕ) (rs : List RewardDecl) (e : ℕ). let r : Result (Syntax × ℕ) GrammarFault = Ok (made v ms s.0 rs, s.1) in r in
    let a = bind_ok (head_at ws) (λ v. all_of starts_model (model_at v.0) v.1 >>= λ m. system_at m.1 >>= λ s. all_of (next_keyword keyword.Reward) (reward_at v.0) s.1 >>= λ r. ended r.1 >>= λ e. last v.0 m.0 s.0 r.0 e) x e in
    let v : ℕ = a.0.0 in
    let b = bind_ok (all_of starts_model (model_at v) a.0.1) (λ m. system_at m.1 >>= λ s. all_of (next_keyword keyword.Reward) (reward_at v) s.1 >>= λ r. ended r.1 >>= λ e. last v m.0 s.0 r.0 e) x a.2 in
    let c = bind_ok (system_at b.0.1) (λ s. all_of (next_keyword keyword.Reward) (reward_at v) s.1 >>= λ r. ended r.1 >>= λ e. last v b.0.0 s.0 r.0 e) x b.2 in
    let d = bind_ok (all_of (next_keyword keyword.Reward) (reward_at v) c.0.1) (λ r. ended r.1 >>= λ e. last v b.0.0 c.0.0 r.0 e) x c.2 in
    let f = bind_ok (ended d.0.1) (λ e. last v b.0.0 c.0.0 d.0.0 e) x d.2 in
    let over : d.0.1 ≡ [] = ended_is d.0.1 f.0 f.1 in
    let th = head_law.kept ws a.0 a.1 in
    let tm = (list_law (model_items v)).kept a.0.1 b.0 b.1 in
    let ts = system_law b.0.1 c.0 c.1 in
    let tr = (list_law (reward_items v)).kept c.0.1 d.0 d.1 in
    let H : List Word = head_words v in
    let M : List Word = list_words model_words b.0.0 in
    let S : List Word = system_words c.0.0.0 in
    let R : List Word = list_words reward_words d.0.0 in
    let rest : List Word = R ++ [] in
    let nil : rest ≡ R = append-nil R in
    let n = (ts.again rest).0 in
    let s : Syntax = made v b.0.0 c.0.0.0 d.0.0 in
    let back : H ++ (M ++ (S ++ R)) ≡ H ++ (M ++ (S ++ rest)) = ap (λ (u : List Word). H ++ (M ++ (S ++ u))) (sym nil) in
    subst (λ (z : Syntax × ℕ). Whole ws z) (ok_is (s, c.0.0.1) x f.2) (record {
      words =
          let r0 : Alike c.0.1 rest = alike_then c.0.1 (R ++ d.0.1) rest tr.words (alike_is (R ++ d.0.1) rest (ap (λ (u : List Word). R ++ u) over)) in
          let r1 : Alike b.0.1 (S ++ rest) = alike_then b.0.1 (S ++ c.0.1) (S ++ rest) ts.words (alike_front S c.0.1 rest r0) in
          let r2 : Alike a.0.1 (M ++ (S ++ rest)) = alike_then a.0.1 (M ++ b.0.1) (M ++ (S ++ rest)) tm.words (alike_front M b.0.1 (S ++ rest) r1) in
          let r3 : Alike ws (H ++ (M ++ (S ++ rest))) = alike_then ws (H ++ a.0.1) (H ++ (M ++ (S ++ rest))) th.words (alike_front H a.0.1 (M ++ (S ++ rest)) r2) in
          alike_then ws (H ++ (M ++ (S ++ rest))) (H ++ (M ++ (S ++ R))) r3 (alike_is (H ++ (M ++ (S ++ rest))) (H ++ (M ++ (S ++ R))) (sym back));
      left = n;
      again = ap syntax_at back
          ∙ then_ok (head_at (H ++ (M ++ (S ++ rest)))) (λ v. all_of starts_model (model_at v.0) v.1 >>= λ m. system_at m.1 >>= λ s. all_of (next_keyword keyword.Reward) (reward_at v.0) s.1 >>= λ r. ended r.1 >>= λ e. last v.0 m.0 s.0 r.0 e) (v, M ++ (S ++ rest)) (s, n) (th.again (M ++ (S ++ rest)) tt)
          (then_ok (all_of starts_model (model_at v) (M ++ (S ++ rest))) (λ m. system_at m.1 >>= λ s. all_of (next_keyword keyword.Reward) (reward_at v) s.1 >>= λ r. ended r.1 >>= λ e. last v m.0 s.0 r.0 e) (b.0.0, S ++ rest) (s, n) (tm.again (S ++ rest) (system_no_model c.0.0.0 rest))
          (then_ok (system_at (S ++ rest)) (λ s. all_of (next_keyword keyword.Reward) (reward_at v) s.1 >>= λ r. ended r.1 >>= λ e. last v b.0.0 s.0 r.0 e) ((c.0.0.0, n), rest) (s, n) (ts.again rest).1
          (then_ok (all_of (next_keyword keyword.Reward) (reward_at v) rest) (λ r. ended r.1 >>= λ e. last v b.0.0 (c.0.0.0, n) r.0 e) (d.0.0, []) (s, n) (tr.again [] no_reward)
          (then_ok (ended []) (λ e. last v b.0.0 (c.0.0.0, n) d.0.0 e) 0 (s, n) ended_again refl))));
    })
