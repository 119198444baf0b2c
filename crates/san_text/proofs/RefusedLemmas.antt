-- A text that agrees up to and with the first word that isn't legal is refused there too.
use Rattle.std.proofs.Common.{◌≡◌, ℕ, zero, suc, ◌-◌, Bool, true, false, cond, List, [], ◌∷◌, ◌++◌, length, map, drop, Result, Ok, Err, refl, sym, ap, ◌∙◌, append_assoc, arith}
use Rattle.std.proofs.lemmas.List.{length-append, length-map}
use Rattle.std.proofs.lemmas.Bool.Decides.{nat_tests}
use Rattle.std.specs.Prelude.{nat_eq}
use Rattle.san_lex.specs.declared.keyword.Keyword.TheVariants as keyword
use Rattle.san_lex.specs.declared.sign.Mark.TheVariants as mark
use Rattle.san_lex.specs.declared.sign.Sign.TheVariants as sign
use Rattle.san_lex.specs.Lexer.{Word, Located, tokens, word_of}
use Rattle.san_text.specs.declared.syntax.Syntax.{Syntax}
use Rattle.san_text.specs.declared.syntax.ModelDecl.{ModelDecl}
use Rattle.san_text.specs.declared.syntax.RewardDecl.{RewardDecl}
use Rattle.san_text.specs.declared.text.Refusal.{Refusal}
use Rattle.san_text.specs.Steps.{GrammarFault, Illegal, Deep, Long, Version, Reading, ◌>>=◌, sign_at, name_at, all_of, next_keyword}
use Rattle.san_text.specs.Models.{model_at, starts_model, reward_at, head_at, system_at, ended, syntax_at}
use Rattle.san_text.specs.Texts.{start_or, offset_of, refused, read_refusal, parsed_words, parsed_tokens, parsed}
use Rattle.san_text.specs.Faults.{left_of, with_left, code_of}
use Rattle.san_text.proofs.StepLemmas.{seq, sign_then, done}
use Rattle.san_text.proofs.LocalLemmas.{Local, first_local, cond_local, illegal_local, done_local, seq_local, sign_local, name_local, all_local}
use Rattle.san_text.proofs.LocalModelLemmas.{models_listed, rewards_listed, head_local}

-- ---- the whole text without the offset of the system's name

system_name : Reading (List ℕ)
system_name = sign_then (sign.Keyword keyword.System) (seq name_at (λ n. sign_then (sign.Mark mark.Semicolon) (done n)))

finish : Syntax → Reading Syntax
finish x ws = cond (nat_eq (length ws) 0) (Ok (x, ws)) (Err (Illegal (length ws)))

abbrev made : ℕ → List ModelDecl → List ℕ → List RewardDecl → Syntax
made v ms s rs = record { version = v; models = ms; system = s; rewards = rs }

whole : Reading Syntax
whole = seq head_at (λ v. seq (all_of starts_model (model_at v)) (λ m. seq system_name (λ s. seq (all_of (next_keyword keyword.Reward) (reward_at v)) (λ r. finish (made v m s r)))))

no_zero : (n : ℕ) → nat_eq (suc n) 0 ≡ false
no_zero n = grind (arith, nat_tests)

end_first : (w : Word) (us vs : List Word) → nat_eq (length (w ∷ us)) 0 ≡ nat_eq (length (w ∷ vs)) 0
end_first w us vs = no_zero (length us) ∙ sym (no_zero (length vs))

finish_local : (x : Syntax) → Local (finish x)
unfolding finish done
finish_local x = first_local (λ ws. nat_eq (length ws) 0) (λ c ws. cond c (Ok (x, ws)) (Err (Illegal (length ws)))) end_first (cond_local (λ ws. Ok (x, ws)) (λ ws. Err (Illegal (length ws))) (done_local x) illegal_local)

whole_local : Local whole
unfolding whole system_name
whole_local = seq_local head_local (λ v. seq_local (all_local (models_listed v)) (λ m. seq_local (sign_local (sign.Keyword keyword.System) (seq_local name_local (λ n. sign_local (sign.Mark mark.Semicolon) (done_local n))))
    (λ s. seq_local (all_local (rewards_listed v)) (λ r. finish_local (made v m s r)))))

-- ---- both read alike

abbrev bare : Result (Syntax × ℕ) GrammarFault → Result Syntax GrammarFault
bare (Ok x) = Ok x.0
bare (Err f) = Err f

abbrev plain : Result (Syntax × List Word) GrammarFault → Result Syntax GrammarFault
plain (Ok x) = Ok x.0
plain (Err f) = Err f

alike : {A : Type 0} (r : Result A GrammarFault) (k : A → Result (Syntax × ℕ) GrammarFault) (q : A → Result (Syntax × List Word) GrammarFault) → ((x : A) → bare (k x) ≡ plain (q x)) → bare (r >>= k) ≡ plain (r >>= q)
alike (Ok x) k q h = h x
alike (Err f) k q h = refl

abbrev WithLength : Type 0
WithLength = (List ℕ × ℕ) × List Word → Result (Syntax × ℕ) GrammarFault

abbrev Plain : Type 0
Plain = List ℕ × List Word → Result (Syntax × List Word) GrammarFault

ends_alike : (n : List ℕ) (l : ℕ) (k : WithLength) (q : Plain) → ((n : List ℕ) (l : ℕ) (us : List Word) → bare (k ((n, l), us)) ≡ plain (q (n, us))) → (r : Result (List Word) GrammarFault)
    → bare ((r >>= λ us. Ok ((n, l), us)) >>= k) ≡ plain ((r >>= λ us. Ok (n, us)) >>= q)
ends_alike n l k q h (Ok us) = h n l us
ends_alike n l k q h (Err f) = refl

names_alike : (s : List Word) (k : WithLength) (q : Plain) → ((n : List ℕ) (l : ℕ) (us : List Word) → bare (k ((n, l), us)) ≡ plain (q (n, us))) → (r : Result (List ℕ × List Word) GrammarFault)
    → bare ((r >>= λ n. sign_at (sign.Mark mark.Semicolon) n.1 >>= λ us. Ok ((n.0, length s), us)) >>= k) ≡ plain ((r >>= λ n. sign_at (sign.Mark mark.Semicolon) n.1 >>= λ us. Ok (n.0, us)) >>= q)
names_alike s k q h (Ok n) = ends_alike n.0 (length s) k q h (sign_at (sign.Mark mark.Semicolon) n.1)
names_alike s k q h (Err f) = refl

keys_alike : (k : WithLength) (q : Plain) → ((n : List ℕ) (l : ℕ) (us : List Word) → bare (k ((n, l), us)) ≡ plain (q (n, us))) → (r : Result (List Word) GrammarFault)
    → bare ((r >>= λ s. name_at s >>= λ n. sign_at (sign.Mark mark.Semicolon) n.1 >>= λ us. Ok ((n.0, length s), us)) >>= k) ≡ plain ((r >>= λ s. name_at s >>= λ n. sign_at (sign.Mark mark.Semicolon) n.1 >>= λ us. Ok (n.0, us)) >>= q)
keys_alike k q h (Ok s) = names_alike s k q h (name_at s)
keys_alike k q h (Err f) = refl

system_alike : (ws : List Word) (k : WithLength) (q : Plain) → ((n : List ℕ) (l : ℕ) (us : List Word) → bare (k ((n, l), us)) ≡ plain (q (n, us))) → bare (system_at ws >>= k) ≡ plain (system_name ws >>= q)
unfolding system_at system_name seq sign_then done
system_alike ws k q h = keys_alike k q h (sign_at (sign.Keyword keyword.System) ws)

abbrev at_end : Result ℕ GrammarFault
at_end = Ok 0

finish_by : (b : Bool) (x : Syntax) (l : ℕ) (ws : List Word) → bare (cond b at_end (Err (Illegal (length ws))) >>= λ e. Ok (x, l)) ≡ plain (cond b (Ok (x, ws)) (Err (Illegal (length ws))))
finish_by true x l ws = refl
finish_by false x l ws = refl

finish_alike : (x : Syntax) (l : ℕ) (ws : List Word) → bare (ended ws >>= λ e. Ok (x, l)) ≡ plain (finish x ws)
unfolding ended finish
finish_alike x l ws = finish_by (nat_eq (length ws) 0) x l ws

whole_alike : (ws : List Word) → bare (syntax_at ws) ≡ plain (whole ws)
unfolding syntax_at whole seq
whole_alike ws =
    let models = λ (v : ℕ). all_of starts_model (model_at v) in
    let rewards = λ (v : ℕ). all_of (next_keyword keyword.Reward) (reward_at v) in
    alike (head_at ws) _ _ (λ v. alike (models v.0 v.1) _ _ (λ m. system_alike m.1 _ _ (λ n l us. alike (rewards v.0 us) _ _ (λ r. finish_alike (made v.0 m.0 n r.0) l r.1))))

bare_err : (r : Result (Syntax × ℕ) GrammarFault) (q : Result (Syntax × List Word) GrammarFault) (f : GrammarFault) → bare r ≡ plain q → r ≡ Err f → q ≡ Err f
bare_err (Ok x) q f h e = absurd cc
bare_err (Err g) (Ok x) f h e = absurd cc
bare_err (Err g) (Err d) f h e = cc

plain_err : (r : Result (Syntax × ℕ) GrammarFault) (q : Result (Syntax × List Word) GrammarFault) (f : GrammarFault) → bare r ≡ plain q → q ≡ Err f → r ≡ Err f
plain_err r (Ok x) f h e = absurd cc
plain_err (Ok x) (Err g) f h e = absurd cc
plain_err (Err d) (Err g) f h e = cc

pub refused_too : (us : List Word) (w : Word) (rest other : List Word) (f : GrammarFault) → syntax_at (us ++ w ∷ rest) ≡ Err f → left_of f ≡ suc (length rest) → syntax_at (us ++ w ∷ other) ≡ Err (with_left f (suc (length other)))
refused_too us w rest other f e left =
    let front : List Word = us ++ w ∷ [] in
    let regroup = λ (vs : List Word). append_assoc us (w ∷ []) vs in
    let was : whole (front ++ rest) ≡ Err f = bare_err (syntax_at (front ++ rest)) (whole (front ++ rest)) f (whole_alike (front ++ rest)) (ap syntax_at (regroup rest) ∙ e) in
    let t = whole_local.fails front rest other f was (omega (arith, left)) in
    let one : length (t.0 ++ other) ≡ suc (length other) = omega (arith, left, t.1, length-append t.0 rest, length-append t.0 other) in
    ap syntax_at (sym (regroup other))
    ∙ plain_err (syntax_at (front ++ other)) (whole (front ++ other)) (with_left f (length (t.0 ++ other))) (whole_alike (front ++ other)) t.2
    ∙ ap (λ (n : ℕ). Err (with_left f n)) one

-- ---- the same of texts

words_of_both : (ps : List Located) (p : Located) (qs : List Located) → map word_of (ps ++ p ∷ qs) ≡ map word_of ps ++ p.word ∷ map word_of qs
words_of_both [] p qs = refl
words_of_both (x ∷ ps) p qs = ap (λ (ws : List Word). x.word ∷ ws) (words_of_both ps p qs)

drop_front : (ps qs : List Located) (n : ℕ) → n ≡ length ps → drop n (ps ++ qs) ≡ qs
drop_front [] qs n e = ap (λ (k : ℕ). drop k qs) e
drop_front (p ∷ ps) qs zero e = absurd (omega (arith, e))
drop_front (p ∷ ps) qs (suc n) e = drop_front ps qs n (omega (arith, e))

offset_is : (text : List ℕ) (ps : List Located) (p : Located) (qs : List Located) → offset_of text (ps ++ p ∷ qs) (suc (length qs)) ≡ p.start
unfolding offset_of
offset_is text ps p qs = ap (start_or (length text)) (drop_front ps (p ∷ qs) (length (ps ++ p ∷ qs) - suc (length qs)) (omega (arith, length-append ps (p ∷ qs))))

refusal_is : (text : List ℕ) (ps : List Located) (f : GrammarFault) (n : ℕ) → read_refusal text ps (with_left f n) ≡ refused (code_of f) text (offset_of text ps n)
refusal_is text ps (Illegal m) n = refl
refusal_is text ps (Deep m) n = refl
refusal_is text ps (Long m) n = refl
refusal_is text ps (Version m) n = refl

pub text_refused_too : (other : List ℕ) (ps qs : List Located) (p q : Located) (rest more : List Located) (f : GrammarFault) → syntax_at (map word_of (ps ++ p ∷ rest)) ≡ Err f → left_of f ≡ suc (length rest)
    → tokens other ≡ Ok (qs ++ q ∷ more) → map word_of qs ≡ map word_of ps → q.word ≡ p.word → parsed other ≡ Err (refused (code_of f) other q.start)
unfolding parsed
text_refused_too other ps qs p q rest more f e left lexed fronts last =
    let was : syntax_at (map word_of ps ++ p.word ∷ map word_of rest) ≡ Err f = ap syntax_at (sym (words_of_both ps p rest)) ∙ e in
    let is : left_of f ≡ suc (length (map word_of rest)) = left ∙ ap suc (sym (length-map rest word_of)) in
    let same : map word_of (qs ++ q ∷ more) ≡ map word_of ps ++ p.word ∷ map word_of more = words_of_both qs q more ∙ ap (λ (us : List Word). us ++ q.word ∷ map word_of more) fronts ∙ ap (λ (w : Word). map word_of ps ++ w ∷ map word_of more) last in
    let read : syntax_at (map word_of (qs ++ q ∷ more)) ≡ Err (with_left f (suc (length more))) =
    ap syntax_at same ∙ refused_too (map word_of ps) p.word (map word_of rest) (map word_of more) f was is ∙ ap (λ (n : ℕ). Err (with_left f (suc n))) (length-map more word_of) in
    ap (parsed_tokens other) lexed ∙ ap (parsed_words other (qs ++ q ∷ more)) read
    ∙ ap (λ (r : Refusal). Err r) (refusal_is other (qs ++ q ∷ more) f (suc (length more)) ∙ ap (refused (code_of f) other) (offset_is other qs q more))
