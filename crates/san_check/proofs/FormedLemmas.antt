-- A syntax that a text parses to is formed.
use Rattle.std.proofs.Common.{◌≡◌, ℕ, zero, suc, ◌≤◌, List, [], ◌∷◌, length, map, Result, Ok, Err, All, subst, arith}
use Rattle.std.proofs.lemmas.List.{length-map}
use Rattle.std.proofs.lemmas.List.Elements.{All-cons, All-nil, All-head, All-tail}
use Rattle.san_lex.specs.Lexer.{Front, Gap, Token, Broken, TokenFault, Located, front, more, with_token, grown, lex, tokens, word_of}
use Rattle.san_lex.specs.Words.{AreWords}
use Rattle.san_lex.proofs.SaidLemmas.{said_fits, fits_said}
use Rattle.san_lex.proofs.WordLemmas.{lex_words}
use Rattle.san_text.specs.declared.syntax.ActDecl.{ActDecl}
use Rattle.san_text.specs.declared.syntax.Cases.{Cases}
use Rattle.san_text.specs.declared.syntax.Cases.TheVariants as cases
use Rattle.san_text.specs.declared.syntax.ModelDecl.{ModelDecl}
use Rattle.san_text.specs.declared.syntax.ModelDecl.TheVariants as model
use Rattle.san_text.specs.declared.text.Parsed.{Parsed}
use Rattle.san_text.specs.Texts.{parsed}
use Rattle.san_text.specs.ModelWords.{syntax_words}
use Rattle.san_text.proofs.CountLemmas.{reading_of}
use Rattle.san_text.proofs.SyntaxLemmas.{syntax_law}
use Rattle.san_check.specs.Formed.{IsFormedCases, IsFormedAct, IsFormedModel, IsFormed}
use Rattle.san_check.proofs.ReadLemmas.{AreCases, Parts, ModelParts, syntax_parts}
use Rattle.san_check.proofs.NamedLemmas.{HasName, ModelNames, models_named, system_named}

-- ---- no more tokens than bytes

abbrev Within : ℕ → Result (List Located) TokenFault → Type 0
Within n (Ok ps) = length ps ≤ n
Within n (Err f) = Unit {0}

with_within : (n : ℕ) (p : Located) (r : Result (List Located) TokenFault) → Within n r → Within (suc n) (with_token p r)
with_within n p (Ok ps) h = omega (arith, h)
with_within n p (Err f) h = tt

more_within : (n : ℕ) (r : Result (List Located) TokenFault) → Within n r → Within (suc n) r
more_within n (Ok ps) h = omega (arith, h)
more_within n (Err f) h = tt

grown_within : (n at : ℕ) (f : Front) (r : Result (List Located) TokenFault) → Within n r → Within (suc n) (grown f at r)
grown_within n at (Gap k) r h = more_within n r h
grown_within n at (Token w k) r h = with_within n (record { word = w; start = at; end = _ }) r h
grown_within n at (Broken f) r h = tt

lex_within : (skip at : ℕ) (text : List ℕ) → Within (length text) (lex skip at text)
unfolding lex
lex_within skip at [] = omega arith
lex_within (suc k) at (b ∷ bs) = more_within (length bs) (lex k (suc at) bs) (lex_within k (suc at) bs)
lex_within zero at (b ∷ bs) = grown_within (length bs) at (front b bs) (lex (more (front b bs)) (suc at) bs) (lex_within (more (front b bs)) (suc at) bs)

pub tokens_within : (text : List ℕ) (found : List Located) → tokens text ≡ Ok found → length found ≤ length text
unfolding tokens
tokens_within text found e = subst (Within (length text)) e (lex_within 0 0 text)

-- ---- the syntax

cases_formed : (room : ℕ) (c : Cases) → room ≤ 4294967295 → AreCases room c → IsFormedCases c
cases_formed room (cases.Plain outputs) le h = tt
cases_formed room (cases.Weighted list) le h = let few = h.1 in (h.0, omega (arith, le, few))

acts_formed : (room : ℕ) → room ≤ 4294967295 → (acts : List ActDecl) → All (Parts room) acts → All HasName acts → All IsFormedAct acts
acts_formed room le [] h k = All-nil IsFormedAct
acts_formed room le (a ∷ acts) h k =
    let own = All-head (Parts room) a acts h in
    All-cons IsFormedAct a acts (record { name = All-head HasName a acts k; timing = own.timing; cases = cases_formed room a.cases le own.cases })
    (acts_formed room le acts (All-tail (Parts room) a acts h) (All-tail HasName a acts k))

model_formed : (room : ℕ) → room ≤ 4294967295 → (m : ModelDecl) → ModelParts room m → ModelNames m → IsFormedModel m
model_formed room le (model.Atomic name places acts) h k = acts_formed room le acts h k
model_formed room le (model.Join name children shares) h k = k
model_formed room le (model.Rep name of times shares) h k = tt

models_formed : (room : ℕ) → room ≤ 4294967295 → (ms : List ModelDecl) → All (ModelParts room) ms → All ModelNames ms → All IsFormedModel ms
models_formed room le [] h k = All-nil IsFormedModel
models_formed room le (m ∷ ms) h k =
    All-cons IsFormedModel m ms (model_formed room le m (All-head (ModelParts room) m ms h) (All-head ModelNames m ms k))
    (models_formed room le ms (All-tail (ModelParts room) m ms h) (All-tail ModelNames m ms k))

pub parsed_formed : (text : List ℕ) (x : Parsed) → length text ≤ 67108864 → parsed text ≡ Ok x → IsFormed x.syntax
unfolding tokens
parsed_formed text x short e =
    let t = reading_of text x e in
    let law = syntax_law (map word_of t.found) (x.syntax, t.left) t.read in
    let read : AreWords (map word_of t.found) = lex_words 0 0 text t.found t.lexed in
    let words : AreWords (syntax_words x.syntax) = fits_said (syntax_words x.syntax) (subst AreWords law.words.said_as (said_fits (map word_of t.found) read)) in
    let few = tokens_within text t.found t.lexed in
    let same = length-map t.found word_of in
    let room : length (map word_of t.found) ≤ 4294967295 = omega (arith, few, same, short) in
    record { system = system_named x.syntax words; models = models_formed (length (map word_of t.found)) room x.syntax.models (syntax_parts (map word_of t.found) (x.syntax, t.left) t.read) (models_named x.syntax words) }
