-- The names of a syntax whose words can be written.
use Rattle.san_base.proofs.Bools.{and_true}
use Rattle.std.proofs.Common.{◌≡◌, ℕ, Bool, true, false, ◌&&◌, ◌||◌, nat_lt, nat_eq, List, [], ◌∷◌, ◌++◌, map, IsTrue, All, Option, Some, None, refl, sym, ap, ◌∙◌, arith}
use Rattle.std.proofs.lemmas.List.Elements.{All-cons, All-nil}
use Rattle.san_base.specs.Names.{each, is_in_name, is_letter, is_name}
use Rattle.san_lex.specs.Lexer.{Word}
use Rattle.san_lex.specs.Words.{IsName, AreWords}
use Rattle.san_text.specs.declared.syntax.ActDecl.{ActDecl}
use Rattle.san_text.specs.declared.syntax.Timing.{Timing}
use Rattle.san_text.specs.declared.syntax.ChildDecl.{ChildDecl}
use Rattle.san_text.specs.declared.syntax.ModelDecl.{ModelDecl}
use Rattle.san_text.specs.declared.syntax.ModelDecl.TheVariants as model
use Rattle.san_text.specs.declared.syntax.Syntax.{Syntax}
use Rattle.san_text.specs.Spelling.{joined}
use Rattle.san_text.specs.ActivityWords.{act_by, act_words}
use Rattle.san_text.specs.ModelWords.{places_words, acts_words, child_words, model_words, head_words, system_words, reward_words, syntax_words}

-- ---- the form of a name

name_as : (bs : List ℕ) → IsName bs → IsTrue (is_name bs)
name_as [] h = absurd h
name_as (b ∷ bs) h = and_true (is_letter b) (each is_in_name bs) h.0 h.1

-- ---- parts of words

words_left : (us vs : List Word) → AreWords (us ++ vs) → AreWords us
words_left [] vs h = tt
words_left (u ∷ us) vs h = (h.0, words_left us vs h.1)

words_right : (us vs : List Word) → AreWords (us ++ vs) → AreWords vs
words_right [] vs h = h
words_right (u ∷ us) vs h = words_right us vs h.1

each_of : {A : Type 0} (f : A → List Word) (P : A → Type 0) → ((x : A) → AreWords (f x) → P x) → (xs : List A) → AreWords (joined (map f xs)) → All P xs
each_of f P good [] h = All-nil P
each_of f P good (x ∷ xs) h = All-cons P x xs (good x (words_left (f x) (joined (map f xs)) h)) (each_of f P good xs (words_right (f x) (joined (map f xs)) h))

-- ---- the names

abbrev pub HasName : ActDecl → Type 0
HasName act = IsTrue (is_name act.name)

act_by_named : (act : ActDecl) (o : Option Timing) → AreWords (act_by act o) → HasName act
act_by_named act None h = name_as act.name h.1.0
act_by_named act (Some t) h = name_as act.name h.1.0

abbrev pub ModelNames : ModelDecl → Type 0
ModelNames (model.Atomic name places acts) = All HasName acts
ModelNames (model.Join name children shares) = All (λ (c : ChildDecl). IsTrue (is_name c.name)) children
ModelNames (model.Rep name of times shares) = Unit {0}

model_named : (m : ModelDecl) → AreWords (model_words m) → ModelNames m
model_named (model.Atomic name places acts) h =
    each_of act_words HasName (λ act. act_by_named act act.timing) acts (words_left (acts_words acts) _ (words_right (places_words places) _ h.1.1.1))
model_named (model.Join name children shares) h =
    each_of child_words (λ (c : ChildDecl). IsTrue (is_name c.name)) (λ c w. name_as c.name w.1.0) children (words_left (joined (map child_words children)) _ h.1.1.1)
model_named (model.Rep name of times shares) h = tt

pub models_named : (s : Syntax) → AreWords (syntax_words s) → All ModelNames s.models
unfolding syntax_words
models_named s h = each_of model_words ModelNames model_named s.models (words_left (joined (map model_words s.models)) _ (words_right (head_words s.version) _ h))

pub system_named : (s : Syntax) → AreWords (syntax_words s) → IsTrue (is_name s.system)
unfolding syntax_words
system_named s h =
    let w = words_left (system_words s.system) (joined (map reward_words s.rewards)) (words_right (joined (map model_words s.models)) _ (words_right (head_words s.version) _ h)) in
    name_as s.system w.1.0
