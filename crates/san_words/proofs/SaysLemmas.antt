-- What a typed getter of clap reads, and what is said of texts that are the same.
use Rattle.std.proofs.Common.{◌≡◌, ◌≢◌, ◌⊎◌, ◌∙◌, inl, inr, ℕ, min, max, List, Option, Some, None, Result, Ok, Err, refl, unwrap_or, ap, subst, sym, arith, Bool, true, false}
use Rattle.std.proofs.lemmas.Bool.{cases_eq}
use Rattle.std.proofs.Math.Path.{fun_ext}
use Rattle.std.specs.Str.Parse.{ParsesUnsigned}
use Rattle.clap.specs.Words.{ReadsOne, Text, is_simple, is_simple_and_free}
use Rattle.clap.proofs.OnLiterals.{clap_on_literals}
use Rattle.clap.specs.Simple.{App}
use Rattle.san_words.specs.Commands.{IsTaken, batch_app, first_app, run_app, plain_app}
use Rattle.san_words.specs.Hears.{BatchSay, FirstSay, HasSeeds, IsBatch, IsFirst, IsWritten, RunsSay, Says, SaysWithin, Texts, texts_of}
use Rattle.san_words.specs.declared.options.NumberOption.{NumberOption}
use Rattle.san_words.specs.declared.options.NumberOption.TheVariants.{FirstRuns, Runs}
use Rattle.san_words.specs.declared.orders.BatchOrders.{BatchOrders}
use Rattle.san_words.specs.declared.orders.FirstOrders.{FirstOrders}

pub says : (E : Type 0) (G : List ℕ → Result ℕ E → Type 0) (other : ℕ) (o : Option Text) (r : Option ℕ)
    → (o ≡ None → r ≡ None) → ((t : List ℕ) → o ≡ Some t → ReadsOne G t r)
    → ((u : List ℕ) (x : Result ℕ E) → G u x → ParsesUnsigned 64 10 u x) → Says other o (unwrap_or r other)
says E G other None r none some only = ap (λ x. unwrap_or x other) (none refl)
says E G other (Some t) r none some only = go r (some t refl)
  where
    go : (x : Option ℕ) → ReadsOne G t x → Says other (Some t) (unwrap_or x other)
    go (Some v) h = let parsed = only t (Ok v) h in ((λ p. parsed.1), (λ no. absurd (no parsed.0)))
    go None h = let parsed = only t (Err h.0) h.1 in ((λ p. absurd (parsed p)), (λ no. refl))

pub said_alike : (P : Texts → Type 0) (f g : Texts) → ((id : Text) → f id ≡ g id) → P f → P g
said_alike P f g same h = subst P (fun_ext same) h

pub run_is_free : is_simple_and_free run_app ≡ true
unfolding clap_on_literals run_app
run_is_free = refl

pub run_is_simple : is_simple run_app ≡ true
unfolding clap_on_literals run_app
run_is_simple = refl

pub plain_is_free : is_simple_and_free plain_app ≡ true
unfolding clap_on_literals plain_app
plain_is_free = refl

pub plain_is_simple : is_simple plain_app ≡ true
unfolding clap_on_literals plain_app
plain_is_simple = refl

pub batch_is_free : is_simple_and_free batch_app ≡ true
unfolding clap_on_literals batch_app
batch_is_free = refl

pub batch_is_simple : is_simple batch_app ≡ true
unfolding clap_on_literals batch_app
batch_is_simple = refl

pub first_is_free : is_simple_and_free first_app ≡ true
unfolding clap_on_literals first_app
first_is_free = refl

pub first_is_simple : is_simple first_app ≡ true
unfolding clap_on_literals first_app
first_is_simple = refl

-- what is said of what a command found is said of the words
pub said_of_words : (P : Texts → Type 0) (a app : App) (words : List Text) (found : Texts) → a ≡ app → IsTaken a words × ((id : Text) → found id ≡ texts_of a words id) → P found → IsTaken app words × P (texts_of app words)
said_of_words P a app words found same finds said = subst (λ (x : App). IsTaken x words × P (texts_of x words)) same (finds.0, said_alike P found (texts_of a words) finds.1 said)

-- an option sets one number
says_once : (other : ℕ) (o : Option Text) (n m : ℕ) → Says other o n → Says other o m → n ≡ m
says_once other None n m h k = h ∙ sym k
says_once other (Some t) n m h k = by_case (cases_eq n m)
  where
    by_case : (n ≡ m) ⊎ (n ≢ m) → n ≡ m
    by_case (inl e) = e
    by_case (inr d) =
        let unwritten : IsWritten t → ⊥ = λ w. d (h.0 w ∙ sym (k.0 w)) in
        h.1 unwritten ∙ sym (k.1 unwritten)

sets_once : (least most other : ℕ) (o : Option Text) (n m : ℕ) → SaysWithin least most other o n → SaysWithin least most other o m → n ≡ m
sets_once least most other o n m h k = h.within ∙ ap (λ (x : ℕ). max least (min x most)) (says_once other o h.said k.said h.says k.says) ∙ sym k.within

-- what words order is one batch
pub one_batch : (option : NumberOption) (texts : Texts) (o p : BatchOrders) → RunsSay option texts o → RunsSay option texts p → HasSeeds o → HasSeeds p
one_batch option texts o p h k seeds =
    let seed = sets_once _ _ _ _ o.seed p.seed h.bounds.seed_said k.bounds.seed_said in
    let runs = sets_once _ _ _ _ o.runs p.runs h.runs_said k.runs_said in
    omega (arith, seed, runs, seeds)

pub no_batch : (a : App) (words : List Text) (found : Texts) (p : BatchOrders) → a ≡ batch_app → IsTaken a words × ((id : Text) → found id ≡ texts_of a words id) → BatchSay found p → (HasSeeds p → ⊥) → IsBatch words → ⊥
no_batch a words found p same finds said none h =
    none (one_batch Runs (texts_of batch_app words) h.1.0 p h.1.1 (said_of_words (λ (f : Texts). BatchSay f p) a batch_app words found same finds said).1 h.1.2)

pub no_first : (a : App) (words : List Text) (found : Texts) (p : FirstOrders) → a ≡ first_app → IsTaken a words × ((id : Text) → found id ≡ texts_of a words id) → FirstSay found p → (HasSeeds p.batch → ⊥) → IsFirst words → ⊥
no_first a words found p same finds said none h =
    none (one_batch FirstRuns (texts_of first_app words) h.1.0.batch p.batch h.1.1.batch_said (said_of_words (λ (f : Texts). FirstSay f p) a first_app words found same finds said).1.batch_said h.1.2)

pub not_both : (b : Bool) → b ≡ true → b ≡ false → ⊥
not_both b t f = cc
