-- Names that a table takes one by one stand in their list once.
use Rattle.san_base.proofs.NumberTests.{some_same}
use Rattle.std.proofs.Common.{◌≡◌, ℕ, zero, suc, Bool, true, false, List, [], ◌∷◌, Some, is_some, refl, sym, ap, subst, ◌∙◌, true≢false}
use Rattle.std.specs.Prelude.{slice_get}
use Rattle.san_net.specs.Apart.{AreApart}
use Rattle.san_check.specs.Tables.{Table, is_known, declared}
use Rattle.san_check.proofs.NumberLemmas.{known_itself, known_stays}

-- what stands nowhere in a list stands in front of it once
apart_cons : {X : Type 0} (x : X) (xs : List X) → ((j : ℕ) → slice_get xs j ≡ Some x → ⊥) → AreApart xs → AreApart (x ∷ xs)
apart_cons x xs absent h zero zero y a b = refl
apart_cons x xs absent h zero (suc j) y a b = absurd (absent j (b ∙ sym a))
apart_cons x xs absent h (suc i) zero y a b = absurd (absent i (a ∙ sym b))
apart_cons x xs absent h (suc i) (suc j) y a b = ap suc (h i j y a b)

pub none_apart : {X : Type 0} → AreApart {X = X} []
none_apart i j x a b = absurd (true≢false (sym (ap is_some a)))

stays_unknown : {V : Type 0} (b : Bool) (t : Table V) (other name : List ℕ) (v : V) → is_known t name ≡ b → is_known (declared t other v) name ≡ false → is_known t name ≡ false
stays_unknown true t other name v is h = absurd (true≢false (sym (known_stays t other name v is) ∙ h))
stays_unknown false t other name v is h = is

-- names that a table doesn't know, each once
pub record Fresh {V : Type 0} (t : Table V) (names : List (List ℕ)) : Type 0 where
  pub unknown : (j : ℕ) (name : List ℕ) → slice_get names j ≡ Some name → is_known t name ≡ false
  pub apart : AreApart names

pub none_fresh : {V : Type 0} (t : Table V) → Fresh t []
none_fresh t = record { unknown = λ j name is. absurd (true≢false (sym (ap is_some is))); apart = none_apart }

unknown_by : {V : Type 0} (t : Table V) (first : List ℕ) (v : V) (rest : List (List ℕ)) → is_known t first ≡ false → ((j : ℕ) (name : List ℕ) → slice_get rest j ≡ Some name → is_known (declared t first v) name ≡ false)
    → (j : ℕ) (name : List ℕ) → slice_get (first ∷ rest) j ≡ Some name → is_known t name ≡ false
unknown_by t first v rest new h zero name is = subst (λ (s : List ℕ). is_known t s ≡ false) (some_same first name is) new
unknown_by t first v rest new h (suc j) name is = stays_unknown (is_known t name) t first name v refl (h j name is)

pub fresh_more : {V : Type 0} (t : Table V) (first : List ℕ) (v : V) (rest : List (List ℕ)) → is_known t first ≡ false → Fresh (declared t first v) rest → Fresh t (first ∷ rest)
fresh_more t first v rest new h = record {
  unknown = unknown_by t first v rest new h.unknown;
  apart = apart_cons first rest (λ j is. true≢false (sym (known_itself t first v) ∙ h.unknown j first is)) h.apart;
}
