-- Cells at the end of a leaf's slots.
use Rattle.std.proofs.Common.{ℕ, zero, suc, ◌<◌, ◌≤◌, ◌≡◌, ◌∙◌, ap, sym, refl, arith, List, [], ◌∷◌, ◌++◌, length, Option, All}
use Rattle.std.specs.Prelude.{slice_index}
use Rattle.san_base.specs.declared.limits.TheConstants.{MAX_TOKENS}
use Rattle.san_mark.specs.Overlays.{IsSmall}
use Rattle.std.proofs.lemmas.List.{append-nil}
use Rattle.san_law.specs.Net.{Private, Shared, Slot}
use Rattle.san_leaf.specs.inner.Cells.{noted, owned, starts}

none_noted : (ss : List Slot) (cells : List (Option ℕ)) → length cells < 1 → noted ss cells ≡ []
none_noted [] cells l = refl
none_noted (s ∷ ss) [] l = refl
none_noted (s ∷ ss) (o ∷ cells) l = absurd (omega (arith, l))

none_owned : (ss : List Slot) (cells : List (Option ℕ)) → length cells < 1 → owned ss cells ≡ []
none_owned [] cells l = refl
none_owned (s ∷ ss) [] l = refl
none_owned (s ∷ ss) (o ∷ cells) l = absurd (omega (arith, l))

pub all_noted : (recorded : List (ℕ × ℕ)) (ss : List Slot) (cells : List (Option ℕ)) (whole : List (ℕ × ℕ)) → length cells < 1 → recorded ++ noted ss cells ≡ whole → recorded ≡ whole
all_noted recorded ss cells whole l is = sym (append-nil recorded) ∙ ap (λ xs. recorded ++ xs) (sym (none_noted ss cells l)) ∙ is

pub all_owned : (values : List ℕ) (ss : List Slot) (cells : List (Option ℕ)) (whole : List ℕ) → length cells < 1 → values ++ owned ss cells ≡ whole → values ≡ whole
all_owned values ss cells whole l is = sym (append-nil values) ∙ ap (λ xs. values ++ xs) (sym (none_owned ss cells l)) ∙ is

abbrev AreSmall : List ℕ → Type 0
AreSmall vs = (i : ℕ) → i < length vs → slice_index vs i ≤ MAX_TOKENS

all_small : (ss : List Slot) (vs : List ℕ) → AreSmall vs → All IsSmall (starts ss vs)
all_small [] vs small i d lt = absurd (omega arith)
all_small (Private q ∷ ss) [] small zero d lt = omega arith
all_small (Private q ∷ ss) [] small (suc i) d lt = all_small ss [] small i d (omega (arith, lt))
all_small (Private q ∷ ss) (v ∷ vs) small zero d lt = small 0 (omega arith)
all_small (Private q ∷ ss) (v ∷ vs) small (suc i) d lt = all_small ss vs (λ j b. small (suc j) (omega (arith, b))) i d (omega (arith, lt))
all_small (Shared q ∷ ss) vs small zero d lt = tt
all_small (Shared q ∷ ss) vs small (suc i) d lt = all_small ss vs small i d (omega (arith, lt))

-- where the leaf's values are numbers of tokens, so is what its cells begin with
pub starts_small : (ss : List Slot) (values : List ℕ) → All (λ v. v ≤ MAX_TOKENS) values → All IsSmall (starts ss values)
starts_small ss values h = all_small ss values (λ i lt. h i 0 lt)
