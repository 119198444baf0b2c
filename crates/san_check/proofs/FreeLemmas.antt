-- What entries without a code tell.
use Rattle.std.proofs.Common.{◌≡◌, ℕ, suc, ◌<◌, Bool, true, false, not, [], ◌∷◌, ◌++◌, Option, Some, None, is_some, nat_le, refl, ap, true≢false}
use Rattle.std.proofs.lemmas.Bool.{leb-false}
use Rattle.san_check.specs.walk.Entries.{Entries, code, ◌else◌, first_fault}

-- no word has a code
abbrev pub Free : Entries → Type 0
Free [] = Unit {0}
Free (entry ∷ entries) = (entry ≡ None) × Free entries

pub free_of : (n : ℕ) (es : Entries) → first_fault n es ≡ None → Free es
free_of n [] h = tt
free_of n (None ∷ es) h = (refl, free_of (suc n) es h)
free_of n (Some c ∷ es) h = absurd (true≢false (ap is_some h))

pub free_left : (us vs : Entries) → Free (us ++ vs) → Free us
free_left [] vs h = tt
free_left (u ∷ us) vs h = (h.0, free_left us vs h.1)

pub free_right : (us vs : Entries) → Free (us ++ vs) → Free vs
free_right [] vs h = h
free_right (u ∷ us) vs h = free_right us vs h.1

pub code_free : (n : ℕ) (b : Bool) → code n b ≡ None → b ≡ false
code_free n true h = absurd (true≢false (ap is_some h))
code_free n false h = refl

pub else_first : (a b : Option ℕ) → (a else b) ≡ None → a ≡ None
else_first None b h = refl
else_first (Some n) b h = h

pub else_second : (a b : Option ℕ) → (a else b) ≡ None → b ≡ None
else_second None b h = h
else_second (Some n) b h = absurd (true≢false (ap is_some h))

-- there is room for one more
pub room : (m n c : ℕ) → code c (nat_le m n) ≡ None → n < m
room m n c h = leb-false m n (code_free c (nat_le m n) h)
