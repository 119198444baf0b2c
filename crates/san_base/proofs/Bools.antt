-- Truth values that are joined.
use Rattle.std.proofs.Common.{◌≡◌, refl, sym, Bool, true, false, not, ◌&&◌, ◌||◌, IsTrue, true≢false}

pub and_both : (a b : Bool) → IsTrue (a && b) → IsTrue a × IsTrue b
and_both true b h = (refl, h)
and_both false b h = absurd (cc)

pub both_true : (a b : Bool) → (a && b) ≡ true → (a ≡ true) × (b ≡ true)
both_true true b h = (refl, h)
both_true false b h = absurd (true≢false (sym h))

pub or_none : (a b : Bool) → (a || b) ≡ false → (a ≡ false) × (b ≡ false)
or_none true b e = cc
or_none false b e = (refl, e)

pub or_left : (b : Bool) → (true || b) ≡ true
or_left b = refl

pub or_right : (b : Bool) → (b || true) ≡ true
or_right true = refl
or_right false = refl

pub not_false : (b : Bool) → not b ≡ false → b ≡ true
not_false true h = refl
not_false false h = absurd (true≢false h)

pub or_false : (b : Bool) → (b || false) ≡ b
or_false true = refl
or_false false = refl

pub or_assoc : (a b c : Bool) → ((a || b) || c) ≡ (a || (b || c))
or_assoc true b c = refl
or_assoc false b c = refl

pub or_second : (a b : Bool) → b ≡ true → (a || b) ≡ true
or_second true b is = refl
or_second false b is = is

pub and_false : (b : Bool) → (b && false) ≡ false
and_false true = refl
and_false false = refl

pub and_true : (a b : Bool) → a ≡ true → b ≡ true → (a && b) ≡ true
and_true true b is also = also
and_true false b is also = absurd (true≢false (sym is))

pub holds_left : (a b : Bool) → IsTrue a → IsTrue (a || b)
holds_left true b h = refl
holds_left false b h = absurd (cc)

pub holds_right : (a b : Bool) → IsTrue b → IsTrue (a || b)
holds_right true b h = refl
holds_right false b h = h
