-- What names, numbers, expressions and lists owe as readers.
use Rattle.std.proofs.Common.{◌≡◌, ℕ, zero, suc, ◌≤◌, Bool, true, false, cond, List, [], ◌∷◌, ◌++◌, length, map, Ok, Option, Some, None, refl, sym, ap, subst, ◌∙◌, append_assoc, arith}
use Rattle.std.proofs.lemmas.List.{length-append}
use Rattle.san_lex.specs.Lexer.{Word, Number, Name, Fixed}
use Rattle.san_text.specs.Words.{look, name_of, number_of}
use Rattle.san_text.specs.Steps.{Reading, ◌>>=◌, name_at, number_at, number_or_none, many, all_of}
use Rattle.san_text.specs.Expressions.{expr}
use Rattle.san_text.specs.Spelling.{spelling, joined}
use Rattle.san_text.specs.ActivityWords.{number_words}
use Rattle.san_text.proofs.FrontLemmas.{bind_ok, ok_is, then_ok}
use Rattle.san_text.proofs.ExprLemmas.{expr_law}
use Rattle.san_text.proofs.ManyLemmas.{many_stops}
use Rattle.san_text.proofs.AlikeLemmas.{Alike, alike_refl, alike_is, alike_parts}
use Rattle.san_text.proofs.StepLemmas.{Follow, Any, Kept, Law}

named : (ws : List Word) (p : List ℕ × List Word) → name_at ws ≡ Ok p → ws ≡ Name p.0 ∷ p.1
unfolding name_at name_of
named [] p e = absurd cc
named (Number n ∷ ws) p e = absurd cc
named (Name s ∷ ws) p e = ap (λ (z : List ℕ × List Word). Name z.0 ∷ z.1) (ok_is (s, ws) p e)
named (Fixed s ∷ ws) p e = absurd cc

numbered : (ws : List Word) (p : ℕ × List Word) → number_at ws ≡ Ok p → ws ≡ Number p.0 ∷ p.1
unfolding number_at number_of
numbered [] p e = absurd cc
numbered (Number n ∷ ws) p e = ap (λ (z : ℕ × List Word). Number z.0 ∷ z.1) (ok_is (n, ws) p e)
numbered (Name s ∷ ws) p e = absurd cc
numbered (Fixed s ∷ ws) p e = absurd cc

abbrev pub name_words : List ℕ → List Word
name_words s = Name s ∷ []

abbrev pub int_words : ℕ → List Word
int_words n = Number n ∷ []

pub name_law : Law name_words name_at Any
unfolding name_at name_of
name_law = record { kept = λ ws p e. record { words = alike_is ws (Name p.0 ∷ p.1) (named ws p e); again = λ after h. refl } }

pub number_law : Law int_words number_at Any
unfolding number_at number_of
number_law = record { kept = λ ws p e. record { words = alike_is ws (Number p.0 ∷ p.1) (numbered ws p e); again = λ after h. refl } }

-- words that go on an expression alike
abbrev pub Looks : Follow
Looks was now = look now ≡ look was

pub expr_keeps : (version : ℕ) → Law spelling (expr version) Looks
expr_keeps version = record { kept = λ ws p e. let t = expr_law version ws p e in record { words = alike_is ws (spelling p.0 ++ p.1) t.0; again = t.1 } }

-- no number comes next
abbrev pub NoNumber : Follow
NoNumber was now = number_of now ≡ None

no_number : (after : List Word) → number_of after ≡ None → number_or_none after ≡ Ok (None, after)
unfolding number_or_none
no_number after h = rw h refl

none_read : (ws : List Word) (p : Option ℕ × List Word) → (None, ws) ≡ p → Kept number_words number_or_none NoNumber ws p
none_read ws p e = subst (λ (z : Option ℕ × List Word). Kept number_words number_or_none NoNumber ws z) e (record { words = alike_refl ws; again = λ after h. no_number after h })

number_or : (ws : List Word) (p : Option ℕ × List Word) → number_or_none ws ≡ Ok p → Kept number_words number_or_none NoNumber ws p
unfolding number_or_none number_of
number_or [] p e = none_read [] p (ok_is (None, []) p e)
number_or (Name s ∷ ws) p e = none_read (Name s ∷ ws) p (ok_is (None, Name s ∷ ws) p e)
number_or (Fixed s ∷ ws) p e = none_read (Fixed s ∷ ws) p (ok_is (None, Fixed s ∷ ws) p e)
number_or (Number n ∷ ws) p e = subst (λ (z : Option ℕ × List Word). Kept number_words number_or_none NoNumber (Number n ∷ ws) z) (ok_is (Some n, ws) p e) (record { words = alike_refl (Number n ∷ ws); again = λ after h. refl })

pub weight_law : Law number_words number_or_none NoNumber
weight_law = record { kept = number_or }

-- ---- lists

pub record Items {A : Type 0} (f : A → List Word) (starts : List Word → Bool) (item : Reading A) (Calm : List Word → Type 0) : Type 0 where
  pub none : starts [] ≡ false
  pub easy : (ws : List Word) → starts ws ≡ true → Calm ws
  pub begins : (ws : List Word) (p : A × List Word) → starts ws ≡ true → item ws ≡ Ok p → (after : List Word) → starts (f p.0 ++ after) ≡ true
  pub keeps : (ws : List Word) (p : A × List Word) → starts ws ≡ true → item ws ≡ Ok p → Kept f item (λ was now. Calm now) ws p

record Many {A : Type 0} (f : A → List Word) (starts : List Word → Bool) (item : Reading A) (Calm : List Word → Type 0) (ws : List Word) (p : List A × List Word) : Type 0 where
  words : Alike ws (joined (map f p.0) ++ p.1)
  easy : (after : List Word) → Calm after → Calm (joined (map f p.0) ++ after)
  room : length p.0 ≤ length (joined (map f p.0))
  again : (m : ℕ) → length p.0 ≤ m → (after : List Word) → Calm after → starts after ≡ false → many starts item m (joined (map f p.0) ++ after) ≡ Ok (p.0, after)

no_items : {A : Type 0} (f : A → List Word) (starts : List Word → Bool) (item : Reading A) (Calm : List Word → Type 0) (ws : List Word) (p : List A × List Word) → ([], ws) ≡ p → Many f starts item Calm ws p
no_items f starts item Calm ws p e =
    subst (λ (q : List _ × List Word). Many f starts item Calm ws q) e (record { words = alike_refl ws; easy = λ after h. h; room = omega arith; again = λ m le after calm stop. many_stops starts item m after stop })

below : (k m : ℕ) → suc k ≤ m → (j : ℕ) × (m ≡ suc j) × (k ≤ j)
below k zero h = absurd (omega arith)
below k (suc j) h = (j, refl, omega arith)

filled : (starts : List Word → Bool) → starts [] ≡ false → (us : List Word) → starts (us ++ []) ≡ true → 1 ≤ length us
filled starts none [] h = absurd cc
filled starts none (u ∷ us) h = omega arith

found_item : {A : Type 0} (f : A → List Word) (starts : List Word → Bool) (item : Reading A) (Calm : List Word → Type 0) → Items f starts item Calm → (n : ℕ)
    → ((ws : List Word) (p : List A × List Word) → many starts item n ws ≡ Ok p → Many f starts item Calm ws p)
    → (b : Bool) (ws : List Word) (p : List A × List Word) → starts ws ≡ b → cond b (item ws >>= λ x. many starts item n x.1 >>= λ y. Ok (x.0 ∷ y.0, y.1)) (Ok ([], ws)) ≡ Ok p → Many f starts item Calm ws p
unfolding many
found_item f starts item Calm items n rest false ws p is e = no_items f starts item Calm ws p (ok_is ([], ws) p e)
found_item f starts item Calm items n rest true ws p is e =
    let a = bind_ok (item ws) (λ x. many starts item n x.1 >>= λ y. Ok (x.0 ∷ y.0, y.1)) p e in
    let b = bind_ok (many starts item n a.0.1) (λ y. Ok (a.0.0 ∷ y.0, y.1)) p a.2 in
    let s = items.keeps ws a.0 is a.1 in
    let t = rest a.0.1 b.0 b.1 in
    let J : List Word = joined (map f b.0.0) in
    let front = items.begins ws a.0 is a.1 in
    let regroup = λ (after : List Word). append_assoc (f a.0.0) J after in
    subst (λ (q : List _ × List Word). Many f starts item Calm ws q) (ok_is (a.0.0 ∷ b.0.0, b.0.1) p b.2) (record {
      words = alike_parts ws (f a.0.0) J a.0.1 b.0.1 s.words t.words;
      easy = λ after h. subst Calm (sym (regroup after)) (items.easy (f a.0.0 ++ (J ++ after)) (front (J ++ after)));
      room = omega (arith, filled starts items.none (f a.0.0) (front []), t.room, length-append (f a.0.0) J);
      again = λ m le after calm stop.
          let j = below (length b.0.0) m le in
          let vs : List Word = f a.0.0 ++ (J ++ after) in
          ap (λ (k : ℕ). many starts item k ((f a.0.0 ++ J) ++ after)) j.1 ∙ ap (many starts item (suc j.0)) (regroup after)
          ∙ ap (λ (c : Bool). cond c (item vs >>= λ x. many starts item j.0 x.1 >>= λ y. Ok (x.0 ∷ y.0, y.1)) (Ok ([], vs))) (front (J ++ after))
          ∙ then_ok (item vs) (λ x. many starts item j.0 x.1 >>= λ y. Ok (x.0 ∷ y.0, y.1)) (a.0.0, J ++ after) (a.0.0 ∷ b.0.0, after) (s.again (J ++ after) (t.easy after calm))
          (then_ok (many starts item j.0 (J ++ after)) (λ y. Ok (a.0.0 ∷ y.0, y.1)) (b.0.0, after) (a.0.0 ∷ b.0.0, after) (t.again j.0 j.2 after calm stop) refl);
    })

many_law : {A : Type 0} (f : A → List Word) (starts : List Word → Bool) (item : Reading A) (Calm : List Word → Type 0) → Items f starts item Calm → (n : ℕ) (ws : List Word) (p : List A × List Word) → many starts item n ws ≡ Ok p → Many f starts item Calm ws p
unfolding many
many_law f starts item Calm items zero ws p e = no_items f starts item Calm ws p (ok_is ([], ws) p e)
many_law f starts item Calm items (suc n) ws p e = found_item f starts item Calm items n (many_law f starts item Calm items n) (starts ws) ws p refl e

abbrev pub list_words : {A : Type 0} → (A → List Word) → List A → List Word
list_words f xs = joined (map f xs)

-- no further item starts
abbrev pub Over : (List Word → Bool) → Follow
Over starts was now = starts now ≡ false

pub calm_list_law : {A : Type 0} {f : A → List Word} {starts : List Word → Bool} {item : Reading A} {Calm : List Word → Type 0} → Items f starts item Calm → Law (list_words f) (all_of starts item) (λ was now. (starts now ≡ false) × Calm now)
calm_list_law {f = f} {starts = starts} {item = item} {Calm = Calm} items = record {
  kept = λ ws p e.
      let t = many_law f starts item Calm items (length ws) ws p e in
      record {
        words = t.words;
        again = λ after h. t.again (length (joined (map f p.0) ++ after)) (omega (arith, t.room, length-append (joined (map f p.0)) after)) after h.1 h.0;
      };
}

abbrev pub Nothing : List Word → Type 0
Nothing ws = Unit {0}

pub list_law : {A : Type 0} {f : A → List Word} {starts : List Word → Bool} {item : Reading A} → Items f starts item Nothing → Law (list_words f) (all_of starts item) (Over starts)
list_law {f = f} {starts = starts} {item = item} items = record {
  kept = λ ws p e.
      let t = (calm_list_law items).kept ws p e in
      record { words = t.words; again = λ after h. t.again after (h, tt) };
}

pub items_of : {A : Type 0} {f : A → List Word} {starts : List Word → Bool} {item : Reading A} → starts [] ≡ false → ((x : A) (after : List Word) → starts (f x ++ after) ≡ true) → Law f item Any → Items f starts item Nothing
items_of none begins law = record {
  none = none;
  easy = λ ws h. tt;
  begins = λ ws p s e after. begins p.0 after;
  keeps = λ ws p s e. let t = law.kept ws p e in record { words = t.words; again = λ after h. t.again after tt };
}

-- a list before words that its items may stand before
pub list_before : {A : Type 0} (f : A → List Word) (Q : List Word → Type 0) → ((x : A) (us : List Word) → Q (f x ++ us)) → (xs : List A) (us : List Word) → Q us → Q (list_words f xs ++ us)
list_before f Q each [] us h = h
list_before f Q each (x ∷ xs) us h = subst Q (sym (append_assoc (f x) (list_words f xs) us)) (each x (list_words f xs ++ us))
