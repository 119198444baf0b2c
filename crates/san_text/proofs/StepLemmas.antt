-- Readers put together from steps, and what each step owes: the words that it read are alike to its
-- spelling, which is read again.
use Rattle.std.proofs.Common.{◌≡◌, Bool, true, false, cond, ◌&&◌, List, [], ◌∷◌, ◌++◌, length, Ok, Err, Option, None, refl, sym, ap, subst, ◌∙◌, append_assoc}
use Rattle.san_lex.specs.declared.sign.Sign.{Sign}
use Rattle.san_lex.specs.Lexer.{Word, Fixed}
use Rattle.san_text.specs.Words.{is_next, tail}
use Rattle.san_text.specs.Steps.{Illegal, Reading, ◌>>=◌, sign_at}
use Rattle.san_text.proofs.FrontLemmas.{bind_ok, ok_is, test_ok, then_ok, next_is, next_self}
use Rattle.san_text.proofs.AlikeLemmas.{Alike, alike_refl, alike_is, alike_then, alike_front, alike_parts}

-- ---- steps

unfoldable pub seq : {A B : Type 0} → Reading A → (A → Reading B) → Reading B
seq r k ws = r ws >>= λ x. k x.0 x.1

unfoldable pub sign_then : {B : Type 0} → Sign → Reading B → Reading B
sign_then s r ws = sign_at s ws >>= λ vs. r vs

unfoldable pub done : {A : Type 0} → A → Reading A
done x ws = Ok (x, ws)

-- by the sign that stands next
unfoldable pub choice : {A : Type 0} → Sign → Reading A → Reading A → Reading A
choice s r q ws = cond (is_next s ws) (r (tail ws)) (q ws)

-- a part that may be missing
unfoldable pub maybe : {A : Type 0} → (List Word → Bool) → Reading (Option A) → Reading (Option A)
maybe test r ws = cond (test ws) (r (tail ws)) (Ok (None, ws))

-- ---- laws

-- how the words that follow now stand to those that followed
abbrev pub Follow : Type 1
Follow = List Word → List Word → Type 0

abbrev pub Any : Follow
Any was now = Unit {0}

pub record Kept {A : Type 0} (f : A → List Word) (r : Reading A) (ok : Follow) (ws : List Word) (p : A × List Word) : Type 0 where
  pub words : Alike ws (f p.0 ++ p.1)
  pub again : (after : List Word) → ok p.1 after → r (f p.0 ++ after) ≡ Ok (p.0, after)

pub record Law {A : Type 0} (f : A → List Word) (r : Reading A) (ok : Follow) : Type 0 where
  pub kept : (ws : List Word) (p : A × List Word) → r ws ≡ Ok p → Kept f r ok ws p

-- the same of a reader behind words that were read before: `front` of them and the others is the spelling
pub record After {A : Type 0} (front : List Word → List Word) (f : A → List Word) (r : Reading A) (ok fits : Follow) (ws : List Word) (p : A × List Word) : Type 0 where
  pub others : List Word
  pub whole : f p.0 ≡ front others
  pub words : Alike ws (others ++ p.1)
  pub again : (after : List Word) → ok p.1 after → r (others ++ after) ≡ Ok (p.0, after)
  pub meets : (after : List Word) → ok p.1 after → fits ws (others ++ after)

pub record Steps {A : Type 0} (front : List Word → List Word) (f : A → List Word) (r : Reading A) (ok fits : Follow) : Type 0 where
  pub goes : (ws : List Word) (p : A × List Word) → r ws ≡ Ok p → After front f r ok fits ws p

pub law_of : {A : Type 0} {f : A → List Word} {r : Reading A} {ok : Follow} → Steps (λ us. us) f r ok Any → Law f r ok
law_of {f = f} {r = r} steps = record {
  kept = λ ws p e.
      let t = steps.goes ws p e in
      record {
        words = subst (λ (z : List Word). Alike ws (z ++ p.1)) (sym t.whole) t.words;
        again = λ after h. ap (λ (z : List Word). r (z ++ after)) t.whole ∙ t.again after h;
      };
}

pub signed : (s : Sign) (ws vs : List Word) → sign_at s ws ≡ Ok vs → ws ≡ Fixed s ∷ vs
unfolding sign_at
signed s ws vs e =
    let t = test_ok (is_next s ws) (Ok (tail ws)) (Illegal (length ws)) vs e in
    next_is s ws t.0 ∙ ap (λ (u : List Word). Fixed s ∷ u) (ok_is (tail ws) vs t.1)

pub sign_again : (s : Sign) (after : List Word) → sign_at s (Fixed s ∷ after) ≡ Ok after
unfolding sign_at
sign_again s after = ap (λ (b : Bool). cond b (Ok after) (Err (Illegal (length (Fixed s ∷ after))))) (next_self s after)

pub sign_step : {A : Type 0} {front : List Word → List Word} {f : A → List Word} {r : Reading A} {ok fits : Follow} (s : Sign)
    → ((a b : List Word) → fits (Fixed s ∷ a) (Fixed s ∷ b)) → Steps (λ us. front (Fixed s ∷ us)) f r ok Any → Steps front f (sign_then s r) ok fits
unfolding sign_then
sign_step {r = r} {fits = fits} s meets rest = record {
  goes = λ ws p e.
      let b = bind_ok (sign_at s ws) (λ vs. r vs) p e in
      let is : ws ≡ Fixed s ∷ b.0 = signed s ws b.0 b.1 in
      let u = rest.goes b.0 p b.2 in
      record {
        others = Fixed s ∷ u.others;
        whole = u.whole;
        words = alike_then ws (Fixed s ∷ b.0) (Fixed s ∷ (u.others ++ p.1)) (alike_is ws (Fixed s ∷ b.0) is) (alike_front (Fixed s ∷ []) b.0 (u.others ++ p.1) u.words);
        again = λ after h. then_ok (sign_at s (Fixed s ∷ (u.others ++ after))) (λ vs. r vs) (u.others ++ after) (p.0, after) (sign_again s (u.others ++ after)) (u.again after h);
        meets = λ after h. subst (λ (v : List Word). fits v (Fixed s ∷ (u.others ++ after))) (sym is) (meets b.0 (u.others ++ after));
      };
}

-- one reader, then another; `through` tells of the words before which the first one's spelling now stands
pub seq_through : {A B : Type 0} {front : List Word → List Word} {g : A → List Word} {f : B → List Word} {r : Reading A} {k : A → Reading B} {ok one fits more : Follow}
    → Law g r one → ((ws : List Word) (a : A) (us vs : List Word) → r ws ≡ Ok (a, us) → more us vs → fits ws (g a ++ vs))
    → ((a : A) → Steps (λ us. front (g a ++ us)) f (k a) ok (λ us vs. one us vs × more us vs)) → Steps front f (seq r k) ok fits
unfolding seq
seq_through {g = g} {r = r} {k = k} {fits = fits} law through rest = record {
  goes = λ ws p e.
      let b = bind_ok (r ws) (λ x. k x.0 x.1) p e in
      let t = law.kept ws b.0 b.1 in
      let u = (rest b.0.0).goes b.0.1 p b.2 in
      let regroup = λ (after : List Word). append_assoc (g b.0.0) u.others after in
      record {
        others = g b.0.0 ++ u.others;
        whole = u.whole;
        words = alike_parts ws (g b.0.0) u.others b.0.1 p.1 t.words u.words;
        again = λ after h. ap (λ (z : List Word). r z >>= λ x. k x.0 x.1) (regroup after)
            ∙ then_ok (r (g b.0.0 ++ (u.others ++ after))) (λ x. k x.0 x.1) (b.0.0, u.others ++ after) (p.0, after) (t.again (u.others ++ after) (u.meets after h).0) (u.again after h);
        meets = λ after h. subst (fits ws) (sym (regroup after)) (through ws b.0.0 b.0.1 (u.others ++ after) b.1 (u.meets after h).1);
      };
}

pub weaken : {A : Type 0} {front : List Word → List Word} {f : A → List Word} {r : Reading A} {ok one two : Follow} → ((a b : List Word) → one a b → two a b) → Steps front f r ok one → Steps front f r ok two
weaken weak steps = record {
  goes = λ ws p e.
      let t = steps.goes ws p e in
      record { others = t.others; whole = t.whole; words = t.words; again = t.again; meets = λ after h. weak ws (t.others ++ after) (t.meets after h) };
}

pub seq_step : {A B : Type 0} {front : List Word → List Word} {g : A → List Word} {f : B → List Word} {r : Reading A} {k : A → Reading B} {ok one : Follow}
    → Law g r one → ((a : A) → Steps (λ us. front (g a ++ us)) f (k a) ok one) → Steps front f (seq r k) ok Any
seq_step {ok = ok} {one = one} law rest = seq_through {more = Any} law (λ ws a us vs e h. tt) (λ a. weaken {one = one} {two = λ us vs. one us vs × Any us vs} (λ us vs h. (h, tt)) (rest a))

pub done_step : {A : Type 0} {front : List Word → List Word} {f : A → List Word} {ok fits : Follow} (x : A) → ((a b : List Word) → ok a b → fits a b) → f x ≡ front [] → Steps front f (done x) ok fits
unfolding done
done_step {front = front} {f = f} {ok = ok} {fits = fits} x weak whole = record {
  goes = λ ws p e.
      subst (λ (z : _ × List Word). After front f (λ us. Ok (x, us)) ok fits ws z) (ok_is (x, ws) p e)
      (record { others = []; whole = whole; words = alike_refl ws; again = λ after h. refl; meets = λ after h. weak ws after h });
}

abbrev Missing : (List Word → Bool) → Follow
Missing test was now = test now ≡ false

maybe_by : {A : Type 0} (f : Option A → List Word) (r : Reading (Option A)) (w : Word) (test : List Word → Bool)
    → ((ws : List Word) → test ws ≡ true → (ws ≡ w ∷ tail ws) × ((after : List Word) → test (w ∷ after) ≡ true)) → f None ≡ [] → Steps (λ us. w ∷ us) f r Any Any
    → (b : Bool) (ws : List Word) (p : Option A × List Word) → test ws ≡ b → cond b (r (tail ws)) (Ok (None, ws)) ≡ Ok p → Kept f (maybe test r) (Missing test) ws p
unfolding maybe
maybe_by f r w test is none steps true ws p h e =
    let front = is ws h in
    let t = steps.goes (tail ws) p e in
    record {
      words = alike_then ws (w ∷ tail ws) (f p.0 ++ p.1) (alike_is ws (w ∷ tail ws) front.0)
          (subst (λ (z : List Word). Alike (w ∷ tail ws) (z ++ p.1)) (sym t.whole) (alike_front (w ∷ []) (tail ws) (t.others ++ p.1) t.words));
      again = λ after m. ap (λ (z : List Word). cond (test (z ++ after)) (r (tail (z ++ after))) (Ok (None, z ++ after))) t.whole
          ∙ ap (λ (c : Bool). cond c (r (t.others ++ after)) (Ok (None, w ∷ (t.others ++ after)))) (front.1 (t.others ++ after)) ∙ t.again after tt;
    }
maybe_by f r w test is none steps false ws p h e =
    subst (λ (z : Option _ × List Word). Kept f (λ us. cond (test us) (r (tail us)) (Ok (None, us))) (Missing test) ws z) (ok_is (None, ws) p e) (record {
      words = subst (λ (z : List Word). Alike ws (z ++ ws)) (sym none) (alike_refl ws);
      again = λ after m. ap (λ (z : List Word). cond (test (z ++ after)) (r (tail (z ++ after))) (Ok (None, z ++ after))) none ∙ ap (λ (c : Bool). cond c (r (tail after)) (Ok (None, after))) m;
    })

-- a part that may be missing: `test` is whether it comes next, and `w` its first word
pub maybe_law : {A : Type 0} {f : Option A → List Word} {r : Reading (Option A)} {w : Word} (test : List Word → Bool)
    → ((ws : List Word) → test ws ≡ true → (ws ≡ w ∷ tail ws) × ((after : List Word) → test (w ∷ after) ≡ true)) → f None ≡ [] → Steps (λ us. w ∷ us) f r Any Any → Law f (maybe test r) (λ was now. test now ≡ false)
unfolding maybe
maybe_law {f = f} {r = r} {w = w} test is none steps = record { kept = λ ws p e. maybe_by f r w test is none steps (test ws) ws p refl e }

choice_by : {A : Type 0} (front : List Word → List Word) (f : A → List Word) (s : Sign) (r q : Reading A) (ok fits : Follow)
    → ((a b : List Word) → fits (Fixed s ∷ a) (Fixed s ∷ b)) → Steps (λ us. front (Fixed s ∷ us)) f r ok Any → Steps front f q ok (λ was now. (is_next s now ≡ false) × fits was now)
    → (b : Bool) (ws : List Word) (p : A × List Word) → is_next s ws ≡ b → cond b (r (tail ws)) (q ws) ≡ Ok p → After front f (choice s r q) ok fits ws p
unfolding choice
choice_by front f s r q ok fits meets one other true ws p h e =
    let is : ws ≡ Fixed s ∷ tail ws = next_is s ws h in
    let t = one.goes (tail ws) p e in
    record {
      others = Fixed s ∷ t.others;
      whole = t.whole;
      words = alike_then ws (Fixed s ∷ tail ws) (Fixed s ∷ (t.others ++ p.1)) (alike_is ws (Fixed s ∷ tail ws) is) (alike_front (Fixed s ∷ []) (tail ws) (t.others ++ p.1) t.words);
      again = λ after k. ap (λ (c : Bool). cond c (r (t.others ++ after)) (q (Fixed s ∷ (t.others ++ after)))) (next_self s (t.others ++ after)) ∙ t.again after k;
      meets = λ after k. subst (λ (v : List Word). fits v (Fixed s ∷ (t.others ++ after))) (sym is) (meets (tail ws) (t.others ++ after));
    }
choice_by front f s r q ok fits meets one other false ws p h e =
    let t = other.goes ws p e in
    record {
      others = t.others;
      whole = t.whole;
      words = t.words;
      again = λ after k. ap (λ (c : Bool). cond c (r (tail (t.others ++ after))) (q (t.others ++ after))) (t.meets after k).0 ∙ t.again after k;
      meets = λ after k. (t.meets after k).1;
    }

pub choice_step : {A : Type 0} {front : List Word → List Word} {f : A → List Word} {r q : Reading A} {ok fits : Follow} (s : Sign)
    → ((a b : List Word) → fits (Fixed s ∷ a) (Fixed s ∷ b)) → Steps (λ us. front (Fixed s ∷ us)) f r ok Any → Steps front f q ok (λ was now. (is_next s now ≡ false) × fits was now) → Steps front f (choice s r q) ok fits
unfolding choice
choice_step {front = front} {f = f} {r = r} {q = q} {ok = ok} {fits = fits} s meets one other = record { goes = λ ws p e. choice_by front f s r q ok fits meets one other (is_next s ws) ws p refl e }

-- a reader that ends with another
pub last_step : {A : Type 0} {front : List Word → List Word} {g : A → List Word} {f : A → List Word} {r : Reading A} {ok : Follow} → Law g r ok → ((a : A) → f a ≡ front (g a)) → Steps front f r ok Any
last_step {g = g} law whole = record {
  goes = λ ws p e.
      let t = law.kept ws p e in
      record { others = g p.0; whole = whole p.0; words = t.words; again = t.again; meets = λ after h. tt };
}

-- by the sign that stands next, where it may stand at all: neither reader takes it before
unfoldable pub guarded : {A : Type 0} → Bool → Sign → Reading A → Reading A → Reading A
guarded b s r q ws = cond (b && is_next s ws) (r ws) (q ws)

guarded_by : {A : Type 0} (front : List Word → List Word) (f : A → List Word) (g : Bool) (s : Sign) (r q : Reading A) (ok : Follow)
    → Steps front f r ok (λ was now. is_next s now ≡ true) → Steps front f q ok (λ was now. is_next s now ≡ false)
    → (b : Bool) (ws : List Word) (p : A × List Word) → (g && is_next s ws) ≡ b → cond b (r ws) (q ws) ≡ Ok p → After front f (guarded g s r q) ok Any ws p
unfolding guarded
guarded_by front f true s r q ok one other true ws p h e =
    let t = one.goes ws p e in
    record { others = t.others; whole = t.whole; words = t.words; again = λ after k. ap (λ (c : Bool). cond c (r (t.others ++ after)) (q (t.others ++ after))) (t.meets after k) ∙ t.again after k; meets = λ after k. tt }
guarded_by front f true s r q ok one other false ws p h e =
    let t = other.goes ws p e in
    record { others = t.others; whole = t.whole; words = t.words; again = λ after k. ap (λ (c : Bool). cond c (r (t.others ++ after)) (q (t.others ++ after))) (t.meets after k) ∙ t.again after k; meets = λ after k. tt }
guarded_by front f false s r q ok one other true ws p h e = absurd cc
guarded_by front f false s r q ok one other false ws p h e =
    let t = other.goes ws p e in
    record { others = t.others; whole = t.whole; words = t.words; again = t.again; meets = λ after k. tt }

pub guarded_step : {A : Type 0} {front : List Word → List Word} {f : A → List Word} {r q : Reading A} {ok : Follow} (g : Bool) (s : Sign)
    → Steps front f r ok (λ was now. is_next s now ≡ true) → Steps front f q ok (λ was now. is_next s now ≡ false) → Steps front f (guarded g s r q) ok Any
unfolding guarded
guarded_step {front = front} {f = f} {r = r} {q = q} {ok = ok} g s one other = record { goes = λ ws p e. guarded_by front f g s r q ok one other (g && is_next s ws) ws p refl e }
