-- Lines of written places, changed one after another.
use Rattle.san_base.proofs.NumberTests.{number_itself, by_number}
use Rattle.std.proofs.Common.{ℕ, ◌<◌, ◌≡◌, ◌≢◌, ◌∙◌, inl, inr, ap, sym, refl, subst, List, [], ◌∷◌, length, Option, Some, None, Bool, true, false, nat_eq, arith, slice_index, slice_set}
use Rattle.std.proofs.lemmas.Bool.{cases_eq, eq-eqb, ne_eqb, eqb-true}
use Rattle.std.proofs.lemmas.Bool.Decides.{nat_tests}
use Rattle.std.proofs.lemmas.List.{length-set, get_or-set_same, get_or-set_other}
use Rattle.san_book.specs.Lines.{AreCommitted, AreWrites, Line, commit, each, line_of, no_line, write_of}

-- by a truth value
abbrev pub either : {X : Type 0} → Bool → X → X → X
either true a b = a
either false a b = b

pub eq_turn : (i j : ℕ) → nat_eq i j ≡ nat_eq j i
eq_turn i j = grind (arith, nat_tests)

pub unlike : (i j : ℕ) → i ≢ j → nat_eq j i ≡ false
unlike i j d = ne_eqb j i (λ e. d (sym e))

-- the lines after a change at each written place
pub length_each : (f : ℕ → ℕ → Line → Line) (ws : List (ℕ × ℕ)) (lines : List Line) → length (each f ws lines) ≡ length lines
length_each f [] lines = refl
length_each f (w ∷ ws) lines = length_each f ws (slice_set lines w.0 (f w.0 w.1 (line_of lines w.0))) ∙ length-set lines w.0 (f w.0 w.1 (line_of lines w.0))

abbrev pub changed : Option ℕ → (ℕ → Line → Line) → Line → Line
changed None f l = l
changed (Some v) f l = f v l

each_by : (f : ℕ → ℕ → Line → Line) (w : ℕ × ℕ) (ws : List (ℕ × ℕ)) (lines : List Line) (q : ℕ) → write_of w.0 ws ≡ None → w.0 < length lines →
    changed (write_of q ws) (f q) (line_of (slice_set lines w.0 (f w.0 w.1 (line_of lines w.0))) q) ≡ changed (write_of q (w ∷ ws)) (f q) (line_of lines q)
each_by f w ws lines q n h = by_number (λ q. changed (write_of q ws) (f q) (line_of (slice_set lines w.0 (f w.0 w.1 (line_of lines w.0))) q) ≡ changed (write_of q (w ∷ ws)) (f q) (line_of lines q)) w.0
    (ap (λ o. changed o (f w.0) (line_of (slice_set lines w.0 (f w.0 w.1 (line_of lines w.0))) w.0)) n
    ∙ (get_or-set_same lines w.0 (f w.0 w.1 (line_of lines w.0)) no_line h
    ∙ sym (ap (λ b. changed (either b (Some w.1) (write_of w.0 ws)) (f w.0) (line_of lines w.0)) (number_itself w.0))))
    (λ i d. ap (λ l. changed (write_of i ws) (f i) l) (get_or-set_other lines w.0 i (f w.0 w.1 (line_of lines w.0)) no_line d)
    ∙ sym (ap (λ b. changed (either b (Some w.1) (write_of i ws)) (f i) (line_of lines i)) (unlike i w.0 d)))
    q

pub each_at : (f : ℕ → ℕ → Line → Line) (ws : List (ℕ × ℕ)) (lines : List Line) (q : ℕ) → AreWrites (length lines) ws →
    line_of (each f ws lines) q ≡ changed (write_of q ws) (f q) (line_of lines q)
each_at f [] lines q fit = refl
each_at f (w ∷ ws) lines q fit =
    let next : List Line = slice_set lines w.0 (f w.0 w.1 (line_of lines w.0)) in
    each_at f ws next q (subst (λ n. AreWrites n ws) (sym (length-set lines w.0 (f w.0 w.1 (line_of lines w.0)))) fit.2) ∙ each_by f w ws lines q fit.1 fit.0

-- committed values stay where a change leaves them
pub committed_kept : (f : ℕ → ℕ → Line → Line) (ws : List (ℕ × ℕ)) (lines : List Line) (shared : List ℕ) → AreWrites (length lines) ws → ((q v : ℕ) (l : Line) → (f q v l).committed ≡ l.committed) → AreCommitted lines shared → AreCommitted (each f ws lines) shared
committed_kept f ws lines shared fit keeps h q k = ap (λ (l : Line). l.committed) (each_at f ws lines q fit) ∙ (stays (write_of q ws) (line_of lines q) ∙ h q (subst (λ (n : ℕ). q < n) (length_each f ws lines) k))
  where
    stays : (o : Option ℕ) (l : Line) → (changed o (f q) l).committed ≡ l.committed
    stays None l = refl
    stays (Some v) l = keeps q v l

-- and become those that are then committed
pub committed_new : (ws : List (ℕ × ℕ)) (lines : List Line) (old new : List ℕ) → AreWrites (length lines) ws → ((q : ℕ) → write_of q ws ≡ None → slice_index new q ≡ slice_index old q) → AreCommitted lines old → AreCommitted (each (commit new) ws lines) new
committed_new ws lines old new fit frame h q k = ap (λ (l : Line). l.committed) (each_at (commit new) ws lines q fit) ∙ by_write (write_of q ws) refl
  where
    by_write : (o : Option ℕ) → write_of q ws ≡ o → (changed o (commit new q) (line_of lines q)).committed ≡ slice_index new q
    by_write None e = h q (subst (λ (n : ℕ). q < n) (length_each (commit new) ws lines) k) ∙ sym (frame q e)
    by_write (Some v) e = refl
