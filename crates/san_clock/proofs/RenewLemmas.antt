-- A leaf's renewal, by the clocks of its activities.
use Rattle.std.proofs.Common.{ℕ, suc, ◌+◌, ◌*◌, ◌≡◌, ◌∙◌, ap, sym, refl, subst, IsTrue, List, [], ◌∷◌, length, Option, Result, Ok, Err, slice_index_or}
use Rattle.san_base.specs.declared.ending.Trap.{Trap}
use Rattle.san_clock.specs.Rows.{renewing_by}
use Rattle.san_clock.specs.inner.Renewals.{ArePlaced, clocks_by, renewed_named}
use Rattle.san_clock.proofs.RenewalLemmas.{by_kind}
use Rattle.san_law.specs.Clocks as law
use Rattle.san_law.specs.Net as net
use Rattle.san_net.specs.Accepted.{IsAccepted}
use Rattle.san_net.specs.Below.{activity_below}
use Rattle.san_net.specs.Instants.{Named}
use Rattle.san_net.specs.Leaf.{activities_from, activity_in, kind_in, leaf_of}
use Rattle.san_net.specs.declared.atomic.ImpulseTerm.{ImpulseTerm}
use Rattle.san_net.specs.declared.part.Part.{Part}

-- an accepted leaf's activities name its own cells
pub placed : (p : Part) (n : ℕ) → IsAccepted p.atomic → n ≡ length p.atomic.initial → ArePlaced n p.atomic.acts
placed p n accepted is = λ k d h.
    let a = accepted.activities k d h in
    record { kind = a.kind; places = subst (λ (m : ℕ). IsTrue (activity_below (slice_index_or p.atomic.acts k d).1 m)) (sym is) a.places }

-- a renewal doesn't look at impulses
terms_free : (draws : ℕ → ℕ → ℕ) (time : ℕ) (seen values : List ℕ) (terms : List ImpulseTerm) (k : ℕ) (acts : List Named) (ts : List (Option net.Timer)) (ns : List ℕ)
    → law.renewed_acts draws time seen values k (activities_from [] k acts) ts ns ≡ law.renewed_acts draws time seen values k (activities_from terms k acts) ts ns
terms_free draws time seen values terms k [] ts ns = refl
terms_free draws time seen values terms k (a ∷ acts) [] ns = refl
terms_free draws time seen values terms k (a ∷ acts) (t ∷ ts) [] = refl
terms_free draws time seen values terms k (a ∷ acts) (t ∷ ts) (n ∷ ns) =
    let one : Result law.Clock Trap = law.renewed_act (draws k) time seen values (activity_in terms k a.1) (kind_in a.1.kind) t n in
    ap (λ r. law.clock_then k r (law.renewed_acts draws time seen values (suc k) (activities_from [] (suc k) acts) ts ns))
    (sym (by_kind (draws k) time seen values [] k a.1 t n a.1.kind) ∙ by_kind (draws k) time seen values terms k a.1 t n a.1.kind)
    ∙ ap (law.clock_then k one) (terms_free draws time seen values terms (suc k) acts ts ns)

by_clocks : (r : Result (Unit {0}) (ℕ × Trap)) (ts : List (Option net.Timer)) (ns cases : List ℕ)
    → renewing_by r (record { timers = ts; delays = ns; cases = cases }) ≡ law.row_of_clocks cases (clocks_by r ts ns)
by_clocks (Ok done) ts ns cases = refl
by_clocks (Err fault) ts ns cases = refl

-- a leaf's row, by the clocks of its activities
pub row_is : (p : Part) (draw : ℕ → ℕ → ℕ) (time : ℕ) (seen values : List ℕ) (row : net.Row) (r : Result (Unit {0}) (ℕ × Trap)) (acts : List Named) (old now : List (Option net.Timer)) (ns0 ns1 cases : List ℕ)
    → acts ≡ p.atomic.acts → (let left : net.Row = record { timers = old; delays = ns0; cases = cases } in left) ≡ row
    → clocks_by r now ns1 ≡ renewed_named draw p.first.0 time seen values 0 acts old ns0
    → renewing_by r (record { timers = now; delays = ns1; cases = cases }) ≡ law.renewed_row draw (leaf_of p) time seen (record { values = values; row = row })
row_is p draw time seen values row r acts old now ns0 ns1 cases same is clocks =
    by_clocks r now ns1 cases
    ∙ ap (law.row_of_clocks cases)
    (clocks ∙ ap (λ (xs : List Named). renewed_named draw p.first.0 time seen values 0 xs old ns0) same
    ∙ terms_free (λ k. draw (2 * (p.first.0 + k))) time seen values p.atomic.impulses 0 p.atomic.acts old ns0)
    ∙ ap (λ (x : net.Row). law.renewed_row draw (leaf_of p) time seen (record { values = values; row = x })) is
