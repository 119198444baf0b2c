-- The renewal of the rows of all leaves, one after another.
use Rattle.std.proofs.Common.{ℕ, zero, suc, ◌+◌, ◌<◌, ◌≤◌, ◌≡◌, ◌≢◌, ◌∙◌, ap, sym, refl, subst, arith, List, [], ◌∷◌, length, Some, All, slice_index_or, slice_set, ◌⊎◌, inl, inr}
use Rattle.std.specs.Prelude.{slice_get}
use Rattle.std.proofs.lemmas.Bool.{cases_eq}
use Rattle.std.proofs.lemmas.List.{get_or-set_same, get_or-set_other}
use Rattle.san_law.specs.Clocks.{renewed_row}
use Rattle.san_law.specs.Net.{Row, no_row}
use Rattle.san_law.specs.Network as law
use Rattle.san_law.specs.Renewal.{renewed_at}
use Rattle.san_law.specs.State.{State, gather}
use Rattle.san_net.specs.Laid.{places_of}
use Rattle.san_net.specs.Network.{Network, net_of, network_in}
use Rattle.san_net.specs.declared.part.Part.{Part}
use Rattle.san_seq.specs.inner.Renewals.{renewed_part}
use Rattle.san_seq.specs.inner.Rows.{AreDrawn, AreRows, IsLike, row_at}
use Rattle.san_net.proofs.PartLemmas.{part_is, places_are}

-- a part's renewal is its leaf's in the network
pub part_renewed : (n : Network) (draw : ℕ → ℕ → ℕ) (limits : law.Limits) (s : State) (j : ℕ) (p : Part) (time : ℕ) (stable m : List ℕ) (r : Row)
    → slice_get n.parts j ≡ Some p → s.time ≡ time → s.stable ≡ stable → s.marking ≡ m
    → renewed_part draw p time stable m r ≡ renewed_at (net_of n draw limits) s j r
part_renewed n draw limits s j p time stable m r is clock seen now =
    let part = sym (part_is n j p is) in
    let places = sym (places_are n j p is draw limits) in
    ap (λ (q : Rattle.san_law.specs.Activity.Part). renewed_row draw q time (gather (places_of p) stable) (record { values = gather (places_of p) m; row = r })) part
    ∙ ap (λ (ps : List ℕ). renewed_row draw (law.part_at (network_in n) j) time (gather ps stable) (record { values = gather ps m; row = r })) places
    ∙ ap (λ (t : ℕ). renewed_row draw (law.part_at (network_in n) j) t (gather (Rattle.san_law.specs.State.slots_of (net_of n draw limits) j) stable) (record { values = gather (Rattle.san_law.specs.State.slots_of (net_of n draw limits) j) m; row = r })) (sym clock)
    ∙ ap (λ (x : List ℕ). renewed_row draw (law.part_at (network_in n) j) s.time (gather (Rattle.san_law.specs.State.slots_of (net_of n draw limits) j) x) (record { values = gather (Rattle.san_law.specs.State.slots_of (net_of n draw limits) j) m; row = r })) (sym seen)
    ∙ ap (λ (x : List ℕ). renewed_row draw (law.part_at (network_in n) j) s.time (gather (Rattle.san_law.specs.State.slots_of (net_of n draw limits) j) s.stable) (record { values = gather (Rattle.san_law.specs.State.slots_of (net_of n draw limits) j) x; row = r })) (sym now)

pub any_row : (rows : List Row) (j : ℕ) (d e : Row) → j < length rows → slice_index_or rows j d ≡ slice_index_or rows j e
any_row [] j d e h = absurd (omega (arith, h))
any_row (r ∷ rs) zero d e h = refl
any_row (r ∷ rs) (suc j) d e h = any_row rs j d e (omega (arith, h))

module _ (old now : List Row) (j : ℕ) (r d new : Row) (h : j < length now) (is : r ≡ slice_index_or now j d) (left : row_at now j ≡ row_at old j) where
  was : row_at old j ≡ r
  was = sym left ∙ any_row now j no_row d h ∙ sym is

  pub drawn_set : (most : ℕ) → AreDrawn most old → AreDrawn (most + 1) now → (All (λ n. n ≤ most) r.delays → All (λ n. n ≤ most + 1) new.delays) → AreDrawn (most + 1) (slice_set now j new)
  drawn_set most before after more i = by_case (cases_eq i j)
    where
      by_case : (i ≡ j) ⊎ (i ≢ j) → All (λ n. n ≤ most + 1) (row_at (slice_set now j new) i).delays
      by_case (inl e) =
          subst (λ (x : Row). All (λ n. n ≤ most + 1) x.delays) (sym (ap (row_at (slice_set now j new)) e ∙ get_or-set_same now j new no_row h))
          (more (subst (λ (x : Row). All (λ n. n ≤ most) x.delays) was (before j)))
      by_case (inr n) = subst (λ (x : Row). All (λ n. n ≤ most + 1) x.delays) (sym (get_or-set_other now j i new no_row n)) (after i)

  pub like_set : ((i : ℕ) → IsLike (row_at now i) (row_at old i)) → IsLike new r → (i : ℕ) → IsLike (row_at (slice_set now j new) i) (row_at old i)
  like_set before here i = by_case (cases_eq i j)
    where
      by_case : (i ≡ j) ⊎ (i ≢ j) → IsLike (row_at (slice_set now j new) i) (row_at old i)
      by_case (inl e) =
          subst (λ (x : Row). IsLike x (row_at old i)) (sym (ap (row_at (slice_set now j new)) e ∙ get_or-set_same now j new no_row h))
          (subst (λ (x : Row). IsLike new x) (sym (ap (row_at old) e ∙ was)) here)
      by_case (inr n) = subst (λ (x : Row). IsLike x (row_at old i)) (sym (get_or-set_other now j i new no_row n)) (before i)

-- rows that are like those of a network's leaves are such too
pub rows_like : (parts : List Part) (old now : List Row) → AreRows parts old → length now ≡ length old → ((j : ℕ) → IsLike (row_at now j) (row_at old j)) → AreRows parts now
rows_like parts old now are sized like = record {
  each = sized ∙ are.each;
  fit = λ j p is. (let was = are.fit j p is in let now_like = like j in record { timers = now_like.timers ∙ was.timers; delays = now_like.delays ∙ was.delays; cases = ap length now_like.cases ∙ was.cases });
}
