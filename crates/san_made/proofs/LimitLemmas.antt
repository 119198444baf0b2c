-- A composition of few leaves that are small keeps the limits of a network.
use Rattle.std.proofs.Common.{◌≡◌, ℕ, ◌+◌, ◌*◌, ◌≤◌, Bool, true, false, nat_lt, if◌then◌else◌, List, [], ◌∷◌, ◌++◌, length, fold, None, refl, arith}
use Rattle.std.specs.List.{list_any}
use Rattle.std.proofs.lemmas.Bool.Decides.{nat_tests}
use Rattle.std.proofs.lemmas.List.{length-append, length-map}
use Rattle.std.proofs.lemmas.List.Sums.{sum_by-cons}
use Rattle.san_base.specs.declared.limits.TheConstants.{MAX_ACTS, MAX_LEAVES, MAX_PLACES}
use Rattle.san_flat.specs.Homes.{CellHome, cells_at, home_of, homes_in, same}
use Rattle.san_flat.specs.Networks.{Composition, acts_among, atomic_at, count_of_acts, count_of_leaves, count_of_places, homes_among, leaves_in}
use Rattle.san_net.specs.Numbering.{added}
use Rattle.san_serve.specs.Accepted.{limit_code, limit_of}
use Rattle.san_check.specs.walk.Entries.{◌else◌}
use Rattle.san_tree.specs.declared.instance.Instance.{Instance}

-- no more different homes than homes
one_added : (b : Bool) (ks : List CellHome) (h : CellHome) → length (if b then ks else ks ++ h ∷ []) ≤ length ks + 1
one_added true ks h = omega arith
one_added false ks h = let more = length-append ks (h ∷ []) in omega (arith, more)

added_few : (xs ks : List CellHome) → length (fold (added same) ks xs) ≤ length ks + length xs
added_few [] ks = omega arith
added_few (x ∷ xs) ks =
    let rest = added_few xs (added same ks x) in
    let one = one_added (list_any (same x) ks) ks x in
    omega (arith, rest, one)

-- of leaves that have at most three cells each
homes_few : (c : Composition) → ((a : ℕ) → length (cells_at c.cells a) ≤ 3) → (leaves : List Instance) → length (homes_among c leaves) ≤ 3 * length leaves
homes_few c few [] = omega arith
homes_few c few (i ∷ is) =
    let rest = homes_few c few is in
    let row = homes_in c.nodes c.root c.cells i in
    let more = length-append row (homes_among c is) in
    let long = length-map (cells_at c.cells i.atomic) (home_of c.nodes c.root i.path) in
    let own = few i.atomic in
    omega (arith, rest, more, long, own)

-- of leaves that have at most two activities each
acts_few : (c : Composition) → ((a : ℕ) → length (atomic_at c.atomics a).acts ≤ 2) → (leaves : List Instance) → acts_among c leaves ≤ 2 * length leaves
acts_few c few [] = omega arith
acts_few c few (i ∷ is) =
    let rest = acts_few c few is in
    let more = sum_by-cons (λ (j : Instance). length (atomic_at c.atomics j.atomic).acts) i is in
    let own = few i.atomic in
    omega (arith, rest, more, own)

by_tests : (leaves places acts : ℕ) → leaves ≤ 1025 → places ≤ 3075 → acts ≤ 2050 → limit_code leaves places acts ≡ None
by_tests leaves places acts l p a =
    let x : nat_lt MAX_LEAVES leaves ≡ false = grind (arith, nat_tests) in
    let y : nat_lt MAX_PLACES places ≡ false = grind (arith, nat_tests) in
    let z : nat_lt MAX_ACTS acts ≡ false = grind (arith, nat_tests) in
    rw (x, y, z) refl

-- a composition of few leaves, each with at most three cells and two activities
pub within_limits : (c : Composition) → count_of_leaves c ≤ 1025 → ((a : ℕ) → length (cells_at c.cells a) ≤ 3) → ((a : ℕ) → length (atomic_at c.atomics a).acts ≤ 2) → limit_of c ≡ None
within_limits c few cells acts =
    let homes = homes_few c cells (leaves_in c) in
    let places = added_few (homes_among c (leaves_in c)) [] in
    let all = acts_few c acts (leaves_in c) in
    by_tests (count_of_leaves c) (count_of_places c) (count_of_acts c) few (omega (arith, homes, places, few)) (omega (arith, all, few))
