-- How many leaves and workers a core has stays as it is.
use Rattle.std.proofs.Common.{◌≡◌, ap, refl, List, [], ◌∷◌, ◌++◌, length, take, Option, Some, None}
use Rattle.std.specs.Prelude.{slice_index}
use Rattle.std.proofs.lemmas.List.{length-set}
use Rattle.san_base.specs.declared.limits.Limits.{Limits}
use Rattle.san_log.specs.Logs.{noted}
use Rattle.san_book.specs.Machines.{Machine}
use Rattle.san_book.specs.Chains.{chain_of}
use Rattle.san_book.specs.Cores.{Commit, Core, Pending, Step}
use Rattle.san_book.specs.Steps.{all_committed, happens}
use Rattle.san_book.specs.Journals.{booked, stepped}
use Rattle.san_book.specs.Laws.{After}
use Rattle.san_book.proofs.Afters.{after_booked, after_map}
use Rattle.san_book.proofs.Counting.{Committed, commits_change, redo_changes}
use Rattle.san_book.proofs.Walking.{Handles, handled}

pub record SameSizes {H P : Type 0} (c d : Core H P) : Type 0 where
  pub leaves : length d.chains ≡ length c.chains
  pub workers : length d.claims ≡ length c.claims

module _ {H S P : Type 0} (m : Machine H S P) (limits : Limits) (c : Core H P) where
  sizes : Handles m limits c (λ s d. SameSizes c (booked s d))
  sizes = record {
    claim = λ w j may free. record { leaves = refl; workers = length-set c.claims w (Some (record { leaf = j; log = [] })) };
    read = λ w place v p e. record { leaves = refl; workers = length-set c.claims w (Some (record { leaf = p.leaf; log = noted place v p.log })) };
    publish = λ w kind time p k x e made. record { leaves = length-set c.chains p.leaf (chain_of c.chains p.leaf ++ (slice_index c.counters p.leaf, x) ∷ []); workers = length-set c.claims w None };
    late = λ w p e. record { leaves = refl; workers = length-set c.claims w None };
    cut = λ w j k l. record { leaves = length-set c.chains j (take k (chain_of c.chains j)); workers = refl };
    commit = λ w n l. after_map (Committed c n 0) (λ d. SameSizes c (booked (Commit w n) d)) (all_committed m limits n c)
        (λ d r. record { leaves = r.leaves; workers = ap (λ (os : List (Option Pending)). length os) r.claims }) (commits_change m limits c n);
    redo = λ w j kind time g need. let r = redo_changes m c j kind time (m.needed c.held j kind time) in record { leaves = r.leaves; workers = ap (λ (os : List (Option Pending)). length os) r.claims };
  }

pub sizes_stay : {H S P : Type 0} (m : Machine H S P) (limits : Limits) (c : Core H P) (s : Step) → After (SameSizes c) (stepped m limits s c)
sizes_stay m limits c s = after_booked (SameSizes c) s (happens m limits s c) (handled m limits c (λ s d. SameSizes c (booked s d)) (sizes m limits c) s)
