-- A cut in code is a cut of the book.
use Rattle.std.proofs.Common.{ℕ, suc, zero, ◌+◌, ◌<◌, ◌≤◌, ◌≡◌, ◌∙◌, ap, sym, subst, refl, add-one, arith, List, [], ◌∷◌, ◌++◌, length, map, take, Option, Some, None, Ok}
use Rattle.std.proofs.lemmas.List.{get_or-set_same, length-take-le, map_push}
use Rattle.san_base.specs.declared.numbers.LeafId.{LeafId}
use Rattle.san_book.specs.Chains.{AllFit, Chain, chain_of, current}
use Rattle.san_book.specs.Cores as book
use Rattle.san_book.specs.Journals.{stepped}
use Rattle.san_ahead.specs.Ahead.{AheadValue, cut_from}
use Rattle.san_core.specs.Machines.{FollowsRun, MachineValue, core_in}
use Rattle.san_decide.specs.Booked.{of_piece}
use Rattle.san_law.specs.Core as law
use Rattle.san_leaf.specs.Pieces.{PieceValue}
use Rattle.san_speculation.specs.CoreCalls.{CutBy, Leaves, Stays, ahead_of}
use Rattle.san_speculation.specs.Speculating.{CoreValue, IsReplayed, book_in, claim_in, core_by, step_in}
use Rattle.san_speculation.specs.declared.step.Step.{Step}
use Rattle.san_speculation.specs.declared.step.Step.TheVariants as step
use Rattle.san_speculation.proofs.Keeping.{keeps_the_law}
use Rattle.san_speculation.proofs.Runs.{cut_happens, cut_refused}
use Rattle.san_speculation.proofs.Speculated.{IsRun}

chain_beyond : (cs : List (Chain PieceValue)) (j : ℕ) → length cs ≤ j → chain_of cs j ≡ []
chain_beyond [] j l = refl
chain_beyond (c ∷ cs) zero l = absurd (omega (arith, l))
chain_beyond (c ∷ cs) (suc j) l = chain_beyond cs j (omega (arith, l))

-- the pieces of a chain write what fits
pub all_fit : (v : CoreValue) → FollowsRun v.machine → IsRun v.machine.network → IsReplayed v → (a : AheadValue) → v.book.lines ≡ a.lines → v.book.chains ≡ a.chains → (j : ℕ) → AllFit of_piece (length a.lines) (chain_of a.chains j)
all_fit v follows run r a lines chains j =
    let whole = (keeps_the_law v follows run r).core.whole in
    subst (λ (xs : List (Chain PieceValue)). AllFit of_piece (length a.lines) (chain_of xs j)) chains
    (subst (λ (n : ℕ). AllFit of_piece n (chain_of v.book.chains j)) (sym whole.lines ∙ ap length lines) (whole.chains j).fit)

module _ (m : MachineValue) (a : AheadValue) (os : List (Option LeafId)) (js : List Step) (r : ℕ) where
  abbrev old : CoreValue
  old = core_by m a os js r

  abbrev with_steps : AheadValue → List book.Step → ℕ → book.Core law.Core PieceValue
  with_steps b steps n = record { held = core_in m; chains = b.chains; counters = b.counters; lines = b.lines; claims = map claim_in os; journal = steps; rollbacks = n; taken = m.taken }

  -- the pieces from one on are cut off
  pub cut_is : (w k : ℕ) (leaf : LeafId) (b : AheadValue) (steps : List Step) (n : ℕ) → k ≡ current of_piece a.lines leaf.0 (chain_of a.chains leaf.0) → k < length (chain_of a.chains leaf.0) → b ≡ cut_from a leaf.0 k → steps ≡ js ++ step.Cut w leaf ∷ [] → n ≡ r + 1
      → stepped (book_in m) m.limits (book.Cut w leaf.0) old.book ≡ Some (core_by m b os steps n).book
  cut_is w k leaf b steps n count short cut booked more =
      cut_happens (book_in m) m.limits old.book w leaf.0 k (sym count) short
      ∙ (ap (λ (x : AheadValue). Some (with_steps x (map step_in js ++ book.Cut w leaf.0 ∷ []) (suc r))) (sym cut)
      ∙ (ap (λ (xs : List book.Step). Some (with_steps b xs (suc r))) (sym (ap (map step_in) booked ∙ map_push step_in js (step.Cut w leaf)))
      ∙ ap (λ (x : ℕ). Some (with_steps b (map step_in steps) x)) (sym (more ∙ add-one r))))

  -- that many go
  pub cut_count : (k : ℕ) (leaf : LeafId) (b : AheadValue) → leaf.0 < length a.chains → k ≤ length (chain_of a.chains leaf.0) → b ≡ cut_from a leaf.0 k → length (chain_of b.chains leaf.0) ≡ k
  cut_count k leaf b l short cut =
      ap (λ (x : AheadValue). length (chain_of x.chains leaf.0)) cut
      ∙ (ap (λ (xs : Chain PieceValue). length xs) (get_or-set_same a.chains leaf.0 (take k (chain_of a.chains leaf.0)) [] l) ∙ length-take-le k (chain_of a.chains leaf.0) short)

  -- where there is no such leaf, or all its pieces are current, there is none
  pub cut_nowhere : (w j : ℕ) → length a.chains ≤ j → stepped (book_in m) m.limits (book.Cut w j) old.book ≡ None
  cut_nowhere w j l =
      let here = chain_beyond a.chains j l in
      cut_refused (book_in m) m.limits old.book w j (current of_piece a.lines j (chain_of a.chains j)) refl (subst (λ (xs : Chain PieceValue). length xs ≤ current of_piece a.lines j xs) (sym here) (omega arith))

  pub cut_nothing : (w j k : ℕ) → k ≡ current of_piece a.lines j (chain_of a.chains j) → length (chain_of a.chains j) ≤ k → stepped (book_in m) m.limits (book.Cut w j) old.book ≡ None
  cut_nothing w j k count long = cut_refused (book_in m) m.limits old.book w j k (sym count) long

-- by how many went
pub cut_by_some : (old new : CoreValue) (w j n : ℕ) → 0 < n → Leaves old (book.Cut w j) new → ahead_of old j ≡ ahead_of new j + n → CutBy old w j new (Ok n)
cut_by_some old new w j zero l leaves count = absurd (omega (arith, l))
cut_by_some old new w j (suc n) l leaves count = (leaves, count)

pub cut_by_none : (old new : CoreValue) (w j n : ℕ) → n ≡ 0 → Stays old (book.Cut w j) new → CutBy old w j new (Ok n)
cut_by_none old new w j zero l stays = stays
cut_by_none old new w j (suc n) l stays = absurd (omega (arith, l))
