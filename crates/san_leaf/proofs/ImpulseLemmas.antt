-- Impulses of a completion, recorded one after another.
use Rattle.std.proofs.Common.{ℕ, ℤ, ◌≡◌, ◌∙◌, ◌++◌, ◌∷◌, [], ap, sym, refl, subst, Bool, true, false, nat_eq, List, Result, Ok}
use Rattle.san_base.specs.declared.ending.Trap.{Trap}
use Rattle.san_expr.specs.View.{ViewState}
use Rattle.san_base.specs.Rated.{rated_by}
use Rattle.san_expr.specs.Meaning.{settled}
use Rattle.san_expr.specs.Meets.{Evaluates}
use Rattle.san_expr.specs.Value.{value_of}
use Rattle.san_expr.proofs.ComposeLemmas.{evaluates_settled, evaluates_then}
use Rattle.san_law.specs.Net.{Impulse}
use Rattle.san_net.proofs.FirstLemmas.{evaluates_attempt}
use Rattle.san_net.specs.First.{attempt}
use Rattle.san_net.specs.declared.atomic.ImpulseTerm.{ImpulseTerm}
use Rattle.std.proofs.lemmas.List.{append_assoc}
use Rattle.san_leaf.specs.Blocks.{and_impulses, impulse_of, impulses_by, impulses_of}
use Rattle.san_leaf.specs.inner.Recorded.{Recorded, with_impulse, with_impulses}
use Rattle.san_leaf.specs.inner.Impulses.{Records}

-- a term's impulse, as it was recorded
impulse_recorded : (old new : ViewState) (t : ImpulseTerm) (r : Result ℤ Trap) → Evaluates old new (value_of t.expr) r → Evaluates old new (impulse_of t) (Ok (record { reward = t.reward; rated = rated_by r }))
impulse_recorded old new t r p = evaluates_then old new new (attempt (value_of t.expr)) (λ x. settled (Ok (record { reward = t.reward; rated = rated_by x }))) r _ (evaluates_attempt old new (value_of t.expr) r p) (evaluates_settled new _)

module _ (act : ℕ) where
  -- what the rest of the terms records from here on, all of them record from the start
  abbrev pub Stands : Recorded → Recorded → ViewState → ViewState → List ImpulseTerm → List ImpulseTerm → Type 0
  Stands was now old new terms rest = (after : Recorded) (next : ViewState) → Records now after new next act rest → Records was after old next act terms

  pub stands_end : (was now : Recorded) (old new : ViewState) (terms rest : List ImpulseTerm) → Stands was now old new terms rest → rest ≡ [] → Records was now old new act terms
  stands_end was now old new terms rest stands none =
      stands now new ([], ap (λ xs. record { completions = now.completions; pending = xs }) (sym (append_none now.pending)), subst (λ (ts : List ImpulseTerm). Evaluates new new (impulses_of act ts) (Ok [])) (sym none) (evaluates_settled new (Ok [])))
    where
      append_none : (xs : List Impulse) → xs ++ [] ≡ xs
      append_none [] = refl
      append_none (x ∷ xs) = ap (λ (ys : List Impulse). x ∷ ys) (append_none xs)

  -- a term of another activity
  pub stands_past : (was now : Recorded) (old new : ViewState) (terms rest : List ImpulseTerm) (t : ImpulseTerm) → Stands was now old new terms (t ∷ rest) → nat_eq t.act act ≡ false → Stands was now old new terms rest
  stands_past was now old new terms rest t stands other after next (xs, recorded, p) =
      stands after next (xs, recorded, subst (λ (b : Bool). Evaluates new next (impulses_by b t (impulses_of act rest)) (Ok xs)) (sym other) p)

  -- a term of this one
  pub stands_more : (was now then : Recorded) (old new mid : ViewState) (terms rest : List ImpulseTerm) (t : ImpulseTerm) (r : Result ℤ Trap) → Stands was now old new terms (t ∷ rest) → nat_eq t.act act ≡ true
      → Evaluates new mid (value_of t.expr) r → then ≡ with_impulse now (record { reward = t.reward; rated = rated_by r }) → Stands was then old mid terms rest
  stands_more was now then old new mid terms rest t r stands same p is after next (xs, recorded, q) =
      let x : Impulse = record { reward = t.reward; rated = rated_by r } in
      stands after next (
        x ∷ xs,
        recorded ∙ ap (λ (k : Recorded). with_impulses k xs) is ∙ ap (λ ys. record { completions = now.completions; pending = ys }) (append_assoc now.pending (x ∷ []) xs),
        subst (λ (b : Bool). Evaluates new next (impulses_by b t (impulses_of act rest)) (Ok (x ∷ xs))) (sym same)
            (evaluates_then new mid next (impulse_of t) (and_impulses (impulses_of act rest)) x (Ok (x ∷ xs)) (impulse_recorded new mid t r p)
            (evaluates_then mid next next (impulses_of act rest) (λ ys. settled (Ok (x ∷ ys))) xs (Ok (x ∷ xs)) q (evaluates_settled next (Ok (x ∷ xs))))),
      )
