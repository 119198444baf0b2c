use Rattle.std.proofs.Common.{◌≡◌, ◌∙◌, ◌+◌, drop, subst, ap, sym, List}
use Rattle.std.proofs.lemmas.List.{drop_all}
use Rattle.std.proofs.Common.{ℕ, ◌≢◌, nat_eq, true, false, length}
use Rattle.std.proofs.lemmas.Bool.{eq-eqb, ne_eqb}
use Rattle.san_base.specs.Rated.{rated_by}
use Rattle.san_expr.specs.Meets.{Evaluates}
use Rattle.san_expr.specs.Value.{value_of}
use Rattle.san_leaf.specs.inner.Recorded.{Recorded, with_impulse}
use Rattle.san_net.proofs.TurnLemmas.{rest_at}
use Rattle.san_net.specs.declared.atomic.ImpulseTerm.{ImpulseTerm}
use Rattle.san_leaf.specs.inner.ViewStates.{Seeing, kept_of, view_state_of}
use Rattle.san_leaf.proofs.ImpulseLemmas.{Stands, stands_end, stands_more, stands_past}
use Rattle.san_leaf.proofs.completion.record_impulses.Goals.{then-term-act+in_ok-impulse, else-term-act}
use Rattle.san_leaf.proofs.completion.record_impulses.Goals as goal

pub loop-at-preserved : goal.loop-at-preserved
loop-at-preserved g c =
    let terms = c.args.terms.now in
    let act = c.args.act in
    let i = c.loop-at.invariant in
    let t = c.index-terms-at.result in
    let rest : List ImpulseTerm = drop (c.loop-at.at + 1) terms in
    let at = rest_at terms c.loop-at.at t c.loop-at-test.true c.index-terms-at.is in
    let stands = subst (Stands act c.args.recorder.now c.loop-at.recorder (view_state_of c.args.view.now) (view_state_of c.loop-at.view) terms) at i.stands in
    elim c.if-term-act.branch [
      | then-term-act+in_ok-impulse w ↦
          let meets = subst (λ (v : Seeing). Evaluates (view_state_of c.loop-at.view) (view_state_of v) (value_of t.expr) w.eval.result) (sym w.view-is) w.eval.ensures in
          let recorded : c.if-term-act.recorder ≡ with_impulse c.loop-at.recorder (record { reward = t.reward; rated = rated_by w.eval.result }) =
          w.recorder-is ∙ w.in_ok-impulse.ensures ∙ ap (λ r. with_impulse c.loop-at.recorder (record { reward = t.reward; rated = r })) w.rated-rated.ensures in
          record {
            stands = stands_more act c.args.recorder.now c.loop-at.recorder c.if-term-act.recorder (view_state_of c.args.view.now) (view_state_of c.loop-at.view) (view_state_of c.if-term-act.view) terms rest t w.eval.result stands (is_same t act w.if-term-act.true) meets recorded;
            kept = meets.meets.kept ∙ i.kept;
            places = meets.meets.places ∙ i.places;
          }
      | else-term-act w ↦ record {
        stands = subst (λ (k : Recorded). Stands act c.args.recorder.now k (view_state_of c.args.view.now) (view_state_of c.if-term-act.view) terms rest) (sym w.recorder-is)
            (subst (λ (v : Seeing). Stands act c.args.recorder.now c.loop-at.recorder (view_state_of c.args.view.now) (view_state_of v) terms rest) (sym w.view-is)
            (stands_past act c.args.recorder.now c.loop-at.recorder (view_state_of c.args.view.now) (view_state_of c.loop-at.view) terms rest t stands (not_same t act w.if-term-act.false)));
        kept = ap kept_of w.view-is ∙ i.kept;
        places = ap (λ (v : Seeing). length v.places) w.view-is ∙ i.places;
      }
    ]
  where
    is_same : (t : ImpulseTerm) (act : ℕ) → t.act ≡ act → nat_eq t.act act ≡ true
    is_same t act e = eq-eqb t.act act e

    not_same : (t : ImpulseTerm) (act : ℕ) → (t.act ≢ act) → nat_eq t.act act ≡ false
    not_same t act n = ne_eqb t.act act n

pub returns-clause-recorded : goal.returns-clause-recorded
returns-clause-recorded g c =
    let terms = c.args.terms.now in
    stands_end c.args.act c.args.recorder.now c.loop-at.recorder (view_state_of c.args.view.now) (view_state_of c.loop-at.view) terms (drop c.loop-at.at terms) c.loop-at.invariant.stands (drop_all c.loop-at.at terms c.loop-at-test.false)
