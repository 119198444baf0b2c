use Rattle.std.proofs.Common.{◌∙◌, ◌+◌, ◌*◌, ◌≡◌, ap, sym, subst, IsTrue, List, ℕ, Result, length, slice_index_or}
use Rattle.std.specs.Prelude.{slice_index}
use Rattle.std.proofs.lemmas.Option.{get_or_from_slice_get}
use Rattle.san_base.specs.declared.ending.Trap.{Trap}
use Rattle.san_draw.specs.Key.{draw_of}
use Rattle.san_expr.specs.Meets.{Meets}
use Rattle.san_expr.specs.View.{ViewState}
use Rattle.san_net.specs.Below.{activity_below}
use Rattle.san_net.specs.Completion.{completion_of}
use Rattle.san_net.specs.Instants.{Named}
use Rattle.san_net.specs.declared.atomic.Atomic.{Atomic}
use Rattle.san_clock.proofs.CaseLemmas.{drawn_or_one}
use Rattle.san_clock.proofs.completion.complete_act.Goals as goal

pub complete-case-requires-clause-places : goal.complete-case-requires-clause-places
complete-case-requires-clause-places g c =
    let atomic = c.args.part.now.atomic in
    let k = c.args.act in
    let d = c.index-acts-act.result in
    let acts = c.as_slice-acts.ensures ∙ ap (λ (b : Atomic). b.acts) c.get.ensures in
    let below = (c.requires.accepted.activities k d c.requires.act).places in
    subst (λ (n : ℕ). IsTrue (activity_below (slice_index_or c.as_slice-acts.result.now k d).1 n)) (sym c.requires.cells)
    (subst (λ (xs : List Named). IsTrue (activity_below (slice_index_or xs k d).1 (length atomic.initial))) (sym acts) below)

meant : (s t : ViewState) (v : ℕ) (x a : Named) (r : Result ℕ Trap) → x ≡ a → Meets s t (completion_of v x.1) r → Meets s t (completion_of v a.1) r
meant s t v x a r act did = subst (λ (y : Named). Meets s t (completion_of v y.1) r) act did

pub returns-then-is_ok-clause-done : goal.returns-then-is_ok-clause-done
returns-then-is_ok-clause-done g c = λ a is.
    let atomic = c.args.part.now.atomic in
    let acts = c.as_slice-acts.ensures ∙ ap (λ (b : Atomic). b.acts) c.get.ensures in
    let s = g.V.Marked.view_state c.args.view.now in
    let t = g.V.Marked.view_state c.complete-case.new.view in
    let seed = g.D.DrawSource.seed c.args.draws.now in
    let stream = 2 * (c.args.part.now.first.0 + c.args.act) + 1 in
    let k = slice_index c.args.row.now.cases c.args.act in
    let x = slice_index_or c.as_slice-acts.result.now c.args.act c.index-acts-act.result in
    meant s t (draw_of seed stream k) x a c.complete-case.result
    (ap (λ (xs : List Named). slice_index_or xs c.args.act c.index-acts-act.result) acts ∙ get_or_from_slice_get atomic.acts c.args.act a c.index-acts-act.result is)
    (drawn_or_one s t seed stream k c.draw_for-u.result x.1 c.complete-case.result
    (λ e. c.draw_for-u.ensures.one (c.len.ensures ∙ e))
    (λ n. c.draw_for-u.ensures.more (λ e. n (sym c.len.ensures ∙ e)) ∙ ap (draw_of seed stream) c.next_case.ensures)
    c.complete-case.ensures)

pub returns-else-is_ok-clause-done : goal.returns-else-is_ok-clause-done
returns-else-is_ok-clause-done g c = λ a is.
    let atomic = c.args.part.now.atomic in
    let acts = c.as_slice-acts.ensures ∙ ap (λ (b : Atomic). b.acts) c.get.ensures in
    let s = g.V.Marked.view_state c.args.view.now in
    let t = g.V.Marked.view_state c.complete-case.new.view in
    let seed = g.D.DrawSource.seed c.args.draws.now in
    let stream = 2 * (c.args.part.now.first.0 + c.args.act) + 1 in
    let k = slice_index c.args.row.now.cases c.args.act in
    let x = slice_index_or c.as_slice-acts.result.now c.args.act c.index-acts-act.result in
    meant s t (draw_of seed stream k) x a c.complete-case.result
    (ap (λ (xs : List Named). slice_index_or xs c.args.act c.index-acts-act.result) acts ∙ get_or_from_slice_get atomic.acts c.args.act a c.index-acts-act.result is)
    (drawn_or_one s t seed stream k c.draw_for-u.result x.1 c.complete-case.result
    (λ e. c.draw_for-u.ensures.one (c.len.ensures ∙ e))
    (λ n. c.draw_for-u.ensures.more (λ e. n (sym c.len.ensures ∙ e)) ∙ ap (draw_of seed stream) c.next_case.ensures)
    c.complete-case.ensures)
