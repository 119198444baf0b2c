use Rattle.std.proofs.Common.{arith, ◌∙◌, Option, None, sym, ap, ℕ}
use Rattle.san_law.specs.Renewal as law
use Rattle.san_seq.proofs.DueLemmas.{none_due, of_leaf}
use Rattle.san_seq.proofs.rows.first_timer.Goals as goal

pub overflow_cast-leaf : goal.overflow_cast-leaf
overflow_cast-leaf c =
    let at = of_leaf c.args.rows.now c.args.dues.now _ c.requires.dues (sym c.least.ensures ∙ c.in-Some.is) in
    omega (arith, at.within, c.requires.few)

pub least_at-requires-clause-leaf : goal.least_at-requires-clause-leaf
least_at-requires-clause-leaf c =
    (of_leaf c.args.rows.now c.args.dues.now _ c.requires.dues (sym c.least.ensures ∙ c.in-Some.is)).within

pub returns-in-Some : goal.returns-in-Some
returns-in-Some c =
    let at = of_leaf c.args.rows.now c.args.dues.now _ c.requires.dues (sym c.least.ensures ∙ c.in-Some.is) in
    c.due_of.ensures ∙ ap (λ (t : Option (ℕ × ℕ)). law.and_sooner c.in-Some.leaf t None) c.least_at.ensures ∙ sym at.is

pub returns-in-None : goal.returns-in-None
returns-in-None c = none_due c.args.rows.now c.args.dues.now c.requires.dues (sym c.least.ensures ∙ c.in-None.is)
