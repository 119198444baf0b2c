use Rattle.std.proofs.Common.{◌∙◌, ◌≤◌, ap, sym, subst, length, Bool, List, ℕ}
use Rattle.std.proofs.lemmas.List.{length-map}
use Rattle.san_winner.specs.Least.{Won, least_between}
use Rattle.san_winner.specs.Flags.{SaysNext, is_up}
use Rattle.san_winner.proofs.FlagLemmas.{as_next, says_next}
use Rattle.san_winner.proofs.flags.Flags.next.Goals as goal

pub returns-in-Some : goal.returns-in-Some
returns-in-Some c =
    let keys = c.self.inside.keys in
    let short : c.args.from ≤ length keys = subst (λ (n : ℕ). c.args.from ≤ n) (ap (λ (bs : List Bool). length bs) (sym c.self.view_is) ∙ length-map keys is_up) c.requires in
    let least = c.least_between.ensures ∙ ap (λ (n : ℕ). least_between c.args.from n keys) c.len.ensures in
    subst (λ (w : Won). SaysNext c.args.from c.args.self.now (as_next w)) c.in-Some.is
    (subst (λ (bs : List Bool). SaysNext c.args.from bs (as_next c.least_between.result)) c.self.view_is (says_next c.args.from keys c.least_between.result short c.self.invariant least))

pub returns-in-None : goal.returns-in-None
returns-in-None c =
    let keys = c.self.inside.keys in
    let short : c.args.from ≤ length keys = subst (λ (n : ℕ). c.args.from ≤ n) (ap (λ (bs : List Bool). length bs) (sym c.self.view_is) ∙ length-map keys is_up) c.requires in
    let least = c.least_between.ensures ∙ ap (λ (n : ℕ). least_between c.args.from n keys) c.len.ensures in
    subst (λ (w : Won). SaysNext c.args.from c.args.self.now (as_next w)) c.in-None.is
    (subst (λ (bs : List Bool). SaysNext c.args.from bs (as_next c.least_between.result)) c.self.view_is (says_next c.args.from keys c.least_between.result short c.self.invariant least))
