use Rattle.std.proofs.Common.{List, ap, ◌∙◌}
use Rattle.san_book.specs.Cores as book
use Rattle.san_speculation.specs.Counting.{counts_in}
use Rattle.san_speculation.specs.Speculating.{CoreValue}
use Rattle.san_speculation.proofs.speculation.Core.counts.Goals as goal

pub returns : goal.returns
returns c =
    c.count.ensures
    ∙ (ap (λ (xs : List book.Step). counts_in xs c.self.inside.rollbacks) c.journal.ensures.steps
    ∙ ap (λ (x : CoreValue). counts_in c.args.self.now.book.journal x.book.rollbacks) c.self.view_is)
