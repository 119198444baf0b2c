use Rattle.std.proofs.Common.{subst, Option}
use Rattle.san_base.specs.declared.numbers.LeafId.{LeafId}
use Rattle.san_seq.specs.inner.Dues.{AreDues}
use Rattle.san_seq.proofs.DueLemmas.{others_behind}
use Rattle.san_seq.proofs.rows.catch_up_others.Goals as goal

pub returns-in-Some : goal.returns-in-Some
returns-in-Some c =
    others_behind c.in-Some.other c.args.leaf.0 c.args.dues.now c.args.rows.now
    (subst (λ (b : Option LeafId). AreDues b c.args.dues.now c.args.rows.now) c.in-Some.is c.requires.dues) c.if-other-leaf.true
