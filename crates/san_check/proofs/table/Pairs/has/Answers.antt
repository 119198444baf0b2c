use Rattle.std.proofs.Common.{sym, ap, ◌∙◌}
use Rattle.san_check.specs.Tables.{Pairs, same_pair, has_pair}
use Rattle.san_check.proofs.TableLemmas.{any_seen}
use Rattle.san_check.proofs.table.Pairs.has.Goals as goal

pub returns : goal.returns
returns c =
    c.contains.ensures ∙ sym (any_seen (λ k. (k.0.now, k.1.now)) (same_pair (c.args.first.now, c.args.second.now)) c.self.inside.known.keys)
    ∙ ap (λ (ps : Pairs). has_pair ps (c.args.first.now, c.args.second.now)) c.self.view_is
