use Rattle.san_check.proofs.TableLemmas.{pair_seen}
use Rattle.san_check.proofs.table.Pairs.add.Goals as goal

pub returns : goal.returns
returns c = pair_seen (λ k. (k.0.now, k.1.now)) c.self.inside.known.keys c.insert.new.self.keys c.args.self.now (c.args.first, c.args.second) c.in_ok-insert.ensures.keys c.self.view_is
