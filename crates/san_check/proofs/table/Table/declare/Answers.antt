use Rattle.std.proofs.Common.{sym, ◌∙◌}
use Rattle.san_check.proofs.TableLemmas.{declared_seen}
use Rattle.san_check.proofs.table.Table.declare.Goals as goal

pub returns-in-Ok : goal.returns-in-Ok
returns-in-Ok g c =
    declared_seen (λ k. k.now) (λ v. v) c.self.inside.known.entries c.insert.new.self.entries c.args.self.now c.args.name c.args.value c.in-Ok.ensures.entries c.self.view_is (sym c.is_known.ensures ∙ c.if-is_known.false)
