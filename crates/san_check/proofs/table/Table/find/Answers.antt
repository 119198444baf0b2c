use Rattle.std.proofs.Common.{sym, ap, ◌∙◌}
use Rattle.std.specs.Str.{bytes_eq}
use Rattle.san_check.specs.Tables.{Table, found}
use Rattle.san_check.proofs.TableLemmas.{lookup_seen}
use Rattle.san_check.proofs.table.Table.find.Goals as goal

pub returns : goal.returns
returns g c =
    c.get.ensures.value ∙ sym (lookup_seen (λ k. k.now) (bytes_eq c.args.name.now) c.self.inside.known.entries)
    ∙ ap (λ (t : Table g.row.V.Denot). found t c.args.name.now) c.self.view_is
