use Rattle.std.proofs.Common.{sym, ap, ◌∙◌, is_some}
use Rattle.std.specs.Str.{bytes_eq}
use Rattle.san_check.specs.Tables.{Table, is_known}
use Rattle.san_check.proofs.TableLemmas.{lookup_seen}
use Rattle.san_check.proofs.table.Table.is_known.Goals as goal

pub returns : goal.returns
returns g c =
    c.contains_key.ensures ∙ ap is_some (sym (lookup_seen (λ k. k.now) (bytes_eq c.args.name.now) c.self.inside.known.entries))
    ∙ ap (λ (t : Table g.row.V.Denot). is_known t c.args.name.now) c.self.view_is
