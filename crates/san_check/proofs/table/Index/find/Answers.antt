use Rattle.std.proofs.Common.{sym, ap, ◌∙◌}
use Rattle.std.specs.Str.{bytes_eq}
use Rattle.std.specs.Option.{option_copied}
use Rattle.san_check.specs.Tables.{Table, found}
use Rattle.san_check.proofs.TableLemmas.{lookup_both}
use Rattle.san_check.proofs.table.Index.find.Goals as goal

pub returns : goal.returns
returns g c =
    ap option_copied (c.copied.ensures ∙ c.get.ensures.value)
    ∙ sym (lookup_both (λ k. k.now) (λ v. v.now) (bytes_eq c.args.name.now) c.self.inside.known.entries)
    ∙ ap (λ (t : Table g.row.V.Denot). found t c.args.name.now) c.self.view_is
