use Rattle.std.proofs.Common.{ℕ, Option, sym, ap, ◌∙◌, min}
use Rattle.std.specs.Prelude.{unwrap_or}
use Rattle.std.specs.Str.{bytes_eq}
use Rattle.san_check.specs.Tables.{Table}
use Rattle.san_check.specs.build.Composition.{number}
use Rattle.san_check.proofs.TableLemmas.{position_seen}
use Rattle.san_check.proofs.table.Index.number.Goals as goal

pub returns : goal.returns
returns g c =
    c.min.ensures ∙ ap (λ (n : ℕ). min n 4294967295) (c.unwrap_or.ensures ∙ ap (λ (o : Option ℕ). unwrap_or o 0) (c.get_index_of.ensures.index ∙ sym (position_seen (λ k. k.now) (λ v. v.now) (bytes_eq c.args.name.now) c.self.inside.known.entries)))
    ∙ ap (λ (t : Table g.row.V.Denot). number t c.args.name.now) c.self.view_is
