use Rattle.std.proofs.Common.{arith, ◌≡◌, ◌∙◌, ap, sym, subst, None, List}
use Rattle.std.specs.Prelude.{insert}
use Rattle.san_line.proofs.Ordered.{ordered_inserted}
use Rattle.san_line.specs.Lines.{LineValue, find, inserted}
use Rattle.san_line.specs.Ordered.{IsOrdered}
use Rattle.san_line.specs.declared.version.Version.{Version}
use Rattle.san_line.proofs.line.Line.put.Goals as goal

pub invariant_of-self-2 : goal.invariant_of-self-2
invariant_of-self-2 c =
    let v = c.args.v in
    let xs = c.self.inside.versions.items in
    let after_insert = c.in_ok-insert.ensures in
    let same : inserted v xs ≡ c.insert.new.self.items = ap (inserted v) (sym c.deref.ensures.value) ∙ (c.index_of-at.ensures.there ∙ (ap (λ (ys : List Version). insert ys c.index_of-at.result v) c.deref.ensures.value ∙ sym after_insert.items)) in
    let new : find v.leaf.0 v.pos xs ≡ None = ap (λ (l : LineValue). find v.leaf.0 v.pos l.versions) c.self.view_is ∙ c.requires.new in
    (subst IsOrdered same (ordered_inserted v xs new c.self.invariant.0), λ more. let old = c.self.invariant.1 (omega (arith, more, c.saturating_sub-self-inside.ensures)) in omega (arith, old, more, after_insert.len, after_insert.capacity, c.saturating_sub-self-inside.ensures), omega (arith, after_insert.len, c.saturating_sub-self-inside.ensures, c.self.invariant.2, c.if-len-ge-MAX_VERSIONS.false, c.len.ensures))
