use Rattle.std.proofs.Common.{◌≡◌, ℕ, List, None, map, length, sym, subst, arith}
use Rattle.std.proofs.lemmas.Grind.{common_steps}
use Rattle.std.specs.Prelude.{slice_index}
use Rattle.san_leaf.specs.Views.{Shows}
use Rattle.san_leaf.specs.inner.ViewStates.{known}
use Rattle.san_net.specs.Laid.{place_of}
use Rattle.san_leaf.proofs.ViewLemmas.{read_there}
use Rattle.san_leaf.proofs.leaf_view.LeafViewMarked.read.Goals as goal

pub returns : goal.returns
returns g c =
    let k = c.read-value.ensures in
    let places : List ℕ = map place_of c.self.inside.slots.now in
    let none : known c.self.inside.own c.args.place ≡ None = grind (arith, common_steps) in
    let unread : known c.self.inside.first c.args.place ≡ None = grind (arith, common_steps) in
    let at : c.place.result.0 ≡ slice_index places c.args.place = grind (arith, common_steps) in
    let sized : length c.self.inside.first ≡ length places = grind (arith, common_steps) in
    read_there places c.self.inside.own c.self.inside.first c.set.new.self
    (g.V.View.marking c.self.inside.lent) (g.V.View.marking c.read-value.new.self) (g.V.View.kept c.self.inside.lent) (g.V.View.kept c.read-value.new.self)
    c.args.place c.read-value.result c.args.self.now (sym c.self.view_is) c.requires sized none unread c.set.ensures k.value
    (subst (λ (q : ℕ). Shows (g.V.View.marking c.self.inside.lent) q c.read-value.result) at k.shown) k.same k.kept
