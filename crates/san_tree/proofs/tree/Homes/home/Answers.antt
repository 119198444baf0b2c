use Rattle.std.proofs.Common.{ap, sym, ◌∙◌, []}
use Rattle.san_tree.specs.declared.tree.Tree.{Tree}
use Rattle.san_tree.specs.Places.{climb, chain, home}
use Rattle.san_tree.proofs.ClimbLemmas.{home-settled}
use Rattle.san_tree.proofs.tree.Homes.home.Goals as goal

pub returns : goal.returns
returns c =
    let tree = c.self.inside.tree.now in
    home-settled tree.nodes tree.root _ _ _ _ (ap (λ nodes. climb c.args.place (chain nodes tree.root c.args.path.now [])) (sym c.as_slice.ensures) ∙ c.climb.ensures.way [])
    ∙ ap (λ (t : Tree). home t.nodes t.root c.args.path.now c.args.place) c.self.view_is
