use Rattle.std.proofs.Common.{ap, sym, ◌∙◌, []}
use Rattle.san_tree.specs.Places.{climb, chain}
use Rattle.san_tree.proofs.ClimbLemmas.{home-settled}
use Rattle.san_tree.proofs.tree.Tree.home.Goals as goal

pub returns : goal.returns
returns c =
    home-settled _ _ _ _ _ _ (ap (λ nodes. climb c.args.place (chain nodes c.args.self.now.root c.args.path.now [])) (sym c.as_slice.ensures) ∙ c.climb.ensures.way [])
