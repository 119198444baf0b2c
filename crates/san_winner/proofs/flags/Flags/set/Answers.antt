use Rattle.std.proofs.Common.{◌∙◌, ap, sym, subst, map, Bool, List, slice_set}
use Rattle.san_winner.specs.Flags.{AreKeys, is_up}
use Rattle.san_winner.proofs.FlagLemmas.{keys_set, up_set}
use Rattle.san_winner.proofs.flags.Flags.set.Goals as goal

pub invariant_of-self : goal.invariant_of-self
invariant_of-self c = subst AreKeys (sym c.set.ensures) (keys_set c.self.inside.keys c.args.at c.key_of.result c.key_of.ensures.key c.self.invariant)

pub returns : goal.returns
returns c =
    ap (map is_up) c.set.ensures
    ∙ up_set c.self.inside.keys c.args.at c.key_of.result
    ∙ ap (λ (b : Bool). slice_set (map is_up c.self.inside.keys) c.args.at b) c.key_of.ensures.up
    ∙ ap (λ (bs : List Bool). slice_set bs c.args.at c.args.up) c.self.view_is
