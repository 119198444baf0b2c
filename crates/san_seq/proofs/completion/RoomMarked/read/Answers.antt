use Rattle.std.proofs.Common.{arith, length, subst, sym, ◌<◌, ◌∙◌, List, ℕ}
use Rattle.std.proofs.lemmas.Grind.{get_or_default_zero}
use Rattle.san_seq.proofs.CompletionLemmas.{front_read, front_within}
use Rattle.san_seq.proofs.completion.RoomMarked.read.Goals as goal

pub index-requires : goal.index-requires
index-requires c = omega (arith, front_within c.self.inside.many c.self.inside.values.items c.args.place (subst (λ (s : List ℕ). c.args.place < length s) (sym c.self.view_is) c.requires))

pub returns : goal.returns
returns c =
    let items = c.self.inside.values.items in
    let below = front_within c.self.inside.many items c.args.place (subst (λ (s : List ℕ). c.args.place < length s) (sym c.self.view_is) c.requires) in
    front_read c.self.inside.many items c.args.self.now c.args.place c.index.result.now c.self.view_is c.requires (c.index.ensures ∙ get_or_default_zero items c.args.place c.index.result.now below)
