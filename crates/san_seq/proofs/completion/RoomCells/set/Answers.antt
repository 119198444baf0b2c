use Rattle.std.proofs.Common.{arith, subst, sym, length, ◌<◌, List, ℕ}
use Rattle.san_seq.proofs.CompletionLemmas.{front_set, front_within}
use Rattle.san_seq.proofs.completion.RoomCells.set.Goals as goal

pub index_mut-requires : goal.index_mut-requires
index_mut-requires c = omega (arith, front_within c.self.inside.many c.self.inside.values.items c.args.place (subst (λ (s : List ℕ). c.args.place < length s) (sym c.self.view_is) c.requires.place))

pub returns : goal.returns
returns c = front_set c.self.inside.many c.self.inside.values.items c.args.self.now c.args.place c.args.value c.self.view_is c.requires.place
