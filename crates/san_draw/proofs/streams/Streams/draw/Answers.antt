use Rattle.std.proofs.Common.{◌≡◌, ◌+◌, ◌<◌, length, get_or, ap, sym, arith, subst}
use Rattle.san_draw.specs.Streams.{IsGeneratorOf, Seeded}
use Rattle.san_draw.proofs.StreamLemmas.{are_at, are_set}
use Rattle.san_draw.proofs.streams.Streams.draw.Goals as goal

pub draw_kept-requires-clause-of : goal.draw_kept-requires-clause-of
draw_kept-requires-clause-of c =
    let gs = c.self.inside.generators.items in
    let within : c.args.stream < length gs = omega (arith, c.requires.stream, c.self.inside.generators.ok, ap (λ (o : Seeded). o.streams) c.self.view_is) in
    let same : 0 + c.args.stream ≡ c.from.result = omega (arith, c.from.ensures) in
    let kept = c.index_mut-kept.result.now in
    subst (λ g. IsGeneratorOf c.self.inside.seed c.from.result g) (sym c.index_mut-kept.ensures.value)
    (subst (λ s. IsGeneratorOf c.self.inside.seed s (get_or gs c.args.stream kept)) same (are_at c.self.inside.seed 0 gs c.args.stream kept c.self.invariant within))

pub invariant_of-self : goal.invariant_of-self
invariant_of-self c =
    let same : c.from.result ≡ 0 + c.args.stream = omega (arith, c.from.ensures) in
    are_set c.self.inside.seed 0 c.self.inside.generators.items c.args.stream c.draw_kept.new.kept c.self.invariant
    (subst (λ s. IsGeneratorOf c.self.inside.seed s c.draw_kept.new.kept) same c.draw_kept.ensures.of)
