use Rattle.std.proofs.Common.{◌≡◌, ◌∙◌, ◌+◌, ◌∷◌, [], length, length-append, ap, sym, arith, subst}
use Rattle.san_draw.specs.Streams.{AreOf, IsGeneratorOf}
use Rattle.san_draw.proofs.StreamLemmas.{are_more}
use Rattle.san_draw.proofs.streams.Streams.open.Goals as goal

pub loop-stream-preserved : goal.loop-stream-preserved
loop-stream-preserved c =
    let next : c.loop-stream.stream ≡ 0 + length c.loop-stream.generators.items = omega (arith, c.loop-stream.invariant.long) in
    let kept = subst (λ s. IsGeneratorOf c.args.seed s c.in_ok-kept.field-0) next c.in_ok-kept.ensures in
    record {
      generators = subst (AreOf c.args.seed 0) (sym c.in_ok-push.ensures.items) (are_more c.args.seed 0 c.loop-stream.generators.items c.in_ok-kept.field-0 c.loop-stream.invariant.generators kept);
      long = ap length c.in_ok-push.ensures.items ∙ omega (arith, length-append c.loop-stream.generators.items (c.in_ok-kept.field-0 ∷ []), c.loop-stream.invariant.long);
    }
