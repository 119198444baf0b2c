use Rattle.std.proofs.Common.{◌∙◌, ap, sym, subst, Bool, false, true, Some, List, ℕ, slice_set}
use Rattle.std.proofs.lemmas.Option.{slice_get-get_or}
use Rattle.san_seq.specs.inner.Flagged.{IsListed}
use Rattle.san_seq.proofs.FlaggedLemmas.{listed_more, room}
use Rattle.san_seq.proofs.stale.put_up.Goals as goal

pub push-requires : goal.push-requires
push-requires c =
    let down = slice_get-get_or c.args.flags.now c.args.at false c.requires.at ∙ ap (λ (b : Bool). Some b) c.if-flags-at.false in
    room c.args.flags.now c.args.list.now c.args.count c.args.at c.requires.listed down

pub returns-clause-listed : goal.returns-clause-listed
returns-clause-listed c =
    let down = slice_get-get_or c.args.flags.now c.args.at false c.requires.at ∙ ap (λ (b : Bool). Some b) c.if-flags-at.false in
    subst (λ (xs : List ℕ). IsListed (slice_set c.args.flags.now c.args.at true) xs c.push.result) (sym c.push.ensures.list)
    (subst (λ (n : ℕ). IsListed (slice_set c.args.flags.now c.args.at true) (slice_set c.args.list.now c.args.count c.args.at) n) (sym c.push.ensures.more)
    (listed_more c.args.flags.now c.args.list.now c.args.count c.args.at c.requires.listed down))
