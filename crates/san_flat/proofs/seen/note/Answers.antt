use Rattle.std.proofs.Common.{ap, sym, ◌∙◌, ◌≡◌, ◌++◌, ◌∷◌, [], map}
use Rattle.std.specs.List.{position_or_len}
use Rattle.san_flat.specs.Homes.{same, home_of_key}
use Rattle.san_flat.proofs.HomeLemmas.{same-equiv}
use Rattle.san_flat.proofs.SightingLemmas.{even-push, inserted-new, inserted-old, values-again, values-more}
use Rattle.san_flat.proofs.seen.note.Goals as goal
use Rattle.san_net.proofs.SeenLemmas.{position-map, recorded-again, recorded-new}

pub returns-in_ok-push-2 : goal.returns-in_ok-push-2
returns-in_ok-push-2 c = λ homes initial w.
    let i = inserted-new c.args.seen.now.homes.keys c.insert_full.new.self.keys c.args.home c.in_ok-at.new c.in_ok-at.ensures.added c.if-new.true c.in_ok-at.ensures.keys in
    record {
      recorded = rw (i.1, c.in_ok-push.ensures.items) (recorded-new same same-equiv homes _ _ _ i.0 w.recorded);
      values = c.in_ok-push-2.ensures.items ∙ ap (λ xs. xs ++ c.args.value ∷ []) w.values ∙ values-more homes initial _ (home_of_key c.args.home) c.args.value w.even w.recorded.all i.0 ∙ ap (map _) (sym i.1);
      even = even-push homes initial (home_of_key c.args.home) c.args.value w.even;
    }

pub returns-else-new : goal.returns-else-new
returns-else-new c = λ homes initial w.
    let i = inserted-old c.args.seen.now.homes.keys c.insert_full.new.self.keys c.args.home c.in_ok-at.new c.in_ok-at.ensures.added c.if-new.false c.in_ok-at.ensures.keys in
    let at : c.in_ok-at.at ≡ position_or_len (same (home_of_key c.args.home)) _ = c.in_ok-at.ensures.index ∙ sym (position-map home_of_key (same (home_of_key c.args.home)) c.args.seen.now.homes.keys) in
    record {
      recorded = rw (i.1, c.count_again.ensures, at) (recorded-again same same-equiv homes _ _ _ i.0 w.recorded);
      values = w.values ∙ values-again homes initial _ (home_of_key c.args.home) c.args.value w.even w.recorded.all ∙ ap (map _) (sym i.1);
      even = even-push homes initial (home_of_key c.args.home) c.args.value w.even;
    }
