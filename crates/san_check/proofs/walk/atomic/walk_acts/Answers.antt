use Rattle.std.proofs.Common.{◌≡◌, [], ◌∷◌, refl, ap, ◌∙◌}
use Rattle.san_check.specs.inner.Walks.{seen, seen_all}
use Rattle.san_check.proofs.LoopLemmas.{all_turn, entries_turn}
use Rattle.san_check.specs.Tables.{declared}
use Rattle.san_text.specs.declared.syntax.ActDecl.{ActDecl}
use Rattle.san_check.specs.walk.Activity.{ActNames, act_code, act_entries}
use Rattle.san_check.specs.walk.Atomic.{acts_entries, all_acts}
use Rattle.san_check.proofs.walk.atomic.walk_acts.Goals as goal

pub acts-preserved : goal.acts-preserved
acts-preserved c =
    let d = c.index-decls-n.result in
    let made : c.declare.new.self ≡ declared c.acts.acts d.name tt = c.in_ok-declare.ensures ∙ ap (λ n. declared c.acts.acts n tt) c.as_bytes.ensures.value in
    let places = c.args.places.now in
    record {
      entries = entries_turn (λ t n ds. acts_entries places t n ds) (λ t n more (d : ActDecl). act_code places t n d.name ∷ act_entries places d) (λ (t : ActNames) (d : ActDecl). declared t d.name tt) (λ t n d ds. refl)
          c.args.decls.now c.acts.n d c.acts.acts c.declare.new.self c.acts.walk c.walk_act.new.walk (seen_all c.args.walk.now (acts_entries places [] 0 c.args.decls.now))
          c.acts-test.true c.index-decls-n.is (c.walk_act.ensures ∙ ap (λ x. seen_all x (act_entries places d)) (c.see.ensures ∙ ap (seen c.acts.walk) c.act_code.ensures)) made c.acts.invariant.entries;
      acts = all_turn all_acts (λ (t : ActNames) (d : ActDecl). declared t d.name tt) (λ t d ds. refl) c.args.decls.now c.acts.n d c.acts.acts c.declare.new.self (all_acts [] c.args.decls.now) c.acts-test.true c.index-decls-n.is made c.acts.invariant.acts;
    }
