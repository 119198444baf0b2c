use Rattle.std.proofs.Common.{List, refl}
use Rattle.san_check.specs.inner.Walks.{seen_all}
use Rattle.san_check.proofs.LoopLemmas.{entries_turn}
use Rattle.san_check.specs.walk.Reward.{term_entries, terms_entries}
use Rattle.san_text.specs.declared.syntax.TermDecl.{TermDecl}
use Rattle.san_check.proofs.walk.reward.walk_terms.Goals as goal

pub terms-preserved : goal.terms-preserved
terms-preserved c =
    let places = c.args.known.now.places in
    let acts = c.args.known.now.acts in
    entries_turn (λ (t : Unit {0}) n (ts : List TermDecl). terms_entries places acts c.args.at n ts) (λ (t : Unit {0}) n more (d : TermDecl). term_entries places acts c.args.at n d) (λ (t : Unit {0}) (d : TermDecl). tt) (λ t n d ds. refl)
    c.args.terms.now c.terms.n c.index-terms-n.result tt tt c.terms.walk c.walk_term.new.walk (seen_all c.args.walk.now (terms_entries places acts c.args.at 0 c.args.terms.now))
    c.terms-test.true c.index-terms-n.is c.walk_term.ensures refl c.terms.invariant
