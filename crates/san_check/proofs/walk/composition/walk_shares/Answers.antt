use Rattle.std.proofs.Common.{◌≡◌, ℕ, List, [], ◌∷◌, refl, ap, ap₂, ◌∙◌}
use Rattle.san_check.specs.inner.Walks.{seen, seen_all}
use Rattle.san_check.proofs.LoopLemmas.{all_turn, entries_turn}
use Rattle.san_check.specs.Tables.{declared, all_paired, Pairs}
use Rattle.san_check.specs.walk.Expression.{Places}
use Rattle.san_check.specs.walk.Composition.{parts_entries, first_place, share_code, shares_entries, with_share, all_shares, shown_as}
use Rattle.san_text.specs.declared.syntax.ShareDecl.{ShareDecl}
use Rattle.san_check.proofs.walk.composition.walk_shares.Goals as goal

pub shares-preserved : goal.shares-preserved
shares-preserved c =
    let s = c.index-decls-n.result in
    let children = c.args.children.now in
    let made : c.declare.new.self ≡ with_share children c.shares.shares s =
    c.in_ok-declare.ensures ∙ ap (λ n. declared c.shares.shares n c.shown_as-place.result) c.as_bytes.ensures.value
    ∙ ap (declared c.shares.shares s.name) (c.shown_as-place.ensures ∙ ap shown_as (c.first_place.ensures ∙ ap (first_place children) c.as_slice-in-shares.ensures)) in
    let here = λ (ps : List (List ℕ × List ℕ)). parts_entries children c.shares.taken (first_place children ps) [] ps in
    record {
      entries = entries_turn (λ (t : Places × Pairs) n (ss : List ShareDecl). shares_entries children t.0 t.1 n ss) (λ (t : Places × Pairs) n more (s : ShareDecl). share_code t.0 n s.name ∷ parts_entries children t.1 (first_place children s.parts) [] s.parts)
          (λ (t : Places × Pairs) (s : ShareDecl). (with_share children t.0 s, all_paired t.1 s.parts)) (λ t n s ss. refl)
          c.args.decls.now c.shares.n s (c.shares.shares, c.shares.taken) (c.declare.new.self, c.take_parts.new.taken) c.shares.walk c.walk_parts.new.walk (seen_all c.args.walk.now (shares_entries children [] [] 0 c.args.decls.now))
          c.shares-test.true c.index-decls-n.is
          (c.in_ok-walk_parts.ensures ∙ ap (λ ps. seen_all c.see.new.self (here ps)) c.as_slice.ensures ∙ ap (λ x. seen_all x (here s.parts)) (c.see.ensures ∙ ap (seen c.shares.walk) c.share_code.ensures))
          (ap₂ (λ a b. (a, b)) made (c.in_ok-take_parts.ensures ∙ ap (all_paired c.shares.taken) c.as_slice-in-shares-2.ensures)) c.shares.invariant.entries;
      shares = all_turn (all_shares children) (with_share children) (λ t d ds. refl) c.args.decls.now c.shares.n s c.shares.shares c.declare.new.self (all_shares children [] c.args.decls.now) c.shares-test.true c.index-decls-n.is made c.shares.invariant.shares;
    }
