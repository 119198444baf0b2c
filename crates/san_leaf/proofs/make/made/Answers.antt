use Rattle.std.proofs.Common.{arith, ◌≤◌, ◌≡◌, ◌∙◌, ap, map, length, Option, ℕ, List, sym, subst, refl}
use Rattle.std.proofs.lemmas.Grind.{common_steps}
use Rattle.std.proofs.lemmas.List.{length-map}
use Rattle.std.proofs.lemmas.Result.{IfOk-weaker}
use Rattle.san_base.specs.declared.limits.TheConstants.{MAX_ACTS}
use Rattle.san_leaf.proofs.FoundLemmas.{within_more}
use Rattle.san_net.specs.Laid.{place_of}
use Rattle.san_net.specs.Leaf.{slot_in}
use Rattle.san_net.specs.declared.part.Part.{Part}
use Rattle.san_law.specs.Net.{Row}
use Rattle.san_law.specs.Piece.{LeafState}
use Rattle.san_leaf.specs.Blocks.{made_of}
use Rattle.san_leaf.specs.Claims.{claimed}
use Rattle.san_draw.specs.Key.{draw_of}
use Rattle.san_leaf.specs.Claimed.{IsReadFrom}
use Rattle.san_leaf.specs.inner.Ends.{nothing_recorded, piece_of_cells, row_by}
use Rattle.san_leaf.specs.Pieces.{PieceValue}
use Rattle.san_leaf.specs.inner.Turns.{MakesRecorded}
use Rattle.san_leaf.specs.inner.ViewStates.{Seeing, view_state_of}
use Rattle.san_leaf.proofs.ViewLemmas.{all_kept}
use Rattle.san_leaf.proofs.MadeLemmas.{has_read, is_sound}
use Rattle.san_leaf.proofs.SoundLemmas.{starts_long}
use Rattle.san_leaf.proofs.make.made.Goals as goal

pub invariant_of-cells : goal.invariant_of-cells
invariant_of-cells g c =
    let slots : c.as_slice.result.now ≡ c.args.claim.now.part.slots = c.as_slice.ensures ∙ ap (λ (p : Part). p.slots) c.get-part.ensures in
    record {
      own = ap (λ (o : List (Option ℕ)). length o) c.requires.own ∙ starts_long (map slot_in c.args.claim.now.part.slots) c.args.claim.now.base.values ∙ length-map c.args.claim.now.part.slots slot_in ∙ sym (ap length slots);
      first = ap (λ (o : List (Option ℕ)). length o) c.requires.first ∙ grind (arith, common_steps);
    }

pub gathered-requires : goal.gathered-requires
gathered-requires g c =
    let claim = c.args.claim.now in
    let fits = c.requires.fits in
    let part : c.get-part.result.now ≡ claim.part = c.get-part.ensures in
    let slots : c.as_slice.result.now ≡ claim.part.slots = c.as_slice.ensures ∙ ap (λ (p : Part). p.slots) part in
    let s0 : Seeing = record { places = map place_of c.as_slice.result.now; own = c.args.own; first = c.args.first; marking = g.V.View.marking c.args.view; kept = g.V.View.kept c.args.view } in
    let s1 : Seeing = c.worked-work.new.view in
    let v = c.cells.inside in
    let row : Row = c.base.inside.row in
    let row_is : row ≡ claim.base.row = ap (λ (s : LeafState). s.row) (c.base.view_is ∙ c.get-base.ensures) in
    let wide = sym (length-map v.slots.now place_of) ∙ ap (λ (s : Seeing). length s.places) c.cells.view_is in
    let made = subst (λ (p : Part). MakesRecorded (made_of (draw_of claim.seed) p c.args.fired row.cases) nothing_recorded c.in-Ok.work.recorder (row_by c.args.fired row) c.in-Ok.work.row (view_state_of s0) (view_state_of s1) c.in-Ok.work.close) part
    (subst (λ (d : ℕ). MakesRecorded (made_of (draw_of d) c.get-part.result.now c.args.fired row.cases) nothing_recorded c.in-Ok.work.recorder (row_by c.args.fired row) c.in-Ok.work.row (view_state_of s0) (view_state_of s1) c.in-Ok.work.close) c.requires.seed c.in-Ok.ensures.worked) in
    record {
      sound = is_sound (claimed claim) c.as_slice.result.now (g.V.View.marking c.args.view) (g.V.View.kept c.args.view) row c.in-Ok.work.row c.in-Ok.work.recorder c.in-Ok.work.close s0 s1 c.args.own c.args.first v.own v.first
          fits.accepted slots refl c.requires.own c.requires.first row_is (sym (ap (λ (s : Seeing). s.own) c.cells.view_is)) (sym (ap (λ (s : Seeing). s.first) c.cells.view_is)) (c.cells.invariant.own ∙ wide) (c.cells.invariant.first ∙ wide) c.in-Ok.ensures.places
          c.args.fired c.requires.kind fits.base.values made;
      fits = fits;
      within = within_more (length c.get-part.result.now.atomic.acts) MAX_ACTS c.in-Ok.work.close (subst (λ (p : Part). length p.atomic.acts ≤ MAX_ACTS) (sym part) (let few = fits.few in omega (arith, few))) c.in-Ok.ensures.within;
    }

pub returns-in-Ok-clause-read : goal.returns-in-Ok-clause-read
returns-in-Ok-clause-read g c =
    let claim = c.args.claim.now in
    let fits = c.requires.fits in
    let part : c.get-part.result.now ≡ claim.part = c.get-part.ensures in
    let slots : c.as_slice.result.now ≡ claim.part.slots = c.as_slice.ensures ∙ ap (λ (p : Part). p.slots) part in
    let s0 : Seeing = record { places = map place_of c.as_slice.result.now; own = c.args.own; first = c.args.first; marking = g.V.View.marking c.args.view; kept = g.V.View.kept c.args.view } in
    let s1 : Seeing = c.worked-work.new.view in
    let v = c.cells.inside in
    let row : Row = c.base.inside.row in
    let row_is : row ≡ claim.base.row = ap (λ (s : LeafState). s.row) (c.base.view_is ∙ c.get-base.ensures) in
    let wide = sym (length-map v.slots.now place_of) ∙ ap (λ (s : Seeing). length s.places) c.cells.view_is in
    let made = subst (λ (p : Part). MakesRecorded (made_of (draw_of claim.seed) p c.args.fired row.cases) nothing_recorded c.in-Ok.work.recorder (row_by c.args.fired row) c.in-Ok.work.row (view_state_of s0) (view_state_of s1) c.in-Ok.work.close) part
    (subst (λ (d : ℕ). MakesRecorded (made_of (draw_of d) c.get-part.result.now c.args.fired row.cases) nothing_recorded c.in-Ok.work.recorder (row_by c.args.fired row) c.in-Ok.work.row (view_state_of s0) (view_state_of s1) c.in-Ok.work.close) c.requires.seed c.in-Ok.ensures.worked) in
    let read = has_read (claimed claim) c.as_slice.result.now (g.V.View.marking c.args.view) (g.V.View.kept c.args.view) row c.in-Ok.work.row c.in-Ok.work.recorder c.in-Ok.work.close s0 s1 c.args.own c.args.first v.own v.first
    fits.accepted slots refl c.requires.own c.requires.first row_is (sym (ap (λ (s : Seeing). s.own) c.cells.view_is)) (sym (ap (λ (s : Seeing). s.first) c.cells.view_is)) (c.cells.invariant.own ∙ wide) (c.cells.invariant.first ∙ wide) c.in-Ok.ensures.places
    c.args.fired c.requires.kind fits.base.values made in
    IfOk-weaker c.gathered.result (λ p. p ≡ piece_of_cells (claimed claim) c.in-Ok.work.recorder c.in-Ok.work.row c.in-Ok.work.close v.own v.first) (λ p. IsReadFrom (g.V.View.marking c.args.view) p.log) (λ p e. subst (λ (q : PieceValue). IsReadFrom (g.V.View.marking c.args.view) q.log) (sym e) read) c.gathered.ensures

pub returns-in-Ok-clause-marking : goal.returns-in-Ok-clause-marking
returns-in-Ok-clause-marking g c =
    let s0 : Seeing = record { places = map place_of c.as_slice.result.now; own = c.args.own; first = c.args.first; marking = g.V.View.marking c.args.view; kept = g.V.View.kept c.args.view } in
    ap (λ (s : Seeing). s.marking) c.cells.view_is ∙ (all_kept s0 c.worked-work.new.view c.worked-work.ensures.places c.worked-work.ensures.kept).marking

pub returns-in-Ok-clause-kept : goal.returns-in-Ok-clause-kept
returns-in-Ok-clause-kept g c =
    let s0 : Seeing = record { places = map place_of c.as_slice.result.now; own = c.args.own; first = c.args.first; marking = g.V.View.marking c.args.view; kept = g.V.View.kept c.args.view } in
    ap (λ (s : Seeing). s.kept) c.cells.view_is ∙ (all_kept s0 c.worked-work.new.view c.worked-work.ensures.places c.worked-work.ensures.kept).kept

pub returns-clause-marking : goal.returns-clause-marking
returns-clause-marking g c =
    let s0 : Seeing = record { places = map place_of c.as_slice.result.now; own = c.args.own; first = c.args.first; marking = g.V.View.marking c.args.view; kept = g.V.View.kept c.args.view } in
    ap (λ (s : Seeing). s.marking) c.cells.view_is ∙ (all_kept s0 c.worked-work.new.view c.worked-work.ensures.places c.worked-work.ensures.kept).marking

pub returns-clause-kept : goal.returns-clause-kept
returns-clause-kept g c =
    let s0 : Seeing = record { places = map place_of c.as_slice.result.now; own = c.args.own; first = c.args.first; marking = g.V.View.marking c.args.view; kept = g.V.View.kept c.args.view } in
    ap (λ (s : Seeing). s.kept) c.cells.view_is ∙ (all_kept s0 c.worked-work.new.view c.worked-work.ensures.places c.worked-work.ensures.kept).kept
