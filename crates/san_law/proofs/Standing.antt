-- Taking the needed piece keeps the standing.
use Rattle.std.proofs.Common.{ℕ, zero, suc, ◌<◌, ◌≡◌, ◌≢◌, ◌∙◌, ap, sym, refl, subst, List, [], ◌∷◌, ◌++◌, length, map, Option, Some, None, Bool, true, false, arith, nat_le, cond}
use Rattle.san_law.specs.Net.{Net}
use Rattle.san_law.specs.State.{State}
use Rattle.san_law.specs.Renewal.{Due, least_from}
use Rattle.san_law.specs.Step.{End, Ending, Event, Over, Stepped, fire, fired, step}
use Rattle.san_law.specs.Trajectory.{Runs, ran_by, ran_on, run}
use Rattle.san_law.specs.Piece.{Fire, LeafState}
use Rattle.san_law.specs.Order.{Finished, Needs, first_true, need_due, need_going, need_of, need_stale, need_unsettled}
use Rattle.san_law.specs.Core.{Core, advance, advance_by, after_pieces, take_need}
use Rattle.san_law.specs.Lawful.{IsLawful}
use Rattle.san_law.specs.Standing.{Follows, Stands, follows_by, upto_going, upto_unsettled}
use Rattle.san_law.specs.Laws.{FinishIsEnd, PieceKeeps, PiecesKeep}
use Rattle.san_law.proofs.Flags.{first_is}
use Rattle.san_law.proofs.Blocks.{ready_again}
use Rattle.san_law.proofs.Orders.{ready_least}
use Rattle.san_law.proofs.Settles.{settle_follows}
use Rattle.san_law.proofs.Rests.{Settled, fire_follows, refresh_follows, step_is}

module _ (net : Net) (law : IsLawful net) (opening : State) (past : List Event) (c : Core) (s : State) (st : Stands net opening past c s) (unstopped : c.stop ≡ None) where
  stays : Follows net opening past c
  stays = subst (follows_by net opening past c) (sym unstopped) (s, st)

  due_tested : (settled : Settled c) (stale : first_true 0 c.order.stale ≡ None) (d : Due) (b : Bool) → least_from 0 c.order.dues ≡ Some d → nat_le d.time net.horizon ≡ b → Follows net opening past (take_need net c (cond b (Needs d.leaf (Fire d.act) d.time) Finished))
  due_tested settled stale d true is e = fire_follows net law opening past c s st settled stale d is e 63
  due_tested settled stale d false is e = stays

  at_due : (settled : Settled c) (stale : first_true 0 c.order.stale ≡ None) (x : Option Due) → least_from 0 c.order.dues ≡ x → Follows net opening past (take_need net c (need_due net.horizon x))
  at_due settled stale None is = stays
  at_due settled stale (Some d) is = due_tested settled stale d (nat_le d.time net.horizon) is refl

  at_stale : (settled : Settled c) (x : Option ℕ) → first_true 0 c.order.stale ≡ x → Follows net opening past (take_need net c (need_stale net.horizon c.order x))
  at_stale settled None is = at_due settled is (least_from 0 c.order.dues) refl
  at_stale settled (Some j) is = refresh_follows net law opening past c s st settled unstopped j is

  at_unsettled : c.order.going ≡ None → (x : Option ℕ) → first_true 0 c.order.unsettled ≡ x → Follows net opening past (take_need net c (need_unsettled net.horizon c.order x))
  at_unsettled going None is = at_stale (record { going = going; unsettled = is }) (first_true 0 c.order.stale) refl
  at_unsettled going (Some j) is =
      let k = first_is c.order.unsettled j is in
      let h : j < length net.parts = omega (arith, k.within, st.holds.sized.unsettled) in
      let free : (i : ℕ) → c.order.going ≢ Some i = λ i e. absurd (none_some i (sym going ∙ e)) in
      settle_follows net law opening past c s 63 j st (ap (upto_going net c.order) going ∙ ap (upto_unsettled net c.order) is) h (λ i n. free i) (λ i n e. st.holds.last going i e)
      (ready_least net s j h (λ i l. st.holds.first i (omega (arith, l, h)) (k.below i l) (free i)) (st.holds.last going))
    where
      none_some : (i : ℕ) → None ≡ Some i → ⊥
      none_some i e = cc

  at_going : (x : Option ℕ) → c.order.going ≡ x → Follows net opening past (take_need net c (need_going net.horizon c.order x))
  at_going None is = at_unsettled is (first_true 0 c.order.unsettled) refl
  at_going (Some j) is =
      let k = st.holds.going j is in
      settle_follows net law opening past c s 63 j st (ap (upto_going net c.order) is) k.0
      (λ i n e. n (one_is j i (sym is ∙ e))) (λ i n e. absurd (n (one_is j i (sym k.1 ∙ e)))) (ready_again net s j k.1)
    where
      one_is : (j i : ℕ) → Some j ≡ Some i → i ≡ j
      one_is j i e = cc

  pub advance_follows : Follows net opening past (advance net c)
  unfolding advance need_of
  advance_follows = at_going c.order.going refl

pub piece_keeps : (net : Net) → IsLawful net → PieceKeeps net
piece_keeps net law opening past c s st unstopped = advance_follows net law opening past c s st unstopped

follows_on : (net : Net) → IsLawful net → (opening : State) (past : List Event) (c : Core) (o : Option Ending) → c.stop ≡ o → follows_by net opening past c o → Follows net opening past (advance_by net c o)
follows_on net law opening past c None e (s, st) = piece_keeps net law opening past c s st e
follows_on net law opening past c (Some x) e h = subst (follows_by net opening past c) (sym e) h

pub pieces_keep : (net : Net) → IsLawful net → PiecesKeep net
unfolding after_pieces
pieces_keep net law opening past c h zero = h
pieces_keep net law opening past c h (suc n) = let d = after_pieces net n c in follows_on net law opening past d d.stop refl (pieces_keep net law opening past c h n)

-- a run that ends
run_ends : (net : Net) (s t : State) (es : List Event) (time : ℕ) (e : Ending) → Runs net s es t → (step net t).0 ≡ Over time e → run net (suc (length es)) s ≡ Some (record { events = es; time = time; ending = e })
run_ends net s t [] time e runs over = ap (λ x. ran_by x (run net 0) (step net s).1) (ap (λ v. (step net v).0) runs ∙ over)
run_ends net s t (x ∷ es) time e runs over =
    ap (λ y. ran_by y (run net (suc (length es))) (step net s).1) runs.0
    ∙ ap (ran_on x) (run_ends net (step net s).1 t es time e runs.1 over)

pub stop_is_run : (net : Net) (opening : State) (past : List Event) (c : Core) (e : Ending) → c.stop ≡ Some e → Follows net opening past c → run net (suc (length (past ++ c.events))) opening ≡ Some (record { events = past ++ c.events; time = c.order.time; ending = e })
stop_is_run net opening past c e is h = let k = subst (follows_by net opening past c) is h in run_ends net opening k.0 (past ++ c.events) c.order.time e k.1.runs k.1.over

module _ (net : Net) (opening : State) (past : List Event) (law : IsLawful net) (c : Core) (s : State) (st : Stands net opening past c s) where
  end_tested : (settled : Settled c) (stale : first_true 0 c.order.stale ≡ None) (d : Due) (b : Bool) → least_from 0 c.order.dues ≡ Some d → nat_le d.time net.horizon ≡ b → cond b (Needs d.leaf (Fire d.act) d.time) Finished ≡ Finished → step net s ≡ (Over net.horizon End, s)
  end_tested settled stale d true is e h = cc
  end_tested settled stale d false is e h = step_is net law opening past c s st settled stale (Some d) is ∙ ap (λ b. cond b (fire net (fired net s (map (λ (x : LeafState). x.row) c.leaves) d) d.leaf d.act) (Over net.horizon End, s)) e

  end_due : (settled : Settled c) (stale : first_true 0 c.order.stale ≡ None) (x : Option Due) → least_from 0 c.order.dues ≡ x → need_due net.horizon x ≡ Finished → step net s ≡ (Over net.horizon End, s)
  end_due settled stale None is h = step_is net law opening past c s st settled stale None is
  end_due settled stale (Some d) is h = end_tested settled stale d (nat_le d.time net.horizon) is refl h

  end_stale : (settled : Settled c) (x : Option ℕ) → first_true 0 c.order.stale ≡ x → need_stale net.horizon c.order x ≡ Finished → step net s ≡ (Over net.horizon End, s)
  end_stale settled None is h = end_due settled is (least_from 0 c.order.dues) refl h
  end_stale settled (Some j) is h = cc

  end_unsettled : c.order.going ≡ None → (x : Option ℕ) → first_true 0 c.order.unsettled ≡ x → need_unsettled net.horizon c.order x ≡ Finished → step net s ≡ (Over net.horizon End, s)
  end_unsettled going None is h = end_stale (record { going = going; unsettled = is }) (first_true 0 c.order.stale) refl h
  end_unsettled going (Some j) is h = cc

  end_going : (x : Option ℕ) → c.order.going ≡ x → need_going net.horizon c.order x ≡ Finished → step net s ≡ (Over net.horizon End, s)
  end_going None is h = end_unsettled is (first_true 0 c.order.unsettled) refl h
  end_going (Some j) is h = cc

  pub end_is : need_of net.horizon c.order ≡ Finished → step net s ≡ (Over net.horizon End, s)
  unfolding need_of
  end_is h = end_going c.order.going refl h

pub finish_is_end : (net : Net) → IsLawful net → FinishIsEnd net
finish_is_end net law opening past c s st h = end_is net opening past law c s st h

pub finish_is_run : (net : Net) → IsLawful net → (opening : State) (past : List Event) (c : Core) → c.stop ≡ None → need_of net.horizon c.order ≡ Finished → Follows net opening past c → run net (suc (length (past ++ c.events))) opening ≡ Some (record { events = past ++ c.events; time = net.horizon; ending = End })
finish_is_run net law opening past c unstopped need h =
    let k = subst (follows_by net opening past c) unstopped h in
    run_ends net opening k.0 (past ++ c.events) net.horizon End k.1.runs (ap (λ (x : Stepped × State). x.0) (finish_is_end net law opening past c k.0 k.1 need))
