-- Keys stay low over a commit and over a piece made anew.
use Rattle.std.proofs.Common.{All, ℕ, ◌<◌, ◌≡◌, ◌∙◌, ap, sym, subst, List, length, map, Option, Some, None, slice_set}
use Rattle.san_base.specs.declared.numbers.LeafId.{LeafId}
use Rattle.san_base.specs.declared.numbers.PlaceId.{PlaceId}
use Rattle.san_ahead.specs.Ahead.{AheadValue, TakesOut, cut_from, pushed, raised, with_committed, without_head}
use Rattle.san_book.specs.Chains.{AllFit, chain_of}
use Rattle.san_book.specs.Cores.{claim_of}
use Rattle.san_book.specs.Lines.{AreWrites}
use Rattle.san_book.specs.Whole.{IsWhole}
use Rattle.san_core.specs.Machines.{FollowsRun, IsNeeded, MachineValue, after_taking, core_in}
use Rattle.san_core.specs.Needed.{IsNeed}
use Rattle.san_core.proofs.Retaking.{with_spare}
use Rattle.san_core.specs.declared.admission.Taking.{Taking}
use Rattle.san_decide.specs.Booked.{needed_from, of_piece}
use Rattle.san_decide.proofs.Booking.{book_is_lawful}
use Rattle.san_law.specs.Core.{leaf_of}
use Rattle.san_law.specs.Piece.{Outcome}
use Rattle.san_leaf.specs.Pieces.{IsSound, PieceValue}
use Rattle.san_leaf.specs.States.{kind_in, pair_in}
use Rattle.san_net.specs.Network.{Network}
use Rattle.san_speculation.specs.Speculating.{CoreValue, IsReplayed, book_in, claim_in, core_by}
use Rattle.san_speculation.specs.declared.step.Step.{Step}
use Rattle.san_speculation.specs.inner.Committing.{ArePartsWhole, IsNext, with_parts}
use Rattle.san_speculation.specs.inner.Soonest.{AreLow, KeepsLow, touched_all}
use Rattle.san_speculation.proofs.Heads.{head_needed, its_leaf, writes_fit}
use Rattle.san_speculation.proofs.Keeping.{chains_long, keeps_the_law}
use Rattle.san_speculation.proofs.Nexts.{with_front}
use Rattle.san_speculation.proofs.Redos.{leaf_same, outcome_same}
use Rattle.san_speculation.proofs.Soonests.{anew_low, claim_low, commit_low, cut_low, fell_low, late_low, places_below, push_low, spare_low, touch_low}
use Rattle.san_speculation.proofs.Speculated.{IsRun}

-- the same keys over equal parts
moved : (m n : MachineValue) (a b done : AheadValue) (keys news same : List (Option ℕ)) → b ≡ done → news ≡ same → KeepsLow m a keys n done same → KeepsLow m a keys n b news
moved m n a b done keys news same e f h = subst (λ (x : AheadValue). KeepsLow m a keys n x news) (sym e) (subst (λ (ks : List (Option ℕ)). KeepsLow m a keys n done ks) (sym f) h)

module _ (m : MachineValue) (follows : FollowsRun m) (run : IsRun m.network) (a : AheadValue) (leaf : LeafId) (next : IsNext m a leaf) (whole : ArePartsWhole m a) (p : PieceValue) (mid : AheadValue) (out : TakesOut a leaf.0 p mid)
    (ws : List (PlaceId × ℕ)) (written : map pair_in ws ≡ p.outcome.writes) (x : Network) (same : x ≡ m.network) where
  abbrev w : IsWhole (book_in m) (with_parts m a whole.0)
  w = whole.1

  abbrev front : IsNext m a leaf
  front = with_front m a leaf next (out.pos, p) out.rest out.is

  -- what the head wrote is the network's
  pub head_places : All (λ (w : PlaceId × ℕ). w.0.0 < length x.initial) ws
  head_places = places_below m run x same (length a.lines) w.lines p (writes_fit m follows run a whole.0 w leaf front) ws written

  pub head_low : IsSound p → (n : MachineValue) → n ≡ after_taking m p → FollowsRun n → length a.chains ≡ length m.network.parts → (b : AheadValue) (shared : List ℕ) (vs : List (ℕ × ℕ)) → b ≡ with_committed mid shared vs → vs ≡ p.outcome.writes
      → (keys news : List (Option ℕ)) → news ≡ touched_all x.parts ws (slice_set keys leaf.0 (Some 0)) → KeepsLow m a keys n b news
  head_low sound n is after chains b shared vs made put keys news set =
      moved m n a b (with_committed (without_head a leaf.0 (out.pos, p) out.rest) shared p.outcome.writes) keys news (touched_all m.network.parts ws (slice_set keys leaf.0 (Some 0)))
      (made ∙ (ap (with_committed mid shared) put ∙ ap (λ (y : AheadValue). with_committed y shared p.outcome.writes) out.left))
      (set ∙ ap (λ (y : Network). touched_all y.parts ws (slice_set keys leaf.0 (Some 0))) same)
      (commit_low m follows run p (head_needed m follows run a whole.0 w leaf front) sound n is after ws written a chains leaf.0 (its_leaf m follows run a whole.0 w leaf front) shared out.pos out.rest keys)

module _ (m : MachineValue) (follows : FollowsRun m) (run : IsRun m.network) (t : Taking) (need : IsNeed m t) (q : PieceValue) (needed : IsNeeded m q) (sound : IsSound q)
    (a : AheadValue) (whole : ArePartsWhole m a) (ws : List (PlaceId × ℕ)) (written : map pair_in ws ≡ q.outcome.writes) (x : Network) (same : x ≡ m.network) where
  abbrev wide : IsWhole (book_in m) (with_parts m a whole.0)
  wide = whole.1

  abbrev made_anew : PieceValue
  made_anew = needed_from m.network m.seed m.limits t.leaf.0 (leaf_of (core_in m) t.leaf.0) (kind_in t.first.0 t.kind) t.time.0 (core_in m).shared

  fit : AreWrites (length a.lines) q.outcome.writes
  fit =
      let lawful = book_is_lawful m.network run.known.network m.seed m.limits in
      let asked = lawful.needed (core_in m) wide.width t.leaf.0 (kind_in t.first.0 t.kind) t.time.0 in
      let asked_for = lawful.made t.leaf.0 (leaf_of (core_in m) t.leaf.0) (kind_in t.first.0 t.kind) t.time.0 (of_piece.log made_anew) made_anew asked.0 in
      subst (λ (k : ℕ). AreWrites k q.outcome.writes) (sym wide.lines)
      (subst (λ (o : Outcome). AreWrites m.network.shared o.writes) (sym (outcome_same m follows run t need q needed sound)) asked_for.fits)

  pub anew_places : All (λ (w : PlaceId × ℕ). w.0.0 < length x.initial) ws
  anew_places = places_below m run x same (length a.lines) wide.lines q fit ws written

  module _ (chains : length a.chains ≡ length m.network.parts) (n : MachineValue) (is : n ≡ after_taking m q) (after : FollowsRun n) (mid b : AheadValue) (shared : List ℕ) (vs : List (ℕ × ℕ)) (made : mid ≡ with_committed a shared vs) (put : vs ≡ q.outcome.writes) (rise : b ≡ raised mid t.leaf.0) (keys news : List (Option ℕ)) (set : news ≡ touched_all x.parts ws (slice_set keys t.leaf.0 (Some 0))) where
    b_is : b ≡ raised (with_committed a shared q.outcome.writes) t.leaf.0
    b_is = rise ∙ ap (λ (y : AheadValue). raised y t.leaf.0) (made ∙ ap (with_committed a shared) put)

    set_is : news ≡ touched_all m.network.parts ws (slice_set keys t.leaf.0 (Some 0))
    set_is = set ∙ ap (λ (y : Network). touched_all y.parts ws (slice_set keys t.leaf.0 (Some 0))) same

    own : q.part.leaf.0 ≡ t.leaf.0
    own = leaf_same m follows run t need q needed sound

    pub stays_low : KeepsLow m a keys n b news
    stays_low = moved m n a b (raised (with_committed a shared q.outcome.writes) t.leaf.0) keys news (touched_all m.network.parts ws (slice_set keys t.leaf.0 (Some 0))) b_is set_is
        (anew_low m follows run q needed sound n is after ws written a chains t.leaf.0 own shared keys)

    chain_fits : AllFit of_piece (length a.lines) (chain_of a.chains t.leaf.0)
    chain_fits = subst (λ (k : ℕ). AllFit of_piece k (chain_of a.chains t.leaf.0)) (sym wide.lines) (wide.chains t.leaf.0).fit

    pub falls_low : (d : AheadValue) → d ≡ cut_from b t.leaf.0 0 → KeepsLow m a keys n d news
    falls_low d gone = moved m n a d (cut_from (raised (with_committed a shared q.outcome.writes) t.leaf.0) t.leaf.0 0) keys news (touched_all m.network.parts ws (slice_set keys t.leaf.0 (Some 0)))
        (gone ∙ ap (λ (y : AheadValue). cut_from y t.leaf.0 0) b_is) set_is
        (fell_low m follows run q needed sound n is after ws written a chains t.leaf.0 own shared fit chain_fits wide.exact.ordered keys)

-- keys of a core, by its parts
module _ (m : MachineValue) (a : AheadValue) (os : List (Option LeafId)) (js : List Step) (r : ℕ) (v : CoreValue) (seen : core_by m a os js r ≡ v) (follows : FollowsRun v.machine) (run : IsRun v.machine.network) (replayed_so : IsReplayed v) (keys : List (Option ℕ)) (low : AreLow m a (map claim_in os) keys) where
  abbrev here : CoreValue
  here = core_by m a os js r

  whole : IsWhole (book_in m) here.book
  whole = subst (λ (x : CoreValue). IsWhole (book_in x.machine) x.book) (sym seen) (keeps_the_law v follows run replayed_so).core.whole

  run_here : IsRun m.network
  run_here = subst (λ (x : CoreValue). IsRun x.machine.network) (sym seen) run

  pub parts_long : length a.chains ≡ length m.network.parts
  parts_long = subst (λ (x : CoreValue). length x.book.chains ≡ length x.machine.network.parts) (sym seen) (chains_long v follows run replayed_so)

  pub keys_long : length keys ≡ length m.network.parts
  keys_long = low.long ∙ parts_long

  chains_fit : (j : ℕ) → AllFit of_piece (length a.lines) (chain_of a.chains j)
  chains_fit j = subst (λ (n : ℕ). AllFit of_piece n (chain_of a.chains j)) (sym whole.lines) (whole.chains j).fit

  pub cut_kept : (leaf : LeafId) (k : ℕ) (b : AheadValue) (news : List (Option ℕ)) → b ≡ cut_from a leaf.0 k → news ≡ slice_set keys leaf.0 (Some 0) → AreLow m b (map claim_in os) news
  cut_kept leaf k b news gone set =
      subst (λ (x : AheadValue). AreLow m x (map claim_in os) news) (sym gone)
      (subst (λ (ks : List (Option ℕ)). AreLow m (cut_from a leaf.0 k) (map claim_in os) ks) (sym set)
      (cut_low m run_here a keys parts_long (map claim_in os) leaf.0 k (chains_fit leaf.0) whole.exact.ordered low))

  pub late_kept : (w : ℕ) (leaf : LeafId) (news : List (Option ℕ)) → claim_of (map claim_in os) w ≡ claim_in (Some leaf) → news ≡ slice_set keys leaf.0 (Some 0) → AreLow m a (map claim_in (slice_set os w None)) news
  late_kept w leaf news claim set =
      subst (λ (ks : List (Option ℕ)). AreLow m a (map claim_in (slice_set os w None)) ks) (sym set) (late_low m run_here a keys parts_long os w leaf claim low)

  pub claim_kept : (w : ℕ) (leaf : LeafId) → claim_of (map claim_in os) w ≡ None → AreLow m a (map claim_in (slice_set os w (Some leaf))) keys
  claim_kept w leaf claim = claim_low m run_here a keys parts_long os w leaf claim low

  pub push_places : (p : PieceValue) (ws : List (PlaceId × ℕ)) (x : Network) → x ≡ m.network → AreWrites (length a.lines) p.outcome.writes → map pair_in ws ≡ p.outcome.writes → All (λ (w : PlaceId × ℕ). w.0.0 < length x.initial) ws
  push_places p ws x same fit written = places_below m run_here x same (length a.lines) whole.lines p fit ws written

  -- what a piece of a claimed leaf touches
  module _ (leaf : LeafId) (ws : List (PlaceId × ℕ)) (x : Network) (same : x ≡ m.network) (mid news : List (Option ℕ)) (one : mid ≡ slice_set keys leaf.0 (Some 0)) (all : news ≡ touched_all x.parts ws mid) where
    keys_are : news ≡ touched_all m.network.parts ws (slice_set keys leaf.0 (Some 0))
    keys_are = all ∙ (ap (touched_all x.parts ws) one ∙ ap (λ (y : Network). touched_all y.parts ws (slice_set keys leaf.0 (Some 0))) same)

    pub push_kept : (w : ℕ) (p : PieceValue) (b : AheadValue) → map pair_in ws ≡ p.outcome.writes → claim_of (map claim_in os) w ≡ claim_in (Some leaf) → b ≡ pushed a leaf.0 p → AreLow m b (map claim_in (slice_set os w None)) news
    push_kept w p b written claim put =
        subst (λ (y : AheadValue). AreLow m y (map claim_in (slice_set os w None)) news) (sym put)
        (subst (λ (ks : List (Option ℕ)). AreLow m (pushed a leaf.0 p) (map claim_in (slice_set os w None)) ks) (sym keys_are)
        (push_low m run_here a keys parts_long os w leaf p ws written claim low))

    pub touch_kept : (b : AheadValue) → b ≡ a → AreLow m b (map claim_in os) news
    touch_kept b stay =
        subst (λ (y : AheadValue). AreLow m y (map claim_in os) news) (sym stay)
        (subst (λ (ks : List (Option ℕ)). AreLow m a (map claim_in os) ks) (sym keys_are) (touch_low m run_here a keys parts_long (map claim_in os) leaf.0 ws low))

  -- a machine that got room, and took pieces
  pub spare_kept : (mid : MachineValue) (s : ℕ) → mid ≡ with_spare m s → AreLow mid a (map claim_in os) keys
  spare_kept mid s is = subst (λ (x : MachineValue). AreLow x a (map claim_in os) keys) (sym is) (spare_low m s a (map claim_in os) keys low)

  pub taken_kept : (mid n : MachineValue) (s : ℕ) (b : AheadValue) (news : List (Option ℕ)) → mid ≡ with_spare m s → KeepsLow mid a keys n b news → AreLow n b (map claim_in os) news
  taken_kept mid n s b news is keeps = keeps (map claim_in os) (spare_kept mid s is)
