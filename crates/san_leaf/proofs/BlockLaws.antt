-- A block of a leaf's completions is what the law says of the leaf.
use Rattle.std.proofs.Common.{ℕ, zero, suc, ◌+◌, ◌≡◌, ◌∙◌, ap, sym, refl, subst, arith, Bool, true, false, ◌||◌, nat_eq, cond, List, [], ◌∷◌, map, filter, Option, Some, None, Result, Ok, Err}
use Rattle.std.proofs.Math.Path.{fun_ext}
use Rattle.std.specs.Prelude.{slice_get, slice_index, slice_index_or}
use Rattle.san_base.specs.declared.ending.Trap.{Trap}
use Rattle.san_base.specs.Rated.{rated_by}
use Rattle.san_base.proofs.Bools.{or_false}
use Rattle.san_expr.specs.Concerns.{AssignsNothing}
use Rattle.san_expr.specs.Meaning.{Meaning, Evaluation, go_on, joined, no_cell, settled, then_do}
use Rattle.san_expr.specs.Value.{value_of}
use Rattle.san_expr.proofs.WholeLemmas.{nothing_settled, nothing_then, value_reads}
use Rattle.san_law.specs.Activity as leaf
use Rattle.san_law.specs.Block as law
use Rattle.san_law.specs.Net as net
use Rattle.san_net.specs.Accepted.{IsAccepted}
use Rattle.san_net.specs.First.{attempt, enabled_by, first_among, first_of, found_or}
use Rattle.san_net.specs.Instants.{Named}
use Rattle.san_net.specs.Leaf.{activities_from, activity_in, effected_by, found_by, impulse_in, impulses_in, leaf_of}
use Rattle.san_net.specs.declared.atomic.ImpulseTerm.{ImpulseTerm}
use Rattle.san_net.specs.declared.first.FirstInstant.{FirstInstant}
use Rattle.san_net.specs.declared.first.FirstInstant.TheVariants as instant
use Rattle.san_net.specs.declared.part.Part.{Part}
use Rattle.san_net.proofs.FirstLaws.{first_is_first, first_reads}
use Rattle.san_leaf.specs.Lawful.{BlocksAreTheLaws, Is, IsBlock, IsBlockOf, leaf_at, net_of_part}
use Rattle.san_leaf.specs.Blocks.{Made, after_done, after_found, after_impulses, and_impulses, back_by, block_of, completed_by, counted, done_of, impulse_of, impulses_by, impulses_of, made_before, or_back}

-- two outcomes that differ at most in what is looked at
record Same {T : Type 0} (a b : Evaluation T) : Type 0 where
  pub answer : a.answer ≡ b.answer
  pub left : a.left ≡ b.left
  pub sets : (p : ℕ) → a.sets p ≡ b.sets p

or_nothing : (a b c : Bool) → a ≡ false → b ≡ c → (a || b) ≡ c
or_nothing true b c e f = cc
or_nothing false b c e f = f

-- what assigns nothing comes to what follows it
after_read : {T U : Type 0} (a : Meaning T) (next : T → Meaning U) (v : List ℕ) (x : T) → AssignsNothing a → (a v).answer ≡ Ok x → Same (then_do a next v) (next x v)
after_read {T} {U} a next v x none is =
    let to : then_do a next v ≡ joined (a v) (next x (a v).left) = ap (λ (r : Result T Trap). go_on r (a v) next) is in
    let left : (a v).left ≡ v = (none v).0 in
    record {
      answer = ap (λ (o : Evaluation U). o.answer) to ∙ ap (λ (m : List ℕ). (next x m).answer) left;
      left = ap (λ (o : Evaluation U). o.left) to ∙ ap (λ (m : List ℕ). (next x m).left) left;
      sets = λ p. ap (λ (o : Evaluation U). o.sets p) to ∙ or_nothing ((a v).sets p) ((next x (a v).left).sets p) ((next x v).sets p) ((none v).1 p) (ap (λ (m : List ℕ). (next x m).sets p) left);
    }

-- the first always has an answer
first_answers : (acts : List Named) (order : List ℕ) (v : List ℕ) → (f : FirstInstant) × ((first_among acts order v).answer ≡ Ok f)
first_answers acts [] v = (instant.None, refl)
first_answers acts (k ∷ order) v = by_answer (enabled_by (slice_get acts k) v).answer (enabled_by (slice_get acts k) v).left (λ m. first_answers acts order m)
  where
    by_answer : (r : Result Bool Trap) (m : List ℕ) → ((w : List ℕ) → (f : FirstInstant) × ((first_among acts order w).answer ≡ Ok f)) → (f : FirstInstant) × ((found_or k (first_among acts order) r m).answer ≡ Ok f)
    by_answer (Ok true) m rest = (instant.Enabled k, refl)
    by_answer (Ok false) m rest = rest m
    by_answer (Err t) m rest = (instant.Trapped k t, refl)

-- an activity of the leaf, as it is looked up
abbrev activity_by : List ImpulseTerm → ℕ → Option Named → leaf.Activity
activity_by terms k None = leaf.no_activity
activity_by terms k (Some a) = activity_in terms k a.1

activity_at : (terms : List ImpulseTerm) (n : ℕ) (acts : List Named) (k : ℕ) → slice_index_or (activities_from terms n acts) k leaf.no_activity ≡ activity_by terms (n + k) (slice_get acts k)
activity_at terms n [] k = refl
activity_at terms n (a ∷ acts) zero = let z : n ≡ n + 0 = omega arith in ap (λ i. activity_in terms i a.1) z
activity_at terms n (a ∷ acts) (suc k) = let z : suc n + k ≡ n + suc k = omega arith in activity_at terms (suc n) acts k ∙ ap (λ i. activity_by terms i (slice_get acts k)) z

completes_so : (terms : List ImpulseTerm) (k u : ℕ) (o : Option Named) (v : List ℕ) → (activity_by terms k o).complete u v ≡ effected_by (completed_by u o v) (completed_by u o v).answer
completes_so terms k u None v = refl
completes_so terms k u (Some a) v = refl

-- what is recorded of a completion
impulses_so : (terms : List ImpulseTerm) (k u : ℕ) (o : Option Named) (v w : List ℕ) (case : ℕ) → (completed_by u o v).answer ≡ Ok case → (activity_by terms k o).impulses w ≡ impulses_in terms k w
impulses_so terms k u None v w case is = cc
impulses_so terms k u (Some a) v w case is = refl

impulse_reads : (t : ImpulseTerm) → AssignsNothing (impulse_of t)
impulse_reads t = nothing_then {U = net.Impulse} (attempt (value_of t.expr)) (λ r. settled (Ok (record { reward = t.reward; rated = rated_by r }))) (value_reads t.expr) (λ r. nothing_settled {T = net.Impulse} (Ok (record { reward = t.reward; rated = rated_by r })))

impulses_read : (k : ℕ) (terms : List ImpulseTerm) → AssignsNothing (impulses_of k terms)
impulses_read k [] = nothing_settled {T = List net.Impulse} (Ok [])
impulses_read k (t ∷ terms) = by_test (nat_eq t.act k) (impulses_read k terms)
  where
    by_test : (b : Bool) → AssignsNothing (impulses_of k terms) → AssignsNothing (impulses_by b t (impulses_of k terms))
    by_test true rest = nothing_then (impulse_of t) (and_impulses (impulses_of k terms)) (impulse_reads t) (λ x. nothing_then {U = List net.Impulse} (impulses_of k terms) (λ xs. settled (Ok (x ∷ xs))) rest (λ xs. nothing_settled {T = List net.Impulse} (Ok (x ∷ xs))))
    by_test false rest = rest

impulses_are : (k : ℕ) (terms : List ImpulseTerm) (v : List ℕ) → (impulses_of k terms v).answer ≡ Ok (impulses_in terms k v)
impulses_are k [] v = refl
impulses_are k (t ∷ terms) v = by_test (nat_eq t.act k) (impulses_are k terms v)
  where
    by_test : (b : Bool) → (impulses_of k terms v).answer ≡ Ok (impulses_in terms k v) → (impulses_by b t (impulses_of k terms) v).answer ≡ Ok (map (impulse_in v) (cond b (t ∷ filter (λ x. nat_eq x.act k) terms) (filter (λ x. nat_eq x.act k) terms)))
    by_test true rest =
        (after_read (impulse_of t) (and_impulses (impulses_of k terms)) v (impulse_in v t) (impulse_reads t) refl).answer
        ∙ (after_read (impulses_of k terms) (λ xs. settled (Ok (impulse_in v t ∷ xs))) v (impulses_in terms k v) (impulses_read k terms) rest).answer
    by_test false rest = rest

is_same : (b : law.Block) (row : net.Row) (o q : Evaluation Made) → Same o q → IsBlockOf b row q → IsBlockOf b row o
is_same b row o q same is =
    subst (λ (r : Result Made Trap). Is b row o.left o.sets r) (sym same.answer)
    (subst (λ (m : List ℕ). Is b row m o.sets q.answer) (sym same.left)
    (subst (λ (s : ℕ → Bool). Is b row q.left s q.answer) (sym (fun_ext same.sets)) is))

module _ (draw : ℕ → ℕ → ℕ) (p : Part) where
  abbrev of_part : net.Net
  of_part = net_of_part draw p

  -- a completion's impulses and the rest of the block
  module _ (n k case : ℕ) (row : net.Row) (cases w : List ℕ) (sets : ℕ → Bool) (xs : List net.Impulse) where
    abbrev first : Evaluation (Result ℕ Trap)
    first = record { answer = Ok (Ok case); left = w; looks = no_cell; sets = sets }

    abbrev rest_of : law.Block
    rest_of = law.settle of_part 0 n (leaf_at row (counted cases k) w)

    abbrev done : net.Done
    done = record { left = leaf_at row (counted cases k) w; sets = sets; case = case; impulses = xs }

    abbrev recorded : List net.Impulse
    recorded = impulses_in p.atomic.impulses k w

    abbrev completion : law.Completion
    completion = record { act = k; case = case; impulses = recorded }

    abbrev with_first : Made → Meaning Made
    with_first made = settled (Ok (made_before completion made))

    by_answer : (e : Evaluation Made) (r : Result Made Trap) → xs ≡ recorded → Is rest_of row e.left e.sets r → IsBlockOf (law.before k done rest_of) row (joined first (go_on r e with_first))
    by_answer e (Err t) same is = is
    by_answer e (Ok made) same is =
        ap (law.before k done) is
        ∙ ap (λ ys. record { completions = record { act = k; case = case; impulses = ys } ∷ made.completions; sets = λ q. sets q || e.sets q; left = leaf_at row made.cases e.left; close = made.close }) same
        ∙ ap (λ (s : ℕ → Bool). record { completions = completion ∷ made.completions; sets = s; left = leaf_at row made.cases e.left; close = made.close }) (fun_ext (λ q. ap (λ (x : Bool). sets q || x) (sym (or_false (e.sets q)))))

    impulses_then : IsBlock draw p n → xs ≡ recorded → IsBlockOf (law.before k done rest_of) row (joined first (then_do (impulses_of k p.atomic.impulses) (after_impulses (block_of draw p n) cases k case) w))
    impulses_then rest same =
        let go = after_read (impulses_of k p.atomic.impulses) (after_impulses (block_of draw p n) cases k case) w recorded (impulses_read k p.atomic.impulses) (impulses_are k p.atomic.impulses w) in
        let e = block_of draw p n (counted cases k) w in
        is_same (law.before k done rest_of) row (joined first (then_do (impulses_of k p.atomic.impulses) (after_impulses (block_of draw p n) cases k case) w)) (joined first (after_impulses (block_of draw p n) cases k case recorded w))
        (record { answer = go.answer; left = go.left; sets = λ q. ap (λ (x : Bool). sets q || x) (go.sets q) })
        (by_answer e e.answer same (rest row (counted cases k) w))

  -- a picked completion
  module _ (n k u : ℕ) (row : net.Row) (cases v : List ℕ) (o : Option Named) where
    abbrev act : leaf.Activity
    act = activity_by p.atomic.impulses k o

    abbrev came : Evaluation ℕ
    came = completed_by u o v

    abbrev whole : Evaluation Made
    whole = then_do (or_back (completed_by u o)) (after_done (block_of draw p n) p cases k) v

    abbrev after : leaf.Activity → Result leaf.Effected Trap → law.Block
    after a r = law.after_done (law.settle of_part 0 n) (leaf_at row cases v) k (leaf.done_by (leaf_at row cases v).row k a r)

    by_done : (r : Result ℕ Trap) → IsBlock draw p n → came.answer ≡ r → IsBlockOf (after act (effected_by came r)) row (go_on (back_by v came r).answer (back_by v came r) (after_done (block_of draw p n) p cases k))
    by_done (Err t) rest e = refl
    by_done (Ok case) rest e = impulses_then n k case row cases came.left came.sets (act.impulses came.left) rest (impulses_so p.atomic.impulses k u o v came.left case e)

    done_then : (a : leaf.Activity) → IsBlock draw p n → a ≡ act → IsBlockOf (after a (a.complete u v)) row whole
    done_then a rest is =
        subst (λ (b : leaf.Activity). IsBlockOf (after b (b.complete u v)) row whole) (sym is)
        (subst (λ (r : Result leaf.Effected Trap). IsBlockOf (after act r) row whole) (sym (completes_so p.atomic.impulses k u o v)) (by_done came.answer rest refl))

  -- a leaf's activity completes
  pub picked_then : (n k : ℕ) (row : net.Row) (cases v : List ℕ) → IsBlock draw p n
      → IsBlockOf (law.after_done (law.settle of_part 0 n) (leaf_at row cases v) k (of_part.done 0 k (leaf_at row cases v))) row (done_of draw p k cases (block_of draw p n) v)
  picked_then n k row cases v rest = let z : 0 + k ≡ k = omega arith in
      done_then n k (draw (leaf.case_stream (leaf_of p) k) (slice_index cases k)) row cases v (slice_get p.atomic.acts k) (leaf.activity_of (leaf_of p) k) rest (activity_at p.atomic.impulses 0 p.atomic.acts k ∙ ap (λ i. activity_by p.atomic.impulses i (slice_get p.atomic.acts k)) z)

  -- what stands first
  found_then : (n : ℕ) (row : net.Row) (cases v : List ℕ) (f : FirstInstant) → IsBlock draw p n
      → IsBlockOf (law.after_found (law.settle of_part 0 n) (λ k. of_part.done 0 k (leaf_at row cases v)) (leaf_at row cases v) (found_by (Ok f))) row (after_found (block_of draw p n) draw p cases f v)
  found_then n row cases v instant.None rest = refl
  found_then n row cases v (instant.Trapped k t) rest = refl
  found_then n row cases v (instant.Enabled k) rest = picked_then n k row cases v rest

  pub is_block : IsAccepted p.atomic → (n : ℕ) → IsBlock draw p n
  is_block accepted zero row cases v = refl
  is_block accepted (suc n) row cases v =
      let f = first_answers p.atomic.acts p.atomic.instants v in
      let first : of_part.first 0 v ≡ found_by (Ok f.0) = sym (first_is_first p v accepted) ∙ ap found_by f.1 in
      is_same (law.settle of_part 0 (suc n) (leaf_at row cases v)) row (block_of draw p (suc n) cases v) (after_found (block_of draw p n) draw p cases f.0 v)
      (after_read (first_of p.atomic) (after_found (block_of draw p n) draw p cases) v f.0 (first_reads p.atomic) f.1)
      (subst (λ (x : net.Found). IsBlockOf (law.after_found (law.settle of_part 0 n) (λ k. of_part.done 0 k (leaf_at row cases v)) (leaf_at row cases v) x) row (after_found (block_of draw p n) draw p cases f.0 v)) (sym first)
      (found_then n row cases v f.0 (is_block accepted n)))

pub blocks_are_the_laws : (p : Part) → BlocksAreTheLaws p
blocks_are_the_laws p accepted draw n = is_block draw p accepted n
