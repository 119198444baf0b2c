-- One turn of a block.
use Rattle.std.proofs.Common.{ℕ, suc, ◌+◌, length, ◌≡◌, ◌∙◌, ap, sym, refl, subst, List, [], ◌∷◌, ◌++◌, Option, Some, None, Result, Ok, Err}
use Rattle.std.proofs.lemmas.List.{append_assoc, length-append}
use Rattle.san_base.specs.declared.ending.Trap.{Trap}
use Rattle.san_expr.specs.Meaning.{Meaning, settled}
use Rattle.san_expr.specs.Meets.{Evaluates, Meets}
use Rattle.san_expr.specs.View.{ViewState}
use Rattle.san_expr.proofs.ComposeLemmas.{evaluates_settled, meets_then}
use Rattle.san_clock.specs.Rows.{counted_by}
use Rattle.san_law.specs.Activity.{with_case}
use Rattle.san_law.specs.Block as law
use Rattle.san_law.specs.Net.{Row}
use Rattle.san_net.specs.First.{first_of}
use Rattle.san_net.specs.declared.first.FirstInstant.{FirstInstant}
use Rattle.san_net.specs.declared.first.FirstInstant.TheVariants as instant
use Rattle.san_net.specs.declared.part.Part.{Part}
use Rattle.san_leaf.specs.Blocks.{Made, after_done, after_found, after_impulses, block_of, done_of, impulses_of, made_before, none_made, picked_of, turn_of}
use Rattle.san_leaf.specs.inner.Turns.{CompletesOnce, MakesRecorded, TakesTurn, with_cases}
use Rattle.san_leaf.specs.inner.Recorded.{Recorded, with_event}
use Rattle.san_leaf.specs.inner.Impulses.{Records}
use Rattle.san_leaf.specs.declared.block.Close.{Close}
use Rattle.san_leaf.specs.declared.block.Close.TheVariants as close

append_none : (xs : List law.Completion) → xs ++ [] ≡ xs
append_none [] = refl
append_none (x ∷ xs) = ap (λ (ys : List law.Completion). x ∷ ys) (append_none xs)

-- nothing was recorded
kept_recorded : (was : Recorded) → was.pending ≡ [] → was ≡ record { completions = was.completions ++ []; pending = [] }
kept_recorded was none = ap (λ xs. record { completions = was.completions; pending = xs }) none ∙ ap (λ xs. record { completions = xs; pending = [] }) (sym (append_none was.completions))

module _ (draw : ℕ → ℕ → ℕ) (p : Part) (was : Recorded) (row : Row) (old mid : ViewState) where
  -- an activity's completion
  module _ (k : ℕ) (r : Result ℕ Trap) (picks : Meets old mid (picked_of draw p k row.cases) (Ok r)) where
    pub fails_done : (trap : Trap) (after : Row) → r ≡ Err trap → was.pending ≡ [] → after ≡ counted_by r row k → (go : List ℕ → Meaning Made) → MakesRecorded (done_of draw p k row.cases go) was was row after old mid (close.FailsDone k trap)
    fails_done trap after traps none counts go = record {
      made = none_made row.cases (law.FailsDone k trap);
      meets = meets_then old mid mid (picked_of draw p k row.cases) (after_done go p row.cases k) r (Ok (none_made row.cases (law.FailsDone k trap))) picks
          (subst (λ (x : Result ℕ Trap). Meets mid mid (after_done go p row.cases k x) (Ok (none_made row.cases (law.FailsDone k trap)))) (sym traps) (evaluates_settled mid (Ok (none_made row.cases (law.FailsDone k trap)))).meets);
      recorded = kept_recorded was none;
      counted = counts ∙ ap (λ (x : Result ℕ Trap). counted_by x row k) traps;
      closed = refl;
    }

    pub goes_on : (case : ℕ) (last : ViewState) (then now : Recorded) (after : Row) → r ≡ Ok case → was.pending ≡ [] → after ≡ counted_by r row k
        → Records was then mid last k p.atomic.impulses → now ≡ with_event then k case → CompletesOnce (done_of draw p k row.cases) was now row after old last
    goes_on case last then now after goes none counts (xs, recorded, records) event =
        let c : law.Completion = record { act = k; case = case; impulses = xs } in
        let is : after ≡ with_case row k = counts ∙ ap (λ (x : Result ℕ Trap). counted_by x row k) goes in
        record {
          completion = c;
          recorded = event ∙ ap (λ (t : Recorded). with_event t k case) recorded ∙ ap (λ ys. record { completions = was.completions ++ record { act = k; case = case; impulses = ys ++ xs } ∷ []; pending = [] }) none;
          counted = is ∙ ap (λ (x : Row). with_cases row x.cases) (sym is);
          meets = λ go new made rest.
              meets_then old mid new (picked_of draw p k row.cases) (after_done go p row.cases k) r (Ok (made_before c made)) picks
              (subst (λ (x : Result ℕ Trap). Meets mid new (after_done go p row.cases k x) (Ok (made_before c made))) (sym goes)
              (meets_then mid last new (impulses_of k p.atomic.impulses) (after_impulses go row.cases k case) xs (Ok (made_before c made)) records.meets
              (meets_then last new new (go (with_case row k).cases) (λ m. settled (Ok (made_before c m))) made (Ok (made_before c made)) (subst (λ (x : Row). Meets last new (go x.cases) (Ok made)) is rest) (evaluates_settled new (Ok (made_before c made))).meets)));
        }

  -- what stands first
  module _ (f : FirstInstant) (first : Evaluates old mid (first_of p.atomic) (Ok f)) where
    found : (go : List ℕ → Meaning Made) (g : FirstInstant) (new : ViewState) (made : Made) → f ≡ g → Meets mid new (after_found go draw p row.cases g) (Ok made) → Meets old new (turn_of draw p row.cases go) (Ok made)
    found go g new made is q = meets_then old mid new (first_of p.atomic) (after_found go draw p row.cases) f (Ok made) first.meets (subst (λ (x : FirstInstant). Meets mid new (after_found go draw p row.cases x) (Ok made)) (sym is) q)

    pub rests : f ≡ instant.None → was.pending ≡ [] → (go : List ℕ → Meaning Made) → MakesRecorded (turn_of draw p row.cases go) was was row row old mid close.Rests
    rests is none go = record {
      made = none_made row.cases law.Rests;
      meets = found go instant.None mid (none_made row.cases law.Rests) is (evaluates_settled mid (Ok (none_made row.cases law.Rests))).meets;
      recorded = kept_recorded was none;
      counted = refl;
      closed = refl;
    }

    pub fails_test : (k : ℕ) (trap : Trap) → f ≡ instant.Trapped k trap → was.pending ≡ [] → (go : List ℕ → Meaning Made) → MakesRecorded (turn_of draw p row.cases go) was was row row old mid (close.FailsTest k trap)
    fails_test k trap is none go = record {
      made = none_made row.cases (law.FailsTest k trap);
      meets = found go (instant.Trapped k trap) mid (none_made row.cases (law.FailsTest k trap)) is (evaluates_settled mid (Ok (none_made row.cases (law.FailsTest k trap)))).meets;
      recorded = kept_recorded was none;
      counted = refl;
      closed = refl;
    }

    pub found_turns : (k : ℕ) (now : Recorded) (after : Row) (new : ViewState) (o : Option Close) → f ≡ instant.Enabled k → TakesTurn (done_of draw p k row.cases) was now row after mid new o → TakesTurn (turn_of draw p row.cases) was now row after old new o
    found_turns k now after new None is goes = record {
      completion = goes.completion;
      recorded = goes.recorded;
      counted = goes.counted;
      meets = λ go last made rest. found go (instant.Enabled k) last (made_before goes.completion made) is (goes.meets go last made rest);
    }
    found_turns k now after new (Some end) is ends = λ go. record {
      made = (ends go).made;
      meets = found go (instant.Enabled k) new (ends go).made is (ends go).meets;
      recorded = (ends go).recorded;
      counted = (ends go).counted;
      closed = (ends go).closed;
    }

-- a completion and then what follows it
pub goes_then : (block : (List ℕ → Meaning Made) → Meaning Made) (go : List ℕ → Meaning Made) (was now then : Recorded) (row next after : Row) (old mid new : ViewState) (end : Close)
    → CompletesOnce block was now row next old mid → MakesRecorded (go next.cases) now then next after mid new end → MakesRecorded (block go) was then row after old new end
goes_then block go was now then row next after old mid new end goes m = record {
  made = made_before goes.completion m.made;
  meets = goes.meets go new m.made m.meets;
  recorded = m.recorded ∙ ap (λ (t : Recorded). record { completions = t.completions ++ m.made.completions; pending = [] }) goes.recorded ∙ ap (λ xs. record { completions = xs; pending = [] }) (append_assoc was.completions (goes.completion ∷ []) m.made.completions);
  counted = m.counted ∙ ap (λ (r : Row). with_cases r m.made.cases) goes.counted;
  closed = m.closed;
}

-- what so many further turns make from here on, all turns make from the start
abbrev pub Stands : (ℕ → ℕ → ℕ) → Part → ℕ → ℕ → Recorded → Recorded → Row → Row → ViewState → ViewState → Type 0
Stands draw p most left was now row after old mid = (recorded : Recorded) (last : Row) (new : ViewState) (end : Close) → MakesRecorded (block_of draw p left after.cases) now recorded after last mid new end → MakesRecorded (block_of draw p most row.cases) was recorded row last old new end

pub stands_more : (draw : ℕ → ℕ → ℕ) (p : Part) (most left : ℕ) (was now then : Recorded) (row after more : Row) (old mid next : ViewState)
    → Stands draw p most (suc left) was now row after old mid → CompletesOnce (turn_of draw p after.cases) now then after more mid next → Stands draw p most left was then row more old next
stands_more draw p most left was now then row after more old mid next stands goes recorded last new end m =
    stands recorded last new end (goes_then (turn_of draw p after.cases) (block_of draw p left) now then recorded after more last mid next new end goes m)

pub stands_end : (draw : ℕ → ℕ → ℕ) (p : Part) (most : ℕ) (was now : Recorded) (row after : Row) (old mid : ViewState) → Stands draw p most 0 was now row after old mid → now.pending ≡ [] → MakesRecorded (block_of draw p most row.cases) was now row after old mid close.More
stands_end draw p most was now row after old mid stands none = stands now after mid close.More (record {
  made = none_made after.cases law.More;
  meets = (evaluates_settled mid (Ok (none_made after.cases law.More))).meets;
  recorded = kept_recorded now none;
  counted = refl;
  closed = refl;
})

pub room_after : (block : (List ℕ → Meaning Made) → Meaning Made) (was now : Recorded) (row after : Row) (old mid : ViewState) → CompletesOnce block was now row after old mid → (length now.completions ≡ length was.completions + 1) × (now.pending ≡ [])
room_after block was now row after old mid goes = (ap (λ (t : Recorded). length t.completions) goes.recorded ∙ length-append was.completions (goes.completion ∷ []), ap (λ (t : Recorded). t.pending) goes.recorded)
