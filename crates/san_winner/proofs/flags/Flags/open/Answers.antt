use Rattle.std.proofs.Common.{arith, ◌∙◌, ◌≡◌, ◌+◌, ◌≤◌, ap, sym, refl, subst, suc, length, replicate, true, ℕ, List, Option, Some}
use Rattle.std.proofs.lemmas.List.{length-set}
use Rattle.san_winner.specs.Flags.{AreKeys}
use Rattle.san_winner.proofs.FlagLemmas.{UpTo, all_up, keys_none, keys_set, long_none, up_enough, up_more}
use Rattle.san_winner.proofs.flags.Flags.open.Goals as goal

pub flags-init : goal.flags-init
flags-init c = record {
  sized = ap (λ (xs : List (Option ℕ)). length xs) c.in_ok-keys.ensures ∙ long_none c.args.many;
  keys = subst AreKeys (sym c.in_ok-keys.ensures) (keys_none c.args.many);
  up = tt;
}

pub flags-preserved : goal.flags-preserved
flags-preserved c =
    let k = c.flags.at in
    let next : suc k ≡ k + 1 = omega arith in
    record {
      sized = ap (λ (xs : List (Option ℕ)). length xs) c.set.ensures ∙ length-set c.flags.keys k (Some 0) ∙ c.flags.invariant.sized;
      keys = subst AreKeys (sym c.set.ensures) (keys_set c.flags.keys k (Some 0) refl c.flags.invariant.keys);
      up = subst (λ (n : ℕ). UpTo n c.set.new.self) next (subst (UpTo (suc k)) (sym c.set.ensures) (up_more k c.flags.keys c.flags.invariant.up));
    }

pub returns : goal.returns
returns c =
    let all : length c.flags.keys ≤ c.flags.at = omega (arith, c.flags-test.false, c.flags.invariant.sized) in
    all_up c.flags.keys (up_enough c.flags.at c.flags.keys all c.flags.invariant.up) ∙ ap (λ (n : ℕ). replicate n true) c.flags.invariant.sized
