-- Without a fault the atomics of a syntax are as they are accepted.
use Rattle.std.proofs.Common.{◌≡◌, ℕ, ◌+◌, ◌≤◌, Bool, true, false, cond, ◌||◌, nat_eq, nat_le, List, [], ◌∷◌, ◌++◌, length, map, Option, Some, None, IsTrue, All, refl, ap, subst, ◌∙◌, arith}
use Rattle.std.proofs.lemmas.List.{length-map}
use Rattle.std.proofs.lemmas.List.Elements.{All-cons, All-nil, All-append, All-head, All-tail}
use Rattle.std.proofs.lemmas.List.Sums.{sum_by-append}
use Rattle.std.proofs.lemmas.Slice.Eq.{bytes_eq-Decides}
use Rattle.std.specs.Prelude.{unwrap_or}
use Rattle.std.specs.List.{count_by}
use Rattle.san_text.specs.declared.syntax.PlaceDecl.{PlaceDecl}
use Rattle.san_text.specs.declared.syntax.ActDecl.{ActDecl}
use Rattle.san_text.specs.declared.syntax.ModelDecl.{ModelDecl}
use Rattle.san_text.specs.declared.syntax.ModelDecl.TheVariants as model
use Rattle.san_text.specs.declared.syntax.RewardDecl.{RewardDecl}
use Rattle.san_text.specs.declared.syntax.Syntax.{Syntax}
use Rattle.san_net.specs.Accepted.{IsAccepted, IsAcceptedActivity}
use Rattle.san_net.specs.Instants.{Named}
use Rattle.san_base.specs.Names.{is_name}
use Rattle.san_net.specs.declared.atomic.RateTerm.{RateTerm}
use Rattle.san_net.specs.declared.atomic.ImpulseTerm.{ImpulseTerm}
use Rattle.san_check.specs.declared.known.Known.{Known}
use Rattle.san_check.specs.Tables.{found, is_known, declared}
use Rattle.san_check.specs.walk.Entries.{code}
use Rattle.san_check.specs.walk.Expression.{Places}
use Rattle.san_check.specs.walk.Activity.{ActNames, act_code, act_entries}
use Rattle.san_check.specs.walk.Atomic.{places_entries, all_places, acts_entries, all_acts}
use Rattle.san_check.specs.walk.Composition.{Models, nothing, known_as, name_code, name_of, model_entries, known_of, with_model, models_entries, all_models, model_code}
use Rattle.san_check.specs.walk.Reward.{rewards_entries}
use Rattle.san_check.specs.walk.Model.{syntax_entries, syntax_fault}
use Rattle.san_check.specs.build.Cells.{CellTable, all_cells, all_values}
use Rattle.san_check.specs.build.Activity.{act_of}
use Rattle.san_check.specs.build.Term.{all_rates, all_impulses}
use Rattle.san_check.specs.build.Atomic.{acts_of, atomic_of, atomic_in, atomics_from, atomics_of}
use Rattle.san_check.specs.inner.Models.{HasFewActs}
use Rattle.san_check.specs.Formed.{IsFormedAct, IsFormedModel, IsFormed}
use Rattle.san_check.proofs.TableLemmas.{declared_last}
use Rattle.san_check.proofs.NumberLemmas.{found_front, known_itself}
use Rattle.san_check.proofs.FreshLemmas.{Fresh, none_fresh, fresh_more}
use Rattle.san_check.proofs.FreeLemmas.{Free, free_of, free_left, free_right, code_free, else_first, else_second, room}
use Rattle.san_check.proofs.TreeLemmas.{grows, models_grow}
use Rattle.san_check.proofs.ListedLemmas.{or_right}
use Rattle.san_check.proofs.FitLemmas.{Placed}
use Rattle.san_check.proofs.PlacedLemmas.{places_placed, found_new}
use Rattle.san_check.proofs.KindLemmas.{activity_good}
use Rattle.san_check.proofs.RewardLemmas.{times, rewards_good}

record GoodActs (places : Places) (cells : CellTable) (k n : ℕ) (acts : ActNames) (ds : List ActDecl) : Type 0 where
  pub few : n + length ds ≤ 256
  pub known : length (all_acts acts ds) ≤ length acts + length ds
  pub names : All (λ (x : Named). IsTrue (is_name x.0)) (acts_of cells ds)
  pub activities : All (λ (x : Named). IsAcceptedActivity k x.1) (acts_of cells ds)
  pub fresh : Fresh acts (map (λ (x : Named). x.0) (acts_of cells ds))

acts_good : (places : Places) (cells : CellTable) (k n : ℕ) (acts : ActNames) → Placed places cells k → (ds : List ActDecl) → n ≤ 256 → All IsFormedAct ds → Free (acts_entries places acts n ds) → GoodActs places cells k n acts ds
unfolding act_code
acts_good places cells k n acts at [] lt formed f = record {
  few = omega (arith, lt);
  known = omega arith;
  names = All-nil (λ (x : Named). IsTrue (is_name x.0));
  activities = All-nil (λ (x : Named). IsAcceptedActivity k x.1);
  fresh = none_fresh acts;
}
acts_good places cells k n acts at (d ∷ ds) lt formed f =
    let fits = room 256 n 41 (else_second (code 20 (is_known places d.name || is_known acts d.name)) (code 41 (nat_le 256 n)) f.0) in
    let new = or_right (is_known places d.name) (is_known acts d.name) (code_free 20 (is_known places d.name || is_known acts d.name) (else_first (code 20 (is_known places d.name || is_known acts d.name)) (code 41 (nat_le 256 n)) f.0)) in
    let next = declared acts d.name tt in
    let own = All-head IsFormedAct d ds formed in
    let one = activity_good places cells k at d own (free_left (act_entries places d) (acts_entries places next (n + 1) ds) f.1) in
    let more = acts_good places cells k (n + 1) next at ds (omega (arith, fits)) (All-tail IsFormedAct d ds formed) (free_right (act_entries places d) (acts_entries places next (n + 1) ds) f.1) in
    let grown = (grows acts d.name tt).2 in
    record {
      few = omega (arith, more.few);
      known = omega (arith, more.known, grown);
      names = All-cons (λ (x : Named). IsTrue (is_name x.0)) (act_of cells d) (acts_of cells ds) own.name more.names;
      activities = All-cons (λ (x : Named). IsAcceptedActivity k x.1) (act_of cells d) (acts_of cells ds) one more.activities;
      fresh = fresh_more acts d.name tt (map (λ (x : Named). x.0) (acts_of cells ds)) new more.fresh;
    }

-- a model that is new stands under its name for what it declares
model_found : (known : Models) (m : ModelDecl) (ms : List ModelDecl) → is_known known (name_of m) ≡ false → found (all_models known (m ∷ ms)) (name_of m) ≡ Some (known_of known m)
model_found known m ms new =
    let rest = models_grow (with_model known m) ms in
    let own = known_itself known (name_of m) (known_of known m) in
    ap (λ (t : Models). found t (name_of m)) rest.1 ∙ found_front (with_model known m) rest.0 (name_of m) own
    ∙ ap (λ (t : Models). found t (name_of m)) (declared_last known (name_of m) (known_of known m) new) ∙ found_new known (name_of m) (known_of known m) (name_of m) new
    ∙ ap (λ (b : Bool). cond b (Some (known_of known m)) None) ((bytes_eq-Decides (name_of m) (name_of m)).1 refl)

counts_join : (r : ℕ) (xs ys : List ℕ) → count_by (nat_eq r) (xs ++ ys) ≡ count_by (nat_eq r) xs + count_by (nat_eq r) ys
counts_join r xs ys = sum_by-append (λ (n : ℕ). cond (nat_eq r n) 1 0) xs ys

atomic_good : (all : Models) (name : List ℕ) (places : List PlaceDecl) (acts : List ActDecl) (rewards : List RewardDecl) → known_as all name ≡ record { atomic = true; places = all_places [] places; acts = all_acts [] acts }
    → Free (places_entries [] 0 places) → Free (acts_entries (all_places [] places) [] 0 acts) → All IsFormedAct acts → Free (rewards_entries all [] 0 rewards) → IsAccepted (atomic_of name places acts rewards)
atomic_good all name places acts rewards known f g formed h =
    let cells = all_cells [] 0 places in
    let k = length (all_values places) in
    let p = places_placed places f in
    let at : Placed (all_places [] places) cells k = subst (λ (n : ℕ). Placed (all_places [] places) cells n) (omega arith) p.placed in
    let a = acts_good (all_places [] places) cells k 0 [] at acts (omega arith) formed g in
    let r = rewards_good all name (all_places [] places) (all_acts [] acts) cells k at known [] 0 rewards (omega arith) h in
    let many = length-map acts (act_of cells) in
    record {
      cells = at.few;
      initial = p.values;
      few = omega (arith, a.few, many);
      names = a.names;
      apart = a.fresh.apart;
      activities = a.activities;
      instants = refl;
      rates = r.rates;
      impulses = λ i d lt. let t = r.impulses i d lt in (omega (arith, t.0, a.known, many), t.1);
      terms = λ n. let join = counts_join n (map (λ (t : RateTerm). t.reward) (all_rates cells name 0 rewards)) (map (λ (t : ImpulseTerm). t.reward) (all_impulses cells (all_acts [] acts) name 0 rewards)) in
          let most = r.few n in
          omega (arith, join, most);
    }

model_good : (all known : Models) (m : ModelDecl) (rewards : List RewardDecl) → known_as all (name_of m) ≡ known_of known m → Free (model_entries known m) → IsFormedModel m → Free (rewards_entries all [] 0 rewards) → All IsAccepted (atomic_in rewards m)
unfolding atomic_in model_entries known_of
model_good all known (model.Atomic name places acts) rewards is f formed h =
    All-cons IsAccepted (atomic_of name places acts rewards) [] (atomic_good all name places acts rewards is (free_left (places_entries [] 0 places) (acts_entries (all_places [] places) [] 0 acts) f) (free_right (places_entries [] 0 places) (acts_entries (all_places [] places) [] 0 acts) f) formed h) (All-nil IsAccepted)
model_good all known (model.Join name children shares) rewards is f formed h = All-nil IsAccepted
model_good all known (model.Rep name of times shares) rewards is f formed h = All-nil IsAccepted

atomics_good : (all known : Models) (n : ℕ) (rewards : List RewardDecl) (ms : List ModelDecl) → all ≡ all_models known ms → Free (models_entries known n ms) → All IsFormedModel ms → Free (rewards_entries all [] 0 rewards) → All IsAccepted (atomics_from rewards ms)
unfolding name_code
atomics_good all known n rewards [] is f formed h = All-nil IsAccepted
atomics_good all known n rewards (m ∷ ms) is f formed h =
    let new = code_free 20 (is_known known (name_of m)) (else_first (code 20 (is_known known (name_of m))) (code 42 (nat_le 256 n)) f.0) in
    let stands = ap (λ (t : Models). known_as t (name_of m)) is ∙ ap (λ (o : Option Known). unwrap_or o nothing) (model_found known m ms new) in
    All-append IsAccepted (atomic_in rewards m) (atomics_from rewards ms)
    (model_good all known m rewards stands (free_left (model_entries known m) (models_entries (with_model known m) (n + 1) ms) f.1) (All-head IsFormedModel m ms formed) h)
    (atomics_good all (with_model known m) (n + 1) rewards ms is (free_right (model_entries known m) (models_entries (with_model known m) (n + 1) ms) f.1) (All-tail IsFormedModel m ms formed) h)

pub accepted : (s : Syntax) → IsFormed s → syntax_fault s ≡ None → All IsAccepted (atomics_of s)
unfolding syntax_entries atomics_of
accepted s formed h =
    let all = all_models [] s.models in
    let free = (free_of 0 (syntax_entries s) h).1 in
    let behind = free_right (models_entries [] 0 s.models) (model_code all s.system ∷ rewards_entries all [] 0 s.rewards) free in
    atomics_good all [] 0 s.rewards s.models refl (free_left (models_entries [] 0 s.models) (model_code all s.system ∷ rewards_entries all [] 0 s.rewards) free) formed.models behind.1

acts_few : (places : Places) (acts : ActNames) (n : ℕ) (ds : List ActDecl) → n ≤ 256 → Free (acts_entries places acts n ds) → n + length ds ≤ 256
unfolding act_code
acts_few places acts n [] lt f = omega (arith, lt)
acts_few places acts n (d ∷ ds) lt f =
    let fits = room 256 n 41 (else_second (code 20 (is_known places d.name || is_known acts d.name)) (code 41 (nat_le 256 n)) f.0) in
    let more = acts_few places (declared acts d.name tt) (n + 1) ds (omega (arith, fits)) (free_right (act_entries places d) (acts_entries places (declared acts d.name tt) (n + 1) ds) f.1) in
    omega (arith, more)

few_in : (known : Models) (m : ModelDecl) → Free (model_entries known m) → HasFewActs m
unfolding model_entries
few_in known (model.Atomic name places acts) f = let few = acts_few (all_places [] places) [] 0 acts (omega arith) (free_right (places_entries [] 0 places) (acts_entries (all_places [] places) [] 0 acts) f) in omega (arith, few)
few_in known (model.Join name children shares) f = tt
few_in known (model.Rep name of times shares) f = tt

few_in_all : (known : Models) (n : ℕ) (ms : List ModelDecl) → Free (models_entries known n ms) → All HasFewActs ms
few_in_all known n [] f = All-nil HasFewActs
few_in_all known n (m ∷ ms) f =
    All-cons HasFewActs m ms (few_in known m (free_left (model_entries known m) (models_entries (with_model known m) (n + 1) ms) f.1)) (few_in_all (with_model known m) (n + 1) ms (free_right (model_entries known m) (models_entries (with_model known m) (n + 1) ms) f.1))

-- no atomic has too many activities
pub few_acts : (s : Syntax) → syntax_fault s ≡ None → All HasFewActs s.models
unfolding syntax_entries
few_acts s h =
    let all = all_models [] s.models in
    few_in_all [] 0 s.models (free_left (models_entries [] 0 s.models) (model_code all s.system ∷ rewards_entries all [] 0 s.rewards) (free_of 0 (syntax_entries s) h).1)
