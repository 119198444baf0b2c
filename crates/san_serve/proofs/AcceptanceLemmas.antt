-- From a model and its syntax to the network of a text, or its refusal.
use Rattle.std.proofs.Common.{ℕ, ◌≤◌, ◌≡◌, ◌∙◌, ap, sym, refl, subst, arith, Bool, true, false, List, length, Option, Some, None, Result, Ok, Err}
use Rattle.std.specs.Prelude.{if◌then◌else◌, nat_lt}
use Rattle.std.specs.Option.{option_map}
use Rattle.san_text.specs.Texts.{parsed, refused}
use Rattle.san_text.specs.declared.syntax.Syntax.{Syntax}
use Rattle.san_text.specs.declared.text.Parsed.{Parsed}
use Rattle.san_text.specs.declared.text.Refusal.{Refusal}
use Rattle.san_text.proofs.CountLemmas.{spots_length}
use Rattle.san_check.specs.build.Cells.{elements_of}
use Rattle.san_check.specs.Checked.{IsOfText}
use Rattle.san_check.specs.walk.Entries.{code, ◌else◌, reported}
use Rattle.san_check.specs.build.Atomic.{atomics_of}
use Rattle.san_check.specs.build.Composition.{nodes_of, root_of}
use Rattle.san_check.specs.build.Reward.{rewards_of}
use Rattle.san_check.specs.walk.Model.{syntax_fault}
use Rattle.san_check.specs.declared.model.Model.{Model}
use Rattle.san_check.specs.declared.walk.Fault.{Fault}
use Rattle.san_check.proofs.WordLemmas.{word_is_there}
use Rattle.san_flat.specs.Flattened.{limit_passed}
use Rattle.san_flat.specs.Networks.{Composition, composition_in, count_of_acts, count_of_leaves, count_of_places, network_in, network_of_model}
use Rattle.san_flat.specs.declared.network.FlatFault.{FlatFault}
use Rattle.san_flat.specs.declared.network.FlatFault.TheVariants as fault
use Rattle.san_net.specs.Network.{Network}
use Rattle.san_serve.specs.Accepted.{accepted, accepted_syntax, checked, composition_of, limit_of, offset_of_word, within_limits}
use Rattle.san_serve.specs.inner.Accepted.{AcceptsNetwork}
use Rattle.san_base.specs.declared.limits.TheConstants.{MAX_ACTS, MAX_LEAVES, MAX_PLACES, MAX_TEXT_BYTES}
use Rattle.san_serve.specs.declared.codes.TheConstants.{TOO_MANY_ACTS, TOO_MANY_LEAVES, TOO_MANY_PLACES}
use Rattle.san_serve.specs.declared.acceptance.NotAccepted.{NotAccepted}
use Rattle.san_serve.proofs.OffsetLemmas.{few_spots}

pub is_read : (text : List ℕ) (x : Parsed) → length text ≤ MAX_TEXT_BYTES → parsed text ≡ Ok x → IsOfText x.syntax
is_read text x short is = record { text = text; found = x; short = short; parses = is; syntax = refl }

pub composed : (m : Model) (s : Syntax) → m.system ≡ s.system → m.atomics ≡ atomics_of s → m.tree.nodes ≡ nodes_of s → m.tree.root ≡ root_of s → m.rewards ≡ rewards_of s → m.cells ≡ elements_of s
    → composition_in m ≡ composition_of s
composed m s system atomics nodes root rewards cells = cc

-- ---- limits

abbrev Coded : Option FlatFault → Option ℕ → Type 0
Coded None number = number ≡ None
Coded (Some fault.Leaves) number = number ≡ Some TOO_MANY_LEAVES
Coded (Some fault.Places) number = number ≡ Some TOO_MANY_PLACES
Coded (Some fault.Acts) number = number ≡ Some TOO_MANY_ACTS
Coded (Some fault.NoMemory) number = Unit {0}

coded_as : (a b c : Bool) → Coded (if a then Some fault.Leaves else if b then Some fault.Places else if c then Some fault.Acts else None) (code TOO_MANY_LEAVES a else code TOO_MANY_PLACES b else code TOO_MANY_ACTS c)
coded_as true b c = refl
coded_as false true c = refl
coded_as false false true = refl
coded_as false false false = refl

code_at : (m : Model) (c : Composition) (o : Option FlatFault) → composition_in m ≡ c → limit_passed m ≡ o → Coded o (limit_of c)
code_at m c o is e =
    subst (λ (d : Composition). Coded o (limit_of d)) is
    (subst (λ (p : Option FlatFault). Coded p (limit_of (composition_in m))) e
    (coded_as (nat_lt MAX_LEAVES (count_of_leaves (composition_in m))) (nat_lt MAX_PLACES (count_of_places (composition_in m))) (nat_lt MAX_ACTS (count_of_acts (composition_in m)))))

pub fits : (text : List ℕ) (x : Parsed) (m : Model) (n : Network) → composition_in m ≡ composition_of x.syntax → n ≡ network_of_model m → limit_passed m ≡ None → within_limits text x (limit_of (composition_of x.syntax)) ≡ Ok n
fits text x m n is same none =
    let is_network : n ≡ network_in (composition_of x.syntax) = same ∙ ap network_in is in
    let accepts : Network → Result Network Refusal = λ (y : Network). Ok y in
    ap (within_limits text x) (code_at m (composition_of x.syntax) None is none) ∙ ap accepts (sym is_network)

pub has_many_leaves : (text : List ℕ) (x : Parsed) (m : Model) → composition_in m ≡ composition_of x.syntax → limit_passed m ≡ Some fault.Leaves
    → within_limits text x (limit_of (composition_of x.syntax)) ≡ Err (refused TOO_MANY_LEAVES text x.system)
has_many_leaves text x m is e = ap (within_limits text x) (code_at m (composition_of x.syntax) (Some fault.Leaves) is e)

pub has_many_places : (text : List ℕ) (x : Parsed) (m : Model) → composition_in m ≡ composition_of x.syntax → limit_passed m ≡ Some fault.Places
    → within_limits text x (limit_of (composition_of x.syntax)) ≡ Err (refused TOO_MANY_PLACES text x.system)
has_many_places text x m is e = ap (within_limits text x) (code_at m (composition_of x.syntax) (Some fault.Places) is e)

pub has_many_acts : (text : List ℕ) (x : Parsed) (m : Model) → composition_in m ≡ composition_of x.syntax → limit_passed m ≡ Some fault.Acts
    → within_limits text x (limit_of (composition_of x.syntax)) ≡ Err (refused TOO_MANY_ACTS text x.system)
has_many_acts text x m is e = ap (within_limits text x) (code_at m (composition_of x.syntax) (Some fault.Acts) is e)

-- ---- checks

accepted_by : (text : List ℕ) (x : Parsed) (f : Option Fault) → parsed text ≡ Ok x → syntax_fault x.syntax ≡ f → accepted text ≡ checked text x f
unfolding accepted
accepted_by text x f is e = ap (accepted_syntax text) is ∙ ap (checked text x) e

pub passes : (text : List ℕ) (x : Parsed) (r : Result Network NotAccepted) → parsed text ≡ Ok x → syntax_fault x.syntax ≡ None → AcceptsNetwork r (within_limits text x (limit_of (composition_of x.syntax)))
    → AcceptsNetwork r (accepted text)
passes text x r is none h = subst (AcceptsNetwork r) (sym (accepted_by text x None is none)) h

reported_at : (text : List ℕ) (x : Parsed) (number word : ℕ) (f : Option Fault) → ((g : Fault) → f ≡ Some g → g.word ≤ 4294967295) → option_map reported f ≡ Some (record { code = number; word = word })
    → checked text x f ≡ Err (refused number text (offset_of_word x word))
reported_at text x number word None small e = absurd cc
reported_at text x number word (Some g) small e =
    let is : reported g ≡ record { code = number; word = word } = cc in
    let below = small g refl in
    let first : g.code ≡ number = ap (λ (h : Fault). h.code) is in
    let second : g.word ≡ word = omega (arith, below, ap (λ (h : Fault). h.word) is) in
    ap (λ (n : ℕ). let r : Result Network Refusal = Err (refused n text (offset_of_word x g.word)) in r) first
    ∙ ap (λ (w : ℕ). let r : Result Network Refusal = Err (refused number text (offset_of_word x w)) in r) second

pub fails : (text : List ℕ) (x : Parsed) (number word : ℕ) → length text ≤ MAX_TEXT_BYTES → parsed text ≡ Ok x → option_map reported (syntax_fault x.syntax) ≡ Some (record { code = number; word = word })
    → accepted text ≡ Err (refused number text (offset_of_word x word))
fails text x number word short is e =
    let few = few_spots text x is in
    let same = spots_length text x is in
    accepted_by text x (syntax_fault x.syntax) is refl
    ∙ reported_at text x number word (syntax_fault x.syntax) (λ g at. let there = word_is_there x.syntax g at in omega (arith, few, same, there, short)) e

-- ---- grammar

pub not_parsed : (text : List ℕ) (refusal : Refusal) → parsed text ≡ Err refusal → accepted text ≡ Err refusal
unfolding accepted
not_parsed text refusal is = ap (accepted_syntax text) is
