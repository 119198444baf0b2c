-- The text that is accepted: its network, or its one refusal. Four stages follow one another, and the first that fails refuses: the tokens and
-- the grammar (E03 to E09), the checks of the words (E20 to E55), the limits of a network (E50 to E52).
use Rattle.std.specs.Prelude.{ℕ, ◌≡◌, nat_lt, slice_get, unwrap_or, List, Option, Some, None, Result, Ok, Err}
use Rattle.san_text.specs.Texts.{parsed, refused}
use Rattle.san_text.specs.declared.syntax.Syntax.{Syntax}
use Rattle.san_text.specs.declared.text.Parsed.{Parsed}
use Rattle.san_text.specs.declared.text.Refusal.{Refusal}
use Rattle.san_check.specs.build.Cells.{elements_of}
use Rattle.san_check.specs.walk.Entries.{code, ◌else◌}
use Rattle.san_check.specs.build.Atomic.{atomics_of}
use Rattle.san_check.specs.build.Composition.{nodes_of, root_of}
use Rattle.san_check.specs.build.Reward.{rewards_of}
use Rattle.san_check.specs.walk.Model.{syntax_fault}
use Rattle.san_check.specs.declared.walk.Fault.{Fault}
use Rattle.san_flat.specs.Networks.{Composition, count_of_acts, count_of_leaves, count_of_places, network_in}
use Rattle.san_net.specs.Network.{Network}
use Rattle.san_base.specs.declared.limits.TheConstants.{MAX_ACTS, MAX_LEAVES, MAX_PLACES}
use Rattle.san_serve.specs.declared.codes.TheConstants.{TOO_MANY_ACTS, TOO_MANY_LEAVES, TOO_MANY_PLACES}
use Rattle.san_serve.specs.declared.acceptance.Accepted.{Accepted}
use Rattle.san_serve.specs.declared.acceptance.NotAccepted.{NotAccepted}
use Rattle.san_serve.specs.declared.acceptance.NotAccepted.TheVariants as not_accepted
use Rattle.san_serve.specs.declared.task.Served.{Served}
use Rattle.san_serve.specs.declared.task.Served.TheVariants as served

-- what a syntax is composed of, whether or not it passes the checks
abbrev pub composition_of : Syntax → Composition
composition_of s = record { system = s.system; atomics = atomics_of s; nodes = nodes_of s; root = root_of s; rewards = rewards_of s; cells = elements_of s }

-- E50 to E52: the first limit that such numbers of leaves, places and activities pass
abbrev pub limit_code : ℕ → ℕ → ℕ → Option ℕ
limit_code leaves places acts = code TOO_MANY_LEAVES (nat_lt MAX_LEAVES leaves) else code TOO_MANY_PLACES (nat_lt MAX_PLACES places) else code TOO_MANY_ACTS (nat_lt MAX_ACTS acts)

abbrev pub limit_of : Composition → Option ℕ
limit_of c = limit_code (count_of_leaves c) (count_of_places c) (count_of_acts c)

-- where a word stands: a name or number, which are numbered from 0
abbrev pub offset_of_word : Parsed → ℕ → ℕ
offset_of_word x word = unwrap_or (slice_get x.spots word) x.system

-- the limits are said at the system's name
abbrev pub within_limits : List ℕ → Parsed → Option ℕ → Result Network Refusal
within_limits text x (Some number) = Err (refused number text x.system)
within_limits text x None = Ok (network_in (composition_of x.syntax))

abbrev pub checked : List ℕ → Parsed → Option Fault → Result Network Refusal
checked text x (Some fault) = Err (refused fault.code text (offset_of_word x fault.word))
checked text x None = within_limits text x (limit_of (composition_of x.syntax))

abbrev pub accepted_syntax : List ℕ → Result Parsed Refusal → Result Network Refusal
accepted_syntax text (Ok x) = checked text x (syntax_fault x.syntax)
accepted_syntax text (Err refusal) = Err refusal

-- the network of a text, or its refusal
unfoldable pub accepted : List ℕ → Result Network Refusal
accepted text = accepted_syntax text (parsed text)

abbrev pub RefusesText : NotAccepted → Result Network Refusal → Type 0
RefusesText (not_accepted.Refused refusal) read = read ≡ Err refusal
RefusesText not_accepted.NoMemory read = Unit {0}

-- what was answered is what the text is, unless memory ran out
abbrev pub Accepts : Result Accepted NotAccepted → List ℕ → Type 0
Accepts (Ok a) text = (parsed text ≡ Ok a.parsed) × (accepted text ≡ Ok a.flat)
Accepts (Err e) text = RefusesText e (accepted text)

-- a text that isn't accepted is refused so
abbrev pub IsRefusedText : List ℕ → Refusal → Type 0
IsRefusedText text refusal = accepted text ≡ Err refusal

-- what serving a text comes to that isn't accepted
abbrev pub unserved : NotAccepted → Served
unserved (not_accepted.Refused refusal) = served.Refused refusal
unserved not_accepted.NoMemory = served.NoMemory
