-- The one status that the bytes of a model text come to, where no fault and no want of memory stands in the way.
use Rattle.std.specs.Prelude.{ℕ, ◌≡◌, List, Option, None, Some}
use Rattle.san_base.specs.declared.ending.Ending.{Ending}
use Rattle.san_base.specs.declared.ending.Ending.TheVariants as ending
use Rattle.san_base.specs.declared.status.Status.{Status}
use Rattle.san_base.specs.declared.status.Status.TheVariants as status
use Rattle.san_net.specs.Network.{Network}
use Rattle.san_plain.specs.Reports.{ending_of}
use Rattle.san_serve.specs.Accepted.{accepted}
use Rattle.san_serve.specs.Bounds.{model_bound}
use Rattle.san_serve.specs.Settled.{settled_by}
use Rattle.san_words.specs.declared.orders.Made.{Made}
use Rattle.san_words.specs.declared.orders.Orders.{Orders}
use Rattle.san_cmd.specs.Runs.{made_text, run_by}

-- a run that stops, or else comes to its horizon
abbrev pub status_at : Option Ending → Status
status_at (Some (ending.Stop why)) = status.Stopped
status_at e = status.Done

abbrev pub run_status : Orders → Network → Status
run_status o network = status_at (ending_of (run_by network o))

-- that of bytes that are run
abbrev pub settled : Orders → List ℕ → Status
settled o bytes = settled_by model_bound accepted (run_status o) bytes

-- the bytes that are run: those of the source, where it tells them, or the generated text
abbrev pub bytes_from : Option Made → Option (List ℕ) → Option (List ℕ)
bytes_from None left = left
bytes_from (Some made) left = Some (made_text made)

abbrev pub Settles : Option Made → Orders → Option (List ℕ) → Status → Type 0
Settles make o left s = (bytes : List ℕ) → bytes_from make left ≡ Some bytes → s ≡ settled o bytes

-- that of bytes that are shown
abbrev pub shown_status : List ℕ → Status
shown_status bytes = settled_by model_bound accepted (λ network. status.Done) bytes
