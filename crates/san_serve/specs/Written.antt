-- A program that writes one text for the network that its bytes are read as.
use Rattle.std.specs.Prelude.{ℕ, ◌≡◌, List, Option, Result, Ok, Err}
use Rattle.san_base.specs.Flow.{Appends, AppendsPrefix}
use Rattle.san_base.specs.declared.status.Status.{Status}
use Rattle.san_base.specs.declared.status.Status.TheVariants as status
use Rattle.san_net.specs.Network.{Network}
use Rattle.san_text.specs.declared.text.Refusal.{Refusal}
use Rattle.san_serve.specs.Bounds.{model_bound}
use Rattle.san_serve.specs.Settled.{settled_by}
use Rattle.san_serve.specs.Tasks.{TaskMeaning}
use Rattle.san_serve.specs.declared.task.Served.{Served}
use Rattle.san_serve.specs.declared.task.Served.TheVariants as served

-- what stands in the sink after what it held: the text, or a front part of it after a fault
abbrev pub WritesFor : (List ℕ → Result Network Refusal) → (Network → List ℕ) → Served → List ℕ → Option (List ℕ) → Option (List ℕ) → Type 0
WritesFor read text_of served.Done bytes old new = (n : Network) × (read bytes ≡ Ok n) × Appends old new (text_of n)
WritesFor read text_of served.WriteFault bytes old new = (n : Network) × (read bytes ≡ Ok n) × AppendsPrefix old new (text_of n)
WritesFor read text_of s bytes old new = ⊥

-- by how bytes are read, and by the text for a network
abbrev pub text_meaning : (List ℕ → Result Network Refusal) → (Network → List ℕ) → TaskMeaning
text_meaning read text_of = record { bound = model_bound; refuses = λ bytes refusal. read bytes ≡ Err refusal; says = WritesFor read text_of }

-- the one status that the bytes come to, where no fault and no want of memory stands in the way
abbrev pub text_status : (List ℕ → Result Network Refusal) → List ℕ → Status
text_status read bytes = settled_by model_bound read (λ n. status.Done) bytes
