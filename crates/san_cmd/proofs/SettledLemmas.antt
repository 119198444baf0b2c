-- From what a call answers of a source that tells what it has left to the one status that its bytes come to.
use Rattle.std.proofs.Common.{ℕ, ◌≡◌, ◌≤◌, ◌∙◌, ◌⊎◌, ap, sym, refl, subst, inl, inr, List, length, Option, None, Some, Ok, Err}
use Rattle.san_base.specs.declared.status.Status.{Status}
use Rattle.san_base.specs.declared.status.Status.TheVariants as status
use Rattle.san_net.specs.Network.{Network}
use Rattle.san_serve.specs.Accepted.{accepted}
use Rattle.san_gen.proofs.LengthLemmas.{short_text}
use Rattle.san_serve.specs.Answers.{StatusSays, TextSays}
use Rattle.san_serve.specs.Bounds.{model_bound}
use Rattle.san_serve.specs.Settled.{IsHindered}
use Rattle.san_serve.proofs.SettledLemmas.{of_read, of_refusal, of_text}
use Rattle.san_words.specs.Hears.{CanMake}
use Rattle.san_words.specs.declared.orders.Made.{Made}
use Rattle.san_words.specs.declared.orders.Orders.{Orders}
use Rattle.san_cmd.specs.Runs.{RunsFrom, made_text, run_meaning}
use Rattle.san_cmd.specs.Settled.{Settles, run_status, settled, shown_status, status_at}
use Rattle.san_cmd.specs.Shown.{show_meaning}

-- a status that hinders, or none
hinders : (s : Status) → IsHindered s ⊎ (IsHindered s → ⊥)
hinders status.Done = inr (λ h. h)
hinders status.Stopped = inr (λ h. h)
hinders status.Refused = inr (λ h. h)
hinders status.Words = inr (λ h. h)
hinders status.ReadFault = inl _
hinders status.WriteFault = inl _
hinders status.NoMemory = inl _

run_of_bytes : (o : Orders) (s : Status) (bytes : List ℕ) (rest old new : Option (List ℕ)) → StatusSays (run_meaning o) s (Some bytes) rest old new → (s ≡ status.Words → ⊥) → (IsHindered s → ⊥) → s ≡ settled o bytes
run_of_bytes o status.Done bytes rest old new h heard free =
    let ends : run_status o h.2.0 ≡ status.Done = ap status_at h.2.2.0.1 in
    sym (of_text Network model_bound accepted (run_status o) bytes h.0 rest (Ok h.2.0) h.1 h.2.1 ∙ ends)
run_of_bytes o status.Stopped bytes rest old new h heard free =
    let stops : run_status o h.2.0 ≡ status.Stopped = ap status_at h.2.2.0.1 in
    sym (of_text Network model_bound accepted (run_status o) bytes h.0 rest (Ok h.2.0) h.1 h.2.1 ∙ stops)
run_of_bytes o status.Refused bytes rest old new h heard free = of_refusal Network model_bound accepted (run_status o) bytes rest h.0 h.1
run_of_bytes o status.Words bytes rest old new h heard free = absurd (heard refl)
run_of_bytes o status.ReadFault bytes rest old new h heard free = absurd (free tt)
run_of_bytes o status.WriteFault bytes rest old new h heard free = absurd (free tt)
run_of_bytes o status.NoMemory bytes rest old new h heard free = absurd (free tt)

run_of_text : (o : Orders) (s : Status) (text : List ℕ) (old new : Option (List ℕ)) → length text ≤ model_bound.bytes → TextSays (run_meaning o) s text old new → (IsHindered s → ⊥) → s ≡ settled o text
run_of_text o status.Done text old new short h free =
    let ends : run_status o h.0 ≡ status.Done = ap status_at h.2.0.1 in
    sym (of_read Network model_bound accepted (run_status o) text (Ok h.0) short h.1 ∙ ends)
run_of_text o status.Stopped text old new short h free =
    let stops : run_status o h.0 ≡ status.Stopped = ap status_at h.2.0.1 in
    sym (of_read Network model_bound accepted (run_status o) text (Ok h.0) short h.1 ∙ stops)
run_of_text o status.Refused text old new short h free = sym (of_read Network model_bound accepted (run_status o) text (Err h.0) short h.1)
run_of_text o status.Words text old new short h free = absurd h
run_of_text o status.ReadFault text old new short h free = absurd h
run_of_text o status.WriteFault text old new short h free = absurd (free tt)
run_of_text o status.NoMemory text old new short h free = absurd (free tt)

same_bytes : (a b : List ℕ) → (let x : Option (List ℕ) = Some a in x) ≡ Some b → a ≡ b
same_bytes a b e = cc

settles : (make : Option Made) (o : Orders) (s : Status) (left rest old new : Option (List ℕ)) → CanMake make → RunsFrom make o s left rest old new → (s ≡ status.Words → ⊥) → (IsHindered s → ⊥) → Settles make o left s
settles None o s left rest old new can h heard free = λ bytes is. run_of_bytes o s bytes rest old new (subst (λ (l : Option (List ℕ)). StatusSays (run_meaning o) s l rest old new) is h) heard free
settles (Some made) o s left rest old new can h heard free = λ bytes is.
    run_of_text o s (made_text made) old new (short_text made.kind made.copies can.1) h.1 free ∙ ap (settled o) (same_bytes (made_text made) bytes is)

-- a text that was to be run
pub run_settled : (make : Option Made) (o : Orders) (s : Status) (left rest old new : Option (List ℕ)) → CanMake make → RunsFrom make o s left rest old new → (s ≡ status.Words → ⊥) → IsHindered s ⊎ Settles make o left s
run_settled make o s left rest old new can h heard = elim (hinders s) [
  | inl hinder ↦ inl hinder
  | inr free ↦ inr (settles make o s left rest old new can h heard free)
]

show_of_bytes : (s : Status) (bytes : List ℕ) (rest old new : Option (List ℕ)) → StatusSays show_meaning s (Some bytes) rest old new → (s ≡ status.Words → ⊥) → IsHindered s ⊎ (s ≡ shown_status bytes)
show_of_bytes status.Done bytes rest old new h heard = inr (sym (of_text Network model_bound accepted (λ network. status.Done) bytes h.0 rest (Ok h.2.1.1) h.1 h.2.1.3))
show_of_bytes status.Stopped bytes rest old new h heard = absurd h.2
show_of_bytes status.Refused bytes rest old new h heard = inr (of_refusal Network model_bound accepted (λ network. status.Done) bytes rest h.0 h.1)
show_of_bytes status.Words bytes rest old new h heard = absurd (heard refl)
show_of_bytes status.ReadFault bytes rest old new h heard = inl _
show_of_bytes status.WriteFault bytes rest old new h heard = inl _
show_of_bytes status.NoMemory bytes rest old new h heard = inl _

-- a text that was to be shown
pub show_settled : (s : Status) (left rest old new : Option (List ℕ)) → StatusSays show_meaning s left rest old new → (s ≡ status.Words → ⊥)
    → (bytes : List ℕ) → left ≡ Some bytes → IsHindered s ⊎ (s ≡ shown_status bytes)
show_settled s left rest old new h heard bytes is = show_of_bytes s bytes rest old new (subst (λ (l : Option (List ℕ)). StatusSays show_meaning s l rest old new) is h) heard
