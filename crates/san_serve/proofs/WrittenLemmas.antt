-- A program that writes one text: the status that its bytes come to.
use Rattle.std.proofs.Common.{ℕ, ◌≡◌, ◌⊎◌, sym, subst, refl, inl, inr, List, Bool, true, false, Option, Some, Result, Ok, Err}
use Rattle.std.specs.Prelude.{MatchBool}
use Rattle.san_base.specs.Flow.{Appends, AppendsPrefix}
use Rattle.san_base.specs.declared.status.Status.{Status}
use Rattle.san_base.specs.declared.status.Status.TheVariants as status
use Rattle.san_net.specs.Network.{Network}
use Rattle.san_text.specs.declared.text.Refusal.{Refusal}
use Rattle.san_serve.specs.Answers.{StatusSays, TextSays}
use Rattle.san_serve.specs.Bounds.{model_bound}
use Rattle.san_serve.specs.Notes.{IsLine}
use Rattle.san_serve.specs.Settled.{IsHindered}
use Rattle.san_serve.specs.Written.{text_meaning, text_status}
use Rattle.san_serve.proofs.SettledLemmas.{of_refusal, of_text}

-- the line of the notes, of refusals that are others too
pub line_of : (s : Status) (P Q : Refusal → Type 0) (line : List ℕ) → ((r : Refusal) → P r → Q r) → IsLine s P line → IsLine s Q line
line_of status.Refused P Q line all h = (h.0, all h.0 h.1, h.2)
line_of status.Done P Q line all h = h
line_of status.Stopped P Q line all h = h
line_of status.Words P Q line all h = h
line_of status.ReadFault P Q line all h = h
line_of status.WriteFault P Q line all h = h
line_of status.NoMemory P Q line all h = h

module _ (read : List ℕ → Result Network Refusal) (text_of : Network → List ℕ) where
  -- a text that was put, or that the sink failed at
  pub put_text : (done : Bool) (n : Network) (bytes text : List ℕ) (old new : Option (List ℕ)) → read bytes ≡ Ok n → text ≡ text_of n → MatchBool done (Appends old new text) (AppendsPrefix old new text)
      → MatchBool done (TextSays (text_meaning read text_of) status.Done bytes old new) (TextSays (text_meaning read text_of) status.WriteFault bytes old new)
  put_text true n bytes text old new is e h = (n, is, subst (Appends old new) e h)
  put_text false n bytes text old new is e h = (n, is, subst (AppendsPrefix old new) e h)

  pub never_stops : (s : Status) (left rest old new : Option (List ℕ)) → StatusSays (text_meaning read text_of) s left rest old new → s ≡ status.Stopped → ⊥
  never_stops s left rest old new h e = (subst (λ (x : Status). StatusSays (text_meaning read text_of) x left rest old new) e h).2

  of_bytes : (s : Status) (bytes : List ℕ) (rest old new : Option (List ℕ)) → StatusSays (text_meaning read text_of) s (Some bytes) rest old new → (s ≡ status.Words → ⊥) → IsHindered s ⊎ (s ≡ text_status read bytes)
  of_bytes status.Done bytes rest old new h heard = inr (sym (of_text Network model_bound read (λ n. status.Done) bytes h.0 rest (Ok h.2.0) h.1 h.2.1))
  of_bytes status.Stopped bytes rest old new h heard = absurd h.2
  of_bytes status.Refused bytes rest old new h heard = inr (of_refusal Network model_bound read (λ n. status.Done) bytes rest h.0 h.1)
  of_bytes status.Words bytes rest old new h heard = absurd (heard refl)
  of_bytes status.ReadFault bytes rest old new h heard = inl _
  of_bytes status.WriteFault bytes rest old new h heard = inl _
  of_bytes status.NoMemory bytes rest old new h heard = inl _

  pub text_settled : (s : Status) (left rest old new : Option (List ℕ)) → StatusSays (text_meaning read text_of) s left rest old new → (s ≡ status.Words → ⊥) → (bytes : List ℕ) → left ≡ Some bytes → IsHindered s ⊎ (s ≡ text_status read bytes)
  text_settled s left rest old new h heard bytes is = of_bytes s bytes rest old new (subst (λ (l : Option (List ℕ)). StatusSays (text_meaning read text_of) s l rest old new) is h) heard
