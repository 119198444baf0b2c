-- From what serving bytes came to, to the status and the line of the notes.
use Rattle.std.proofs.Common.{ℕ, ◌+◌, ◌≡◌, ◌∙◌, List, Option, Result, Ok, Err, refl, ap, subst, sym, inl, inr}
use Rattle.san_base.specs.Flow.{TakesFirst}
use Rattle.san_base.specs.declared.status.Status.{Status}
use Rattle.san_base.specs.declared.status.Status.TheVariants as status
use Rattle.san_text.specs.declared.text.Refusal.{Refusal}
use Rattle.san_serve.specs.Answers.{StatusSays, TextSays, IsRefused, ServesBytes}
use Rattle.san_serve.specs.Bounds.{IsRead, too_long}
use Rattle.san_serve.specs.declared.bound.Bound.{Bound}
use Rattle.san_serve.specs.Notes.{Concludes, IsLine, status_line}
use Rattle.san_serve.specs.Tasks.{TaskMeaning}
use Rattle.san_serve.specs.inner.Serving.{Serves, ServesText, answer_of}
use Rattle.san_serve.specs.declared.task.Served.{Served}
use Rattle.san_serve.specs.declared.task.Served.TheVariants as served

-- bytes that were served
served_text : (m : TaskMeaning) (s : Served) (text : List ℕ) (old new : Option (List ℕ)) → ServesBytes m s text old new → ServesText m (answer_of s) text old new
served_text m served.Done text old new h = h
served_text m served.Stopped text old new h = h
served_text m served.WriteFault text old new h = h
served_text m served.NoMemory text old new h = h
served_text m (served.Refused refusal) text old new h = h

pub serves_text : (m : TaskMeaning) (s : Served) (answer : Result Status Refusal) (text : List ℕ) (old new : Option (List ℕ)) → answer ≡ answer_of s → ServesBytes m s text old new → ServesText m answer text old new
serves_text m s answer text old new e h = subst (λ (a : Result Status Refusal). ServesText m a text old new) (sym e) (served_text m s text old new h)

-- and that were read
pub serves_read : (m : TaskMeaning) (answer : Result Status Refusal) (bytes : List ℕ) (left rest old new : Option (List ℕ)) → IsRead m.bound left rest bytes → ServesText m answer bytes old new → Serves m answer left rest old new
serves_read m (Ok status.Done) bytes left rest old new is h = (bytes, is, h)
serves_read m (Ok status.Stopped) bytes left rest old new is h = (bytes, is, h)
serves_read m (Ok status.WriteFault) bytes left rest old new is h = (bytes, is, h)
serves_read m (Ok status.NoMemory) bytes left rest old new is h = h
serves_read m (Ok status.Refused) bytes left rest old new is h = absurd h
serves_read m (Ok status.ReadFault) bytes left rest old new is h = absurd h
serves_read m (Ok status.Words) bytes left rest old new is h = absurd h
serves_read m (Err refusal) bytes left rest old new is h = (inr (bytes, is, h.0), h.1)

-- more bytes than are served
pub serves_none : (m : TaskMeaning) (b : Bound) (refusal : Refusal) (left rest old new : Option (List ℕ)) → b ≡ m.bound → refusal ≡ too_long b → TakesFirst left rest (b.bytes + 1) → new ≡ old → Serves m (Err refusal) left rest old new
serves_none m b refusal left rest old new is e takes same = (inl (subst (λ (x : Bound). TakesFirst left rest (x.bytes + 1)) is takes, e ∙ ap too_long is), same)

-- a write fault is one of serving, and no read fault is
fault_of_write : (s : Served) → answer_of s ≡ Ok status.WriteFault → s ≡ served.WriteFault
fault_of_write served.Done e = absurd cc
fault_of_write served.Stopped e = absurd cc
fault_of_write served.WriteFault e = refl
fault_of_write served.NoMemory e = absurd cc
fault_of_write (served.Refused refusal) e = absurd cc

pub wrote_badly : (s : Served) (answer : Result Status Refusal) → answer ≡ answer_of s → answer ≡ Ok status.WriteFault → s ≡ served.WriteFault
wrote_badly s answer is e = fault_of_write s (sym is ∙ e)

pub was_read : (m : TaskMeaning) (answer : Result Status Refusal) (text : List ℕ) (old new : Option (List ℕ)) → ServesText m answer text old new → answer ≡ Ok status.ReadFault → ⊥
was_read m answer text old new h e = subst (λ (a : Result Status Refusal). ServesText m a text old new) e h

-- what the status says, and the line of the notes
pub record Concluded (m : TaskMeaning) (s : Status) (left rest old new : Option (List ℕ)) (IsPut : List ℕ → Type 0) : Type 0 where
  pub answers : StatusSays m s left rest old new
  pub noted : (line : List ℕ) × IsLine s (IsRefused m.bound m.refuses left rest) line × IsPut line
  pub heard : s ≡ status.Words → ⊥

with_status : (m : TaskMeaning) (s : Status) (left rest old new : Option (List ℕ)) (IsPut : List ℕ → Type 0) → Serves m (Ok s) left rest old new → IsPut (status_line s) → Concluded m s left rest old new IsPut
with_status m status.Done left rest old new IsPut h t = record { answers = h; noted = (_, refl, t); heard = λ e. absurd cc }
with_status m status.Words left rest old new IsPut h t = absurd h
with_status m status.Refused left rest old new IsPut h t = absurd h
with_status m status.ReadFault left rest old new IsPut h t = record { answers = h; noted = (_, refl, t); heard = λ e. absurd cc }
with_status m status.WriteFault left rest old new IsPut h t = record { answers = h; noted = (_, refl, t); heard = λ e. absurd cc }
with_status m status.Stopped left rest old new IsPut h t = record { answers = h; noted = (_, refl, t); heard = λ e. absurd cc }
with_status m status.NoMemory left rest old new IsPut h t = record { answers = h; noted = (_, refl, t); heard = λ e. absurd cc }

with_refusal : (m : TaskMeaning) (r : Refusal) (s : Status) (left rest old new : Option (List ℕ)) (IsPut : List ℕ → Type 0) → Serves m (Err r) left rest old new → Concludes (Err r) s IsPut → Concluded m s left rest old new IsPut
with_refusal m r status.Done left rest old new IsPut h t = absurd t
with_refusal m r status.Words left rest old new IsPut h t = absurd t
with_refusal m r status.Refused left rest old new IsPut h t = record { answers = (r, h.0, h.1); noted = (_, (r, h.0, refl), t); heard = λ e. absurd cc }
with_refusal m r status.ReadFault left rest old new IsPut h t = absurd t
with_refusal m r status.WriteFault left rest old new IsPut h t = absurd t
with_refusal m r status.Stopped left rest old new IsPut h t = absurd t
with_refusal m r status.NoMemory left rest old new IsPut h t = record { answers = h.1; noted = (_, refl, t); heard = λ e. absurd cc }

pub concluded : (m : TaskMeaning) (answer : Result Status Refusal) (s : Status) (left rest old new : Option (List ℕ)) (IsPut : List ℕ → Type 0) → Serves m answer left rest old new → Concludes answer s IsPut → Concluded m s left rest old new IsPut
concluded m (Ok was) s left rest old new IsPut h t = subst (λ (x : Status). Concluded m x left rest old new IsPut) (sym t.0) (with_status m was left rest old new IsPut h t.1)
concluded m (Err r) s left rest old new IsPut h t = with_refusal m r s left rest old new IsPut h t

-- the same of a text that needn't be read
pub record TextConcluded (m : TaskMeaning) (s : Status) (text : List ℕ) (old new : Option (List ℕ)) (IsPut : List ℕ → Type 0) : Type 0 where
  pub answers : TextSays m s text old new
  pub noted : (line : List ℕ) × IsLine s (m.refuses text) line × IsPut line

text_with_status : (m : TaskMeaning) (s : Status) (text : List ℕ) (old new : Option (List ℕ)) (IsPut : List ℕ → Type 0) → ServesText m (Ok s) text old new → IsPut (status_line s) → TextConcluded m s text old new IsPut
text_with_status m status.Done text old new IsPut h t = record { answers = h; noted = (_, refl, t) }
text_with_status m status.Stopped text old new IsPut h t = record { answers = h; noted = (_, refl, t) }
text_with_status m status.WriteFault text old new IsPut h t = record { answers = h; noted = (_, refl, t) }
text_with_status m status.NoMemory text old new IsPut h t = record { answers = h; noted = (_, refl, t) }
text_with_status m status.Refused text old new IsPut h t = absurd h
text_with_status m status.ReadFault text old new IsPut h t = absurd h
text_with_status m status.Words text old new IsPut h t = absurd h

text_with_refusal : (m : TaskMeaning) (r : Refusal) (s : Status) (text : List ℕ) (old new : Option (List ℕ)) (IsPut : List ℕ → Type 0) → ServesText m (Err r) text old new → Concludes (Err r) s IsPut → TextConcluded m s text old new IsPut
text_with_refusal m r status.Done text old new IsPut h t = absurd t
text_with_refusal m r status.Words text old new IsPut h t = absurd t
text_with_refusal m r status.Refused text old new IsPut h t = record { answers = (r, h.0, h.1); noted = (_, (r, h.0, refl), t) }
text_with_refusal m r status.ReadFault text old new IsPut h t = absurd t
text_with_refusal m r status.WriteFault text old new IsPut h t = absurd t
text_with_refusal m r status.Stopped text old new IsPut h t = absurd t
text_with_refusal m r status.NoMemory text old new IsPut h t = record { answers = h.1; noted = (_, refl, t) }

pub text_concluded : (m : TaskMeaning) (answer : Result Status Refusal) (s : Status) (text : List ℕ) (old new : Option (List ℕ)) (IsPut : List ℕ → Type 0) → ServesText m answer text old new → Concludes answer s IsPut → TextConcluded m s text old new IsPut
text_concluded m (Ok was) s text old new IsPut h t = subst (λ (x : Status). TextConcluded m x text old new IsPut) (sym t.0) (text_with_status m was text old new IsPut h t.1)
text_concluded m (Err r) s text old new IsPut h t = text_with_refusal m r s text old new IsPut h t
