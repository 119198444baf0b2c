-- The answers of a run.
use Rattle.std.proofs.Common.{ℕ, ◌≡◌, ◌∙◌, ◌⊎◌, List, Option, None, Some, Ok, inl, inr, is_some, refl, subst, sym, true}
use Rattle.clap.specs.Simple.{App}
use Rattle.clap.specs.Walk.{Text}
use Rattle.san_base.specs.declared.status.Status.{Status}
use Rattle.san_base.specs.declared.status.Status.TheVariants as status
use Rattle.san_net.specs.Network.{Network}
use Rattle.san_words.specs.Commands.{IsTaken}
use Rattle.san_words.specs.Hears.{CanMake, CanRun, Hears, MakeSays, Texts, is_given, texts_of}
use Rattle.san_words.specs.declared.options.NumberOption.TheVariants.{Make}
use Rattle.san_words.specs.declared.orders.Heard.{Heard}
use Rattle.san_words.specs.declared.orders.Heard.TheVariants as heard
use Rattle.san_words.specs.declared.orders.Made.{Made}
use Rattle.san_words.specs.declared.orders.Orders.{Orders}
use Rattle.san_text.specs.declared.text.Refusal.{Refusal}
use Rattle.san_serve.specs.Accepted.{IsRefusedText, accepted}
use Rattle.san_serve.specs.Answers.{IsRefused, ServesBytes}
use Rattle.san_serve.specs.Bounds.{model_bound}
use Rattle.san_serve.specs.Notes.{IsLine}
use Rattle.san_serve.specs.Settled.{IsHindered}
use Rattle.san_serve.specs.declared.task.Served.{Served}
use Rattle.san_serve.specs.declared.task.Served.TheVariants as served
use Rattle.san_cmd.specs.Runs.{Ran, RefusesFrom, RunRefuses, RunsWords, RunsFrom, output_of, run_by, run_meaning}
use Rattle.san_cmd.specs.Settled.{Settles}
use Rattle.san_cmd.specs.inner.Heard.{HeardAnswers, HeardRefuses, IsUnread}
use Rattle.san_cmd.proofs.SettledLemmas.{run_settled}

pub ran_text : (o : Orders) (network : Network) (s : Served) (text : List ℕ) (old new : Option (List ℕ)) → accepted text ≡ Ok network → Ran (output_of o.make (run_by network o)) (run_by network o) s old new → ServesBytes (run_meaning o) s text old new
ran_text o network served.Done text old new is h = (network, is, h)
ran_text o network served.Stopped text old new is h = (network, is, h)
ran_text o network served.WriteFault text old new is h = (network, is, h)
ran_text o network served.NoMemory text old new is h = h
ran_text o network (served.Refused refusal) text old new is h = absurd h

-- what is answered to words, by what was heard of them
pub record Answered (app : App) (Say : Texts → Orders → Type 0) (words : List Text) (s : Status) (left rest old new : Option (List ℕ)) : Type 0 where
  pub answer : RunsWords app Say words s left rest old new
  pub refused : s ≡ status.Words → IsTaken app words → ⊥
  pub taken : (IsTaken app words → ⊥) → (s ≡ status.Words) ⊎ (s ≡ status.NoMemory)

-- the line of the notes, of refusals that are others too
pub line_of : (s : Status) (P Q : Refusal → Type 0) (line : List ℕ) → ((r : Refusal) → P r → Q r) → IsLine s P line → IsLine s Q line
line_of status.Refused P Q line all h = (h.0, all h.0 h.1, h.2)
line_of status.Done P Q line all h = h
line_of status.Stopped P Q line all h = h
line_of status.Words P Q line all h = h
line_of status.ReadFault P Q line all h = h
line_of status.WriteFault P Q line all h = h
line_of status.NoMemory P Q line all h = h

-- what may be refused, by where the model comes from, and by what was heard
pub read_refuses : (make : Option Made) (left rest : Option (List ℕ)) (refusal : Refusal) → make ≡ None → IsRefused model_bound IsRefusedText left rest refusal → RefusesFrom make left rest refusal
read_refuses make left rest refusal is h = subst (λ (m : Option Made). RefusesFrom m left rest refusal) (sym is) h

pub orders_refuse : (x : Heard) (o : Orders) (left rest : Option (List ℕ)) (refusal : Refusal) → x ≡ heard.Run o → RefusesFrom o.make left rest refusal → HeardRefuses x left rest refusal
orders_refuse x o left rest refusal is h = subst (λ (y : Heard). HeardRefuses y left rest refusal) (sym is) h

nothing_written : (make : Option Made) (o : Orders) (left rest old new : Option (List ℕ)) → RunsFrom make o status.NoMemory left rest old new → new ≡ old
nothing_written None o left rest old new h = h
nothing_written (Some made) o left rest old new h = h.1

module _ (app : App) (Say : Texts → Orders → Type 0) (words : List Text) where
  ordered : (o : Orders) (s : Status) (left rest old new : Option (List ℕ)) → Hears Say app words (heard.Run o) → HeardAnswers (heard.Run o) s left rest old new → RunsWords app Say words s left rest old new
  ordered o status.Done left rest old new h a = (o, h.0, h.1, a.0)
  ordered o status.Stopped left rest old new h a = (o, h.0, h.1, a.0)
  ordered o status.Refused left rest old new h a = (o, h.0, h.1, a.0)
  ordered o status.ReadFault left rest old new h a = (o, h.0, h.1, a.0)
  ordered o status.WriteFault left rest old new h a = (o, h.0, h.1, a.0)
  ordered o status.NoMemory left rest old new h a = nothing_written o.make o left rest old new a.0
  ordered o status.Words left rest old new h a = absurd (a.1 refl)

  pub heard_answers : (x : Heard) (s : Status) (left rest old new : Option (List ℕ)) → Hears Say app words x → HeardAnswers x s left rest old new → Answered app Say words s left rest old new
  heard_answers (heard.Run o) s left rest old new h a = record {
    answer = ordered o s left rest old new h a;
    refused = λ e t. a.1 e;
    taken = λ no. absurd (no h.0);
  }
  heard_answers heard.Refused s left rest old new h a = record {
    answer = subst (λ (x : Status). RunsWords app Say words x left rest old new) (sym a.0) (h, a.1, a.2);
    refused = λ e t. h t;
    taken = λ no. inl a.0;
  }
  heard_answers heard.NoMemory s left rest old new h a = record {
    answer = subst (λ (x : Status). RunsWords app Say words x left rest old new) (sym a.0) a.2;
    refused = λ e t. absurd cc;
    taken = λ no. inr a.0;
  }

  pub heard_refuses : (x : Heard) (left rest : Option (List ℕ)) (refusal : Refusal) → Hears Say app words x → HeardRefuses x left rest refusal → RunRefuses app Say words left rest refusal
  heard_refuses (heard.Run o) left rest refusal h r = (o, h.0, h.1, r)
  heard_refuses heard.Refused left rest refusal h r = absurd r
  heard_refuses heard.NoMemory left rest refusal h r = absurd r

  -- where the words say that the model is generated
  pub heard_unread : ((texts : Texts) (o : Orders) → Say texts o → MakeSays texts o.make) → (x : Heard) → Hears Say app words x → is_given (texts_of app words) Make ≡ true → IsUnread x
  heard_unread make (heard.Run o) h given = (make (texts_of app words) o h.1).given ∙ given
  heard_unread make heard.Refused h given = tt
  heard_unread make heard.NoMemory h given = tt

  by_orders : (o : Orders) (s : Status) (left : Option (List ℕ)) → Say (texts_of app words) o → IsHindered s ⊎ Settles o.make o left s → IsHindered s ⊎ ((p : Orders) × Say (texts_of app words) p × Settles p.make p left s)
  by_orders o s left said (inl h) = inl h
  by_orders o s left said (inr h) = inr (o, said, h)

  pub heard_settled : (x : Heard) (s : Status) (left rest old new : Option (List ℕ)) → Hears Say app words x → CanRun x → HeardAnswers x s left rest old new
      → IsTaken app words → IsHindered s ⊎ ((o : Orders) × Say (texts_of app words) o × Settles o.make o left s)
  heard_settled (heard.Run o) s left rest old new h can a t = by_orders o s left h.1 (run_settled o.make o s left rest old new can.2 a.0 a.1)
  heard_settled heard.Refused s left rest old new h can a t = absurd (h t)
  heard_settled heard.NoMemory s left rest old new h can a t = inl (subst IsHindered (sym a.0) _)
