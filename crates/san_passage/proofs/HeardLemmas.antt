-- What is answered to words, by what was heard of them.
use Rattle.std.proofs.Common.{ℕ, ◌≡◌, ◌⊎◌, inl, inr, refl, sym, subst, List, Option, Some}
use Rattle.san_base.specs.declared.status.Status.{Status}
use Rattle.san_base.specs.declared.status.Status.TheVariants as status
use Rattle.san_serve.proofs.WrittenLemmas.{never_stops, text_settled}
use Rattle.san_serve.specs.Settled.{IsHindered}
use Rattle.san_text.specs.declared.text.Refusal.{Refusal}
use Rattle.san_words.specs.Commands.{first_app}
use Rattle.san_words.specs.Hears.{FirstSay, HearsFirst, IsFirst, texts_of}
use Rattle.san_words.specs.declared.orders.FirstOrders.{FirstOrders}
use Rattle.san_words.specs.declared.orders.HeardFirst.{HeardFirst}
use Rattle.san_words.specs.declared.orders.HeardFirst.TheVariants as heard
use Rattle.san_passage.specs.Firsts.{FirstRefuses, Firsts, accepted_at, first_status, first_text}
use Rattle.san_passage.specs.inner.Heard.{HaveSeeds, HeardAnswers, HeardRefuses}

pub record Answered (words : List (List ℕ)) (s : Status) (left rest old new : Option (List ℕ)) : Type 0 where
  pub answer : Firsts words s left rest old new
  pub refused : s ≡ status.Words → IsFirst words → ⊥
  pub taken : (IsFirst words → ⊥) → (s ≡ status.Words) ⊎ (s ≡ status.NoMemory)
  pub never : s ≡ status.Stopped → ⊥

module _ (words : List (List ℕ)) where
  pub heard_seeds : (x : HeardFirst) → HearsFirst words x → HaveSeeds x
  heard_seeds (heard.First o) h = h.2
  heard_seeds heard.Refused h = tt
  heard_seeds heard.NoMemory h = tt

  ordered : (o : FirstOrders) (s : Status) (left rest old new : Option (List ℕ)) → HearsFirst words (heard.First o) → HeardAnswers (heard.First o) s left rest old new → Firsts words s left rest old new
  ordered o status.Done left rest old new h a = (o, h.0, h.1, h.2, a.0)
  ordered o status.Stopped left rest old new h a = (o, h.0, h.1, h.2, a.0)
  ordered o status.Refused left rest old new h a = (o, h.0, h.1, h.2, a.0)
  ordered o status.ReadFault left rest old new h a = (o, h.0, h.1, h.2, a.0)
  ordered o status.WriteFault left rest old new h a = (o, h.0, h.1, h.2, a.0)
  ordered o status.NoMemory left rest old new h a = a.0
  ordered o status.Words left rest old new h a = absurd (a.1 refl)

  pub heard_answers : (x : HeardFirst) (s : Status) (left rest old new : Option (List ℕ)) → HearsFirst words x → HeardAnswers x s left rest old new → Answered words s left rest old new
  heard_answers (heard.First o) s left rest old new h a = record {
    answer = ordered o s left rest old new h a;
    refused = λ e t. a.1 e;
    taken = λ no. absurd (no (h.0, (o, h.1, h.2)));
    never = never_stops (accepted_at o.place) (λ n. first_text n o) s left rest old new a.0;
  }
  heard_answers heard.Refused s left rest old new h a = record {
    answer = subst (λ (x : Status). Firsts words x left rest old new) (sym a.0) (h, a.1, a.2);
    refused = λ e t. h t;
    taken = λ no. inl a.0;
    never = λ e. absurd cc;
  }
  heard_answers heard.NoMemory s left rest old new h a = record {
    answer = subst (λ (x : Status). Firsts words x left rest old new) (sym a.0) a.2;
    refused = λ e t. absurd cc;
    taken = λ no. inr a.0;
    never = λ e. absurd cc;
  }

  pub heard_refuses : (x : HeardFirst) (left rest : Option (List ℕ)) (refusal : Refusal) → HearsFirst words x → HeardRefuses x left rest refusal → FirstRefuses words left rest refusal
  heard_refuses (heard.First o) left rest refusal h r = (o, h.0, h.1, h.2, r)
  heard_refuses heard.Refused left rest refusal h r = absurd r
  heard_refuses heard.NoMemory left rest refusal h r = absurd r

  of_orders : (o : FirstOrders) (s : Status) (bytes : List ℕ) → FirstSay (texts_of first_app words) o → IsHindered s ⊎ (s ≡ first_status o bytes) → IsHindered s ⊎ ((p : FirstOrders) × FirstSay (texts_of first_app words) p × (s ≡ first_status p bytes))
  of_orders o s bytes said (inl h) = inl h
  of_orders o s bytes said (inr h) = inr (o, said, h)

  pub heard_settled : (x : HeardFirst) (s : Status) (left rest old new : Option (List ℕ)) → HearsFirst words x → HeardAnswers x s left rest old new → (bytes : List ℕ) → left ≡ Some bytes
      → IsFirst words → IsHindered s ⊎ ((o : FirstOrders) × FirstSay (texts_of first_app words) o × (s ≡ first_status o bytes))
  heard_settled (heard.First o) s left rest old new h a bytes is t = of_orders o s bytes h.1 (text_settled (accepted_at o.place) (λ n. first_text n o) s left rest old new a.0 a.1 bytes is)
  heard_settled heard.Refused s left rest old new h a bytes is t = absurd (h t)
  heard_settled heard.NoMemory s left rest old new h a bytes is t = inl (subst IsHindered (sym a.0) _)
