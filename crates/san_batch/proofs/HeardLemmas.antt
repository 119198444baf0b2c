-- What is answered to words, by what was heard of them.
use Rattle.std.proofs.Common.{ℕ, ◌≡◌, ◌⊎◌, inl, inr, refl, sym, subst, List, Option, Some}
use Rattle.san_base.specs.declared.status.Status.{Status}
use Rattle.san_base.specs.declared.status.Status.TheVariants as status
use Rattle.san_serve.proofs.WrittenLemmas.{never_stops, text_settled}
use Rattle.san_serve.specs.Accepted.{accepted}
use Rattle.san_serve.specs.Settled.{IsHindered}
use Rattle.san_text.specs.declared.text.Refusal.{Refusal}
use Rattle.san_words.specs.Hears.{HearsBatch, IsBatch}
use Rattle.san_words.specs.declared.orders.BatchOrders.{BatchOrders}
use Rattle.san_words.specs.declared.orders.HeardBatch.{HeardBatch}
use Rattle.san_words.specs.declared.orders.HeardBatch.TheVariants as heard
use Rattle.san_batch.specs.Batches.{BatchRefuses, Batches, batch_status, ordered_text}
use Rattle.san_batch.specs.inner.Heard.{HaveSeeds, HeardAnswers, HeardRefuses}

pub record Answered (words : List (List ℕ)) (s : Status) (left rest old new : Option (List ℕ)) : Type 0 where
  pub answer : Batches words s left rest old new
  pub refused : s ≡ status.Words → IsBatch words → ⊥
  pub taken : (IsBatch words → ⊥) → (s ≡ status.Words) ⊎ (s ≡ status.NoMemory)
  pub never : s ≡ status.Stopped → ⊥

module _ (words : List (List ℕ)) where
  pub heard_seeds : (x : HeardBatch) → HearsBatch words x → HaveSeeds x
  heard_seeds (heard.Batch o) h = h.2
  heard_seeds heard.Refused h = tt
  heard_seeds heard.NoMemory h = tt

  ordered : (o : BatchOrders) (s : Status) (left rest old new : Option (List ℕ)) → HearsBatch words (heard.Batch o) → HeardAnswers (heard.Batch o) s left rest old new → Batches words s left rest old new
  ordered o status.Done left rest old new h a = (o, h.0, h.1, h.2, a.0)
  ordered o status.Stopped left rest old new h a = (o, h.0, h.1, h.2, a.0)
  ordered o status.Refused left rest old new h a = (o, h.0, h.1, h.2, a.0)
  ordered o status.ReadFault left rest old new h a = (o, h.0, h.1, h.2, a.0)
  ordered o status.WriteFault left rest old new h a = (o, h.0, h.1, h.2, a.0)
  ordered o status.NoMemory left rest old new h a = a.0
  ordered o status.Words left rest old new h a = absurd (a.1 refl)

  pub heard_answers : (x : HeardBatch) (s : Status) (left rest old new : Option (List ℕ)) → HearsBatch words x → HeardAnswers x s left rest old new → Answered words s left rest old new
  heard_answers (heard.Batch o) s left rest old new h a = record {
    answer = ordered o s left rest old new h a;
    refused = λ e t. a.1 e;
    taken = λ no. absurd (no (h.0, (o, h.1, h.2)));
    never = never_stops accepted (λ n. ordered_text n o) s left rest old new a.0;
  }
  heard_answers heard.Refused s left rest old new h a = record {
    answer = subst (λ (x : Status). Batches words x left rest old new) (sym a.0) (h, a.1, a.2);
    refused = λ e t. h t;
    taken = λ no. inl a.0;
    never = λ e. absurd cc;
  }
  heard_answers heard.NoMemory s left rest old new h a = record {
    answer = subst (λ (x : Status). Batches words x left rest old new) (sym a.0) a.2;
    refused = λ e t. absurd cc;
    taken = λ no. inr a.0;
    never = λ e. absurd cc;
  }

  pub heard_refuses : (x : HeardBatch) (left rest : Option (List ℕ)) (refusal : Refusal) → HearsBatch words x → HeardRefuses x left rest refusal → BatchRefuses words left rest refusal
  heard_refuses (heard.Batch o) left rest refusal h r = ((h.0, (o, h.1, h.2)), r)
  heard_refuses heard.Refused left rest refusal h r = absurd r
  heard_refuses heard.NoMemory left rest refusal h r = absurd r

  pub heard_settled : (x : HeardBatch) (s : Status) (left rest old new : Option (List ℕ)) → HearsBatch words x → HeardAnswers x s left rest old new → (bytes : List ℕ) → left ≡ Some bytes → IsBatch words → IsHindered s ⊎ (s ≡ batch_status bytes)
  heard_settled (heard.Batch o) s left rest old new h a bytes is t = text_settled accepted (λ n. ordered_text n o) s left rest old new a.0 a.1 bytes is
  heard_settled heard.Refused s left rest old new h a bytes is t = absurd (h t)
  heard_settled heard.NoMemory s left rest old new h a bytes is t = inl (subst IsHindered (sym a.0) _)
