-- From bytes that a source gave to the one status that they come to.
use Rattle.std.proofs.Common.{ℕ, ◌≤◌, ◌≡◌, ◌∙◌, ◌++◌, ap, sym, subst, arith, inl, inr, Bool, true, false, List, length, Option, Some, Result, Ok, Err}
use Rattle.std.proofs.lemmas.Bool.{le-ltb, lt-ltb}
use Rattle.std.proofs.lemmas.List.{append-nil}
use Rattle.san_base.specs.Flow.{IsUsedUp}
use Rattle.san_base.specs.declared.status.Status.{Status}
use Rattle.san_base.specs.declared.status.Status.TheVariants as status
use Rattle.san_text.specs.declared.text.Refusal.{Refusal}
use Rattle.san_serve.specs.Answers.{IsRefused}
use Rattle.san_serve.specs.Bounds.{IsRead}
use Rattle.san_serve.specs.Settled.{settled_by, status_by}
use Rattle.san_serve.specs.declared.bound.Bound.{Bound}

-- what was read to its end is all that was left
read_whole : (bound : Bound) (bytes text : List ℕ) (rest : Option (List ℕ)) → IsRead bound (Some bytes) rest text → bytes ≡ text
read_whole bound bytes text rest h =
    let used : IsUsedUp (Some h.0.0) = subst IsUsedUp h.0.2 h.1 in
    h.0.1 ∙ ap (λ (r : List ℕ). text ++ r) used ∙ append-nil text

module _ (A : Type 0) (bound : Bound) (read : List ℕ → Result A Refusal) (of : A → Status) where
  pub of_read : (bytes : List ℕ) (x : Result A Refusal) → length bytes ≤ bound.bytes → read bytes ≡ x → settled_by bound read of bytes ≡ status_by of false x
  of_read bytes x short is =
      ap (λ (c : Bool). status_by of c (read bytes)) (le-ltb bound.bytes (length bytes) short)
      ∙ ap (λ (r : Result A Refusal). status_by of false r) is

  pub of_text : (bytes text : List ℕ) (rest : Option (List ℕ)) (x : Result A Refusal) → IsRead bound (Some bytes) rest text → read text ≡ x → settled_by bound read of bytes ≡ status_by of false x
  of_text bytes text rest x h is =
      ap (λ (t : List ℕ). settled_by bound read of t) (read_whole bound bytes text rest h) ∙ of_read text x h.2 is

  pub of_refusal : (bytes : List ℕ) (rest : Option (List ℕ)) (refusal : Refusal) → IsRefused bound (λ text r. read text ≡ Err r) (Some bytes) rest refusal → status.Refused ≡ settled_by bound read of bytes
  of_refusal bytes rest refusal (inl h) = sym (ap (λ (c : Bool). status_by of c (read bytes)) (lt-ltb bound.bytes (length bytes) (omega (arith, h.0.0))))
  of_refusal bytes rest refusal (inr h) = sym (of_text bytes h.0 rest (Err refusal) h.1 h.2)
