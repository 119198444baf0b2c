-- A text whose words are read as a syntax without a fault and within the limits is accepted.
use Rattle.std.proofs.Common.{◌≡◌, ℕ, ◌≤◌, List, map, Option, None, Result, Ok, Err, refl, ap, ◌∙◌}
use Rattle.san_check.specs.declared.walk.Fault.{Fault}
use Rattle.san_check.specs.walk.Model.{syntax_fault}
use Rattle.san_gen.specs.Texts.{farm_text, model_text, ring_text}
use Rattle.san_gen.specs.declared.model.ModelKind.{ModelKind}
use Rattle.san_gen.specs.declared.model.ModelKind.TheVariants.{Farm, Ring}
use Rattle.san_gen.specs.declared.model.TheConstants.{MAX_COPIES, MIN_COPIES}
use Rattle.san_lex.specs.Lexer.{Located, TokenFault, Word, heard, tokens, word_of}
use Rattle.san_net.specs.Network.{Network}
use Rattle.san_flat.specs.Networks.{network_in}
use Rattle.san_serve.specs.Accepted.{accepted, accepted_syntax, checked, composition_of, limit_of, within_limits}
use Rattle.san_text.specs.Models.{syntax_at}
use Rattle.san_text.specs.Steps.{GrammarFault}
use Rattle.san_text.specs.Texts.{offset_of, parsed, parsed_tokens, parsed_words, spots_of}
use Rattle.san_text.specs.declared.syntax.Syntax.{Syntax}
use Rattle.san_text.specs.declared.text.Parsed.{Parsed}
use Rattle.san_made.proofs.FarmChecks.{farm_has_no_fault, farm_within}
use Rattle.san_made.proofs.FarmModel.{farm_syntax}
use Rattle.san_made.proofs.FarmRead.{farm_heard, farm_is_read}
use Rattle.san_made.proofs.RingHeard.{ring_heard}
use Rattle.san_made.proofs.RingLimits.{ring_has_no_fault, ring_within}
use Rattle.san_made.proofs.RingModel.{ring_syntax}
use Rattle.san_made.proofs.RingRead.{ring_is_read}

abbrev IsAcceptedText : List ℕ → Type 0
IsAcceptedText text = (network : Network) × (accepted text ≡ Ok network)

by_tokens : (text : List ℕ) (ws : List Word) (s : Syntax) (left : ℕ) (r : Result (List Located) TokenFault) → tokens text ≡ r → heard r ≡ Ok ws → syntax_at ws ≡ Ok (s, left) → syntax_fault s ≡ None → limit_of (composition_of s) ≡ None → IsAcceptedText text
unfolding accepted parsed
by_tokens text ws s left (Ok ps) is said e f l =
    let same : map word_of ps ≡ ws = cc in
    let x : Parsed = record { syntax = s; spots = spots_of ps; system = offset_of text ps left } in (
      network_in (composition_of s),
      ap (λ (r : Result (List Located) TokenFault). accepted_syntax text (parsed_tokens text r)) is
          ∙ ap (λ (us : List Word). accepted_syntax text (parsed_words text ps (syntax_at us))) same
          ∙ ap (λ (r : Result (Syntax × ℕ) GrammarFault). accepted_syntax text (parsed_words text ps r)) e
          ∙ ap (λ (o : Option Fault). checked text x o) f
          ∙ ap (λ (o : Option ℕ). within_limits text x o) l,
    )
by_tokens text ws s left (Err fault) is said e f l = absurd cc

accepted_by : (text : List ℕ) (ws : List Word) (s : Syntax) (left : ℕ) → heard (tokens text) ≡ Ok ws → syntax_at ws ≡ Ok (s, left) → syntax_fault s ≡ None → limit_of (composition_of s) ≡ None → IsAcceptedText text
accepted_by text ws s left said e f l = by_tokens text ws s left (tokens text) refl said e f l

pub made_accepted : (kind : ModelKind) (copies : ℕ) → MIN_COPIES ≤ copies → copies ≤ MAX_COPIES → (network : Network) × (accepted (model_text kind copies) ≡ Ok network)
made_accepted Farm n two few = accepted_by (farm_text n) _ (farm_syntax n) _ (farm_heard n two few) (farm_is_read n) (farm_has_no_fault n two few) (farm_within n few)
made_accepted Ring n two few = accepted_by (ring_text n) _ (ring_syntax n) _ (ring_heard n two few) (ring_is_read n) (ring_has_no_fault n two few) (ring_within n few)
