-- What was answered of a text whose syntax is known.
use Rattle.std.specs.Prelude.{◌≡◌, Result, Ok, Err}
use Rattle.san_net.specs.Network.{Network}
use Rattle.san_serve.specs.Accepted.{RefusesText}
use Rattle.san_serve.specs.declared.acceptance.NotAccepted.{NotAccepted}
use Rattle.san_text.specs.declared.text.Refusal.{Refusal}

-- the network, unless memory ran out
abbrev pub AcceptsNetwork : Result Network NotAccepted → Result Network Refusal → Type 0
AcceptsNetwork (Ok network) read = read ≡ Ok network
AcceptsNetwork (Err e) read = RefusesText e read
