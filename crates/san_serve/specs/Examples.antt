-- Worked values: the lines of two refusals, and the first limit that is passed.
use Rattle.std.specs.Prelude.{◌≡◌, codes, Some, None}
use Rattle.std.specs.Fmt.{digits}
use Rattle.std.proofs.Common.{refl}
use Rattle.san_serve.specs.Accepted.{limit_code}
use Rattle.san_serve.specs.Notes.{refusal_line}

first_byte : refusal_line (record { code = 3; line = 1; column = 25 }) ≡ codes "refused E03 1 25\n"
unfolding refusal_line digits
first_byte = refl

many_leaves : refusal_line (record { code = 50; line = 12; column = 8 }) ≡ codes "refused E50 12 8\n"
unfolding refusal_line digits
many_leaves = refl

at_the_limits : limit_code 4096 65536 65536 ≡ None
at_the_limits = refl

leaves_before_places : limit_code 4097 65537 65537 ≡ Some 50
leaves_before_places = refl

places_before_activities : limit_code 4096 65537 65537 ≡ Some 51
places_before_activities = refl

activities_alone : limit_code 0 0 65537 ≡ Some 52
activities_alone = refl
