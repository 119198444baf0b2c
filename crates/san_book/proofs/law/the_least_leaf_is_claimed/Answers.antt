use Rattle.san_book.proofs.Planning.{plans_least}
use Rattle.san_book.proofs.law.the_least_leaf_is_claimed.Goals as goal

pub returns-clause-least : goal.returns-clause-least
returns-clause-least g c = λ m. plans_least m
