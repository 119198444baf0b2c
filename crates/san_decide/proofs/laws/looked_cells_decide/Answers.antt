use Rattle.san_decide.proofs.Activities.{completion_decides, first_decides}
use Rattle.san_decide.proofs.Blocks.{made_decides}
use Rattle.san_decide.proofs.Evaluations.{effects_decide, value_decides}
use Rattle.san_decide.proofs.laws.looked_cells_decide.Goals as goal

pub returns-clause-expressions : goal.returns-clause-expressions
returns-clause-expressions c = value_decides

pub returns-clause-statements : goal.returns-clause-statements
returns-clause-statements c = effects_decide

pub returns-clause-completions : goal.returns-clause-completions
returns-clause-completions c = completion_decides

pub returns-clause-tests : goal.returns-clause-tests
returns-clause-tests c = first_decides

pub returns-clause-pieces : goal.returns-clause-pieces
returns-clause-pieces c = made_decides
