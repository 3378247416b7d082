-- `files::open`. What the system answered to the name: TO BE BELIEVED.
use Rattle.files.specs.Calls.{opened_by_system, absent_by_system}
use Rattle.files.proofs.open.Goals as goal

pub returns-in-Err : goal.returns-in-Err
returns-in-Err c = absent_by_system _

pub returns-in-Ok-open : goal.returns-in-Ok-open
returns-in-Ok-open c = opened_by_system _ _
