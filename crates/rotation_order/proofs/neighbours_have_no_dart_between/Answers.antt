use Rattle.rotation_order.proofs.Found.{spread}
use Rattle.rotation_order.proofs.neighbours_have_no_dart_between.Goals as goal

pub returns : goal.returns
returns _ = λ v w x a b c s known h o ne. spread v s w known x a b c h o ne
