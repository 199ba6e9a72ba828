use Rattle.rotation_order.proofs.Found.{one}
use Rattle.rotation_order.proofs.one_place.Goals as goal

pub returns : goal.returns
returns _ = λ v w x p q s known h k. one v s w known x p q h k
