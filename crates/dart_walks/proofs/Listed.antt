-- What is true of the darts of a walk is true of the list that is made of them.
use Rattle.std.proofs.Common.{◌≡◌, List, sym, subst}
use Rattle.std.specs.Prelude.{IfOk, Result}
use Rattle.std.proofs.lemmas.Result.{IfOk-weaker}
use Rattle.slab_laws.specs.declared.names.DartId.{DartId}

pub listed_told : {T E : Type 0} (r : Result T E) (items : T → List DartId) (P : List DartId → Type 0) (ds : List DartId) → P ds → IfOk r (λ t. items t ≡ ds) → IfOk r (λ t. P (items t))
listed_told r items P ds p h = IfOk-weaker r (λ t. items t ≡ ds) (λ t. P (items t)) (λ t e. subst P (sym e) p) h
