use Rattle.std.proofs.Common.{◌≡◌, ap, sym, ◌∙◌, subst, Some, OnOk, List}
use Rattle.library_tour.specs.Parcels.{face_of, IsShared, IsSharedWhere}
use Rattle.library_tour.specs.declared.parcels.Land.{Land}
use Rattle.library_tour.proofs.parcels.Parcels.follow_split.Goals as goal

pub returns-in-Some : goal.returns-in-Some
returns-in-Some c =
    let new = c.share.new.self.land.items in
    let same : c.bound_all.new.self.land.items ≡ c.args.self.now.land.items = ap (λ v. v.items) (c.bound_all.ensures ∙ c.bound.ensures) in
    let whole : Some c.in-Some.whole ≡ face_of c.args.self.now.bounds c.args.kept = sym c.in-Some.is ∙ c.face_of-whole.ensures in
    subst (λ o. OnOk c.share.result (IsSharedWhere o c.args.face c.args.self.now.land.items new)) whole
    (subst (λ (ls : List Land). OnOk c.share.result (IsShared c.in-Some.whole c.args.face ls new)) same c.share.ensures)
