use Rattle.std.proofs.Common.{◌≡◌, ap, sym, ◌∙◌, subst, Some, OnOk, List}
use Rattle.library_tour.specs.Parcels.{face_of, IsUnited, IsUnitedWhere}
use Rattle.library_tour.specs.declared.parcels.Land.{Land}
use Rattle.library_tour.proofs.parcels.Parcels.follow_union.Goals as goal

pub returns : goal.returns
returns c =
    let new = c.unite.new.self.land.items in
    let same : c.bound_all.new.self.land.items ≡ c.args.self.now.land.items = ap (λ v. v.items) c.bound_all.ensures in
    let whole : Some c.in-Some.whole ≡ face_of c.args.self.now.bounds c.args.kept = sym c.in-Some.is ∙ c.face_of.ensures in
    subst (λ o. OnOk c.unite.result (IsUnitedWhere o c.args.face c.args.self.now.land.items new)) whole
    (subst (λ (ls : List Land). OnOk c.unite.result (IsUnited c.args.face c.in-Some.whole ls new)) same c.unite.ensures)
