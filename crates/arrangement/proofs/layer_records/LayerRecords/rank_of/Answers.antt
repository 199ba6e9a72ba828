use Rattle.std.proofs.Common.{◌≡◌, IsSome, sym, subst}
use Rattle.slab_laws.specs.View.{View, Faces}
use Rattle.dcel_records.specs.RecordsView.{FacesView, lists_in_view, lists_of, tables_of}
use Rattle.dcel_records.proofs.Maps.{rest_by}
use Rattle.locate_landmarks.specs.Built.{IsBuiltFor as AreLandmarksOf}
use Rattle.locate_trapezoid.specs.Built.{IsBuiltFor}
use Rattle.told_steps.specs.RecordLayers.{IsLayer as IsLayerOf}
use Rattle.arrangement.proofs.layer_records.LayerRecords.rank_of.Goals as goal

pub invariant_of-self : goal.invariant_of-self
invariant_of-self c =
    let old = c.self.inside.records in
    let new = c.rank_of.new.records in
    let e = c.rank_of.ensures in
    let graph : new.graph ≡ old.graph = λ i. (e.graph i).graph in
    let tables : tables_of new ≡ tables_of old = λ i. (e.faces i).tables in
    let lists : lists_of new ≡ lists_of old = λ i. lists_in_view (e.faces i) in
    let kept = c.self.invariant in (
      subst (λ (v : View). IsLayerOf v c.self.inside.history) (sym graph) kept.0,
      (
        rest_by old new graph tables lists (λ r. subst (λ (f : FacesView). IsSome f.moved) (sym e.faces) r) kept.1.0,
        (
          e.known,
          (
            λ m. subst (λ (v : View). IsBuiltFor v c.self.inside.findings.trapezoids) (sym graph) (kept.1.1.1.0 m),
            λ l. subst (λ (v : View). AreLandmarksOf c.self.inside.findings.landmarks v (tables_of new)) (sym graph) (subst (λ (f : Faces). AreLandmarksOf c.self.inside.findings.landmarks old.graph f) (sym tables) (kept.1.1.1.1 l)),
          ),
        ),
      ),
    )
