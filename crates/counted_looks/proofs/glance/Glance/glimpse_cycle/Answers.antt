use Rattle.std.proofs.Common.{◌≡◌, sym, ap, ◌∙◌, subst}
use Rattle.exact_plane.specs.WholeParts.{whole_parts}
use Rattle.slab_laws.specs.declared.names.DartId.{DartId}
use Rattle.slab_laws.specs.View.{HasDart, cycle_in, point_in, source_in}
use Rattle.dcel_records.specs.Areas.{Covers}
use Rattle.dcel_records.specs.RecordsView.{RecordsView, tables_of, lists_of}
use Rattle.counted_looks.proofs.Covered.{ends_covered}
use Rattle.counted_looks.proofs.glance.Glance.glimpse_cycle.Goals as goal

pub glimpse-requires : goal.glimpse-requires
glimpse-requires g c =
    let dart = c.dart_on-dart.ensures ∙ ap (λ (h : RecordsView). (lists_of h).dart_on c.args.cycle) c.self.view_is in
    subst (HasDart c.args.self.now.graph) (sym dart) (c.requires.darts c.args.cycle c.requires.cycle).0

pub returns-clause-look : goal.returns-clause-look
returns-clause-look g c = record {
  dart = c.dart_on-dart.ensures ∙ ap (λ (h : RecordsView). (lists_of h).dart_on c.args.cycle) c.self.view_is;
  first = c.glimpse.ensures.look;
  area = (
      ends_covered c.args.self.now.graph (tables_of c.args.self.now) c.requires.sound c.args.cycle c.area.result
      (subst (λ (h : RecordsView). (d : DartId) → HasDart h.graph d → cycle_in (tables_of h) d ≡ c.args.cycle → Covers c.area.result (whole_parts (point_in h.graph (source_in h.graph d)))) c.self.view_is c.area.ensures)
      );
}
