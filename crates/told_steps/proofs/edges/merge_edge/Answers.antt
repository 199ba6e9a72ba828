use Rattle.std.proofs.Common.{IsSome, ap, refl, subst, sym}
use Rattle.arr_notes.specs.declared.change.Change.{Change}
use Rattle.arr_notes.specs.declared.change.Change.TheVariants.{MergeEdge}
use Rattle.arr_notes.specs.declared.intent.Intent.TheVariants.{MergeEdge as WillMergeEdge}
use Rattle.curve_history.specs.Past.{curves_on}
use Rattle.dcel_records.specs.SoundMaps.{map_of}
use Rattle.told_steps.proofs.Parts.{alike_curves, merge_vertex}
use Rattle.told_steps.proofs.ToldOnce.{HasMade, changed_by, strands_by, told_by}
use Rattle.told_steps.proofs.edges.merge_edge.Given as given
use Rattle.told_steps.proofs.edges.merge_edge.Goals.{After-join}
use Rattle.told_steps.proofs.edges.merge_edge.Goals as goal

pub point-p-requires : goal.point-p-requires
point-p-requires g c = let f = c.requires.fits in merge_vertex c.args.records.now.graph c.args.v f.0 f.1 c.requires.in_step.sound.graph f.2

pub join-requires : goal.join-requires
join-requires g c = c.requires.alike c.merge_in_cycles-met.result.d c.merge_in_cycles-met.result.n c.merge_in_cycles-met.ensures.met

abbrev change : (g : given.Over) (c : After-join g) → Change
change g c = MergeEdge c.args.v c.merge_in_cycles-met.result.d c.merge_in_cycles-met.result.n

made : (g : given.Over) (c : After-join g) → HasMade (map_of c.args.records.now) (curves_on c.args.history.now) (change g c) (map_of c.merge_in_cycles-met.new.records) (curves_on c.join.new.self)
made g c =
    let e = c.merge_in_cycles-met.ensures in
    record { view = λ i. record { graph = e.graph i; faces = e.tables i }; curves = c.join.ensures.curves; fits = (e.met, c.requires.unpinned, alike_curves c.args.history.now c.merge_in_cycles-met.result.d c.merge_in_cycles-met.result.n (c.requires.alike c.merge_in_cycles-met.result.d c.merge_in_cycles-met.result.n e.met)); noted = tt; listed = tt; sound = e.map.sound.graph }

pub tell_after-requires : goal.tell_after-requires
tell_after-requires g c = record { changed = changed_by (made g (goal.at.tell_after-requires g c).After-join) c.tell_before.ensures.in_step }

pub returns-clause-graph : goal.returns-clause-graph
returns-clause-graph g c = (c.merge_in_cycles-met.result.d, c.merge_in_cycles-met.result.n, c.merge_in_cycles-met.ensures.met, c.merge_in_cycles-met.ensures.graph, c.join.ensures.curves)

pub returns-clause-told : goal.returns-clause-told
returns-clause-told g c = told_by (made g (goal.at.returns-clause-told g c).After-join) c.requires.in_step.sound _ refl _ (ap WillMergeEdge c.point-p.ensures) c.tell_before.ensures.round c.tell_after.ensures.round

pub returns-clause-map : goal.returns-clause-map
returns-clause-map g c = let e = c.merge_in_cycles-met.ensures in record { map = e.map; returned = subst IsSome (sym e.moved) c.requires.map.returned }

pub returns-clause-strands : goal.returns-clause-strands
returns-clause-strands g c = let o = made g (goal.at.returns-clause-strands g c).After-join in strands_by c.args.history.now o c.requires.in_step c.join.new.self (o.fits.0, o.fits.1, c.requires.alike c.merge_in_cycles-met.result.d c.merge_in_cycles-met.result.n o.fits.0) c.join.ensures.strands
