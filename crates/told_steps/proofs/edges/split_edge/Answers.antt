use Rattle.std.proofs.Common.{IsSome, refl, subst, sym}
use Rattle.plane_graphs.proofs.Lines.{point_is_proper}
use Rattle.sound_changes.specs.ChangeFits.{FitsSplit}
use Rattle.arr_notes.specs.declared.change.Change.{Change}
use Rattle.arr_notes.specs.declared.change.Change.TheVariants.{SplitEdge}
use Rattle.arr_notes.specs.declared.intent.Intent.TheVariants.{SplitEdge as WillSplitEdge}
use Rattle.curve_history.specs.Past.{curves_on}
use Rattle.dcel_records.specs.SoundMaps.{map_of}
use Rattle.told_steps.proofs.Parts.{fits_split, new_dart, split_vertex}
use Rattle.told_steps.proofs.ToldOnce.{HasMade, changed_by, strands_by, told_by}
use Rattle.told_steps.proofs.edges.split_edge.Given as given
use Rattle.told_steps.proofs.edges.split_edge.Goals.{After-part}
use Rattle.told_steps.proofs.edges.split_edge.Goals as goal

pub part-requires-clause-two : goal.part-requires-clause-two
part-requires-clause-two g c = new_dart c.args.records.now.graph c.args.p c.args.d c.split_in_cycles-new.result.v c.split_in_cycles-new.result.n c.split_in_cycles-new.result.m c.requires.fits c.split_in_cycles-new.ensures.new_names

pub part-requires-clause-new : goal.part-requires-clause-new
part-requires-clause-new g c = c.requires.in_step.curves.without_dart c.split_in_cycles-new.result.n c.split_in_cycles-new.ensures.new_names.first

fits : (g : given.Over) (c : After-part g) → FitsSplit c.args.records.now.graph c.args.d c.split_in_cycles-new.result.v c.args.p c.split_in_cycles-new.result.n c.split_in_cycles-new.result.m
fits g c = fits_split c.args.records.now.graph c.args.p (point_is_proper c.args.p c.laws.ensures) c.args.d c.split_in_cycles-new.result.v c.split_in_cycles-new.result.n c.split_in_cycles-new.result.m c.requires.fits c.split_in_cycles-new.ensures.new_names

abbrev change : (g : given.Over) (c : After-part g) → Change
change g c = SplitEdge c.args.d c.split_in_cycles-new.result.v c.args.p c.split_in_cycles-new.result.n c.split_in_cycles-new.result.m

made : (g : given.Over) (c : After-part g) → HasMade (map_of c.args.records.now) (curves_on c.args.history.now) (change g c) (map_of c.split_in_cycles-new.new.records) (curves_on c.part.new.self)
made g c =
    let e = c.split_in_cycles-new.ensures in
    record { view = λ i. record { graph = e.graph i; faces = e.tables i }; curves = c.part.ensures.curves; fits = fits g c; noted = tt; listed = tt; sound = e.map.sound.graph }

pub tell_after-requires : goal.tell_after-requires
tell_after-requires g c = record { changed = changed_by (made g (goal.at.tell_after-requires g c).After-part) c.tell_before.ensures.in_step }

pub returns-clause-vertex : goal.returns-clause-vertex
returns-clause-vertex g c = split_vertex c.args.records.now.graph c.args.p c.args.d c.split_in_cycles-new.result.v c.split_in_cycles-new.result.n c.split_in_cycles-new.result.m c.requires.in_step.sound.graph (fits g (goal.at.returns-clause-vertex g c).After-part) c.split_in_cycles-new.new.records.graph c.split_in_cycles-new.ensures.graph

pub returns-clause-graph : goal.returns-clause-graph
returns-clause-graph g c = (c.split_in_cycles-new.result.n, c.split_in_cycles-new.result.m, c.split_in_cycles-new.ensures.new_names, c.split_in_cycles-new.ensures.graph)

pub returns-clause-told : goal.returns-clause-told
returns-clause-told g c = told_by (made g (goal.at.returns-clause-told g c).After-part) c.requires.in_step.sound _ refl _ (λ i. WillSplitEdge (c.ends-low.ensures.low i) (c.ends-low.ensures.high i) c.args.p) c.tell_before.ensures.round c.tell_after.ensures.round

pub returns-clause-map : goal.returns-clause-map
returns-clause-map g c = let e = c.split_in_cycles-new.ensures in record { map = e.map; returned = subst IsSome (sym e.moved) c.requires.map.returned }

pub returns-clause-strands : goal.returns-clause-strands
returns-clause-strands g c = let o = made g (goal.at.returns-clause-strands g c).After-part in strands_by c.args.history.now o c.requires.in_step c.part.new.self o.fits c.part.ensures.strands
