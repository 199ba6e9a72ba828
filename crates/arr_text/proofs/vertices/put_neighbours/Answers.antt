use Rattle.std.proofs.Common.{◌++◌, List, sym, ap, ◌∙◌, length}
use Rattle.std.specs.Prelude.{flat_map}
use Rattle.std.proofs.lemmas.List.{append-nil, length-map}
use Rattle.slab_laws.specs.Darts.{Dart, target, darts}
use Rattle.slab_laws.specs.Rotation.{rotation}
use Rattle.slab_laws.specs.Sound.{skeleton_of}
use Rattle.slab_laws.specs.Text.{number, index}
use Rattle.slab_laws.specs.View.{point_in}
use Rattle.sound_views.specs.Orders.{dart_order}
use Rattle.arr_text.specs.declared.darts.NumberedDart.{NumberedDart}
use Rattle.arr_text.specs.Numbers.{numbered_dart}
use Rattle.arr_text.proofs.Joined.{said}
use Rattle.arr_text.proofs.Neighbours.{found, way_round, nobody}
use Rattle.arr_text.proofs.NumberedDarts.{by_source, first_told}
use Rattle.arr_text.proofs.VertexNumbers.{number_within}
use Rattle.arr_text.proofs.vertices.put_neighbours.Goals as goal

pub number_of-requires : goal.number_of-requires
number_of-requires g c = number_within (g.R.Darts.graph c.args.records.now) c.args.numbers.now c.requires.numbers c.args.vertex.now.name c.requires.has

pub first_out_of-requires : goal.first_out_of-requires
first_out_of-requires g c = rw c.requires.darts (by_source (g.R.Darts.graph c.args.records.now) c.requires.sound)

pub put_round-requires-clause-first : goal.put_round-requires-clause-first
put_round-requires-clause-first g c =
    let v = g.R.Darts.graph c.args.records.now in
    let w = c.args.vertex.now.name in
    let told = first_told v c.requires.sound w c.requires.has c.args.numbers.now c.requires.numbers c.number_of.result c.number_of.ensures c.args.darts.now c.requires.darts in
    (found v c.requires.sound (point_in v w) c.in-Some.first (sym c.in-Some.is ∙ c.first_out_of.ensures ∙ told)).has

pub returns-in-Some : goal.returns-in-Some
returns-in-Some g c =
    let v = g.R.Darts.graph c.args.records.now in
    let w = c.args.vertex.now.name in
    let told = first_told v c.requires.sound w c.requires.has c.args.numbers.now c.requires.numbers c.number_of.result c.number_of.ensures c.args.darts.now c.requires.darts in
    let write = λ (h : Dart). number (index (skeleton_of v) (target h)) in
    let many = ap (λ (ks : List NumberedDart). length ks) c.requires.darts ∙ length-map (dart_order v) (numbered_dart v) in
    let round = way_round v c.requires.sound (point_in v w) c.in-Some.first _ (sym c.in-Some.is ∙ c.first_out_of.ensures ∙ told) many in
    said c.put_round.result c.args.out.now.items c.put_round.new.out.items _ _ c.put_round.ensures (ap (flat_map write) (round ∙ ap (rotation (darts (skeleton_of v))) (sym c.requires.point)))

pub returns-in-None : goal.returns-in-None
returns-in-None g c =
    let v = g.R.Darts.graph c.args.records.now in
    let w = c.args.vertex.now.name in
    let told = first_told v c.requires.sound w c.requires.has c.args.numbers.now c.requires.numbers c.number_of.result c.number_of.ensures c.args.darts.now c.requires.darts in
    let none = nobody v c.requires.sound w c.requires.has (sym c.in-None.is ∙ c.first_out_of.ensures ∙ told) in
    let write = λ (h : Dart). number (index (skeleton_of v) (target h)) in
    sym (ap (λ ds. c.args.out.now.items ++ flat_map write ds) (ap (rotation (darts (skeleton_of v))) c.requires.point ∙ none) ∙ append-nil c.args.out.now.items)
