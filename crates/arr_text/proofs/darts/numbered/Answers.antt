use Rattle.std.proofs.Common.{ap, ◌∙◌, get_or}
use Rattle.slab_laws.specs.declared.names.VertexId.{VertexId}
use Rattle.sound_views.proofs.ForwardDarts.{target_has}
use Rattle.arr_text.proofs.VertexNumbers.{number_within, number_is}
use Rattle.arr_text.proofs.darts.numbered.Goals as goal

pub number_of-requires : goal.number_of-requires
number_of-requires g c = rw c.source.ensures (number_within (g.R.Darts.graph c.args.records.now) c.args.numbers.now c.requires.numbers _ (c.requires.sound.linked.source c.args.name c.requires.has))

pub number_of-requires-2 : goal.number_of-requires-2
number_of-requires-2 g c = rw c.target.ensures (number_within (g.R.Darts.graph c.args.records.now) c.args.numbers.now c.requires.numbers _ (target_has (g.R.Darts.graph c.args.records.now) c.requires.sound c.args.name c.requires.has))

pub returns : goal.returns
returns g c =
    let v = g.R.Darts.graph c.args.records.now in
    let a = number_is v c.args.numbers.now c.requires.numbers _ (c.requires.sound.linked.source c.args.name c.requires.has) in
    let b = number_is v c.args.numbers.now c.requires.numbers _ (target_has v c.requires.sound c.args.name c.requires.has) in
    let ns = c.args.numbers.now in
    λ i. record {
      source = (c.number_of.ensures ∙ ap (λ (w : VertexId). get_or ns w.0 0) c.source.ensures ∙ a) i;
      target = (c.number_of-2.ensures ∙ ap (λ (w : VertexId). get_or ns w.0 0) c.target.ensures ∙ b) i;
      name = c.args.name;
    }
