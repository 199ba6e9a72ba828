use Rattle.std.proofs.Common.{map, ap, sym, ◌∙◌, subst}
use Rattle.record_orders.specs.CycleKeys.{cycle_keys, ranked_faces}
use Rattle.arr_text.specs.Numbers.{AreApart, AreNumbers, TellPlaces}
use Rattle.arr_text.proofs.Assembly.{names_are, names_have}
use Rattle.arr_text.proofs.VertexNumbers.{names_apart, numbers_told}
use Rattle.arr_text.proofs.whole.text_by.Goals as goal

pub vertices_in_order-requires : goal.vertices_in_order-requires
vertices_in_order-requires g c = c.requires.graph

pub numbers_of-requires : goal.numbers_of-requires
numbers_of-requires g c = subst AreApart (sym (c.deref.ensures.value ∙ c.in_ok-vertices.ensures)) (names_apart (g.R.Darts.graph c.args.records.now) c.requires.graph)

pub darts_by_number-requires : goal.darts_by_number-requires
darts_by_number-requires g c =
    let v = g.R.Darts.graph c.args.records.now in
    let told = numbers_told v c.requires.graph c.in_ok-numbers.numbers.items (subst (TellPlaces c.in_ok-numbers.numbers.items) (c.deref.ensures.value ∙ c.in_ok-vertices.ensures) c.in_ok-numbers.ensures) in
    record { sound = c.requires.graph; numbers = subst (AreNumbers v) (sym c.deref-2.ensures.value) told }

pub cycles_of-requires : goal.cycles_of-requires
cycles_of-requires g c =
    let v = g.R.Darts.graph c.args.records.now in
    rw (c.deref-4.ensures.value, c.in_ok-names.ensures, c.deref-3.ensures.value, c.in_ok-darts.ensures, names_are v c.requires.graph) (names_have v c.requires.graph)

pub put_lines-requires : goal.put_lines-requires
put_lines-requires g c =
    let v = g.R.Darts.graph c.args.records.now in
    let f = g.R.Faced.faces c.args.records.now in
    let told = numbers_told v c.requires.graph c.in_ok-numbers.numbers.items (subst (TellPlaces c.in_ok-numbers.numbers.items) (c.deref.ensures.value ∙ c.in_ok-vertices.ensures) c.in_ok-numbers.ensures) in record {
      stands = c.requires;
      numbers = subst (AreNumbers v) (sym c.deref-6.ensures.value) told;
      vertices = c.deref-7.ensures.value ∙ c.in_ok-vertices.ensures;
      darts = c.deref-8.ensures.value ∙ c.in_ok-darts.ensures;
      cycles = c.deref-9.ensures.value ∙ c.in_ok-cycles.ensures ∙ ap (cycle_keys f) (c.deref-4.ensures.value ∙ c.in_ok-names.ensures ∙ ap (map (λ k. k.name)) (c.deref-3.ensures.value ∙ c.in_ok-darts.ensures) ∙ names_are v c.requires.graph);
      ranks = c.in_ok-ranks.ensures ∙ ap (ranked_faces f) (c.deref-5.ensures.value ∙ sym c.deref-9.ensures.value);
    }
