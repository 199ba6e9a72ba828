-- Where two edges become one, the darts out of the vertex between them follow each other.
use Rattle.std.proofs.Common.{◌≡◌, ◌≢◌, false, not, refl, sym, ap, ◌∙◌, inl, inr}
use Rattle.plane_graphs.proofs.Lists.{clash}
use Rattle.rotation_order.proofs.Circuits.{alone, after_out}
use Rattle.slab_laws.specs.declared.names.DartId.{DartId}
use Rattle.slab_laws.specs.declared.names.VertexId.{VertexId}
use Rattle.slab_laws.specs.Sound.{IsGraphSound}
use Rattle.slab_laws.specs.View.{View, HasDart, twin_in}
use Rattle.arr_notes.specs.AfterAround.{after_in}
use Rattle.arr_notes.specs.Curves.{is_forward}
use Rattle.sound_views.proofs.GraphDrawn.{twins_are_directed}
use Rattle.sound_changes.specs.ChangeFits.{FitsMerge}

module _ (v : View) (w : VertexId) (s : IsGraphSound v) (d n : DartId) (f : FitsMerge v w d n) where
  abbrev t : DartId
  t = twin_in v d

  pub t_has : HasDart v t
  t_has = s.twinned.has d f.first

  pub t_down : is_forward v t ≡ false
  t_down = twins_are_directed v s d f.first ∙ ap not f.first_forward

  t_n : t ≢ n
  t_n q = clash f.second_forward (ap (is_forward v) (sym q) ∙ t_down)

  pub after_n : after_in v n ≡ t
  after_n =
      let o = after_out v s n f.second n (f.second, refl) in
      elim (f.only (after_in v n) o.0 (o.1 ∙ f.leaves)) [
        | inl q ↦ absurd (t_n (alone v s n f.second q t (t_has, f.arrives ∙ sym f.leaves)))
        | inr q ↦ q
      ]

  pub after_t : after_in v t ≡ n
  after_t =
      let o = after_out v s t t_has t (t_has, refl) in
      elim (f.only (after_in v t) o.0 (o.1 ∙ f.arrives)) [
        | inl q ↦ q
        | inr q ↦ absurd (t_n (sym (alone v s t t_has q n (f.second, f.leaves ∙ sym f.arrives))))
      ]
