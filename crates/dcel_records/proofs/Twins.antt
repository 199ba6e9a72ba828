-- Twins stay twins.
use Rattle.std.proofs.Common.{◌≡◌, ◌≢◌, inl, inr, sym, ap, subst, ◌∙◌}
use Rattle.std.proofs.lemmas.Bool.{false≢true}
use Rattle.exact_plane.specs.Line.{Line}
use Rattle.slab_laws.specs.declared.names.DartId.{DartId}
use Rattle.slab_laws.specs.declared.names.VertexId.{VertexId}
use Rattle.slab_laws.specs.Sound.{IsTwinned}
use Rattle.slab_laws.specs.View.{View, HasDart, twin_in, line_in}
use Rattle.arr_notes.specs.Reads.{IsRelinked, IsSourceSet, IsPairMore, IsPairLess}
use Rattle.arr_notes.specs.ViewChanges.{no_rows}
use Rattle.arr_notes.proofs.Names.{cases_dart}
use Rattle.slab_laws.specs.Tables.{row_at}
use Rattle.dcel_records.specs.Edges.{lone_dart}

pub twinned_empty : IsTwinned no_rows
unfolding row_at
twinned_empty = record {
  has = λ d h. absurd (false≢true h);
  back = λ d h. absurd (false≢true h);
  other = λ d h. absurd (false≢true h);
  line = λ d h. absurd (false≢true h);
}

-- where no dart, no twin and no line changes
module _ (g h : View) (has : (e : DartId) → HasDart g e → HasDart h e) (had : (e : DartId) → HasDart h e → HasDart g e) (twin : (e : DartId) → twin_in h e ≡ twin_in g e) (line : (e : DartId) → line_in h e ≡ line_in g e) (t : IsTwinned g) where
  pub twinned_same : IsTwinned h
  twinned_same = record {
    has = λ d k. subst (λ (e : DartId). HasDart h e) (sym (twin d)) (has (twin_in g d) (t.has d (had d k)));
    back = λ d k. twin (twin_in h d) ∙ ap (twin_in g) (twin d) ∙ t.back d (had d k);
    other = λ d k e. t.other d (had d k) (sym (twin d) ∙ e);
    line = λ d k. line (twin_in h d) ∙ ap (line_in g) (twin d) ∙ t.line d (had d k) ∙ sym (line d);
  }

pub twinned_relinked : (g h : View) → IsRelinked g h → IsTwinned g → IsTwinned h
twinned_relinked g h r t = twinned_same g h r.has r.had r.twin r.line t

pub twinned_source : (g h : View) (d : DartId) (w : VertexId) → IsSourceSet g h d w → IsTwinned g → IsTwinned h
twinned_source g h d w r t = twinned_same g h r.has r.had r.twin r.line t

-- ---- one more edge
module _ (g h : View) (d m : DartId) (u v : VertexId) (l : Line) (r : IsPairMore g h d m (lone_dart u m l) (lone_dart v d l)) (t : IsTwinned g) (no_d : ¬ HasDart g d) (no_m : ¬ HasDart g m) (ne : d ≢ m) where
  -- what holds of the two and of all others holds of all
  all : (P : DartId → Type 0) → P d → P m → ((e : DartId) → e ≢ d → e ≢ m → P e) → (e : DartId) → P e
  all P a b f e = elim (cases_dart e d) [
    | inl q ↦ subst P (sym q) a
    | inr nd ↦ elim (cases_dart e m) [ inl q ↦ subst P (sym q) b | inr nm ↦ f e nd nm ]
  ]

  -- an old dart is neither
  old_d : (e : DartId) → HasDart g e → e ≢ d
  old_d e k q = no_d (subst (λ (x : DartId). HasDart g x) q k)

  old_m : (e : DartId) → HasDart g e → e ≢ m
  old_m e k q = no_m (subst (λ (x : DartId). HasDart g x) q k)

  -- an old dart's twin is an old dart
  old_twin : (e : DartId) → e ≢ d → e ≢ m → HasDart h e → HasDart g (twin_in g e)
  old_twin e nd nm k = t.has e ((r.others e nd nm).had k)

  twin_old : (e : DartId) → (nd : e ≢ d) → (nm : e ≢ m) → HasDart h e → twin_in h (twin_in h e) ≡ twin_in g (twin_in g e)
  twin_old e nd nm k =
      let o = old_twin e nd nm k in
      ap (twin_in h) (r.others e nd nm).twin ∙ (r.others (twin_in g e) (old_d _ o) (old_m _ o)).twin

  line_old : (e : DartId) → (nd : e ≢ d) → (nm : e ≢ m) → HasDart h e → line_in h (twin_in h e) ≡ line_in g (twin_in g e)
  line_old e nd nm k =
      let o = old_twin e nd nm k in
      ap (line_in h) (r.others e nd nm).twin ∙ (r.others (twin_in g e) (old_d _ o) (old_m _ o)).line

  pub twinned_more : IsTwinned h
  twinned_more = record {
    has = all (λ e. HasDart h e → HasDart h (twin_in h e))
        (λ k. subst (λ (x : DartId). HasDart h x) (sym r.first.twin) r.second.has)
        (λ k. subst (λ (x : DartId). HasDart h x) (sym r.second.twin) r.first.has)
        (λ e nd nm k. let o = old_twin e nd nm k in subst (λ (x : DartId). HasDart h x) (sym (r.others e nd nm).twin) ((r.others (twin_in g e) (old_d _ o) (old_m _ o)).has o));
    back = all (λ e. HasDart h e → twin_in h (twin_in h e) ≡ e)
        (λ k. ap (twin_in h) r.first.twin ∙ r.second.twin)
        (λ k. ap (twin_in h) r.second.twin ∙ r.first.twin)
        (λ e nd nm k. twin_old e nd nm k ∙ t.back e ((r.others e nd nm).had k));
    other = all (λ e. HasDart h e → twin_in h e ≢ e)
        (λ k q. ne (sym q ∙ r.first.twin))
        (λ k q. ne (sym r.second.twin ∙ q))
        (λ e nd nm k q. t.other e ((r.others e nd nm).had k) (sym (r.others e nd nm).twin ∙ q));
    line = all (λ e. HasDart h e → line_in h (twin_in h e) ≡ line_in h e)
        (λ k. ap (line_in h) r.first.twin ∙ r.second.line ∙ sym r.first.line)
        (λ k. ap (line_in h) r.second.twin ∙ r.first.line ∙ sym r.second.line)
        (λ e nd nm k. line_old e nd nm k ∙ t.line e ((r.others e nd nm).had k) ∙ sym (r.others e nd nm).line);
  }

-- ---- one edge fewer
module _ (g h : View) (d : DartId) (t : IsTwinned g) (k : HasDart g d) (r : IsPairLess g h d (twin_in g d)) where
  not_d : (e : DartId) → HasDart h e → e ≢ d
  not_d e o q = r.first (subst (λ (x : DartId). HasDart h x) q o)

  not_twin : (e : DartId) → HasDart h e → e ≢ twin_in g d
  not_twin e o q = r.second (subst (λ (x : DartId). HasDart h x) q o)

  was : (e : DartId) → HasDart h e → HasDart g e
  was e o = (r.others e (not_d e o) (not_twin e o)).had o

  -- the twin of what is left is left
  twin_not_d : (e : DartId) → HasDart h e → twin_in g e ≢ d
  twin_not_d e o q = not_twin e o (sym (t.back e (was e o)) ∙ ap (twin_in g) q)

  twin_not_twin : (e : DartId) → HasDart h e → twin_in g e ≢ twin_in g d
  twin_not_twin e o q = not_d e o (sym (t.back e (was e o)) ∙ ap (twin_in g) q ∙ t.back d k)

  twin_left : (e : DartId) → HasDart h e → twin_in h e ≡ twin_in g e
  twin_left e o = (r.others e (not_d e o) (not_twin e o)).twin

  pub twinned_less : IsTwinned h
  twinned_less = record {
    has = λ e o. subst (λ (x : DartId). HasDart h x) (sym (twin_left e o)) ((r.others (twin_in g e) (twin_not_d e o) (twin_not_twin e o)).has (t.has e (was e o)));
    back = λ e o. ap (twin_in h) (twin_left e o) ∙ (r.others (twin_in g e) (twin_not_d e o) (twin_not_twin e o)).twin ∙ t.back e (was e o);
    other = λ e o q. t.other e (was e o) (sym (twin_left e o) ∙ q);
    line = λ e o. ap (line_in h) (twin_left e o) ∙ (r.others (twin_in g e) (twin_not_d e o) (twin_not_twin e o)).line ∙ t.line e (was e o) ∙ sym (r.others e (not_d e o) (not_twin e o)).line;
  }
