-- The dart out of a vertex stays right.
use Rattle.std.proofs.Common.{◌≡◌, ◌≢◌, inl, inr, Option, Some, None, IfSome, IfNone, refl, sym, ap, subst, ◌∙◌}
use Rattle.std.proofs.lemmas.Bool.{false≢true}
use Rattle.std.specs.Option.{option_or}
use Rattle.exact_plane.specs.Line.{Line}
use Rattle.slab_laws.specs.declared.names.DartId.{DartId}
use Rattle.slab_laws.specs.declared.names.VertexId.{VertexId}
use Rattle.slab_laws.specs.Tables.{row_at}
use Rattle.slab_laws.specs.View.{View, HasDart, IsOutOf, source_in}
use Rattle.arr_notes.specs.ViewChanges.{no_rows}
use Rattle.arr_notes.specs.Reads.{IsSourceSet, IsPairMore, IsPairLess}
use Rattle.arr_notes.proofs.Names.{cases_dart}
use Rattle.dcel_records.specs.Edges.{lone_dart}
use Rattle.dcel_records.specs.Outs.{IsOut, IsRest}

pub out_empty : (w : VertexId) → IsOut no_rows w None
unfolding row_at
out_empty w = record { some = λ d e. absurd (cc); none = λ e d k. false≢true k.0 }

-- as a trait of readers says it
pub out_some : (v : View) (w : VertexId) (o : Option DartId) → IsOut v w o → IfSome o (IsOutOf v w)
out_some v w None i = tt
out_some v w (Some d) i = i.some d refl

pub out_none : (v : View) (w : VertexId) (o : Option DartId) → IsOut v w o → IfNone o ((d : DartId) → ¬ IsOutOf v w d)
out_none v w None i = i.none refl
out_none v w (Some d) i = tt

-- where darts leave what they left
pub out_kept : (g h : View) → ((e : DartId) → HasDart g e → HasDart h e) → ((e : DartId) → HasDart h e → HasDart g e) → ((e : DartId) → source_in h e ≡ source_in g e) → (w : VertexId) (o : Option DartId) → IsOut g w o → IsOut h w o
out_kept g h has had source w o i = record {
  some = λ d e. (has d (i.some d e).0, source d ∙ (i.some d e).1);
  none = λ e d k. i.none e d (had d k.0, sym (source d) ∙ k.1);
}

-- ---- one more edge
module _ (g h : View) (d m : DartId) (u v : VertexId) (l : Line) (r : IsPairMore g h d m (lone_dart u m l) (lone_dart v d l)) (no_d : ¬ HasDart g d) (no_m : ¬ HasDart g m) where
  old : (w : VertexId) (e : DartId) → IsOutOf g w e → IsOutOf h w e
  old w e k =
      let nd : e ≢ d = λ q. no_d (subst (λ (x : DartId). HasDart g x) q k.0) in
      let nm : e ≢ m = λ q. no_m (subst (λ (x : DartId). HasDart g x) q k.0) in
      ((r.others e nd nm).has k.0, (r.others e nd nm).source ∙ k.1)

  -- what leaves a vertex that is neither end left it before
  apart : (w : VertexId) → w ≢ u → w ≢ v → (e : DartId) → IsOutOf h w e → IsOutOf g w e
  apart w nu nv e k = elim (cases_dart e d) [
    | inl q ↦ absurd (nu (sym k.1 ∙ ap (source_in h) q ∙ r.first.source))
    | inr nd ↦ elim (cases_dart e m) [
      | inl q ↦ absurd (nv (sym k.1 ∙ ap (source_in h) q ∙ r.second.source))
      | inr nm ↦ ((r.others e nd nm).had k.0, sym (r.others e nd nm).source ∙ k.1)
    ]
  ]

  pub more_apart : (w : VertexId) (o : Option DartId) → w ≢ u → w ≢ v → IsOut g w o → IsOut h w o
  more_apart w o nu nv i = record {
    some = λ e q. old w e (i.some e q);
    none = λ q e k. i.none q e (apart w nu nv e k);
  }

  -- an end keeps what it kept, or else its new dart
  given_out : (w : VertexId) (x : DartId) → IsOutOf h w x → (o : Option DartId) → IsOut g w o → IsOut h w (option_or o (Some x))
  given_out w x k None i = record {
    some = λ e q. let z : x ≡ e = cc in subst (λ (y : DartId). IsOutOf h w y) z k;
    none = λ q. absurd (cc);
  }
  given_out w x k (Some y) i = record {
    some = λ e q. old w e (i.some e q);
    none = λ q. absurd (cc);
  }

  pub more_first : (o : Option DartId) → IsOut g u o → IsOut h u (option_or o (Some d))
  more_first o i = given_out u d (r.first.has, r.first.source) o i

  pub more_second : (o : Option DartId) → IsOut g v o → IsOut h v (option_or o (Some m))
  more_second o i = given_out v m (r.second.has, r.second.source) o i

  -- a second offer changes nothing
  offered_twice : (o : Option DartId) (x y : DartId) → option_or (option_or o (Some x)) (Some y) ≡ option_or o (Some x)
  offered_twice None x y = refl
  offered_twice (Some z) x y = refl

  pub more_both : u ≡ v → (o : Option DartId) → IsOut g v o → IsOut h v (option_or (option_or o (Some d)) (Some m))
  more_both q o i = subst (λ (x : Option DartId). IsOut h v x) (sym (offered_twice o d m)) (given_out v d (r.first.has, r.first.source ∙ q) o i)

-- ---- one edge fewer
module _ (g h : View) (d m : DartId) (r : IsPairLess g h d m) (ends : source_in g d ≢ source_in g m) where
  left : (w : VertexId) (e : DartId) → IsOutOf g w e → e ≢ d → e ≢ m → IsOutOf h w e
  left w e k nd nm = ((r.others e nd nm).has k.0, (r.others e nd nm).source ∙ k.1)

  gone_d : (e : DartId) → HasDart h e → e ≢ d
  gone_d e k q = r.first (subst (λ (x : DartId). HasDart h x) q k)

  gone_m : (e : DartId) → HasDart h e → e ≢ m
  gone_m e k q = r.second (subst (λ (x : DartId). HasDart h x) q k)

  before : (w : VertexId) (e : DartId) → IsOutOf h w e → IsOutOf g w e
  before w e k = ((r.others e (gone_d e k.0) (gone_m e k.0)).had k.0, sym (r.others e (gone_d e k.0) (gone_m e k.0)).source ∙ k.1)

  pub less_first : (o : Option DartId) → IsRest g d o → IsOut h (source_in g d) o
  less_first o i = record {
    some = λ e q. left (source_in g d) e (i.some e q).0 (i.some e q).1 (λ z. ends (sym (i.some e q).0.1 ∙ ap (source_in g) z));
    none = λ q e k. gone_d e k.0 (i.none q e (before (source_in g d) e k));
  }

  pub less_second : (o : Option DartId) → IsRest g m o → IsOut h (source_in g m) o
  less_second o i = record {
    some = λ e q. left (source_in g m) e (i.some e q).0 (λ z. ends (ap (source_in g) (sym z) ∙ (i.some e q).0.1)) (i.some e q).1;
    none = λ q e k. gone_m e k.0 (i.none q e (before (source_in g m) e k));
  }

  pub less_apart : (w : VertexId) (o : Option DartId) → w ≢ source_in g d → w ≢ source_in g m → IsOut g w o → IsOut h w o
  less_apart w o nu nv i = record {
    some = λ e q. left w e (i.some e q) (λ z. nu (sym (i.some e q).1 ∙ ap (source_in g) z)) (λ z. nv (sym (i.some e q).1 ∙ ap (source_in g) z));
    none = λ q e k. i.none q e (before w e k);
  }

-- ---- another source
module _ (g h : View) (d : DartId) (w : VertexId) (r : IsSourceSet g h d w) (k : HasDart g d) where
  stays : (x : VertexId) (e : DartId) → IsOutOf g x e → e ≢ d → IsOutOf h x e
  stays x e o nd = (r.has e o.0, (r.others e nd).source ∙ o.1)

  pub moved_from : (rest : DartId) → IsOutOf g (source_in g d) rest → rest ≢ d → IsOut h (source_in g d) (Some rest)
  moved_from rest o nd = record {
    some = λ e q. let z : rest ≡ e = cc in subst (λ (y : DartId). IsOutOf h (source_in g d) y) z (stays (source_in g d) rest o nd);
    none = λ q. absurd (cc);
  }

  pub moved_to : (e : DartId) → IsOutOf g w e → w ≢ source_in g d → (o : Option DartId) → IsOut g w o → IsOut h w o
  moved_to e out nu o i = record {
    some = λ x q. stays w x (i.some x q) (λ z. nu (sym (i.some x q).1 ∙ ap (source_in g) z));
    none = λ q. absurd (i.none q e out);
  }

  pub moved_apart : (x : VertexId) (o : Option DartId) → x ≢ source_in g d → x ≢ w → IsOut g x o → IsOut h x o
  moved_apart x o nu nw i = record {
    some = λ e q. stays x e (i.some e q) (λ z. nu (sym (i.some e q).1 ∙ ap (source_in g) z));
    none = λ q e p. i.none q e (was e p);
  }
    where
      was : (e : DartId) → IsOutOf h x e → IsOutOf g x e
      was e p = elim (cases_dart e d) [
        | inl z ↦ absurd (nw (sym p.1 ∙ ap (source_in h) z ∙ r.source k))
        | inr nd ↦ (r.had e p.0, sym (r.others e nd).source ∙ p.1)
      ]
