-- Edges of a curve, by their ends.
use Rattle.std.proofs.Common.{◌≡◌, ℕ, ◌+◌, ◌<◌, List, [], ◌∷◌, ◌++◌, map, length, get_or, take, refl, sym, ap, ◌∙◌, subst, Result, Ok, Err, inl, inr}
use Rattle.std.specs.Prelude.{◌↔◌, IfOk}
use Rattle.std.specs.List.{AllByRecursion}
use Rattle.std.proofs.lemmas.List.{map-append, take_more}
use Rattle.exact_plane.specs.Point.{Point}
use Rattle.plane_graphs.specs.Ascending.{Member, IsAscending}
use Rattle.plane_graphs.specs.Graph.{Edge, edge_cmp}
use Rattle.plane_graphs.proofs.Lists.{in_map, of_map}
use Rattle.slab_laws.specs.declared.names.DartId.{DartId}
use Rattle.slab_laws.specs.Sound.{edge_in}
use Rattle.slab_laws.specs.View.{View, point_in, source_in, target_in}
use Rattle.arr_notes.specs.Curves.{IsForward}
use Rattle.record_orders.specs.declared.darts.DartKey.{DartKey}
use Rattle.record_orders.specs.Keys.{dart_key}
use Rattle.record_orders.specs.Edges.{edge_of, edge_of_key}
use Rattle.record_orders.proofs.EdgeEnds.{ahead}

pub if_ok : {T E : Type 0} → (r : Result T E) (P Q : T → Type 0) → ((x : T) → P x → Q x) → IfOk r P → IfOk r Q
if_ok (Ok x) P Q f h = f x h
if_ok (Err e) P Q f h = tt

abbrev pub two : DartKey → Point × Point
two k = (k.source, k.target)

-- the ends of one more edge are told
pub one_more_edge : (ks : List DartKey) (us next : List (Point × Point)) (i : ℕ) (k : DartKey) → i < length ks → k ≡ get_or ks i k → us ≡ map two (take i ks) → next ≡ us ++ (two k ∷ []) → next ≡ map two (take (i + 1) ks)
one_more_edge ks us next i k l e h n =
    n
    ∙ ap (λ (es : List (Point × Point)). es ++ (two k ∷ [])) h
    ∙ sym (map-append two (take i ks) (k ∷ []))
    ∙ ap (map two) (ap (λ (x : DartKey). take i ks ++ (x ∷ [])) e ∙ sym (take_more ks i k l))

same_edges : (ks : List DartKey) → map edge_of (map two ks) ≡ map edge_of_key ks
same_edges [] = refl
same_edges (k ∷ ks) = ap (λ (es : List Edge). edge_of_key k ∷ es) (same_edges ks)

module _ (v : View) where
  key_is : (ks : List DartKey) → AllByRecursion (λ k. k ≡ dart_key v k.name) ks → (k : DartKey) → Member k ks → k ≡ dart_key v k.name
  key_is [] a k m = absurd m
  key_is (x ∷ ks) a k (inl e) = subst (λ (z : DartKey). z ≡ dart_key v z.name) (sym e) a.0
  key_is (x ∷ ks) a k (inr m) = key_is ks a.1 k m

  forward_is : (ds : List DartId) → AllByRecursion (λ d. IsForward v d) ds → (d : DartId) → Member d ds → IsForward v d
  forward_is [] f d m = absurd m
  forward_is (x ∷ ds) f d (inl e) = subst (IsForward v) (sym e) f.0
  forward_is (x ∷ ds) f d (inr m) = forward_is ds f.1 d m

  module _ (ks : List DartKey) (ds : List DartId) (forward : AllByRecursion (λ d. IsForward v d) ds) (keys : AllByRecursion (λ k. k ≡ dart_key v k.name) ks) (names : (d : DartId) → Member d (map (λ (k : DartKey). k.name) ks) ↔ Member d ds) where
    there : (k : DartKey) → Member k ks → Member k.name ds
    there k m = (names k.name).0 (in_map (λ (k : DartKey). k.name) k ks m)

    its_edge : (k : DartKey) → Member k ks → edge_of_key k ≡ edge_in v k.name
    its_edge k m = ap edge_of_key (key_is ks keys k m) ∙ sym (ahead (point_in v (source_in v k.name)) (point_in v (target_in v k.name)) (forward_is ds forward k.name (there k m)).1)

    key_edges : (e : Edge) → Member e (map edge_of_key ks) ↔ Member e (map (edge_in v) ds)
    key_edges e = (
      λ m.
          let k = of_map edge_of_key e ks m in
          subst (λ z. Member z (map (edge_in v) ds)) (sym (k.2 ∙ its_edge k.0 k.1)) (in_map (edge_in v) k.0.name ds (there k.0 k.1)),
      λ m.
          let d = of_map (edge_in v) e ds m in
          let k = of_map (λ (k : DartKey). k.name) d.0 ks ((names d.0).1 d.1) in
          subst (λ z. Member z (map edge_of_key ks)) (its_edge k.0 k.1 ∙ ap (edge_in v) (sym k.2) ∙ sym d.2) (in_map edge_of_key k.0 ks k.1),
    )

    module _ (us : List (Point × Point)) (is : us ≡ map two ks) where
      same : map edge_of us ≡ map edge_of_key ks
      same = ap (map edge_of) is ∙ same_edges ks

      pub edges_are : (e : Edge) → Member e (map edge_of us) ↔ Member e (map (edge_in v) ds)
      edges_are e = subst (λ (es : List Edge). Member e es ↔ Member e (map (edge_in v) ds)) (sym same) (key_edges e)

pub edges_ascend : (ks : List DartKey) (us : List (Point × Point)) → us ≡ map two ks → IsAscending edge_cmp (map edge_of_key ks) → IsAscending edge_cmp (map edge_of us)
edges_ascend ks us is a = subst (λ (es : List Edge). IsAscending edge_cmp es) (sym (ap (map edge_of) is ∙ same_edges ks)) a
